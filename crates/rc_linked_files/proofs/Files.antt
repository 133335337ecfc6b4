-- The items of files hold behind one another.
use Rattle.std.specs.Prelude.{◌≡◌, ℕ, ◌≤◌, List, [], ◌∷◌, ◌++◌, Some, None, Bool, true, false, is_some, map, if◌then◌else◌}
use Rattle.std.proofs.Common.{refl, sym, ap, ◌∙◌, subst, inl, inr}
use Rattle.std.specs.Str.{bytes_eq}
use Rattle.rc_syntax.specs.declared.tree.Spot.{Spot}
use Rattle.rc_syntax.specs.declared.tree.Name.{Name}
use Rattle.rc_syntax.specs.declared.tree.Note.{Note as WrittenNote}
use Rattle.rc_syntax.specs.declared.tree.Base.{Base}
use Rattle.rc_syntax.specs.declared.tree.Base.TheVariants as base
use Rattle.rc_syntax.specs.Tree as t
use Rattle.rc_deletes.specs.Judged.{Holds, with_part}
use Rattle.rc_deletes.specs.Kinds.{place_of}
use Rattle.rc_deletes.specs.Scopes.{Context, struct_names, meaning_in}
use Rattle.rc_deletes.specs.Expressions.{base_rule, found}
use Rattle.rc_deletes.specs.Items.{is_among, names_of, Definition, Outside, with_struct, with_structs, with_function_name, with_functions, behind_item, behind_items, is_defined_before, cell_type, before_globals, once, made_both, head_rule, item, items, with_new, with_definition}
use Rattle.rc_deletes.proofs.Naming.{own_name}
use Rattle.rc_linking.specs.Calls.{calls_in_body, calls_in_items}
use Rattle.rc_linking.specs.Moved.{moved_field, moved_item, moved_items}
use Rattle.rc_linking.specs.Joined.{structs_of, without}
use Rattle.rc_linking.proofs.Calls.{every_left, every_right}
use Rattle.rc_linking.proofs.Expressions.{Agree, Callable}
use Rattle.rc_linking.proofs.Statements.{AreCallable}
use Rattle.rc_linking.proofs.Names.{Names, Stands, struct_before, next_stands, names_with, among_new}
use Rattle.rc_linking.proofs.Scopes.{IsIn, IsApart, Related}
use Rattle.rc_linking.proofs.Params.{IsHeld, held_first, held_part, held_parts, front_held, base_value, number_there}
use Rattle.rc_linked_files.proofs.Items.{or_left, own_related, defined_related, prototype_held, definition_held}
use Rattle.rc_linked_files.proofs.Globals.{global_held, global_related, struct_held, kept_related, dropped_related}
use Rattle.rc_deletes.specs.PlacedFaults as placed
use Rattle.rc_linking.proofs.Placed.{none_both, both_none}
use Rattle.rc_linked_files.proofs.PlacedItems.{prototype_placed, definition_placed}
use Rattle.rc_linked_files.proofs.Fronts.{grows, at_most, AreFunctions, kept, item_of, front_there}

module _ (n : ℕ) (file all : Context) (ren : ℕ → ℕ) (agree : Agree file all ren) (earlier stubs : List t.Item) (functions : AreFunctions stubs) where
  -- behind these items of the file, where these stand behind other files
  pub record Ends (is js later : List t.Item) (o p : Outside) (ds es : List Definition) (ns ms : Names) : Type 0 where
    pub there : Stands all (behind_items all p js) (with_structs es js) (with_functions ms js) later
    pub related : Related file all ren earlier (behind_items file o is).names (behind_items all p js).names (names_of (with_structs ds is)) (names_of (with_structs es js)) (with_functions ns is) (with_functions ms js)
    pub held : IsHeld (items all (behind_items all p js) later) → IsHeld (items all p (js ++ later))
    pub in_place : placed.items file o (is ++ stubs) ≡ [] → placed.items all (behind_items all p js) later ≡ [] → placed.items all p (js ++ later) ≡ []

  one_more : (context : Context) (p : Outside) (j : t.Item) (js : List t.Item) → IsHeld (before_globals context p.structs (j ∷ js)) → IsHeld (item context p j) → IsHeld (items context (behind_item context p j) js) → IsHeld (items context p (j ∷ js))
  one_more context p j js f h k = front_held (before_globals context p.structs (j ∷ js)) _ f (held_parts (item context p j) (items context (behind_item context p j) js) (λ a b. Holds (made_both a b)) h k (λ a b. tt))

  -- with one more item before them
  ends_more : (i j : t.Item) (is js later : List t.Item) (o p : Outside) (ds es : List Definition) (ns ms : Names) → Ends is js later (behind_item file o i) (behind_item all p j) (with_struct ds i) (with_struct es j) (with_function_name ns i) (with_function_name ms j) → IsHeld (before_globals all p.structs (j ∷ (js ++ later))) → IsHeld (item all p j) → (placed.item file o i ≡ [] → placed.item all p j ≡ []) → Ends (i ∷ is) (j ∷ js) later o p ds es ns ms
  ends_more i j is js later o p ds es ns ms e f h g = record {
    there = e.there;
    related = e.related;
    held = λ k. one_more all p j (js ++ later) f h (e.held k);
    in_place = λ k l. let q = none_both (placed.item file o i) (placed.items file (behind_item file o i) (is ++ stubs)) k in both_none (placed.item all p j) (placed.items all (behind_item all p j) (js ++ later)) (g q.0) (e.in_place q.1 l);
  }

  base_of_cell : (context : Context) (k : ℕ) (b : Base) (stars : List WrittenNote) → IsHeld (cell_type context k (record { base = b; stars = stars })) → IsHeld (base_rule context b)
  base_of_cell context k b (m ∷ ms) h = h
  base_of_cell context k (base.Int x) [] h = tt
  base_of_cell context k (base.Unsigned x) [] h = tt
  base_of_cell context k (base.Char x) [] h = tt
  base_of_cell context k (base.Region x) [] h = tt
  base_of_cell context k (base.Struct x name) [] h =
      let q = number_there k (place_of (struct_names context) name.text) (base_value (is_defined_before k (place_of (struct_names context) name.text)) name.spot h) in
      subst (λ o. IsHeld {A = Unit {0}} (with_part (found name.spot o) (λ k. Holds tt))) (sym q.1) tt

  abbrev Calls : List t.Item → Type 0
  Calls is = AreCallable n file all ren agree (calls_in_items is)

  abbrev Kept : List t.Item → List t.Item
  Kept is = kept n file all ren agree earlier stubs functions is

  struct_placed : (o : Outside) (ds : List Definition) (ns : Names) (at : Spot) (name : Name) (fields : List t.Field) (rest : List t.Item) → Stands file o ds ns (t.struct at name fields ∷ rest) → (k : ℕ) × (place_of (struct_names file) name.text ≡ Some k)
  struct_placed o ds ns at name fields rest here =
      let next = next_stands file o ds ns (t.struct at name fields) rest here in
      let before = struct_before file (behind_item file o (t.struct at name fields)) (with_definition ds (name.text, fields)) ns rest next name.text in
      let among : is_among (names_of (with_definition ds (name.text, fields))) name.text ≡ true = ap (λ z. is_among z name.text) (names_with ds (name.text, fields)) ∙ among_new (names_of ds) name.text name.text ∙ or_left (is_among (names_of ds) name.text) (bytes_eq name.text name.text) (own_name name.text) in
      number_there (behind_item file o (t.struct at name fields)).structs (place_of (struct_names file) name.text) (before ∙ among)

  struct_ends : (at : Spot) (name : Name) (fields : List t.Field) (is later : List t.Item) (o p : Outside) (ds es : List Definition) (ns ms : Names) (b : Bool) → is_among (structs_of earlier) name.text ≡ b →
      let i = t.struct at name fields in
      let js = moved_items n (if b then without (structs_of earlier) is else i ∷ without (structs_of earlier) is) in
      Stands file o ds ns (i ∷ (is ++ stubs)) → Stands all p es ms (js ++ later) → Related file all ren earlier o.names p.names (names_of ds) (names_of es) ns ms → (behind_items all p js).cells ≤ 1048576 → IsHeld (item file o i) →
      ((q : Outside) (fs : List Definition) → Stands all q fs ms (Kept is ++ later) → Related file all ren earlier o.names q.names (names_of (with_definition ds (name.text, fields))) (names_of fs) ns ms → (behind_items all q (Kept is)).cells ≤ 1048576 → Ends is (Kept is) later (behind_item file o i) q (with_definition ds (name.text, fields)) fs ns ms) →
      Ends (i ∷ is) js later o p ds es ns ms
  struct_ends at name fields is later o p ds es ns ms true e here there related few h rest =
      let q = rest p es there (dropped_related n file all ren agree earlier o p ds es ns ms (t.struct at name fields ∷ (is ++ stubs)) (Kept is ++ later) here there related name fields e) few in
      record { there = q.there; related = q.related; held = q.held; in_place = q.in_place }
  struct_ends at name fields is later o p ds es ns ms false e here there related few h rest =
      let i = t.struct at name fields in
      let j = moved_item n i in
      let spot_of = struct_placed o ds ns at name fields (is ++ stubs) here in
      ends_more i j is (Kept is) later o p ds es ns ms
      (rest (behind_item all p j) (with_definition es (name.text, map (moved_field n) fields)) (next_stands all p es ms j (Kept is ++ later) there)
      (kept_related n file all ren agree earlier o p ds es ns ms (i ∷ (is ++ stubs)) (j ∷ (Kept is ++ later)) here there related name fields (map (moved_field n) fields)) few)
      tt
      (struct_held n file all ren agree earlier o p ds es ns ms (i ∷ (is ++ stubs)) (j ∷ (Kept is ++ later)) here there related at name fields h spot_of.0 spot_of.1 e)
      (λ k. refl)

  pub file_ends : (is later : List t.Item) (o p : Outside) (ds es : List Definition) (ns ms : Names) → Stands file o ds ns (is ++ stubs) → Stands all p es ms (Kept is ++ later) → Related file all ren earlier o.names p.names (names_of ds) (names_of es) ns ms → ((j : t.Item) → IsIn j is → IsApart earlier j) → Calls is → (behind_items all p (Kept is)).cells ≤ 1048576 → IsHeld (items file o (is ++ stubs)) → Ends is (Kept is) later o p ds es ns ms
  file_ends [] later o p ds es ns ms here there related apart calls few h = record { there = there; related = related; held = λ k. k; in_place = λ k l. l }
  file_ends (t.global at ty name count c ∷ is) later o p ds es ns ms here there related apart calls few h =
      let i = t.global at ty name count c in
      let j = moved_item n i in
      let parts = item_of n file all ren agree earlier stubs functions o i (is ++ stubs) h in
      let own = apart i (inl refl) in
      let small_now = at_most (behind_item all p j).cells (behind_items all (behind_item all p j) (Kept is)).cells 1048576 (grows all (behind_item all p j) (Kept is)) few in
      let after = next_stands file o ds ns i (is ++ stubs) here in
      let there_after = next_stands all p es ms j (Kept is ++ later) there in
      let based = base_of_cell file o.structs ty.base ty.stars (held_first (cell_type file o.structs ty) (once name (is_some (meaning_in o.names name.text))) _ parts.0) in
      ends_more i j is (Kept is) later o p ds es ns ms
      (file_ends is later (behind_item file o i) (behind_item all p j) ds es ns ms after there_after
      (global_related n file all ren agree earlier o p ds es ns ms (i ∷ (is ++ stubs)) (j ∷ (Kept is ++ later)) here there related at ty name count c own parts.0)
      (λ x m. apart x (inr m)) calls few parts.1)
      (front_there n file all ren agree earlier stubs functions (behind_item file o i) p ds es ns ms is (is ++ stubs) later (j ∷ (Kept is ++ later)) after parts.1 there
      related.structs ty.base based)
      (global_held n file all ren agree earlier o p ds es ns ms (i ∷ (is ++ stubs)) (j ∷ (Kept is ++ later)) here there related at ty name count c own parts.0 small_now)
      (λ k. refl)
  file_ends (t.function at deletes result name params None ∷ is) later o p ds es ns ms here there related apart calls few h =
      let i = t.function at deletes result name params None in
      let j = moved_item n i in
      let parts = item_of n file all ren agree earlier stubs functions o i (is ++ stubs) h in
      let own = apart i (inl refl) in
      let head = held_part (head_rule file o false deletes result name params) _ parts.0 in
      ends_more i j is (Kept is) later o p ds es ns ms
      (file_ends is later (behind_item file o i) (behind_item all p j) ds es ns ms (next_stands file o ds ns i (is ++ stubs) here) (next_stands all p es ms j (Kept is ++ later) there)
      (own_related n file all ren agree earlier o p ds es ns ms (i ∷ (is ++ stubs)) (j ∷ (Kept is ++ later)) here there related at deletes result name params None own false head)
      (λ x m. apart x (inr m)) calls few parts.1)
      tt
      (prototype_held n file all ren agree earlier o p ds es ns ms (i ∷ (is ++ stubs)) (j ∷ (Kept is ++ later)) here there related at deletes result name params own parts.0)
      (prototype_placed n file all ren agree earlier o p ds es ns ms (i ∷ (is ++ stubs)) (j ∷ (Kept is ++ later)) here there related at deletes result name params)
  file_ends (t.function at deletes result name params (Some body) ∷ is) later o p ds es ns ms here there related apart calls few h =
      let i = t.function at deletes result name params (Some body) in
      let j = moved_item n i in
      let parts = item_of n file all ren agree earlier stubs functions o i (is ++ stubs) h in
      let own = apart i (inl refl) in
      let head = held_first (head_rule file o true deletes result name params) _ _ parts.0 in
      ends_more i j is (Kept is) later o p ds es ns ms
      (file_ends is later (behind_item file o i) (behind_item all p j) ds es (with_new ns name.text) (with_new ms name.text) (next_stands file o ds ns i (is ++ stubs) here) (next_stands all p es ms j (Kept is ++ later) there)
      (defined_related n file all ren agree earlier o p ds es ns ms (i ∷ (is ++ stubs)) (j ∷ (Kept is ++ later)) here there related at deletes result name params (Some body) own head)
      (λ x m. apart x (inr m)) (every_right (Callable n file all ren agree) (calls_in_body (Some body)) (calls_in_items is) calls) few parts.1)
      tt
      (definition_held n file all ren agree earlier o p ds es ns ms (i ∷ (is ++ stubs)) (j ∷ (Kept is ++ later)) here there related at deletes result name params body own (every_left (Callable n file all ren agree) (calls_in_body (Some body)) (calls_in_items is) calls) parts.0)
      (definition_placed n file all ren agree earlier o p ds es ns ms (i ∷ (is ++ stubs)) (j ∷ (Kept is ++ later)) here there related at deletes result name params body own (every_left (Callable n file all ren agree) (calls_in_body (Some body)) (calls_in_items is) calls) parts.0)
  file_ends (t.struct at name fields ∷ is) later o p ds es ns ms here there related apart calls few h =
      let i = t.struct at name fields in
      let parts = item_of n file all ren agree earlier stubs functions o i (is ++ stubs) h in
      struct_ends at name fields is later o p ds es ns ms (is_among (structs_of earlier) name.text) refl here there related few parts.0
      (λ q fs there_after related_after few_after. file_ends is later (behind_item file o i) q (with_definition ds (name.text, fields)) fs ns ms (next_stands file o ds ns i (is ++ stubs) here) there_after related_after (λ x m. apart x (inr m)) calls few_after parts.1)
