-- The items of a file hold behind other files.
use Rattle.std.specs.Prelude.{◌≡◌, ◌⊎◌, ℕ, ◌+◌, ◌≤◌, List, [], ◌∷◌, ◌++◌, Option, Some, None, Bool, true, false, nat_eq, is_some, ◌||◌, if◌then◌else◌}
use Rattle.std.proofs.Common.{refl, sym, ap, ◌∙◌, subst, inl, inr, arith}
use Rattle.std.specs.Str.{bytes_eq}
use Rattle.rc_syntax.specs.declared.tree.Spot.{Spot}
use Rattle.rc_syntax.specs.declared.tree.Name.{Name}
use Rattle.rc_syntax.specs.declared.tree.Note.{Note as WrittenNote}
use Rattle.rc_syntax.specs.declared.tree.Base.{Base}
use Rattle.rc_syntax.specs.declared.tree.Base.TheVariants as base
use Rattle.rc_syntax.specs.Tree as t
use Rattle.rc_deletes.specs.Judged.{Holds, with_part}
use Rattle.rc_deletes.specs.Kinds.{place_of}
use Rattle.rc_deletes.specs.Scopes.{Context, struct_names, meaning_in}
use Rattle.rc_deletes.specs.Expressions.{base_rule, found}
use Rattle.rc_deletes.specs.Items.{is_among, names_of, Definition, Outside, with_structs, behind_item, behind_items, is_defined_before, value_base, cell_type, is_plain, same_struct, global_by_value, shared_rule, before_globals, once, made_both, item, items, with_definition}
use Rattle.rc_deletes.proofs.Naming.{same_name}
use Rattle.rc_linking.specs.Moved.{moved_spot, moved_base, moved_items}
use Rattle.rc_linking.specs.Joined.{structs_of, without}
use Rattle.rc_linking.proofs.Values.{both_true}
use Rattle.rc_linking.proofs.Expressions.{Agree}
use Rattle.rc_linking.proofs.Names.{Names, Stands, struct_before, next_stands, names_with, among_new}
use Rattle.rc_linking.proofs.Params.{IsHeld, held_first, held_second, held_front, base_value, value_if}
use Rattle.rc_linked_files.proofs.Items.{or_left, not_more}

pub grows : (context : Context) (o : Outside) (is : List t.Item) → o.cells ≤ (behind_items context o is).cells
grows context o [] = omega arith
grows context o (t.struct at name fields ∷ is) = grows context (behind_item context o (t.struct at name fields)) is
grows context o (t.global at ty name count c ∷ is) = let k = grows context (behind_item context o (t.global at ty name count c)) is in omega (arith, k)
grows context o (t.function at deletes result name params None ∷ is) = grows context (behind_item context o (t.function at deletes result name params None)) is
grows context o (t.function at deletes result name params (Some body) ∷ is) = grows context (behind_item context o (t.function at deletes result name params (Some body))) is

pub at_most : (a b m : ℕ) → a ≤ b → b ≤ m → a ≤ m
at_most a b m h k = omega arith

-- functions alone
abbrev pub AreFunctions : List t.Item → Type 0
AreFunctions [] = Unit {0}
AreFunctions (t.function at deletes result name params body ∷ is) = AreFunctions is
AreFunctions (i ∷ is) = ⊥

pub no_structs : (ds : List Definition) (is : List t.Item) → AreFunctions is → with_structs ds is ≡ ds
no_structs ds [] h = refl
no_structs ds (t.function at deletes result name params body ∷ is) h = no_structs ds is h
no_structs ds (t.struct at name fields ∷ is) h = absurd h
no_structs ds (t.global at ty name count c ∷ is) h = absurd h

or_which : (a b : Bool) → a || b ≡ true → (a ≡ true) ⊎ (b ≡ true)
or_which true b h = inl refl
or_which false b h = inr h

or_right : (a b : Bool) → a ≡ true → a || b ≡ true
or_right true b h = refl
or_right false b h = not_more h

same_other : (n : ℕ) (at : Spot) (name : Name) (b : Base) → same_struct (moved_base n (base.Struct at name)) (moved_base n b) ≡ true → (y : Spot) × (other : Name) × (b ≡ base.Struct y other) × (other.text ≡ name.text)
same_other n at name (base.Struct y other) h =
    let q = both_true (nat_eq (name.spot.place + n) (other.spot.place + n)) (bytes_eq name.text other.text) h in
    (y, other, refl, sym (same_name name.text other.text q.1))
same_other n at name (base.Int y) h = not_more h
same_other n at name (base.Unsigned y) h = not_more h
same_other n at name (base.Char y) h = not_more h
same_other n at name (base.Region y) h = not_more h

module _ (n : ℕ) (file all : Context) (ren : ℕ → ℕ) (agree : Agree file all ren) (earlier stubs : List t.Item) (functions : AreFunctions stubs) where
  abbrev pub kept : List t.Item → List t.Item
  kept is = moved_items n (without (structs_of earlier) is)

  pub item_of : (o : Outside) (i : t.Item) (is : List t.Item) → IsHeld (items file o (i ∷ is)) → IsHeld (item file o i) × IsHeld (items file (behind_item file o i) is)
  item_of o i is h =
      let q = (held_front (before_globals file o.structs (i ∷ is)) _ h).1 in
      (held_first (item file o i) (items file (behind_item file o i) is) (λ a b. Holds (made_both a b)) q, held_second (item file o i) (items file (behind_item file o i) is) (λ a b. Holds (made_both a b)) q)

  -- a struct that a global names by value, here or by the name that it shares, is there
  plain_by : (o : Outside) (ds : List Definition) (ns : Names) (rest : List t.Item) (at : Spot) (name : Name) (b : Base) (stars : List WrittenNote) → Stands file o ds ns rest → same_struct (moved_base n (base.Struct at name)) (moved_base n b) ≡ true → is_plain (record { base = b; stars = stars }) ≡ true → IsHeld (cell_type file o.structs (record { base = b; stars = stars })) → is_among (names_of ds) name.text ≡ true
  plain_by o ds ns rest at name b [] here s e h =
      let q = same_other n at name b s in
      let held : IsHeld (value_base file o.structs (base.Struct q.0 q.1)) = subst (λ x. IsHeld (value_base file o.structs x)) q.2 h in
      ap (is_among (names_of ds)) (sym q.3) ∙ sym (struct_before file o ds ns rest here q.1.text) ∙ base_value (is_defined_before o.structs (place_of (struct_names file) q.1.text)) q.1.spot held
  plain_by o ds ns rest at name b (m ∷ ms) here s e h = not_more e

  or_add : (a b c : Bool) → (c ≡ true → a ≡ true) → a || (b || c) ≡ true → a || b ≡ true
  or_add true b c h e = refl
  or_add false true c h e = refl
  or_add false false c h e = h e

  module _ (at : Spot) (name : Name) (later : List t.Item) (k : ℕ) (placed : place_of (struct_names file) name.text ≡ Some k) where
    run : (is : List t.Item) (o : Outside) (ds : List Definition) (ns : Names) → Stands file o ds ns (is ++ stubs) → IsHeld (items file o (is ++ stubs)) → global_by_value (moved_base n (base.Struct at name)) (kept is ++ later) ≡ true → is_among (structs_of earlier) name.text || is_among (names_of ds) name.text ≡ true
    run [] o ds ns here h e = or_left (is_among (structs_of earlier) name.text) (is_among (names_of ds) name.text) (ap (λ x. is_some (place_of x name.text)) (sym (here.all_structs ∙ ap names_of (no_structs ds stubs functions))) ∙ ap is_some placed)
    run (t.global x ty other count c ∷ is) o ds ns here h e =
        let i = t.global x ty other count c in
        let parts = item_of o i (is ++ stubs) h in
        let q = both_true (same_struct (moved_base n (base.Struct at name)) (moved_base n ty.base)) (is_plain ty || global_by_value (moved_base n (base.Struct at name)) (kept is ++ later)) e in
        which q.0 parts.0 (run is (behind_item file o i) ds ns (next_stands file o ds ns i (is ++ stubs) here) parts.1) (or_which (is_plain ty) (global_by_value (moved_base n (base.Struct at name)) (kept is ++ later)) q.1) where
          which : same_struct (moved_base n (base.Struct at name)) (moved_base n ty.base) ≡ true → IsHeld (item file o (t.global x ty other count c)) → (global_by_value (moved_base n (base.Struct at name)) (kept is ++ later) ≡ true → is_among (structs_of earlier) name.text || is_among (names_of ds) name.text ≡ true) → (is_plain ty ≡ true) ⊎ (global_by_value (moved_base n (base.Struct at name)) (kept is ++ later) ≡ true) → is_among (structs_of earlier) name.text || is_among (names_of ds) name.text ≡ true
          which same held more (inl plain) = or_left (is_among (structs_of earlier) name.text) (is_among (names_of ds) name.text) (plain_by o ds ns (t.global x ty other count c ∷ (is ++ stubs)) at name ty.base ty.stars here same plain (held_first (cell_type file o.structs ty) (once other (is_some (meaning_in o.names other.text))) _ held))
          which same held more (inr r) = more r
    run (t.function x deletes result other params body ∷ is) o ds ns here h e = not_more e
    run (t.struct x other fields ∷ is) o ds ns here h e =
        let i = t.struct x other fields in
        by (run is (behind_item file o i) (with_definition ds (other.text, fields)) ns (next_stands file o ds ns i (is ++ stubs) here) (item_of o i (is ++ stubs) h).1) (is_among (structs_of earlier) other.text) refl e where
          by : (global_by_value (moved_base n (base.Struct at name)) (kept is ++ later) ≡ true → is_among (structs_of earlier) name.text || is_among (names_of (with_definition ds (other.text, fields))) name.text ≡ true) → (b : Bool) → is_among (structs_of earlier) other.text ≡ b → global_by_value (moved_base n (base.Struct at name)) (moved_items n (if b then without (structs_of earlier) is else t.struct x other fields ∷ without (structs_of earlier) is) ++ later) ≡ true → is_among (structs_of earlier) name.text || is_among (names_of ds) name.text ≡ true
          by more false r e = not_more e
          by more true r e =
              or_add (is_among (structs_of earlier) name.text) (is_among (names_of ds) name.text) (bytes_eq name.text other.text) (λ s. ap (is_among (structs_of earlier)) (same_name name.text other.text s) ∙ r)
              (ap (λ z. is_among (structs_of earlier) name.text || z) (sym (ap (λ z. is_among z name.text) (names_with ds (other.text, fields)) ∙ among_new (names_of ds) other.text name.text)) ∙ more e)

  -- what is read before globals holds behind other files
  module _ (o p : Outside) (ds es : List Definition) (ns ms : Names) (is rest later others : List t.Item) (here_after : Stands file o ds ns (is ++ stubs)) (rest_held : IsHeld (items file o (is ++ stubs))) (there : Stands all p es ms others) (sets : (x : List ℕ) → is_among (names_of es) x ≡ is_among (structs_of earlier) x || is_among (names_of ds) x) where
    base_found : (at : Spot) (name : Name) (q : Option ℕ) → place_of (struct_names file) name.text ≡ q → IsHeld (base_rule file (base.Struct at name)) → (k : ℕ) × (place_of (struct_names file) name.text ≡ Some k)
    base_found at name (Some k) e h = (k, e)
    base_found at name None e h = absurd (subst (λ x. IsHeld {A = Unit {0}} (with_part (found name.spot x) (λ k. Holds tt))) e h)

    pub front_there : (b : Base) → IsHeld (base_rule file b) → IsHeld (shared_rule all p.structs (moved_base n b) (global_by_value (moved_base n b) (kept is ++ later)))
    front_there b h = by b (global_by_value (moved_base n b) (kept is ++ later)) refl h where
      by : (b : Base) (c : Bool) → global_by_value (moved_base n b) (kept is ++ later) ≡ c → IsHeld (base_rule file b) → IsHeld (shared_rule all p.structs (moved_base n b) c)
      by b false e h = tt
      by (base.Int x) true e h = tt
      by (base.Unsigned x) true e h = tt
      by (base.Char x) true e h = tt
      by (base.Region x) true e h = tt
      by (base.Struct x name) true e h =
          let found = base_found x name (place_of (struct_names file) name.text) refl h in
          value_if (is_defined_before p.structs (place_of (struct_names all) name.text)) (moved_spot n name.spot)
          (struct_before all p es ms others there name.text ∙ sets name.text ∙ run x name later found.0 found.1 is o ds ns here_after rest_held e)
