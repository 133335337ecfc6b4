-- Structs and globals that hold in their file hold behind other files.
use Rattle.std.specs.Prelude.{◌≡◌, ℕ, ◌+◌, ◌≤◌, List, [], ◌∷◌, ◌++◌, Option, Some, None, Bool, true, false, nat_lt, is_some, is_none, ◌&&◌, ◌||◌, map, if◌then◌else◌}
use Rattle.std.proofs.Common.{refl, sym, ap, ◌∙◌, subst, arith}
use Rattle.std.proofs.lemmas.Bool.Decides.{nat_tests}
use Rattle.std.specs.Str.{bytes_eq}
use Rattle.rc_syntax.specs.declared.tree.Spot.{Spot}
use Rattle.rc_syntax.specs.declared.tree.Name.{Name}
use Rattle.rc_syntax.specs.declared.tree.Note.{Note as WrittenNote}
use Rattle.rc_syntax.specs.declared.tree.Base.{Base}
use Rattle.rc_syntax.specs.declared.tree.Base.TheVariants as base
use Rattle.rc_syntax.specs.declared.tree.Constant.{Constant}
use Rattle.rc_syntax.specs.Tree as t
use Rattle.rc_core.specs.Types.{struct}
use Rattle.rc_core.specs.Layout.{size}
use Rattle.rc_deletes.specs.declared.fault.Refusal.TheVariants.{Unknown, Mistyped, TooBig}
use Rattle.rc_deletes.specs.Judged.{Holds, fails, failing}
use Rattle.rc_deletes.specs.Kinds.{place_of, written_type}
use Rattle.rc_deletes.specs.Scopes.{Context, struct_names, structs_in, Meaning, a_global, meaning_in}
use Rattle.rc_deletes.specs.Expressions.{base_rule}
use Rattle.rc_deletes.specs.Items.{is_among, names_of, Definition, Outside, behind_item, is_defined_before, cells_of_global, value_base, cell_type, is_plain, same_struct, field_by_value, shared_rule, before_fields, is_empty, once, field_rule, fields_rule, cells_of_struct, initial_of, nothing_made, item, with_definition}
use Rattle.rc_deletes.proofs.Naming.{same_name}
use Rattle.rc_linking.specs.Moved.{moved_spot, moved_name, moved_base, moved_type, moved_field, moved_item}
use Rattle.rc_linking.specs.Joined.{structs_of}
use Rattle.rc_linking.proofs.Sim.{Sim, Any, sim_parts, sim_more, sim_ruled}
use Rattle.rc_linking.proofs.Calls.{none_failing, not_failing, no_refusal, no_refusals, neither, Found}
use Rattle.rc_linking.proofs.Expressions.{Agree, BaseIs, base_sim, TypeIs, type_is, base_same}
use Rattle.rc_linking.proofs.Names.{Names, Stands, struct_before, names_with, among_new}
use Rattle.rc_linking.proofs.Scopes.{known_or, IsApart, Related, related_with, not_declared}
use Rattle.rc_linking.proofs.Params.{IsHeld, sim_held, sim_gives, held_first, held_second, held_parts, is_small, once_sim, not_once, number_there, initial_sim, front_sim}
use Rattle.rc_linked_files.proofs.Items.{or_left, or_none, no_more, not_more, ruled_none, none_ruled, held_third, moved_less}

same_moved : (n : ℕ) (a b : Base) → same_struct (moved_base n a) (moved_base n b) ≡ same_struct a b
same_moved n (base.Struct x name) (base.Struct y other) = ap (λ z. z && bytes_eq name.text other.text) (moved_less name.spot.place other.spot.place n)
same_moved n (base.Struct x name) (base.Int y) = refl
same_moved n (base.Struct x name) (base.Unsigned y) = refl
same_moved n (base.Struct x name) (base.Char y) = refl
same_moved n (base.Struct x name) (base.Region y) = refl
same_moved n (base.Int x) b = refl
same_moved n (base.Unsigned x) b = refl
same_moved n (base.Char x) b = refl
same_moved n (base.Region x) b = refl

pub by_value_moved : (n : ℕ) (b : Base) (fs : List t.Field) → field_by_value (moved_base n b) (map (moved_field n) fs) ≡ field_by_value b fs
by_value_moved n b [] = refl
by_value_moved n b (f ∷ fs) = ap (λ z. z && (is_plain f.type_name || field_by_value (moved_base n b) (map (moved_field n) fs))) (same_moved n b f.type_name.base) ∙ ap (λ z. same_struct b f.type_name.base && (is_plain f.type_name || z)) (by_value_moved n b fs)

module _ (n : ℕ) (file all : Context) (ren : ℕ → ℕ) (agree : Agree file all ren) (earlier : List t.Item) where
  module _ (o p : Outside) (ds es : List Definition) (ns ms : Names) (rest others : List t.Item) (here : Stands file o ds ns rest) (there : Stands all p es ms others) (related : Related file all ren earlier o.names p.names (names_of ds) (names_of es) ns ms) where
    pub struct_there : (name : List ℕ) → is_among (structs_of earlier) name || is_among (names_of ds) name ≡ true → is_defined_before p.structs (place_of (struct_names all) name) ≡ true
    struct_there name h = struct_before all p es ms others there name ∙ related.structs name ∙ h

    struct_kept : (name : List ℕ) → is_defined_before o.structs (place_of (struct_names file) name) ≡ true → is_defined_before p.structs (place_of (struct_names all) name) ≡ true
    struct_kept name h = struct_there name (or_left (is_among (structs_of earlier) name) (is_among (names_of ds) name) (sym (struct_before file o ds ns rest here name) ∙ h))

    value_by : (at : Spot) (name : Name) (b c : Bool) → is_defined_before o.structs (place_of (struct_names file) name.text) ≡ b → (b ≡ true → c ≡ true) → Sim (BaseIs n file all ren agree (base.Struct at name)) (if b then Holds tt else fails name.spot Unknown) (if c then Holds tt else fails (moved_spot n name.spot) Unknown)
    value_by at name false c e h = tt
    value_by at name true true e h = let k = number_there o.structs (place_of (struct_names file) name.text) e in ap struct (base_same n file all ren agree name.text k.0 k.1)
    value_by at name true false e h = not_more (h refl)

    value_sim : (b : Base) → Sim (BaseIs n file all ren agree b) (value_base file o.structs b) (value_base all p.structs (moved_base n b))
    value_sim (base.Int at) = refl
    value_sim (base.Unsigned at) = refl
    value_sim (base.Char at) = refl
    value_sim (base.Region at) = refl
    value_sim (base.Struct at name) = value_by at name (is_defined_before o.structs (place_of (struct_names file) name.text)) (is_defined_before p.structs (place_of (struct_names all) name.text)) refl (struct_kept name.text)

    cell_by : (b : Base) (stars : List WrittenNote) → Sim (λ u v. TypeIs n file all ren agree (record { base = b; stars = stars })) (cell_type file o.structs (record { base = b; stars = stars })) (cell_type all p.structs (moved_type n (record { base = b; stars = stars })))
    cell_by b [] = sim_more (BaseIs n file all ren agree b) _ (value_base file o.structs b) (value_base all p.structs (moved_base n b)) (value_sim b) (λ u v e. e)
    cell_by b (m ∷ ms) = sim_more (BaseIs n file all ren agree b) _ (base_rule file b) (base_rule all (moved_base n b)) (base_sim n file all ren agree b) (λ u v e. type_is n file all ren agree (record { base = b; stars = m ∷ ms }) e)

    pub cell_sim : (ty : t.TypeName) → Sim (λ u v. TypeIs n file all ren agree ty) (cell_type file o.structs ty) (cell_type all p.structs (moved_type n ty))
    cell_sim ty = cell_by ty.base ty.stars

    shared_by : (b : Base) (c : Bool) → Sim Any (shared_rule file o.structs b c) (shared_rule all p.structs (moved_base n b) c)
    shared_by b true = sim_more (BaseIs n file all ren agree b) Any (value_base file o.structs b) (value_base all p.structs (moved_base n b)) (value_sim b) (λ u v e. tt)
    shared_by b false = tt

    fields_before_sim : (fs : List t.Field) → Sim Any (before_fields file o.structs fs) (before_fields all p.structs (map (moved_field n) fs))
    fields_before_sim [] = tt
    fields_before_sim (f ∷ fs) = subst (λ c. Sim Any (shared_rule file o.structs f.type_name.base (field_by_value f.type_name.base fs)) (shared_rule all p.structs (moved_base n f.type_name.base) c)) (sym (by_value_moved n f.type_name.base fs)) (shared_by f.type_name.base (field_by_value f.type_name.base fs))

    field_sim : (before : Names) (f : t.Field) → Sim (λ u v. TypeIs n file all ren agree f.type_name) (field_rule file o.structs before f) (field_rule all p.structs before (moved_field n f))
    field_sim before f =
        sim_parts (λ u v. TypeIs n file all ren agree f.type_name) Any (λ u v. TypeIs n file all ren agree f.type_name) (cell_type file o.structs f.type_name) (cell_type all p.structs (moved_type n f.type_name)) (once f.name (is_among before f.name.text)) (once (moved_name n f.name) (is_among before f.name.text)) _ _
        (cell_sim f.type_name) (once_sim f.name (moved_name n f.name) (is_among before f.name.text) (is_among before f.name.text) (λ e. e))
        (λ u v x y e k. sim_ruled (λ u v. TypeIs n file all ren agree f.type_name) f.spot (moved_spot n f.spot) _ _ tt tt (λ r. (r, e)))

    abbrev pub AreTypes : List t.Field → Type 0
    AreTypes [] = Unit {0}
    AreTypes (f ∷ fs) = TypeIs n file all ren agree f.type_name × AreTypes fs

    pub fields_sim : (before : Names) (fs : List t.Field) → Sim (λ u v. AreTypes fs) (fields_rule file o.structs before fs) (fields_rule all p.structs before (map (moved_field n) fs))
    fields_sim before [] = tt
    fields_sim before (f ∷ fs) =
        front_sim Any (λ u v. AreTypes (f ∷ fs)) (before_fields file o.structs (f ∷ fs)) (before_fields all p.structs (map (moved_field n) (f ∷ fs))) _ _ (fields_before_sim (f ∷ fs))
        (sim_parts (λ u v. TypeIs n file all ren agree f.type_name) (λ u v. AreTypes fs) (λ u v. AreTypes (f ∷ fs)) (field_rule file o.structs before f) (field_rule all p.structs before (moved_field n f)) (fields_rule file o.structs (before ++ f.name.text ∷ []) fs) (fields_rule all p.structs (before ++ f.name.text ∷ []) (map (moved_field n) fs)) _ _
        (field_sim before f) (fields_sim (before ++ f.name.text ∷ []) fs) (λ u v x y e k. (e, k)))

    -- a global
    module _ (at : Spot) (ty : t.TypeName) (name : Name) (count : Option ℕ) (c : Option Constant) (apart : IsApart earlier (t.global at ty name count c)) (h : IsHeld (item file o (t.global at ty name count c))) where
      pub cell_held : IsHeld (cell_type file o.structs ty)
      cell_held = held_first (cell_type file o.structs ty) (once name (is_some (meaning_in o.names name.text))) _ h

      pub global_type : TypeIs n file all ren agree ty
      global_type = sim_gives (TypeIs n file all ren agree ty) (cell_type file o.structs ty) (cell_type all p.structs (moved_type n ty)) (cell_sim ty) cell_held

      pub new_here : meaning_in o.names name.text ≡ None
      new_here = by (meaning_in o.names name.text) (not_once name (is_some (meaning_in o.names name.text)) (held_second (cell_type file o.structs ty) (once name (is_some (meaning_in o.names name.text))) _ h)) where
        by : (q : Option Meaning) → is_some q ≡ false → q ≡ None
        by None e = refl
        by (Some m) e = no_more e

      new_there : meaning_in p.names name.text ≡ None
      new_there = not_declared file all ren earlier at ty name count c (meaning_in p.names name.text) apart (related.sourced name.text new_here)

      pub global_held : (behind_item all p (moved_item n (t.global at ty name count c))).cells ≤ 1048576 → IsHeld (item all p (moved_item n (t.global at ty name count c)))
      global_held few =
          let q = held_third (cell_type file o.structs ty) (once name (is_some (meaning_in o.names name.text))) _ h in
          let cells = o.cells + cells_of_global file ty count in
          let initial = initial_of (written_type file.types ty) count c in
          let two = none_failing (is_none initial) Mistyped (failing (is_empty count || nat_lt 1048576 cells) TooBig) (ruled_none at (failing (is_none initial) Mistyped ++ failing (is_empty count || nat_lt 1048576 cells) TooBig) _ q.2) in
          let size = neither (is_empty count) (nat_lt 1048576 cells) (not_failing (is_empty count || nat_lt 1048576 cells) TooBig two.1) in
          held_parts (cell_type all p.structs (moved_type n ty)) (once (moved_name n name) (is_some (meaning_in p.names name.text))) _
          (sim_held _ (cell_type file o.structs ty) (cell_type all p.structs (moved_type n ty)) (cell_sim ty) cell_held)
          (subst (λ x. IsHeld (once (moved_name n name) (is_some x))) (sym new_there) tt)
          (λ a b. none_ruled (moved_spot n at) _ _ (no_refusals _ Mistyped _ (initial_sim n ren (written_type file.types ty) (written_type all.types (moved_type n ty)) count c global_type two.0)
          (no_refusal _ TooBig (or_none (is_empty count) (nat_lt 1048576 (p.cells + cells_of_global all (moved_type n ty) count)) size.0 (is_small 1048576 (p.cells + cells_of_global all (moved_type n ty) count) few)))))

      pub global_related : Related file all ren earlier (behind_item file o (t.global at ty name count c)).names (behind_item all p (moved_item n (t.global at ty name count c))).names (names_of ds) (names_of es) ns ms
      global_related = related_with file all ren earlier o.names p.names name.text (a_global o.globals (written_type file.types ty) count) (a_global p.globals (written_type all.types (moved_type n ty)) count)
          (λ e. subst (λ x. Found ren all.functions name.text (Some (a_global o.globals (written_type file.types ty) count)) (known_or x (a_global p.globals (written_type all.types (moved_type n ty)) count))) (sym new_there) (global_type, refl))
          tt (names_of ds) (names_of es) ns ms related

    -- a struct that no earlier file defines
    module _ (at : Spot) (name : Name) (fields : List t.Field) (h : IsHeld (item file o (t.struct at name fields))) where
      pub struct_new : is_among (names_of ds) name.text ≡ false
      struct_new = sym (struct_before file o ds ns rest here name.text) ∙ not_once name (is_defined_before o.structs (place_of (struct_names file) name.text)) (held_first (once name (is_defined_before o.structs (place_of (struct_names file) name.text))) (fields_rule file o.structs [] fields) _ h)

      pub fields_held : IsHeld (fields_rule file o.structs [] fields)
      fields_held = held_second (once name (is_defined_before o.structs (place_of (struct_names file) name.text))) (fields_rule file o.structs [] fields) _ h

      less_again : (m a b : ℕ) → b ≤ a → nat_lt m a ≡ false → nat_lt m b ≡ false
      less_again m a b h e = grind (arith, nat_tests)

      cells_again : (q : Option ℕ) (k : ℕ) → q ≡ Some k → nat_lt 4096 (cells_of_struct file q) ≡ false → nat_lt 4096 (size (structs_in all) (struct (ren k))) ≡ false
      cells_again q k e f = less_again 4096 (size (structs_in file) (struct k)) (size (structs_in all) (struct (ren k))) (agree.sizes k) (subst (λ x. nat_lt 4096 (cells_of_struct file x) ≡ false) e f)

      pub struct_held : (k : ℕ) → place_of (struct_names file) name.text ≡ Some k → is_among (structs_of earlier) name.text ≡ false → IsHeld (item all p (moved_item n (t.struct at name fields)))
      struct_held k placed new =
          let x = once name (is_defined_before o.structs (place_of (struct_names file) name.text)) in
          let q = held_third x (fields_rule file o.structs [] fields) _ h in
          let small_here = not_failing (nat_lt 4096 (cells_of_struct file (place_of (struct_names file) name.text))) TooBig (ruled_none at (failing (nat_lt 4096 (cells_of_struct file (place_of (struct_names file) name.text))) TooBig) nothing_made q.2) in
          held_parts (once (moved_name n name) (is_defined_before p.structs (place_of (struct_names all) name.text))) (fields_rule all p.structs [] (map (moved_field n) fields)) _
          (subst (λ b. IsHeld (once (moved_name n name) b)) (sym (struct_before all p es ms others there name.text ∙ related.structs name.text ∙ or_none (is_among (structs_of earlier) name.text) (is_among (names_of ds) name.text) new struct_new)) tt)
          (sim_held _ (fields_rule file o.structs [] fields) (fields_rule all p.structs [] (map (moved_field n) fields)) (fields_sim [] fields) fields_held)
          (λ a b. none_ruled (moved_spot n at) _ nothing_made (no_refusal _ TooBig (subst (λ z. nat_lt 4096 (cells_of_struct all z) ≡ false) (sym (agree.names name.text k placed)) (cells_again (place_of (struct_names file) name.text) k placed small_here))))

    or_more : (a b c : Bool) → (a || b) || c ≡ a || (b || c)
    or_more true b c = refl
    or_more false b c = refl

    or_twice : (a b c : Bool) → (c ≡ true → a ≡ true) → a || b ≡ a || (b || c)
    or_twice true b c h = refl
    or_twice false b false h = or_same b where
      or_same : (b : Bool) → b ≡ b || false
      or_same true = refl
      or_same false = refl
    or_twice false b true h = not_more (h refl)

    pub kept_related : (name : Name) (fields others_fields : List t.Field) → Related file all ren earlier o.names p.names (names_of (with_definition ds (name.text, fields))) (names_of (with_definition es (name.text, others_fields))) ns ms
    kept_related name fields others_fields = record {
      scope = related.scope;
      sourced = related.sourced;
      builtin = related.builtin;
      numbered = related.numbered;
      known = related.known;
      structs = λ x. ap (λ z. is_among z x) (names_with es (name.text, others_fields)) ∙ among_new (names_of es) name.text x ∙ ap (λ z. z || bytes_eq x name.text) (related.structs x) ∙ or_more (is_among (structs_of earlier) x) (is_among (names_of ds) x) (bytes_eq x name.text) ∙ ap (λ z. is_among (structs_of earlier) x || z) (sym (ap (λ z. is_among z x) (names_with ds (name.text, fields)) ∙ among_new (names_of ds) name.text x));
      functions = related.functions;
    }

    pub dropped_related : (name : Name) (fields : List t.Field) → is_among (structs_of earlier) name.text ≡ true → Related file all ren earlier o.names p.names (names_of (with_definition ds (name.text, fields))) (names_of es) ns ms
    dropped_related name fields old = record {
      scope = related.scope;
      sourced = related.sourced;
      builtin = related.builtin;
      numbered = related.numbered;
      known = related.known;
      structs = λ x. related.structs x ∙ or_twice (is_among (structs_of earlier) x) (is_among (names_of ds) x) (bytes_eq x name.text) (λ e. ap (is_among (structs_of earlier)) (same_name x name.text e) ∙ old) ∙ ap (λ z. is_among (structs_of earlier) x || z) (sym (ap (λ z. is_among z x) (names_with ds (name.text, fields)) ∙ among_new (names_of ds) name.text x));
      functions = related.functions;
    }
