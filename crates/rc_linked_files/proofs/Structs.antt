-- The structs of each file among those of all files: the first definition of a name has the fields of every other one.
use Rattle.std.specs.Prelude.{◌≡◌, ℕ, ◌<◌, List, [], ◌∷◌, ◌++◌, Option, Some, None, true, false, ◌&&◌, map, slice_get}
use Rattle.std.proofs.Common.{refl, sym, ap, ◌∙◌, subst, arith}
use Rattle.std.proofs.lemmas.Bool.Decides.{nat_tests}
use Rattle.std.proofs.lemmas.List.{map-append}
use Rattle.std.specs.Str.{bytes_eq}
use Rattle.rc_syntax.specs.declared.tree.Spot.{Spot}
use Rattle.rc_syntax.specs.declared.tree.Name.{Name}
use Rattle.rc_syntax.specs.declared.tree.Note.{Note as WrittenNote}
use Rattle.rc_syntax.specs.declared.tree.Base.{Base}
use Rattle.rc_syntax.specs.declared.tree.Base.TheVariants as base
use Rattle.rc_syntax.specs.Tree as t
use Rattle.rc_core.specs.Types.{Ty}
use Rattle.rc_core.specs.Programs as p
use Rattle.rc_deletes.specs.Judged.{Holds, with_part}
use Rattle.rc_deletes.specs.Kinds.{place_of, written_type}
use Rattle.rc_deletes.specs.Scopes.{Context, struct_names}
use Rattle.rc_deletes.specs.Expressions.{base_rule, found}
use Rattle.rc_deletes.specs.Items.{is_among, names_of, Definition, with_definition, with_structs, field_of, Outside, behind_item, is_defined_before, cell_type, before_fields, once, field_rule, fields_rule, item, items}
use Rattle.rc_deletes.proofs.Naming.{same_name, place_more}
use Rattle.rc_deletes.proofs.Definitions.{more_structs}
use Rattle.rc_deletes.proofs.Standing.{prefix_more}
use Rattle.rc_linking.specs.Moved.{moved_field}
use Rattle.rc_linking.specs.Clash.{same_field, same_fields, same_written, same_length}
use Rattle.rc_linking.proofs.Values.{both_true}
use Rattle.rc_linking.proofs.Names.{Names, Stands, struct_before, next_stands}
use Rattle.rc_linking.proofs.Heads.{written_same, moved_written}
use Rattle.rc_linking.proofs.Scopes.{IsIn}
use Rattle.rc_linking.proofs.Params.{IsHeld, held_first, held_second, held_front, not_once, base_value, number_there}

pub no_more : {A : Type 0} → true ≡ false → A
no_more h = absurd cc

pub not_more : {A : Type 0} → false ≡ true → A
not_more h = absurd cc

lengths_same : (a b : Option ℕ) → same_length a b ≡ true → a ≡ b
lengths_same None None h = refl
lengths_same (Some a) (Some b) h = let q : a ≡ b = grind (arith, nat_tests) in ap Some q
lengths_same None (Some b) h = not_more h
lengths_same (Some a) None h = not_more h

field_is : (types : Names) (f g : t.Field) → same_field f g ≡ true → field_of types f ≡ field_of types g
field_is types f g h =
    let q = both_true (bytes_eq f.name.text g.name.text) (same_written f.type_name g.type_name && same_length f.length g.length) h in
    let r = both_true (same_written f.type_name g.type_name) (same_length f.length g.length) q.1 in
    let x : (a : List ℕ) (ty : Ty) (n : Option ℕ) → List ℕ × p.Field = λ a ty n. (a, record { ty = ty; count = n }) in
    ap (λ a. x a (written_type types f.type_name) f.length) (same_name f.name.text g.name.text q.0)
    ∙ ap (λ ty. x g.name.text ty f.length) (written_same types f.type_name g.type_name r.0)
    ∙ ap (λ n. x g.name.text (written_type types g.type_name) n) (lengths_same f.length g.length r.1)

pub fields_same : (types : Names) (fs gs : List t.Field) → same_fields fs gs ≡ true → map (field_of types) fs ≡ map (field_of types) gs
fields_same types [] [] h = refl
fields_same types (f ∷ fs) (g ∷ gs) h =
    let q = both_true (same_field f g) (same_fields fs gs) h in
    ap (λ x. x ∷ map (field_of types) fs) (field_is types f g q.0) ∙ ap (λ x. field_of types g ∷ x) (fields_same types fs gs q.1)
fields_same types [] (g ∷ gs) h = not_more h
fields_same types (f ∷ fs) [] h = not_more h

pub fields_moved : (types : Names) (n : ℕ) (fs : List t.Field) → map (field_of types) (map (moved_field n) fs) ≡ map (field_of types) fs
fields_moved types n [] = refl
fields_moved types n (f ∷ fs) =
    let x : Ty → List ℕ × p.Field = λ ty. (f.name.text, record { ty = ty; count = f.length }) in
    ap (λ z. z ∷ map (field_of types) (map (moved_field n) fs)) (ap x (moved_written types n f.type_name)) ∙ ap (λ z. field_of types f ∷ z) (fields_moved types n fs)

-- a struct that a field has by value stands before a number
abbrev pub IsBefore : Names → ℕ → Base → List WrittenNote → Type 0
IsBefore ns l (base.Struct at name) [] = (m : ℕ) × (place_of ns name.text ≡ Some m) × (m < l)
IsBefore ns l b stars = Unit {0}

abbrev pub AreBefore : Names → ℕ → List t.Field → Type 0
AreBefore ns l [] = Unit {0}
AreBefore ns l (f ∷ fs) = IsBefore ns l f.type_name.base f.type_name.stars × AreBefore ns l fs

-- the definition that counts for a name has these fields
pub record Covered (ds : List Definition) (name : List ℕ) (fs : List t.Field) : Type 0 where
  pub l : ℕ
  pub d : Definition
  pub there : slice_get ds l ≡ Some d
  pub placed : place_of (names_of ds) name ≡ Some l
  pub shape : (types : Names) → map (field_of types) d.1 ≡ map (field_of types) fs
  pub before : AreBefore (names_of ds) l d.1

abbrev pub IsCovered : List Definition → t.Item → Type 0
IsCovered ds (t.struct at name fields) = Covered ds name.text fields
IsCovered ds i = Unit {0}

abbrev pub AreCovered : List Definition → List t.Item → Type 0
AreCovered ds is = (i : t.Item) → IsIn i is → IsCovered ds i

pub before_more : (ns more : Names) (l : ℕ) (fs : List t.Field) → AreBefore ns l fs → AreBefore (ns ++ more) l fs
before_more ns more l [] h = tt
before_more ns more l (f ∷ fs) h = (by f.type_name.base f.type_name.stars h.0, before_more ns more l fs h.1) where
  by : (b : Base) (stars : List WrittenNote) → IsBefore ns l b stars → IsBefore (ns ++ more) l b stars
  by (base.Struct at name) [] h = (h.0, place_more ns more name.text h.0 h.1, h.2)
  by (base.Struct at name) (m ∷ ms) h = tt
  by (base.Int at) stars h = tt
  by (base.Unsigned at) stars h = tt
  by (base.Char at) stars h = tt
  by (base.Region at) stars h = tt

covered_more : (ds more : List Definition) (name : List ℕ) (fs : List t.Field) → Covered ds name fs → Covered (ds ++ more) name fs
covered_more ds more name fs c =
    let names : names_of (ds ++ more) ≡ names_of ds ++ names_of more = map-append (λ d. d.0) ds more in
    record {
      l = c.l;
      d = c.d;
      there = prefix_more ds more c.l c.d c.there;
      placed = ap (λ x. place_of x name) names ∙ place_more (names_of ds) (names_of more) name c.l c.placed;
      shape = c.shape;
      before = subst (λ x. AreBefore x c.l c.d.1) (sym names) (before_more (names_of ds) (names_of more) c.l c.d.1 c.before);
    }

covered_behind : (ds : List Definition) (is : List t.Item) (name : List ℕ) (fs : List t.Field) → Covered ds name fs → Covered (with_structs ds is) name fs
covered_behind ds is name fs c = let m = more_structs ds is in subst (λ x. Covered x name fs) (sym m.1) (covered_more ds m.0 name fs c)

pub item_behind : (ds : List Definition) (is : List t.Item) (i : t.Item) → IsCovered ds i → IsCovered (with_structs ds is) i
item_behind ds is (t.struct at name fields) c = covered_behind ds is name.text fields c
item_behind ds is (t.global at ty name count c) h = tt
item_behind ds is (t.function at deletes result name params body) h = tt

-- what a file shows of its structs
abbrev pub IsKnown : Context → Base → Type 0
IsKnown file (base.Struct at name) = (k : ℕ) × (place_of (struct_names file) name.text ≡ Some k)
IsKnown file b = Unit {0}

abbrev pub IsEarlier : Names → Base → List WrittenNote → Type 0
IsEarlier ns (base.Struct at name) [] = is_among ns name.text ≡ true
IsEarlier ns b stars = Unit {0}

abbrev pub AreKnown : Context → Names → List t.Field → Type 0
AreKnown file ns [] = Unit {0}
AreKnown file ns (f ∷ fs) = IsKnown file f.type_name.base × IsEarlier ns f.type_name.base f.type_name.stars × AreKnown file ns fs

abbrev pub FileStructs : Context → List Definition → List t.Item → Type 0
FileStructs file ds [] = Unit {0}
FileStructs file ds (t.struct at name fields ∷ is) = (is_among (names_of ds) name.text ≡ false) × AreKnown file (names_of ds) fields × FileStructs file (with_definition ds (name.text, fields)) is
FileStructs file ds (i ∷ is) = FileStructs file ds is

module _ (file : Context) where
  base_found : (at : Spot) (name : Name) (q : Option ℕ) → place_of (struct_names file) name.text ≡ q → IsHeld (base_rule file (base.Struct at name)) → (k : ℕ) × (place_of (struct_names file) name.text ≡ Some k)
  base_found at name (Some k) e h = (k, e)
  base_found at name None e h = absurd (subst (λ x. IsHeld {A = Unit {0}} (with_part (found name.spot x) (λ k. Holds tt))) e h)

  known_by : (k : ℕ) (b : Base) (stars : List WrittenNote) → IsHeld (cell_type file k (record { base = b; stars = stars })) → IsKnown file b
  known_by k (base.Struct at name) (m ∷ ms) h = base_found at name (place_of (struct_names file) name.text) refl h
  known_by k (base.Struct at name) [] h = number_there k (place_of (struct_names file) name.text) (base_value (is_defined_before k (place_of (struct_names file) name.text)) name.spot h)
  known_by k (base.Int at) stars h = tt
  known_by k (base.Unsigned at) stars h = tt
  known_by k (base.Char at) stars h = tt
  known_by k (base.Region at) stars h = tt

  module _ (o : Outside) (ds : List Definition) (ns : Names) (rest : List t.Item) (here : Stands file o ds ns rest) where
    earlier_by : (b : Base) (stars : List WrittenNote) → IsHeld (cell_type file o.structs (record { base = b; stars = stars })) → IsEarlier (names_of ds) b stars
    earlier_by (base.Struct at name) [] h = sym (struct_before file o ds ns rest here name.text) ∙ base_value (is_defined_before o.structs (place_of (struct_names file) name.text)) name.spot h
    earlier_by (base.Struct at name) (m ∷ ms) h = tt
    earlier_by (base.Int at) stars h = tt
    earlier_by (base.Unsigned at) stars h = tt
    earlier_by (base.Char at) stars h = tt
    earlier_by (base.Region at) stars h = tt

    fields_known : (before : Names) (fs : List t.Field) → IsHeld (fields_rule file o.structs before fs) → AreKnown file (names_of ds) fs
    fields_known before [] h = tt
    fields_known before (f ∷ fs) h =
        let q = (held_front (before_fields file o.structs (f ∷ fs)) _ h).1 in
        let one = held_first (field_rule file o.structs before f) (fields_rule file o.structs (before ++ f.name.text ∷ []) fs) _ q in
        let more = held_second (field_rule file o.structs before f) (fields_rule file o.structs (before ++ f.name.text ∷ []) fs) _ q in
        let cell = held_first (cell_type file o.structs f.type_name) (once f.name (is_among before f.name.text)) _ one in
        (known_by o.structs f.type_name.base f.type_name.stars cell, earlier_by f.type_name.base f.type_name.stars cell, fields_known (before ++ f.name.text ∷ []) fs more)

  pub file_structs : (is stubs : List t.Item) (o : Outside) (ds : List Definition) (ns : Names) → Stands file o ds ns (is ++ stubs) → IsHeld (items file o (is ++ stubs)) → FileStructs file ds is
  file_structs [] stubs o ds ns here h = tt
  file_structs (t.global at ty name count c ∷ is) stubs o ds ns here h =
      let i = t.global at ty name count c in
      let q = (held_front _ _ h).1 in
      file_structs is stubs (behind_item file o i) ds ns (next_stands file o ds ns i (is ++ stubs) here) (held_second (item file o i) (items file (behind_item file o i) (is ++ stubs)) _ q)
  file_structs (t.function at deletes result name params None ∷ is) stubs o ds ns here h =
      let i = t.function at deletes result name params None in
      file_structs is stubs (behind_item file o i) ds ns (next_stands file o ds ns i (is ++ stubs) here) (held_second (item file o i) (items file (behind_item file o i) (is ++ stubs)) _ h)
  file_structs (t.function at deletes result name params (Some body) ∷ is) stubs o ds ns here h =
      let i = t.function at deletes result name params (Some body) in
      file_structs is stubs (behind_item file o i) ds _ (next_stands file o ds ns i (is ++ stubs) here) (held_second (item file o i) (items file (behind_item file o i) (is ++ stubs)) _ h)
  file_structs (t.struct at name fields ∷ is) stubs o ds ns here h =
      let i = t.struct at name fields in
      let x = once name (is_defined_before o.structs (place_of (struct_names file) name.text)) in
      let y = fields_rule file o.structs [] fields in
      let own = held_first (item file o i) (items file (behind_item file o i) (is ++ stubs)) _ h in (
        sym (struct_before file o ds ns (i ∷ (is ++ stubs)) here name.text) ∙ not_once name (is_defined_before o.structs (place_of (struct_names file) name.text)) (held_first x y _ own),
        fields_known o ds ns (i ∷ (is ++ stubs)) here [] fields (held_second x y _ own),
        file_structs is stubs (behind_item file o i) (with_definition ds (name.text, fields)) ns (next_stands file o ds ns i (is ++ stubs) here) (held_second (item file o i) (items file (behind_item file o i) (is ++ stubs)) _ h),
      )
