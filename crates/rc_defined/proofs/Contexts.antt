-- What is found in the code's context is what stands in the definitions'.
use Rattle.std.proofs.Common.{◌≡◌, ◌<◌, ◌≤◌, ◌+◌, ℕ, zero, suc, List, [], ◌∷◌, ◌++◌, Option, Some, None, Bool, true, false, length, map, drop, slice_get, refl, sym, ap, ◌∙◌, arith, option_map, if◌then◌else◌}
use Rattle.std.specs.Str.{bytes_eq}
use Rattle.std.proofs.lemmas.Slice.Eq.{bytes_eq-Decides}
use Rattle.std.specs.Prelude.{get_or}
use Rattle.std.proofs.lemmas.Option.{slice_get_within, slice_get_read, slice_get_past, slice_get-map}
use Rattle.std.proofs.lemmas.List.{take-append-drop, length-take-le, length-map}
use Rattle.rc_core.specs.Programs.{Field}
use Rattle.rc_core.specs.Shapes.{field_of}
use Rattle.rc_syntax.specs.declared.tree.Spot.{Spot}
use Rattle.rc_syntax.specs.declared.tree.Name.{Name}
use Rattle.rc_syntax.specs.declared.tree.Base.{Base}
use Rattle.rc_syntax.specs.declared.tree.Base.TheVariants as base
use Rattle.rc_core.specs.Types.{struct}
use Rattle.rc_deletes.specs.Judged.{Holds, with_part}
use Rattle.rc_deletes.specs.Kinds.{place_of, base_type, number_or, spelled}
use Rattle.rc_deletes.specs.Scopes.{struct_names, structs_in, fields_in}
use Rattle.rc_deletes.specs.Expressions.{field_named, fields_at, next_field, base_rule, found}
use Rattle.rc_deletes.proofs.Naming.{place_more, place_is, found_in, name_at}
use Rattle.rc_defined.specs.declared.fields.NamedField.{NamedField}
use Rattle.rc_defined.specs.declared.fields.Fields.{Fields}
use Rattle.rc_defined.specs.declared.context.Context.{Context}
use Rattle.rc_defined.specs.Fields.{named_of, fields_of, names_in, struct_in, field_at}
use Rattle.rc_defined.specs.Contexts.{context_of}

structs_is : (structs : List Fields) → map fields_in (map fields_of structs) ≡ map struct_in structs
structs_is [] = refl
structs_is (s ∷ structs) = ap (λ ss. struct_in s ∷ ss) (structs_is structs)

pub structs_are : (c : Context) → structs_in (context_of c) ≡ map struct_in c.structs.items
structs_are c = structs_is c.structs.items

later_if : (b : Bool) (o q : Option ℕ) (n k : ℕ) → (o ≡ None → (j : ℕ) → q ≡ Some j → n ≤ j) → (if b then Some 0 else option_map (λ k. suc k) o) ≡ None → (if b then Some 0 else option_map (λ k. suc k) q) ≡ Some k → suc n ≤ k
later_if true o q n k h e f = absurd cc
later_if false (Some j) q n k h e f = absurd cc
later_if false None None n k h e f = absurd cc
later_if false None (Some j) n k h e f = let s : suc j ≡ k = cc in omega (arith, h refl j refl)

found_later : (a b : List (List ℕ)) (name : List ℕ) → found_in a name ≡ None → (k : ℕ) → found_in (a ++ b) name ≡ Some k → length a ≤ k
found_later [] b name h k e = omega arith
found_later (n ∷ a) b name h k e = later_if (bytes_eq name n) (found_in a name) (found_in (a ++ b) name) (length a) k (λ e j f. found_later a b name e j f) h e

within_by : (a b : List (List ℕ)) (name : List ℕ) (k : ℕ) (o : Option ℕ) → place_of a name ≡ o → place_of (a ++ b) name ≡ Some k → k < length a → o ≡ Some k
within_by a b name k (Some j) e h l = let m = place_more a b name j e in cc
within_by a b name k None e h l = absurd (let m = found_later a b name (sym (place_is a name) ∙ e) k (sym (place_is (a ++ b) name) ∙ h) in omega arith)

place_within : (a b : List (List ℕ)) (name : List ℕ) (k : ℕ) → place_of (a ++ b) name ≡ Some k → k < length a → place_of a name ≡ Some k
place_within a b name k h l = within_by a b name k (place_of a name) refl h l

past_by : (a b : List (List ℕ)) (name : List ℕ) (k : ℕ) (o : Option ℕ) → place_of a name ≡ o → place_of (a ++ b) name ≡ Some k → length a ≤ k → o ≡ None
past_by a b name k None e h l = refl
past_by a b name k (Some j) e h l = absurd (let m = place_more a b name j e in let same : j ≡ k = cc in let w = slice_get_within a j name (name_at a name j e) in omega arith)

missing_by : (a b : List (List ℕ)) (name : List ℕ) (o : Option ℕ) → place_of a name ≡ o → place_of (a ++ b) name ≡ None → o ≡ None
missing_by a b name None e h = refl
missing_by a b name (Some j) e h = absurd (let m = place_more a b name j e in cc)

module _ (c : Context) where
  -- the names of the types that are defined nowhere
  abbrev other_names : List (List ℕ)
  other_names = drop (length (map fields_of c.structs.items)) c.types

  whole : struct_names (context_of c) ++ other_names ≡ c.types
  whole = take-append-drop (length (map fields_of c.structs.items)) c.types

  count : length (struct_names (context_of c)) ≡ length c.structs.items
  count =
      let n : length (map fields_of c.structs.items) ≡ length c.structs.items = length-map c.structs.items fields_of in
      length-take-le (length (map fields_of c.structs.items)) c.types (omega (arith, n, c.named)) ∙ n

  module _ (name : List ℕ) where
    place_there : (o : Option ℕ) → o ≡ place_of c.types name → place_of (struct_names (context_of c) ++ other_names) name ≡ o
    place_there o h = ap (λ ns. place_of ns name) whole ∙ sym h

    pub struct_place : (k : ℕ) → Some k ≡ place_of c.types name → k < length c.structs.items → Some k ≡ place_of (struct_names (context_of c)) name
    struct_place k h l = let n = count in sym (place_within (struct_names (context_of c)) other_names name k (place_there (Some k) h) (omega (arith, n)))

    pub no_struct_place : (k : ℕ) → Some k ≡ place_of c.types name → length c.structs.items ≤ k → None ≡ place_of (struct_names (context_of c)) name
    no_struct_place k h l = let n = count in sym (past_by (struct_names (context_of c)) other_names name k (place_of (struct_names (context_of c)) name) refl (place_there (Some k) h) (omega (arith, n)))

    pub no_place : None ≡ place_of c.types name → None ≡ place_of (struct_names (context_of c)) name
    no_place h = sym (missing_by (struct_names (context_of c)) other_names name (place_of (struct_names (context_of c)) name) refl (place_there None h))

    type_place : (k : ℕ) → Some k ≡ place_of (struct_names (context_of c)) name → place_of c.types name ≡ Some k
    type_place k h = ap (λ ns. place_of ns name) (sym whole) ∙ place_more (struct_names (context_of c)) other_names name k (sym h)

-- the fields of a struct

fields_there : (structs : List Fields) (k : ℕ) (o : Option Fields) → slice_get structs k ≡ o → slice_get (map fields_of structs) k ≡ option_map fields_of o
fields_there structs k o h = slice_get-map fields_of structs k ∙ ap (option_map fields_of) h

pub fields_read : (structs : List Fields) (k : ℕ) (s : Fields) → k < length structs → s ≡ get_or structs k s → fields_at (slice_get (map fields_of structs) k) ≡ fields_of s
fields_read structs k s l h = ap fields_at (fields_there structs k (Some s) (slice_get_read structs (length structs) k s refl l h))

pub no_fields_past : (structs : List Fields) (k : ℕ) → length structs ≤ k → fields_at (slice_get (map fields_of structs) k) ≡ []
no_fields_past structs k l = ap fields_at (fields_there structs k None (slice_get_past structs k l))

turned : (a b : List ℕ) (x y : Bool) → bytes_eq a b ≡ x → bytes_eq b a ≡ y → x ≡ y
turned a b true true h k = refl
turned a b false false h k = refl
turned a b true false h k = let e = (bytes_eq-Decides a b).0 h in let f = (bytes_eq-Decides b a).1 (sym e) in cc
turned a b false true h k = let e = (bytes_eq-Decides b a).0 k in let f = (bytes_eq-Decides a b).1 (sym e) in cc

abbrev pub field_by : List NamedField → Option ℕ → Option (ℕ × Field)
field_by fs None = None
field_by fs (Some k) = field_at fs k

next_by : (fs : List NamedField) (f : NamedField) (o : Option ℕ) → next_field (field_by fs o) ≡ field_by (f ∷ fs) (option_map (λ k. suc k) o)
next_by fs f None = refl
next_by fs f (Some k) = next_of (slice_get fs k) where
  next_of : (g : Option NamedField) → next_field (option_map (λ f. (k, field_of f.field)) g) ≡ option_map (λ f. (suc k, field_of f.field)) g
  next_of None = refl
  next_of (Some g) = let s : k + 1 ≡ suc k = omega arith in ap (λ n. Some (n, field_of g.field)) s

field_if : (b : Bool) (f : NamedField) (fs : List NamedField) (q : Option (ℕ × Field)) (o : Option ℕ) → q ≡ field_by fs o → (if b then Some (0, field_of f.field) else next_field q) ≡ field_by (f ∷ fs) (if b then Some 0 else option_map (λ k. suc k) o)
field_if true f fs q o h = refl
field_if false f fs q o h = ap next_field h ∙ next_by fs f o

named_is : (fs : List NamedField) (name : List ℕ) → field_named (map named_of fs) name ≡ field_by fs (found_in (map (λ f. f.name.items) fs) name)
named_is [] name = refl
named_is (f ∷ fs) name =
    ap (λ b. if b then Some (0, field_of f.field) else next_field (field_named (map named_of fs) name)) (turned f.name.items name _ _ refl refl)
    ∙ field_if (bytes_eq name f.name.items) f fs (field_named (map named_of fs) name) (found_in (map (λ f. f.name.items) fs) name) (named_is fs name)

pub named_at : (s : Fields) (name : List ℕ) → field_named (fields_of s) name ≡ field_by s.fields.items (place_of (names_in s) name)
named_at s name = named_is s.fields.items name ∙ ap (field_by s.fields.items) (sym (place_is (names_in s) name))

-- the base of a type whose struct is defined
pub base_found : (c : Context) (b : Base) (at : Spot) (name : Name) (k : ℕ) → b ≡ base.Struct at name → Some k ≡ place_of (struct_names (context_of c)) name.text →
    (base_rule (context_of c) b ≡ Holds tt) × (struct k ≡ base_type c.types b)
base_found c b at name k e h = (
  ap (base_rule (context_of c)) e ∙ ap (λ o. with_part (found name.spot o) (λ k. Holds (tt {0}))) (sym h),
  sym (ap (base_type c.types) e ∙ ap (λ o. struct (number_or o (length c.types + spelled name.text))) (type_place c name.text k h)),
)
