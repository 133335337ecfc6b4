-- What the walks over the items of a text gather is what the text defines.
use Rattle.std.proofs.Common.{◌≡◌, ◌<◌, ◌≤◌, ◌+◌, ℕ, refl, ap, sym, ◌∙◌, arith, List, [], ◌∷◌, ◌++◌, length, take, drop, map, append_assoc, length-append, Option, Some, None, Bool, true, false, is_some, if◌then◌else◌}
use Rattle.std.specs.Prelude.{get_or, flat_map, nat_eq}
use Rattle.std.proofs.lemmas.List.{append-nil, length-map, map-append, take-append-drop, take_all, take_more}
use Rattle.rc_syntax.specs.declared.tree.Item.{Item}
use Rattle.rc_syntax.specs.declared.tree.Spot.{Spot}
use Rattle.rc_syntax.specs.declared.tree.Name.{Name}
use Rattle.rc_syntax.specs.declared.tree.Field.{Field as CodeField}
use Rattle.rc_syntax.specs.declared.tree.Param.{Param as CodeParam}
use Rattle.rc_syntax.specs.Shape as written
use Rattle.rc_syntax.specs.Tree as t
use Rattle.rc_deletes.specs.Kinds.{place_of}
use Rattle.rc_deletes.specs.Items.{is_among, Definition, names_of, with_definition, with_struct, with_structs, struct_definitions, with_new, with_all, with_function_name, with_functions, field_of, named_in, named_in_option, mentioned, types_in, function_names, shape_of, context_of}
use Rattle.rc_deletes.specs.Scopes.{Shape}
use Rattle.rc_deletes.proofs.Naming.{place_more, place_new, name_at}
use Rattle.rc_deletes.proofs.Definitions.{more_structs}
use Rattle.rc_core.specs.Programs.{Field}
use Rattle.std.proofs.lemmas.Option.{slice_get_within}
use Rattle.std.proofs.lemmas.Bool.Decides.{nat_tests}
use Rattle.rc_defined.specs.Building.{is_first_at}
use Rattle.rc_defined.specs.Fields.{fields_of}
use Rattle.rc_defined.specs.declared.fields.Fields.{Fields}
use Rattle.rc_defined.proofs.Lists.{map_push}
use Rattle.rc_defined.proofs.Walks.{front, none_left}

-- the definitions among the first items

abbrev pub definitions : List Item → ℕ → List Definition
definitions is i = struct_definitions (map written.item_of (take i is))

structs_append : (ds : List Definition) (a b : List t.Item) → with_structs ds (a ++ b) ≡ with_structs (with_structs ds a) b
structs_append ds [] b = refl
structs_append ds (i ∷ a) b = structs_append (with_struct ds i) a b

pub one_more : (is : List Item) (i : ℕ) (x : Item) → i < length is → x ≡ get_or is i x → definitions is (i + 1) ≡ with_struct (definitions is i) (written.item_of x)
one_more is i x l h =
    ap struct_definitions (ap (map written.item_of) (take_more is i x l ∙ ap (λ y. take i is ++ y ∷ []) (sym h)) ∙ map_push written.item_of (take i is) x)
    ∙ structs_append [] (map written.item_of (take i is)) (written.item_of x ∷ [])

pub all_of_them : (is : List Item) (i : ℕ) → length is ≤ i → definitions is i ≡ struct_definitions (map written.item_of is)
all_of_them is i l = ap (λ xs. struct_definitions (map written.item_of xs)) (take_all i is l)

-- the names of structs

names_if : (b : Bool) (ds : List Definition) (d : Definition) → names_of (if b then ds else ds ++ d ∷ []) ≡ (if b then names_of ds else names_of ds ++ d.0 ∷ [])
names_if true ds d = refl
names_if false ds d = map-append (λ (e : Definition). e.0) ds (d ∷ [])

pub named_more : (names : List (List ℕ)) (ds : List Definition) (d : Definition) → names ≡ names_of ds → with_new names d.0 ≡ names_of (with_definition ds d)
named_more names ds d h = ap (λ ns. with_new ns d.0) h ∙ sym (names_if (is_among (names_of ds) d.0) ds d)

-- the names of functions

module _ (names : List (List ℕ)) (is : List Item) (i : ℕ) where
  pub functions_step : (x : Item) → i < length is → x ≡ get_or is i x → with_functions names (map written.item_of (drop i is)) ≡ with_functions (with_function_name names (written.item_of x)) (map written.item_of (drop (i + 1) is))
  functions_step x l h = ap (λ xs. with_functions names (map written.item_of xs)) (front is i x l h)

  pub functions_end : length is ≤ i → with_functions names (map written.item_of (drop i is)) ≡ names
  functions_end l = ap (λ xs. with_functions names (map written.item_of xs)) (none_left is i l)

-- the structs that are named

all_append : (names a b : List (List ℕ)) → with_all names (a ++ b) ≡ with_all (with_all names a) b
all_append names [] b = refl
all_append names (m ∷ a) b = all_append (with_new names m) a b

pub item_fields : (names a : List (List ℕ)) → with_all names (a ++ []) ≡ with_all names a
item_fields names a = ap (with_all names) (append-nil a)

pub item_head : (names a b : List (List ℕ)) → with_all names (a ++ (b ++ [])) ≡ with_all (with_all names a) b
item_head names a b = all_append names a (b ++ []) ∙ item_fields (with_all names a) b

module _ (names : List (List ℕ)) (fs : List CodeField) (i : ℕ) where
  pub fields_mentioned : (f : CodeField) → i < length fs → f ≡ get_or fs i f →
      with_all names (flat_map (λ f. named_in f.type_name) (map written.field_of (drop i fs))) ≡ with_all (with_all names (named_in (written.type_of f.type_name))) (flat_map (λ f. named_in f.type_name) (map written.field_of (drop (i + 1) fs)))
  fields_mentioned f l h = ap (λ xs. with_all names (flat_map (λ f. named_in f.type_name) (map written.field_of xs))) (front fs i f l h) ∙ all_append names (named_in (written.type_of f.type_name)) (flat_map (λ f. named_in f.type_name) (map written.field_of (drop (i + 1) fs)))

  pub fields_mentioned_end : length fs ≤ i → with_all names (flat_map (λ f. named_in f.type_name) (map written.field_of (drop i fs))) ≡ names
  fields_mentioned_end l = ap (λ xs. with_all names (flat_map (λ f. named_in f.type_name) (map written.field_of xs))) (none_left fs i l)

module _ (names : List (List ℕ)) (qs : List CodeParam) (i : ℕ) where
  pub params_mentioned : (q : CodeParam) → i < length qs → q ≡ get_or qs i q →
      with_all names (flat_map (λ q. named_in q.type_name) (map written.param_of (drop i qs))) ≡ with_all (with_all names (named_in (written.type_of q.type_name))) (flat_map (λ q. named_in q.type_name) (map written.param_of (drop (i + 1) qs)))
  params_mentioned q l h = ap (λ xs. with_all names (flat_map (λ q. named_in q.type_name) (map written.param_of xs))) (front qs i q l h) ∙ all_append names (named_in (written.type_of q.type_name)) (flat_map (λ q. named_in q.type_name) (map written.param_of (drop (i + 1) qs)))

  pub params_mentioned_end : length qs ≤ i → with_all names (flat_map (λ q. named_in q.type_name) (map written.param_of (drop i qs))) ≡ names
  params_mentioned_end l = ap (λ xs. with_all names (flat_map (λ q. named_in q.type_name) (map written.param_of xs))) (none_left qs i l)

mentioned_one : (x : t.Item) (rest : List t.Item) → mentioned (x ∷ rest) ≡ mentioned (x ∷ []) ++ mentioned rest
mentioned_one (t.struct at name fields) rest = ap (λ a. a ++ mentioned rest) (sym (append-nil (flat_map (λ f. named_in f.type_name) fields)))
mentioned_one (t.global at n name count c) rest = refl
mentioned_one (t.function at deletes result name params body) rest =
    let a = named_in_option result in
    let b = flat_map (λ q. named_in q.type_name) params in
    sym (append_assoc a b (mentioned rest)) ∙ ap (λ c. (a ++ c) ++ mentioned rest) (sym (append-nil b))

module _ (names : List (List ℕ)) (is : List Item) (i : ℕ) where
  pub items_mentioned : (x : Item) → i < length is → x ≡ get_or is i x →
      with_all names (mentioned (map written.item_of (drop i is))) ≡ with_all (with_all names (mentioned (written.item_of x ∷ []))) (mentioned (map written.item_of (drop (i + 1) is)))
  items_mentioned x l h =
      ap (λ xs. with_all names (mentioned (map written.item_of xs))) (front is i x l h)
      ∙ ap (with_all names) (mentioned_one (written.item_of x) (map written.item_of (drop (i + 1) is)))
      ∙ all_append names (mentioned (written.item_of x ∷ [])) (mentioned (map written.item_of (drop (i + 1) is)))

  pub items_mentioned_end : length is ≤ i → with_all names (mentioned (map written.item_of (drop i is))) ≡ names
  items_mentioned_end l = ap (λ xs. with_all names (mentioned (map written.item_of xs))) (none_left is i l)

-- the fields of a struct

abbrev pub written_fields : List (List ℕ) → List CodeField → List (List ℕ × Field)
written_fields types fs = map (field_of types) (map written.field_of fs)

module _ (types : List (List ℕ)) (all : List (List ℕ × Field)) (fs : List CodeField) (i : ℕ) where
  pub fields_step : (f : CodeField) (g : List ℕ × Field) (now : List (List ℕ × Field)) → i < length fs → f ≡ get_or fs i f → g ≡ field_of types (written.field_of f) → now ≡ all ++ g ∷ [] →
      all ++ written_fields types (drop i fs) ≡ now ++ written_fields types (drop (i + 1) fs)
  fields_step f g now l h e n =
      ap (λ xs. all ++ written_fields types xs) (front fs i f l h)
      ∙ sym (append_assoc all (field_of types (written.field_of f) ∷ []) (written_fields types (drop (i + 1) fs)))
      ∙ ap (λ ys. ys ++ written_fields types (drop (i + 1) fs)) (ap (λ y. all ++ y ∷ []) (sym e) ∙ sym n)

  pub fields_end : length fs ≤ i → all ++ written_fields types (drop i fs) ≡ all
  fields_end l = ap (λ xs. all ++ written_fields types xs) (none_left fs i l) ∙ append-nil all

same_number : (n : ℕ) → nat_eq n n ≡ true
same_number n = grind (arith, nat_tests)

less_number : (k n : ℕ) → k < n → nat_eq k n ≡ false
less_number k n h = grind (arith, nat_tests)

-- a struct counts where its name is new: where it is the next one among all types

abbrev first_or : Bool → List Shape → Shape → List Shape
first_or true structs fields = structs ++ fields ∷ []
first_or false structs fields = structs

module _ (types : List (List ℕ)) (ds : List Definition) (d : Definition) where
  next_by : (o : Option ℕ) → place_of (names_of ds) d.0 ≡ o → (more : List (List ℕ)) → types ≡ names_of (if is_some o then ds else ds ++ d ∷ []) ++ more →
      first_or (is_first_at (place_of types d.0) (length (map (shape_of types) ds))) (map (shape_of types) ds) (shape_of types d) ≡ map (shape_of types) (if is_some o then ds else ds ++ d ∷ [])
  next_by (Some k) e more h =
      let within : k < length ds = omega (arith, slice_get_within (names_of ds) k d.0 (name_at (names_of ds) d.0 k e), length-map ds (λ (e : Definition). e.0)) in
      let at : place_of types d.0 ≡ Some k = ap (λ ns. place_of ns d.0) h ∙ place_more (names_of ds) more d.0 k e in
      ap (λ o. first_or (is_first_at o (length (map (shape_of types) ds))) (map (shape_of types) ds) (shape_of types d)) at
      ∙ ap (λ b. first_or b (map (shape_of types) ds) (shape_of types d)) (ap (nat_eq k) (length-map ds (shape_of types)) ∙ less_number k (length ds) within)
  next_by None e more h =
      let split : names_of (ds ++ d ∷ []) ++ more ≡ names_of ds ++ d.0 ∷ more = ap (λ ns. ns ++ more) (map-append (λ (e : Definition). e.0) ds (d ∷ [])) ∙ append_assoc (names_of ds) (d.0 ∷ []) more in
      let at : place_of types d.0 ≡ Some (length (names_of ds)) = ap (λ ns. place_of ns d.0) (h ∙ split) ∙ place_new (names_of ds) more d.0 e in
      let count : length (names_of ds) ≡ length (map (shape_of types) ds) = length-map ds (λ (e : Definition). e.0) ∙ sym (length-map ds (shape_of types)) in
      ap (λ o. first_or (is_first_at o (length (map (shape_of types) ds))) (map (shape_of types) ds) (shape_of types d)) at
      ∙ ap (λ b. first_or b (map (shape_of types) ds) (shape_of types d)) (ap (λ n. nat_eq n (length (map (shape_of types) ds))) count ∙ same_number (length (map (shape_of types) ds)))
      ∙ sym (map-append (shape_of types) ds (d ∷ []))

  module _ (more : List (List ℕ)) (told : types ≡ names_of (with_definition ds d) ++ more) (structs : List Fields) (so_far : map fields_of structs ≡ map (shape_of types) ds) where
    by_first : (b : Bool) → b ≡ is_first_at (place_of types d.0) (length structs) → first_or b (map fields_of structs) (shape_of types d) ≡ map (shape_of types) (with_definition ds d)
    by_first b h =
        let count : length structs ≡ length (map (shape_of types) ds) = sym (length-map structs fields_of) ∙ ap length so_far in
        ap (λ c. first_or c (map fields_of structs) (shape_of types d)) (h ∙ ap (is_first_at (place_of types d.0)) count)
        ∙ ap (λ ss. first_or (is_first_at (place_of types d.0) (length (map (shape_of types) ds))) ss (shape_of types d)) so_far
        ∙ next_by (place_of (names_of ds) d.0) refl more told

    struct_added : (now : List Fields) (f : Fields) → true ≡ is_first_at (place_of types d.0) (length structs) → fields_of f ≡ shape_of types d → now ≡ structs ++ f ∷ [] → map fields_of now ≡ map (shape_of types) (with_definition ds d)
    struct_added now f first same n = ap (map fields_of) n ∙ map_push fields_of structs f ∙ ap (λ s. map fields_of structs ++ s ∷ []) same ∙ by_first true first

-- an item that defines a struct
module _ (types more : List (List ℕ)) (ds : List Definition) (i : t.Item) (at : Spot) (name : Name) (fs : List t.Field) (is : i ≡ t.struct at name fs) (told : types ≡ names_of (with_struct ds i) ++ more) (structs : List Fields) (so_far : map fields_of structs ≡ map (shape_of types) ds) where
  told_here : types ≡ names_of (with_definition ds (name.text, fs)) ++ more
  told_here = told ∙ ap (λ j. names_of (with_struct ds j) ++ more) is

  pub item_added : (now : List Fields) (f : Fields) → true ≡ is_first_at (place_of types name.text) (length structs) → fields_of f ≡ map (field_of types) fs → now ≡ structs ++ f ∷ [] → map fields_of now ≡ map (shape_of types) (with_struct ds i)
  item_added now f first same n = struct_added types ds (name.text, fs) more told_here structs so_far now f first same n ∙ sym (ap (λ j. map (shape_of types) (with_struct ds j)) is)

  pub item_kept : false ≡ is_first_at (place_of types name.text) (length structs) → map fields_of structs ≡ map (shape_of types) (with_struct ds i)
  item_kept later = by_first types ds (name.text, fs) more told_here structs so_far false later ∙ sym (ap (λ j. map (shape_of types) (with_struct ds j)) is)

-- all types begin with the names of the structs that are defined so far

grown_if : (b : Bool) (names : List (List ℕ)) (m : List ℕ) → (more : List (List ℕ)) × ((if b then names else names ++ m ∷ []) ≡ names ++ more)
grown_if true names m = ([], sym (append-nil names))
grown_if false names m = (m ∷ [], refl)

all_more : (names ms : List (List ℕ)) → (more : List (List ℕ)) × (with_all names ms ≡ names ++ more)
all_more names [] = ([], sym (append-nil names))
all_more names (m ∷ ms) =
    let one = grown_if (is_among names m) names m in
    let rest = all_more (with_new names m) ms in
    (one.0 ++ rest.0, rest.1 ∙ ap (λ ns. ns ++ rest.0) one.1 ∙ append_assoc names one.0 rest.0)

pub types_before : (is : List Item) (i : ℕ) → (more : List (List ℕ)) × (types_in (map written.item_of is) ≡ names_of (definitions is i) ++ more)
types_before is i =
    let later = more_structs (definitions is i) (map written.item_of (drop i is)) in
    let split : map written.item_of is ≡ map written.item_of (take i is) ++ map written.item_of (drop i is) = ap (map written.item_of) (sym (take-append-drop i is)) ∙ map-append written.item_of (take i is) (drop i is) in
    let all : struct_definitions (map written.item_of is) ≡ definitions is i ++ later.0 = ap struct_definitions split ∙ structs_append [] (map written.item_of (take i is)) (map written.item_of (drop i is)) ∙ later.1 in
    let own : names_of (struct_definitions (map written.item_of is)) ≡ names_of (definitions is i) ++ names_of later.0 = ap names_of all ∙ map-append (λ (e : Definition). e.0) (definitions is i) later.0 in
    let others = all_more (names_of (struct_definitions (map written.item_of is))) (mentioned (map written.item_of is)) in
    (names_of later.0 ++ others.0, others.1 ∙ ap (λ ns. ns ++ others.0) own ∙ append_assoc (names_of (definitions is i)) (names_of later.0) others.0)

module _ (is : List t.Item) (types : List (List ℕ)) (structs : List Fields) (told : types ≡ types_in is) (own : map fields_of structs ≡ map (shape_of types) (struct_definitions is)) where
  pub structs_count : length structs ≤ length types
  structs_count =
      let ds = struct_definitions is in
      let count : length structs ≡ length ds = sym (length-map structs fields_of) ∙ ap length own ∙ length-map ds (shape_of types) in
      let others = all_more (names_of ds) (mentioned is) in
      omega (arith, count, ap length (told ∙ others.1), length-append (names_of ds) others.0, length-map ds (λ (e : Definition). e.0))

  pub context_gathered : (functions : List (List ℕ)) → functions ≡ function_names is → record { shapes = map fields_of structs; types = types; functions = functions } ≡ context_of is
  context_gathered functions f =
      ap (λ (ss : List Shape). record { shapes = ss; types = types; functions = functions }) own
      ∙ ap (λ ns. record { shapes = map (shape_of ns) (struct_definitions is); types = ns; functions = functions }) told
      ∙ ap (λ fs. record { shapes = map (shape_of (types_in is)) (struct_definitions is); types = types_in is; functions = fs }) f
