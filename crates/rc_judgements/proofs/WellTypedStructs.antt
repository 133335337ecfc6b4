-- Structs and globals fit.
use Rattle.std.specs.Prelude.{◌≡◌, ◌⊎◌, ℕ, zero, suc, max, ◌≤◌, ◌<◌, List, [], ◌∷◌, ◌++◌, Option, Some, None, Bool, true, false, is_some, nat_lt, length, map, take, slice_get, if◌then◌else◌}
use Rattle.std.proofs.Common.{refl, sym, ap, ◌∙◌, subst, inl, inr, arith, append_assoc, length-append}
use Rattle.std.proofs.lemmas.Bool.Decides.{nat_tests}
use Rattle.std.proofs.lemmas.List.{append-nil, length-map, map-append, take_at}
use Rattle.std.proofs.lemmas.Option.{slice_get_within}
use Rattle.rc_syntax.specs.declared.tree.Spot.{Spot}
use Rattle.rc_syntax.specs.declared.tree.Name.{Name}
use Rattle.rc_syntax.specs.declared.tree.Note.{Note as WrittenNote}
use Rattle.rc_syntax.specs.declared.tree.Base.{Base}
use Rattle.rc_syntax.specs.declared.tree.Base.TheVariants as base
use Rattle.rc_syntax.specs.Tree as t
use Rattle.rc_core.specs.Types.{Ty, struct, pointer}
use Rattle.rc_core.specs.Programs as p
use Rattle.rc_core.specs.Layout.{size}
use Rattle.rc_core.specs.Typing.{IsDefined}
use Rattle.rc_core.specs.WellTyped.{IsInside, IsLength, FieldFits}
use Rattle.rc_deletes.specs.declared.fault.Refusal.TheVariants.{Unknown, Twice, TooBig}
use Rattle.rc_deletes.specs.Judged.{Holds, fails, failing}
use Rattle.rc_deletes.specs.Kinds.{place_of, struct_number, written_type, base_type, starred, note_of}
use Rattle.rc_deletes.specs.Scopes.{Context, struct_names, structs_in}
use Rattle.rc_deletes.specs.Expressions.{base_rule}
use Rattle.rc_deletes.specs.Items.{is_among, Definition, names_of, with_definition, with_structs, field_of, shape_of, Outside, behind_definition, is_defined_before, behind_item, value_base, cell_type, is_empty, once, field_rule, fields_rule, cells_of_struct, Made, nothing_made, item, items, before_globals, before_fields, with_new, with_all, mentioned, struct_definitions, types_in, context_of}
use Rattle.rc_judgements.proofs.Held.{Held, held_parts, held_if, held_ruled, held_always, held_then, held_more, not_failing, held_front}
use Rattle.rc_judgements.proofs.WellTypedExpressions.{struct_within, base_fits, starred_defined, place_within, struct_number_is}
use Rattle.rc_deletes.proofs.Naming.{place_more, place_new}
use Rattle.rc_deletes.proofs.Definitions.{or_more, more_structs}
use Rattle.rc_deletes.proofs.Standing.{at_end}

less : (m n : ℕ) → nat_lt m n ≡ true → m < n
less m n h = grind (arith, nat_tests)

pub no_less : (m n : ℕ) → nat_lt m n ≡ false → n ≤ m
no_less m n h = grind (arith, nat_tests)

pub at_least_one : (count : Option ℕ) → is_empty count ≡ false → IsLength count
at_least_one None h = tt
at_least_one (Some n) h = grind (arith, nat_tests)

module _ (context : Context) where
  pointer_inside : (k : ℕ) (n : _) (u : Ty) (notes : List WrittenNote) → IsInside k (starred (pointer n u) notes)
  pointer_inside k n u [] = tt
  pointer_inside k n u (m ∷ notes) = pointer_inside k (note_of m) (pointer n u) notes

  defined_before : (k : ℕ) (name : List ℕ) (o : Option ℕ) → place_of (struct_names context) name ≡ o → is_defined_before k o ≡ true → (struct_number context.types name < length (structs_in context)) × (struct_number context.types name < k)
  defined_before k name (Some j) h e = subst (λ n. (n < length (structs_in context)) × (n < k)) (sym (struct_number_is context name j h)) (struct_within context name j h, less j k e)
  defined_before k name None h e = absurd cc

  value_fits : (k : ℕ) (b : Base) → Held (λ u. IsDefined (structs_in context) (base_type context.types b) × IsInside k (base_type context.types b)) (value_base context k b)
  value_fits k (base.Int at) = (tt, tt)
  value_fits k (base.Unsigned at) = (tt, tt)
  value_fits k (base.Char at) = (tt, tt)
  value_fits k (base.Region at) = (tt, tt)
  value_fits k (base.Struct at name) =
      held_if (λ (u : Unit {0}). IsDefined (structs_in context) (base_type context.types (base.Struct at name)) × IsInside k (base_type context.types (base.Struct at name))) (is_defined_before k (place_of (struct_names context) name.text)) (Holds tt) (fails name.spot Unknown)
      (λ e. defined_before k name.text (place_of (struct_names context) name.text) refl e) (λ e. tt)

  cell_of : (k : ℕ) (b : Base) (stars : List WrittenNote) → Held (λ (u : Unit {0}). IsDefined (structs_in context) (starred (base_type context.types b) stars) × IsInside k (starred (base_type context.types b) stars)) (elim stars [ [] ↦ value_base context k b | note ∷ notes ↦ base_rule context b ])
  cell_of k b [] = value_fits k b
  cell_of k b (n ∷ notes) = held_more (λ (u : Unit {0}). IsDefined (structs_in context) (base_type context.types b)) _ (base_rule context b) (base_fits context b) (λ u h. (starred_defined (structs_in context) (base_type context.types b) (n ∷ notes) h, pointer_inside k (note_of n) (base_type context.types b) notes))

  pub cell_fits : (k : ℕ) (n : t.TypeName) → Held (λ (u : Unit {0}). IsDefined (structs_in context) (written_type context.types n) × IsInside k (written_type context.types n)) (cell_type context k n)
  cell_fits k n = cell_of k n.base n.stars

  abbrev AFieldFits : ℕ → t.Field → Type 0
  AFieldFits k f = FieldFits (structs_in context) k (field_of context.types f).1

  abbrev pub AllFieldsFit : ℕ → List t.Field → Type 0
  AllFieldsFit k [] = Unit {0}
  AllFieldsFit k (f ∷ fs) = FieldFits (structs_in context) k (field_of context.types f).1 × AllFieldsFit k fs

  field_fits : (k : ℕ) (earlier : List (List ℕ)) (f : t.Field) → Held (λ (u : Unit {0}). AFieldFits k f) (field_rule context k earlier f)
  field_fits k earlier f =
      held_parts (λ (u : Unit {0}). IsDefined (structs_in context) (written_type context.types f.type_name) × IsInside k (written_type context.types f.type_name)) (λ (u : Unit {0}). Unit {0}) (λ (u : Unit {0}). AFieldFits k f) (cell_type context k f.type_name) (once f.name (is_among earlier f.name.text)) _
      (cell_fits k f.type_name) (held_always (Unit {0}) (once f.name (is_among earlier f.name.text)) tt)
      (λ u v h q. held_ruled (λ (u : Unit {0}). AFieldFits k f) f.spot (failing (is_empty f.length) TooBig) tt (λ e. record { defined = h.0; inside = h.1; counted = at_least_one f.length (not_failing (is_empty f.length) TooBig e) }))

  pub fields_fit : (k : ℕ) (earlier : List (List ℕ)) (fs : List t.Field) → Held (λ (u : Unit {0}). AllFieldsFit k fs) (fields_rule context k earlier fs)
  fields_fit k earlier [] = tt
  fields_fit k earlier (f ∷ fs) =
      held_front (λ (u : Unit {0}). AllFieldsFit k (f ∷ fs)) (before_fields context k (f ∷ fs)) _
      (held_parts (λ (u : Unit {0}). AFieldFits k f) (λ (u : Unit {0}). AllFieldsFit k fs) (λ (u : Unit {0}). AllFieldsFit k (f ∷ fs)) (field_rule context k earlier f) (fields_rule context k (earlier ++ f.name.text ∷ []) fs) _
      (field_fits k earlier f) (fields_fit k (earlier ++ f.name.text ∷ []) fs) (λ u v h q. (h, q)))

  pub field_in : (k : ℕ) (fs : List t.Field) → AllFieldsFit k fs → (j : ℕ) (f : p.Field) → slice_get (map (λ x. x.1) (map (field_of context.types) fs)) j ≡ Some f → FieldFits (structs_in context) k f
  field_in k [] h j f e = absurd cc
  field_in k (g ∷ fs) h zero f e = let same : (field_of context.types g).1 ≡ f = cc in subst (FieldFits (structs_in context) k) same h.0
  field_in k (g ∷ fs) h (suc j) f e = field_in k fs h.1 j f e

pub some_is : {A : Type 0} (a b : A) → Some a ≡ Some b → a ≡ b
some_is a b h = cc

or_more_names : (b : Bool) (ns : List (List ℕ)) (n : List ℕ) → (rest : List (List ℕ)) × ((if b then ns else ns ++ n ∷ []) ≡ ns ++ rest)
or_more_names true ns n = ([], sym (append-nil ns))
or_more_names false ns n = (n ∷ [], refl)

more_names : (ns ms : List (List ℕ)) → (rest : List (List ℕ)) × (with_all ns ms ≡ ns ++ rest)
more_names ns [] = ([], sym (append-nil ns))
more_names ns (m ∷ ms) =
    let one = or_more_names (is_among ns m) ns m in
    let all = more_names (with_new ns m) ms in
    (one.0 ++ all.0, all.1 ∙ ap (λ x. x ++ all.0) one.1 ∙ append_assoc ns one.0 all.0)

-- the structs that are defined are the first of the types
pub names_same : (is : List t.Item) → struct_names (context_of is) ≡ names_of (struct_definitions is)
names_same is =
    let ds = struct_definitions is in
    let m = more_names (names_of ds) (mentioned is) in
    ap (λ n. take n (types_in is)) (length-map ds (shape_of (types_in is)))
    ∙ ap (take (length ds)) m.1
    ∙ take_at (names_of ds) m.0 (length ds) (length-map ds (λ d. d.0))

fits_in : (m n : ℕ) → nat_lt m n ≡ false → n ≤ m
fits_in m n h = no_less m n h

module _ (context : Context) (all : List Definition) (names : struct_names context ≡ names_of all) where
  abbrev pub IsStruct : ℕ → Definition → Type 0
  IsStruct k d = AllFieldsFit context k d.1 × (size (structs_in context) (struct k) ≤ 4096)

  abbrev pub StructsFrom : ℕ → Type 0
  StructsFrom n = (k : ℕ) (d : Definition) → n ≤ k → slice_get all k ≡ Some d → IsStruct k d

  abbrev StructHolds : ℕ → Name → List t.Field → Type 0
  StructHolds n name fields = (is_defined_before n (place_of (struct_names context) name.text) ≡ false) × AllFieldsFit context n fields × (cells_of_struct context (place_of (struct_names context) name.text) ≤ 4096)

  struct_holds : (o : Outside) (at : Spot) (name : Name) (fields : List t.Field) → Held (λ (m : Made). StructHolds o.structs name fields) (item context o (t.struct at name fields))
  struct_holds o at name fields =
      held_parts (λ (u : Unit {0}). is_defined_before o.structs (place_of (struct_names context) name.text) ≡ false) (λ (u : Unit {0}). AllFieldsFit context o.structs fields) (λ (m : Made). StructHolds o.structs name fields)
      (once name (is_defined_before o.structs (place_of (struct_names context) name.text))) (fields_rule context o.structs [] fields) _
      (held_if (λ (u : Unit {0}). is_defined_before o.structs (place_of (struct_names context) name.text) ≡ false) (is_defined_before o.structs (place_of (struct_names context) name.text)) (fails name.spot Twice) (Holds tt) (λ e. tt) (λ e. e))
      (fields_fit context o.structs [] fields)
      (λ u v h q. held_ruled (λ (m : Made). StructHolds o.structs name fields) at (failing (nat_lt 4096 (cells_of_struct context (place_of (struct_names context) name.text))) TooBig) nothing_made
      (λ e. (h, q, no_less 4096 (cells_of_struct context (place_of (struct_names context) name.text)) (not_failing _ TooBig e))))

  -- a struct that isn't twice is new
  is_new : (ds rest : List Definition) (name : List ℕ) (o : Option ℕ) → all ≡ ds ++ rest → place_of (names_of ds) name ≡ o → is_defined_before (length ds) (place_of (struct_names context) name) ≡ false → o ≡ None
  is_new ds rest name None e h q = refl
  is_new ds rest name (Some k) e h q =
      let placed : place_of (struct_names context) name ≡ Some k = ap (λ x. place_of x name) (names ∙ ap names_of e ∙ map-append (λ d. d.0) ds rest) ∙ place_more (names_of ds) (names_of rest) name k h in
      let within : k < length ds = subst (λ x. k < x) (length-map ds (λ d. d.0)) (place_within (names_of ds) name k h) in
      let twice : nat_lt k (length ds) ≡ false = subst (λ x. is_defined_before (length ds) x ≡ false) placed q in
      absurd (before_not k (length ds) within twice)
    where
      before_not : (k n : ℕ) → k < n → nat_lt k n ≡ false → ⊥
      before_not k n h q = omega (arith, no_less k n q)

  placed_last : (ds rest : List Definition) (d : Definition) → all ≡ ds ++ d ∷ rest → place_of (names_of ds) d.0 ≡ None → place_of (struct_names context) d.0 ≡ Some (length ds)
  placed_last ds rest d e h = ap (λ x. place_of x d.0) (names ∙ ap names_of e ∙ map-append (λ d. d.0) ds (d ∷ rest)) ∙ place_new (names_of ds) (names_of rest) d.0 h ∙ ap Some (length-map ds (λ d. d.0))

  after_all : (n : ℕ) → length all ≡ n → StructsFrom n
  after_all n e k d h q = absurd (beyond (slice_get_within all k d q)) where
    beyond : k < length all → ⊥
    beyond w = omega arith

  module _ (ds : List Definition) (d : Definition) (is : List t.Item) (o : Outside) (count : o.structs ≡ length ds) (same : with_structs (with_definition ds d) is ≡ all) (at : Spot) (name : Name) (named : d.0 ≡ name.text) (holds : StructHolds o.structs name d.1) where
    with_rest : (b : Bool) → (rest : List Definition) × (with_structs (if b then ds else ds ++ d ∷ []) is ≡ ds ++ rest)
    with_rest b = or_more ds d is b (more_structs ds is) (more_structs (ds ++ d ∷ []) is)

    not_there : place_of (names_of ds) d.0 ≡ None
    not_there =
        let w = with_rest (is_among (names_of ds) d.0) in
        is_new ds w.0 d.0 (place_of (names_of ds) d.0) (sym same ∙ w.1) refl (subst (λ x. is_defined_before x (place_of (struct_names context) d.0) ≡ false) count (subst (λ x. is_defined_before o.structs (place_of (struct_names context) x) ≡ false) (sym named) holds.0))

    pub one_more_struct : with_structs (ds ++ d ∷ []) is ≡ all
    one_more_struct = subst (λ b. with_structs (if b then ds else ds ++ d ∷ []) is ≡ all) (ap is_some not_there) same

    rest_of : (rest : List Definition) × (all ≡ ds ++ d ∷ rest)
    rest_of = let m = more_structs (ds ++ d ∷ []) is in (m.0, sym one_more_struct ∙ m.1 ∙ append_assoc ds (d ∷ []) m.0)

    pub its_place : place_of (struct_names context) name.text ≡ Some (length ds)
    its_place = subst (λ x. place_of (struct_names context) x ≡ Some (length ds)) named (placed_last ds rest_of.0 d rest_of.1 not_there)

    pub next_count : behind_definition o.structs (place_of (struct_names context) name.text) ≡ length (ds ++ d ∷ [])
    next_count = rw its_place (let e = length-append ds (d ∷ []) in let f : max o.structs (suc (length ds)) ≡ length (ds ++ d ∷ []) = omega (arith, count, e) in f)

    pub from_here : StructsFrom (length (ds ++ d ∷ [])) → StructsFrom (length ds)
    from_here later k e h q = or_later (here_or_later (length ds) k h) where
      here_or_later : (n k : ℕ) → n ≤ k → (k ≡ n) ⊎ (suc n ≤ k)
      here_or_later n k h = grind arith

      or_later : (k ≡ length ds) ⊎ (suc (length ds) ≤ k) → IsStruct k e
      or_later (inl same_k) =
          let there : slice_get all (length ds) ≡ Some d = subst (λ x. slice_get x (length ds) ≡ Some d) (sym rest_of.1) (at_end ds rest_of.0 d) in
          let mine : slice_get all (length ds) ≡ Some e = subst (λ x. slice_get all x ≡ Some e) same_k q in
          let equal : d ≡ e = some_is d e (sym there ∙ mine) in (
            subst (λ x. AllFieldsFit context k x.1) equal (subst (λ x. AllFieldsFit context x d.1) (count ∙ sym same_k) holds.1),
            subst (λ x. size (structs_in context) (struct x) ≤ 4096) (sym same_k) (subst (λ x. cells_of_struct context x ≤ 4096) its_place holds.2),
          )
      or_later (inr more) = later k e (omega (arith, length-append ds (d ∷ []), more)) q

  pub structs_hold : (ds : List Definition) (is : List t.Item) (o : Outside) → o.structs ≡ length ds → with_structs ds is ≡ all → Held (λ (m : Made). StructsFrom (length ds)) (items context o is)
  structs_hold ds [] o count same = after_all (length ds) (ap length (sym same))
  structs_hold ds (t.global at n name c z ∷ is) o count same =
      held_front (λ (m : Made). StructsFrom (length ds)) (before_globals context o.structs (t.global at n name c z ∷ is)) _
      (held_parts (λ (m : Made). Unit {0}) (λ (m : Made). StructsFrom (length ds)) (λ (m : Made). StructsFrom (length ds)) (item context o (t.global at n name c z)) (items context (behind_item context o (t.global at n name c z)) is) _
      (held_always (Unit {0}) (item context o (t.global at n name c z)) tt) (structs_hold ds is (behind_item context o (t.global at n name c z)) count same) (λ a b h q. q))
  structs_hold ds (t.function at x result name params None ∷ is) o count same =
      held_parts (λ (m : Made). Unit {0}) (λ (m : Made). StructsFrom (length ds)) (λ (m : Made). StructsFrom (length ds)) (item context o (t.function at x result name params None)) (items context (behind_item context o (t.function at x result name params None)) is) _
      (held_always (Unit {0}) (item context o (t.function at x result name params None)) tt) (structs_hold ds is (behind_item context o (t.function at x result name params None)) count same) (λ a b h q. q)
  structs_hold ds (t.function at x result name params (Some body) ∷ is) o count same =
      held_parts (λ (m : Made). Unit {0}) (λ (m : Made). StructsFrom (length ds)) (λ (m : Made). StructsFrom (length ds)) (item context o (t.function at x result name params (Some body))) (items context (behind_item context o (t.function at x result name params (Some body))) is) _
      (held_always (Unit {0}) (item context o (t.function at x result name params (Some body))) tt) (structs_hold ds is (behind_item context o (t.function at x result name params (Some body))) count same) (λ a b h q. q)
  structs_hold ds (t.struct at name fields ∷ is) o count same =
      held_then (StructHolds o.structs name fields) (λ (m : Made). StructsFrom (length (ds ++ (name.text, fields) ∷ []))) (λ (m : Made). StructsFrom (length ds)) (item context o (t.struct at name fields)) (items context (behind_item context o (t.struct at name fields)) is) _
      (struct_holds o at name fields)
      (λ k. structs_hold (ds ++ (name.text, fields) ∷ []) is (behind_item context o (t.struct at name fields)) (next_count ds (name.text, fields) is o count same at name refl k) (one_more_struct ds (name.text, fields) is o count same at name refl k))
      (λ a b k q. from_here ds (name.text, fields) is o count same at name refl k q)
