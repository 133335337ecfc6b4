-- Region code whose parts fit together is sayable. Whatever stands in a temporary is of a type that is defined: so are the types that
-- operations, forks, tests and acts name, for they name those of the temporaries that they take.
use Rattle.std.proofs.Common.{◌≡◌, ◌<◌, ℕ, zero, suc, ◌+◌, Bool, true, false, not, List, [], ◌∷◌, ◌++◌, length, map, get_or, Option, Some, None, refl, sym, ap, ◌∙◌, subst, arith}
use Rattle.std.proofs.lemmas.Bool.{false≢true}
use Rattle.std.specs.Prelude.{is_some, IsTrue, IsSome, IfSome, slice_get, option_map}
use Rattle.std.specs.List.{AllByRecursion as Every}
use Rattle.std.proofs.lemmas.Option.{get_or_from_slice_get}
use Rattle.rc_core.specs.declared.ty.NumberType.{NumberType}
use Rattle.rc_core.specs.declared.ty.NumberType.TheVariants.{Int, Unsigned, Char}
use Rattle.rc_core.specs.declared.ty.Signedness.{Signedness}
use Rattle.rc_core.specs.declared.operators.UnaryOperator.{UnaryOperator}
use Rattle.rc_core.specs.declared.operators.UnaryOperator.TheVariants.{Negate, Plus, Complement}
use Rattle.rc_core.specs.declared.stmt.Change.{Change}
use Rattle.rc_core.specs.declared.stmt.Change.TheVariants.{Compute, Step as Stepping}
use Rattle.rc_core.specs.Types.{Ty, int, unsigned, char, region, struct, pointer, CellKind, int_cell, unsigned_cell, char_cell, region_cell, pointer_cell}
use Rattle.rc_core.specs.Layout.{Layout, cells, size}
use Rattle.rc_core.specs.Typing.{number, arithmetic, value_type, is_pointer, is_struct, is_comparison, IsDefined}
use Rattle.rc_core.specs.Programs.{Global}
use Rattle.rc_core.specs.WellTyped.{IsVariable}
use Rattle.rc_safety.proofs.Lists.{every_append, every_split, every_map, every_get_or}
use Rattle.rc_rlang.specs.RegionCode.{Access, Operation, constant, null, static, copy, load, step, step_from, unary, binary, convert, not_zero, truth, is_null, same, call, new_region, new_subregion, region_of, allocate, allocate_array, putchar, getchar, Step, set, fork, Steps, none, more, Act, drop, perform, assign, store, update, move, delete, leave, Test, Code, simple, clear, block, branch, loop, repeat, break, continue, Codes, done, then, Routine, Rlang}
use Rattle.rc_rlang.specs.RegionNames.{object_type, given_type, routine_type, result_type, cells_before, HasThere, AccessStands, CellStands, OperationStands, StepStands, StepsStand, ChangeStands, ActStands, CodeStands, CodesStand}
use Rattle.rc_rlang.specs.RegionNames.{IsCalled as IsNamed}
use Rattle.rc_rlang.specs.RegionFits.{place_types, operands, pushed, dropped, step_types, steps_types, StepFits, StepsFit, ActFits, test_types, CodeFits, CodesFit}
use Rattle.rc_rlang.specs.RegionKinds.{kind_ty, result_kind, OperationKinded, StepKinded, StepsKinded, CodeKinded, CodesKinded}
use Rattle.rc_translation.proofs.Defined.{every_of, value_defined, arithmetic_defined, number_defined}
use Rattle.rc_translation.proofs.RulesWhole.{IsWholeRoutine, IsWhole}
use Rattle.rc_emission.specs.StatementCode.{cell_type, further}
use Rattle.rc_stack_rules.specs.LoaderRules.{kinds}
use Rattle.rc_numbering.specs.Sayable.{is_char, has_unary_row, cell_for, AccessFits, result_types, IsCalled, result_in, OperationSayable, StepSayable, StepsSayable, CellsFit, ChangeSayable, ActSayable, TestSayable, CodeSayable, CodesSayable}
use Rattle.rc_numbering.proofs.Lines.{reference_has_null}
use Rattle.rc_numbering.proofs.Placed.{one_fits, access_fits}

abbrev result_given : Option Routine → Option Ty
result_given None = None
result_given (Some f) = f.result

no_struct : (kind : CellKind) → IsTrue (not (is_struct (cell_type kind)))
no_struct int_cell = refl
no_struct unsigned_cell = refl
no_struct char_cell = refl
no_struct region_cell = refl
no_struct (pointer_cell note target) = refl

cell_again : (kind : CellKind) → kind ≡ cell_for (cell_type kind)
cell_again int_cell = refl
cell_again unsigned_cell = refl
cell_again char_cell = refl
cell_again region_cell = refl
cell_again (pointer_cell note target) = refl

number_no_struct : (n : NumberType) → IsTrue (not (is_struct (number n)))
number_no_struct Int = refl
number_no_struct Unsigned = refl
number_no_struct Char = refl

pointer_no_struct : (t : Ty) → IsTrue (is_pointer t) → IsTrue (not (is_struct t))
pointer_no_struct int p = refl
pointer_no_struct unsigned p = refl
pointer_no_struct char p = refl
pointer_no_struct region p = refl
pointer_no_struct (struct k) p = absurd (false≢true p)
pointer_no_struct (pointer note target) p = refl

unary_has_row : (operator : UnaryOperator) → ¬ (operator ≡ Plus) → IsTrue (has_unary_row operator)
unary_has_row Negate n = refl
unary_has_row Plus n = absurd (n refl)
unary_has_row Complement n = refl

value_kind : (t : Ty) → kind_ty (value_type t) ≡ kind_ty t
value_kind int = refl
value_kind unsigned = refl
value_kind char = refl
value_kind region = refl
value_kind (struct k) = refl
value_kind (pointer note target) = refl

counted_same : (o : Option Ty) → kinds (result_types (option_map value_type o)) ≡ kinds (result_types o)
counted_same None = refl
counted_same (Some t) = ap (λ k. k ∷ []) (value_kind t)

no_result : (o : Option Ty) → is_some o ≡ false → o ≡ None
no_result None e = refl
no_result (Some t) e = absurd (false≢true (sym e))

module _ (r : Rlang) (whole : IsWhole r) where
  abbrev D : Ty → Type 0
  D t = IsDefined r.structs t

  abbrev pub AllDefined : List Ty → Type 0
  AllDefined tys = Every D tys

  -- types are defined where their kinds are

  to_kind : (t : Ty) → D t → D (kind_ty t)
  to_kind int d = tt
  to_kind unsigned d = tt
  to_kind char d = tt
  to_kind region d = tt
  to_kind (struct k) d = d
  to_kind (pointer note target) d = d

  from_kind : (t : Ty) → D (kind_ty t) → D t
  from_kind int d = tt
  from_kind unsigned d = tt
  from_kind char d = tt
  from_kind region d = tt
  from_kind (struct k) d = d
  from_kind (pointer note target) d = d

  by_kind : (t k : Ty) → kind_ty t ≡ k → D k → D t
  by_kind t k e d = from_kind t (subst D (sym e) d)

  same_kind : (t u : Ty) → kind_ty t ≡ kind_ty u → D u → D t
  same_kind t u e d = by_kind t (kind_ty u) e (to_kind u d)

  result_kind_defined : (comparison : Bool) (s : Signedness) → D (result_kind comparison s)
  result_kind_defined true s = tt
  result_kind_defined false s = arithmetic_defined r.structs s

  -- those of globals and of results

  globals_defined : (gs : List Global) → ((k : ℕ) (g : Global) → slice_get gs k ≡ Some g → D g.ty) → AllDefined (map (λ (g : Global). g.ty) gs)
  globals_defined [] each = tt
  globals_defined (g ∷ gs) each = (each 0 g refl, globals_defined gs (λ k h e. each (suc k) h e))

  object_defined : (g : ℕ) → D (object_type r g)
  object_defined g =
      every_get_or D (map (λ (d : Global). d.ty) r.globals ++ map (λ (bytes : List ℕ). char) r.strings) g int tt
      (every_append D (map (λ (d : Global). d.ty) r.globals) (map (λ (bytes : List ℕ). char) r.strings) (globals_defined r.globals (λ k d e. (whole.globals k d e).defined)) (every_map D (λ (bytes : List ℕ). char) (λ bytes. tt) r.strings))

  given_defined : (o : Option Ty) → IfSome o (IsVariable r.structs) → D (given_type o)
  given_defined None v = tt
  given_defined (Some t) v = value_defined r.structs t v.0

  called_defined : (g : ℕ) (tys : List Ty) (gives : Bool) → IsNamed r g tys gives → D (result_type r g)
  called_defined g tys gives c = subst D (sym (ap routine_type c.1.0)) (given_defined c.0.result (whole.functions g c.0 c.1.0).result)

  -- calls

  is_called : (g : ℕ) (tys : List Ty) (gives : Bool) → IsNamed r g tys gives → IsCalled r g tys
  is_called g tys gives c = record { routine = c.0; there = c.1.0; parameters_are = c.1.1; few = (whole.functions g c.0 c.1.0).parameters }

  result_there : (g : ℕ) (tys : List Ty) (gives : Bool) (c : IsNamed r g tys gives) → result_in r g ≡ c.0.result
  result_there g tys gives c = ap result_given c.1.0

  -- accesses

  cell_fits : (a : Access) → AccessStands r a → D a.element → IsTrue (not (is_struct a.cell)) → AccessFits r.structs a
  cell_fits a stands defined single = access_fits r.structs whole.structs a stands.nested stands.there defined single

  -- the cells of a struct one after another, from that with number n on
  cell_of : (a b : Access) (s n : ℕ) → AccessStands r a → a.cell ≡ struct s → D a.element → b ≡ record a { offset = a.offset + n } → n < size r.structs (struct s) → AccessFits r.structs (record b { cell = cell_type (get_or (cells r.structs (struct s)) n int_cell) })
  cell_of a b s n stands is defined e lt =
      let kind = get_or (cells r.structs (struct s)) n int_cell in
      subst (λ (c : Access). AccessFits r.structs (record c { cell = cell_type kind })) (sym e)
      (one_fits r.structs whole.structs (record a { offset = a.offset + n; cell = cell_type kind }) a.offset n (struct s) stands.nested
      (λ chosen ok. subst (HasThere r.structs (cells r.structs a.element) (a.offset + cells_before a.indices chosen)) is (stands.there chosen ok)) refl lt defined (no_struct kind) (cell_again kind))

  further_is : (a b : Access) (n : ℕ) → b ≡ record a { offset = a.offset + n } → further b ≡ record a { offset = a.offset + suc n }
  further_is a b n e = ap further e ∙ (let q : suc (a.offset + n) ≡ a.offset + suc n = omega arith in ap (λ o. record a { offset = o }) q)

  same_access : (a : Access) → a ≡ record a { offset = a.offset + 0 }
  same_access a = let q : a.offset ≡ a.offset + 0 = omega arith in ap (λ o. record a { offset = o }) q

  module _ (f : Routine) (own : IsWholeRoutine r f) where
    abbrev Stand : Ty → Operation → Type 0
    Stand ty op = OperationStands r f.locals f.result ty op

    abbrev Kinded : Ty → Operation → Type 0
    Kinded ty op = OperationKinded f.locals (object_type r) (result_type r) ty op

    local_defined : (x : ℕ) → D (get_or f.locals x int)
    local_defined x = every_get_or D f.locals x int tt (every_of D f.locals (λ y t e. (own.locals y t e).0))

    loaded : (a : Access) → CellStands r a → AllDefined (place_types a) → AccessFits r.structs a
    loaded a stands taken = cell_fits a stands.0 taken.0 stands.1

    -- an operation on defined types gives one of a defined type
    operation_defined : (ty : Ty) (op : Operation) → AllDefined (operands ty op) → Stand ty op → Kinded ty op → D ty
    operation_defined ty (constant s n) taken stands kinded = by_kind ty (arithmetic s) kinded (arithmetic_defined r.structs s)
    operation_defined ty null taken stands kinded = stands
    operation_defined ty (static g) taken stands kinded = by_kind ty _ kinded (object_defined g)
    operation_defined ty (copy x) taken stands kinded = same_kind ty (get_or f.locals x int) kinded (local_defined x)
    operation_defined ty (load a) taken stands kinded = same_kind ty a.cell kinded (loaded a stands taken).cell_defined
    operation_defined ty (step direction pointed n) taken stands kinded = same_kind ty pointed kinded.0 taken.0
    operation_defined ty (step_from n pointed) taken stands kinded = same_kind ty pointed kinded.0 taken.1.0
    operation_defined ty (unary operator s) taken stands kinded = by_kind ty (arithmetic s) kinded (arithmetic_defined r.structs s)
    operation_defined ty (binary operator s right) taken stands kinded = by_kind ty (result_kind (is_comparison operator) s) kinded.0 (result_kind_defined (is_comparison operator) s)
    operation_defined ty (convert from to) taken stands kinded = same_kind ty (number to) kinded (number_defined r.structs to)
    operation_defined ty (not_zero of) taken stands kinded = by_kind ty int kinded tt
    operation_defined ty (truth of) taken stands kinded = by_kind ty int kinded tt
    operation_defined ty (is_null wanted of) taken stands kinded = by_kind ty int kinded tt
    operation_defined ty (same wanted of) taken stands kinded = by_kind ty int kinded tt
    operation_defined ty (call g tys) taken stands kinded = same_kind ty (result_type r g) kinded (called_defined g tys true stands)
    operation_defined ty new_region taken stands kinded = by_kind ty region kinded tt
    operation_defined ty new_subregion taken stands kinded = by_kind ty region kinded tt
    operation_defined ty (region_of of) taken stands kinded = by_kind ty region kinded tt
    operation_defined ty (allocate made layout) taken stands kinded = by_kind ty _ kinded stands.0
    operation_defined ty (allocate_array made layout) taken stands kinded = by_kind ty _ kinded stands.0
    operation_defined ty putchar taken stands kinded = by_kind ty int kinded tt
    operation_defined ty getchar taken stands kinded = by_kind ty int kinded tt

    operation_said : (ty : Ty) (op : Operation) → AllDefined (operands ty op) → Stand ty op → OperationSayable r f ty op
    operation_said ty (constant s n) taken stands = stands
    operation_said ty null taken stands = tt
    operation_said ty (static g) taken stands = stands
    operation_said ty (copy x) taken stands = tt
    operation_said ty (load a) taken stands = loaded a stands taken
    operation_said ty (step direction pointed n) taken stands = (taken.0, stands)
    operation_said ty (step_from n pointed) taken stands = (taken.0, taken.1.0, stands)
    operation_said ty (unary operator s) taken stands = unary_has_row operator stands
    operation_said ty (binary operator s right) taken stands = tt
    operation_said ty (convert from to) taken stands = tt
    operation_said ty (not_zero of) taken stands = taken.0
    operation_said ty (truth of) taken stands = taken.0
    operation_said ty (is_null wanted of) taken stands = (taken.0, reference_has_null of stands)
    operation_said ty (same wanted of) taken stands = (taken.0, reference_has_null of stands)
    operation_said ty (call g tys) taken stands = (is_called g tys true stands, subst IsSome (sym (result_there g tys true stands)) stands.1.2)
    operation_said ty new_region taken stands = tt
    operation_said ty new_subregion taken stands = tt
    operation_said ty (region_of of) taken stands = (taken.0, stands)
    operation_said ty (allocate made layout) taken stands = stands
    operation_said ty (allocate_array made layout) taken stands = stands
    operation_said ty putchar taken stands = tt
    operation_said ty getchar taken stands = tt

    -- ---- steps

    pushed_defined : (tys below : List Ty) → AllDefined (pushed tys below) → AllDefined tys × AllDefined below
    pushed_defined [] below all = (tt, all)
    pushed_defined (t ∷ tys) below all = let p = pushed_defined tys (t ∷ below) all in ((p.1.0, p.0), p.1.1)

    dropped_defined : (n : ℕ) (tys : List Ty) → AllDefined tys → AllDefined (dropped n tys)
    dropped_defined zero tys all = all
    dropped_defined (suc n) [] all = tt
    dropped_defined (suc n) (t ∷ tys) all = dropped_defined n tys all.1

    mutual
      step_said : (s : Step) (base : ℕ) (tys : List Ty) → AllDefined tys → StepFits s base tys → StepStands r f.locals f.result s → StepKinded f.locals (object_type r) (result_type r) s → StepSayable r f s × AllDefined (step_types s tys)
      step_said (set line h ty op) base tys all fits stands kinded =
          let taken = (pushed_defined (operands ty op) fits.0 (subst AllDefined fits.1 all)).0 in
          let d = operation_defined ty op taken stands kinded in
          ((d, operation_said ty op taken stands), (d, dropped_defined (length (operands ty op)) tys all))
      step_said (fork line h test result a b) base [] all fits stands kinded = absurd fits
      step_said (fork line h test result a b) base (ty ∷ below) all fits stands kinded =
          let yes = steps_said a h [] tt fits.2 stands.0 kinded.0 in
          let no = steps_said b h [] tt fits.4 stands.1 kinded.1 in
          let left : D result = (subst AllDefined fits.3 yes.1).0 in
          ((subst D fits.0 all.0, left, yes.0, no.0), (left, all.1))

      steps_said : (s : Steps) (base : ℕ) (tys : List Ty) → AllDefined tys → StepsFit s base tys → StepsStand r f.locals f.result s → StepsKinded f.locals (object_type r) (result_type r) s → StepsSayable r f s × AllDefined (steps_types s tys)
      steps_said none base tys all fits stands kinded = (tt, all)
      steps_said (more s rest) base tys all fits stands kinded =
          let first = step_said s base tys all fits.0 stands.0 kinded.0 in
          let others = steps_said rest base (step_types s tys) first.1 fits.1 stands.1 kinded.1 in
          ((first.0, others.0), others.1)

    -- ---- acts

    local_kept : (x : ℕ) (t : Ty) → slice_get f.locals x ≡ Some t → is_char (get_or f.locals x int) ≡ is_char t
    local_kept x t e = ap is_char (get_or_from_slice_get f.locals x t int e)

    act_operands : (tys own_types : List Ty) → AllDefined tys → tys ≡ pushed own_types [] → AllDefined own_types
    act_operands tys own_types all e = (pushed_defined own_types [] (subst AllDefined e all)).0

    change_said : (change : Change) (cell : Ty) → ChangeStands r f.locals f.result change cell → IsTrue (not (is_struct cell)) × ChangeSayable r f change cell
    change_said (Compute from operator s) cell stands = (subst (λ t. IsTrue (not (is_struct t))) (sym stands) (number_no_struct from), tt)
    change_said (Stepping direction) cell stands = (pointer_no_struct cell stands, stands)

    cells_fit : (left right : Access) (s : ℕ) → AccessStands r left → AccessStands r right → left.cell ≡ struct s → right.cell ≡ struct s → D left.element → D right.element → (layout : Layout) (n : ℕ) (a b : Access) → a ≡ record left { offset = left.offset + n } → b ≡ record right { offset = right.offset + n }
        → n + length layout ≡ size r.structs (struct s) → ((k : ℕ) → k < length layout → get_or layout k int_cell ≡ get_or (cells r.structs (struct s)) (n + k) int_cell) → CellsFit r f layout a b
    cells_fit left right s sl sr il ir dl dr [] n a b ea eb long is = tt
    cells_fit left right s sl sr il ir dl dr (kind ∷ layout) n a b ea eb long is =
        let first : kind ≡ get_or (cells r.structs (struct s)) n int_cell = is 0 (omega arith) ∙ (let q : n + 0 ≡ n = omega arith in ap (λ m. get_or (cells r.structs (struct s)) m int_cell) q) in (
          subst (λ k. AccessFits r.structs (record a { cell = cell_type k })) (sym first) (cell_of left a s n sl il dl ea (omega (arith, long))),
          subst (λ k. AccessFits r.structs (record b { cell = cell_type k })) (sym first) (cell_of right b s n sr ir dr eb (omega (arith, long))),
          cells_fit left right s sl sr il ir dl dr layout (suc n) (further a) (further b) (further_is left a n ea) (further_is right b n eb) (omega (arith, long))
              (λ k lt. is (suc k) (omega (arith, lt)) ∙ (let q : n + suc k ≡ suc n + k = omega arith in ap (λ m. get_or (cells r.structs (struct s)) m int_cell) q)),
        )

    move_said : (layout : Layout) (left right : Access) (s : ℕ) → layout ≡ cells r.structs (struct s) → left.cell ≡ struct s → right.cell ≡ struct s → AccessStands r left → AccessStands r right → D left.element → D right.element → CellsFit r f layout left right
    move_said layout left right s e il ir sl sr dl dr =
        cells_fit left right s sl sr il ir dl dr layout 0 left right (same_access left) (same_access right) (let l = ap length e in omega (arith, l))
        (λ k lt. ap (λ ks. get_or ks k int_cell) e ∙ (let q : k ≡ 0 + k = omega arith in ap (λ m. get_or (cells r.structs (struct s)) m int_cell) q))

    act_said : (act : Act) (tys : List Ty) → AllDefined tys → ActFits act tys → ActStands r f.locals f.result act → ActSayable r f act
    act_said drop tys all fits stands = tt
    act_said (perform line g parameters) tys all fits stands = (is_called g parameters false stands, result_there g parameters false stands ∙ no_result stands.0.result stands.1.2)
    act_said (assign line x ty) tys all fits stands = local_kept x ty stands
    act_said (store line a) tys all fits stands = cell_fits a stands.0 (act_operands tys (place_types a ++ value_type a.cell ∷ []) all fits).0 stands.1
    act_said (update line a change ty) tys all fits stands =
        let taken = act_operands tys (place_types a ++ ty ∷ []) all fits in
        let changed = change_said change a.cell stands.1 in
        (cell_fits a stands.0 taken.0 changed.0, (every_split D (place_types a) (ty ∷ []) taken).1.0, changed.1)
    act_said (move line layout left right) tys all fits stands =
        let taken = act_operands tys (place_types left ++ place_types right) all fits in
        move_said layout left right stands.0 stands.1.2 stands.1.3 stands.1.4 stands.1.5 stands.1.6 taken.0 (every_split D (place_types left) (place_types right) taken).1.0
    act_said (delete line) tys all fits stands = tt
    act_said (leave line result) tys all fits stands = ap (λ o. kinds (result_types o)) stands ∙ counted_same f.result

    -- ---- statements

    test_said : (test : Option Test) (tys : List Ty) → AllDefined tys → tys ≡ test_types test → TestSayable r f test
    test_said None tys all e = tt
    test_said (Some test) tys all e = (subst AllDefined e all).0

    mutual
      pub code_said : (looping : Bool) (c : Code) → CodeFits c → CodeStands r f.locals f.result looping c → CodeKinded f.locals (object_type r) (result_type r) c → CodeSayable r f c
      code_said looping (simple steps act) fits stands kinded = let s = steps_said steps 0 [] tt fits.0 stands.0 kinded.0 in (s.0, act_said act (steps_types steps []) s.1 fits.1 stands.1)
      code_said looping (clear line x ty) fits stands kinded = (local_kept x ty stands, (own.locals x ty stands).0)
      code_said looping (block codes) fits stands kinded = codes_said looping codes fits stands kinded
      code_said looping (branch steps test a b) fits stands kinded =
          let s = steps_said steps 0 [] tt fits.0 stands.0 kinded.0 in
          (s.0, test_said (Some test) (steps_types steps []) s.1 fits.1, code_said looping a fits.2 stands.1 kinded.1, code_said looping b fits.3 stands.2 kinded.2)
      code_said looping (loop line steps test third a) fits stands kinded =
          let s = steps_said steps 0 [] tt fits.0 stands.0 kinded.0 in
          (s.0, test_said test (steps_types steps []) s.1 fits.1, code_said false third fits.2 stands.1 kinded.1, code_said true a fits.3 stands.2 kinded.2)
      code_said looping (repeat line a steps test) fits stands kinded =
          let s = steps_said steps 0 [] tt fits.1 stands.1 kinded.1 in
          (code_said true a fits.0 stands.0 kinded.0, s.0, test_said (Some test) (steps_types steps []) s.1 fits.2)
      code_said looping (break line) fits stands kinded = tt
      code_said looping (continue line) fits stands kinded = tt

      codes_said : (looping : Bool) (codes : Codes) → CodesFit codes → CodesStand r f.locals f.result looping codes → CodesKinded f.locals (object_type r) (result_type r) codes → CodesSayable r f codes
      codes_said looping done fits stands kinded = tt
      codes_said looping (then c rest) fits stands kinded = (code_said looping c fits.0 stands.0 kinded.0, codes_said looping rest fits.1 stands.1 kinded.1)
