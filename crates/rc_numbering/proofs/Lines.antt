-- Sayable region code becomes sayable stack code.
use Rattle.std.proofs.Common.{◌≡◌, ◌<◌, ℕ, zero, suc, ◌+◌, Bool, true, false, ◌||◌, ◌&&◌, List, [], ◌∷◌, ◌++◌, length, Option, Some, None, refl, sym, ap, ◌∙◌, subst, arith, length-append}
use Rattle.std.specs.Prelude.{IsTrue, is_some, get_or}
use Rattle.rc_core.specs.declared.ty.NumberType.{NumberType}
use Rattle.rc_core.specs.declared.ty.NumberType.TheVariants.{Int, Unsigned, Char}
use Rattle.rc_core.specs.declared.ty.Signedness.{Signedness}
use Rattle.rc_core.specs.declared.operators.Operator.{Operator}
use Rattle.rc_core.specs.declared.operators.Operator.TheVariants.{Multiply, Divide, Remainder, Add, Subtract, ShiftLeft, ShiftRight, Less, Greater, LessEqual, GreaterEqual, Equal, NotEqual, And, Xor, Or}
use Rattle.rc_core.specs.declared.stmt.Change.{Change}
use Rattle.rc_core.specs.declared.stmt.Change.TheVariants.{Compute, Step as Stepping}
use Rattle.rc_core.specs.Types.{Ty, int, unsigned, char, region, struct, pointer}
use Rattle.rc_core.specs.Layout.{Layout}
use Rattle.rc_core.specs.Arithmetic.{type_of}
use Rattle.rc_core.specs.Typing.{IsDefined, is_reference, is_shift}
use Rattle.rc_core.specs.Live.{Ways, then_live, round, at_end}
use Rattle.rc_rlang.specs.RegionCode as From
use Rattle.rc_rlang.specs.RegionCode.{Access, width, Operation, Step, Steps, Act, Test, Code, Codes, Routine, Rlang}
use Rattle.rc_rlang.specs.RegionFits.{place_types, pushed, act_types, step_types, steps_types, ActFits}
use Rattle.rc_rlang.specs.RegionKinds.{OperationKinded, StepKinded, StepsKinded, CodeKinded, CodesKinded}
use Rattle.rc_rlang.specs.RegionLive.{before_steps, before_act, before_code, before_codes, loop_head, repeat_tail}
use Rattle.rc_emission.specs.StackCode.{Instruction, Line}
use Rattle.rc_emission.specs.StackCode as To
use Rattle.rc_emission.specs.OperationCode.{wide, at, zero_test, test_code, wanted_code, compared, count_code, convert_code, spills, reloads}
use Rattle.rc_emission.specs.StatementCode.{Place, zero_code, call_pins, further, exit_test, exit_lines, set_code, gets, steps_lines, step_lines, change_code, cells_code, pops, last_line, act_lines, code_lines, codes_lines, end_lines, body_lines}
use Rattle.rc_emission.specs.KeptOperands.{same_kept, once, kept_code, Kept, slots_of}
use Rattle.rc_emission.specs.Served.{AllKept, OperationKeeps, StepServed, StepsServed, ActKeeps, CodeServed, CodesServed}
use Rattle.rc_emission.specs.Means.{IsThere, Serves}
use Rattle.rc_emission.proofs.Ordered.{code_served}
use Rattle.rc_emission.proofs.SameOperands.{kept_is, kept_self}
use Rattle.rc_emission.proofs.TableLaws.{there_in, table_types}
use Rattle.rc_emission.proofs.TableServes.{body_serves}
use Rattle.rc_stack_rules.specs.LoaderRules.{kinds}
use Rattle.rc_stack_rules.specs.Loadable.{all_locals}
use Rattle.rc_stack_rules.specs.Named.{ActSets, CodeSets, CodesSet, HasLocals}
use Rattle.rc_numbering.specs.Means.{ResultDefined}
use Rattle.rc_numbering.specs.Sayable.{is_char, has_null, Sayable, EachSayable, AllSayable, OperationSayable, StepSayable, StepsSayable, CellsFit, ChangeSayable, ActSayable, TestSayable, CodeSayable, CodesSayable, result_types}

pub reference_has_null : (t : Ty) → IsTrue (is_reference t) → IsTrue (has_null t)
reference_has_null int e = absurd (cc e)
reference_has_null unsigned e = absurd (cc e)
reference_has_null char e = absurd (cc e)
reference_has_null region e = refl
reference_has_null (struct k) e = refl
reference_has_null (pointer note target) e = refl

module _ (r : Rlang) (f : Routine) (slot : ℕ → Ty → ℕ) (deleting : ℕ → Bool) (Has : ℕ → Ty → Type 0)
    (slot_is : (h : ℕ) (ty : Ty) → Has h ty → is_char (get_or (all_locals f) (slot h ty) int) ≡ is_char (wide ty))
    (local_is : (x : ℕ) → x < length f.locals → get_or (all_locals f) x int ≡ get_or f.locals x int) (global_ty result_ty : ℕ → Ty) where
  abbrev types : List Ty
  types = f.locals

  abbrev Each : List Instruction → Type 0
  Each is = EachSayable r f deleting is

  abbrev All : List Line → Type 0
  All is = AllSayable r f deleting is

  each_append : (a b : List Instruction) → Each a → Each b → Each (a ++ b)
  each_append [] b x y = y
  each_append (i ∷ a) b x y = (x.0, each_append a b x.1 y)

  pub all_append : (a b : List Line) → All a → All b → All (a ++ b)
  all_append [] b x y = y
  all_append (i ∷ a) b x y = (x.0, all_append a b x.1 y)

  at_said : (line : ℕ) (is : List Instruction) → Each is → All (at line is)
  at_said line [] x = tt
  at_said line (i ∷ is) x = (x.0, at_said line is x.1)

  zero_said : (ty : Ty) → IsDefined r.structs ty → Each (zero_test ty)
  zero_said int d = (tt, tt)
  zero_said unsigned d = (tt, (tt, tt))
  zero_said char d = (tt, tt)
  zero_said region d = ((d, refl), tt)
  zero_said (struct k) d = ((d, refl), tt)
  zero_said (pointer note target) d = ((d, refl), tt)

  test_said : (ty : Ty) → IsDefined r.structs ty → Each (test_code ty)
  test_said int d = tt
  test_said unsigned d = (tt, tt)
  test_said char d = tt
  test_said region d = ((d, refl), (tt, tt))
  test_said (struct k) d = ((d, refl), (tt, tt))
  test_said (pointer note target) d = ((d, refl), (tt, tt))

  wanted_said : (b : Bool) → Each (wanted_code b)
  wanted_said true = tt
  wanted_said false = (tt, tt)

  count_said : (b : Bool) (ty : Ty) → Each (count_code b ty)
  count_said true int = tt
  count_said true unsigned = (tt, tt)
  count_said true char = tt
  count_said true region = tt
  count_said true (struct k) = tt
  count_said true (pointer note target) = tt
  count_said false ty = tt

  compared_said : (operator : Operator) (s : Signedness) → Each (compared operator s)
  compared_said Multiply s = (refl, tt)
  compared_said Divide s = (refl, tt)
  compared_said Remainder s = (refl, tt)
  compared_said Add s = (refl, tt)
  compared_said Subtract s = (refl, tt)
  compared_said ShiftLeft s = (refl, tt)
  compared_said ShiftRight s = (refl, tt)
  compared_said Less s = (refl, tt)
  compared_said Greater s = (refl, (tt, tt))
  compared_said LessEqual s = (refl, tt)
  compared_said GreaterEqual s = (refl, (tt, tt))
  compared_said Equal s = (refl, tt)
  compared_said NotEqual s = (refl, (tt, tt))
  compared_said And s = (refl, tt)
  compared_said Xor s = (refl, tt)
  compared_said Or s = (refl, tt)

  convert_said : (from to : NumberType) → Each (convert_code from to)
  convert_said Int Int = tt
  convert_said Int Unsigned = (tt, tt)
  convert_said Int Char = (tt, tt)
  convert_said Unsigned Int = (tt, tt)
  convert_said Unsigned Unsigned = tt
  convert_said Unsigned Char = (tt, (tt, tt))
  convert_said Char Int = tt
  convert_said Char Unsigned = (tt, tt)
  convert_said Char Char = tt

  zero_value_said : (ty : Ty) → IsDefined r.structs ty → Sayable r f deleting (zero_code ty)
  zero_value_said int d = refl
  zero_value_said unsigned d = refl
  zero_value_said char d = refl
  zero_value_said region d = (d, refl)
  zero_value_said (struct k) d = (d, refl)
  zero_value_said (pointer note target) d = (d, refl)

  pins_right : (b : Bool) (pins : List ℕ) → b ≡ false → call_pins b pins ≡ []
  pins_right true pins e = absurd (cc e)
  pins_right false pins e = refl

  set_said : (h : ℕ) (ty : Ty) (op : Operation) (live : ℕ → Bool) → OperationKeeps Has types h op → OperationSayable r f ty op → OperationKinded (all_locals f) global_ty result_ty ty op → IsDefined r.structs ty → Each (set_code slot deleting types h ty op live)
  set_said h ty (From.constant s n) live keeps said kinded d = (said, tt)
  set_said h ty From.null live keeps said kinded d = ((d, reference_has_null ty kinded), tt)
  set_said h ty (From.static g) live keeps said kinded d = (said, tt)
  set_said h ty (From.copy x) live keeps said kinded d = (tt, tt)
  set_said h ty (From.load a) live keeps said kinded d = (said, tt)
  set_said h ty (From.step direction pointed n) live keeps said kinded d = (said, tt)
  set_said h ty (From.step_from n pointed) live keeps said kinded d = (slot_is (suc h) pointed keeps.1, (slot_is h n keeps.0, (tt, (tt, ((said.1, said.2), tt)))))
  set_said h ty (From.unary operator s) live keeps said kinded d = (said, tt)
  set_said h ty (From.binary operator s right) live keeps said kinded d = each_append (count_code (is_shift operator) right) (compared operator s) (count_said (is_shift operator) right) (compared_said operator s)
  set_said h ty (From.convert from to) live keeps said kinded d = convert_said from to
  set_said h ty (From.not_zero of) live keeps said kinded d = zero_said of said
  set_said h ty (From.truth of) live keeps said kinded d = each_append (zero_test of) (To.zero_test ∷ []) (zero_said of said) (tt, tt)
  set_said h ty (From.is_null wanted of) live keeps said kinded d = (said, wanted_said wanted)
  set_said h ty (From.same wanted of) live keeps said kinded d = (said, wanted_said wanted)
  set_said h ty (From.call g tys) live keeps said kinded d = ((said.0, pins_right (deleting g) _, said.1), tt)
  set_said h ty From.new_region live keeps said kinded d = (tt, tt)
  set_said h ty From.new_subregion live keeps said kinded d = (tt, tt)
  set_said h ty (From.region_of of) live keeps said kinded d = (said, tt)
  set_said h ty (From.allocate made layout) live keeps said kinded d = (said, tt)
  set_said h ty (From.allocate_array made layout) live keeps said kinded d = (said, tt)
  set_said h ty From.putchar live keeps said kinded d = (tt, tt)
  set_said h ty From.getchar live keeps said kinded d = (tt, tt)

  spills_said : (base : ℕ) (tys : List Ty) → AllKept Has types base tys → Each (spills slot base tys)
  spills_said base [] k = tt
  spills_said base (ty ∷ tys) k = (slot_is (base + length tys) ty k.0, spills_said base tys k.1)

  reloads_said : (base : ℕ) (tys : List Ty) → Each (reloads slot base tys)
  reloads_said base [] = tt
  reloads_said base (ty ∷ tys) = each_append (reloads slot base tys) (To.get (slot (base + length tys) ty) ∷ []) (reloads_said base tys) (tt, tt)

  gets_said : (h : ℕ) (tys : List Ty) → Each (gets slot deleting types h tys)
  gets_said h [] = tt
  gets_said h (ty ∷ tys) = (tt, gets_said (suc h) tys)

  mutual
    steps_said : (s : Steps) (saved tys : List Ty) (live : ℕ → Bool) → StepsServed Has types s (length saved) tys → StepsSayable r f s → StepsKinded (all_locals f) global_ty result_ty s → All (steps_lines slot deleting types s saved tys live)
    steps_said From.none saved tys live fits said kinded = tt
    steps_said (From.more s rest) saved tys live fits said kinded =
        all_append (step_lines slot deleting types s saved tys (before_steps rest live)) (steps_lines slot deleting types rest saved (step_types s tys) live) (step_said s saved tys (before_steps rest live) fits.0 said.0 kinded.0) (steps_said rest saved (step_types s tys) live fits.1 said.1 kinded.1)

    step_said : (s : Step) (saved tys : List Ty) (live : ℕ → Bool) → StepServed Has types s (length saved) tys → StepSayable r f s → StepKinded (all_locals f) global_ty result_ty s → All (step_lines slot deleting types s saved tys live)
    step_said (From.set line h ty op) saved tys live fits said kinded = at_said line (set_code slot deleting types h ty op live) (set_said h ty op live fits.4 said.1 kinded said.0)
    step_said (From.fork line h test result a b) saved [] live fits said kinded = tt
    step_said (From.fork line h test result a b) saved (ty ∷ below) live fits said kinded =
        let k = length saved + length below in
        let long = length-append below saved in
        let height : h ≡ length (below ++ saved) = let e = fits.1 in omega (arith, long, e) in
        let result_there : is_char (get_or (all_locals f) (slot k result) int) ≡ is_char (wide result) = subst (λ j. is_char (get_or (all_locals f) (slot j result) int) ≡ is_char (wide result)) fits.1 (slot_is h result fits.7) in
        all_append (at line (spills slot (length saved) (ty ∷ below))) _ (at_said line (spills slot (length saved) (ty ∷ below)) (spills_said (length saved) (ty ∷ below) fits.6))
        (all_append (at line (To.get (slot k ty) ∷ test_code test)) _ (at_said line (To.get (slot k ty) ∷ test_code test) (tt, test_said test said.0)) (
          tt,
          all_append (steps_lines slot deleting types a (below ++ saved) [] live) _ (steps_said a (below ++ saved) [] live (subst (λ j. StepsServed Has types a j []) height fits.2) said.2 kinded.0) (
            result_there,
            (
              tt,
              all_append (steps_lines slot deleting types b (below ++ saved) [] live) _ (steps_said b (below ++ saved) [] live (subst (λ j. StepsServed Has types b j []) height fits.4) said.3 kinded.1)
                  (result_there, all_append (at line (reloads slot (length saved) below)) _ (at_said line (reloads slot (length saved) below) (reloads_said (length saved) below)) (tt, tt)),
            ),
          ),
        ))

  change_said : (change : Change) (cell ty : Ty) (h : ℕ) → IsDefined r.structs cell → ChangeSayable r f change cell → Each (change_code slot deleting types change cell ty (To.get (slot h ty)))
  change_said (Compute from operator s) cell ty h d c =
      each_append (convert_code from (type_of s)) _ (convert_said from (type_of s))
      (tt, each_append (count_code (is_shift operator) ty) _ (count_said (is_shift operator) ty) (each_append (compared operator s) (convert_code (type_of s) from) (compared_said operator s) (convert_said (type_of s) from)))
  change_said (Stepping direction) cell ty h d c = (tt, ((d, c), tt))

  cells_said : (cells : Layout) (left right : Access) → CellsFit r f cells left right → Each (cells_code slot deleting types cells left right)
  cells_said [] left right fit = tt
  cells_said (kind ∷ kinds) left right fit =
      each_append (gets slot deleting types 0 (place_types left)) _ (gets_said 0 (place_types left))
      (each_append (gets slot deleting types (width left) (place_types right)) _ (gets_said (width left) (place_types right))
      (fit.1, (fit.0, cells_said kinds (further left) (further right) fit.2)))

  pops_said : (last : ℕ) (tys : List Ty) → All (pops slot deleting types last tys)
  pops_said last [] = tt
  pops_said last (ty ∷ tys) = (tt, pops_said last tys)

  returned_is : (line : ℕ) (result : Option Ty) (tys : List Ty) → tys ≡ pushed (act_types (From.leave line result)) [] → kinds tys ≡ kinds (result_types result)
  returned_is line None tys e = ap kinds e
  returned_is line (Some ty) tys e = ap kinds e

  local_said : (x : ℕ) (ty : Ty) → x < length f.locals → is_char (get_or f.locals x int) ≡ is_char ty → is_char (get_or (all_locals f) x int) ≡ is_char ty
  local_said x ty lt e = ap is_char (local_is x lt) ∙ e

  act_said : (last : ℕ) (act : Act) (tys : List Ty) (live : ℕ → Bool) → ActFits act tys → ActKeeps Has types act tys → ActSets types act → ActSayable r f act → All (act_lines slot deleting types last act tys live)
  act_said last From.drop tys live fits k s said = pops_said last tys
  act_said last (From.perform line g parameters) tys live fits k s said = ((said.0, pins_right (deleting g) _, said.1), tt)
  act_said last (From.assign line x ty) tys live fits k s said = (local_said x ty s said, tt)
  act_said last (From.store line a) tys live fits k s said = (said, tt)
  act_said last (From.update line a change ty) tys live fits k s said =
      at_said line _ (each_append (spills slot 0 tys) _ (spills_said 0 tys k)
      (each_append (gets slot deleting types 0 (place_types a)) _ (gets_said 0 (place_types a))
      (each_append (gets slot deleting types 0 (place_types a)) _ (gets_said 0 (place_types a))
      (said.0, each_append (change_code slot deleting types change a.cell ty (To.get (slot (width a) ty))) (To.store a ∷ []) (change_said change a.cell ty (width a) said.0.cell_defined said.2) (said.0, tt)))))
  act_said last (From.move line cells left right) tys live fits k s said =
      at_said line _ (each_append (spills slot 0 tys) (cells_code slot deleting types cells left right) (spills_said 0 tys k) (cells_said cells left right said))
  act_said last (From.delete line) tys live fits k s said = (tt, tt)
  act_said last (From.leave line result) tys live fits k s said = (returned_is line result tys fits ∙ said, tt)

  exit_said : (test : Option Test) (over : ℕ) → TestSayable r f test → All (exit_lines test over)
  exit_said None over d = tt
  exit_said (Some test) over d = all_append (at test.line (exit_test test.wanted test.ty)) _ (at_said test.line (exit_test test.wanted test.ty) (by test.wanted)) (tt, tt)
    where
      by : (wanted : Bool) → Each (exit_test wanted test.ty)
      by true = test_said test.ty d
      by false = zero_said test.ty d

  mutual
    pub code_said : (c : Code) → CodeServed Has types c → CodeSets types c → CodeSayable r f c → CodeKinded (all_locals f) global_ty result_ty c → (k : Ways) (p : Place) → All (code_lines slot deleting types c k p)
    code_said (From.simple steps act) g s said kinded k p = all_append (steps_lines slot deleting types steps [] [] (before_act act k.next)) _ (steps_said steps [] [] (before_act act k.next) g.0 said.0 kinded.0) (act_said (last_line steps) act (steps_types steps []) k.next g.1 g.2 s said.1)
    code_said (From.clear line x ty) g s said kinded k p = (zero_value_said ty said.1, (local_said x ty s said.0, tt))
    code_said (From.block codes) g s said kinded k p = codes_said codes g s said kinded k p
    code_said (From.branch steps test a b) g s said kinded k p =
        all_append _ _ (steps_said steps [] [] (λ y. before_code a k y || before_code b k y) g.0 said.0 kinded.0)
        (all_append _ _ (exit_said (Some test) _ said.1) (all_append _ _ (code_said a g.2 s.0 said.2 kinded.1 k _) (tt, code_said b g.3 s.1 said.3 kinded.2 k _)))
    code_said (From.loop line steps test third a) g s said kinded k p =
        let k2 = then_live (loop_head steps test third a k) k in
        let k1 = round (before_code third k2) k in
        all_append _ _ (steps_said steps [] [] (λ y. (is_some test && k.next y) || before_code a k1 y) g.0 said.0 kinded.0)
        (all_append _ _ (exit_said test _ said.1) (all_append _ _ (code_said a g.3 s.1 said.3 kinded.2 k1 _) (all_append _ _ (code_said third g.2 s.0 said.2 kinded.1 k2 _) (tt, tt))))
    code_said (From.repeat line a steps test) g s said kinded k p =
        all_append _ _ (code_said a g.0 s said.0 kinded.0 (round (repeat_tail a steps test k) k) _)
        (all_append _ _ (steps_said steps [] [] (λ y. k.next y || before_code (From.repeat 0 a steps test) k y) g.1 said.1 kinded.1) (all_append _ _ (exit_said (Some test) _ said.2) (tt, tt)))
    code_said (From.break line) g s said kinded k p = (tt, tt)
    code_said (From.continue line) g s said kinded k p = (tt, tt)

    pub codes_said : (cs : Codes) → CodesServed Has types cs → CodesSet types cs → CodesSayable r f cs → CodesKinded (all_locals f) global_ty result_ty cs → (k : Ways) (p : Place) → All (codes_lines slot deleting types cs k p)
    codes_said From.done g s said kinded k p = tt
    codes_said (From.then c rest) g s said kinded k p = all_append _ _ (code_said c g.0 s.0 said.0 kinded.0 (then_live (before_codes rest k) k) _) (codes_said rest g.1 s.1 said.1 kinded.1 k _)

  pub end_said : (result : Option Ty) → f.result ≡ result → (line : ℕ) → ResultDefined r result → All (end_lines slot deleting types result line)
  end_said None e line d = (sym (ap (λ o. kinds (result_types o)) e), tt)
  end_said (Some ty) e line d = (zero_value_said ty d, (sym (ap (λ o. kinds (result_types o)) e), tt))

get_front : (xs ys : List Ty) (x : ℕ) → x < length xs → get_or (xs ++ ys) x int ≡ get_or xs x int
get_front [] ys x lt = absurd (omega (arith, lt))
get_front (t ∷ xs) ys zero lt = refl
get_front (t ∷ xs) ys (suc x) lt = get_front xs ys x (omega (arith, lt))

abbrev table : Routine → List Kept
table f = once same_kept (kept_code f.body)

-- a function whose region code is sayable
pub body_said : (r : Rlang) (f : Routine) → HasLocals f → CodeSayable r f f.body → (global_ty result_ty : ℕ → Ty) → CodeKinded (all_locals f) global_ty result_ty f.body → ResultDefined r f.result → (deleting : ℕ → Bool) → AllSayable r f deleting (body_lines (slots_of f).slot deleting f)
body_said r f has said global_ty result_ty kinded d deleting =
    let s = slots_of f in
    let serves : Serves f s = body_serves same_kept kept_self kept_is f (code_served f.locals f.body has.0 has.1) in
    all_append r f s.slot deleting (IsThere f s) slot_is (get_front f.locals s.types) global_ty result_ty _ _
    (code_said r f s.slot deleting (IsThere f s) slot_is (get_front f.locals s.types) global_ty result_ty f.body serves.fits has.2 said kinded at_end _)
    (end_said r f s.slot deleting (IsThere f s) slot_is (get_front f.locals s.types) global_ty result_ty f.result refl f.line d)
  where
    slot_is : (h : ℕ) (ty : Ty) → IsThere f (slots_of f) h ty → is_char (get_or (all_locals f) ((slots_of f).slot h ty) int) ≡ is_char (wide ty)
    slot_is h ty there = ap is_char (table_types same_kept kept_is table f h ty (there_in same_kept kept_is table f h ty there))
