-- The locals that stack code names are there.
use Rattle.std.proofs.Common.{◌≡◌, ◌<◌, ◌≤◌, ℕ, zero, suc, ◌+◌, Bool, true, false, ◌||◌, ◌&&◌, List, [], ◌∷◌, ◌++◌, length, Option, Some, None, subst, arith, length-append}
use Rattle.std.specs.Prelude.{is_some, slice_get}
use Rattle.rc_core.specs.declared.ty.NumberType.{NumberType}
use Rattle.rc_core.specs.declared.ty.NumberType.TheVariants.{Int, Unsigned, Char}
use Rattle.rc_core.specs.declared.ty.Signedness.{Signedness}
use Rattle.rc_core.specs.declared.operators.Operator.{Operator}
use Rattle.rc_core.specs.declared.operators.Operator.TheVariants.{Multiply, Divide, Remainder, Add, Subtract, ShiftLeft, ShiftRight, Less, Greater, LessEqual, GreaterEqual, Equal, NotEqual, And, Xor, Or}
use Rattle.rc_core.specs.declared.stmt.Change.{Change}
use Rattle.rc_core.specs.declared.stmt.Change.TheVariants.{Compute, Step as Stepping}
use Rattle.rc_core.specs.Types.{Ty, int, unsigned, char, region, struct, pointer}
use Rattle.rc_core.specs.Layout.{Layout}
use Rattle.rc_core.specs.Arithmetic.{type_of}
use Rattle.rc_core.specs.Typing.{is_shift, IsTyped, AreTyped}
use Rattle.rc_core.specs.Live.{Ways, then_live, round, at_end}
use Rattle.rc_core.specs.Programs.{Expr, constant, null, string, local, read, address, step, step_from, unary, binary, convert, not_zero, and, or, choose, is_null, same, call, new_region, new_subregion, region_of, allocate, allocate_array, putchar, getchar, Stmt, block, declare, assign, store, update, copy, evaluate, delete, branch, while, repeat, for, break, continue, return, Stmts, done, then, Function, Program}
use Rattle.rc_core.specs.WellTyped.{IsWellTyped}
use Rattle.rc_rlang.specs.RegionCode as From
use Rattle.rc_rlang.specs.RegionCode.{Access, width, Operation, Step, Steps, Act, Test, Code, Codes, Routine}
use Rattle.rc_rlang.specs.RegionFits.{place_types, pushed, step_types, steps_types, ActFits}
use Rattle.rc_rlang.specs.RegionLive.{before_steps, before_act, before_code, before_codes, loop_head, repeat_tail}
use Rattle.rc_rlang.specs.RegionRuns.{pins_from}
use Rattle.rc_translation.specs.Translation.{has_result, one_of, evaluate_code, statement_code, body_code, routine_of, expression_code, expression_type, arguments_code, argument_types, parameter_types}
use Rattle.rc_translation.proofs.StatementFitting.{statement_fits}
use Rattle.rc_emission.specs.StackCode.{Instruction, Line}
use Rattle.rc_emission.specs.StackCode as To
use Rattle.rc_emission.specs.OperationCode.{line_of, at, zero_test, test_code, wanted_code, compared, count_code, convert_code, spills, reloads}
use Rattle.rc_emission.specs.StatementCode.{Place, zero_code, call_pins, further, exit_test, exit_lines, set_code, gets, steps_lines, step_lines, change_code, cells_code, pops, last_line, act_lines, code_lines, codes_lines, end_lines}
use Rattle.rc_emission.specs.KeptOperands.{same_kept, slots_of}
use Rattle.rc_emission.specs.Served.{OperationServed, AllKept, OperationKeeps, StepServed, StepsServed, ActKeeps, CodeServed, CodesServed}
use Rattle.rc_emission.specs.Means.{IsThere, Serves}
use Rattle.rc_emission.proofs.ActsDo.{place_width}
use Rattle.rc_emission.proofs.Naming.{statement_names}
use Rattle.rc_emission.proofs.Ordered.{code_served}
use Rattle.rc_emission.proofs.SameOperands.{kept_is, kept_self}
use Rattle.rc_emission.proofs.TableServes.{body_serves}
use Rattle.rc_stack_rules.specs.LoaderRules.{Pins}
use Rattle.rc_stack_rules.specs.Loadable.{all_locals}
use Rattle.rc_stack_rules.specs.Named.{EachNamed, AllNamed, ActSets, CodeSets, CodesSet, NamesLocals, HasLocals, AllNameLocals}
use Rattle.rc_stack_rules.proofs.PinRules.{pins_fit}

module _ (types : List Ty) (count : ℕ) (room : length types ≤ count) (slot : ℕ → Ty → ℕ) (deleting : ℕ → Bool) (Has : ℕ → Ty → Type 0) (there : (h : ℕ) (ty : Ty) → Has h ty → slot h ty < count) where
  abbrev Each : List Instruction → Type 0
  Each is = EachNamed types count is

  abbrev All : List Line → Type 0
  All is = AllNamed types count is

  each_append : (a b : List Instruction) → Each a → Each b → Each (a ++ b)
  each_append [] b x y = y
  each_append (i ∷ a) b x y = (x.0, each_append a b x.1 y)

  all_append : (a b : List Line) → All a → All b → All (a ++ b)
  all_append [] b x y = y
  all_append (i ∷ a) b x y = (x.0, all_append a b x.1 y)

  at_named : (line : ℕ) (is : List Instruction) → Each is → All (at line is)
  at_named line [] x = tt
  at_named line (i ∷ is) x = (x.0, at_named line is x.1)

  zero_named : (ty : Ty) → Each (zero_test ty)
  zero_named int = (tt, tt)
  zero_named unsigned = (tt, (tt, tt))
  zero_named char = (tt, tt)
  zero_named region = (tt, tt)
  zero_named (struct k) = (tt, tt)
  zero_named (pointer note target) = (tt, tt)

  test_named : (ty : Ty) → Each (test_code ty)
  test_named int = tt
  test_named unsigned = (tt, tt)
  test_named char = tt
  test_named region = (tt, (tt, tt))
  test_named (struct k) = (tt, (tt, tt))
  test_named (pointer note target) = (tt, (tt, tt))

  wanted_named : (b : Bool) → Each (wanted_code b)
  wanted_named true = tt
  wanted_named false = (tt, tt)

  count_named : (b : Bool) (ty : Ty) → Each (count_code b ty)
  count_named true int = tt
  count_named true unsigned = (tt, tt)
  count_named true char = tt
  count_named true region = tt
  count_named true (struct k) = tt
  count_named true (pointer note target) = tt
  count_named false ty = tt

  compared_named : (operator : Operator) (s : Signedness) → Each (compared operator s)
  compared_named Multiply s = (tt, tt)
  compared_named Divide s = (tt, tt)
  compared_named Remainder s = (tt, tt)
  compared_named Add s = (tt, tt)
  compared_named Subtract s = (tt, tt)
  compared_named ShiftLeft s = (tt, tt)
  compared_named ShiftRight s = (tt, tt)
  compared_named Less s = (tt, tt)
  compared_named Greater s = (tt, (tt, tt))
  compared_named LessEqual s = (tt, tt)
  compared_named GreaterEqual s = (tt, (tt, tt))
  compared_named Equal s = (tt, tt)
  compared_named NotEqual s = (tt, (tt, tt))
  compared_named And s = (tt, tt)
  compared_named Xor s = (tt, tt)
  compared_named Or s = (tt, tt)

  convert_named : (from to : NumberType) → Each (convert_code from to)
  convert_named Int Int = tt
  convert_named Int Unsigned = (tt, tt)
  convert_named Int Char = (tt, tt)
  convert_named Unsigned Int = (tt, tt)
  convert_named Unsigned Unsigned = tt
  convert_named Unsigned Char = (tt, (tt, tt))
  convert_named Char Int = tt
  convert_named Char Unsigned = (tt, tt)
  convert_named Char Char = tt

  zero_value_named : (ty : Ty) (line x : ℕ) → x < count → All (line_of line (zero_code ty) ∷ line_of line (To.set x ty) ∷ [])
  zero_value_named int line x lt = (tt, (lt, tt))
  zero_value_named unsigned line x lt = (tt, (lt, tt))
  zero_value_named char line x lt = (tt, (lt, tt))
  zero_value_named region line x lt = (tt, (lt, tt))
  zero_value_named (struct k) line x lt = (tt, (lt, tt))
  zero_value_named (pointer note target) line x lt = (tt, (lt, tt))

  pins_named : (b : Bool) (live : ℕ → Bool) → Pins types 0 (call_pins b (pins_from types 0 live))
  pins_named true live = pins_fit types live
  pins_named false live = tt

  set_named : (h : ℕ) (ty : Ty) (op : Operation) (live : ℕ → Bool) → OperationServed types ty op → OperationKeeps Has types h op → Each (set_code slot deleting types h ty op live)
  set_named h ty (From.constant s n) live served keeps = (tt, tt)
  set_named h ty From.null live served keeps = (tt, tt)
  set_named h ty (From.static g) live served keeps = (tt, tt)
  set_named h ty (From.copy x) live served keeps = ((omega (arith, room, served)), tt)
  set_named h ty (From.load a) live served keeps = (tt, tt)
  set_named h ty (From.step direction pointed n) live served keeps = (tt, tt)
  set_named h ty (From.step_from n pointed) live served keeps = (there (suc h) pointed keeps.1, (there h n keeps.0, (there (suc h) pointed keeps.1, (there h n keeps.0, (tt, tt)))))
  set_named h ty (From.unary operator s) live served keeps = (tt, tt)
  set_named h ty (From.binary operator s right) live served keeps = each_append (count_code (is_shift operator) right) (compared operator s) (count_named (is_shift operator) right) (compared_named operator s)
  set_named h ty (From.convert from to) live served keeps = convert_named from to
  set_named h ty (From.not_zero of) live served keeps = zero_named of
  set_named h ty (From.truth of) live served keeps = each_append (zero_test of) (To.zero_test ∷ []) (zero_named of) (tt, tt)
  set_named h ty (From.is_null wanted of) live served keeps = (tt, wanted_named wanted)
  set_named h ty (From.same wanted of) live served keeps = (tt, wanted_named wanted)
  set_named h ty (From.call g tys) live served keeps = (pins_named (deleting g) live, tt)
  set_named h ty From.new_region live served keeps = (tt, tt)
  set_named h ty From.new_subregion live served keeps = (tt, tt)
  set_named h ty (From.region_of of) live served keeps = (tt, tt)
  set_named h ty (From.allocate made layout) live served keeps = (tt, tt)
  set_named h ty (From.allocate_array made layout) live served keeps = (tt, tt)
  set_named h ty From.putchar live served keeps = (tt, tt)
  set_named h ty From.getchar live served keeps = (tt, tt)

  spills_named : (base : ℕ) (tys : List Ty) → AllKept Has types base tys → Each (spills slot base tys)
  spills_named base [] k = tt
  spills_named base (ty ∷ tys) k = (there (base + length tys) ty k.0, spills_named base tys k.1)

  reloads_named : (base : ℕ) (tys : List Ty) → AllKept Has types base tys → Each (reloads slot base tys)
  reloads_named base [] k = tt
  reloads_named base (ty ∷ tys) k = each_append (reloads slot base tys) (To.get (slot (base + length tys) ty) ∷ []) (reloads_named base tys k.1) (there (base + length tys) ty k.0, tt)

  -- for each operand from a height on, the lowest first
  abbrev Haves : ℕ → List Ty → Type 0
  Haves h [] = Unit {0}
  Haves h (ty ∷ tys) = Has h ty × Haves (suc h) tys

  haves : (xs below : List Ty) → AllKept Has types 0 (pushed xs below) → Haves (length below) xs × AllKept Has types 0 below
  haves [] below all = (tt, all)
  haves (x ∷ xs) below all = let r = haves xs (x ∷ below) all in ((subst (λ h. Has h x) (let e : 0 + length below ≡ length below = omega arith in e) r.1.0, r.0), r.1.1)

  haves_append : (xs ys : List Ty) (h k : ℕ) → k ≡ h + length xs → Haves h (xs ++ ys) → Haves h xs × Haves k ys
  haves_append [] ys h k e s = (tt, subst (λ j. Haves j ys) (let f : h ≡ k = omega (arith, e) in f) s)
  haves_append (x ∷ xs) ys h k e s = let r = haves_append xs ys (suc h) k (omega (arith, e)) s.1 in ((s.0, r.0), r.1)

  gets_named : (h : ℕ) (tys : List Ty) → Haves h tys → Each (gets slot deleting types h tys)
  gets_named h [] k = tt
  gets_named h (ty ∷ tys) k = (there h ty k.0, gets_named (suc h) tys k.1)

  mutual
    steps_named : (s : Steps) (saved tys : List Ty) (live : ℕ → Bool) → StepsServed Has types s (length saved) tys → All (steps_lines slot deleting types s saved tys live)
    steps_named From.none saved tys live f = tt
    steps_named (From.more s rest) saved tys live f =
        all_append (step_lines slot deleting types s saved tys (before_steps rest live)) (steps_lines slot deleting types rest saved (step_types s tys) live) (step_named s saved tys (before_steps rest live) f.0) (steps_named rest saved (step_types s tys) live f.1)

    step_named : (s : Step) (saved tys : List Ty) (live : ℕ → Bool) → StepServed Has types s (length saved) tys → All (step_lines slot deleting types s saved tys live)
    step_named (From.set line h ty op) saved tys live f = at_named line (set_code slot deleting types h ty op live) (set_named h ty op live f.3 f.4)
    step_named (From.fork line h test result a b) saved [] live f = tt
    step_named (From.fork line h test result a b) saved (ty ∷ below) live f =
        let k = length saved + length below in
        let long = length-append below saved in
        let height : h ≡ length (below ++ saved) = let e = f.1 in omega (arith, long, e) in
        let result_there : slot k result < count = subst (λ j. slot j result < count) f.1 (there h result f.7) in
        all_append (at line (spills slot (length saved) (ty ∷ below))) _ (at_named line (spills slot (length saved) (ty ∷ below)) (spills_named (length saved) (ty ∷ below) f.6))
        (all_append (at line (To.get (slot k ty) ∷ test_code test)) _ (at_named line (To.get (slot k ty) ∷ test_code test) (there k ty f.6.0, test_named test)) (
          tt,
          all_append (steps_lines slot deleting types a (below ++ saved) [] live) _ (steps_named a (below ++ saved) [] live (subst (λ j. StepsServed Has types a j []) height f.2)) (
            result_there,
            (
              tt,
              all_append (steps_lines slot deleting types b (below ++ saved) [] live) _ (steps_named b (below ++ saved) [] live (subst (λ j. StepsServed Has types b j []) height f.4))
                  (result_there, all_append (at line (reloads slot (length saved) below)) _ (at_named line (reloads slot (length saved) below) (reloads_named (length saved) below f.6.1)) (result_there, tt)),
            ),
          ),
        ))

  change_named : (change : Change) (cell ty : Ty) (h : ℕ) → slot h ty < count → Each (change_code slot deleting types change cell ty (To.get (slot h ty)))
  change_named (Compute from operator s) cell ty h lt =
      each_append (convert_code from (type_of s)) _ (convert_named from (type_of s))
      (lt, each_append (count_code (is_shift operator) ty) _ (count_named (is_shift operator) ty) (each_append (compared operator s) (convert_code (type_of s) from) (compared_named operator s) (convert_named (type_of s) from)))
  change_named (Stepping direction) cell ty h lt = (lt, (tt, tt))

  cells_named : (cells : Layout) (left right : Access) → Haves 0 (place_types left) → Haves (width left) (place_types right) → Each (cells_code slot deleting types cells left right)
  cells_named [] left right kl kr = tt
  cells_named (kind ∷ kinds) left right kl kr =
      each_append (gets slot deleting types 0 (place_types left)) _ (gets_named 0 (place_types left) kl)
      (each_append (gets slot deleting types (width left) (place_types right)) _ (gets_named (width left) (place_types right) kr)
      (tt, (tt, cells_named kinds (further left) (further right) kl kr)))

  pops_named : (last : ℕ) (tys : List Ty) → All (pops slot deleting types last tys)
  pops_named last [] = tt
  pops_named last (ty ∷ tys) = (tt, pops_named last tys)

  act_named : (last : ℕ) (act : Act) (tys : List Ty) (live : ℕ → Bool) → ActFits act tys → ActKeeps Has types act tys → ActSets types act → All (act_lines slot deleting types last act tys live)
  act_named last From.drop tys live f k s = pops_named last tys
  act_named last (From.perform line g parameters) tys live f k s = (pins_named (deleting g) live, tt)
  act_named last (From.assign line x ty) tys live f k s = ((omega (arith, room, s)), tt)
  act_named last (From.store line a) tys live f k s = (tt, tt)
  act_named last (From.update line a change ty) tys live f k s =
      let pw = place_width a in
      let hs = haves_append (place_types a) (ty ∷ []) 0 (width a) (omega (arith, pw)) (haves (place_types a ++ ty ∷ []) [] (subst (λ z. AllKept Has types 0 z) f k)).0 in
      at_named line _ (each_append (spills slot 0 tys) _ (spills_named 0 tys k)
      (each_append (gets slot deleting types 0 (place_types a)) _ (gets_named 0 (place_types a) hs.0)
      (each_append (gets slot deleting types 0 (place_types a)) _ (gets_named 0 (place_types a) hs.0)
      (tt, each_append (change_code slot deleting types change a.cell ty (To.get (slot (width a) ty))) (To.store a ∷ []) (change_named change a.cell ty (width a) (there (width a) ty hs.1.0)) (tt, tt)))))
  act_named last (From.move line cells left right) tys live f k s =
      let pw = place_width left in
      let hs = haves_append (place_types left) (place_types right) 0 (width left) (omega (arith, pw)) (haves (place_types left ++ place_types right) [] (subst (λ z. AllKept Has types 0 z) f k)).0 in
      at_named line _ (each_append (spills slot 0 tys) (cells_code slot deleting types cells left right) (spills_named 0 tys k) (cells_named cells left right hs.0 hs.1))
  act_named last (From.delete line) tys live f k s = (pins_fit types live, tt)
  act_named last (From.leave line result) tys live f k s = (tt, tt)

  exit_named : (test : Option Test) (over : ℕ) → All (exit_lines test over)
  exit_named None over = tt
  exit_named (Some test) over = all_append (at test.line (exit_test test.wanted test.ty)) _ (at_named test.line (exit_test test.wanted test.ty) (by test.wanted)) (tt, tt)
    where
      by : (wanted : Bool) → Each (exit_test wanted test.ty)
      by true = test_named test.ty
      by false = zero_named test.ty

  mutual
    pub code_named : (c : Code) → CodeServed Has types c → CodeSets types c → (k : Ways) (p : Place) → All (code_lines slot deleting types c k p)
    code_named (From.simple steps act) f s k p = all_append (steps_lines slot deleting types steps [] [] (before_act act k.next)) _ (steps_named steps [] [] (before_act act k.next) f.0) (act_named (last_line steps) act (steps_types steps []) k.next f.1 f.2 s)
    code_named (From.clear line x ty) f s k p = zero_value_named ty line x (omega (arith, room, s))
    code_named (From.block codes) f s k p = codes_named codes f s k p
    code_named (From.branch steps test a b) f s k p =
        all_append _ _ (steps_named steps [] [] (λ y. before_code a k y || before_code b k y) f.0)
        (all_append _ _ (exit_named (Some test) _) (all_append _ _ (code_named a f.2 s.0 k _) (tt, code_named b f.3 s.1 k _)))
    code_named (From.loop line steps test third a) f s k p =
        let k2 = then_live (loop_head steps test third a k) k in
        let k1 = round (before_code third k2) k in
        all_append _ _ (steps_named steps [] [] (λ y. (is_some test && k.next y) || before_code a k1 y) f.0)
        (all_append _ _ (exit_named test _) (all_append _ _ (code_named a f.3 s.1 k1 _) (all_append _ _ (code_named third f.2 s.0 k2 _) (tt, tt))))
    code_named (From.repeat line a steps test) f s k p =
        all_append _ _ (code_named a f.0 s (round (repeat_tail a steps test k) k) _)
        (all_append _ _ (steps_named steps [] [] (λ y. k.next y || before_code (From.repeat 0 a steps test) k y) f.1) (all_append _ _ (exit_named (Some test) _) (tt, tt)))
    code_named (From.break line) f s k p = (tt, tt)
    code_named (From.continue line) f s k p = (tt, tt)

    pub codes_named : (cs : Codes) → CodesServed Has types cs → CodesSet types cs → (k : Ways) (p : Place) → All (codes_lines slot deleting types cs k p)
    codes_named From.done f s k p = tt
    codes_named (From.then c rest) f s k p = all_append _ _ (code_named c f.0 s.0 (then_live (before_codes rest k) k) _) (codes_named rest f.1 s.1 k _)

  pub end_named : (result : Option Ty) (line : ℕ) → All (end_lines slot deleting types result line)
  end_named None line = (tt, tt)
  end_named (Some int) line = (tt, (tt, tt))
  end_named (Some unsigned) line = (tt, (tt, tt))
  end_named (Some char) line = (tt, (tt, tt))
  end_named (Some region) line = (tt, (tt, tt))
  end_named (Some (struct k)) line = (tt, (tt, tt))
  end_named (Some (pointer note target)) line = (tt, (tt, tt))

pub names_locals : (f : Routine) → HasLocals f → NamesLocals f
names_locals f has deleting =
    let s = slots_of f in
    let serves : Serves f s = body_serves same_kept kept_self kept_is f (code_served f.locals f.body has.0 has.1) in
    let room : length f.locals ≤ length (all_locals f) = let e = length-append f.locals s.types in omega (arith, e) in
    all_append f.locals (length (all_locals f)) room s.slot deleting (IsThere f s) (λ h ty there. there) _ _
    (code_named f.locals (length (all_locals f)) room s.slot deleting (IsThere f s) (λ h ty there. there) f.body serves.fits has.2 at_end _)
    (end_named f.locals (length (all_locals f)) room s.slot deleting (IsThere f s) (λ h ty there. there) f.result f.line)

below : (xs : List Ty) (x : ℕ) (u : Ty) → slice_get xs x ≡ Some u → x < length xs
below [] x u e = absurd (cc e)
below (y ∷ ys) zero u e = omega arith
below (y ∷ ys) (suc x) u e = let r = below ys x u e in omega (arith, r)

module _ (program : Program) (f : Function) where
  evaluate_sets : (line : ℕ) (e : Expr) → CodeSets f.locals (evaluate_code program f.locals line e)
  evaluate_sets line (constant own s n) = tt
  evaluate_sets line (null own) = tt
  evaluate_sets line (string own k) = tt
  evaluate_sets line (local own x) = tt
  evaluate_sets line (read own place) = tt
  evaluate_sets line (address own g) = tt
  evaluate_sets line (step own d p i) = tt
  evaluate_sets line (step_from own i p) = tt
  evaluate_sets line (unary own o s e) = tt
  evaluate_sets line (binary own o s a b) = tt
  evaluate_sets line (convert own from to e) = tt
  evaluate_sets line (not_zero own e) = tt
  evaluate_sets line (and own a b) = tt
  evaluate_sets line (or own a b) = tt
  evaluate_sets line (choose own test a b) = tt
  evaluate_sets line (is_null own isnull e) = tt
  evaluate_sets line (same own wanted a b) = tt
  evaluate_sets line (call own g es) = by (has_result program g)
    where
      by : (b : Bool) → CodeSets f.locals (one_of b (From.simple (expression_code program f.locals (call own g es) (expression_type program f.locals (call own g es)) 0) From.drop) (From.simple (arguments_code program f.locals es (parameter_types program g) 0) (From.perform own g (argument_types program f.locals es (parameter_types program g)))))
      by true = tt
      by false = tt
  evaluate_sets line (new_region own) = tt
  evaluate_sets line (new_subregion own r) = tt
  evaluate_sets line (region_of own p) = tt
  evaluate_sets line (allocate own r made) = tt
  evaluate_sets line (allocate_array own r size made) = tt
  evaluate_sets line (putchar own e) = tt
  evaluate_sets line (getchar own) = tt

  mutual
    statement_sets : (loop : Bool) (s : Stmt) → IsTyped program f loop s → CodeSets f.locals (statement_code program f s)
    statement_sets loop (block body) w = body_sets loop body w
    statement_sets loop (declare line x None) w = below f.locals x w.0 w.1.0
    statement_sets loop (declare line x (Some e)) w = below f.locals x w.0 w.1.0
    statement_sets loop (assign line x e) w = below f.locals x w.0 w.1.0
    statement_sets loop (store line place e) w = tt
    statement_sets loop (update line place change e) w = tt
    statement_sets loop (copy line s left right) w = tt
    statement_sets loop (evaluate line e) w = evaluate_sets line e
    statement_sets loop (delete line e) w = tt
    statement_sets loop (branch line test a b) w = (statement_sets loop a w.1, statement_sets loop b w.2)
    statement_sets loop (while line test body) w = (tt, statement_sets true body w.1)
    statement_sets loop (repeat line body test) w = statement_sets true body w.0
    statement_sets loop (for line first None third body) w = (statement_sets loop first w.0, ((statement_sets loop third w.2, statement_sets true body w.3), tt))
    statement_sets loop (for line first (Some test) third body) w = (statement_sets loop first w.0, ((statement_sets loop third w.2, statement_sets true body w.3), tt))
    statement_sets loop (break line) w = tt
    statement_sets loop (continue line) w = tt
    statement_sets loop (return line None) w = tt
    statement_sets loop (return line (Some e)) w = tt

    body_sets : (loop : Bool) (body : Stmts) → AreTyped program f loop body → CodesSet f.locals (body_code program f body)
    body_sets loop done w = tt
    body_sets loop (then s rest) w = (statement_sets loop s w.0, body_sets loop rest w.1)

  pub has_locals : IsTyped program f false f.body → HasLocals (routine_of program f)
  has_locals typed = (statement_fits program f false f.body typed, statement_names program f false f.body typed, statement_sets false f.body typed)

pub all_name_locals : (program : Program) → IsWellTyped program → AllNameLocals program
all_name_locals program well k f there = names_locals (routine_of program f) (has_locals program f (well.functions k f there).body)
