-- Labelled code may be said by an image where the code may.
use Rattle.std.proofs.Common.{◌≡◌, ℕ, zero, suc, ◌+◌, Bool, List, [], ◌∷◌, Option, Some, None, refl, sym, ap, ◌∙◌, subst}
use Rattle.std.specs.Prelude.{IsSome}
use Rattle.std.specs.Option.{option_map}
use Rattle.rc_core.specs.declared.stmt.Change.{Change}
use Rattle.rc_core.specs.declared.stmt.Change.TheVariants.{Compute, Step as Stepping}
use Rattle.rc_core.specs.Types.{Ty}
use Rattle.rc_core.specs.Layout.{Layout}
use Rattle.rc_rlang.specs.RegionCode as From
use Rattle.rc_rlang.specs.RegionCode.{Access, Operation, Step, set, fork, Steps, none, more, Act, drop, perform, assign, store, update, move, delete, leave, Test, Code, simple, clear, block, branch, loop, repeat, break, continue, Codes, done, then, Routine, Rlang}
use Rattle.rc_rlang.specs.RegionPoints.{steps_points, branch_points, code_points}
use Rattle.rc_emission.specs.StatementCode.{further}
use Rattle.rc_numbering.specs.Sayable.{IsCalled, result_in, OperationSayable, StepSayable, StepsSayable, CellsFit, ChangeSayable, ActSayable, TestSayable, CodeSayable, CodesSayable}
use Rattle.rc_labels.specs.Labels.{Numbering}
use Rattle.rc_labels.specs.Labelled.{step_labelled, steps_labelled, test_labelled, act_labelled, code_labelled, codes_labelled, routine_labelled, routines_labelled, labelled}
use Rattle.rc_labels.proofs.Lives.{there}

module _ (n : Numbering) (marks : (function point : ℕ) → Bool) (r : Rlang) where
  abbrev R : Rlang
  R = labelled n marks r

  -- the same functions give the same
  results_from : (fs : List Routine) (first g : ℕ) → result_in (record r { functions = routines_labelled n marks first fs }) g ≡ result_in (record r { functions = fs }) g
  results_from [] first g = refl
  results_from (f ∷ fs) first zero = refl
  results_from (f ∷ fs) first (suc g) = results_from fs (suc first) g

  pub result_same : (g : ℕ) → result_in R g ≡ result_in r g
  result_same g = results_from r.functions 0 g

  pub is_called : (g : ℕ) (tys : List Ty) → IsCalled r g tys → IsCalled R g tys
  is_called g tys called = record {
    routine = routine_labelled n (marks (0 + g)) called.routine;
    there = there n marks r.functions 0 g ∙ ap (option_map (routine_labelled n (marks (0 + g)))) called.there;
    parameters_are = called.parameters_are;
    few = called.few;
  }

  gives_value : (g : ℕ) → IsSome (result_in r g) → IsSome (result_in R g)
  gives_value g some = subst (λ o. IsSome o) (sym (result_same g)) some

  module _ (f : Routine) (marked : (point : ℕ) → Bool) where
    abbrev F : Routine
    F = routine_labelled n marked f

    operation_sayable : (ty : Ty) (op : Operation) → OperationSayable r f ty op → OperationSayable R F ty op
    operation_sayable ty (From.constant s k) h = h
    operation_sayable ty From.null h = h
    operation_sayable ty (From.static g) h = h
    operation_sayable ty (From.copy x) h = h
    operation_sayable ty (From.load a) h = h
    operation_sayable ty (From.step direction pointed k) h = h
    operation_sayable ty (From.step_from k pointed) h = h
    operation_sayable ty (From.unary operator s) h = h
    operation_sayable ty (From.binary operator s right) h = h
    operation_sayable ty (From.convert from to) h = h
    operation_sayable ty (From.not_zero of) h = h
    operation_sayable ty (From.truth of) h = h
    operation_sayable ty (From.is_null wanted of) h = h
    operation_sayable ty (From.same wanted of) h = h
    operation_sayable ty (From.call g tys) h = (is_called g tys h.0, gives_value g h.1)
    operation_sayable ty From.new_region h = h
    operation_sayable ty From.new_subregion h = h
    operation_sayable ty (From.region_of of) h = h
    operation_sayable ty (From.allocate made layout) h = h
    operation_sayable ty (From.allocate_array made layout) h = h
    operation_sayable ty From.putchar h = h
    operation_sayable ty From.getchar h = h

    mutual
      step_sayable : (s : Step) → StepSayable r f s → StepSayable R F (step_labelled n s)
      step_sayable (set line h ty op) say = (say.0, operation_sayable ty op say.1)
      step_sayable (fork line h test result a b) say = (say.0, say.1, steps_sayable a say.2, steps_sayable b say.3)

      steps_sayable : (x : Steps) → StepsSayable r f x → StepsSayable R F (steps_labelled n x)
      steps_sayable none say = say
      steps_sayable (more s rest) say = (step_sayable s say.0, steps_sayable rest say.1)

    cells_fit : (kinds : Layout) (left right : Access) → CellsFit r f kinds left right → CellsFit R F kinds left right
    cells_fit [] left right fit = fit
    cells_fit (kind ∷ kinds) left right fit = (fit.0, fit.1, cells_fit kinds (further left) (further right) fit.2)

    change_sayable : (change : Change) (cell : Ty) → ChangeSayable r f change cell → ChangeSayable R F change cell
    change_sayable (Compute from operator s) cell say = say
    change_sayable (Stepping direction) cell say = say

    act_sayable : (act : Act) (here : ℕ) → ActSayable r f act → ActSayable R F (act_labelled n marked act here)
    act_sayable drop here say = say
    act_sayable (perform line g tys) here say = (is_called g tys say.0, result_same g ∙ say.1)
    act_sayable (assign line x ty) here say = say
    act_sayable (store line a) here say = say
    act_sayable (update line a change ty) here say = (say.0, say.1, change_sayable change a.cell say.2)
    act_sayable (move line kinds left right) here say = cells_fit kinds left right say
    act_sayable (delete line) here say = say
    act_sayable (leave line result) here say = say

    test_sayable : (test : Option Test) → TestSayable r f test → TestSayable R F (option_map (test_labelled n) test)
    test_sayable None say = say
    test_sayable (Some test) say = say

    mutual
      pub code_sayable : (c : Code) (here : ℕ) → CodeSayable r f c → CodeSayable R F (code_labelled n marked c here)
      code_sayable (simple steps act) here say = (steps_sayable steps say.0, act_sayable act (here + steps_points steps) say.1)
      code_sayable (clear line x ty) here say = say
      code_sayable (block codes) here say = codes_sayable codes here say
      code_sayable (branch steps test a b) here say =
          let at_a = suc (here + steps_points steps) in
          (steps_sayable steps say.0, say.1, code_sayable a at_a say.2, code_sayable b (at_a + code_points a) say.3)
      code_sayable (loop line steps test third a) here say =
          let at_a = suc here + steps_points steps + branch_points test in
          (steps_sayable steps say.0, test_sayable test say.1, code_sayable third (at_a + code_points a) say.2, code_sayable a at_a say.3)
      code_sayable (repeat line a steps test) here say = (code_sayable a (suc here) say.0, steps_sayable steps say.1, say.2)
      code_sayable (break line) here say = say
      code_sayable (continue line) here say = say

      codes_sayable : (c : Codes) (here : ℕ) → CodesSayable r f c → CodesSayable R F (codes_labelled n marked c here)
      codes_sayable done here say = say
      codes_sayable (then c rest) here say = (code_sayable c here say.0, codes_sayable rest (here + code_points c) say.1)
