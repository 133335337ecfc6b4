-- Calls, as many inside one another as may be.
use Rattle.std.proofs.Common.{◌≡◌, ℕ, zero, suc, false, List, Option, Some, None, slice_get, sym, subst}
use Rattle.std.specs.Prelude.{IfSome}
use Rattle.rc_core.specs.Programs.{Function, Program}
use Rattle.rc_core.specs.Heap.{Value}
use Rattle.rc_core.specs.Types.{Ty}
use Rattle.rc_core.specs.Live.{at_end}
use Rattle.rc_core.specs.Source.{World, source}
use Rattle.rc_core.specs.Execution.{Flow, Next, Broke, Continued, Returned, first_locals, zero_result, exec, result_of, run_function, calls_within}
use Rattle.rc_core.specs.Typing.{parameters_of}
use Rattle.rc_core.specs.WellTyped.{IsVariable, FunctionFits, IsWellTyped}
use Rattle.rc_kinds.specs.Suits.{Ledger, WorldSuits, AllSuit}
use Rattle.rc_kinds.proofs.Grown.{all_still_suit}
use Rattle.rc_kinds.proofs.Kept.{Keeps, keeps_here, keeps_then}
use Rattle.rc_kinds.proofs.Operations.{turn_keeps}
use Rattle.rc_kinds.specs.Kinds.{ResultSuits, FlowSuits}
use Rattle.rc_kinds.proofs.Locals.{zero_suits, first_suit}
use Rattle.rc_kinds.proofs.Executions.{exec_keeps}

module _ (program : Program) (fits : IsWellTyped program) where
  zero_of_result : (l : Ledger) (result : Option Ty) → IfSome result (IsVariable program.structs) → ResultSuits result l (zero_result result)
  zero_of_result l None h = tt
  zero_of_result l (Some t) h = zero_suits l t h.1

  -- the body of a function is in no loop
  result_keeps : (f : Function) → FunctionFits program f → (flow : Flow) (l : Ledger) (w : World) → FlowSuits f.locals f.result false l flow → WorldSuits program l w → Keeps program l (ResultSuits f.result) (result_of f.result flow w)
  result_keeps f h (Next env) l w s suits = keeps_here program l (ResultSuits f.result) (zero_result f.result) w suits (zero_of_result l f.result h.result)
  result_keeps f h (Broke env) l w s suits = cc
  result_keeps f h (Continued env) l w s suits = cc
  result_keeps f h (Returned v) l w s suits = keeps_here program l (ResultSuits f.result) v w suits s

  pub calls_keep : (n k : ℕ) (f : Function) (arguments : List Value) (l : Ledger) (w : World) → slice_get program.functions k ≡ Some f → AllSuit l (parameters_of f) arguments → WorldSuits program l w → Keeps program l (ResultSuits f.result) (calls_within source program n k arguments w)
  calls_keep zero k f arguments l w e all suits = record { holds = tt }
  calls_keep (suc n) k f arguments l w e all suits =
      keeps_then program l (λ l x. Unit {0}) (ResultSuits f.result) (source.take_turn w) _ (turn_keeps program l w suits) (λ _ l1 w1 g1 s1 _.
      subst (λ o. Keeps program l1 (ResultSuits f.result) (run_function source program (calls_within source program n) o arguments w1)) (sym e)
      (let h = fits.functions k f e in
      keeps_then program l1 (FlowSuits f.locals f.result false) (ResultSuits f.result) (exec source program f.body f (calls_within source program n) at_end (first_locals f arguments) w1) _
      (exec_keeps program fits.structs f h.locals (calls_within source program n) (calls_keep n) false f.body at_end (first_locals f arguments) l1 w1 h.body (first_suit program l1 f arguments h.locals (all_still_suit l l1 g1 (parameters_of f) arguments all)) s1) (λ flow l2 w2 g2 s2 fl.
      result_keeps f h flow l2 w2 fl s2)))
