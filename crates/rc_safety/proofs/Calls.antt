-- Calls of functions, as many inside one another as may be.
use Rattle.std.proofs.Common.{◌≡◌, ℕ, zero, suc, Bool, false, List, Option, Some, None, slice_get, refl}
use Rattle.rc_core.specs.Types.{Ty}
use Rattle.rc_core.specs.Programs.{Function, Program}
use Rattle.rc_core.specs.Heap.{Value, Null}
use Rattle.rc_core.specs.Live.{at_end}
use Rattle.rc_core.specs.Runs.{Calls}
use Rattle.rc_core.specs.Source.{World, source}
use Rattle.rc_core.specs.Execution.{Flow, Next, Broke, Continued, Returned, first_locals, zero_result, function_deletes, deletes, result_of, run_function, calls_within}
use Rattle.rc_core.specs.Deletes.{IsPlaced, KeepsRegions, DeletesInPlace}
use Rattle.rc_safety.proofs.Worlds.{Nothing, Fresh, IsSound, FreshIn, AllFreshIn, reaches_itself, all_still_fresh, Yields, gives, yields_then, yields_more, yields_quietly}
use Rattle.rc_safety.proofs.Turns.{take_turn_yields}
use Rattle.rc_safety.proofs.Locals.{zero_is_fresh, first_are_fresh}
use Rattle.rc_safety.proofs.Executions.{FlowIsFresh, exec_yields}

zero_result_is_fresh : (w : World) (result : Option Ty) → FreshIn w (zero_result result)
zero_result_is_fresh w None = refl
zero_result_is_fresh w (Some ty) = zero_is_fresh w ty

result_yields : (may : Bool) (result : Option Ty) (flow : Flow) (w : World) → IsSound w → FlowIsFresh at_end flow w → Yields may w Fresh (result_of result flow w)
result_yields may result (Next env) w sound fresh = gives may w w Fresh (zero_result result) (reaches_itself may w sound) (zero_result_is_fresh w result)
result_yields may result (Broke env) w sound fresh = gives may w w Fresh (zero_result result) (reaches_itself may w sound) (zero_result_is_fresh w result)
result_yields may result (Continued env) w sound fresh = gives may w w Fresh (zero_result result) (reaches_itself may w sound) (zero_result_is_fresh w result)
result_yields may result (Returned v) w sound fresh = gives may w w Fresh v (reaches_itself may w sound) fresh

module _ (program : Program) (deleting : DeletesInPlace program) where
  function_yields : (calls : Calls World) → ((f : ℕ) (arguments : List Value) (w : World) → IsSound w → AllFreshIn w arguments → Yields (deletes program f) w Fresh (calls f arguments w))
      → (f : Option Function) → ((g : Function) → f ≡ Some g → IsPlaced program g.body) → ((g : Function) → f ≡ Some g → g.deletes ≡ false → KeepsRegions program g.body) → (arguments : List Value) (w : World) → IsSound w → AllFreshIn w arguments
      → Yields (function_deletes f) w Fresh (run_function source program calls f arguments w)
  function_yields calls called None placed kept arguments w sound fresh = gives false w w Fresh Null (reaches_itself false w sound) refl
  function_yields calls called (Some f) placed kept arguments w sound fresh =
      yields_then f.deletes w (FlowIsFresh at_end) Fresh _ _ (exec_yields program calls called f.deletes f.body f at_end (first_locals f arguments) w (placed f refl) (kept f refl) sound (first_are_fresh w _ f arguments fresh)) (λ flow w1 r s.
      result_yields f.deletes f.result flow w1 r.sound s)

  pub calls_yield : (n f : ℕ) (arguments : List Value) (w : World) → IsSound w → AllFreshIn w arguments → Yields (deletes program f) w Fresh (calls_within source program n f arguments w)
  calls_yield zero f arguments w sound fresh = record { holds = tt }
  calls_yield (suc n) f arguments w sound fresh =
      yields_then (deletes program f) w (λ _ w1. AllFreshIn w1 arguments) Fresh (source.take_turn w) _
      (yields_quietly (deletes program f) w _ _ (yields_more false w Nothing (λ _ w1. AllFreshIn w1 arguments) _ (take_turn_yields w sound) (λ _ w1 r _. all_still_fresh w w1 r arguments fresh)))
      (λ _ w1 r fresh1. function_yields (calls_within source program n) (calls_yield n) (slice_get program.functions f) (deleting.placed f) (deleting.kept f) arguments w1 r.sound fresh1)
