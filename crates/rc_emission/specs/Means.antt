-- Stack code means what the region code that it is made for means, in every world in which turns are counted: each function does the
-- same with its arguments, over any calls, and a program's run is the same run. What is asked of region code is that its temporaries
-- stand in order and that each local that it reads is there. What is asked of the locals that keep operands is that they stand behind
-- the source's and apart, as far as they are needed; those that emission chooses do.
use Rattle.std.specs.Prelude.{◌≡◌, ◌≢◌, ◌<◌, ◌≤◌, ℕ, Bool, List, ◌++◌, length, Some, slice_get}
use Rattle.rc_core.specs.Types.{Ty}
use Rattle.rc_core.specs.Heap.{Value}
use Rattle.rc_core.specs.Runs.{Calls, Ops}
use Rattle.rc_rlang.specs.RegionCode.{Routine, Rlang}
use Rattle.rc_rlang.specs.RegionFits.{CodeFits}
use Rattle.rc_rlang.specs.RegionRuns.{run_routine, deletes, run_main}
use Rattle.rc_emission.specs.StackCode.{run_function, stack_main}
use Rattle.rc_emission.specs.StatementCode.{Slots, stack_function, stack_code_of}
use Rattle.rc_emission.specs.KeptOperands.{slots_of, stack_code}
use Rattle.rc_emission.specs.Served.{CodeServed, CodeNames}
use Rattle.rc_emission.specs.Turns.{CallsWithin}

-- a function has a local for an operand of the type at the height
abbrev pub IsThere : Routine → Slots → ℕ → Ty → Type 0
IsThere f s h ty = s.slot h ty < length (f.locals ++ s.types)

-- locals that keep operands serve a function: for each operand that has to be kept there is one, behind the source's, and operands of
-- different heights have different ones
pub record Serves (f : Routine) (s : Slots) : Type 0 where
  pub behind : (h : ℕ) (ty : Ty) → length f.locals ≤ s.slot h ty
  pub apart : (h k : ℕ) (ty uy : Ty) → IsThere f s h ty → IsThere f s k uy → h < k → s.slot h ty ≢ s.slot k uy
  pub fits : CodeServed (IsThere f s) f.locals f.body

-- what is asked of region code
abbrev pub IsOrdered : Rlang → Type 0
IsOrdered r = (k : ℕ) (f : Routine) → slice_get r.functions k ≡ Some f → CodeFits f.body × CodeNames f.locals f.body

abbrev pub ServesAll : (Routine → Slots) → Rlang → Type 0
ServesAll slots r = (k : ℕ) (f : Routine) → slice_get r.functions k ≡ Some f → Serves f (slots f)

module _ {W : Type 0} (ops : Ops W) where
  -- with locals for operands
  abbrev pub MeansTheSameWith : (Routine → Slots) → Rlang → Type 0
  MeansTheSameWith slots r = (w : W) → stack_main ops (deletes r) (stack_code_of slots r) r.main w ≡ run_main ops r w

  -- with those that emission chooses
  abbrev pub MeansTheSame : Rlang → Type 0
  MeansTheSame r = (w : W) → stack_main ops (deletes r) (stack_code r) r.main w ≡ run_main ops r w

  -- a function by itself, whichever functions delete, and whatever calls do that make no turns
  abbrev pub FunctionsMeanTheSame : Rlang → Type 0
  FunctionsMeanTheSame r = (k : ℕ) (f : Routine) → slice_get r.functions k ≡ Some f → (deleting : ℕ → Bool) (calls : Calls W) → CallsWithin ops calls → (arguments : List Value) (w : W) →
      run_function ops deleting calls (Some (stack_function slots_of deleting f)) arguments w ≡ run_routine ops deleting calls (Some f) arguments w
