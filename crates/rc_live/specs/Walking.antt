-- A walk from the end of a function to its beginning. It lists what is live at deleting points, the last one first, and counts points
-- down.
use Rattle.std.specs.Prelude.{◌≡◌, ◌≤◌, ℕ, ◌+◌, ◌-◌, ◌||◌, Bool, List, [], ◌++◌, length, map, reverse}
use Rattle.rc_core.specs.Types.{Ty}
use Rattle.rc_core.specs.Programs.{Struct}
use Rattle.rc_core.specs.Shapes.{struct_of}
use Rattle.rc_core.specs.Live.{Ways}
use Rattle.rc_core.specs.Laid.{AreLaidOut}
use Rattle.rc_rlang.specs.declared.code.RegionParts.{RegionParts}
use Rattle.rc_rlang.specs.RegionCode.{Operation, Step, Steps, Act, Code, Codes, Routine}
use Rattle.rc_rlang.specs.RegionPoints.{step_points, steps_points, act_points, code_points, codes_points}
use Rattle.rc_rlang.specs.RegionLive.{operation_uses, before_step, before_steps, before_act, before_code, before_codes}
use Rattle.rc_rlang.specs.RegionRuns.{deletes}
use Rattle.rc_rlang.specs.Shapes.{rlang_of}
use Rattle.rc_rlang.specs.LiveLists.{Held, operation_lists, step_lists, steps_lists, act_lists, code_lists, codes_lists}
use Rattle.rc_rlang.specs.LiveMaps.{IsIncreasing}
use Rattle.rc_live.specs.Rows.{numbered, Shows}
use Rattle.rc_rlang.specs.Touches.{Touch, nothing, reads, calls}
use Rattle.rc_live.specs.declared.program.Listed.{Listed}
use Rattle.rc_live.specs.declared.program.Listed.TheVariants.{Live, Nothing}
use Rattle.rc_live.specs.declared.walk.Context.{Context}
use Rattle.rc_live.specs.declared.touches.Touched.{Touched}
use Rattle.rc_live.specs.declared.touches.Touched.TheVariants.{Nothing as TouchesNothing, Reads, Calls}

abbrev pub touch_in : Touched → Touch
touch_in TouchesNothing = nothing
touch_in (Reads local) = reads local
touch_in (Calls function) = calls function

abbrev pub structs_in : RegionParts → List Struct
structs_in parts = map struct_of parts.structs.items

-- the locals have bits, and each has one
pub record HaveBits (names : List ℕ) : Type 0 where
  pub short : length names ≤ 128
  pub once : IsIncreasing names

abbrev pub IsReady : Context → Type 0
IsReady c = HaveBits c.names.now

-- it serves a function with locals of these types
pub record Serves (c : Context) (types : List Ty) : Type 0 where
  pub names : c.names.now ≡ numbered types
  pub laid : AreLaidOut (structs_in c.parts.now) c.layouts.now

pub record Going : Type 0 where
  pub point : ℕ
  pub lists : List Held

-- back past so many points, of which these are the lists where the first has a number
pub record WentBack (points : ℕ) (lists : ℕ → List Held) (old new : Going) : Type 0 where
  pub counted : (here : ℕ) → old.point ≡ here + points → new.point ≡ here
  pub listed : (here : ℕ) → old.point ≡ here + points → new.lists ≡ old.lists ++ reverse (lists here)

-- back past a piece of code, before which this is live
pub record Done (names : List ℕ) (live : ℕ → Bool) (points : ℕ) (lists : ℕ → List Held) (row : ℕ) (old new : Going) : Type 0 where
  pub shows : Shows names row live
  pub back : WentBack points lists old new

-- so many points nearer to the beginning
abbrev pub lowered : ℕ → Held → Held
lowered n h = record { point = h.point - n; locals = h.locals }

abbrev pub deletes_in : Context → ℕ → Bool
deletes_in c f = deletes (rlang_of c.parts.now) f

module _ (c : Context) (types : List Ty) where
  abbrev pub OperationDone : Operation → (live : ℕ → Bool) → (row : ℕ) → (old new : Going) → Type 0
  OperationDone op live row old new = Done c.names.now (λ x. operation_uses op x || live x) 1 (λ here. operation_lists (deletes_in c) types op here live) row old new

  abbrev pub StepDone : Step → (live : ℕ → Bool) → (row : ℕ) → (old new : Going) → Type 0
  StepDone s live row old new = Done c.names.now (before_step s live) (step_points s) (λ here. step_lists (deletes_in c) types s here live) row old new

  abbrev pub StepsDone : Steps → (live : ℕ → Bool) → (row : ℕ) → (old new : Going) → Type 0
  StepsDone s live row old new = Done c.names.now (before_steps s live) (steps_points s) (λ here. steps_lists (deletes_in c) types s here live) row old new

  abbrev pub ActDone : Act → (live : ℕ → Bool) → (row : ℕ) → (old new : Going) → Type 0
  ActDone act live row old new = Done c.names.now (before_act act live) (act_points act) (λ here. act_lists (deletes_in c) types act here live) row old new

  abbrev pub CodeDone : Code → Ways → (row : ℕ) → (old new : Going) → Type 0
  CodeDone code k row old new = Done c.names.now (before_code code k) (code_points code) (λ here. code_lists (deletes_in c) types code here k) row old new

  abbrev pub CodesDone : Codes → Ways → (row : ℕ) → (old new : Going) → Type 0
  CodesDone codes k row old new = Done c.names.now (before_codes codes k) (codes_points codes) (λ here. codes_lists (deletes_in c) types codes here k) row old new

-- a function of which all locals are looked at, or none
abbrev pub looked_at : Listed → List Ty → List Ty
looked_at Live types = types
looked_at Nothing types = []

abbrev pub seen : Listed → Routine → Routine
seen listed f = record { parameters = f.parameters; locals = looked_at listed f.locals; result = f.result; deletes = f.deletes; line = f.line; body = f.body }
