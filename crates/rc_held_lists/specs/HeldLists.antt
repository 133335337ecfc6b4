-- What a run of region code holds is what is listed. Wherever it comes to a deletion, or to a call of a function that deletes, the locals
-- whose values it holds there are the list of that point; and in the region code of a program that is the list of a node of the source.
use Rattle.std.specs.Prelude.{◌≡◌, ℕ, zero, suc, ◌+◌, Bool, true, List, [], ◌∷◌, Some, slice_get}
use Rattle.rc_core.specs.Types.{Ty}
use Rattle.rc_core.specs.Heap.{Value}
use Rattle.rc_core.specs.Source.{World}
use Rattle.rc_core.specs.Programs.{Function, Program}
use Rattle.rc_core.specs.WellTyped.{IsWellTyped}
use Rattle.rc_rlang.specs.RegionCode.{call, set, Steps, more, perform, delete, Routine, Rlang}
use Rattle.rc_rlang.specs.RegionLive.{before_steps}
use Rattle.rc_rlang.specs.RegionPoints.{routine_points}
use Rattle.rc_rlang.specs.RegionRuns.{Temporaries, pins_from, deletes}
use Rattle.rc_rlang.specs.LiveLists.{live_lists}
use Rattle.rc_rlang.specs.LiveMaps.{list_at}
use Rattle.rc_along.specs.Comes.{Activation, Part, Stepping, Acting, Comes}
use Rattle.rc_translation.specs.Translation.{region_of_program}
use Rattle.rc_source_lists.specs.DeletingNodes.{Node, function_nodes}
use Rattle.rc_source_lists.specs.SourceLists.{Lists}

-- the number of a function's first point
abbrev pub first_point : List Routine → (function : ℕ) → ℕ
first_point [] k = 0
first_point (f ∷ fs) zero = 0
first_point (f ∷ fs) (suc k) = routine_points f + first_point fs k

-- where the part deletes, or calls a function that deletes: its activation, its point and what is live there, whose values `Comes` and
-- `RegionRuns` have it hold
pub data Deletes (r : Rlang) : Part → Activation → (here : ℕ) → (live : ℕ → Bool) → Type 0 where
  deletion : (c : Activation) (line here : ℕ) (live : ℕ → Bool) (env : List Value) (t : Temporaries) (w : World) → Deletes r (Acting c (delete line) here live env t w) c here live
  performed : (c : Activation) (line k : ℕ) (tys : List Ty) (here : ℕ) (live : ℕ → Bool) (env : List Value) (t : Temporaries) (w : World) → deletes r k ≡ true → Deletes r (Acting c (perform line k tys) here live env t w) c here live
  called : (c : Activation) (line h : ℕ) (ty : Ty) (k : ℕ) (tys : List Ty) (rest : Steps) (here : ℕ) (live : ℕ → Bool) (env : List Value) (t : Temporaries) (w : World) → deletes r k ≡ true →
      Deletes r (Stepping c (more (set line h ty (call k tys)) rest) here live env t w) c here (before_steps rest live)

abbrev pub HeldAreListed : Type 0
HeldAreListed = (r : Rlang) (first : World) (part : Part) (c : Activation) (here : ℕ) (live : ℕ → Bool) → Comes r first part → Deletes r part c here live →
    list_at (live_lists r) (first_point r.functions c.function + here) ≡ Some (pins_from c.routine.locals 0 live)

-- a node of the function that deletes at the point, and whose list that is
pub record IsNodeAt (program : Program) (k point : ℕ) (locals : List ℕ) : Type 0 where
  pub function : Function
  pub is : slice_get program.functions k ≡ Some function
  pub number : ℕ
  pub node : Node
  pub there : slice_get (function_nodes program function (first_point (region_of_program program).functions k)) number ≡ Some node
  pub stands : node.point ≡ point
  pub lists : Lists node locals

abbrev pub HeldAreLiveInTheSource : Type 0
HeldAreLiveInTheSource = (program : Program) → IsWellTyped program → (first : World) (part : Part) (c : Activation) (here : ℕ) (live : ℕ → Bool) → Comes (region_of_program program) first part → Deletes (region_of_program program) part c here live →
    IsNodeAt program c.function (first_point (region_of_program program).functions c.function + here) (pins_from c.routine.locals 0 live)
