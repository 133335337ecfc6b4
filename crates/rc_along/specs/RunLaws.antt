-- The laws of facts along runs of region code over the source's world.
use Rattle.std.specs.Prelude.{◌≡◌, ℕ, ◌+◌, Bool, true, List, length, slice_get, Some}
use Rattle.rc_core.specs.Heap.{Value, Heap, parent, fits}
use Rattle.rc_core.specs.Laws.{IfGoes}
use Rattle.rc_core.specs.Live.{Ways}
use Rattle.rc_core.specs.Source.{World, source}
use Rattle.rc_facts.specs.declared.fact.Fact.{Fact}
use Rattle.rc_rlang.specs.RegionCode.{width, Access, Steps, store, Code, simple, Routine, Rlang}
use Rattle.rc_rlang.specs.RegionFlow.{Ends, going, first_of, note_in, copies, steps_nodes, stored_value, code_nodes, routine_nodes}
use Rattle.rc_rlang.specs.RegionLive.{before_act}
use Rattle.rc_rlang.specs.RegionPoints.{steps_points, code_points}
use Rattle.rc_rlang.specs.RegionRuns.{Temporaries, temporary, target_at, kept, Way, Next, Broke, Continued, Returned, deletes, calls_within}
use Rattle.rc_annotations.specs.Annotations.{Annotation, asked_by}
use Rattle.rc_annotations.specs.Holding.{region_in, AllHold}
use Rattle.rc_annotations.specs.Variables.{past}
use Rattle.rc_annotations.specs.Worlds.{Grown, Sane}
use Rattle.rc_along.specs.Along.{Stand, Good, MadeResult, Keeps, RightSteps, RightCode, RightRoutine, StepsMeet, CodeMeets, CallsMeet}
use Rattle.rc_along.specs.Comes.{Activation, steps_in, code_in}

-- the types of all functions agree
abbrev pub AllRight : Rlang → (temporaries : ℕ → ℕ) → Type 0
AllRight r temporaries = (k : ℕ) (fk : Routine) → slice_get r.functions k ≡ Some fk → RightRoutine r fk (temporaries k)

-- a call of a function that is there, with as many hidden copies as it has
pub record IsCall (r : Rlang) (c : Activation) : Type 0 where
  pub there : slice_get r.functions c.function ≡ Some c.routine
  pub long : length c.copied ≡ copies c.routine

-- in a call, at whose begin this was the heap
module _ (a : Annotation) (c : Activation) (first : Heap) where
  -- the facts before a point hold
  abbrev pub GoodAt : (point : ℕ) → List Value → Temporaries → World → Type 0
  GoodAt point env t w = Good a c.function c.routine c.copied first point env t w

  -- the facts of the point to which a statement's code leads, or of the exit
  abbrev pub GoodEnd : Ends → Way → World → Type 0
  GoodEnd k (Next env t) w = GoodAt k.next env t w
  GoodEnd k (Broke env t) w = GoodAt k.broken env t w
  GoodEnd k (Continued env t) w = GoodAt k.continued env t w
  GoodEnd k (Returned v) w = AllHold (a.exit c.function) (past c.copied (λ _. v)) w.heap × MadeResult c.routine.result w.heap v × Sane w × Grown first w.heap

-- the run meets what facts ask of it
module _ (r : Rlang) (c : Activation) where
  abbrev pub StepsMeetIn : Steps → (live : ℕ → Bool) → List Value → Temporaries → World → Type 0
  StepsMeetIn x live env t w = StepsMeet (deletes r) c.routine (calls_within source r c.depth) (CallsMeet r c.depth) x live env t w

  abbrev pub CodeMeetsIn : Code → Ways → List Value → Temporaries → World → Type 0
  CodeMeetsIn x ways env t w = CodeMeets (deletes r) c.routine (calls_within source r c.depth) (CallsMeet r c.depth) x ways env t w

module _ (r : Rlang) (temporaries : ℕ → ℕ) (a : Annotation) where
  -- from the point where steps begin to what comes behind them
  abbrev pub StepsKeepFacts : Type 0
  StepsKeepFacts = AllRight r temporaries → (c : Activation) (first : Heap) → IsCall r c → (x : Steps) (here next : ℕ) (live : ℕ → Bool) (env : List Value) (t : Temporaries) (w : World) →
      Stand (routine_nodes c.routine) here (steps_nodes c.routine x here next) → RightSteps r c.routine (temporaries c.function) x → StepsMeetIn r c x live env t w →
      GoodAt a c first (first_of (steps_points x) here next) env t w → IfGoes (λ t1 w1. GoodAt a c first next env t1 w1) (steps_in r c x live env t w)

  -- from the point where a statement begins to the point where it leads
  abbrev pub CodeKeepsFacts : Type 0
  CodeKeepsFacts = AllRight r temporaries → (c : Activation) (first : Heap) → IsCall r c → (x : Code) (here : ℕ) (k : Ends) (ways : Ways) (env : List Value) (t : Temporaries) (w : World) →
      Stand (routine_nodes c.routine) here (code_nodes c.routine x here k) → RightCode r c.routine (temporaries c.function) x → CodeMeetsIn r c x ways env t w →
      GoodAt a c first (first_of (code_points x) here k.next) env t w → IfGoes (GoodEnd a c first k) (code_in r c x ways env t w)

  -- where a store's point has the fact that its check asks, the check finds that the value fits, whenever the run comes to the store
  abbrev pub RemovedFits : Type 0
  RemovedFits = AllRight r temporaries → (c : Activation) (first : Heap) → IsCall r c → (steps : Steps) (line : ℕ) (acc : Access) (here : ℕ) (k : Ends) (ways : Ways) (env : List Value) (t : Temporaries) (w : World) →
      let x = simple steps (store line acc) in
      Stand (routine_nodes c.routine) here (code_nodes c.routine x here k) → RightCode r c.routine (temporaries c.function) x → CodeMeetsIn r c x ways env t w → GoodAt a c first (first_of (code_points x) here k.next) env t w →
      (fact : Fact) → asked_by (going (stored_value c.routine acc.cell (width acc) 0) k.next) ≡ Some fact → a.before c.function (here + steps_points steps) fact ≡ true →
      IfGoes (λ t1 w1. fits (parent w1.heap) (note_in acc.cell) (region_in (target_at acc t1 0).pointer) (kept acc.cell (temporary acc.cell t1 (width acc))) ≡ true) (steps_in r c steps (before_act (store line acc) ways.next) env t w)

  -- calls inside one another
  abbrev pub CallsKeepFacts : Type 0
  CallsKeepFacts = AllRight r temporaries → (m : ℕ) → Keeps r a (calls_within source r m) (CallsMeet r m)
