-- Every call keeps the facts of entries and exits, and does the same where stores are left to `put`.
use Rattle.std.proofs.Common.{◌≡◌, ℕ, zero, suc, ◌+◌, Bool, true, false, List, length, Some, refl, sym, ◌∙◌, subst, arith}
use Rattle.std.specs.Prelude.{slice_get, take}
use Rattle.rc_core.specs.Heap.{Value, Null, Heap, parent, fits}
use Rattle.rc_core.specs.Source.{World, turn_from, source}
use Rattle.rc_rlang.specs.RegionCode.{width, more, Code, Routine, Rlang}
use Rattle.rc_rlang.specs.RegionCode as Code
use Rattle.rc_rlang.specs.RegionPoints.{steps_points}
use Rattle.rc_rlang.specs.RegionLive.{before_act}
use Rattle.rc_rlang.specs.RegionRuns.{run_routine, deletes, calls_within, Way, Next, Broke, Continued, Returned, kept, Temporaries, temporary, target_at}
use Rattle.rc_rlang.specs.RegionFlow.{looked_at, stored, is_regional, note_in, one_of, first_of, copies, temporary_variable, steps_nodes, routine_nodes, act_nodes}
use Rattle.rc_annotations.specs.Annotations.{Annotation, Consistent}
use Rattle.rc_annotations.specs.Holding.{region_in, AllHold}
use Rattle.rc_annotations.specs.Variables.{past, values_of}
use Rattle.rc_annotations.specs.Worlds.{Made, Sane, Stays}
use Rattle.rc_along.specs.Along.{given_to, Called, Keeps, RightRoutine, RoutineMeets, OptionRoutineMeets, CallsMeet}
use Rattle.rc_annotations.specs.Annotations.{asked_of, AllProven}
use Rattle.rc_along.specs.MarkedRuns.{Put, routine_marked, calls_marked}
use Rattle.rc_along.specs.MarkedLaws.{Trusting}
use Rattle.rc_along.specs.Comes.{Activation, steps_in, code_in}
use Rattle.rc_along.specs.RunLaws.{AllRight, IsCall, GoodAt, GoodEnd, StepsKeepFacts, CodeKeepsFacts, RemovedFits}
use Rattle.rc_annotations.proofs.Truths.{asked_fits}
use Rattle.rc_annotations.proofs.Variables as V
use Rattle.rc_annotations.proofs.WorldFacts.{Goes, goes_bind, goes_more, goes_both, gives, stays_heap}
use Rattle.rc_along.proofs.Standing.{stand_left, twin}
use Rattle.rc_along.proofs.Settings.{Setting, Calling}
use Rattle.rc_along.proofs.Crossing.{regional_temp, keeps, kind_regional, target_pointer}
use Rattle.rc_along.proofs.CallsPass.{kept_whole}
use Rattle.rc_along.proofs.StepsHold.{steps_good}
use Rattle.rc_along.proofs.ActsHold.{Left, GoodWay, first_more}
use Rattle.rc_along.proofs.CodeHolds.{code_good}
use Rattle.rc_along.proofs.RoutinesHold.{routine_good}
use Rattle.rc_along.proofs.MarkedCode.{routine_same}

-- every call keeps the facts of entries and exits
module _ (r : Rlang) (temporaries : ℕ → ℕ) (a : Annotation) (c : Consistent r temporaries a) (rights : (k : ℕ) (fk : Routine) → slice_get r.functions k ≡ Some fk → RightRoutine r fk (temporaries k)) where
  abbrev Turned : (m k : ℕ) → List Value → World → Unit {0} → World → Type 0
  Turned m k xs w u w1 = (w1.heap ≡ w.heap) × OptionRoutineMeets (deletes r) (slice_get r.functions k) (calls_within source r m) (CallsMeet r m) xs w1

  same_heap : (w : World) (turns : ℕ) → Goes (λ u w1. w1.heap ≡ w.heap) (turn_from turns w)
  same_heap w zero = record { holds = tt }
  same_heap w (suc j) = gives (λ u w1. w1.heap ≡ w.heap) tt (record w { turns = j }) refl

  turned : (m k : ℕ) (xs : List Value) (w : World) → CallsMeet r (suc m) k xs w → Goes (Turned m k xs w) (source.take_turn w)
  turned m k xs w meets = goes_both (λ u w1. w1.heap ≡ w.heap) (λ u w1. OptionRoutineMeets (deletes r) (slice_get r.functions k) (calls_within source r m) (CallsMeet r m) xs w1) (source.take_turn w) (same_heap w w.turns) (record { holds = meets })

  copied_long : (fk : Routine) (xs : List Value) → length (given_to fk xs) ≡ copies fk
  copied_long fk xs = V.picked_length (take fk.parameters fk.locals) xs

  -- a call of a function, with so many more calls inside it
  abbrev in_call : (k : ℕ) (fk : Routine) → slice_get r.functions k ≡ Some fk → (xs : List Value) (first : Heap) → Setting
  in_call k fk found xs first = record { r = r; temporaries = temporaries; a = a; c = c; g = k; f = fk; there = found; copied = given_to fk xs; whole = copied_long fk xs; heap0 = first }

  abbrev around_of : (k : ℕ) (fk : Routine) (found : slice_get r.functions k ≡ Some fk) (xs : List Value) (first : Heap) (m : ℕ) → Keeps r a (calls_within source r m) (CallsMeet r m) → Calling (in_call k fk found xs first)
  around_of k fk found xs first m keeps = record { deleting = deletes r; calls = calls_within source r m; inside = CallsMeet r m; keeps_calls = keeps }

  pub calls_keep : (m : ℕ) → Keeps r a (calls_within source r m) (CallsMeet r m)
  calls_keep zero k fk xs w found long meets sane made' hold = tt
  calls_keep (suc m) k fk xs w found long meets sane made' hold = (goes_bind (Turned m k xs w) (Called a fk.result k (given_to fk xs) w) (source.take_turn w) (λ u w1. run_routine source (deletes r) (calls_within source r m) (slice_get r.functions k) xs w1) (turned m k xs w meets) (after (calls_keep m))).holds
    where
      after : Keeps r a (calls_within source r m) (CallsMeet r m) → (u : Unit {0}) (w1 : World) → Turned m k xs w u w1 → Goes (Called a fk.result k (given_to fk xs) w) (run_routine source (deletes r) (calls_within source r m) (slice_get r.functions k) xs w1)
      after before_it u w1 q = inner (subst (λ o. OptionRoutineMeets (deletes r) o (calls_within source r m) (CallsMeet r m) xs w1) found q.1)
        where
          stays : Stays w w1
          stays = stays_heap w w1 sane q.0

          inner : RoutineMeets (deletes r) fk (calls_within source r m) (CallsMeet r m) xs w1 → Goes (Called a fk.result k (given_to fk xs) w) (run_routine source (deletes r) (calls_within source r m) (slice_get r.functions k) xs w1)
          inner met = rw found (goes_more (Left (in_call k fk found xs w.heap) (around_of k fk found xs w.heap m before_it)) (Called a fk.result k (given_to fk xs) w) (run_routine source (deletes r) (calls_within source r m) (Some fk) xs w1)
              (λ v w2 p. (record { sane = p.sane; grown = p.grown }, p.made, p.facts))
              (routine_good (in_call k fk found xs w.heap) (around_of k fk found xs w.heap m before_it) xs w1 refl long (rights k fk found) met stays.sane stays.grown
              (subst (λ h. AllHold (a.entry k) (past (given_to fk xs) (λ _. Null)) h) (sym q.0) hold) (subst (λ h. (i : ℕ) → Made h (past (given_to fk xs) (λ _. Null) i)) (sym q.0) made')))

  -- marked stores whose checks the facts prove needless
  module _ (marks : (function point : ℕ) → Bool) (all_proven : AllProven r a marks) (put : Put World) (trusting : Trusting put) where
    pub marked_calls_same : (m k : ℕ) (fk : Routine) (xs : List Value) (w : World) → slice_get r.functions k ≡ Some fk → length xs ≡ fk.parameters → CallsMeet r m k xs w → Sane w → ((i : ℕ) → Made w.heap (past (given_to fk xs) (λ _. Null) i)) → AllHold (a.entry k) (past (given_to fk xs) (λ _. Null)) w.heap
        → calls_marked source put marks r m k xs w ≡ calls_within source r m k xs w
    marked_calls_same zero k fk xs w found long meets sane made' hold = refl
    marked_calls_same (suc m) k fk xs w found long meets sane made' hold =
        twin (Turned m k xs w) (source.take_turn w) (source.take_turn w) (λ u w1. run_routine source (deletes r) (calls_within source r m) (slice_get r.functions k) xs w1) (λ u w1. routine_marked source put (deletes r) (marks k) (calls_marked source put marks r m) (slice_get r.functions k) xs w1) refl (turned m k xs w meets)
        (after (marked_calls_same m))
      where
        after : ((k : ℕ) (fk : Routine) (xs : List Value) (w : World) → slice_get r.functions k ≡ Some fk → length xs ≡ fk.parameters → CallsMeet r m k xs w → Sane w → ((i : ℕ) → Made w.heap (past (given_to fk xs) (λ _. Null) i)) → AllHold (a.entry k) (past (given_to fk xs) (λ _. Null)) w.heap
            → calls_marked source put marks r m k xs w ≡ calls_within source r m k xs w)
            → (u : Unit {0}) (w1 : World) → Turned m k xs w u w1 → routine_marked source put (deletes r) (marks k) (calls_marked source put marks r m) (slice_get r.functions k) xs w1 ≡ run_routine source (deletes r) (calls_within source r m) (slice_get r.functions k) xs w1
        after before_it u w1 q =
            let stays : Stays w w1 = stays_heap w w1 sane q.0 in
            let met = subst (λ o. OptionRoutineMeets (deletes r) o (calls_within source r m) (CallsMeet r m) xs w1) found q.1 in
            subst (λ o. routine_marked source put (deletes r) (marks k) (calls_marked source put marks r m) o xs w1 ≡ run_routine source (deletes r) (calls_within source r m) o xs w1) (sym found)
            (routine_same (in_call k fk found xs w.heap) (around_of k fk found xs w.heap m (calls_keep m)) (record { calls' = calls_marked source put marks r m; put = put; trusting = trusting; marked = marks k; proven = all_proven k; calls_same = before_it }) xs w1 refl long (rights k fk found) met stays.sane stays.grown
            (subst (λ h. AllHold (a.entry k) (past (given_to fk xs) (λ _. Null)) h) (sym q.0) hold) (subst (λ h. (i : ℕ) → Made h (past (given_to fk xs) (λ _. Null) i)) (sym q.0) made'))

-- as the laws say it
module _ (r : Rlang) (temporaries : ℕ → ℕ) (a : Annotation) (c : Consistent r temporaries a) where
  abbrev at_call : (d : Activation) → IsCall r d → (first : Heap) → Setting
  at_call d is first = record { r = r; temporaries = temporaries; a = a; c = c; g = d.function; f = d.routine; there = is.there; copied = d.copied; whole = is.long; heap0 = first }

  abbrev around_call : AllRight r temporaries → (d : Activation) (is : IsCall r d) (first : Heap) → Calling (at_call d is first)
  around_call rights d is first = record { deleting = deletes r; calls = calls_within source r d.depth; inside = CallsMeet r d.depth; keeps_calls = calls_keep r temporaries a c rights d.depth }

  pub steps_keep_facts : StepsKeepFacts r temporaries a
  steps_keep_facts rights d first is x here next live env t w st right meets good = (steps_good (at_call d is first) (around_call rights d is first) x here next live env t w st right meets good).holds

  pub code_keeps_facts : CodeKeepsFacts r temporaries a
  code_keeps_facts rights d first is x here k ways env t w st right meets i =
      (goes_more (GoodWay (at_call d is first) (around_call rights d is first) k) (GoodEnd a d first k) (code_in r d x ways env t w) ends
      (code_good (at_call d is first) (around_call rights d is first) x here k st right ways env t w meets i)).holds
    where
      ends : (way : Way) (w1 : World) → GoodWay (at_call d is first) (around_call rights d is first) k way w1 → GoodEnd a d first k way w1
      ends (Next env t) w1 p = p
      ends (Broke env t) w1 p = p
      ends (Continued env t) w1 p = p
      ends (Returned v) w1 p = (p.facts, p.made, p.sane, p.grown)

  pub removed_fits : RemovedFits r temporaries a
  removed_fits rights d first is steps line acc here k ways env t w st right meets i fact asks has =
      (goes_more (λ t1 w1. GoodAt a d first at env t1 w1) Fits (steps_in r d steps (before_act (Code.store line acc) ways.next) env t w) fit
      (steps_good (at_call d is first) (around_call rights d is first) steps here at (before_act (Code.store line acc) ways.next) env t w
      (stand_left (routine_nodes d.routine) here (steps_nodes d.routine steps here at) (act_nodes d.routine (Code.store line acc) at k.next) st) right.0 meets.0
      (subst (λ p. GoodAt a d first p env t w) (sum (steps_points steps) here) i))).holds
    where
      at : ℕ
      at = here + steps_points steps

      Fits : Temporaries → World → Type 0
      Fits t1 w1 = fits (parent w1.heap) (note_in acc.cell) (region_in (target_at acc t1 0).pointer) (kept acc.cell (temporary acc.cell t1 (width acc))) ≡ true

      sum : (j p : ℕ) → first_of (j + 1) p k.next ≡ first_of j p (p + j)
      sum j p = first_more (at_call d is first) (around_call rights d is first) j 1 p k.next (omega arith)

      regional : is_regional acc.cell ≡ true
      regional = by (is_regional acc.cell) asks
        where
          by : (b : Bool) → asked_of (one_of b (stored (temporary_variable d.routine (width acc)) (temporary_variable d.routine 0) (note_in acc.cell)) (looked_at (temporary_variable d.routine 0))) ≡ Some fact → b ≡ true
          by true e = refl
          by false e = cc

      fit : (t1 : Temporaries) (w1 : World) → GoodAt a d first at env t1 w1 → Fits t1 w1
      fit t1 w1 good =
          let v : kept acc.cell (temporary acc.cell t1 (width acc)) ≡ values_of d.routine d.copied env t1.regions (temporary_variable d.routine (width acc)) =
          kept_whole (at_call d is first) acc.cell (temporary acc.cell t1 (width acc)) regional ∙ regional_temp (at_call d is first) acc.cell t1 (width acc) (kind_regional (at_call d is first) acc.cell regional) ∙ sym (V.temp_value d.routine d.copied is.long env t1.regions (width acc)) in
          let p : (target_at acc t1 0).pointer ≡ values_of d.routine d.copied env t1.regions (temporary_variable d.routine 0) = target_pointer (at_call d is first) acc t1 0 ∙ sym (V.temp_value d.routine d.copied is.long env t1.regions 0) in
          let q : asked_of (one_of (is_regional acc.cell) (stored (temporary_variable d.routine (width acc)) (temporary_variable d.routine 0) (note_in acc.cell)) (looked_at (temporary_variable d.routine 0))) ≡ Some fact = asks in
          rw (v, p) (asked_fits (note_in acc.cell) (temporary_variable d.routine (width acc)) (temporary_variable d.routine 0) fact (values_of d.routine d.copied env t1.regions) w1.heap (subst (λ b. asked_of (one_of b (stored (temporary_variable d.routine (width acc)) (temporary_variable d.routine 0) (note_in acc.cell)) (looked_at (temporary_variable d.routine 0))) ≡ Some fact) regional q) (good.facts fact has))
