-- What a run comes to stands where the facts of its point hold.
use Rattle.std.proofs.Common.{◌≡◌, ℕ, zero, suc, ◌+◌, ◌*◌, ◌<◌, ◌≤◌, Bool, true, false, ◌||◌, List, [], ◌∷◌, ◌++◌, length, map, replicate, Option, Some, None, refl, sym, ap, ◌∙◌, subst, arith}
use Rattle.std.specs.Prelude.{◌-◌, slice_get, take}
use Rattle.rc_core.specs.declared.ty.NumberType.{NumberType}
use Rattle.rc_core.specs.declared.ty.Signedness.{Signedness}
use Rattle.rc_core.specs.declared.ty.Signedness.TheVariants.{Signed, Unsigned as Wrapping}
use Rattle.rc_core.specs.declared.ty.NumberType.TheVariants.{Int, Unsigned, Char}
use Rattle.rc_core.specs.declared.operators.Operator.{Operator}
use Rattle.rc_core.specs.declared.stmt.Change.{Change}
use Rattle.rc_core.specs.declared.stmt.Change.TheVariants.{Compute, Step as Stepping_by}
use Rattle.rc_core.specs.Types.{Ty, int, CellKind}
use Rattle.rc_core.specs.Layout.{Layout, note_of}
use Rattle.rc_core.specs.Heap.{Value, Null, Heap, parent, zero_of}
use Rattle.rc_core.specs.Laws.{IfGoes}
use Rattle.rc_core.specs.Live.{Ways, then_live, at_end}
use Rattle.rc_core.specs.Runs.{Run, Go, Target, Calls}
use Rattle.rc_core.specs.Source.{World, turn_from, source}
use Rattle.rc_safety.specs.Soundness.{HeapIsSound}
use Rattle.rc_rlang.specs.Points.{change_points}
use Rattle.rc_rlang.specs.RegionRuns as R
use Rattle.rc_rlang.specs.RegionCode.{regional, Access, width, Operation, call, Step, set, fork, Steps, none, more, Act, Test, Code, Codes, Routine, Rlang}
use Rattle.rc_rlang.specs.RegionCode as Code
use Rattle.rc_rlang.specs.RegionFlow.{nothing, looked_at, stored, called, Node, going, is_regional, is_regional_cell, one_of, first_of, copies, yes_effect, no_effect, step_nodes, steps_nodes, regional_arguments, in_line, cell_effects, Ends, act_nodes, test_nodes, code_nodes, codes_nodes, end_nodes, routine_nodes}
use Rattle.rc_rlang.specs.RegionLive.{before_steps, before_act, before_code, before_codes}
use Rattle.rc_rlang.specs.RegionPoints.{step_points, steps_points, act_points, branch_points, code_points, codes_points}
use Rattle.rc_rlang.specs.RegionRuns.{Temporaries, temporary, temporaries_from, with_temporary, set_kind, cell_kind, with_cell, blank_temporaries, kept_all, holds, held, sized, target_at, test_value, Way, Next, Broke, Continued, Returned, step_run, steps_run, code_run, deletes, calls_within}
use Rattle.rc_annotations.specs.Annotations.{Annotation, Consistent}
use Rattle.rc_annotations.specs.Holding.{AllHold, is_present, Rooted}
use Rattle.rc_annotations.specs.Variables.{picked, past}
use Rattle.rc_annotations.specs.Worlds.{Made, Sane, Stays}
use Rattle.rc_along.specs.Along.{Stand, given_to, Keeps, RightSteps, RightAct, RightCode, RightCodes, RightRoutine, CallRight, CallMeets, StepsMeet, ActMeets, MoveMeets, OptionMeets, TestMeets, HeadMeets, nothing_more, CodeMeets, CodesMeet, RoundsMeet, body_meets, behind_meets, RoutineMeets, OptionRoutineMeets, CallsMeet}
use Rattle.rc_along.specs.MarkedRuns.{before_store}
use Rattle.rc_along.specs.Comes.{Activation, activation, seen, Part, At, Calling, Stepping, Acting, Moving, Running, RunningAll, operation_place, loop_third, loop_body, loop_live, repeat_body, repeat_live, loop_at_test, loop_at_body, loop_at_third, repeat_at_tail, GoesOn, on, on_again, step_in, steps_in, code_in, changed_in, entered, Comes, at_main, at_entry, at_body, behind_body, at_zero_return, at_step, at_yes, at_no, at_call, at_next_step, at_act, at_performed, in_update, behind_operation, at_cells, at_cell, at_loaded_cell, at_next_cell, at_steps, behind_steps, at_clear, at_break, at_continue, at_block, at_first, at_rest, at_condition, at_branch, at_true, at_false, at_loop, at_loop_condition, at_loop_branch, at_loop_body, at_third, at_next_round, at_repeat, at_repeat_body, at_repeat_condition, at_repeat_branch, at_repeat_round}
use Rattle.rc_along.specs.ComesLaws.{FactsHoldWhenever}
use Rattle.rc_annotations.proofs.Variables as V
use Rattle.rc_annotations.proofs.Effects.{not_eq}
use Rattle.rc_annotations.proofs.WorldFacts.{Goes, gives, stays_itself, stays_trans, load_says}
use Rattle.rc_annotations.proofs.Nodes.{step_count, steps_count, code_count}
use Rattle.rc_along.proofs.Standing.{stand_left, stand_right, positive}
use Rattle.rc_along.proofs.Settings.{Setting, Calling as Around}
use Rattle.rc_along.proofs.Crossing.{all, temp_at, leads, again, cross, target_pointer, says_yes, says_no}
use Rattle.rc_along.proofs.Crossing.{At as Good_at}
use Rattle.rc_along.proofs.CallsPass.{call_passes}
use Rattle.rc_along.proofs.StepsHold.{steps_first, step_good, steps_good}
use Rattle.rc_along.proofs.ActsHold.{GoodWay, first_sum, first_more, ready_good, number_says, compute_first, kind_else, stored_leads, Carried, carried_good, cell_stored}
use Rattle.rc_along.proofs.CodeHolds.{test_good, turn_says, turned_good, go_on, code_good}
use Rattle.rc_along.proofs.Along.{calls_keep}
use Rattle.rc_along.proofs.RoutinesHold.{sized_long, zeros_made, entry_good, begin_good, body_stands, cleared_good}

-- where it goes on
came : {A : Type 0} {P : A → World → Type 0} {m : Run World A} {x : A} {w : World} → Goes P m → m ≡ Go x w → P x w
came {P = P} goes e = subst (IfGoes P) e goes.holds

if_came : {A : Type 0} (P : A → World → Type 0) {m : Run World A} {x : A} {w : World} → IfGoes P m → m ≡ Go x w → P x w
if_came P goes e = subst (IfGoes P) e goes

same_heap : (w : World) (turns : ℕ) → Goes (λ u w1. w1.heap ≡ w.heap) (turn_from turns w)
same_heap w zero = record { holds = tt }
same_heap w (suc j) = gives (λ u w1. w1.heap ≡ w.heap) tt (record w { turns = j }) refl

test_long : (f : Routine) (test : Option Test) (y z : ℕ) → length (test_nodes f test y z) ≡ branch_points test
test_long f None y z = refl
test_long f (Some test) y z = refl

module _ (r : Rlang) (temporaries : ℕ → ℕ) (a : Annotation) (cons : Consistent r temporaries a) (rights : (k : ℕ) (fk : Routine) → slice_get r.functions k ≡ Some fk → RightRoutine r fk (temporaries k)) (keeps : (m : ℕ) → Keeps r a (calls_within source r m) (CallsMeet r m)) where
  -- a call under way is one of a function of the code
  record Under (c : Activation) : Type 0 where
    found : slice_get r.functions c.function ≡ Some c.routine
    whole : length c.copied ≡ copies c.routine
    heap0 : Heap

  abbrev frame : (c : Activation) → Under c → Setting
  frame c u = record { r = r; temporaries = temporaries; a = a; c = cons; g = c.function; f = c.routine; there = u.found; copied = c.copied; whole = u.whole; heap0 = u.heap0 }

  abbrev around : (c : Activation) (u : Under c) → Around (frame c u)
  around c u = record { deleting = deletes r; calls = calls_within source r c.depth; inside = CallsMeet r c.depth; keeps_calls = keeps c.depth }

  record Given (k : ℕ) (fk : Routine) (xs : List Value) (w : World) : Type 0 where
    long : length xs ≡ fk.parameters
    made : (i : ℕ) → Made w.heap (past (given_to fk xs) (λ _. Null) i)
    hold : AllHold (a.entry k) (past (given_to fk xs) (λ _. Null)) w.heap

  record CallFine (m k : ℕ) (xs : List Value) (w : World) : Type 0 where
    meets : CallsMeet r m k xs w
    sane : Sane w
    given : (fk : Routine) → slice_get r.functions k ≡ Some fk → Given k fk xs w

  record StepsFine (c : Activation) (x : Steps) (here : ℕ) (live : ℕ → Bool) (env : List Value) (t : Temporaries) (w : World) : Type 0 where
    under : Under c
    next : ℕ
    stand : Stand (routine_nodes c.routine) here (steps_nodes c.routine x here next)
    right : RightSteps r c.routine (temporaries c.function) x
    meets : StepsMeet (deletes r) c.routine (calls_within source r c.depth) (CallsMeet r c.depth) x live env t w
    good : Good_at (frame c under) (first_of (steps_points x) here next) env t w

  record ActFine (c : Activation) (act : Act) (here : ℕ) (live : ℕ → Bool) (env : List Value) (t : Temporaries) (w : World) : Type 0 where
    under : Under c
    ends : Ends
    stand : Stand (routine_nodes c.routine) here (act_nodes c.routine act here ends.next)
    right : RightAct r c.routine (temporaries c.function) act
    meets : ActMeets (deletes r) c.routine (calls_within source r c.depth) (CallsMeet r c.depth) act live env t w
    good : Good_at (frame c under) (first_of (act_points act) here ends.next) env t w

  record MoveFine (c : Activation) (line h : ℕ) (kinds : Layout) (from to : Target) (here : ℕ) (env : List Value) (t : Temporaries) (w : World) : Type 0 where
    under : Under c
    next : ℕ
    lw : ℕ
    below : lw < h
    room : h < temporaries c.function
    stand : Stand (routine_nodes c.routine) here (in_line (cell_effects c.routine h lw kinds) here next)
    meets : MoveMeets line kinds from to w
    from_is : from.pointer ≡ t.regions lw
    to_is : to.pointer ≡ t.regions 0
    good : Good_at (frame c under) (first_of (2 * length kinds) here next) env t w

  record CodeFine (c : Activation) (x : Code) (here : ℕ) (k : Ways) (env : List Value) (t : Temporaries) (w : World) : Type 0 where
    under : Under c
    ends : Ends
    stand : Stand (routine_nodes c.routine) here (code_nodes c.routine x here ends)
    right : RightCode r c.routine (temporaries c.function) x
    meets : CodeMeets (deletes r) c.routine (calls_within source r c.depth) (CallsMeet r c.depth) x k env t w
    good : Good_at (frame c under) (first_of (code_points x) here ends.next) env t w

  record CodesFine (c : Activation) (x : Codes) (here : ℕ) (k : Ways) (env : List Value) (t : Temporaries) (w : World) : Type 0 where
    under : Under c
    ends : Ends
    stand : Stand (routine_nodes c.routine) here (codes_nodes c.routine x here ends)
    right : RightCodes r c.routine (temporaries c.function) x
    meets : CodesMeet (deletes r) c.routine (calls_within source r c.depth) (CallsMeet r c.depth) x k env t w
    good : Good_at (frame c under) (first_of (codes_points x) here ends.next) env t w

  abbrev Fine : Part → Type 0
  Fine (At g p values heap) = AllHold (a.before g p) values heap
  Fine (Calling m k xs w) = CallFine m k xs w
  Fine (Stepping c x here live env t w) = StepsFine c x here live env t w
  Fine (Acting c act here live env t w) = ActFine c act here live env t w
  Fine (Moving c line h kinds from to here env t w) = MoveFine c line h kinds from to here env t w
  Fine (Running c x here k env t w) = CodeFine c x here k env t w
  Fine (RunningAll c x here k env t w) = CodesFine c x here k env t w

  -- calls

  -- where a function's body begins
  record Begun (m k : ℕ) (f : Routine) (xs : List Value) (w1 : World) : Type 0 where
    found : slice_get r.functions k ≡ Some f
    sane : Sane w1
    given : Given k f xs w1
    meets : RoutineMeets (deletes r) f (calls_within source r m) (CallsMeet r m) xs w1

  begun : (m k : ℕ) (f : Routine) (xs : List Value) (w w1 : World) → CallFine (suc m) k xs w → slice_get r.functions k ≡ Some f → source.take_turn w ≡ Go tt w1 → Begun m k f xs w1
  begun m k f xs w w1 fine found e =
      let g = fine.given f found in
      let same : w1.heap ≡ w.heap = came (same_heap w w.turns) e in
      record {
        found = found;
        sane = record { sound = subst HeapIsSound (sym same) fine.sane.sound; rooted = subst (λ h. Rooted (parent h)) (sym same) fine.sane.rooted };
        given = record { long = g.long; made = subst (λ h. (i : ℕ) → Made h (past (given_to f xs) (λ _. Null) i)) (sym same) g.made; hold = subst (λ h. AllHold (a.entry k) (past (given_to f xs) (λ _. Null)) h) (sym same) g.hold };
        meets = subst (λ o. OptionRoutineMeets (deletes r) o (calls_within source r m) (CallsMeet r m) xs w1) found (if_came _ fine.meets e);
      }

  abbrev own : (m k : ℕ) (f : Routine) (xs : List Value) → Activation
  own m k f xs = activation m k f xs

  abbrev under_call : (m k : ℕ) (f : Routine) (xs : List Value) (w1 : World) → Begun m k f xs w1 → Under (activation m k f xs)
  under_call m k f xs w1 b = record { found = b.found; whole = V.picked_length _ xs; heap0 = w1.heap }

  begins : (m k : ℕ) (f : Routine) (xs : List Value) (w1 : World) → Begun m k f xs w1 → CodeFine (activation m k f xs) f.body 1 at_end (sized f.locals xs) blank_temporaries w1
  begins m k f xs w1 b =
      let u = under_call m k f xs w1 b in
      let c = activation m k f xs in
      let right = rights k f b.found in
      record {
        under = u;
        ends = record { next = suc (code_points f.body); broken = suc (code_points f.body); continued = suc (code_points f.body) };
        stand = (body_stands (frame c u) (around c u)).0;
        right = right.body;
        meets = b.meets;
        good = begin_good (frame c u) (around c u) xs w1 refl b.given.long b.sane (stays_itself w1 b.sane).grown b.given.hold b.given.made;
      }

  enters : (m k : ℕ) (f : Routine) (xs : List Value) (w1 : World) → Begun m k f xs w1 → AllHold (a.before k 0) (seen (activation m k f xs) (sized f.locals []) blank_temporaries) w1.heap
  enters m k f xs w1 b =
      let u = under_call m k f xs w1 b in
      let c = activation m k f xs in
      (entry_good (frame c u) (around c u) (sized f.locals []) w1 b.sane (stays_itself w1 b.sane).grown (sized_long (frame c u) (around c u) f.locals []) b.given.hold b.given.made (zeros_made (frame c u) (around c u) w1.heap (map is_regional f.locals) f.locals)).facts

  -- where the body goes on to the function's end
  ended : (m k : ℕ) (f : Routine) (xs : List Value) (w1 : World) (b : Begun m k f xs w1) (env : List Value) (t : Temporaries) (w2 : World) → code_in r (activation m k f xs) f.body at_end (sized f.locals xs) blank_temporaries w1 ≡ Go (Next env t) w2
      → Good_at (frame (activation m k f xs) (under_call m k f xs w1 b)) (suc (code_points f.body)) env t w2
  unfolding begins
  ended m k f xs w1 b env t w2 e =
      let u = under_call m k f xs w1 b in
      let c = activation m k f xs in
      let fine = begins m k f xs w1 b in
      came (code_good (frame c u) (around c u) f.body 1 (record { next = suc (code_points f.body); broken = suc (code_points f.body); continued = suc (code_points f.body) }) fine.stand fine.right at_end (sized f.locals xs) blank_temporaries w1 fine.meets fine.good) e

  zero_returned : (m k : ℕ) (f : Routine) (xs : List Value) (w1 : World) (b : Begun m k f xs w1) (env : List Value) (t : Temporaries) (w2 : World) (ty : Ty) → code_in r (activation m k f xs) f.body at_end (sized f.locals xs) blank_temporaries w1 ≡ Go (Next env t) w2 → f.result ≡ Some ty
      → AllHold (a.before k (suc (suc (code_points f.body)))) (seen (activation m k f xs) env (with_temporary ty t 0 (zero_of ty))) w2.heap
  zero_returned m k f xs w1 b env t w2 ty e is =
      let u = under_call m k f xs w1 b in
      let c = activation m k f xs in
      let at = suc (code_points f.body) in
      let stand : Stand (routine_nodes f) at (end_nodes f (Some ty) at) = subst (λ o. Stand (routine_nodes f) at (end_nodes f o at)) is (body_stands (frame c u) (around c u)).1 in
      (cleared_good (frame c u) (around c u) at env t w2 ty stand.0 (ended m k f xs w1 b env t w2 e)).facts

  -- a call that is an operation or an act
  module _ (c : Activation) (u : Under c) where
    abbrev called_fine : ℕ → List Value → World → Type 0
    called_fine k xs w = CallFine c.depth k xs w

    passes_on : (h : ℕ) (ty : Ty) (k : ℕ) (tys : List Ty) (live : ℕ → Bool) (env : List Value) (t : Temporaries) (w : World) (p to : ℕ) (x : Option ℕ) → CallRight r c.routine (temporaries c.function) h ty k tys → CallMeets (deletes r) c.routine (calls_within source r c.depth) (CallsMeet r c.depth) k tys live env t h w
        → slice_get (routine_nodes c.routine) p ≡ Some (going (called x k (regional_arguments c.routine tys h)) to) → Good_at (frame c u) p env t w → CallFine c.depth k (kept_all tys (temporaries_from tys t h)) (entered r c k live env w)
    passes_on h ty k tys live env t w p to x right meets node good = by (deletes r k) refl
      where
        xs : List Value
        xs = kept_all tys (temporaries_from tys t h)

        passes : (length xs ≡ right.callee.parameters) × ((i : ℕ) → Made w.heap (past (given_to right.callee xs) (λ j. Null) i)) × AllHold (a.entry k) (past (given_to right.callee xs) (λ i. Null)) w.heap
        passes = call_passes (frame c u) h ty k tys env t w p to x right (leads (frame c u) p _ to node) good

        given_at : (w1 : World) → w1.heap ≡ w.heap → (fk : Routine) → slice_get r.functions k ≡ Some fk → Given k fk xs w1
        given_at w1 same fk found =
            let is : right.callee ≡ fk = some_is (sym right.found ∙ found) in
            record {
              long = subst (λ (x : Routine). length xs ≡ x.parameters) is passes.0;
              made = subst (λ h1. (i : ℕ) → Made h1 (past (given_to fk xs) (λ _. Null) i)) (sym same) (subst (λ (x : Routine). (i : ℕ) → Made w.heap (past (given_to x xs) (λ _. Null) i)) is passes.1);
              hold = subst (λ h1. AllHold (a.entry k) (past (given_to fk xs) (λ _. Null)) h1) (sym same) (subst (λ (x : Routine). AllHold (a.entry k) (past (given_to x xs) (λ _. Null)) w.heap) is passes.2);
            }
          where
            some_is : {x y : Routine} → Some x ≡ Some y → x ≡ y
            some_is e = cc

        by : (b : Bool) → deletes r k ≡ b → CallFine c.depth k xs (one_of b (source.enter (held source (deletes r) c.routine.locals live env) w) w)
        by true e = record { meets = meets.0 e; sane = record { sound = good.sane.sound; rooted = good.sane.rooted }; given = given_at (source.enter (held source (deletes r) c.routine.locals live env) w) refl }
        by false e = record { meets = meets.1 e; sane = good.sane; given = given_at w refl }

  -- steps
  module _ (c : Activation) (s : Step) (rest : Steps) (here : ℕ) (live : ℕ → Bool) (env : List Value) (t : Temporaries) (w : World) (fine : StepsFine c (more s rest) here live env t w) where
    abbrev f : Routine
    f = c.routine

    abbrev F : Setting
    F = frame c fine.under

    abbrev G : Around F
    G = around c fine.under

    abbrev behind_it : ℕ
    behind_it = here + step_points s

    abbrev to : ℕ
    to = first_of (steps_points rest) behind_it fine.next

    first_good : Good_at F here env t w
    first_good = subst (λ p. Good_at F p env t w) (steps_first F G s rest here fine.next) fine.good

    left : Stand (routine_nodes f) here (step_nodes f s here to)
    left = stand_left (routine_nodes f) here (step_nodes f s here to) (steps_nodes f rest behind_it fine.next) fine.stand

    behind_step : (t1 : Temporaries) (w1 : World) → step_in r c s (before_steps rest live) env t w ≡ Go t1 w1 → StepsFine c rest behind_it live env t1 w1
    behind_step t1 w1 e = record {
      under = fine.under;
      next = fine.next;
      stand = stand_right (routine_nodes f) here behind_it (step_nodes f s here to) (steps_nodes f rest behind_it fine.next) (let k = step_count f s here to in omega (arith, k)) fine.stand;
      right = fine.right.1;
      meets = if_came _ fine.meets.1 e;
      good = came (step_good F G s here to (before_steps rest live) env t w left fine.right.0 fine.meets.0 first_good) e;
    }

  at_yes_fine : (c : Activation) (line h : ℕ) (ty result : Ty) (x y rest : Steps) (here : ℕ) (live : ℕ → Bool) (env : List Value) (t : Temporaries) (w : World) → StepsFine c (more (fork line h ty result x y) rest) here live env t w → holds ty (temporary ty t h) ≡ true → StepsFine c x (suc here) (before_steps rest live) env t w
  at_yes_fine c line h ty result x y rest here live env t w fine e =
      let s = fork line h ty result x y in
      let F = frame c fine.under in
      let f = c.routine in
      let next = to c s rest here live env t w fine in
      let good = first_good c s rest here live env t w fine in
      let st = left c s rest here live env t w fine in
      let right = fine.right.0 in
      let meets = fine.meets.0 in
      let q = says_yes F env t w ty h meets.0 (λ i. e) in
      record {
        under = fine.under;
        next = next;
        stand = stand_left (routine_nodes f) (suc here) (steps_nodes f x (suc here) next) (steps_nodes f y (suc here + steps_points x) next) st.1;
        right = right.1;
        meets = meets.1 e;
        good = cross F here (first_of (steps_points x) (suc here) next) (yes_effect f ty h) env env t t w w (record { node = _; e = 0; at = st.0; edge = refl }) good (stays_itself w good.sane) refl (λ u. refl) q.0 q.1;
      }

  at_no_fine : (c : Activation) (line h : ℕ) (ty result : Ty) (x y rest : Steps) (here : ℕ) (live : ℕ → Bool) (env : List Value) (t : Temporaries) (w : World) → StepsFine c (more (fork line h ty result x y) rest) here live env t w → holds ty (temporary ty t h) ≡ false → StepsFine c y (suc here + steps_points x) (before_steps rest live) env t w
  at_no_fine c line h ty result x y rest here live env t w fine e =
      let s = fork line h ty result x y in
      let F = frame c fine.under in
      let f = c.routine in
      let next = to c s rest here live env t w fine in
      let at_y = suc here + steps_points x in
      let good = first_good c s rest here live env t w fine in
      let st = left c s rest here live env t w fine in
      let right = fine.right.0 in
      let meets = fine.meets.0 in
      let q = says_no F env t w ty h (λ i. e) in
      record {
        under = fine.under;
        next = next;
        stand = stand_right (routine_nodes f) (suc here) at_y (steps_nodes f x (suc here) next) (steps_nodes f y at_y next) (let k = steps_count f x (suc here) next in omega (arith, k)) st.1;
        right = right.2;
        meets = meets.2 e;
        good = cross F here (first_of (steps_points y) at_y next) (no_effect f ty h) env env t t w w (record { node = _; e = 1; at = st.0; edge = refl }) good (stays_itself w good.sane) refl (λ u. refl) q.0 q.1;
      }

  at_call_fine : (c : Activation) (line h : ℕ) (ty : Ty) (k : ℕ) (tys : List Ty) (rest : Steps) (here : ℕ) (live : ℕ → Bool) (env : List Value) (t : Temporaries) (w : World) → StepsFine c (more (set line h ty (call k tys)) rest) here live env t w
      → CallFine c.depth k (kept_all tys (temporaries_from tys t h)) (entered r c k (before_steps rest live) env w)
  at_call_fine c line h ty k tys rest here live env t w fine =
      let s = set line h ty (call k tys) in
      passes_on c fine.under h ty k tys (before_steps rest live) env t w here (to c s rest here live env t w fine) (one_of (is_regional ty) (Some (temp_at (frame c fine.under) h)) None) fine.right.0.1 fine.meets.0 (left c s rest here live env t w fine).0 (first_good c s rest here live env t w fine)

  -- acts
  act_first : (c : Activation) (act : Act) (here : ℕ) (live : ℕ → Bool) (env : List Value) (t : Temporaries) (w : World) (fine : ActFine c act here live env t w) → 0 < act_points act → Good_at (frame c fine.under) here env t w
  act_first c act here live env t w fine lt = subst (λ p. Good_at (frame c fine.under) p env t w) (positive (act_points act) here fine.ends.next lt) fine.good

  performed_fine : (c : Activation) (line k : ℕ) (tys : List Ty) (here : ℕ) (live : ℕ → Bool) (env : List Value) (t : Temporaries) (w : World) → ActFine c (Code.perform line k tys) here live env t w → CallFine c.depth k (kept_all tys (temporaries_from tys t 0)) (entered r c k live env w)
  performed_fine c line k tys here live env t w fine =
      passes_on c fine.under 0 int k tys live env t w here fine.ends.next None fine.right fine.meets fine.stand.0 (act_first c (Code.perform line k tys) here live env t w fine (omega arith))

  -- between a number's load and its store nothing happens to regions
  between : (F : Setting) (n here next i : ℕ) (env : List Value) (t : Temporaries) (w : World) → Stand (all F) here (in_line (replicate n nothing ++ looked_at (temp_at F 0) ∷ []) here next) → i ≤ n → Good_at F here env t w → Good_at F (here + i) env t w
  between F n here next zero env t w st le good = subst (λ p. Good_at F p env t w) (let e : here ≡ here + 0 = omega arith in e) good
  between F zero here next (suc i) env t w st le good = absurd (omega (arith, le))
  between F (suc zero) here next (suc i) env t w st le good = subst (λ p. Good_at F p env t w) (let e : suc here + i ≡ here + suc i = omega arith in e) (between F zero (suc here) next i env t w st.1 (omega (arith, le)) (go_on_at F here (suc here) env t w st.0 good))
    where
      go_on_at : (F : Setting) (here to : ℕ) (env : List Value) (t : Temporaries) (w : World) → slice_get (all F) here ≡ Some (going nothing to) → Good_at F here env t w → Good_at F to env t w
      go_on_at F here to env t w q good = cross F here to nothing env env t t w w (leads F here nothing to q) good (stays_itself w good.sane) refl (λ u. refl) refl tt
  between F (suc (suc n)) here next (suc i) env t w st le good = subst (λ p. Good_at F p env t w) (let e : suc here + i ≡ here + suc i = omega arith in e) (between F (suc n) (suc here) next i env t w st.1 (omega (arith, le)) (go_on_at F here (suc here) env t w st.0 good))
    where
      go_on_at : (F : Setting) (here to : ℕ) (env : List Value) (t : Temporaries) (w : World) → slice_get (all F) here ≡ Some (going nothing to) → Good_at F here env t w → Good_at F to env t w
      go_on_at F here to env t w q good = cross F here to nothing env env t t w w (leads F here nothing to q) good (stays_itself w good.sane) refl (λ u. refl) refl tt

  behind_look : (F : Setting) (n here next : ℕ) (env : List Value) (t : Temporaries) (w w1 : World) → Stand (all F) here (in_line (looked_at (temp_at F 0) ∷ (replicate n nothing ++ looked_at (temp_at F 0) ∷ [])) here next) → is_present (t.regions 0) → Stays w w1 → Good_at F here env t w
      → Good_at F (suc here) env t w1 × Stand (all F) (suc here) (in_line (replicate n nothing ++ looked_at (temp_at F 0) ∷ []) (suc here) next)
  behind_look F zero here next env t w w1 st p stays good = (cross F here (suc here) (looked_at (temp_at F 0)) env env t t w w1 (leads F here _ (suc here) st.0) good stays refl (λ u. refl) refl (subst is_present (sym (V.temp_value F.f F.copied F.whole env t.regions 0)) p), st.1)
  behind_look F (suc n) here next env t w w1 st p stays good = (cross F here (suc here) (looked_at (temp_at F 0)) env env t t w w1 (leads F here _ (suc here) st.0) good stays refl (λ u. refl) refl (subst is_present (sym (V.temp_value F.f F.copied F.whole env t.regions 0)) p), st.1)

  idle_length : (from : NumberType) (operator : Operator) (sign : Signedness) → suc (change_points (Compute from operator sign) - 2) ≡ before_store (Compute from operator sign)
  idle_length Int operator Signed = refl
  idle_length Int operator Wrapping = refl
  idle_length Unsigned operator Signed = refl
  idle_length Unsigned operator Wrapping = refl
  idle_length Char operator Signed = refl
  idle_length Char operator Wrapping = refl

  -- the facts of a point, by another way to count it
  at_same : (g p q : ℕ) (values : ℕ → Value) (heap : Heap) → p ≡ q → AllHold (a.before g p) values heap → AllHold (a.before g q) values heap
  at_same g p q values heap e h = subst (λ x. AllHold (a.before g x) values heap) e h

  number_between : (c : Activation) (line : ℕ) (acc : Access) (from : NumberType) (operator : Operator) (sign : Signedness) (ty : Ty) (here : ℕ) (live : ℕ → Bool) (env : List Value) (t : Temporaries) (w : World) (old : Value) (w1 w2 : World) (j : ℕ) (fine : ActFine c (Code.update line acc (Compute from operator sign) ty) here live env t w)
      → source.load line (target_at acc t 0) w ≡ Go old w1 → Stays w1 w2 → suc j ≤ before_store (Compute from operator sign) → AllHold (a.before c.function (here + suc j)) (seen c env t) w2.heap
  number_between c line acc from operator sign ty here live env t w old w1 w2 j fine e stays le =
      let F = frame c fine.under in
      let n = change_points (Compute from operator sign) - 2 in
      let good : Good_at F here env t w = subst (λ p. Good_at F p env t w) (compute_first F (around c fine.under) from operator sign here fine.ends.next) fine.good in
      let q = came (load_says line (target_at acc t 0) w good.sane) e in
      let first = behind_look F n here fine.ends.next env t w w2 fine.stand (subst is_present (target_pointer F acc t 0) q.2) (stays_trans w w1 w2 q.0 stays) good in
      at_same c.function (suc here + j) (here + suc j) (seen c env t) w2.heap (omega arith) (between F n (suc here) fine.ends.next j env t w2 first.1 (let k = idle_length from operator sign in omega (arith, k, le)) first.0).facts

  in_update_fine : (c : Activation) (line : ℕ) (acc : Access) (change : Change) (ty : Ty) (here : ℕ) (live : ℕ → Bool) (env : List Value) (t : Temporaries) (w : World) (old : Value) (w1 : World) (i : ℕ) → ActFine c (Code.update line acc change ty) here live env t w
      → source.load line (target_at acc t 0) w ≡ Go old w1 → 0 < i → i ≤ operation_place change → AllHold (a.before c.function (here + i)) (seen c env (set_kind (R.change_kind change) t (suc (width acc)) old)) w1.heap
  in_update_fine c line acc change ty here live env t w old w1 zero fine e lt le = absurd (omega (arith, lt))
  in_update_fine c line acc (Compute from operator sign) ty here live env t w old w1 (suc j) fine e lt le =
      let q = came (load_says line (target_at acc t 0) w fine.good.sane) e in
      number_between c line acc from operator sign ty here live env t w old w1 w1 j fine e (stays_itself w1 q.0.sane) (omega (arith, le))
  in_update_fine c line acc (Stepping_by direction) ty here live env t w old w1 (suc j) fine e lt le =
      let F = frame c fine.under in
      let held' = came (ready_good F (around c fine.under) line acc direction ty here fine.ends live env t w fine.stand fine.right fine.meets fine.good) e in
      at_same c.function (suc here) (here + suc j) (seen c env (set_kind regional t (suc (width acc)) old)) w1.heap (omega (arith, le)) held'.at.facts

  behind_operation_fine : (c : Activation) (line : ℕ) (acc : Access) (change : Change) (ty : Ty) (here : ℕ) (live : ℕ → Bool) (env : List Value) (t : Temporaries) (w : World) (old : Value) (w1 : World) (new : Value) (w2 : World) (i : ℕ) → ActFine c (Code.update line acc change ty) here live env t w
      → source.load line (target_at acc t 0) w ≡ Go old w1 → changed_in r c line change ty old (temporary ty t (width acc)) w1 ≡ Go new w2 → operation_place change < i → i ≤ before_store change → AllHold (a.before c.function (here + i)) (seen c env (set_kind (R.change_kind change) t (suc (width acc)) new)) w2.heap
  behind_operation_fine c line acc change ty here live env t w old w1 new w2 zero fine e e1 lt le = absurd (omega (arith, lt))
  behind_operation_fine c line acc (Compute from operator sign) ty here live env t w old w1 new w2 (suc j) fine e e1 lt le =
      let F = frame c fine.under in
      let q = came (load_says line (target_at acc t 0) w fine.good.sane) e in
      let q1 = came (number_says F (around c fine.under) line from operator sign ty old (temporary ty t (width acc)) w1 q.0.sane) e1 in
      number_between c line acc from operator sign ty here live env t w old w1 w2 j fine e q1 le
  behind_operation_fine c line acc (Stepping_by direction) ty here live env t w old w1 new w2 (suc j) fine e e1 lt le =
      let F = frame c fine.under in
      let held' = came (ready_good F (around c fine.under) line acc direction ty here fine.ends live env t w fine.stand fine.right fine.meets fine.good) e in
      at_same c.function (suc (suc here)) (here + suc j) (seen c env (set_kind regional t (suc (width acc)) new)) w2.heap (omega (arith, lt, le)) (came held'.then e1).at.facts

  -- struct copies
  cells_fine : (c : Activation) (line : ℕ) (kinds : Layout) (left right : Access) (here : ℕ) (live : ℕ → Bool) (env : List Value) (t : Temporaries) (w : World) → ActFine c (Code.move line kinds left right) here live env t w → MoveFine c line (width left + width right) kinds (target_at right t (width left)) (target_at left t 0) here env t w
  cells_fine c line kinds left right here live env t w fine = record {
    under = fine.under;
    next = fine.ends.next;
    lw = width left;
    below = omega arith;
    room = fine.right;
    stand = fine.stand;
    meets = fine.meets;
    from_is = target_pointer (frame c fine.under) right t (width left);
    to_is = target_pointer (frame c fine.under) left t 0;
    good = fine.good;
  }

  carried_fine : (c : Activation) (line h : ℕ) (kind : CellKind) (kinds : Layout) (from to : Target) (here : ℕ) (env : List Value) (t : Temporaries) (w : World) (v : Value) (w1 : World) (fine : MoveFine c line h (kind ∷ kinds) from to here env t w) → source.load line from w ≡ Go v w1
      → Carried (frame c fine.under) (around c fine.under) line kind kinds from to h here env t v w1
  carried_fine c line h kind kinds from to here env t w v w1 fine e = came (carried_good (frame c fine.under) (around c fine.under) line h fine.lw fine.below fine.room kind kinds from to here fine.next env t w fine.stand fine.meets fine.from_is fine.good) e

  next_cell_fine : (c : Activation) (line h : ℕ) (kind : CellKind) (kinds : Layout) (from to : Target) (here : ℕ) (env : List Value) (t : Temporaries) (w : World) (v : Value) (w1 w2 : World) → MoveFine c line h (kind ∷ kinds) from to here env t w → source.load line from w ≡ Go v w1
      → source.store line to (R.kept_cell kind v) w1 ≡ Go tt w2 → MoveFine c line h kinds (record from { offset = suc from.offset }) (record to { offset = suc to.offset }) (suc (suc here)) env (with_cell kind t h v) w2
  next_cell_fine c line h kind kinds from to here env t w v w1 w2 fine e e1 =
      let F = frame c fine.under in
      let G = around c fine.under in
      let b = fine.below in
      let two = stored_leads F G h fine.lw kinds (one_of (is_regional_cell kind) (stored (temp_at F h) (temp_at F 0) (note_of kind)) (looked_at (temp_at F 0))) (suc here) fine.next fine.stand.1 in
      let to1 : to.pointer ≡ (with_cell kind t h v).regions 0 = fine.to_is ∙ sym (kind_else F G (cell_kind kind) t h v 0 (not_eq 0 h (λ q. omega (arith, q, b)))) in
      let q = came (cell_stored F G line h fine.lw b kind kinds from to here fine.next env t v w1 two.0 to1 (carried_fine c line h kind kinds from to here env t w v w1 fine e)) e1 in
      record {
        under = fine.under;
        next = fine.next;
        lw = fine.lw;
        below = b;
        room = fine.room;
        stand = two.1;
        meets = q.1;
        from_is = fine.from_is ∙ sym (kind_else F G (cell_kind kind) t h v fine.lw (not_eq fine.lw h (λ q. omega (arith, q, b))));
        to_is = to1;
        good = q.0;
      }

  cell_first : (c : Activation) (line h : ℕ) (kind : CellKind) (kinds : Layout) (from to : Target) (here : ℕ) (env : List Value) (t : Temporaries) (w : World) (fine : MoveFine c line h (kind ∷ kinds) from to here env t w) → Good_at (frame c fine.under) here env t w
  cell_first c line h kind kinds from to here env t w fine = subst (λ p. Good_at (frame c fine.under) p env t w) (positive (2 * suc (length kinds)) here fine.next (omega arith)) fine.good

  block_fine : (c : Activation) (codes : Codes) (here : ℕ) (k : Ways) (env : List Value) (t : Temporaries) (w : World) → CodeFine c (Code.block codes) here k env t w → CodesFine c codes here k env t w
  block_fine c codes here k env t w fine = record { under = fine.under; ends = fine.ends; stand = fine.stand; right = fine.right; meets = fine.meets; good = fine.good }

  -- statements
  steps_fine : (c : Activation) (steps : Steps) (act : Act) (here : ℕ) (k : Ways) (env : List Value) (t : Temporaries) (w : World) → CodeFine c (Code.simple steps act) here k env t w → StepsFine c steps here (before_act act k.next) env t w
  steps_fine c steps act here k env t w fine =
      let at = here + steps_points steps in
      let next = first_of (act_points act) at fine.ends.next in
      record {
        under = fine.under;
        next = next;
        stand = stand_left (routine_nodes c.routine) here (steps_nodes c.routine steps here next) (act_nodes c.routine act at fine.ends.next) fine.stand;
        right = fine.right.0;
        meets = fine.meets.0;
        good = subst (λ p. Good_at (frame c fine.under) p env t w) (first_sum (frame c fine.under) (around c fine.under) (steps_points steps) (act_points act) here fine.ends.next) fine.good;
      }

  -- behind steps that stand somewhere
  behind_fine : (c : Activation) (x : Steps) (here : ℕ) (live : ℕ → Bool) (env : List Value) (t : Temporaries) (w : World) (t1 : Temporaries) (w1 : World) (fine : StepsFine c x here live env t w) → steps_in r c x live env t w ≡ Go t1 w1 → Good_at (frame c fine.under) fine.next env t1 w1
  behind_fine c x here live env t w t1 w1 fine e = came (steps_good (frame c fine.under) (around c fine.under) x here fine.next live env t w fine.stand fine.right fine.meets fine.good) e

  act_fine : (c : Activation) (steps : Steps) (act : Act) (here : ℕ) (k : Ways) (env : List Value) (t : Temporaries) (w : World) (t1 : Temporaries) (w1 : World) → CodeFine c (Code.simple steps act) here k env t w → steps_in r c steps (before_act act k.next) env t w ≡ Go t1 w1
      → ActFine c act (here + steps_points steps) k.next env t1 w1
  unfolding steps_fine
  act_fine c steps act here k env t w t1 w1 fine e =
      let at = here + steps_points steps in
      let next = first_of (act_points act) at fine.ends.next in
      record {
        under = fine.under;
        ends = fine.ends;
        stand = stand_right (routine_nodes c.routine) here at (steps_nodes c.routine steps here next) (act_nodes c.routine act at fine.ends.next) (let j = steps_count c.routine steps here next in omega (arith, j)) fine.stand;
        right = fine.right.1;
        meets = if_came _ fine.meets.1 e;
        good = behind_fine c steps here (before_act act k.next) env t w t1 w1 (steps_fine c steps act here k env t w fine) e;
      }

  first_fine : (c : Activation) (x : Code) (rest : Codes) (here : ℕ) (k : Ways) (env : List Value) (t : Temporaries) (w : World) → CodesFine c (Code.then x rest) here k env t w → CodeFine c x here (then_live (before_codes rest k) k) env t w
  first_fine c x rest here k env t w fine =
      let at = here + code_points x in
      let k1 : Ends = record fine.ends { next = first_of (codes_points rest) at fine.ends.next } in
      record {
        under = fine.under;
        ends = k1;
        stand = stand_left (routine_nodes c.routine) here (code_nodes c.routine x here k1) (codes_nodes c.routine rest at fine.ends) fine.stand;
        right = fine.right.0;
        meets = fine.meets.0;
        good = subst (λ p. Good_at (frame c fine.under) p env t w) (first_sum (frame c fine.under) (around c fine.under) (code_points x) (codes_points rest) here fine.ends.next) fine.good;
      }

  -- behind a statement that goes on
  passed_fine : (c : Activation) (x : Code) (here : ℕ) (k : Ways) (env : List Value) (t : Temporaries) (w : World) (way : Way) (w1 : World) (fine : CodeFine c x here k env t w) → code_in r c x k env t w ≡ Go way w1 → GoodWay (frame c fine.under) (around c fine.under) fine.ends way w1
  passed_fine c x here k env t w way w1 fine e = came (code_good (frame c fine.under) (around c fine.under) x here fine.ends fine.stand fine.right k env t w fine.meets fine.good) e

  rest_fine : (c : Activation) (x : Code) (rest : Codes) (here : ℕ) (k : Ways) (env : List Value) (t : Temporaries) (w : World) (env1 : List Value) (t1 : Temporaries) (w1 : World) → CodesFine c (Code.then x rest) here k env t w → code_in r c x (then_live (before_codes rest k) k) env t w ≡ Go (Next env1 t1) w1
      → CodesFine c rest (here + code_points x) k env1 t1 w1
  unfolding first_fine
  rest_fine c x rest here k env t w env1 t1 w1 fine e =
      let at = here + code_points x in
      let k1 : Ends = record fine.ends { next = first_of (codes_points rest) at fine.ends.next } in
      record {
        under = fine.under;
        ends = fine.ends;
        stand = stand_right (routine_nodes c.routine) here at (code_nodes c.routine x here k1) (codes_nodes c.routine rest at fine.ends) (let j = code_count c.routine x here k1 in omega (arith, j)) fine.stand;
        right = fine.right.1;
        meets = if_came _ fine.meets.1 e;
        good = passed_fine c x here (then_live (before_codes rest k) k) env t w (Next env1 t1) w1 (first_fine c x rest here k env t w fine) e;
      }

  -- a branch
  module _ (c : Activation) (steps : Steps) (test : Test) (x y : Code) (here : ℕ) (k : Ways) (env : List Value) (t : Temporaries) (w : World) (fine : CodeFine c (Code.branch steps test x y) here k env t w) where
    abbrev B : Setting
    B = frame c fine.under

    abbrev at_test : ℕ
    at_test = here + steps_points steps

    abbrev at_y : ℕ
    at_y = suc at_test + code_points x

    abbrev to_x : ℕ
    to_x = first_of (code_points x) (suc at_test) fine.ends.next

    abbrev to_y : ℕ
    to_y = first_of (code_points y) at_y fine.ends.next

    abbrev XS : List Node
    XS = code_nodes c.routine x (suc at_test) fine.ends

    abbrev YS : List Node
    YS = code_nodes c.routine y at_y fine.ends

    abbrev TS : List Node
    TS = test_nodes c.routine (Some test) to_x to_y

    abbrev SS : List Node
    SS = steps_nodes c.routine steps here at_test

    branch_rest : Stand (routine_nodes c.routine) at_test (TS ++ (XS ++ YS))
    branch_rest = stand_right (routine_nodes c.routine) here at_test SS (TS ++ (XS ++ YS)) (let j = steps_count c.routine steps here at_test in omega (arith, j)) fine.stand

    branch_arms : Stand (routine_nodes c.routine) (suc at_test) (XS ++ YS)
    branch_arms = stand_right (routine_nodes c.routine) at_test (suc at_test) TS (XS ++ YS) (omega arith) branch_rest

    abbrev branch_live : ℕ → Bool
    branch_live v = before_code x k v || before_code y k v

    branch_steps : StepsFine c steps here branch_live env t w
    branch_steps = record {
      under = fine.under;
      next = at_test;
      stand = stand_left (routine_nodes c.routine) here SS (TS ++ (XS ++ YS)) fine.stand;
      right = fine.right.0;
      meets = fine.meets.0;
      good = subst (λ p. Good_at B p env t w) (ap (λ i. first_of i here fine.ends.next) (let e : steps_points steps + 1 + code_points x + code_points y ≡ steps_points steps + (1 + code_points x + code_points y) = omega arith in e) ∙ first_more B (around c fine.under) (steps_points steps) (1 + code_points x + code_points y) here fine.ends.next (omega arith)) fine.good;
    }

    branch_good : (t1 : Temporaries) (w1 : World) → steps_in r c steps branch_live env t w ≡ Go t1 w1 → Good_at B at_test env t1 w1
    unfolding branch_steps
    branch_good t1 w1 e = behind_fine c steps here branch_live env t w t1 w1 branch_steps e

    branch_met : (t1 : Temporaries) (w1 : World) → steps_in r c steps branch_live env t w ≡ Go t1 w1 → TestMeets test t1 × (test_value (Some test) t1 ≡ true → CodeMeets (deletes r) c.routine (calls_within source r c.depth) (CallsMeet r c.depth) x k env t1 w1) × (test_value (Some test) t1 ≡ false → CodeMeets (deletes r) c.routine (calls_within source r c.depth) (CallsMeet r c.depth) y k env t1 w1)
    branch_met t1 w1 e = if_came _ fine.meets.1 e

    branch_ways : (t1 : Temporaries) (w1 : World) → steps_in r c steps branch_live env t w ≡ Go t1 w1 → (test_value (Some test) t1 ≡ true → Good_at B to_x env t1 w1) × (test_value (Some test) t1 ≡ false → Good_at B to_y env t1 w1)
    branch_ways t1 w1 e = test_good B (around c fine.under) test at_test to_x to_y env t1 w1 (stand_left (routine_nodes c.routine) at_test TS (XS ++ YS) branch_rest) (branch_met t1 w1 e).0 (branch_good t1 w1 e)

    true_fine : (t1 : Temporaries) (w1 : World) → steps_in r c steps branch_live env t w ≡ Go t1 w1 → test_value (Some test) t1 ≡ true → CodeFine c x (suc at_test) k env t1 w1
    true_fine t1 w1 e b = record { under = fine.under; ends = fine.ends; stand = stand_left (routine_nodes c.routine) (suc at_test) XS YS branch_arms; right = fine.right.1; meets = (branch_met t1 w1 e).1 b; good = (branch_ways t1 w1 e).0 b }

    false_fine : (t1 : Temporaries) (w1 : World) → steps_in r c steps branch_live env t w ≡ Go t1 w1 → test_value (Some test) t1 ≡ false → CodeFine c y at_y k env t1 w1
    false_fine t1 w1 e b = record { under = fine.under; ends = fine.ends; stand = stand_right (routine_nodes c.routine) (suc at_test) at_y XS YS (let j = code_count c.routine x (suc at_test) fine.ends in omega (arith, j)) branch_arms; right = fine.right.2; meets = (branch_met t1 w1 e).2 b; good = (branch_ways t1 w1 e).1 b }

  turned : (F : Setting) (G : Around F) (p : ℕ) (env : List Value) (t : Temporaries) (w w1 : World) → source.take_turn w ≡ Go tt w1 → Good_at F p env t w → Good_at F p env t w1
  turned F G p env t w w1 e good = came (turn_says F G w.turns (Good_at F p env t) w (λ m. turned_good F G p env t w m good)) e

  goes_back : (F : Setting) (G : Around F) (back out : ℕ) (way : Way) (env : List Value) (t : Temporaries) (w : World) → GoesOn way env t → GoodWay F G (record { next = back; broken = out; continued = back }) way w → Good_at F back env t w
  goes_back F G back out _ _ _ w (on env t) good = good
  goes_back F G back out _ _ _ w (on_again env t) good = good

  body_met : (Met : List Value → Temporaries → World → Type 0) (way : Way) (env : List Value) (t : Temporaries) (w : World) → GoesOn way env t → body_meets Met way w → Met env t w
  body_met Met _ _ _ w (on env t) m = m
  body_met Met _ _ _ w (on_again env t) m = m

  -- a loop with a condition or without
  right_steps : (c : Activation) (line : ℕ) (steps : Steps) (test : Option Test) (third x : Code) → RightCode r c.routine (temporaries c.function) (Code.loop line steps test third x) → RightSteps r c.routine (temporaries c.function) steps
  right_steps c line steps None third x right = subst (λ s. RightSteps r c.routine (temporaries c.function) s) (sym right.0) tt
  right_steps c line steps (Some test) third x right = right.0

  right_third : (c : Activation) (line : ℕ) (steps : Steps) (test : Option Test) (third x : Code) → RightCode r c.routine (temporaries c.function) (Code.loop line steps test third x) → RightCode r c.routine (temporaries c.function) third
  right_third c line steps None third x right = right.1
  right_third c line steps (Some test) third x right = right.1

  right_body : (c : Activation) (line : ℕ) (steps : Steps) (test : Option Test) (third x : Code) → RightCode r c.routine (temporaries c.function) (Code.loop line steps test third x) → RightCode r c.routine (temporaries c.function) x
  right_body c line steps None third x right = right.2
  right_body c line steps (Some test) third x right = right.2

  module _ (c : Activation) (line : ℕ) (steps : Steps) (test : Option Test) (third x : Code) (here : ℕ) (k : Ways) (env : List Value) (t : Temporaries) (w : World) (fine : CodeFine c (Code.loop line steps test third x) here k env t w) where
    abbrev L : Setting
    L = frame c fine.under

    abbrev A : Around L
    A = around c fine.under

    abbrev lf : Routine
    lf = c.routine

    abbrev at_branch' : ℕ
    at_branch' = loop_at_test here steps

    abbrev at_body' : ℕ
    at_body' = loop_at_body here steps test

    abbrev at_third' : ℕ
    at_third' = loop_at_third here steps test x

    abbrev back : ℕ
    back = first_of (code_points third) at_third' here

    abbrev inside' : ℕ
    inside' = first_of (code_points x) at_body' back

    abbrev body_ends : Ends
    body_ends = record { next = back; broken = fine.ends.next; continued = back }

    abbrev third_ends : Ends
    third_ends = record fine.ends { next = here }

    abbrev LS : List Node
    LS = steps_nodes lf steps (suc here) at_branch'

    abbrev LT : List Node
    LT = test_nodes lf test inside' fine.ends.next

    abbrev LB : List Node
    LB = code_nodes lf x at_body' body_ends

    abbrev LC : List Node
    LC = code_nodes lf third at_third' third_ends

    loop_rest : Stand (routine_nodes lf) at_branch' (LT ++ (LB ++ LC))
    loop_rest = stand_right (routine_nodes lf) (suc here) at_branch' LS (LT ++ (LB ++ LC)) (let j = steps_count lf steps (suc here) at_branch' in omega (arith, j)) fine.stand.1

    loop_arms : Stand (routine_nodes lf) at_body' (LB ++ LC)
    loop_arms = stand_right (routine_nodes lf) at_branch' at_body' LT (LB ++ LC) (let j = test_long lf test inside' fine.ends.next in omega (arith, j)) loop_rest

    loop_here : Good_at L here env t w
    loop_here = subst (λ p. Good_at L p env t w) (positive (1 + steps_points steps + branch_points test + code_points x + code_points third) here fine.ends.next (omega arith)) fine.good

    -- behind the loop's point
    loop_gone : Good_at L (first_of (steps_points steps + branch_points test) (suc here) inside') env t w
    loop_gone = go_on L A here _ env t w fine.stand.0 loop_here

    abbrev Live : ℕ → Bool
    Live = loop_live steps test third x k

    abbrev calls_c : Calls World
    calls_c = calls_within source r c.depth

    abbrev Third : (List Value → Temporaries → World → Type 0) → List Value → Temporaries → World → Type 0
    Third again env3 t3 w3 = CodeMeets (deletes r) lf calls_c (CallsMeet r c.depth) third (loop_third steps test third x k) env3 t3 w3 × IfGoes (behind_meets again) (code_in r c third (loop_third steps test third x k) env3 t3 w3)

    abbrev Inner : (List Value → Temporaries → World → Type 0) → List Value → Temporaries → World → Type 0
    Inner again env2 t2 w2 = CodeMeets (deletes r) lf calls_c (CallsMeet r c.depth) x (loop_body steps test third x k) env2 t2 w2 × IfGoes (body_meets (Third again)) (code_in r c x (loop_body steps test third x k) env2 t2 w2)

    abbrev Again : ℕ → List Value → Temporaries → World → Type 0
    Again m env2 t2 w2 = IfGoes (λ _ w3. RoundsMeet m (λ again env1 t1 w1. HeadMeets (deletes r) lf calls_c (CallsMeet r c.depth) steps test Live (Inner again) (nothing_more (deletes r) lf calls_c (CallsMeet r c.depth)) env1 t1 w1) env2 t2 w3) (source.take_turn w2)

    -- a round, before which there may be so many more
    loop_round : (m : ℕ) → HeadMeets (deletes r) lf calls_c (CallsMeet r c.depth) steps test Live (Inner (Again m)) (nothing_more (deletes r) lf calls_c (CallsMeet r c.depth)) env t w
    loop_round m = fine.meets (suc m)

    module _ (t1 : Temporaries) (w1 : World) (e : steps_in r c steps Live env t w ≡ Go t1 w1) where
      loop_met : (m : ℕ) → OptionMeets test t1 × (test_value test t1 ≡ true → Inner (Again m) env t1 w1) × (test_value test t1 ≡ false → Unit {0})
      loop_met m = if_came _ (loop_round m).1 e

      module _ (b : test_value test t1 ≡ true) (start : Good_at L inside' env t1 w1) where
        loop_body_fine : CodeFine c x at_body' (loop_body steps test third x k) env t1 w1
        loop_body_fine = record { under = fine.under; ends = body_ends; stand = stand_left (routine_nodes lf) at_body' LB LC loop_arms; right = right_body c line steps test third x fine.right; meets = ((loop_met 0).1 b).0; good = start }

        module _ (way : Way) (env2 : List Value) (t2 : Temporaries) (w2 : World) (e2 : code_in r c x (loop_body steps test third x k) env t1 w1 ≡ Go way w2) (goes : GoesOn way env2 t2) where
          loop_back : Good_at L back env2 t2 w2
          loop_back = goes_back L A back fine.ends.next way env2 t2 w2 goes (came (code_good L A x at_body' body_ends (stand_left (routine_nodes lf) at_body' LB LC loop_arms) (right_body c line steps test third x fine.right) (loop_body steps test third x k) env t1 w1 ((loop_met 0).1 b).0 start) e2)

          third_met : (m : ℕ) → Third (Again m) env2 t2 w2
          third_met m = body_met (Third (Again m)) way env2 t2 w2 goes (if_came _ ((loop_met m).1 b).1 e2)

          third_fine : CodeFine c third at_third' (loop_third steps test third x k) env2 t2 w2
          third_fine = record { under = fine.under; ends = third_ends; stand = third_stand; right = right_third c line steps test third x fine.right; meets = (third_met 0).0; good = loop_back }
            where
              third_stand : Stand (routine_nodes lf) at_third' LC
              third_stand = stand_right (routine_nodes lf) at_body' at_third' LB LC (let j = code_count lf x at_body' body_ends in omega (arith, j)) loop_arms

          module _ (env3 : List Value) (t3 : Temporaries) (w3 w4 : World) (e3 : code_in r c third (loop_third steps test third x k) env2 t2 w2 ≡ Go (Next env3 t3) w3) (e4 : source.take_turn w3 ≡ Go tt w4) where
            next_round_fine : CodeFine c (Code.loop line steps test third x) here k env3 t3 w4
            unfolding third_fine
            next_round_fine = record {
              under = fine.under;
              ends = fine.ends;
              stand = fine.stand;
              right = fine.right;
              meets = λ m. if_came _ (if_came _ (third_met m).1 e3) e4;
              good = subst (λ p. Good_at L p env3 t3 w4) (sym (positive (1 + steps_points steps + branch_points test + code_points x + code_points third) here fine.ends.next (omega arith)))
                  (turned L A here env3 t3 w3 w4 e4 (passed_fine c third at_third' (loop_third steps test third x k) env2 t2 w2 (Next env3 t3) w3 third_fine e3));
            }

  -- with a condition
  module _ (c : Activation) (line : ℕ) (steps : Steps) (test : Test) (third x : Code) (here : ℕ) (k : Ways) (env : List Value) (t : Temporaries) (w : World) (fine : CodeFine c (Code.loop line steps (Some test) third x) here k env t w) where
    some_steps : StepsFine c steps (suc here) (loop_live steps (Some test) third x k) env t w
    some_steps = record {
      under = fine.under;
      next = loop_at_test here steps;
      stand = stand_left (routine_nodes c.routine) (suc here) (LS c line steps (Some test) third x here k env t w fine) (LT c line steps (Some test) third x here k env t w fine ++ (LB c line steps (Some test) third x here k env t w fine ++ LC c line steps (Some test) third x here k env t w fine)) fine.stand.1;
      right = fine.right.0;
      meets = (loop_round c line steps (Some test) third x here k env t w fine 0).0;
      good = subst (λ p. Good_at (frame c fine.under) p env t w) (first_more (frame c fine.under) (around c fine.under) (steps_points steps) 1 (suc here) (inside' c line steps (Some test) third x here k env t w fine) (omega arith)) (loop_gone c line steps (Some test) third x here k env t w fine);
    }

    some_branch : (t1 : Temporaries) (w1 : World) → steps_in r c steps (loop_live steps (Some test) third x k) env t w ≡ Go t1 w1 → Good_at (frame c fine.under) (loop_at_test here steps) env t1 w1
    unfolding some_steps
    some_branch t1 w1 e = behind_fine c steps (suc here) (loop_live steps (Some test) third x k) env t w t1 w1 some_steps e

    some_inside : (t1 : Temporaries) (w1 : World) → steps_in r c steps (loop_live steps (Some test) third x k) env t w ≡ Go t1 w1 → test_value (Some test) t1 ≡ true → Good_at (frame c fine.under) (inside' c line steps (Some test) third x here k env t w fine) env t1 w1
    some_inside t1 w1 e b =
        (test_good (frame c fine.under) (around c fine.under) test (loop_at_test here steps) (inside' c line steps (Some test) third x here k env t w fine) fine.ends.next env t1 w1
        (stand_left (routine_nodes c.routine) (loop_at_test here steps) (LT c line steps (Some test) third x here k env t w fine) (LB c line steps (Some test) third x here k env t w fine ++ LC c line steps (Some test) third x here k env t w fine) (loop_rest c line steps (Some test) third x here k env t w fine))
        (loop_met c line steps (Some test) third x here k env t w fine t1 w1 e 0).0 (some_branch t1 w1 e)).0 b

  -- of any loop
  loop_steps : (c : Activation) (line : ℕ) (steps : Steps) (test : Option Test) (third x : Code) (here : ℕ) (k : Ways) (env : List Value) (t : Temporaries) (w : World) → CodeFine c (Code.loop line steps test third x) here k env t w → StepsFine c steps (suc here) (loop_live steps test third x k) env t w
  loop_steps c line steps (Some test) third x here k env t w fine = some_steps c line steps test third x here k env t w fine
  loop_steps c line none None third x here k env t w fine = record {
    under = fine.under;
    next = inside' c line none None third x here k env t w fine;
    stand = tt;
    right = tt;
    meets = tt;
    good = loop_gone c line none None third x here k env t w fine;
  }
  loop_steps c line (more s rest) None third x here k env t w fine = absurd (some_none fine.right.0)
    where
      some_none : more s rest ≡ none → ⊥
      some_none e = cc

  loop_inside : (c : Activation) (line : ℕ) (steps : Steps) (test : Option Test) (third x : Code) (here : ℕ) (k : Ways) (env : List Value) (t : Temporaries) (w : World) (fine : CodeFine c (Code.loop line steps test third x) here k env t w) (t1 : Temporaries) (w1 : World) → steps_in r c steps (loop_live steps test third x k) env t w ≡ Go t1 w1 → test_value test t1 ≡ true
      → Good_at (frame c fine.under) (inside' c line steps test third x here k env t w fine) env t1 w1
  loop_inside c line steps (Some test) third x here k env t w fine t1 w1 e b = some_inside c line steps test third x here k env t w fine t1 w1 e b
  loop_inside c line none None third x here k env t w fine t1 w1 e b = stays_there (loop_gone c line none None third x here k env t w fine) e
    where
      stays_there : Good_at (frame c fine.under) (inside' c line none None third x here k env t w fine) env t w → Go t w ≡ Go t1 w1 → Good_at (frame c fine.under) (inside' c line none None third x here k env t w fine) env t1 w1
      stays_there good q = let e1 : t ≡ t1 = cc in let e2 : w ≡ w1 = cc in subst (λ z. Good_at (frame c fine.under) (inside' c line none None third x here k env t w fine) env t1 z) e2 (subst (λ z. Good_at (frame c fine.under) (inside' c line none None third x here k env t w fine) env z w) e1 good)
  loop_inside c line (more s rest) None third x here k env t w fine t1 w1 e b = absurd (some_none fine.right.0)
    where
      some_none : more s rest ≡ none → ⊥
      some_none e = cc

  -- a `do`
  module _ (c : Activation) (line : ℕ) (x : Code) (steps : Steps) (test : Test) (here : ℕ) (k : Ways) (env : List Value) (t : Temporaries) (w : World) (fine : CodeFine c (Code.repeat line x steps test) here k env t w) where
    abbrev D : Setting
    D = frame c fine.under

    abbrev DA : Around D
    DA = around c fine.under

    abbrev df : Routine
    df = c.routine

    abbrev at_tail : ℕ
    at_tail = repeat_at_tail here x

    abbrev at_last : ℕ
    at_last = at_tail + steps_points steps

    abbrev tail : ℕ
    tail = first_of (steps_points steps) at_tail at_last

    abbrev do_ends : Ends
    do_ends = record { next = tail; broken = fine.ends.next; continued = tail }

    abbrev DB : List Node
    DB = code_nodes df x (suc here) do_ends

    abbrev DS : List Node
    DS = steps_nodes df steps at_tail at_last

    abbrev DT : List Node
    DT = test_nodes df (Some test) here fine.ends.next

    do_rest : Stand (routine_nodes df) at_tail (DS ++ DT)
    do_rest = stand_right (routine_nodes df) (suc here) at_tail DB (DS ++ DT) (let j = code_count df x (suc here) do_ends in omega (arith, j)) fine.stand.1

    do_here : Good_at D here env t w
    do_here = subst (λ p. Good_at D p env t w) (positive (1 + code_points x + steps_points steps + 1) here fine.ends.next (omega arith)) fine.good

    abbrev calls_d : Calls World
    calls_d = calls_within source r c.depth

    abbrev Met : (List Value → Temporaries → World → Type 0) → List Value → Temporaries → World → Type 0
    Met again env2 t2 w2 = HeadMeets (deletes r) df calls_d (CallsMeet r c.depth) steps (Some test) (repeat_live x steps test k) again (nothing_more (deletes r) df calls_d (CallsMeet r c.depth)) env2 t2 w2

    abbrev Once_more : ℕ → List Value → Temporaries → World → Type 0
    Once_more m env2 t2 w2 = IfGoes (λ _ w3. RoundsMeet m (λ again env1 t1 w1. CodeMeets (deletes r) df calls_d (CallsMeet r c.depth) x (repeat_body x steps test k) env1 t1 w1 × IfGoes (body_meets (Met again)) (code_in r c x (repeat_body x steps test k) env1 t1 w1)) env2 t2 w3) (source.take_turn w2)

    do_round : (m : ℕ) → CodeMeets (deletes r) df calls_d (CallsMeet r c.depth) x (repeat_body x steps test k) env t w × IfGoes (body_meets (Met (Once_more m))) (code_in r c x (repeat_body x steps test k) env t w)
    do_round m = fine.meets (suc m)

    do_stand : Stand (routine_nodes df) (suc here) DB
    do_stand = stand_left (routine_nodes df) (suc here) DB (DS ++ DT) fine.stand.1

    do_body_fine : CodeFine c x (suc here) (repeat_body x steps test k) env t w
    do_body_fine = record { under = fine.under; ends = do_ends; stand = do_stand; right = fine.right.1; meets = (do_round 0).0; good = go_on D DA here _ env t w fine.stand.0 do_here }

    module _ (way : Way) (env1 : List Value) (t1 : Temporaries) (w1 : World) (e : code_in r c x (repeat_body x steps test k) env t w ≡ Go way w1) (goes : GoesOn way env1 t1) where
      do_met : (m : ℕ) → Met (Once_more m) env1 t1 w1
      do_met m = body_met (Met (Once_more m)) way env1 t1 w1 goes (if_came _ (do_round m).1 e)

      do_steps : StepsFine c steps at_tail (repeat_live x steps test k) env1 t1 w1
      do_steps = record {
        under = fine.under;
        next = at_last;
        stand = stand_left (routine_nodes df) at_tail DS DT do_rest;
        right = fine.right.0;
        meets = (do_met 0).0;
        good = goes_back D DA tail fine.ends.next way env1 t1 w1 goes (came (code_good D DA x (suc here) do_ends do_stand fine.right.1 (repeat_body x steps test k) env t w (do_round 0).0 (go_on D DA here _ env t w fine.stand.0 do_here)) e);
      }

      module _ (t2 : Temporaries) (w2 : World) (e2 : steps_in r c steps (repeat_live x steps test k) env1 t1 w1 ≡ Go t2 w2) where
        do_branch : Good_at D at_last env1 t2 w2
        unfolding do_steps
        do_branch = behind_fine c steps at_tail (repeat_live x steps test k) env1 t1 w1 t2 w2 do_steps e2

        do_again : (w3 : World) → test_value (Some test) t2 ≡ true → source.take_turn w2 ≡ Go tt w3 → CodeFine c (Code.repeat line x steps test) here k env1 t2 w3
        do_again w3 b e3 = record {
          under = fine.under;
          ends = fine.ends;
          stand = fine.stand;
          right = fine.right;
          meets = λ m. if_came _ ((if_came _ (do_met m).1 e2).1 b) e3;
          good = subst (λ p. Good_at D p env1 t2 w3) (sym (positive (1 + code_points x + steps_points steps + 1) here fine.ends.next (omega arith)))
              (turned D DA here env1 t2 w2 w3 e3 ((test_good D DA test at_last here fine.ends.next env1 t2 w2 (stand_right (routine_nodes df) at_tail at_last DS DT (let j = steps_count df steps at_tail at_last in omega (arith, j)) do_rest) (if_came _ (do_met 0).1 e2).0 do_branch).0 b));
        }

  -- the whole run
  module _ (first : World) (main_fine : CallFine (suc (source.turns_left first)) r.main [] first) where
    comes_fine : (part : Part) → Comes r first part → Fine part
    comes_fine part at_main = main_fine
    comes_fine part (at_entry m k f xs w w1 before found e) = enters m k f xs w1 (begun m k f xs w w1 (comes_fine _ before) found e)
    comes_fine part (at_body m k f xs w w1 before found e) = begins m k f xs w1 (begun m k f xs w w1 (comes_fine _ before) found e)
    comes_fine part (behind_body m k f xs w w1 w2 env t before found e e1) = (ended m k f xs w1 (begun m k f xs w w1 (comes_fine _ before) found e) env t w2 e1).facts
    comes_fine part (at_zero_return m k f xs w w1 w2 env t ty before found e e1 is) = zero_returned m k f xs w1 (begun m k f xs w w1 (comes_fine _ before) found e) env t w2 ty e1 is
    comes_fine part (at_step c s rest here live env t w before) = (first_good c s rest here live env t w (comes_fine _ before)).facts
    comes_fine part (at_yes c line h ty to' x y rest here live env t w before e) = at_yes_fine c line h ty to' x y rest here live env t w (comes_fine _ before) e
    comes_fine part (at_no c line h ty to' x y rest here live env t w before e) = at_no_fine c line h ty to' x y rest here live env t w (comes_fine _ before) e
    comes_fine part (at_call c line h ty k tys rest here live env t w before) = at_call_fine c line h ty k tys rest here live env t w (comes_fine _ before)
    comes_fine part (at_next_step c s rest here live env t t1 w w1 before e) = behind_step c s rest here live env t w (comes_fine _ before) t1 w1 e
    comes_fine part (at_act c act here live env t w before lt) = (act_first c act here live env t w (comes_fine _ before) lt).facts
    comes_fine part (at_performed c line k tys here live env t w before) = performed_fine c line k tys here live env t w (comes_fine _ before)
    comes_fine part (in_update c line acc change ty here live env t w old w1 i before e lt le) = in_update_fine c line acc change ty here live env t w old w1 i (comes_fine _ before) e lt le
    comes_fine part (behind_operation c line acc change ty here live env t w old w1 new w2 i before e e1 lt le) = behind_operation_fine c line acc change ty here live env t w old w1 new w2 i (comes_fine _ before) e e1 lt le
    comes_fine part (at_cells c line kinds left' right here live env t w before) = cells_fine c line kinds left' right here live env t w (comes_fine _ before)
    comes_fine part (at_cell c line h kind kinds from to' here env t w before) = (cell_first c line h kind kinds from to' here env t w (comes_fine _ before)).facts
    comes_fine part (at_loaded_cell c line h kind kinds from to' here env t w v w1 before e) = (carried_fine c line h kind kinds from to' here env t w v w1 (comes_fine _ before) e).at.facts
    comes_fine part (at_next_cell c line h kind kinds from to' here env t w v w1 w2 before e e1) = next_cell_fine c line h kind kinds from to' here env t w v w1 w2 (comes_fine _ before) e e1
    comes_fine part (at_steps c steps act here k env t w before) = steps_fine c steps act here k env t w (comes_fine _ before)
    comes_fine part (behind_steps c steps act here k env t w t1 w1 before e) = act_fine c steps act here k env t w t1 w1 (comes_fine _ before) e
    comes_fine part (at_clear c line x ty here k env t w before) = (comes_fine _ before).good.facts
    comes_fine part (at_break c line here k env t w before) = (comes_fine _ before).good.facts
    comes_fine part (at_continue c line here k env t w before) = (comes_fine _ before).good.facts
    comes_fine part (at_block c codes here k env t w before) = block_fine c codes here k env t w (comes_fine _ before)
    comes_fine part (at_first c x rest here k env t w before) = first_fine c x rest here k env t w (comes_fine _ before)
    comes_fine part (at_rest c x rest here k env t w env1 t1 w1 before e) = rest_fine c x rest here k env t w env1 t1 w1 (comes_fine _ before) e
    comes_fine part (at_condition c steps test x y here k env t w before) = branch_steps c steps test x y here k env t w (comes_fine _ before)
    comes_fine part (at_branch c steps test x y here k env t w t1 w1 before e) = (branch_good c steps test x y here k env t w (comes_fine _ before) t1 w1 e).facts
    comes_fine part (at_true c steps test x y here k env t w t1 w1 before e b) = true_fine c steps test x y here k env t w (comes_fine _ before) t1 w1 e b
    comes_fine part (at_false c steps test x y here k env t w t1 w1 before e b) = false_fine c steps test x y here k env t w (comes_fine _ before) t1 w1 e b
    comes_fine part (at_loop c line steps test third x here k env t w before) = (loop_here c line steps test third x here k env t w (comes_fine _ before)).facts
    comes_fine part (at_loop_condition c line steps test third x here k env t w before) = loop_steps c line steps test third x here k env t w (comes_fine _ before)
    comes_fine part (at_loop_branch c line steps test third x here k env t w t1 w1 before e) = (some_branch c line steps test third x here k env t w (comes_fine _ before) t1 w1 e).facts
    comes_fine part (at_loop_body c line steps test third x here k env t w t1 w1 before e b) =
        let fine = comes_fine _ before in loop_body_fine c line steps test third x here k env t w fine t1 w1 e b (loop_inside c line steps test third x here k env t w fine t1 w1 e b)
    comes_fine part (at_third c line steps test third x here k env t w t1 w1 way env2 t2 w2 before e b e2 goes) =
        let fine = comes_fine _ before in third_fine c line steps test third x here k env t w fine t1 w1 e b (loop_inside c line steps test third x here k env t w fine t1 w1 e b) way env2 t2 w2 e2 goes
    comes_fine part (at_next_round c line steps test third x here k env t w t1 w1 way env2 t2 w2 env3 t3 w3 w4 before e b e2 goes e3 e4) =
        let fine = comes_fine _ before in next_round_fine c line steps test third x here k env t w fine t1 w1 e b (loop_inside c line steps test third x here k env t w fine t1 w1 e b) way env2 t2 w2 e2 goes env3 t3 w3 w4 e3 e4
    comes_fine part (at_repeat c line x steps test here k env t w before) = (do_here c line x steps test here k env t w (comes_fine _ before)).facts
    comes_fine part (at_repeat_body c line x steps test here k env t w before) = do_body_fine c line x steps test here k env t w (comes_fine _ before)
    comes_fine part (at_repeat_condition c line x steps test here k env t w way env1 t1 w1 before e goes) = do_steps c line x steps test here k env t w (comes_fine _ before) way env1 t1 w1 e goes
    comes_fine part (at_repeat_branch c line x steps test here k env t w way env1 t1 w1 t2 w2 before e goes e2) = (do_branch c line x steps test here k env t w (comes_fine _ before) way env1 t1 w1 e goes t2 w2 e2).facts
    comes_fine part (at_repeat_round c line x steps test here k env t w way env1 t1 w1 t2 w2 w3 before e goes e2 b e3) = do_again c line x steps test here k env t w (comes_fine _ before) way env1 t1 w1 e goes t2 w2 e2 w3 b e3

-- as the law says it
pub facts_hold_whenever : (r : Rlang) (temporaries : ℕ → ℕ) (a : Annotation) → Consistent r temporaries a → FactsHoldWhenever r temporaries a
facts_hold_whenever r temporaries a c rights first sane no_parameters meets g p values heap comes =
    comes_fine r temporaries a c rights (calls_keep r temporaries a c rights) first main_is (At g p values heap) comes
  where
    main_is : CallFine r temporaries a c rights (calls_keep r temporaries a c rights) (suc (source.turns_left first)) r.main [] first
    main_is = record { meets = meets (suc (source.turns_left first)); sane = sane; given = λ fk found. record { long = sym (no_parameters fk found); made = none_made fk (no_parameters fk found); hold = λ fact e. absurd (true_false (sym (c.main fact) ∙ e)) } }
      where
        true_false : false ≡ true → ⊥
        true_false e = cc

        none_made : (fk : Routine) → fk.parameters ≡ 0 → (i : ℕ) → Made first.heap (past (given_to fk []) (λ _. Null) i)
        none_made fk e i = subst (λ m. Made first.heap (past (picked (map is_regional (take m fk.locals)) []) (λ _. Null) i)) (sym e) (λ q. absurd q)
