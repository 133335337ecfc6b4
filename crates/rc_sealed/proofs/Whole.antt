-- The law: however many steps a run of an image with proofs takes, it touches no dead region, and its marks are right.
use Rattle.std.proofs.Common.{◌≡◌, ◌≢◌, ℕ, zero, suc, Bool, true, false, IsTrue, List, [], ◌∷◌, ◌++◌, drop, Some, inl, inr, ◌⊎◌, refl, sym, ap, ◌∙◌, subst, arith}
use Rattle.std.specs.Prelude.{slice_get, get_or}
use Rattle.std.specs.List.{AllByRecursion as Every, AllZip}
use Rattle.std.proofs.lemmas.Option.{slice_get-get_or}
use Rattle.rc_base.specs.declared.ends.Limits.{Limits}
use Rattle.rc_core.specs.Laws.{IfGoes}
use Rattle.rc_core.specs.Heap.{Value, Null, Heap, parent}
use Rattle.rc_core.specs.Runs.{Run, Go, Stopped, Stop, Ends, Stale, bind}
use Rattle.rc_core.specs.Source.{World, source}
use Rattle.rc_safety.proofs.Worlds.{NotStale}
use Rattle.rc_facts.specs.declared.fact.Fact.{Fact}
use Rattle.rc_annotations.specs.Annotations.{Annotation}
use Rattle.rc_annotations.specs.Holding.{Holds, Rooted}
use Rattle.rc_annotations.specs.Variables.{past}
use Rattle.rc_annotations.specs.Worlds.{Made, Sane}
use Rattle.rc_annotations.proofs.Truths.{derivable_holds}
use Rattle.rc_annotations.proofs.WorldFacts.{stays_heap}
use Rattle.rc_code.specs.declared.opcode.Simple.TheVariants as simple
use Rattle.rc_code.specs.declared.instruction.Instruction.TheVariants as instruction
use Rattle.rc_code.specs.declared.image.Function.{Function}
use Rattle.rc_code.specs.declared.image.Parts.{Parts}
use Rattle.rc_code.specs.Image.{FieldsFit}
use Rattle.rc_code.specs.Running.{Reading, reading_of, function_at, path_at, cell_at, storage_of, value_at, kept, target_on, first_locals}
use Rattle.rc_code.specs.Soundness.{Sound, instruction_at, IsFine}
use Rattle.rc_code.specs.StoreModel.{Held, store_model, stored_in, stored}
use Rattle.rc_code.specs.Steps.{State, Moved, goes, finished, step_of, steps_of, first_steps, main_state}
use Rattle.rc_code.specs.ImageMeaning.{image_run, image_meaning, meaning_of_run}
use Rattle.rc_code.specs.Faithful.{MarkIsRight, Faithful}
use Rattle.rc_code.proofs.Marks.{right_where_same}
use Rattle.rc_worlds.specs.Worlds.{Compared, watched, trusting, model, own, put_by, mapped, marks_checked}
use Rattle.rc_worlds.specs.Typed.{Good, Reaches}
use Rattle.rc_worlds.specs.Meanings.{image_world}
use Rattle.rc_worlds.specs.SmallSteps.{ended}
use Rattle.rc_worlds.specs.States.{state_seen, moved_seen, run_seen, store_steps, world_steps}
use Rattle.rc_worlds.proofs.Does.{Excused, Same, Does}
use Rattle.rc_worlds.proofs.WorldOps.{take_turn_does, put_does}
use Rattle.rc_worlds.proofs.Stacks.{first_locals_suit, place_reached, kept_suits}
use Rattle.rc_worlds.proofs.Walks.{no_parameters}
use Rattle.rc_worlds.proofs.Machine.{machine_steps}
use Rattle.rc_worlds.proofs.Reached.{same_steps}
use Rattle.rc_worlds.proofs.Begins.{begins_good, first_is_model, own_is_written}
use Rattle.rc_worlds.proofs.Ended.{steps_mean}
use Rattle.rc_claims.specs.Counts.{copies}
use Rattle.rc_loader.specs.Unmarked.{unmarked}
use Rattle.rc_sealed.specs.AllProved.{AllProved}
use Rattle.rc_sealed.specs.Law.{MeansTheSame}
use Rattle.rc_sealed.proofs.Cleared.{means_the_same}
use Rattle.rc_sealed.proofs.Safe.{FreshIn, Quiet, quiet_turn}
use Rattle.rc_sealed.proofs.Instructions.{image, sound, At}
use Rattle.rc_sealed.proofs.Others.{mark_holds}
use Rattle.rc_sealed.proofs.Passing.{given_to, given_whole, first_fresh, entry_hold, picked_each}
use Rattle.rc_sealed.proofs.Frames.{StateKeeps, MovedKeeps, StepKeeps, step_keeps}

module _ (parts : Parts) (fields : FieldsFit parts) (rules : Sound parts) (proofs : Annotation) (all : AllProved parts proofs) where
  abbrev code : Reading
  code = reading_of parts

  abbrev im : Compared
  im = image parts fields rules proofs all

  abbrev Keeps : Run World (Moved World) → Type 0
  Keeps m = StepKeeps parts fields rules proofs all m

  not_excused : {A : Type 0} (m : Run World A) → ((stop : Stop) (w : World) → m ≡ Stopped stop w → NotStale stop) → Excused im m → ⊥
  not_excused (Go x w) k e = e
  not_excused (Stopped stop w) k e = subst NotStale e.2.1 (k stop w refl)

  keeps_not_stale : (m : Run World (Moved World)) → Keeps m → (stop : Stop) (w : World) → m ≡ Stopped stop w → NotStale stop
  keeps_not_stale m keeps stop w e = subst Keeps e keeps

  pub record Both (m : Run World (Moved World)) (m' : Run Held (Moved Held)) : Type 0 where
    pub same : m' ≡ run_seen im.name m
    pub keeps : Keeps m

  steps_keep : (n : ℕ) (x : Moved World) (w : World) → MovedKeeps parts fields rules proofs all x w → Both (steps_of (watched im) code n x w) (steps_of (trusting im.name) code n (moved_seen im.name x) (model im.name w))
  steps_keep zero x w keeps = record { same = refl; keeps = keeps }
  steps_keep (suc n) (finished v) w keeps = record { same = refl; keeps = keeps }
  steps_keep (suc n) (goes s) w keeps =
      let moves = machine_steps im (sound parts fields rules proofs all) s w keeps.suits in
      let kept = step_keeps parts fields rules proofs all s w keeps in
      let same = settle moves.same kept in
      subst (λ m'. Both (bind (step_of (watched im) code s w) (steps_of (watched im) code n)) (bind m' (steps_of (trusting im.name) code n))) (sym same) (by (step_of (watched im) code s w) kept (steps_keep n))
    where
      settle : Excused im (step_of (watched im) code s w) ⊎ (step_of (trusting im.name) code (state_seen im.name s) (model im.name w) ≡ run_seen im.name (step_of (watched im) code s w)) → Keeps (step_of (watched im) code s w)
          → step_of (trusting im.name) code (state_seen im.name s) (model im.name w) ≡ run_seen im.name (step_of (watched im) code s w)
      settle (inl e) kept = absurd (not_excused (step_of (watched im) code s w) (keeps_not_stale (step_of (watched im) code s w) kept) e)
      settle (inr e) kept = e

      by : (m : Run World (Moved World)) → Keeps m → ((x : Moved World) (w : World) → MovedKeeps parts fields rules proofs all x w → Both (steps_of (watched im) code n x w) (steps_of (trusting im.name) code n (moved_seen im.name x) (model im.name w)))
          → Both (bind m (steps_of (watched im) code n)) (bind (run_seen im.name m) (steps_of (trusting im.name) code n))
      by (Go x w1) kept more = more x w1 kept
      by (Stopped stop w1) kept more = record { same = refl; keeps = kept }

  -- ---- from the start

  module _ (input : List ℕ) (limits : Limits) where
    abbrev w0 : World
    w0 = image_world code input limits

    abbrev main : Function
    main = function_at code parts.main

    good0 : Good im w0
    good0 = begins_good parts fields input limits (marks_checked false) false (λ e. cc)

    rooted0 : Rooted (parent w0.heap)
    rooted0 zero e = cc
    rooted0 (suc r) e = omega arith

    none : (heap : Heap) → Rooted (parent heap) → (fact : Fact) → IsTrue (proofs.entry parts.main fact) → Holds fact (past (given_to main []) (λ i. Null)) heap
    none heap rooted fact e =
        derivable_holds (copies main) (λ p. false) (past (given_to main []) (λ i. Null)) heap rooted (λ p e. absurd (false_true e))
        ((all.proved parts.main 0 fields.main (rules.functions parts.main fields.main).begins).first.main refl fact e)
      where
        false_true : false ≡ true → ⊥
        false_true e = absurd cc

    begins : (w : World) → Good im w → Sane w → MovedKeeps parts fields rules proofs all (goes (main_state code)) w
    begins w good sane = record {
      suits = record {
        there = fields.main;
        inside = (rules.functions parts.main fields.main).begins;
        good = good;
        stack = tt;
        locals = first_locals_suit im w.heap main [] (no_parameters im (sound parts fields rules proofs all) w.heap);
        frames = tt;
      };
      sane = sane;
      copied = given_to main [];
      whole = given_whole main [];
      made = picked_each (Made w.heap) (λ p. absurd p) (Rattle.std.specs.Prelude.take main.parameters (Rattle.rc_claims.specs.Counts.regionals main)) [] tt;
      here = record {
        facts = entry_hold code proofs parts.main [] w.heap sane.rooted (sym rules.main_takes) (let e = rules.main_takes in omega (arith, e)) (all.over.entries parts.main) (all.proved parts.main 0 fields.main (rules.functions parts.main fields.main).begins).first (none w.heap sane.rooted);
        stack = tt;
        used = λ y u. Rattle.rc_safety.proofs.Lists.every_get_or (FreshIn w) (first_locals main []) y Null refl (first_fresh w main [] tt);
      };
      frames = tt;
    }

    first_keep : (n : ℕ) → Both (world_steps im input limits n) (first_steps (trusting im.name) code n (model im.name w0))
    first_keep n = by (source.take_turn w0) turn.same turn.goes (quiet_turn w0)
      where
        turn : Does im w0 (λ _ w1. Unit {0}) (source.take_turn w0) (store_model.take_turn (model im.name w0))
        turn = take_turn_does im w0 good0

        by : (m : Run World (Unit {0})) → Same im m (store_model.take_turn (model im.name w0)) → IfGoes (λ _ w1. Reaches im w0 w1 × Unit {0}) m → Quiet w0 (λ _ w1. w1.heap ≡ w0.heap) m
            → Both (bind m (λ _. steps_of (watched im) code n (goes (main_state code)))) (bind (store_model.take_turn (model im.name w0)) (λ _. steps_of (trusting im.name) code n (goes (main_state code))))
        by (Go x w1) (inl e) go quiet = absurd e
        by (Stopped stop w1) (inl e) go quiet = absurd (subst NotStale e.2.1 quiet.holds)
        by (Go x w1) (inr same) go quiet =
            subst (λ m'. Both (steps_of (watched im) code n (goes (main_state code)) w1) (bind m' (λ _. steps_of (trusting im.name) code n (goes (main_state code))))) (sym same)
            (steps_keep n (goes (main_state code)) w1 (begins w1 go.0.good (stays_heap w0 w1 (record { sound = good0.sound; rooted = rooted0 }) quiet.holds.1).sane))
        by (Stopped stop w1) (inr same) go quiet = record { same = ap (λ m'. bind m' (λ _. steps_of (trusting im.name) code n (goes (main_state code)))) same; keeps = quiet.holds }

    same_first : (n : ℕ) (m : Run Held (Unit {0})) → bind m (λ _. steps_of (trusting (λ ty. ty)) code n (goes (main_state code))) ≡ bind m (λ _. steps_of stored (own im).code n (goes (main_state code)))
    same_first n (Go x w) = same_steps im (λ ty. refl) n (goes (main_state code)) w
    same_first n (Stopped t w) = refl

    as_written : (n : ℕ) → first_steps (trusting (λ ty. ty)) code n (model (λ ty. ty) w0) ≡ store_steps parts input limits n
    as_written n =
        same_first n (store_model.take_turn (model (λ ty. ty) w0))
        ∙ ap (λ code'. bind (store_model.take_turn (model (λ ty. ty) w0)) (λ _. steps_of stored code' n (goes (main_state code)))) (own_is_written parts (marks_checked false) false)
        ∙ ap (λ w. first_steps stored code n w) (first_is_model code input limits)

    -- the store is at each moment what a store sees of the source's world
    pub store_is : (n : ℕ) → store_steps parts input limits n ≡ run_seen im.name (world_steps im input limits n)
    store_is n = sym (as_written n) ∙ (first_keep n).same

    ends_well : (m : Run World (Moved World)) → Keeps m → (r : Run Held Value) → ended (run_seen im.name m) ≡ Some r → (line : ℕ) → (meaning_of_run input r).end ≢ Stale line
    ends_well (Go (goes s) w) keeps r e line stale = absurd cc
    ends_well (Go (finished v) w) keeps r e line stale = let k : Go v (model im.name w) ≡ r = cc in absurd (go_not v (model im.name w) line (ap (λ r. (meaning_of_run input r).end) k ∙ stale))
      where
        go_not : (v : Value) (w : Held) (line : ℕ) → (meaning_of_run input (Go v w)).end ≡ Stale line → ⊥
        go_not v w line e = absurd cc
    ends_well (Stopped stop w) keeps r e line stale = let k : Stopped stop (model im.name w) ≡ r = cc in not_stale stop keeps line (ap (λ r. (meaning_of_run input r).end) k ∙ stale)
      where
        not_stale : (stop : Stop) → NotStale stop → (line : ℕ) → stop ≡ Stale line → ⊥
        not_stale (Ends end) ok line e = absurd cc
        not_stale (Stale l) ok line e = ok

    pub never_stale : (line : ℕ) → (image_meaning parts input limits).end ≢ Stale line
    never_stale line =
        let mean = steps_mean parts fields rules input limits in
        ends_well (world_steps im input limits mean.enough) (first_keep mean.enough).keeps (image_run parts input limits) (ap ended (sym (store_is mean.enough)) ∙ mean.ends mean.enough (omega arith)) line

    -- a mark is right wherever a run comes to it
    right_at : (s : State World) (w : World) → StateKeeps parts fields rules proofs all s w → (path : ℕ) → instruction_at (function_at code s.function) s.at ≡ instruction.Store path true → MarkIsRight code path (state_seen im.name s) (model im.name w)
    right_at s w keeps path is = right_where_same code path (state_seen im.name s) (model im.name w) line (sym (at_mark false refl) ∙ at_mark true refl)
      where
        line : ℕ
        line = 0

        f : Function
        f = function_at code s.function

        fine : IsFine true code f s.at (instruction.Store path true)
        fine = (rules.functions s.function keeps.suits.there).fine s.at (instruction.Store path true) (slice_get-get_or f.code s.at (instruction.Simple simple.Return) keeps.suits.inside ∙ ap Some is)

        state : At parts fields rules proofs all s.function keeps.suits.there s.at keeps.suits.inside keeps.copied keeps.whole s.stack s.locals w
        state = record { kinds = keeps.suits.stack; locals = keeps.suits.locals; good = keeps.suits.good; sane = keeps.sane; here = keeps.here; copies = keeps.made }

        holds : Rattle.rc_sealed.proofs.Others.MarkHolds parts fields rules proofs all s.function keeps.suits.there s.at keeps.suits.inside keeps.copied keeps.whole path s.stack w
        holds = mark_holds parts fields rules proofs all s.function keeps.suits.there s.at keeps.suits.inside keeps.copied keeps.whole path is fine s.stack s.locals w state

        t : Rattle.rc_core.specs.Runs.Target
        t = target_on (path_at code path) (drop 1 s.stack)

        u : Value
        u = kept (storage_of code (cell_at code (path_at code path))) (value_at s.stack 0)

        is_stored : (b : Bool) → put_by false true b line t u w ≡ source.store line t u w
        is_stored true = holds.same line
        is_stored false = refl

        quiet : (m : Run World (Unit {0})) → Quiet w (λ _ w1. Unit {0}) m → (stop : Stop) (w1 : World) → m ≡ Stopped stop w1 → NotStale stop
        quiet m q stop w1 e = (subst (Quiet w (λ _ w1. Unit {0})) e q).holds

        at_mark : (b : Bool) → b ≡ b → mapped im (source.store line t u w) ≡ stored_in b line t u (model im.name w)
        at_mark b e = by (put s.stack keeps.suits.stack refl)
          where
            put : (st : List Value) → AllZip (Rattle.rc_worlds.specs.Typed.HasKind im w.heap) (Rattle.rc_code.specs.Soundness.kinds_before code f s.at) st → st ≡ s.stack → Does im {A = Unit {0}} w (λ _ w1. Unit {0}) (put_by false true b line t u w) (stored_in b line t u (model im.name w))
            put st kinds same = put_does im true refl b (λ _. refl) line t u w keeps.suits.good (λ a spot here.
                on s.stack (subst (λ ks. AllZip (Rattle.rc_worlds.specs.Typed.HasKind im w.heap) ks s.stack) fine.operands.1 keeps.suits.stack) a spot here)
              where
                on : (st : List Value) → AllZip (Rattle.rc_worlds.specs.Typed.HasKind im w.heap) (Rattle.rc_code.specs.Soundness.reached_kind code (path_at code path) ∷ (Rattle.std.specs.Prelude.reverse (Rattle.rc_code.specs.Soundness.place_kinds (path_at code path)) ++ fine.operands.0)) st
                    → (a : _) (spot : _) → Rattle.rc_worlds.proofs.Does.IsSpot im w (target_on (path_at code path) (drop 1 st)) a spot → Rattle.rc_worlds.specs.Typed.Stored im w.heap (get_or (Rattle.rc_core.specs.Source.object_of w.heap spot).layout spot.cell Rattle.rc_core.specs.Types.int_cell) (kept (storage_of code (cell_at code (path_at code path))) (value_at st 0))
                on [] kinds a spot here = absurd kinds
                on (v ∷ st) kinds a spot here =
                    subst (λ k. Rattle.rc_worlds.specs.Typed.Keeps im w.heap k (kept (storage_of code (cell_at code (path_at code path))) v)) (sym (place_reached im w (path_at code path) fine.operands.0 st ((sound parts fields rules proofs all).paths path fine.names.0) kinds.1 a spot here).kind)
                    (kept_suits im w.heap (storage_of code (cell_at code (path_at code path))) v kinds.0)

            by : Does im {A = Unit {0}} w (λ _ w1. Unit {0}) (put_by false true b line t u w) (stored_in b line t u (model im.name w)) → mapped im (source.store line t u w) ≡ stored_in b line t u (model im.name w)
            by d = choose d.same
              where
                choose : Same im (put_by false true b line t u w) (stored_in b line t u (model im.name w)) → mapped im (source.store line t u w) ≡ stored_in b line t u (model im.name w)
                choose (inl e) = absurd (not_excused (put_by false true b line t u w) (quiet (put_by false true b line t u w) (subst (Quiet w (λ _ w1. Unit {0})) (sym (is_stored b)) (holds.quiet line))) e)
                choose (inr same) = ap (mapped im) (sym (is_stored b)) ∙ sym same

  -- on any input, of bytes or not
  pub right_everywhere : (input : List ℕ) (limits : Limits) (n : ℕ) (s : State Held) (w : Held) → store_steps parts input limits n ≡ Go (goes s) w → (path : ℕ) → slice_get (function_at code s.function).code s.at ≡ Some (instruction.Store path true) → MarkIsRight code path s w
  right_everywhere input limits n s w at path is = by (world_steps im input limits n) (first_keep input limits n).keeps (sym (store_is input limits n) ∙ at)
    where
      here : (s : State World) (w' : World) → StateKeeps parts fields rules proofs all s w' → slice_get (function_at code s.function).code s.at ≡ Some (instruction.Store path true) → instruction_at (function_at code s.function) s.at ≡ instruction.Store path true
      here s w' keeps is = let a : Some (instruction_at (function_at code s.function) s.at) ≡ Some (instruction.Store path true) = sym (slice_get-get_or (function_at code s.function).code s.at (instruction.Simple simple.Return) keeps.suits.inside) ∙ is in cc

      by : (m : Run World (Moved World)) → Keeps m → run_seen im.name m ≡ Go (goes s) w → MarkIsRight code path s w
      by (Stopped stop w1) keeps e = absurd cc
      by (Go (finished v) w1) keeps e = absurd cc
      by (Go (goes s1) w1) keeps e =
          let same_state : state_seen im.name s1 ≡ s = cc in let same_world : model im.name w1 ≡ w = cc in
          subst (λ s. MarkIsRight code path s w) same_state (subst (λ w. MarkIsRight code path (state_seen im.name s1) w) same_world
          (right_at input limits s1 w1 keeps path (here s1 w1 keeps (subst (λ s. slice_get (function_at code s.function).code s.at ≡ Some (instruction.Store path true)) (sym same_state) is))))

  pub faithful : Faithful parts
  faithful input bytes limits n s w path at is = right_everywhere input limits n s w at path is

  -- an instruction that stands in no code is no store
  there_or_not : (f : Function) (at path : ℕ) → instruction_at f at ≡ instruction.Store path true → slice_get f.code at ≡ Some (instruction.Store path true)
  there_or_not f at path e = by f.code at e
    where
      by : (is : List Rattle.rc_code.specs.declared.instruction.Instruction.Instruction) (at : ℕ) → get_or is at (instruction.Simple simple.Return) ≡ instruction.Store path true → slice_get is at ≡ Some (instruction.Store path true)
      by [] at e = cc
      by (i ∷ is) zero e = ap Some e
      by (i ∷ is) (suc at) e = by is at e

  pub means : (input : List ℕ) (limits : Limits) → MeansTheSame parts (unmarked parts) input limits
  means input limits = means_the_same parts input limits (λ n s w e path is. right_everywhere input limits n s w e path (there_or_not (function_at code s.function) s.at path is)) fields rules
