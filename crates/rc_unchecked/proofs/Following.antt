-- A run over the source's world in which no check that is left out fails: after each number of steps the store is what a store sees of it.
use Rattle.std.proofs.Common.{◌≡◌, ◌⊎◌, inl, inr, ℕ, zero, suc, ◌+◌, [], Some, refl, sym, ap, ◌∙◌, subst, arith}
use Rattle.rc_core.specs.Heap.{Value}
use Rattle.rc_core.specs.Runs.{Run, Go, Stopped, bind}
use Rattle.rc_core.specs.Source.{World, source}
use Rattle.rc_code.specs.Running.{run_main}
use Rattle.rc_code.specs.StoreModel.{Held, store_model}
use Rattle.rc_code.specs.Steps.{Moved, goes, finished, step_of, steps_of, first_steps, main_state}
use Rattle.rc_worlds.specs.Worlds.{Compared, watched, trusting, model, may_mark}
use Rattle.rc_worlds.specs.Typed.{Good, Reaches}
use Rattle.rc_worlds.specs.Facts.{ImageIsSound}
use Rattle.rc_worlds.specs.SmallSteps.{ended}
use Rattle.rc_worlds.specs.States.{state_seen, moved_seen, run_seen, MovedSuits}
use Rattle.rc_worlds.proofs.Does.{Does, Excused, Same, IfGoes}
use Rattle.rc_worlds.proofs.Machine.{machine_steps}
use Rattle.rc_worlds.proofs.Small.{ComesTo, main_comes, stays_ended}
use Rattle.rc_worlds.proofs.Stacks.{first_locals_suit}
use Rattle.rc_worlds.proofs.Turns.{KeepsTurns}
use Rattle.rc_worlds.proofs.Walks.{no_parameters}
use Rattle.rc_worlds.proofs.WorldOps.{take_turn_does}
use Rattle.rc_code.specs.Running.{function_at}

pub excused_behind : (image : Compared) {A B : Type 0} (m : Run World A) (next : A → World → Run World B) → Excused image m → Excused image (bind m next)
excused_behind image (Go x w) next e = absurd e
excused_behind image (Stopped stop w) next e = e

module _ (image : Compared) (sound : ImageIsSound image) where
  pub record Follows (m : Run World (Moved World)) (m' : Run Held (Moved Held)) : Type 0 where
    pub same : m' ≡ run_seen image.name m
    pub suits : IfGoes (MovedSuits image) m

  -- no number of steps ends at a check that fails
  abbrev NoneFails : Moved World → World → Type 0
  NoneFails x w = (k : ℕ) → Excused image (steps_of (watched image) image.code k x w) → ⊥

  steps_follow : (n : ℕ) (x : Moved World) (w : World) → MovedSuits image x w → NoneFails x w → Follows (steps_of (watched image) image.code n x w) (steps_of (trusting image.name) image.code n (moved_seen image.name x) (model image.name w))
  steps_follow zero x w suits none = record { same = refl; suits = suits }
  steps_follow (suc n) (finished v) w suits none = record { same = refl; suits = suits }
  steps_follow (suc n) (goes s) w suits none =
      let moves = machine_steps image sound s w suits in
      by (step_of (watched image) image.code s w) moves.same moves.suits (λ k. none (suc k)) (steps_follow n)
    where
      by : (m : Run World (Moved World)) → Excused image m ⊎ (step_of (trusting image.name) image.code (state_seen image.name s) (model image.name w) ≡ run_seen image.name m) → IfGoes (MovedSuits image) m
          → ((k : ℕ) → Excused image (bind m (steps_of (watched image) image.code k)) → ⊥)
          → ((x : Moved World) (w1 : World) → MovedSuits image x w1 → NoneFails x w1 → Follows (steps_of (watched image) image.code n x w1) (steps_of (trusting image.name) image.code n (moved_seen image.name x) (model image.name w1)))
          → Follows (bind m (steps_of (watched image) image.code n)) (bind (step_of (trusting image.name) image.code (state_seen image.name s) (model image.name w)) (steps_of (trusting image.name) image.code n))
      by m (inl e) next none more = absurd (none 0 (excused_behind image m (steps_of (watched image) image.code 0) e))
      by (Go x w1) (inr same) next none more =
          subst (λ m'. Follows (steps_of (watched image) image.code n x w1) (bind m' (steps_of (trusting image.name) image.code n))) (sym same) (more x w1 next none)
      by (Stopped t w1) (inr same) next none more = record { same = ap (λ m'. bind m' (steps_of (trusting image.name) image.code n)) same; suits = tt }

  begins : (w : World) → Good image w → MovedSuits image (goes (main_state image.code)) w
  begins w good = record {
    there = sound.main;
    inside = (sound.rules.functions image.code.parts.main sound.main).begins;
    good = good;
    stack = tt;
    locals = first_locals_suit image w.heap (function_at image.code image.code.parts.main) [] (no_parameters image sound w.heap);
    frames = tt;
  }

  pub first_follow : (n : ℕ) (w : World) → Good image w → ((k : ℕ) → Excused image (first_steps (watched image) image.code k w) → ⊥)
      → Follows (first_steps (watched image) image.code n w) (first_steps (trusting image.name) image.code n (model image.name w))
  first_follow n w good none = by (source.take_turn w) turn.same turn.goes none
    where
      turn : Does image w (λ _ w1. Unit {0}) (source.take_turn w) (store_model.take_turn (model image.name w))
      turn = take_turn_does image w good

      by : (m : Run World (Unit {0})) → Same image m (store_model.take_turn (model image.name w)) → IfGoes (λ _ w1. Reaches image w w1 × Unit {0}) m
          → ((k : ℕ) → Excused image (bind m (λ _. steps_of (watched image) image.code k (goes (main_state image.code)))) → ⊥)
          → Follows (bind m (λ _. steps_of (watched image) image.code n (goes (main_state image.code)))) (bind (store_model.take_turn (model image.name w)) (λ _. steps_of (trusting image.name) image.code n (goes (main_state image.code))))
      by m (inl e) go none = absurd (none 0 (excused_behind image m (λ _. steps_of (watched image) image.code 0 (goes (main_state image.code))) e))
      by (Go x w1) (inr same) go none =
          subst (λ m'. Follows (steps_of (watched image) image.code n (goes (main_state image.code)) w1) (bind m' (λ _. steps_of (trusting image.name) image.code n (goes (main_state image.code))))) (sym same)
          (steps_follow n (goes (main_state image.code)) w1 (begins w1 go.0.good) none)
      by (Stopped t w1) (inr same) go none = record { same = ap (λ m'. bind m' (λ _. steps_of (trusting image.name) image.code n (goes (main_state image.code)))) same; suits = tt }

  -- where the whole run comes to no check that fails, no number of steps does
  pub none_fails : KeepsTurns (watched image) → (w : World) → (Excused image (run_main (watched image) image.code w) → ⊥) → (k : ℕ) → Excused image (first_steps (watched image) image.code k w) → ⊥
  none_fails keeps w whole k = by (first_steps (watched image) image.code k w) refl
    where
      comes : ComesTo (watched image) image.code keeps (may_mark image.marks) sound.rules w
      comes = main_comes (watched image) image.code keeps (may_mark image.marks) sound.rules sound.main w

      by : (m : Run World (Moved World)) → first_steps (watched image) image.code k w ≡ m → Excused image m → ⊥
      by (Go x w1) is e = e
      by (Stopped stop w1) is e =
          let stopped : Run World Value = Stopped stop w1 in
          let two : Some stopped ≡ Some (run_main (watched image) image.code w) =
          sym (stays_ended (watched image) image.code k (k + comes.enough) w stopped (omega arith) (ap ended is))
          ∙ stays_ended (watched image) image.code comes.enough (k + comes.enough) w (run_main (watched image) image.code w) (omega arith) comes.at_enough in
          let same : stopped ≡ run_main (watched image) image.code w = cc in
          whole (subst (λ (m : Run World Value). Excused image m) same e)
