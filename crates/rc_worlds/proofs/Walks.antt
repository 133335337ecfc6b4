-- A run of a sound image over the source's world and over its store: the change of world.
use Rattle.std.proofs.Common.{◌≡◌, ℕ, zero, suc, ◌+◌, ◌<◌, ◌≤◌, false, List, [], ◌∷◌, length, map, take, slice_get, Some, None, refl, sym, ap, ◌∙◌, subst, ◌⊎◌, inl, inr, arith}
use Rattle.std.proofs.lemmas.Option.{get_or_from_slice_get, slice_get_within}
use Rattle.rc_core.specs.Heap.{Heap}
use Rattle.rc_core.specs.Runs.{Run, Go, Stopped, bind, Calls}
use Rattle.rc_core.specs.Source.{World}
use Rattle.rc_core.specs.declared.ty.NumberType.TheVariants.{Int}
use Rattle.rc_code.specs.declared.kind.Storage.TheVariants as storage
use Rattle.rc_code.specs.declared.opcode.Simple.TheVariants as simple
use Rattle.rc_code.specs.declared.instruction.Instruction.TheVariants as instruction
use Rattle.rc_code.specs.declared.image.Function.{Function}
use Rattle.rc_code.specs.declared.instruction.Instruction.{Instruction}
use Rattle.rc_code.specs.Running.{line_at, function_at, Next, onward, backward, done, Onward, first_locals, effect, resume, walk, rounds, calls_within, run_main}
use Rattle.rc_code.specs.StoreModel.{Held}
use Rattle.rc_code.specs.Soundness.{operand_kind, parameter_kinds, kinds_before, ends, FunctionIsSound}
use Rattle.rc_worlds.specs.Worlds.{mapped, Compared, watched, trusting, model, may_mark, looks}
use Rattle.rc_worlds.specs.Typed.{Good}
use Rattle.rc_worlds.specs.Facts.{ImageIsSound}
use Rattle.rc_worlds.proofs.Does.{Excused, Same, Does, reaches_itself, does_go, does_then}
use Rattle.rc_worlds.proofs.WorldOps.{take_turn_does}
use Rattle.rc_worlds.proofs.Stacks.{AreKinds, kinds_grow, first_locals_suit}
use Rattle.rc_worlds.proofs.Steps.{ResultSuits, NextSuits, Agrees, CallsAgree, acts}

module _ (image : Compared) (sound : ImageIsSound image) where
  -- an instruction that isn't one of the last kinds has one behind it
  pub one_more : (f : Function) → FunctionIsSound (may_mark image.marks) image.code f → (n : ℕ) (i : Instruction) → slice_get f.code n ≡ Some i → ends i ≡ false → suc n < length f.code
  one_more f fine n i e goes = by (which (suc n) (length f.code) (slice_get_within f.code n i e))
    where
      which : (a b : ℕ) → a ≤ b → (a ≡ b) ⊎ (a < b)
      which zero zero le = inl refl
      which zero (suc b) le = inr (omega arith)
      which (suc a) zero le = absurd (omega (arith, le))
      which (suc a) (suc b) le = on (which a b (omega (arith, le)))
        where
          on : (a ≡ b) ⊎ (a < b) → (suc a ≡ suc b) ⊎ (suc a < suc b)
          on (inl e) = inl (ap suc e)
          on (inr e) = inr (omega (arith, e))

      by : (suc n ≡ length f.code) ⊎ (suc n < length f.code) → suc n < length f.code
      by (inl last) = let no = fine.last n i e last in cc
      by (inr more) = more

  resumed : (f : Function) (at : ℕ) (next again : Onward World) (next' again' : Onward Held) → ((n : ℕ) → suc at + n < length f.code → Agrees image f (next n) (next' n) (suc at + n)) → ((n : ℕ) → n < length f.code → Agrees image f (again n) (again' n) n)
      → (x : Next) (w : World) → Good image w → NextSuits image f at x w → Does image w (ResultSuits image f.result) (resume (watched image) image.code next again x w) (resume (trusting image.name) image.code next' again' x (model image.name w))
  resumed f at next again next' again' ahead back (onward n st env) w good suits = (ahead n (omega (arith, suits.1, suits.2))).agrees st env w good (subst (λ p. AreKinds image w.heap (kinds_before image.code f p) st) suits.1 suits.3) suits.4
  resumed f at next again next' again' ahead back (backward to st env) w good suits = (back to suits.0).agrees st env w good suits.1 suits.2
  resumed f at next again next' again' ahead back (done v) w good suits = does_go image w w (ResultSuits image f.result) v (reaches_itself image w good) suits

  walk_agrees : (f : Function) → FunctionIsSound (may_mark image.marks) image.code f → (calls : Calls World) (calls' : Calls Held) → CallsAgree image calls calls' → (again : Onward World) (again' : Onward Held) → ((n : ℕ) → n < length f.code → Agrees image f (again n) (again' n) n)
      → (rest : List Instruction) (at n : ℕ) → ((k : ℕ) → slice_get f.code (at + k) ≡ slice_get rest k) → at + n < length f.code
      → Agrees image f (walk (watched image) image.code f rest at calls again n) (walk (trusting image.name) image.code f rest at calls' again' n) (at + n)
  walk_agrees f fine calls calls' called again again' back [] at n stands inside = absurd (past f.code (at + n) (stands n ∙ nothing n) inside)
    where
      nothing : (n : ℕ) → slice_get {X = Instruction} [] n ≡ None
      nothing zero = refl
      nothing (suc n) = refl

      past : (code : List Instruction) (n : ℕ) → slice_get code n ≡ None → n < length code → ⊥
      past [] n e l = omega (arith, l)
      past (i ∷ code) zero e l = cc
      past (i ∷ code) (suc n) e l = past code n e (omega (arith, l))
  walk_agrees f fine calls calls' called again again' back (i ∷ rest) at (suc n) stands inside =
      let e : suc at + n ≡ at + suc n = omega arith in
      subst (λ p. Agrees image f (walk (watched image) image.code f rest (suc at) calls again n) (walk (trusting image.name) image.code f rest (suc at) calls' again' n) p) e
      (walk_agrees f fine calls calls' called again again' back rest (suc at) n (λ k. let e : suc at + k ≡ at + suc k = omega arith in ap (slice_get f.code) e ∙ stands (suc k)) (omega arith))
  walk_agrees f fine calls calls' called again again' back (i ∷ rest) at zero stands inside =
      let e : at + 0 ≡ at = omega arith in
      let here : slice_get f.code at ≡ Some i = ap (slice_get f.code) (sym e) ∙ stands 0 in
      let step = acts image sound f (line_at f at) at calls calls' called i (get_or_from_slice_get f.code at i (instruction.Simple simple.Return) here) (fine.fine at i here) (one_more f fine at i here) in
      let onward_agrees = λ (n : ℕ) (inside : suc at + n < length f.code). walk_agrees f fine calls calls' called again again' back rest (suc at) n (λ k. let e : suc at + k ≡ at + suc k = omega arith in ap (slice_get f.code) e ∙ stands (suc k)) inside in
      subst (λ p. Agrees image f (λ st env w. bind (effect (watched image) image.code f (line_at f at) at i calls st env w) (resume (watched image) image.code (walk (watched image) image.code f rest (suc at) calls again) again)) (λ st env w. bind (effect (trusting image.name) image.code f (line_at f at) at i calls' st env w) (resume (trusting image.name) image.code (walk (trusting image.name) image.code f rest (suc at) calls' again') again')) p) (sym e)
      (record {
        agrees = λ st env w good all locals.
            does_then image w (NextSuits image f at) (ResultSuits image f.result) _ _ _ _ (step.agrees st env w good all locals) (λ x w1 a suits.
            resumed f at (walk (watched image) image.code f rest (suc at) calls again) again (walk (trusting image.name) image.code f rest (suc at) calls' again') again' onward_agrees back x w1 a.good suits);
      })

  rounds_agree : (f : Function) → FunctionIsSound (may_mark image.marks) image.code f → (calls : Calls World) (calls' : Calls Held) → CallsAgree image calls calls' → (fuel n : ℕ) → n < length f.code → Agrees image f (rounds (watched image) image.code fuel f calls n) (rounds (trusting image.name) image.code fuel f calls' n) n
  rounds_agree f fine calls calls' called zero n inside = record { agrees = λ st env w good all locals. record { same = inr refl; goes = tt } }
  rounds_agree f fine calls calls' called (suc fuel) n inside =
      let e : 0 + n ≡ n = omega arith in
      subst (λ p. Agrees image f (walk (watched image) image.code f f.code 0 calls (rounds (watched image) image.code fuel f calls) n) (walk (trusting image.name) image.code f f.code 0 calls' (rounds (trusting image.name) image.code fuel f calls') n) p) e
      (walk_agrees f fine calls calls' called (rounds (watched image) image.code fuel f calls) (rounds (trusting image.name) image.code fuel f calls') (rounds_agree f fine calls calls' called fuel) f.code 0 n (λ k. let e : 0 + k ≡ k = omega arith in ap (slice_get f.code) e) (omega arith))

  pub calls_agree : (fuel : ℕ) → CallsAgree image (calls_within (watched image) image.code fuel) (calls_within (trusting image.name) image.code fuel)
  calls_agree zero = record { agree = λ g vs w there good all. record { same = inr refl; goes = tt } }
  calls_agree (suc fuel) = record {
    agree = λ g vs w there good all.
        does_then image w (λ _ w1. Unit {0}) (ResultSuits image (function_at image.code g).result) _ _
        (λ _ w1. rounds (watched image) image.code (suc w1.turns) (function_at image.code g) (calls_within (watched image) image.code fuel) 0 [] (first_locals (function_at image.code g) vs) w1)
        (λ _ w1. rounds (trusting image.name) image.code (suc w1.turns) (function_at image.code g) (calls_within (trusting image.name) image.code fuel) 0 [] (first_locals (function_at image.code g) vs) w1)
        (take_turn_does image w good) (λ _ w1 a _.
        (rounds_agree (function_at image.code g) (sound.rules.functions g there) (calls_within (watched image) image.code fuel) (calls_within (trusting image.name) image.code fuel) (calls_agree fuel) (suc w1.turns) 0 (sound.rules.functions g there).begins).agrees
        [] (first_locals (function_at image.code g) vs) w1 a.good tt
        (first_locals_suit image w1.heap (function_at image.code g) vs (kinds_grow image w.heap w1.heap a.grows (parameter_kinds (function_at image.code g)) vs all)));
  }

  -- the change of world: every run of a sound image over the store is the source's, mapped, stop by stop
  pub change_of_world : (w : World) → Good image w → Does image w (ResultSuits image (Some (storage.Number Int))) (run_main (watched image) image.code w) (run_main (trusting image.name) image.code (model image.name w))
  change_of_world w good = subst (λ result. Does image w (ResultSuits image result) (run_main (watched image) image.code w) (run_main (trusting image.name) image.code (model image.name w))) sound.rules.main_gives
      ((calls_agree (suc w.turns)).agree image.code.parts.main [] w sound.main good (subst (λ kinds. AreKinds image w.heap kinds []) (sym nothing) tt))
    where
      nothing : parameter_kinds (function_at image.code image.code.parts.main) ≡ []
      nothing = ap (λ n. map operand_kind (take n (function_at image.code image.code.parts.main).locals)) sound.rules.main_takes

  -- without marks always, and with marks where no check that is left out fails in the source's run
  pub exact : (w : World) → Good image w → (Excused image (run_main (watched image) image.code w) → ⊥) → run_main (trusting image.name) image.code (model image.name w) ≡ mapped image (run_main (watched image) image.code w)
  exact w good none = by (change_of_world w good).same
    where
      by : Same image (run_main (watched image) image.code w) (run_main (trusting image.name) image.code (model image.name w)) → run_main (trusting image.name) image.code (model image.name w) ≡ mapped image (run_main (watched image) image.code w)
      by (inl e) = absurd (none e)
      by (inr e) = e

  pub unmarked : may_mark image.marks ≡ false → {A : Type 0} → (m : Run World A) → Excused image m → ⊥
  unmarked none (Go x w) e = e
  unmarked none (Stopped stop w) e = let marked = e.0 in cc

  -- and where it trusts them, always
  pub trusted : looks image.marks ≡ false → {A : Type 0} → (m : Run World A) → Excused image m → ⊥
  trusted none (Go x w) e = e
  trusted none (Stopped stop w) e = let watching = e.1 in cc

  -- `main` has no parameters
  pub no_parameters : (heap : Heap) → AreKinds image heap (parameter_kinds (function_at image.code image.code.parts.main)) []
  no_parameters heap = subst (λ kinds. AreKinds image heap kinds []) (sym nothing) tt
    where
      nothing : parameter_kinds (function_at image.code image.code.parts.main) ≡ []
      nothing = ap (λ n. map operand_kind (take n (function_at image.code image.code.parts.main).locals)) sound.rules.main_takes
