-- The examples.
use Rattle.std.proofs.Common.{◌≡◌, ℕ, zero, suc, ◌<◌, true, false, [], ◌∷◌, length, refl, subst, arith, Some}
use Rattle.rc_facts.specs.declared.fact.Fact.{Fact}
use Rattle.rc_facts.specs.declared.fact.Fact.TheVariants.{In}
use Rattle.rc_facts.specs.Derivable.{stated, in_through}
use Rattle.rc_code.specs.declared.instruction.Instruction.TheVariants as instruction
use Rattle.rc_code.specs.Running.{reading_of, function_at}
use Rattle.rc_code.specs.Soundness.{instruction_at}
use Rattle.rc_sealed.specs.ImageVariables.{variables}
use Rattle.rc_sealed.specs.Carrying.{Follows, Before}
use Rattle.rc_sealed.specs.Proved.{Proved}
use Rattle.rc_sealed.specs.Pinned.{Used, got, on, Pinned, PinsAll}
use Rattle.rc_sealed.specs.AllProved.{AllProved}
use Rattle.rc_sealed.specs.Examples.{no_proofs, looped, dangling, Examples}

false_true : {P : Type 0} → false ≡ true → P
false_true e = absurd cc

zero_suc : (x : ℕ) → 0 ≡ suc x → ⊥
zero_suc x e = cc

-- behind the first GET: the place and the local are in one region
first_got : Before (reading_of looped) no_proofs 0 4 (In 0 1)
first_got = record { over = refl; stays = refl; used = []; each = tt; derived = stated refl }

second_got : Before (reading_of looped) no_proofs 0 5 (In 2 1)
second_got = record { over = refl; stays = refl; used = In 0 1 ∷ []; each = (first_got, tt); derived = in_through (stated {fact = In 4 0} refl) (stated {fact = In 0 1} refl) }

check : (fact : Fact) → Some (In 2 1) ≡ Some fact → Follows (variables (reading_of looped) (function_at (reading_of looped) 0)) (Before (reading_of looped) no_proofs 0 5) fact
check fact e = let same : In 2 1 ≡ fact = cc in subst (λ f. Follows (variables (reading_of looped) (function_at (reading_of looped) 0)) (Before (reading_of looped) no_proofs 0 5) f) same (record { used = In 2 1 ∷ []; each = (second_got, tt); derived = stated refl })

looped_proved : (at : ℕ) → at < 8 → Proved (reading_of looped) no_proofs 0 at
looped_proved zero lt = record { targets = λ to way e. false_true e; entry = tt; exit = tt; check = tt; first = record { target = λ e. false_true e; main = λ e fact is. false_true is } }
looped_proved (suc zero) lt = record { targets = λ to way e. false_true e; entry = tt; exit = tt; check = tt; first = tt }
looped_proved (suc (suc zero)) lt = record { targets = λ to way e. false_true e; entry = tt; exit = tt; check = tt; first = tt }
looped_proved (suc (suc (suc zero))) lt = record { targets = λ to way e. false_true e; entry = tt; exit = tt; check = tt; first = tt }
looped_proved (suc (suc (suc (suc zero)))) lt = record { targets = λ to way e. false_true e; entry = tt; exit = tt; check = tt; first = tt }
looped_proved (suc (suc (suc (suc (suc zero))))) lt = record { targets = λ to way e. false_true e; entry = tt; exit = tt; check = check; first = tt }
looped_proved (suc (suc (suc (suc (suc (suc zero)))))) lt = record { targets = λ to way e. false_true e; entry = tt; exit = tt; check = tt; first = tt }
looped_proved (suc (suc (suc (suc (suc (suc (suc zero))))))) lt = record { targets = λ to way e. false_true e; entry = tt; exit = λ fact is. false_true is; check = tt; first = tt }
looped_proved (suc (suc (suc (suc (suc (suc (suc (suc n)))))))) lt = absurd (omega (arith, lt))

looped_pinned : (at : ℕ) → at < 8 → Pinned (reading_of looped) 0 at
looped_pinned zero lt = tt
looped_pinned (suc zero) lt = tt
looped_pinned (suc (suc zero)) lt = tt
looped_pinned (suc (suc (suc zero))) lt = tt
looped_pinned (suc (suc (suc (suc zero)))) lt = tt
looped_pinned (suc (suc (suc (suc (suc zero))))) lt = tt
looped_pinned (suc (suc (suc (suc (suc (suc zero)))))) lt = tt
looped_pinned (suc (suc (suc (suc (suc (suc (suc zero))))))) lt = tt
looped_pinned (suc (suc (suc (suc (suc (suc (suc (suc n)))))))) lt = absurd (omega (arith, lt))

looped_all : AllProved looped no_proofs
looped_all = record {
  over = record { entries = λ g fact e. false_true e; exits = λ g fact e. false_true e; frames = λ g at fact e. false_true e };
  proved = λ g at one lt. at_zero_proved g at one lt;
  pinned = λ g at one lt. at_zero_pinned g at one lt;
}
  where
    at_zero_proved : (g at : ℕ) → g < 1 → at < length (function_at (reading_of looped) g).code → Proved (reading_of looped) no_proofs g at
    at_zero_proved zero at lt inside = looped_proved at inside
    at_zero_proved (suc g) at lt inside = absurd (omega (arith, lt))

    at_zero_pinned : (g at : ℕ) → g < 1 → at < length (function_at (reading_of looped) g).code → Pinned (reading_of looped) g at
    at_zero_pinned zero at lt inside = looped_pinned at inside
    at_zero_pinned (suc g) at lt inside = absurd (omega (arith, lt))

dangling_not : Pinned (reading_of (dangling [])) 0 3 → ⊥
dangling_not pins = let e = pins.locals 0 refl (record { to = 4; way = refl; used = got refl }) in false_true e

dangling_proved : (at : ℕ) → at < 8 → Proved (reading_of (dangling (0 ∷ []))) no_proofs 0 at
dangling_proved zero lt = record { targets = λ to way e. false_true e; entry = tt; exit = tt; check = tt; first = record { target = λ e. false_true e; main = λ e fact is. false_true is } }
dangling_proved (suc zero) lt = record { targets = λ to way e. false_true e; entry = tt; exit = tt; check = tt; first = tt }
dangling_proved (suc (suc zero)) lt = record { targets = λ to way e. false_true e; entry = tt; exit = tt; check = tt; first = tt }
dangling_proved (suc (suc (suc zero))) lt = record { targets = λ to way e. false_true e; entry = tt; exit = tt; check = tt; first = tt }
dangling_proved (suc (suc (suc (suc zero)))) lt = record { targets = λ to way e. false_true e; entry = tt; exit = tt; check = tt; first = tt }
dangling_proved (suc (suc (suc (suc (suc zero))))) lt = record { targets = λ to way e. false_true e; entry = tt; exit = tt; check = tt; first = tt }
dangling_proved (suc (suc (suc (suc (suc (suc zero)))))) lt = record { targets = λ to way e. false_true e; entry = tt; exit = tt; check = tt; first = tt }
dangling_proved (suc (suc (suc (suc (suc (suc (suc zero))))))) lt = record { targets = λ to way e. false_true e; entry = tt; exit = λ fact is. false_true is; check = tt; first = tt }
dangling_proved (suc (suc (suc (suc (suc (suc (suc (suc n)))))))) lt = absurd (omega (arith, lt))

-- the only local is the one that is pinned
gets_it : (f : Rattle.rc_code.specs.declared.image.Function.Function) (x at : ℕ) → Used f x at → (p : ℕ) × (instruction_at f p ≡ instruction.Get x)
gets_it f x at (got e) = (at, e)
gets_it f x at (on {to = b} apart way used) = gets_it f x b used

no_get : (x p : ℕ) → instruction_at (function_at (reading_of (dangling (0 ∷ []))) 0) p ≡ instruction.Get (suc x) → ⊥
no_get x zero e = cc
no_get x (suc zero) e = cc
no_get x (suc (suc zero)) e = zero_suc x cc
no_get x (suc (suc (suc zero))) e = cc
no_get x (suc (suc (suc (suc zero)))) e = zero_suc x cc
no_get x (suc (suc (suc (suc (suc zero))))) e = cc
no_get x (suc (suc (suc (suc (suc (suc zero)))))) e = cc
no_get x (suc (suc (suc (suc (suc (suc (suc zero))))))) e = cc
no_get x (suc (suc (suc (suc (suc (suc (suc (suc n)))))))) e = cc

pins_it : PinsAll (reading_of (dangling (0 ∷ []))) (function_at (reading_of (dangling (0 ∷ []))) 0) 3 (0 ∷ [])
pins_it = record { locals = λ x is used. only x used.to used.used; below = tt }
  where
    only : (x to : ℕ) → Used (function_at (reading_of (dangling (0 ∷ []))) 0) x to → Rattle.std.specs.List.list_any (Rattle.std.specs.Prelude.nat_eq x) (0 ∷ []) ≡ true
    only zero to used = refl
    only (suc x) to used = let g = gets_it (function_at (reading_of (dangling (0 ∷ []))) 0) (suc x) to used in absurd (no_get x g.0 g.1)

dangling_pinned : (at : ℕ) → at < 8 → Pinned (reading_of (dangling (0 ∷ []))) 0 at
dangling_pinned zero lt = tt
dangling_pinned (suc zero) lt = tt
dangling_pinned (suc (suc zero)) lt = tt
dangling_pinned (suc (suc (suc zero))) lt = pins_it
dangling_pinned (suc (suc (suc (suc zero)))) lt = tt
dangling_pinned (suc (suc (suc (suc (suc zero))))) lt = tt
dangling_pinned (suc (suc (suc (suc (suc (suc zero)))))) lt = tt
dangling_pinned (suc (suc (suc (suc (suc (suc (suc zero))))))) lt = tt
dangling_pinned (suc (suc (suc (suc (suc (suc (suc (suc n)))))))) lt = absurd (omega (arith, lt))

dangling_all : AllProved (dangling (0 ∷ [])) no_proofs
dangling_all = record {
  over = record { entries = λ g fact e. false_true e; exits = λ g fact e. false_true e; frames = λ g at fact e. false_true e };
  proved = λ g at one lt. at_zero_proved g at one lt;
  pinned = λ g at one lt. at_zero_pinned g at one lt;
}
  where
    at_zero_proved : (g at : ℕ) → g < 1 → at < length (function_at (reading_of (dangling (0 ∷ []))) g).code → Proved (reading_of (dangling (0 ∷ []))) no_proofs g at
    at_zero_proved zero at lt inside = dangling_proved at inside
    at_zero_proved (suc g) at lt inside = absurd (omega (arith, lt))

    at_zero_pinned : (g at : ℕ) → g < 1 → at < length (function_at (reading_of (dangling (0 ∷ []))) g).code → Pinned (reading_of (dangling (0 ∷ []))) g at
    at_zero_pinned zero at lt inside = dangling_pinned at inside
    at_zero_pinned (suc g) at lt inside = absurd (omega (arith, lt))

pub examples : Examples
examples = record { looped_is_proved = looped_all; dangling_fails = dangling_not; dangling_is_pinned = dangling_all }
