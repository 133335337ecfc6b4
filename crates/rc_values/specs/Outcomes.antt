-- What a part of an evaluation comes to: something, or a stop. A fault cuts it short, and then nothing is said.
use Rattle.std.specs.Prelude.{◌≡◌, ℕ, Bool, true, false, Result, Ok, Err}
use Rattle.rc_base.specs.declared.ends.End.TheVariants.{Trapped}
use Rattle.rc_base.specs.declared.ends.Trap.{Trap}
use Rattle.rc_base.specs.declared.ends.RunFault.TheVariants.{Memory}
use Rattle.rc_core.specs.Runs.{Stop, Ends, Stale}
use Rattle.rc_values.specs.declared.stop.Stop.{Stop as CodeStop}
use Rattle.rc_values.specs.declared.stop.Stop.TheVariants.{Ends as CodeEnds, Stale as CodeStale, Cut}

abbrev pub Outcome : (A : Type 0) → Type 0
Outcome A = Result A Stop

abbrev pub trapped : {A : Type 0} → Trap → (line : ℕ) → Outcome A
trapped t line = Err (Ends (Trapped t line))

-- goes on where the test holds, and else stops
abbrev pub passing : {A : Type 0} → Bool → Stop → Outcome A → Outcome A
passing true stop next = next
passing false stop next = Err stop

abbrev pub after : {A B : Type 0} → Outcome A → (A → Outcome B) → Outcome B
after (Ok x) next = next x
after (Err stop) next = Err stop

-- the stop that the code answers is that of the outcome
abbrev pub StopsAs : {A : Type 0} → CodeStop → Outcome A → Type 0
StopsAs (CodeEnds end) outcome = outcome ≡ Err (Ends end)
StopsAs (CodeStale line) outcome = outcome ≡ Err (Stale line)
StopsAs (Cut fault) outcome = fault ≡ Memory

-- what the code answers is the outcome
abbrev pub Is : {T A : Type 0} → (T → A) → Result T CodeStop → Outcome A → Type 0
Is shape (Ok x) outcome = outcome ≡ Ok (shape x)
Is shape (Err stop) outcome = StopsAs stop outcome

-- the code leaves what the outcome says
abbrev pub Does : {T A : Type 0} → Result T CodeStop → Outcome A → A → Type 0
Does (Ok x) outcome now = outcome ≡ Ok now
Does (Err stop) outcome now = StopsAs stop outcome
