-- The rules of paths, as loops decide them.
use Rattle.std.proofs.Common.{◌≡◌, ℕ, ◌-◌, ◌+◌, ◌≤◌, ◌<◌, false, nat_lt, arith}
use Rattle.std.proofs.lemmas.Bool.{le-ltb}

-- a step of the span leaves less room
pub less_room : (step span room : ℕ) → step < room → nat_lt (step + span) room ≡ nat_lt span (room - step)
less_room step span room lt = grind arith

pub no_room : (step span room : ℕ) → room ≤ step → nat_lt (step + span) room ≡ false
no_room step span room le = le-ltb (step + span) room (omega arith)
