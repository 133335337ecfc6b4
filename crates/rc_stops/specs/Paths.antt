-- Paths over stops, and what is used along them.
use Rattle.std.specs.Prelude.{◌≡◌, ◌<◌, ℕ, suc, Bool, true, false, nat_eq, IsTrue, List, length, get_or, Option, Some, None, ◌⊎◌}
use Rattle.rc_stops.specs.declared.stop.Stop.{Stop}

abbrev pub no_stop : Stop
no_stop = record { gets = None; sets = None; falls = false; leads = None }

abbrev pub stop_at : List Stop → ℕ → Stop
stop_at stops at = get_or stops at no_stop

abbrev pub is_it : Option ℕ → ℕ → Bool
is_it None x = false
is_it (Some y) x = nat_eq x y

-- where it leads
abbrev pub Leads : Stop → (at to : ℕ) → Type 0
Leads stop at to = (IsTrue stop.falls × (to ≡ suc at)) ⊎ (stop.leads ≡ Some to)

-- from a stop on a thing is used where a path leads to a stop that gets it, and none before that sets it
pub data UsedOn (stops : List Stop) (x : ℕ) : ℕ → Type 0 where
  got : {at : ℕ} → at < length stops → is_it (stop_at stops at).gets x ≡ true → UsedOn stops x at
  on : {at to : ℕ} → at < length stops → is_it (stop_at stops at).sets x ≡ false → Leads (stop_at stops at) at to → UsedOn stops x to → UsedOn stops x at
