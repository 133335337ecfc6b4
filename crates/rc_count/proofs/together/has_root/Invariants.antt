use Rattle.std.proofs.Common.{◌≡◌, ◌<◌, ℕ, get_or}
use Rattle.rc_count.proofs.together.has_root.Given as goal

abbrev pub invariant-loop-region : goal.invariant-loop-region
invariant-loop-region l = (k : ℕ) → k < l.region-index → get_or l.set k 0 ≡ 0 → ⊥
