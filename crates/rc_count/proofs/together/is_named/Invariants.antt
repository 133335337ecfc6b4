use Rattle.std.proofs.Common.{◌≡◌, ◌<◌, ℕ, get_or}
use Rattle.rc_space.specs.Spaces.{count_of}
use Rattle.rc_count.proofs.together.is_named.Given as goal

abbrev pub invariant-loop-region : goal.invariant-loop-region
invariant-loop-region g l = (k : ℕ) → k < l.region-index → count_of l.space (get_or l.set k 0) ≡ 0
