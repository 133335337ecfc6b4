-- The way up, one step at a time.
use Rattle.std.proofs.Common.{◌≡◌, ◌≢◌, ℕ, suc, ap, ◌∙◌, arith}
use Rattle.rc_core.specs.Heap.{is_above_within}

pub above_on : (parent : ℕ → ℕ) (n m a at : ℕ) → n ≡ suc m → at ≢ a → at ≢ 0 → is_above_within parent n a at ≡ is_above_within parent m a (parent at)
above_on parent n m a at e other below = ap (λ k. is_above_within parent k a at) e ∙ grind (arith, other, below)
