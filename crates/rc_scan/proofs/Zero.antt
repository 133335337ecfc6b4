-- A number that isn't above zero.
use Rattle.std.proofs.Common.{◌≡◌, ◌<◌, ℕ, zero, suc, refl, arith}

pub none_is_zero : (n : ℕ) → ¬ (0 < n) → n ≡ 0
none_is_zero zero none = refl
none_is_zero (suc n) none = absurd (none (omega arith))
