-- How large the digits after the first can be.
use Rattle.std.proofs.Common.{◌≡◌, ℕ, zero, suc, ◌-◌, ◌*◌, ◌≤◌, refl, arith}
use Rattle.rc_fields.specs.Bounds.{tail_bound}

pub bound_least : (m : ℕ) → 16 ≤ tail_bound m
bound_least zero = omega arith
bound_least (suc m) = let h : 16 ≤ tail_bound m = bound_least m in omega arith

pub bound_step : (m : ℕ) → 1 ≤ m → tail_bound m ≡ 128 * tail_bound (m - 1)
bound_step zero le = absurd (omega arith)
bound_step (suc m) le = let e : suc m - 1 ≡ m = omega arith in rw e refl

pub bound_most : (m : ℕ) → m ≤ 3 → tail_bound m ≤ 33554432
bound_most zero le = omega arith
bound_most (suc zero) le = omega arith
bound_most (suc (suc zero)) le = omega arith
bound_most (suc (suc (suc zero))) le = omega arith
bound_most (suc (suc (suc (suc m)))) le = absurd (omega arith)
