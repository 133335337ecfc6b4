-- Marks of exactly the stores whose checks may go are the same marks.
use Rattle.std.proofs.Common.{◌≡◌, ℕ, Bool, true, false, refl, sym}
use Rattle.rc_rlang.specs.RegionCode.{Rlang}
use Rattle.rc_elim.specs.Masks.{MarksRemovable}

same_bit : (a b : Bool) → (a ≡ true → b ≡ true) → (b ≡ true → a ≡ true) → a ≡ b
same_bit true b f g = sym (f refl)
same_bit false true f g = g refl
same_bit false false f g = refl

pub one_mask : (r : Rlang) (m n : (function point : ℕ) → Bool) → MarksRemovable r m → MarksRemovable r n → (g p : ℕ) → m g p ≡ n g p
one_mask r m n a b g p = same_bit (m g p) (n g p) (λ e. (b g p).1 ((a g p).0 e)) (λ e. (a g p).1 ((b g p).0 e))
