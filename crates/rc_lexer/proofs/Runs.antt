-- A loop that counts a run of bytes.
use Rattle.std.proofs.Common.{ℕ, zero, suc, ◌≡◌, ◌<◌, ◌≤◌, ◌+◌, List, [], ◌∷◌, length, drop, get_or, Bool, true, false, refl, arith}
use Rattle.std.specs.List.{prefix_len}

pub run_step : (p : ℕ → Bool) (xs : List ℕ) (i : ℕ) → i < length xs → p (get_or xs i 0) ≡ true → prefix_len p (drop i xs) ≡ 1 + prefix_len p (drop (i + 1) xs)
run_step p [] i h e = absurd (omega arith)
run_step p (x ∷ xs) zero h e = rw e refl
run_step p (x ∷ xs) (suc i) h e = rw (let k : suc i + 1 ≡ suc (i + 1) = omega arith in k) (run_step p xs i (omega arith) e)

pub run_stops : (p : ℕ → Bool) (xs : List ℕ) (i : ℕ) → i < length xs → p (get_or xs i 0) ≡ false → prefix_len p (drop i xs) ≡ 0
run_stops p [] i h e = absurd (omega arith)
run_stops p (x ∷ xs) zero h e = rw e refl
run_stops p (x ∷ xs) (suc i) h e = run_stops p xs i (omega arith) e

pub run_whole : (p : ℕ → Bool) (xs : List ℕ) (i : ℕ) → length xs ≤ i → prefix_len p (drop i xs) ≡ 0
run_whole p [] zero h = refl
run_whole p [] (suc i) h = refl
run_whole p (x ∷ xs) zero h = absurd (omega arith)
run_whole p (x ∷ xs) (suc i) h = run_whole p xs i (omega arith)
