-- Facts by where their bits stand.
use Rattle.std.proofs.Common.{◌≡◌, ◌∙◌, ℕ, ◌+◌, ◌-◌, ◌*◌, ◌<◌, ◌≤◌, Bool, false, refl, ap, arith}
use Rattle.std.proofs.Math.Nat.{add-mul}
use Rattle.std.proofs.lemmas.Bool.{lt-ltb}
use Rattle.rc_facts.specs.declared.fact.Fact.{Fact}
use Rattle.rc_facts.specs.declared.fact.Fact.TheVariants.{Up, Trad, NonNull}
use Rattle.rc_claims.specs.Bits.{bit_count}
use Rattle.rc_fact_bits.specs.Standing.{HasNumber, Stands}
use Rattle.rc_fact_bits.proofs.Order.{number_below, pair_over}

pub none_stands : (n number : ℕ) (facts : Fact → Bool) → bit_count n ≤ number → Stands n facts number false
none_stands n number facts le = record {
  told = λ q over is. absurd (let below = number_below n q over in omega (arith, below, is, le));
  unused = λ l. refl;
}

module _ (n row column : ℕ) (lt : column < n) where
  pub up_at : n ≤ row → row < n + n → HasNumber n (row * n + column) (Up (row - n) column)
  up_at le less = record {
    over = pair_over n (row - n) column (omega (arith, le, less)) lt;
    numbered = (let parts : row * n ≡ n * n + (row - n) * n = ap (λ k. k * n) whole ∙ add-mul n (row - n) n in omega (arith, parts));
  }
    where
      whole : row ≡ n + (row - n)
      whole = omega (arith, le)

  pub traditional_at : row ≡ n + n → HasNumber n (row * n + column) (Trad column)
  traditional_at e = record {
    over = lt-ltb column n lt;
    numbered = (let parts : row * n ≡ n * n + n * n = ap (λ k. k * n) e ∙ add-mul n n n in omega (arith, parts));
  }

  pub present_at : row ≡ (n + n) + 1 → HasNumber n (row * n + column) (NonNull column)
  present_at e = record {
    over = lt-ltb column n lt;
    numbered = (let parts : row * n ≡ (n + n) * n + 1 * n = ap (λ k. k * n) e ∙ add-mul (n + n) 1 n in let both = add-mul n n n in omega (arith, parts, both));
  }

  pub none_at : (n + n) + 1 < row → bit_count n ≤ row * n + column
  none_at less = (let parts : row * n ≡ ((n + n) + 2) * n + (row - ((n + n) + 2)) * n = ap (λ k. k * n) whole ∙ add-mul ((n + n) + 2) (row - ((n + n) + 2)) n in let more = add-mul (n + n) 2 n in let both = add-mul n n n in omega (arith, parts, more, both))
    where
      whole : row ≡ ((n + n) + 2) + (row - ((n + n) + 2))
      whole = omega (arith, less)
