-- The steps by which a fact is added to a closed set.
use Rattle.std.specs.Prelude.{◌≡◌, ◌↔◌, ◌⊎◌, ℕ, Bool, ◌||◌, ◌&&◌, nat_lt, IsTrue}

-- it is linked to one of the entry
abbrev pub Meets : (step : ℕ → ℕ → Bool) (entry : ℕ → Bool) → ℕ → Type 0
Meets step entry x = (k : ℕ) × IsTrue (step x k) × IsTrue (entry k)

-- what is linked to one of the entry is linked to more
abbrev pub IsWidened : (before after : ℕ → ℕ → Bool) (entry more : ℕ → Bool) → Type 0
IsWidened before after entry more = (x y : ℕ) → IsTrue (after x y) ↔ (IsTrue (before x y) ⊎ (Meets before entry x × IsTrue (more y)))

-- what is above a traditional one is traditional, and what is traditional is above all that aren't null,
-- and in one region with the traditional ones among them
pub record Settles (n : ℕ) (present : ℕ → Bool) (ins ups : ℕ → ℕ → Bool) (trad : ℕ → Bool) (ins_after ups_after : ℕ → ℕ → Bool) (trad_after : ℕ → Bool) : Type 0 where
  pub inherited : (x : ℕ) → IsTrue (trad_after x) ↔ (IsTrue (trad x) ⊎ Meets ups trad x)
  pub up_rooted : (x y : ℕ) → ups_after x y ≡ (ups x y || (nat_lt x n && (trad_after x && present y)))
  pub in_rooted : (x y : ℕ) → ins_after x y ≡ (ins x y || (nat_lt x n && (trad_after x && (trad_after y && present y))))
