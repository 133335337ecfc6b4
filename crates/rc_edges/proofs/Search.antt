-- Going down from all of finitely many keys, as long as one is dropped, ends where none is.
use Rattle.std.proofs.Common.{◌≡◌, ◌<◌, ◌≤◌, ◌+◌, ℕ, zero, suc, Bool, true, false, ◌&&◌, ◌||◌, not, List, [], ◌∷◌, refl, arith}
use Rattle.std.proofs.Math.Nat.{le_refl}
use Rattle.std.specs.List.{list_any}

abbrev one : Bool → ℕ
one true = 1
one false = 0

module _ {K : Type 0} where
  abbrev count : (K → Bool) → List K → ℕ
  count a [] = 0
  count a (k ∷ ks) = one (a k) + count a ks

  module _ (drops : (K → Bool) → K → Bool) where
    abbrev pub next : (K → Bool) → K → Bool
    next a k = a k && not (drops a k)

    abbrev pub drops_some : List K → (K → Bool) → Bool
    drops_some keys a = list_any (λ k. a k && drops a k) keys

    one_less : (x d : Bool) → one (x && not d) ≤ one x
    one_less true true = omega arith
    one_less true false = omega arith
    one_less false d = omega arith

    never_more : (a : K → Bool) (ks : List K) → count (next a) ks ≤ count a ks
    never_more a [] = le_refl 0
    never_more a (k ∷ ks) = omega (arith, one_less (a k) (drops a k), never_more a ks)

    fewer_here : (x d : Bool) (p q : ℕ) → (x && d) ≡ true → p ≤ q → one (x && not d) + p < one x + q
    fewer_here true true p q e le = omega (arith, le)
    fewer_here true false p q e le = absurd cc
    fewer_here false d p q e le = absurd cc

    fewer_by : (a : K → Bool) (k : K) (ks : List K) (b : Bool) → (a k && drops a k) ≡ b → (b || drops_some ks a) ≡ true → (drops_some ks a ≡ true → count (next a) ks < count a ks) → one (a k && not (drops a k)) + count (next a) ks < one (a k) + count a ks
    fewer_by a k ks true is e again = fewer_here (a k) (drops a k) (count (next a) ks) (count a ks) is (never_more a ks)
    fewer_by a k ks false is e again = let h = again e in omega (arith, one_less (a k) (drops a k), h)

    fewer : (a : K → Bool) (ks : List K) → drops_some ks a ≡ true → count (next a) ks < count a ks
    fewer a [] e = absurd cc
    fewer a (k ∷ ks) e = fewer_by a k ks (a k && drops a k) refl e (fewer a ks)

    pub record Settled (keys : List K) (P : (K → Bool) → Type 0) : Type 0 where
      pub state : K → Bool
      pub holds : P state
      pub stable : drops_some keys state ≡ false

    module _ (keys : List K) (P : (K → Bool) → Type 0) (keeps : (a : K → Bool) → P a → P (next a)) where
      search_by : (m : ℕ) (a : K → Bool) → count a keys < suc m → P a → (b : Bool) → drops_some keys a ≡ b → ((a : K → Bool) → count a keys < m → P a → Settled keys P) → Settled keys P
      search_by m a h p false e again = record { state = a; holds = p; stable = e }
      search_by m a h p true e again = again (next a) (let less = fewer a keys e in omega (arith, h, less)) (keeps a p)

      search : (m : ℕ) (a : K → Bool) → count a keys < m → P a → Settled keys P
      search zero a h p = absurd (omega (arith, h))
      search (suc m) a h p = search_by m a h p (drops_some keys a) refl (search m)

      pub settle : (a : K → Bool) → P a → Settled keys P
      settle a p = search (suc (count a keys)) a (omega arith) p
