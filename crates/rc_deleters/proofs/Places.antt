-- Where the stops of each function stand among those of all.
use Rattle.std.proofs.Common.{◌≡◌, ◌∙◌, ◌⊎◌, inl, inr, ℕ, zero, suc, ◌+◌, ◌-◌, ◌<◌, ◌≤◌, List, [], ◌∷◌, length, ap, arith}
use Rattle.std.proofs.lemmas.List.{length-append, get_or_append_left, get_or-append-add}
use Rattle.rc_code.specs.declared.image.Function.{Function}
use Rattle.rc_stops.specs.Paths.{stop_at, no_stop}
use Rattle.rc_deleters.specs.Calls.{code_stops, image_stops, code_at, first_of}
use Rattle.rc_deleters.proofs.Standing.{counted}

order : (a b : ℕ) → (a < b) ⊎ (b ≤ a)
order a b = grind arith

module _ (first : ℕ → ℕ) where
  pub in_block : (fs : List Function) (g k : ℕ) → g < length fs → k < length (code_stops first (code_at fs g)) → stop_at (image_stops first fs) (first_of fs g + k) ≡ stop_at (code_stops first (code_at fs g)) k
  in_block [] g k there lt = absurd (omega (arith, there))
  in_block (f ∷ fs) zero k there lt = let q : first_of (f ∷ fs) 0 + k ≡ k = omega arith in ap (stop_at (image_stops first (f ∷ fs))) q ∙ get_or_append_left (code_stops first f.code) (image_stops first fs) no_stop k lt
  in_block (f ∷ fs) (suc g) k there lt =
      let c = counted first f.code in
      let q : first_of (f ∷ fs) (suc g) + k ≡ length (code_stops first f.code) + (first_of fs g + k) = omega (arith, c) in
      ap (stop_at (image_stops first (f ∷ fs))) q
      ∙ get_or-append-add (code_stops first f.code) (image_stops first fs) (first_of fs g + k) no_stop
      ∙ in_block fs g k (omega (arith, there)) lt

  pub inside : (fs : List Function) (g k : ℕ) → g < length fs → k < length (code_stops first (code_at fs g)) → first_of fs g + k < length (image_stops first fs)
  inside [] g k there lt = absurd (omega (arith, there))
  inside (f ∷ fs) zero k there lt = let e = length-append (code_stops first f.code) (image_stops first fs) in omega (arith, e, lt)
  inside (f ∷ fs) (suc g) k there lt =
      let e = length-append (code_stops first f.code) (image_stops first fs) in
      let c = counted first f.code in
      let l = inside fs g k (omega (arith, there)) lt in
      omega (arith, e, c, l)

  -- each stop is one of a function
  pub record Place (fs : List Function) (p : ℕ) : Type 0 where
    pub g : ℕ
    pub k : ℕ
    pub there : g < length fs
    pub below : k < length (code_stops first (code_at fs g))
    pub is : p ≡ first_of fs g + k

  pub place_of : (fs : List Function) (p : ℕ) → p < length (image_stops first fs) → Place fs p
  place_of [] p lt = absurd (omega (arith, lt))
  place_of (f ∷ fs) p lt = by (order p (length (code_stops first f.code))) (λ q l. place_of fs q l)
    where
      by : (p < length (code_stops first f.code)) ⊎ (length (code_stops first f.code) ≤ p) → ((q : ℕ) → q < length (image_stops first fs) → Place fs q) → Place (f ∷ fs) p
      by (inl l) again = record { g = 0; k = p; there = omega arith; below = l; is = omega arith }
      by (inr le) again =
          let e = length-append (code_stops first f.code) (image_stops first fs) in
          let c = counted first f.code in
          let r = again (p - length (code_stops first f.code)) (omega (arith, le, lt, e)) in
          record { g = suc r.g; k = r.k; there = (let t = r.there in omega (arith, t)); below = r.below; is = (let q = r.is in omega (arith, q, le, c)) }
