-- A list whose first four cells stand inside it.
use Rattle.std.proofs.Common.{◌≡◌, ◌+◌, ◌-◌, ◌<◌, ◌≤◌, ℕ, List, [], ◌∷◌, ◌++◌, inl, inr, length, take, replicate, get_or, set, min, refl, sym, ap, ◌∙◌, arith, append_assoc, append-nil, length-append, length-set, length-take}
use Rattle.std.proofs.Math.Seq.{take-append-add, take-set-lt}
use Rattle.std.proofs.lemmas.Bool.{cases_lt}
use Rattle.std.proofs.lemmas.List.{get_or-take, get_or_append_left, get_or-append_right, length-replicate, replicate-append-replicate, set-append_left, set-append_right, take-replicate, take_all}
use Rattle.rc_pages.specs.Cells.{Begins, few_zeros}

pub none-begun : Begins few_zeros [] 0
none-begun = record { four = refl; zeros = refl; behind = refl }

short : (xs : List ℕ) → length xs ≡ 0 → xs ≡ []
short [] is = refl
short (x ∷ xs) is = absurd (omega (arith, is))

zeros-taken : (n k : ℕ) → take {A = ℕ} n (replicate k 0) ≡ replicate (min n k) 0
zeros-taken n k = elim (cases_lt n k) [
  | inl less ↦ take-replicate {X = ℕ} n k 0 (omega (arith, less)) ∙ ap (λ m. replicate {A = ℕ} m 0) (omega (arith, less))
  | inr more ↦ take_all {A = ℕ} n (replicate k 0) (omega (arith, more, length-replicate {A = ℕ} k 0)) ∙ ap (λ m. replicate {A = ℕ} m 0) (omega (arith, more))
]

module _ (few rest : List ℕ) (len : ℕ) (begins : Begins few rest len) where
  abbrev own : List ℕ
  own = take len few

  abbrev shown : List ℕ
  shown = own ++ rest

  own-length : length own ≡ min len 4
  own-length = length-take len few ∙ ap (min len) begins.four

  pub begun-length : length shown ≡ len
  begun-length = omega (arith, length-append own rest, own-length, begins.behind)

  module _ (at : ℕ) (inside : at < len) where
    pub begun-read : at < 4 → get_or few at 0 ≡ get_or shown at 0
    begun-read low = sym (get_or_append_left own rest 0 at (omega (arith, own-length, inside, low)) ∙ get_or-take len few at 0 inside)

    pub begun-read_behind : 4 ≤ at → get_or rest (at - 4) 0 ≡ get_or shown at 0
    begun-read_behind high = sym (get_or-append_right own rest 4 at 0 (omega (arith, own-length, inside, high)) high)

    module _ (x : ℕ) where
      pub begun-write : at < 4 → take len (set few at x) ++ rest ≡ set shown at x
      begun-write low = ap (λ cells. cells ++ rest) (take-set-lt len few at x inside) ∙ sym (set-append_left own rest at x (omega (arith, own-length, inside, low)))

      pub begun-written : at < 4 → Begins (set few at x) rest len
      begun-written low = record {
        four = length-set few at x ∙ begins.four;
        zeros = ap (λ cells. set cells at x) begins.zeros ∙ set-append_left own (replicate (4 - len) 0) at x (omega (arith, own-length, inside, low)) ∙ ap (λ cells. cells ++ replicate (4 - len) 0) (sym (take-set-lt len few at x inside));
        behind = begins.behind;
      }

      pub begun-write_behind : 4 ≤ at → own ++ set rest (at - 4) x ≡ set shown at x
      begun-write_behind high = sym (set-append_right own rest 4 at x (omega (arith, own-length, inside, high)) high)

      pub begun-written_behind : Begins few (set rest (at - 4) x) len
      begun-written_behind = record { four = begins.four; zeros = begins.zeros; behind = length-set rest (at - 4) x ∙ begins.behind }

  -- so many more of the first four become the list's own
  module _ (n total : ℕ) (sum : total ≡ len + n) where
    own-grown : take total few ≡ own ++ replicate (min n (4 - len)) 0
    own-grown = elim (cases_lt len 4) [
      | inl low ↦
          let all : take total few ≡ take (length own + n) (own ++ replicate (4 - len) 0) = ap (λ k. take k few) (omega (arith, sum, own-length, low)) ∙ ap (λ cells. take (length own + n) cells) begins.zeros in
          all ∙ take-append-add own (replicate (4 - len) 0) n ∙ ap (λ cells. own ++ cells) (zeros-taken n (4 - len))
      | inr full ↦
          let none : 0 ≡ min n (4 - len) = omega (arith, full) in
          take_all total few (omega (arith, sum, full, begins.four))
          ∙ sym (take_all len few (omega (arith, full, begins.four)))
          ∙ sym (append-nil own)
          ∙ ap (λ k. own ++ replicate {A = ℕ} k 0) none
    ]

    module _ (longer : List ℕ) (is : longer ≡ rest ++ replicate (total - 4 - (len - 4)) 0) where
      pub begun-grown : Begins few longer total
      begun-grown = record {
        four = begins.four;
        zeros = begins.zeros
            ∙ ap (λ cells. own ++ cells) (ap (λ k. replicate k 0) (omega (arith, sum)) ∙ sym (replicate-append-replicate (min n (4 - len)) (4 - total) 0))
            ∙ sym (append_assoc own (replicate (min n (4 - len)) 0) (replicate (4 - total) 0))
            ∙ ap (λ cells. cells ++ replicate (4 - total) 0) (sym own-grown);
        behind = omega (arith, ap length is, length-append rest (replicate (total - 4 - (len - 4)) 0), length-replicate {A = ℕ} (total - 4 - (len - 4)) 0, begins.behind, sum);
      }

      pub begun-pushed : take total few ++ longer ≡ shown ++ replicate n 0
      begun-pushed = elim (cases_lt len 4) [
        | inl low ↦
            let none : rest ≡ [] = short rest (omega (arith, begins.behind, low)) in
            let behind : longer ≡ replicate (total - 4 - (len - 4)) 0 = is ∙ ap (λ cells. cells ++ replicate (total - 4 - (len - 4)) 0) none in
            ap (λ cells. cells ++ longer) own-grown
            ∙ ap (λ cells. (own ++ replicate (min n (4 - len)) 0) ++ cells) behind
            ∙ append_assoc own (replicate (min n (4 - len)) 0) (replicate (total - 4 - (len - 4)) 0)
            ∙ ap (λ cells. own ++ cells) (replicate-append-replicate (min n (4 - len)) (total - 4 - (len - 4)) 0 ∙ ap (λ k. replicate k 0) (omega (arith, sum, low)))
            ∙ ap (λ cells. cells ++ replicate n 0) (sym (append-nil own) ∙ ap (λ cells. own ++ cells) (sym none))
        | inr full ↦
            let none : min n (4 - len) ≡ 0 = omega (arith, full) in
            let more : total - 4 - (len - 4) ≡ n = omega (arith, sum, full) in
            ap (λ cells. cells ++ longer) own-grown
            ∙ ap (λ k. (own ++ replicate {A = ℕ} k 0) ++ longer) none
            ∙ ap (λ cells. cells ++ longer) (append-nil own)
            ∙ ap (λ cells. own ++ cells) (is ∙ ap (λ k. rest ++ replicate {A = ℕ} k 0) more)
            ∙ sym (append_assoc own rest (replicate n 0))
      ]
