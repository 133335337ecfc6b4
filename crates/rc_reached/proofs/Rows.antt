-- Rows of bits, word by word.
use Rattle.std.proofs.Common.{◌≡◌, ℕ, zero, suc, ◌+◌, ◌-◌, ◌*◌, ◌/◌, ◌%◌, ◌^◌, ◌≤◌, ◌<◌, ◌≢◌, ◌⊎◌, inl, inr, min, max, Bool, true, false, ◌&&◌, ◌==◌, List, [], ◌∷◌, ◌++◌, length, get_or, set, refl, sym, ap, ◌∙◌, arith}
use Rattle.std.specs.Int.{bit_at}
use Rattle.std.specs.Int.Bits.{bit_and, bit_or}
use Rattle.std.proofs.lemmas.Bool.{cases_lt}
use Rattle.std.proofs.lemmas.List.{length-append, get_or_past, get_or-set_same, get_or-set_other}
use Rattle.std.proofs.Math.ListN.{get_or-append}
use Rattle.std.proofs.Math.Seq.{get_or-append_seam}
use Rattle.std.proofs.Math.Nat.{div-div-eq-div-mul}
use Rattle.std.proofs.lemmas.Nat.{div-add-mod', one_shl, pow-add}
use Rattle.std.proofs.lemmas.Nat.Bits.{shr_and_one, bit_at-lt, bit_at-zero, bit_at_and, bit_at_or, bit_at-pow_same, bit_at-pow_other, bit_at_above, bit_at_cat_low, bit_at_cat_high}
use Rattle.rc_reached.specs.Masks.{is_set, marks}

-- ---- bits of a word

is_bit : (a : ℕ) → a < 2 → (a ≡ 0) ⊎ (a ≡ 1)
is_bit zero lt = inl refl
is_bit (suc zero) lt = inr refl
is_bit (suc (suc a)) lt = absurd (omega (arith, lt))

and_test : (a b : ℕ) → (a ≡ 0) ⊎ (a ≡ 1) → (b ≡ 0) ⊎ (b ≡ 1) → (min a b == 1) ≡ ((a == 1) && (b == 1))
and_test a b (inl p) (inl q) = rw (p, q) refl
and_test a b (inl p) (inr q) = rw (p, q) refl
and_test a b (inr p) (inl q) = rw (p, q) refl
and_test a b (inr p) (inr q) = rw (p, q) refl

pub and_set : (a b k : ℕ) → is_set (bit_and a b) k ≡ (is_set a k && is_set b k)
and_set a b k = ap (λ n. n == 1) (bit_at_and a b k) ∙ and_test (bit_at a k) (bit_at b k) (is_bit (bit_at a k) (bit_at-lt a k)) (is_bit (bit_at b k) (bit_at-lt b k))

shifted_down : (n by k : ℕ) → bit_at (n / 2 ^ by) k ≡ bit_at n (by + k)
shifted_down n by k = ap (λ q. q % 2) (div-div-eq-div-mul n (2 ^ by) (2 ^ k) ∙ ap (λ d. n / d) (sym (pow-add 2 by k)))

kept_low : (n k : ℕ) → k < 64 → bit_at (n % 2 ^ 64) k ≡ bit_at n k
kept_low n k lt = sym (bit_at_cat_low (n / 2 ^ 64) 64 (n % 2 ^ 64) k lt) ∙ ap (λ m. bit_at m k) (div-add-mod' n (2 ^ 64))

none_more : (n : ℕ) → n ≡ n + 0
none_more n = omega arith

shifted_up_low : (n by k : ℕ) → k < 64 → k < by → bit_at (n * 2 ^ by % 2 ^ 64) k ≡ 0
shifted_up_low n by k lt low = kept_low (n * 2 ^ by) k lt ∙ ap (λ m. bit_at m k) (none_more (n * 2 ^ by)) ∙ bit_at_cat_low n by 0 k low ∙ bit_at-zero k

shifted_up_high : (n by k : ℕ) → k < 64 → by ≤ k → 0 < 2 ^ by → bit_at (n * 2 ^ by % 2 ^ 64) k ≡ bit_at n (k - by)
shifted_up_high n by k lt high some = kept_low (n * 2 ^ by) k lt ∙ ap (λ m. bit_at m k) (none_more (n * 2 ^ by)) ∙ bit_at_cat_high n by 0 k some high

max_left : (a b : ℕ) → b ≡ 0 → max a b ≡ a
max_left a b e = omega (arith, e)

max_right : (a b : ℕ) → a ≡ 0 → max a b ≡ b
max_right a b e = omega (arith, e)

-- 64 bits from one on, of a word and the next
joined_low : (low high by k : ℕ) → by + k < 64 → bit_at (bit_or (low / 2 ^ by) (high * 2 ^ (64 - by) % 2 ^ 64)) k ≡ bit_at low (by + k)
joined_low low high by k lt =
    bit_at_or (low / 2 ^ by) (high * 2 ^ (64 - by) % 2 ^ 64) k
    ∙ max_left (bit_at (low / 2 ^ by) k) (bit_at (high * 2 ^ (64 - by) % 2 ^ 64) k) (shifted_up_low high (64 - by) k (omega (arith, lt)) (omega (arith, lt)))
    ∙ shifted_down low by k

joined_high : (low high by k : ℕ) → low < 2 ^ 64 → by < 64 → k < 64 → 64 ≤ by + k → 0 < 2 ^ (64 - by) → bit_at (bit_or (low / 2 ^ by) (high * 2 ^ (64 - by) % 2 ^ 64)) k ≡ bit_at high (by + k - 64)
joined_high low high by k word lt few ge some =
    let there : k - (64 - by) ≡ by + k - 64 = omega (arith, ge, lt) in
    bit_at_or (low / 2 ^ by) (high * 2 ^ (64 - by) % 2 ^ 64) k
    ∙ max_right (bit_at (low / 2 ^ by) k) (bit_at (high * 2 ^ (64 - by) % 2 ^ 64) k) (shifted_down low by k ∙ bit_at_above low 64 (by + k) word ge)
    ∙ shifted_up_high high (64 - by) k few (omega (arith, ge)) some
    ∙ ap (bit_at high) there

-- ---- the words from a place on

marks_in : (words : List ℕ) (place at k : ℕ) → place / 64 ≡ at → place % 64 ≡ k → marks words place ≡ is_set (get_or words at 0) k
unfolding marks
marks_in words place at k a b = rw (a, b) refl

pub whole_word : (words : List ℕ) (place k : ℕ) → place % 64 ≡ 0 → k < 64 → is_set (get_or words (place / 64) 0) k ≡ marks words (place + k)
whole_word words place k whole lt = sym (marks_in words (place + k) (place / 64) k (omega (arith, whole, lt)) (omega (arith, whole, lt)))

pub two_words : (words : List ℕ) (place k : ℕ) → k < 64 → get_or words (place / 64) 0 < 2 ^ 64 → 0 < 2 ^ (64 - place % 64)
    → is_set (bit_or (get_or words (place / 64) 0 / 2 ^ (place % 64)) (get_or words (place / 64 + 1) 0 * 2 ^ (64 - place % 64) % 2 ^ 64)) k ≡ marks words (place + k)
two_words words place k lt word some = by (cases_lt (place % 64 + k) 64)
  where
    by : (place % 64 + k < 64) ⊎ (64 ≤ place % 64 + k) → is_set (bit_or (get_or words (place / 64) 0 / 2 ^ (place % 64)) (get_or words (place / 64 + 1) 0 * 2 ^ (64 - place % 64) % 2 ^ 64)) k ≡ marks words (place + k)
    by (inl low) =
        ap (λ n. n == 1) (joined_low (get_or words (place / 64) 0) (get_or words (place / 64 + 1) 0) (place % 64) k low)
        ∙ sym (marks_in words (place + k) (place / 64) (place % 64 + k) (omega (arith, low)) (omega (arith, low)))
    by (inr high) =
        ap (λ n. n == 1) (joined_high (get_or words (place / 64) 0) (get_or words (place / 64 + 1) 0) (place % 64) k word (omega arith) lt high some)
        ∙ sym (marks_in words (place + k) (place / 64 + 1) (place % 64 + k - 64) (omega (arith, high, lt)) (omega (arith, high, lt)))

pub marked : (words : List ℕ) (place : ℕ) → (bit_and (get_or words (place / 64) 0 / 2 ^ (place % 64)) 1 == 1) ≡ marks words place
unfolding marks
marked words place = ap (λ n. n == 1) (shr_and_one (get_or words (place / 64) 0) (place % 64))

pub marks_past : (words : List ℕ) (place : ℕ) → length words ≤ place / 64 → marks words place ≡ false
unfolding marks
marks_past words place le = ap (λ w. is_set w (place % 64)) (get_or_past words (place / 64) 0 le) ∙ ap (λ n. n == 1) (bit_at-zero (place % 64))

-- ---- a row that grows

-- so many words, whose bits are these
pub record Row (bits : ℕ → Bool) (count : ℕ) (words : List ℕ) : Type 0 where
  pub long : length words ≡ count
  pub each : (k : ℕ) → k < 64 * count → marks words k ≡ bits k

module _ (bits : ℕ → Bool) (count : ℕ) (words : List ℕ) (word : ℕ) (row : Row bits count words) (next : (k : ℕ) → k < 64 → is_set word k ≡ bits (64 * count + k)) where
  more : (k : ℕ) → k < 64 * (count + 1) → (k / 64 < count) ⊎ (count ≤ k / 64) → marks (words ++ word ∷ []) k ≡ bits k
  unfolding marks
  more k lt (inl low) =
      let long = row.long in
      ap (λ w. is_set w (k % 64)) (get_or-append words (word ∷ []) 0 (k / 64) (omega (arith, low, long))) ∙ row.each k (omega (arith, low))
  more k lt (inr high) =
      let long = row.long in
      let at : k / 64 ≡ length words = omega (arith, lt, high, long) in
      let there : 64 * count + k % 64 ≡ k = omega (arith, lt, high) in
      ap (λ w. is_set w (k % 64)) (ap (λ j. get_or (words ++ word ∷ []) j 0) at ∙ get_or-append_seam words word [] 0) ∙ next (k % 64) (omega arith) ∙ ap bits there

  pub row_more : Row bits (count + 1) (words ++ word ∷ [])
  row_more = record {
    long = (let long = row.long in let l = length-append words (word ∷ []) in omega (arith, l, long));
    each = λ k lt. more k lt (cases_lt (k / 64) count);
  }

-- ---- one more bit of a word

with_other : (word k j : ℕ) → k < 64 → j ≢ k → bit_at (bit_or word ((1 * 2 ^ k) % 2 ^ 64)) j ≡ bit_at word j
with_other word k j lt apart =
    ap (λ q. bit_at (bit_or word q) j) (one_shl k 64 lt) ∙ bit_at_or word (2 ^ k) j ∙ max_left (bit_at word j) (bit_at (2 ^ k) j) (bit_at-pow_other k j apart)

with_same : (word k : ℕ) → k < 64 → bit_at (bit_or word ((1 * 2 ^ k) % 2 ^ 64)) k ≡ 1
with_same word k lt =
    let most : max (bit_at word k) 1 ≡ 1 = omega (arith, bit_at-lt word k) in
    ap (λ q. bit_at (bit_or word q) k) (one_shl k 64 lt) ∙ bit_at_or word (2 ^ k) k ∙ ap (max (bit_at word k)) (bit_at-pow_same k) ∙ most

-- ---- marks

pub none_set : (k : ℕ) → is_set 0 k ≡ false
none_set k = ap (λ n. n == 1) (bit_at-zero k)

pub same_or_not : (k place : ℕ) → (k ≡ place) ⊎ (k ≢ place)
same_or_not k place = by (cases_lt k place) (cases_lt place k)
  where
    by : (k < place) ⊎ (place ≤ k) → (place < k) ⊎ (k ≤ place) → (k ≡ place) ⊎ (k ≢ place)
    by (inl lt) le = inr (λ e. omega (arith, e, lt))
    by (inr ge) (inl gt) = inr (λ e. omega (arith, e, gt))
    by (inr ge) (inr le) = inl (omega (arith, ge, le))

pub row_blank : (count : ℕ) (words : List ℕ) → Row (λ k. false) count words → (place : ℕ) → marks words place ≡ false
row_blank count words row place = by (cases_lt place (64 * count))
  where
    by : (place < 64 * count) ⊎ (64 * count ≤ place) → marks words place ≡ false
    by (inl lt) = row.each place lt
    by (inr ge) = let long = row.long in marks_past words place (omega (arith, ge, long))

-- a place is marked
module _ (words : List ℕ) (place : ℕ) (room : place / 64 < length words) where
  abbrev with_mark : List ℕ
  with_mark = set words (place / 64) (bit_or (get_or words (place / 64) 0) ((1 * 2 ^ (place % 64)) % 2 ^ 64))

  pub mark_here : marks with_mark place ≡ true
  unfolding marks
  mark_here =
      ap (λ w. is_set w (place % 64)) (get_or-set_same words (place / 64) (bit_or (get_or words (place / 64) 0) ((1 * 2 ^ (place % 64)) % 2 ^ 64)) 0 room)
      ∙ ap (λ b. b == 1) (with_same (get_or words (place / 64) 0) (place % 64) (omega arith))

  in_word : (k : ℕ) → k ≢ place → k / 64 ≡ place / 64 → marks with_mark k ≡ marks words k
  unfolding marks
  in_word k apart same =
      ap (λ w. is_set w (k % 64)) (ap (λ j. get_or with_mark j 0) same ∙ get_or-set_same words (place / 64) (bit_or (get_or words (place / 64) 0) ((1 * 2 ^ (place % 64)) % 2 ^ 64)) 0 room)
      ∙ ap (λ b. b == 1) (with_other (get_or words (place / 64) 0) (place % 64) (k % 64) (omega arith) (λ e. apart (omega (arith, e, same))))
      ∙ ap (λ j. is_set (get_or words j 0) (k % 64)) (sym same)

  in_other : (k : ℕ) → k / 64 ≢ place / 64 → marks with_mark k ≡ marks words k
  unfolding marks
  in_other k apart = ap (λ w. is_set w (k % 64)) (get_or-set_other words (place / 64) (k / 64) (bit_or (get_or words (place / 64) 0) ((1 * 2 ^ (place % 64)) % 2 ^ 64)) 0 apart)

  pub mark_others : (k : ℕ) → k ≢ place → marks with_mark k ≡ marks words k
  mark_others k apart = by (same_or_not (k / 64) (place / 64))
    where
      by : (k / 64 ≡ place / 64) ⊎ (k / 64 ≢ place / 64) → marks with_mark k ≡ marks words k
      by (inl same) = in_word k apart same
      by (inr other) = in_other k other

-- ---- a row that is narrowed

-- the first words mark what was marked, and so much further on too; the others are as they were
pub record Narrowed (old now : List ℕ) (distance count : ℕ) : Type 0 where
  pub done : (k : ℕ) → k < 64 * count → marks now k ≡ (marks old k && marks old (distance + k))
  pub kept : (k : ℕ) → 64 * count ≤ k → marks now k ≡ marks old k

pub narrow_none : (old : List ℕ) (distance : ℕ) → Narrowed old old distance 0
narrow_none old distance = record { done = λ k lt. absurd (omega (arith, lt)); kept = λ k le. refl }

module _ (old now : List ℕ) (distance at : ℕ) (narrowed : Narrowed old now distance at) where
  module _ (word : ℕ) (within : at < length now) (next : (k : ℕ) → k < 64 → is_set word k ≡ marks now (distance + 64 * at + k)) where
    abbrev new : List ℕ
    new = set now at (bit_and (get_or now at 0) word)

    here : (k : ℕ) → k / 64 ≡ at → marks new k ≡ (marks now k && marks now (distance + k))
    unfolding marks
    here k is =
        let there : distance + 64 * at + k % 64 ≡ distance + k = omega (arith, is) in
        ap (λ w. is_set w (k % 64)) (ap (λ j. get_or new j 0) is ∙ get_or-set_same now at (bit_and (get_or now at 0) word) 0 within)
        ∙ and_set (get_or now at 0) word (k % 64)
        ∙ ap (λ j. is_set (get_or now j 0) (k % 64) && is_set word (k % 64)) (sym is)
        ∙ ap (λ b. is_set (get_or now (k / 64) 0) (k % 64) && b) (next (k % 64) (omega arith) ∙ ap (marks now) there)

    other : (k : ℕ) → k / 64 ≢ at → marks new k ≡ marks now k
    unfolding marks
    other k apart = ap (λ w. is_set w (k % 64)) (get_or-set_other now at (k / 64) (bit_and (get_or now at 0) word) 0 apart)

    pub narrow_more : Narrowed old new distance (at + 1)
    narrow_more = record {
      done = λ k lt. by k lt (cases_lt k (64 * at));
      kept = λ k ge. other k (λ e. omega (arith, e, ge)) ∙ narrowed.kept k (omega (arith, ge));
    }
      where
        by : (k : ℕ) → k < 64 * (at + 1) → (k < 64 * at) ⊎ (64 * at ≤ k) → marks new k ≡ (marks old k && marks old (distance + k))
        by k lt (inl low) = other k (λ e. omega (arith, e, low)) ∙ narrowed.done k low
        by k lt (inr high) =
            here k (omega (arith, lt, high))
            ∙ ap (λ b. b && marks now (distance + k)) (narrowed.kept k high)
            ∙ ap (λ b. marks old k && b) (narrowed.kept (distance + k) (omega (arith, high)))
