-- Words that are joined from two lists of halves: how many there are, and what a read, a write and more halves do.
use Rattle.std.proofs.Common.{◌≡◌, ◌+◌, ◌-◌, ◌++◌, ◌∷◌, ◌∙◌, take, ℕ, List, [], length, slice_index, slice_index_or, slice_set, replicate, zero, suc, ap, refl, arith}
use Rattle.std.proofs.lemmas.List.{take_all}
use Rattle.rc_pile.specs.Words.{joined, zero_word}

pub joined_length : (lows highs : List ℕ) → length lows ≡ length highs → length (joined lows highs) ≡ length lows
joined_length [] highs e = refl
joined_length (low ∷ lows) [] e = cc
joined_length (low ∷ lows) (high ∷ highs) e = ap suc (joined_length lows highs (omega (arith, e)))

pub joined_at : (lows highs : List ℕ) (place : ℕ) → length lows ≡ length highs → (record { low = slice_index lows place; high = slice_index highs place }) ≡ slice_index_or (joined lows highs) place zero_word
joined_at [] [] place e = refl
joined_at [] (high ∷ highs) place e = cc
joined_at (low ∷ lows) [] place e = cc
joined_at (low ∷ lows) (high ∷ highs) zero e = refl
joined_at (low ∷ lows) (high ∷ highs) (suc place) e = joined_at lows highs place (omega (arith, e))

pub joined_set : (lows highs : List ℕ) (place low high : ℕ) → joined (slice_set lows place low) (slice_set highs place high) ≡ slice_set (joined lows highs) place (record { low = low; high = high })
joined_set [] highs place low high = refl
joined_set (l ∷ lows) [] zero low high = refl
joined_set (l ∷ lows) [] (suc place) low high = refl
joined_set (l ∷ lows) (h ∷ highs) zero low high = refl
joined_set (l ∷ lows) (h ∷ highs) (suc place) low high = ap (λ ws. record { low = l; high = h } ∷ ws) (joined_set lows highs place low high)

pub joined_zeros : (n : ℕ) → joined (replicate n 0) (replicate n 0) ≡ replicate n zero_word
joined_zeros zero = refl
joined_zeros (suc n) = ap (λ ws. zero_word ∷ ws) (joined_zeros n)

pub joined_more : (lows highs more_lows more_highs : List ℕ) → length lows ≡ length highs → joined (lows ++ more_lows) (highs ++ more_highs) ≡ joined lows highs ++ joined more_lows more_highs
joined_more [] [] more_lows more_highs e = refl
joined_more [] (high ∷ highs) more_lows more_highs e = cc
joined_more (low ∷ lows) [] more_lows more_highs e = cc
joined_more (low ∷ lows) (high ∷ highs) more_lows more_highs e = ap (λ ws. record { low = low; high = high } ∷ ws) (joined_more lows highs more_lows more_highs (omega (arith, e)))

-- both lists made longer to one length, where each of them was so long before
pub joined_grown : (lows highs : List ℕ) (before after count k : ℕ) → length lows ≡ length highs → before ≡ length lows → k ≡ length highs → after ≡ before + count → joined (take after lows ++ replicate (after - before) 0) (take after highs ++ replicate (after - k) 0) ≡ joined lows highs ++ replicate count zero_word
joined_grown lows highs before after count k e b h a =
    let n : after - before ≡ count = omega (arith, a) in
    let m : after - k ≡ count = omega (arith, e, b, h, a) in
    let l : take after lows ≡ lows = take_all after lows (omega (arith, a, b)) in
    let u : take after highs ≡ highs = take_all after highs (omega (arith, e, a, b)) in
    ap (λ xs. joined (xs ++ replicate (after - before) 0) (take after highs ++ replicate (after - k) 0)) l
    ∙ ap (λ xs. joined (lows ++ replicate (after - before) 0) (xs ++ replicate (after - k) 0)) u
    ∙ ap (λ n. joined (lows ++ replicate n 0) (highs ++ replicate (after - k) 0)) n
    ∙ ap (λ n. joined (lows ++ replicate count 0) (highs ++ replicate n 0)) m
    ∙ joined_more lows highs (replicate count 0) (replicate count 0) e
    ∙ ap (λ ws. joined lows highs ++ ws) (joined_zeros count)
