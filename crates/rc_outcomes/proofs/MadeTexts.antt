-- The texts of made programs are of bytes.
use Rattle.std.proofs.Common.{◌≡◌, ◌<◌, ◌≤◌, ◌+◌, ◌%◌, ℕ, zero, suc, Bool, true, false, List, [], ◌∷◌, ◌++◌, cond, map, refl, arith}
use Rattle.std.specs.Prelude.{◌==◌, ◌&&◌, ◌^◌, decimal, nat_le, slice_index_or}
use Rattle.std.specs.List.{AllByRecursion as Every, list_all, range_with_len}
use Rattle.std.specs.Str.{byte}
use Rattle.std.proofs.lemmas.Bool.Decides.{nat_tests}
use Rattle.std.proofs.lemmas.Fmt.{decimal_by_steps}
use Rattle.rc_core.specs.Numbers.{IsByte}
use Rattle.rc_gen.specs.Program.{call, calls, form, forms, functions, generated, main, main_begins, main_ends, numbers_of, prelude, program}
use Rattle.rc_gen.specs.Template.{filled, filled_from_letter, line_of, number_at, text_of}

both : (a b : Bool) → (a && b) ≡ true → (a ≡ true) × (b ≡ true)
both true true e = (refl, refl)
both true false e = absurd cc
both false b e = absurd cc

-- a list that is written down is of bytes where a look at each says so
by_looking : (xs : List ℕ) → list_all (λ b. nat_le b 255) xs ≡ true → Every IsByte xs
by_looking [] e = tt
by_looking (x ∷ xs) e = let h = both (nat_le x 255) (list_all (λ b. nat_le b 255) xs) e in let small = h.0 in (grind (arith, nat_tests, small), by_looking xs h.1)

all_by_looking : (lines : List (List ℕ)) → list_all (λ line. list_all (λ b. nat_le b 255) line) lines ≡ true → Every (Every IsByte) lines
all_by_looking [] e = tt
all_by_looking (line ∷ lines) e =
    let h = both (list_all (λ b. nat_le b 255) line) (list_all (λ line. list_all (λ b. nat_le b 255) line) lines) e in
    (by_looking line h.0, all_by_looking lines h.1)

joined : (xs ys : List ℕ) → Every IsByte xs → Every IsByte ys → Every IsByte (xs ++ ys)
joined [] ys h k = k
joined (x ∷ xs) ys h k = (h.0, joined xs ys h.1 k)

decimal_bytes : (n : ℕ) → n < 2 ^ 64 → Every IsByte (decimal n)
decimal_bytes = decimal_by_steps (λ n ds. Every IsByte ds) (λ n small. (omega (arith, small), tt)) (λ n ds large more. joined ds ((48 + n % 10) ∷ []) more (omega arith, tt))

-- ---- templates

number_small : (n i : ℕ) → i < 640 → (letter : ℕ) → number_at (numbers_of n i) letter < 2 ^ 64
number_small n i low letter = by (letter == byte "I") (letter == byte "A") where
  by : (first second : Bool) → cond first i (cond second ((n + i) % 64) (1 + n % 7)) < 2 ^ 64
  by true second = omega (arith, low)
  by false true = omega arith
  by false false = omega arith

chosen : (test : Bool) (xs ys : List ℕ) → Every IsByte xs → Every IsByte ys → Every IsByte (cond test xs ys)
chosen true xs ys h k = h
chosen false xs ys h k = k

module _ (n i : ℕ) (low : i < 640) where
  mutual
    filled_bytes : (template : List ℕ) → Every IsByte template → Every IsByte (filled (numbers_of n i) template)
    filled_bytes [] h = tt
    filled_bytes (c ∷ rest) h = chosen (c == byte "@") (filled_from_letter (numbers_of n i) rest) (c ∷ filled (numbers_of n i) rest) (letter_bytes rest h.1) (h.0, filled_bytes rest h.1)

    letter_bytes : (template : List ℕ) → Every IsByte template → Every IsByte (filled_from_letter (numbers_of n i) template)
    letter_bytes [] h = tt
    letter_bytes (letter ∷ rest) h =
        joined (decimal (number_at (numbers_of n i) letter)) (filled (numbers_of n i) rest) (decimal_bytes (number_at (numbers_of n i) letter) (number_small n i low letter)) (filled_bytes rest h.1)

-- ---- lines

line_bytes : (line : List ℕ) → Every IsByte line → Every IsByte (line_of line)
line_bytes line h = joined line (10 ∷ []) h (omega arith, tt)

text_bytes : (lines : List (List ℕ)) → Every (Every IsByte) lines → Every IsByte (text_of lines)
text_bytes [] h = tt
text_bytes (line ∷ lines) h = joined (line_of line) (text_of lines) (line_bytes line h.0) (text_bytes lines h.1)

lines_joined : (xs ys : List (List ℕ)) → Every (Every IsByte) xs → Every (Every IsByte) ys → Every (Every IsByte) (xs ++ ys)
lines_joined [] ys h k = k
lines_joined (x ∷ xs) ys h k = (h.0, lines_joined xs ys h.1 k)

line_at : (lines : List (List ℕ)) (k : ℕ) → Every (Every IsByte) lines → Every IsByte (slice_index_or lines k [])
line_at [] k h = tt
line_at (line ∷ lines) zero h = h.0
line_at (line ∷ lines) (suc k) h = line_at lines k h.1

each_of : (line : ℕ → List ℕ) → ((i : ℕ) → i < 640 → Every IsByte (line i)) → (start count : ℕ) → start + count ≤ 640 → Every (Every IsByte) (map line (range_with_len start count))
each_of line h start zero few = tt
each_of line h start (suc count) few = (h start (omega (arith, few)), each_of line h (start + 1) count (omega (arith, few)))

-- ---- the program

forms_bytes : Every (Every IsByte) forms
unfolding forms
forms_bytes = all_by_looking forms refl

prelude_bytes : Every (Every IsByte) prelude
unfolding prelude
prelude_bytes = all_by_looking prelude refl

call_bytes : Every IsByte call
unfolding call
call_bytes = by_looking call refl

begins_bytes : Every IsByte main_begins
unfolding main_begins
begins_bytes = by_looking main_begins refl

ends_bytes : Every IsByte main_ends
unfolding main_ends
ends_bytes = by_looking main_ends refl

functions_bytes : (n count : ℕ) → count ≤ 640 → Every (Every IsByte) (functions n count)
functions_bytes n count few = each_of (λ i. filled (numbers_of n i) (form i)) (λ i low. filled_bytes n i low (form i) (line_at forms (i % 4) forms_bytes)) 0 count (omega (arith, few))

calls_bytes : (n count : ℕ) → count ≤ 640 → Every (Every IsByte) (calls n count)
calls_bytes n count few = each_of (λ i. filled (numbers_of n i) call) (λ i low. filled_bytes n i low call call_bytes) 0 count (omega (arith, few))

main_bytes : (n count : ℕ) → count ≤ 640 → Every (Every IsByte) (main n count)
main_bytes n count few = (begins_bytes, lines_joined (calls n count) (main_ends ∷ []) (calls_bytes n count few) (ends_bytes, tt))

program_bytes : (n count : ℕ) → count ≤ 640 → Every IsByte (program n count)
unfolding program
program_bytes n count few =
    text_bytes ((prelude ++ functions n count) ++ main n count) (lines_joined (prelude ++ functions n count) (main n count) (lines_joined prelude (functions n count) prelude_bytes (functions_bytes n count few)) (main_bytes n count few))

pub generated_bytes : (n : ℕ) → Every IsByte (generated n)
generated_bytes n = program_bytes n 640 (omega arith)
