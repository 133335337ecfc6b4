-- A text of tasks is of bytes where the text in front is.
use Rattle.rc_task_trees.proofs.Common.{◌≡◌, ◌<◌, ◌≤◌, ◌+◌, cond, refl, sym, subst, arith, nat_tests, codes, decimal, nat_lt, flat_map, list_all, IsByte, number, is_decimal, in_name, Each, and_true, number_shape, AreChoices, is_chosen, call_text, call_if_chosen, calls_text, counter_line, yield_line, main_line, task_text_of}
use Rattle.std.proofs.Common.{ℕ, List, [], ◌∷◌, ◌++◌, length, Bool, true, false}
use Rattle.std.specs.List.{AllByRecursion as Every}
use Rattle.rc_task_trees.proofs.Scanning.{decimal_number}

abbrev small : ℕ → Bool
small b = nat_lt b 256

small_is : (b : ℕ) → small b ≡ true → IsByte b
small_is b h = grind (arith, nat_tests)

known : (bytes : List ℕ) → list_all small bytes ≡ true → Every IsByte bytes
known [] h = tt
known (b ∷ bytes) h = let e = and_true (small b) (list_all small bytes) h in (small_is b e.0, known bytes e.1)

join : (xs ys : List ℕ) → Every IsByte xs → Every IsByte ys → Every IsByte (xs ++ ys)
join [] ys h k = k
join (x ∷ xs) ys h k = (h.0, join xs ys h.1 k)

name_byte : (b : ℕ) → in_name b ≡ true → IsByte b
name_byte b h = grind (arith, nat_tests)

decimal_byte : (b : ℕ) → is_decimal b ≡ true → IsByte b
decimal_byte b h = grind (arith, nat_tests)

names_bytes : (bytes : List ℕ) → Each in_name bytes → Every IsByte bytes
names_bytes [] h = tt
names_bytes (b ∷ bytes) h = (name_byte b h.0, names_bytes bytes h.1)

decimal_bytes : (n : ℕ) → n ≤ 2147483647 → Every IsByte (decimal n)
decimal_bytes n h =
    let x = number_shape (decimal n) (number n false) (decimal_number n h) in
    subst (Every IsByte) (sym x.is) (decimal_byte x.first x.digit, names_bytes x.others x.in_names)

digits_bytes : (digits : List ℕ) → Every (λ b. (48 ≤ b) × (b < 58)) digits → Every IsByte digits
digits_bytes [] h = tt
digits_bytes (b ∷ digits) h = (omega (arith, h.0.1), digits_bytes digits h.1)

call_bytes : (d : ℕ) → d ≤ 9 → Every IsByte (call_text d)
call_bytes d h =
    let n = decimal_bytes d (omega (arith, h)) in
    join (codes " if (c == '") (decimal d ++ (codes "') task_" ++ (decimal d ++ codes "();"))) (known (codes " if (c == '") refl)
    (join (decimal d) (codes "') task_" ++ (decimal d ++ codes "();")) n (join (codes "') task_") (decimal d ++ codes "();") (known (codes "') task_") refl) (join (decimal d) (codes "();") n (known (codes "();") refl))))

if_bytes : (digits : List ℕ) (d : ℕ) → d ≤ 9 → Every IsByte (call_if_chosen digits d)
if_bytes digits d h = go (is_chosen digits (48 + d))
  where
    go : (v : Bool) → Every IsByte (cond v (call_text d) [])
    go true = call_bytes d h
    go false = tt

calls_bytes : (digits ds : List ℕ) → Every (λ d. d ≤ 9) ds → Every IsByte (flat_map (call_if_chosen digits) ds)
calls_bytes digits [] h = tt
calls_bytes digits (d ∷ ds) h = join (call_if_chosen digits d) (flat_map (call_if_chosen digits) ds) (if_bytes digits d h.0) (calls_bytes digits ds h.1)

pub all_bytes : (text digits : List ℕ) → Every IsByte text → AreChoices digits → Every IsByte (task_text_of text digits)
all_bytes text digits bytes good =
    let n = decimal (length digits) in
    let count : Every IsByte n = decimal_bytes (length digits) (omega (arith, good.2)) in
    let m1 = codes "int main(void) deletes { start(); while (rc_at < " in
    let m2 = codes ") yield(); return 0; }\n" in
    let main : Every IsByte (main_line (length digits)) = join m1 (n ++ m2) (known m1 refl) (join n m2 count (known m2 refl)) in
    let y1 = codes "void yield(void) deletes { char *s = \"" in
    let y2 = codes "\"; char c; if (rc_at < " in
    let y3 = codes ") { c = s[rc_at]; rc_at++;" in
    let y4 = codes " } }\n" in
    let calls : Every IsByte (calls_text digits) = calls_bytes digits (0 ∷ 1 ∷ 2 ∷ 3 ∷ 4 ∷ 5 ∷ 6 ∷ 7 ∷ 8 ∷ 9 ∷ []) (omega arith, (omega arith, (omega arith, (omega arith, (omega arith, (omega arith, (omega arith, (omega arith, (omega arith, (omega arith, tt)))))))))) in
    let yield : Every IsByte (yield_line digits) = join y1 (digits ++ (y2 ++ (n ++ (y3 ++ (calls_text digits ++ y4))))) (known y1 refl) (join digits (y2 ++ (n ++ (y3 ++ (calls_text digits ++ y4)))) (digits_bytes digits good.0)
    (join y2 (n ++ (y3 ++ (calls_text digits ++ y4))) (known y2 refl) (join n (y3 ++ (calls_text digits ++ y4)) count (join y3 (calls_text digits ++ y4) (known y3 refl) (join (calls_text digits) y4 calls (known y4 refl)))))) in
    join text (counter_line ++ (yield_line digits ++ main_line (length digits))) bytes (join counter_line (yield_line digits ++ main_line (length digits)) (known counter_line refl) (join (yield_line digits) (main_line (length digits)) yield main))
