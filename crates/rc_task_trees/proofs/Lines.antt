-- The three lines are cut into their words.
use Rattle.rc_task_trees.proofs.Common.{◌≡◌, ◌<◌, ◌≤◌, append_assoc, append-nil, Some, cond, refl, ap, sym, ◌∙◌, subst, arith, nat_tests, length-map, decimal_digit, nat_eq, codes, decimal, flat_map, list_all, number, Token, number_shape, is_decimal, in_name, Each, Cut, end, each_of_all, each_append, each_mono, digit, occurs, is_chosen, call_text, call_if_chosen, calls_text, main_line, task_text_of}
use Rattle.rc_syntax.specs.Spellings.{keys, marks}
use Rattle.std.proofs.Common.{ℕ, suc, List, [], ◌∷◌, ◌++◌, length, map, Bool, true, false}
use Rattle.std.specs.List.{AllByRecursion as Every}
use Rattle.rc_task_trees.proofs.LineFeeds.{no_slash}
use Rattle.rc_task_trees.proofs.Scanning.{decimal_number, Lexes, scan, scan_lexes, number_lexes, string_lexes, is_digit}
use Rattle.rc_task_trees.proofs.OwnWords.{on, counter_words, yield_start, yield_middle, yield_more, task_words, yield_end, main_start, main_end, every_task, chosen, calls_tokens, count_token, choices_token, main_tokens, yield_tokens, own_tokens}

-- the pieces that are known
counter_scan : (line : ℕ) (rest : List ℕ) → scan 4 line (codes "unsigned rc_at;" ++ rest) ≡ Some (on line counter_words, line, rest)
unfolding keys marks
counter_scan line rest = refl

start_scan : (line : ℕ) (rest : List ℕ) → scan 19 line (codes "\nvoid yield(void) deletes { char *s = " ++ rest) ≡ Some (on (suc line) yield_start, suc line, rest)
unfolding keys marks
start_scan line rest = refl

middle_scan : (line : ℕ) (rest : List ℕ) → scan 14 line (codes "; char c; if (rc_at < " ++ rest) ≡ Some (on line yield_middle, line, rest)
unfolding keys marks
middle_scan line rest = refl

more_scan : (line : ℕ) (rest : List ℕ) → scan 17 line (codes ") { c = s[rc_at]; rc_at++;" ++ rest) ≡ Some (on line yield_more, line, rest)
unfolding keys marks
more_scan line rest = refl

end_scan : (line : ℕ) (rest : List ℕ) → scan 4 line (codes " } }" ++ rest) ≡ Some (on line yield_end, line, rest)
unfolding keys marks
end_scan line rest = refl

main_scan : (line : ℕ) (rest : List ℕ) → scan 24 line (codes "\nint main(void) deletes { start(); while (rc_at < " ++ rest) ≡ Some (on (suc line) main_start, suc line, rest)
unfolding keys marks
main_scan line rest = refl

last_scan : (line : ℕ) → scan 14 line (codes ") yield(); return 0; }\n") ≡ Some (on line main_end, suc line, [])
unfolding keys marks
last_scan line = refl

-- the call of a task
abbrev task_bytes : ℕ → List ℕ
task_bytes d = codes " if (c == '" ++ (digit d ∷ (codes "') task_" ++ (digit d ∷ codes "();")))

abbrev TaskScans : ℕ → Type 0
TaskScans d = (line : ℕ) (rest : List ℕ) → scan 15 line (task_bytes d ++ rest) ≡ Some (on line (task_words d), line, rest)

scan_0 : TaskScans 0
unfolding keys marks
scan_0 line rest = refl

scan_1 : TaskScans 1
unfolding keys marks
scan_1 line rest = refl

scan_2 : TaskScans 2
unfolding keys marks
scan_2 line rest = refl

scan_3 : TaskScans 3
unfolding keys marks
scan_3 line rest = refl

scan_4 : TaskScans 4
unfolding keys marks
scan_4 line rest = refl

scan_5 : TaskScans 5
unfolding keys marks
scan_5 line rest = refl

scan_6 : TaskScans 6
unfolding keys marks
scan_6 line rest = refl

scan_7 : TaskScans 7
unfolding keys marks
scan_7 line rest = refl

scan_8 : TaskScans 8
unfolding keys marks
scan_8 line rest = refl

scan_9 : TaskScans 9
unfolding keys marks
scan_9 line rest = refl

all_scan : Every (λ d. (d < 10) × TaskScans d) every_task
all_scan = ((omega arith, scan_0), ((omega arith, scan_1), ((omega arith, scan_2), ((omega arith, scan_3), ((omega arith, scan_4), ((omega arith, scan_5), ((omega arith, scan_6), ((omega arith, scan_7), ((omega arith, scan_8), ((omega arith, scan_9), tt))))))))))

call_bytes : (d : ℕ) → d < 10 → call_text d ≡ task_bytes d
call_bytes d h = ap (λ z. codes " if (c == '" ++ (z ++ (codes "') task_" ++ (z ++ codes "();")))) (decimal_digit d h)

-- digits among the choices
same_test : (c d : ℕ) → nat_eq (digit d) (digit c) ≡ nat_eq c d
same_test c d = go (nat_eq (digit d) (digit c)) (nat_eq c d) refl refl
  where
    go : (a b : Bool) → nat_eq (digit d) (digit c) ≡ a → nat_eq c d ≡ b → a ≡ b
    go true true e f = refl
    go false false e f = refl
    go true false e f = grind (arith, nat_tests)
    go false true e f = grind (arith, nat_tests)

same_chosen : (cs : List ℕ) (d : ℕ) → is_chosen (map digit cs) (digit d) ≡ occurs d cs
same_chosen [] d = refl
same_chosen (c ∷ cs) d = rw (same_test c d, same_chosen cs d) refl

digit_test : (d : ℕ) → d < 10 → is_decimal (digit d) ≡ true
digit_test d h = grind (arith, nat_tests)

all_digits : (cs : List ℕ) → Every (λ d. d < 10) cs → Each is_digit (map digit cs)
all_digits [] h = tt
all_digits (c ∷ cs) h = (digit_test c h.0, all_digits cs h.1)

digit_no_slash : (b : ℕ) → is_digit b ≡ true → no_slash b ≡ true
digit_no_slash b h = grind (arith, nat_tests)

name_no_slash : (b : ℕ) → in_name b ≡ true → no_slash b ≡ true
name_no_slash b h = grind (arith, nat_tests)

decimal_slashes : (n : ℕ) → n ≤ 2147483647 → Each no_slash (decimal n)
decimal_slashes n h =
    let x = number_shape (decimal n) (number n false) (decimal_number n h) in
    let P : List ℕ → Type 0 = λ z. Each no_slash z in
    subst P (sym x.is) (digit_no_slash x.first x.digit, each_mono in_name no_slash name_no_slash x.others x.in_names)

known : (bytes rest : List ℕ) → list_all no_slash bytes ≡ true → Each no_slash rest → Each no_slash (bytes ++ rest)
known bytes rest h i = each_append no_slash bytes rest (each_of_all no_slash bytes h) i

module _ (choices : List ℕ) where
  abbrev if_bytes : Bool → ℕ → List ℕ
  if_bytes true d = task_bytes d
  if_bytes false d = []

  call_if_is : (d : ℕ) → d < 10 → call_if_chosen (map digit choices) d ≡ if_bytes (occurs d choices) d
  call_if_is d h = ap (λ z. cond z (call_text d) []) (same_chosen choices d) ∙ go (occurs d choices)
    where
      go : (v : Bool) → cond v (call_text d) [] ≡ if_bytes v d
      go true = call_bytes d h
      go false = refl

  call_lexes : (c : Bool) (d line : ℕ) (rest : List ℕ) (more : List Token) → TaskScans d → Lexes line rest more → Lexes line (if_bytes c d ++ rest) (chosen c (on line (task_words d)) ++ more)
  call_lexes true d line rest more s h = scan_lexes 15 line (task_bytes d ++ rest) (on line (task_words d)) line rest (s line rest) more h
  call_lexes false d line rest more s h = h

  calls_lexes : (ds : List ℕ) (line : ℕ) (rest : List ℕ) (more : List Token) → Every (λ d. (d < 10) × TaskScans d) ds → Lexes line rest more → Lexes line (flat_map (call_if_chosen (map digit choices)) ds ++ rest) (calls_tokens choices line ds ++ more)
  calls_lexes [] line rest more h c = c
  calls_lexes (d ∷ ds) line rest more h c =
      let others = flat_map (call_if_chosen (map digit choices)) ds in
      let own = chosen (occurs d choices) (on line (task_words d)) in
      let ts = calls_tokens choices line ds in
      let P : List ℕ → Type 0 = λ z. Lexes line z ((own ++ ts) ++ more) in
      let Q : List Token → Type 0 = λ z. Lexes line (if_bytes (occurs d choices) d ++ (others ++ rest)) z in
      subst P (ap (λ z. z ++ (others ++ rest)) (sym (call_if_is d h.0.0)) ∙ sym (append_assoc (call_if_chosen (map digit choices) d) others rest))
      (subst Q (sym (append_assoc own ts more)) (call_lexes (occurs d choices) d line (others ++ rest) (ts ++ more) h.0.1 (calls_lexes ds line rest more h.1 c)))

  abbrev pub digits : List ℕ
  digits = map digit choices

  -- the lines piece by piece
  abbrev pub main_text : List ℕ
  main_text = codes "\nint main(void) deletes { start(); while (rc_at < " ++ (decimal (length choices) ++ codes ") yield(); return 0; }\n")

  abbrev pub yield_text : List ℕ
  yield_text = codes "\nvoid yield(void) deletes { char *s = " ++ (34 ∷ (digits ++ 34 ∷ (codes "; char c; if (rc_at < " ++ (decimal (length choices) ++ (codes ") { c = s[rc_at]; rc_at++;" ++ (calls_text digits ++ (codes " } }" ++ main_text)))))))

  abbrev pub own_text : List ℕ
  own_text = codes "unsigned rc_at;" ++ yield_text

  pub text_is : (text : List ℕ) → task_text_of text digits ≡ text ++ 10 ∷ own_text
  text_is text =
      let m = main_line (length digits) in
      let n = decimal (length digits) in
      let c3 = codes ") { c = s[rc_at]; rc_at++;" in
      let c4 = codes " } }\n" in
      let calls = calls_text digits in
      let c2 = codes "\"; char c; if (rc_at < " in
      let same : length digits ≡ length choices = length-map choices digit in
      ap (λ l. text ++ (codes "\nunsigned rc_at;\nvoid yield(void) deletes { char *s = \"" ++ l))
      (append_assoc digits (c2 ++ (n ++ (c3 ++ (calls ++ c4)))) m ∙ ap (λ l. digits ++ (c2 ++ l)) (append_assoc n (c3 ++ (calls ++ c4)) m ∙ ap (λ l. n ++ (c3 ++ l)) (append_assoc calls c4 m)))
      ∙ ap (λ k. text ++ (codes "\nunsigned rc_at;\nvoid yield(void) deletes { char *s = \"" ++ (digits ++ (c2 ++ (decimal k ++ (c3 ++ (calls ++ (c4 ++ (codes "int main(void) deletes { start(); while (rc_at < " ++ (decimal k ++ codes ") yield(); return 0; }\n")))))))))) same

  task_slashes : (d : ℕ) → d < 10 → (c : Bool) → Each no_slash (if_bytes c d)
  task_slashes d h false = tt
  task_slashes d h true =
      let e : no_slash (digit d) ≡ true = digit_no_slash (digit d) (digit_test d h) in
      known (codes " if (c == '") (digit d ∷ (codes "') task_" ++ (digit d ∷ codes "();"))) refl (e, known (codes "') task_") (digit d ∷ codes "();") refl (e, each_of_all no_slash (codes "();") refl))

  calls_slashes : (ds : List ℕ) → Every (λ d. (d < 10) × TaskScans d) ds → Each no_slash (flat_map (call_if_chosen (map digit choices)) ds)
  calls_slashes [] h = tt
  calls_slashes (d ∷ ds) h =
      let P : List ℕ → Type 0 = λ z. Each no_slash z in
      each_append no_slash (call_if_chosen (map digit choices) d) (flat_map (call_if_chosen (map digit choices)) ds) (subst P (sym (call_if_is d h.0.0)) (task_slashes d h.0.0 (occurs d choices))) (calls_slashes ds h.1)

  none_lexes : (line : ℕ) → Lexes line [] []
  none_lexes line before e = let P : List ℕ → Type 0 = λ z. Cut before [] [] z [] in subst P (sym (append-nil before)) end

  module _ (few : length choices ≤ 1000) (good : Every (λ d. d < 10) choices) where
    main_lexes : (line : ℕ) → Lexes line main_text (main_tokens choices (suc line))
    main_lexes line =
        let last = codes ") yield(); return 0; }\n" in
        let l = suc line in
        let end_lexes : Lexes l last (on l main_end) = scan_lexes 14 l last (on l main_end) (suc l) [] (last_scan l) [] (none_lexes (suc l)) in
        let count_lexes : Lexes l (decimal (length choices) ++ last) (count_token choices l ∷ on l main_end) = number_lexes l (length choices) last (on l main_end) (omega (arith, few)) refl end_lexes in
        scan_lexes 24 line main_text (on l main_start) l (decimal (length choices) ++ last) (main_scan line (decimal (length choices) ++ last)) (count_token choices l ∷ on l main_end) count_lexes

    yield_lexes : (line : ℕ) → Lexes line yield_text (yield_tokens choices (suc line) ++ main_tokens choices (suc (suc line)))
    yield_lexes line =
        let l = suc line in
        let n = decimal (length choices) in
        let later = main_tokens choices (suc l) in
        let calls = calls_tokens choices l every_task in
        let t5 = codes " } }" ++ main_text in
        let e5 : Lexes l t5 (on l yield_end ++ later) = scan_lexes 4 l t5 (on l yield_end) l main_text (end_scan l main_text) later (main_lexes l) in
        let t4 = calls_text digits ++ t5 in
        let e4 : Lexes l t4 (calls ++ (on l yield_end ++ later)) = calls_lexes every_task l t5 (on l yield_end ++ later) all_scan e5 in
        let t3 = codes ") { c = s[rc_at]; rc_at++;" ++ t4 in
        let e3 : Lexes l t3 (on l yield_more ++ (calls ++ (on l yield_end ++ later))) = scan_lexes 17 l t3 (on l yield_more) l t4 (more_scan l t4) (calls ++ (on l yield_end ++ later)) e4 in
        let e2 : Lexes l (n ++ t3) (count_token choices l ∷ (on l yield_more ++ (calls ++ (on l yield_end ++ later)))) = number_lexes l (length choices) t3 (on l yield_more ++ (calls ++ (on l yield_end ++ later))) (omega (arith, few)) refl e3 in
        let t2 = codes "; char c; if (rc_at < " ++ (n ++ t3) in
        let e1 : Lexes l t2 (on l yield_middle ++ (count_token choices l ∷ (on l yield_more ++ (calls ++ (on l yield_end ++ later))))) = scan_lexes 14 l t2 (on l yield_middle) l (n ++ t3) (middle_scan l (n ++ t3)) (count_token choices l ∷ (on l yield_more ++ (calls ++ (on l yield_end ++ later)))) e2 in
        let t1 = 34 ∷ (digits ++ 34 ∷ t2) in
        let e0 : Lexes l t1 (choices_token choices l ∷ (on l yield_middle ++ (count_token choices l ∷ (on l yield_more ++ (calls ++ (on l yield_end ++ later)))))) = string_lexes l digits t2 (on l yield_middle ++ (count_token choices l ∷ (on l yield_more ++ (calls ++ (on l yield_end ++ later))))) (all_digits choices good) e1 in
        let whole : Lexes line yield_text (on l yield_start ++ (choices_token choices l ∷ (on l yield_middle ++ (count_token choices l ∷ (on l yield_more ++ (calls ++ (on l yield_end ++ later))))))) = scan_lexes 19 line yield_text (on l yield_start) l t1 (start_scan line t1) (choices_token choices l ∷ (on l yield_middle ++ (count_token choices l ∷ (on l yield_more ++ (calls ++ (on l yield_end ++ later)))))) e0 in
        let P : List Token → Type 0 = λ z. Lexes line yield_text (on l yield_start ++ (choices_token choices l ∷ (on l yield_middle ++ (count_token choices l ∷ (on l yield_more ++ z))))) in
        subst P (sym (append_assoc calls (on l yield_end) later)) whole

    -- the words of the three lines, which begin on this line
    pub own_lexes : (line : ℕ) → Lexes line own_text (own_tokens choices line)
    own_lexes line = scan_lexes 4 line own_text (on line counter_words) line yield_text (counter_scan line yield_text) (yield_tokens choices (suc line) ++ main_tokens choices (suc (suc line))) (yield_lexes line)

    -- no `/` stands in them
    pub no_slashes : Each no_slash own_text
    no_slashes =
        let n = decimal (length choices) in
        let count : Each no_slash n = decimal_slashes (length choices) (omega (arith, few)) in
        let last = codes ") yield(); return 0; }\n" in
        let main : Each no_slash main_text = known (codes "\nint main(void) deletes { start(); while (rc_at < ") (n ++ last) refl (each_append no_slash n last count (each_of_all no_slash last refl)) in
        let t5 = codes " } }" ++ main_text in
        let t4 = calls_text digits ++ t5 in
        let h4 : Each no_slash t4 = each_append no_slash (calls_text digits) t5 (calls_slashes every_task all_scan) (known (codes " } }") main_text refl main) in
        let t3 = codes ") { c = s[rc_at]; rc_at++;" ++ t4 in
        let t2 = codes "; char c; if (rc_at < " ++ (n ++ t3) in
        let h2 : Each no_slash t2 = known (codes "; char c; if (rc_at < ") (n ++ t3) refl (each_append no_slash n t3 count (known (codes ") { c = s[rc_at]; rc_at++;") t4 refl h4)) in
        let t1 = 34 ∷ (digits ++ 34 ∷ t2) in
        let h1 : Each no_slash t1 = (refl, each_append no_slash digits (34 ∷ t2) (each_mono is_digit no_slash digit_no_slash digits (all_digits choices good)) (refl, h2)) in
        known (codes "unsigned rc_at;") yield_text refl (known (codes "\nvoid yield(void) deletes { char *s = ") t1 refl h1)
