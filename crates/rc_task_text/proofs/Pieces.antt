-- Pieces one behind another.
use Rattle.std.proofs.Common.{◌≡◌, ℕ, ◌+◌, List, [], ◌∷◌, ◌++◌, map, sym, ap, ◌∙◌, append_assoc, append-nil, arith}
use Rattle.std.specs.List.{flat_map, range_with_len}
use Rattle.std.proofs.lemmas.List.{flat_map_more}
use Rattle.std.proofs.lemmas.List.FromFn.{map-range_with_len_more}
use Rattle.rc_task_text.specs.TaskText.{call_if_chosen, calls_text}

-- these behind it, one after the other
abbrev pub onto : {A : Type 0} → List A → List (List A) → List A
onto o [] = o
onto o (x ∷ xs) = onto (o ++ x) xs

abbrev pub joined : {A : Type 0} → List (List A) → List A
joined [] = []
joined (x ∷ xs) = x ++ joined xs

pub onto_is : {A : Type 0} (o : List A) (xs : List (List A)) → onto o xs ≡ o ++ joined xs
onto_is o [] = sym (append-nil o)
onto_is o (x ∷ xs) = onto_is (o ++ x) xs ∙ append_assoc o x (joined xs)

-- the calls of the first tasks, so many of them
abbrev pub calls_before : List ℕ → (count : ℕ) → List ℕ
calls_before choices count = flat_map (λ call. call) (map (call_if_chosen choices) (range_with_len 0 count))

pub one_call_more : (choices : List ℕ) (k : ℕ) (start before after : List ℕ) → before ≡ start ++ calls_before choices k → after ≡ before ++ call_if_chosen choices k → after ≡ start ++ calls_before choices (k + 1)
one_call_more choices k start before after so_far next =
    next
    ∙ ap (λ text. text ++ call_if_chosen choices k) so_far
    ∙ flat_map_more (λ call. call) start (map (call_if_chosen choices) (range_with_len 0 k)) (call_if_chosen choices k)
    ∙ ap (λ calls. start ++ flat_map (λ call. call) calls) (sym (map-range_with_len_more (call_if_chosen choices) 0 k k (omega arith)))

pub all_calls : (choices start after : List ℕ) → after ≡ start ++ calls_before choices 10 → after ≡ start ++ calls_text choices
all_calls choices start after e = e
