-- The first line of a text.
use Rattle.std.proofs.Common.{◌≡◌, ◌≢◌, ◌<◌, ◌≤◌, ◌+◌, ◌-◌, arith, ◌∙◌, ◌++◌, ℕ, Bool, false, List, [], ◌∷◌, length, get_or, take, drop, All, cond, refl, sym, ap, subst, ◌==◌, inl, inr}
use Rattle.std.specs.List.{slice_split, onto_first}
use Rattle.std.proofs.lemmas.Bool.{cases_Bool}
use Rattle.std.proofs.lemmas.List.{take-append-drop, drop_more, take_all, take_rest, drop_all}
use Rattle.std.proofs.lemmas.List.Elements.{All-more}
use Rattle.std.proofs.lemmas.Bool.Decides.{nat_tests}
use Rattle.std.proofs.lemmas.List.Splits.{slice_split_none, slice_split_at}
use Rattle.rc_replies.specs.Commands.{lines_of, without_empty_end}

abbrev ends_line : ℕ → Bool
ends_line b = b == 10

-- there is a first part
first_part : (text : List ℕ) → (first : List ℕ) × (rest : List (List ℕ)) × (slice_split ends_line text ≡ first ∷ rest)
first_part [] = ([], [], refl)
first_part (b ∷ text) =
    let more = first_part text in
    elim (cases_Bool (ends_line b)) [
      | inl at_end ↦ ([], slice_split ends_line text, ap (λ t. cond t ([] ∷ slice_split ends_line text) (onto_first b (slice_split ends_line text))) at_end)
      | inr inside ↦ (b ∷ more.0, more.1, ap (λ t. cond t ([] ∷ slice_split ends_line text) (onto_first b (slice_split ends_line text))) inside ∙ ap (onto_first b) more.2)
    ]

more : (line next : List ℕ) (lines : List (List ℕ)) → without_empty_end (line ∷ next ∷ lines) ≡ line ∷ without_empty_end (next ∷ lines)
more [] next lines = refl
more (byte ∷ line) next lines = refl

behind : (line : List ℕ) (text : List ℕ) → without_empty_end (line ∷ slice_split ends_line text) ≡ line ∷ lines_of text
behind line text =
    let part = first_part text in
    ap (λ parts. without_empty_end (line ∷ parts)) part.2 ∙ more line part.0 part.1 ∙ sym (ap (λ parts. line ∷ without_empty_end parts) part.2)

pub cut_line : (text : List ℕ) (at : ℕ) → at < length text → get_or text at 0 ≡ 10 → All (λ b. ends_line b ≡ false) (take at text) → lines_of text ≡ take at text ∷ lines_of (drop (at + 1) text)
cut_line text at below ends before =
    let parts : text ≡ take at text ++ 10 ∷ drop (at + 1) text =
    sym (take-append-drop at text) ∙ ap (λ bytes. take at text ++ bytes) (drop_more text at 0 below ∙ ap (λ b. b ∷ drop (at + 1) text) ends) in
    ap lines_of parts ∙ ap without_empty_end (slice_split_at ends_line (take at text) 10 (drop (at + 1) text) before refl) ∙ behind (take at text) (drop (at + 1) text)

pub passed : (text : List ℕ) (at : ℕ) → at < length text → (get_or text at 0 ≡ 10 → ⊥) → All (λ b. ends_line b ≡ false) (take at text) → All (λ b. ends_line b ≡ false) (take (at + 1) text)
passed text at below other before = All-more (λ b. ends_line b ≡ false) text at 0 below before (grind (arith, nat_tests, other))

one : (text : List ℕ) → text ≢ [] → without_empty_end (text ∷ []) ≡ text ∷ []
one [] some = absurd (some refl)
one (byte ∷ text) some = refl

pub last_line : (text : List ℕ) → text ≢ [] → (at : ℕ) → length text ≤ at → All (λ b. ends_line b ≡ false) (take at text) → lines_of text ≡ text ∷ lines_of (take (length text - length text) (drop (length text) text))
last_line text some at end before =
    let whole = subst (All (λ b. ends_line b ≡ false)) (take_all at text end) before in
    let nothing : take (length text - length text) (drop (length text) text) ≡ [] = take_rest text (length text) ∙ drop_all (length text) text (omega arith) in
    ap without_empty_end (slice_split_none ends_line text whole) ∙ one text some ∙ ap (λ bytes. text ∷ lines_of bytes) (sym nothing)
