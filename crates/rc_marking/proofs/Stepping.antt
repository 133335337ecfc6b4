-- A loop that writes over each element of a list, where each leaves something for the next.
use Rattle.std.proofs.Common.{◌≡◌, ◌<◌, ◌+◌, ℕ, List, [], ◌∷◌, ◌++◌, length, take, drop, get_or, append_assoc, refl, sym, ap, ◌∙◌, arith}
use Rattle.std.specs.Prelude.{slice_set}
use Rattle.std.proofs.lemmas.List.{drop_more, drop-set-lt}
use Rattle.std.proofs.lemmas.Grind.{take-set_at}

module _ {A S : Type 0} (change : S → A → A) (next : S → A → S) (changed : S → List A → List A) (behind : S → List A → S)
    (changed_more : (s : S) (x : A) (xs : List A) → changed s (x ∷ xs) ≡ change s x ∷ changed (next s x) xs)
    (behind_more : (s : S) (x : A) (xs : List A) → behind s (x ∷ xs) ≡ behind (next s x) xs) where
  pub step_changed : (s : S) (xs all : List A) (i : ℕ) (x d : A) → i < length xs → x ≡ get_or xs i d → take i xs ++ changed s (drop i xs) ≡ all
      → take (i + 1) (slice_set xs i (change s x)) ++ changed (next s x) (drop (i + 1) (slice_set xs i (change s x))) ≡ all
  step_changed s xs all i x d lt is before =
      (λ k. take-set_at xs i (i + 1) (change s x) refl lt k ++ changed (next s x) (drop-set-lt (i + 1) xs i (change s x) (omega arith) k))
      ∙ append_assoc (take i xs) (change s x ∷ []) (changed (next s x) (drop (i + 1) xs))
      ∙ ap (λ ys. take i xs ++ ys) (sym (changed_more s x (drop (i + 1) xs)))
      ∙ ap (λ y. take i xs ++ changed s (y ∷ drop (i + 1) xs)) is
      ∙ ap (λ ys. take i xs ++ changed s ys) (sym (drop_more xs i d lt))
      ∙ before

  pub step_behind : (s end : S) (xs : List A) (i : ℕ) (x d : A) → i < length xs → x ≡ get_or xs i d → behind s (drop i xs) ≡ end
      → behind (next s x) (drop (i + 1) (slice_set xs i (change s x))) ≡ end
  step_behind s end xs i x d lt is before =
      ap (behind (next s x)) (drop-set-lt (i + 1) xs i (change s x) (omega arith))
      ∙ sym (behind_more s x (drop (i + 1) xs))
      ∙ ap (λ y. behind s (y ∷ drop (i + 1) xs)) is
      ∙ ap (behind s) (sym (drop_more xs i d lt))
      ∙ before
