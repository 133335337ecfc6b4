-- Rows and masks that were made so far.
use Rattle.std.proofs.Common.{◌≡◌, ℕ, suc, ◌≤◌, ◌<◌, ◌⊎◌, inl, inr, true, List, [], ◌∷◌, ◌++◌, length, get_or, slice_get, Some, sym, ap, subst, ◌∙◌, arith}
use Rattle.std.proofs.lemmas.Bool.{cases_lt}
use Rattle.std.proofs.lemmas.List.{length-append}
use Rattle.std.proofs.Math.Seq.{get_or-append_seam}
use Rattle.std.proofs.Math.ListN.{get_or-append}
use Rattle.std.proofs.lemmas.Option.{get_or_from_slice_get, slice_get_within, slice_get-get_or}
use Rattle.rc_code.specs.declared.kind.Cell.{Cell}
use Rattle.rc_code.specs.Image.{cells_at}
use Rattle.rc_code.specs.Kinds.{same_cell}
use Rattle.rc_reached.specs.Masks.{IsMask}
use Rattle.rc_reached.specs.Numbered.{IsNumbered}
use Rattle.rc_reached.proofs.Alike.{same_is}
use Rattle.rc_path_rules.specs.declared.masks.Mask.{Mask}
use Rattle.rc_path_rules.specs.declared.masks.Row.{Row}
use Rattle.rc_path_rules.specs.Masks.{AreMasks, AreRows}

-- what holds of all elements of a list holds when one is added of which it does
every_more : {A : Type 0} (P : A → Type 0) (xs : List A) (new : A) → ((k : ℕ) (x : A) → slice_get xs k ≡ Some x → P x) → P new → (k : ℕ) (x : A) → slice_get (xs ++ new ∷ []) k ≡ Some x → P x
every_more {A} P xs new all is k x e = by (cases_lt k (length xs))
  where
    read : get_or (xs ++ new ∷ []) k x ≡ x
    read = get_or_from_slice_get (xs ++ new ∷ []) k x x e

    within : k < suc (length xs)
    within = let lt = slice_get_within (xs ++ new ∷ []) k x e in let l = length-append xs (new ∷ []) in omega (arith, lt, l)

    by : (k < length xs) ⊎ (length xs ≤ k) → P x
    by (inl lt) = all k x (slice_get-get_or xs k x lt ∙ ap Some (sym (get_or-append xs (new ∷ []) x k lt) ∙ read))
    by (inr ge) =
        let at : k ≡ length xs = omega (arith, ge, within) in
        let one : new ≡ x = sym (get_or-append_seam xs new [] x) ∙ ap (λ n. get_or (xs ++ new ∷ []) n x) (sym at) ∙ read in
        subst P one is

pub right_more : (types : List (List Cell)) (masks : List Mask) (new : Mask) → AreMasks types masks → IsMask new.cell (cells_at types new.type_number) new.words.items → AreMasks types (masks ++ new ∷ [])
right_more types masks new = every_more (λ (m : Mask). IsMask m.cell (cells_at types m.type_number) m.words.items) masks new

pub rows_more : (types : List (List Cell)) (rows : List Row) (new : Row) → AreRows types rows → IsNumbered (cells_at types new.type_number) new.row → AreRows types (rows ++ new ∷ [])
rows_more types rows new = every_more (λ (r : Row). IsNumbered (cells_at types r.type_number) r.row) rows new

pub right_found : (types : List (List Cell)) (masks : List Mask) (k : ℕ) (m : Mask) (type : ℕ) (c : Cell) → AreMasks types masks → slice_get masks k ≡ Some m → m.type_number ≡ type → same_cell m.cell c ≡ true
    → IsMask c (cells_at types type) m.words.items
right_found types masks k m type c right there of_type same =
    subst (λ x. IsMask x (cells_at types type) m.words.items) (same_is m.cell c same) (subst (λ t. IsMask m.cell (cells_at types t) m.words.items) of_type (right k m there))

pub same_found : (cells : List Cell) (k : ℕ) (a b : Cell) → slice_get cells k ≡ Some a → slice_get cells k ≡ Some b → a ≡ b
same_found cells k a b is_a is_b = sym (get_or_from_slice_get cells k a a is_a) ∙ get_or_from_slice_get cells k b a is_b

pub row_found : (types : List (List Cell)) (rows : List Row) (k : ℕ) (r : Row) (type : ℕ) → AreRows types rows → slice_get rows k ≡ Some r → r.type_number ≡ type → IsNumbered (cells_at types type) r.row
row_found types rows k r type right there of_type = subst (λ t. IsNumbered (cells_at types t) r.row) of_type (right k r there)
