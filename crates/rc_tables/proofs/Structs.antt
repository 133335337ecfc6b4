-- The types of structs, one after another.
use Rattle.std.proofs.Common.{◌≡◌, ◌<◌, ◌+◌, ℕ, suc, List, [], ◌∷◌, ◌++◌, length, map, take, refl, sym, ap, ◌∙◌, arith, length-append}
use Rattle.std.proofs.lemmas.List.{length-map, length-take-le}
use Rattle.rc_core.specs.Types.{Ty, struct}
use Rattle.rc_core.specs.Programs.{Struct}
use Rattle.rc_numbering.specs.Names.{structs_from}

structs_more : (k : ℕ) (xs : List Struct) (s : Struct) → structs_from k (xs ++ s ∷ []) ≡ structs_from k xs ++ struct (k + length xs) ∷ []
structs_more k [] s = let e : k ≡ k + 0 = omega arith in ap (λ n. struct n ∷ []) e
structs_more k (x ∷ xs) s = ap (λ l. struct k ∷ l) (structs_more (suc k) xs s) ∙ (let e : suc k + length xs ≡ k + suc (length xs) = omega arith in ap (λ n. struct k ∷ (structs_from (suc k) xs ++ struct n ∷ [])) e)

-- only their count matters
structs_same : (k : ℕ) (xs ys : List Struct) → length xs ≡ length ys → structs_from k xs ≡ structs_from k ys
structs_same k [] [] e = refl
structs_same k [] (y ∷ ys) e = absurd (omega (arith, e))
structs_same k (x ∷ xs) [] e = absurd (omega (arith, e))
structs_same k (x ∷ xs) (y ∷ ys) e = ap (λ l. struct k ∷ l) (structs_same (suc k) xs ys (omega (arith, e)))

-- a step of a walk over structs
pub struct_step : {C : Type 0} (g : C → Struct) (xs : List C) (i : ℕ) (types now : List Ty) → i < length xs → types ≡ structs_from 0 (map g (take i xs)) → now ≡ types ++ struct i ∷ [] → now ≡ structs_from 0 (map g (take (i + 1) xs))
struct_step g xs i types now h e n =
    let long : length (map g (take i xs)) ≡ i = omega (arith, length-map (take i xs) g, length-take-le i xs (omega (arith, h))) in
    let l : 0 + length (map g (take i xs)) ≡ i = omega (arith, long) in
    let longer : length (map g (take i xs) ++ [] ∷ []) ≡ length (map g (take (i + 1) xs)) = omega (arith, long, length-append (map g (take i xs)) ([] ∷ []), length-map (take (i + 1) xs) g, length-take-le (i + 1) xs (omega (arith, h))) in
    n ∙ ap (λ t. t ++ struct i ∷ []) e
    ∙ ap (λ k. structs_from 0 (map g (take i xs)) ++ struct k ∷ []) (sym l)
    ∙ sym (structs_more 0 (map g (take i xs)) [])
    ∙ structs_same 0 (map g (take i xs) ++ [] ∷ []) (map g (take (i + 1) xs)) longer
