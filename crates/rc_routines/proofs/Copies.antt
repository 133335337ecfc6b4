-- Lists that are made item by item.
use Rattle.std.proofs.Common.{◌≡◌, ◌<◌, ◌≤◌, ℕ, ◌+◌, List, [], ◌∷◌, ◌++◌, length, drop, map, refl, sym, ap, ◌∙◌}
use Rattle.std.specs.Prelude.{get_or}
use Rattle.rc_core.specs.declared.parts.Function.{Function as CodeFunction}
use Rattle.rc_core.specs.Programs.{Program, Struct}
use Rattle.rc_core.specs.Shapes.{function_of}
use Rattle.rc_rlang.specs.declared.code.Routine.{Routine as CodeRoutine}
use Rattle.rc_rlang.specs.Shapes.{routine_in}
use Rattle.rc_accesses.proofs.PathTypes.{front, nothing_left}
use Rattle.rc_translation.specs.Translation.{routine_of}

map_behind : {A B : Type 0} (f : A → B) (xs : List A) (x : A) (rest : List B) → map f (xs ++ x ∷ []) ++ rest ≡ map f xs ++ f x ∷ rest
map_behind f [] x rest = refl
map_behind f (y ∷ xs) x rest = ap (λ ys. f y ∷ ys) (map_behind f xs x rest)

behind_none : {A : Type 0} (xs : List A) → xs ++ [] ≡ xs
behind_none [] = refl
behind_none (x ∷ xs) = ap (λ ys. x ∷ ys) (behind_none xs)

-- the next one stands for what the next of the others stands for
made_step : {A B C : Type 0} (f : A → C) (g : B → C) (made next : List A) (xs : List B) (i : ℕ) (x : B) (y : A) → i < length xs → x ≡ get_or xs i x → f y ≡ g x → next ≡ made ++ y ∷ [] →
    map f made ++ map g (drop i xs) ≡ map f next ++ map g (drop (i + 1) xs)
made_step f g made next xs i x y h e q d =
    ap (λ ys. map f made ++ map g ys) (front xs i x h e)
    ∙ ap (λ z. map f made ++ z ∷ map g (drop (i + 1) xs)) (sym q)
    ∙ sym (map_behind f made y (map g (drop (i + 1) xs)))
    ∙ ap (λ ys. map f ys ++ map g (drop (i + 1) xs)) (sym d)

made_end : {A B C : Type 0} (f : A → C) (g : B → C) (made : List A) (xs : List B) (i : ℕ) → length xs ≤ i → map f made ++ map g (drop i xs) ≡ map f made
made_end f g made xs i h = ap (λ ys. map f made ++ map g ys) (nothing_left xs i h) ∙ behind_none (map f made)

pub copied_begin : {A B : Type 0} (f : A → B) (xs : List A) → drop 0 xs ≡ xs
copied_begin f xs = refl

pub copied_step : {A B : Type 0} (f : A → B) (made next xs : List A) (i : ℕ) (x y : A) → i < length xs → x ≡ get_or xs i x → f y ≡ f x → next ≡ made ++ y ∷ [] →
    map f made ++ map f (drop i xs) ≡ map f next ++ map f (drop (i + 1) xs)
copied_step f made next xs i x y h e q d = made_step f f made next xs i x y h e q d

pub copied_end : {A B : Type 0} (f : A → B) (made xs : List A) (i : ℕ) → length xs ≤ i → map f made ++ map f (drop i xs) ≡ map f made
copied_end f made xs i h = made_end f f made xs i h

fused : {A B C : Type 0} (f : B → C) (g : A → B) (xs : List A) → map f (map g xs) ≡ map (λ x. f (g x)) xs
fused f g [] = refl
fused f g (x ∷ xs) = ap (λ ys. f (g x) ∷ ys) (fused f g xs)

pub routines_step : (structs : List Struct) (program : Program) (made next : List CodeRoutine) (xs : List CodeFunction) (i : ℕ) (x : CodeFunction) (y : CodeRoutine) → i < length xs → x ≡ get_or xs i x → routine_in structs y ≡ routine_of program (function_of x) → next ≡ made ++ y ∷ [] →
    map (routine_in structs) made ++ map (routine_of program) (map function_of (drop i xs)) ≡ map (routine_in structs) next ++ map (routine_of program) (map function_of (drop (i + 1) xs))
routines_step structs program made next xs i x y h e q d =
    ap (λ ys. map (routine_in structs) made ++ ys) (fused (routine_of program) function_of (drop i xs))
    ∙ made_step (routine_in structs) (λ f. routine_of program (function_of f)) made next xs i x y h e q d
    ∙ ap (λ ys. map (routine_in structs) next ++ ys) (sym (fused (routine_of program) function_of (drop (i + 1) xs)))

pub routines_end : (structs : List Struct) (program : Program) (made : List CodeRoutine) (xs : List CodeFunction) (i : ℕ) → length xs ≤ i → map (routine_in structs) made ++ map (routine_of program) (map function_of (drop i xs)) ≡ map (routine_in structs) made
routines_end structs program made xs i h = ap (λ ys. map (routine_in structs) made ++ map (routine_of program) (map function_of ys)) (nothing_left xs i h) ∙ behind_none (map (routine_in structs) made)
