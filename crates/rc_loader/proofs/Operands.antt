-- Kinds of operands, as a loader finds them.
use Rattle.std.proofs.Common.{◌≡◌, ℕ, zero, suc, ◌-◌, ◌≤◌, Bool, true, false, cond, ◌&&◌, ◌==◌, List, [], ◌∷◌, ◌++◌, map, length, take, reverse, refl, sym, ap, ◌∙◌, arith}
use Rattle.std.specs.Prelude.{get_or}
use Rattle.std.proofs.lemmas.List.{reverse-append, reverse-reverse, length-reverse}
use Rattle.rc_core.specs.declared.ty.NumberType.TheVariants as number_type
use Rattle.rc_core.specs.Types.{int_cell}
use Rattle.rc_code.specs.declared.kind.Cell.TheVariants as cell
use Rattle.rc_code.specs.declared.opcode.Simple.TheVariants as simple
use Rattle.rc_loader.specs.declared.operand.Operand.{Operand}
use Rattle.rc_loader.specs.declared.taken.Taken.{Taken}
use Rattle.rc_loader.specs.declared.taken.Taken.TheVariants as taken
use Rattle.rc_code.specs.declared.instruction.Instruction.{Instruction}
use Rattle.rc_code.specs.declared.instruction.Instruction.TheVariants as instruction
use Rattle.rc_code.specs.declared.image.Path.{Path}
use Rattle.rc_code.specs.declared.image.Function.{Function}
use Rattle.rc_code.specs.declared.image.Parts.{Parts}
use Rattle.rc_code.specs.Image.{cells_at}
use Rattle.rc_code.specs.Running.{Reading, reading_of, cell_kind, layout_of, cell_at, path_at, storage_by, pointee}
use Rattle.rc_code.specs.Soundness.{Kind, operand_kind, place_kinds, takes, count_off}
use Rattle.rc_loader.specs.Codes.{kind_in}
use Rattle.rc_loader.specs.Decisions.{same_kind, same_kinds, reached_cell, storage_in, pushed, is_any, is_pop, count_of, are_taken, are_kinds}

mapped_or : {A B : Type 0} (change : A → B) (xs : List A) (n : ℕ) (d : A) → get_or (map change xs) n (change d) ≡ change (get_or xs n d)
mapped_or change [] zero d = refl
mapped_or change [] (suc n) d = refl
mapped_or change (x ∷ xs) zero d = refl
mapped_or change (x ∷ xs) (suc n) d = mapped_or change xs n d

pub cell_there : (parts : Parts) (path : Path) → cell_kind (reached_cell parts path) ≡ cell_at (reading_of parts) path
cell_there parts path =
    sym (mapped_or cell_kind (cells_at parts.types path.type_number) path.offset (cell.Number number_type.Int))
    ∙ ap (λ cells. get_or cells path.offset int_cell) (sym (mapped_or layout_of parts.types path.type_number []))

false_behind : (b : Bool) → b && false ≡ false
false_behind true = refl
false_behind false = refl

longer : (b : Kind) (ls : List Kind) → same_kinds [] (ls ++ b ∷ []) ≡ false
longer b [] = refl
longer b (c ∷ ls) = refl

shorter : (a : Kind) (ks : List Kind) → same_kinds (ks ++ a ∷ []) [] ≡ false
shorter a [] = refl
shorter a (c ∷ ks) = refl

and_assoc : (a b c : Bool) → (a && (b && c)) ≡ ((a && b) && c)
and_assoc true b c = refl
and_assoc false b c = refl

and_true : (a : Bool) → (a && true) ≡ a
and_true true = refl
and_true false = refl

pub same_last : (ks ls : List Kind) (a b : Kind) → same_kinds (ks ++ a ∷ []) (ls ++ b ∷ []) ≡ (same_kinds ks ls && same_kind a b)
same_last [] [] a b = and_true (same_kind a b)
same_last [] (c ∷ bs) a b = ap (λ s. same_kind a c && s) (longer b bs) ∙ false_behind (same_kind a c)
same_last (c ∷ ks) [] a b = ap (λ s. same_kind c b && s) (shorter a ks) ∙ false_behind (same_kind c b)
same_last (c ∷ ks) (d ∷ ls) a b = ap (λ s. same_kind c d && s) (same_last ks ls a b) ∙ and_assoc (same_kind c d) (same_kinds ks ls) (same_kind a b)

pub value_last : (kinds : List Kind) (value : Kind) → reverse (kinds ++ value ∷ []) ≡ value ∷ reverse kinds
value_last kinds value = reverse-append kinds (value ∷ [])

pub all_taken : {A : Type 0} (n : ℕ) (xs : List A) → length xs ≤ n → take n xs ≡ xs
all_taken zero [] le = refl
all_taken (suc n) [] le = refl
all_taken zero (x ∷ xs) le = absurd (omega (arith, le))
all_taken (suc n) (x ∷ xs) le = ap (λ ys. x ∷ ys) (all_taken n xs (omega (arith, le)))

pub stored_is : (parts : Parts) (f : Function) (i : Instruction) (p : ℕ) (b : Bool) (path : Path) (value : Operand) → i ≡ instruction.Store p b → path ≡ path_at (reading_of parts) p
    → kind_in value ≡ operand_kind (storage_in (reached_cell parts path)) → reverse (place_kinds path ++ kind_in value ∷ []) ≡ takes (reading_of parts) f i
stored_is parts f i p b path value is at holds =
    value_last (place_kinds path) (kind_in value)
    ∙ ap (λ v. v ∷ reverse (place_kinds path)) holds
    ∙ ap (λ c. operand_kind (storage_by pointee c) ∷ reverse (place_kinds path)) (cell_there parts path)
    ∙ ap (λ q. takes_by q) at
    ∙ ap (takes (reading_of parts) f) (sym is)
  where
    takes_by : Path → List Kind
    takes_by q = operand_kind (storage_by pointee (cell_at (reading_of parts) q)) ∷ reverse (place_kinds q)

-- ---- what an instruction takes, said of the table

count_by : (t : Taken) → count_of t ≡ cond (is_any t) 1 (length (pushed t))
count_by taken.Nothing = refl
count_by (taken.One a) = refl
count_by (taken.Two a b) = refl
count_by (taken.Place path) = refl
count_by (taken.Stored path value) = refl
count_by (taken.Arguments parameters) = refl
count_by taken.Anything = refl

count_off_by : (image : Reading) (f : Function) (i : Instruction) → count_off image f i ≡ cond (is_pop i) 1 (length (takes image f i))
count_off_by image f (instruction.Simple simple.Pop) = refl
count_off_by image f i = refl

taken_by : (t : Taken) (operands : List Operand) → are_taken t operands ≡ cond (is_any t) true (same_kinds (map kind_in operands) (pushed t))
taken_by taken.Nothing operands = refl
taken_by (taken.One a) operands = refl
taken_by (taken.Two a b) operands = refl
taken_by (taken.Place path) operands = refl
taken_by (taken.Stored path value) operands = refl
taken_by (taken.Arguments parameters) operands = refl
taken_by taken.Anything operands = refl

pub count_is : (t : Taken) (image : Reading) (f : Function) (i : Instruction) → reverse (pushed t) ≡ takes image f i → is_any t ≡ is_pop i → count_of t ≡ count_off image f i
count_is t image f i kinds any =
    count_by t ∙ ap (λ b. cond b 1 (length (pushed t))) any ∙ ap (cond (is_pop i) 1) (sym (length-reverse (pushed t)) ∙ ap length kinds) ∙ sym (count_off_by image f i)

pub kinds_are : (t : Taken) (parts : Parts) (f : Function) (i : Instruction) → reverse (pushed t) ≡ takes (reading_of parts) f i → is_any t ≡ is_pop i
    → (operands : List Operand) → are_taken t operands ≡ are_kinds parts f i operands
kinds_are t parts f i kinds any operands =
    taken_by t operands ∙ ap (λ b. cond b true (same_kinds (map kind_in operands) (pushed t))) any
    ∙ ap (λ ks. cond (is_pop i) true (same_kinds (map kind_in operands) ks)) (sym (reverse-reverse (pushed t)) ∙ ap reverse kinds)

map-last : (place : List Operand) (last : Operand) → map kind_in (place ++ last ∷ []) ≡ map kind_in place ++ kind_in last ∷ []
map-last [] last = refl
map-last (o ∷ place) last = ap (λ ks. kind_in o ∷ ks) (map-last place last)

pub stored_kinds : (operands place : List Operand) (last : Operand) (kinds : List Kind) (value : Kind) → operands ≡ place ++ last ∷ []
    → same_kinds (map kind_in operands) (kinds ++ value ∷ []) ≡ (same_kinds (map kind_in place) kinds && same_kind (kind_in last) value)
stored_kinds operands place last kinds value is =
    ap (λ os. same_kinds (map kind_in os) (kinds ++ value ∷ [])) is ∙ ap (λ ks. same_kinds ks (kinds ++ value ∷ [])) (map-last place last) ∙ same_last (map kind_in place) kinds (kind_in last) value

last_of : (xs : List Operand) (n : ℕ) (d : Operand) → length xs ≡ suc n → xs ≡ take n xs ++ get_or xs n d ∷ []
last_of [] n d e = absurd (omega (arith, e))
last_of (x ∷ []) zero d e = refl
last_of (x ∷ y ∷ xs) zero d e = absurd (omega (arith, e))
last_of (x ∷ xs) (suc n) d e = ap (λ ys. x ∷ ys) (last_of xs n d (omega (arith, e)))

pub stored_are : (operands : List Operand) (d : Operand) (kinds : List Kind) (value : Kind) (placed valued : Bool) → 1 ≤ length operands
    → placed ≡ same_kinds (map kind_in (take (length operands - 1) operands)) kinds → valued ≡ same_kind (kind_in (get_or operands (length operands - 1) d)) value
    → (placed && valued) ≡ same_kinds (map kind_in operands) (kinds ++ value ∷ [])
stored_are operands d kinds value placed valued some p v =
    ap (λ b. b && valued) p ∙ ap (λ b. same_kinds (map kind_in (take (length operands - 1) operands)) kinds && b) v
    ∙ sym (stored_kinds operands (take (length operands - 1) operands) (get_or operands (length operands - 1) d) kinds value (last_of operands (length operands - 1) d (omega (arith, some))))

pub none_are_none : (operands : List Operand) → (length operands == 0) ≡ same_kinds (map kind_in operands) []
none_are_none [] = refl
none_are_none (o ∷ operands) = grind arith
