-- Globals and paths are read as they are spelled, and keep their rules.
use Rattle.std.proofs.Common.{◌≡◌, ℕ, zero, suc, ◌+◌, ◌<◌, ◌≤◌, Bool, true, false, ◌&&◌, cond, ltb, eqb, List, [], ◌∷◌, ◌++◌, length, take, drop, Option, Ok, Err, refl, sym, ap, subst, ◌∙◌, append_assoc, arith}
use Rattle.std.specs.List.{AllByRecursion as Every}
use Rattle.std.proofs.lemmas.Bool.{eqb-true, ltb-true, ltb-false, lt-ltb, le-ltb, eqb-false, true_from_ne_false}
use Rattle.std.proofs.lemmas.List.{length-append, length-take, length-drop, take-append-drop, take_at, drop_at, get_or-drop}
use Rattle.rc_core.specs.declared.ty.Signedness.{Signedness}
use Rattle.rc_core.specs.declared.ty.NumberType.TheVariants as numbers
use Rattle.rc_code.specs.declared.kind.Cell.{Cell}
use Rattle.rc_code.specs.declared.kind.Cell.TheVariants as cell
use Rattle.rc_code.specs.declared.image.Initial.{Initial}
use Rattle.rc_code.specs.declared.image.Initial.TheVariants as initial
use Rattle.rc_code.specs.declared.image.Global.{Global}
use Rattle.rc_code.specs.declared.image.Index.{Index}
use Rattle.rc_code.specs.declared.image.Path.{Path}
use Rattle.rc_code.specs.Image.{IsNumber, kind_number, cell_bound, bound_of, cells_at, InitialFits, GlobalFits, IndexFits, is_nested, PathFits}
use Rattle.rc_code.specs.Reached.{span, has_one_kind}
use Rattle.rc_code.proofs.OneKind.{fits_by_tests, is_tested, span_inside}
use Rattle.rc_fields.specs.Spelling.{number, counted, initial_bytes, global_bytes, shift_number, index_bytes, path_bytes}
use Rattle.rc_fields.specs.Reading.{◌>>=◌, short, field, number_at, number_within, counted_at, kind_at, text_at, initial_of, initial_at, global_at, shift_at, index_at, keeps_rules, path_at}
use Rattle.rc_fields.proofs.Codecs.{IsBytes, no_then, no_else, ok_is, Takes, Takes-then, Law, not_zero, number_law, within_law, takes_then, counted_law}
use Rattle.rc_fields.proofs.Fields.{kind_law, shift_law}

-- ---- globals

cell_bound_small : (c : Cell) → cell_bound c ≤ 4294967296
cell_bound_small (cell.Number numbers.Int) = omega arith
cell_bound_small (cell.Number numbers.Unsigned) = omega arith
cell_bound_small (cell.Number numbers.Char) = omega arith
cell_bound_small cell.Region = omega arith
cell_bound_small (cell.Pointer note type) = omega arith

bound_small : (cells : List Cell) → bound_of cells ≤ 4294967296
bound_small [] = omega arith
bound_small (c ∷ []) = cell_bound_small c
bound_small (c ∷ d ∷ cells) = omega arith

IsBytes-drop : (n : ℕ) (bytes : List ℕ) → IsBytes bytes → IsBytes (drop n bytes)
IsBytes-drop n bytes h i = rw get_or-drop (h (n + i))

initial_takes : (cells : List Cell) (elements left n : ℕ) (bytes rest : List ℕ) (x : Initial × List ℕ) → Takes bytes (number n) rest → initial_of cells elements left n rest ≡ Ok x
    → Takes bytes (initial_bytes x.0) x.1 × InitialFits cells elements x.0
initial_takes cells elements left zero bytes rest x first e =
    subst (λ (y : Initial × List ℕ). Takes bytes (initial_bytes y.0) y.1 × InitialFits cells elements y.0) (ok_is (initial.Zeros, rest) x e) (first, tt)
initial_takes cells elements left (suc zero) bytes rest x first e =
    let p = no_else (eqb elements 1) (field left) (cond (eqb (bound_of cells) 0) (Err (field left)) (number_within 0 (bound_of cells) rest >>= λ n. Ok (initial.Number n.0, n.1))) x e in
    let q = no_then (eqb (bound_of cells) 0) (field left) (number_within 0 (bound_of cells) rest >>= λ n. Ok (initial.Number n.0, n.1)) x p.1 in
    let b = takes_then (number_within 0 (bound_of cells)) number (λ m. (0 ≤ m) × (m < bound_of cells)) (within_law 0 (bound_of cells) (bound_small cells)) (λ n. Ok (initial.Number n.0, n.1)) rest x first.rest_fits q.1 in
    subst (λ (y : Initial × List ℕ). Takes bytes (initial_bytes y.0) y.1 × InitialFits cells elements y.0) (ok_is (initial.Number b.0.0, b.0.1) x b.3)
    (Takes-then bytes (number 1) rest (number b.0.0) b.0.1 first b.1, (eqb-true elements 1 p.0, b.2.1))
initial_takes cells elements left (suc (suc zero)) bytes rest x first e =
    let p = no_else (eqb (bound_of cells) 256) (field left) (text_at elements rest) x e in
    let q = no_then (ltb (length rest) elements) short (Ok (initial.Bytes (take elements rest), drop elements rest)) x p.1 in
    let long : elements ≤ length rest = ltb-false (length rest) elements q.0 in
    let second : Takes rest (take elements rest) (drop elements rest) = record { parts = sym (take-append-drop elements rest); rest_fits = IsBytes-drop elements rest first.rest_fits } in
    subst (λ (y : Initial × List ℕ). Takes bytes (initial_bytes y.0) y.1 × InitialFits cells elements y.0) (ok_is (initial.Bytes (take elements rest), drop elements rest) x q.1)
    (Takes-then bytes (number 2) rest (take elements rest) (drop elements rest) first second, (eqb-true (bound_of cells) 256 p.0, omega (arith, length-take elements rest)))
initial_takes cells elements left (suc (suc (suc n))) bytes rest x first e = absurd cc

equal : (n : ℕ) → eqb n n ≡ true
equal n = true_from_ne_false (eqb n n) (λ e. eqb-false n n e refl)

initial_again : (cells : List Cell) (elements : ℕ) (i : Initial) (rest : List ℕ) → InitialFits cells elements i → initial_at cells elements (initial_bytes i ++ rest) ≡ Ok (i, rest)
unfolding initial_at
initial_again cells elements initial.Zeros rest fits = rw (number_law.again 0 rest (omega arith)) refl
initial_again cells elements (initial.Number n) rest fits =
    let one : eqb elements 1 ≡ true = rw fits.0 refl in
    let some : eqb (bound_of cells) 0 ≡ false = not_zero (bound_of cells) (omega (arith, fits.1)) in
    ap (initial_at cells elements) (append_assoc (number 1) (number n) rest)
    ∙ rw (number_law.again 1 (number n ++ rest) (omega arith), one, some, (within_law 0 (bound_of cells) (bound_small cells)).again n rest (omega arith, fits.1)) refl
initial_again cells elements (initial.Bytes bytes) rest fits =
    let char : eqb (bound_of cells) 256 ≡ true = rw fits.0 refl in
    let long : ltb (length (bytes ++ rest)) elements ≡ false = le-ltb (length (bytes ++ rest)) elements (omega (arith, length-append bytes rest, fits.1)) in
    ap (initial_at cells elements) (append_assoc (number 2) bytes rest)
    ∙ rw (number_law.again 2 (bytes ++ rest) (omega arith), char, long, take_at bytes rest elements fits.1, drop_at bytes rest elements fits.1) refl

initial_law : (cells : List Cell) (elements : ℕ) → Law (initial_at cells elements) initial_bytes (InitialFits cells elements)
unfolding initial_at
initial_law cells elements = record {
  takes = λ bytes x fits e.
      let b = takes_then number_at number IsNumber number_law (λ tag. initial_of cells elements (length bytes) tag.0 tag.1) bytes x fits e in
      initial_takes cells elements (length bytes) b.0.0 bytes b.0.1 x b.1 b.3;
  again = λ i rest f. initial_again cells elements i rest f;
}

global_again : (types : List (List Cell)) → IsNumber (length types) → (g : Global) (rest : List ℕ) → GlobalFits types g → global_at types (global_bytes g ++ rest) ≡ Ok (g, rest)
unfolding global_at
global_again types count g rest fits =
    let most : length types ≤ 4294967296 = omega (arith, count) in
    let regrouped : global_bytes g ++ rest ≡ number g.type_number ++ (number g.elements ++ (initial_bytes g.initial ++ rest)) = simp append_assoc in
    ap (global_at types) regrouped
    ∙ rw (
      (within_law 0 (length types) most).again g.type_number (number g.elements ++ (initial_bytes g.initial ++ rest)) (omega arith, fits.type),
      (within_law 1 2147483648 (omega arith)).again g.elements (initial_bytes g.initial ++ rest) (fits.some, omega (arith, fits.most)),
      (initial_law (cells_at types g.type_number) g.elements).again g.initial rest fits.initial,
    ) refl

pub global_law : (types : List (List Cell)) → IsNumber (length types) → Law (global_at types) global_bytes (GlobalFits types)
unfolding global_at
global_law types count = record {
  takes = λ bytes x fits e.
      let most : length types ≤ 4294967296 = omega (arith, count) in
      let a = takes_then (number_within 0 (length types)) number (λ m. (0 ≤ m) × (m < length types)) (within_law 0 (length types) most)
      (λ type. number_within 1 2147483648 type.1 >>= λ elements. initial_at (cells_at types type.0) elements.0 elements.1 >>= λ i. Ok (record { type_number = type.0; elements = elements.0; initial = i.0 }, i.1)) bytes x fits e in
      let b = takes_then (number_within 1 2147483648) number (λ m. (1 ≤ m) × (m < 2147483648)) (within_law 1 2147483648 (omega arith))
      (λ elements. initial_at (cells_at types a.0.0) elements.0 elements.1 >>= λ i. Ok (record { type_number = a.0.0; elements = elements.0; initial = i.0 }, i.1)) a.0.1 x a.1.rest_fits a.3 in
      let c = takes_then (initial_at (cells_at types a.0.0) b.0.0) initial_bytes (InitialFits (cells_at types a.0.0) b.0.0) (initial_law (cells_at types a.0.0) b.0.0)
      (λ i. Ok (record { type_number = a.0.0; elements = b.0.0; initial = i.0 }, i.1)) b.0.1 x b.1.rest_fits b.3 in
      let made : Global × List ℕ = (record { type_number = a.0.0; elements = b.0.0; initial = c.0.0 }, c.0.1) in
      let two = Takes-then bytes (number a.0.0) a.0.1 (number b.0.0) b.0.1 a.1 b.1 in
      let three = Takes-then bytes (number a.0.0 ++ number b.0.0) b.0.1 (initial_bytes c.0.0) c.0.1 two c.1 in
      subst (λ (y : Global × List ℕ). Takes bytes (global_bytes y.0) y.1 × GlobalFits types y.0) (ok_is made x c.3)
      (three, record { type = a.2.1; some = b.2.0; most = omega (arith, b.2.1); initial = c.2 });
  again = λ g rest f. global_again types count g rest f;
}

-- ---- paths

index_again : (i : Index) (rest : List ℕ) → IndexFits i → index_at (index_bytes i ++ rest) ≡ Ok (i, rest)
unfolding index_at
index_again i rest fits =
    let regrouped : index_bytes i ++ rest ≡ number i.length ++ (number i.stride ++ (number (kind_number i.kind) ++ rest)) = simp append_assoc in
    ap index_at regrouped
    ∙ rw (
      (within_law 1 4294967296 (omega arith)).again i.length (number i.stride ++ (number (kind_number i.kind) ++ rest)) (fits.some, fits.most),
      (within_law 1 4294967296 (omega arith)).again i.stride (number (kind_number i.kind) ++ rest) (fits.apart, fits.far),
      kind_law.again i.kind rest tt,
    ) refl

index_law : Law index_at index_bytes IndexFits
unfolding index_at
index_law = record {
  takes = λ bytes x fits e.
      let w = within_law 1 4294967296 (omega arith) in
      let a = takes_then (number_within 1 4294967296) number (λ m. (1 ≤ m) × (m < 4294967296)) w
      (λ count. number_within 1 4294967296 count.1 >>= λ stride. kind_at stride.1 >>= λ kind. Ok (record { length = count.0; stride = stride.0; kind = kind.0 }, kind.1)) bytes x fits e in
      let b = takes_then (number_within 1 4294967296) number (λ m. (1 ≤ m) × (m < 4294967296)) w
      (λ stride. kind_at stride.1 >>= λ kind. Ok (record { length = a.0.0; stride = stride.0; kind = kind.0 }, kind.1)) a.0.1 x a.1.rest_fits a.3 in
      let c = takes_then kind_at (λ k. number (kind_number k)) (λ k. Unit {0}) kind_law (λ kind. Ok (record { length = a.0.0; stride = b.0.0; kind = kind.0 }, kind.1)) b.0.1 x b.1.rest_fits b.3 in
      let made : Index × List ℕ = (record { length = a.0.0; stride = b.0.0; kind = c.0.0 }, c.0.1) in
      let two = Takes-then bytes (number a.0.0) a.0.1 (number b.0.0) b.0.1 a.1 b.1 in
      let three = Takes-then bytes (number a.0.0 ++ number b.0.0) b.0.1 (number (kind_number c.0.0)) c.0.1 two c.1 in
      subst (λ (y : Index × List ℕ). Takes bytes (index_bytes y.0) y.1 × IndexFits y.0) (ok_is made x c.3) (three, record { some = a.2.0; apart = b.2.0; most = a.2.1; far = b.2.1 });
  again = λ i rest f. index_again i rest f;
}

indices_law : Law (counted_at index_at) (counted index_bytes) (λ is. IsNumber (length is) × Every IndexFits is)
indices_law = counted_law index_at index_bytes IndexFits index_law

both : (a b : Bool) → (a && b) ≡ true → (a ≡ true) × (b ≡ true)
both true b e = (refl, e)
both false b e = absurd cc

all_three : (a b c : Bool) → a ≡ true → b ≡ true → c ≡ true → (a && b && c) ≡ true
all_three a b c e f g = rw (e, f, g) refl

path_again : (types : List (List Cell)) → IsNumber (length types) → (p : Path) (rest : List ℕ) → PathFits types p → path_at types (path_bytes p ++ rest) ≡ Ok (p, rest)
unfolding path_at
path_again types count p rest fits =
    let most : length types ≤ 4294967296 = omega (arith, count) in
    let regrouped : path_bytes p ++ rest ≡ number p.type_number ++ (number (shift_number p.shift) ++ (number p.offset ++ (counted index_bytes p.indices ++ rest))) = simp append_assoc in
    let from = drop p.offset (cells_at types p.type_number) in
    let inside : ltb (span p.indices) (length from) ≡ true = lt-ltb (span p.indices) (length from) (omega (arith, span_inside types p fits, length-drop p.offset (cells_at types p.type_number))) in
    let keeps : keeps_rules from p.indices ≡ true = all_three (is_nested p.indices) (ltb (span p.indices) (length from)) (has_one_kind p.indices from) fits.nested inside (is_tested types p fits) in
    ap (path_at types) regrouped
    ∙ rw (
      (within_law 0 (length types) most).again p.type_number (number (shift_number p.shift) ++ (number p.offset ++ (counted index_bytes p.indices ++ rest))) (omega arith, fits.type),
      shift_law.again p.shift (number p.offset ++ (counted index_bytes p.indices ++ rest)) tt,
      number_law.again p.offset (counted index_bytes p.indices ++ rest) fits.offset,
      indices_law.again p.indices rest (fits.count, fits.indices),
      keeps,
    ) refl

pub path_law : (types : List (List Cell)) → IsNumber (length types) → Law (path_at types) path_bytes (PathFits types)
unfolding path_at
path_law types count = record {
  takes = λ bytes x fits e.
      let most : length types ≤ 4294967296 = omega (arith, count) in
      let end = λ (type : ℕ) (shift : Option Signedness) (offset : ℕ) (is : List Index × List ℕ).
      cond (keeps_rules (drop offset (cells_at types type)) is.0) (Ok (record { type_number = type; shift = shift; offset = offset; indices = is.0 }, is.1)) (Err (field (length bytes))) in
      let a = takes_then (number_within 0 (length types)) number (λ m. (0 ≤ m) × (m < length types)) (within_law 0 (length types) most)
      (λ type. shift_at type.1 >>= λ shift. number_at shift.1 >>= λ offset. counted_at index_at offset.1 >>= λ is. end type.0 shift.0 offset.0 is) bytes x fits e in
      let b = takes_then shift_at (λ s. number (shift_number s)) (λ s. Unit {0}) shift_law (λ shift. number_at shift.1 >>= λ offset. counted_at index_at offset.1 >>= λ is. end a.0.0 shift.0 offset.0 is) a.0.1 x a.1.rest_fits a.3 in
      let c = takes_then number_at number IsNumber number_law (λ offset. counted_at index_at offset.1 >>= λ is. end a.0.0 b.0.0 offset.0 is) b.0.1 x b.1.rest_fits b.3 in
      let d = takes_then (counted_at index_at) (counted index_bytes) (λ is. IsNumber (length is) × Every IndexFits is) indices_law (λ is. end a.0.0 b.0.0 c.0.0 is) c.0.1 x c.1.rest_fits c.3 in
      let from = drop c.0.0 (cells_at types a.0.0) in
      let made : Path × List ℕ = (record { type_number = a.0.0; shift = b.0.0; offset = c.0.0; indices = d.0.0 }, d.0.1) in
      let g = no_else (keeps_rules from d.0.0) (field (length bytes)) (Ok made) x d.3 in
      let two = both (is_nested d.0.0 && ltb (span d.0.0) (length from)) (has_one_kind d.0.0 from) g.0 in
      let one = both (is_nested d.0.0) (ltb (span d.0.0) (length from)) two.0 in
      let inside : span d.0.0 < length from = ltb-true (span d.0.0) (length from) one.1 in
      let t2 = Takes-then bytes (number a.0.0) a.0.1 (number (shift_number b.0.0)) b.0.1 a.1 b.1 in
      let t3 = Takes-then bytes (number a.0.0 ++ number (shift_number b.0.0)) b.0.1 (number c.0.0) c.0.1 t2 c.1 in
      let t4 = Takes-then bytes (number a.0.0 ++ number (shift_number b.0.0) ++ number c.0.0) c.0.1 (counted index_bytes d.0.0) d.0.1 t3 d.1 in
      subst (λ (y : Path × List ℕ). Takes bytes (path_bytes y.0) y.1 × PathFits types y.0) (ok_is made x g.1) (
        t4,
        fits_by_tests types made.0 a.2.1 c.2 d.2.0 d.2.1 one.0 (omega (arith, inside, length-drop c.0.0 (cells_at types a.0.0))) two.1,
      );
  again = λ p rest f. path_again types count p rest f;
}
