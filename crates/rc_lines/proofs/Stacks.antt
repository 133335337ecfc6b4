-- Stacks of operands: what is on top, and what is below it.
use Rattle.std.proofs.Common.{◌≡◌, ◌<◌, ◌≤◌, ◌-◌, ◌+◌, ℕ, zero, suc, List, [], ◌∷◌, ◌++◌, length, get_or, map, take, drop, length-drop, refl, sym, ap, ◌∙◌, arith}
use Rattle.std.proofs.Math.Seq.{take-suc, take-append_seam, drop-append_seam}
use Rattle.std.proofs.lemmas.List.{map-append, length-map, take-append-drop, append-nil}
use Rattle.std.specs.List.{take-map, drop-map}
use Rattle.std.specs.Prelude.{Bool, Option, Some, None}
use Rattle.rc_core.specs.declared.ty.Signedness.{Signedness}
use Rattle.rc_core.specs.Types.{Ty}
use Rattle.rc_rlang.specs.RegionCode.{Index, Access, width, shift_width}
use Rattle.rc_rlang.specs.RegionFits.{index_types, shift_types, place_types, pushed, dropped}
use Rattle.rc_emission.specs.StackCode.{Line, pop}
use Rattle.rc_emission.specs.OperationCode.{line_of}
use Rattle.rc_emission.specs.StatementCode.{pops}
use Rattle.rc_lines.specs.declared.operands.Operand.{Operand}
use Rattle.rc_lines.specs.Bare.{bare_code}
use Rattle.rc_lines.specs.Operands.{type_of, types_on}

pub pushed_append : (xs ys below : List Ty) → pushed (xs ++ ys) below ≡ pushed ys (pushed xs below)
pushed_append [] ys below = refl
pushed_append (x ∷ xs) ys below = pushed_append xs ys (x ∷ below)

pub types_behind : (xs : List Operand) (o : Operand) → types_on (xs ++ o ∷ []) ≡ type_of o ∷ types_on xs
types_behind xs o = ap (λ tys. pushed tys []) (map-append type_of xs (o ∷ [])) ∙ pushed_append (map type_of xs) (type_of o ∷ []) []

pub length_pushed : (xs below : List Ty) → length (pushed xs below) ≡ length xs + length below
length_pushed [] below = let e : length below ≡ 0 + length below = omega arith in e
length_pushed (x ∷ xs) below = length_pushed xs (x ∷ below) ∙ (let e : length xs + length (x ∷ below) ≡ length (x ∷ xs) + length below = omega arith in e)

pub length_types : (xs : List Operand) → length (types_on xs) ≡ length xs
length_types xs = length_pushed (map type_of xs) [] ∙ (let e : length (map type_of xs) + 0 ≡ length (map type_of xs) = omega arith in e) ∙ length-map xs type_of

drop_none : (n : ℕ) → dropped n [] ≡ []
drop_none zero = refl
drop_none (suc n) = refl

drop_pushed : (m : ℕ) (xs below : List Ty) → dropped (m + length xs) (pushed xs below) ≡ dropped m below
drop_pushed m [] below = let e : m + 0 ≡ m = omega arith in ap (λ k. dropped k below) e
drop_pushed m (x ∷ xs) below =
    let e : m + length (x ∷ xs) ≡ suc m + length xs = omega arith in
    ap (λ k. dropped k (pushed xs (x ∷ below))) e ∙ drop_pushed (suc m) xs (x ∷ below)

pub drop_from : (n m : ℕ) (xs : List Ty) → m ≡ length xs - n → dropped n (pushed xs []) ≡ pushed (take m xs) []
drop_from n zero xs e =
    let over : n ≡ (n - length xs) + length xs = omega (arith, e) in
    ap (λ k. dropped k (pushed xs [])) over ∙ drop_pushed (n - length xs) xs [] ∙ drop_none (n - length xs)
drop_from n (suc m) xs e =
    let parts : pushed xs [] ≡ pushed (drop (suc m) xs) (pushed (take (suc m) xs) []) = ap (λ ys. pushed ys []) (sym (take-append-drop (suc m) xs)) ∙ pushed_append (take (suc m) xs) (drop (suc m) xs) [] in
    let over : n ≡ 0 + length (drop (suc m) xs) = omega (arith, e, length-drop (suc m) xs) in
    ap (λ ys. dropped n ys) parts ∙ ap (λ k. dropped k (pushed (drop (suc m) xs) (pushed (take (suc m) xs) []))) over ∙ drop_pushed 0 (drop (suc m) xs) (pushed (take (suc m) xs) [])

pub types_left : (n m : ℕ) (xs : List Operand) → m ≡ length xs - n → types_on (take m xs) ≡ dropped n (types_on xs)
types_left n m xs e =
    ap (λ tys. pushed tys []) (sym (take-map type_of m xs)) ∙ sym (drop_from n m (map type_of xs) (e ∙ ap (λ k. k - n) (sym (length-map xs type_of))))

-- one operand more, from the bottom
pub types_up : (xs : List Operand) (i : ℕ) (o : Operand) → i < length xs → o ≡ get_or xs i o → types_on (take (i + 1) xs) ≡ type_of o ∷ types_on (take i xs)
types_up xs i o h e =
    let k : i + 1 ≡ suc i = omega arith in
    ap (λ n. types_on (take n xs)) k ∙ ap types_on (take-suc xs i o h) ∙ types_behind (take i xs) (get_or xs i o) ∙ ap (λ p. type_of p ∷ types_on (take i xs)) (sym e)

pub place_width : (a : Access) → length (place_types a) ≡ width a
place_width a = ap suc (of a.shift)
  where
    indices : (is : List Index) → length (index_types is) ≡ length is
    indices [] = refl
    indices (i ∷ is) = ap suc (indices is)

    of : (s : Option Signedness) → length (shift_types s ++ index_types a.indices) ≡ shift_width s + length a.indices
    of None = indices a.indices ∙ (let e : length a.indices ≡ 0 + length a.indices = omega arith in e)
    of (Some s) = ap suc (indices a.indices) ∙ (let e : suc (length a.indices) ≡ 1 + length a.indices = omega arith in e)

-- so many operands are let go
abbrev pub some_pops : (line : ℕ) → ℕ → List Line
some_pops line zero = []
some_pops line (suc n) = line_of line pop ∷ some_pops line n

pub one_pop : (line n : ℕ) → some_pops line (n + 1) ≡ some_pops line n ++ line_of line pop ∷ []
one_pop line n = let e : n + 1 ≡ suc n = omega arith in ap (some_pops line) e ∙ again n
  where
    again : (k : ℕ) → some_pops line (suc k) ≡ some_pops line k ++ line_of line pop ∷ []
    again zero = refl
    again (suc k) = ap (λ ls. line_of line pop ∷ ls) (again k)

pub all_pops : (slot : ℕ → Ty → ℕ) (deleting : ℕ → Bool) (types : List Ty) (line : ℕ) (tys : List Ty) → bare_code 0 (pops slot deleting types line tys) ≡ some_pops line (length tys)
all_pops slot deleting types line [] = refl
all_pops slot deleting types line (ty ∷ tys) = ap (λ ls. line_of line pop ∷ ls) (all_pops slot deleting types line tys)

-- a stack's types, the lowest first
pushed_twice : (xs above ys : List Ty) → pushed (pushed xs above) ys ≡ pushed above (xs ++ ys)
pushed_twice [] above ys = refl
pushed_twice (x ∷ xs) above ys = pushed_twice xs (x ∷ above) ys

pub from_below : (xs ys : List Ty) → pushed xs [] ≡ pushed ys [] → xs ≡ ys
from_below xs ys e = sym (append-nil xs) ∙ sym (pushed_twice xs [] []) ∙ ap (λ tys. pushed tys []) e ∙ pushed_twice ys [] [] ∙ append-nil ys

-- the lowest operands are those of a place
pub place_below : (operands : List Operand) (a : Access) (tys : List Ty) (n : ℕ) → n ≡ width a → types_on operands ≡ pushed (place_types a ++ tys) [] → map type_of (take n operands) ≡ place_types a
place_below operands a tys n e h =
    sym (take-map type_of n operands) ∙ ap (take n) (from_below (map type_of operands) (place_types a ++ tys) h) ∙ ap (λ k. take k (place_types a ++ tys)) (e ∙ sym (place_width a)) ∙ take-append_seam (place_types a) tys

pub place_above : (operands : List Operand) (a : Access) (tys : List Ty) (n : ℕ) → n ≡ width a → types_on operands ≡ pushed (place_types a ++ tys) [] → map type_of (drop n operands) ≡ tys
place_above operands a tys n e h =
    sym (drop-map type_of n operands) ∙ ap (drop n) (from_below (map type_of operands) (place_types a ++ tys) h) ∙ ap (λ k. drop k (place_types a ++ tys)) (e ∙ sym (place_width a)) ∙ drop-append_seam (place_types a) tys

-- the topmost, above all others
pub on_top : (xs : List Operand) (m : ℕ) → m ≡ length xs - 1 → 1 ≤ length xs → (top : Ty) × (types_on xs ≡ top ∷ types_on (take m xs))
on_top xs m e some = by_types (types_on xs) (let n = length_types xs in omega (arith, n, some)) (types_left 1 m xs e)
  where
    by_types : (tys : List Ty) → 1 ≤ length tys → types_on (take m xs) ≡ dropped 1 tys → (top : Ty) × (tys ≡ top ∷ types_on (take m xs))
    by_types [] l d = absurd (omega arith)
    by_types (ty ∷ tys) l d = (ty, ap (λ ys. ty ∷ ys) (sym d))
