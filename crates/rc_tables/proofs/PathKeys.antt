-- Different paths have different keys.
use Rattle.std.proofs.Common.{◌≡◌, ◌<◌, ◌^◌, ℕ, List, [], ◌∷◌, ◌++◌, take, drop, get_or, flat_map, Option, Some, None, refl, sym, ap, ◌∙◌, arith}
use Rattle.std.specs.List.{AllByRecursion as Every}
use Rattle.std.specs.Str.{bytes_eq}
use Rattle.std.specs.Int.{w32, to_le_bytes, from_le_bytes}
use Rattle.std.proofs.lemmas.Nat.{from_le_bytes-to_le_bytes_4}
use Rattle.rc_core.specs.declared.ty.Signedness.{Signedness}
use Rattle.rc_core.specs.declared.ty.Signedness.TheVariants.{Signed, Unsigned}
use Rattle.rc_code.specs.declared.image.Index.{Index}
use Rattle.rc_code.specs.declared.image.Path.{Path}
use Rattle.rc_numbering.specs.Names.{same_path}
use Rattle.rc_numbering.proofs.Tabled.{path_is, path_self}
use Rattle.rc_tables.specs.Keys.{kind_key, shift_key, index_key, path_key, IndexHasKey, PathHasKey}
use Rattle.rc_tables.proofs.Places.{equal_tests, bytes_is, bytes_self}

words_apart : (a b : ℕ) (xs ys : List ℕ) → a < 2 ^ 32 → b < 2 ^ 32 → to_le_bytes w32 a ++ xs ≡ to_le_bytes w32 b ++ ys → (a ≡ b) × (xs ≡ ys)
words_apart a b xs ys ha hb e = (sym (from_le_bytes-to_le_bytes_4 a ha) ∙ ap (λ l. from_le_bytes w32 (take 4 l)) e ∙ from_le_bytes-to_le_bytes_4 b hb, ap (drop 4) e)

heads : (x y : ℕ) (xs ys : List ℕ) → x ∷ xs ≡ y ∷ ys → (x ≡ y) × (xs ≡ ys)
heads x y xs ys e = (ap (λ l. get_or l 0 0) e, ap (drop 1) e)

kinds_apart : (s t : Signedness) → kind_key s ≡ kind_key t → s ≡ t
kinds_apart Signed Signed e = refl
kinds_apart Signed Unsigned e = absurd (omega (arith, e))
kinds_apart Unsigned Signed e = absurd (omega (arith, e))
kinds_apart Unsigned Unsigned e = refl

shifts_apart : (s t : Option Signedness) → shift_key s ≡ shift_key t → s ≡ t
shifts_apart None None e = refl
shifts_apart None (Some Signed) e = absurd (omega (arith, e))
shifts_apart None (Some Unsigned) e = absurd (omega (arith, e))
shifts_apart (Some Signed) None e = absurd (omega (arith, e))
shifts_apart (Some Unsigned) None e = absurd (omega (arith, e))
shifts_apart (Some s) (Some t) e = ap Some (kinds_apart s t e)

abbrev index_made : ℕ → ℕ → Signedness → Index
index_made length stride kind = record { length = length; stride = stride; kind = kind }

abbrev path_made : ℕ → Option Signedness → ℕ → List Index → Path
path_made t s o is = record { type_number = t; shift = s; offset = o; indices = is }

indices_apart : (is js : List Index) → Every IndexHasKey is → Every IndexHasKey js → flat_map index_key is ≡ flat_map index_key js → is ≡ js
indices_apart [] [] hi hj e = refl
indices_apart [] (j ∷ js) hi hj e = absurd (cc e)
indices_apart (i ∷ is) [] hi hj e = absurd (cc e)
indices_apart (i ∷ is) (j ∷ js) hi hj e =
    let k = heads (kind_key i.kind) (kind_key j.kind) (to_le_bytes w32 i.length ++ (to_le_bytes w32 i.stride ++ flat_map index_key is)) (to_le_bytes w32 j.length ++ (to_le_bytes w32 j.stride ++ flat_map index_key js)) e in
    let l = words_apart i.length j.length (to_le_bytes w32 i.stride ++ flat_map index_key is) (to_le_bytes w32 j.stride ++ flat_map index_key js) hi.0.length hj.0.length k.1 in
    let s = words_apart i.stride j.stride (flat_map index_key is) (flat_map index_key js) hi.0.stride hj.0.stride l.1 in
    ap (λ n. index_made n i.stride i.kind ∷ is) l.0
    ∙ ap (λ n. index_made j.length n i.kind ∷ is) s.0
    ∙ ap (λ n. index_made j.length j.stride n ∷ is) (kinds_apart i.kind j.kind k.0)
    ∙ ap (λ xs. j ∷ xs) (indices_apart is js hi.1 hj.1 s.1)

paths_apart : (p q : Path) → PathHasKey p → PathHasKey q → path_key p ≡ path_key q → p ≡ q
paths_apart p q hp hq e =
    let s = heads (shift_key p.shift) (shift_key q.shift) (to_le_bytes w32 p.type_number ++ (to_le_bytes w32 p.offset ++ flat_map index_key p.indices)) (to_le_bytes w32 q.type_number ++ (to_le_bytes w32 q.offset ++ flat_map index_key q.indices)) e in
    let t = words_apart p.type_number q.type_number (to_le_bytes w32 p.offset ++ flat_map index_key p.indices) (to_le_bytes w32 q.offset ++ flat_map index_key q.indices) hp.type_number hq.type_number s.1 in
    let o = words_apart p.offset q.offset (flat_map index_key p.indices) (flat_map index_key q.indices) hp.offset hq.offset t.1 in
    ap (λ n. path_made n p.shift p.offset p.indices) t.0
    ∙ ap (λ x. path_made q.type_number x p.offset p.indices) (shifts_apart p.shift q.shift s.0)
    ∙ ap (λ n. path_made q.type_number q.shift n p.indices) o.0
    ∙ ap (path_made q.type_number q.shift q.offset) (indices_apart p.indices q.indices hp.indices hq.indices o.1)

pub path_test : (p x : Path) → PathHasKey p → PathHasKey x → bytes_eq (path_key p) (path_key x) ≡ same_path x p
path_test p x hp hx =
    equal_tests (bytes_eq (path_key p) (path_key x)) (same_path x p)
    (λ e. ap (λ q. same_path x q) (paths_apart p x hp hx (bytes_is (path_key p) (path_key x) e)) ∙ path_self x)
    (λ e. ap (λ q. bytes_eq (path_key p) (path_key q)) (path_is x p e) ∙ bytes_self (path_key p))
