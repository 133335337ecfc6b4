-- What keys say is read back, so different operands have different keys.
use Rattle.std.proofs.Common.{◌≡◌, ◌+◌, ℕ, Bool, true, false, List, [], ◌∷◌, length, map, take, drop, refl, sym, ap, ◌∙◌, arith, rules}
use Rattle.std.specs.Prelude.{not, nat_eq, nat_lt, cond, unwrap_or, Some, None}
use Rattle.std.specs.List.{AllByRecursion as Every, position_or_len}
use Rattle.std.specs.Str.{bytes_eq}
use Rattle.std.specs.Int.{w32, w64, from_le_bytes}
use Rattle.std.proofs.lemmas.Nat.{from_le_bytes-to_le_bytes_4, from_le_bytes-to_le_bytes_8}
use Rattle.std.proofs.lemmas.Slice.Eq.{bytes_eq-Decides}
use Rattle.rc_core.specs.declared.ty.Note.TheVariants.{Plain, SameRegion, ParentPtr, Traditional}
use Rattle.rc_core.specs.Types.{Ty, int, unsigned, char, region, struct, pointer}
use Rattle.rc_emission.specs.KeptOperands.{Kept, kept_at, same_kept, place_in, counted_on}
use Rattle.rc_scope.specs.Names.{number_of}
use Rattle.rc_lines.specs.Keys.{type_key, TypeHasKey, HasKey}
use Rattle.rc_lines.specs.Keyed.{key_of}
use Rattle.rc_scope.proofs.Numbers.{first_at_end}
use Rattle.rc_emission.proofs.SameOperands.{kept_is, kept_self}

abbrev read_by : ℕ → List ℕ → Ty → Ty
read_by b bs t =
    cond (nat_eq b 0) int (cond (nat_eq b 1) unsigned (cond (nat_eq b 2) char (cond (nat_eq b 3) region (cond (nat_eq b 4) (struct (from_le_bytes w32 bs))
    (cond (nat_eq b 5) (pointer Plain t) (cond (nat_eq b 6) (pointer SameRegion t) (cond (nat_eq b 7) (pointer ParentPtr t) (pointer Traditional t))))))))

abbrev read_type : List ℕ → Ty
read_type [] = int
read_type (b ∷ bs) = read_by b bs (read_type bs)

type_read : (ty : Ty) → TypeHasKey ty → read_type (type_key ty) ≡ ty
type_read int h = refl
type_read unsigned h = refl
type_read char h = refl
type_read region h = refl
type_read (struct k) h = ap struct (from_le_bytes-to_le_bytes_4 k h)
type_read (pointer Plain target) h = ap (pointer Plain) (type_read target h)
type_read (pointer SameRegion target) h = ap (pointer SameRegion) (type_read target h)
type_read (pointer ParentPtr target) h = ap (pointer ParentPtr) (type_read target h)
type_read (pointer Traditional target) h = ap (pointer Traditional) (type_read target h)

abbrev read_kept : List ℕ → Kept
read_kept bs = kept_at (from_le_bytes w64 (take 8 bs)) (read_type (drop 8 bs))

kept_read : (k : Kept) → HasKey k → read_kept (key_of k) ≡ k
kept_read k h = ap (λ n. kept_at n (read_type (type_key k.ty))) (from_le_bytes-to_le_bytes_8 k.height h.height) ∙ ap (kept_at k.height) (type_read k.ty h.ty)

key_apart : (a b : Kept) → HasKey a → HasKey b → key_of a ≡ key_of b → a ≡ b
key_apart a b ha hb e = sym (kept_read a ha) ∙ ap read_kept e ∙ kept_read b hb

equal_tests : (b c : Bool) → (b ≡ true → c ≡ true) → (c ≡ true → b ≡ true) → b ≡ c
equal_tests true c f g = sym (f refl)
equal_tests false true f g = g refl
equal_tests false false f g = refl

bytes_is : (xs ys : List ℕ) → bytes_eq xs ys ≡ true → xs ≡ ys
bytes_is xs ys = (bytes_eq-Decides xs ys).0

bytes_self : (xs : List ℕ) → bytes_eq xs xs ≡ true
bytes_self xs = (bytes_eq-Decides xs xs).1 refl

same_test : (a x : Kept) → HasKey a → HasKey x → bytes_eq (key_of a) (key_of x) ≡ same_kept x a
same_test a x ha hx =
    equal_tests (bytes_eq (key_of a) (key_of x)) (same_kept x a)
    (λ e. ap (λ k. same_kept x k) (key_apart a x ha hx (bytes_is (key_of a) (key_of x) e)) ∙ kept_self x)
    (λ e. ap (λ k. bytes_eq (key_of a) (key_of k)) (kept_is x a e) ∙ bytes_self (key_of a))

pub places_are : (table : List Kept) (k : Kept) → Every HasKey table → HasKey k → position_or_len (bytes_eq (key_of k)) (map key_of table) ≡ place_in same_kept table k
places_are [] k ht hk = refl
places_are (x ∷ table) k ht hk = by (bytes_eq (key_of k) (key_of x)) (same_kept x k) (same_test k x hk ht.0) (places_are table k ht.1 hk)
  where
    by : (b c : Bool) → b ≡ c → position_or_len (bytes_eq (key_of k)) (map key_of table) ≡ place_in same_kept table k → cond (not b) (1 + position_or_len (bytes_eq (key_of k)) (map key_of table)) 0 ≡ counted_on c (place_in same_kept table k)
    by true true e p = refl
    by true false e p = absurd (search (rules, e))
    by false true e p = absurd (search (rules, e))
    by false false e p = omega (arith, p)

number_or : (names : List (List ℕ)) (name : List ℕ) → number_of names name ≡ position_or_len (bytes_eq name) names
number_or names name = by (nat_lt (position_or_len (bytes_eq name) names) (length names)) refl
  where
    by : (b : Bool) → nat_lt (position_or_len (bytes_eq name) names) (length names) ≡ b → unwrap_or (cond b (Some (position_or_len (bytes_eq name) names)) None) (length names) ≡ position_or_len (bytes_eq name) names
    by true e = refl
    by false e = sym (first_at_end names name (ap (λ b. cond b (Some (position_or_len (bytes_eq name) names)) None) e))

pub numbered : (table : List Kept) (k : Kept) → Every HasKey table → HasKey k → number_of (map key_of table) (key_of k) ≡ place_in same_kept table k
numbered table k ht hk = number_or (map key_of table) (key_of k) ∙ places_are table k ht hk
