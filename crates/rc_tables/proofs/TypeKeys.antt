-- Different types have different keys.
use Rattle.std.proofs.Common.{◌≡◌, Bool, true, false, List, [], ◌∷◌, ◌++◌, refl, sym, ap, ◌∙◌, arith}
use Rattle.std.specs.Str.{bytes_eq}
use Rattle.std.specs.Int.{w64, to_le_bytes}
use Rattle.rc_core.specs.Types.{Ty}
use Rattle.rc_emission.specs.KeptOperands.{Kept, kept_at, counted_on, same_kept, same_type}
use Rattle.rc_emission.proofs.SameOperands.{kept_self}
use Rattle.rc_scope.specs.Names.{number_of}
use Rattle.rc_lines.specs.Keys.{type_key, TypeHasKey, HasKey}
use Rattle.rc_lines.specs.Keyed.{key_of}
use Rattle.rc_lines.proofs.KeptKeys.{numbered}
use Rattle.rc_numbering.proofs.Tabled.{type_is}
use Rattle.rc_tables.proofs.Places.{equal_tests, bytes_is, bytes_self}

-- an operand of the type, of height 0
has_key : (t : Ty) → TypeHasKey t → HasKey (kept_at 0 t)
has_key t h = record { height = omega arith; ty = h }

first_true : (b : Bool) → counted_on b 0 ≡ 0 → b ≡ true
first_true true e = refl
first_true false e = absurd (omega (arith, e))

same_where_keys_are : (a x : Ty) → TypeHasKey a → TypeHasKey x → type_key a ≡ type_key x → same_type x a ≡ true
same_where_keys_are a x ha hx e =
    let table : List Kept = kept_at 0 x ∷ [] in
    let one = numbered table (kept_at 0 a) (has_key x hx, tt) (has_key a ha) in
    let other = numbered table (kept_at 0 x) (has_key x hx, tt) (has_key x hx) in
    let self : counted_on (same_kept (kept_at 0 x) (kept_at 0 x)) 0 ≡ 0 = ap (λ b. counted_on b 0) (kept_self (kept_at 0 x)) in
    first_true (same_type x a) (sym one ∙ ap (λ k. number_of (key_of (kept_at 0 x) ∷ []) (to_le_bytes w64 0 ++ k)) e ∙ other ∙ self)

pub type_test : (a x : Ty) → TypeHasKey a → TypeHasKey x → bytes_eq (type_key a) (type_key x) ≡ same_type x a
type_test a x ha hx =
    equal_tests (bytes_eq (type_key a) (type_key x)) (same_type x a)
    (λ e. same_where_keys_are a x ha hx (bytes_is (type_key a) (type_key x) e))
    (λ e. ap (λ t. bytes_eq (type_key a) (type_key t)) (type_is x a e) ∙ bytes_self (type_key a))
