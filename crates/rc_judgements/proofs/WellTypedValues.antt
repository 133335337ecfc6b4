-- Values fit: what computes a value has the type that the rules give it.
use Rattle.std.specs.Prelude.{◌≡◌, ℕ, List, Option, Some, None, Bool, true, false, ◌&&◌, IsTrue, IsSome, nat_eq, slice_get}
use Rattle.std.proofs.Common.{refl, sym, ap, subst, arith}
use Rattle.std.proofs.lemmas.Bool.{false≢true}
use Rattle.std.proofs.lemmas.Bool.Decides.{nat_tests}
use Rattle.rc_syntax.specs.declared.tree.Spot.{Spot}
use Rattle.rc_core.specs.declared.ty.Note.{Note}
use Rattle.rc_core.specs.declared.ty.Note.TheVariants.{Plain, SameRegion, ParentPtr, Traditional}
use Rattle.rc_core.specs.declared.ty.NumberType.{NumberType}
use Rattle.rc_core.specs.declared.ty.NumberType.TheVariants.{Int, Unsigned, Char}
use Rattle.rc_core.specs.declared.ty.Signedness.{Signedness}
use Rattle.rc_core.specs.Arithmetic.{type_of}
use Rattle.rc_core.specs.Types.{Ty, int, unsigned, char, region, struct, pointer}
use Rattle.rc_core.specs.Programs as p
use Rattle.rc_core.specs.Layout.{field_at}
use Rattle.rc_core.specs.Typing.{number, arithmetic, value_type, promoted, is_null_word, is_reference, NotNull, HasType, IsPlace, IsValue}
use Rattle.rc_deletes.specs.declared.fault.Refusal.TheVariants.{Mistyped}
use Rattle.rc_deletes.specs.Judged.{Holds, fails}
use Rattle.rc_deletes.specs.Kinds.{sort_of, sort_of_type, same_type, same_note, same_value_type, same_types}
use Rattle.rc_deletes.specs.Values.{Typed, Meant, a_value, a_variable, a_place, an_array, as_value, read_place, converted, in_arithmetic, promoted_value, fitted, fitted_by, condition_rule, is_truthy}
use Rattle.rc_judgements.proofs.Held.{Held, Given, held_if}

pub value_type_twice : (t : Ty) → value_type (value_type t) ≡ value_type t
value_type_twice int = refl
value_type_twice unsigned = refl
value_type_twice char = refl
value_type_twice region = refl
value_type_twice (struct k) = refl
value_type_twice (pointer note t) = refl

pub same_note_is : (m n : Note) → IsTrue (same_note m n) → m ≡ n
same_note_is Plain Plain h = refl
same_note_is SameRegion SameRegion h = refl
same_note_is ParentPtr ParentPtr h = refl
same_note_is Traditional Traditional h = refl
same_note_is _ _ h = absurd (false≢true h)

pub and_left : (a b : Bool) → IsTrue (a && b) → IsTrue a
and_left true b h = refl
and_left false b h = absurd (false≢true h)

pub and_right : (a b : Bool) → IsTrue (a && b) → IsTrue b
and_right true b h = h
and_right false b h = absurd (false≢true h)

pub nat_eq_is : (m n : ℕ) → IsTrue (nat_eq m n) → m ≡ n
nat_eq_is m n h = grind (arith, nat_tests)

pub same_type_is : (t u : Ty) → IsTrue (same_type t u) → t ≡ u
same_type_is int int h = refl
same_type_is unsigned unsigned h = refl
same_type_is char char h = refl
same_type_is region region h = refl
same_type_is (struct k) (struct l) h = ap struct (nat_eq_is k l h)
same_type_is (pointer m t) (pointer n u) h = let e = same_note_is m n (and_left (same_note m n) (same_type t u) h) in let f = same_type_is t u (and_right (same_note m n) (same_type t u) h) in cc
same_type_is _ _ h = absurd (false≢true h)

-- values of one type
pub same_value_type_is : (t u : Ty) → IsTrue (same_value_type t u) → value_type t ≡ value_type u
same_value_type_is (pointer m t) (pointer n u) h = ap (pointer Plain) (same_type_is t u h)
same_value_type_is (pointer m t) int h = absurd (false≢true h)
same_value_type_is (pointer m t) unsigned h = absurd (false≢true h)
same_value_type_is (pointer m t) char h = absurd (false≢true h)
same_value_type_is (pointer m t) region h = absurd (false≢true h)
same_value_type_is (pointer m t) (struct k) h = absurd (false≢true h)
same_value_type_is int u h = ap value_type (same_type_is int u h)
same_value_type_is unsigned u h = ap value_type (same_type_is unsigned u h)
same_value_type_is char u h = ap value_type (same_type_is char u h)
same_value_type_is region u h = ap value_type (same_type_is region u h)
same_value_type_is (struct k) u h = ap value_type (same_type_is (struct k) u h)

module _ (program : p.Program) (locals : List Ty) where
  -- the word `NULL` has no type of its own, every other value the one that it is given
  abbrev pub IsOf : Option Ty → p.Expr → Type 0
  IsOf None e = IsTrue (is_null_word e)
  IsOf (Some t) e = HasType program locals e (value_type t) × NotNull e

  abbrev pub Fits : Typed → Type 0
  Fits v = IsOf v.ty v.code

  abbrev pub IsArrayField : (structure field : ℕ) → Ty → Type 0
  IsArrayField s f t = (d : p.Field) × ((field_at program.structs s f ≡ Some d) × IsSome d.count × (d.ty ≡ t))

  abbrev pub Means : Meant → Type 0
  Means (a_value v) = Fits v
  Means (a_variable x t) = slice_get locals x ≡ Some t
  Means (a_place place t) = IsPlace program locals place t
  Means (an_array place s f t) = IsPlace program locals place (struct s) × IsArrayField s f t

  pub null_word : (e : p.Expr) → IsTrue (is_null_word e) → (line : ℕ) × (e ≡ p.null line)
  null_word (p.null line) h = (line, refl)
  null_word _ h = absurd (false≢true h)

  the_null_has : (line : ℕ) (t : Ty) → IsTrue (is_reference t) → HasType program locals (p.null line) (value_type t)
  the_null_has line region r = (refl, refl)
  the_null_has line (pointer note t) r = (refl, refl)
  the_null_has line int r = absurd (false≢true r)
  the_null_has line unsigned r = absurd (false≢true r)
  the_null_has line char r = absurd (false≢true r)
  the_null_has line (struct k) r = absurd (false≢true r)

  pub null_has : (e : p.Expr) (t : Ty) → IsTrue (is_null_word e) → IsTrue (is_reference t) → HasType program locals e (value_type t)
  null_has e t h r = let n = null_word e h in subst (λ x. HasType program locals x (value_type t)) (sym n.1) (the_null_has n.0 t r)

  pub read_fits : (at : Spot) (place : p.Place) (t : Ty) → IsPlace program locals place t → Held Fits (read_place at (sort_of_type t) place t)
  read_fits at place int h = ((int, (h, refl, refl)), refl)
  read_fits at place unsigned h = ((unsigned, (h, refl, refl)), refl)
  read_fits at place char h = ((char, (h, refl, refl)), refl)
  read_fits at place region h = ((region, (h, refl, refl)), refl)
  read_fits at place (struct k) h = tt
  read_fits at place (pointer note t) h = ((pointer note t, (h, refl, refl)), refl)

  pub value_fits : (at : Spot) (m : Meant) → Means m → Held Fits (as_value at m)
  value_fits at (a_value v) h = h
  value_fits at (a_variable x t) h = ((t, (h, value_type_twice t)), refl)
  value_fits at (a_place place t) h = read_fits at place t h
  value_fits at (an_array place s f t) h = tt

  pub converted_fits : (from to : NumberType) (v : Typed) → HasType program locals v.code (number from) → HasType program locals (converted from to v) (number to)
  converted_fits Int Int v h = h
  converted_fits Unsigned Unsigned v h = h
  converted_fits Char Char v h = h
  converted_fits Int Unsigned v h = (refl, λ e. cc, h)
  converted_fits Int Char v h = (refl, λ e. cc, h)
  converted_fits Unsigned Int v h = (refl, λ e. cc, h)
  converted_fits Unsigned Char v h = (refl, λ e. cc, h)
  converted_fits Char Int v h = (refl, λ e. cc, h)
  converted_fits Char Unsigned v h = (refl, λ e. cc, h)

  pub converted_word : (from to : NumberType) (v : Typed) → NotNull v.code → NotNull (converted from to v)
  converted_word Int Int v h = h
  converted_word Unsigned Unsigned v h = h
  converted_word Char Char v h = h
  converted_word Int Unsigned v h = refl
  converted_word Int Char v h = refl
  converted_word Unsigned Int v h = refl
  converted_word Unsigned Char v h = refl
  converted_word Char Int v h = refl
  converted_word Char Unsigned v h = refl

  pub arithmetic_fits : (from : NumberType) (s : Signedness) (v : Typed) → HasType program locals v.code (number from) → HasType program locals (in_arithmetic from s v) (arithmetic s)
  arithmetic_fits from s v h = converted_fits from (type_of s) v h

  pub promoted_fits : (from : NumberType) (v : Typed) → HasType program locals v.code (number from) → (s : Signedness) × HasType program locals (promoted_value from v) (arithmetic s)
  promoted_fits from v h = (promoted from, converted_fits from (type_of (promoted from)) v h)

  pointers_fit : (b : Bool) (m n : Note) (t u : Ty) (v : Typed) → (IsTrue b → t ≡ u) → HasType program locals v.code (pointer Plain u) → Given (λ e. HasType program locals e (pointer Plain t)) (fitted_by (sort_of_type (pointer m t)) (sort_of_type (pointer n u)) b v)
  pointers_fit true m n t u v e h = subst (λ x. HasType program locals v.code (pointer Plain x)) (sym (e refl)) h
  pointers_fit false m n t u v e h = tt

  fitted_of : (t : Ty) (ty : Option Ty) (v : Typed) → IsOf ty v.code → Given (λ e. HasType program locals e (value_type t)) (fitted_by (sort_of_type t) (sort_of ty) (same_types (Some t) ty) v)
  fitted_of int (Some int) v h = converted_fits Int Int v h.0
  fitted_of int (Some unsigned) v h = converted_fits Unsigned Int v h.0
  fitted_of int (Some char) v h = converted_fits Char Int v h.0
  fitted_of unsigned (Some int) v h = converted_fits Int Unsigned v h.0
  fitted_of unsigned (Some unsigned) v h = converted_fits Unsigned Unsigned v h.0
  fitted_of unsigned (Some char) v h = converted_fits Char Unsigned v h.0
  fitted_of char (Some int) v h = converted_fits Int Char v h.0
  fitted_of char (Some unsigned) v h = converted_fits Unsigned Char v h.0
  fitted_of char (Some char) v h = converted_fits Char Char v h.0
  fitted_of region (Some region) v h = h.0
  fitted_of region None v h = null_has v.code region h refl
  fitted_of (pointer m t) None v h = null_has v.code (pointer m t) h refl
  fitted_of (pointer m t) (Some (pointer n u)) v h = pointers_fit (same_type t u) m n t u v (same_type_is t u) h.0
  fitted_of _ _ v h = tt

  pub fitted_fits : (t : Ty) (v : Typed) → Fits v → Given (λ e. HasType program locals e (value_type t)) (fitted t v)
  fitted_fits t v h = fitted_of t v.ty v h

  truthy_of : (at : Spot) (ty : Option Ty) (e : p.Expr) → IsOf ty e → IsTrue (is_truthy (sort_of ty)) → IsValue program locals e
  truthy_of at None e h k = absurd (false≢true k)
  truthy_of at (Some t) e h k = (h.1, (value_type t, h.0))

  pub truthy : (at : Spot) (v : Typed) → Fits v → IsTrue (is_truthy (sort_of v.ty)) → IsValue program locals v.code
  truthy at v h k = truthy_of at v.ty v.code h k

  pub condition_fits : (at : Spot) (v : Typed) → Fits v → Held (IsValue program locals) (condition_rule at v)
  condition_fits at v h = held_if (IsValue program locals) (is_truthy (sort_of v.ty)) (Holds v.code) (fails at Mistyped) (λ k. truthy at v h k) (λ k. tt)
