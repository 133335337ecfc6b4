-- Types, notes and operands are the same where the comparison says so.
use Rattle.std.proofs.Common.{◌≡◌, ℕ, Bool, true, false, refl, ap, ◌∙◌, rules}
use Rattle.std.specs.Prelude.{nat_eq, ◌&&◌}
use Rattle.rc_core.specs.declared.ty.Note.{Note}
use Rattle.rc_core.specs.declared.ty.Note.TheVariants.{Plain, SameRegion, ParentPtr, Traditional}
use Rattle.rc_core.specs.Types.{Ty, int, unsigned, char, region, struct, pointer}
use Rattle.rc_emission.specs.KeptOperands.{Kept, kept_at, same_note, same_type, same_kept}

number_is : (a b : ℕ) → nat_eq a b ≡ true → a ≡ b
number_is a b e = search (rules, e)

number_self : (a : ℕ) → nat_eq a a ≡ true
number_self a = search rules

both_true : (a b : Bool) → a && b ≡ true → (a ≡ true) × (b ≡ true)
both_true true true e = (refl, refl)
both_true true false e = absurd (cc e)
both_true false b e = absurd (cc e)

note_is : (a b : Note) → same_note a b ≡ true → a ≡ b
note_is Plain Plain e = refl
note_is Plain SameRegion e = cc
note_is Plain ParentPtr e = cc
note_is Plain Traditional e = cc
note_is SameRegion Plain e = cc
note_is SameRegion SameRegion e = refl
note_is SameRegion ParentPtr e = cc
note_is SameRegion Traditional e = cc
note_is ParentPtr Plain e = cc
note_is ParentPtr SameRegion e = cc
note_is ParentPtr ParentPtr e = refl
note_is ParentPtr Traditional e = cc
note_is Traditional Plain e = cc
note_is Traditional SameRegion e = cc
note_is Traditional ParentPtr e = cc
note_is Traditional Traditional e = refl

note_self : (a : Note) → same_note a a ≡ true
note_self Plain = refl
note_self SameRegion = refl
note_self ParentPtr = refl
note_self Traditional = refl

type_is : (a b : Ty) → same_type a b ≡ true → a ≡ b
type_is int int e = refl
type_is int unsigned e = cc
type_is int char e = cc
type_is int region e = cc
type_is int (struct l) e = cc
type_is int (pointer n u) e = cc
type_is unsigned int e = cc
type_is unsigned unsigned e = refl
type_is unsigned char e = cc
type_is unsigned region e = cc
type_is unsigned (struct l) e = cc
type_is unsigned (pointer n u) e = cc
type_is char int e = cc
type_is char unsigned e = cc
type_is char char e = refl
type_is char region e = cc
type_is char (struct l) e = cc
type_is char (pointer n u) e = cc
type_is region int e = cc
type_is region unsigned e = cc
type_is region char e = cc
type_is region region e = refl
type_is region (struct l) e = cc
type_is region (pointer n u) e = cc
type_is (struct k) int e = cc
type_is (struct k) unsigned e = cc
type_is (struct k) char e = cc
type_is (struct k) region e = cc
type_is (struct k) (struct l) e = ap struct (number_is k l e)
type_is (struct k) (pointer n u) e = cc
type_is (pointer m t) int e = cc
type_is (pointer m t) unsigned e = cc
type_is (pointer m t) char e = cc
type_is (pointer m t) region e = cc
type_is (pointer m t) (struct l) e = cc
type_is (pointer m t) (pointer n u) e = let p = both_true (same_note m n) (same_type t u) e in ap (λ x. pointer x t) (note_is m n p.0) ∙ ap (pointer n) (type_is t u p.1)

type_self : (a : Ty) → same_type a a ≡ true
type_self int = refl
type_self unsigned = refl
type_self char = refl
type_self region = refl
type_self (struct k) = number_self k
type_self (pointer m t) = ap (λ b. b && same_type t t) (note_self m) ∙ type_self t

pub kept_is : (a b : Kept) → same_kept a b ≡ true → a ≡ b
kept_is a b e =
    let p = both_true (nat_eq a.height b.height) (same_type a.ty b.ty) e in
    ap (λ h. kept_at h a.ty) (number_is a.height b.height p.0) ∙ ap (kept_at b.height) (type_is a.ty b.ty p.1)

pub kept_self : (a : Kept) → same_kept a a ≡ true
kept_self a = ap (λ b. b && same_type a.ty a.ty) (number_self a.height) ∙ type_self a.ty
