-- Shapes that pass the test are the same.
use Rattle.std.proofs.Common.{◌≡◌, ◌∙◌, Bool, true, false, [], ◌∷◌, refl, ap}
use Rattle.std.specs.Prelude.{◌&&◌}
use Rattle.std.proofs.lemmas.Bool.{false≢true}
use Rattle.rc_core.specs.declared.ty.Note.{Note}
use Rattle.rc_core.specs.declared.ty.Note.TheVariants.{Plain, SameRegion, ParentPtr, Traditional}
use Rattle.rc_core.specs.declared.layouts.Kind.{Kind}
use Rattle.rc_core.specs.declared.layouts.Kind.TheVariants.{Number, Region, Pointer}
use Rattle.rc_areas.specs.Shapes.{Shape, is_kind, is_note, is_shape}

same_note : (a b : Note) → is_note a b ≡ true → a ≡ b
same_note Plain Plain same = refl
same_note Plain SameRegion same = absurd (false≢true same)
same_note Plain ParentPtr same = absurd (false≢true same)
same_note Plain Traditional same = absurd (false≢true same)
same_note SameRegion Plain same = absurd (false≢true same)
same_note SameRegion SameRegion same = refl
same_note SameRegion ParentPtr same = absurd (false≢true same)
same_note SameRegion Traditional same = absurd (false≢true same)
same_note ParentPtr Plain same = absurd (false≢true same)
same_note ParentPtr SameRegion same = absurd (false≢true same)
same_note ParentPtr ParentPtr same = refl
same_note ParentPtr Traditional same = absurd (false≢true same)
same_note Traditional Plain same = absurd (false≢true same)
same_note Traditional SameRegion same = absurd (false≢true same)
same_note Traditional ParentPtr same = absurd (false≢true same)
same_note Traditional Traditional same = refl

pub same_kind : (a b : Kind) → is_kind a b ≡ true → a ≡ b
same_kind Number Number same = refl
same_kind Number Region same = absurd (false≢true same)
same_kind Number (Pointer b) same = absurd (false≢true same)
same_kind Region Number same = absurd (false≢true same)
same_kind Region Region same = refl
same_kind Region (Pointer b) same = absurd (false≢true same)
same_kind (Pointer a) Number same = absurd (false≢true same)
same_kind (Pointer a) Region same = absurd (false≢true same)
same_kind (Pointer a) (Pointer b) same = ap Pointer (same_note a b same)

both_true : (a b : Bool) → (a && b) ≡ true → (a ≡ true) × (b ≡ true)
both_true true true both = (refl, refl)
both_true true false both = absurd (false≢true both)
both_true false b both = absurd (false≢true both)

pub same_shape : (a b : Shape) → is_shape a b ≡ true → a ≡ b
same_shape [] [] same = refl
same_shape [] (l ∷ ls) same = absurd (false≢true same)
same_shape (k ∷ ks) [] same = absurd (false≢true same)
same_shape (k ∷ ks) (l ∷ ls) same =
    let both = both_true (is_kind k l) (is_shape ks ls) same in
    ap (λ x. x ∷ ks) (same_kind k l both.0) ∙ ap (λ xs. l ∷ xs) (same_shape ks ls both.1)
