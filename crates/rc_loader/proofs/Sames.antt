-- Kinds that a loader takes for the same are.
use Rattle.std.proofs.Common.{◌≡◌, ◌==◌, true, refl, ap}
use Rattle.std.proofs.lemmas.Bool.{eqb-true, eq-eqb}
use Rattle.rc_core.specs.declared.ty.Signedness.{Signedness}
use Rattle.rc_core.specs.declared.ty.Signedness.TheVariants.{Signed, Unsigned}
use Rattle.rc_code.specs.Image.{kind_number}
use Rattle.rc_code.specs.Soundness.{Kind, numbers, handles, pointers}
use Rattle.rc_loader.specs.Decisions.{same_kind}

sign_same : (s t : Signedness) → (kind_number s == kind_number t) ≡ true → s ≡ t
sign_same Signed Signed e = refl
sign_same Unsigned Unsigned e = refl
sign_same Signed Unsigned e = absurd cc
sign_same Unsigned Signed e = absurd cc

pub kind_same : (a b : Kind) → same_kind a b ≡ true → a ≡ b
kind_same (numbers s) (numbers t) e = ap numbers (sign_same s t e)
kind_same handles handles e = refl
kind_same (pointers t) (pointers u) e = ap pointers (eqb-true t u e)
kind_same (numbers s) handles e = absurd cc
kind_same (numbers s) (pointers u) e = absurd cc
kind_same handles (numbers s) e = absurd cc
kind_same handles (pointers u) e = absurd cc
kind_same (pointers t) (numbers s) e = absurd cc
kind_same (pointers t) handles e = absurd cc

pub kind_itself : (a : Kind) → same_kind a a ≡ true
kind_itself (numbers s) = eq-eqb (kind_number s) (kind_number s) refl
kind_itself handles = refl
kind_itself (pointers t) = eq-eqb t t refl
