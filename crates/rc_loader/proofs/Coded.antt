-- Each kind has one number, so kinds are the same where their numbers are.
use Rattle.std.proofs.Common.{◌≡◌, ℕ, zero, suc, Bool, true, false, ◌==◌, refl, sym, ap, ◌∙◌}
use Rattle.std.proofs.lemmas.Bool.{eqb-true, eq-eqb}
use Rattle.rc_core.specs.declared.ty.Signedness.TheVariants.{Signed, Unsigned}
use Rattle.rc_code.specs.Soundness.{Kind, numbers, handles, pointers}
use Rattle.rc_loader.specs.Codes.{code_of, kind_coded}
use Rattle.rc_loader.specs.Decisions.{same_kind}
use Rattle.rc_loader.proofs.Sames.{kind_same, kind_itself}

pub kind_again : (k : Kind) → kind_coded (code_of k) ≡ k
kind_again (numbers Signed) = refl
kind_again (numbers Unsigned) = refl
kind_again handles = refl
kind_again (pointers t) = refl

code_again : (n : ℕ) → code_of (kind_coded n) ≡ n
code_again zero = refl
code_again (suc zero) = refl
code_again (suc (suc zero)) = refl
code_again (suc (suc (suc t))) = refl

pub coded_same : (m n : ℕ) → (m == n) ≡ same_kind (kind_coded m) (kind_coded n)
coded_same m n = by (m == n) (same_kind (kind_coded m) (kind_coded n)) one other
  where
    one : (m == n) ≡ true → same_kind (kind_coded m) (kind_coded n) ≡ true
    one e = ap (λ k. same_kind (kind_coded m) (kind_coded k)) (sym (eqb-true m n e)) ∙ kind_itself (kind_coded m)

    other : same_kind (kind_coded m) (kind_coded n) ≡ true → (m == n) ≡ true
    other e = eq-eqb m n (sym (code_again m) ∙ ap code_of (kind_same (kind_coded m) (kind_coded n) e) ∙ code_again n)

    by : (a b : Bool) → (a ≡ true → b ≡ true) → (b ≡ true → a ≡ true) → a ≡ b
    by true b to from = sym (to refl)
    by false true to from = from refl
    by false false to from = refl
