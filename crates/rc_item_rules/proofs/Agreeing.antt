-- Lists of types that are compared.
use Rattle.std.proofs.Common.{◌≡◌, refl, List, [], ◌∷◌, false, length, map, arith}
use Rattle.std.proofs.Math.Bool.{and-false}
use Rattle.rc_core.specs.declared.ty.Ty.{Ty as CodeTy}
use Rattle.rc_core.specs.Shapes.{ty_of}
use Rattle.rc_deletes.specs.declared.builtin.Parameter.{Parameter as CodeParameter}
use Rattle.rc_deletes.specs.Builtins.{parameter_of}
use Rattle.rc_deletes.specs.Kinds.{same_type}
use Rattle.rc_deletes.specs.Items.{same_takes, is_taken, are_taken}

pub other_lengths : (ts us : List CodeTy) → ¬ (length ts ≡ length us) → same_takes (map ty_of ts) (map ty_of us) ≡ false
other_lengths [] [] h = absurd (h refl)
other_lengths [] (u ∷ us) h = refl
other_lengths (t ∷ ts) [] h = refl
other_lengths (t ∷ ts) (u ∷ us) h = rw (other_lengths ts us (λ e. h (omega arith))) (and-false (same_type (ty_of t) (ty_of u)))

pub other_numbers : (qs : List CodeParameter) (us : List CodeTy) → ¬ (length qs ≡ length us) → are_taken (map parameter_of qs) (map ty_of us) ≡ false
other_numbers [] [] h = absurd (h refl)
other_numbers [] (u ∷ us) h = refl
other_numbers (q ∷ qs) [] h = refl
other_numbers (q ∷ qs) (u ∷ us) h = rw (other_numbers qs us (λ e. h (omega arith))) (and-false (is_taken (parameter_of q) (ty_of u)))
