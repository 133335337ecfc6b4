-- Kinds of types of arithmetic, and of values.
use Rattle.std.proofs.Common.{◌≡◌, refl}
use Rattle.rc_core.specs.declared.ty.Signedness.{Signedness}
use Rattle.rc_core.specs.declared.ty.Signedness.TheVariants.{Signed, Unsigned as Wrapping}
use Rattle.rc_core.specs.Types.{Ty, int, unsigned, char, region, struct, pointer}
use Rattle.rc_core.specs.Typing.{arithmetic, value_type}
use Rattle.rc_rlang.specs.RegionKinds.{kind_ty}

pub kind_arith : (s : Signedness) → kind_ty (arithmetic s) ≡ arithmetic s
kind_arith Signed = refl
kind_arith Wrapping = refl

pub kind_value : (ty : Ty) → kind_ty (value_type ty) ≡ kind_ty ty
kind_value int = refl
kind_value unsigned = refl
kind_value char = refl
kind_value region = refl
kind_value (struct k) = refl
kind_value (pointer note target) = refl
