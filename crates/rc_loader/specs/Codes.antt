-- The numbers by which a loader keeps the kinds of operands: each kind has one, and no other kind has that.
use Rattle.std.specs.Prelude.{ℕ, zero, suc}
use Rattle.rc_core.specs.declared.ty.Signedness.TheVariants.{Signed, Unsigned}
use Rattle.rc_code.specs.Soundness.{Kind, numbers, handles, pointers}
use Rattle.rc_loader.specs.declared.operand.Operand.{Operand}

abbrev pub code_of : Kind → ℕ
code_of (numbers Signed) = 0
code_of (numbers Unsigned) = 1
code_of handles = 2
code_of (pointers t) = suc (suc (suc t))

-- the kind that has this number
abbrev pub kind_coded : ℕ → Kind
kind_coded zero = numbers Signed
kind_coded (suc zero) = numbers Unsigned
kind_coded (suc (suc zero)) = handles
kind_coded (suc (suc (suc t))) = pointers t

abbrev pub kind_in : Operand → Kind
kind_in o = kind_coded o.code
