-- What instructions take and give, whatever their kinds.
use Rattle.std.proofs.Common.{◌≡◌, ◌∙◌, ℕ, suc, ◌+◌, ◌-◌, length, drop, refl, ap, length-append, length-drop}
use Rattle.rc_core.specs.declared.ty.Signedness.{Signedness}
use Rattle.rc_core.specs.declared.ty.Signedness.TheVariants.{Signed, Unsigned}
use Rattle.rc_code.specs.declared.image.Function.{Function}
use Rattle.rc_code.specs.declared.instruction.Instruction.TheVariants as instruction
use Rattle.rc_code.specs.Running.{Reading}
use Rattle.rc_code.specs.Soundness.{takes, gives, count_off, instruction_at, kinds_before}

pub constant_takes : (image : Reading) (f : Function) (k : Signedness) (v : ℕ) → length (takes image f (instruction.Constant k v)) ≡ 0
constant_takes image f Signed v = refl
constant_takes image f Unsigned v = refl

pub constant_gives : (image : Reading) (f : Function) (k : Signedness) (v : ℕ) → length (gives image f (instruction.Constant k v)) ≡ 1
constant_gives image f Signed v = refl
constant_gives image f Unsigned v = refl

pub height_next : (image : Reading) (f : Function) (n : ℕ) → length (kinds_before image f (suc n)) ≡ length (gives image f (instruction_at f n)) + (length (kinds_before image f n) - count_off image f (instruction_at f n))
height_next image f n =
    length-append (gives image f (instruction_at f n)) (drop (count_off image f (instruction_at f n)) (kinds_before image f n))
    ∙ ap (λ k. length (gives image f (instruction_at f n)) + k) (length-drop (count_off image f (instruction_at f n)) (kinds_before image f n))
