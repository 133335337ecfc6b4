use Rattle.std.proofs.Common.{◌≡◌, map, sym, subst}
use Rattle.std.specs.Prelude.{option_to_list}
use Rattle.rc_code.specs.declared.instruction.Instruction.{Instruction}
use Rattle.rc_code.specs.Running.{reading_of}
use Rattle.rc_code.specs.Soundness.{gives}
use Rattle.rc_pinning.specs.Operands.{is_numeric}
use Rattle.rc_pinning.proofs.operands.given.Goals as goal

pub returns-in-Call : goal.returns-in-Call
returns-in-Call c =
    subst (λ (i : Instruction). map is_numeric (gives (reading_of c.args.parts.now) c.args.function.now i) ≡ option_to_list c.call_gives.result) (sym c.in-Call.is) (c.call_gives.ensures c.args.function.now c.in-Call.field-1)
