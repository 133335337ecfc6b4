use Rattle.std.proofs.Common.{◌≡◌, length, sym, subst}
use Rattle.rc_code.specs.declared.instruction.Instruction.{Instruction}
use Rattle.rc_code.specs.Running.{reading_of}
use Rattle.rc_code.specs.Soundness.{gives}
use Rattle.rc_claims.specs.Counts.{one_if}
use Rattle.rc_image_counts.proofs.operands.gives_one.Goals as goal

pub returns-in-Call : goal.returns-in-Call
returns-in-Call c = λ f. subst (λ (i : Instruction). length (gives (reading_of c.args.parts.now) f i) ≡ one_if c.has_result.result) (sym c.in-Call.is) (c.has_result.ensures f c.in-Call.field-1)
