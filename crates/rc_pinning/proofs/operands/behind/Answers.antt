use Rattle.std.proofs.Common.{◌≡◌, ◌∙◌, ◌+◌, suc, true, map, sym, ap, subst, arith}
use Rattle.rc_code.specs.declared.instruction.Instruction.{Instruction}
use Rattle.rc_code.specs.Running.{reading_of}
use Rattle.rc_code.specs.Soundness.{Names, count_off, gives, instruction_at, kinds_before}
use Rattle.rc_pinning.specs.Operands.{is_numeric, CountOperands}
use Rattle.rc_pinning.proofs.operands.behind.Goals as goal

pub given-requires : goal.given-requires
given-requires c = subst (Names true (reading_of c.args.parts.now) c.args.function.now) (sym c.instruction_of.ensures) c.requires.names

pub returns-clause-count : goal.returns-clause-count
returns-clause-count c =
    let image = reading_of c.args.parts.now in
    let f = c.args.function.now in
    let i = instruction_at f c.args.at in
    let next : suc c.args.at ≡ c.args.at + 1 = omega arith in
    subst (λ n. CountOperands (kinds_before image f n) c.above.result) next
    (c.above.ensures.count (kinds_before image f c.args.at) (count_off image f i) (gives image f i) c.requires.numbers c.requires.left (ap (λ (i : Instruction). map is_numeric (gives image f i)) (sym c.instruction_of.ensures) ∙ c.given.ensures))
