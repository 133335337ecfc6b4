use Rattle.std.proofs.Common.{◌∙◌, ◌++◌, ap, arith}
use Rattle.rc_code.specs.declared.opcode.Simple.TheVariants as simple
use Rattle.rc_code.specs.declared.instruction.Instruction.{Instruction}
use Rattle.rc_code.specs.declared.instruction.Instruction.TheVariants as instruction
use Rattle.rc_deleters.specs.Calls.{as_numbered, stops_if}
use Rattle.rc_deleters.proofs.Building.{code_more, code_all}
use Rattle.rc_deleters.proofs.blocks.put_code.Goals as goal

pub loop-at-preserved : goal.loop-at-preserved
loop-at-preserved c =
    code_more c.args.code.now c.loop-at.at (instruction.Simple simple.Return) _ c.loop-at.out.items c.put_stop.new.out.items c.loop-at-test.true c.loop-at.invariant
    (c.in_ok-put_stop.ensures ∙ ap (λ (i : Instruction). c.loop-at.out.items ++ stops_if as_numbered i) c.instruction_of.ensures)

pub returns : goal.returns
returns c = code_all c.args.code.now c.loop-at.at _ c.loop-at.out.items c.put.new.out.items (let f = c.loop-at-test.false in omega (arith, f)) c.loop-at.invariant c.in_ok-put.ensures
