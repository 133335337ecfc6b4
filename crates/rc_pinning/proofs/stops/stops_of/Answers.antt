use Rattle.std.proofs.Common.{◌≡◌, ◌∙◌, List, ap, arith, length, subst, sym}
use Rattle.rc_code.specs.declared.opcode.Simple.TheVariants as simple
use Rattle.rc_code.specs.declared.instruction.Instruction.{Instruction}
use Rattle.rc_code.specs.declared.instruction.Instruction.TheVariants as instruction
use Rattle.rc_pinning.specs.Stops.{stop_in, NamesLocals}
use Rattle.rc_pinning.proofs.Listing.{map_more, map_all}
use Rattle.rc_pinning.proofs.stops.stops_of.Goals as goal

size : {xs ys : List Instruction} → xs ≡ ys → length xs ≡ length ys
size e = ap length e

pub stop_of-stop-requires-clause-names : goal.stop_of-stop-requires-clause-names
stop_of-stop-requires-clause-names c = subst (NamesLocals c.args.function.now) (sym c.instruction_of.ensures) (c.requires.names c.loop-at.at)

pub loop-at-preserved : goal.loop-at-preserved
loop-at-preserved c =
    map_more (stop_in c.args.function.now) c.args.function.now.code c.loop-at.at (instruction.Simple simple.Return) c.loop-at.stops.items c.put.new.out.items c.stop_of-stop.result (let l = c.loop-at-test.true in let e = size c.as_slice-at-end.ensures in omega (arith, l, e))
    (c.stop_of-stop.ensures ∙ ap (stop_in c.args.function.now) c.instruction_of.ensures) c.loop-at.invariant c.in_ok-put.ensures

pub returns : goal.returns
returns c =
    let last : c.loop-at.at ≡ length c.args.function.now.code = (let f = c.loop-at-test.false in let e = c.loop-at.auto.at-end in let s = size c.as_slice-at-end.ensures in omega (arith, f, e, s)) in
    map_all (stop_in c.args.function.now) c.args.function.now.code c.loop-at.at c.loop-at.stops.items last c.loop-at.invariant
