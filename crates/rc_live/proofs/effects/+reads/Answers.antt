use Rattle.std.proofs.Common.{◌+◌, drop, sym, subst}
use Rattle.rc_core.specs.Shapes.{ty_of}
use Rattle.rc_rlang.specs.Shapes.{step_of, steps_of}
use Rattle.rc_rlang.proofs.CodeRows.{fork_is}
use Rattle.rc_live.specs.Effects.{ReadsShown, StepReadsShown}
use Rattle.rc_live.proofs.Doing.{ReadsUpTo, fork_reads, reads_more, steps_from, steps_past}
use Rattle.rc_live.proofs.effects.+reads.Goals as goal

pub read_in-returns-in-Fork : goal.read_in-returns-in-Fork
read_in-returns-in-Fork t c structs =
    let names = c.args.names.now in
    let i = c.in-Fork in
    let of_yes = subst (λ xs. ReadsShown names c.reads-by_yes.result (steps_of structs xs)) c.as_slice.ensures.value (c.reads-by_yes.ensures structs) in
    let of_no = subst (λ xs. ReadsShown names c.reads-by_no.result (steps_of structs xs)) c.as_slice-in-Fork.ensures.value (c.reads-by_no.ensures structs) in
    subst (λ s. StepReadsShown names c.union.result s) (sym (fork_is structs c.args.step.now i.line i.temporary i.test i.result i.yes i.no i.is))
    (fork_reads names c.union.result c.reads-by_yes.result c.reads-by_no.result i.line i.temporary (ty_of i.test) (ty_of i.result) (steps_of structs i.yes.items) (steps_of structs i.no.items) c.union.ensures of_yes of_no)

pub reads-loop-step-preserved : goal.reads-loop-step-preserved
reads-loop-step-preserved t c structs =
    let names = c.args.names.now in
    let all = steps_of structs c.args.steps.now in
    let i = c.loop-step.step-index in
    let x = c.step-item.result in
    reads_more names c.loop-step.row c.read_in.result c.union-row.result all (steps_of structs (drop (i + 1) c.args.steps.now)) (step_of structs x)
    (subst (λ s. ReadsUpTo names c.loop-step.row all s) (steps_from structs c.args.steps.now i x c.loop-step-test.true c.step-item.is) (c.loop-step.invariant structs)) (c.read_in.ensures structs) c.union-row.ensures

pub reads-returns : goal.reads-returns
reads-returns t c structs = subst (λ s. ReadsUpTo c.args.names.now c.loop-step.row (steps_of structs c.args.steps.now) s) (steps_past structs c.args.steps.now c.loop-step.step-index c.loop-step-test.false) (c.loop-step.invariant structs)
