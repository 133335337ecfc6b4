use Rattle.std.proofs.Common.{subst}
use Rattle.rc_core.specs.Heap.{Value}
use Rattle.rc_slow.specs.Advancing.{LeadsTo, standing, state_at}
use Rattle.rc_slow.specs.Whole.{leave_step}
use Rattle.rc_slow.proofs.machine.leave_without_value.Goals as goal

pub returns : goal.returns
returns c = λ program limits k w.
    let m0 = c.args.machine.now in
    let P : Value → Type 0 = λ v. LeadsTo limits c.leave_call.result c.leave_call.new.machine w (leave_step program v (state_at k m0).below (standing limits m0 w)) in
    subst P c.zero_result-value.ensures (c.leave_call.ensures program limits k w)
