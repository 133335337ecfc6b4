use Rattle.std.proofs.Common.{◌≡◌, ◌+◌, suc, arith}
use Rattle.rc_prove_ways.proofs.Going.{leads_from}
use Rattle.rc_prove_ways.proofs.leads.leads_at.Goals as goal

pub returns : goal.returns
returns c = λ image g are e.
    let m : c.args.at + 1 ≡ suc c.args.at = omega arith in
    leads_from image g c.args.at c.args.targets.now are c.args.instruction.now e c.falls-so.result c.falls-so.ensures (c.args.at + 1) m c.jumped_from-jumped.result c.set_of-fallen.result c.set_of-next.result c.jumped_from-jumped.ensures c.set_of-fallen.ensures c.set_of-next.ensures
