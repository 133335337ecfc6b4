use Rattle.std.proofs.Common.{arith, ◌≡◌, suc, ◌+◌, ap, ◌∙◌}
use Rattle.rc_core.specs.Shapes.{ty_of}
use Rattle.rc_lines.specs.Over.{slot_in}
use Rattle.rc_lines.proofs.operations.exchange.Goals as goal

pub returns : goal.returns
returns c =
    let e : c.args.height + 1 ≡ suc c.args.height = omega arith in
    let upper = c.in_ok-upper.ensures ∙ ap (λ n. slot_in c.args.body.now n (ty_of c.args.high.now)) e in
    grind (arith, upper)
