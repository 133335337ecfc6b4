use Rattle.std.proofs.Common.{Some, ap, ◌∙◌, refl, inr, arith}
use Rattle.rc_core.proofs.CellLoops.{one_value}
use Rattle.rc_core.proofs.cells.only_value.Goals as goal

pub returns-then-count-eq1 : goal.returns-then-count-eq1
returns-then-count-eq1 c =
    (Some 1, (one_value c.args.structure.now.fields.items c.index-field.result.now (Some 1) (omega (arith, c.args.structure.now.fields.ok.0, c.len.ensures, c.if-len-ne1.false)) c.index-field.ensures (c.in-Some.is ∙ ap Some c.if-count-eq1.true), inr refl))
