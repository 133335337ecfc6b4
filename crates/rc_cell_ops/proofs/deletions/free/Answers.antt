use Rattle.std.proofs.Common.{◌∙◌, sym}
use Rattle.rc_core.specs.Evaluation.{local_at}
use Rattle.rc_cell_ops.proofs.Deleting.{any_at}
use Rattle.rc_cell_ops.proofs.deletions.free.Goals as goal

pub free_unnamed-requires-clause-unnamed : goal.free_unnamed-requires-clause-unnamed
free_unnamed-requires-clause-unnamed g c = any_at c.args.region (local_at c.args.pile.now.locals) c.args.pins.now ∙ sym c.names_any.ensures ∙ c.if-names_any.false
