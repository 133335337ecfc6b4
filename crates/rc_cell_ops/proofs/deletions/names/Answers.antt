use Rattle.std.proofs.Common.{◌∙◌, ap, sym}
use Rattle.std.proofs.lemmas.Option.{get_or_from_slice_get}
use Rattle.rc_core.specs.Heap.{Null, names}
use Rattle.rc_cell_ops.proofs.deletions.names.Goals as goal

pub returns : goal.returns
returns c = c.names.ensures ∙ ap (names c.args.region) (c.cell.ensures ∙ sym (get_or_from_slice_get c.args.pile.now.locals c.args.local _ Null c.local.ensures))
