use Rattle.std.proofs.Common.{◌∙◌}
use Rattle.rc_core.specs.Shapes.{ty_of}
use Rattle.rc_items.proofs.Totals.{layouts_in, total_same}
use Rattle.rc_items.proofs.definitions.cells_with.Goals as goal

pub returns : goal.returns
returns c = λ n is.
    total_same c.args.context.now n c.args.length c.args.cells c.cells_of.result c.size_by.result (ty_of c.args.ty.now) (c.size_by.ensures (layouts_in c.args.context.now) (c.as_slice.ensures.value ∙ c.args.context.now.sized)) is c.cells_of.ensures.value
