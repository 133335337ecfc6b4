use Rattle.std.specs.List.{IsDistinct}
use Rattle.rc_rows.proofs.outside.shelf.Goals as goal

pub new-shelf-requires : goal.new-shelf-requires
unfolding IsDistinct
new-shelf-requires c = rw (c.new-none.ensures.items) tt
