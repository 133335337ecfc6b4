use Rattle.std.specs.List.{IsDistinct}
use Rattle.rc_tests_runs.proofs.several.shelf.Goals as goal

pub new-files-requires : goal.new-files-requires
unfolding IsDistinct
new-files-requires c = rw (c.new-none.ensures.items) tt
