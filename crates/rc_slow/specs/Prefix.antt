-- Acts that were done stay done.
use Rattle.std.specs.Prelude.{List, ◌++◌}
use Rattle.rc_base.specs.Acts.{Act}
use Rattle.rc_memory.specs.KeptWorld.{KeptWorld}

-- with these acts before
abbrev pub behind_acts : List Act → KeptWorld → KeptWorld
behind_acts acts w = record w { acts = acts ++ w.acts }
