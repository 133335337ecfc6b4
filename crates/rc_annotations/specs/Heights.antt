-- How many temporaries the functions of region code have, by their numbers.
use Rattle.std.specs.Prelude.{ℕ, Option, Some, None, slice_get}
use Rattle.rc_rlang.specs.RegionCode.{Routine, Rlang}
use Rattle.rc_rlang.specs.RegionVariables.{routine_temporaries}

abbrev pub temporaries_in : Option Routine → ℕ
temporaries_in None = 0
temporaries_in (Some f) = routine_temporaries f

abbrev pub temporaries_of : Rlang → ℕ → ℕ
temporaries_of r g = temporaries_in (slice_get r.functions g)
