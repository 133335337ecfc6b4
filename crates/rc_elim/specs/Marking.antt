-- Rows of marks that are being made: those of the functions so far are done.
use Rattle.std.specs.Prelude.{◌≡◌, ◌<◌, ℕ, Bool, List, [], length, get_or, slice_get, Some}
use Rattle.rc_rlang.specs.RegionCode.{Routine}
use Rattle.rc_rlang.specs.RegionFlow.{routine_nodes}
use Rattle.rc_rlang.specs.Shapes.{rlang_of}
use Rattle.rc_rlang.specs.declared.code.RegionParts.{RegionParts}
use Rattle.rc_edges.specs.Families.{Family}
use Rattle.rc_elim.specs.Asking.{bits_of}

-- the marks of one function, by the facts before its points
abbrev pub IsMarked : RegionParts → Family → (function : ℕ) → List Bool → Type 0
IsMarked code family g bits = (f : Routine) → slice_get (rlang_of code).functions g ≡ Some f → bits ≡ bits_of (routine_nodes f) (get_or family.points g [])

pub record AreMarked (code : RegionParts) (family : Family) (count : ℕ) (rows : List (List Bool)) : Type 0 where
  pub functions : length rows ≡ count
  pub each : (g : ℕ) → g < count → IsMarked code family g (get_or rows g [])
