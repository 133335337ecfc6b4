-- The functions that every text has, in one table.
use Rattle.std.specs.Prelude.{ℕ, List, [], ◌∷◌, Option, Some, None, Bool, true, false, codes}
use Rattle.rc_core.specs.Types.{Ty, int, region}
use Rattle.rc_deletes.specs.declared.builtin.Builtin.{Builtin}
use Rattle.rc_deletes.specs.declared.builtin.Builtin.TheVariants.{NewRegion, NewSubregion, DeleteRegion, RegionOf, Putchar, Getchar}
use Rattle.rc_deletes.specs.declared.builtin.Parameter.{Parameter as CodeParameter}
use Rattle.rc_deletes.specs.declared.builtin.Parameter.TheVariants.{Int as TakesInt, Region as TakesRegion, AnyPointer}

-- a parameter takes what its type takes, that of `regionof` every pointer
pub data Parameter : Type 0 where
  of_type : Ty → Parameter
  any_pointer : Parameter

-- the name of a function, its parameters, the type of its value, and whether it deletes a region
pub record Row : Type 0 where
  pub name : List ℕ
  pub takes : List Parameter
  pub gives : Option Ty
  pub deletes : Bool

abbrev pub row : Builtin → Row
row NewRegion = record { name = codes "newregion"; takes = []; gives = Some region; deletes = false }
row NewSubregion = record { name = codes "newsubregion"; takes = of_type region ∷ []; gives = Some region; deletes = false }
row DeleteRegion = record { name = codes "deleteregion"; takes = of_type region ∷ []; gives = None; deletes = true }
row RegionOf = record { name = codes "regionof"; takes = any_pointer ∷ []; gives = Some region; deletes = false }
row Putchar = record { name = codes "putchar"; takes = of_type int ∷ []; gives = Some int; deletes = false }
row Getchar = record { name = codes "getchar"; takes = []; gives = Some int; deletes = false }

-- each of them once
abbrev pub every_builtin : List Builtin
every_builtin = NewRegion ∷ NewSubregion ∷ DeleteRegion ∷ RegionOf ∷ Putchar ∷ Getchar ∷ []

-- what a parameter in code takes
abbrev pub parameter_of : CodeParameter → Parameter
parameter_of TakesInt = of_type int
parameter_of TakesRegion = of_type region
parameter_of AnyPointer = any_pointer
