-- Stack code means what its region code means.
use Rattle.rc_core.specs.Runs.{Ops}
use Rattle.rc_emission.specs.Turns.{Turning}
use Rattle.rc_rlang.specs.RegionCode.{Routine, Rlang}
use Rattle.rc_emission.specs.StatementCode.{Slots}
use Rattle.rc_emission.specs.KeptOperands.{slots_of, same_kept}
use Rattle.rc_emission.specs.Means.{ServesAll, IsOrdered, MeansTheSameWith, MeansTheSame, FunctionsMeanTheSame}
use Rattle.rc_emission.proofs.Ordered.{code_served}
use Rattle.rc_emission.proofs.SameOperands.{kept_is, kept_self}
use Rattle.rc_emission.proofs.TableServes.{body_serves}
use Rattle.rc_emission.proofs.WholeFunctions.{routine_is, main_is}

pub serves_all : (r : Rlang) → IsOrdered r → ServesAll slots_of r
serves_all r ordered g f there = let o = ordered g f there in body_serves same_kept kept_self kept_is f (code_served f.locals f.body o.0 o.1)

module _ {W : Type 0} (ops : Ops W) (turning : Turning ops) (r : Rlang) where
  pub means_with : (slots : Routine → Slots) → ServesAll slots r → MeansTheSameWith ops slots r
  means_with slots serves w = main_is ops turning slots r serves w

  pub means : IsOrdered r → MeansTheSame ops r
  means ordered w = main_is ops turning slots_of r (serves_all r ordered) w

  pub functions_mean : IsOrdered r → FunctionsMeanTheSame ops r
  functions_mean ordered k f there deleting calls fine arguments w =
      routine_is ops turning slots_of deleting calls fine f (serves_all r ordered k f there) arguments w
