-- What is counted of a function whose fields fit.
use Rattle.std.specs.Prelude.{◌≡◌, ◌<◌, ◌≤◌, ◌^◌, length}
use Rattle.rc_code.specs.declared.image.Function.{Function}
use Rattle.rc_code.specs.Running.{Reading}
use Rattle.rc_claims.specs.Counts.{copies, place}
use Rattle.rc_sealed.specs.ImageVariables.{result_variable}
use Rattle.rc_image_shapes.specs.declared.counts.Counts.{Counts}

-- it has no more locals and instructions than fields count
pub record IsCountable (f : Function) : Type 0 where
  pub parameters : f.parameters ≤ length f.locals
  pub locals : length f.locals < 2 ^ 32
  pub code : length f.code < 2 ^ 32

pub record AreCounts (image : Reading) (f : Function) (counts : Counts) : Type 0 where
  pub copies : counts.copies ≡ copies f
  pub first : counts.first ≡ place f 0
  pub result : counts.result ≡ result_variable image f
