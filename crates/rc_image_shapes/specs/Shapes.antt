-- The shape of a function: the variables of its hidden copies, locals and stack places, and the targets of its jumps.
use Rattle.std.specs.Prelude.{◌≡◌, ◌<◌, ℕ, false, length, get_or}
use Rattle.rc_code.specs.declared.image.Function.{Function}
use Rattle.rc_code.specs.Running.{Reading}
use Rattle.rc_claims.specs.Counts.{copies, local_variable, place}
use Rattle.rc_sealed.specs.ImageVariables.{result_variable}
use Rattle.rc_sealed.specs.Carrying.{is_target}
use Rattle.rc_image_shapes.specs.declared.shape.Shape.{Shape}

pub record IsShape (image : Reading) (f : Function) (shape : Shape) : Type 0 where
  pub copies : shape.copies ≡ copies f
  pub first : shape.first ≡ place f 0
  pub result : shape.result ≡ result_variable image f
  pub locals : (x : ℕ) → x < length f.locals → get_or shape.locals.items x 0 ≡ local_variable f x
  pub targets : (at : ℕ) → get_or shape.targets.items at false ≡ is_target f at
