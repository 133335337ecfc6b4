-- A function of an image with its shape, and the places of an instruction.
use Rattle.std.specs.Prelude.{◌≡◌, ◌<◌, ◌≤◌, ◌-◌, ℕ, List, length, get_or}
use Rattle.rc_facts.specs.Facts.{Known}
use Rattle.rc_facts.specs.Flow.{no_set}
use Rattle.rc_code.specs.declared.instruction.Instruction.{Instruction}
use Rattle.rc_code.specs.declared.instruction.Instruction.TheVariants as instruction
use Rattle.rc_code.specs.declared.image.Function.{Function}
use Rattle.rc_code.specs.declared.image.Parts.{Parts}
use Rattle.rc_code.specs.Image.{FieldsFit}
use Rattle.rc_code.specs.Running.{Reading, reading_of, function_at}
use Rattle.rc_code.specs.Soundness.{Sound, instruction_at}
use Rattle.rc_claims.specs.Counts.{exit_count, place}
use Rattle.rc_sealed.specs.ImageVariables.{result_variable, variables}
use Rattle.rc_sealed.specs.Carrying.{height, lowest}
use Rattle.rc_image_effects.specs.declared.effects.Places.{Places}
use Rattle.rc_image_effects.specs.Arguments.{LocalIs}
use Rattle.rc_image_shapes.specs.Shapes.{IsShape}
use Rattle.rc_image_steps.specs.declared.site.Site.{Site}

abbrev pub image_of : Site → Reading
image_of site = reading_of site.parts.now

abbrev pub function_in : Site → Function
function_in site = function_at (image_of site) site.number

-- the image is sound, and the function is one of it that isn't wide
pub record IsSite (site : Site) : Type 0 where
  pub fields : FieldsFit site.parts.now
  pub sound : Sound site.parts.now
  pub there : site.number < length site.parts.now.functions
  pub narrow : variables (image_of site) (function_in site) ≤ 128
  pub shape : IsShape (image_of site) (function_in site) site.shape.now

abbrev pub named_local : Instruction → ℕ
named_local (instruction.Get x) = x
named_local (instruction.Set x) = x
named_local i = 0

-- the operands of an instruction stand there
pub record ArePlaces (image : Reading) (f : Function) (at : ℕ) (places : Places) : Type 0 where
  pub low : places.low ≡ place f (lowest image f at)
  pub high : places.high ≡ place f (height image f at - 1)
  pub result : places.result ≡ result_variable image f
  pub local : LocalIs f places.local (instruction_at f at)

-- each function has an exit, which speaks of its hidden copies and its result at least
pub record AreExits (parts : Parts) (exits : List Known) : Type 0 where
  pub long : length exits ≡ length parts.functions
  pub each : (g : ℕ) → g < length parts.functions → exit_count (function_at (reading_of parts) g) ≤ (get_or exits g no_set).variables
