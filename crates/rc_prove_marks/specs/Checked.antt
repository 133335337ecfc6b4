-- The checks that proofs prove.
use Rattle.std.specs.Prelude.{◌≡◌, ◌<◌, ◌↔◌, ℕ, Bool, true, false, List, length, get_or, Some}
use Rattle.rc_facts.specs.declared.fact.Fact.{Fact}
use Rattle.rc_annotations.specs.Annotations.{Annotation, asked_of}
use Rattle.rc_code.specs.Running.{Reading, function_at}
use Rattle.rc_sealed.specs.ImageVariables.{variables}
use Rattle.rc_sealed.specs.Carrying.{effect_at, Follows, Before}

-- what the check of a store there asks follows from the facts before it
pub record IsChecked (image : Reading) (proofs : Annotation) (g at : ℕ) : Type 0 where
  pub fact : Fact
  pub asks : asked_of (effect_at image (function_at image g) at) ≡ Some fact
  pub follows : Follows (variables image (function_at image g)) (Before image proofs g at) fact

-- a mark for each instruction says whether that is so
pub record TellsChecked (image : Reading) (proofs : Annotation) (g : ℕ) (marks : List Bool) : Type 0 where
  pub long : length marks ≡ length (function_at image g).code
  pub each : (at : ℕ) → at < length (function_at image g).code → (get_or marks at false ≡ true) ↔ IsChecked image proofs g at
