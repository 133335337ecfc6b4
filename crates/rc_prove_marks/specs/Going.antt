-- What a pass over a function has shown when it comes to an instruction.
use Rattle.std.specs.Prelude.{◌≡◌, ◌<◌, ◌↔◌, ℕ, suc, Bool, true, false, List, length, get_or, Option, Some, None, is_some}
use Rattle.rc_facts.specs.declared.fact.Fact.{Fact}
use Rattle.rc_facts.specs.Facts.{Known, holds}
use Rattle.rc_annotations.specs.Annotations.{Facts, asked_of}
use Rattle.rc_graph.specs.Nodes.{effect_of}
use Rattle.rc_code.specs.Running.{Reading, function_at}
use Rattle.rc_sealed.specs.ImageVariables.{variables}
use Rattle.rc_sealed.specs.Carrying.{Before}
use Rattle.rc_carrying.specs.Left.{IsReady}
use Rattle.rc_carrying.specs.Closing.{Has}
use Rattle.rc_prove_parts.specs.declared.spot.Spot.{Spot}
use Rattle.rc_prove_parts.specs.declared.route.Route.{Route}
use Rattle.rc_prove.specs.Family.{Family, claimed, IsRoute}
use Rattle.rc_prove_marks.specs.Checked.{IsChecked}

-- an instruction asks a fact
abbrev pub asks : Spot → Bool
asks spot = is_some (asked_of (effect_of spot.effect))

-- a fact is asked, and the set has it
abbrev pub has_it : Facts → Option Fact → Bool
has_it facts None = false
has_it facts (Some fact) = facts fact

-- the set has what follows from the facts before the instruction
pub record IsAt (route : Route) (m : Family) (at : ℕ) (work : Known) : Type 0 where
  pub wide : work.variables ≡ suc (suc route.place.result)
  pub ready : IsReady (suc (suc route.place.result)) (suc route.place.result) (holds work)
  pub has : (image : Reading) → IsRoute image m route → Has (variables image (function_at image route.place.function)) (holds work) (Before image (claimed image m) route.place.function at)

-- it is before the next one, and this is said of the check of the one before
pub record WentOn (route : Route) (m : Family) (at : ℕ) (work : Known) (proved : Bool) : Type 0 where
  pub next : IsAt route m (suc at) work
  pub tells : (image : Reading) → IsRoute image m route → (proved ≡ true) ↔ IsChecked image (claimed image m) route.place.function at

-- the marks of the first instructions
pub record AreFirst (route : Route) (m : Family) (at : ℕ) (marks : List Bool) : Type 0 where
  pub long : length marks ≡ at
  pub each : (image : Reading) → IsRoute image m route → (k : ℕ) → k < at → (get_or marks k false ≡ true) ↔ IsChecked image (claimed image m) route.place.function k
