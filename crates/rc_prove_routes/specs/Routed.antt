-- What is made of functions: their spots, the ways through them, and their counts.
use Rattle.std.specs.Prelude.{◌≡◌, ℕ, true, false, List, length, slice_get, Some, None}
use Rattle.rc_code.specs.declared.image.Parts.{Parts}
use Rattle.rc_code.specs.Running.{Reading, reading_of, function_at}
use Rattle.rc_sealed.specs.ImageVariables.{variables}
use Rattle.rc_sealed.specs.Carrying.{is_target}
use Rattle.rc_prove_parts.specs.declared.spot.Spot.{Spot}
use Rattle.rc_prove_parts.specs.declared.route.Route.{Route}
use Rattle.rc_prove.specs.declared.start.Counts.{Counts}
use Rattle.rc_prove.specs.Sets.{rank}
use Rattle.rc_prove.specs.Visiting.{AreSpots, SpotIs}
use Rattle.rc_prove.specs.TheGreatest.{AreCounts}
use Rattle.rc_prove_routes.specs.declared.routes.Found.{Found}

-- the spots of the first instructions of a function
pub record AreFirstSpots (image : Reading) (g at : ℕ) (spots : List Spot) : Type 0 where
  pub long : length spots ≡ at
  pub each : (k : ℕ) (spot : Spot) → slice_get spots k ≡ Some spot → SpotIs image g k spot

-- the way through a function: it has the function's spots, and the set of its first instruction, if that is a target
pub record IsRouteThrough (image : Reading) (g : ℕ) (route : Route) : Type 0 where
  pub function : route.place.function ≡ g
  pub are : AreSpots image route.place route.spots.items
  pub begins : (r : ℕ) → route.first ≡ Some r → (is_target (function_at image route.place.function) 0 ≡ true) × (rank (function_at image route.place.function) 0 ≡ r)
  pub alone : route.first ≡ None → is_target (function_at image route.place.function) 0 ≡ false

-- the counts of a function, with all of its variables
pub record IsCounted (parts : Parts) (g : ℕ) (counts : Counts) : Type 0 where
  pub are : AreCounts parts g counts
  pub variables : counts.variables ≡ variables (reading_of parts) (function_at (reading_of parts) g)

pub record IsFound (parts : Parts) (g : ℕ) (found : Found) : Type 0 where
  pub route : IsRouteThrough (reading_of parts) g found.route
  pub counts : IsCounted parts g found.counts

-- those of the first functions of an image
pub record AreFirst (parts : Parts) (k : ℕ) (routes : List Route) (counts : List Counts) : Type 0 where
  pub ways : length routes ≡ k
  pub counted : length counts ≡ k
  pub way : (g : ℕ) (route : Route) → slice_get routes g ≡ Some route → IsRouteThrough (reading_of parts) g route
  pub count : (g : ℕ) (c : Counts) → slice_get counts g ≡ Some c → IsCounted parts g c
