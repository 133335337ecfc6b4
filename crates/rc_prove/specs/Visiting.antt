-- What a visit of an instruction is given, and what it does to the sets.
use Rattle.std.specs.Prelude.{◌≡◌, ℕ, suc, ◌+◌, ◌<◌, ◌≤◌, ◌||◌, ◌↔◌, Bool, true, IsTrue, List, length, get_or, slice_get, Option, Some, None, IfSome}
use Rattle.rc_facts.specs.declared.fact.Fact.{Fact}
use Rattle.rc_facts.specs.Derivable.{Derivable}
use Rattle.rc_facts.specs.Facts.{Known, holds, is_over}
use Rattle.rc_annotations.specs.Annotations.{fact_with, renamed}
use Rattle.rc_facts.specs.Flow.{no_set, set_at}
use Rattle.rc_edges.specs.Edges.{EffectBelow}
use Rattle.rc_edges.specs.Reading.{Loses}
use Rattle.rc_edges.specs.Boundaries.{CallGives, CallReady}
use Rattle.rc_graph.specs.Nodes.{effect_of}
use Rattle.rc_crossing.specs.Fitting.{CallFits}
use Rattle.rc_code.specs.Running.{Reading, function_at}
use Rattle.rc_code.specs.Soundness.{instruction_at}
use Rattle.rc_claims.specs.Counts.{copies, place}
use Rattle.rc_sealed.specs.ImageVariables.{result_variable}
use Rattle.rc_sealed.specs.Carrying.{effect_at, lowest, reach}
use Rattle.rc_carrying.specs.Passing.{CarriesOver}
use Rattle.rc_prove_parts.specs.declared.spot.Spot.{Spot}
use Rattle.rc_prove_parts.specs.declared.spot.Place.{Place}
use Rattle.rc_prove.specs.Sets.{Sets, Shrinks, FewerFacts}
use Rattle.rc_prove.specs.Spots.{returns, LeadsFrom}
use Rattle.rc_prove.specs.Passing.{Reached}

abbrev pub sets_of : (entries exits frames : List Known) → Sets
sets_of entries exits frames = record { entries = entries; exits = exits; frames = frames }

-- ---- what spots stand for

pub record SpotIs (image : Reading) (g at : ℕ) (spot : Spot) : Type 0 where
  pub effect : effect_of spot.effect ≡ effect_at image (function_at image g) at
  pub low : spot.low ≡ place (function_at image g) (lowest image (function_at image g) at)
  pub top : spot.top ≡ place (function_at image g) (reach image (function_at image g) at)
  pub returns : spot.returns ≡ returns (instruction_at (function_at image g) at)
  pub leads : LeadsFrom image g at spot.jumped spot.fallen spot.next

-- the spots of a function, one for each instruction
pub record AreSpots (image : Reading) (where_is : Place) (spots : List Spot) : Type 0 where
  pub copies : where_is.copies ≡ copies (function_at image where_is.function)
  pub result : where_is.result ≡ result_variable image (function_at image where_is.function)
  pub long : length spots ≡ length (function_at image where_is.function).code
  pub each : (at : ℕ) (spot : Spot) → slice_get spots at ≡ Some spot → SpotIs image where_is.function at spot

-- some of them, from an instruction on
pub record AreSpotsFrom (image : Reading) (where_is : Place) (from : ℕ) (spots : List Spot) : Type 0 where
  pub copies : where_is.copies ≡ copies (function_at image where_is.function)
  pub result : where_is.result ≡ result_variable image (function_at image where_is.function)
  pub inside : from + length spots ≤ length (function_at image where_is.function).code
  pub each : (at : ℕ) (spot : Spot) → slice_get spots at ≡ Some spot → SpotIs image where_is.function (from + at) spot

-- ---- what may be visited

-- a frame that is there
abbrev pub IsFrame : Sets → (n : ℕ) → Option ℕ → Type 0
IsFrame sets n at = IfSome at (λ r. (r < length sets.frames) × ((get_or sets.frames r no_set).variables ≡ n))

pub record SpotFits (where_is : Place) (sets : Sets) (spot : Spot) : Type 0 where
  pub below : EffectBelow (suc where_is.result) (effect_of spot.effect)
  pub call : CallFits sets.exits (effect_of spot.effect)
  pub ready : CallReady (effect_of spot.effect) (suc (suc where_is.result)) sets.entries
  pub low : spot.low ≤ spot.top
  pub top : spot.top ≤ suc where_is.result
  pub jumped : IsFrame sets (suc (suc where_is.result)) spot.jumped
  pub fallen : IsFrame sets (suc (suc where_is.result)) spot.fallen
  pub next : IsFrame sets (suc (suc where_is.result)) spot.next

-- the exit of the function is there, and the function isn't wide
pub record PlaceFits (where_is : Place) (sets : Sets) : Type 0 where
  pub there : where_is.function < length sets.exits
  pub own : (get_or sets.exits where_is.function no_set).variables ≡ suc where_is.copies
  pub copies : where_is.copies ≤ where_is.result
  pub few : suc where_is.result < 128
  pub frames : (r : ℕ) (fact : Fact) → IsTrue (set_at sets.frames r fact) → IsTrue (is_over (suc where_is.result) fact)

-- as many sets, on as many variables
pub record SameShape (old new : Sets) : Type 0 where
  pub entries : length new.entries ≡ length old.entries
  pub exits : length new.exits ≡ length old.exits
  pub frames : length new.frames ≡ length old.frames
  pub entry : (p : ℕ) → (get_or new.entries p no_set).variables ≡ (get_or old.entries p no_set).variables
  pub exit : (p : ℕ) → (get_or new.exits p no_set).variables ≡ (get_or old.exits p no_set).variables
  pub frame : (p : ℕ) → (get_or new.frames p no_set).variables ≡ (get_or old.frames p no_set).variables

-- ---- what a visit does

abbrev pub ExitGives : (where_is : Place) → (returns : Bool) → (work : Known) → (h : ℕ) → Fact → Type 0
ExitGives where_is returns work h fact = h ≡ where_is.function → returns ≡ true → IsTrue (is_over (suc where_is.copies) fact) × IsTrue (holds work (fact_with (renamed where_is.copies where_is.result) fact))

abbrev pub FrameGives : Option ℕ → (work : Known) → (r : ℕ) → Fact → Type 0
FrameGives met work r fact = met ≡ Some r → IsTrue (holds work fact)

-- the working set is `mid` behind the instruction; entries lose what isn't given before it, exits and frames what isn't given behind it
pub record Visited (where_is : Place) (spot : Spot) (old new : Sets) (work after : Known) (lost : Bool) : Type 0 where
  pub mid : Known
  pub called : Bool
  pub left : Bool
  pub led : Bool
  pub fell : Bool
  pub frames : List Known
  pub is : lost ≡ (called || (left || (led || fell)))
  pub calls : Loses called old.entries new.entries (CallGives (effect_of spot.effect) work)
  pub carries : CarriesOver (suc (suc where_is.result)) (suc where_is.result) old.exits (effect_of spot.effect) spot.low spot.top (holds work) (holds mid)
  pub leaves : Loses left old.exits new.exits (ExitGives where_is spot.returns mid)
  pub leads : Loses led old.frames frames (FrameGives spot.jumped mid)
  pub falls : Loses fell frames new.frames (FrameGives spot.fallen mid)
  pub goes : spot.next ≡ None → after ≡ mid
  pub restarts : (r : ℕ) → spot.next ≡ Some r → (fact : Fact) → IsTrue (holds after fact) ↔ Derivable (suc (suc where_is.result)) (set_at new.frames r) fact

-- ---- what a pass does

-- it comes to the last of the instructions
pub record WentThrough (where_is : Place) (spots : List Spot) (old new : Sets) (work after : Known) (more : Bool) : Type 0 where
  pub shape : SameShape old new
  pub fewer : FewerFacts old new
  pub shrinks : Shrinks more old new
  pub reached : (image : Reading) (from : ℕ) → AreSpotsFrom image where_is from spots → (start : Sets) (lost : Bool) → Reached image where_is.function from start old (holds work) lost → Reached image where_is.function (from + length spots) start new (holds after) (lost || more)
