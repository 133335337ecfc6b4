-- What is lowered by one pass over a function from its entry on.
use Rattle.std.specs.Prelude.{◌≡◌, ℕ, ◌<◌, Bool, true, false, IsTrue, List, length, slice_get, Option, Some, None}
use Rattle.rc_facts.specs.declared.fact.Fact.{Fact}
use Rattle.rc_facts.specs.Facts.{is_over}
use Rattle.rc_annotations.specs.Annotations.{Annotation}
use Rattle.rc_facts.specs.Flow.{set_at}
use Rattle.rc_code.specs.Running.{Reading, function_at}
use Rattle.rc_claims.specs.Counts.{copies}
use Rattle.rc_sealed.specs.Carrying.{is_target}
use Rattle.rc_greatest_proofs.specs.Marks.{ProvedBare}
use Rattle.rc_prove_parts.specs.declared.spot.Spot.{Spot}
use Rattle.rc_prove_parts.specs.declared.spot.Place.{Place}
use Rattle.rc_prove.specs.Sets.{Sets, rank, Claims, AreFrames, Lowers, Shrinks, FewerFacts}
use Rattle.rc_prove.specs.Visiting.{AreSpots, AreSpotsFrom, SameShape}

-- the function has these spots, this is the set of its first instruction, if that is a target, and the sets speak of what they may
pub record Looks (image : Reading) (where_is : Place) (spots : List Spot) (first : Option ℕ) (sets : Sets) : Type 0 where
  pub are : AreSpots image where_is spots
  pub begins : (r : ℕ) → first ≡ Some r → (is_target (function_at image where_is.function) 0 ≡ true) × (rank (function_at image where_is.function) 0 ≡ r)
  pub alone : first ≡ None → is_target (function_at image where_is.function) 0 ≡ false
  pub inside : 0 < length (function_at image where_is.function).code
  pub frames : AreFrames image where_is.function sets
  pub entry : (fact : Fact) → IsTrue (set_at sets.entries where_is.function fact) → IsTrue (is_over (copies (function_at image where_is.function)) fact)
  pub main : where_is.function ≡ image.parts.main → copies (function_at image where_is.function) ≡ 0

-- these are the first spots of a function that looks so
pub record LooksAhead (image : Reading) (where_is : Place) (spots : List Spot) (first : Option ℕ) (sets : Sets) : Type 0 where
  pub all : List Spot
  pub looks : Looks image where_is all first sets
  pub are : AreSpotsFrom image where_is 0 spots

-- these spots begin at a target, which has this set
pub record LooksFrom (image : Reading) (where_is : Place) (spots : List Spot) (target : ℕ) (sets : Sets) : Type 0 where
  pub from : ℕ
  pub are : AreSpotsFrom image where_is from spots
  pub is : is_target (function_at image where_is.function) from ≡ true
  pub same : rank (function_at image where_is.function) from ≡ target
  pub frames : AreFrames image where_is.function sets

-- behind this instruction stands a target, which has this set
pub record LeadsBehind (spots : List Spot) (at target : ℕ) : Type 0 where
  pub spot : Spot
  pub there : slice_get spots at ≡ Some spot
  pub next : spot.next ≡ Some target

-- sets are lowered, but where they look so, no facts are lost of proofs that prove the function
pub record Lessens (where_is : Place) (Look : Reading → Type 0) (old new : Sets) (lost : Bool) : Type 0 where
  pub shape : SameShape old new
  pub fewer : FewerFacts old new
  pub shrinks : Shrinks lost old new
  pub lowers : (image : Reading) → Look image → Lowers image where_is.function old new

-- and where none is lost, the sets' own prove the instructions that were gone over
pub record Lowered (where_is : Place) (spots : List Spot) (first : Option ℕ) (old new : Sets) (lost : Bool) : Type 0 where
  pub lessens : Lessens where_is (λ image. LooksAhead image where_is spots first old) old new lost
  pub proved : (image : Reading) → LooksAhead image where_is spots first old → lost ≡ false → (proofs : Annotation) → Claims image proofs where_is.function old → (at : ℕ) → at < length spots → ProvedBare image proofs where_is.function at
