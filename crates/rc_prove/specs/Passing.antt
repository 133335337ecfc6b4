-- One pass over a function: which facts the working set has as it goes, while other sets lose what it doesn't give.
use Rattle.std.specs.Prelude.{◌≡◌, ℕ, ◌<◌, Bool, false, IsTrue}
use Rattle.rc_facts.specs.declared.fact.Fact.{Fact}
use Rattle.rc_annotations.specs.Annotations.{Facts, Annotation}
use Rattle.rc_code.specs.Running.{Reading, function_at}
use Rattle.rc_sealed.specs.ImageVariables.{scratch, variables}
use Rattle.rc_sealed.specs.Carrying.{Follows, Carried, Before}
use Rattle.rc_sealed.specs.Proved.{EntryIsProved}
use Rattle.rc_carrying.specs.Left.{IsReady}
use Rattle.rc_greatest_proofs.specs.Marks.{ProvedBare}
use Rattle.rc_prove.specs.Sets.{Sets, IsIn, Claims, AreFrames, Lowers}

-- Between two steps, where `stage` are the facts that proofs give there. All proofs that are in the sets give nothing more than the working
-- set has; and so long as no set lost a fact, those of the sets give nothing less.
pub record Passing (image : Reading) (g : ℕ) (stage : Annotation → Fact → Type 0) (old now : Sets) (work : Facts) (lost : Bool) : Type 0 where
  pub ready : IsReady (variables image (function_at image g)) (scratch image (function_at image g)) work
  pub frames : AreFrames image g now
  pub above : (proofs : Annotation) → IsIn image proofs g now → (fact : Fact) → Follows (variables image (function_at image g)) (stage proofs) fact → IsTrue (work fact)
  pub below : lost ≡ false → (proofs : Annotation) → Claims image proofs g old → (fact : Fact) → IsTrue (work fact) → Follows (variables image (function_at image g)) (stage proofs) fact
  pub lowers : Lowers image g old now
  pub told : lost ≡ false → now ≡ old

abbrev pub before_at : Reading → (g at : ℕ) → Annotation → Fact → Type 0
before_at image g at proofs = Before image proofs g at

abbrev pub behind_at : Reading → (g at : ℕ) → Annotation → Fact → Type 0
behind_at image g at proofs = Carried image proofs g at (Before image proofs g at)

-- the pass has come to this instruction
pub record Reached (image : Reading) (g at : ℕ) (old now : Sets) (work : Facts) (lost : Bool) : Type 0 where
  pub here : Passing image g (before_at image g at) old now work lost
  pub proved : lost ≡ false → (proofs : Annotation) → Claims image proofs g old → (k : ℕ) → k < at → ProvedBare image proofs g k
  pub entry : lost ≡ false → (proofs : Annotation) → Claims image proofs g old → EntryIsProved image proofs g 0
