-- One pass over a function: what is looked at in each instruction, and what a visit of one tells.
use Rattle.std.specs.Prelude.{◌≡◌, ◌<◌, ◌≤◌, ℕ, suc, Bool, true, false, IsTrue, List, ◌↔◌, MatchOption}
use Rattle.std.specs.List.{All, list_any}
use Rattle.rc_facts.specs.declared.fact.Fact.{Fact}
use Rattle.rc_facts.specs.Facts.{Known, is_over, same_fact}
use Rattle.rc_rlang.specs.RegionFlow.{Effect, assigned}
use Rattle.rc_annotations.specs.Annotations.{Annotation}
use Rattle.rc_facts.specs.Flow.{Facts, set_at}
use Rattle.rc_edges.specs.Edges.{EffectBelow, renewed}
use Rattle.rc_edges.specs.News.{news_of}
use Rattle.rc_graph.specs.Nodes.{effect_of}
use Rattle.rc_crossing.specs.Fitting.{lacks, CallFits}
use Rattle.rc_code.specs.Running.{Reading, function_at}
use Rattle.rc_claims.specs.Counts.{place}
use Rattle.rc_sealed.specs.ImageVariables.{scratch}
use Rattle.rc_sealed.specs.Carrying.{is_target, effect_at, lowest, reach, Before}
use Rattle.rc_carrying.specs.declared.step.Step.{Step}
use Rattle.rc_carrying.specs.Left.{Left, stay}
use Rattle.rc_carrying.specs.Closing.{Has}
use Rattle.rc_carrying.specs.Asked.{AskedBefore, AskedBehind, Passed}

-- as a test
abbrev pub listed : List Fact → Facts
listed facts fact = list_any (λ q. same_fact q fact) facts

-- the step is on variables below the scratch variable, and asks facts on n variables
pub record Fits (n s : ℕ) (exits : List Known) (step : Step) : Type 0 where
  pub below : EffectBelow s (effect_of step.effect)
  pub call : CallFits exits (effect_of step.effect)
  pub low : step.low ≤ step.top
  pub top : step.top ≤ s
  pub before : All (λ p. IsTrue (is_over n p)) step.before.items
  pub behind : All (λ p. IsTrue (is_over n p)) step.behind.items
  pub frame : MatchOption step.frame (Unit {0}) (λ facts. All (λ p. IsTrue (is_over s p)) facts.items)

-- the second set is what is left of the first behind an effect
abbrev pub CarriesOver : (n s : ℕ) (exits : List Known) → Effect → (low top : ℕ) → (old new : Facts) → Type 0
CarriesOver n s exits effect low top old new = (fact : Fact) → IsTrue (new fact) ↔ Left n s (stay low top (assigned effect)) (assigned effect) (news_of n (set_at exits) (renewed s effect)) old fact

-- .. behind the step
abbrev pub Crosses : (n s : ℕ) (exits : List Known) → Step → (old new : Facts) → Type 0
Crosses n s exits step old new = CarriesOver n s exits (effect_of step.effect) step.low step.top old new

-- what a visit tells, with the sets before and behind it
pub data Visited (n s : ℕ) (exits : List Known) (step : Step) (old new : Facts) : Bool → Type 0 where
  passes : lacks old step.before.items ≡ false → Crosses n s exits step old new → lacks new step.behind.items ≡ false → Visited n s exits step old new true
  fails : lacks old step.before.items ≡ true → Visited n s exits step old new false
  fails_behind : lacks old step.before.items ≡ false → Crosses n s exits step old new → lacks new step.behind.items ≡ true → Visited n s exits step old new false

-- ---- what a step stands for

pub record StandsFor (image : Reading) (proofs : Annotation) (g at : ℕ) (step : Step) : Type 0 where
  pub effect : effect_of step.effect ≡ effect_at image (function_at image g) at
  pub low : step.low ≡ place (function_at image g) (lowest image (function_at image g) at)
  pub top : step.top ≡ place (function_at image g) (reach image (function_at image g) at)
  pub before : (fact : Fact) → IsTrue (listed step.before.items fact) ↔ AskedBefore image proofs g at fact
  pub behind : (fact : Fact) → IsTrue (listed step.behind.items fact) ↔ AskedBehind image proofs g at fact
  pub frame : MatchOption step.frame (is_target (function_at image g) (suc at) ≡ false) (λ facts. (is_target (function_at image g) (suc at) ≡ true) × ((fact : Fact) → listed facts.items fact ≡ proofs.before g (suc at) fact))

-- the scratch variable and the facts of exits are those of a function and its proofs, whose frames speak of its copies and locals
pub record Serves (image : Reading) (proofs : Annotation) (g s : ℕ) (exits : List Known) : Type 0 where
  pub last : s ≡ scratch image (function_at image g)
  pub leaves : (h : ℕ) (fact : Fact) → set_at exits h fact ≡ proofs.exit h fact
  pub frames : (at : ℕ) (fact : Fact) → IsTrue (proofs.before g at fact) → IsTrue (is_over (place (function_at image g) 0) fact)

-- ---- what is shown of the first instructions

-- the instructions before this one pass, and the set has what follows from the facts before it
pub record Reached (image : Reading) (proofs : Annotation) (g n at : ℕ) (set : Facts) : Type 0 where
  pub passed : (k : ℕ) → k < at → Passed image proofs g k
  pub has : Has n set (Before image proofs g at)
