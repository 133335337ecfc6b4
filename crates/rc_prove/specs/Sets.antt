-- The sets that a search for the greatest proofs lowers: one for the entry and one for the exit of each function, and one for each target
-- of the jumps of a function.
use Rattle.std.specs.Prelude.{◌≡◌, ℕ, zero, suc, ◌+◌, ◌<◌, ◌&&◌, IsTrue, MatchBool, Bool, List, length}
use Rattle.rc_facts.specs.declared.fact.Fact.{Fact}
use Rattle.rc_facts.specs.Facts.{Known, is_over}
use Rattle.rc_annotations.specs.Annotations.{Facts, Annotation}
use Rattle.rc_annotations.specs.Laws.{Within}
use Rattle.rc_facts.specs.Flow.{facts_in, set_at}
use Rattle.rc_code.specs.declared.image.Function.{Function}
use Rattle.rc_code.specs.Running.{Reading, function_at}
use Rattle.rc_claims.specs.Counts.{copies, place, one_if}
use Rattle.rc_sealed.specs.Carrying.{is_target}
use Rattle.rc_greatest_proofs.specs.Marks.{ProvedBare}

-- of one function, and the entries and exits of all
pub record Sets : Type 0 where
  pub entries : List Known
  pub exits : List Known
  pub frames : List Known

abbrev pub size : Sets → ℕ
size sets = facts_in sets.entries + (facts_in sets.exits + facts_in sets.frames)

-- ---- frames

-- how many targets stand before an instruction: the number of its set, if it is one
abbrev pub rank : Function → ℕ → ℕ
rank f zero = 0
rank f (suc at) = rank f at + one_if (is_target f at)

abbrev pub framed : Function → List Known → ℕ → Facts
framed f frames at fact = is_target f at && set_at frames (rank f at) fact

-- ---- proofs beside sets

-- all that the proofs claim of the function, and of entries and exits, is in the sets
pub record IsIn (image : Reading) (proofs : Annotation) (g : ℕ) (sets : Sets) : Type 0 where
  pub before : (at : ℕ) → Within (proofs.before g at) (framed (function_at image g) sets.frames at)
  pub entry : (h : ℕ) → Within (proofs.entry h) (set_at sets.entries h)
  pub exit : (h : ℕ) → Within (proofs.exit h) (set_at sets.exits h)

-- they claim what is in the sets, and no more
pub record Claims (image : Reading) (proofs : Annotation) (g : ℕ) (sets : Sets) : Type 0 where
  pub before : (at : ℕ) (fact : Fact) → proofs.before g at fact ≡ framed (function_at image g) sets.frames at fact
  pub entry : (h : ℕ) (fact : Fact) → proofs.entry h fact ≡ set_at sets.entries h fact
  pub exit : (h : ℕ) (fact : Fact) → proofs.exit h fact ≡ set_at sets.exits h fact

-- they speak of the variables that they may speak of, and prove the function but for its checks
pub record ProveFunction (image : Reading) (proofs : Annotation) (g : ℕ) : Type 0 where
  pub entries : (h : ℕ) (fact : Fact) → IsTrue (proofs.entry h fact) → IsTrue (is_over (copies (function_at image h)) fact)
  pub exits : (fact : Fact) → IsTrue (proofs.exit g fact) → IsTrue (is_over (suc (copies (function_at image g))) fact)
  pub proved : (at : ℕ) → at < length (function_at image g).code → ProvedBare image proofs g at

-- the sets of frames speak of hidden copies and locals
abbrev pub AreFrames : Reading → (g : ℕ) → Sets → Type 0
AreFrames image g sets = (r : ℕ) (fact : Fact) → IsTrue (set_at sets.frames r fact) → IsTrue (is_over (place (function_at image g) 0) fact)

-- ---- lowering

-- sets lost facts, but none that proofs of the function claim
pub record Lowers (image : Reading) (g : ℕ) (old new : Sets) : Type 0 where
  pub fewer : (proofs : Annotation) → IsIn image proofs g new → IsIn image proofs g old
  pub keeps : (proofs : Annotation) → ProveFunction image proofs g → IsIn image proofs g old → IsIn image proofs g new

-- whether sets lost facts
abbrev pub Shrinks : Bool → (old new : Sets) → Type 0
Shrinks lost old new = MatchBool lost (size new < size old) (new ≡ old)

pub record FewerFacts (old new : Sets) : Type 0 where
  pub entries : (h : ℕ) (fact : Fact) → IsTrue (set_at new.entries h fact) → IsTrue (set_at old.entries h fact)
  pub exits : (h : ℕ) (fact : Fact) → IsTrue (set_at new.exits h fact) → IsTrue (set_at old.exits h fact)
  pub frames : (r : ℕ) (fact : Fact) → IsTrue (set_at new.frames r fact) → IsTrue (set_at old.frames r fact)
