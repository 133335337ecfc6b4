-- Laws of what is left.
use Rattle.std.specs.Prelude.{◌<◌, ℕ, Bool, IsTrue, List, Option, IfSome, ◌↔◌}
use Rattle.std.specs.List.{All}
use Rattle.rc_facts.specs.declared.fact.Fact.{Fact}
use Rattle.rc_facts.specs.Facts.{Known, holds, is_over}
use Rattle.rc_facts.specs.Flow.{Facts}
use Rattle.rc_rlang.specs.RegionFlow.{assigned}
use Rattle.rc_annotations.specs.Annotations.{Annotation, exit_facts}
use Rattle.rc_edges.specs.Edges.{AreNews, EffectBelow, renewed}
use Rattle.rc_code.specs.Running.{Reading, function_at}
use Rattle.rc_claims.specs.Counts.{place}
use Rattle.rc_sealed.specs.ImageVariables.{scratch, variables}
use Rattle.rc_sealed.specs.Carrying.{effect_at, lowest, reach, Follows, Carried, Before}
use Rattle.rc_carrying.specs.Left.{IsClosed, Left, stay}

-- a set has what follows from facts that are known
abbrev pub Has : ℕ → Facts → (known : Fact → Type 0) → Type 0
Has n facts known = (fact : Fact) → IsTrue (facts fact) ↔ Follows n known fact

-- what is left of a closed set is closed
abbrev pub LeftIsClosed : Type 0
LeftIsClosed = (n s : ℕ) (stays : ℕ → Bool) (x : Option ℕ) (news : List Fact) (before after : Facts) → s < n → IfSome x (λ v. v < s) → All (λ p. IsTrue (is_over n p)) news → IsClosed n before
    → ((fact : Fact) → IsTrue (after fact) ↔ Left n s stays x news before fact) → IsClosed n after

-- Where a set has what follows from the facts before an instruction, what is left of it has what follows from the facts that are carried
-- over it.
abbrev pub LeftIsCarried : Type 0
LeftIsCarried = (image : Reading) (proofs : Annotation) (g at : ℕ) (news : List Fact) (set : Known) (after : Facts)
    → EffectBelow (scratch image (function_at image g)) (effect_at image (function_at image g) at)
    → AreNews (variables image (function_at image g)) (exit_facts proofs) (renewed (scratch image (function_at image g)) (effect_at image (function_at image g) at)) news
    → ((fact : Fact) → Before image proofs g at fact → IsTrue (is_over (scratch image (function_at image g)) fact))
    → Has (variables image (function_at image g)) (holds set) (Before image proofs g at)
    → ((fact : Fact) → IsTrue (after fact) ↔ Left (variables image (function_at image g)) (scratch image (function_at image g))
    (stay (place (function_at image g) (lowest image (function_at image g) at)) (place (function_at image g) (reach image (function_at image g) at)) (assigned (effect_at image (function_at image g) at)))
    (assigned (effect_at image (function_at image g) at)) news (holds set) fact)
    → Has (variables image (function_at image g)) after (Carried image proofs g at (Before image proofs g at))
