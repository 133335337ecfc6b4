-- What edges carry is what is allowed behind effects.
use Rattle.std.specs.Prelude.{ℕ, suc, ◌<◌, ◌≤◌, IsTrue, ◌↔◌}
use Rattle.rc_facts.specs.declared.fact.Fact.{Fact}
use Rattle.rc_facts.specs.Derivable.{Derivable}
use Rattle.rc_rlang.specs.RegionFlow.{Effect}
use Rattle.rc_annotations.specs.Annotations.{Facts, Annotation, gained, exit_facts, allowed, is_below}
use Rattle.rc_edges.specs.Edges.{Crossed, EffectBelow}

abbrev pub AllBelow : ℕ → Facts → Type 0
AllBelow s facts = (p : Fact) → IsTrue (facts p) → is_below s p

-- of facts on variables below s, the scratch variable of the edge: over n variables with another scratch variable, above s, the same ones
-- are allowed behind the effect
abbrev pub EdgesAllow : Type 0
EdgesAllow = (n s u : ℕ) (a : Annotation) (effect : Effect) (before : Facts) (fact : Fact) → s < u → u < n → EffectBelow s effect → AllBelow s before → is_below s fact →
    allowed n u (gained (exit_facts a)) effect before fact ↔ Crossed a.exit s effect before fact

-- what is derivable from facts on variables below m, of such variables, is so over m variables
abbrev pub FewerDerive : Type 0
FewerDerive = (n m : ℕ) (given : Facts) (fact : Fact) → 0 < m → m ≤ n → AllBelow m given → is_below m fact → Derivable n given fact ↔ Derivable m given fact
