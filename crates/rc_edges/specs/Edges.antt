-- Region code as edges that carry facts. At no point of a function is anything known of its result, so facts are kept over the variables
-- before it, and its number is free there: it serves as the scratch variable of edges. What an effect adds is a list of facts on these
-- variables alone; what is lost so is said of no variable that a point speaks of.
use Rattle.std.specs.Prelude.{◌≡◌, ℕ, suc, ◌<◌, IsTrue, List, [], ◌∷◌, Option, Some, None, IfSome}
use Rattle.std.specs.List.{All, list_any}
use Rattle.rc_facts.specs.declared.fact.Fact.{Fact}
use Rattle.rc_facts.specs.Facts.{same_fact, is_over}
use Rattle.rc_rlang.specs.RegionCode.{Routine}
use Rattle.rc_rlang.specs.RegionFlow.{Effect, nothing, nulled, moved, fixed, beside, made, under, loaded, looked_at, stored, present, absent, called, entered, assigned, result_variable}
use Rattle.rc_annotations.specs.Annotations.{Facts, assigning, gained}
pub use Rattle.rc_annotations.specs.Annotations.{NodeEdge}
use Rattle.rc_facts.specs.Flow.{Behind}
use Rattle.rc_edges.specs.News.{news_of}

-- the scratch variable of edges, and how many variables facts are kept over
abbrev pub spare : Routine → (temporaries : ℕ) → ℕ
spare f temporaries = result_variable f temporaries

abbrev pub kept : Routine → (temporaries : ℕ) → ℕ
kept f temporaries = suc (spare f temporaries)

-- the effect speaks of variables below n alone
abbrev pub all_below : ℕ → List ℕ → Type 0
all_below n [] = Unit {0}
all_below n (x ∷ xs) = (x < n) × all_below n xs

abbrev pub pairs_below : ℕ → List (ℕ × ℕ) → Type 0
pairs_below n [] = Unit {0}
pairs_below n (c ∷ cs) = (c.0 < n) × (c.1 < n) × pairs_below n cs

abbrev pub EffectBelow : ℕ → Effect → Type 0
EffectBelow n nothing = Unit {0}
EffectBelow n (nulled x) = x < n
EffectBelow n (moved x y) = (x < n) × (y < n)
EffectBelow n (fixed x) = x < n
EffectBelow n (beside x y) = (x < n) × (y < n)
EffectBelow n (made x) = x < n
EffectBelow n (under x y) = (x < n) × (y < n)
EffectBelow n (loaded x y note) = (x < n) × (y < n)
EffectBelow n (looked_at y) = y < n
EffectBelow n (stored z y note) = (z < n) × (y < n)
EffectBelow n (present y) = y < n
EffectBelow n (absent y) = y < n
EffectBelow n (called x g arguments) = IfSome x (λ v. v < n) × all_below n arguments
EffectBelow n (entered pairs) = pairs_below n pairs

-- with the scratch variable s assigned, where one is
abbrev pub renewed_by : Option ℕ → (s : ℕ) → Effect → Effect
renewed_by None s effect = effect
renewed_by (Some x) s effect = assigning s effect

abbrev pub renewed : (s : ℕ) → Effect → Effect
renewed s effect = renewed_by (assigned effect) s effect

-- these facts are what the effect adds on n variables; the facts of exits are given
pub record AreNews (n : ℕ) (exits : ℕ → List ℕ → Option ℕ → Facts) (effect : Effect) (news : List Fact) : Type 0 where
  pub over : All (λ p. IsTrue (is_over n p)) news
  pub sound : (fact : Fact) → IsTrue (list_any (λ p. same_fact p fact) news) → IsTrue (gained exits effect fact)
  pub whole : (fact : Fact) → IsTrue (is_over n fact) → IsTrue (gained exits effect fact) → IsTrue (list_any (λ p. same_fact p fact) news)

-- a fact may stand behind an edge with this effect, by what is known before it and what exits say
abbrev pub Crossed : (exits : ℕ → Facts) → (s : ℕ) → Effect → (before : Facts) → Fact → Type 0
Crossed exits s effect before fact = Behind (suc s) s (assigned effect) (news_of (suc s) exits (renewed s effect)) before fact
