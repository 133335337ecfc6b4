-- What an effect says of the values behind it, the new value of an assigned variable by the variable's name. What a call says is what the
-- exit of its function says.
use Rattle.std.specs.Prelude.{◌≡◌, ℕ, ◌<◌, true, IsTrue, List, [], ◌∷◌, Option, Some, None}
use Rattle.rc_core.specs.Heap.{Value, Heap, parent, is_above, fits}
use Rattle.rc_facts.specs.declared.fact.Fact.{Fact}
use Rattle.rc_rlang.specs.RegionFlow.{Effect, nothing, nulled, moved, fixed, beside, made, under, loaded, looked_at, stored, present, absent, called, entered}
use Rattle.rc_rlang.specs.RegionRuns.{changed_at}
use Rattle.rc_annotations.specs.Annotations.{Facts, assigning}
use Rattle.rc_annotations.specs.Holding.{is_present, region_in, Holds}

abbrev pub Absent : Value → Type 0
Absent v = is_present v → ⊥

abbrev pub EachIs : (values : ℕ → Value) → List (ℕ × ℕ) → Type 0
EachIs values [] = Unit {0}
EachIs values (c ∷ cs) = (values c.0 ≡ values c.1) × EachIs values cs

abbrev pub Says : (exits : ℕ → List ℕ → Option ℕ → Facts) → Effect → (values : ℕ → Value) → Heap → Type 0
Says exits nothing values heap = Unit {0}
Says exits (nulled x) values heap = Absent (values x)
Says exits (moved x y) values heap = values x ≡ values y
Says exits (fixed x) values heap = is_present (values x) × (region_in (values x) ≡ 0)
Says exits (beside x y) values heap = is_present (values y) × is_present (values x) × (region_in (values x) ≡ region_in (values y))
Says exits (made x) values heap = is_present (values x)
Says exits (under x y) values heap = is_present (values y) × is_present (values x) × (is_above (parent heap) (region_in (values y)) (region_in (values x)) ≡ true)
Says exits (loaded x y note) values heap = is_present (values y) × (fits (parent heap) note (region_in (values y)) (values x) ≡ true)
Says exits (looked_at y) values heap = is_present (values y)
Says exits (stored z y note) values heap = is_present (values y) × (fits (parent heap) note (region_in (values y)) (values z) ≡ true)
Says exits (present y) values heap = is_present (values y)
Says exits (absent y) values heap = Absent (values y)
Says exits (called x g arguments) values heap = (p : Fact) → IsTrue (exits g arguments x p) → Holds p values heap
Says exits (entered pairs) values heap = EachIs values pairs

-- over an effect the variables below n keep their values, but for the one that is assigned, and it is as the effect says; what it says of
-- the assigned one is said of the scratch variable s, the others being as they were
abbrev pub Happens : (n s : ℕ) → (exits : ℕ → List ℕ → Option ℕ → Facts) → Option ℕ → Effect → (before after : ℕ → Value) → Heap → Type 0
Happens n s exits None effect before after heap = ((u : ℕ) → u < n → after u ≡ before u) × Says exits effect after heap
Happens n s exits (Some x) effect before after heap =
    (v : Value) × ((u : ℕ) → u < n → after u ≡ changed_at before x v u) × Says exits (assigning s effect) (changed_at before s v) heap
