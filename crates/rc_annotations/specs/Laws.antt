-- The laws of facts and annotations.
use Rattle.std.specs.Prelude.{◌≡◌, ℕ, ◌≤◌, ℤ, true, IsTrue, List, Option, Some, false, ◌||◌}
use Rattle.rc_core.specs.declared.ty.Note.{Note}
use Rattle.rc_core.specs.Layout.{Layout}
use Rattle.rc_core.specs.Heap.{Value, Heap, parent, fits}
use Rattle.rc_core.specs.Laws.{IfGoes}
use Rattle.rc_core.specs.Runs.{Target}
use Rattle.rc_core.specs.Source.{World, source}
use Rattle.rc_facts.specs.declared.fact.Fact.{Fact}
use Rattle.rc_facts.specs.Derivable.{Derivable}
use Rattle.rc_rlang.specs.RegionCode.{Rlang}
use Rattle.rc_rlang.specs.RegionFlow.{Effect, assigned}
use Rattle.rc_annotations.specs.Annotations.{Facts, Annotation, Consistent, is_below, gained, allowed, asked}
use Rattle.rc_annotations.specs.Holding.{region_in, Holds, AllHold, Rooted}
use Rattle.rc_annotations.specs.Effects.{Happens}
use Rattle.rc_annotations.specs.Worlds.{Grown, Grounded, Sane, Beside, Anew, Under, Loaded, Stored, Deleted}

-- what is derivable from facts that hold, holds
abbrev pub DerivedHolds : Type 0
DerivedHolds = (n : ℕ) (given : Facts) (values : ℕ → Value) (heap : Heap) → Rooted (parent heap) → AllHold given values heap → (fact : Fact) → Derivable n given fact → Holds fact values heap

-- what holds of values that were made still holds of them when the heap has grown, whatever was deleted
abbrev pub HoldsLater : Type 0
HoldsLater = (fact : Fact) (values : ℕ → Value) (before after : Heap) → Grounded values before → Rooted (parent after) → Grown before after → Holds fact values before → Holds fact values after

-- a check finds that the value fits, where the fact holds that it asks
abbrev pub AskedFits : Type 0
AskedFits = (note : Note) (value holder : ℕ) (fact : Fact) (values : ℕ → Value) (heap : Heap) → asked note value holder ≡ Some fact → Holds fact values heap → fits (parent heap) note (region_in (values holder)) (values value) ≡ true

-- what is allowed behind an effect holds there, where the facts before it held of variables below n
abbrev pub AllowedHolds : Type 0
AllowedHolds = (m n s : ℕ) (exits : ℕ → List ℕ → Option ℕ → Facts) (effect : Effect) (facts : Facts) (before after : ℕ → Value) (heap heap1 : Heap) → n ≤ s → ((p : Fact) → IsTrue (facts p) → is_below n p) → AllHold facts before heap →
    Grounded before heap → Rooted (parent heap1) → Grown heap heap1 → Happens n s exits (assigned effect) effect before after heap1 → (fact : Fact) → is_below n fact → allowed m s (gained exits) effect facts fact → Holds fact after heap1

-- what the operations of the source's world do, where they go on, from a world in order
pub record OperationsSay : Type 0 where
  pub steps : (line : ℕ) (v : Value) (n : ℤ) (w : World) → Sane w → IfGoes (Beside w v) (source.step line v n w)
  pub regions : (line : ℕ) (w : World) → Sane w → IfGoes (Anew w) (source.new_region line w)
  pub subregions : (line : ℕ) (v : Value) (w : World) → Sane w → IfGoes (Under w v) (source.new_subregion line v w)
  pub objects : (line : ℕ) (v : Value) (n : ℤ) (layout : Layout) (w : World) → Sane w → IfGoes (Beside w v) (source.allocate line v n layout w)
  pub loads : (line : ℕ) (t : Target) (w : World) → Sane w → IfGoes (Loaded w t) (source.load line t w)
  pub stores : (line : ℕ) (t : Target) (v : Value) (w : World) → Sane w → IfGoes (Stored w t v) (source.store line t v w)
  pub deletions : (line : ℕ) (held : List Value) (v : Value) (w : World) → Sane w → IfGoes (Deleted w v) (source.delete line held v w)

-- annotations inside one another

abbrev pub Within : (fewer more : Facts) → Type 0
Within fewer more = (p : Fact) → IsTrue (fewer p) → IsTrue (more p)

pub record Inside (b a : Annotation) : Type 0 where
  pub before : (g p : ℕ) → Within (b.before g p) (a.before g p)
  pub entry : (g : ℕ) → Within (b.entry g) (a.entry g)
  pub exit : (g : ℕ) → Within (b.exit g) (a.exit g)

-- it is consistent, and each consistent one is inside
pub record Greatest (r : Rlang) (temporaries : ℕ → ℕ) (a : Annotation) : Type 0 where
  pub consistent : Consistent r temporaries a
  pub greatest : (b : Annotation) → Consistent r temporaries b → Inside b a

-- no facts at all
abbrev pub without_facts : Annotation
without_facts = record { before = λ g p fact. false; entry = λ g fact. false; exit = λ g fact. false }

-- the facts of either
abbrev pub united : (a b : Annotation) → Annotation
united a b = record { before = λ g p fact. a.before g p fact || b.before g p fact; entry = λ g fact. a.entry g fact || b.entry g fact; exit = λ g fact. a.exit g fact || b.exit g fact }
