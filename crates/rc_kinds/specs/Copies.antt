-- Struct copies. A copy reads all cells and then writes them all; it may as well go cell by cell, since its two places are the
-- same one or share no cell.
use Rattle.std.specs.Prelude.{◌≡◌, ℕ, zero, suc, ◌+◌, ◌<◌, ◌≤◌, Bool, length, ◌⊎◌}
use Rattle.rc_core.specs.Types.{Ty, struct}
use Rattle.rc_core.specs.Programs.{Place, Program}
use Rattle.rc_core.specs.Layout.{size}
use Rattle.rc_core.specs.Heap.{Heap}
use Rattle.rc_core.specs.Runs.{Ends, Stale, Run, Go, Stopped, bind, Target}
use Rattle.rc_core.specs.Source.{World, source, with_heap, Spot, object_of, place_of, at_spot}
use Rattle.rc_core.specs.Typing.{IsPlace}
use Rattle.rc_core.specs.Laws.{IfGoes}
use Rattle.rc_kinds.specs.Frames.{Frame, in_world, target_in, IsSuited}

-- all cells are read, and then all are written
abbrev pub copied_at_once : (line size : ℕ) → (from to : Target) → World → Run World (Unit {0})
copied_at_once line size from to w = bind (source.load_all line from size w) (λ vs w1. source.store_all line to vs w1)

-- the cell behind
abbrev pub onward : Target → Target
onward t = record t { offset = suc t.offset }

-- each cell is read and written before the next
abbrev pub copied_by_cells : (line size : ℕ) → (from to : Target) → World → Run World (Unit {0})
copied_by_cells line zero from to w = Go tt w
copied_by_cells line (suc size) from to w =
    bind (source.load line from w) (λ v w1. bind (source.store line to v w1) (λ _ w2. copied_by_cells line size (onward from) (onward to) w2))

-- Where the first run goes on, the second comes to the same world. Where the first ends, the second ends so too, with the same
-- acts: its world differs in the heap alone. Where the first touches a deleted region nothing is said, since no program does.
abbrev pub DoesTheSame : Run World (Unit {0}) → Run World (Unit {0}) → Type 0
DoesTheSame (Go x w) m = m ≡ Go tt w
DoesTheSame (Stopped (Ends end) w) m = (heap : Heap) × (m ≡ Stopped (Ends end) (with_heap w heap))
DoesTheSame (Stopped (Stale line) w) m = Unit {0}

-- so many cells from a on, and from b on: the same ones, or none in common
abbrev pub Apart : (size a b : ℕ) → Type 0
Apart size a b = (a ≡ b) ⊎ ((a + size ≤ b) ⊎ (b + size ≤ a))

-- in two objects, or apart in one
abbrev pub AreApart : (size : ℕ) → Heap → (a b : Spot) → Type 0
AreApart size heap a b = (b.region ≡ a.region → b.object ≡ a.object → ⊥) ⊎ ((b.region ≡ a.region) × (b.object ≡ a.object) × Apart size (place_of (object_of heap a) a) (place_of (object_of heap a) b))

-- what holds of two places, once the one and then the other is evaluated
abbrev pub OfBoth : Program → (live : ℕ → Bool) → (left right : Place) → Frame → (Target → Target → World → Type 0) → Type 0
OfBoth program live left right at Holds = IfGoes (λ to w. IfGoes (λ from w1. Holds to from w1) (target_in program live right (in_world at w))) (target_in program live left at)

pub record CopiesGoByCells (program : Program) : Type 0 where
  -- two places of one type, where the tests of both pass
  pub apart : (live : ℕ → Bool) (left right : Place) (t : Ty) (at : Frame) → IsSuited program at → IsPlace program at.function.locals left t → IsPlace program at.function.locals right t
      → OfBoth program live left right at (λ to from w. (line : ℕ) → IfGoes (λ (spots : Spot × Spot) w1. AreApart (size program.structs t) w.heap spots.0 spots.1) (at_spot line from w (λ a. at_spot line to w (λ b. Go (a, b) w))))
  pub same : (live : ℕ → Bool) (left right : Place) (s : ℕ) (at : Frame) → IsSuited program at → IsPlace program at.function.locals left (struct s) → IsPlace program at.function.locals right (struct s) → s < length program.structs
      → OfBoth program live left right at (λ to from w. (line : ℕ) → DoesTheSame (copied_at_once line (size program.structs (struct s)) from to w) (copied_by_cells line (size program.structs (struct s)) from to w))
