-- An annotation that is named where the null and bounds tests of a place pass is named where a load or a store of it goes on.
use Rattle.std.proofs.Common.{◌≡◌, ◌+ℤ◌, pos, Bool, true, false, [], ◌∷◌}
use Rattle.std.specs.Prelude.{ℕ}
use Rattle.std.specs.List.{list_all}
use Rattle.rc_base.specs.declared.ends.Trap.TheVariants.{Bounds}
use Rattle.rc_core.specs.declared.ty.Note.{Note}
use Rattle.rc_core.specs.Heap.{Value, Number, Null, Handle, Pointer, Address, live, object_at, is_fresh}
use Rattle.rc_core.specs.Laws.{IfGoes}
use Rattle.rc_core.specs.Runs.{Run, Go, Stopped, tested, touching, Target}
use Rattle.rc_core.specs.Source.{World, with_heap, Spot, at_address, is_index, chosen_in_range, values_from, first_of, notes_from, at_spot, fitting, written, source}
use Rattle.rc_annotations.specs.Worlds.{note_at}
use Rattle.rc_annotations.proofs.WorldFacts.{Goes, spot_at}
use Rattle.rc_along.specs.Along.{Named}

goes_any : {A : Type 0} {P : Type 0} (m : Run World A) → P → Goes (λ x w1. P) m
goes_any (Go x w) p = record { holds = p }
goes_any (Stopped s w) p = record { holds = tt }

pub goes_named : {A : Type 0} (line : ℕ) (t : Target) (note : Note) (w : World) (go : Spot → Run World A) → Named line t note w → Goes (λ x w1. note_at w.heap t ≡ note) (at_spot line t w go)
goes_named line t note w go = by t.pointer
  where
    tests : {B : Type 0} → (Spot → Run World B) → Address → Run World B
    tests go a =
        touching (live w.heap a.region) line w
        (tested (is_index (pos a.index +ℤ t.shift) (object_at w.heap a.region a.object).count) Bounds line w
        (tested (list_all chosen_in_range t.chosen) Bounds line w
        (go (spot_at a t))))

    passed : (a : Address) (l i c : Bool) → IfGoes (λ (spot : Spot) w1. note_at w.heap t ≡ note) (touching l line w (tested i Bounds line w (tested c Bounds line w (Go (spot_at a t) w))))
        → Goes (λ x w1. note_at w.heap t ≡ note) (touching l line w (tested i Bounds line w (tested c Bounds line w (go (spot_at a t)))))
    passed a true true true p = goes_any (go (spot_at a t)) p
    passed a false i c p = record { holds = tt }
    passed a true false c p = record { holds = tt }
    passed a true true false p = record { holds = tt }

    by : (v : Value) → IfGoes (λ spot w1. note_at w.heap t ≡ note) (at_address line v w (tests (λ spot. Go spot w))) → Goes (λ x w1. note_at w.heap t ≡ note) (at_address line v w (tests go))
    by (Number n) p = record { holds = tt }
    by Null p = record { holds = tt }
    by (Handle r) p = record { holds = tt }
    by (Pointer a) p = passed a (live w.heap a.region) (is_index (pos a.index +ℤ t.shift) (object_at w.heap a.region a.object).count) (list_all chosen_in_range t.chosen) p

pub load_named : (line : ℕ) (t : Target) (note : Note) (w : World) → Named line t note w → Goes (λ v w1. note_at w.heap t ≡ note) (source.load line t w)
load_named line t note w named = goes_named line t note w (λ spot. Go (first_of (values_from w.heap spot 1)) w) named

pub store_named : (line : ℕ) (t : Target) (v : Value) (note : Note) (w : World) → Named line t note w → Goes (λ u w1. note_at w.heap t ≡ note) (source.store line t v w)
store_named line t v note w named =
    goes_named line t note w (λ spot. touching (list_all (is_fresh (live w.heap)) (v ∷ [])) line w (fitting w.heap spot.region line (notes_from w.heap spot) (v ∷ []) w (Go tt (with_heap w (written spot (v ∷ []) w.heap))))) named
