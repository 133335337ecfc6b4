-- What is written is fresh and fits where it comes to stand.
use Rattle.std.proofs.Common.{◌≡◌, ℕ, ◌<◌, ◌-◌, true, List, [], ◌∷◌, length, take, drop, replicate, flat_map, sym, subst}
use Rattle.std.specs.List.{AllByRecursion as Every}
use Rattle.rc_core.specs.Types.{CellKind}
use Rattle.rc_core.specs.Layout.{note_of}
use Rattle.rc_core.specs.Heap.{Value, Object, Heap, no_object, live, parent, objects, fits}
use Rattle.rc_core.specs.Source.{Spot, object_of, place_of, written}
use Rattle.rc_safety.proofs.Lists.{every_update}
use Rattle.rc_safety.proofs.Fronts.{FrontZip, overwritten_zip, element_front}
use Rattle.rc_safety.specs.Soundness.{IsFresh, CellIsSound, ObjectIsSound, HeapIsSound}
use Rattle.rc_safety.proofs.Changed.{changed_sound}

-- the values fit the cells from the spot to the end of its element
abbrev pub Fit : (parent : ℕ → ℕ) → (holder : ℕ) → List CellKind → List Value → Type 0
Fit parent holder kinds vs = FrontZip (λ kind v. fits parent (note_of kind) holder v ≡ true) kinds vs

both : (live : ℕ → _) (parent : ℕ → ℕ) (holder : ℕ) (kinds : List CellKind) (vs : List Value) → Every (IsFresh live) vs → Fit parent holder kinds vs → FrontZip (CellIsSound live parent holder) kinds vs
both live parent holder kinds [] fresh fit = tt
both live parent holder [] (v ∷ vs) fresh fit = tt
both live parent holder (kind ∷ kinds) (v ∷ vs) fresh fit = (record { fresh = fresh.0; fit = fit.0 }, both live parent holder kinds vs fresh.1 fit.1)

pub written_sound : (heap : Heap) (spot : Spot) (vs : List Value) → HeapIsSound heap → live heap spot.region ≡ true → spot.element < (object_of heap spot).count
    → Every (IsFresh (live heap)) vs → Fit (parent heap) spot.region (drop spot.cell (object_of heap spot).layout) vs → HeapIsSound (written spot vs heap)
written_sound heap spot vs sound l below fresh fit =
    changed_sound heap spot.region _ sound l
    (every_update (ObjectIsSound (live heap) (parent heap) spot.region) (objects heap spot.region) spot.object _ no_object
    (λ o same old. overwritten_zip (CellIsSound (live heap) (parent heap) spot.region) (place_of o spot) _ _ o.values old
    (subst (λ (o : Object). Front o) (sym same) front))
    (sound.regions spot.region l).objects)
  where
    Front : Object → Type 0
    Front o = FrontZip (CellIsSound (live heap) (parent heap) spot.region) (drop (place_of o spot) (flat_map (λ copy. copy) (replicate o.count o.layout))) (take (length o.layout - spot.cell) vs)

    front : Front (object_of heap spot)
    front = element_front (CellIsSound (live heap) (parent heap) spot.region) (object_of heap spot).layout (object_of heap spot).count spot.element spot.cell vs below (both (live heap) (parent heap) spot.region _ vs fresh fit)
