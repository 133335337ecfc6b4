-- What a heap keeps is read and changed as the store is.
use Rattle.std.specs.Prelude.{◌≡◌, ℕ, [], ◌∷◌, ◌++◌, length, map, Some, None}
use Rattle.std.specs.List.{list_any}
use Rattle.rc_core.specs.Layout.{Layout}
use Rattle.rc_core.specs.Layout.{note_of as cell_note_of}
use Rattle.rc_core.specs.Laid.{held_kind}
use Rattle.rc_core.specs.declared.ty.Note.{Note}
use Rattle.rc_core.specs.Heap.{Value, blank, fits, is_fresh, update}
use Rattle.rc_core.specs.Source.{Spot}
use Rattle.rc_core.specs.Store.{Store}
use Rattle.rc_code.specs.StoreModel as Model
use Rattle.rc_store.specs.declared.cell.Place.{Place}
use Rattle.rc_store.specs.Kept.{kept_store}
use Rattle.rc_store.specs.Stores.{HasPlace, allocated, deleted, has_child, kind_at, live_in, made, object_in, objects_in, parent_in, kept_value, written}
use Rattle.rc_store.specs.Values.{note_of}

-- a cell, by the words of the store model
abbrev pub spot_of : Place → Spot
spot_of p = record { region = p.pointer.region; object = p.pointer.object; element = p.pointer.index; cell = p.cell }

pub record ShowsTheStore : Type 0 where
  pub live : (s : Store) (r : ℕ) → live_in (kept_store s).regions r ≡ Model.lives s r
  pub parent : (s : Store) (r : ℕ) → parent_in (kept_store s).regions r ≡ Model.parent_in s r
  pub objects : (s : Store) (r : ℕ) → length (objects_in (kept_store s).regions r) ≡ length (Model.view s r).objects
  pub elements : (s : Store) (r o : ℕ) → (object_in (kept_store s).regions r o).count ≡ (Model.object_in s r o).count
  pub size : (s : Store) (r o : ℕ) → (object_in (kept_store s).regions r o).size ≡ length (Model.object_in s r o).layout
  pub value : (s : Store) (p : Place) → kept_value (kept_store s) p ≡ Model.value_in s (spot_of p)
  pub note : (s : Store) (p : Place) → HasPlace (kept_store s) p → note_of (kind_at (kept_store s) p) ≡ cell_note_of (Model.kind_in s (spot_of p))
  pub fresh : (s : Store) (v : Value) → is_fresh (live_in (kept_store s).regions) v ≡ is_fresh (Model.lives s) v
  pub fits : (s : Store) (note : Note) (holder : ℕ) (v : Value) → fits (parent_in (kept_store s).regions) note holder v ≡ fits (Model.parent_in s) note holder v
  pub child : (s : Store) (r : ℕ) → has_child (kept_store s) r ≡ list_any (Model.is_child r) s.regions

pub record ChangesTheStore : Type 0 where
  pub made : (s : Store) (parent : ℕ) → made parent (kept_store s) ≡ kept_store (record s { regions = s.regions ++ Some (record { parent = parent; objects = [] }) ∷ [] })
  pub allocated : (s : Store) (r n : ℕ) (layout : Layout) → allocated r (map held_kind layout) n (kept_store s) ≡ kept_store (Model.with_objects_in s r (λ os. os ++ blank layout n ∷ []))
  pub written : (s : Store) (p : Place) (v : Value) → HasPlace (kept_store s) p → written p v (kept_store s) ≡ kept_store (Model.put_in (spot_of p) v s)
  pub deleted : (s : Store) (r : ℕ) → deleted r (kept_store s) ≡ kept_store (record s { regions = update s.regions r (λ v. None) })
