-- The cells of all live regions, of which one region changes.
use Rattle.std.proofs.Common.{◌≡◌, ◌<◌, ◌+◌, ◌*◌, ◌∙◌, ℕ, zero, suc, IsTrue, List, [], ◌∷◌, ◌++◌, length, map, replicate, Some, None, sym, ap, arith, length-append, length-set}
use Rattle.std.specs.Prelude.{flat_map}
use Rattle.std.specs.List.{sum_by}
use Rattle.std.proofs.lemmas.List.{length-map}
use Rattle.std.proofs.lemmas.List.Concat.{flat_map-cons}
use Rattle.std.proofs.lemmas.List.Sums.{sum_by-set, sum_by_push}
use native.Mathlib.Nat.{suc-mul, zero-mul}
use Rattle.rc_core.specs.declared.layouts.Kind.{Kind}
use Rattle.rc_core.specs.Heap.{Value}
use Rattle.rc_store.specs.declared.cell.Place.{Place}
use Rattle.rc_store.specs.Kept.{KeptObject, KeptStore, Regions, blank}
use Rattle.rc_store.specs.Stores.{HasPlace, IsLive, all_cells, at_place, cells_in, no_object, object_with, objects_in, parent_in, region_at, size_of}
use Rattle.rc_store.specs.Stores as S
use Rattle.rc_store.specs.Values.{blank_of}
use Rattle.rc_store.proofs.Changed.{objects_set}
use Rattle.rc_cells.specs.Follow.{CellsFollow}
use Rattle.rc_cells.proofs.Changes.{live_there, region_read, view_there}

-- the objects of a live region change
objects_cells : (q : ℕ) (regions : Regions) (objects : List KeptObject) → IsTrue (S.live_in regions q)
    → sum_by cells_in (S.with_objects q objects regions) + sum_by size_of (objects_in regions q) ≡ sum_by cells_in regions + sum_by size_of objects
objects_cells q regions objects live =
    let changed = sum_by-set cells_in regions q (Some (record { parent = parent_in regions q; objects = objects })) None (live_there regions q live) in
    omega (arith, ap (sum_by cells_in) (objects_set q objects regions live), changed, ap cells_in (view_there regions q live))

blank_size : (n : ℕ) (kinds : List Kind) → length (flat_map (map blank_of) (replicate n kinds)) ≡ n * length kinds
blank_size zero kinds = sym (zero-mul (length kinds))
blank_size (suc n) kinds =
    ap length (flat_map-cons (map blank_of) kinds (replicate n kinds))
    ∙ length-append (map blank_of kinds) (flat_map (map blank_of) (replicate n kinds))
    ∙ ap (λ m. m + length (flat_map (map blank_of) (replicate n kinds))) (length-map kinds blank_of)
    ∙ ap (λ m. length kinds + m) (blank_size n kinds)
    ∙ omega (arith, suc-mul n (length kinds))

allocated_cells : (s : KeptStore) (q n : ℕ) (kinds : List Kind) → IsLive s q → all_cells (S.allocated q kinds n s) ≡ all_cells s + n * length kinds
allocated_cells s q n kinds live =
    let changed = objects_cells q s.regions (objects_in s.regions q ++ blank kinds n ∷ []) live in
    omega (arith, changed, sum_by_push size_of (objects_in s.regions q) (blank kinds n), blank_size n kinds)

written_cells : (s : KeptStore) (p : Place) (v : Value) → HasPlace s p → all_cells (S.written p v s) ≡ all_cells s
written_cells s p v place =
    let q = p.pointer.region in
    let objects = objects_in s.regions q in
    let o = at_place s p in
    let changed = objects_cells q s.regions (S.objects_with p.pointer.object p.pointer.index p.cell v objects) place.live in
    let one = sum_by-set size_of objects p.pointer.object (object_with p.pointer.index p.cell v o) no_object place.object in
    let same : size_of (object_with p.pointer.index p.cell v o) ≡ size_of o = length-set o.values (S.cell_place o p.pointer.index p.cell) v in
    omega (arith, changed, one, same)

deleted_cells : (s : KeptStore) (d : ℕ) → d < length s.regions → all_cells (S.deleted d s) + cells_in (region_at s.regions d) ≡ all_cells s
deleted_cells s d inside = omega (arith, sum_by-set cells_in s.regions d None None inside, ap cells_in (region_read s.regions d))

pub cells_follow : CellsFollow
cells_follow = record {
  made = λ s parent. sum_by_push cells_in s.regions (Some (record { parent = parent; objects = [] })) ∙ omega arith;
  allocated = allocated_cells;
  written = written_cells;
  deleted = deleted_cells;
}
