-- A struct copy that goes cell by cell finds in each cell a value of the cell's kind, so that nothing is cut on the way.
use Rattle.std.proofs.Common.{◌≡◌, ◌<◌, ◌-◌, ◌*◌, ℕ, suc, pos, ◌+ℤ◌, Bool, true, List, [], ◌∷◌, ◌++◌, length, take, drop, Some, refl, sym, ap, ◌∙◌, subst, arith, length-append, append_assoc}
use Rattle.std.specs.Prelude.{unsigned_abs, negsuc}
use Rattle.std.specs.List.{AllZip, list_all}
use Rattle.std.proofs.Math.Nat.{mod-eq_of_lt}
use Rattle.rc_base.specs.declared.ends.Trap.TheVariants.{Bounds}
use Rattle.rc_core.specs.declared.ty.Note.{Note}
use Rattle.rc_core.specs.declared.ty.Note.TheVariants.{Plain}
use Rattle.rc_core.specs.Types.{Ty, pointer, CellKind, int_cell, unsigned_cell, char_cell, region_cell, pointer_cell}
use Rattle.rc_core.specs.Programs.{Program}
use Rattle.rc_core.specs.Layout.{Layout, cells}
use Rattle.rc_core.specs.Heap.{kinds_of, Value, Number, Null, Handle, Pointer, Address, Object, Heap, live, object_at, is_fresh}
use Rattle.rc_core.specs.Runs.{Run, Go, Stopped, bind, Target}
use Rattle.rc_core.specs.Source.{World, with_heap, at_address, is_index, chosen_in_range, cell_of, Spot, object_of, place_of, notes_from, at_spot, unfit, fitting, written, overwritten, first_of, source}
use Rattle.rc_kinds.specs.Suits.{Entry, Ledger, entry_at, Leads, IsPointer, CellSuits, ObjectSuits, HeapSuits, Grows, WorldSuits}
use Rattle.rc_kinds.specs.Copies.{copied_by_cells}
use Rattle.rc_kinds.proofs.InRange.{less_is}
use Rattle.rc_kinds.proofs.Zips.{zip_part, zip_overwritten, take_all, Stands, stands_within, copy_stands}
use Rattle.rc_kinds.proofs.Grown.{grows_itself, still_suits}
use Rattle.rc_kinds.proofs.Kept.{Nothing, Keeps, keeps_here, keeps_tested, keeps_touching}
use Rattle.rc_kinds.proofs.Ledgers.{object_suits, object_changed, world_with}
use Rattle.rc_kinds.proofs.Paths.{Aims, index_is_below}
use Rattle.rc_kinds.proofs.Operations.{stands_fits}
use Rattle.rc_rlang.specs.RegionRuns as R
use Rattle.rc_rlang.specs.RegionRuns.{Temporaries, kept_cell}

-- a value of the cell's kind is kept as it is
pub kept_in_cell : (l : Ledger) (kind : CellKind) (v : Value) → CellSuits l kind v → kept_cell kind v ≡ v
kept_in_cell l int_cell v s = refl
kept_in_cell l unsigned_cell v s = refl
kept_in_cell l char_cell (Number (pos n)) s = ap (λ m. Number (pos m)) (mod-eq_of_lt (less_is n 256 s))
kept_in_cell l char_cell (Number (negsuc n)) s = cc
kept_in_cell l char_cell Null s = absurd s
kept_in_cell l char_cell (Handle r) s = absurd s
kept_in_cell l char_cell (Pointer a) s = absurd s
kept_in_cell l region_cell v s = refl
kept_in_cell l (pointer_cell note target) v s = refl

-- the same part, but for its first
stands_next : {A : Type 0} (whole part : List A) (x : A) (at : ℕ) → Stands whole (x ∷ part) at → Stands whole part (suc at)
stands_next whole part x at s = record {
  before = s.before ++ x ∷ [];
  rest = s.rest;
  whole_is = s.whole_is ∙ sym (append_assoc s.before (x ∷ []) (part ++ s.rest));
  at_is = let e : length (s.before ++ x ∷ []) ≡ suc at = omega (arith, length-append s.before (x ∷ []), s.at_is) in e;
}

first_suits : (l : Ledger) (kind : CellKind) (kinds : Layout) (vs : List Value) → AllZip (CellSuits l) (kind ∷ kinds) (take (suc (length kinds)) vs) → CellSuits l kind (first_of (take 1 vs))
first_suits l kind kinds [] all = absurd all
first_suits l kind kinds (v ∷ vs) all = all.0

module _ (program : Program) where
  -- cells of these kinds are there, if the tests pass
  pub record AimsAt (l : Ledger) (kinds : Layout) (tg : Target) : Type 0 where
    pub element : Ty
    pub pointer : IsPointer l element tg.pointer
    pub stands : list_all chosen_in_range tg.chosen ≡ true → Stands (cells program.structs element) kinds (cell_of tg)

  pub aims_at : (l : Ledger) (t : Ty) (tg : Target) → Aims program.structs l t tg → AimsAt l (cells program.structs t) tg
  aims_at l t tg a = record { element = a.element; pointer = a.pointer; stands = a.stands }

  pub still_at : (l l1 : Ledger) (kinds : Layout) (tg : Target) → Grows l l1 → AimsAt l kinds tg → AimsAt l1 kinds tg
  still_at l l1 kinds tg g a = record { element = a.element; pointer = still_suits l l1 g (pointer Plain a.element) tg.pointer a.pointer; stands = a.stands }

  pub next_at : (l : Ledger) (kind : CellKind) (kinds : Layout) (tg : Target) → AimsAt l (kind ∷ kinds) tg → AimsAt l kinds (record tg { offset = suc tg.offset })
  next_at l kind kinds tg a =
      let e : suc (cell_of tg) ≡ cell_of (record tg { offset = suc tg.offset }) = omega arith in
      record { element = a.element; pointer = a.pointer; stands = λ all. subst (Stands (cells program.structs a.element) kinds) e (stands_next (cells program.structs a.element) kinds kind (cell_of tg) (a.stands all)) }

  record IsAt (l : Ledger) (kinds : Layout) (w : World) (spot : Spot) : Type 0 where
    pub entry : Entry
    pub there : entry_at l spot.region spot.object ≡ Some entry
    pub object : ObjectSuits program.structs l entry (object_of w.heap spot)
    pub inside : spot.element < (object_of w.heap spot).count
    pub stands : Stands (object_of w.heap spot).layout kinds spot.cell

  at_address_keeps : {A : Type 0} (l : Ledger) (line : ℕ) (t : Ty) (v : Value) (w : World) (S : Ledger → A → Type 0) (go : Address → Run World A) → IsPointer l t v → ((a : Address) → Leads l t a → Keeps program l S (go a)) → Keeps program l S (at_address line v w go)
  at_address_keeps l line t (Number n) w S go p k = absurd p
  at_address_keeps l line t Null w S go p k = record { holds = tt }
  at_address_keeps l line t (Handle r) w S go p k = absurd p
  at_address_keeps l line t (Pointer a) w S go p k = k a p

  at_cells_keeps : {A : Type 0} (l : Ledger) (line : ℕ) (kinds : Layout) (tg : Target) (w : World) (S : Ledger → A → Type 0) (go : Spot → Run World A) → AimsAt l kinds tg → WorldSuits program l w
      → ((spot : Spot) → IsAt l kinds w spot → Keeps program l S (go spot)) → Keeps program l S (at_spot line tg w go)
  at_cells_keeps l line kinds tg w S go a suits k =
      at_address_keeps l line a.element tg.pointer w S _ a.pointer (λ at p.
      keeps_touching program l S (live w.heap at.region) line w _
      (keeps_tested program l S (is_index (pos at.index +ℤ tg.shift) (object_at w.heap at.region at.object).count) Bounds line w _ (λ e.
      keeps_tested program l S (list_all chosen_in_range tg.chosen) Bounds line w _ (λ all.
      let o = object_suits program.structs l l w.heap at.region at.object _ suits.heap p.entry in
      k (record { region = at.region; object = at.object; element = unsigned_abs (pos at.index +ℤ tg.shift); cell = cell_of tg }) (record {
        entry = record { ty = a.element; count = p.count };
        there = p.entry;
        object = o;
        inside = index_is_below (pos at.index +ℤ tg.shift) _ e;
        stands = subst (λ xs. Stands xs kinds (cell_of tg)) (sym o.layout) (a.stands all);
      })))))

  stands_in : (l : Ledger) (kinds : Layout) (w : World) (spot : Spot) → IsAt l kinds w spot → Stands (kinds_of (object_of w.heap spot)) kinds (place_of (object_of w.heap spot) spot)
  stands_in l kinds w spot is =
      let o = object_of w.heap spot in
      stands_within (kinds_of o) o.layout kinds (spot.element * length o.layout) spot.cell (place_of o spot) refl (copy_stands o.layout o.count spot.element (spot.element * length o.layout) is.inside refl) is.stands

  pub load_suits : (l : Ledger) (line : ℕ) (kind : CellKind) (kinds : Layout) (tg : Target) (w : World) → AimsAt l (kind ∷ kinds) tg → WorldSuits program l w → Keeps program l (λ l v. CellSuits l kind v) (source.load line tg w)
  load_suits l line kind kinds tg w a suits =
      at_cells_keeps l line (kind ∷ kinds) tg w (λ l v. CellSuits l kind v) _ a suits (λ spot is.
      let o = object_of w.heap spot in
      let s = stands_in l (kind ∷ kinds) w spot is in
      let all = zip_part (CellSuits l) s.before (kind ∷ kinds) s.rest o.values (subst (λ ks. AllZip (CellSuits l) ks o.values) s.whole_is is.object.values) in
      keeps_here program l (λ l v. CellSuits l kind v) _ w suits (subst (λ n. CellSuits l kind (first_of (take 1 (drop n o.values)))) s.at_is (first_suits l kind kinds (drop (length s.before) o.values) all)))

  fitting_keeps : (l : Ledger) (heap : Heap) (holder line : ℕ) (notes : List Note) (vs : List Value) (w : World) (m : Run World (Unit {0})) → Keeps program l Nothing m → Keeps program l Nothing (fitting heap holder line notes vs w m)
  fitting_keeps l heap holder line [] [] w m k = k
  fitting_keeps l heap holder line (note ∷ notes) [] w m k = k
  fitting_keeps l heap holder line [] (v ∷ vs) w m k = k
  fitting_keeps l heap holder line (note ∷ notes) (v ∷ vs) w m k = keeps_tested program l Nothing _ (unfit note) line w _ (λ e. fitting_keeps l heap holder line notes vs w m k)

  written_suits : (l : Ledger) (kind : CellKind) (kinds : Layout) (w : World) (spot : Spot) (v : Value) → WorldSuits program l w → IsAt l (kind ∷ kinds) w spot → CellSuits l kind v → HeapSuits program.structs l (written spot (v ∷ []) w.heap)
  written_suits l kind kinds w spot v suits is new =
      object_changed program.structs l l w.heap spot.region spot.object is.entry _ is.there (λ x same s. record { defined = s.defined; count = s.count; layout = s.layout; values = subst changed (sym same) here }) suits.heap
    where
      changed : Object → Type 0
      changed x = AllZip (CellSuits l) (kinds_of x) (overwritten (place_of x spot) (take (length x.layout - spot.cell) (v ∷ [])) x.values)

      here : changed (object_of w.heap spot)
      here =
          let o = object_of w.heap spot in
          let s = stands_in l (kind ∷ kinds) w spot is in
          let all : take (length o.layout - spot.cell) (v ∷ []) ≡ v ∷ [] = take_all (length o.layout - spot.cell) (v ∷ []) (let f = stands_fits o.layout (kind ∷ kinds) spot.cell is.stands in omega (arith, f)) in
          subst (λ us. AllZip (CellSuits l) (kinds_of o) (overwritten (place_of o spot) us o.values)) (sym all)
          (subst (λ n. AllZip (CellSuits l) (kinds_of o) (overwritten n (v ∷ []) o.values)) s.at_is
          (subst (λ ks. AllZip (CellSuits l) ks (overwritten (length s.before) (v ∷ []) o.values)) (sym s.whole_is)
          (zip_overwritten (CellSuits l) s.before (kind ∷ []) (kinds ++ s.rest) (v ∷ []) o.values (subst (λ ks. AllZip (CellSuits l) ks o.values) s.whole_is is.object.values) (new, tt))))

  pub store_suits : (l : Ledger) (line : ℕ) (kind : CellKind) (kinds : Layout) (tg : Target) (v : Value) (w : World) → AimsAt l (kind ∷ kinds) tg → CellSuits l kind v → WorldSuits program l w → Keeps program l Nothing (source.store line tg v w)
  store_suits l line kind kinds tg v w a new suits =
      at_cells_keeps l line (kind ∷ kinds) tg w Nothing _ a suits (λ spot is.
      keeps_touching program l Nothing (list_all (is_fresh (live w.heap)) (v ∷ [])) line w _
      (fitting_keeps l w.heap spot.region line (notes_from w.heap spot) (v ∷ []) w _
      (keeps_here program l Nothing tt (with_heap w (written spot (v ∷ []) w.heap)) (world_with program l l w (written spot (v ∷ []) w.heap) (grows_itself l) suits (written_suits l kind kinds w spot v suits is new)) tt)))

  module _ (deleting : ℕ → Bool) (types : List Ty) (line h : ℕ) where
    -- without the temporaries that are left
    abbrev moved : Layout → Target → Target → Temporaries → World → Run World (Unit {0})
    moved kinds from to t w = bind (R.cells_moved source deleting types line h kinds from to t w) (λ _ w1. Go tt w1)

    abbrev onward : Target → Target
    onward tg = record tg { offset = suc tg.offset }

    -- of the cells behind
    abbrev Rest : Layout → Target → Target → Type 0
    Rest kinds from to = (l : Ledger) (t : Temporaries) (w : World) → AimsAt l kinds (onward from) → AimsAt l kinds (onward to) → WorldSuits program l w → moved kinds (onward from) (onward to) t w ≡ copied_by_cells line (length kinds) (onward from) (onward to) w

    -- region code moves the cells as they are
    pub moved_is : (kinds : Layout) (l : Ledger) (from to : Target) (t : Temporaries) (w : World) → AimsAt l kinds from → AimsAt l kinds to → WorldSuits program l w → moved kinds from to t w ≡ copied_by_cells line (length kinds) from to w
    moved_is [] l from to t w af at suits = refl
    moved_is (kind ∷ kinds) l from to t w af at suits = by_load (λ l2 t2 w2 a b s. moved_is kinds l2 (onward from) (onward to) t2 w2 a b s) (source.load line from w) (load_suits l line kind kinds from w af suits)
      where
        by_store : Rest kinds from to → (t1 : Temporaries) (l1 : Ledger) → Grows l l1 → (m : Run World (Unit {0})) → Keeps program l1 Nothing m → bind (bind m (λ _ w2. R.cells_moved source deleting types line h kinds (onward from) (onward to) t1 w2)) (λ _ w1. Go tt w1) ≡ bind m (λ _ w2. copied_by_cells line (length kinds) (onward from) (onward to) w2)
        by_store rest t1 l1 g (Go u w2) k =
            let l2 = k.holds.ledger in
            let g2 = k.holds.grown in
            rest l2 t1 w2 (still_at l1 l2 kinds (onward from) g2 (next_at l1 kind kinds from (still_at l l1 (kind ∷ kinds) from g af))) (still_at l1 l2 kinds (onward to) g2 (next_at l1 kind kinds to (still_at l l1 (kind ∷ kinds) to g at))) k.holds.world
        by_store rest t1 l1 g (Stopped s w2) k = refl

        by_load : Rest kinds from to → (m : Run World Value) → Keeps program l (λ l v. CellSuits l kind v) m → bind (bind m (λ v w1. bind (source.store line to (kept_cell kind v) w1) (λ _ w2. R.cells_moved source deleting types line h kinds (onward from) (onward to) (R.with_cell kind t h v) w2))) (λ _ w1. Go tt w1)
            ≡ bind m (λ v w1. bind (source.store line to v w1) (λ _ w2. copied_by_cells line (length kinds) (onward from) (onward to) w2))
        by_load rest (Go v w1) k =
            let l1 = k.holds.ledger in
            let t1 = R.with_cell kind t h v in
            ap (λ u. bind (bind (source.store line to u w1) (λ _ w2. R.cells_moved source deleting types line h kinds (onward from) (onward to) t1 w2)) (λ _ w2. Go tt w2)) (kept_in_cell l1 kind v k.holds.value)
            ∙ by_store rest t1 l1 k.holds.grown (source.store line to v w1) (store_suits l1 line kind kinds to v w1 (still_at l l1 (kind ∷ kinds) to k.holds.grown at) k.holds.value k.holds.world)
        by_load rest (Stopped s w1) k = refl
