-- What the source's operations do keeps to the types.
use Rattle.std.proofs.Common.{◌≡◌, ◌<◌, ◌≤◌, ◌+◌, ◌-◌, ◌*◌, ℕ, zero, suc, ℤ, pos, ◌+ℤ◌, Bool, true, false, not, nat_eq, List, [], ◌∷◌, ◌++◌, length, take, drop, map, Some, refl, sym, ap, subst, arith, length-append}
use Rattle.std.specs.Prelude.{IsTrue, unsigned_abs, nat_lt, int_le}
use Rattle.std.specs.List.{AllByRecursion as Every, AllZip, list_all}
use Rattle.rc_base.specs.declared.ends.Trap.TheVariants.{Bounds, Size, Root, Subregion, Reference, Full}
use Rattle.rc_core.specs.declared.ty.Note.{Note}
use Rattle.rc_core.specs.declared.ty.NumberType.TheVariants.{Int}
use Rattle.rc_core.specs.Numbers.{IsByte}
use Rattle.rc_core.specs.Types.{Ty, int, unsigned, char, region, struct, pointer, CellKind, int_cell, unsigned_cell, char_cell, region_cell, pointer_cell}
use Rattle.rc_core.specs.Programs.{Struct, Program}
use Rattle.rc_core.specs.Layout.{Layout, cells}
use Rattle.rc_core.specs.Heap.{kinds_of, Value, Number, Null, Handle, Pointer, Address, Object, Heap, live, objects, object_at, is_fresh, blank_cell, blank}
use Rattle.rc_core.specs.Runs.{Run, Target}
use Rattle.rc_core.specs.Source.{World, with_heap, turn_from, byte_from, at_address, is_index, chosen_in_range, cell_of, Spot, object_of, place_of, values_from, notes_from, at_spot, unfit, fitting, written, stored, overwritten, made, has_child, references, is_empty, killed, first_of, source}
use Rattle.rc_core.specs.Execution.{held_value, held}
use Rattle.rc_core.specs.Typing.{is_struct, IsDefined}
use Rattle.rc_safety.proofs.Lists.{zip_append, every_append}
use Rattle.rc_kinds.specs.Suits.{Entry, Ledger, entry_at, Leads, IsRegion, IsPointer, Suits, CellSuits, ObjectSuits, RegionSuits, HeapSuits, Grows, SuitsSome, WorldSuits, AllSuit}
use Rattle.rc_kinds.proofs.InRange.{InRange, byte_fits}
use Rattle.rc_kinds.proofs.Zips.{zip_length, zip_part, zip_overwritten, take_all, Stands, stands_within, copy_stands}
use Rattle.rc_kinds.proofs.Grown.{grows_itself, waiting_still_suit}
use Rattle.rc_kinds.proofs.Kept.{Nothing, Keeps, keeps_go, keeps_here, keeps_tested, keeps_touching}
use Rattle.rc_kinds.proofs.Ledgers.{region_grows, with_entry, entry_grows, entry_last, object_suits, objects_counted, object_changed, heap_with_region, heap_with_object, heap_killed, world_with}
use Rattle.rc_kinds.proofs.Places.{Reached}
use Rattle.rc_kinds.proofs.Paths.{Aims, index_is_below}

-- new objects: zeros and nulls
blank_suits : (l : Ledger) (kind : CellKind) → CellSuits l kind (blank_cell kind)
blank_suits l int_cell = refl
blank_suits l unsigned_cell = refl
blank_suits l char_cell = refl
blank_suits l region_cell = tt
blank_suits l (pointer_cell note target) = tt

blank_values : (l : Ledger) (layout : Layout) (count : ℕ) → AllZip (CellSuits l) (kinds_of (blank layout count)) (blank layout count).values
blank_values l layout zero = tt
blank_values l layout (suc count) = zip_append (CellSuits l) layout _ (map blank_cell layout) _ (one layout) (blank_values l layout count)
  where
    one : (kinds : Layout) → AllZip (CellSuits l) kinds (map blank_cell kinds)
    one [] = tt
    one (kind ∷ kinds) = (blank_suits l kind, one kinds)

pub blank_object_suits : (structs : List Struct) (l : Ledger) (t : Ty) (count : ℕ) → IsDefined structs t → ObjectSuits structs l (record { ty = t; count = count }) (blank (cells structs t) count)
blank_object_suits structs l t count d = record { defined = d; count = refl; layout = refl; values = blank_values l (cells structs t) count }

pub stands_ends : {A : Type 0} (whole part : List A) (at : ℕ) → Stands whole part at → at + length part ≤ length whole
stands_ends whole part at s = let e : length whole ≡ length (s.before ++ (part ++ s.rest)) = ap length s.whole_is in omega (arith, e, length-append s.before (part ++ s.rest), length-append part s.rest, s.at_is)

pub stands_fits : {A : Type 0} (whole part : List A) (at : ℕ) → Stands whole part at → length part ≤ length whole - at
stands_fits whole part at s = let e : length whole ≡ length (s.before ++ (part ++ s.rest)) = ap length s.whole_is in omega (arith, e, length-append s.before (part ++ s.rest), length-append part s.rest, s.at_is)

-- values that wait
pub held_suit : (l : Ledger) (live : ℕ → Bool) (types : List Ty) (env : List Value) → AllSuit l types env → Every (SuitsSome l) (held live env)
held_suit l live [] [] all = tt
held_suit l live [] (v ∷ env) all = absurd all
held_suit l live (t ∷ types) [] all = absurd all
held_suit l live (t ∷ types) (v ∷ env) all = by (live 0) v all.0 (held_suit l (λ x. live (suc x)) types env all.1)
  where
    by : (b : Bool) (v : Value) → Suits l t v → Every (SuitsSome l) (held (λ x. live (suc x)) env) → Every (SuitsSome l) (held_value b v (held (λ x. live (suc x)) env))
    by false v s rest = rest
    by true (Number n) s rest = rest
    by true Null s rest = ((t, s), rest)
    by true (Handle r) s rest = ((t, s), rest)
    by true (Pointer a) s rest = ((t, s), rest)

module _ (program : Program) where
  abbrev Kept : {A : Type 0} → Ledger → (Ledger → A → Type 0) → Run World A → Type 0
  Kept l S m = Keeps program l S m

  -- the object there, and where the cells stand in it
  pub record IsSpot (l : Ledger) (t : Ty) (w : World) (spot : Spot) : Type 0 where
    pub entry : Entry
    pub there : entry_at l spot.region spot.object ≡ Some entry
    pub object : ObjectSuits program.structs l entry (object_of w.heap spot)
    pub inside : spot.element < (object_of w.heap spot).count
    pub stands : Stands (object_of w.heap spot).layout (cells program.structs t) spot.cell
    pub reached : Reached program.structs entry.ty t spot.cell

  pub stands_in : (l : Ledger) (t : Ty) (w : World) (spot : Spot) → IsSpot l t w spot → Stands (kinds_of (object_of w.heap spot)) (cells program.structs t) (place_of (object_of w.heap spot) spot)
  stands_in l t w spot is =
      let o = object_of w.heap spot in
      stands_within (kinds_of o) o.layout (cells program.structs t) (spot.element * length o.layout) spot.cell (place_of o spot) refl (copy_stands o.layout o.count spot.element (spot.element * length o.layout) is.inside refl) is.stands

  at_address_keeps : {A : Type 0} (l : Ledger) (line : ℕ) (t : Ty) (v : Value) (w : World) (S : Ledger → A → Type 0) (go : Address → Run World A) → IsPointer l t v → ((a : Address) → Leads l t a → Kept l S (go a)) → Kept l S (at_address line v w go)
  at_address_keeps l line t (Number n) w S go p k = absurd p
  at_address_keeps l line t Null w S go p k = record { holds = tt }
  at_address_keeps l line t (Handle r) w S go p k = absurd p
  at_address_keeps l line t (Pointer a) w S go p k = k a p

  pub at_spot_keeps : {A : Type 0} (l : Ledger) (line : ℕ) (t : Ty) (tg : Target) (w : World) (S : Ledger → A → Type 0) (go : Spot → Run World A) → Aims program.structs l t tg → WorldSuits program l w
      → ((spot : Spot) → IsSpot l t w spot → Kept l S (go spot)) → Kept l S (at_spot line tg w go)
  at_spot_keeps l line t tg w S go a suits k =
      at_address_keeps l line a.element tg.pointer w S _ a.pointer (λ at p.
      keeps_touching program l S (live w.heap at.region) line w _
      (keeps_tested program l S (is_index (pos at.index +ℤ tg.shift) (object_at w.heap at.region at.object).count) Bounds line w _ (λ e.
      keeps_tested program l S (list_all chosen_in_range tg.chosen) Bounds line w _ (λ all.
      let o = object_suits program.structs l l w.heap at.region at.object _ suits.heap p.entry in
      k (record { region = at.region; object = at.object; element = unsigned_abs (pos at.index +ℤ tg.shift); cell = cell_of tg }) (record {
        entry = record { ty = a.element; count = p.count };
        there = p.entry;
        object = o;
        inside = index_is_below (pos at.index +ℤ tg.shift) _ e;
        stands = subst (λ xs. Stands xs (cells program.structs t) (cell_of tg)) (sym o.layout) (a.stands all);
        reached = a.reached all;
      })))))

  -- the values of the cells there
  pub values_suit : (l : Ledger) (t : Ty) (w : World) (spot : Spot) → IsSpot l t w spot → AllZip (CellSuits l) (cells program.structs t) (values_from w.heap spot (length (cells program.structs t)))
  values_suit l t w spot is =
      let o = object_of w.heap spot in
      let s = stands_in l t w spot is in
      subst (λ n. AllZip (CellSuits l) (cells program.structs t) (take (length (cells program.structs t)) (drop n o.values))) s.at_is
      (zip_part (CellSuits l) s.before (cells program.structs t) s.rest o.values (subst (λ kinds. AllZip (CellSuits l) kinds o.values) s.whole_is is.object.values))

  first_suits : (l : Ledger) (kind : CellKind) (vs : List Value) → AllZip (CellSuits l) (kind ∷ []) vs → CellSuits l kind (first_of vs)
  first_suits l kind [] all = absurd all
  first_suits l kind (v ∷ vs) all = all.0

  -- of a type that is no struct, the one cell
  pub one_suits : (l : Ledger) (t : Ty) (w : World) (spot : Spot) → IsTrue (not (is_struct t)) → IsSpot l t w spot → Suits l t (first_of (values_from w.heap spot 1))
  one_suits l int w spot h is = first_suits l int_cell (values_from w.heap spot 1) (values_suit l int w spot is)
  one_suits l unsigned w spot h is = first_suits l unsigned_cell (values_from w.heap spot 1) (values_suit l unsigned w spot is)
  one_suits l char w spot h is = first_suits l char_cell (values_from w.heap spot 1) (values_suit l char w spot is)
  one_suits l region w spot h is = first_suits l region_cell (values_from w.heap spot 1) (values_suit l region w spot is)
  one_suits l (struct k) w spot h is = cc
  one_suits l (pointer note target) w spot h is = first_suits l (pointer_cell note target) (values_from w.heap spot 1) (values_suit l (pointer note target) w spot is)

  pub load_keeps : (l : Ledger) (line : ℕ) (t : Ty) (tg : Target) (w : World) → IsTrue (not (is_struct t)) → Aims program.structs l t tg → WorldSuits program l w → Kept l (λ l v. Suits l t v) (source.load line tg w)
  load_keeps l line t tg w h a suits = at_spot_keeps l line t tg w (λ l v. Suits l t v) _ a suits (λ spot is. keeps_here program l (λ l v. Suits l t v) _ w suits (one_suits l t w spot h is))

  pub load_all_keeps : (l : Ledger) (line : ℕ) (t : Ty) (tg : Target) (w : World) → Aims program.structs l t tg → WorldSuits program l w → Kept l (λ l vs. AllZip (CellSuits l) (cells program.structs t) vs) (source.load_all line tg (length (cells program.structs t)) w)
  load_all_keeps l line t tg w a suits = at_spot_keeps l line t tg w (λ l vs. AllZip (CellSuits l) (cells program.structs t) vs) _ a suits (λ spot is. keeps_here program l (λ l vs. AllZip (CellSuits l) (cells program.structs t) vs) _ w suits (values_suit l t w spot is))

  fitting_keeps : (l : Ledger) (heap : Heap) (holder line : ℕ) (notes : List Note) (vs : List Value) (w : World) (m : Run World (Unit {0})) → Kept l Nothing m → Kept l Nothing (fitting heap holder line notes vs w m)
  fitting_keeps l heap holder line notes [] w m k = k
  fitting_keeps l heap holder line [] (v ∷ vs) w m k = k
  fitting_keeps l heap holder line (note ∷ notes) (v ∷ vs) w m k = keeps_tested program l Nothing _ (unfit note) line w _ (λ e. fitting_keeps l heap holder line notes vs w m k)

  pub written_suits : (l : Ledger) (t : Ty) (w : World) (spot : Spot) (vs : List Value) → WorldSuits program l w → IsSpot l t w spot → AllZip (CellSuits l) (cells program.structs t) vs → HeapSuits program.structs l (written spot vs w.heap)
  written_suits l t w spot vs suits is new =
      object_changed program.structs l l w.heap spot.region spot.object is.entry _ is.there (λ x same s. record { defined = s.defined; count = s.count; layout = s.layout; values = by x same s }) suits.heap
    where
      changed : Object → Type 0
      changed x = AllZip (CellSuits l) (kinds_of x) (overwritten (place_of x spot) (take (length x.layout - spot.cell) vs) x.values)

      here : changed (object_of w.heap spot)
      here =
          let o = object_of w.heap spot in
          let s = stands_in l t w spot is in
          let all : take (length o.layout - spot.cell) vs ≡ vs = take_all (length o.layout - spot.cell) vs (omega (arith, zip_length (CellSuits l) (cells program.structs t) vs new, stands_fits o.layout (cells program.structs t) spot.cell is.stands)) in
          subst (λ us. AllZip (CellSuits l) (kinds_of o) (overwritten (place_of o spot) us o.values)) (sym all)
          (subst (λ n. AllZip (CellSuits l) (kinds_of o) (overwritten n vs o.values)) s.at_is
          (subst (λ kinds. AllZip (CellSuits l) kinds (overwritten (length s.before) vs o.values)) (sym s.whole_is)
          (zip_overwritten (CellSuits l) s.before (cells program.structs t) s.rest vs o.values (subst (λ kinds. AllZip (CellSuits l) kinds o.values) s.whole_is is.object.values) new)))

      by : (x : Object) → x ≡ object_of w.heap spot → ObjectSuits program.structs l is.entry x → changed x
      by x same s = subst changed (sym same) here

  pub store_all_keeps : (l : Ledger) (line : ℕ) (t : Ty) (tg : Target) (vs : List Value) (w : World) → Aims program.structs l t tg → AllZip (CellSuits l) (cells program.structs t) vs → WorldSuits program l w → Kept l Nothing (stored line tg vs w)
  store_all_keeps l line t tg vs w a new suits =
      at_spot_keeps l line t tg w Nothing _ a suits (λ spot is.
      keeps_touching program l Nothing (list_all (is_fresh (live w.heap)) vs) line w _
      (fitting_keeps l w.heap spot.region line (notes_from w.heap spot) vs w _
      (keeps_here program l Nothing tt (with_heap w (written spot vs w.heap)) (world_with program l l w (written spot vs w.heap) (grows_itself l) suits (written_suits l t w spot vs suits is new)) tt)))

  cell_suits : (l : Ledger) (t : Ty) (v : Value) → IsTrue (not (is_struct t)) → Suits l t v → AllZip (CellSuits l) (cells program.structs t) (v ∷ [])
  cell_suits l int v h s = (s, tt)
  cell_suits l unsigned v h s = (s, tt)
  cell_suits l char v h s = (s, tt)
  cell_suits l region v h s = (s, tt)
  cell_suits l (struct k) v h s = cc
  cell_suits l (pointer note target) v h s = (s, tt)

  pub store_keeps : (l : Ledger) (line : ℕ) (t : Ty) (tg : Target) (v : Value) (w : World) → IsTrue (not (is_struct t)) → Aims program.structs l t tg → Suits l t v → WorldSuits program l w → Kept l Nothing (source.store line tg v w)
  store_keeps l line t tg v w h a s suits = store_all_keeps l line t tg (v ∷ []) w a (cell_suits l t v h s) suits

  made_keeps : (l : Ledger) (line p : ℕ) (w : World) → WorldSuits program l w → Kept l IsRegion (made line p w)
  made_keeps l line p w suits = keeps_tested program l IsRegion _ Full line w _ (λ e.
      keeps_go program l (l ++ [] ∷ []) IsRegion (Handle (length w.heap)) _ (region_grows l) (world_with program l (l ++ [] ∷ []) w _ (region_grows l) suits (heap_with_region program.structs l w.heap p suits.heap))
      (let n = zip_length (RegionSuits program.structs l) l w.heap suits.heap in omega (arith, n, length-append l ([] ∷ []))))

  pub new_region_keeps : (l : Ledger) (line : ℕ) (w : World) → WorldSuits program l w → Kept l IsRegion (source.new_region line w)
  new_region_keeps l line w suits = made_keeps l line 0 w suits

  pub new_subregion_keeps : (l : Ledger) (line : ℕ) (v : Value) (w : World) → IsRegion l v → WorldSuits program l w → Kept l IsRegion (source.new_subregion line v w)
  new_subregion_keeps l line (Number n) w s suits = absurd s
  new_subregion_keeps l line Null w s suits = record { holds = tt }
  new_subregion_keeps l line (Handle r) w s suits = keeps_touching program l IsRegion (live w.heap r) line w _ (made_keeps l line r w suits)
  new_subregion_keeps l line (Pointer a) w s suits = absurd s

  pub allocate_keeps : (l : Ledger) (line : ℕ) (v : Value) (count : ℤ) (t : Ty) (w : World) → IsDefined program.structs t → IsRegion l v → WorldSuits program l w → Kept l (λ l v. IsPointer l t v) (source.allocate line v count (cells program.structs t) w)
  allocate_keeps l line (Number n) count t w d s suits = absurd s
  allocate_keeps l line Null count t w d s suits = record { holds = tt }
  allocate_keeps l line (Pointer a) count t w d s suits = absurd s
  allocate_keeps l line (Handle r) count t w d s suits =
      let e : Entry = record { ty = t; count = unsigned_abs count } in
      keeps_touching program l _ (live w.heap r) line w _ (keeps_tested program l _ (int_le (pos 0) count) Size line w _ (λ _. keeps_tested program l _ (nat_lt (length (objects w.heap r)) w.blocks) Full line w _ (λ _.
      keeps_go program l (with_entry l r e) (λ l v. IsPointer l t v) _ _ (entry_grows l r e)
      (world_with program l (with_entry l r e) w _ (entry_grows l r e) suits (heap_with_object program.structs l w.heap r e (blank (cells program.structs t) (unsigned_abs count)) suits.heap (blank_object_suits program.structs (with_entry l r e) t (unsigned_abs count) d)))
      (record { count = unsigned_abs count; entry = entry_last l r (length (objects w.heap r)) e s (objects_counted program.structs l l w.heap r suits.heap); within = omega arith }))))

  pub step_keeps : (l : Ledger) (line : ℕ) (t : Ty) (v : Value) (n : ℤ) (w : World) → IsPointer l t v → WorldSuits program l w → Kept l (λ l v. IsPointer l t v) (source.step line v n w)
  step_keeps l line t (Number m) n w s suits = absurd s
  step_keeps l line t Null n w s suits = record { holds = tt }
  step_keeps l line t (Handle r) n w s suits = absurd s
  step_keeps l line t (Pointer a) n w s suits =
      keeps_touching program l _ (live w.heap a.region) line w _ (keeps_tested program l _ (is_index (pos a.index +ℤ n) (suc (object_at w.heap a.region a.object).count)) Bounds line w _ (λ e.
      let o = object_suits program.structs l l w.heap a.region a.object _ suits.heap s.entry in
      let below = index_is_below (pos a.index +ℤ n) (suc (object_at w.heap a.region a.object).count) e in
      keeps_here program l (λ l v. IsPointer l t v) _ w suits (record { count = s.count; entry = s.entry; within = omega (arith, below, o.count) })))

  pub delete_keeps : (l : Ledger) (line : ℕ) (held : List Value) (v : Value) (w : World) → IsRegion l v → WorldSuits program l w → Kept l Nothing (source.delete line held v w)
  delete_keeps l line held (Number n) w s suits = absurd s
  delete_keeps l line held Null w s suits = record { holds = tt }
  delete_keeps l line held (Pointer a) w s suits = absurd s
  delete_keeps l line held (Handle r) w s suits =
      keeps_touching program l Nothing (live w.heap r) line w _ (keeps_tested program l Nothing (not (nat_eq r 0)) Root line w _ (λ _. keeps_tested program l Nothing (not (has_child r w.heap)) Subregion line w _ (λ _. keeps_tested program l Nothing (is_empty (references r held w)) Reference line w _ (λ _.
      keeps_here program l Nothing tt _ (world_with program l l w (killed w.heap r) (grows_itself l) suits (heap_killed program.structs l w.heap r suits.heap)) tt))))

  pub turn_keeps : (l : Ledger) (w : World) → WorldSuits program l w → Kept l Nothing (source.take_turn w)
  turn_keeps l w suits = from w.turns
    where
      from : (n : ℕ) → Kept l Nothing (turn_from n w)
      from zero = record { holds = tt }
      from (suc n) = keeps_here program l Nothing tt _ (record { heap = suits.heap; waiting = suits.waiting; input = suits.input; begun = suits.begun }) tt

  pub get_byte_keeps : (l : Ledger) (w : World) → WorldSuits program l w → Kept l (λ _ n. InRange Int n) (source.get_byte w)
  get_byte_keeps l w suits = from w.input suits.input
    where
      from : (bytes : List ℕ) → Every IsByte bytes → Kept l (λ _ n. InRange Int n) (byte_from bytes w)
      from [] all = keeps_here program l _ _ _ (record { heap = suits.heap; waiting = suits.waiting; input = suits.input; begun = suits.begun }) refl
      from (b ∷ rest) all = keeps_here program l _ _ _ (record { heap = suits.heap; waiting = suits.waiting; input = all.1; begun = suits.begun }) (byte_fits b all.0)

  pub put_byte_keeps : (l : Ledger) (b : ℕ) (w : World) → WorldSuits program l w → Kept l Nothing (source.put_byte b w)
  put_byte_keeps l b w suits = keeps_here program l Nothing tt _ (record { heap = suits.heap; waiting = suits.waiting; input = suits.input; begun = suits.begun }) tt

  -- values wait, and the world of before has its own again
  pub enter_suits : (l : Ledger) (held : List Value) (w : World) → Every (SuitsSome l) held → WorldSuits program l w → WorldSuits program l (source.enter held w)
  enter_suits l held w all suits = record { heap = suits.heap; waiting = every_append (SuitsSome l) held w.waiting all suits.waiting; input = suits.input; begun = suits.begun }

  pub leave_suits : (l l1 : Ledger) (w w1 : World) → Grows l l1 → WorldSuits program l w → WorldSuits program l1 w1 → WorldSuits program l1 (source.leave w w1)
  leave_suits l l1 w w1 g before suits = record { heap = suits.heap; waiting = waiting_still_suit l l1 g w.waiting before.waiting; input = suits.input; begun = suits.begun }
