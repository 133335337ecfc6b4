-- The operations of the source's world, from a world whose heap is sound: on values that name no dead region they touch none, what
-- they give names none, and none dies but by a deletion. Nothing is asked of the values that wait.
use Rattle.std.proofs.Common.{◌≡◌, ℕ, zero, suc, ◌+ℤ◌, ℤ, pos, Bool, true, false, not, ◌&&◌, nat_eq, nat_lt, int_le, unsigned_abs, List, [], ◌∷◌, ◌++◌, length, drop, map, refl, sym, ap, ◌∙◌}
use Rattle.std.specs.List.{AllByRecursion as Every, AllZip, list_all}
use Rattle.rc_base.specs.declared.ends.Trap.{Trap}
use Rattle.rc_base.specs.declared.ends.Trap.TheVariants.{Bounds, Size, Full, Root, Subregion, Reference}
use Rattle.rc_core.specs.Layout.{Layout, note_of}
use Rattle.rc_core.specs.Heap.{Value, Number, Null, Handle, Pointer, Address, Object, no_object, live, parent, objects, object_at, with_objects, is_fresh, fits, blank}
use Rattle.rc_core.specs.Laws.{IfGoes}
use Rattle.rc_core.specs.Runs.{Run, Go, Stopped, bind, branching, tested, touching, Target}
use Rattle.rc_core.specs.Source.{World, with_heap, at_address, is_index, chosen_in_range, cell_of, Spot, object_of, values_from, at_spot, unfit, fitting, written, first_of, made, allocated, has_child, killed, values_outside, references, is_empty, deleted, turn_from, byte_from, source}
use Rattle.rc_safety.proofs.Lists.{every_take, every_drop, every_get_or, every_split}
use Rattle.rc_safety.specs.Soundness.{IsFresh, CellIsSound, ObjectIsSound, HeapIsSound}
use Rattle.rc_safety.proofs.Heaps.{NoneDies}
use Rattle.rc_safety.proofs.Changed.{same_lives}
use Rattle.rc_safety.proofs.Made.{new_region, none_dies_made, last_is_live}
use Rattle.rc_safety.proofs.Killed.{NamesNot, none_kept, empty_is_nil, fresh_killed}
use Rattle.rc_safety.proofs.Worlds.{NotStale}
use Rattle.rc_core.specs.declared.ty.Note.{Note}
use Rattle.rc_core.specs.declared.ty.Note.TheVariants.{Plain}
use Rattle.rc_core.specs.Types.{int_cell}
use Rattle.std.specs.Prelude.{get_or}
use Rattle.rc_worlds.specs.Worlds.{watched_put, passing}

-- the spot of a target, where its pointer has the address
abbrev spot_at : Address → Target → Spot
spot_at a t = record { region = a.region; object = a.object; element = unsigned_abs (pos a.index +ℤ t.shift); cell = cell_of t }

abbrev pub FreshIn : World → Value → Type 0
FreshIn w v = IsFresh (live w.heap) v

abbrev pub Quietly : {A : Type 0} → World → (A → World → Type 0) → Run World A → Type 0
Quietly w S (Go x w1) = NoneDies (live w.heap) (live w1.heap) × S x w1
Quietly w S (Stopped stop w1) = NotStale stop

-- it touches no dead region, and where it goes on no region died and this holds
pub record Quiet {A : Type 0} (w : World) (S : A → World → Type 0) (m : Run World A) : Type 0 where
  pub holds : Quietly w S m

abbrev pub Fresh : Value → World → Type 0
Fresh v w = FreshIn w v

abbrev pub Nothing : {A : Type 0} → A → World → Type 0
Nothing x w = Unit {0}

pub none_dies : (w : World) → NoneDies (live w.heap) (live w.heap)
none_dies w = λ r l. l

pub goes_quietly : {A : Type 0} (w w1 : World) (S : A → World → Type 0) (x : A) → NoneDies (live w.heap) (live w1.heap) → S x w1 → Quiet w S (Go x w1)
goes_quietly w w1 S x n s = record { holds = (n, s) }

pub quiet_then : {A B : Type 0} (w : World) (S : A → World → Type 0) (T : B → World → Type 0) (m : Run World A) (next : A → World → Run World B) → Quiet w S m → ((x : A) (w1 : World) → NoneDies (live w.heap) (live w1.heap) → S x w1 → Quiet w1 T (next x w1)) → Quiet w T (bind m next)
quiet_then w S T (Go x w1) next q k = from (next x w1) (k x w1 q.holds.0 q.holds.1)
  where
    from : {B : Type 0} {T : B → World → Type 0} (m : Run World B) → Quiet w1 T m → Quiet w T m
    from (Go y w2) r = record { holds = ((λ i l. r.holds.0 i (q.holds.0 i l)), r.holds.1) }
    from (Stopped stop w2) r = record { holds = r.holds }
quiet_then w S T (Stopped stop w1) next q k = record { holds = q.holds }

pub quiet_both : {A : Type 0} (w : World) (S T : A → World → Type 0) (m : Run World A) → Quiet w S m → IfGoes T m → Quiet w (λ x w1. S x w1 × T x w1) m
quiet_both w S T (Go x w1) q t = record { holds = (q.holds.0, (q.holds.1, t)) }
quiet_both w S T (Stopped stop w1) q t = record { holds = q.holds }

pub quiet_more : {A : Type 0} (w : World) (S T : A → World → Type 0) (m : Run World A) → Quiet w S m → ((x : A) (w1 : World) → NoneDies (live w.heap) (live w1.heap) → S x w1 → T x w1) → Quiet w T m
quiet_more w S T (Go x w1) q k = record { holds = (q.holds.0, k x w1 q.holds.0 q.holds.1) }
quiet_more w S T (Stopped stop w1) q k = record { holds = q.holds }

quiet_tested : {A : Type 0} (w : World) (S : A → World → Type 0) (test : Bool) (t : Trap) (line : ℕ) (m : Run World A) → (test ≡ true → Quiet w S m) → Quiet w S (tested test t line w m)
quiet_tested w S true t line m k = k refl
quiet_tested w S false t line m k = record { holds = tt }

quiet_touching : {A : Type 0} (w : World) (S : A → World → Type 0) (alive : Bool) (line : ℕ) (m : Run World A) → alive ≡ true → Quiet w S m → Quiet w S (touching alive line w m)
quiet_touching w S true line m e y = y
quiet_touching w S false line m e y = cc

pub quiet_branching : {A : Type 0} (w : World) (S : A → World → Type 0) (test : Bool) (a b : World → Run World A) → Quiet w S (a w) → Quiet w S (b w) → Quiet w S (branching test a b w)
quiet_branching w S true a b first second = first
quiet_branching w S false a b first second = second

-- ---- turns and bytes

pub quiet_turn : (w : World) → Quiet w (λ _ w1. w1.heap ≡ w.heap) (source.take_turn w)
quiet_turn w = by w.turns
  where
    by : (n : ℕ) → Quiet w (λ _ w1. w1.heap ≡ w.heap) (turn_from n w)
    by zero = record { holds = tt }
    by (suc n) = record { holds = ((λ r l. l), refl) }

pub quiet_byte : (w : World) → Quiet w (λ _ w1. w1.heap ≡ w.heap) (source.get_byte w)
quiet_byte w = by w.input
  where
    by : (bytes : List ℕ) → Quiet w (λ _ w1. w1.heap ≡ w.heap) (byte_from bytes w)
    by [] = record { holds = ((λ r l. l), refl) }
    by (b ∷ rest) = record { holds = ((λ r l. l), refl) }

-- ---- places

pub record AtSpot (w : World) (t : Target) (a : Address) (spot : Spot) : Type 0 where
  pub pointer : t.pointer ≡ Pointer a
  pub alive : live w.heap spot.region ≡ true
  pub there : (spot.region ≡ a.region) × (spot.object ≡ a.object)
  pub inside : is_index (pos a.index +ℤ t.shift) (object_at w.heap spot.region spot.object).count ≡ true
  pub element : spot.element ≡ unsigned_abs (pos a.index +ℤ t.shift)
  pub chosen : list_all chosen_in_range t.chosen ≡ true
  pub cell : spot.cell ≡ cell_of t

at_address_quiet : {A : Type 0} (line : ℕ) (v : Value) (w : World) (S : A → World → Type 0) (go : Address → Run World A) → FreshIn w v
    → ((a : Address) → v ≡ Pointer a → live w.heap a.region ≡ true → Quiet w S (go a)) → Quiet w S (at_address line v w go)
at_address_quiet line (Number n) w S go fresh k = record { holds = tt }
at_address_quiet line Null w S go fresh k = record { holds = tt }
at_address_quiet line (Handle r) w S go fresh k = record { holds = tt }
at_address_quiet line (Pointer a) w S go fresh k = k a refl fresh

pub at_spot_quiet : {A : Type 0} (line : ℕ) (t : Target) (w : World) (S : A → World → Type 0) (go : Spot → Run World A) → FreshIn w t.pointer
    → ((a : Address) (spot : Spot) → AtSpot w t a spot → Quiet w S (go spot)) → Quiet w S (at_spot line t w go)
at_spot_quiet line t w S go fresh k = at_address_quiet line t.pointer w S _ fresh (λ a is l.
    quiet_touching w S (live w.heap a.region) line _ l
    (quiet_tested w S (is_index (pos a.index +ℤ t.shift) (object_at w.heap a.region a.object).count) Bounds line _ (λ e. quiet_tested w S (list_all chosen_in_range t.chosen) Bounds line _ (λ e2.
    k a (record { region = a.region; object = a.object; element = unsigned_abs (pos a.index +ℤ t.shift); cell = cell_of t }) (record { pointer = is; alive = l; there = (refl, refl); inside = e; element = refl; chosen = e2; cell = refl })))))

object_is_fresh : (live : ℕ → Bool) (parent : ℕ → ℕ) (holder : ℕ) (kinds : Layout) (vs : List Value) → AllZip (CellIsSound live parent holder) kinds vs → Every (IsFresh live) vs
object_is_fresh live parent holder [] [] all = tt
object_is_fresh live parent holder [] (v ∷ vs) all = absurd all
object_is_fresh live parent holder (kind ∷ kinds) [] all = absurd all
object_is_fresh live parent holder (kind ∷ kinds) (v ∷ vs) all = (all.0.fresh, object_is_fresh live parent holder kinds vs all.1)

values_are_fresh : (w : World) (spot : Spot) (size : ℕ) → HeapIsSound w.heap → live w.heap spot.region ≡ true → Every (FreshIn w) (values_from w.heap spot size)
values_are_fresh w spot size sound is =
    let o = object_of w.heap spot in
    let all = every_get_or (ObjectIsSound (live w.heap) (parent w.heap) spot.region) (objects w.heap spot.region) spot.object no_object tt (sound.regions spot.region is).objects in
    every_take (FreshIn w) size _ (every_drop (FreshIn w) _ o.values (object_is_fresh (live w.heap) (parent w.heap) spot.region _ o.values all))

pub load_quiet : (E : Type 0) (line : ℕ) (t : Target) (w : World) → HeapIsSound w.heap → FreshIn w t.pointer → ((a : Address) (spot : Spot) → AtSpot w t a spot → E) → Quiet w (λ v w1. FreshIn w1 v × E) (source.load line t w)
load_quiet E line t w sound fresh each = at_spot_quiet line t w (λ v w1. FreshIn w1 v × E) _ fresh (λ a spot is. goes_quietly w w (λ v w1. FreshIn w1 v × E) _ (none_dies w) (first (values_from w.heap spot 1) (values_are_fresh w spot 1 sound is.alive), each a spot is))
  where
    first : (vs : List Value) → Every (FreshIn w) vs → FreshIn w (first_of vs)
    first [] all = refl
    first (v ∷ vs) all = all.0

fitting_quiet : (S : Unit {0} → World → Type 0) (w : World) (holder line : ℕ) (kinds : Layout) (vs : List Value) (m : Run World (Unit {0})) → Quiet w S m → Quiet w S (fitting w.heap holder line (map note_of kinds) vs w m)
fitting_quiet S w holder line kinds [] m k = k
fitting_quiet S w holder line [] (v ∷ vs) m k = k
fitting_quiet S w holder line (kind ∷ kinds) (v ∷ vs) m k =
    quiet_tested w S (fits (parent w.heap) (note_of kind) holder v) (unfit (note_of kind)) line _ (λ e. fitting_quiet S w holder line kinds vs m k)

pub store_quiet : (E : Type 0) (line : ℕ) (t : Target) (v : Value) (w : World) → FreshIn w t.pointer → FreshIn w v → ((a : Address) (spot : Spot) → AtSpot w t a spot → E) → Quiet w (λ _ w1. E) (source.store line t v w)
store_quiet E line t v w fresh fv each = at_spot_quiet line t w (λ _ w1. E) _ fresh (λ a spot is.
    quiet_touching w (λ _ w1. E) (is_fresh (live w.heap) v && true) line _ (ap (λ b. b && true) fv)
    (fitting_quiet (λ _ w1. E) w spot.region line (drop spot.cell (object_of w.heap spot).layout) (v ∷ []) _ (goes_quietly w (with_heap w (written spot (v ∷ []) w.heap)) (λ _ w1. E) tt (λ q l. ap (λ f. f q) (same_lives w.heap spot.region _) ∙ l) (each a spot is))))

-- where the value fits at each spot that the target may name, a store without its check is the store
abbrev first_note : List Note → Note
first_note [] = Plain
first_note (n ∷ ns) = n

pub note_first : (layout : Layout) (c : ℕ) → note_of (get_or layout c int_cell) ≡ first_note (map note_of (drop c layout))
note_first [] zero = refl
note_first [] (suc c) = refl
note_first (k ∷ ks) zero = refl
note_first (k ∷ ks) (suc c) = note_first ks c

fitting_passes : (w : World) (holder line : ℕ) (notes : List Note) (v : Value) (m : Run World (Unit {0})) → fits (parent w.heap) (first_note notes) holder v ≡ true → fitting w.heap holder line notes (v ∷ []) w m ≡ m
fitting_passes w holder line [] v m e = refl
fitting_passes w holder line (note ∷ []) v m e = ap (λ b. tested b (unfit note) line w m) e
fitting_passes w holder line (note ∷ note1 ∷ notes) v m e = ap (λ b. tested b (unfit note) line w m) e

pub watched_is_store : (line : ℕ) (t : Target) (v : Value) (w : World) → ((a : Address) (spot : Spot) → AtSpot w t a spot → fits (parent w.heap) (note_of (get_or (object_of w.heap spot).layout spot.cell int_cell)) spot.region v ≡ true)
    → watched_put false true line t v w ≡ source.store line t v w
watched_is_store line t v w each = by t.pointer refl
  where
    is_and : (b : Bool) → (b && true) ≡ b
    is_and true = refl
    is_and false = refl

    inner : (a : Address) (spot : Spot) → AtSpot w t a spot
        → touching (is_fresh (live w.heap) v) line w (passing false (fits (parent w.heap) (note_of (get_or (object_of w.heap spot).layout spot.cell int_cell)) spot.region v) line w (Go tt (with_heap w (written spot (v ∷ []) w.heap))))
        ≡ touching (is_fresh (live w.heap) v && true) line w (fitting w.heap spot.region line (map note_of (drop spot.cell (object_of w.heap spot).layout)) (v ∷ []) w (Go tt (with_heap w (written spot (v ∷ []) w.heap))))
    inner a spot is =
        ap (λ b. touching (is_fresh (live w.heap) v) line w (passing false b line w (Go tt (with_heap w (written spot (v ∷ []) w.heap))))) (each a spot is)
        ∙ ap (λ b. touching b line w (Go tt (with_heap w (written spot (v ∷ []) w.heap)))) (sym (is_and (is_fresh (live w.heap) v)))
        ∙ ap (touching (is_fresh (live w.heap) v && true) line w) (sym (fitting_passes w spot.region line _ v _ (ap (λ n. fits (parent w.heap) n spot.region v) (sym (note_first (object_of w.heap spot).layout spot.cell)) ∙ each a spot is)))

    ranged : (a : Address) → t.pointer ≡ Pointer a → live w.heap a.region ≡ true → is_index (pos a.index +ℤ t.shift) (object_at w.heap a.region a.object).count ≡ true → (b : Bool) → list_all chosen_in_range t.chosen ≡ b
        → tested b Bounds line w (touching (is_fresh (live w.heap) v) line w (passing false (fits (parent w.heap) (note_of (get_or (object_of w.heap (spot_at a t)).layout (cell_of t) int_cell)) a.region v) line w (Go tt (with_heap w (written (spot_at a t) (v ∷ []) w.heap)))))
        ≡ tested b Bounds line w (touching (is_fresh (live w.heap) v && true) line w (fitting w.heap a.region line (map note_of (drop (cell_of t) (object_of w.heap (spot_at a t)).layout)) (v ∷ []) w (Go tt (with_heap w (written (spot_at a t) (v ∷ []) w.heap)))))
    ranged a is l i true e = inner a (spot_at a t) (record { pointer = is; alive = l; there = (refl, refl); inside = i; element = refl; chosen = e; cell = refl })
    ranged a is l i false e = refl

    indexed : (a : Address) → t.pointer ≡ Pointer a → live w.heap a.region ≡ true → (b : Bool) → is_index (pos a.index +ℤ t.shift) (object_at w.heap a.region a.object).count ≡ b
        → tested b Bounds line w (tested (list_all chosen_in_range t.chosen) Bounds line w (touching (is_fresh (live w.heap) v) line w (passing false (fits (parent w.heap) (note_of (get_or (object_of w.heap (spot_at a t)).layout (cell_of t) int_cell)) a.region v) line w (Go tt (with_heap w (written (spot_at a t) (v ∷ []) w.heap))))))
        ≡ tested b Bounds line w (tested (list_all chosen_in_range t.chosen) Bounds line w (touching (is_fresh (live w.heap) v && true) line w (fitting w.heap a.region line (map note_of (drop (cell_of t) (object_of w.heap (spot_at a t)).layout)) (v ∷ []) w (Go tt (with_heap w (written (spot_at a t) (v ∷ []) w.heap))))))
    indexed a is l true e = ranged a is l e (list_all chosen_in_range t.chosen) refl
    indexed a is l false e = refl

    lived : (a : Address) → t.pointer ≡ Pointer a → (b : Bool) → live w.heap a.region ≡ b
        → touching b line w (tested (is_index (pos a.index +ℤ t.shift) (object_at w.heap a.region a.object).count) Bounds line w (tested (list_all chosen_in_range t.chosen) Bounds line w (touching (is_fresh (live w.heap) v) line w (passing false (fits (parent w.heap) (note_of (get_or (object_of w.heap (spot_at a t)).layout (cell_of t) int_cell)) a.region v) line w (Go tt (with_heap w (written (spot_at a t) (v ∷ []) w.heap)))))))
        ≡ touching b line w (tested (is_index (pos a.index +ℤ t.shift) (object_at w.heap a.region a.object).count) Bounds line w (tested (list_all chosen_in_range t.chosen) Bounds line w (touching (is_fresh (live w.heap) v && true) line w (fitting w.heap a.region line (map note_of (drop (cell_of t) (object_of w.heap (spot_at a t)).layout)) (v ∷ []) w (Go tt (with_heap w (written (spot_at a t) (v ∷ []) w.heap)))))))
    lived a is true e = indexed a is e (is_index (pos a.index +ℤ t.shift) (object_at w.heap a.region a.object).count) refl
    lived a is false e = refl

    by : (p : Value) → t.pointer ≡ p → watched_put false true line t v w ≡ source.store line t v w
    by (Pointer a) e = rw e (lived a e (live w.heap a.region) refl)
    by (Number n) e = rw e refl
    by Null e = rw e refl
    by (Handle r) e = rw e refl

-- ---- regions and objects

made_quiet : (line p : ℕ) (w : World) → Quiet w Fresh (made line p w)
made_quiet line p w = quiet_tested w Fresh _ Full line _ (λ e. goes_quietly w (with_heap w (w.heap ++ new_region p ∷ [])) Fresh _ (none_dies_made w.heap p) (last_is_live w.heap p))

pub new_region_quiet : (line : ℕ) (w : World) → Quiet w Fresh (source.new_region line w)
new_region_quiet line w = made_quiet line 0 w

pub new_subregion_quiet : (line : ℕ) (v : Value) (w : World) → FreshIn w v → Quiet w Fresh (source.new_subregion line v w)
new_subregion_quiet line (Number n) w fresh = record { holds = tt }
new_subregion_quiet line Null w fresh = record { holds = tt }
new_subregion_quiet line (Handle r) w fresh = quiet_touching w Fresh (live w.heap r) line (made line r w) fresh (made_quiet line r w)
new_subregion_quiet line (Pointer a) w fresh = record { holds = tt }

allocated_quiet : (line r : ℕ) (count : ℤ) (layout : Layout) (w : World) → live w.heap r ≡ true → Quiet w Fresh (allocated line r count layout w)
allocated_quiet line r count layout w l =
    let new : List Object → List Object = λ os. os ++ blank layout (unsigned_abs count) ∷ [] in
    let lives : live (with_objects w.heap r new) ≡ live w.heap = same_lives w.heap r new in
    quiet_tested w Fresh (int_le (pos 0) count) Size line _ (λ e. quiet_tested w Fresh (nat_lt (length (objects w.heap r)) w.blocks) Full line _ (λ e2.
    goes_quietly w (with_heap w (with_objects w.heap r new)) Fresh (Pointer (record { region = r; object = length (objects w.heap r); index = 0 })) (λ q lq. ap (λ f. f q) lives ∙ lq) (ap (λ f. f r) lives ∙ l)))

pub allocate_quiet : (line : ℕ) (v : Value) (count : ℤ) (layout : Layout) (w : World) → FreshIn w v → Quiet w Fresh (source.allocate line v count layout w)
allocate_quiet line (Number n) count layout w fresh = record { holds = tt }
allocate_quiet line Null count layout w fresh = record { holds = tt }
allocate_quiet line (Handle r) count layout w fresh = quiet_touching w Fresh (live w.heap r) line _ fresh (allocated_quiet line r count layout w fresh)
allocate_quiet line (Pointer a) count layout w fresh = record { holds = tt }

pub step_quiet : (line : ℕ) (v : Value) (n : ℤ) (w : World) → FreshIn w v → Quiet w Fresh (source.step line v n w)
step_quiet line (Number m) n w fresh = record { holds = tt }
step_quiet line Null n w fresh = record { holds = tt }
step_quiet line (Handle r) n w fresh = record { holds = tt }
step_quiet line (Pointer a) n w fresh =
    quiet_touching w Fresh (live w.heap a.region) line _ fresh (quiet_tested w Fresh _ Bounds line _ (λ e. goes_quietly w w Fresh _ (none_dies w) fresh))

-- ---- deletions: what is held and names no dead region still names none

-- each of these that named no dead region names none now
abbrev pub Spared : World → World → Value → Type 0
Spared w w1 v = FreshIn w v → FreshIn w1 v

abbrev pub Deletes : World → (held : List Value) → Run World (Unit {0}) → Type 0
Deletes w held (Go x w1) = Every (Spared w w1) held
Deletes w held (Stopped stop w1) = NotStale stop

spared_all : (w : World) (r : ℕ) (held : List Value) → Every (NamesNot r) held → Every (Spared w (with_heap w (killed w.heap r))) held
spared_all w r [] all = tt
spared_all w r (v ∷ held) all = ((λ fresh. fresh_killed w.heap r v fresh all.0), spared_all w r held all.1)

deleted_spares : (line : ℕ) (held : List Value) (r : ℕ) (w : World) → live w.heap r ≡ true → Deletes w held (deleted line held r w)
deleted_spares line held r w l = rw l (inner (nat_eq r 0))
  where
    at_last : (b : Bool) → is_empty (references r held w) ≡ b → Deletes w held (tested b Reference line w (Go tt (with_heap w (killed w.heap r))))
    at_last true e =
        let none = none_kept _ (values_outside r 0 w.heap ++ (w.waiting ++ held)) (empty_is_nil (references r held w) e) in
        let parts = every_split (NamesNot r) (values_outside r 0 w.heap) (w.waiting ++ held) none in
        spared_all w r held (every_split (NamesNot r) w.waiting held parts.1).1
    at_last false e = tt

    childless : (b : Bool) → Deletes w held (tested (not b) Subregion line w (tested (is_empty (references r held w)) Reference line w (Go tt (with_heap w (killed w.heap r)))))
    childless true = tt
    childless false = at_last (is_empty (references r held w)) refl

    inner : (b : Bool) → Deletes w held (tested (not b) Root line w (tested (not (has_child r w.heap)) Subregion line w (tested (is_empty (references r held w)) Reference line w (Go tt (with_heap w (killed w.heap r))))))
    inner true = tt
    inner false = childless (has_child r w.heap)

pub delete_spares : (line : ℕ) (held : List Value) (v : Value) (w : World) → FreshIn w v → Deletes w held (source.delete line held v w)
delete_spares line held (Number n) w fresh = tt
delete_spares line held Null w fresh = tt
delete_spares line held (Handle r) w fresh = deleted_spares line held r w fresh
delete_spares line held (Pointer a) w fresh = tt
