-- What the source's world does, its store does, and the invariant stays: operation by operation.
use Rattle.std.proofs.Common.{◌≡◌, ℕ, zero, suc, ◌-◌, ◌<◌, ℤ, pos, negsuc, Bool, true, false, not, ◌&&◌, nat_eq, nat_lt, nat_le, int_le, unsigned_abs, List, [], ◌∷◌, ◌++◌, length, map, take, drop, get_or, filter, Option, Some, None, refl, sym, ap, ◌∙◌, subst, ◌⊎◌, inl, inr, arith, rules}
use Rattle.std.specs.Prelude.{◌+ℤ◌}
use Rattle.std.specs.List.{AllByRecursion as Every, list_all}
use Rattle.rc_base.specs.declared.ends.Trap.TheVariants.{Bounds, Size, Root, Subregion, Reference, Full}
use Rattle.rc_core.specs.Types.{CellKind, int_cell}
use Rattle.rc_core.specs.Layout.{Layout, note_of}
use Rattle.rc_core.specs.Heap.{Value, Number, Null, Handle, Pointer, Address, Object, Region, Heap, no_region, no_object, live, parent, objects, object_at, update, with_objects, is_fresh, fits, blank, kinds_of}
use Rattle.rc_core.specs.Store.{View, refs}
use Rattle.rc_core.specs.Runs.{Run, Go, tested, touching, Target}
use Rattle.rc_core.specs.Source.{World, with_heap, Spot, object_of, place_of, values_from, notes_from, is_index, unfit, fitting, overwritten, written, made, allocated, has_child, values_outside, references, is_empty, killed, first_of, turn_from, byte_from, source}
use Rattle.rc_safety.specs.Soundness.{IsFresh}
use Rattle.rc_safety.proofs.Lists.{every_append, every_split, every_update}
use Rattle.rc_safety.proofs.Fronts.{FrontZip, overwritten_zip, element_front}
use Rattle.rc_safety.proofs.Heaps.{fits_same, parent_is_live, parent_same}
use Rattle.rc_safety.proofs.Changed.{same_lives, same_parents, changed_sound}
use Rattle.rc_safety.proofs.Written.{written_sound}
use Rattle.rc_safety.proofs.Made.{new_region, live_is_made, made_before, made_last, none_dies_made, made_sound}
use Rattle.rc_safety.proofs.Killed.{NamesNot, none_kept, empty_is_nil, others_live, killed_sound}
use Rattle.rc_safety.proofs.Allocations.{blank_object_is_sound}
use Rattle.rc_core.specs.declared.ty.NumberType.TheVariants.{Int}
use Rattle.rc_core.specs.Numbers.{IsByte}
use Rattle.rc_kinds.proofs.InRange.{byte_fits}
use Rattle.rc_code.specs.Running.{layout_at}
use Rattle.rc_code.specs.StoreModel.{Held, lives, parent_in, with_objects_in, with_store, turn_in, byte_in, value_in, kind_in, put_in, stored_in, made_in, allocated_in, deleted_in}
use Rattle.rc_code.specs.Soundness.{Kind, handles, pointers}
use Rattle.rc_worlds.specs.Worlds.{Compared, model, naming, named_cell, renamed, seen, passing, put_by, deleted_by, delete_by, may_mark, looks, tells_apart}
use Rattle.rc_worlds.specs.Typed.{Shape, shape_of, shape_there, LeadsTo, InRange, HasKind, Stored, ObjectIsTyped, RegionIsTyped, HeapIsTyped, IsMade, IsTree, IsSoundBy, Good, Grows, AsFresh, Reaches}
use Rattle.rc_worlds.proofs.Looks.{lives_same, all_lives_same, in_view, parent_in_view, child_same, killed_seen, changed_seen, map_append, length_seen, filter_same, blank_renamed, counts_renamed, length_renamed, note_renamed, value_renamed, appended_renamed, put_renamed}
use Rattle.rc_worlds.proofs.Counts.{decisions_agree, not_child, turned, waiting_apart}
use Rattle.rc_worlds.proofs.Does.{Does, IsSpot, grows_itself, each_as_fresh, reaches_itself, does_go, does_tested, does_touching, does_region, does_address, does_spot}
use Rattle.rc_worlds.proofs.Typed.{shape_is, keeps_grow, all_made_grow, regions_grow, blank_is_typed, grows_update, grows_append, object_appended, last_there, object_updated, front_one}

as_fresh_lives : (a b : Heap) → live b ≡ live a → (vs : List Value) → Every (AsFresh a b) vs
as_fresh_lives a b e [] = tt
as_fresh_lives a b e (v ∷ vs) = (ap (λ f. is_fresh f v) e, as_fresh_lives a b e vs)

as_fresh_made : (heap : Heap) (g : Region) (vs : List Value) → Every (IsMade heap) vs → Every (AsFresh heap (heap ++ g ∷ [])) vs
as_fresh_made heap g [] all = tt
as_fresh_made heap g (v ∷ vs) all = (one v all.0, as_fresh_made heap g vs all.1)
  where
    one : (v : Value) → IsMade heap v → AsFresh heap (heap ++ g ∷ []) v
    one (Number n) e = refl
    one Null e = refl
    one (Handle r) e = ap (λ (g : Region). g.alive) (made_before heap g r e)
    one (Pointer a) e = ap (λ (g : Region). g.alive) (made_before heap g a.region e)

as_fresh_killed : (heap : Heap) (r : ℕ) (vs : List Value) → Every (NamesNot r) vs → Every (AsFresh heap (killed heap r)) vs
as_fresh_killed heap r [] all = tt
as_fresh_killed heap r (v ∷ vs) all = (one v all.0, as_fresh_killed heap r vs all.1)
  where
    one : (v : Value) → NamesNot r v → AsFresh heap (killed heap r) v
    one (Number n) e = refl
    one Null e = refl
    one (Handle q) e = others_live heap r q e
    one (Pointer a) e = others_live heap r a.region e

pub index_is_below : (z : ℤ) (count : ℕ) → is_index z count ≡ true → unsigned_abs z < count
index_is_below (pos k) count e = grind (arith, rules)
index_is_below (negsuc k) count e = cc

and_true : (b : Bool) → (b && true) ≡ b
and_true true = refl
and_true false = refl

not_true : (b : Bool) → not b ≡ true → b ≡ false
not_true true e = cc
not_true false e = refl

first_at : (vs : List Value) (n : ℕ) → get_or vs n Null ≡ first_of (take 1 (drop n vs))
first_at [] zero = refl
first_at [] (suc n) = refl
first_at (v ∷ vs) zero = refl
first_at (v ∷ vs) (suc n) = first_at vs n

fitting_one : (heap : Heap) (holder line : ℕ) (layout : Layout) (cell : ℕ) (v : Value) (w : World) (run : Run World (Unit {0}))
    → fitting heap holder line (map note_of (drop cell layout)) (v ∷ []) w run ≡ tested (fits (parent heap) (note_of (get_or layout cell int_cell)) holder v) (unfit (note_of (get_or layout cell int_cell))) line w run
fitting_one heap holder line [] zero v w run = refl
fitting_one heap holder line [] (suc cell) v w run = refl
fitting_one heap holder line (kind ∷ layout) zero v w run = refl
fitting_one heap holder line (kind ∷ layout) (suc cell) v w run = fitting_one heap holder line layout cell v w run

-- soundness or the tree of live regions, by what the run does
sound_root : (b : Bool) (heap : Heap) → IsSoundBy b heap → live heap 0 ≡ true
sound_root true heap sound = sound.root
sound_root false heap sound = sound.root

sound_parents : (b : Bool) (heap : Heap) → IsSoundBy b heap → (r : ℕ) → live heap r ≡ true → live heap (parent heap r) ≡ true
sound_parents true heap sound = parent_is_live heap sound
sound_parents false heap sound = sound.parents

tree_changed : (heap : Heap) (r : ℕ) (change : List Object → List Object) → IsTree heap → IsTree (with_objects heap r change)
tree_changed heap r change tree = record {
  root = ap (λ f. f 0) el ∙ tree.root;
  parents = λ q l. ap (λ f. f (parent (with_objects heap r change) q)) el ∙ ap (λ f. live heap (f q)) ep ∙ tree.parents q (sym (ap (λ f. f q) el) ∙ l);
}
  where
    el : live (with_objects heap r change) ≡ live heap
    el = same_lives heap r change

    ep : parent (with_objects heap r change) ≡ parent heap
    ep = same_parents heap r change

-- a live region is one of those before, or the last
old_or_last : (heap : Heap) (g : Region) (r : ℕ) → live (heap ++ g ∷ []) r ≡ true → (live heap r ≡ true) ⊎ (r ≡ length heap)
old_or_last [] g zero l = inr refl
old_or_last [] g (suc r) l = cc
old_or_last (x ∷ heap) g zero l = inl l
old_or_last (x ∷ heap) g (suc r) l = one (old_or_last heap g r l)
  where
    one : (live heap r ≡ true) ⊎ (r ≡ length heap) → (live heap r ≡ true) ⊎ (suc r ≡ length (x ∷ heap))
    one (inl old) = inl old
    one (inr last) = inr (ap suc last)

sound_made : (b : Bool) (heap : Heap) (p : ℕ) → IsSoundBy b heap → live heap p ≡ true → IsSoundBy b (heap ++ new_region p ∷ [])
sound_made true heap p sound l = made_sound heap p sound l
sound_made false heap p tree l = record { root = none_dies_made heap p 0 tree.root; parents = λ r lr. none_dies_made heap p (parent (heap ++ new_region p ∷ []) r) (at r (old_or_last heap (new_region p) r lr)) }
  where
    at : (r : ℕ) → (live heap r ≡ true) ⊎ (r ≡ length heap) → live heap (parent (heap ++ new_region p ∷ []) r) ≡ true
    at r (inl lr) = ap (λ (g : Region). live heap g.parent) (made_before heap (new_region p) r (live_is_made heap r lr)) ∙ tree.parents r lr
    at r (inr last) = ap (λ i. live heap (parent (heap ++ new_region p ∷ []) i)) last ∙ ap (λ (g : Region). live heap g.parent) (made_last heap (new_region p)) ∙ l

sound_appended : (b : Bool) (heap : Heap) (r : ℕ) (layout : Layout) (n : ℕ) → IsSoundBy b heap → live heap r ≡ true → IsSoundBy b (with_objects heap r (λ os. os ++ blank layout n ∷ []))
sound_appended true heap r layout n sound l = changed_sound heap r _ sound l (every_append _ (objects heap r) (blank layout n ∷ []) (sound.regions r l).objects (blank_object_is_sound (live heap) (parent heap) r layout n, tt))
sound_appended false heap r layout n tree l = tree_changed heap r _ tree

dead : (heap : Heap) (r : ℕ) → live (killed heap r) r ≡ false
dead [] r = refl
dead (g ∷ heap) zero = refl
dead (g ∷ heap) (suc r) = dead heap r

tree_killed : (heap : Heap) (r : ℕ) → IsTree heap → nat_eq r 0 ≡ false → has_child r heap ≡ false → IsTree (killed heap r)
tree_killed heap r tree inner childless = record { root = others_live heap r 0 (turned r 0 inner) ∙ tree.root; parents = λ q l. by q l (nat_eq q r) refl }
  where
    ep : parent (killed heap r) ≡ parent heap
    ep = parent_same heap r _ (λ g. refl)

    by : (q : ℕ) → live (killed heap r) q ≡ true → (b : Bool) → nat_eq q r ≡ b → live (killed heap r) (parent (killed heap r) q) ≡ true
    by q l true e = let is : q ≡ r = search rules in let gone : live (killed heap r) q ≡ false = ap (live (killed heap r)) is ∙ dead heap r in cc
    by q l false e =
        let lq : live heap q ≡ true = sym (others_live heap r q e) ∙ l in
        ap (λ f. live (killed heap r) (f q)) ep ∙ others_live heap r (parent heap q) (not_child r heap childless q lq) ∙ tree.parents q lq

module _ (image : Compared) where
  abbrev Any : {A : Type 0} → A → World → Type 0
  Any x w = Unit {0}

  abbrev pub Gives : Kind → Value → World → Type 0
  Gives k v w = HasKind image w.heap k v

  store_of : (w : World) (heap1 : Heap) (views : List (Option View)) → Every (AsFresh w.heap heap1) w.waiting → views ≡ map (seen image.name) heap1 → with_store (model image.name w) (record (model image.name w).store { regions = views }) ≡ model image.name (with_heap w heap1)
  store_of w heap1 views each e =
      ap (λ vs. with_store (model image.name w) (record (model image.name w).store { regions = vs })) e
      ∙ ap (λ ps. with_store (model image.name w) (record (model image.name w).store { regions = map (seen image.name) heap1; pins = ps })) (sym (filter_same (is_fresh (live heap1)) (is_fresh (live w.heap)) w.waiting each))

  reaches_heap : (w : World) (heap1 : Heap) → Good image w → IsSoundBy (looks image.marks) heap1 → HeapIsTyped image heap1 → Grows w.heap heap1 → Every (AsFresh w.heap heap1) w.waiting → Reaches image w (with_heap w heap1)
  reaches_heap w heap1 good sound typed grows each = record {
    good = record { sound = sound; typed = typed; globals = λ g global e. grows.objects 0 g _ (good.globals g global e); waiting = all_made_grow w.heap heap1 grows w.waiting good.waiting; input = good.input };
    grows = grows;
    waits = refl;
    fresh = each;
  }

  -- the world with another heap, and the store with the views of that
  does_heap : {A : Type 0} (w : World) (heap1 : Heap) (views : List (Option View)) (P : A → World → Type 0) (x : A) → views ≡ map (seen image.name) heap1 → Reaches image w (with_heap w heap1) → P x (with_heap w heap1)
      → Does image w P (Go x (with_heap w heap1)) (Go x (with_store (model image.name w) (record (model image.name w).store { regions = views })))
  does_heap w heap1 views P x e reached p = record { same = inr (ap (Go x) (store_of w heap1 views reached.fresh e)); goes = (reached, p) }

  -- turns and bytes
  pub take_turn_does : (w : World) → Good image w → Does image w Any (source.take_turn w) ((naming image.name).take_turn (model image.name w))
  take_turn_does w good = by w.turns
    where
      by : (n : ℕ) → Does image w Any (turn_from n w) (turn_in n (model image.name w))
      by zero = record { same = inr refl; goes = tt }
      by (suc n) = record { same = inr refl; goes = (record { good = record { sound = good.sound; typed = good.typed; globals = good.globals; waiting = good.waiting; input = good.input }; grows = grows_itself w.heap; waits = refl; fresh = each_as_fresh w.heap w.waiting }, tt) }

  pub put_byte_does : (b : ℕ) (w : World) → Good image w → Does image w Any (source.put_byte b w) ((naming image.name).put_byte b (model image.name w))
  put_byte_does b w good = record { same = inr refl; goes = (record { good = record { sound = good.sound; typed = good.typed; globals = good.globals; waiting = good.waiting; input = good.input }; grows = grows_itself w.heap; waits = refl; fresh = each_as_fresh w.heap w.waiting }, tt) }

  pub get_byte_does : (w : World) → Good image w → Does image w (λ z w1. InRange image.ranged Int z) (source.get_byte w) ((naming image.name).get_byte (model image.name w))
  get_byte_does w good = by w.input good.input
    where
      by : (bytes : List ℕ) → (image.ranged ≡ true → Every IsByte bytes) → Does image w (λ z w1. InRange image.ranged Int z) (byte_from bytes w) (byte_in bytes (model image.name w))
      by [] all = record { same = inr refl; goes = (record { good = record { sound = good.sound; typed = good.typed; globals = good.globals; waiting = good.waiting; input = good.input }; grows = grows_itself w.heap; waits = refl; fresh = each_as_fresh w.heap w.waiting }, λ e. refl) }
      by (b ∷ rest) all = record { same = inr refl; goes = (record { good = record { sound = good.sound; typed = good.typed; globals = good.globals; waiting = good.waiting; input = λ e. (all e).1 }; grows = grows_itself w.heap; waits = refl; fresh = each_as_fresh w.heap w.waiting }, λ e. byte_fits b (all e).0) }

  -- a new region
  made_does : (line p : ℕ) (w : World) → Good image w → live w.heap p ≡ true → Does image w (Gives handles) (made line p w) (made_in line p (model image.name w))
  made_does line p w good l =
      does_tested image w (Gives handles) _ (nat_le (length w.heap) w.regions) Full line _ _ (ap (λ n. nat_le n w.regions) (length_seen image.name w.heap)) (λ e.
      subst (λ n. Does image w (Gives handles) (Go (Handle (length w.heap)) (with_heap w heap1)) (Go (Handle n) (with_store (model image.name w) (record (model image.name w).store { regions = map (seen image.name) w.heap ++ Some (record { parent = p; objects = [] }) ∷ [] })))) (sym (length_seen image.name w.heap))
      (does_heap w heap1 (map (seen image.name) w.heap ++ Some (record { parent = p; objects = [] }) ∷ []) (Gives handles) (Handle (length w.heap)) (sym (map_append image.name w.heap (new_region p)))
      (reaches_heap w heap1 good (sound_made (looks image.marks) w.heap p good.sound l) (record { regions = every_append (RegionIsTyped image heap1) w.heap (new_region p ∷ []) (regions_grow image w.heap heap1 w.heap grows good.typed.regions) (tt, tt) }) grows (as_fresh_made w.heap (new_region p) w.waiting good.waiting))
      (record { suits = last w.heap })))
    where
      heap1 : Heap
      heap1 = w.heap ++ new_region p ∷ []

      grows : Grows w.heap heap1
      grows = grows_append w.heap (new_region p)

      last : (heap : Heap) → length heap < length (heap ++ new_region p ∷ [])
      last [] = omega arith
      last (g ∷ heap) = let h = last heap in omega (arith, h)

  pub new_region_does : (line : ℕ) (w : World) → Good image w → Does image w (Gives handles) (source.new_region line w) ((naming image.name).new_region line (model image.name w))
  new_region_does line w good = made_does line 0 w good (sound_root (looks image.marks) w.heap good.sound)

  pub new_subregion_does : (line : ℕ) (v : Value) (w : World) → Good image w → Does image w (Gives handles) (source.new_subregion line v w) ((naming image.name).new_subregion line v (model image.name w))
  new_subregion_does line v w good = does_region image line v w (Gives handles) _ _ (λ r. does_touching image w (Gives handles) (lives (model image.name w).store r) (live w.heap r) line _ _ (lives_same image.name w r) (λ l. made_does line r w good l))

  -- a new object
  allocated_does : (line r : ℕ) (count : ℤ) (t : ℕ) (w : World) → Good image w → live w.heap r ≡ true → Does image w (Gives (pointers t)) (allocated line r count (layout_at image.code t) w) (allocated_in line r count (map (named_cell image.name) (layout_at image.code t)) (model image.name w))
  allocated_does line r count t w good l =
      does_tested image w (Gives (pointers t)) (int_le (pos 0) count) (int_le (pos 0) count) Size line _ _ refl (λ e.
      does_tested image w (Gives (pointers t)) _ (nat_lt (length (objects w.heap r)) w.blocks) Full line _ _ (ap (λ os. nat_lt (length os) w.blocks) (in_view image.name w r l) ∙ ap (λ n. nat_lt n w.blocks) (length_renamed image.name (objects w.heap r))) (λ e2.
      subst (λ n. Does image w (Gives (pointers t)) (Go (there (length (objects w.heap r))) (with_heap w heap1)) (Go (there n) (with_store (model image.name w) (with_objects_in (model image.name w).store r new')))) (sym (ap length (in_view image.name w r l) ∙ length_renamed image.name (objects w.heap r)))
      (does_heap w heap1 (with_objects_in (model image.name w).store r new').regions (Gives (pointers t)) (there (length (objects w.heap r))) (sym (changed_seen image.name w.heap r new new' (λ os. appended_renamed image.name made_object os ∙ ap (λ x. map (renamed image.name) os ++ x ∷ []) (blank_renamed image.name (layout_at image.code t) (unsigned_abs count)))))
      (reaches_heap w heap1 good sound (record { regions = typed }) grows (as_fresh_lives w.heap heap1 (same_lives w.heap r new) w.waiting))
      (record { suits = record { count = unsigned_abs count; there = is_there w.heap r l; within = omega arith } }))))
    where
      made_object : Object
      made_object = blank (layout_at image.code t) (unsigned_abs count)

      new : List Object → List Object
      new os = os ++ made_object ∷ []

      new' : List Object → List Object
      new' os = os ++ blank (map (named_cell image.name) (layout_at image.code t)) (unsigned_abs count) ∷ []

      there : ℕ → Value
      there n = Pointer (record { region = r; object = n; index = 0 })

      heap1 : Heap
      heap1 = with_objects w.heap r new

      grows : Grows w.heap heap1
      grows = grows_update w.heap r (λ g. record g { objects = new g.objects }) (λ o shape e. object_appended (objects w.heap r) made_object o shape e)

      sound : IsSoundBy (looks image.marks) heap1
      sound = sound_appended (looks image.marks) w.heap r (layout_at image.code t) (unsigned_abs count) good.sound l

      typed : Every (RegionIsTyped image heap1) heap1
      typed = every_update (RegionIsTyped image heap1) w.heap r _ no_region (λ g same old. every_append (ObjectIsTyped image heap1) g.objects (made_object ∷ []) old (blank_is_typed image heap1 (layout_at image.code t) (unsigned_abs count), tt)) (regions_grow image w.heap heap1 w.heap grows good.typed.regions)

      is_there : (heap : Heap) (r : ℕ) → live heap r ≡ true → shape_there (with_objects heap r new) r (length (objects heap r)) ≡ Some (shape_of made_object)
      is_there [] r l = cc
      is_there (g ∷ heap) zero l = last_there g.objects made_object
      is_there (g ∷ heap) (suc r) l = is_there heap r l

  pub allocate_does : (line : ℕ) (v : Value) (count : ℤ) (t : ℕ) (w : World) → Good image w → Does image w (Gives (pointers t)) (source.allocate line v count (layout_at image.code t) w) ((naming image.name).allocate line v count (layout_at image.code t) (model image.name w))
  allocate_does line v count t w good = does_region image line v w (Gives (pointers t)) _ _ (λ r. does_touching image w (Gives (pointers t)) (lives (model image.name w).store r) (live w.heap r) line _ _ (lives_same image.name w r) (λ l. allocated_does line r count t w good l))

  -- a deletion
  kills : (b : Bool) → b ≡ looks image.marks → (r : ℕ) (w : World) → Good image w → IsSoundBy b (killed w.heap r) → Every (AsFresh w.heap (killed w.heap r)) w.waiting
      → Does image {A = Unit {0}} w (λ _ w1. Unit {0}) (Go tt (with_heap w (killed w.heap r))) (Go tt (with_store (model image.name w) (record (model image.name w).store { regions = update (model image.name w).store.regions r (λ _. None) })))
  kills b is r w good sound fresh =
      let heap1 = killed w.heap r in
      let grows : Grows w.heap heap1 = grows_update w.heap r (λ g. record g { alive = false }) (λ o shape e. e) in
      does_heap {A = Unit {0}} w heap1 _ (λ _ w1. Unit {0}) (tt {0}) (sym (killed_seen image.name w.heap r))
      (reaches_heap w heap1 good (subst (λ b. IsSoundBy b heap1) is sound)
      (record { regions = every_update (RegionIsTyped image heap1) w.heap r _ no_region (λ g same old. old) (regions_grow image w.heap heap1 w.heap grows good.typed.regions) })
      grows fresh) (tt {0})

  deleted_does : (b : Bool) → b ≡ looks image.marks → (line : ℕ) (held : List Value) (r : ℕ) (w : World) → Good image w → IsSoundBy b w.heap → Does image w Any (deleted_by b image.name line held r w) (deleted_in line held r (model image.name w))
  deleted_does true is line held r w good sound =
      does_touching image w Any (lives (model image.name w).store r) (live w.heap r) line _ _ (lives_same image.name w r) (λ l.
      does_tested image w Any (not (nat_eq r 0)) (not (nat_eq r 0)) Root line _ _ refl (λ inner.
      does_tested image w Any _ (not (has_child r w.heap)) Subregion line _ _ (ap not (child_same image.name r w.heap)) (λ childless.
      does_tested image w Any _ (is_empty (references r held w)) Reference line _ _
      (ap (λ f. nat_eq (refs (record (model image.name w).store { pins = filter (is_fresh f) held ++ (model image.name w).store.pins }) r) 0) (all_lives_same image.name w)
      ∙ decisions_agree image w held r sound good.typed l (not_true _ inner) (not_true _ childless)) (λ empty.
      let none = none_kept _ (values_outside r 0 w.heap ++ (w.waiting ++ held)) (empty_is_nil (references r held w) empty) in
      let parts = every_split (NamesNot r) (values_outside r 0 w.heap) (w.waiting ++ held) none in
      let rest = every_split (NamesNot r) w.waiting held parts.1 in
      kills true is r w good (killed_sound w.heap r sound (not_true _ inner) (not_true _ childless) parts.0) (as_fresh_killed w.heap r w.waiting rest.0)))))
  deleted_does false is line held r w good tree =
      does_touching image w Any (lives (model image.name w).store r) (live w.heap r) line _ _ (lives_same image.name w r) (λ l.
      does_tested image w Any (not (nat_eq r 0)) (not (nat_eq r 0)) Root line _ _ refl (λ inner.
      does_tested image w Any _ (not (has_child r w.heap)) Subregion line _ _ (ap not (child_same image.name r w.heap)) (λ childless.
      does_tested image w Any _ (nat_eq (refs (record (model image.name w).store { pins = filter (is_fresh (live w.heap)) held ++ (model image.name w).store.pins }) r) 0) Reference line _ _
      (ap (λ f. nat_eq (refs (record (model image.name w).store { pins = filter (is_fresh f) held ++ (model image.name w).store.pins }) r) 0) (all_lives_same image.name w)) (λ none.
      kills false is r w good (tree_killed w.heap r tree (not_true _ inner) (not_true _ childless)) (as_fresh_killed w.heap r w.waiting (waiting_apart (live w.heap) r l held w.waiting _ none))))))

  pub delete_does : (line : ℕ) (held : List Value) (v : Value) (w : World) → Good image w → Does image w Any (delete_by image line held v w) ((naming image.name).delete line held v (model image.name w))
  delete_does line held v w good = does_region image line v w Any _ _ (λ r. deleted_does (looks image.marks) refl line held r w good good.sound)

  -- values that are pinned while a function runs
  pub enter_good : (held : List Value) (w : World) → Good image w → Every (IsMade w.heap) held → Good image (source.enter held w)
  enter_good held w good all = record { sound = good.sound; typed = good.typed; globals = good.globals; waiting = every_append (IsMade w.heap) held w.waiting all good.waiting; input = good.input }

  pub leave_reaches : (held : List Value) (w w1 : World) → Reaches image (source.enter held w) w1 → Reaches image w (source.leave w w1)
  leave_reaches held w w1 a = record {
    good = record { sound = a.good.sound; typed = a.good.typed; globals = a.good.globals; waiting = (every_split (IsMade w1.heap) held w.waiting (subst (Every (IsMade w1.heap)) a.waits a.good.waiting)).1; input = a.good.input };
    grows = a.grows;
    waits = refl;
    fresh = (every_split (AsFresh w.heap w1.heap) held w.waiting a.fresh).1;
  }

  pub leave_law : (held : List Value) (w w1 : World) → Reaches image (source.enter held w) w1 → (naming image.name).leave (model image.name w) (model image.name w1) ≡ model image.name (source.leave w w1)
  leave_law held w w1 a = ap (λ ps. with_store (model image.name w1) (record (model image.name w1).store { pins = ps })) (sym (filter_same (is_fresh (live w1.heap)) (is_fresh (live w.heap)) w.waiting (every_split (AsFresh w.heap w1.heap) held w.waiting a.fresh).1))

  -- a pointer step stays in its object
  pub step_does : (line t : ℕ) (v : Value) (n : ℤ) (w : World) → Good image w → HasKind image w.heap (pointers t) v → Does image w (Gives (pointers t)) (source.step line v n w) ((naming image.name).step line v n (model image.name w))
  step_does line t v n w good is = does_address image line v w (Gives (pointers t)) _ _ (λ a p.
      does_touching image w (Gives (pointers t)) (lives (model image.name w).store a.region) (live w.heap a.region) line _ _ (lives_same image.name w a.region) (λ l.
      does_tested image w (Gives (pointers t)) _ (is_index (pos a.index +ℤ n) (suc (object_at w.heap a.region a.object).count)) Bounds line _ _ (ap (λ os. is_index (pos a.index +ℤ n) (suc (get_or os a.object no_object).count)) (in_view image.name w a.region l) ∙ ap (λ m. is_index (pos a.index +ℤ n) (suc m)) (counts_renamed image.name (objects w.heap a.region) a.object)) (λ e.
      does_go image w w (Gives (pointers t)) (Pointer (record a { index = unsigned_abs (pos a.index +ℤ n) })) (reaches_itself image w good) (record { suits = moved a (subst (HasKind image w.heap (pointers t)) p is).suits e }))))
    where
      moved : (a : Address) → LeadsTo w.heap (layout_at image.code t) a → is_index (pos a.index +ℤ n) (suc (object_at w.heap a.region a.object).count) ≡ true → LeadsTo w.heap (layout_at image.code t) (record a { index = unsigned_abs (pos a.index +ℤ n) })
      moved a to e =
          let counts : (object_at w.heap a.region a.object).count ≡ to.count = ap (λ (s : Shape). s.count) (shape_is w.heap a.region a.object _ to.there) in
          let below = index_is_below (pos a.index +ℤ n) (suc (object_at w.heap a.region a.object).count) e in
          record { count = to.count; there = to.there; within = omega (arith, counts, below) }

  -- a read gives what is of the cell's kind
  pub load_does : (line : ℕ) (x : Target) (k : Kind) (w : World) → Good image w → ((a : Address) (spot : Spot) → IsSpot image w x a spot → HasKind image w.heap k (first_of (values_from w.heap spot 1)))
      → Does image w (Gives k) (source.load line x w) ((naming image.name).load line x (model image.name w))
  load_does line x k w good each = does_spot image line x w (Gives k) (λ spot. Go (first_of (values_from w.heap spot 1)) w) (λ spot. Go (value_in (model image.name w).store spot) (model image.name w)) (λ a spot is.
      let reached : Reaches image w w × Gives k (first_of (values_from w.heap spot 1)) w = (reaches_itself image w good, each a spot is) in
      record {
        same = inr (ap (λ os. Go (get_or (get_or os spot.object no_object).values (place_of (get_or os spot.object no_object) spot) Null) (model image.name w)) (in_view image.name w spot.region is.alive)
            ∙ ap (λ v. Go v (model image.name w)) (value_renamed image.name (objects w.heap spot.region) spot ∙ first_at (object_of w.heap spot).values (place_of (object_of w.heap spot) spot)));
        goes = reached;
      })

  sound_written : (b : Bool) (x : Target) (v : Value) (w : World) (a : Address) (spot : Spot) → IsSoundBy b w.heap → IsSpot image w x a spot → IsFresh (live w.heap) v
      → fits (parent w.heap) (note_of (get_or (object_of w.heap spot).layout spot.cell int_cell)) spot.region v ≡ true → IsSoundBy b (written spot (v ∷ []) w.heap)
  sound_written true x v w a spot sound is fresh fit =
      written_sound w.heap spot (v ∷ []) sound is.alive (subst (λ n. n < (object_of w.heap spot).count) (sym is.element) (index_is_below (pos a.index +ℤ x.shift) (object_of w.heap spot).count is.inside)) (fresh, tt)
      (front_one (λ kind v. fits (parent w.heap) (note_of kind) spot.region v ≡ true) (object_of w.heap spot).layout spot.cell v fit)
  sound_written false x v w a spot tree is fresh fit = tree_changed w.heap spot.region _ tree

  -- a write of what is of the cell's kind
  writes : (x : Target) (v : Value) (w : World) → Good image w → (a : Address) (spot : Spot) → IsSpot image w x a spot → Stored image w.heap (get_or (object_of w.heap spot).layout spot.cell int_cell) v
      → IsFresh (live w.heap) v → IsSoundBy (looks image.marks) (written spot (v ∷ []) w.heap)
      → Does image {A = Unit {0}} w (λ _ w1. Unit {0}) (Go tt (with_heap w (written spot (v ∷ []) w.heap))) (Go tt (with_store (model image.name w) (put_in spot v (model image.name w).store)))
  writes x v w good a spot is suits fresh sound =
      does_heap {A = Unit {0}} w heap1 _ Any (tt {0}) (sym (changed_seen image.name w.heap spot.region _ _ (put_renamed image.name spot v)))
      (reaches_heap w heap1 good sound
      (record { regions = typed }) grows (as_fresh_lives w.heap heap1 (same_lives w.heap spot.region _) w.waiting)) (tt {0})
    where
      o : Object
      o = object_of w.heap spot

      kind : CellKind
      kind = get_or o.layout spot.cell int_cell

      heap1 : Heap
      heap1 = written spot (v ∷ []) w.heap

      below : spot.element < o.count
      below = subst (λ n. n < o.count) (sym is.element) (index_is_below (pos a.index +ℤ x.shift) o.count is.inside)

      change : Object → Object
      change x = record x { values = overwritten (place_of x spot) (take (length x.layout - spot.cell) (v ∷ [])) x.values }

      grows : Grows w.heap heap1
      grows = grows_update w.heap spot.region (λ g. record g { objects = update g.objects spot.object change }) (λ i shape e. object_updated (objects w.heap spot.region) spot.object change (λ x. refl) i shape e)

      Front : Object → Type 0
      Front x = FrontZip (Stored image heap1) (drop (place_of x spot) (kinds_of x)) (take (length x.layout - spot.cell) (v ∷ []))

      front : Front o
      front = element_front (Stored image heap1) o.layout o.count spot.element spot.cell (v ∷ []) below (front_one (Stored image heap1) o.layout spot.cell v (keeps_grow image w.heap heap1 grows _ v suits))

      typed : Every (RegionIsTyped image heap1) heap1
      typed = every_update (RegionIsTyped image heap1) w.heap spot.region _ no_region (λ g same old.
          every_update (ObjectIsTyped image heap1) g.objects spot.object change no_object (λ x same2 old2.
          overwritten_zip (Stored image heap1) (place_of x spot) _ _ x.values old2 (subst Front (sym (same2 ∙ ap (λ (g : Region). get_or g.objects spot.object no_object) same)) front)) old)
          (regions_grow image w.heap heap1 w.heap grows good.typed.regions)

  -- the two checks in turn
  pub store_does : (line : ℕ) (x : Target) (v : Value) (w : World) → Good image w → ((a : Address) (spot : Spot) → IsSpot image w x a spot → Stored image w.heap (get_or (object_of w.heap spot).layout spot.cell int_cell) v)
      → Does image w Any (source.store line x v w) ((naming image.name).store line x v (model image.name w))
  store_does line x v w good each = does_spot image line x w Any _ _ (λ a spot is. at a spot is (each a spot is))
    where
      at : (a : Address) (spot : Spot) → IsSpot image w x a spot → Stored image w.heap (get_or (object_of w.heap spot).layout spot.cell int_cell) v
          → Does image w Any
          (touching (list_all (is_fresh (live w.heap)) (v ∷ [])) line w (fitting w.heap spot.region line (notes_from w.heap spot) (v ∷ []) w (Go tt (with_heap w (written spot (v ∷ []) w.heap)))))
          (touching (is_fresh (lives (model image.name w).store) v) line (model image.name w) (tested (fits (parent_in (model image.name w).store) (note_of (kind_in (model image.name w).store spot)) spot.region v) (unfit (note_of (kind_in (model image.name w).store spot))) line (model image.name w) (Go tt (with_store (model image.name w) (put_in spot v (model image.name w).store)))))
      at a spot is suits =
          let layout = (object_of w.heap spot).layout in
          let kind = get_or layout spot.cell int_cell in
          let done : Run World (Unit {0}) = Go tt (with_heap w (written spot (v ∷ []) w.heap)) in
          let done' : Run Held (Unit {0}) = Go tt (with_store (model image.name w) (put_in spot v (model image.name w).store)) in
          does_touching image w Any _ _ line _ _ (ap (λ f. is_fresh f v) (all_lives_same image.name w) ∙ sym (and_true (is_fresh (live w.heap) v))) (λ fresh.
          subst (λ m. Does image w Any m (tested (fits (parent_in (model image.name w).store) (note_of (kind_in (model image.name w).store spot)) spot.region v) (unfit (note_of (kind_in (model image.name w).store spot))) line (model image.name w) done')) (sym (fitting_one w.heap spot.region line layout spot.cell v w done))
          (subst (λ note. Does image w Any (tested (fits (parent w.heap) (note_of kind) spot.region v) (unfit (note_of kind)) line w done) (tested (fits (parent_in (model image.name w).store) note spot.region v) (unfit note) line (model image.name w) done')) (sym (ap (λ os. note_of (get_or (get_or os spot.object no_object).layout spot.cell int_cell)) (in_view image.name w spot.region is.alive) ∙ note_renamed image.name (objects w.heap spot.region) spot.object spot.cell))
          (does_tested image w Any _ (fits (parent w.heap) (note_of kind) spot.region v) (unfit (note_of kind)) line _ _
          (fits_same (live w.heap) (parent w.heap) (parent_in (model image.name w).store) (sound_parents (looks image.marks) w.heap good.sound) (parent_in_view image.name w) (note_of kind) spot.region v is.alive) (λ fit.
          writes x v w good a spot is suits (sym (and_true (is_fresh (live w.heap) v)) ∙ fresh) (sound_written (looks image.marks) x v w a spot good.sound is (sym (and_true (is_fresh (live w.heap) v)) ∙ fresh) fit)))))

  -- without the check over the store: where it fails over the source's world, nothing is said
  pub put_does : (b : Bool) → b ≡ looks image.marks → (proved : Bool) → (proved ≡ true → may_mark image.marks ≡ true) → (line : ℕ) (x : Target) (v : Value) (w : World) → Good image w → ((a : Address) (spot : Spot) → IsSpot image w x a spot → Stored image w.heap (get_or (object_of w.heap spot).layout spot.cell int_cell) v)
      → Does image w Any (put_by (tells_apart image.marks) b proved line x v w) (stored_in proved line x v (model image.name w))
  put_does true watching false marked line x v w good each = store_does line x v w good each
  put_does false watching false marked line x v w good each = store_does line x v w good each
  put_does false watching true marked line x v w good each = does_spot image line x w Any _ _ (λ a spot is.
      does_touching image w Any _ (is_fresh (live w.heap) v) line _ _ (ap (λ f. is_fresh f v) (all_lives_same image.name w)) (λ fresh.
      writes x v w good a spot is (each a spot is) fresh (subst (λ b. IsSoundBy b (written spot (v ∷ []) w.heap)) watching (tree_changed w.heap spot.region _ (subst (λ b. IsSoundBy b w.heap) (sym watching) good.sound)))))
  put_does true watching true marked line x v w good each = does_spot image line x w Any _ _ (λ a spot is.
      does_touching image w Any _ (is_fresh (live w.heap) v) line _ _ (ap (λ f. is_fresh f v) (all_lives_same image.name w)) (λ fresh.
      by a spot is fresh (fits (parent w.heap) (note_of (get_or (object_of w.heap spot).layout spot.cell int_cell)) spot.region v) refl))
    where
      by : (a : Address) (spot : Spot) → IsSpot image w x a spot → IsFresh (live w.heap) v → (b : Bool) → fits (parent w.heap) (note_of (get_or (object_of w.heap spot).layout spot.cell int_cell)) spot.region v ≡ b
          → Does image {A = Unit {0}} w (λ _ w1. Unit {0}) (passing (tells_apart image.marks) b line w (Go tt (with_heap w (written spot (v ∷ []) w.heap)))) (Go tt (with_store (model image.name w) (put_in spot v (model image.name w).store)))
      by a spot is fresh true fit = writes x v w good a spot is (each a spot is) fresh (sound_written (looks image.marks) x v w a spot good.sound is fresh fit)
      by a spot is fresh false fit = record { same = inl (marked refl, sym watching, (line, refl)); goes = tt }
