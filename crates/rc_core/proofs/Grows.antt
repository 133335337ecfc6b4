-- What the source's operations change: turns never grow, acts are added at their end, regions and objects keep their numbers.
use Rattle.std.proofs.Common.{◌≡◌, ℕ, zero, suc, ◌<◌, ◌≤◌, List, [], ◌∷◌, ◌++◌, length, get_or, drop, refl, sym, ap, ◌∙◌, subst, arith, append-nil, append_assoc, length-append}
use Rattle.std.proofs.Math.ListN.{get_or-append}
use Rattle.std.specs.Prelude.{IsFalse}
use Rattle.rc_base.specs.Acts.{Act, Write, Getchar, getchars}
use Rattle.rc_core.specs.Heap.{Value, Object, Region, Heap, no_region, no_object, update, with_objects}
use Rattle.rc_core.specs.Source.{World, with_heap, doing, killed}

-- a list whose elements stay, so related, at their places
pub record Grows {X : Type 0} (Stays : X → X → Type 0) (d : X) (xs ys : List X) : Type 0 where
  pub longer : length xs ≤ length ys
  pub at : (i : ℕ) → i < length xs → Stays (get_or xs i d) (get_or ys i d)

grows_trans : {X : Type 0} (Stays : X → X → Type 0) (d : X) → ((x y z : X) → Stays x y → Stays y z → Stays x z) → (xs ys zs : List X) → Grows Stays d xs ys → Grows Stays d ys zs → Grows Stays d xs zs
grows_trans Stays d t xs ys zs g h = record { longer = omega (arith, g.longer, h.longer); at = λ i lt. t _ _ _ (g.at i lt) (h.at i (omega (arith, lt, g.longer))) }

grows_refl : {X : Type 0} (Stays : X → X → Type 0) (d : X) → ((x : X) → Stays x x) → (xs : List X) → Grows Stays d xs xs
grows_refl Stays d r xs = record { longer = omega arith; at = λ i lt. r _ }

grows_append : {X : Type 0} (Stays : X → X → Type 0) (d : X) → ((x : X) → Stays x x) → (xs ys : List X) → Grows Stays d xs (xs ++ ys)
grows_append Stays d r xs ys = record { longer = omega (arith, length-append xs ys); at = λ i lt. subst (λ x. Stays (get_or xs i d) x) (sym (get_or-append xs ys d i lt)) (r _) }

length-update : {X : Type 0} (xs : List X) (i : ℕ) (f : X → X) → length (update xs i f) ≡ length xs
length-update [] i f = refl
length-update (x ∷ xs) zero f = refl
length-update (x ∷ xs) (suc i) f = ap suc (length-update xs i f)

update_stays : {X : Type 0} (Stays : X → X → Type 0) (d : X) → ((x : X) → Stays x x) → (f : X → X) → ((x : X) → Stays x (f x)) → (xs : List X) (i j : ℕ) → Stays (get_or xs j d) (get_or (update xs i f) j d)
update_stays Stays d r f h [] i j = r _
update_stays Stays d r f h (x ∷ xs) zero zero = h x
update_stays Stays d r f h (x ∷ xs) zero (suc j) = r _
update_stays Stays d r f h (x ∷ xs) (suc i) zero = r _
update_stays Stays d r f h (x ∷ xs) (suc i) (suc j) = update_stays Stays d r f h xs i j

grows_update : {X : Type 0} (Stays : X → X → Type 0) (d : X) → ((x : X) → Stays x x) → (f : X → X) → ((x : X) → Stays x (f x)) → (xs : List X) (i : ℕ) → Grows Stays d xs (update xs i f)
grows_update Stays d r f h xs i = record { longer = omega (arith, length-update xs i f); at = λ j lt. update_stays Stays d r f h xs i j }

-- an object keeps its layout and its number of elements
pub record ObjectStays (o p : Object) : Type 0 where
  pub layout : p.layout ≡ o.layout
  pub count : p.count ≡ o.count

object_refl : (o : Object) → ObjectStays o o
object_refl o = record { layout = refl; count = refl }

-- a region keeps its parent and its objects, and a dead one stays dead
pub record RegionStays (g h : Region) : Type 0 where
  pub parent : h.parent ≡ g.parent
  pub dead : IsFalse g.alive → IsFalse h.alive
  pub objects : Grows ObjectStays no_object g.objects h.objects

objects_refl : (os : List Object) → Grows ObjectStays no_object os os
objects_refl os = grows_refl ObjectStays no_object object_refl os

region_refl : (g : Region) → RegionStays g g
region_refl g = record { parent = refl; dead = λ h. h; objects = objects_refl g.objects }

region_trans : (f g h : Region) → RegionStays f g → RegionStays g h → RegionStays f h
region_trans f g h a b = record {
  parent = b.parent ∙ a.parent;
  dead = λ e. b.dead (a.dead e);
  objects = grows_trans ObjectStays no_object (λ x y z r s. record { layout = s.layout ∙ r.layout; count = s.count ∙ r.count }) _ _ _ a.objects b.objects;
}

abbrev pub HeapGrows : Heap → Heap → Type 0
HeapGrows before after = Grows RegionStays no_region before after

pub heap_made : (heap : Heap) (g : Region) → HeapGrows heap (heap ++ g ∷ [])
heap_made heap g = grows_append RegionStays no_region region_refl heap (g ∷ [])

pub heap_killed : (heap : Heap) (r : ℕ) → HeapGrows heap (killed heap r)
heap_killed heap r = grows_update RegionStays no_region region_refl _ (λ g. record { parent = refl; dead = λ h. refl; objects = objects_refl g.objects }) heap r

heap_changed : (heap : Heap) (r : ℕ) (change : List Object → List Object) → ((os : List Object) → Grows ObjectStays no_object os (change os)) → HeapGrows heap (with_objects heap r change)
heap_changed heap r change h = grows_update RegionStays no_region region_refl _ (λ g. record { parent = refl; dead = λ e. e; objects = h g.objects }) heap r

pub heap_allocated : (heap : Heap) (r : ℕ) (o : Object) → HeapGrows heap (with_objects heap r (λ os. os ++ o ∷ []))
heap_allocated heap r o = heap_changed heap r _ (λ os. grows_append ObjectStays no_object object_refl os (o ∷ []))

pub heap_written : (heap : Heap) (r o : ℕ) (values : Object → List Value) → HeapGrows heap (with_objects heap r (λ os. update os o (λ x. record x { values = values x })))
heap_written heap r o values = heap_changed heap r _ (λ os. grows_update ObjectStays no_object object_refl _ (λ x. record { layout = refl; count = refl }) os o)

-- what one world may become
pub record Later (before after : World) : Type 0 where
  pub turns : after.turns ≤ before.turns
  pub acts : List Act
  pub extended : after.acts ≡ before.acts ++ acts
  pub input : after.input ≡ drop (getchars acts) before.input
  pub heap : HeapGrows before.heap after.heap
  pub regions : after.regions ≡ before.regions
  pub blocks : after.blocks ≡ before.blocks

drop_nothing : (n : ℕ) → drop {A = ℕ} n [] ≡ []
drop_nothing zero = refl
drop_nothing (suc n) = refl

drop_acts : (a b : List Act) (input : List ℕ) → drop (getchars b) (drop (getchars a) input) ≡ drop (getchars (a ++ b)) input
drop_acts [] b input = refl
drop_acts (Write x ∷ a) b input = drop_acts a b input
drop_acts (Getchar ∷ a) b [] = drop_nothing (getchars b)
drop_acts (Getchar ∷ a) b (x ∷ input) = drop_acts a b input

pub later_refl : (w : World) → Later w w
later_refl w = record { turns = omega arith; acts = []; extended = sym (append-nil w.acts); input = refl; heap = grows_refl RegionStays no_region region_refl w.heap; regions = refl; blocks = refl }

pub later_trans : (u v w : World) → Later u v → Later v w → Later u w
later_trans u v w a b = record {
  turns = omega (arith, a.turns, b.turns);
  acts = a.acts ++ b.acts;
  extended = b.extended ∙ ap (λ x. x ++ b.acts) a.extended ∙ append_assoc u.acts a.acts b.acts;
  input = b.input ∙ ap (λ x. drop (getchars b.acts) x) a.input ∙ drop_acts a.acts b.acts u.input;
  heap = grows_trans RegionStays no_region region_trans _ _ _ a.heap b.heap;
  regions = b.regions ∙ a.regions;
  blocks = b.blocks ∙ a.blocks;
}

pub later_heap : (w : World) (heap : Heap) → HeapGrows w.heap heap → Later w (with_heap w heap)
later_heap w heap g = record { turns = omega arith; acts = []; extended = sym (append-nil w.acts); input = refl; heap = g; regions = refl; blocks = refl }

pub later_written : (w : World) (byte : ℕ) → Later w (doing w (Write byte))
later_written w byte = record { turns = omega arith; acts = Write byte ∷ []; extended = refl; input = refl; heap = grows_refl RegionStays no_region region_refl w.heap; regions = refl; blocks = refl }

pub later_waiting : (w : World) (values : List Value) → Later w (record w { waiting = values })
later_waiting w values = record { turns = omega arith; acts = []; extended = sym (append-nil w.acts); input = refl; heap = grows_refl RegionStays no_region region_refl w.heap; regions = refl; blocks = refl }

pub later_turn : (w : World) (turns : ℕ) → turns ≤ w.turns → Later w (record w { turns = turns })
later_turn w turns le = record { turns = le; acts = []; extended = sym (append-nil w.acts); input = refl; heap = grows_refl RegionStays no_region region_refl w.heap; regions = refl; blocks = refl }

pub later_read : (w : World) (input : List ℕ) → input ≡ drop 1 w.input → Later w (record (doing w Getchar) { input = input })
later_read w input e = record { turns = omega arith; acts = Getchar ∷ []; extended = refl; input = e; heap = grows_refl RegionStays no_region region_refl w.heap; regions = refl; blocks = refl }
