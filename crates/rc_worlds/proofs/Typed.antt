-- Kinds and layouts where a heap grows.
use Rattle.std.proofs.Common.{◌≡◌, ℕ, zero, suc, ◌+◌, ◌*◌, ◌<◌, ◌≤◌, List, [], ◌∷◌, ◌++◌, length, map, take, drop, replicate, flat_map, get_or, slice_get, Some, refl, sym, ap, ◌∙◌, subst, arith}
use Rattle.std.specs.List.{AllByRecursion as Every, AllZip}
use Rattle.rc_core.specs.Types.{CellKind, int_cell, unsigned_cell, char_cell, region_cell, pointer_cell}
use Rattle.rc_core.specs.Layout.{Layout}
use Rattle.rc_core.specs.Heap.{Value, Number, Null, Handle, Pointer, Object, Region, Heap, no_object, region_at, objects, object_at, update, blank, blank_cell, kinds_of}
use Rattle.rc_core.specs.Source.{first_of}
use Rattle.rc_safety.proofs.Lists.{every_more, zip_more, zip_append}
use Rattle.rc_safety.proofs.Fronts.{FrontZip}
use Rattle.rc_code.specs.Running.{storage_of}
use Rattle.rc_code.specs.Soundness.{Kind, numbers, handles, pointers, operand_kind}
use Rattle.rc_worlds.specs.Worlds.{Compared}
use Rattle.rc_worlds.specs.Typed.{Shape, shape_of, shape_in, shape_there, Suits, HasKind, Keeps, Stored, ObjectIsTyped, RegionIsTyped, IsMade, Grows}
use Rattle.rc_code.specs.declared.kind.Storage.{Storage}

-- an object that is there is in a region that was made
pub there_is_made : (heap : Heap) (r o : ℕ) (shape : Shape) → shape_there heap r o ≡ Some shape → r < length heap
there_is_made [] r o shape e = nowhere o e
  where
    nowhere : (o : ℕ) → shape_in (slice_get [] o) ≡ Some shape → r < 0
    nowhere zero e = cc
    nowhere (suc o) e = cc
there_is_made (g ∷ heap) zero o shape e = omega arith
there_is_made (g ∷ heap) (suc r) o shape e = let h = there_is_made heap r o shape e in omega (arith, h)

pub shape_is : (heap : Heap) (r o : ℕ) (shape : Shape) → shape_there heap r o ≡ Some shape → shape_of (object_at heap r o) ≡ shape
shape_is heap r o shape e = by (objects heap r) o e
  where
    by : (os : List Object) (o : ℕ) → shape_in (slice_get os o) ≡ Some shape → shape_of (get_or os o no_object) ≡ shape
    by [] zero e = cc
    by [] (suc o) e = cc
    by (x ∷ os) zero e = cc
    by (x ∷ os) (suc o) e = by os o e

pub suits_grow : (image : Compared) (a b : Heap) → Grows a b → (k : Kind) (v : Value) → HasKind image a k v → HasKind image b k v
suits_grow image a b grows k v is = record { suits = by k v is.suits }
  where
    by : (k : Kind) (v : Value) → Suits image a k v → Suits image b k v
    by (numbers s) (Number n) e = e
    by (numbers s) Null e = e
    by (numbers s) (Handle r) e = e
    by (numbers s) (Pointer p) e = e
    by handles (Number n) e = e
    by handles Null e = tt
    by handles (Handle r) e = let h = grows.regions in omega (arith, h, e)
    by handles (Pointer p) e = e
    by (pointers t) (Number n) e = e
    by (pointers t) Null e = tt
    by (pointers t) (Handle r) e = e
    by (pointers t) (Pointer p) e = record { count = e.count; there = grows.objects p.region p.object _ e.there; within = e.within }

pub keeps_grow : (image : Compared) (a b : Heap) → Grows a b → (s : Storage) (v : Value) → Keeps image a s v → Keeps image b s v
keeps_grow image a b grows s v is = record { kind = suits_grow image a b grows (operand_kind s) v is.kind; narrow = is.narrow }

pub suits_made : (image : Compared) (heap : Heap) (k : Kind) (v : Value) → HasKind image heap k v → IsMade heap v
suits_made image heap k v is = by k v is.suits
  where
    by : (k : Kind) (v : Value) → Suits image heap k v → IsMade heap v
    by k (Number n) e = tt
    by k Null e = tt
    by (numbers s) (Handle r) e = absurd e
    by handles (Handle r) e = e
    by (pointers t) (Handle r) e = absurd e
    by (numbers s) (Pointer p) e = absurd e
    by handles (Pointer p) e = absurd e
    by (pointers t) (Pointer p) e = there_is_made heap p.region p.object _ e.there

pub null_suits : (image : Compared) (heap : Heap) (k : Kind) → ((s : _) → k ≡ numbers s → ⊥) → HasKind image heap k Null
null_suits image heap (numbers s) not = absurd (not s refl)
null_suits image heap handles not = record { suits = tt }
null_suits image heap (pointers t) not = record { suits = tt }

pub made_grow : (a b : Heap) → Grows a b → (v : Value) → IsMade a v → IsMade b v
made_grow a b grows (Number n) e = tt
made_grow a b grows Null e = tt
made_grow a b grows (Handle r) e = let h = grows.regions in omega (arith, h, e)
made_grow a b grows (Pointer p) e = let h = grows.regions in omega (arith, h, e)

pub all_made_grow : (a b : Heap) → Grows a b → (vs : List Value) → Every (IsMade a) vs → Every (IsMade b) vs
all_made_grow a b grows vs all = every_more (IsMade a) (IsMade b) (made_grow a b grows) vs all

pub object_grows : (image : Compared) (a b : Heap) → Grows a b → (o : Object) → ObjectIsTyped image a o → ObjectIsTyped image b o
object_grows image a b grows o all = zip_more (Stored image a) (Stored image b) (λ kind v. keeps_grow image a b grows (storage_of image.code kind) v) (kinds_of o) o.values all

pub region_grows : (image : Compared) (a b : Heap) → Grows a b → (g : Region) → RegionIsTyped image a g → RegionIsTyped image b g
region_grows image a b grows g all = every_more (ObjectIsTyped image a) (ObjectIsTyped image b) (object_grows image a b grows) g.objects all

pub regions_grow : (image : Compared) (a b rest : Heap) → Grows a b → Every (RegionIsTyped image a) rest → Every (RegionIsTyped image b) rest
regions_grow image a b rest grows all = every_more (RegionIsTyped image a) (RegionIsTyped image b) (region_grows image a b grows) rest all

-- a blank object
pub blank_is_typed : (image : Compared) (heap : Heap) (layout : Layout) (count : ℕ) → ObjectIsTyped image heap (blank layout count)
blank_is_typed image heap layout zero = tt
blank_is_typed image heap layout (suc count) = zip_append (Stored image heap) layout _ (map blank_cell layout) _ (each layout) (blank_is_typed image heap layout count)
  where
    one : (kind : CellKind) → Stored image heap kind (blank_cell kind)
    one int_cell = record { kind = record { suits = λ _. refl }; narrow = tt }
    one unsigned_cell = record { kind = record { suits = λ _. refl }; narrow = tt }
    one char_cell = record { kind = record { suits = λ _. refl }; narrow = λ _. refl }
    one region_cell = record { kind = record { suits = tt }; narrow = tt }
    one (pointer_cell note target) = record { kind = record { suits = tt }; narrow = tt }

    each : (kinds : Layout) → AllZip (Stored image heap) kinds (map blank_cell kinds)
    each [] = tt
    each (kind ∷ kinds) = (one kind, each kinds)

-- where the objects of a region change and keep their layouts, or become more
pub update_there : (heap : Heap) (q : ℕ) (change : Region → Region)
    → ((o : ℕ) (shape : Shape) → shape_there heap q o ≡ Some shape → shape_in (slice_get (change (region_at heap q)).objects o) ≡ Some shape)
    → (r o : ℕ) (shape : Shape) → shape_there heap r o ≡ Some shape → shape_there (update heap q change) r o ≡ Some shape
update_there [] q change k r o shape e = e
update_there (g ∷ heap) zero change k zero o shape e = k o shape e
update_there (g ∷ heap) zero change k (suc r) o shape e = e
update_there (g ∷ heap) (suc q) change k zero o shape e = e
update_there (g ∷ heap) (suc q) change k (suc r) o shape e = update_there heap q change k r o shape e

pub length_update : {A : Type 0} (xs : List A) (i : ℕ) (change : A → A) → length (update xs i change) ≡ length xs
length_update [] i change = refl
length_update (x ∷ xs) zero change = refl
length_update (x ∷ xs) (suc i) change = ap suc (length_update xs i change)

pub grows_update : (heap : Heap) (q : ℕ) (change : Region → Region)
    → ((o : ℕ) (shape : Shape) → shape_there heap q o ≡ Some shape → shape_in (slice_get (change (region_at heap q)).objects o) ≡ Some shape)
    → Grows heap (update heap q change)
grows_update heap q change k = record { regions = let h = length_update heap q change in omega (arith, h); objects = update_there heap q change k }

pub append_there : (heap : Heap) (g : Region) (r o : ℕ) (shape : Shape) → shape_there heap r o ≡ Some shape → shape_there (heap ++ g ∷ []) r o ≡ Some shape
append_there [] g r zero shape e = cc
append_there [] g r (suc o) shape e = cc
append_there (x ∷ heap) g zero o shape e = e
append_there (x ∷ heap) g (suc r) o shape e = append_there heap g r o shape e

pub grows_append : (heap : Heap) (g : Region) → Grows heap (heap ++ g ∷ [])
grows_append heap g = record { regions = longer heap; objects = append_there heap g }
  where
    longer : (heap : Heap) → length heap ≤ length (heap ++ g ∷ [])
    longer [] = omega arith
    longer (x ∷ heap) = let h = longer heap in omega (arith, h)

pub object_appended : (os : List Object) (x : Object) (o : ℕ) (shape : Shape) → shape_in (slice_get os o) ≡ Some shape → shape_in (slice_get (os ++ x ∷ []) o) ≡ Some shape
object_appended [] x zero shape e = cc
object_appended [] x (suc o) shape e = cc
object_appended (y ∷ os) x zero shape e = e
object_appended (y ∷ os) x (suc o) shape e = object_appended os x o shape e

pub last_there : (os : List Object) (x : Object) → shape_in (slice_get (os ++ x ∷ []) (length os)) ≡ Some (shape_of x)
last_there [] x = refl
last_there (y ∷ os) x = last_there os x

pub object_updated : (os : List Object) (i : ℕ) (change : Object → Object) → ((x : Object) → shape_of (change x) ≡ shape_of x) → (o : ℕ) (shape : Shape) → shape_in (slice_get os o) ≡ Some shape → shape_in (slice_get (update os i change) o) ≡ Some shape
object_updated [] i change keeps o shape e = e
object_updated (x ∷ os) zero change keeps zero shape e = ap Some (keeps x) ∙ e
object_updated (x ∷ os) zero change keeps (suc o) shape e = e
object_updated (x ∷ os) (suc i) change keeps zero shape e = e
object_updated (x ∷ os) (suc i) change keeps (suc o) shape e = object_updated os i change keeps o shape e

-- one cell of one element
pub front_one : {B : Type 0} (R : CellKind → B → Type 0) (layout : Layout) (cell : ℕ) (v : B) → R (get_or layout cell int_cell) v → FrontZip R (drop cell layout) (v ∷ [])
front_one R [] zero v e = tt
front_one R [] (suc cell) v e = tt
front_one R (kind ∷ layout) zero v e = (e, tt)
front_one R (kind ∷ layout) (suc cell) v e = front_one R layout cell v e

here : (R : CellKind → Value → Type 0) (layout rest : Layout) (cell : ℕ) (vs : List Value) → AllZip R (layout ++ rest) vs → cell < length layout → R (get_or layout cell int_cell) (first_of (take 1 (drop cell vs)))
here R [] rest cell vs all below = absurd (omega (arith, below))
here R (kind ∷ layout) rest cell [] all below = absurd all
here R (kind ∷ layout) rest zero (v ∷ vs) all below = all.0
here R (kind ∷ layout) rest (suc cell) (v ∷ vs) all below = here R layout rest cell vs all.1 (omega (arith, below))

behind : (R : CellKind → Value → Type 0) (layout rest : Layout) (vs : List Value) → AllZip R (layout ++ rest) vs → AllZip R rest (drop (length layout) vs)
behind R [] rest vs all = all
behind R (kind ∷ layout) rest [] all = absurd all
behind R (kind ∷ layout) rest (v ∷ vs) all = behind R layout rest vs all.1

nothing : (k : ℕ) → [] ≡ drop {A = Value} k []
nothing zero = refl
nothing (suc k) = refl

drop_on : (n k : ℕ) (vs : List Value) → drop (n + k) vs ≡ drop k (drop n vs)
drop_on zero k vs = let e : 0 + k ≡ k = omega arith in ap (λ n. drop n vs) e
drop_on (suc n) k [] = let e : suc n + k ≡ suc (n + k) = omega arith in ap (λ m. drop m []) e ∙ nothing k
drop_on (suc n) k (v ∷ vs) = let e : suc n + k ≡ suc (n + k) = omega arith in ap (λ m. drop m (v ∷ vs)) e ∙ drop_on n k vs

pub element_zip : (R : CellKind → Value → Type 0) (layout : Layout) (count element cell : ℕ) (vs : List Value) → AllZip R (flat_map (λ layout. layout) (replicate count layout)) vs → element < count → cell < length layout
    → R (get_or layout cell int_cell) (first_of (take 1 (drop (element * length layout + cell) vs)))
element_zip R layout zero element cell vs all below inside = absurd (omega (arith, below))
element_zip R layout (suc count) zero cell vs all below inside =
    let e : 0 * length layout + cell ≡ cell = omega arith in
    subst (λ n. R (get_or layout cell int_cell) (first_of (take 1 (drop n vs)))) (sym e) (here R layout (flat_map (λ layout. layout) (replicate count layout)) cell vs all inside)
element_zip R layout (suc count) (suc element) cell vs all below inside =
    let e : suc element * length layout + cell ≡ length layout + (element * length layout + cell) = omega arith in
    subst (λ us. R (get_or layout cell int_cell) (first_of (take 1 us))) (sym (ap (λ n. drop n vs) e ∙ drop_on (length layout) (element * length layout + cell) vs))
    (element_zip R layout count element cell (drop (length layout) vs) (behind R layout (flat_map (λ layout. layout) (replicate count layout)) vs all) (omega (arith, below)) inside)
