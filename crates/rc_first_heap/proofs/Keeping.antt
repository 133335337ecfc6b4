-- Reading and changing what is kept.
use Rattle.std.proofs.Common.{◌≡◌, ◌<◌, ◌+◌, ◌-◌, ◌*◌, ◌∙◌, ℕ, zero, suc, List, [], ◌∷◌, ◌++◌, length, take, map, set, get_or, replicate, Option, Some, None, refl, sym, ap, arith}
use Rattle.std.specs.Prelude.{◌||◌, flat_map, option_map}
use Rattle.std.specs.List.{list_any}
use Rattle.std.proofs.lemmas.List.{get_or-append-add, get_or_append_left, length-map, map-append}
use native.Mathlib.Nat.{zero-mul, suc-mul}
use mathlib.Core.Path.{fun_ext}
use Rattle.rc_core.specs.declared.layouts.Kind.TheVariants.{Number as NumberKind}
use Rattle.rc_core.specs.Types.{CellKind, int_cell, unsigned_cell, char_cell, region_cell, pointer_cell}
use Rattle.rc_core.specs.Layout.{Layout}
use Rattle.rc_core.specs.Layout.{note_of as cell_note_of}
use Rattle.rc_core.specs.Laid.{held_kind}
use Rattle.rc_core.specs.Heap.{Null, Object, Value, blank, fits, is_fresh, no_object, update}
use Rattle.rc_core.specs.Heap.{kinds_of as cells_of}
use Rattle.rc_core.specs.Source.{overwritten, place_of}
use Rattle.rc_core.specs.Store.{Store, View}
use Rattle.rc_code.specs.StoreModel as Model
use Rattle.rc_store.specs.declared.cell.Place.{Place}
use Rattle.rc_store.specs.Kept.{KeptObject, KeptStore, KeptView, kept_object, kept_store, kept_view}
use Rattle.rc_store.specs.Kept.{blank as kept_blank}
use Rattle.rc_store.specs.Laws.{KeepsTheStore}
use Rattle.rc_store.specs.Stores as Kept
use Rattle.rc_store.specs.Stores.{HasCell, HasPlace}
use Rattle.rc_store.specs.Values.{note_of}
use Rattle.rc_first_heap.specs.Laws.{ChangesTheStore, ShowsTheStore, spot_of}

-- a list that is mapped is read as the other, and changed as the other
read_map : {A B : Type 0} (f : A → B) (xs : List A) (i : ℕ) (d : A) → get_or (map f xs) i (f d) ≡ f (get_or xs i d)
read_map f [] i d = refl
read_map f (x ∷ xs) zero d = refl
read_map f (x ∷ xs) (suc i) d = read_map f xs i d

set_map : {A B : Type 0} (f : A → B) (xs : List A) (i : ℕ) (d : A) (change : A → A) (y : B) → y ≡ f (change (get_or xs i d)) → set (map f xs) i y ≡ map f (update xs i change)
set_map f [] i d change y is = refl
set_map f (x ∷ xs) zero d change y is = ap (λ z. z ∷ map f xs) is
set_map f (x ∷ xs) (suc i) d change y is = ap (λ zs. f x ∷ zs) (set_map f xs i d change y is)

region_kept : (views : List (Option View)) (r : ℕ) → Kept.region_at (map (option_map kept_view) views) r ≡ option_map kept_view (get_or views r None)
region_kept [] r = refl
region_kept (v ∷ views) zero = refl
region_kept (v ∷ views) (suc r) = region_kept views r

live_kept : (v : Option View) → Kept.is_view (option_map kept_view v) ≡ Model.is_view v
live_kept None = refl
live_kept (Some v) = refl

parent_kept : (v : Option View) → (Kept.or_none (option_map kept_view v)).parent ≡ (Model.or_none v).parent
parent_kept None = refl
parent_kept (Some v) = refl

objects_kept : (v : Option View) → (Kept.or_none (option_map kept_view v)).objects ≡ map kept_object (Model.or_none v).objects
objects_kept None = refl
objects_kept (Some v) = refl

note_kept : (k : CellKind) → note_of (held_kind k) ≡ cell_note_of k
note_kept int_cell = refl
note_kept unsigned_cell = refl
note_kept char_cell = refl
note_kept region_cell = refl
note_kept (pointer_cell note target) = refl

-- the cells of an element stand there again and again
kind_again : (n index cell : ℕ) (ks : Layout) (d : CellKind) → index < n → cell < length ks → get_or (flat_map (λ k. k) (replicate n ks)) (index * length ks + cell) d ≡ get_or ks cell d
kind_again zero index cell ks d element within = absurd (omega (arith, element))
kind_again (suc n) zero cell ks d element within =
    let here : zero * length ks + cell ≡ cell = omega (arith, zero-mul (length ks)) in
    ap (λ m. get_or (ks ++ flat_map (λ k. k) (replicate n ks)) m d) here
    ∙ get_or_append_left ks (flat_map (λ k. k) (replicate n ks)) d cell within
kind_again (suc n) (suc index) cell ks d element within =
    let on : suc index * length ks + cell ≡ length ks + (index * length ks + cell) = omega (arith, suc-mul index (length ks)) in
    ap (λ m. get_or (ks ++ flat_map (λ k. k) (replicate n ks)) m d) on
    ∙ get_or-append-add ks (flat_map (λ k. k) (replicate n ks)) (index * length ks + cell) d
    ∙ kind_again n index cell ks d (omega (arith, element)) within

child_kept : (r : ℕ) (views : List (Option View)) → list_any (Kept.is_child r) (map (option_map kept_view) views) ≡ list_any (Model.is_child r) views
child_kept r [] = refl
child_kept r (None ∷ views) = child_kept r views
child_kept r (Some v ∷ views) = ap (λ b. Kept.is_child r (Some (kept_view v)) || b) (child_kept r views)

module _ (s : Store) where
  objects_are : (r : ℕ) → Kept.objects_in (kept_store s).regions r ≡ map kept_object (Model.view s r).objects
  objects_are r = ap (λ v. (Kept.or_none v).objects) (region_kept s.regions r) ∙ objects_kept (get_or s.regions r None)

  object_is : (r o : ℕ) → Kept.object_in (kept_store s).regions r o ≡ kept_object (Model.object_in s r o)
  object_is r o = ap (λ os. get_or os o Kept.no_object) (objects_are r) ∙ read_map kept_object (Model.view s r).objects o no_object

  note_is : (p : Place) → HasPlace (kept_store s) p → note_of (Kept.kind_at (kept_store s) p) ≡ cell_note_of (Model.kind_in s (spot_of p))
  note_is p has =
      let o = Model.object_in s p.pointer.region p.pointer.object in
      let is = object_is p.pointer.region p.pointer.object in
      let element : p.pointer.index < o.count = omega (arith, has.cell.element, ap (λ (k : KeptObject). k.count) is) in
      let within : p.cell < length o.layout = omega (arith, has.cell.within, ap (λ (k : KeptObject). k.size) is) in
      ap (λ (k : KeptObject). note_of (get_or k.kinds (p.pointer.index * k.size + p.cell) NumberKind)) is
      ∙ ap note_of (read_map held_kind (cells_of o) (p.pointer.index * length o.layout + p.cell) int_cell)
      ∙ ap (λ k. note_of (held_kind k)) (kind_again o.count p.pointer.index p.cell o.layout int_cell element within)
      ∙ note_kept (get_or o.layout p.cell int_cell)

pub shows_the_store : ShowsTheStore
shows_the_store = record {
  live = λ s r. ap Kept.is_view (region_kept s.regions r) ∙ live_kept (get_or s.regions r None);
  parent = λ s r. ap (λ v. (Kept.or_none v).parent) (region_kept s.regions r) ∙ parent_kept (get_or s.regions r None);
  objects = λ s r. ap length (objects_are s r) ∙ length-map (Model.view s r).objects kept_object;
  elements = λ s r o. ap (λ (k : KeptObject). k.count) (object_is s r o);
  size = λ s r o. ap (λ (k : KeptObject). k.size) (object_is s r o);
  value = λ s p. ap (λ (k : KeptObject). get_or k.values (p.pointer.index * k.size + p.cell) Null) (object_is s p.pointer.region p.pointer.object);
  note = note_is;
  fresh = λ s v. ap (λ live. is_fresh live v) (fun_ext (λ r. ap Kept.is_view (region_kept s.regions r) ∙ live_kept (get_or s.regions r None)));
  fits = λ s note holder v. ap (λ parent. fits parent note holder v) (fun_ext (λ r. ap (λ o. (Kept.or_none o).parent) (region_kept s.regions r) ∙ parent_kept (get_or s.regions r None)));
  child = λ s r. child_kept r s.regions;
}

overwritten_nothing : (vs : List Value) → overwritten 0 [] vs ≡ vs
overwritten_nothing [] = refl
overwritten_nothing (v ∷ vs) = refl

overwritten_one : (at : ℕ) (v : Value) (vs : List Value) → overwritten at (v ∷ []) vs ≡ set vs at v
overwritten_one at v [] = refl
overwritten_one zero v (u ∷ vs) = ap (λ ws. v ∷ ws) (overwritten_nothing vs)
overwritten_one (suc at) v (u ∷ vs) = ap (λ ws. u ∷ ws) (overwritten_one at v vs)

front_of_one : (n : ℕ) (v : Value) → 0 < n → take n (v ∷ []) ≡ v ∷ []
front_of_one zero v some = absurd (omega (arith, some))
front_of_one (suc zero) v some = refl
front_of_one (suc (suc n)) v some = refl

object_changed : (o : Object) (p : Place) (v : Value) → p.cell < length o.layout
    → Kept.object_with p.pointer.index p.cell v (kept_object o) ≡ kept_object (record o { values = overwritten (place_of o (spot_of p)) (take (length o.layout - p.cell) (v ∷ [])) o.values })
object_changed o p v within =
    ap (λ vs. let k : KeptObject = record { size = length o.layout; count = o.count; kinds = map held_kind (cells_of o); values = vs } in k)
    (sym (ap (λ us. overwritten (place_of o (spot_of p)) us o.values) (front_of_one (length o.layout - p.cell) v (omega (arith, within))) ∙ overwritten_one (place_of o (spot_of p)) v o.values))

-- a region has other objects, if it is live
views_changed : (views : List (Option View)) (r : ℕ) (change : List Object → List Object) (objects : List KeptObject) → objects ≡ map kept_object (change (Model.or_none (get_or views r None)).objects)
    → Kept.with_objects r objects (map (option_map kept_view) views) ≡ map (option_map kept_view) (update views r (Model.changed_view change))
views_changed [] r change objects is = refl
views_changed (None ∷ views) zero change objects is = refl
views_changed (Some v ∷ views) zero change objects is = ap (λ os. let k : KeptView = record { parent = v.parent; objects = os } in Some k ∷ map (option_map kept_view) views) is
views_changed (v ∷ views) (suc r) change objects is = ap (λ vs. option_map kept_view v ∷ vs) (views_changed views r change objects is)

pub changes_the_store : KeepsTheStore → ChangesTheStore
changes_the_store keeps = record {
  made = λ s parent. ap (λ rs. let k : KeptStore = record (kept_store s) { regions = rs } in k) (sym (map-append (option_map kept_view) s.regions (Some (record { parent = parent; objects = [] }) ∷ [])));
  allocated = λ s r n layout.
      ap (λ rs. let k : KeptStore = record (kept_store s) { regions = rs } in k)
      (views_changed s.regions r (λ os. os ++ blank layout n ∷ []) _
      (ap (λ os. os ++ kept_blank (map held_kind layout) n ∷ []) (objects_are s r)
      ∙ ap (λ o. map kept_object (Model.view s r).objects ++ o ∷ []) (sym (keeps.blanks layout n))
      ∙ sym (map-append kept_object (Model.view s r).objects (blank layout n ∷ []))));
  written = λ s p v has.
      let is = object_is s p.pointer.region p.pointer.object in
      let within : p.cell < length (Model.object_in s p.pointer.region p.pointer.object).layout = omega (arith, has.cell.within, ap (λ (k : KeptObject). k.size) is) in
      ap (λ rs. let k : KeptStore = record (kept_store s) { regions = rs } in k)
      (views_changed s.regions p.pointer.region (λ os. update os p.pointer.object (λ o. record o { values = overwritten (place_of o (spot_of p)) (take (length o.layout - p.cell) (v ∷ [])) o.values })) _
      (ap (λ os. set os p.pointer.object (Kept.object_with p.pointer.index p.cell v (get_or os p.pointer.object Kept.no_object))) (objects_are s p.pointer.region)
      ∙ set_map kept_object (Model.view s p.pointer.region).objects p.pointer.object no_object (λ o. record o { values = overwritten (place_of o (spot_of p)) (take (length o.layout - p.cell) (v ∷ [])) o.values }) _
      (ap (Kept.object_with p.pointer.index p.cell v) (read_map kept_object (Model.view s p.pointer.region).objects p.pointer.object no_object) ∙ object_changed (Model.object_in s p.pointer.region p.pointer.object) p v within)));
  deleted = λ s r. ap (λ rs. let k : KeptStore = record (kept_store s) { regions = rs } in k) (set_map (option_map kept_view) s.regions r None (λ v. None) None refl);
}
