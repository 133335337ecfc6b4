-- The first cell of an object that was just allocated, and a cell that was written.
use Rattle.std.proofs.Common.{◌≡◌, ◌∙◌, ◌+◌, ℕ, zero, suc, IsTrue, List, [], ◌∷◌, ◌++◌, length, get_or, set, Some, None, refl, sym, ap, subst, arith, length-append}
use Rattle.std.proofs.lemmas.Bool.{false≢true}
use Rattle.std.proofs.lemmas.List.{length-set, get_or-set_same}
use Rattle.rc_core.specs.declared.layouts.Kind.TheVariants.{Number as NumberKind, Region as RegionKind}
use Rattle.rc_core.specs.declared.ty.Note.TheVariants.{Plain}
use Rattle.rc_core.specs.Heap.{Value, Handle}
use Rattle.rc_store.specs.declared.cell.Place.{Place}
use Rattle.rc_store.specs.Kept.{KeptObject, KeptStore, Regions, blank}
use Rattle.rc_store.specs.Stores.{HasCell, HasPlace, IsLive, MayStand, allocated, at_place, cell_place, kind_at, live_in, no_object, object_with, objects_in, with_objects, written}
use Rattle.rc_store.specs.Values.{note_of, suits}

objects_here : (regions : Regions) (r : ℕ) (objects : List KeptObject) → IsTrue (live_in regions r) → objects_in (with_objects r objects regions) r ≡ objects
objects_here [] r objects live = absurd (false≢true live)
objects_here (None ∷ views) zero objects live = absurd (false≢true live)
objects_here (Some v ∷ views) zero objects live = refl
objects_here (v ∷ views) (suc r) objects live = objects_here views r objects live

live_still : (regions : Regions) (r q : ℕ) (objects : List KeptObject) → live_in (with_objects r objects regions) q ≡ live_in regions q
live_still [] r q objects = refl
live_still (None ∷ views) zero zero objects = refl
live_still (Some v ∷ views) zero zero objects = refl
live_still (v ∷ views) zero (suc q) objects = refl
live_still (v ∷ views) (suc r) zero objects = refl
live_still (v ∷ views) (suc r) (suc q) objects = live_still views r q objects

last_of : (objects : List KeptObject) (new : KeptObject) → get_or (objects ++ new ∷ []) (length objects) no_object ≡ new
last_of [] new = refl
last_of (o ∷ objects) new = last_of objects new

-- an object with one cell, which holds a region
module _ (s t : KeptStore) (r o : ℕ) (live : IsLive s r) (ok : t ≡ allocated r (RegionKind ∷ []) 1 s) (last : o ≡ length (objects_in s.regions r)) where
  abbrev first : Place
  first = record { pointer = record { region = r; object = o; index = 0 }; cell = 0 }

  abbrev own : List KeptObject
  own = objects_in s.regions r

  abbrev row : KeptObject
  row = blank (RegionKind ∷ []) 1

  objects_are : objects_in t.regions r ≡ own ++ row ∷ []
  objects_are = ap (λ (u : KeptStore). objects_in u.regions r) ok ∙ objects_here s.regions r (own ++ row ∷ []) live

  object_is : at_place t first ≡ row
  object_is = ap (λ (os : List KeptObject). get_or os o no_object) objects_are ∙ ap (λ i. get_or (own ++ row ∷ []) i no_object) last ∙ last_of own row

  still : (q : ℕ) → IsLive s q → IsLive t q
  still q l = ap (λ (u : KeptStore). live_in u.regions q) ok ∙ live_still s.regions r q (own ++ row ∷ []) ∙ l

  pub fresh_place : HasPlace t first
  fresh_place = record {
    live = still r live;
    object = (let e : length (objects_in t.regions r) ≡ length own + 1 = ap length objects_are ∙ length-append own (row ∷ []) in omega (arith, e, last));
    cell = subst (λ (x : KeptObject). HasCell x 0 0) (sym object_is) (record { element = omega arith; within = omega arith });
  }

  kind_is : kind_at t first ≡ RegionKind
  kind_is = ap (λ (x : KeptObject). get_or x.kinds (cell_place x 0 0) NumberKind) object_is

  pub fresh_plain : note_of (kind_at t first) ≡ Plain
  fresh_plain = ap note_of kind_is

  pub fresh_may : (target : ℕ) → IsLive s target → MayStand t first (Handle target)
  fresh_may target l = record { place = fresh_place; fresh = still target l; kind = ap (λ k. suits k (Handle target)) kind_is }

-- a place is one after it was written
pub written_place : (s t : KeptStore) (p : Place) (v : Value) → HasPlace s p → t ≡ written p v s → HasPlace t p
written_place s t p v has e =
    let r = p.pointer.region in
    let o = p.pointer.object in
    let own = objects_in s.regions r in
    let new = object_with p.pointer.index p.cell v (get_or own o no_object) in
    let objects : objects_in t.regions r ≡ set own o new = ap (λ (u : KeptStore). objects_in u.regions r) e ∙ objects_here s.regions r (set own o new) has.live in
    let object : at_place t p ≡ new = ap (λ (os : List KeptObject). get_or os o no_object) objects ∙ get_or-set_same own o new no_object has.object in
    record {
      live = ap (λ (u : KeptStore). live_in u.regions r) e ∙ live_still s.regions r r (set own o new) ∙ has.live;
      object = (let n = ap length objects ∙ length-set own o new in let h = has.object in omega (arith, n, h));
      cell = subst (λ (x : KeptObject). HasCell x p.pointer.index p.cell) (sym object) (record { element = has.cell.element; within = has.cell.within });
    }
