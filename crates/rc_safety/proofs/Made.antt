-- A new region, last of those that were made.
use Rattle.std.proofs.Common.{◌≡◌, ℕ, zero, suc, ◌<◌, true, [], ◌∷◌, ◌++◌, length, refl, sym, ap, ◌∙◌, subst, ◌⊎◌, inl, inr, arith}
use Rattle.rc_core.specs.Layout.{note_of}
use Rattle.rc_core.specs.Heap.{Region, Heap, region_at, live, parent}
use Rattle.rc_safety.proofs.Lists.{every_more, zip_more}
use Rattle.rc_safety.specs.Soundness.{CellIsSound, ObjectIsSound, RegionIsSound, EachIsSound, HeapIsSound}
use Rattle.rc_safety.proofs.Heaps.{NoneDies, fresh_stays, fits_same, parent_is_live}

-- a live region was made
pub live_is_made : (heap : Heap) (r : ℕ) → live heap r ≡ true → r < length heap
live_is_made [] r l = cc
live_is_made (g ∷ heap) zero l = omega arith
live_is_made (g ∷ heap) (suc r) l = let below = live_is_made heap r l in omega (arith, below)

-- those before it are as they were
pub made_before : (heap : Heap) (g : Region) (r : ℕ) → r < length heap → region_at (heap ++ g ∷ []) r ≡ region_at heap r
made_before [] g r below = absurd (omega (arith, below))
made_before (x ∷ heap) g zero below = refl
made_before (x ∷ heap) g (suc r) below = made_before heap g r (omega (arith, below))

pub made_last : (heap : Heap) (g : Region) → region_at (heap ++ g ∷ []) (length heap) ≡ g
made_last [] g = refl
made_last (x ∷ heap) g = made_last heap g

-- a live region is one of those before, or the last
old_or_last : (heap : Heap) (g : Region) (r : ℕ) → live (heap ++ g ∷ []) r ≡ true → (live heap r ≡ true) ⊎ (r ≡ length heap)
old_or_last [] g zero l = inr refl
old_or_last [] g (suc r) l = cc
old_or_last (x ∷ heap) g zero l = inl l
old_or_last (x ∷ heap) g (suc r) l = one (old_or_last heap g r l)
  where
    one : (live heap r ≡ true) ⊎ (r ≡ length heap) → (live heap r ≡ true) ⊎ (suc r ≡ length (x ∷ heap))
    one (inl old) = inl old
    one (inr last) = inr (ap suc last)

abbrev pub new_region : ℕ → Region
new_region p = record { parent = p; alive = true; objects = [] }

pub none_dies_made : (heap : Heap) (p : ℕ) → NoneDies (live heap) (live (heap ++ new_region p ∷ []))
none_dies_made heap p r l = ap (λ (g : Region). g.alive) (made_before heap (new_region p) r (live_is_made heap r l)) ∙ l

pub last_is_live : (heap : Heap) (p : ℕ) → live (heap ++ new_region p ∷ []) (length heap) ≡ true
last_is_live heap p = ap (λ (g : Region). g.alive) (made_last heap (new_region p))

pub made_sound : (heap : Heap) (p : ℕ) → HeapIsSound heap → live heap p ≡ true → HeapIsSound (heap ++ new_region p ∷ [])
made_sound heap p sound lp = record { root = more 0 sound.root; regions = each }
  where
    heap1 : Heap
    heap1 = heap ++ new_region p ∷ []

    more : NoneDies (live heap) (live heap1)
    more = none_dies_made heap p

    same : (r : ℕ) → live heap r ≡ true → parent heap1 r ≡ parent heap r
    same r l = ap (λ (g : Region). g.parent) (made_before heap (new_region p) r (live_is_made heap r l))

    old : (r : ℕ) → live heap r ≡ true → RegionIsSound (live heap1) (parent heap1) r (region_at heap r)
    old r l =
        let was = sound.regions r l in
        record {
          parent_lives = more (parent heap r) was.parent_lives;
          made_later = was.made_later;
          objects = every_more (ObjectIsSound (live heap) (parent heap) r) (ObjectIsSound (live heap1) (parent heap1) r) (λ o. zip_more (CellIsSound (live heap) (parent heap) r) (CellIsSound (live heap1) (parent heap1) r) (λ kind v cell. record {
            fresh = fresh_stays (live heap) (live heap1) more v cell.fresh;
            fit = fits_same (live heap) (parent heap) (parent heap1) (parent_is_live heap sound) same (note_of kind) r v l ∙ cell.fit;
          }) _ o.values) (region_at heap r).objects was.objects;
        }

    one : (r : ℕ) → (live heap r ≡ true) ⊎ (r ≡ length heap) → RegionIsSound (live heap1) (parent heap1) r (region_at heap1 r)
    one r (inl l) = subst (RegionIsSound (live heap1) (parent heap1) r) (sym (made_before heap (new_region p) r (live_is_made heap r l))) (old r l)
    one r (inr last) =
        subst (λ i. RegionIsSound (live heap1) (parent heap1) i (region_at heap1 i)) (sym last)
        (subst (RegionIsSound (live heap1) (parent heap1) (length heap)) (sym (made_last heap (new_region p))) (record { parent_lives = more p lp; made_later = λ e. live_is_made heap p lp; objects = tt }))

    each : EachIsSound (live heap1) (parent heap1) heap1
    each r l = one r (old_or_last heap (new_region p) r l)
