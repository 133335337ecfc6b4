-- What is fresh and what fits, where lives and parents change; and a region that is changed in place.
use Rattle.std.proofs.Common.{◌≡◌, ℕ, zero, suc, Bool, true, false, ◌||◌, ◌&&◌, not, List, [], ◌∷◌, nat_eq, refl, ap, ◌∙◌, rules}
use Rattle.std.proofs.Math.Path.{fun_ext}
use Rattle.std.specs.List.{AllByRecursion as Every}
use Rattle.rc_core.specs.declared.ty.Note.{Note}
use Rattle.rc_core.specs.declared.ty.Note.TheVariants.{Plain, SameRegion, ParentPtr, Traditional}
use Rattle.rc_core.specs.Heap.{Value, Number, Null, Handle, Pointer, Region, Heap, region_at, live, parent, update, of_region, is_above_within, fits}
use Rattle.rc_safety.specs.Soundness.{IsFresh, HeapIsSound}
use Rattle.rc_safety.proofs.Lists.{every_more}

-- each region that was alive still is
abbrev pub NoneDies : (before after : ℕ → Bool) → Type 0
NoneDies before after = (r : ℕ) → before r ≡ true → after r ≡ true

-- then what was fresh is fresh
pub fresh_stays : (before after : ℕ → Bool) → NoneDies before after → (v : Value) → IsFresh before v → IsFresh after v
fresh_stays before after stays (Number n) e = refl
fresh_stays before after stays Null e = refl
fresh_stays before after stays (Handle r) e = stays r e
fresh_stays before after stays (Pointer a) e = stays a.region e

pub all_fresh_stay : (before after : ℕ → Bool) → NoneDies before after → (vs : List Value) → Every (IsFresh before) vs → Every (IsFresh after) vs
all_fresh_stay before after stays vs all = every_more (IsFresh before) (IsFresh after) (fresh_stays before after stays) vs all

-- what is above a live region depends on the parents of live regions alone
pub above_same : (live : ℕ → Bool) (parent parent1 : ℕ → ℕ) → ((r : ℕ) → live r ≡ true → live (parent r) ≡ true) → ((r : ℕ) → live r ≡ true → parent1 r ≡ parent r)
    → (steps a b : ℕ) → live b ≡ true → is_above_within parent1 steps a b ≡ is_above_within parent steps a b
above_same live parent parent1 up same zero a b l = refl
above_same live parent parent1 up same (suc steps) a b l =
    ap (λ above. nat_eq a b || (not (nat_eq b 0) && above)) (ap (is_above_within parent1 steps a) (same b l) ∙ above_same live parent parent1 up same steps a (parent b) (up b l))

pub fits_same : (live : ℕ → Bool) (parent parent1 : ℕ → ℕ) → ((r : ℕ) → live r ≡ true → live (parent r) ≡ true) → ((r : ℕ) → live r ≡ true → parent1 r ≡ parent r)
    → (note : Note) (holder : ℕ) (v : Value) → live holder ≡ true → fits parent1 note holder v ≡ fits parent note holder v
fits_same live parent parent1 up same Plain holder v l = refl
fits_same live parent parent1 up same SameRegion holder v l = refl
fits_same live parent parent1 up same ParentPtr holder v l = ap (λ holds. of_region true holds v) (fun_ext (λ r. above_same live parent parent1 up same holder r holder l))
fits_same live parent parent1 up same Traditional holder v l = refl

pub null_fits : (parent : ℕ → ℕ) (note : Note) (holder : ℕ) → fits parent note holder Null ≡ true
null_fits parent Plain holder = refl
null_fits parent SameRegion holder = refl
null_fits parent ParentPtr holder = refl
null_fits parent Traditional holder = refl

pub parent_is_live : (heap : Heap) → HeapIsSound heap → (r : ℕ) → live heap r ≡ true → live heap (parent heap r) ≡ true
parent_is_live heap sound r l = (sound.regions r l).parent_lives

-- a region that is changed in place
pub region_elsewhere : (heap : Heap) (r q : ℕ) (change : Region → Region) → nat_eq q r ≡ false → region_at (update heap r change) q ≡ region_at heap q
region_elsewhere [] r q change apart = refl
region_elsewhere (g ∷ heap) zero zero change apart = cc
region_elsewhere (g ∷ heap) zero (suc q) change apart = refl
region_elsewhere (g ∷ heap) (suc r) zero change apart = refl
region_elsewhere (g ∷ heap) (suc r) (suc q) change apart = region_elsewhere heap r q change (search rules)

pub region_there : (heap : Heap) (r : ℕ) (change : Region → Region) → live heap r ≡ true → region_at (update heap r change) r ≡ change (region_at heap r)
region_there [] r change l = cc
region_there (g ∷ heap) zero change l = refl
region_there (g ∷ heap) (suc r) change l = region_there heap r change l

-- a change that keeps it alive or dead, and its parent
pub live_same : (heap : Heap) (r : ℕ) (change : Region → Region) → ((g : Region) → (change g).alive ≡ g.alive) → live (update heap r change) ≡ live heap
live_same heap r change keeps = fun_ext (λ q. same heap r q)
  where
    same : (heap : Heap) (r q : ℕ) → live (update heap r change) q ≡ live heap q
    same [] r q = refl
    same (g ∷ heap) zero zero = keeps g
    same (g ∷ heap) zero (suc q) = refl
    same (g ∷ heap) (suc r) zero = refl
    same (g ∷ heap) (suc r) (suc q) = same heap r q

pub parent_same : (heap : Heap) (r : ℕ) (change : Region → Region) → ((g : Region) → (change g).parent ≡ g.parent) → parent (update heap r change) ≡ parent heap
parent_same heap r change keeps = fun_ext (λ q. same heap r q)
  where
    same : (heap : Heap) (r q : ℕ) → parent (update heap r change) q ≡ parent heap q
    same [] r q = refl
    same (g ∷ heap) zero zero = keeps g
    same (g ∷ heap) zero (suc q) = refl
    same (g ∷ heap) (suc r) zero = refl
    same (g ∷ heap) (suc r) (suc q) = same heap r q
