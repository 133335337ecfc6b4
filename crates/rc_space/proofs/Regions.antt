-- Regions as members and areas make them: who is live, whose parent is whose, and what a change of one does.
use Rattle.std.proofs.Common.{◌≡◌, ◌≢◌, ◌∙◌, ℕ, zero, suc, nat_eq, IsTrue, List, [], ◌∷◌, ◌++◌, Option, Some, None, set, refl, sym, ap, arith}
use Rattle.std.specs.Prelude.{◌||◌, ◌&&◌, not, option_map}
use Rattle.std.specs.List.{list_any}
use Rattle.std.proofs.lemmas.Bool.{false≢true}
use Rattle.std.proofs.lemmas.List.{map-append, map-set}
use Rattle.rc_core.specs.Heap.{is_above, is_above_within}
use Rattle.rc_store.specs.Kept.{KeptObject, KeptView, Regions}
use Rattle.rc_store.specs.Stores.{is_child, is_view, live_in, objects_in, or_none, parent_in, region_at, with_objects}
use Rattle.rc_store.proofs.Changed.{objects_set}
use Rattle.rc_slots.specs.Entries.{Member}
use Rattle.rc_areas.specs.Areas.{AreaState, objects_of}
use Rattle.rc_areas.specs.Shapes.{Shape}
use Rattle.rc_registry.specs.Registries.{IsMember, Members, has_child, is_member, member_at, member_in, or_root, parent_among}
use Rattle.rc_space.specs.Spaces.{area_at, regions_of, view_of}

-- each region is seen by its member
pub region_is : (areas : List AreaState) (shapes : List Shape) (ms : Members) (r : ℕ) → region_at (regions_of ms areas shapes) r ≡ option_map (view_of areas shapes) (member_at ms r)
region_is areas shapes [] r = refl
region_is areas shapes (m ∷ ms) zero = refl
region_is areas shapes (m ∷ ms) (suc r) = region_is areas shapes ms r

module _ (ms : Members) (areas : List AreaState) (shapes : List Shape) where
  abbrev regions : Regions
  regions = regions_of ms areas shapes

  live_member : (m : Option Member) → is_view (option_map (view_of areas shapes) m) ≡ is_member m
  live_member None = refl
  live_member (Some m) = refl

  pub live_is : (r : ℕ) → live_in regions r ≡ is_member (member_at ms r)
  live_is r = ap is_view (region_is areas shapes ms r) ∙ live_member (member_at ms r)

  pub member_live : (r : ℕ) → IsTrue (live_in regions r) → IsMember ms r
  member_live r live = sym (live_is r) ∙ live

  parent_member : (m : Option Member) → (or_none (option_map (view_of areas shapes) m)).parent ≡ (or_root m).parent
  parent_member None = refl
  parent_member (Some m) = refl

  pub parent_is : (r : ℕ) → parent_in regions r ≡ parent_among ms r
  parent_is r = ap (λ v. (or_none v).parent) (region_is areas shapes ms r) ∙ parent_member (member_at ms r)

  view_member : (m : Option Member) → IsTrue (is_member m) → option_map (view_of areas shapes) m ≡ Some (view_of areas shapes (or_root m))
  view_member None live = absurd (false≢true live)
  view_member (Some m) live = refl

  pub view_is : (r : ℕ) → IsMember ms r → region_at regions r ≡ Some (view_of areas shapes (member_in ms r))
  view_is r live = region_is areas shapes ms r ∙ view_member (member_at ms r) live

  pub objects_are : (r : ℕ) → IsMember ms r → objects_in regions r ≡ objects_of shapes (area_at areas (member_in ms r).slot)
  objects_are r live = ap (λ v. (or_none v).objects) (view_is r live)

  above_is : (steps a b : ℕ) → is_above_within (parent_in regions) steps a b ≡ is_above_within (parent_among ms) steps a b
  above_is zero a b = refl
  above_is (suc steps) a b = ap (λ p. nat_eq a b || (not (nat_eq b 0) && is_above_within (parent_in regions) steps a p)) (parent_is b) ∙ ap (λ t. nat_eq a b || (not (nat_eq b 0) && t)) (above_is steps a (parent_among ms b))

  pub is_above_is : (a b : ℕ) → is_above (parent_in regions) a b ≡ is_above (parent_among ms) a b
  is_above_is a b = above_is b a b

pub child_is : (areas : List AreaState) (shapes : List Shape) (ms : Members) (r : ℕ) → list_any (is_child r) (regions_of ms areas shapes) ≡ has_child ms r
child_is areas shapes [] r = refl
child_is areas shapes (None ∷ ms) r = child_is areas shapes ms r
child_is areas shapes (Some m ∷ ms) r = ap (λ b. nat_eq m.parent r || b) (child_is areas shapes ms r)

-- other areas and shapes, and the same objects
pub regions_same : (areas new : List AreaState) (shapes shapes_new : List Shape) (ms : Members)
    → ((n : ℕ) → IsMember ms n → objects_of shapes_new (area_at new (member_in ms n).slot) ≡ objects_of shapes (area_at areas (member_in ms n).slot))
    → regions_of ms new shapes_new ≡ regions_of ms areas shapes
regions_same areas new shapes shapes_new [] same = refl
regions_same areas new shapes shapes_new (None ∷ ms) same = ap (λ vs. None ∷ vs) (regions_same areas new shapes shapes_new ms (λ n. same (suc n)))
regions_same areas new shapes shapes_new (Some m ∷ ms) same =
    ap (λ (os : List KeptObject). let v : KeptView = record { parent = m.parent; objects = os } in Some v ∷ regions_of ms new shapes_new) (same zero refl)
    ∙ ap (λ vs. Some (view_of areas shapes m) ∷ vs) (regions_same areas new shapes shapes_new ms (λ n. same (suc n)))

-- one region has other objects
pub regions_set : (areas new : List AreaState) (shapes shapes_new : List Shape) (ms : Members) (r : ℕ) → IsMember ms r
    → ((n : ℕ) → IsMember ms n → n ≢ r → objects_of shapes_new (area_at new (member_in ms n).slot) ≡ objects_of shapes (area_at areas (member_in ms n).slot))
    → regions_of ms new shapes_new ≡ set (regions_of ms areas shapes) r (Some (view_of new shapes_new (member_in ms r)))
regions_set areas new shapes shapes_new [] r live same = absurd (false≢true live)
regions_set areas new shapes shapes_new (None ∷ ms) zero live same = absurd (false≢true live)
regions_set areas new shapes shapes_new (Some m ∷ ms) zero live same = ap (λ vs. Some (view_of new shapes_new m) ∷ vs) (regions_same areas new shapes shapes_new ms (λ n there. same (suc n) there (λ e. absurd (omega (arith, e)))))
regions_set areas new shapes shapes_new (None ∷ ms) (suc r) live same = ap (λ vs. None ∷ vs) (regions_set areas new shapes shapes_new ms r live (λ n there apart. same (suc n) there (λ e. apart (omega (arith, e)))))
regions_set areas new shapes shapes_new (Some m ∷ ms) (suc r) live same =
    ap (λ (os : List KeptObject). let v : KeptView = record { parent = m.parent; objects = os } in Some v ∷ regions_of ms new shapes_new) (same zero refl (λ e. absurd (omega (arith, e))))
    ∙ ap (λ vs. Some (view_of areas shapes m) ∷ vs) (regions_set areas new shapes shapes_new ms r live (λ n there apart. same (suc n) there (λ e. apart (omega (arith, e)))))

pub regions_changed : (areas new : List AreaState) (shapes shapes_new : List Shape) (ms : Members) (r : ℕ) (objects : List KeptObject) → IsMember ms r
    → ((n : ℕ) → IsMember ms n → n ≢ r → objects_of shapes_new (area_at new (member_in ms n).slot) ≡ objects_of shapes (area_at areas (member_in ms n).slot))
    → objects_of shapes_new (area_at new (member_in ms r).slot) ≡ objects
    → regions_of ms new shapes_new ≡ with_objects r objects (regions_of ms areas shapes)
regions_changed areas new shapes shapes_new ms r objects live same is =
    regions_set areas new shapes shapes_new ms r live same
    ∙ ap (λ (os : List KeptObject). let v : KeptView = record { parent = parent_among ms r; objects = os } in set (regions_of ms areas shapes) r (Some v)) is
    ∙ ap (λ p. let v : KeptView = record { parent = p; objects = objects } in set (regions_of ms areas shapes) r (Some v)) (sym (parent_is ms areas shapes r))
    ∙ sym (objects_set r objects (regions_of ms areas shapes) (live_is ms areas shapes r ∙ live))

-- one more, and one less
pub regions_more : (areas : List AreaState) (shapes : List Shape) (ms : Members) (m : Member) → regions_of (ms ++ Some m ∷ []) areas shapes ≡ regions_of ms areas shapes ++ Some (view_of areas shapes m) ∷ []
regions_more areas shapes ms m = map-append (option_map (view_of areas shapes)) ms (Some m ∷ [])

pub regions_less : (areas : List AreaState) (shapes : List Shape) (ms : Members) (r : ℕ) → regions_of (set ms r None) areas shapes ≡ set (regions_of ms areas shapes) r None
regions_less areas shapes ms r = map-set (option_map (view_of areas shapes)) ms r None
