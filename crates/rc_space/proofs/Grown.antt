-- A space after a change: one more region, more shapes, and another area.
use Rattle.std.proofs.Common.{◌≡◌, ◌≢◌, ◌+◌, ◌∙◌, ◌⊎◌, inl, inr, ℕ, zero, suc, List, [], ◌∷◌, ◌++◌, Option, Some, None, cond, length, length-append, set, refl, sym, ap, subst, get_or-set_other}
use Rattle.std.proofs.lemmas.Bool.{cases_Bool, cases_eq, false≢true}
use Rattle.rc_slots.specs.Entries.{Member}
use Rattle.rc_store.specs.Kept.{KeptObject}
use Rattle.rc_store.specs.Stores.{with_objects}
use Rattle.rc_areas.specs.Areas.{AreaState, IsLaid, objects_of}
use Rattle.rc_areas.specs.Shapes.{Shape, has_shape, with_shape}
use Rattle.rc_areas.proofs.Objects.{laid_kept, objects_kept, sizes_kept}
use Rattle.rc_registry.specs.Registries.{IsMember, Members, is_member, member_at, member_in, or_root}
use Rattle.rc_space.specs.Spaces.{AreFreed, IsBeside, IsSpace, area_at, no_area, regions_of, view_of}
use Rattle.rc_space.proofs.Regions.{regions_changed, regions_more, regions_same}

-- a shape more
more_laid : (shapes more : List Shape) (a : AreaState) → IsLaid shapes a → IsLaid (shapes ++ more) a
more_laid shapes more a laid = record {
  heads = laid_kept shapes more a.heads 0 laid.heads;
  cells = laid.cells ∙ sym (sizes_kept shapes more a.heads 0 laid.heads);
}

pub shape_laid : (shapes : List Shape) (shape : Shape) (a : AreaState) → IsLaid shapes a → IsLaid (with_shape shape shapes) a
shape_laid shapes shape a laid = elim (cases_Bool (has_shape shape shapes)) [
  | inl there ↦ subst (λ b. IsLaid (cond b shapes (shapes ++ shape ∷ [])) a) (sym there) laid
  | inr fresh ↦ subst (λ b. IsLaid (cond b shapes (shapes ++ shape ∷ [])) a) (sym fresh) (more_laid shapes (shape ∷ []) a laid)
]

pub shape_objects : (shapes : List Shape) (shape : Shape) (a : AreaState) → IsLaid shapes a → objects_of (with_shape shape shapes) a ≡ objects_of shapes a
shape_objects shapes shape a laid = elim (cases_Bool (has_shape shape shapes)) [
  | inl there ↦ ap (λ b. objects_of (cond b shapes (shapes ++ shape ∷ [])) a) there
  | inr fresh ↦ ap (λ b. objects_of (cond b shapes (shapes ++ shape ∷ [])) a) fresh ∙ objects_kept shapes (shape ∷ []) a.heads 0 a.codes laid.heads
]

-- one area is another
pub space_beside : (slots slot : ℕ) (areas new : List AreaState) (shapes shapes_new : List Shape) → IsSpace slots areas shapes → IsBeside slot areas new → ((a : AreaState) → IsLaid shapes a → IsLaid shapes_new a) → IsLaid shapes_new (area_at new slot) → IsSpace slots new shapes_new
space_beside slots slot areas new shapes shapes_new space beside kept laid = record {
  count = beside.count ∙ space.count;
  laid = λ s. elim (cases_eq s slot) [
    | inl same ↦ subst (λ k. IsLaid shapes_new (area_at new k)) (sym same) laid
    | inr apart ↦ subst (IsLaid shapes_new) (sym (beside.others s apart)) (kept (area_at areas s) (space.laid s))
  ];
}

pub empty_laid : (shapes : List Shape) → IsLaid shapes no_area
empty_laid shapes = record { heads = tt; cells = refl }

-- one region more, at a slot of its own
pub regions_added : (ms : Members) (areas new : List AreaState) (shapes : List Shape) (slot parent : ℕ) → ((n : ℕ) → IsMember ms n → (member_in ms n).slot ≢ slot) → ((s : ℕ) → s ≢ slot → area_at new s ≡ area_at areas s) → area_at new slot ≡ no_area
    → regions_of (ms ++ Some (record { slot = slot; parent = parent }) ∷ []) new shapes ≡ regions_of ms areas shapes ++ Some (record { parent = parent; objects = [] }) ∷ []
regions_added ms areas new shapes slot parent alone others empty =
    regions_more new shapes ms (record { slot = slot; parent = parent })
    ∙ ap (λ vs. vs ++ Some (view_of new shapes (record { slot = slot; parent = parent })) ∷ []) (regions_same areas new shapes shapes ms (λ n there. ap (objects_of shapes) (others (member_in ms n).slot (alone n there))))
    ∙ ap (λ a. regions_of ms areas shapes ++ Some (record { parent = parent; objects = objects_of shapes a }) ∷ []) empty

-- another area behind all
pub behind_same : (areas : List AreaState) (x : AreaState) (s : ℕ) → s ≢ length areas → area_at (areas ++ x ∷ []) s ≡ area_at areas s
behind_same [] x zero apart = absurd (apart refl)
behind_same [] x (suc s) apart = refl
behind_same (a ∷ rest) x zero apart = refl
behind_same (a ∷ rest) x (suc s) apart = behind_same rest x s (λ e. apart (ap suc e))

pub behind_there : (areas : List AreaState) (x : AreaState) → area_at (areas ++ x ∷ []) (length areas) ≡ x
behind_there [] x = refl
behind_there (a ∷ rest) x = behind_there rest x

-- the objects of one region change
pub regions_beside : (ms : Members) (areas new : List AreaState) (shapes shapes_new : List Shape) (slots r slot : ℕ) (objects : List KeptObject) → IsMember ms r → slot ≡ (member_in ms r).slot
    → ((n : ℕ) → IsMember ms n → n ≢ r → (member_in ms n).slot ≢ slot) → IsSpace slots areas shapes → IsBeside slot areas new → ((a : AreaState) → IsLaid shapes a → objects_of shapes_new a ≡ objects_of shapes a)
    → objects_of shapes_new (area_at new slot) ≡ objects → regions_of ms new shapes_new ≡ with_objects r objects (regions_of ms areas shapes)
regions_beside ms areas new shapes shapes_new slots r slot objects live is apart space beside kept same =
    regions_changed areas new shapes shapes_new ms r objects live
    (λ n there other. ap (objects_of shapes_new) (beside.others (member_in ms n).slot (apart n there other)) ∙ kept (area_at areas (member_in ms n).slot) (space.laid (member_in ms n).slot))
    (ap (λ s. objects_of shapes_new (area_at new s)) (sym is) ∙ same)

-- or stay
pub regions_stay : (ms : Members) (areas new : List AreaState) (shapes shapes_new : List Shape) (slots slot : ℕ) → IsSpace slots areas shapes → IsBeside slot areas new → ((a : AreaState) → IsLaid shapes a → objects_of shapes_new a ≡ objects_of shapes a)
    → area_at new slot ≡ area_at areas slot → regions_of ms new shapes_new ≡ regions_of ms areas shapes
regions_stay ms areas new shapes shapes_new slots slot space beside kept same = regions_same areas new shapes shapes_new ms (λ n there. area_stays (member_in ms n).slot)
  where
    area_stays : (s : ℕ) → objects_of shapes_new (area_at new s) ≡ objects_of shapes (area_at areas s)
    area_stays s = elim (cases_eq s slot) [
      | inl here ↦ ap (λ k. objects_of shapes_new (area_at new k)) here ∙ ap (objects_of shapes_new) same ∙ ap (λ k. objects_of shapes_new (area_at areas k)) (sym here) ∙ kept (area_at areas s) (space.laid s)
      | inr apart ↦ ap (objects_of shapes_new) (beside.others s apart) ∙ kept (area_at areas s) (space.laid s)
    ]

-- of a slot without a live region nothing is kept: another area of a live region, a region less, and one more
pub freed_beside : (ms : Members) (areas new : List AreaState) (r slot : ℕ) → IsMember ms r → slot ≡ (member_in ms r).slot → IsBeside slot areas new → AreFreed ms areas → AreFreed ms new
freed_beside ms areas new r slot live is beside freed = λ s none. beside.others s (λ e. none r live (sym is ∙ sym e)) ∙ freed s none

pub freed_less : (ms : Members) (areas new : List AreaState) (r slot : ℕ) → slot ≡ (member_in ms r).slot → IsBeside slot areas new → area_at new slot ≡ no_area → AreFreed ms areas → AreFreed (set ms r None) new
freed_less ms areas new r slot is beside empty freed = λ s none. elim (cases_eq s slot) [
  | inl same ↦ ap (area_at new) same ∙ empty
  | inr apart ↦ beside.others s apart ∙ freed s (λ n there. other s none apart n there (cases_eq n r))
]
  where
    other : (s : ℕ) → ((n : ℕ) → IsMember (set ms r None) n → (member_in (set ms r None) n).slot ≢ s) → s ≢ slot → (n : ℕ) → IsMember ms n → (n ≡ r) ⊎ (n ≢ r) → (member_in ms n).slot ≢ s
    other s none apart n there (inl e) = λ f. apart (sym f ∙ ap (λ k. (member_in ms k).slot) e ∙ sym is)
    other s none apart n there (inr far) =
        let same : member_at (set ms r None) n ≡ member_at ms n = get_or-set_other ms r n None None far in
        λ f. none n (ap is_member same ∙ there) (ap (λ m. (or_root m).slot) same ∙ f)

member_kept : (ms : Members) (m : Option Member) (n : ℕ) → IsMember ms n → member_at (ms ++ m ∷ []) n ≡ member_at ms n
member_kept [] m n there = absurd (false≢true there)
member_kept (x ∷ ms) m zero there = refl
member_kept (x ∷ ms) m (suc n) there = member_kept ms m n there

pub freed_more : (ms : Members) (m : Option Member) (areas : List AreaState) → AreFreed ms areas → AreFreed (ms ++ m ∷ []) areas
freed_more ms m areas freed = λ s none. freed s (λ n there f. none n (ap is_member (member_kept ms m n there) ∙ there) (ap (λ x. (or_root x).slot) (member_kept ms m n there) ∙ f))

pub freed_behind : (ms : Members) (areas : List AreaState) → AreFreed ms areas → AreFreed ms (areas ++ no_area ∷ [])
freed_behind ms areas freed = λ s none. elim (cases_eq s (length areas)) [
  | inl last ↦ ap (area_at (areas ++ no_area ∷ [])) last ∙ behind_there areas no_area
  | inr apart ↦ behind_same areas no_area s apart ∙ freed s none
]

pub space_behind : (slots : ℕ) (areas : List AreaState) (shapes : List Shape) → IsSpace slots areas shapes → IsSpace (slots + 1) (areas ++ no_area ∷ []) shapes
space_behind slots areas shapes space = record {
  count = length-append areas (no_area ∷ []) ∙ ap (λ n. n + 1) space.count;
  laid = λ s. elim (cases_eq s (length areas)) [
    | inl last ↦ subst (IsLaid shapes) (sym (ap (area_at (areas ++ no_area ∷ [])) last ∙ behind_there areas no_area)) (empty_laid shapes)
    | inr apart ↦ subst (IsLaid shapes) (sym (behind_same areas no_area s apart)) (space.laid s)
  ];
}
