-- Several regions at once: who has a parent among them, and what is left without them.
use Rattle.std.proofs.Common.{◌≡◌, ◌≢◌, ◌<◌, ◌+◌, ◌∙◌, ◌⊎◌, inl, inr, ℕ, zero, suc, Bool, true, false, cond, IsTrue, List, [], ◌∷◌, ◌++◌, Option, Some, None, length, get_or, map, set as slice_set, refl, sym, ap, subst, arith, get_or-set_other, get_or-set_same, length-set}
use Rattle.std.specs.Prelude.{◌||◌, ◌&&◌, ◌↔◌, not, option_map, All}
use Rattle.std.proofs.lemmas.Bool.{cases_eq, false≢true}
use Rattle.std.proofs.lemmas.List.{ext_get_or, length-map}
use Rattle.rc_store.specs.Kept.{KeptView, Regions}
use Rattle.rc_store.specs.Sets.{has_child_outside, is_child_of, is_in, without}
use Rattle.rc_store.specs.Stores.{is_view, live_in, or_none, parent_in}
use Rattle.rc_slots.specs.Entries.{Member}
use Rattle.rc_areas.specs.Areas.{AreaState, IsLaid, objects_of}
use Rattle.rc_areas.specs.Shapes.{Shape}
use Rattle.rc_store.proofs.Along.{child_along, child_from, length-without, without_read}
use Rattle.rc_registry.specs.Registries.{IsApart, IsMember, Members, at_slots, is_member, is_slot_of, member_at, member_in, or_root}
use Rattle.rc_registry.proofs.Placed.{same_answer}
use Rattle.rc_registry.specs.Groups.{AreClear, HasChildOutside}
use Rattle.rc_registry.proofs.Marked.{hit_is, length-at_slots, set_read, slot_below}
use Rattle.rc_space.specs.Spaces.{AreFreed, IsBeside, IsSpace, area_at, no_area, regions_of, view_of}
use Rattle.rc_space.proofs.Grown.{empty_laid}
use Rattle.rc_space.proofs.Regions.{live_is, parent_is}

either : (a b : Bool) → a || b ≡ true → (a ≡ true) ⊎ (b ≡ true)
either true b holds = inl refl
either false b holds = inr holds

both : (a b : Bool) → a && b ≡ true → (a ≡ true) × (b ≡ true)
both true b holds = (refl, holds)
both false b holds = absurd (false≢true holds)

was_false : (b : Bool) → not b ≡ true → b ≡ false
was_false true holds = absurd (false≢true holds)
was_false false holds = refl

live_child : (set : List ℕ) (v : Option KeptView) → is_child_of set v ≡ true → IsTrue (is_view v) × (is_in set (or_none v).parent ≡ true)
live_child set None child = absurd (false≢true child)
live_child set (Some v) child = (refl, child)

child_live : (set : List ℕ) (v : Option KeptView) → IsTrue (is_view v) → is_in set (or_none v).parent ≡ true → is_child_of set v ≡ true
child_live set None live child = absurd (false≢true live)
child_live set (Some v) live child = child

-- a child outside, by its number
pub outside_found : (set : List ℕ) (at : ℕ) (views : Regions) → child_from set at views ≡ true → (i : ℕ) × IsTrue (live_in views i) × (is_in set (at + i) ≡ false) × (is_in set (parent_in views i) ≡ true)
outside_found set at [] child = absurd (false≢true child)
outside_found set at (v ∷ vs) child = elim (either (not (is_in set at) && is_child_of set v) (child_from set (suc at) vs) child) [
  | inl here ↦
      let two = both (not (is_in set at)) (is_child_of set v) here in
      let one = live_child set v two.1 in
      (0, one.0, ap (is_in set) (let is : at + 0 ≡ at = omega arith in is) ∙ was_false (is_in set at) two.0, one.1)
  | inr later ↦
      let rest = outside_found set (suc at) vs later in
      (suc rest.0, rest.1, ap (is_in set) (let is : at + suc rest.0 ≡ suc at + rest.0 = omega arith in is) ∙ rest.2, rest.3)
]

pub outside_there : (set : List ℕ) (at : ℕ) (views : Regions) (i : ℕ) → IsTrue (live_in views i) → is_in set (at + i) ≡ false → is_in set (parent_in views i) ≡ true → child_from set at views ≡ true
outside_there set at [] i live out child = absurd (false≢true live)
outside_there set at (v ∷ vs) zero live out child =
    ap (λ b. (not b && is_child_of set v) || child_from set (suc at) vs) (ap (is_in set) (let is : at ≡ at + 0 = omega arith in is) ∙ out)
    ∙ ap (λ b. b || child_from set (suc at) vs) (child_live set v live child)
outside_there set at (v ∷ vs) (suc i) live out child =
    ap (λ b. (not (is_in set at) && is_child_of set v) || b) (outside_there set (suc at) vs i live (ap (is_in set) (let is : suc at + i ≡ at + suc i = omega arith in is) ∙ out) child)
    ∙ or_true (not (is_in set at) && is_child_of set v)
  where
    or_true : (a : Bool) → a || true ≡ true
    or_true true = refl
    or_true false = refl

module _ (ms : Members) (areas : List AreaState) (shapes : List Shape) (set : List ℕ) where
  abbrev regions : Regions
  regions = regions_of ms areas shapes

  pub outside_shown : HasChildOutside ms set → has_child_outside set regions ≡ true
  outside_shown has = child_along set regions ∙ outside_there set 0 regions has.0 (live_is ms areas shapes has.0 ∙ has.1) (ap (is_in set) (let is : 0 + has.0 ≡ has.0 = omega arith in is) ∙ has.2) (ap (is_in set) (parent_is ms areas shapes has.0) ∙ has.3)

  pub outside_same : (result : Bool) → IsTrue result ↔ HasChildOutside ms set → result ≡ has_child_outside set regions
  outside_same result is = same_answer result (has_child_outside set regions)
      (λ yes. outside_shown (is.0 yes))
      (λ yes.
      let has = outside_found set 0 regions (sym (child_along set regions) ∙ yes) in
      is.1 (has.0, sym (live_is ms areas shapes has.0) ∙ has.1, ap (is_in set) (let is : has.0 ≡ 0 + has.0 = omega arith in is) ∙ has.2, ap (is_in set) (sym (parent_is ms areas shapes has.0)) ∙ has.3))

  -- the areas of a set are empty
  module _ (slots : ℕ) (space : IsSpace slots areas shapes) (apart : IsApart ms slots) (live : All (IsMember ms) set) where
    abbrev left : List AreaState
    left = at_slots ms no_area set areas

    left_read : (s : ℕ) → area_at left s ≡ cond (is_slot_of ms set s) no_area (area_at areas s)
    left_read s = set_read ms no_area no_area set areas s (λ n there. omega (arith, slot_below ms slots apart set live n there, space.count))

    left_laid : (s : ℕ) (b : Bool) → is_slot_of ms set s ≡ b → IsLaid shapes (area_at left s)
    left_laid s true is = subst (IsLaid shapes) (sym (left_read s ∙ ap (λ b. cond b no_area (area_at areas s)) is)) (empty_laid shapes)
    left_laid s false is = subst (IsLaid shapes) (sym (left_read s ∙ ap (λ b. cond b no_area (area_at areas s)) is)) (space.laid s)

    pub space_left : IsSpace slots left shapes
    space_left = record { count = length-at_slots ms no_area set areas ∙ space.count; laid = λ s. left_laid s (is_slot_of ms set s) refl }

    pub freed_left : AreFreed ms areas → AreFreed (without set ms) left
    freed_left freed = λ s none. left_read s ∙ by s none (is_slot_of ms set s) refl
      where
        outside : (s : ℕ) → ((n : ℕ) → IsMember (without set ms) n → (member_in (without set ms) n).slot ≢ s) → is_slot_of ms set s ≡ false → (n : ℕ) → IsMember ms n → (b : Bool) → is_in set n ≡ b → (member_in ms n).slot ≢ s
        outside s none not_one n there true is = λ f. false≢true (sym not_one ∙ ap (is_slot_of ms set) (sym f) ∙ hit_is ms slots apart set live n there ∙ is)
        outside s none not_one n there false out =
            let same : member_at (without set ms) n ≡ member_at ms n = without_read set ms n ∙ ap (λ b. cond b None (member_at ms n)) out in
            λ f. none n (ap is_member same ∙ there) (ap (λ m. (or_root m).slot) same ∙ f)

        by : (s : ℕ) → ((n : ℕ) → IsMember (without set ms) n → (member_in (without set ms) n).slot ≢ s) → (b : Bool) → is_slot_of ms set s ≡ b → cond b no_area (area_at areas s) ≡ no_area
        by s none true is = refl
        by s none false not_one = freed s (λ n there. outside s none not_one n there (is_in set n) refl)

    map_read : (held : List AreaState) (xs : Members) (n : ℕ) → get_or (map (option_map (view_of held shapes)) xs) n None ≡ option_map (view_of held shapes) (member_at xs n)
    map_read held [] n = refl
    map_read held (x ∷ xs) zero = refl
    map_read held (x ∷ xs) (suc n) = map_read held xs n

    same_shown : (n : ℕ) → is_in set n ≡ false → (m : Option Member) → member_at ms n ≡ m → option_map (view_of left shapes) m ≡ option_map (view_of areas shapes) m
    same_shown n out None is = refl
    same_shown n out (Some m) is =
        let here : IsMember ms n = ap is_member is in
        let slot : (member_in ms n).slot ≡ m.slot = ap (λ x. (or_root x).slot) is in
        let none : is_slot_of ms set m.slot ≡ false = ap (is_slot_of ms set) (sym slot) ∙ hit_is ms slots apart set live n here ∙ out in
        ap (λ a. Some (record { parent = m.parent; objects = objects_of shapes a })) (left_read m.slot ∙ ap (λ b. cond b no_area (area_at areas m.slot)) none)

    at_number : (n : ℕ) (b : Bool) → is_in set n ≡ b → get_or (regions_of (without set ms) left shapes) n None ≡ get_or (without set regions) n None
    at_number n true there =
        map_read left (without set ms) n
        ∙ ap (option_map (view_of left shapes)) (without_read set ms n ∙ ap (λ b. cond b None (member_at ms n)) there)
        ∙ sym (without_read set regions n ∙ ap (λ b. cond b None (get_or regions n None)) there)
    at_number n false out =
        map_read left (without set ms) n
        ∙ ap (option_map (view_of left shapes)) (without_read set ms n ∙ ap (λ b. cond b None (member_at ms n)) out)
        ∙ same_shown n out (member_at ms n) refl
        ∙ sym (without_read set regions n ∙ ap (λ b. cond b None (get_or regions n None)) out ∙ map_read areas ms n)

    pub regions_left : regions_of (without set ms) left shapes ≡ without set regions
    regions_left = ext_get_or None (regions_of (without set ms) left shapes) (without set regions)
        (length-map (without set ms) (option_map (view_of left shapes)) ∙ length-without set ms ∙ sym (length-without set regions ∙ length-map ms (option_map (view_of areas shapes))))
        (λ n inside. at_number n (is_in set n) refl)

-- one area is emptied
pub area_emptied : (slot : ℕ) (old new : List AreaState) → slot < length old → IsBeside slot old new → area_at new slot ≡ no_area → new ≡ slice_set old slot no_area
area_emptied slot old new inside beside empty = ext_get_or no_area new (slice_set old slot no_area) (beside.count ∙ sym (length-set old slot no_area)) (λ s _. elim (cases_eq s slot) [
  | inl same ↦ ap (area_at new) same ∙ empty ∙ sym (ap (λ k. get_or (slice_set old slot no_area) k no_area) same ∙ get_or-set_same old slot no_area no_area inside)
  | inr apart ↦ beside.others s apart ∙ sym (get_or-set_other old slot s no_area no_area apart)
])

-- marks that aren't set, and one more
pub clear_one : AreClear (false ∷ [])
clear_one zero = refl
clear_one (suc s) = refl

pub clear_more : (marks : List Bool) → AreClear marks → AreClear (marks ++ false ∷ [])
clear_more [] clear s = clear_one s
clear_more (m ∷ ms) clear zero = clear 0
clear_more (m ∷ ms) clear (suc s) = clear_more ms (λ k. clear (suc k)) s
