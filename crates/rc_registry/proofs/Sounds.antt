-- A registry is sound after each change.
use Rattle.std.proofs.Common.{◌≡◌, ◌≢◌, ◌<◌, ◌+◌, ◌∙◌, ℕ, zero, suc, false, IsTrue, List, [], ◌∷◌, ◌++◌, Option, Some, None, length, get_or, map, set, refl, sym, ap, subst, arith, get_or-set_other, length-set}
use Rattle.std.specs.Prelude.{max, option_map}
use Rattle.std.proofs.lemmas.List.{map-append, map-set}
use Rattle.rc_regions.specs.declared.record.Slot.{Slot}
use Rattle.rc_regions.specs.declared.record.Slot.TheVariants.{Free, Child}
use Rattle.rc_regions.specs.Above.{IsTree}
use Rattle.rc_regions.specs.Slots.{live_slots, slot_at}
use Rattle.rc_slots.specs.declared.entry.Entry.{Entry}
use Rattle.rc_slots.specs.Entries.{counted, member_of, members_of}
use Rattle.rc_registry.specs.Registries.{IsMember, has_child, is_member, member_in, or_root}
use Rattle.rc_registry.specs.Sound.{IsPlaced, IsSoundRegistry}
use Rattle.rc_registry.proofs.Members.{left_apart, left_same}
use Rattle.rc_registry.proofs.Placed.{placed_left, placed_same}
use Rattle.rc_registry.proofs.Added.{below_more, free_after, freed_same, long_after, long_now, placed_more}

pub members_left : (d : List (Option Entry)) (r : ℕ) → members_of (set d r None) ≡ set (members_of d) r None
members_left d r = map-set (option_map member_of) d r None

pub counts_left : (d : List (Option Entry)) (r n : ℕ) → get_or (map counted d) r 0 ≡ 0 → get_or (map counted (set d r None)) n 0 ≡ get_or (map counted d) n 0
counts_left [] r n none = refl
counts_left (e ∷ es) zero zero none = sym none
counts_left (e ∷ es) zero (suc n) none = refl
counts_left (e ∷ es) (suc r) zero none = refl
counts_left (e ∷ es) (suc r) (suc n) none = counts_left es r n none

module _ (d : List (Option Entry)) (t : List Slot) (handed : ℕ) (sound : IsSoundRegistry d t handed) where
  module _ (r s : ℕ) (live : IsMember (members_of d) r) (apart : r ≢ 0) (childless : has_child (members_of d) r ≡ false) (es : s ≡ (member_in (members_of d) r).slot) where
    left_below : (n : ℕ) → IsMember (set (members_of d) r None) n → (member_in (set (members_of d) r None) n).slot < handed
    left_below n there =
        let same = left_same (members_of d) r n (left_apart (members_of d) r n there) in
        subst (λ m. (or_root m).slot < handed) (sym same) (sound.below n (subst (λ m. IsTrue (is_member m)) same there))

    other_slot : handed ≢ s
    other_slot same = absurd (omega (arith, sound.below r live, same, es))

    pub sound_left : (d_new : List (Option Entry)) (t_new : List Slot) → d_new ≡ set d r None → t_new ≡ set t s Free → live_slots t_new + 1 ≡ live_slots t → IsTree t_new → IsSoundRegistry d_new t_new handed
    sound_left d_new t_new d_is t_is count tree =
        let members : members_of d_new ≡ set (members_of d) r None = ap members_of d_is ∙ members_left d r in
        let placed = placed_left (members_of d) t sound.placed sound.tree r live apart childless s es (subst (λ x. live_slots x + 1 ≡ live_slots t) t_is count) in
        record {
          placed = subst (IsPlaced (members_of d_new)) (sym t_is) (subst (λ ms. IsPlaced ms (set t s Free)) (sym members) placed);
          tree = tree;
          below = subst (λ ms. (n : ℕ) → IsMember ms n → (member_in ms n).slot < handed) (sym members) left_below;
          free = ap (λ x. slot_at x handed) t_is ∙ get_or-set_other t s handed Free Free other_slot ∙ sound.free;
          long = omega (arith, ap length t_is, length-set t s Free, sound.long);
        }

  module _ (new : List Slot) (slot p : ℕ) (was_free : slot_at t slot ≡ Free) (child : slot_at new slot ≡ Child p)
      (others : (k : ℕ) → k ≢ slot → slot_at new k ≡ slot_at t k) (again : live_slots t < length t → length new ≡ length t) (grown : live_slots t ≡ length t → length new ≡ length t + 1) where
    pub sound_again : (t_new : List Slot) → t_new ≡ set new slot Free → live_slots t_new + 1 ≡ live_slots new → live_slots new ≡ live_slots t + 1 → IsTree t_new → IsSoundRegistry d t_new handed
    sound_again t_new t_is less more tree =
        let same : (k : ℕ) → slot_at t_new k ≡ slot_at t k = λ k. ap (λ x. slot_at x k) t_is ∙ freed_same t new slot p handed sound.free sound.long was_free child others again grown k in
        record {
          placed = placed_same (members_of d) t sound.placed sound.tree t_new same (omega (arith, less, more));
          tree = tree;
          below = sound.below;
          free = same handed ∙ sound.free;
          long = omega (arith, ap length t_is, length-set new slot Free, long_now t new slot p handed sound.free sound.long was_free child others again grown);
        }

    module _ (parent : ℕ) (live : IsMember (members_of d) parent) (is : p ≡ (member_in (members_of d) parent).slot) (one_more : live_slots new ≡ live_slots t + 1) where
      pub sound_more : (d_new : List (Option Entry)) (handed_new : ℕ) → d_new ≡ d ++ Some (record { slot = slot; parent = parent; count = 0 }) ∷ [] → handed_new ≡ max handed (slot + 1) → IsTree new → IsSoundRegistry d_new new handed_new
      sound_more d_new handed_new d_is h_is tree =
          let members : members_of d_new ≡ members_of d ++ Some (record { slot = slot; parent = parent }) ∷ [] = ap members_of d_is ∙ map-append (option_map member_of) d (Some (record { slot = slot; parent = parent; count = 0 }) ∷ []) in
          record {
            placed = subst (λ ms. IsPlaced ms new) (sym members) (placed_more t new slot p handed sound.free sound.long was_free child others again grown (members_of d) sound.placed sound.tree parent live is one_more);
            tree = tree;
            below = subst (λ h. (n : ℕ) → IsMember (members_of d_new) n → (member_in (members_of d_new) n).slot < h) (sym h_is)
                (subst (λ ms. (n : ℕ) → IsMember ms n → (member_in ms n).slot < max handed (slot + 1)) (sym members)
                (below_more t new slot p handed sound.free sound.long was_free child others again grown (members_of d) sound.placed sound.tree parent live is one_more sound.below));
            free = ap (slot_at new) h_is ∙ free_after t new slot p handed sound.free sound.long was_free child others again grown;
            long = omega (arith, h_is, long_after t new slot p handed sound.free sound.long was_free child others again grown);
          }
