-- A registry's members in the tree: who is above whom, who has a child, and what is left when one is taken out.
use Rattle.std.proofs.Common.{◌≡◌, ◌≢◌, ◌<◌, ◌≤◌, ◌+◌, ◌∙◌, ◌⊎◌, inl, inr, ℕ, zero, suc, Bool, true, false, nat_eq, IsTrue, List, [], ◌∷◌, Option, None, Some, set, slice_index_or, refl, sym, ap, subst, arith, rules, get_or-set_other, length-set}
use Rattle.std.specs.Prelude.{◌||◌, ◌&&◌, ◌↔◌, not}
use Rattle.std.proofs.lemmas.Bool.{false≢true}
use Rattle.rc_core.specs.Heap.{is_above, is_above_within}
use Rattle.rc_regions.specs.declared.record.Slot.{Slot}
use Rattle.rc_regions.specs.declared.record.Slot.TheVariants.{Free, Root, Child}
use Rattle.rc_regions.specs.Above.{Above, IsTree, here, higher}
use Rattle.rc_regions.specs.Slots.{HasUnmarked, IsLive, IsParent, is_live, live_slots, slot_at}
use Rattle.rc_slots.specs.Entries.{Member}
use Rattle.rc_registry.specs.Registries.{AreOlder, HasUnmarkedChild, IsMember, Members, has_child, is_marked, is_member, mark_of, member_at, member_in, or_root, parent_among}
use Rattle.rc_registry.specs.Sound.{IsPlaced}
use Rattle.rc_registry.proofs.Members.{child_found, child_there, left_apart, left_same}

free_child : (p : ℕ) → Root ≡ Child p → ⊥
free_child p same = false≢true (ap (λ s. elim s [ Free ↦ true | Root ↦ false | Child q ↦ true ]) same)

child_parent : (p q : ℕ) → Child p ≡ Child q → p ≡ q
child_parent p q same = ap (λ s. elim s [ Free ↦ 0 | Root ↦ 0 | Child n ↦ n ]) same

same_number : (m n : ℕ) → nat_eq m n ≡ true → m ≡ n
same_number m n same = search (rules, same)

number_itself : (n : ℕ) → nat_eq n n ≡ true
number_itself n = search rules

number_other : (m n : ℕ) → m ≢ n → nat_eq m n ≡ false
number_other m n other = search (rules, other)

or_cases : (a b : Bool) → (a || b) ≡ true → (a ≡ true) ⊎ (b ≡ true)
or_cases true b holds = inl refl
or_cases false b holds = inr holds

both_true : (a b : Bool) → (a && b) ≡ true → (a ≡ true) × (b ≡ true)
both_true true b holds = (refl, holds)
both_true false b holds = absurd (false≢true holds)

not_zero : (n : ℕ) → not (nat_eq n 0) ≡ true → 0 < n
not_zero zero holds = absurd (false≢true holds)
not_zero (suc n) holds = omega arith

pub same_answer : (a b : Bool) → (a ≡ true → b ≡ true) → (b ≡ true → a ≡ true) → a ≡ b
same_answer true b right left = sym (right refl)
same_answer false true right left = left refl
same_answer false false right left = refl

module _ (members : Members) (slots : List Slot) (placed : IsPlaced members slots) (tree : IsTree slots) where
  abbrev pub slot_of : ℕ → ℕ
  slot_of n = (member_in members n).slot

  pub first_slot : slot_of 0 ≡ 0
  first_slot = ap (λ m. (or_root m).slot) placed.first

  first_parent : parent_among members 0 ≡ 0
  first_parent = ap (λ m. (or_root m).parent) placed.first

  pub first_live : IsMember members 0
  first_live = ap is_member placed.first

  -- a child isn't the root
  pub deep : (n p : ℕ) → slot_at slots (slot_of n) ≡ Child p → 0 < n
  deep zero p child = absurd (free_child p (sym tree.rooted.root ∙ ap (slot_at slots) (sym first_slot) ∙ child))
  deep (suc n) p child = omega arith

  pub live_slot : (n : ℕ) → IsMember members n → IsLive slots (slot_of n)
  live_slot zero live = ap is_live (ap (slot_at slots) first_slot ∙ tree.rooted.root)
  live_slot (suc n) live = ap is_live (placed.children (suc n) (omega arith) live)

  -- above by numbers is above by slots
  pub above_slots : (steps a b : ℕ) → b ≤ steps → IsMember members b → is_above_within (parent_among members) steps a b ≡ true → Above slots (slot_of a) (slot_of b)
  above_slots zero a b few live above = here (slot_of b) (ap slot_of (same_number a b above))
  above_slots (suc steps) a b few live above = elim (or_cases (nat_eq a b) _ above) [
    | inl same ↦ here (slot_of b) (ap slot_of (same_number a b same))
    | inr higher_up ↦
        let both = both_true (not (nat_eq b 0)) _ higher_up in
        let some = not_zero b both.0 in
        higher (slot_of b) (slot_of (parent_among members b)) (placed.children b some live)
        (above_slots steps a (parent_among members b) (omega (arith, few, placed.older b some live)) (placed.parents b some live) both.1)
  ]

  same_above : (steps a b : ℕ) → a ≡ b → is_above_within (parent_among members) steps a b ≡ true
  same_above zero a b same = ap (λ n. nat_eq n b) same ∙ number_itself b
  same_above (suc steps) a b same = ap (λ t. t || (not (nat_eq b 0) && is_above_within (parent_among members) steps a (parent_among members b))) (ap (λ n. nat_eq n b) same ∙ number_itself b)

  or_true : (a b : Bool) → b ≡ true → (a || b) ≡ true
  or_true true b holds = refl
  or_true false b holds = holds

  pub above_numbers : (s t : ℕ) → Above slots s t → (steps a b : ℕ) → s ≡ slot_of a → t ≡ slot_of b → b ≤ steps → IsMember members a → IsMember members b → is_above_within (parent_among members) steps a b ≡ true
  above_numbers s t (here _ same) steps a b from to few la lb = same_above steps a b (placed.apart a b la lb (sym from ∙ same ∙ to))
  above_numbers s t (higher _ p child rest) zero a b from to few la lb = absurd (omega (arith, deep b p (ap (slot_at slots) (sym to) ∙ child), few))
  above_numbers s t (higher _ p child rest) (suc steps) a b from to few la lb =
      let some = deep b p (ap (slot_at slots) (sym to) ∙ child) in
      let parent : p ≡ slot_of (parent_among members b) = child_parent p (slot_of (parent_among members b)) (sym child ∙ ap (slot_at slots) to ∙ placed.children b some lb) in
      let nonzero : nat_eq b 0 ≡ false = number_other b 0 (λ e. absurd (omega (arith, some, e))) in
      or_true (nat_eq a b) _
      (ap (λ z. not z && is_above_within (parent_among members) steps a (parent_among members b)) nonzero
      ∙ above_numbers s p rest steps a (parent_among members b) from parent (omega (arith, few, placed.older b some lb)) la (placed.parents b some lb))

  pub above_same : (result : Bool) (a b sa sb : ℕ) → sa ≡ slot_of a → sb ≡ slot_of b → IsMember members a → IsMember members b → IsTrue result ↔ Above slots sa sb → result ≡ is_above (parent_among members) a b
  above_same result a b sa sb ea eb la lb is = same_answer result _
      (λ holds. above_numbers sa sb (is.0 holds) b a b ea eb (omega arith) la lb)
      (λ holds. is.1 (subst (λ s. Above slots s sb) (sym ea) (subst (Above slots (slot_of a)) (sym eb) (above_slots b a b (omega arith) lb holds))))

  -- a parent
  pub parent_found : (r : ℕ) → IsMember members r → IsParent slots (slot_of r) → has_child members r ≡ true
  parent_found r live parent =
      let there = placed.all parent.0 (ap is_live parent.1) in
      let n = there.0 in
      let child : slot_at slots (slot_of n) ≡ Child (slot_of r) = ap (slot_at slots) there.2 ∙ parent.1 in
      let some = deep n (slot_of r) child in
      let same = child_parent (slot_of (parent_among members n)) (slot_of r) (sym (placed.children n some there.1) ∙ child) in
      child_there members r n there.1 (placed.apart (parent_among members n) r (placed.parents n some there.1) live same)

  nonzero_child : (r n : ℕ) → r ≢ 0 → parent_among members n ≡ r → 0 < n
  nonzero_child r zero apart same = absurd (apart (sym same ∙ first_parent))
  nonzero_child r (suc n) apart same = omega arith

  pub parent_there : (r : ℕ) → r ≢ 0 → has_child members r ≡ true → IsParent slots (slot_of r)
  parent_there r apart child =
      let found = child_found members r child in
      (slot_of found.0, placed.children found.0 (nonzero_child r found.0 apart found.2) found.1 ∙ ap (λ n. Child (slot_of n)) found.2)

  pub parent_same : (result : Bool) (r s : ℕ) → s ≡ slot_of r → IsMember members r → r ≢ 0 → IsTrue result ↔ IsParent slots s → result ≡ has_child members r
  parent_same result r s es live apart is = same_answer result _
      (λ holds. parent_found r live (subst (IsParent slots) es (is.0 holds)))
      (λ holds. is.1 (subst (IsParent slots) (sym es) (parent_there r apart holds)))

  -- a child without a mark
  mark_here : (marks : List Bool) (m : Option Member) → IsTrue (is_member m) → mark_of marks m ≡ slice_index_or marks (or_root m).slot false
  mark_here marks None live = absurd (false≢true live)
  mark_here marks (Some m) live = refl

  pub marked_slot : (marks : List Bool) (n : ℕ) → IsMember members n → is_marked members marks n ≡ slice_index_or marks (slot_of n) false
  marked_slot marks n live = mark_here marks (member_at members n) live

  pub unmarked_same : (marks : List Bool) (result : Bool) (r s : ℕ) → s ≡ slot_of r → IsMember members r → r ≢ 0 → IsTrue result ↔ HasUnmarked slots s marks → IsTrue result ↔ HasUnmarkedChild members r marks
  unmarked_same marks result r s es live apart is = (
    (λ yes.
        let has = is.0 yes in
        let there = placed.all has.0 (ap is_live has.1) in
        let n = there.0 in
        let child : slot_at slots (slot_of n) ≡ Child (slot_of r) = ap (slot_at slots) there.2 ∙ has.1 ∙ ap Child es in
        let some = deep n (slot_of r) child in
        let same = child_parent (slot_of (parent_among members n)) (slot_of r) (sym (placed.children n some there.1) ∙ child) in
        (n, there.1, placed.apart (parent_among members n) r (placed.parents n some there.1) live same, marked_slot marks n there.1 ∙ ap (λ k. slice_index_or marks k false) there.2 ∙ has.2)),
    (λ has. is.1 (slot_of has.0, placed.children has.0 (nonzero_child r has.0 apart has.2) has.1 ∙ ap (λ n. Child (slot_of n)) has.2 ∙ sym (ap Child es), sym (marked_slot marks has.0 has.1) ∙ has.3)),
  )

  -- parents are older
  pub parents_older : AreOlder members
  parents_older zero live some = absurd (omega (arith, some, first_parent))
  parents_older (suc n) live some = placed.older (suc n) (omega arith) live

  pub leaf : (r s : ℕ) → s ≡ slot_of r → IsMember members r → has_child members r ≡ false → ¬ IsParent slots s
  leaf r s es live childless parent = false≢true (sym childless ∙ parent_found r live (subst (IsParent slots) es parent))

  -- the same in a tree with the same slots
  pub placed_same : (new : List Slot) → ((s : ℕ) → slot_at new s ≡ slot_at slots s) → live_slots new ≡ live_slots slots → IsPlaced members new
  placed_same new same count = record {
    first = placed.first;
    older = placed.older;
    parents = placed.parents;
    children = λ n some live. same (slot_of n) ∙ placed.children n some live;
    apart = placed.apart;
    all = λ s live. placed.all s (subst (λ x. IsTrue (is_live x)) (same s) live);
    few = omega (arith, count, placed.few);
  }

  -- one that isn't the root is taken out
  module _ (r : ℕ) (live : IsMember members r) (apart : r ≢ 0) (childless : has_child members r ≡ false) (s : ℕ) (es : s ≡ slot_of r) (count : live_slots (set slots s Free) + 1 ≡ live_slots slots) where
    abbrev left : Members
    left = set members r None

    was : (n : ℕ) → IsMember left n → member_at left n ≡ member_at members n
    was n there = left_same members r n (left_apart members r n there)

    was_live : (n : ℕ) → IsMember left n → IsMember members n
    was_live n there = subst (λ m. IsTrue (is_member m)) (was n there) there

    was_in : (n : ℕ) → IsMember left n → member_in left n ≡ member_in members n
    was_in n there = ap or_root (was n there)

    still : (n : ℕ) → n ≢ r → IsMember members n → IsMember left n
    still n other there = subst (λ m. IsTrue (is_member m)) (sym (left_same members r n other)) there

    not_parent : (n : ℕ) → IsMember members n → parent_among members n ≢ r
    not_parent n there same = false≢true (sym childless ∙ child_there members r n there same)

    other_slot : (n : ℕ) → IsMember members n → n ≢ r → slot_of n ≢ s
    other_slot n there other same = other (placed.apart n r there live (same ∙ es))

    free_here : (xs : List Slot) (k : ℕ) → slot_at (set xs k Free) k ≡ Free
    free_here [] k = refl
    free_here (x ∷ xs) zero = refl
    free_here (x ∷ xs) (suc k) = free_here xs k

    pub placed_left : IsPlaced left (set slots s Free)
    placed_left = record {
      first = left_same members r 0 (λ e. apart (sym e)) ∙ placed.first;
      older = λ n some there. subst (λ m. m.parent < n) (sym (was_in n there)) (placed.older n some (was_live n there));
      parents = λ n some there. subst (λ m. IsMember left m.parent) (sym (was_in n there)) (still (parent_among members n) (not_parent n (was_live n there)) (placed.parents n some (was_live n there)));
      children = λ n some there.
          ap (λ m. slot_at (set slots s Free) m.slot) (was_in n there)
          ∙ get_or-set_other slots s (slot_of n) Free Free (other_slot n (was_live n there) (left_apart members r n there))
          ∙ placed.children n some (was_live n there)
          ∙ ap (λ m. Child (or_root m).slot) (sym (ap (λ m. member_at left m.parent) (was_in n there) ∙ left_same members r (parent_among members n) (not_parent n (was_live n there))));
      apart = λ n k there here same. placed.apart n k (was_live n there) (was_live k here) (ap (λ m. m.slot) (sym (was_in n there)) ∙ same ∙ ap (λ m. m.slot) (was_in k here));
      all = λ t there. all_left t there;
      few = omega (arith, count, placed.few, length-set members r None);
    }
      where
        other_place : (t : ℕ) → IsLive (set slots s Free) t → t ≢ s
        other_place t there same = false≢true (subst (λ x. IsTrue (is_live x)) (ap (slot_at (set slots s Free)) same ∙ free_here slots s) there)

        all_left : (t : ℕ) → IsLive (set slots s Free) t → (n : ℕ) × IsMember left n × ((member_in left n).slot ≡ t)
        all_left t there =
            let before = placed.all t (subst (λ x. IsTrue (is_live x)) (get_or-set_other slots s t Free Free (other_place t there)) there) in
            let other : before.0 ≢ r = λ e. other_place t there (sym before.2 ∙ ap slot_of e ∙ sym es) in
            (before.0, still before.0 other before.1, ap (λ m. (or_root m).slot) (left_same members r before.0 other) ∙ before.2)
