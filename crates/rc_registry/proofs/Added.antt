-- One more member, at a slot that was free; and how far slots reach.
use Rattle.std.proofs.Common.{◌≡◌, ◌≢◌, ◌<◌, ◌≤◌, ◌+◌, ◌∙◌, inl, inr, ℕ, zero, suc, Bool, true, false, cond, IsTrue, List, [], ◌∷◌, ◌++◌, Some, length, set, refl, sym, ap, subst, arith, get_or-set_other, length-append}
use Rattle.std.specs.Prelude.{max}
use Rattle.std.proofs.lemmas.Bool.{cases_eq, cases_lt, false≢true}
use Rattle.std.proofs.lemmas.List.{get_or_past}
use Rattle.std.proofs.lemmas.List.Sums.{count_by-le-length, sum_by-cons}
use Rattle.rc_regions.specs.declared.record.Slot.{Slot}
use Rattle.rc_regions.specs.declared.record.Slot.TheVariants.{Free, Child}
use Rattle.rc_regions.specs.Above.{IsTree}
use Rattle.rc_regions.specs.Slots.{IsLive, is_live, live_slots, slot_at}
use Rattle.rc_slots.specs.Entries.{Member}
use Rattle.rc_registry.specs.Registries.{IsMember, Members, is_member, member_at, member_in, or_root, parent_among}
use Rattle.rc_registry.specs.Sound.{IsPlaced}
use Rattle.rc_registry.proofs.Members.{member_there, more_cases, more_new, more_same}
use Rattle.rc_registry.proofs.Placed.{live_slot}

live_below : (slots : List Slot) (s : ℕ) → IsLive slots s → s < length slots
live_below [] s live = absurd (false≢true live)
live_below (x ∷ xs) zero live = omega arith
live_below (x ∷ xs) (suc s) live = omega (arith, live_below xs s live)

-- where a slot is free, not all are live
live_less : (slots : List Slot) (s : ℕ) → s < length slots → slot_at slots s ≡ Free → live_slots slots < length slots
live_less [] s inside free = absurd (omega (arith, inside))
live_less (x ∷ xs) zero inside free = omega (arith, sum_by-cons (λ y. cond (is_live y) 1 0) x xs, ap (λ y. cond {A = ℕ} (is_live y) 1 0) free, count_by-le-length is_live xs)
live_less (x ∷ xs) (suc s) inside free =
    let rest = live_less xs s (omega (arith, inside)) free in
    let one : cond {A = ℕ} (is_live x) 1 0 ≤ 1 = at_most (is_live x) in
    omega (arith, sum_by-cons (λ y. cond (is_live y) 1 0) x xs, rest, one)
  where
    at_most : (b : Bool) → cond {A = ℕ} b 1 0 ≤ 1
    at_most true = omega arith
    at_most false = omega arith

module _ (old new : List Slot) (slot p handed : ℕ) (free : slot_at old handed ≡ Free) (long : length old ≤ handed + 1) (was_free : slot_at old slot ≡ Free) (child : slot_at new slot ≡ Child p)
    (others : (t : ℕ) → t ≢ slot → slot_at new t ≡ slot_at old t) (again : live_slots old < length old → length new ≡ length old) (grown : live_slots old ≡ length old → length new ≡ length old + 1) where
  inside : slot < length new
  inside = live_below new slot (ap is_live child)

  at_most_one : length new ≤ length old + 1
  at_most_one = elim (cases_lt (live_slots old) (length old)) [
    | inl less ↦ omega (arith, again less)
    | inr all ↦ omega (arith, grown (omega (arith, all, count_by-le-length is_live old)))
  ]

  pub long_now : length new ≤ handed + 1
  long_now = elim (cases_lt handed (length old)) [
    | inl spare ↦ omega (arith, again (live_less old handed spare free), long)
    | inr none ↦ omega (arith, at_most_one, none)
  ]

  pub slot_handed : slot ≤ handed
  slot_handed = omega (arith, inside, long_now)

  pub long_after : length new ≤ max handed (slot + 1) + 1
  long_after = omega (arith, long_now)

  pub free_after : slot_at new (max handed (slot + 1)) ≡ Free
  free_after = elim (cases_eq slot handed) [
    | inl same ↦ get_or_past new (max handed (slot + 1)) Free (omega (arith, long_now, same))
    | inr apart ↦ ap (slot_at new) (omega (arith, slot_handed, apart)) ∙ others handed (λ e. apart (sym e)) ∙ free
  ]

  -- the slot is freed again
  pub freed_same : (t : ℕ) → slot_at (set new slot Free) t ≡ slot_at old t
  freed_same t = elim (cases_eq t slot) [
    | inl same ↦ ap (slot_at (set new slot Free)) same ∙ free_here new slot ∙ sym was_free ∙ ap (slot_at old) (sym same)
    | inr apart ↦ get_or-set_other new slot t Free Free apart ∙ others t apart
  ]
    where
      free_here : (xs : List Slot) (k : ℕ) → slot_at (set xs k Free) k ≡ Free
      free_here [] k = refl
      free_here (x ∷ xs) zero = refl
      free_here (x ∷ xs) (suc k) = free_here xs k

  module _ (members : Members) (placed : IsPlaced members old) (tree : IsTree old) (parent : ℕ) (live : IsMember members parent) (is : p ≡ (member_in members parent).slot) (one_more : live_slots new ≡ live_slots old + 1) where
    abbrev made : Member
    made = record { slot = slot; parent = parent }

    abbrev more : Members
    more = members ++ Some made ∷ []

    -- no member has the slot
    pub slot_alone : (n : ℕ) → IsMember members n → (member_in members n).slot ≢ slot
    slot_alone n there same = false≢true (ap is_live (sym was_free ∙ ap (slot_at old) (sym same)) ∙ live_slot members old placed tree n there)

    same_in : (n : ℕ) → n < length members → member_in more n ≡ member_in members n
    same_in n below = ap or_root (more_same members (Some made) n below)

    new_in : (n : ℕ) → n ≡ length members → member_in more n ≡ made
    new_in n same = ap (λ k. or_root (member_at more k)) same ∙ ap or_root (more_new members (Some made))

    was_live : (n : ℕ) → n < length members → IsMember more n → IsMember members n
    was_live n below there = subst (λ m. IsTrue (is_member m)) (more_same members (Some made) n below) there

    still : (n : ℕ) → IsMember members n → IsMember more n
    still n there = subst (λ m. IsTrue (is_member m)) (sym (more_same members (Some made) n (member_there members n there))) there

    new_live : IsMember more (length members)
    new_live = ap is_member (more_new members (Some made))

    some : 0 < length members
    some = omega (arith, member_there members parent live)

    older_more : (n : ℕ) → 0 < n → IsMember more n → (member_in more n).parent < n
    older_more n deep there = elim (more_cases members (Some made) n there) [
      | inl same ↦ subst (λ m. m.parent < n) (sym (new_in n same)) (omega (arith, same, member_there members parent live))
      | inr below ↦ subst (λ m. m.parent < n) (sym (same_in n below)) (placed.older n deep (was_live n below there))
    ]

    parents_more : (n : ℕ) → 0 < n → IsMember more n → IsMember more (member_in more n).parent
    parents_more n deep there = elim (more_cases members (Some made) n there) [
      | inl same ↦ subst (λ m. IsMember more m.parent) (sym (new_in n same)) (still parent live)
      | inr below ↦ subst (λ m. IsMember more m.parent) (sym (same_in n below)) (still (parent_among members n) (placed.parents n deep (was_live n below there)))
    ]

    children_more : (n : ℕ) → 0 < n → IsMember more n → slot_at new (member_in more n).slot ≡ Child (member_in more (member_in more n).parent).slot
    children_more n deep there = elim (more_cases members (Some made) n there) [
      | inl same ↦
          ap (λ m. slot_at new m.slot) (new_in n same) ∙ child ∙ ap Child is
          ∙ sym (ap (λ m. Child (member_in more m.parent).slot) (new_in n same) ∙ ap (λ m. Child m.slot) (same_in parent (member_there members parent live)))
      | inr below ↦
          let was = was_live n below there in
          ap (λ m. slot_at new m.slot) (same_in n below)
          ∙ others (member_in members n).slot (slot_alone n was)
          ∙ placed.children n deep was
          ∙ sym (ap (λ m. Child (member_in more m.parent).slot) (same_in n below) ∙ ap (λ m. Child m.slot) (same_in (parent_among members n) (member_there members (parent_among members n) (placed.parents n deep was))))
    ]

    slot_same : (n : ℕ) → n < length members → (member_in more n).slot ≡ (member_in members n).slot
    slot_same n below = ap (λ m. m.slot) (same_in n below)

    slot_new : (n : ℕ) → n ≡ length members → (member_in more n).slot ≡ slot
    slot_new n same = ap (λ m. m.slot) (new_in n same)

    apart_more : (n k : ℕ) → IsMember more n → IsMember more k → (member_in more n).slot ≡ (member_in more k).slot → n ≡ k
    apart_more n k there here same = elim (more_cases members (Some made) n there) [
      | inl n_new ↦ elim (more_cases members (Some made) k here) [
        | inl k_new ↦ n_new ∙ sym k_new
        | inr k_below ↦ absurd (slot_alone k (was_live k k_below here) (sym (slot_same k k_below) ∙ sym same ∙ slot_new n n_new))
      ]
      | inr n_below ↦ elim (more_cases members (Some made) k here) [
        | inl k_new ↦ absurd (slot_alone n (was_live n n_below there) (sym (slot_same n n_below) ∙ same ∙ slot_new k k_new))
        | inr k_below ↦ placed.apart n k (was_live n n_below there) (was_live k k_below here) (sym (slot_same n n_below) ∙ same ∙ slot_same k k_below)
      ]
    ]

    all_more : (t : ℕ) → IsLive new t → (n : ℕ) × IsMember more n × ((member_in more n).slot ≡ t)
    all_more t there = elim (cases_eq t slot) [
      | inl same ↦ (length members, new_live, slot_new (length members) refl ∙ sym same)
      | inr apart ↦
          let before = placed.all t (subst (λ x. IsTrue (is_live x)) (others t apart) there) in
          (before.0, still before.0 before.1, slot_same before.0 (member_there members before.0 before.1) ∙ before.2)
    ]

    pub placed_more : IsPlaced more new
    placed_more = record {
      first = more_same members (Some made) 0 some ∙ placed.first;
      older = older_more;
      parents = parents_more;
      children = children_more;
      apart = apart_more;
      all = all_more;
      few = omega (arith, one_more, placed.few, length-append members (Some made ∷ []));
    }

    pub below_more : ((n : ℕ) → IsMember members n → (member_in members n).slot < handed) → (n : ℕ) → IsMember more n → (member_in more n).slot < max handed (slot + 1)
    below_more below n there = elim (more_cases members (Some made) n there) [
      | inl same ↦ omega (arith, slot_new n same)
      | inr old_one ↦ omega (arith, slot_same n old_one, below n (was_live n old_one there))
    ]
