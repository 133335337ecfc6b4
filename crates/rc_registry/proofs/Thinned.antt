-- A registry from which regions of a set go, one after the other.
use Rattle.std.proofs.Common.{◌≡◌, ◌≢◌, ◌<◌, ◌≤◌, ◌+◌, ◌∙◌, inl, inr, ℕ, zero, suc, Bool, true, false, cond, IsTrue, List, [], ◌∷◌, Option, Some, None, length, get_or, set as slice_set, refl, sym, ap, subst, arith, get_or-set_other, length-set}
use Rattle.std.specs.Prelude.{◌&&◌, not, All}
use Rattle.std.proofs.lemmas.Bool.{cases_eq, false≢true}
use Rattle.std.proofs.lemmas.List.{ext_get_or}
use Rattle.rc_store.specs.Sets.{is_in, without}
use Rattle.rc_slots.specs.Entries.{Member}
use Rattle.rc_store.proofs.Along.{length-without, without_read}
use Rattle.rc_registry.specs.Registries.{AreOlder, IsApart, IsMember, RegistryState, count_in, has_child, is_marked, is_member, mark_of, member_at, member_in, or_root, parent_among, at_slots}
use Rattle.rc_registry.proofs.Members.{child_found, child_there, left_apart, left_same, member_there}
use Rattle.rc_registry.specs.Groups.{AreClear, HasChildOutside}
use Rattle.rc_registry.proofs.Marked.{marked_by, marked_is, marked_live, marked_slot, of_all}

-- some regions of the set are gone, and the others have marks
pub record IsThinned (base : RegistryState) (set : List ℕ) (now : RegistryState) (marks : List Bool) : Type 0 where
  pub many : length now.members ≡ length base.members
  pub slots : now.slots ≡ base.slots
  pub counts : (n : ℕ) → count_in now n ≡ count_in base n
  pub kept : (n : ℕ) → IsMember now.members n → member_at now.members n ≡ member_at base.members n
  pub others : (n : ℕ) → is_in set n ≡ false → member_at now.members n ≡ member_at base.members n
  pub marked : (n : ℕ) → IsMember now.members n → is_marked now.members marks n ≡ is_in set n
  pub owned : (s : ℕ) → get_or marks s false ≡ true → (n : ℕ) × IsMember now.members n × ((member_in now.members n).slot ≡ s)
  pub room : base.slots ≤ length marks

-- those that had their turn and are left have a child; one of them may be about to go
abbrev pub IsSettled : (turned : List ℕ) → (about : ℕ) → RegistryState → Type 0
IsSettled turned about now = (n : ℕ) → is_in turned n ≡ true → IsMember now.members n → n ≢ about → has_child now.members n ≡ true

module _ (base : RegistryState) (set : List ℕ) where
  pub thinned_none : (marks : List Bool) → IsApart base.members base.slots → All (IsMember base.members) set → base.slots ≤ length marks → AreClear marks → (now : List Bool) → now ≡ at_slots base.members true set marks → length now ≡ length marks → IsThinned base set base now
  thinned_none marks apart live room clear now is long = record {
    many = refl;
    slots = refl;
    counts = λ n. refl;
    kept = λ n there. refl;
    others = λ n out. refl;
    marked = λ n there. ap (λ ms. is_marked base.members ms n) is ∙ marked_is base.members base.slots apart set live marks room clear n there;
    owned = λ s has. marked_by base.members base.slots apart set live marks room clear s (ap (λ ms. get_or ms s false) (sym is) ∙ has);
    room = omega (arith, room, long);
  }

  module _ (now : RegistryState) (marks : List Bool) (thinned : IsThinned base set now marks) where
    pub root_unmarked : is_in set 0 ≡ false → is_marked now.members marks 0 ≡ false
    root_unmarked out = by (is_marked now.members marks 0) refl
      where
        by : (b : Bool) → is_marked now.members marks 0 ≡ b → is_marked now.members marks 0 ≡ false
        by true is = absurd (false≢true (sym out ∙ sym (thinned.marked 0 (marked_live now.members marks 0 is)) ∙ is))
        by false is = is

    -- one with a mark
    module _ (r : ℕ) (is : is_marked now.members marks r ≡ true) where
      pub goes_live : IsMember now.members r
      goes_live = marked_live now.members marks r is

      pub goes_in : is_in set r ≡ true
      goes_in = sym (thinned.marked r goes_live) ∙ is

      pub goes_apart : is_in set 0 ≡ false → r ≢ 0
      goes_apart out same = false≢true (sym out ∙ ap (is_in set) (sym same) ∙ goes_in)

      pub goes_unnamed : All (λ k. count_in base k ≡ 0) set → count_in now r ≡ 0
      goes_unnamed unnamed = thinned.counts r ∙ of_all (λ k. count_in base k ≡ 0) set r unnamed goes_in

      kept_in : (n : ℕ) → IsMember now.members n → member_in now.members n ≡ member_in base.members n
      kept_in n there = ap or_root (thinned.kept n there)

      was_live : (n : ℕ) → IsMember now.members n → IsMember base.members n
      was_live n there = subst (λ m. IsTrue (is_member m)) (thinned.kept n there) there

      -- its parent is older, unless it is region 0
      pub goes_older : AreOlder base.members → is_in set 0 ≡ false → parent_among now.members r < r
      goes_older older out = by (parent_among now.members r) refl
        where
          by : (p : ℕ) → parent_among now.members r ≡ p → parent_among now.members r < r
          by zero first = omega (arith, first, some r (goes_apart out))
            where
              some : (n : ℕ) → n ≢ 0 → 0 < n
              some zero apart = absurd (apart refl)
              some (suc n) apart = omega arith
          by (suc p) more =
              let same : parent_among now.members r ≡ parent_among base.members r = ap (λ m. m.parent) (kept_in r goes_live) in
              omega (arith, older r (was_live r goes_live) (omega (arith, same, more)), same)

      -- it goes
      module _ (new : RegistryState) (left : List Bool) (members : new.members ≡ slice_set now.members r None) (slots : new.slots ≡ now.slots) (counts : (n : ℕ) → count_in new n ≡ count_in now n) (marks_left : left ≡ slice_set marks (member_in now.members r).slot false) where
        apart_from : (n : ℕ) → IsMember new.members n → n ≢ r
        apart_from n there = left_apart now.members r n (subst (λ ms. IsMember ms n) members there)

        same_at : (n : ℕ) → n ≢ r → member_at new.members n ≡ member_at now.members n
        same_at n other = ap (λ ms. member_at ms n) members ∙ left_same now.members r n other

        still : (n : ℕ) → n ≢ r → IsMember now.members n → IsMember new.members n
        still n other there = subst (λ m. IsTrue (is_member m)) (sym (same_at n other)) there

        before : (n : ℕ) → IsMember new.members n → IsMember now.members n
        before n there = subst (λ m. IsTrue (is_member m)) (same_at n (apart_from n there)) there

        other_slot : IsApart base.members base.slots → (n : ℕ) → IsMember now.members n → n ≢ r → (member_in now.members n).slot ≢ (member_in now.members r).slot
        other_slot apart n there other same = other (apart.apart n r (was_live n there) (was_live r goes_live) (ap (λ m. m.slot) (sym (kept_in n there)) ∙ same ∙ ap (λ m. m.slot) (kept_in r goes_live)))

        left_other : (s : ℕ) → s ≢ (member_in now.members r).slot → get_or left s false ≡ get_or marks s false
        left_other s other = ap (λ ms. get_or ms s false) marks_left ∙ get_or-set_other marks (member_in now.members r).slot s false false other

        left_here : (s : ℕ) → s ≡ (member_in now.members r).slot → get_or left s false ≡ false
        left_here s same = ap (λ ms. get_or ms s false) marks_left ∙ ap (λ k. get_or (slice_set marks (member_in now.members r).slot false) k false) same ∙ gone marks (member_in now.members r).slot
          where
            gone : (ms : List Bool) (k : ℕ) → get_or (slice_set ms k false) k false ≡ false
            gone [] k = refl
            gone (m ∷ ms) zero = refl
            gone (m ∷ ms) (suc k) = gone ms k

        marked_still : IsApart base.members base.slots → (n : ℕ) → IsMember new.members n → is_marked new.members left n ≡ is_in set n
        marked_still apart n there =
            let other = apart_from n there in
            let was = before n there in
            ap (mark_of left) (same_at n other)
            ∙ marked_slot now.members left n was
            ∙ left_other (member_in now.members n).slot (other_slot apart n was other)
            ∙ sym (marked_slot now.members marks n was)
            ∙ thinned.marked n was

        owned_still : (s : ℕ) → get_or left s false ≡ true → (n : ℕ) × IsMember new.members n × ((member_in new.members n).slot ≡ s)
        owned_still s has = elim (cases_eq s (member_in now.members r).slot) [
          | inl same ↦ absurd (false≢true (sym (left_here s same) ∙ has))
          | inr other ↦
              let one = thinned.owned s (sym (left_other s other) ∙ has) in
              let apart : one.0 ≢ r = λ e. other (sym one.2 ∙ ap (λ n. (member_in now.members n).slot) e) in
              (one.0, still one.0 apart one.1, ap (λ m. (or_root m).slot) (same_at one.0 apart) ∙ one.2)
        ]

        pub thinned_more : IsApart base.members base.slots → IsThinned base set new left
        thinned_more apart = record {
          many = ap length members ∙ length-set now.members r None ∙ thinned.many;
          slots = slots ∙ thinned.slots;
          counts = λ n. counts n ∙ thinned.counts n;
          kept = λ n there. same_at n (apart_from n there) ∙ thinned.kept n (before n there);
          others = λ n out. same_at n (λ e. false≢true (sym out ∙ ap (is_in set) e ∙ goes_in)) ∙ thinned.others n out;
          marked = marked_still apart;
          owned = owned_still;
          room = omega (arith, thinned.room, ap length marks_left, length-set marks (member_in now.members r).slot false);
        }

        -- its parent may be about to go then
        pub settled_more : (turned : List ℕ) → IsSettled turned r now → IsSettled turned (parent_among now.members r) new
        settled_more turned settled n turn there other =
            let apart = apart_from n there in
            let child = child_found now.members n (settled n turn (before n there) apart) in
            let stays : child.0 ≢ r = λ e. other (sym child.2 ∙ ap (parent_among now.members) e) in
            child_there new.members n child.0 (still child.0 stays child.1) (ap (λ m. (or_root m).parent) (same_at child.0 stays) ∙ child.2)

    -- where the climb ends
    pub settled_end : (turned : List ℕ) (r : ℕ) → ((n : ℕ) → is_in turned n ≡ true → is_in set n ≡ true) → IsSettled turned r now → is_marked now.members marks r && not (has_child now.members r) ≡ false → (n : ℕ) → is_in turned n ≡ true → IsMember now.members n → has_child now.members n ≡ true
    settled_end turned r within settled stops n turn there = elim (cases_eq n r) [
      | inl same ↦ ap (has_child now.members) same ∙ has (is_marked now.members marks r) (has_child now.members r) (ap (is_marked now.members marks) (sym same) ∙ thinned.marked n there ∙ within n turn) stops
      | inr other ↦ settled n turn there other
    ]
      where
        has : (a b : Bool) → a ≡ true → a && not b ≡ false → b ≡ true
        has true true is stops = refl
        has true false is stops = sym stops
        has false b is stops = absurd (false≢true is)

    -- where all had their turn, none is left
    module _ (older : AreOlder base.members) (out : is_in set 0 ≡ false) (closed : ¬ HasChildOutside base.members set) (settled : (n : ℕ) → is_in set n ≡ true → IsMember now.members n → has_child now.members n ≡ true) where
      none_within : (d n : ℕ) → length now.members ≤ n + d → is_in set n ≡ true → IsMember now.members n → ⊥
      none_within zero n far there live = absurd (omega (arith, far, member_there now.members n live))
      none_within (suc d) n far there live =
          let child = child_found now.members n (settled n there live) in
          let k = child.0 in
          let same = thinned.kept k child.1 in
          let parent : parent_among base.members k ≡ n = ap (λ m. (or_root m).parent) (sym same) ∙ child.2 in
          let was : IsMember base.members k = subst (λ m. IsTrue (is_member m)) same child.1 in
          let later : n < k = omega (arith, older k was (omega (arith, parent, some n there)), parent) in
          none_within d k (omega (arith, far, later)) (inside k was parent (is_in set k) refl) child.1
        where
          some : (n : ℕ) → is_in set n ≡ true → 0 < n
          some zero there = absurd (false≢true (sym out ∙ there))
          some (suc n) there = omega arith

          inside : (k : ℕ) → IsMember base.members k → parent_among base.members k ≡ n → (b : Bool) → is_in set k ≡ b → is_in set k ≡ true
          inside k was parent true is = is
          inside k was parent false is = absurd (closed (k, was, is, ap (is_in set) parent ∙ there))

      none_left : (n : ℕ) → is_in set n ≡ true → ¬ IsMember now.members n
      none_left n there live = none_within (length now.members) n (omega arith) there live

      not_there : (m : Option Member) → ¬ IsTrue (is_member m) → m ≡ None
      not_there None gone = refl
      not_there (Some m) gone = absurd (gone refl)

      left_at : (n : ℕ) (b : Bool) → is_in set n ≡ b → member_at now.members n ≡ member_at (without set base.members) n
      left_at n true there = not_there (member_at now.members n) (none_left n there) ∙ sym (without_read set base.members n ∙ ap (λ b. cond b None (member_at base.members n)) there)
      left_at n false gone = thinned.others n gone ∙ sym (without_read set base.members n ∙ ap (λ b. cond b None (member_at base.members n)) gone)

      pub all_gone : now.members ≡ without set base.members
      all_gone = ext_get_or None now.members (without set base.members) (thinned.many ∙ sym (length-without set base.members)) (λ n inside. left_at n (is_in set n) refl)

      pub all_clear : AreClear marks
      all_clear s = by (get_or marks s false) refl
        where
          by : (b : Bool) → get_or marks s false ≡ b → get_or marks s false ≡ false
          by false is = is
          by true is =
              let one = thinned.owned s is in
              let marked : is_in set one.0 ≡ true = sym (thinned.marked one.0 one.1) ∙ marked_slot now.members marks one.0 one.1 ∙ ap (λ k. get_or marks k false) one.2 ∙ is in
              absurd (none_left one.0 marked one.1)
