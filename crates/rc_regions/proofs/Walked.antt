-- The slots of a list, one after the other: each slot of the list is met, and none twice.
use Rattle.std.proofs.Common.{◌≡◌, ◌<◌, ◌≤◌, ◌∙◌, ◌-◌, ◌+◌, ◌⊎◌, inl, inr, ℕ, zero, suc, Bool, true, false, eqb, List, [], ◌∷◌, Option, Some, None, length, refl, sym, ap, subst, arith, rules}
use Rattle.std.specs.Prelude.{◌||◌}
use Rattle.std.specs.List.{AllByRecursion, IsDistinct, list_any}
use Rattle.std.proofs.lemmas.Bool.{cases_lt, false≢true}
use Rattle.std.proofs.lemmas.Map.Keys.{IsDistinct-cons}
use Rattle.std.proofs.lemmas.Map.Steps.{length-le_from_distinct_below}
use Rattle.rc_regions.specs.declared.record.Slot.{Slot}
use Rattle.rc_regions.specs.declared.record.Slot.TheVariants.{Child, Root}
use Rattle.rc_regions.specs.Columns.{Columns}
use Rattle.rc_regions.specs.Lists.{AllLinked, Behind, Head, follower, spot, spot_of}
use Rattle.rc_regions.specs.Slots.{is_live, slot_at}
use Rattle.rc_regions.proofs.Counted.{live_made}
use Rattle.rc_regions.proofs.Writes.{spot_is_head}

abbrev pub after : (next : ℕ → Option ℕ) → Option ℕ → Option ℕ
after next None = None
after next (Some s) = next s

-- the slot that is met after so many others
abbrev pub walk : (next : ℕ → Option ℕ) → (first : Option ℕ) → ℕ → Option ℕ
walk next first zero = first
walk next first (suc n) = after next (walk next first n)

module _ (c : Columns) (linked : AllLinked c) (p : ℕ) where
  abbrev met : ℕ → Option ℕ
  met n = walk c.next (c.first_child p) n

  after_some : (o : Option ℕ) (s : ℕ) → after c.next o ≡ Some s → (t : ℕ) × (o ≡ Some t) × (c.next t ≡ Some s)
  after_some None s is = cc
  after_some (Some t) s is = (t, refl, is)

  behind : (s t : ℕ) → c.next t ≡ Some s → (s < length c.slots) × (spot_of c s ≡ Behind t)
  behind s t next = linked.stands (Behind t) s next

  spot_is_behind : (list : Slot) (o : Option ℕ) (t : ℕ) → spot list o ≡ Behind t → o ≡ Some t
  spot_is_behind list None t is = cc
  spot_is_behind list (Some s) t is = cc

  -- each is a child
  pub met_child : (n s : ℕ) → met n ≡ Some s → (s < length c.slots) × (slot_at c.slots s ≡ Child p)
  met_child zero s is =
      let stands = linked.stands (Head (Child p)) s is in
      (stands.0, (spot_is_head (slot_at c.slots s) (Child p) (c.previous s) stands.1).1)
  met_child (suc n) s is =
      let before = after_some (met n) s is in
      let stands = behind s before.0 before.2 in
      let was = linked.neighbours s before.0 stands.0 (spot_is_behind (slot_at c.slots s) (c.previous s) before.0 stands.1) in
      (stands.0, sym was.1 ∙ (met_child n before.0 before.1).1)

  -- and each child is met
  met_within : (n s : ℕ) → linked.rank s < n → s < length c.slots → slot_at c.slots s ≡ Child p → (k : ℕ) × (met k ≡ Some s)
  met_within zero s low made child = absurd (omega (arith, low))
  met_within (suc n) s low made child = by_previous (met_within n) (c.previous s) refl
    where
      came : follower c (spot_of c s) ≡ Some s
      came = linked.comes s made (λ root. (let clash : Child p ≡ Root = sym child ∙ root in cc))

      by_previous : ((t : ℕ) → linked.rank t < n → t < length c.slots → slot_at c.slots t ≡ Child p → (k : ℕ) × (met k ≡ Some t)) → (o : Option ℕ) → c.previous s ≡ o → (k : ℕ) × (met k ≡ Some s)
      by_previous rest None first = (0, sym (ap (follower c) (ap (λ o. spot (slot_at c.slots s) o) first ∙ ap Head child)) ∙ came)
      by_previous rest (Some t) before =
          let was = linked.neighbours s t made before in
          let lower = was.2 in
          let earlier = rest t (omega (arith, low, lower)) was.0 (was.1 ∙ child) in
          (suc earlier.0, ap (after c.next) earlier.1 ∙ sym (ap (follower c) (ap (λ o. spot (slot_at c.slots s) o) before)) ∙ came)

  pub child_met : (s : ℕ) → slot_at c.slots s ≡ Child p → (k : ℕ) × (met k ≡ Some s)
  child_met s child = met_within (suc (linked.rank s)) s (omega arith) (live_made c.slots s (ap is_live child)) child

  -- those that were met, the last one first
  record Seen (n s : ℕ) : Type 0 where
    list : List ℕ
    many : length list ≡ suc n
    distinct : IsDistinct eqb list
    inside : (q : ℕ) → list_any (eqb q) list ≡ true → (q < length c.slots) × (linked.rank q ≤ linked.rank s)

  either : (a b : Bool) → a || b ≡ true → (a ≡ true) ⊎ (b ≡ true)
  either true b holds = inl refl
  either false b holds = inr holds

  same_number : (m n : ℕ) → eqb m n ≡ true → m ≡ n
  same_number m n same = search (rules, same)

  one_in : (q s : ℕ) → list_any (eqb q) (s ∷ []) ≡ true → q ≡ s
  one_in q s there = elim (either (eqb q s) false there) [ inl same ↦ same_number q s same | inr none ↦ absurd (false≢true none) ]

  not_true : (b : Bool) → ¬ (b ≡ true) → b ≡ false
  not_true true never = absurd (never refl)
  not_true false never = refl

  none_false : (a b : Bool) → a || b ≡ false → (a ≡ false) × (b ≡ false)
  none_false true b none = absurd (false≢true (sym none))
  none_false false b none = (refl, none)

  all_apart : (s : ℕ) (xs : List ℕ) → list_any (eqb s) xs ≡ false → AllByRecursion (λ y. eqb s y ≡ false) xs
  all_apart s [] none = tt
  all_apart s (x ∷ xs) none = let both = none_false (eqb s x) (list_any (eqb s) xs) none in (both.0, all_apart s xs both.1)

  distinct_none : IsDistinct eqb []
  unfolding IsDistinct
  distinct_none = tt

  seen : (n s : ℕ) → met n ≡ Some s → Seen n s
  seen zero s is = record {
    list = s ∷ [];
    many = refl;
    distinct = IsDistinct-cons eqb s [] tt distinct_none;
    inside = λ q there. (let same = one_in q s there in (subst (λ k. k < length c.slots) (sym same) (met_child zero s is).0, omega (arith, ap linked.rank same)));
  }
  seen (suc n) s is =
      let before = after_some (met n) s is in
      let stands = behind s before.0 before.2 in
      let was = linked.neighbours s before.0 stands.0 (spot_is_behind (slot_at c.slots s) (c.previous s) before.0 stands.1) in
      let lower = was.2 in
      let rest = seen n before.0 before.1 in
      record {
        list = s ∷ rest.list;
        many = ap suc rest.many;
        distinct = IsDistinct-cons eqb s rest.list (all_apart s rest.list (not_true (list_any (eqb s) rest.list) (λ there. absurd (omega (arith, (rest.inside s there).1, lower))))) rest.distinct;
        inside = λ q there. elim (either (eqb q s) (list_any (eqb q) rest.list) there) [
          | inl same ↦ let is_s = same_number q s same in (subst (λ k. k < length c.slots) (sym is_s) stands.0, omega (arith, ap linked.rank is_s))
          | inr old ↦ let one = rest.inside q old in (one.0, omega (arith, one.1, lower))
        ];
      }

  -- so there are no more than slots
  pub met_few : (n s : ℕ) → met n ≡ Some s → n < length c.slots
  met_few n s is =
      let all = seen n s is in
      let few = length-le_from_distinct_below all.list (length c.slots) all.distinct (λ q there. (all.inside q there).0) in
      omega (arith, few, all.many)

  -- behind the last there is none
  none_behind : (n d : ℕ) → met n ≡ None → met (d + n) ≡ None
  none_behind n zero none = ap met (let same : 0 + n ≡ n = omega arith in same) ∙ none
  none_behind n (suc d) none = ap met (let more : suc d + n ≡ suc (d + n) = omega arith in more) ∙ ap (after c.next) (none_behind n d none)

  none_after : (n k : ℕ) → met n ≡ None → n ≤ k → met k ≡ None
  none_after n k none far = ap met (let split : k ≡ (k - n) + n = omega (arith, far) in split) ∙ none_behind n (k - n) none

  pub met_end : (n : ℕ) → length c.slots ≤ n → met n ≡ None
  met_end n far = by (met n) refl
    where
      by : (o : Option ℕ) → met n ≡ o → met n ≡ None
      by None is = is
      by (Some s) is = absurd (omega (arith, met_few n s is, far))

  -- where so many were met and no more comes, all were
  pub met_before : (n s : ℕ) → met n ≡ None → slot_at c.slots s ≡ Child p → (k : ℕ) × (k < n) × (met k ≡ Some s)
  met_before n s none child =
      let there = child_met s child in
      (there.0, below n there.0 there.1 none, there.1)
    where
      below : (n k : ℕ) → met k ≡ Some s → met n ≡ None → k < n
      below n k is none = elim (cases_lt k n) [
        | inl less ↦ less
        | inr past ↦ (let clash : None ≡ Some s = sym (none_after n k none past) ∙ is in cc)
      ]
