-- A slot is taken out of its list, or is new: all others still stand in theirs.
use Rattle.std.proofs.Common.{◌≡◌, ◌≢◌, ◌<◌, inl, inr, ℕ, [], ◌∷◌, ◌++◌, Option, Some, length, sym, ap, subst, ◌∙◌, arith, length-append}
use Rattle.rc_regions.specs.declared.record.Slot.TheVariants.{Free, Root}
use Rattle.rc_regions.specs.Slots.{slot_at}
use Rattle.rc_regions.specs.Columns.{Columns, grown}
use Rattle.rc_regions.specs.Lists.{Spot, Behind, AllLinked, AllLinkedBut, follower, spot, spot_of, with_follower, unlinked}
use Rattle.rc_regions.proofs.Writes.{spot_cases, some_cases, follower_same, follower_other, slots-with_follower, previous-with_follower, slots-with_previous, follower-with_previous, previous_same, previous_other, spot_is_behind, spot_not_root, slot_at-new}

-- a slot is taken out: it was at this place, and what came behind it comes there now
module _ (c e : Columns) (s : ℕ) (all : AllLinked c) (made : s < length c.slots) (listed : slot_at c.slots s ≢ Root)
    (slots : e.slots ≡ c.slots)
    (hit : (t : ℕ) → c.next s ≡ Some t → e.previous t ≡ c.previous s)
    (miss : (t : ℕ) → c.next s ≢ Some t → e.previous t ≡ c.previous t)
    (here : follower e (spot_of c s) ≡ c.next s)
    (elsewhere : (at : Spot) → at ≢ spot_of c s → follower e at ≡ follower c at) where
  -- what came behind it had it before itself, in the same list
  before_is : (t : ℕ) → c.next s ≡ Some t → c.previous t ≡ Some s
  before_is t e1 = spot_is_behind (slot_at c.slots t) (c.previous t) s (all.stands (Behind s) t e1).1

  made_next : (t : ℕ) → c.next s ≡ Some t → t < length c.slots
  made_next t next = (all.stands (Behind s) t next).0

  not_itself : (t : ℕ) → c.next s ≡ Some t → t ≢ s
  not_itself t next same = let r = (all.neighbours t s (made_next t next) (before_is t next)).2 in let q : all.rank t ≡ all.rank s = ap all.rank same in absurd (omega (arith, r, q))

  spot_hit : (t : ℕ) → c.next s ≡ Some t → spot_of e t ≡ spot_of c s
  spot_hit t next =
      let one_list : slot_at c.slots s ≡ slot_at c.slots t = (all.neighbours t s (made_next t next) (before_is t next)).1 in
      ap (λ xs. spot (slot_at xs t) (e.previous t)) slots ∙ ap (λ o. spot (slot_at c.slots t) o) (hit t next) ∙ ap (λ l. spot l (c.previous s)) (sym one_list)

  spot_miss : (t : ℕ) → c.next s ≢ Some t → spot_of e t ≡ spot_of c t
  spot_miss t not_next = ap (λ xs. spot (slot_at xs t) (e.previous t)) slots ∙ ap (λ o. spot (slot_at c.slots t) o) (miss t not_next)

  long : (t : ℕ) → t < length c.slots → t < length e.slots
  long t below = subst (λ xs. t < length xs) (sym slots) below

  short : (t : ℕ) → t < length e.slots → t < length c.slots
  short t below = subst (λ xs. t < length xs) slots below

  stands_out : (at : Spot) (t : ℕ) → at ≢ Behind s → follower e at ≡ Some t → (t < length e.slots) × (t ≢ s) × (spot_of e t ≡ at)
  stands_out at t apart comes = elim (spot_cases at (spot_of c s)) [
    | inl same ↦
        let next : c.next s ≡ Some t = sym here ∙ ap (follower e) (sym same) ∙ comes in
        (long t (made_next t next), not_itself t next, spot_hit t next ∙ sym same)
    | inr other ↦
        let was : follower c at ≡ Some t = sym (elsewhere at other) ∙ comes in
        let there : spot_of c t ≡ at = (all.stands at t was).1 in
        let not_next : c.next s ≢ Some t = λ next. apart (sym there ∙ (all.stands (Behind s) t next).1) in
        (long t (all.stands at t was).0, (λ same. other (sym there ∙ ap (spot_of c) same)), spot_miss t not_next ∙ there)
  ]

  comes_out : (t : ℕ) → t < length e.slots → t ≢ s → slot_at e.slots t ≢ Root → follower e (spot_of e t) ≡ Some t
  comes_out t below apart not_root = elim (some_cases (c.next s) t) [
    | inl next ↦ ap (follower e) (spot_hit t next) ∙ here ∙ next
    | inr not_next ↦
        let came : follower c (spot_of c t) ≡ Some t = all.comes t (short t below) (λ root. not_root (ap (λ xs. slot_at xs t) slots ∙ root)) in
        let came_s : follower c (spot_of c s) ≡ Some s = all.comes s made listed in
        let other : spot_of c t ≢ spot_of c s = λ same. let both : Some t ≡ Some s = sym came ∙ ap (follower c) same ∙ came_s in apart (cc) in
        ap (follower e) (spot_miss t not_next) ∙ elsewhere (spot_of c t) other ∙ came
  ]

  -- what has s before it comes behind s
  next_is : (t u : ℕ) → t < length c.slots → c.previous t ≡ Some u → u ≡ s → c.next s ≡ Some t
  next_is t u below was same =
      let one_list : slot_at c.slots u ≡ slot_at c.slots t = (all.neighbours t u below was).1 in
      let not_root : slot_at c.slots t ≢ Root = λ root. listed (ap (slot_at c.slots) (sym same) ∙ one_list ∙ root) in
      sym (ap (λ o. follower c (spot (slot_at c.slots t) o)) (was ∙ ap Some same)) ∙ all.comes t below not_root

  neighbours_out : (t u : ℕ) → t < length e.slots → t ≢ s → e.previous t ≡ Some u → (u < length e.slots) × (u ≢ s) × (slot_at e.slots u ≡ slot_at e.slots t) × (all.rank u < all.rank t)
  neighbours_out t u below apart before = elim (some_cases (c.next s) t) [
    | inl next ↦
        let was : c.previous s ≡ Some u = sym (hit t next) ∙ before in
        let up = all.neighbours s u made was in
        let down = all.neighbours t s (made_next t next) (before_is t next) in
        let lower = up.2 in
        let higher = down.2 in
        (long u up.0, (λ same. let q : all.rank u ≡ all.rank s = ap all.rank same in absurd (omega (arith, lower, q))), ap (λ xs. slot_at xs u) slots ∙ up.1 ∙ down.1 ∙ ap (λ xs. slot_at xs t) (sym slots), omega (arith, lower, higher))
    | inr not_next ↦
        let was : c.previous t ≡ Some u = sym (miss t not_next) ∙ before in
        let up = all.neighbours t u (short t below) was in
        (long u up.0, (λ same. not_next (next_is t u (short t below) was same)), ap (λ xs. slot_at xs u) slots ∙ up.1 ∙ ap (λ xs. slot_at xs t) (sym slots), up.2)
  ]

  taken_out : AllLinkedBut s e
  taken_out = record { rank = all.rank; stands = stands_out; comes = comes_out; neighbours = neighbours_out }

-- a slot is taken out of its list
pub AllLinkedBut-unlinked : (c : Columns) (s : ℕ) → AllLinked c → s < length c.slots → slot_at c.slots s ≢ Root → AllLinkedBut s (unlinked c s)
AllLinkedBut-unlinked c s all made listed =
    let d : Columns = with_follower c (spot_of c s) (c.next s) in
    let kept = previous-with_follower c (spot_of c s) (c.next s) in
    taken_out c (unlinked c s) s all made listed
    (slots-with_previous d (c.next s) (c.previous s) ∙ slots-with_follower c (spot_of c s) (c.next s))
    (λ t next. previous_same d (c.next s) (c.previous s) t next)
    (λ t not_next. previous_other d (c.next s) (c.previous s) t not_next ∙ ap (λ (f : ℕ → Option ℕ). f t) kept)
    (follower-with_previous d (c.next s) (c.previous s) (spot_of c s) ∙ follower_same c (spot_of c s) (c.next s) (spot_not_root (slot_at c.slots s) (c.previous s) listed))
    (λ at apart. follower-with_previous d (c.next s) (c.previous s) at ∙ follower_other c (spot_of c s) at (c.next s) apart)

-- a new record, which stands in no list
pub AllLinkedBut-new : (c : Columns) → AllLinked c → AllLinkedBut (length c.slots) (grown c)
AllLinkedBut-new c all = record {
  rank = all.rank;
  stands = λ at s apart comes. let was = all.stands at s comes in (longer s was.0, (λ same. let low = was.0 in absurd (omega (arith, low, same))), same_spot s ∙ was.1);
  comes = λ s below apart not_root. ap (follower c) (same_spot s) ∙ all.comes s (old s below apart) (λ root. not_root (same_slot s ∙ root));
  neighbours = λ s t below apart before. let was = all.neighbours s t (old s below apart) before in (longer t was.0, (λ same. let low = was.0 in absurd (omega (arith, low, same))), same_slot t ∙ was.1 ∙ sym (same_slot s), was.2);
} where
  same_slot : (s : ℕ) → slot_at (c.slots ++ Free ∷ []) s ≡ slot_at c.slots s
  same_slot s = slot_at-new c.slots s

  same_spot : (s : ℕ) → spot (slot_at (c.slots ++ Free ∷ []) s) (c.previous s) ≡ spot_of c s
  same_spot s = ap (λ x. spot x (c.previous s)) (same_slot s)

  longer : (s : ℕ) → s < length c.slots → s < length (c.slots ++ Free ∷ [])
  longer s below = omega (arith, length-append c.slots (Free ∷ []), below)

  old : (s : ℕ) → s < length (c.slots ++ Free ∷ []) → s ≢ length c.slots → s < length c.slots
  old s below apart = omega (arith, length-append c.slots (Free ∷ []), below, apart)
