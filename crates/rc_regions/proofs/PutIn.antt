-- A slot that stands in no list is put into one: then all slots stand in theirs.
use Rattle.std.proofs.Common.{◌≡◌, ◌≢◌, ◌<◌, inl, inr, ℕ, suc, Option, Some, None, length, set, refl, sym, ap, subst, ◌∙◌, arith, length-set}
use Rattle.std.proofs.lemmas.Bool.{cases_eq}
use Rattle.rc_regions.specs.declared.record.Slot.{Slot}
use Rattle.rc_regions.specs.declared.record.Slot.TheVariants.{Root}
use Rattle.rc_regions.specs.Slots.{slot_at}
use Rattle.rc_regions.specs.Columns.{Columns, written}
use Rattle.rc_regions.specs.Lists.{Spot, Head, Behind, AllLinked, AllLinkedBut, first_of, follower, spot, spot_of, with_previous, placed, linked}
use Rattle.rc_regions.proofs.Writes.{written_same, written_other, spot_cases, some_cases, follower_same, follower_other, slots-with_follower, previous-with_follower, slots-with_previous, follower-with_previous, previous_same, previous_other, spot_is_behind, spot_is_head, follower-placed, slot_at_same, slot_at_other}

-- a loose slot is put at the head of a list
module _ (c e : Columns) (s : ℕ) (list : Slot) (all : AllLinkedBut s c) (made : s < length c.slots) (listed : list ≢ Root)
    (slots : e.slots ≡ set c.slots s list)
    (itself : e.previous s ≡ None)
    (hit : (t : ℕ) → t ≢ s → first_of c list ≡ Some t → e.previous t ≡ Some s)
    (miss : (t : ℕ) → t ≢ s → first_of c list ≢ Some t → e.previous t ≡ c.previous t)
    (at_head : follower e (Head list) ≡ Some s)
    (behind : follower e (Behind s) ≡ first_of c list)
    (elsewhere : (at : Spot) → at ≢ Head list → at ≢ Behind s → follower e at ≡ follower c at) where
  same_length : length e.slots ≡ length c.slots
  same_length = ap length slots ∙ length-set c.slots s list

  long : (t : ℕ) → t < length c.slots → t < length e.slots
  long t below = let same = same_length in omega (arith, below, same)

  short : (t : ℕ) → t < length e.slots → t < length c.slots
  short t below = let same = same_length in omega (arith, below, same)

  slot_itself : slot_at e.slots s ≡ list
  slot_itself = ap (λ xs. slot_at xs s) slots ∙ slot_at_same c.slots s list made

  slot_other : (t : ℕ) → t ≢ s → slot_at e.slots t ≡ slot_at c.slots t
  slot_other t apart = ap (λ xs. slot_at xs t) slots ∙ slot_at_other c.slots s t list apart

  spot_itself : spot_of e s ≡ Head list
  spot_itself = ap (spot (slot_at e.slots s)) itself ∙ ap Head slot_itself

  spot_hit : (t : ℕ) → t ≢ s → first_of c list ≡ Some t → spot_of e t ≡ Behind s
  spot_hit t apart first = ap (spot (slot_at e.slots t)) (hit t apart first)

  spot_miss : (t : ℕ) → t ≢ s → first_of c list ≢ Some t → spot_of e t ≡ spot_of c t
  spot_miss t apart not_first = ap (spot (slot_at e.slots t)) (miss t apart not_first) ∙ ap (λ l. spot l (c.previous t)) (slot_other t apart)

  head_apart : Head list ≢ Behind s
  head_apart same = cc

  -- the first of the list before
  first_was : (t : ℕ) → first_of c list ≡ Some t → (t < length c.slots) × (t ≢ s) × (spot_of c t ≡ Head list)
  first_was t first = all.stands (Head list) t head_apart first

  stands_in : (at : Spot) (t : ℕ) → follower e at ≡ Some t → (t < length e.slots) × (spot_of e t ≡ at)
  stands_in at t comes = elim (spot_cases at (Head list)) [
    | inl is_head ↦
        let same : Some t ≡ Some s = sym comes ∙ ap (follower e) is_head ∙ at_head in
        let is_s : t ≡ s = cc in
        (long t (subst (λ n. n < length c.slots) (sym is_s) made), ap (spot_of e) is_s ∙ spot_itself ∙ sym is_head)
    | inr not_head ↦ elim (spot_cases at (Behind s)) [
      | inl is_behind ↦
          let first : first_of c list ≡ Some t = sym behind ∙ ap (follower e) (sym is_behind) ∙ comes in
          let was = first_was t first in
          (long t was.0, spot_hit t was.1 first ∙ sym is_behind)
      | inr not_behind ↦
          let was = all.stands at t not_behind (sym (elsewhere at not_head not_behind) ∙ comes) in
          let there : spot_of c t ≡ at = was.2 in
          (long t was.0, spot_miss t was.1 (λ first. not_head (sym there ∙ (first_was t first).2)) ∙ there)
    ]
  ]

  comes_in : (t : ℕ) → t < length e.slots → slot_at e.slots t ≢ Root → follower e (spot_of e t) ≡ Some t
  comes_in t below not_root = elim (cases_eq t s) [
    | inl same ↦ ap (λ n. follower e (spot_of e n)) same ∙ ap (follower e) spot_itself ∙ at_head ∙ ap Some (sym same)
    | inr apart ↦ elim (some_cases (first_of c list) t) [
      | inl first ↦ ap (follower e) (spot_hit t apart first) ∙ behind ∙ first
      | inr not_first ↦
          let came : follower c (spot_of c t) ≡ Some t = all.comes t (short t below) apart (λ root. not_root (slot_other t apart ∙ root)) in
          let not_head : spot_of c t ≢ Head list = λ same. not_first (ap (follower c) (sym same) ∙ came) in
          let not_behind : spot_of c t ≢ Behind s = λ same. (all.neighbours t s (short t below) apart (spot_is_behind (slot_at c.slots t) (c.previous t) s same)).1 refl in
          ap (follower e) (spot_miss t apart not_first) ∙ elsewhere (spot_of c t) not_head not_behind ∙ came
    ]
  ]

  ranks : ℕ → ℕ
  ranks = written (λ t. suc (all.rank t)) s 0

  neighbours_in : (t u : ℕ) → t < length e.slots → e.previous t ≡ Some u → (u < length e.slots) × (slot_at e.slots u ≡ slot_at e.slots t) × (ranks u < ranks t)
  unfolding ranks
  neighbours_in t u below before = elim (cases_eq t s) [
    | inl same ↦ let none : None ≡ Some u = sym itself ∙ ap e.previous (sym same) ∙ before in cc
    | inr apart ↦ elim (some_cases (first_of c list) t) [
      | inl first ↦
          let some : Some s ≡ Some u = sym (hit t apart first) ∙ before in
          let is_s : u ≡ s = cc in
          let rank_u : ranks u ≡ 0 = ap ranks is_s ∙ written_same (λ n. suc (all.rank n)) s 0 in
          let rank_t : ranks t ≡ suc (all.rank t) = written_other (λ n. suc (all.rank n)) s t 0 apart in
          let one_list : slot_at c.slots t ≡ list = (spot_is_head (slot_at c.slots t) list (c.previous t) (first_was t first).2).1 in
          (long u (subst (λ n. n < length c.slots) (sym is_s) made), ap (slot_at e.slots) is_s ∙ slot_itself ∙ sym one_list ∙ sym (slot_other t apart), omega (arith, rank_u, rank_t))
      | inr not_first ↦
          let was = all.neighbours t u (short t below) apart (sym (miss t apart not_first) ∙ before) in
          let lower = was.3 in
          let rank_u : ranks u ≡ suc (all.rank u) = written_other (λ n. suc (all.rank n)) s u 0 was.1 in
          let rank_t : ranks t ≡ suc (all.rank t) = written_other (λ n. suc (all.rank n)) s t 0 apart in
          (long u was.0, slot_other u was.1 ∙ was.2 ∙ sym (slot_other t apart), omega (arith, rank_u, rank_t, lower))
    ]
  ]

  put_in : AllLinked e
  put_in = record { rank = ranks; stands = stands_in; comes = comes_in; neighbours = neighbours_in }

-- a slot that stands in no list is put at the head of one
pub AllLinked-linked : (c : Columns) (s : ℕ) (list : Slot) → AllLinkedBut s c → s < length c.slots → list ≢ Root → AllLinked (linked c s list)
AllLinked-linked c s list all made listed =
    let next : Option ℕ = first_of c list in
    let b : Columns = with_previous c next (Some s) in
    let d : Columns = placed b s list next in
    let apart_head : (at : Spot) → at ≢ Head list → follower (linked c s list) at ≡ follower d at = λ at apart. follower_other d (Head list) at (Some s) apart in
    let kept = previous-with_follower d (Head list) (Some s) in
    let head_listed : Head list ≢ Head Root = λ same. listed (cc) in
    put_in c (linked c s list) s list all made listed
    (slots-with_follower d (Head list) (Some s) ∙ ap (λ xs. set xs s list) (slots-with_previous c next (Some s)))
    (ap (λ (f : ℕ → Option ℕ). f s) kept ∙ written_same b.previous s None)
    (λ t apart first. ap (λ (f : ℕ → Option ℕ). f t) kept ∙ written_other b.previous s t None apart ∙ previous_same c next (Some s) t first)
    (λ t apart not_first. ap (λ (f : ℕ → Option ℕ). f t) kept ∙ written_other b.previous s t None apart ∙ previous_other c next (Some s) t not_first)
    (follower_same d (Head list) (Some s) head_listed)
    (apart_head (Behind s) (λ same. let other : Behind s ≡ Head list = same in cc) ∙ written_same b.next s next)
    (λ at not_head not_behind. apart_head at not_head ∙ follower-placed b s list next at not_behind ∙ follower-with_previous c next (Some s) at)
