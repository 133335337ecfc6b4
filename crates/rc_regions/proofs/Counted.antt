-- How many slots are live: as many as there are slots or fewer, and more than any slot is deep.
use Rattle.std.proofs.Common.{◌≡◌, ◌<◌, ◌≤◌, ◌+◌, ◌-◌, ◌&&◌, ℕ, zero, suc, Bool, true, false, cond, ltb, List, [], ◌∷◌, ◌++◌, length, set, refl, sym, ap, ◌∙◌, rules, arith}
use Rattle.std.proofs.lemmas.List.Sums.{sum_by-cons, sum_by-set, sum_by_push, count_by-le-length}
use Rattle.std.proofs.lemmas.Bool.{ltb-true, lt-ltb}
use Rattle.rc_regions.specs.declared.record.Slot.{Slot}
use Rattle.rc_regions.specs.declared.record.Slot.TheVariants.{Free}
use Rattle.rc_regions.specs.Slots.{slot_at, is_live, IsLive, live_slots}
use Rattle.rc_regions.specs.Above.{IsRooted}
use Rattle.rc_regions.specs.Ascents.{ancestor, AreDepths}
use Rattle.rc_regions.proofs.Ancestors.{live-ancestor, depth-ancestor}

-- how many places of a list pass a test
passing : List Slot → (ℕ → Bool) → ℕ
passing [] p = 0
passing (x ∷ xs) p = cond (p 0) 1 0 + passing xs (λ s. p (suc s))

one_more_le : (a b : Bool) → (a ≡ true → b ≡ true) → cond a 1 0 ≤ cond b 1 0
one_more_le true true h = omega arith
one_more_le true false h = let e = h refl in cc
one_more_le false b h = omega arith

passing_le : (xs : List Slot) (p q : ℕ → Bool) → ((s : ℕ) → s < length xs → p s ≡ true → q s ≡ true) → passing xs p ≤ passing xs q
unfolding passing
passing_le [] p q h = omega arith
passing_le (x ∷ xs) p q h =
    let first = one_more_le (p 0) (q 0) (h 0 (omega arith)) in
    let rest = passing_le xs (λ s. p (suc s)) (λ s. q (suc s)) (λ s below. h (suc s) (omega (arith, below))) in
    omega (arith, first, rest)

passing_less : (xs : List Slot) (p q : ℕ → Bool) (i : ℕ) → ((s : ℕ) → s < length xs → p s ≡ true → q s ≡ true) → i < length xs → p i ≡ false → q i ≡ true → passing xs p < passing xs q
unfolding passing
passing_less [] p q i h below fails passes = absurd (omega (arith, below))
passing_less (x ∷ xs) p q zero h below fails passes =
    let rest = passing_le xs (λ s. p (suc s)) (λ s. q (suc s)) (λ s low. h (suc s) (omega (arith, low))) in
    let count : Bool → ℕ = λ b. cond b 1 0 in
    let a : count (p 0) ≡ 0 = ap count fails in
    let b : count (q 0) ≡ 1 = ap count passes in
    omega (arith, rest, a, b)
passing_less (x ∷ xs) p q (suc i) h below fails passes =
    let first = one_more_le (p 0) (q 0) (h 0 (omega arith)) in
    let rest = passing_less xs (λ s. p (suc s)) (λ s. q (suc s)) i (λ s low. h (suc s) (omega (arith, low))) (omega (arith, below)) fails passes in
    omega (arith, first, rest)

passing_all : (xs : List Slot) → passing xs (λ _. true) ≡ length xs
unfolding passing
passing_all [] = refl
passing_all (x ∷ xs) = let rest = passing_all xs in omega (arith, rest)

passing_live : (xs : List Slot) → passing xs (λ s. is_live (slot_at xs s)) ≡ live_slots xs
unfolding passing
passing_live [] = refl
passing_live (x ∷ xs) = let rest = passing_live xs in ap (λ n. cond (is_live x) 1 0 + n) rest ∙ sym (sum_by-cons (λ y. cond (is_live y) 1 0) x xs)

-- where a slot is free, fewer are live than there are
pub live_slots-less : (slots : List Slot) (s : ℕ) → s < length slots → slot_at slots s ≡ Free → live_slots slots < length slots
live_slots-less slots s below free =
    let less = passing_less slots (λ t. is_live (slot_at slots t)) (λ _. true) s (λ t low passes. refl) below (ap is_live free) refl in
    omega (arith, less, passing_live slots, passing_all slots)

-- where none is free, all are live
pub live_slots-all : (slots : List Slot) → ((s : ℕ) → s < length slots → IsLive slots s) → live_slots slots ≡ length slots
live_slots-all slots live =
    let most = passing_le slots (λ _. true) (λ t. is_live (slot_at slots t)) (λ t low passes. search (rules, live t low)) in
    omega (arith, most, passing_live slots, passing_all slots, count_by-le-length is_live slots)

-- a slot more, or one fewer, is live
pub live_slots-set : (slots : List Slot) (s : ℕ) (x : Slot) → s < length slots → live_slots (set slots s x) + cond (is_live (slot_at slots s)) 1 0 ≡ live_slots slots + cond (is_live x) 1 0
live_slots-set slots s x below = sum_by-set (λ y. cond (is_live y) 1 0) slots s x Free below

pub live_slots-new : (slots : List Slot) → live_slots (slots ++ Free ∷ []) ≡ live_slots slots
live_slots-new slots = let more : live_slots (slots ++ Free ∷ []) ≡ live_slots slots + 0 = sum_by_push (λ y. cond (is_live y) 1 0) slots Free in omega (arith, more)

-- a live slot has a record
pub live_made : (slots : List Slot) (s : ℕ) → IsLive slots s → s < length slots
live_made [] s live = absurd (cc live)
live_made (x ∷ xs) zero live = omega arith
live_made (x ∷ xs) (suc s) live = omega (arith, live_made xs s live)

both : (a b : Bool) → a ≡ true → b ≡ true → (a && b) ≡ true
both true b first second = second
both false b first second = cc

parts : (a b : Bool) → (a && b) ≡ true → (a ≡ true) × (b ≡ true)
parts true b e = (refl, e)
parts false b e = cc

not_both : (a b : Bool) → b ≡ false → (a && b) ≡ false
not_both true b e = e
not_both false b e = refl

not_below : (n : ℕ) → ltb n n ≡ false
not_below n = search rules

module _ (slots : List Slot) (rooted : IsRooted slots) (depth : ℕ → ℕ) (depths : AreDepths slots depth) where
  shallow : ℕ → ℕ → Bool
  shallow n s = is_live (slot_at slots s) && ltb (depth s) n

  deeper : (n s : ℕ) → shallow n s ≡ true → shallow (suc n) s ≡ true
  unfolding shallow
  deeper n s passes =
      let was = parts (is_live (slot_at slots s)) (ltb (depth s) n) passes in
      let low = ltb-true (depth s) n was.1 in
      both (is_live (slot_at slots s)) (ltb (depth s) (suc n)) was.0 (lt-ltb (depth s) (suc n) (omega (arith, low)))

  at_depth : (n s : ℕ) → IsLive slots s → depth s ≡ n → (shallow n s ≡ false) × (shallow (suc n) s ≡ true)
  unfolding shallow
  at_depth n s live deep = (
    not_both (is_live (slot_at slots s)) (ltb (depth s) n) (ap (λ d. ltb d n) deep ∙ not_below n),
    both (is_live (slot_at slots s)) (ltb (depth s) (suc n)) live (lt-ltb (depth s) (suc n) (omega (arith, deep))),
  )

  -- there is a live slot of each depth up to that of a live slot
  shallow_many : (n s : ℕ) → IsLive slots s → n ≤ suc (depth s) → n ≤ passing slots (shallow n)
  shallow_many zero s live low = omega arith
  shallow_many (suc n) s live low =
      let fewer = shallow_many n s live (omega (arith, low)) in
      let up : ℕ = depth s - n in
      let t : ℕ = ancestor slots up s in
      let climbed : depth t + up ≡ depth s = depth-ancestor slots rooted depth depths up s live (omega (arith, low)) in
      let t_live : IsLive slots t = live-ancestor slots rooted up s live in
      let at = at_depth n t t_live (omega (arith, climbed, low)) in
      let more = passing_less slots (shallow n) (shallow (suc n)) t (λ u below passes. deeper n u passes) (live_made slots t t_live) at.0 at.1 in
      omega (arith, fewer, more)

  shallow_few : (n : ℕ) → passing slots (shallow n) ≤ live_slots slots
  unfolding shallow
  shallow_few n =
      let most = passing_le slots (shallow n) (λ s. is_live (slot_at slots s)) (λ s below passes. (parts (is_live (slot_at slots s)) (ltb (depth s) n) passes).0) in
      omega (arith, most, passing_live slots)

  pub depth_less : (s : ℕ) → IsLive slots s → depth s < live_slots slots
  depth_less s live = omega (arith, shallow_many (suc (depth s)) s live (omega arith), shallow_few (suc (depth s)))
