-- Marks that are set, slot by slot, and sets of numbers.
use Rattle.std.proofs.Common.{◌≡◌, ◌≢◌, ◌<◌, ◌≤◌, ◌∙◌, ◌⊎◌, inl, inr, ℕ, zero, suc, Bool, true, false, cond, nat_eq, IsTrue, List, [], ◌∷◌, Option, Some, None, length, get_or, set as slice_set, take, refl, sym, ap, subst, arith, rules, get_or-set_other, get_or-set_same, length-set}
use Rattle.std.specs.Prelude.{◌||◌, ◌&&◌, ◌↔◌, All, Contains}
use Rattle.std.specs.List.{list_any}
use Rattle.std.proofs.lemmas.Bool.{cases_eq, false≢true}
use Rattle.rc_store.specs.Sets.{is_in}
use Rattle.rc_slots.specs.Entries.{Member}
use Rattle.rc_registry.specs.Registries.{HasUnmarkedChild, IsApart, IsMember, Members, at_slots, is_marked, is_member, is_slot_of, mark_of, member_at, member_in, or_root, parent_among}
use Rattle.rc_registry.specs.Groups.{AreClear, HasChildOutside, HasUnmarkedAmong}

either : (a b : Bool) → a || b ≡ true → (a ≡ true) ⊎ (b ≡ true)
either true b holds = inl refl
either false b holds = inr holds

right_true : (a b : Bool) → b ≡ true → a || b ≡ true
right_true true b holds = refl
right_true false b holds = holds

left_true : (a b : Bool) → a ≡ true → a || b ≡ true
left_true true b holds = refl
left_true false b holds = absurd (false≢true holds)

pub same_number : (m n : ℕ) → nat_eq m n ≡ true → m ≡ n
same_number m n same = search (rules, same)

number_itself : (n : ℕ) → nat_eq n n ≡ true
number_itself n = search rules

number_other : (m n : ℕ) → m ≢ n → nat_eq m n ≡ false
number_other m n other = search (rules, other)

-- a number of a set
pub in_place : (set : List ℕ) (k d : ℕ) → k < length set → is_in set (get_or set k d) ≡ true
in_place [] k d inside = absurd (omega (arith, inside))
in_place (n ∷ ns) zero d inside = left_true (nat_eq n n) (list_any (nat_eq n) ns) (number_itself n)
in_place (n ∷ ns) (suc k) d inside = right_true (nat_eq (get_or ns k d) n) (list_any (nat_eq (get_or ns k d)) ns) (in_place ns k d (omega (arith, inside)))

pub place_of : (set : List ℕ) (n : ℕ) → is_in set n ≡ true → Contains set n
place_of [] n there = absurd (false≢true there)
place_of (m ∷ ms) n there = elim (either (nat_eq n m) (list_any (nat_eq n) ms) there) [
  | inl same ↦ (0, omega arith, sym (same_number n m same))
  | inr later ↦ let rest = place_of ms n later in (suc rest.0, omega (arith, rest.1), rest.2)
]

pub contained : (set : List ℕ) (n : ℕ) → Contains set n → is_in set n ≡ true
contained set n there = ap (is_in set) (sym there.2) ∙ in_place set there.0 n there.1

pub of_all : (P : ℕ → Type 0) (set : List ℕ) (n : ℕ) → All P set → is_in set n ≡ true → P n
of_all P set n all there = let place = place_of set n there in subst P place.2 (all place.0 n place.1)

pub not_in : (set : List ℕ) (n : ℕ) → ¬ Contains set n → is_in set n ≡ false
not_in set n never = by (is_in set n) refl
  where
    by : (b : Bool) → is_in set n ≡ b → is_in set n ≡ false
    by true there = absurd (never (place_of set n there))
    by false none = none

module _ (members : Members) where
  abbrev slot_of : ℕ → ℕ
  slot_of n = (member_in members n).slot

  pub hit : (set : List ℕ) (n : ℕ) → is_in set n ≡ true → is_slot_of members set (slot_of n) ≡ true
  hit [] n there = absurd (false≢true there)
  hit (m ∷ ms) n there = elim (either (nat_eq n m) (list_any (nat_eq n) ms) there) [
    | inl same ↦ left_true (nat_eq (slot_of m) (slot_of n)) (is_slot_of members ms (slot_of n)) (ap (λ k. nat_eq (slot_of k) (slot_of n)) (sym (same_number n m same)) ∙ number_itself (slot_of n))
    | inr later ↦ right_true (nat_eq (slot_of m) (slot_of n)) (is_slot_of members ms (slot_of n)) (hit ms n later)
  ]

  pub hit_by : (set : List ℕ) (s : ℕ) → is_slot_of members set s ≡ true → (n : ℕ) × (is_in set n ≡ true) × (slot_of n ≡ s)
  hit_by [] s there = absurd (false≢true there)
  hit_by (m ∷ ms) s there = elim (either (nat_eq (slot_of m) s) (is_slot_of members ms s) there) [
    | inl same ↦ (m, left_true (nat_eq m m) (list_any (nat_eq m) ms) (number_itself m), same_number (slot_of m) s same)
    | inr later ↦ let rest = hit_by ms s later in (rest.0, right_true (nat_eq rest.0 m) (list_any (nat_eq rest.0) ms) rest.1, rest.2)
  ]

  -- what each slot has then
  pub set_read : {A : Type 0} (item d : A) (set : List ℕ) (items : List A) (s : ℕ) → ((n : ℕ) → is_in set n ≡ true → slot_of n < length items) → get_or (at_slots members item set items) s d ≡ cond (is_slot_of members set s) item (get_or items s d)
  set_read item d [] items s inside = refl
  set_read {A} item d (m ∷ ms) items s inside =
      let here : slot_of m < length items = inside m (left_true (nat_eq m m) (list_any (nat_eq m) ms) (number_itself m)) in
      let rest = set_read item d ms (slice_set items (slot_of m) item) s (λ n there. omega (arith, inside n (right_true (nat_eq n m) (list_any (nat_eq n) ms) there), length-set items (slot_of m) item)) in
      rest ∙ by here (cases_eq s (slot_of m))
    where
      behind : (b : Bool) → cond {A = A} b item item ≡ item
      behind true = refl
      behind false = refl

      by : slot_of m < length items → (s ≡ slot_of m) ⊎ (s ≢ slot_of m) → cond (is_slot_of members ms s) item (get_or (slice_set items (slot_of m) item) s d) ≡ cond (nat_eq (slot_of m) s || is_slot_of members ms s) item (get_or items s d)
      by here (inl same) =
          ap (λ k. cond (is_slot_of members ms s) item (get_or (slice_set items (slot_of m) item) k d)) same
          ∙ ap (λ b. cond (is_slot_of members ms s) item b) (get_or-set_same items (slot_of m) item d here)
          ∙ behind (is_slot_of members ms s)
          ∙ sym (ap (λ b. cond (b || is_slot_of members ms s) item (get_or items s d)) (ap (nat_eq (slot_of m)) same ∙ number_itself (slot_of m)))
      by here (inr apart) =
          ap (λ b. cond (is_slot_of members ms s) item b) (get_or-set_other items (slot_of m) s item d apart)
          ∙ sym (ap (λ b. cond (b || is_slot_of members ms s) item (get_or items s d)) (number_other (slot_of m) s (λ e. apart (sym e))))

  pub length-at_slots : {A : Type 0} (item : A) (set : List ℕ) (items : List A) → length (at_slots members item set items) ≡ length items
  length-at_slots item [] items = refl
  length-at_slots item (m ∷ ms) items = length-at_slots item ms (slice_set items (slot_of m) item) ∙ length-set items (slot_of m) item

  mark_here : (marks : List Bool) (m : Option Member) → IsTrue (is_member m) → mark_of marks m ≡ get_or marks (or_root m).slot false
  mark_here marks None live = absurd (false≢true live)
  mark_here marks (Some m) live = refl

  pub marked_slot : (marks : List Bool) (n : ℕ) → IsMember members n → is_marked members marks n ≡ get_or marks (slot_of n) false
  marked_slot marks n live = mark_here marks (member_at members n) live

  pub marked_live : (marks : List Bool) (n : ℕ) → is_marked members marks n ≡ true → IsMember members n
  marked_live marks n marked = by (member_at members n) marked
    where
      by : (m : Option Member) → mark_of marks m ≡ true → IsTrue (is_member m)
      by None marked = absurd (false≢true marked)
      by (Some m) marked = refl

  -- a set of live regions is marked
  module _ (slots : ℕ) (apart : IsApart members slots) (set : List ℕ) (live : All (IsMember members) set) where
    pub slot_below : (n : ℕ) → is_in set n ≡ true → slot_of n < slots
    slot_below n there = apart.below n (of_all (IsMember members) set n live there)

    pub hit_is : (n : ℕ) → IsMember members n → is_slot_of members set (slot_of n) ≡ is_in set n
    hit_is n here = by (is_in set n) refl (is_slot_of members set (slot_of n)) refl
      where
        by : (b : Bool) → is_in set n ≡ b → (h : Bool) → is_slot_of members set (slot_of n) ≡ h → is_slot_of members set (slot_of n) ≡ is_in set n
        by true there h is = hit set n there ∙ sym there
        by false none false is = is ∙ sym none
        by false none true is =
            let by_one = hit_by set (slot_of n) is in
            let same = apart.apart by_one.0 n (of_all (IsMember members) set by_one.0 live by_one.1) here by_one.2 in
            absurd (false≢true (sym none ∙ ap (is_in set) (sym same) ∙ by_one.1))

    module _ (marks : List Bool) (room : slots ≤ length marks) (clear : AreClear marks) where
      slot_inside : (n : ℕ) → is_in set n ≡ true → slot_of n < length marks
      slot_inside n there = omega (arith, slot_below n there, room)

      abbrev marked : List Bool
      marked = at_slots members true set marks

      marked_read : (s : ℕ) → get_or marked s false ≡ is_slot_of members set s
      marked_read s = set_read true false set marks s slot_inside ∙ ap (λ b. cond (is_slot_of members set s) true b) (clear s) ∙ itself (is_slot_of members set s)
        where
          itself : (b : Bool) → cond b true false ≡ b
          itself true = refl
          itself false = refl

      pub marked_is : (n : ℕ) → IsMember members n → is_marked members marked n ≡ is_in set n
      marked_is n here = marked_slot marked n here ∙ marked_read (slot_of n) ∙ hit_is n here

      pub marked_by : (s : ℕ) → get_or marked s false ≡ true → (n : ℕ) × IsMember members n × (slot_of n ≡ s)
      marked_by s is = let one = hit_by set s (sym (marked_read s) ∙ is) in (one.0, of_all (IsMember members) set one.0 live one.1, one.2)

      -- and the marks are taken away
      pub cleared : AreClear (at_slots members false set marked)
      cleared s =
          set_read false false set marked s (λ n there. omega (arith, slot_inside n there, length-at_slots true set marks))
          ∙ ap (λ b. cond (is_slot_of members set s) false b) (marked_read s)
          ∙ none (is_slot_of members set s)
        where
          none : (b : Bool) → cond b false b ≡ false
          none true = refl
          none false = refl

-- a child without a mark is one outside, where the set is marked
pub outside_is : (members : Members) (set : List ℕ) (marks : List Bool) → ((n : ℕ) → IsMember members n → is_marked members marks n ≡ is_in set n) → (result : Bool) → IsTrue result ↔ HasUnmarkedAmong members set marks → IsTrue result ↔ HasChildOutside members set
outside_is members set marks same result is = (
  (λ yes. let has = is.0 yes in (has.0, has.1, sym (same has.0 has.1) ∙ has.2, has.3)),
  (λ has. is.1 (has.0, has.1, same has.0 has.1 ∙ has.2, has.3)),
)

-- the children of a set are those of its regions
module _ (members : Members) (set : List ℕ) (marks : List Bool) where
  pub among_place : (k d : ℕ) → k < length set → HasUnmarkedChild members (get_or set k d) marks → HasUnmarkedAmong members set marks
  among_place k d inside has = (has.0, has.1, has.3, ap (is_in set) has.2 ∙ in_place set k d inside)

  any_default : (xs : List ℕ) (k d e : ℕ) → k < length xs → get_or xs k d ≡ get_or xs k e
  any_default [] k d e inside = absurd (omega (arith, inside))
  any_default (x ∷ xs) zero d e inside = refl
  any_default (x ∷ xs) (suc k) d e inside = any_default xs k d e (omega (arith, inside))

  pub place_among : HasUnmarkedAmong members set marks → (k : ℕ) × (k < length set) × HasUnmarkedChild members (get_or set k 0) marks
  place_among has =
      let place = place_of set (parent_among members has.0) has.3 in
      (place.0, place.1, (has.0, has.1, sym place.2 ∙ any_default set place.0 (parent_among members has.0) 0 place.1, has.2))

pub both_true : (a b : Bool) → a && b ≡ true → (a ≡ true) × (b ≡ true)
both_true true b holds = (refl, holds)
both_true false b holds = absurd (false≢true holds)

-- the first numbers of a set
pub take_in : (i : ℕ) (set : List ℕ) (n : ℕ) → i < length set → is_in (take (suc i) set) n ≡ true → (is_in (take i set) n ≡ true) ⊎ (n ≡ get_or set i 0)
take_in i [] n inside there = absurd (omega (arith, inside))
take_in zero (x ∷ xs) n inside there = elim (either (nat_eq n x) false there) [
  | inl same ↦ inr (same_number n x same)
  | inr none ↦ absurd (false≢true none)
]
take_in (suc i) (x ∷ xs) n inside there = elim (either (nat_eq n x) (is_in (take (suc i) xs) n) there) [
  | inl same ↦ inl (left_true (nat_eq n x) (is_in (take i xs) n) same)
  | inr later ↦ elim (take_in i xs n (omega (arith, inside)) later) [
    | inl old ↦ inl (right_true (nat_eq n x) (is_in (take i xs) n) old)
    | inr here ↦ inr here
  ]
]

pub take_within : (k : ℕ) (set : List ℕ) (n : ℕ) → is_in (take k set) n ≡ true → is_in set n ≡ true
take_within zero set n there = absurd (false≢true there)
take_within (suc k) [] n there = absurd (false≢true there)
take_within (suc k) (x ∷ xs) n there = elim (either (nat_eq n x) (is_in (take k xs) n) there) [
  | inl same ↦ left_true (nat_eq n x) (is_in xs n) same
  | inr later ↦ right_true (nat_eq n x) (is_in xs n) (take_within k xs n later)
]
