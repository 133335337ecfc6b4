-- Records stay sound where a slot is taken, becomes a child, and is freed.
use Rattle.std.proofs.Common.{◌≡◌, ◌≢◌, ◌<◌, ◌≤◌, ◌+◌, ◌-◌, ◌^◌, inl, inr, ℕ, zero, suc, cond, List, [], ◌∷◌, ◌++◌, Option, Some, None, length, set, refl, sym, ap, subst, ◌∙◌, arith, length-set, length-append, add-one}
use Rattle.std.proofs.lemmas.Bool.{cases_eq}
use Rattle.rc_regions.specs.declared.record.Slot.{Slot}
use Rattle.rc_regions.specs.declared.record.Slot.TheVariants.{Free, Root, Child}
use Rattle.rc_regions.specs.Above.{IsRooted, IsTree}
use Rattle.rc_regions.specs.Ascents.{AreAscents, AreDepths, AreLinks, AreLong, AreWays}
use Rattle.rc_regions.specs.Slots.{slot_at, is_live, IsLive, IsParent, live_slots}
use Rattle.rc_regions.specs.Columns.{Columns, ascended, grown, written}
use Rattle.rc_regions.specs.Lists.{Spot, Head, Behind, AllLinked, first_of, follower, spot, spot_of, with_first, with_follower, with_previous, placed, linked, unlinked}
use Rattle.rc_regions.specs.Sound.{IsAscended, IsSoundTree, IsTaken}
use Rattle.rc_regions.proofs.Ancestors.{is_tree, live_cases}
use Rattle.rc_regions.proofs.Changed.{live_not_free, IsRooted-removed, AreDepths-removed, AreLinks-removed, IsRooted-added, AreDepths-added, AreLinks-added, AreAscents-moved, ancestor_moved, live_moved}
use Rattle.rc_regions.proofs.Climbing.{power-some}
use Rattle.rc_regions.proofs.Counted.{live_made, live_slots-all, live_slots-less, live_slots-new, live_slots-set}
use Rattle.rc_regions.proofs.PutIn.{AllLinked-linked}
use Rattle.rc_regions.proofs.TakenOut.{AllLinkedBut-unlinked, AllLinkedBut-new}
use Rattle.rc_regions.proofs.Writes.{slot_at-new, slot_at_same, slot_at_other, spot_is_head, Unlisted, written_same, written_other, unlisted, unlisted-with_first, unlisted-with_follower, unlisted-with_previous}

-- a list without a first slot has none
empty_list : (c : Columns) → (linked : AllLinked c) → (list : Slot) → list ≢ Root → first_of c list ≡ None → (n s : ℕ) → linked.rank s < n → s < length c.slots → slot_at c.slots s ≢ list
empty_list c linked list listed none zero s low made is = absurd (omega (arith, low))
empty_list c linked list listed none (suc n) s low made is = by_previous (c.previous s) refl (empty_list c linked list listed none n) where
  by_previous : (o : Option ℕ) → c.previous s ≡ o → ((t : ℕ) → linked.rank t < n → t < length c.slots → slot_at c.slots t ≢ list) → ⊥
  by_previous None first rest =
      let came : follower c (spot_of c s) ≡ Some s = linked.comes s made (λ root. listed (sym is ∙ root)) in
      let at_head : spot_of c s ≡ Head list = ap (λ o. spot (slot_at c.slots s) o) first ∙ ap Head is in
      let clash : None ≡ Some s = sym none ∙ ap (follower c) (sym at_head) ∙ came in
      cc
  by_previous (Some t) before rest =
      let was = linked.neighbours s t made before in
      let lower = was.2 in
      rest t (omega (arith, low, lower)) was.0 (was.1 ∙ is)

-- a slot has a first child where it is a parent, and else none
pub parent_has_first : (c : Columns) → AllLinked c → (p : ℕ) → IsParent c.slots p → c.first_child p ≢ None
parent_has_first c linked p child none =
    let made : child.0 < length c.slots = live_made c.slots child.0 (ap is_live child.1) in
    empty_list c linked (Child p) (λ same. cc) none (suc (linked.rank child.0)) child.0 (omega arith) made child.1

pub first_has_parent : (c : Columns) → AllLinked c → (p s : ℕ) → c.first_child p ≡ Some s → IsParent c.slots p
first_has_parent c linked p s first = (s, (spot_is_head (slot_at c.slots s) (Child p) (c.previous s) (linked.stands (Head (Child p)) s first).1).1)

unlisted-unlinked : (c : Columns) (s : ℕ) → unlisted (unlinked c s) ≡ unlisted c
unlisted-unlinked c s = unlisted-with_previous (with_follower c (spot_of c s) (c.next s)) (c.next s) (c.previous s) ∙ unlisted-with_follower c (spot_of c s) (c.next s)

slots-unlinked : (c : Columns) (s : ℕ) → (unlinked c s).slots ≡ c.slots
slots-unlinked c s = ap (λ (x : Unlisted). x.slots) (unlisted-unlinked c s)

-- the first free slot is taken
pub IsTaken-unlinked : (c : Columns) (s : ℕ) → IsSoundTree c → c.first_free ≡ Some s → IsTaken c (unlinked c s) s
IsTaken-unlinked c s sound first =
    let made : s < length c.slots = (sound.linked.stands (Head Free) s first).0 in
    let free : slot_at c.slots s ≡ Free = (spot_is_head (slot_at c.slots s) Free (c.previous s) (sound.linked.stands (Head Free) s first).1).1 in
    let same : length (unlinked c s).slots ≡ length c.slots = ap length (slots-unlinked c s) in
    let less = live_slots-less c.slots s made free in
    record {
      was_free = free;
      made = omega (arith, made, same);
      loose = AllLinkedBut-unlinked c s sound.linked made (λ root. (let clash : Free ≡ Root = sym free ∙ root in cc));
      slots = λ t. ap (λ xs. slot_at xs t) (slots-unlinked c s);
      depth = ap (λ (x : Unlisted). x.depth) (unlisted-unlinked c s);
      links = ap (λ (x : Unlisted). x.links) (unlisted-unlinked c s);
      live = ap live_slots (slots-unlinked c s);
      few = let most = sound.few in omega (arith, most, same);
      used_again = λ _. same;
      grown = λ full. absurd (omega (arith, less, full));
    }

-- where no slot is free, all are live
pub all_live : (c : Columns) → AllLinked c → c.first_free ≡ None → live_slots c.slots ≡ length c.slots
all_live c linked none = live_slots-all c.slots (λ s made. live_of s made (slot_at c.slots s) refl) where
  live_of : (s : ℕ) → s < length c.slots → (x : Slot) → slot_at c.slots s ≡ x → IsLive c.slots s
  live_of s made Free is = absurd (empty_list c linked Free (λ same. cc) none (suc (linked.rank s)) s (omega arith) made is)
  live_of s made Root is = ap is_live is
  live_of s made (Child parent) is = ap is_live is

free_beyond : (slots : List Slot) (s : ℕ) → length slots ≤ s → slot_at slots s ≡ Free
free_beyond [] s high = refl
free_beyond (x ∷ xs) zero high = absurd (omega (arith, high))
free_beyond (x ∷ xs) (suc s) high = free_beyond xs s (omega (arith, high))

-- a slot with a new record is taken
pub IsTaken-grown : (c : Columns) → IsSoundTree c → c.first_free ≡ None → live_slots c.slots ≤ 4294967295 → IsTaken c (grown c) (length c.slots)
IsTaken-grown c sound none room =
    let long : length (c.slots ++ Free ∷ []) ≡ length c.slots + 1 = length-append c.slots (Free ∷ []) in
    let full : live_slots c.slots ≡ length c.slots = all_live c sound.linked none in
    record {
      was_free = free_beyond c.slots (length c.slots) (omega arith);
      made = omega (arith, long);
      loose = AllLinkedBut-new c sound.linked;
      slots = slot_at-new c.slots;
      depth = refl;
      links = refl;
      live = live_slots-new c.slots;
      few = omega (arith, long, full, room);
      used_again = λ less. absurd (omega (arith, less, full));
      grown = λ _. long;
    }

sound_of : (c : Columns) (slots : List Slot) (depth : ℕ → ℕ) (links : ℕ → List ℕ) → c.slots ≡ slots → c.depth ≡ depth → c.links ≡ links
    → AllLinked c → IsRooted slots → AreDepths slots depth → AreLinks slots depth links → AreLong links → length slots ≤ 2 ^ 32 → IsSoundTree c
sound_of c slots depth links same_slots same_depth same_links linked rooted depths are long few = record {
  linked = linked;
  rooted = subst IsRooted (sym same_slots) rooted;
  depths = subst (AreDepths c.slots) (sym same_depth) (subst (λ xs. AreDepths xs depth) (sym same_slots) depths);
  links = subst (λ ls. AreLinks c.slots c.depth ls) (sym same_links) (subst (λ d. AreLinks c.slots d links) (sym same_depth) (subst (λ xs. AreLinks xs depth links) (sym same_slots) are));
  long = subst (λ ls. AreLong ls) (sym same_links) long;
  few = subst (λ xs. length xs ≤ 2 ^ 32) (sym same_slots) few;
}

unlisted-linked : (c : Columns) (s : ℕ) (list : Slot) → unlisted (linked c s list) ≡ record (unlisted c) { slots = set c.slots s list }
unlisted-linked c s list =
    let next : Option ℕ = first_of c list in
    let b : Columns = with_previous c next (Some s) in
    unlisted-with_first (placed b s list next) list (Some s) ∙ ap (λ (x : Unlisted). let y : Unlisted = record x { slots = set x.slots s list } in y) (unlisted-with_previous c next (Some s))

pub slots-linked : (c : Columns) (s : ℕ) (list : Slot) → (linked c s list).slots ≡ set c.slots s list
slots-linked c s list = ap (λ (x : Unlisted). x.slots) (unlisted-linked c s list)

depth-linked : (c : Columns) (s : ℕ) (list : Slot) → (linked c s list).depth ≡ c.depth
depth-linked c s list = ap (λ (x : Unlisted). x.depth) (unlisted-linked c s list)

links-linked : (c : Columns) (s : ℕ) (list : Slot) → (linked c s list).links ≡ c.links
links-linked c s list = ap (λ (x : Unlisted). x.links) (unlisted-linked c s list)

follower-ascended : (c : Columns) (s depth : ℕ) (links : List ℕ) (at : Spot) → follower (ascended c s depth links) at ≡ follower c at
follower-ascended c s depth links (Head Free) = refl
follower-ascended c s depth links (Head Root) = refl
follower-ascended c s depth links (Head (Child p)) = refl
follower-ascended c s depth links (Behind t) = refl

AllLinked-ascended : (c : Columns) (s depth : ℕ) (links : List ℕ) → AllLinked c → AllLinked (ascended c s depth links)
AllLinked-ascended c s depth links linked = record {
  rank = linked.rank;
  stands = λ at t comes. linked.stands at t (sym (follower-ascended c s depth links at) ∙ comes);
  comes = λ t made listed. follower-ascended c s depth links (spot_of c t) ∙ linked.comes t made listed;
  neighbours = linked.neighbours;
}

long-written : (links : ℕ → List ℕ) (s : ℕ) (ways : List ℕ) → AreLong links → length ways ≡ 32 → AreLong (written links s ways)
long-written links s ways long wide t = elim (cases_eq t s) [
  | inl e ↦ ap (λ n. length (written links s ways n)) e ∙ ap length (written_same links s ways) ∙ wide
  | inr apart ↦ ap length (written_other links s t ways apart) ∙ long t
]

-- a slot can have its depth and links before it is put into a list, or behind that
linked-ascended : (c : Columns) (s parent depth : ℕ) (links : List ℕ) → linked (ascended c s depth links) s (Child parent) ≡ ascended (linked c s (Child parent)) s depth links
linked-ascended c s parent depth links = by_first (c.first_child parent) where
  by_first : (first : Option ℕ) → with_first (placed (with_previous (ascended c s depth links) first (Some s)) s (Child parent) first) (Child parent) (Some s)
      ≡ ascended (with_first (placed (with_previous c first (Some s)) s (Child parent) first) (Child parent) (Some s)) s depth links
  by_first None = refl
  by_first (Some t) = refl

-- what a taken slot's links are made from
pub AreAscents-taken : (old c : Columns) (s : ℕ) → IsSoundTree old → IsTaken old c s → AreAscents c.slots c.depth c.links
AreAscents-taken old c s sound taken =
    let was : AreAscents old.slots old.depth old.links = record { rooted = sound.rooted; depths = sound.depths; ways = sound.links; long = sound.long } in
    AreAscents-moved old.slots c.slots taken.slots c.depth c.links
    (subst (λ ls. AreAscents old.slots c.depth ls) (sym taken.links) (subst (λ d. AreAscents old.slots d old.links) (sym taken.depth) was))

pub live-taken : (old c : Columns) (s t : ℕ) → IsTaken old c s → IsLive old.slots t → IsLive c.slots t
live-taken old c s t taken live = live_moved old.slots c.slots taken.slots t live

pub free-taken : (old c : Columns) (s : ℕ) → IsTaken old c s → ¬ IsLive c.slots s
free-taken old c s taken live = live_not_free c.slots s live (taken.slots s ∙ taken.was_free)

sound-child : (old c : Columns) (s parent : ℕ) (links : List ℕ) → IsSoundTree old → IsTaken old c s → IsLive old.slots parent
    → length links ≡ 32 → AreWays old.slots parent (suc (old.depth parent)) links → IsSoundTree (ascended (linked c s (Child parent)) s (old.depth parent + 1) links)
sound-child old c s parent links sound taken live wide climbed =
    let list : Slot = Child parent in
    let slots : List Slot = set c.slots s list in
    let same : (t : ℕ) → t ≢ s → slot_at slots t ≡ slot_at old.slots t = λ t apart. slot_at_other c.slots s t list apart ∙ taken.slots t in
    let childless : (t : ℕ) → slot_at old.slots t ≢ Child s = λ t is. live_not_free old.slots s (sound.rooted.parents t s is) taken.was_free in
    let child : slot_at slots s ≡ Child parent = slot_at_same c.slots s list taken.made in
    let few = taken.few in
    sound_of (ascended (linked c s list) s (old.depth parent + 1) links) slots (written old.depth s (suc (old.depth parent))) (written old.links s links)
    (slots-linked c s list)
    (ap (λ (depth : ℕ → ℕ). written depth s (old.depth parent + 1)) (depth-linked c s list ∙ taken.depth) ∙ ap (written old.depth s) (add-one (old.depth parent)))
    (ap (λ (all : ℕ → List ℕ). written all s links) (links-linked c s list ∙ taken.links))
    (AllLinked-ascended (linked c s list) s (old.depth parent + 1) links (AllLinked-linked c s list taken.loose taken.made (λ is. cc)))
    (IsRooted-added old.slots slots s same childless sound.rooted taken.was_free parent live child)
    (AreDepths-added old.slots slots s same childless sound.rooted taken.was_free parent live child old.depth sound.depths)
    (AreLinks-added old.slots slots s same childless sound.rooted taken.was_free parent live child old.depth old.links links sound.links climbed)
    (long-written old.links s links sound.long wide)
    (omega (arith, few, length-set c.slots s list))

-- a taken slot becomes a child
pub IsSoundTree-added : (old c e : Columns) (s parent depth : ℕ) → IsSoundTree old → IsTaken old c s → IsLive old.slots parent → depth ≡ old.depth parent + 1 → IsAscended c e s parent depth → IsSoundTree (linked e s (Child parent))
IsSoundTree-added old c e s parent depth sound taken live deep ascends =
    let far : old.depth parent + 1 ≡ suc (old.depth parent) = add-one (old.depth parent) in
    let climbed : AreWays old.slots parent (suc (old.depth parent)) ascends.ways = λ k low. ascends.climbed k (subst (λ d. 2 ^ k ≤ d) (sym (deep ∙ far)) low) ∙ ancestor_moved old.slots c.slots taken.slots (2 ^ k - 1) parent in
    subst IsSoundTree (sym (ap (λ x. linked x s (Child parent)) (ascends.is ∙ ap (λ d. ascended c s d ascends.ways) deep) ∙ linked-ascended c s parent (old.depth parent + 1) ascends.ways)) (sound-child old c s parent ascends.ways sound taken live ascends.long climbed)

-- a leaf becomes free
pub IsSoundTree-removed : (c : Columns) (s : ℕ) → IsSoundTree c → IsLive c.slots s → s ≢ 0 → ¬ IsParent c.slots s → IsSoundTree (linked (unlinked c s) s Free)
IsSoundTree-removed c s sound live not_root leaf =
    let made : s < length c.slots = live_made c.slots s live in
    let loose = AllLinkedBut-unlinked c s sound.linked made (λ root. not_root (sound.rooted.only_root s root)) in
    let slots : List Slot = set c.slots s Free in
    let same : (t : ℕ) → t ≢ s → slot_at slots t ≡ slot_at c.slots t = λ t apart. slot_at_other c.slots s t Free apart in
    let childless : (t : ℕ) → slot_at c.slots t ≢ Child s = λ t is. leaf (t, is) in
    let free : slot_at slots s ≡ Free = slot_at_same c.slots s Free made in
    let made_out : s < length (unlinked c s).slots = subst (λ xs. s < length xs) (sym (slots-unlinked c s)) made in
    let few = sound.few in
    sound_of (linked (unlinked c s) s Free) slots c.depth c.links
    (slots-linked (unlinked c s) s Free ∙ ap (λ xs. set xs s Free) (slots-unlinked c s))
    (depth-linked (unlinked c s) s Free ∙ ap (λ (x : Unlisted). x.depth) (unlisted-unlinked c s))
    (links-linked (unlinked c s) s Free ∙ ap (λ (x : Unlisted). x.links) (unlisted-unlinked c s))
    (AllLinked-linked (unlinked c s) s Free loose made_out (λ is. cc))
    (IsRooted-removed c.slots slots s same childless sound.rooted not_root free)
    (AreDepths-removed c.slots slots s same childless sound.rooted not_root free c.depth sound.depths)
    (AreLinks-removed c.slots slots s same childless sound.rooted not_root free c.depth c.links sound.links)
    sound.long
    (omega (arith, few, length-set c.slots s Free))

pub IsTree-sound : (c : Columns) → IsSoundTree c → IsTree c.slots
IsTree-sound c sound = is_tree c.slots sound.rooted c.depth sound.depths

-- the root alone
only_root : (s : ℕ) → slot_at (Root ∷ []) s ≡ Root → s ≡ 0
only_root zero is = refl
only_root (suc s) is = cc

no_child : (s parent : ℕ) → slot_at (Root ∷ []) s ≢ Child parent
no_child zero parent is = cc
no_child (suc s) parent is = cc

pub IsSoundTree-root : (c : Columns) → c.slots ≡ Root ∷ [] → c.first_free ≡ None → ((s : ℕ) → c.first_child s ≡ None) → ((s : ℕ) → c.previous s ≡ None) → ((s : ℕ) → c.next s ≡ None) → c.depth 0 ≡ 0 → AreLong c.links → IsSoundTree c
IsSoundTree-root c slots first_free first_child previous next depth long =
    sound_of c (Root ∷ []) c.depth c.links slots refl refl
    (record {
      rank = λ _. 0;
      stands = λ at s comes. (let clash : None ≡ Some s = sym (nothing at) ∙ comes in cc);
      comes = λ s made listed. absurd (listed (ap (λ xs. slot_at xs s) slots ∙ ap (slot_at (Root ∷ [])) (let one : length c.slots ≡ 1 = ap length slots in let zero_is : s ≡ 0 = omega (arith, made, one) in zero_is)));
      neighbours = λ s t made before. (let clash : None ≡ Some t = sym (previous s) ∙ before in cc);
    })
    (record { root = refl; only_root = only_root; parents = λ s parent is. absurd (no_child s parent is) })
    (record { root = depth; child = λ s parent is. absurd (no_child s parent is) })
    (λ s k live low. elim (live_cases (Root ∷ []) s live) [
      | inl root ↦ let flat : c.depth s ≡ 0 = ap c.depth (only_root s root) ∙ depth in absurd (omega (arith, low, flat, power-some k))
      | inr child ↦ absurd (no_child s child.0 child.1)
    ])
    long
    (omega arith)
  where
    nothing : (at : Spot) → follower c at ≡ None
    nothing (Head Free) = first_free
    nothing (Head Root) = refl
    nothing (Head (Child p)) = first_child p
    nothing (Behind s) = next s

-- one slot more is live, and it is nobody's parent
pub live_slots-added : (old c : Columns) (s parent : ℕ) → IsTaken old c s → live_slots (set c.slots s (Child parent)) ≡ live_slots old.slots + 1
live_slots-added old c s parent taken =
    let count : Slot → ℕ = λ x. cond (is_live x) 1 0 in
    let free : count (slot_at c.slots s) ≡ 0 = ap count (taken.slots s ∙ taken.was_free) in
    let same = taken.live in
    omega (arith, live_slots-set c.slots s (Child parent) taken.made, free, same)

pub leaf-added : (old c : Columns) (s parent : ℕ) → IsSoundTree old → IsTaken old c s → IsLive old.slots parent → ¬ IsParent (set c.slots s (Child parent)) s
leaf-added old c s parent sound taken live = λ child. elim (cases_eq child.0 s) [
  | inl itself ↦
      let own : Child s ≡ Child parent = sym child.1 ∙ ap (slot_at (set c.slots s (Child parent))) itself ∙ slot_at_same c.slots s (Child parent) taken.made in
      let same : s ≡ parent = cc in
      live_not_free old.slots s (subst (IsLive old.slots) (sym same) live) taken.was_free
  | inr other ↦
      let was : slot_at old.slots child.0 ≡ Child s = sym (taken.slots child.0) ∙ sym (slot_at_other c.slots s child.0 (Child parent) other) ∙ child.1 in
      live_not_free old.slots s (sound.rooted.parents child.0 s was) taken.was_free
]
