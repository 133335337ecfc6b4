-- Each call leaves a store whole.
use Rattle.std.proofs.Common.{◌≡◌, ◌≢◌, ◌<◌, ◌≤◌, ◌+◌, ◌*◌, ◌∙◌, ◌⊎◌, inl, inr, ℕ, zero, suc, Bool, true, false, ◌||◌, cond, IsTrue, nat_eq, List, [], ◌∷◌, ◌++◌, length, map, set, get_or, replicate, Option, Some, None, refl, sym, ap, subst, arith, rules, length-append, length-set}
use Rattle.std.specs.Prelude.{flat_map}
use Rattle.std.specs.List.{All, Contains}
use Rattle.std.proofs.lemmas.Bool.{cases_eq, false≢true}
use Rattle.std.proofs.lemmas.List.{get_or-append-add, get_or-map, get_or-set_other, get_or-set_same, get_or_append_left, length-map, map-append}
use Rattle.std.proofs.lemmas.List.Elements.{All-from_get_or, All-get_or, All-push, All-tail, All-weaker}
use Rattle.std.proofs.lemmas.List.Sorted.{All-permutation}
use native.Mathlib.Nat.{suc-mul, zero-mul}
use Rattle.rc_core.specs.declared.layouts.Kind.{Kind}
use Rattle.rc_core.specs.declared.layouts.Kind.TheVariants.{Number as NumberKind}
use Rattle.rc_core.specs.declared.ty.Note.TheVariants.{Plain}
use Rattle.rc_core.specs.Heap.{Value, Null, fits, is_fresh, names, of_region}
use Rattle.rc_store.specs.declared.cell.Place.{Place}
use Rattle.rc_store.specs.Kept.{KeptObject, KeptStore, KeptView, Regions, blank, refs, view_refs}
use Rattle.rc_store.specs.Sets.{deleted_all, has_child_outside, is_in, refs_to, set_refs}
use Rattle.rc_store.specs.Stores.{HasCell, IsFresh, IsLive, IsNew, MayStand, allocated, at_place, cell_place, cell_value, deleted, has_child, is_view, kind_at, live_in, made, no_object, no_view, object_in, object_with, objects_in, objects_with, or_none, parent_in, region_at, view_in, written}
use Rattle.rc_store.specs.Values.{blank_of, note_of}
use Rattle.rc_store.specs.Whole.{IsWhole}
use Rattle.rc_whole.specs.Stays.{StaysWhole}
use Rattle.rc_whole.proofs.Fitting.{Right, blank_right, fits_same, fresh_stays}
use Rattle.rc_whole.proofs.Killed.{NoneNames, killed}
use Rattle.rc_whole.proofs.Regions.{ObjectRight, RegionRight, join, live_there, objects_changed, read_beside, region_moved, region_read, split}
use Rattle.rc_store.proofs.Along.{beside_along, child_along, refs_along}
use Rattle.rc_whole.proofs.Unnamed.{beside_none, each_none, no_member, none_of, not_child, not_child_of, outside_none, pins_unnamed, view_unnamed}

-- the regions of a store are whole whatever is pinned, where the pins are fresh
with_pins : (s : KeptStore) (pins : List Value) (n regions blocks : ℕ) → IsWhole s → All (IsFresh s) pins → IsWhole (record { regions = s.regions; pins = pins; spare = n; region_limit = regions; block_limit = blocks })
with_pins s pins n regions blocks whole fresh = join (record { regions = s.regions; pins = pins; spare = n; region_limit = regions; block_limit = blocks }) whole.root (split s whole) fresh

-- a new heap
zero_alone : (r : ℕ) → IsTrue (live_in (Some no_view ∷ []) r) → r ≡ 0
zero_alone zero live = refl
zero_alone (suc r) live = absurd (false≢true live)

root_right : (r : ℕ) → IsTrue (live_in (Some no_view ∷ []) r) → RegionRight (live_in (Some no_view ∷ [])) (parent_in (Some no_view ∷ [])) r (view_in (Some no_view ∷ []) r)
root_right zero live = record { up = refl; older = λ not. absurd (not refl); objects = λ o there. absurd (omega (arith, there)) }
root_right (suc r) live = absurd (false≢true live)

new_whole : (s : KeptStore) → IsNew s → IsWhole s
new_whole s new =
    subst (λ views. IsWhole (record s { regions = views })) (sym new.regions)
    (join (record s { regions = Some no_view ∷ [] }) refl root_right (subst (λ (vs : List Value). All (λ v. IsTrue (is_fresh (live_in (Some no_view ∷ [])) v)) vs) (sym new.pins) (λ i v inside. absurd (omega (arith, inside)))))

-- one more region
module _ (s : KeptStore) (parent : ℕ) (whole : IsWhole s) (live_parent : IsLive s parent) where
  abbrev one : KeptView
  one = record { parent = parent; objects = [] }

  abbrev views : Regions
  views = s.regions ++ Some one ∷ []

  old : (r : ℕ) → r < length s.regions → region_at views r ≡ region_at s.regions r
  old r there = region_read views r ∙ get_or_append_left s.regions (Some one ∷ []) None r there ∙ sym (region_read s.regions r)

  last : region_at views (length s.regions) ≡ Some one
  last =
      let at : length s.regions + 0 ≡ length s.regions = omega arith in
      region_read views (length s.regions) ∙ sym (ap (λ n. get_or views n None) at) ∙ get_or-append-add s.regions (Some one ∷ []) 0 None

  lives_on : (r : ℕ) → live_in s.regions r ≡ true → live_in views r ≡ true
  lives_on r live = ap is_view (old r (live_there s.regions r live)) ∙ live

  old_or_last : (r : ℕ) → IsTrue (live_in views r) → (r < length s.regions) ⊎ (r ≡ length s.regions)
  old_or_last r live =
      let there = live_there views r live in
      let long = length-append s.regions (Some one ∷ []) in
      elim (cases_eq r (length s.regions)) [
        | inl same ↦ inr same
        | inr apart ↦ inl (omega (arith, there, long, apart))
      ]

  good : (r : ℕ) → IsLive s r → (k : Kind) (v : Value) → Right (live_in s.regions) (parent_in s.regions) r k v → Right (live_in views) (parent_in views) r k v
  good r live k v right = record {
    kind = right.kind;
    fresh = fresh_stays (live_in s.regions) (live_in views) lives_on v right.fresh;
    fit = fits_same (live_in s.regions) (parent_in s.regions) (parent_in views) whole.parents (λ q l. ap (λ w. (or_none w).parent) (old q (live_there s.regions q l))) (note_of k) r v live ∙ right.fit;
  }

  each : (r : ℕ) → IsTrue (live_in views r) → RegionRight (live_in views) (parent_in views) r (view_in views r)
  each r live = elim (old_or_last r live) [
    | inl there ↦
        let before = sym (ap is_view (old r there)) ∙ live in
        subst (λ w. RegionRight (live_in views) (parent_in views) r (or_none w)) (sym (old r there))
        (region_moved (live_in s.regions) (live_in views) (parent_in s.regions) (parent_in views) r (view_in s.regions r)
        (lives_on (parent_in s.regions r) (whole.parents r before))
        (λ o index cell there has right. good r before _ _ right)
        (split s whole r before))
    | inr same ↦
        subst (λ n. RegionRight (live_in views) (parent_in views) n (view_in views n)) (sym same)
        (subst (λ w. RegionRight (live_in views) (parent_in views) (length s.regions) (or_none w)) (sym last)
        (record { up = lives_on parent live_parent; older = λ not. live_there s.regions parent live_parent; objects = λ o there. absurd (omega (arith, there)) }))
  ]

  pub made_whole : IsWhole (made parent s)
  made_whole = join (made parent s) (lives_on 0 whole.root) each (All-weaker (IsFresh s) (IsFresh (made parent s)) (λ v fresh. fresh_stays (live_in s.regions) (live_in views) lives_on v fresh) s.pins whole.pins)

-- a new object
again : (n : ℕ) (ks : List Kind) → flat_map (map blank_of) (replicate n ks) ≡ map blank_of (flat_map (λ k. k) (replicate n ks))
again zero ks = refl
again (suc n) ks = ap (λ vs. map blank_of ks ++ vs) (again n ks) ∙ sym (map-append blank_of ks (flat_map (λ k. k) (replicate n ks)))

long : (n : ℕ) (ks : List Kind) → length (flat_map (λ k. k) (replicate n ks)) ≡ n * length ks
long zero ks = sym (zero-mul (length ks))
long (suc n) ks = length-append ks (flat_map (λ k. k) (replicate n ks)) ∙ ap (λ m. length ks + m) (long n ks) ∙ omega (arith, suc-mul n (length ks))

-- a cell lies among the cells
inside : (o : KeptObject) (index cell : ℕ) → HasCell o index cell → cell_place o index cell < o.count * o.size
inside o index cell has = omega (arith, rows index o.count o.size has.element, has.within)
  where
    rows : (m n k : ℕ) → m < n → m * k + k ≤ n * k
    rows m zero k less = absurd (omega (arith, less))
    rows zero (suc n) k less = omega (arith, zero-mul k, suc-mul n k)
    rows (suc m) (suc n) k less = omega (arith, suc-mul m k, suc-mul n k, rows m n k (omega (arith, less)))

blank_object : (live : ℕ → Bool) (parent : ℕ → ℕ) (r : ℕ) (kinds : List Kind) (n : ℕ) → ObjectRight live parent r (blank kinds n)
blank_object live parent r kinds n = record {
  filled = record { kinds = long n kinds; values = ap length (again n kinds) ∙ length-map all blank_of ∙ long n kinds };
  cells = λ index cell has.
      let at = cell_place (blank kinds n) index cell in
      let within : at < length all = omega (arith, inside (blank kinds n) index cell has, long n kinds) in
      let is : get_or (blank kinds n).values at Null ≡ blank_of (get_or all at NumberKind) = ap (λ vs. get_or vs at Null) (again n kinds) ∙ get_or-map blank_of all at NumberKind Null within in
      subst (λ v. Right live parent r (get_or all at NumberKind) v) (sym is) (blank_right live parent r (get_or all at NumberKind));
}
  where
    all : List Kind
    all = flat_map (λ k. k) (replicate n kinds)

allocated_whole : (s : KeptStore) (r n : ℕ) (kinds : List Kind) → IsWhole s → IsLive s r → IsWhole (allocated r kinds n s)
allocated_whole s r n kinds whole live = objects_changed s r (objects ++ blank kinds n ∷ []) whole live each
  where
    objects : List KeptObject
    objects = objects_in s.regions r

    each : (o : ℕ) → o < length (objects ++ blank kinds n ∷ []) → ObjectRight (live_in s.regions) (parent_in s.regions) r (get_or (objects ++ blank kinds n ∷ []) o no_object)
    each o there = elim (cases_eq o (length objects)) [
      | inl same ↦
          let at : length objects + 0 ≡ o = omega (arith, same) in
          let is : get_or (objects ++ blank kinds n ∷ []) o no_object ≡ blank kinds n = sym (ap (λ m. get_or (objects ++ blank kinds n ∷ []) m no_object) at) ∙ get_or-append-add objects (blank kinds n ∷ []) 0 no_object in
          subst (λ x. ObjectRight (live_in s.regions) (parent_in s.regions) r x) (sym is) (blank_object (live_in s.regions) (parent_in s.regions) r kinds n)
      | inr apart ↦
          let before : o < length objects = omega (arith, apart, there, length-append objects (blank kinds n ∷ [])) in
          subst (λ x. ObjectRight (live_in s.regions) (parent_in s.regions) r x) (sym (get_or_append_left objects (blank kinds n ∷ []) no_object o before)) ((split s whole r live).objects o before)
    ]

-- a cell is written
written_whole : (s : KeptStore) (p : Place) (v : Value) → IsWhole s → MayStand s p v → IsTrue (fits (parent_in s.regions) (note_of (kind_at s p)) p.pointer.region v) → IsWhole (written p v s)
written_whole s p v whole may fit = objects_changed s r (objects_with p.pointer.object p.pointer.index p.cell v objects) whole may.place.live each
  where
    r : ℕ
    r = p.pointer.region

    objects : List KeptObject
    objects = objects_in s.regions r

    o : KeptObject
    o = at_place s p

    before : ObjectRight (live_in s.regions) (parent_in s.regions) r o
    before = (split s whole r may.place.live).objects p.pointer.object may.place.object

    at : ℕ
    at = cell_place o p.pointer.index p.cell

    within : at < length o.values
    within = omega (arith, inside o p.pointer.index p.cell may.place.cell, before.filled.values)

    changed : ObjectRight (live_in s.regions) (parent_in s.regions) r (object_with p.pointer.index p.cell v o)
    changed = record {
      filled = record { kinds = before.filled.kinds; values = length-set o.values at v ∙ before.filled.values };
      cells = λ index cell has.
          let n = cell_place o index cell in
          let there : HasCell o index cell = record { element = has.element; within = has.within } in
          elim (cases_eq n at) [
            | inl same ↦
                let is : get_or (set o.values at v) n Null ≡ v = ap (λ m. get_or (set o.values at v) m Null) same ∙ get_or-set_same o.values at v Null within in
                let right : Right (live_in s.regions) (parent_in s.regions) r (get_or o.kinds at NumberKind) v = record { kind = may.kind; fresh = may.fresh; fit = fit } in
                subst (λ x. Right (live_in s.regions) (parent_in s.regions) r (get_or o.kinds n NumberKind) x) (sym is)
                (subst (λ m. Right (live_in s.regions) (parent_in s.regions) r (get_or o.kinds m NumberKind) v) (sym same) right)
            | inr apart ↦ subst (λ x. Right (live_in s.regions) (parent_in s.regions) r (get_or o.kinds n NumberKind) x) (sym (get_or-set_other o.values at n v Null apart)) (before.cells index cell there)
          ];
    }

    each : (k : ℕ) → k < length (set objects p.pointer.object (object_with p.pointer.index p.cell v o)) → ObjectRight (live_in s.regions) (parent_in s.regions) r (get_or (set objects p.pointer.object (object_with p.pointer.index p.cell v o)) k no_object)
    each k there = elim (cases_eq k p.pointer.object) [
      | inl same ↦
          subst (λ x. ObjectRight (live_in s.regions) (parent_in s.regions) r x)
          (sym (ap (λ m. get_or (set objects p.pointer.object (object_with p.pointer.index p.cell v o)) m no_object) same ∙ get_or-set_same objects p.pointer.object (object_with p.pointer.index p.cell v o) no_object may.place.object))
          changed
      | inr apart ↦
          subst (λ x. ObjectRight (live_in s.regions) (parent_in s.regions) r x)
          (sym (get_or-set_other objects p.pointer.object k (object_with p.pointer.index p.cell v o) no_object apart))
          ((split s whole r may.place.live).objects k (omega (arith, there, length-set objects p.pointer.object (object_with p.pointer.index p.cell v o))))
    ]

plain_whole : (s : KeptStore) (p : Place) (v : Value) → IsWhole s → MayStand s p v → note_of (kind_at s p) ≡ Plain → IsWhole (written p v s)
plain_whole s p v whole may plain = written_whole s p v whole may (ap (λ note. fits (parent_in s.regions) note p.pointer.region v) plain)

-- a region dies
deleted_whole : (s : KeptStore) (d : ℕ) → IsWhole s → d ≢ 0 → has_child s d ≡ false → refs s d ≡ 0 → IsWhole (deleted d s)
deleted_whole s d whole inner childless none = killed s (deleted d s) gone whole reads root up names_none refl (pins_unnamed d s.pins (omega (arith, none)))
  where
    gone : ℕ → Bool
    gone r = nat_eq r d

    apart : (r : ℕ) → r ≢ d → nat_eq r d ≡ false
    apart r other = search (rules, other)

    reads : (r : ℕ) → region_at (set s.regions d None) r ≡ cond (nat_eq r d) None (region_at s.regions r)
    reads r = elim (cases_eq r d) [
      | inl same ↦ ap (region_at (set s.regions d None)) same ∙ region_read (set s.regions d None) d ∙ none_there s.regions d ∙ sym (ap (λ n. cond (nat_eq n d) None (region_at s.regions n)) same ∙ ap (λ b. cond b None (region_at s.regions d)) (let itself : nat_eq d d ≡ true = search rules in itself))
      | inr other ↦ read_beside s.regions d r None other ∙ sym (ap (λ b. cond b None (region_at s.regions r)) (apart r other))
    ]
      where
        none_there : (ws : Regions) (n : ℕ) → get_or (set ws n None) n None ≡ None
        none_there [] n = refl
        none_there (w ∷ ws) zero = refl
        none_there (w ∷ ws) (suc n) = none_there ws n

    root : nat_eq 0 d ≡ false
    root = apart 0 (λ e. inner (sym e))

    up : (r : ℕ) → IsLive s r → gone r ≡ false → gone (parent_in s.regions r) ≡ false
    up r live left =
        ap (λ w. nat_eq (or_none w).parent d) (region_read s.regions r)
        ∙ not_child d r s.regions childless (ap is_view (sym (region_read s.regions r)) ∙ live)

    names_none : NoneNames s gone
    names_none r o index cell live left there has counted =
        let filled = whole.filled r o live there in
        let at = inside (object_in s.regions r o) index cell has in
        let empty : view_refs d (region_at s.regions r) ≡ 0 = ap (view_refs d) (region_read s.regions r) ∙ outside_none d 0 r s.regions (omega (arith, none, refs_along d s.regions)) (live_there s.regions r live) (let same : 0 + r ≡ r = omega arith in ap (λ n. nat_eq n d) same ∙ left) in
        view_unnamed d (region_at s.regions r) o (cell_place (object_in s.regions r o) index cell) empty there (omega (arith, at, filled.kinds)) (omega (arith, at, filled.values)) counted

-- several die at once
all_read : (dying : List ℕ) (s : KeptStore) (r : ℕ) → region_at (deleted_all dying s).regions r ≡ cond (is_in dying r) None (region_at s.regions r)
all_read [] s r = refl
all_read (d ∷ ds) s r = all_read ds (deleted d s) r ∙ by (cases_eq r d)
  where
    behind : (b : Bool) → cond {A = Option KeptView} b None None ≡ None
    behind true = refl
    behind false = refl

    none_there : (ws : Regions) (n : ℕ) → get_or (set ws n None) n None ≡ None
    none_there [] n = refl
    none_there (w ∷ ws) zero = refl
    none_there (w ∷ ws) (suc n) = none_there ws n

    by : (r ≡ d) ⊎ (r ≢ d) → cond (is_in ds r) None (region_at (set s.regions d None) r) ≡ cond (nat_eq r d || is_in ds r) None (region_at s.regions r)
    by (inl same) =
        ap (λ x. cond (is_in ds r) None x) (ap (region_at (set s.regions d None)) same ∙ region_read (set s.regions d None) d ∙ none_there s.regions d)
        ∙ behind (is_in ds r)
        ∙ sym (ap (λ b. cond (b || is_in ds r) None (region_at s.regions r)) (ap (λ n. nat_eq n d) same ∙ (let itself : nat_eq d d ≡ true = search rules in itself)))
    by (inr other) =
        ap (λ x. cond (is_in ds r) None x) (read_beside s.regions d r None other)
        ∙ sym (ap (λ b. cond (b || is_in ds r) None (region_at s.regions r)) (let apart : nat_eq r d ≡ false = search (rules, other) in apart))

all_pins : (dying : List ℕ) (s : KeptStore) → (deleted_all dying s).pins ≡ s.pins
all_pins [] s = refl
all_pins (d ∷ ds) s = all_pins ds (deleted d s)

all_deleted_whole : (s : KeptStore) (dying : List ℕ) → IsWhole s → (¬ Contains dying 0) → has_child_outside dying s.regions ≡ false → set_refs s dying ≡ 0 → IsWhole (deleted_all dying s)
all_deleted_whole s dying whole inner childless none = killed s (deleted_all dying s) (is_in dying) whole (all_read dying s) (no_member dying 0 inner) up names_none (all_pins dying s) pins
  where
    to_one : (d : ℕ) → is_in dying d ≡ true → refs_to s dying d ≡ 0
    to_one d there = each_none (refs_to s dying) dying d none there

    up : (r : ℕ) → IsLive s r → is_in dying r ≡ false → is_in dying (parent_in s.regions r) ≡ false
    up r live left =
        ap (λ w. is_in dying (or_none w).parent) (region_read s.regions r)
        ∙ not_child_of dying 0 r s.regions (sym (child_along dying s.regions) ∙ childless) (ap is_view (sym (region_read s.regions r)) ∙ live) (let same : 0 + r ≡ r = omega arith in ap (is_in dying) same ∙ left)

    names_none : NoneNames s (is_in dying)
    names_none r o index cell live left there has counted =
        let filled = whole.filled r o live there in
        let at = inside (object_in s.regions r o) index cell has in
        none_of dying (cell_value (object_in s.regions r o) index cell) (λ d member.
        let empty : view_refs d (region_at s.regions r) ≡ 0 = ap (view_refs d) (region_read s.regions r) ∙ beside_none dying d 0 r s.regions (omega (arith, to_one d member, beside_along dying d s.regions)) (live_there s.regions r live) (let same : 0 + r ≡ r = omega arith in ap (is_in dying) same ∙ left) in
        view_unnamed d (region_at s.regions r) o (cell_place (object_in s.regions r o) index cell) empty there (omega (arith, at, filled.kinds)) (omega (arith, at, filled.values)) counted)

    pins : All (λ v. of_region false (is_in dying) v ≡ false) s.pins
    pins = All-from_get_or (λ v. of_region false (is_in dying) v ≡ false) s.pins Null (λ i there. none_of dying (get_or s.pins i Null) (λ d member. All-get_or (λ v. names d v ≡ false) s.pins i Null there (pins_unnamed d s.pins (omega (arith, to_one d member)))))

pub stays_whole : StaysWhole
stays_whole = record {
  new = new_whole;
  limited = λ s limits whole. with_pins s s.pins s.spare limits.regions limits.blocks whole whole.pins;
  made = made_whole;
  allocated = allocated_whole;
  written = written_whole;
  plain = plain_whole;
  deleted = deleted_whole;
  deleted_all = all_deleted_whole;
  spared = λ s n whole. with_pins s s.pins n s.region_limit s.block_limit whole whole.pins;
  pinned = λ s n v whole fresh. with_pins s (s.pins ++ v ∷ []) n s.region_limit s.block_limit whole (All-push (IsFresh s) s.pins v whole.pins fresh);
  unpinned = λ s n v pins whole moved. with_pins s pins n s.region_limit s.block_limit whole (All-tail (IsFresh s) v pins (All-permutation (IsFresh s) s.pins (v ∷ pins) moved whole.pins));
  read = λ s p whole has. record { place = has; fresh = (whole.cells p has).fresh; kind = (whole.cells p has).kind };
}
