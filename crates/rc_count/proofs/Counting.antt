-- The counts stay the references, call by call.
use Rattle.std.proofs.Common.{◌≡◌, ◌≢◌, ◌<◌, ◌≤◌, ◌+◌, ◌-◌, ◌*◌, ◌∙◌, inl, inr, ℕ, ℤ, zero, suc, Bool, true, false, cond, nat_eq, IsTrue, List, [], ◌∷◌, ◌++◌, Option, Some, None, length, refl, sym, ap, arith, rules, length-append}
use Rattle.std.specs.Prelude.{◌&&◌, IsPermutation}
use Rattle.std.specs.List.{sum_by}
use Rattle.std.proofs.lemmas.Bool.{cases_eq, false≢true}
use Rattle.std.proofs.lemmas.List.Sorted.{length_permutation, sum_by-IsPermutation}
use Rattle.std.proofs.lemmas.List.Sums.{sum_by-append, sum_by-cons}
use Rattle.rc_core.specs.declared.ty.Note.TheVariants.{Plain, SameRegion, ParentPtr, Traditional}
use Rattle.rc_core.specs.declared.layouts.Kind.{Kind}
use Rattle.rc_core.specs.declared.layouts.Kind.TheVariants.{Number as NumberKind, Region as RegionKind, Pointer as PointerKind}
use Rattle.rc_core.specs.Layout.{is_plain}
use Rattle.rc_core.specs.Heap.{Value, Number, Null, Handle, Pointer, fits, is_fresh, names}
use Rattle.rc_base.specs.declared.ends.Limits.{Limits}
use Rattle.rc_store.specs.declared.cell.Place.{Place}
use Rattle.rc_store.specs.Kept.{KeptObject, KeptStore, KeptView, Regions, object_refs, refs, view_refs}
use Rattle.rc_store.specs.Stores.{IsFresh, IsLive, MayStand, all_cells, allocated, cells_in, deleted, has_child, kind_at, limited, live_in, made, objects_in, or_none, parent_in, region_at, kept_value, with_objects, written}
use Rattle.rc_store.specs.Values.{is_counted, note_of, suits}
use Rattle.rc_cells.specs.Follow.{IsThere, cell_refs}
use Rattle.rc_cells.proofs.Changes.{live_there, references_follow}
use Rattle.rc_cells.proofs.Cells.{cells_follow}
use Rattle.rc_whole.proofs.Whole.{stays_whole}
use Rattle.rc_tally.specs.Tally.{held_refs, pin_refs, value_refs}
use Rattle.rc_space.specs.Spaces.{SpaceState, count_of}
use Rattle.rc_count.specs.Counted.{IsCounted}

number_itself : (n : ℕ) → nat_eq n n ≡ true
number_itself n = search rules

number_other : (m n : ℕ) → m ≢ n → nat_eq m n ≡ false
number_other m n other = search (rules, other)

same_number : (m n : ℕ) → nat_eq m n ≡ true → m ≡ n
same_number m n same = search (rules, same)

-- what a cell counts
plain_cell : (r h : ℕ) (k : Kind) (v : Value) → note_of k ≡ Plain → suits k v ≡ true → cell_refs r h k v ≡ value_refs r h v
plain_cell r h NumberKind (Number n) plain fit = refl
plain_cell r h NumberKind Null plain fit = absurd (false≢true fit)
plain_cell r h NumberKind (Handle q) plain fit = absurd (false≢true fit)
plain_cell r h NumberKind (Pointer a) plain fit = absurd (false≢true fit)
plain_cell r h RegionKind v plain fit = refl
plain_cell r h (PointerKind note) v plain fit = ap (λ n. cond (nat_eq h r) 0 (cond (is_plain n && names r v) 1 0)) plain

noted_cell : (r h : ℕ) (k : Kind) (v : Value) → note_of k ≢ Plain → cell_refs r h k v ≡ 0
noted_cell r h NumberKind v noted = absurd (noted refl)
noted_cell r h RegionKind v noted = absurd (noted refl)
noted_cell r h (PointerKind Plain) v noted = absurd (noted refl)
noted_cell r h (PointerKind SameRegion) v noted = none (nat_eq h r)
  where
    none : (b : Bool) → cond {A = ℕ} b 0 0 ≡ 0
    none true = refl
    none false = refl
noted_cell r h (PointerKind ParentPtr) v noted = none (nat_eq h r)
  where
    none : (b : Bool) → cond {A = ℕ} b 0 0 ≡ 0
    none true = refl
    none false = refl
noted_cell r h (PointerKind Traditional) v noted = none (nat_eq h r)
  where
    none : (b : Bool) → cond {A = ℕ} b 0 0 ≡ 0
    none true = refl
    none false = refl

number_cell : (r h : ℕ) (k : Kind) (n : ℤ) (v : Value) → IsTrue (suits k (Number n)) → cell_refs r h k v ≡ 0
number_cell r h NumberKind n v fit = none (nat_eq h r)
  where
    none : (b : Bool) → cond {A = ℕ} b 0 0 ≡ 0
    none true = refl
    none false = refl
number_cell r h RegionKind n v fit = absurd (false≢true fit)
number_cell r h (PointerKind note) n v fit = absurd (false≢true fit)

-- a cell that may hold a number isn't annotated
number_plain : (k : Kind) (n : ℤ) → IsTrue (suits k (Number n)) → note_of k ≡ Plain
number_plain NumberKind n fit = refl
number_plain RegionKind n fit = refl
number_plain (PointerKind note) n fit = absurd (false≢true fit)

null_cell : (r h : ℕ) (k : Kind) → cell_refs r h k Null ≡ 0
null_cell r h k = none (nat_eq h r) (is_counted k)
  where
    none : (b c : Bool) → cond {A = ℕ} b 0 (cond {A = ℕ} (c && false) 1 0) ≡ 0
    none true c = refl
    none false true = refl
    none false false = refl

module _ (before : SpaceState) (s : KeptStore) (cells : ℕ) (counted : IsCounted before s cells) where
  pub few_refs : (r : ℕ) → refs s r + s.spare ≤ 18446744073709551615
  few_refs r = omega (arith, references_follow.few s r, counted.sum, counted.few)

  -- one region more
  pub counted_made : (new : SpaceState) (parent : ℕ) → IsLive s parent → ((r : ℕ) → count_of new r ≡ count_of before r) → IsCounted new (made parent s) cells
  counted_made new parent live same = record {
    counts = λ r. same r ∙ counted.counts r ∙ sym (references_follow.made s parent r);
    sum = counted.sum ∙ sym (cells_follow.made s parent);
    few = counted.few;
    whole = stays_whole.made s parent counted.whole live;
  }

  pub counted_same : (new : SpaceState) → ((r : ℕ) → count_of new r ≡ count_of before r) → IsCounted new s cells
  counted_same new same = record { counts = λ r. same r ∙ counted.counts r; sum = counted.sum; few = counted.few; whole = counted.whole }

  -- one object more
  pub counted_allocated : (new : SpaceState) (q n : ℕ) (kinds : List Kind) (total : ℕ) → IsLive s q → ((r : ℕ) → count_of new r ≡ count_of before r) → total ≡ all_cells s + n * length kinds → total + length s.pins + s.spare ≤ 18446744073709551615
      → IsCounted new (allocated q kinds n s) total
  counted_allocated new q n kinds total live same is few = record {
    counts = λ r. same r ∙ counted.counts r ∙ sym (references_follow.allocated s q n r kinds live);
    sum = is ∙ sym (cells_follow.allocated s q n kinds live);
    few = few;
    whole = stays_whole.allocated s q n kinds counted.whole live;
  }

  -- a deletion
  view_sum : (r : ℕ) (v : Option KeptView) → view_refs r v ≡ sum_by (object_refs r) (or_none v).objects
  view_sum r None = refl
  view_sum r (Some v) = refl

  module _ (d : ℕ) (live : IsLive s d) where
    inside : d < length s.regions
    inside = live_there s.regions d live

    held_other : (r : ℕ) → r ≢ d → held_refs r d (objects_in s.regions d) ≡ view_refs r (region_at s.regions d)
    held_other r apart = ap (λ b. cond b 0 (sum_by (object_refs r) (objects_in s.regions d))) (number_other d r (λ e. apart (sym e))) ∙ sym (view_sum r (region_at s.regions d))

    held_own : (r : ℕ) → r ≡ d → held_refs r d (objects_in s.regions d) ≡ 0
    held_own r same = ap (λ b. cond b 0 (sum_by (object_refs r) (objects_in s.regions d))) (ap (nat_eq d) same ∙ number_itself d)

    pub held_taken : (r : ℕ) → refs (deleted d s) r + held_refs r d (objects_in s.regions d) ≡ refs s r
    held_taken r = elim (cases_eq r d) [
      | inl same ↦ omega (arith, held_own r same, ap (refs (deleted d s)) same, ap (refs s) same, references_follow.own s d inside)
      | inr apart ↦ omega (arith, held_other r apart, references_follow.others s d r inside apart)
    ]

    pub held_few : (r : ℕ) → held_refs r d (objects_in s.regions d) ≤ count_of before r
    held_few r = omega (arith, held_taken r, counted.counts r)

    pub cells_few : cells_in (region_at s.regions d) ≤ cells
    cells_few = omega (arith, cells_follow.deleted s d inside, counted.sum)

    pub counted_deleted : (new : SpaceState) (fewer : ℕ) → d ≢ 0 → has_child s d ≡ false → refs s d ≡ 0 → ((r : ℕ) → count_of new r + held_refs r d (objects_in s.regions d) ≡ count_of before r) → fewer ≡ cells - cells_in (region_at s.regions d) → IsCounted new (deleted d s) fewer
    counted_deleted new fewer below childless unnamed taken is = record {
      counts = λ r. omega (arith, taken r, counted.counts r, held_taken r);
      sum = omega (arith, is, cells_follow.deleted s d inside, counted.sum);
      few = omega (arith, is, counted.few);
      whole = stays_whole.deleted s d counted.whole below childless unnamed;
    }

  -- a write
  module _ (p : Place) (there : IsThere s p) where
    written_few : (v : Value) (r : ℕ) → refs (written p v s) r + s.spare ≤ 18446744073709551615
    written_few v r = omega (arith, references_follow.few (written p v s) r, cells_follow.written s p v there.place, counted.sum, counted.few)

    pub counted_kept : (v : Value) (new : SpaceState) → MayStand s p v → note_of (kind_at s p) ≢ Plain → IsTrue (fits (parent_in s.regions) (note_of (kind_at s p)) p.pointer.region v) → ((r : ℕ) → count_of new r ≡ count_of before r) → IsCounted new (written p v s) cells
    counted_kept v new may noted fit same = record {
      counts = λ r. omega (arith, same r, counted.counts r, references_follow.written s p v r there, noted_cell r p.pointer.region (kind_at s p) (kept_value s p) noted, noted_cell r p.pointer.region (kind_at s p) v noted);
      sum = counted.sum ∙ sym (cells_follow.written s p v there.place);
      few = counted.few;
      whole = stays_whole.written s p v counted.whole may fit;
    }

    pub counted_number : (n : ℤ) (new : SpaceState) → IsTrue (suits (kind_at s p) (Number n)) → ((r : ℕ) → count_of new r ≡ count_of before r) → IsCounted new (written p (Number n) s) cells
    counted_number n new fit same = record {
      counts = λ r. omega (arith, same r, counted.counts r, references_follow.written s p (Number n) r there, number_cell r p.pointer.region (kind_at s p) n (kept_value s p) fit, number_cell r p.pointer.region (kind_at s p) n (Number n) fit);
      sum = counted.sum ∙ sym (cells_follow.written s p (Number n) there.place);
      few = counted.few;
      whole = stays_whole.plain s p (Number n) counted.whole (record { place = there.place; fresh = refl; kind = fit }) (number_plain (kind_at s p) n fit);
    }

    module _ (v old : Value) (is : old ≡ kept_value s p) (plain : note_of (kind_at s p) ≡ Plain) (old_suits : IsTrue (suits (kind_at s p) (kept_value s p))) (new_suits : IsTrue (suits (kind_at s p) v)) where
      old_cell : (r : ℕ) → cell_refs r p.pointer.region (kind_at s p) (kept_value s p) ≡ value_refs r p.pointer.region old
      old_cell r = plain_cell r p.pointer.region (kind_at s p) (kept_value s p) plain old_suits ∙ ap (value_refs r p.pointer.region) (sym is)

      new_cell : (r : ℕ) → cell_refs r p.pointer.region (kind_at s p) v ≡ value_refs r p.pointer.region v
      new_cell r = plain_cell r p.pointer.region (kind_at s p) v plain new_suits

      pub old_few : (r : ℕ) → value_refs r p.pointer.region old ≤ count_of before r
      old_few r = omega (arith, references_follow.written s p Null r there, null_cell r p.pointer.region (kind_at s p), old_cell r, counted.counts r)

      follows : (r : ℕ) → refs (written p v s) r + value_refs r p.pointer.region old ≡ refs s r + value_refs r p.pointer.region v
      follows r = omega (arith, references_follow.written s p v r there, old_cell r, new_cell r)

      module _ (mid : SpaceState) (taken : (r : ℕ) → count_of mid r + value_refs r p.pointer.region old ≡ count_of before r) where
        pub new_few : (r : ℕ) → count_of mid r + value_refs r p.pointer.region v ≤ 18446744073709551615
        new_few r = omega (arith, taken r, counted.counts r, follows r, written_few v r)

        pub counted_written : (new : SpaceState) → IsFresh s v → ((r : ℕ) → count_of new r ≡ count_of mid r + value_refs r p.pointer.region v) → IsCounted new (written p v s) cells
        counted_written new fresh given = record {
          counts = λ r. omega (arith, given r, taken r, counted.counts r, follows r);
          sum = counted.sum ∙ sym (cells_follow.written s p v there.place);
          few = counted.few;
          whole = stays_whole.plain s p v counted.whole (record { place = there.place; fresh = fresh; kind = new_suits }) plain;
        }

  -- pins
  at_most_one : (r : ℕ) (v : Value) → pin_refs r v ≤ 1
  at_most_one r v = small (names r v)
    where
      small : (b : Bool) → cond {A = ℕ} b 1 0 ≤ 1
      small true = omega arith
      small false = omega arith

  pub pin_few : (v : Value) (r : ℕ) → 0 < s.spare → count_of before r + pin_refs r v ≤ 18446744073709551615
  pin_few v r room = omega (arith, counted.counts r, few_refs r, at_most_one r v, room)

  pub counted_pinned : (v : Value) (spare : ℕ) (new : SpaceState) → IsFresh s v → spare + 1 ≡ s.spare → ((r : ℕ) → count_of new r ≡ count_of before r + pin_refs r v)
      → IsCounted new (record s { pins = s.pins ++ v ∷ []; spare = spare }) cells
  counted_pinned v spare new fresh room given = record {
    counts = λ r. omega (arith, given r, counted.counts r, sum_by-append (λ x. cond (names r x) 1 0) s.pins (v ∷ []), sum_by-cons (λ x. cond (names r x) 1 0) v []);
    sum = counted.sum;
    few = omega (arith, counted.few, room, length-append s.pins (v ∷ []));
    whole = stays_whole.pinned s spare v counted.whole fresh;
  }

  -- as much room as there is
  pub counted_spared : (spare : ℕ) → cells + length s.pins + spare ≤ 18446744073709551615 → IsCounted before (record s { spare = spare }) cells
  counted_spared spare few = record { counts = counted.counts; sum = counted.sum; few = few; whole = stays_whole.spared s spare counted.whole }

  pub counted_limited : (limits : Limits) → IsCounted before (limited limits s) cells
  counted_limited limits = record { counts = counted.counts; sum = counted.sum; few = counted.few; whole = stays_whole.limited s limits counted.whole }

  pub counted_unpinned : (v : Value) (pins : List Value) (spare : ℕ) (new : SpaceState) → IsPermutation s.pins (v ∷ pins) → spare ≡ s.spare + 1 → ((r : ℕ) → count_of new r + pin_refs r v ≡ count_of before r)
      → IsCounted new (record s { pins = pins; spare = spare }) cells
  counted_unpinned v pins spare new moved room taken = record {
    counts = λ r. omega (arith, taken r, counted.counts r, sum_by-IsPermutation (λ x. cond (names r x) 1 0) s.pins (v ∷ pins) moved, sum_by-cons (λ x. cond (names r x) 1 0) v pins);
    sum = counted.sum;
    few = omega (arith, counted.few, room, length_permutation s.pins (v ∷ pins) moved);
    whole = stays_whole.unpinned s spare v pins counted.whole moved;
  }

-- a named region of a fresh value is live
fresh_named : (live : ℕ → Bool) (r : ℕ) (v : Value) → is_fresh live v ≡ true → names r v ≡ true → live r ≡ true
fresh_named live r (Number n) fresh named = absurd (false≢true named)
fresh_named live r Null fresh named = absurd (false≢true named)
fresh_named live r (Handle q) fresh named = ap live (sym (same_number q r named)) ∙ fresh
fresh_named live r (Pointer a) fresh named = ap live (sym (same_number a.region r named)) ∙ fresh

counted_names : (b n : Bool) → 0 < cond b 0 (cond {A = ℕ} n 1 0) → n ≡ true
counted_names true n some = absurd (omega (arith, some))
counted_names false true some = refl
counted_names false false some = absurd (omega (arith, some))

pub fresh_live : (s : KeptStore) (h r : ℕ) (v : Value) → IsFresh s v → 0 < value_refs r h v → IsTrue (live_in s.regions r)
fresh_live s h r v fresh some = fresh_named (live_in s.regions) r v fresh (counted_names (nat_eq h r) (names r v) some)

-- a write leaves who is live
pub live_with : (regions : Regions) (q r : ℕ) (objects : List KeptObject) → live_in (with_objects q objects regions) r ≡ live_in regions r
live_with [] q r objects = refl
live_with (None ∷ vs) zero zero objects = refl
live_with (Some v ∷ vs) zero zero objects = refl
live_with (v ∷ vs) zero (suc r) objects = refl
live_with (v ∷ vs) (suc q) zero objects = refl
live_with (v ∷ vs) (suc q) (suc r) objects = live_with vs q r objects
