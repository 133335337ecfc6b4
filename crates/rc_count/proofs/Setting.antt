-- Several regions go at once: the counts stay the references.
use Rattle.std.proofs.Common.{◌≡◌, ◌<◌, ◌≤◌, ◌+◌, ◌-◌, ◌∙◌, ℕ, zero, suc, true, false, cond, nat_eq, List, [], ◌∷◌, Option, Some, None, length, get_or, refl, sym, ap, subst, arith}
use Rattle.std.specs.Prelude.{All, Contains}
use Rattle.std.specs.List.{sum_by}
use Rattle.std.proofs.lemmas.List.Sums.{sum_by-cons}
use Rattle.rc_store.specs.Kept.{KeptStore, KeptView, object_refs, refs, view_refs}
use Rattle.rc_store.specs.Sets.{IsSet, deleted_all, has_child_outside, is_in, refs_to, set_refs}
use Rattle.rc_store.specs.Stores.{objects_in, or_none, region_at}
use Rattle.rc_cells.specs.Together.{held}
use Rattle.rc_cells.proofs.Together.{place_of, sets_follow}
use Rattle.rc_registry.proofs.Marked.{in_place}
use Rattle.rc_whole.proofs.Whole.{stays_whole}
use Rattle.rc_tally.specs.Tally.{held_refs}
use Rattle.rc_space.specs.Spaces.{SpaceState, count_of}
use Rattle.rc_count.specs.Counted.{IsCounted}
use Rattle.rc_count.specs.Together.{all_held, cells_among}
use Rattle.rc_count.proofs.Counting.{few_refs}

view_sum : (r : ℕ) (v : Option KeptView) → view_refs r v ≡ sum_by (object_refs r) (or_none v).objects
view_sum r None = refl
view_sum r (Some v) = refl

sums_same : (f g : ℕ → ℕ) (set : List ℕ) → ((n : ℕ) → f n ≡ g n) → sum_by f set ≡ sum_by g set
sums_same f g [] same = refl
sums_same f g (d ∷ ds) same = omega (arith, sum_by-cons f d ds, sum_by-cons g d ds, same d, sums_same f g ds same)

held_is : (s : KeptStore) (set : List ℕ) (r : ℕ) → all_held s.regions set r ≡ sum_by (held s r) set
held_is s set r = sums_same (λ d. held_refs r d (objects_in s.regions d)) (held s r) set (λ d. ap (λ n. cond (nat_eq d r) 0 n) (sym (view_sum r (region_at s.regions d))))

-- a sum is over 0 where a member has some
some_in : (f : ℕ → ℕ) (set : List ℕ) → 0 < sum_by f set → (k : ℕ) × (k < length set) × (0 < f (get_or set k 0))
some_in f [] some = absurd (omega (arith, some))
some_in f (d ∷ ds) some = by (some_in f ds) (f d) refl
  where
    by : (0 < sum_by f ds → (k : ℕ) × (k < length ds) × (0 < f (get_or ds k 0))) → (n : ℕ) → f d ≡ n → (k : ℕ) × (k < length (d ∷ ds)) × (0 < f (get_or (d ∷ ds) k 0))
    by rest zero none = let one = rest (omega (arith, some, none, sum_by-cons f d ds)) in (suc one.0, omega (arith, one.1), one.2)
    by rest (suc n) is = (0, omega arith, omega (arith, is))

sum_over : (f : ℕ → ℕ) (set : List ℕ) (k d : ℕ) → k < length set → f (get_or set k d) ≤ sum_by f set
sum_over f [] k d inside = absurd (omega (arith, inside))
sum_over f (x ∷ xs) zero d inside = omega (arith, sum_by-cons f x xs)
sum_over f (x ∷ xs) (suc k) d inside = omega (arith, sum_by-cons f x xs, sum_over f xs k d (omega (arith, inside)))

module _ (before : SpaceState) (s : KeptStore) (cells : ℕ) (counted : IsCounted before s cells) (set : List ℕ) (all : IsSet s set) where
  taken : (r : ℕ) → refs (deleted_all set s) r + all_held s.regions set r ≡ refs s r
  taken r = omega (arith, sets_follow.references s set r all, held_is s set r)

  pub set_enough : (r : ℕ) → all_held s.regions set r ≤ count_of before r
  set_enough r = omega (arith, taken r, counted.counts r)

  pub set_cells : cells_among s.regions set ≤ cells
  set_cells = omega (arith, sets_follow.cells s set all, counted.sum)

  pub set_cells_fit : cells_among s.regions set ≤ 18446744073709551615
  set_cells_fit = omega (arith, set_cells, counted.few)

  -- what is counted when the references of the set's cells are taken back
  module _ (mid : SpaceState) (less : (r : ℕ) → count_of mid r + all_held s.regions set r ≡ count_of before r) where
    left_counts : (r : ℕ) → count_of mid r ≡ refs (deleted_all set s) r
    left_counts r = omega (arith, less r, taken r, counted.counts r)

    pub set_room : (r : ℕ) → count_of mid r + all_held s.regions set r ≤ 18446744073709551615
    set_room r = omega (arith, less r, counted.counts r, few_refs before s cells counted r)

    -- they are given again
    pub counted_again : (new : SpaceState) → ((r : ℕ) → count_of new r ≡ count_of mid r + all_held s.regions set r) → IsCounted new s cells
    counted_again new more = record { counts = λ r. omega (arith, more r, less r, counted.counts r); sum = counted.sum; few = counted.few; whole = counted.whole }

    to_member : (r : ℕ) → is_in set r ≡ true → refs_to s set r ≡ count_of mid r
    to_member r member = sets_follow.beside s set r member ∙ sym (left_counts r)

    pub named_set : (r : ℕ) × Contains set r × (0 < count_of mid r) → 0 < set_refs s set
    named_set named =
        let place = named.1 in
        let many = sum_over (refs_to s set) set place.0 0 place.1 in
        let same : refs_to s set (get_or set place.0 0) ≡ count_of mid named.0 = to_member (get_or set place.0 0) (in_place set place.0 0 place.1) ∙ ap (count_of mid) (at_any set place.0 0 place.1 ∙ place.2) in
        omega (arith, many, same, named.2)
      where
        at_any : (xs : List ℕ) (k d : ℕ) → k < length xs → get_or xs k d ≡ get_or xs k named.0
        at_any [] k d inside = absurd (omega (arith, inside))
        at_any (x ∷ xs) zero d inside = refl
        at_any (x ∷ xs) (suc k) d inside = at_any xs k d (omega (arith, inside))

    pub set_named : 0 < set_refs s set → (r : ℕ) × Contains set r × (0 < count_of mid r)
    set_named some =
        let one = some_in (refs_to s set) set some in
        let r = get_or set one.0 0 in
        let member = in_place set one.0 0 one.1 in
        (r, place_of set r member, omega (arith, one.2, to_member r member))

    pub set_unnamed : ¬ ((r : ℕ) × Contains set r × (0 < count_of mid r)) → All (λ r. count_of mid r ≡ 0) set
    set_unnamed none k d inside = by (count_of mid (get_or set k d)) refl
      where
        by : (n : ℕ) → count_of mid (get_or set k d) ≡ n → count_of mid (get_or set k d) ≡ 0
        by zero is = is
        by (suc n) is = absurd (none (get_or set k d, place_of set (get_or set k d) (in_place set k d inside), omega (arith, is)))

    set_free : ¬ ((r : ℕ) × Contains set r × (0 < count_of mid r)) → set_refs s set ≡ 0
    set_free none = by (set_refs s set) refl
      where
        by : (n : ℕ) → set_refs s set ≡ n → set_refs s set ≡ 0
        by zero is = is
        by (suc n) is = absurd (none (set_named (omega (arith, is))))

    -- and the set is gone
    pub counted_set : (new : SpaceState) (fewer : ℕ) → (¬ Contains set 0) → has_child_outside set s.regions ≡ false → ¬ ((r : ℕ) × Contains set r × (0 < count_of mid r)) → ((r : ℕ) → count_of new r ≡ count_of mid r) → fewer ≡ cells - cells_among s.regions set → IsCounted new (deleted_all set s) fewer
    counted_set new fewer below closed none same is = record {
      counts = λ r. same r ∙ left_counts r;
      sum = omega (arith, is, sets_follow.cells s set all, counted.sum);
      few = subst (λ (x : KeptStore). fewer + length x.pins + x.spare ≤ 18446744073709551615) (sym (sets_follow.left s set)) (omega (arith, is, counted.few));
      whole = stays_whole.deleted_all s set counted.whole below closed (set_free none);
    }
