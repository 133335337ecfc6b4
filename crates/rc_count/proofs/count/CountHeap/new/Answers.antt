use Rattle.std.proofs.Common.{◌≡◌, ◌∙◌, ℕ, zero, suc, [], ◌∷◌, Some, refl, sym, subst, arith}
use Rattle.std.proofs.lemmas.List.Sums.{sum_by-cons}
use Rattle.rc_store.specs.Kept.{KeptStore, refs}
use Rattle.rc_store.specs.Stores.{PinsState, cells_in, no_view}
use Rattle.rc_whole.proofs.Whole.{stays_whole}
use Rattle.rc_space.specs.Spaces.{SpaceState, count_of}
use Rattle.rc_count.specs.Counted.{IsCounted}
use Rattle.rc_count.proofs.count.CountHeap.new.Goals as goal

-- region 0 alone has no reference
abbrev first : KeptStore
first = record { regions = Some no_view ∷ []; pins = []; spare = 0; region_limit = 0; block_limit = 0 }

none : (r : ℕ) → refs first r ≡ 0
none zero = refl
none (suc r) = refl

counted_first : (space : SpaceState) (pins : PinsState) → space.regions ≡ Some no_view ∷ [] → ((r : ℕ) → count_of space r ≡ 0) → (let empty : PinsState = record { pins = []; spare = 0 } in pins ≡ empty)
    → IsCounted space (record { regions = space.regions; pins = pins.pins; spare = pins.spare; region_limit = 0; block_limit = 0 }) 0
counted_first space pins regions counts empty =
    subst (λ (p : PinsState). IsCounted space (record { regions = space.regions; pins = p.pins; spare = p.spare; region_limit = 0; block_limit = 0 }) 0) (sym empty)
    (subst (λ rs. IsCounted space (record { regions = rs; pins = []; spare = 0; region_limit = 0; block_limit = 0 }) 0) (sym regions)
    (record {
      counts = λ r. counts r ∙ sym (none r);
      sum = omega (arith, sum_by-cons cells_in (Some no_view) []);
      few = omega arith;
      whole = stays_whole.new first (record { regions = refl; pins = refl });
    }))

pub invariant_of-result : goal.invariant_of-result
invariant_of-result g c = counted_first c.in_ok-new.field-0 c.new-2.result c.in_ok-new.ensures.regions c.in_ok-new.ensures.counts c.new-2.ensures
