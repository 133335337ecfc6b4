use Rattle.std.proofs.Common.{◌≡◌, ◌∙◌, ◌⊎◌, inl, inr, ℕ, IsTrue, length}
use Rattle.rc_stops.specs.Rows.{IsWhole}
use Rattle.rc_stops.specs.Waits.{is_among}
use Rattle.rc_stops.proofs.Looks.{whole_used, taken_less}
use Rattle.rc_stops.proofs.Queues.{among_taken, below_less, below_last, none_waits, shorter}
use Rattle.rc_stops.proofs.settling.settle.Goals as goal

pub returns-in-None-clause-used : goal.returns-in-None-clause-used
returns-in-None-clause-used c = λ at x lt. (
  c.looks.invariant.used at x lt,
  λ u. whole_used c.args.stops.now c.looks.rows (λ k l. by k (c.looks.invariant.whole k l)) u,
)
  where
    none : length c.looks.waiting.items ≡ 0
    none = rw c.in-None.is at c.take.ensures

    by : (k : ℕ) → IsWhole c.args.stops.now c.looks.rows k ⊎ IsTrue (is_among c.looks.waiting.items k) → IsWhole c.args.stops.now c.looks.rows k
    by k (inl w) = w
    by k (inr m) = absurd (none_waits c.looks.waiting.items k none m)

pub visit-requires-clause-at : goal.visit-requires-clause-at
visit-requires-clause-at c = below_last (length c.args.stops.now) c.looks.waiting.items c.take.new.waiting.items c.in-Some.at (rw c.in-Some.is at c.take.ensures) c.looks.invariant.below

pub visit-requires-clause-below : goal.visit-requires-clause-below
visit-requires-clause-below c = below_less (length c.args.stops.now) c.looks.waiting.items c.take.new.waiting.items c.in-Some.at (rw c.in-Some.is at c.take.ensures) c.looks.invariant.below

pub looks-preserved : goal.looks-preserved
looks-preserved c = record {
  long = c.visit.ensures.long ∙ c.looks.invariant.long;
  below = c.in_ok-visit-in-Some.ensures.below;
  used = c.in_ok-visit-in-Some.ensures.visited.used c.looks.invariant.used;
  whole = λ k l. c.in_ok-visit-in-Some.ensures.visited.whole k (by k (c.looks.invariant.whole k l));
}
  where
    by : (k : ℕ) → IsWhole c.args.stops.now c.looks.rows k ⊎ IsTrue (is_among c.looks.waiting.items k) → (IsWhole c.args.stops.now c.looks.rows k ⊎ (k ≡ c.in-Some.at)) ⊎ IsTrue (is_among c.take.new.waiting.items k)
    by k (inl w) = inl (inl w)
    by k (inr m) = elim (among_taken c.looks.waiting.items c.take.new.waiting.items c.in-Some.at (rw c.in-Some.is at c.take.ensures) k m) [ inl e ↦ inl (inr e) | inr r ↦ inr r ]

pub looks-smaller : goal.looks-smaller
looks-smaller c = taken_less _ _ _ _ _ c.in_ok-visit-in-Some.ensures.visited.less (shorter c.looks.waiting.items c.take.new.waiting.items c.in-Some.at (rw c.in-Some.is at c.take.ensures))
