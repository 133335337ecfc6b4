use Rattle.std.proofs.Common.{◌∙◌, sym, arith, get_or, below_more}
use Rattle.std.proofs.lemmas.Bool.{false≢true}
use Rattle.rc_registry.specs.Registries.{HasUnmarkedChild}
use Rattle.rc_registry.proofs.Marked.{place_among}
use Rattle.rc_registry.proofs.groups.has_unmarked_child.Goals as goal

pub loop-region-preserved : goal.loop-region-preserved
loop-region-preserved c = below_more (λ k. HasUnmarkedChild c.args.registry.now.members (get_or c.args.set.now k 0) c.args.marks.now → ⊥) c.loop-region.region-index c.loop-region.invariant
    (λ has. false≢true (sym c.if-has_unmarked_child.false ∙ c.has_unmarked_child.ensures.1 has))

pub returns : goal.returns
returns c = (
  (λ never. absurd (false≢true never)),
  (λ has.
      let place = place_among c.args.registry.now.members c.args.set.now c.args.marks.now has in
      absurd (c.loop-region.invariant place.0 (omega (arith, place.1, c.loop-region-test.false)) place.2)),
)
