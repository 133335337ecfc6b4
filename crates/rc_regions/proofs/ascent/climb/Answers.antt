use Rattle.std.proofs.Common.{◌≡◌, ◌<◌, ◌≤◌, ◌∙◌, ◌+◌, ◌*◌, ◌/◌, ◌%◌, ◌^◌, sym, ap, subst, rules, arith}
use Rattle.rc_regions.specs.Ascents.{ancestor}
use Rattle.rc_regions.specs.Columns.{Columns, columns_of}
use Rattle.rc_regions.specs.Slots.{IsLive}
use Rattle.rc_regions.proofs.Ancestors.{ancestor-add, depth-ancestor, live-ancestor}
use Rattle.rc_regions.proofs.Climbing.{below_power, even_way, odd_way, one_times, ones-even, ones-odd}
use Rattle.rc_regions.proofs.WayLaws.{link-read, links-length}
use Rattle.rc_regions.proofs.ascent.climb.Goals as goal
use Rattle.rc_regions.proofs.ascent.climb.Goals.{then-rest-eq1, else-rest-eq1}

pub link_at-slot-requires : goal.link_at-slot-requires
link_at-slot-requires g c = below_power c.loop-rest.rest c.loop-rest.power 32 c.loop-rest-test.true (omega (arith, c.loop-rest.invariant.low, c.ranges.distance.fits))

pub overflow_add-power : goal.overflow_add-power
overflow_add-power g c = let low : c.loop-rest.power < 32 = below_power c.loop-rest.rest c.loop-rest.power 32 c.loop-rest-test.true (omega (arith, c.loop-rest.invariant.low, c.ranges.distance.fits)) in search (rules, low)

pub loop-rest-preserved : goal.loop-rest-preserved
loop-rest-preserved g c = elim c.if-rest-eq1.branch [
  | then-rest-eq1 w ↦
      let old : Columns = columns_of c.args.table.now in
      let slots = old.slots in
      let rest = c.loop-rest.rest in
      let power = c.loop-rest.power in
      let odd = w.if-rest-eq1.true in
      let live = c.loop-rest.invariant.live in
      let within : power < 32 = below_power rest power 32 c.loop-rest-test.true (omega (arith, c.loop-rest.invariant.low, c.ranges.distance.fits)) in
      let reach : 2 ^ power ≤ old.depth c.loop-rest.slot = omega (arith, one_times rest (2 ^ power) c.loop-rest-test.true, c.loop-rest.invariant.deep) in
      let long = c.requires.ascents.long c.loop-rest.slot in
      let read = link-read c.args.table.now.ways c.loop-rest.slot power (omega (arith, within, long, links-length c.args.table.now.ways c.loop-rest.slot)) in
      let link : c.if-rest-eq1.slot ≡ ancestor slots (2 ^ power) c.loop-rest.slot = w.slot-is ∙ w.link_at-slot.ensures ∙ sym read ∙ c.requires.ascents.ways c.loop-rest.slot power live reach in
      let down : old.depth (ancestor slots (2 ^ power) c.loop-rest.slot) + 2 ^ power ≡ old.depth c.loop-rest.slot = depth-ancestor slots c.requires.ascents.rooted old.depth c.requires.ascents.depths (2 ^ power) c.loop-rest.slot live reach in
      record {
        live = subst (IsLive slots) (sym link) (live-ancestor slots c.requires.ascents.rooted (2 ^ power) c.loop-rest.slot live);
        way = ap (ancestor slots (rest / 2 * 2 ^ (power + 1))) link ∙ sym (ancestor-add slots (2 ^ power) (rest / 2 * 2 ^ (power + 1)) c.loop-rest.slot) ∙ ap (λ n. ancestor slots n c.loop-rest.slot) (sym (odd_way rest power odd)) ∙ c.loop-rest.invariant.way;
        low = omega (arith, odd_way rest power odd, c.loop-rest.invariant.low);
        deep = omega (arith, odd_way rest power odd, c.loop-rest.invariant.deep, down, ap old.depth link);
        cost = omega (arith, ones-odd rest odd, c.loop-rest.invariant.cost);
      }
  | else-rest-eq1 w ↦
      let old : Columns = columns_of c.args.table.now in
      let slots = old.slots in
      let rest = c.loop-rest.rest in
      let power = c.loop-rest.power in
      let not_odd = w.if-rest-eq1.false in
      let even : rest % 2 ≡ 0 = omega (arith, not_odd) in
      record {
        live = subst (IsLive slots) (sym w.slot-is) c.loop-rest.invariant.live;
        way = ap (ancestor slots (rest / 2 * 2 ^ (power + 1))) w.slot-is ∙ ap (λ n. ancestor slots n c.loop-rest.slot) (sym (even_way rest power even)) ∙ c.loop-rest.invariant.way;
        low = omega (arith, even_way rest power even, c.loop-rest.invariant.low);
        deep = omega (arith, even_way rest power even, c.loop-rest.invariant.deep, ap old.depth w.slot-is);
        cost = omega (arith, ones-even rest even, c.loop-rest.invariant.cost);
      }
]
