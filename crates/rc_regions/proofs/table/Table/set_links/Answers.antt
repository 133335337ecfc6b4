use Rattle.std.proofs.Common.{◌≡◌, ◌<◌, ◌≤◌, ◌+◌, ◌*◌, ◌^◌, ◌∙◌, refl, sym, arith, rules}
use Rattle.rc_regions.specs.Columns.{Columns, columns_of}
use Rattle.rc_regions.proofs.Climbing.{power-suc}
use Rattle.rc_regions.proofs.Linking.{next_above, next_climbed, next_same, next_wide, relinked-all, relinked-itself, within_power}
use Rattle.rc_regions.proofs.WayLaws.{link-read, links-length}
use Rattle.rc_regions.proofs.table.Table.set_links.Goals as goal

pub loop-reach-init : goal.loop-reach-init
loop-reach-init c = record {
  same = relinked-itself (columns_of c.args.self.now) c.args.slot;
  long = c.requires.ascents.long c.args.slot;
  places = λ k. omega arith;
  doubled = refl;
  above = λ _. refl;
  climbed = λ j low. absurd (omega (arith, low));
}

pub returns : goal.returns
returns c = relinked-all (columns_of c.args.self.now) (columns_of c.loop-reach.self) c.args.slot c.args.parent c.args.depth c.loop-reach.power c.loop-reach.invariant.same c.loop-reach.invariant.long (omega (arith, c.loop-reach-test.false, c.loop-reach.invariant.doubled)) c.loop-reach.invariant.climbed

pub set_link-requires-clause-power : goal.set_link-requires-clause-power
set_link-requires-clause-power c =
    within_power c.loop-reach.power 32 (omega (arith, c.loop-reach-test.true, c.loop-reach.invariant.doubled, c.ranges.depth.fits))

pub set_link-requires-clause-place : goal.set_link-requires-clause-place
set_link-requires-clause-place c =
    let reaches : 2 ^ c.loop-reach.power ≤ c.args.depth = omega (arith, c.loop-reach-test.true, c.loop-reach.invariant.doubled) in
    let place = c.requires.places c.loop-reach.power reaches in
    let kept = c.loop-reach.invariant.places c.loop-reach.power in
    omega (arith, place, kept)

pub link_at-above-requires : goal.link_at-above-requires
link_at-above-requires c =
    within_power c.loop-reach.power 32 (omega (arith, c.loop-reach-test.true, c.loop-reach.invariant.doubled, c.ranges.depth.fits))

pub overflow_add-power : goal.overflow_add-power
overflow_add-power c =
    let low : c.loop-reach.power < 32 = within_power c.loop-reach.power 32 (omega (arith, c.loop-reach-test.true, c.loop-reach.invariant.doubled, c.ranges.depth.fits)) in
    search (rules, low)

pub loop-reach-preserved : goal.loop-reach-preserved
loop-reach-preserved c =
    let old : Columns = columns_of c.args.self.now in
    let now : Columns = columns_of c.loop-reach.self in
    let next : Columns = columns_of c.set_link.new.self in
    let power = c.loop-reach.power in
    let reaches : 2 ^ power ≤ c.args.depth = omega (arith, c.loop-reach-test.true, c.loop-reach.invariant.doubled) in
    let small : c.args.depth < 2 ^ 32 = omega (arith, c.ranges.depth.fits) in
    let is = c.loop-reach.invariant.above c.loop-reach-test.true in
    let doubled : c.loop-reach.reach * 2 ≡ 2 ^ (power + 1) = omega (arith, c.loop-reach.invariant.doubled, power-suc power) in
    let ways = c.set_link.new.self.ways in
    let wide = next_wide old now c.args.slot c.args.parent c.args.depth power c.loop-reach.above c.requires.free c.requires.live c.requires.ascents c.requires.deep c.loop-reach.invariant.same c.loop-reach.invariant.long small reaches is c.loop-reach.invariant.climbed next c.set_link.ensures.links in
    let low = within_power power 32 (omega (arith, reaches, small)) in
    let read = link-read ways c.loop-reach.above power (omega (arith, low, wide, links-length ways c.args.slot)) in
    record {
      same = next_same old now c.args.slot c.args.parent c.args.depth power c.loop-reach.above c.requires.free c.requires.live c.requires.ascents c.requires.deep c.loop-reach.invariant.same c.loop-reach.invariant.long small reaches is c.loop-reach.invariant.climbed next c.set_link.ensures.links;
      long = wide;
      places = λ k. let before = c.loop-reach.invariant.places k in let step = c.set_link.ensures.places k in omega (arith, before, step);
      doubled = doubled;
      above = λ more. c.link_at-above.ensures ∙ sym read ∙ next_above old now c.args.slot c.args.parent c.args.depth power c.loop-reach.above c.requires.free c.requires.live c.requires.ascents c.requires.deep c.loop-reach.invariant.same c.loop-reach.invariant.long small reaches is c.loop-reach.invariant.climbed next c.set_link.ensures.links (omega (arith, more, doubled));
      climbed = next_climbed old now c.args.slot c.args.parent c.args.depth power c.loop-reach.above c.requires.free c.requires.live c.requires.ascents c.requires.deep c.loop-reach.invariant.same c.loop-reach.invariant.long small reaches is c.loop-reach.invariant.climbed next c.set_link.ensures.links;
    }
