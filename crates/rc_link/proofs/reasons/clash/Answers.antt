use Rattle.std.proofs.Common.{◌≡◌, ◌∙◌, ◌+◌, [], ◌++◌, Some, ap, sym, refl, map, arith}
use Rattle.rc_syntax.specs.Shape.{item_of}
use Rattle.rc_linking.specs.Links.{clash_in, clashes}
use Rattle.rc_link.specs.Answers.{refusal_of, trees_of}
use Rattle.rc_link.proofs.Walking.{clash_here, no_clash_here, clashes_end}
use Rattle.rc_link.proofs.reasons.clash.Goals as goal

pub loop-i-init : goal.loop-i-init
loop-i-init c = record { behind = ([], c.new-earlier.ensures, refl) }

pub returns-in-Some : goal.returns-in-Some
returns-in-Some c =
    let b = c.loop-i.invariant.behind in
    let items = c.as_slice-items.result.now in
    let told : Some (refusal_of c.refusal_in.result) ≡ clash_in b.0 (c.loop-i.i + 1) (map item_of items) = ap Some c.refusal_in.ensures ∙ c.in-Some.ensures b.0 (c.loop-i.i + 1) b.1 in
    clash_here c.args.units.now c.loop-i.i c.index-units-i.result (omega arith) c.index-units-i.is b.0 (clashes [] 1 (trees_of c.args.units.now)) b.2 items (cc) (refusal_of c.refusal_in.result) told

pub loop-i-preserved : goal.loop-i-preserved
loop-i-preserved c =
    let b = c.loop-i.invariant.behind in
    let items = c.as_slice-items.result.now in
    record {
      behind = (
        b.0 ++ map item_of items,
        c.in_ok-add.ensures b.0 b.1,
        no_clash_here c.args.units.now c.loop-i.i c.index-units-i.result (omega arith) c.index-units-i.is b.0 (clashes [] 1 (trees_of c.args.units.now)) b.2 items (cc) c.clash.result c.in_default.not-Some (c.clash.ensures b.0 (c.loop-i.i + 1) b.1),
      );
    }

pub returns : goal.returns
returns c =
    let b = c.loop-i.invariant.behind in
    sym (b.2 ∙ clashes_end c.args.units.now c.loop-i.i (omega arith) b.0 (c.loop-i.i + 1))
