use Rattle.std.proofs.Common.{rules, ◌≡◌, ◌-◌, true, length, get_or, take, drop}
use Rattle.rc_core.specs.declared.ty.Signedness.TheVariants.{Signed}
use Rattle.rc_code.specs.declared.image.Index.{Index}
use Rattle.rc_reached.proofs.Numbers.{each_on}
use Rattle.rc_reached.proofs.numbered.+are_numbered_all.Goals as goal

pub loop-left-preserved : goal.loop-left-preserved
loop-left-preserved t c =
    let indices = c.args.indices.now in
    let none : Index = record { length = 0; stride = 0; kind = Signed } in
    let holds : c.are_numbered_all.result ≡ true = search rules in
    each_on c.args.number c.loop-left.place.now c.numbers_from-place.result.now c.args.from.now (take (length indices - 1) (drop 1 indices)) c.loop-left.left (get_or indices 0 none).length (get_or indices 0 none).stride c.are_numbered_all.result
    c.loop-left-test.true c.numbers_from-place.ensures holds c.are_numbered_all.ensures c.loop-left.invariant
