use Rattle.std.specs.Prelude.{Some}
use Rattle.std.proofs.Common.{◌+◌, ◌-◌, ◌<◌, ◌/◌, length, arith, sym, ap, ◌∙◌}
use Rattle.std.proofs.lemmas.Option.{slice_get-get_or}
use Rattle.rc_rlang.proofs.Searching.{entry_of, upper, lower, is_entry}
use Rattle.rc_rlang.proofs.live_map.place_of.Goals as goal

pub loop-high-init : goal.loop-high-init
loop-high-init c = entry_of c.args.lists.now c.args.point c.requires.point.locals c.requires.point.there

pub loop-high-preserved-then-lists-middle : goal.loop-high-preserved-then-lists-middle
loop-high-preserved-then-lists-middle c =
    let low = c.loop-high.low in
    let high = c.loop-high.high in
    let i = c.loop-high.invariant.inside in
    let t = c.loop-high-test.true in
    let m : low + (high - low) / 2 < length c.args.lists.now = omega (arith, i, t) in
    upper c.args.lists.now c.args.point low high (low + (high - low) / 2) c.requires.map c.loop-high.invariant _ (slice_get-get_or c.args.lists.now (low + (high - low) / 2) c.index-lists-middle.result m) c.if-lists-middle.true

pub loop-high-preserved : goal.loop-high-preserved
loop-high-preserved c =
    let low = c.loop-high.low in
    let high = c.loop-high.high in
    let i = c.loop-high.invariant.inside in
    let t = c.loop-high-test.true in
    let m : low + (high - low) / 2 < length c.args.lists.now = omega (arith, i, t) in
    lower c.args.lists.now c.args.point low high (low + (high - low) / 2) c.requires.map c.loop-high.invariant _ (slice_get-get_or c.args.lists.now (low + (high - low) / 2) c.index-lists-middle.result m) c.if-lists-middle.false (omega (arith, t))

pub returns-clause-inside : goal.returns-clause-inside
returns-clause-inside c =
    let b = c.loop-high.invariant in
    let l = b.low_enough in
    let h = b.high_enough in
    let i = b.inside in
    omega (arith, l, h, i)

pub returns-clause-listed : goal.returns-clause-listed
returns-clause-listed c h e =
    let b = c.loop-high.invariant in
    let t = c.loop-high-test.false in
    b.list ∙ ap (λ x. Some x.locals.items) (sym (is_entry c.args.lists.now c.args.point c.loop-high.low c.loop-high.high b (omega (arith, t)) h e))

pub returns-clause-there : goal.returns-clause-there
returns-clause-there c h e =
    let b = c.loop-high.invariant in
    let t = c.loop-high-test.false in
    ap (λ x. x.point) (is_entry c.args.lists.now c.args.point c.loop-high.low c.loop-high.high b (omega (arith, t)) h e) ∙ b.is
