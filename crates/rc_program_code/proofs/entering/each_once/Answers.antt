use Rattle.std.proofs.Common.{◌≡◌, drop, ap, ◌∙◌, arith}
use Rattle.rc_emission.specs.KeptOperands.{same_kept, once}
use Rattle.rc_lines.specs.Gathered.{all_kept}
use Rattle.rc_program_code.proofs.Loops.{kept_reversed}
use Rattle.rc_program_code.proofs.entering.each_once.Goals as goal

pub returns-clause-once : goal.returns-clause-once
returns-clause-once c =
    let f = c.loop-i-test.false in
    let e : c.loop-i.i ≡ 0 = omega (arith, f) in
    ap all_kept c.reverse.ensures.items ∙ kept_reversed c.loop-i.table.items ∙ c.loop-i.invariant.once ∙ ap (λ j. once same_kept (all_kept (drop j c.args.kept.now))) e
