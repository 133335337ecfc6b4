use Rattle.std.proofs.Common.{◌++◌, ap, sym, ◌∙◌}
use Rattle.rc_emission.specs.KeptOperands.{kept_code, kept_codes}
use Rattle.rc_rlang.specs.Shapes.{codes_of}
use Rattle.rc_rlang.proofs.ShapeRows.{block_is}
use Rattle.rc_lines.specs.Gathered.{all_kept}
use Rattle.rc_lines.proofs.Gathers.{code_goes_on}
use Rattle.rc_lines.proofs.gathering_code.+gathering_code.Goals as goal

pub gather_code-returns-in_ok-gather_codes-in-Block : goal.gather_code-returns-in_ok-gather_codes-in-Block
gather_code-returns-in_ok-gather_codes-in-Block t c structs =
    let o = all_kept c.args.out.now.items in
    c.in_ok-gather_codes-in-Block.ensures structs ∙ ap (λ s. o ++ kept_codes (codes_of structs s)) c.deref-in-Block.ensures.value ∙ ap (λ x. o ++ kept_code x) (sym (block_is structs c.args.code.now c.in-Block.body c.in-Block.is))

pub gather_codes-loop-code-preserved : goal.gather_codes-loop-code-preserved
gather_codes-loop-code-preserved t c =
    code_goes_on c.args.out.now.items c.args.body.now c.loop-code.code-index c.code-item.result c.loop-code.out.items c.gather_code.new.out.items c.loop-code-test.true c.code-item.is c.loop-code.invariant c.in_ok-gather_code.ensures
