use Rattle.std.proofs.Common.{◌≡◌, sym, ap, ◌∙◌}
use Rattle.rc_rlang.specs.RegionVariables.{code_temporaries, codes_temporaries}
use Rattle.rc_rlang.specs.Shapes.{code_of, codes_of}
use Rattle.rc_rlang.proofs.CodeRows.{block_is}
use Rattle.rc_plans.proofs.Counting.{ok_more}
use Rattle.rc_plans.proofs.heights.+code.Goals as goal

pub code-returns-in-Block : goal.code-returns-in-Block
code-returns-in-Block t c structs =
    let i = c.in-Block in
    ok_more c.codes.result (λ n. n ≡ codes_temporaries (codes_of structs c.as_slice-in-Block.result.now)) (λ n. n ≡ code_temporaries (code_of structs c.args.code.now))
    (λ n e. e ∙ ap (λ xs. codes_temporaries (codes_of structs xs)) c.as_slice-in-Block.ensures.value ∙ sym (ap code_temporaries (block_is structs c.args.code.now i.body i.is)))
    (c.codes.ensures structs)
