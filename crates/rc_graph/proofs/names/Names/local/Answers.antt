use Rattle.std.proofs.Common.{◌≡◌, ◌+◌, get_or, ap, ◌∙◌}
use Rattle.rc_rlang.specs.RegionFlow.{local_variable, copies}
use Rattle.rc_plans.proofs.Counting.{ok_more}
use Rattle.rc_graph.proofs.Numbering.{rank_is}
use Rattle.rc_graph.proofs.names.Names.local.Goals as goal

pub returns : goal.returns
returns c f n =
    let s = c.args.self.now in
    ok_more c.add.result (λ v. v ≡ s.copies + c.rank.result) (λ v. v ≡ local_variable f c.args.local)
    (λ v e. e ∙ ap (λ k. k + c.rank.result) n.hidden ∙ ap (λ k. copies f + k) (c.rank.ensures ∙ ap (λ xs. get_or xs c.args.local s.all) (c.as_slice.ensures.value ∙ n.ranks) ∙ rank_is f.locals c.args.local s.all n.all))
    c.add.ensures
