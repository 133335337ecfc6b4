use Rattle.std.proofs.Common.{subst}
use Rattle.rc_rlang.specs.Shapes.{rlang_of}
use Rattle.rc_edges.specs.Inferred.{family_of}
use Rattle.rc_infer.specs.Walking.{Found}
use Rattle.rc_infer.proofs.Ending.{inferred}
use Rattle.rc_infer.proofs.rounds.infer_over.Goals as goal

pub returns : goal.returns
returns c =
    let facts = c.search.new.facts in
    inferred c.args.code.now (record { graphs = c.args.graphs; points = facts.points; entries = facts.entries; exits = facts.exits }) c.in_ok-facts.ensures.code c.requires
    (subst (λ gs. Found (rlang_of c.args.code.now) gs (family_of facts)) c.as_slice-2.ensures.value c.in_ok-search.ensures)
