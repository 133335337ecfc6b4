use Rattle.rc_path_rules.proofs.Indices.{indices_fit}
use Rattle.rc_path_rules.proofs.paths.read_path.Goals as goal

pub keeps_rules-requires-clause-fit : goal.keeps_rules-requires-clause-fit
keeps_rules-requires-clause-fit c =
    rw c.deref.ensures.value (indices_fit c.in_ok-offset.rest.now (c.in_ok-indices.indices.items, c.in_ok-indices.rest.now) c.in_ok-indices.ensures)
