use Rattle.std.proofs.Common.{◌∙◌}
use Rattle.rc_verify.proofs.passing.first_unproved.Goals as goal

pub first_in-requires-clause-pass : goal.first_in-requires-clause-pass
first_in-requires-clause-pass c = record {
  site = c.requires.site;
  claims = c.requires.claims;
  exits = c.requires.exits;
  leaves = c.requires.leaves;
  variables = c.in_ok-none.ensures.variables ∙ c.variables_of-count.ensures.count;
  none = c.in_ok-none.ensures.facts;
}
