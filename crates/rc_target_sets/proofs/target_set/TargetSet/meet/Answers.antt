use Rattle.std.proofs.Common.{◌≡◌}
use Rattle.rc_target_sets.proofs.Owning.{both_shut}
use Rattle.rc_target_sets.proofs.target_set.TargetSet.meet.Goals as goal

pub invariant_of-self : goal.invariant_of-self
invariant_of-self c =
    let same : c.args.other.now.variables ≡ c.self.inside.facts.variables = cc in
    both_shut c.self.inside.facts c.args.other.now c.meet.new.self c.self.invariant c.requires.shut same c.meet.ensures.variables c.meet.ensures.facts
