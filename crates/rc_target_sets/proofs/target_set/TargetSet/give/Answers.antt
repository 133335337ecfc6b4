use Rattle.std.proofs.Common.{◌≡◌, ◌↔◌, IsTrue, sym, subst}
use Rattle.rc_facts.specs.declared.fact.Fact.{Fact}
use Rattle.rc_facts.specs.Derivable.{Derivable}
use Rattle.rc_facts.specs.Facts.{Known, holds}
use Rattle.rc_target_sets.specs.Shut.{HasMore, IsShut}
use Rattle.rc_target_sets.proofs.Owning.{follows}
use Rattle.rc_target_sets.proofs.target_set.TargetSet.give.Goals as goal

pub returns-clause-facts : goal.returns-clause-facts
returns-clause-facts c =
    let shut : IsShut c.args.self.now = subst IsShut c.self.view_is c.self.invariant in
    let same : c.copy.new.self ≡ c.args.self.now = cc in
    subst (λ n. (fact : Fact) → IsTrue (holds c.add_all_own.new.set fact) ↔ Derivable n (holds c.args.self.now) fact) (sym c.requires)
    (follows c.args.self.now c.add_all_own.new.set shut (subst (λ (k : Known). HasMore k.variables k c.add_all_own.new.set) same c.add_all_own.ensures))
