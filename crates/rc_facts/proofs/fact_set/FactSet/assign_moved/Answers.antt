use Rattle.std.proofs.Common.{◌∙◌, sym}
use Rattle.rc_facts.specs.Facts.{holds}
use Rattle.rc_facts.proofs.Assigning.{is_other}
use Rattle.rc_facts.proofs.Moved.{alias_exact, beside_exact}
use Rattle.rc_facts.proofs.fact_set.FactSet.assign_moved.Goals as goal

pub returns-clause-facts : goal.returns-clause-facts
returns-clause-facts c = λ fact.
    let law = alias_exact c.args.self.now.variables c.args.scratch c.args.x c.args.y (holds c.args.self.now) c.requires.scratch c.requires.apart (is_other c.args.self.now.variables c.args.scratch c.args.y c.requires.y c.requires.other) c.requires.shut c.requires.clean fact in
    (λ is. law.0 (sym (c.alias.ensures.facts fact) ∙ is), λ d. c.alias.ensures.facts fact ∙ law.1 d)

pub returns-clause-beside : goal.returns-clause-beside
returns-clause-beside c = λ there fact.
    let law = beside_exact c.args.self.now.variables c.args.scratch c.args.x c.args.y (holds c.args.self.now) c.requires.scratch c.requires.apart (is_other c.args.self.now.variables c.args.scratch c.args.y c.requires.y c.requires.other) c.requires.shut c.requires.clean there fact in
    (λ is. law.0 (sym (c.alias.ensures.facts fact) ∙ is), λ d. c.alias.ensures.facts fact ∙ law.1 d)
