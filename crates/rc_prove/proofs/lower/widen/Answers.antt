use Rattle.std.proofs.Common.{◌≡◌, ◌∙◌, length, ap, arith}
use Rattle.std.proofs.lemmas.List.FromFn.{length-range_with_len}
use Rattle.rc_facts.specs.declared.fact.Fact.{Fact}
use Rattle.rc_facts.specs.Facts.{Known, holds}
use Rattle.rc_boundaries.proofs.Handing.{range_below}
use Rattle.rc_prove.proofs.Families.{if_ok}
use Rattle.rc_prove.proofs.Widening.{read_own}
use Rattle.rc_prove.proofs.lower.widen.Goals as goal

pub read-requires-clause-names : goal.read-requires-clause-names
read-requires-clause-names c = range_below c.as_slice.result.now c.args.count c.args.set.now.variables (c.as_slice.ensures.value ∙ c.in_ok-own.ensures) c.requires.count

pub read-requires-clause-room : goal.read-requires-clause-room
read-requires-clause-room c = let e = ap length (c.as_slice.ensures.value ∙ c.in_ok-own.ensures) ∙ length-range_with_len 0 c.args.count in let r = c.requires.room in omega (arith, e, r)

pub returns-clause-facts : goal.returns-clause-facts
returns-clause-facts c = if_ok c.read.result _ (λ (wide : Known). (fact : Fact) → holds wide fact ≡ holds c.args.set.now fact) (λ wide facts fact. facts fact ∙ read_own c.args.count c.as_slice.result.now c.args.set.now (c.as_slice.ensures.value ∙ c.in_ok-own.ensures) c.requires.over fact) c.read.ensures.facts
