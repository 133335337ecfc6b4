use Rattle.std.proofs.Common.{IsTrue, List, ◌∙◌, ap, sym, subst}
use Rattle.std.specs.List.{All}
use Rattle.rc_facts.specs.declared.fact.Fact.{Fact}
use Rattle.rc_facts.specs.Facts.{is_over}
use Rattle.rc_facts.specs.Null.{null_news}
use Rattle.rc_crossing.proofs.Effects.{null_over}
use Rattle.rc_crossing.proofs.calls.learn_null.Goals as goal

pub learn-requires-clause-over : goal.learn-requires-clause-over
learn-requires-clause-over c =
    subst (λ (facts : List Fact). All (λ p. IsTrue (is_over c.args.set.now.variables p)) facts)
    (sym (c.as_slice.ensures.value ∙ c.in_ok-news.ensures ∙ ap (λ n. null_news n c.args.y) c.count.ensures))
    (null_over c.args.set.now.variables c.args.scratch c.args.y c.requires.scratch c.requires.y)
