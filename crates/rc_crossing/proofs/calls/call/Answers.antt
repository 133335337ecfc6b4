use Rattle.std.proofs.Common.{◌∙◌, IsTrue, List, ap, sym, subst}
use Rattle.std.specs.List.{All}
use Rattle.rc_facts.specs.declared.fact.Fact.{Fact}
use Rattle.rc_facts.specs.Facts.{holds, is_over}
use Rattle.rc_edges.specs.News.{places_of, rows_news}
use Rattle.rc_crossing.proofs.Effects.{learned_over}
use Rattle.rc_crossing.proofs.calls.call.Goals as goal

pub learn-requires-clause-over : goal.learn-requires-clause-over
learn-requires-clause-over c =
    subst (λ (facts : List Fact). All (λ p. IsTrue (is_over c.args.set.now.variables p)) facts)
    (sym (c.as_slice-in-None.ensures.value ∙ c.in_ok-news.ensures ∙ ap (λ ps. rows_news (holds c.args.exit.now) ps ps 0) (c.as_slice.ensures.value ∙ c.in_ok-all.ensures ∙ ap (places_of c.args.arguments.now) c.fresh.ensures)))
    (learned_over c.args.set.now.variables c.args.scratch c.args.assigned c.args.arguments.now (holds c.args.exit.now) c.requires.scratch c.requires.arguments)

pub assign-requires-clause-over : goal.assign-requires-clause-over
assign-requires-clause-over c =
    subst (λ (facts : List Fact). All (λ p. IsTrue (is_over c.args.set.now.variables p)) facts)
    (sym (c.as_slice-in-Some.ensures.value ∙ c.in_ok-news.ensures ∙ ap (λ ps. rows_news (holds c.args.exit.now) ps ps 0) (c.as_slice.ensures.value ∙ c.in_ok-all.ensures ∙ ap (places_of c.args.arguments.now) c.fresh.ensures)))
    (learned_over c.args.set.now.variables c.args.scratch c.args.assigned c.args.arguments.now (holds c.args.exit.now) c.requires.scratch c.requires.arguments)
