use Rattle.std.proofs.Common.{sym, ap, ◌∙◌}
use Rattle.rc_reached.specs.Walks.{at_all}
use Rattle.rc_reached.specs.Masks.{marks}
use Rattle.rc_reached.proofs.Alike.{by_words_from}
use Rattle.rc_reached.proofs.masks.are_marked.Goals as goal

pub returns : goal.returns
returns c =
    c.is_marked_all.ensures
    ∙ ap (λ ws. at_all (marks ws) c.args.indices.now 0) c.deref_mut.ensures.value
    ∙ by_words_from c.args.words.now c.in_ok-from.from.items c.args.indices.now c.args.start c.span_of-reach.result (sym c.span_of-reach.ensures) c.in_ok-from.ensures.marks
