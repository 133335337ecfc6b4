use Rattle.std.proofs.Common.{[], ◌∷◌, ◌++◌, ap, ◌∙◌}
use Rattle.rc_clashes.proofs.Keeping.{new_there}
use Rattle.rc_clashes.proofs.kept.Earlier.add_new.Goals as goal

pub returns : goal.returns
returns c = λ earlier stand.
    new_there c.args.self.now.names c.args.self.now.kept.items earlier stand c.args.item c.requires c.as_slice.result.now c.number.new.self c.push.new.self c.push-2.new.self.items (c.as_slice.ensures ∙ ap (λ n. n.text) c.name_of.ensures)
    c.in_ok-number.ensures.names (c.in_ok-push.ensures.items ∙ ap (λ xs. xs ++ c.args.item ∷ []) c.new-own.ensures.items) c.in_ok-push-2.ensures.items
