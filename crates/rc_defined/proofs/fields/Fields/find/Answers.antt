use Rattle.std.proofs.Common.{ap, ◌∙◌}
use Rattle.rc_defined.specs.Firsts.{kept_at}
use Rattle.rc_defined.proofs.fields.Fields.find.Goals as goal

pub returns-in-Some : goal.returns-in-Some
returns-in-Some c = c.place.ensures ∙ ap (kept_at c.args.self.now.places.items) c.in-Some.ensures.number ∙ c.args.self.now.found.found c.args.name.now
