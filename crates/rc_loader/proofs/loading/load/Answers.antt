use Rattle.std.proofs.Common.{MatchOption, sym, ap, subst, ◌∙◌, true}
use Rattle.rc_code.specs.Image.{FieldsFit}
use Rattle.rc_code.specs.Soundness.{Sound}
use Rattle.rc_code.specs.Faithful.{Faithful}
use Rattle.rc_loader.specs.Violations.{FirstViolation}
use Rattle.rc_loader.specs.Unmarked.{unmarked}
use Rattle.rc_loader.proofs.Marks.{fields_fit, stays_sound, faithful}
use Rattle.rc_loader.proofs.loading.load.Goals as goal

pub new-requires : goal.new-requires
new-requires c = subst FieldsFit (sym (c.without_marks.ensures ∙ ap unmarked c.into_parts.ensures.parts)) (fields_fit c.args.image c.into_parts.ensures.fit)

pub new-requires-in-Ok-clause-sound : goal.new-requires-in-Ok-clause-sound
new-requires-in-Ok-clause-sound c = subst Sound (sym (c.new.ensures ∙ c.without_marks.ensures ∙ ap unmarked c.into_parts.ensures.parts)) (stays_sound true c.args.image c.in-Ok.ensures.sound)

pub new-requires-in-Ok-clause-faithful : goal.new-requires-in-Ok-clause-faithful
new-requires-in-Ok-clause-faithful c = subst Faithful (sym (c.new.ensures ∙ c.without_marks.ensures)) (faithful c.into_parts.result)
