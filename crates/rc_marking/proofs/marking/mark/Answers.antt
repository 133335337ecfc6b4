use Rattle.std.proofs.Common.{sym, ap, subst, ◌∙◌}
use Rattle.rc_code.specs.Image.{FieldsFit}
use Rattle.rc_marking.specs.Marking.{with_marks}
use Rattle.rc_marking.proofs.Fitting.{fields_fit}
use Rattle.rc_marking.proofs.marking.mark.Goals as goal

pub new-requires : goal.new-requires
new-requires c = subst FieldsFit (sym (c.with_marks.ensures ∙ ap (with_marks c.args.bits.now) c.into_parts.ensures.parts)) (fields_fit c.args.bits.now c.args.image c.into_parts.ensures.fit)
