use Rattle.std.proofs.Common.{◌∙◌, map, sym, subst, ap}
use Rattle.rc_code.specs.Image.{FieldsFit}
use Rattle.rc_seal.specs.Marking.{bits_of, with_marks, IsMarked}
use Rattle.rc_seal.proofs.Marks.{is_marked, marked_fits}
use Rattle.rc_seal.proofs.marking.marked.Goals as goal

pub new-requires : goal.new-requires
new-requires c =
    let marks = map bits_of c.args.marks.now in
    subst FieldsFit (sym (c.marked_parts.ensures ∙ ap (with_marks marks) c.into_parts.ensures.parts)) (marked_fits marks c.args.image c.into_parts.ensures.fit)

pub returns : goal.returns
returns c =
    let marks = map bits_of c.args.marks.now in
    subst (IsMarked marks c.args.image) (sym (c.new.ensures ∙ c.marked_parts.ensures ∙ ap (with_marks marks) c.into_parts.ensures.parts)) (is_marked marks c.args.image)
