use Rattle.std.proofs.Common.{◌≡◌, ◌++◌, Some, sym, ap, ◌∙◌, arith}
use Rattle.std.proofs.lemmas.List.{append_assoc}
use Rattle.rc_core.specs.Layout.{cells_by, copies}
use Rattle.rc_core.specs.Shapes.{ty_of}
use Rattle.rc_emit.specs.Cells.{cells_with}
use Rattle.rc_emit.proofs.Laid.{both, copies_more}
use Rattle.rc_emit.proofs.cells.add_field.Goals as goal

pub loop-preserved : goal.loop-preserved
loop-preserved c = λ of are.
    let n = c.args.numbers.now in
    let one = cells_by of (ty_of c.args.field.now.ty) in
    let before = copies (Some c.loop.counter) one in
    let out = c.args.out.now.items in
    c.in_ok-add_cells-in-Some.ensures of are
    ∙ ap (λ cells. cells ++ cells_with n one) (c.loop.invariant of are)
    ∙ append_assoc out (cells_with n before) (cells_with n one)
    ∙ ap (λ cells. out ++ cells) (sym (ap (cells_with n) (copies_more c.loop.counter one) ∙ both n before one))

pub returns-after-loop : goal.returns-after-loop
returns-after-loop c = λ of are.
    let n = c.args.numbers.now in
    let one = cells_by of (ty_of c.args.field.now.ty) in
    let all : c.loop.counter ≡ c.in-Some.count = omega arith in
    c.loop.invariant of are
    ∙ ap (λ m. c.args.out.now.items ++ cells_with n (copies (Some m) one)) all
    ∙ ap (λ length. c.args.out.now.items ++ cells_with n (copies length one)) (sym c.in-Some.is)
