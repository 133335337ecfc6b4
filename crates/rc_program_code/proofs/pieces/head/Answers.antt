use Rattle.std.proofs.Common.{[], ◌++◌, refl, sym, ap, ◌∙◌, arith}
use Rattle.rc_emission.specs.StatementCode.{steps_lines}
use Rattle.rc_lines.specs.Bare.{bare_code, lines_of}
use Rattle.rc_lines.specs.Over.{deleting_in, types_in, slot_in, steps_in, structs_in}
use Rattle.rc_program_code.specs.Onward.{onward}
use Rattle.rc_program_code.proofs.Holding.{steps_listed}
use Rattle.rc_program_code.proofs.Still.{steps_still}
use Rattle.rc_program_code.proofs.pieces.head.Goals as goal

pub returns-clause-lines : goal.returns-clause-lines
returns-clause-lines c total live held =
    let b = c.args.body.now in
    let s = steps_in b c.args.all.now in
    let p = c.in_ok-steps_points.ensures (structs_in b) in
    let h = c.in_ok-here.ensures in
    let listed = steps_listed b s live c.args.end c.in_ok-here.here (omega (arith, p, h)) held in
    let made = c.in_ok-steps.ensures.lines [] live refl listed ∙ ap (λ xs. lines_of xs ++ bare_code 0 (steps_lines (slot_in b) (deleting_in b) (types_in b) s [] [] live)) c.new-piece.ensures.items in
    c.in_ok-put_piece.ensures ∙ ap (λ ls. ls ++ onward c.args.out.now.items) (made ∙ sym (steps_still total (slot_in b) (deleting_in b) (types_in b) s [] [] live))
