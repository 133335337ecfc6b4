use Rattle.std.proofs.Common.{◌++◌, ◌+◌, drop, sym, ap, ◌∙◌, append-nil}
use Rattle.std.specs.Prelude.{codes, decimal}
use Rattle.rc_code.specs.Image.{operands_of}
use Rattle.rc_listing.specs.Listing.{behind_blanks}
use Rattle.rc_listing.proofs.Rests.{here, behind, told}
use Rattle.rc_listing.proofs.listing.append_numbers.Goals as goal

pub returns-in_default : goal.returns-in_default
returns-in_default c =
    let l = c.loop-at in
    sym (append-nil l.text) ∙ ap (λ ns. l.text ++ behind_blanks ns) (sym (behind (operands_of c.args.instruction.now) l.at (sym c.in_default.ensures))) ∙ l.invariant

pub loop-at-preserved : goal.loop-at-preserved
loop-at-preserved c =
    let l = c.loop-at in
    let ops = operands_of c.args.instruction.now in
    let n = c.in-Some.operand in
    told behind_blanks (drop l.at ops) (drop (l.at + 1) ops) (codes " " ++ decimal n) l.text c.append_behind_blank.new.self _
    (ap behind_blanks (here ops l.at n (sym c.operand.ensures ∙ c.in-Some.is))) c.in_ok-append_behind_blank.ensures l.invariant
