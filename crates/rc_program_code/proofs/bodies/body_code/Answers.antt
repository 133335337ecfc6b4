use Rattle.std.proofs.Common.{◌≡◌, [], ◌++◌, length, sym, ap, ◌∙◌, arith, length-append, append-nil}
use Rattle.rc_core.specs.Live.{at_end}
use Rattle.rc_emission.specs.StatementCode.{Place, code_lines, code_size, end_lines}
use Rattle.rc_emission.proofs.CodesDo.{size_is}
use Rattle.rc_lines.specs.Bare.{bare_code, lines_of}
use Rattle.rc_lines.specs.Over.{deleting_in, types_in, slot_in}
use Rattle.rc_program_code.specs.Onward.{onward}
use Rattle.rc_program_code.specs.Placed.{routine_of, IsPlaced}
use Rattle.rc_program_code.proofs.InFront.{onward_long, onward_read}
use Rattle.rc_program_code.proofs.Making.{long}
use Rattle.rc_program_code.proofs.Still.{end_still, bare_joined}
use Rattle.rc_program_code.proofs.bodies.body_code.Goals as goal

pub returns : goal.returns
returns c =
    let b = c.args.body.now in
    let f = routine_of b in
    let slot = slot_in b in
    let d = deleting_in b in
    let t = types_in b in
    let p : Place = record { at = 0; out = 0; on = 0 } in
    let body = code_lines slot d t f.body at_end p in
    let last = end_lines slot d t f.result f.line in
    let total = length (body ++ last) in
    let o = onward c.put_piece.new.out.items in
    let e : o ≡ bare_code total last ++ [] =
    c.in_ok-put_piece.ensures ∙ ap (λ xs. lines_of c.end.new.out.items ++ onward xs) c.new-out.ensures.items ∙ ap (λ ls. ls ++ []) (c.in_ok-end.ensures ∙ ap (λ xs. lines_of xs ++ bare_code 0 last) c.new-last.ensures.items ∙ sym (end_still total slot d t f.result f.line)) in
    let n = long total last [] o e in
    let m = length-append body last in
    let s = size_is slot d t f.body at_end p in
    let w = onward_long c.put_piece.new.out.items in
    let placed : IsPlaced (code_size slot d t f.body at_end) p total (record { out = c.len.result; on = c.len-2.result }) (length o) =
    record { at = omega (arith, n, m, s); out = let l = c.len.ensures in omega (arith, l, w); on = let l = c.len-2.ensures in omega (arith, l, w) } in
    let made = c.in_ok-code.ensures.lines total at_end p c.requires.held placed in
    ap lines_of c.reverse.ensures.items ∙ onward_read c.code.new.out.items ∙ made ∙ ap (λ ls. bare_code total body ++ ls) (e ∙ append-nil (bare_code total last)) ∙ sym (bare_joined total body last)
