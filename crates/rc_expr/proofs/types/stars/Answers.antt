use Rattle.std.proofs.Common.{◌≡◌, length, arith}
use Rattle.rc_expr.proofs.Running.{passes}
use Rattle.rc_expr.proofs.types.stars.Goals as goal

pub returns-in_err-note-clause-reads : goal.returns-in_err-note-clause-reads
returns-in_err-note-clause-reads c = λ root round k a.
    let len = c.len.ensures in
    let ok = c.loop-notes.notes.ok.0 in
    let same : length c.loop-notes.notes.items ≡ c.len.result = omega (arith, len, ok) in
    passes round c.args.tokens.now _ _ _ _ _ c.from_residual.ensures.1 (c.loop-notes.invariant.0 root round k a)
    (c.in_err-note.ensures.reads c.loop-notes.notes.items same root round k a)
