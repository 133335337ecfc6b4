use Rattle.std.proofs.Common.{◌≡◌, ◌+◌, length, sym, subst, arith}
use Rattle.rc_elim.specs.Marking.{AreMarked}
use Rattle.rc_elim.specs.Masks.{rows_of}
use Rattle.rc_elim.proofs.Walks.{marked_more}
use Rattle.rc_elim.proofs.removal.all_marks.Goals as goal

pub loop-function-preserved : goal.loop-function-preserved
loop-function-preserved c = record {
  marked = λ inferred. subst (λ rows. AreMarked c.args.parts.now inferred.family (c.loop-function.function + 1) (rows_of rows)) (sym c.in_ok-push.ensures.items)
      (marked_more c.args.parts.now inferred.family c.loop-function.function c.loop-function.rows.items c.in_ok-row.row (c.loop-function.invariant.marked inferred) (c.in_ok-row.ensures inferred));
}

pub returns : goal.returns
returns c = λ inferred.
    let test = c.loop-function-test.false in
    let top = c.loop-function.auto.function-end in
    let end = c.len-function-end.ensures in
    let room = c.args.parts.now.functions.ok.0 in
    let all : c.loop-function.function ≡ length c.args.parts.now.functions.items = omega (arith, test, top, end, room) in
    subst (λ n. AreMarked c.args.parts.now inferred.family n (rows_of c.loop-function.rows.items)) all (c.loop-function.invariant.marked inferred)
