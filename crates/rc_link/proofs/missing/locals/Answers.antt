use Rattle.std.proofs.Common.{List, map, arith, refl}
use Rattle.rc_syntax.specs.declared.tree.Local.{Local}
use Rattle.rc_syntax.specs.Shape.{local_of}
use Rattle.rc_deletes.specs.First.{clear}
use Rattle.rc_linking.specs.Calls.{calls_in_option, calls_in_locals}
use Rattle.rc_link.specs.Missed.{missed}
use Rattle.rc_link.proofs.Called.{row_fine, row_lost}
use Rattle.rc_link.proofs.missing.locals.Goals as goal

pub returns-in_err-option : goal.returns-in_err-option
returns-in_err-option c =
    row_lost c.args.functions.now (λ (l : Local). calls_in_option (local_of l).initial) (λ (ls : List Local). calls_in_locals (map local_of ls)) (λ x xs. refl) c.args.ls.now c.loop-l.l-index c.l-item.result (omega arith) c.l-item.is
    (clear (missed c.args.functions.now (calls_in_locals (map local_of c.args.ls.now)))) c.loop-l.invariant c.from_residual.result c.in_err-option.field-0.0 c.from_residual.ensures.1 c.in_err-option.ensures

pub loop-l-preserved : goal.loop-l-preserved
loop-l-preserved c =
    row_fine c.args.functions.now (λ (l : Local). calls_in_option (local_of l).initial) (λ (ls : List Local). calls_in_locals (map local_of ls)) (λ x xs. refl) c.args.ls.now c.loop-l.l-index c.l-item.result (omega arith) c.l-item.is
    (clear (missed c.args.functions.now (calls_in_locals (map local_of c.args.ls.now)))) c.loop-l.invariant c.in_ok-option.field-0 c.in_ok-option.ensures
