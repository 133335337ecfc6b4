use Rattle.std.proofs.Common.{◌≡◌, ◌∙◌, false, sym, ap}
use Rattle.rc_rlang.specs.Shapes.{rlang_of}
use Rattle.rc_elim.specs.Asking.{asks_in_any}
use Rattle.rc_elim.proofs.NoneAsks.{none_marked_answer}
use Rattle.rc_elim.proofs.deciding.needless.Goals as goal

pub returns-then-not-asks_in_any-clause-marks : goal.returns-then-not-asks_in_any-clause-marks
returns-then-not-asks_in_any-clause-marks c =
    let none : asks_in_any c.in_ok-graphs.graphs.items ≡ false = ap asks_in_any (sym c.as_slice.ensures.value) ∙ sym c.asks_in_any.ensures ∙ c.if-not-asks_in_any.true in
    none_marked_answer (rlang_of c.args.code.now) c.in_ok-graphs.graphs.items c.none.result c.in_ok-graphs.ensures none c.none.ensures.marks
