use Rattle.std.proofs.Common.{◌≤◌, arith}
use Rattle.rc_stmt.proofs.Stated.{no_condition, no_test, no_close, tested, condition_fails}
use Rattle.rc_stmt.proofs.branches.condition.Goals as goal

pub returns-in_err-inside-clause-reads : goal.returns-in_err-inside-clause-reads
returns-in_err-inside-clause-reads c =
    let past = c.requires.behind in
    let le : c.args.at ≤ c.args.place = omega (arith, past) in
    condition_fails c.from_residual.ensures.1 (no_condition c.args.place c.requires.shallow le _ c.in_err-inside.ensures)

pub returns-in_err-value-clause-reads : goal.returns-in_err-value-clause-reads
returns-in_err-value-clause-reads c =
    let inner = c.in_ok-inside.inside in
    let past = c.requires.behind in
    let next = c.in_ok-inside.ensures.1 in
    let le : c.args.at ≤ c.args.place = omega (arith, past) in
    let le2 : c.args.at ≤ inner = omega (arith, past, next) in
    condition_fails c.from_residual-in_err-value.ensures.1 (no_test c.args.place c.requires.shallow le inner c.in_ok-inside.ensures le2 _ c.in_err-value.ensures.reads)

pub returns-in_err-end-clause-reads : goal.returns-in_err-end-clause-reads
returns-in_err-end-clause-reads c =
    let inner = c.in_ok-inside.inside in
    let past = c.requires.behind in
    let next = c.in_ok-inside.ensures.1 in
    let le : c.args.at ≤ c.args.place = omega (arith, past) in
    let le2 : c.args.at ≤ inner = omega (arith, past, next) in
    condition_fails c.from_residual-in_err-end.ensures.1
    (no_close c.args.place c.requires.shallow le inner c.in_ok-inside.ensures le2 c.in_ok-value.behind c.in_ok-value.value c.in_ok-value.ensures.reads _ c.in_err-end.ensures)

pub returns-clause-reads : goal.returns-clause-reads
returns-clause-reads c =
    let inner = c.in_ok-inside.inside in
    let behind = c.in_ok-value.behind in
    let past = c.requires.behind in
    let next = c.in_ok-inside.ensures.1 in
    let past2 = c.in_ok-value.ensures.place in
    let le : c.args.at ≤ c.args.place = omega (arith, past) in
    let le2 : c.args.at ≤ inner = omega (arith, past, next) in
    let le3 : c.args.at ≤ behind = omega (arith, past, next, past2) in
    tested c.args.place c.requires.shallow le inner c.in_ok-inside.ensures le2 behind c.in_ok-value.value c.in_ok-value.ensures.reads c.in_ok-end.end le3 c.in_ok-end.ensures
