use Rattle.std.proofs.Common.{map, sym}
use Rattle.rc_syntax.specs.Tree as t
use Rattle.rc_syntax.specs.Grammar.{TreeOf, Locals, joined, stmts_of}
use Rattle.rc_syntax.specs.Shape.{local_of, stmts_of as all_of}
use Rattle.rc_stmt.proofs.Stated.{grows, grows_not, grows_fails, body_locals}
use Rattle.rc_stmt.proofs.blocks.next_locals.Goals as goal

abbrev more : t.Stmts → TreeOf Locals → t.Stmts
more before ls = joined before (stmts_of ls)

pub returns-in_err-locals-clause-reads : goal.returns-in_err-locals-clause-reads
returns-in_err-locals-clause-reads c =
    let ts = c.args.tokens.now in
    let before = all_of c.args.before.items in
    grows_fails c.from_residual.ensures.1
    (grows_not Locals (more before) (λ v. map local_of v.items) c.requires.open c.requires.later (body_locals ts c.args.inside c.args.place before c.requires.typed) _ c.in_err-locals.ensures.reads)

pub returns-clause-reads : goal.returns-clause-reads
returns-clause-reads c =
    let ts = c.args.tokens.now in
    let before = all_of c.args.before.items in
    grows Locals (more before) (λ v. map local_of v.items) c.requires.open c.requires.later (body_locals ts c.args.inside c.args.place before c.requires.typed)
    c.in_ok-locals.end c.in_ok-locals.locals c.in_ok-longer.longer c.in_ok-locals.ensures.reads (sym c.in_ok-longer.ensures.ok)
