use Rattle.std.proofs.Common.{◌≤◌, ◌+◌, ◌++◌, ◌∷◌, [], length, ap, ◌∙◌, sym, arith}
use Rattle.rc_syntax.specs.reader.Todo.{build}
use Rattle.rc_syntax.specs.reader.Reading.{starred}
use Rattle.rc_syntax.specs.reader.Steps.{run}
use Rattle.rc_words.specs.Words.{from}
use Rattle.rc_expr.specs.Goes.{amid}
use Rattle.rc_expr.proofs.Running.{goes_along, star_taken}
use Rattle.rc_expr.proofs.types.star.Goals as goal

pub returns-clause-reads : goal.returns-clause-reads
returns-clause-reads c = λ ns same root round k a.
    let ts = c.args.tokens.now in
    let here = c.in_ok-behind.ensures in
    let shallow = c.requires.shallow in
    let room = c.if-count-depth.false in
    let few : c.args.depth + (length ns + 1) ≤ 200 = omega (arith, same, shallow, room) in
    goes_along round ts (λ n e. amid ts c.args.at e (build (ns ++ n ∷ [])) k) _ _ c.note.result
    (star_taken c.args.place ns a few c.requires.behind here.0 c.requires.here
    ∙ ap (λ e. run round (amid ts c.args.at e (starred ns tt) k) (from ts e)) (sym here.1))
    (c.note.ensures.reads ns root round k a)
