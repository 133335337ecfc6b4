use Rattle.std.proofs.Common.{◌≤◌, ◌+◌, refl, arith}
use Rattle.rc_syntax.specs.declared.word.Key.TheVariants as y
use Rattle.rc_syntax.specs.declared.tree.CastType.TheVariants as ct
use Rattle.rc_syntax.specs.declared.tree.Spot.{Spot}
use Rattle.rc_syntax.specs.Tokens.{key}
use Rattle.rc_syntax.specs.Grammar.{Unary}
use Rattle.rc_syntax.specs.reader.Todo.{Todo, read, sees}
use Rattle.rc_syntax.specs.reader.Reading.{is_close, is_int, cast_to}
use Rattle.rc_words.specs.Words.{spot_of}
use Rattle.rc_expr.specs.Goes.{amid, unsigned_rest}
use Rattle.rc_expr.proofs.Running.{passes, goes_along, around, took, far_fault, missed}
use Rattle.rc_expr.proofs.Tests.{int_else}
use Rattle.rc_expr.proofs.casts.unsigned_end.Goals as goal

abbrev unsigned_close : Spot → Todo Unary
unsigned_close sp = read (sees is_close (cast_to sp ct.Unsigned))

pub returns-then-not-is_key-clause-reads : goal.returns-then-not-is_key-clause-reads
returns-then-not-is_key-clause-reads c = λ root round k a.
    let ts = c.args.tokens.now in
    let at = c.args.at in
    goes_along round ts (λ to e. amid ts at e (cast_to (spot_of ts at) to) k) _ _ c.cast_end.result
    (missed round ts at c.args.place is_int (unsigned_close (spot_of ts at)) (unsigned_close (spot_of ts at)) k (key y.Int) (c.if-not-is_key.ensures.no refl) int_else)
    (c.cast_end.ensures.reads root round k a)

pub returns-in_err-behind-clause-reads : goal.returns-in_err-behind-clause-reads
returns-in_err-behind-clause-reads c = λ root round k a.
    let ts = c.args.tokens.now in
    let at = c.args.at in
    let shallow = c.requires.shallow in
    let past = c.requires.behind in
    let d : c.args.depth + 1 ≤ 200 = omega (arith, shallow) in
    let le : at ≤ c.args.place = omega (arith, past) in
    passes round ts _ _ _ _ _ c.from_residual.ensures.1 refl
    (far_fault c.args.place (unsigned_rest (spot_of ts at)) (unsigned_close (spot_of ts at)) (key y.Int) _ (around a) d le (c.if-not-is_key.ensures.yes refl) c.in_err-behind.ensures refl)

pub returns-clause-reads : goal.returns-clause-reads
returns-clause-reads c = λ root round k a.
    let ts = c.args.tokens.now in
    let at = c.args.at in
    let here = c.in_ok-behind.ensures in
    let shallow = c.requires.shallow in
    let past = c.requires.behind in
    let d : c.args.depth + 1 ≤ 200 = omega (arith, shallow) in
    let le : at ≤ c.args.place = omega (arith, past) in
    goes_along round ts (λ to e. amid ts at e (cast_to (spot_of ts at) to) k) _ _ (c.cast_end-2).result
    (took c.args.place c.in_ok-behind.behind (unsigned_rest (spot_of ts at)) (unsigned_close (spot_of ts at)) (key y.Int) (around a) d le here.0 (c.if-not-is_key.ensures.yes refl) here.1 refl)
    ((c.cast_end-2).ensures.reads root round k a)
