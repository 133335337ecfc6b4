use Rattle.std.proofs.Common.{◌≡◌, ◌≤◌, ◌+◌, Some, None, true, refl, arith}
use Rattle.rc_syntax.specs.declared.word.Key.TheVariants.{Deletes, Void}
use Rattle.rc_syntax.specs.declared.tree.Spot.{Spot}
use Rattle.rc_syntax.specs.Tokens.{key}
use Rattle.rc_syntax.specs.Tree as t
use Rattle.rc_syntax.specs.Grammar.{Item, TypeName}
use Rattle.rc_syntax.specs.reader.Todo.{Todo, enter}
use Rattle.rc_syntax.specs.reader.Reading.{is_void, item_deleting, function_named}
use Rattle.rc_syntax.specs.Shape.{type_of}
use Rattle.rc_words.specs.Words.{spot_of}
use Rattle.rc_stmt.proofs.Going.{fails_first, flat, first_word, word, no_word, part, part_refused}
use Rattle.rc_stmt.proofs.Tests.{void_else}
use Rattle.rc_parser.proofs.functions.deleting.Goals as goal

abbrev with_result : Spot → t.TypeName → Todo Item
with_result sp ty = function_named sp true (Some ty)

pub returns-then-is_key-clause-reads : goal.returns-then-is_key-clause-reads
returns-then-is_key-clause-reads c =
    let at = c.args.at in
    let sp = spot_of c.args.tokens.now at in
    let d : 0 ≤ 200 = omega arith in
    let le : at ≤ at + 1 = omega arith in
    let next : at + 2 ≡ (at + 1) + 1 = omega arith in
    flat (record { none = refl; plain = λ n r. refl }) (first_word (at + 1) (key Deletes) (item_deleting sp) d c.requires.here refl refl refl
    (word (at + 1) (at + 2) is_void (function_named sp true None) (enter TypeName (with_result sp)) (key Void) d le (c.if-is_key.ensures.yes refl, next) refl refl c.function_named.ensures.reads))

pub returns-in_err-returned-clause-reads : goal.returns-in_err-returned-clause-reads
returns-in_err-returned-clause-reads c =
    let at = c.args.at in
    let sp = spot_of c.args.tokens.now at in
    let d : 0 ≤ 200 = omega arith in
    let le : at ≤ at + 1 = omega arith in
    fails_first c.from_residual.ensures.1 (flat (record { none = refl; plain = λ n r. refl }) (first_word (at + 1) (key Deletes) (item_deleting sp) d c.requires.here refl refl refl
    (no_word (at + 1) is_void (function_named sp true None) (enter TypeName (with_result sp)) (key Void) (c.if-is_key.ensures.no refl) void_else
    (part_refused TypeName (at + 1) (with_result sp) type_of _ c.in_err-returned.ensures.reads le))))

pub returns-clause-reads : goal.returns-clause-reads
returns-clause-reads c =
    let at = c.args.at in
    let sp = spot_of c.args.tokens.now at in
    let d : 0 ≤ 200 = omega arith in
    let le : at ≤ at + 1 = omega arith in
    flat (record { none = refl; plain = λ n r. refl }) (first_word (at + 1) (key Deletes) (item_deleting sp) d c.requires.here refl refl refl
    (no_word (at + 1) is_void (function_named sp true None) (enter TypeName (with_result sp)) (key Void) (c.if-is_key.ensures.no refl) void_else
    (part TypeName (at + 1) c.in_ok-returned.place (with_result sp) type_of c.in_ok-returned.returned c.in_ok-returned.ensures.reads le (c.function_named-2).ensures.reads)))
