use Rattle.std.proofs.Common.{◌≤◌, ◌+◌, Bool, true, false, Option, refl, arith}
use Rattle.rc_syntax.specs.declared.word.Key.TheVariants.{Deletes}
use Rattle.rc_syntax.specs.Tokens.{key}
use Rattle.rc_syntax.specs.Tree as t
use Rattle.rc_syntax.specs.Grammar.{FunctionEnd, BodyEnd, FunctionEnding}
use Rattle.rc_syntax.specs.reader.Todo.{Todo, build, enter}
use Rattle.rc_syntax.specs.Shape.{stmts_of, mapped}
use Rattle.rc_stmt.proofs.Going.{fails_first, flat, first_word, first_part, first_part_refused, part, part_refused, ends_plain}
use Rattle.rc_parser.proofs.Itemed.{ending_begins}
use Rattle.rc_parser.proofs.functions.function_end.Goals as goal

abbrev whole : Bool → Option t.Stmts → FunctionEnding
whole d a = record { deletes = d; body = a }

abbrev given : Bool → Option t.Stmts → Todo FunctionEnd
given d a = build (whole d a)

pub returns-in_err-body-clause-reads : goal.returns-in_err-body-clause-reads
returns-in_err-body-clause-reads c =
    let at = c.args.at in
    let le : at ≤ at + 1 = omega arith in
    fails_first c.from_residual.ensures.1 (flat (record { none = refl; plain = λ n r. refl }) (first_word (at + 1) (key Deletes) (enter BodyEnd (given true)) c.requires.shallow (c.if-is_key.ensures.yes refl) refl refl refl
    (part_refused BodyEnd (at + 1) (given true) (λ b. mapped (λ v. stmts_of v.items) b) _ c.in_err-body.ensures.reads le)))

pub returns-then-is_key-clause-reads : goal.returns-then-is_key-clause-reads
returns-then-is_key-clause-reads c =
    let at = c.args.at in
    let end = c.in_ok-body.end in
    let body = c.in_ok-body.body in
    let past = c.in_ok-body.ensures.place in
    let le : at ≤ at + 1 = omega arith in
    let le2 : at ≤ end = omega (arith, past) in
    flat (record { none = refl; plain = λ n r. refl }) (first_word (at + 1) (key Deletes) (enter BodyEnd (given true)) c.requires.shallow (c.if-is_key.ensures.yes refl) refl refl refl
    (part BodyEnd (at + 1) end (given true) (λ b. mapped (λ v. stmts_of v.items) b) body c.in_ok-body.ensures.reads le
    (ends_plain end _ (whole true (mapped (λ v. stmts_of v.items) body)) refl le2 (λ p. refl))))

pub returns-in_err-body-2-clause-reads : goal.returns-in_err-body-2-clause-reads
returns-in_err-body-2-clause-reads c =
    fails_first c.from_residual-in_err-body-2.ensures.1 (flat (record { none = refl; plain = λ n r. refl }) (first_part_refused BodyEnd (given false) (λ b. mapped (λ v. stmts_of v.items) b) _ (ending_begins c.args.tokens.now c.args.at (c.if-is_key.ensures.no refl)) c.in_err-body-2.ensures.reads))

pub returns-clause-reads : goal.returns-clause-reads
returns-clause-reads c =
    let end = c.in_ok-body-2.end in
    let body = c.in_ok-body-2.body in
    let past = c.in_ok-body-2.ensures.place in
    let le : c.args.at ≤ end = omega (arith, past) in
    flat (record { none = refl; plain = λ n r. refl }) (first_part BodyEnd end (given false) (λ b. mapped (λ v. stmts_of v.items) b) body (ending_begins c.args.tokens.now c.args.at (c.if-is_key.ensures.no refl)) c.in_ok-body-2.ensures.reads
    (ends_plain end _ (whole false (mapped (λ v. stmts_of v.items) body)) refl le (λ p. refl)))
