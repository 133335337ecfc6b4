use Rattle.std.proofs.Common.{◌≤◌, map, refl, sym, arith}
use Rattle.rc_syntax.specs.declared.word.Mark.TheVariants as m
use Rattle.rc_syntax.specs.Tokens.{mark}
use Rattle.rc_syntax.specs.Grammar.{TreeOf, Base, Locals, LocalDecs, local}
use Rattle.rc_syntax.specs.reader.Todo.{Todo, build, read, sees}
use Rattle.rc_syntax.specs.reader.Reading.{is_semicolon, locals_of}
use Rattle.rc_stmt.specs.Shapes.{local_declarator_of}
use Rattle.rc_stmt.proofs.Going.{fails_first, flat, first_part, first_part_refused, part, part_refused, word, word_refused, ends_plain}
use Rattle.rc_stmt.proofs.Tests.{semicolon_else}
use Rattle.rc_stmt.proofs.locals.locals.Goals as goal

abbrev read_semicolon : TreeOf Locals → Todo Locals
read_semicolon a = read (sees is_semicolon (build a))

pub returns-in_err-base-clause-reads : goal.returns-in_err-base-clause-reads
returns-in_err-base-clause-reads c =
    fails_first c.from_residual.ensures.1 (flat (record { none = refl; plain = λ n r. refl }) (first_part_refused Base locals_of (λ b. b) _ (λ p h. refl) c.in_err-base.ensures.reads))

pub returns-in_err-declarators-clause-reads : goal.returns-in_err-declarators-clause-reads
returns-in_err-declarators-clause-reads c =
    let base = c.in_ok-base.base in
    let place = c.in_ok-base.place in
    let past = c.in_ok-base.ensures.place in
    let le : c.args.at ≤ place = omega (arith, past) in
    fails_first c.from_residual-in_err-declarators.ensures.1 (flat (record { none = refl; plain = λ n r. refl }) (first_part Base place locals_of (λ b. b) base (λ p h. refl) c.in_ok-base.ensures.reads
    (part_refused LocalDecs place (λ ds. read_semicolon (map (local base) ds)) (λ v. map local_declarator_of v.items) _ c.in_err-declarators.ensures.reads le)))

pub returns-in_err-end-clause-reads : goal.returns-in_err-end-clause-reads
returns-in_err-end-clause-reads c =
    let base = c.in_ok-base.base in
    let place = c.in_ok-base.place in
    let past = c.in_ok-base.ensures.place in
    let le : c.args.at ≤ place = omega (arith, past) in
    fails_first c.from_residual-in_err-end.ensures.1 (flat (record { none = refl; plain = λ n r. refl }) (first_part Base place locals_of (λ b. b) base (λ p h. refl) c.in_ok-base.ensures.reads
    (part LocalDecs place c.in_ok-declarators.behind (λ ds. read_semicolon (map (local base) ds)) (λ v. map local_declarator_of v.items) c.in_ok-declarators.declarators c.in_ok-declarators.ensures.reads le
    (word_refused c.in_ok-declarators.behind is_semicolon (build (map (local base) (map local_declarator_of c.in_ok-declarators.declarators.items))) (mark m.Semicolon) _ c.in_err-end.ensures semicolon_else))))

pub returns-clause-reads : goal.returns-clause-reads
returns-clause-reads c =
    let base = c.in_ok-base.base in
    let place = c.in_ok-base.place in
    let behind = c.in_ok-declarators.behind in
    let end = c.in_ok-end.end in
    let past = c.in_ok-base.ensures.place in
    let past2 = c.in_ok-declarators.ensures.place in
    let next = c.in_ok-end.ensures.1 in
    let le : c.args.at ≤ place = omega (arith, past) in
    let le2 : c.args.at ≤ behind = omega (arith, past, past2) in
    let le3 : c.args.at ≤ end = omega (arith, past, past2, next) in
    let tree = map (local base) (map local_declarator_of c.in_ok-declarators.declarators.items) in
    flat (record { none = refl; plain = λ n r. refl }) (first_part Base place locals_of (λ b. b) base (λ p h. refl) c.in_ok-base.ensures.reads
    (part LocalDecs place behind (λ ds. read_semicolon (map (local base) ds)) (λ v. map local_declarator_of v.items) c.in_ok-declarators.declarators c.in_ok-declarators.ensures.reads le
    (word behind end is_semicolon (build tree) _ (mark m.Semicolon) c.requires.shallow le2 c.in_ok-end.ensures refl refl
    (ends_plain end _ tree (sym c.in_ok-locals.ensures.ok) le3 (λ p. refl)))))
