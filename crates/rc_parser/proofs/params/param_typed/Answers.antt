use Rattle.std.proofs.Common.{◌≤◌, Some, None, Option, refl, sym, ap, arith}
use Rattle.rc_syntax.specs.declared.tree.Spot.{Spot}
use Rattle.rc_syntax.specs.declared.tree.Name.{Name}
use Rattle.rc_syntax.specs.Tree as t
use Rattle.rc_syntax.specs.Grammar.{Param}
use Rattle.rc_syntax.specs.reader.Todo.{Todo, build}
use Rattle.rc_syntax.specs.Shape.{type_of}
use Rattle.rc_words.specs.Words.{spot_of}
use Rattle.rc_stmt.proofs.Going.{name_read, no_name, ends_plain}
use Rattle.rc_parser.proofs.params.param_typed.Goals as goal

abbrev whole : t.TypeName → Option Name → Spot → t.Param
whole ty x sp = record { spot = sp; type_name = ty; name = x }

abbrev given : Spot → t.TypeName → Name → Todo Param
given sp ty x = build (whole ty (Some x) sp)

pub returns-then-not-is_name_at-clause-reads : goal.returns-then-not-is_name_at-clause-reads
returns-then-not-is_name_at-clause-reads c =
    let sp = spot_of c.args.tokens.now c.args.at in
    let ty = type_of c.args.type_name in
    let past = c.requires.behind in
    let le : c.args.at ≤ c.args.place = omega (arith, past) in
    no_name c.args.place (given sp ty) (build (whole ty None sp)) (sym c.if-not-is_name_at.ensures)
    (ends_plain c.args.place _ (whole ty None sp) (ap (whole ty None) (sym c.spot_at-spot.ensures)) le (λ p. refl))

pub returns-clause-reads : goal.returns-clause-reads
returns-clause-reads c =
    let sp = spot_of c.args.tokens.now c.args.at in
    let ty = type_of c.args.type_name in
    let name = c.in_ok-name.name in
    let end = c.in_ok-name.end in
    let past = c.requires.behind in
    let next = c.in_ok-name.ensures.2 in
    let le : c.args.at ≤ c.args.place = omega (arith, past) in
    let le2 : c.args.at ≤ end = omega (arith, past, next) in
    name_read c.args.place end (given sp ty) (build (whole ty None sp)) name c.requires.shallow le c.in_ok-name.ensures refl
    (ends_plain end _ (whole ty (Some name) sp) (ap (whole ty (Some name)) (sym c.spot_at-spot.ensures)) le2 (λ p. refl))
