use Rattle.std.proofs.Common.{arith, subst, sym}
use Rattle.std.proofs.lemmas.List.{length-map}
use Rattle.rc_syntax.specs.Shape.{tree_of}
use Rattle.rc_syntax.specs.Tree as t
use Rattle.rc_core.specs.Shapes.{program_of}
use Rattle.rc_deletes.specs.Answer.{IsProgramOf}
use Rattle.rc_deletes.specs.Limits.{IsLimited}
use Rattle.rc_typing.specs.Checks.{Refuses}
use Rattle.rc_link.specs.Answers.{trees_of}
use Rattle.rc_link.proofs.Answering.{is_fine, limits_of}
use Rattle.rc_link.proofs.linking.typed.Goals as goal

pub check_limited-requires : goal.check_limited-requires
check_limited-requires c =
    let units = c.args.units.now in
    let same = length-map units tree_of in
    let few = c.requires.few in
    subst IsLimited (sym c.requires.joined) (c.joined_files_keep_limits.ensures (trees_of units) (omega (arith, same, few)) (limits_of (trees_of units) c.are_linkable.ensures))

pub returns-in-Ok-clause-ok : goal.returns-in-Ok-clause-ok
returns-in-Ok-clause-ok c =
    let trees = trees_of c.args.units.now in
    let whole = subst (λ (tree : t.Tree). IsProgramOf tree (program_of c.in-Ok.program)) c.requires.joined c.in-Ok.ensures in
    record { fine = is_fine trees c.requires.apart (c.a_joined_program_is_not_large.ensures trees (program_of c.in-Ok.program) whole); whole = whole }

pub returns-in-Err-clause-err : goal.returns-in-Err-clause-err
returns-in-Err-clause-err c =
    c.fault_of.ensures (trees_of c.args.units.now) c.are_linkable.ensures c.requires.apart (subst (λ (tree : t.Tree). Refuses tree c.in-Err.fault) c.requires.joined c.in-Err.ensures)
