use Rattle.std.proofs.Common.{[], ◌++◌, refl, sym, ap, ◌∙◌, arith, subst}
use Rattle.rc_emission.specs.StatementCode.{last_line, steps_lines, act_lines}
use Rattle.rc_rlang.specs.LiveLists.{act_lists}
use Rattle.rc_rlang.specs.RegionFits.{steps_types}
use Rattle.rc_rlang.specs.RegionLive.{before_act}
use Rattle.rc_lines.specs.Bare.{bare_code, lines_of}
use Rattle.rc_lines.specs.Operands.{types_on}
use Rattle.rc_lines.specs.Over.{deleting_in, types_in, slot_in, steps_in, act_in, structs_in, Listed}
use Rattle.rc_lines.proofs.Walking.{bare_append}
use Rattle.rc_program_code.specs.Onward.{onward}
use Rattle.rc_program_code.proofs.Holding.{simple_listed}
use Rattle.rc_program_code.proofs.Still.{steps_still, act_still, joins_lines}
use Rattle.rc_program_code.proofs.pieces.simple.Goals as goal

pub steps-requires : goal.steps-requires
steps-requires c =
    let b = c.args.body.now in
    let s = steps_in b c.args.all.now in
    let act = act_in b c.args.act.now in
    let f = c.in_ok-steps_points.ensures (structs_in b) in
    let g = c.in_ok-act_points.ensures (structs_in b) c.requires.laid in
    let m = c.in_ok-middle.ensures in
    let h = c.in_ok-here.ensures in
    record { listed = record { live = before_act act c.requires.ways.next; listed = (simple_listed b s act c.requires.ways c.args.end c.in_ok-here.here (omega (arith, f, g, m, h)) c.requires.held).0 } }

pub act_on-requires-clause-listed : goal.act_on-requires-clause-listed
act_on-requires-clause-listed c =
    let b = c.args.body.now in
    let s = steps_in b c.args.all.now in
    let act = act_in b c.args.act.now in
    let f = c.in_ok-steps_points.ensures (structs_in b) in
    let g = c.in_ok-act_points.ensures (structs_in b) c.requires.laid in
    let m = c.in_ok-middle.ensures in
    let h = c.in_ok-here.ensures in
    let both = simple_listed b s act c.requires.ways c.args.end c.in_ok-here.here (omega (arith, f, g, m, h)) c.requires.held in
    record { live = c.requires.ways.next; listed = subst (λ n. Listed b.live.now (act_lists (deleting_in b) (types_in b) act n c.requires.ways.next)) (sym c.in_ok-behind.ensures.point) both.1 }

pub returns-clause-lines : goal.returns-clause-lines
returns-clause-lines c total k p held =
    let b = c.args.body.now in
    let slot = slot_in b in
    let s = steps_in b c.args.all.now in
    let act = act_in b c.args.act.now in
    let f = c.in_ok-steps_points.ensures (structs_in b) in
    let g = c.in_ok-act_points.ensures (structs_in b) c.requires.laid in
    let m = c.in_ok-middle.ensures in
    let h = c.in_ok-here.ensures in
    let both = simple_listed b s act k c.args.end c.in_ok-here.here (omega (arith, f, g, m, h)) held in
    let first = steps_lines slot (deleting_in b) (types_in b) s [] [] (before_act act k.next) in
    let second = act_lines slot (deleting_in b) (types_in b) (last_line s) act (steps_types s []) k.next in
    let e1 = c.in_ok-behind.ensures.lines [] (before_act act k.next) refl both.0 ∙ ap (λ xs. lines_of xs ++ bare_code 0 first) c.new-piece.ensures.items in
    let tys = ap types_on c.as_slice.ensures.value ∙ c.in_ok-behind.ensures.types in
    let e2 = c.in_ok-act_on.ensures k.next (subst (λ n. Listed b.live.now (act_lists (deleting_in b) (types_in b) act n k.next)) (sym c.in_ok-behind.ensures.point) both.1)
    ∙ ap (λ ts. lines_of c.steps.new.out.items ++ bare_code 0 (act_lines slot (deleting_in b) (types_in b) c.last_line.result act ts k.next)) tys
    ∙ ap (λ n. lines_of c.steps.new.out.items ++ bare_code 0 (act_lines slot (deleting_in b) (types_in b) n act (steps_types s []) k.next)) (c.last_line.ensures (structs_in b)) in
    let made = e2 ∙ ap (λ ls. ls ++ bare_code 0 second) e1 ∙ sym (bare_append first second) in
    let still = joins_lines total first second (steps_still total slot (deleting_in b) (types_in b) s [] [] (before_act act k.next)) (act_still total slot (deleting_in b) (types_in b) (last_line s) act (steps_types s []) k.next) in
    c.in_ok-put_piece.ensures ∙ ap (λ ls. ls ++ onward c.args.out.now.items) (made ∙ sym still)

pub act_points-requires : goal.act_points-requires
act_points-requires c = record { laid = record { structs = structs_in c.args.body.now; laid = c.requires.laid } }
