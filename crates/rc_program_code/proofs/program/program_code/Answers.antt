use Rattle.std.proofs.Common.{◌≡◌, ◌<◌, ◌+◌, suc, length, map, get_or, sym, ap, ◌∙◌, subst, arith}
use Rattle.rc_core.specs.Shapes.{struct_of}
use Rattle.rc_core.specs.WellTyped.{StructsFit}
use Rattle.rc_rlang.specs.LiveLists.{live_lists, routine_lists}
use Rattle.rc_rlang.specs.RegionFits.{CodeFits}
use Rattle.rc_rlang.specs.RegionPoints.{code_points, routine_points}
use Rattle.rc_rlang.specs.RegionRuns.{deletes}
use Rattle.rc_rlang.specs.Shapes.{rlang_of}
use Rattle.rc_lines.specs.Over.{Listed}
use Rattle.rc_lines.specs.ProgramCode.{function_of, IsFunctionCode}
use Rattle.rc_program_code.specs.Listing.{routine_of}
use Rattle.rc_program_code.proofs.Maps.{map_listed}
use Rattle.rc_program_code.proofs.Functions.{Making, one_listed, one_more, one_fits}
use Rattle.rc_program_code.proofs.program.program_code.Goals as goal

pub loop-routine-init : goal.loop-routine-init
loop-routine-init c =
    let lists = live_lists (rlang_of c.args.code.now) in
    record {
      made = ap (map function_of) c.new-made.ensures.items;
      listed = subst (λ l. Listed l lists) (sym c.requires) (map_listed lists (c.lists_are_maps.ensures (rlang_of c.args.code.now)));
    }

pub function_code-requires-clause-fits : goal.function_code-requires-clause-fits
function_code-requires-clause-fits c =
    let code = c.args.code.now in
    let pe = c.parts-parts.ensures.parts in
    let i = c.loop-routine.routine-index in
    let f = c.routine-item.result in
    let all = c.as_slice-routine-items.ensures.value ∙ ap (λ p. p.functions.items) pe in
    let lt = subst (λ ys. i < length ys) all c.loop-routine-test.true in
    let is = c.routine-item.is ∙ ap (λ ys. get_or ys i f) all in
    subst (λ p. CodeFits (routine_of p f).body) (sym pe) (one_fits code c.args.live.now i f c.parts-parts.ensures.fits lt is)

pub function_code-requires-clause-held : goal.function_code-requires-clause-held
function_code-requires-clause-held c =
    let code = c.args.code.now in
    let pe = c.parts-parts.ensures.parts in
    let i = c.loop-routine.routine-index in
    let entry = c.loop-routine.entry in
    let f = c.routine-item.result in
    let all = c.as_slice-routine-items.ensures.value ∙ ap (λ p. p.functions.items) pe in
    let lt = subst (λ ys. i < length ys) all c.loop-routine-test.true in
    let is = c.routine-item.is ∙ ap (λ ys. get_or ys i f) all in
    record {
      entry = entry;
      ends = sym c.in_ok-behind.ensures;
      listed = subst (λ p. Listed c.args.live.now (routine_lists (deletes (rlang_of p)) (routine_of p f) entry)) (sym pe) (one_listed code c.args.live.now c.loop-routine.made.items i entry f lt is c.loop-routine.invariant);
    }

pub loop-routine-preserved : goal.loop-routine-preserved
loop-routine-preserved c =
    let code = c.args.code.now in
    let live = c.args.live.now in
    let pe = c.parts-parts.ensures.parts in
    let i = c.loop-routine.routine-index in
    let entry = c.loop-routine.entry in
    let next = c.in_ok-entry.entry in
    let f = c.routine-item.result in
    let one = c.in_ok-function_code.field-0 in
    let made = c.loop-routine.made.items in
    let all = c.as_slice-routine-items.ensures.value ∙ ap (λ p. p.functions.items) pe in
    let lt = subst (λ ys. i < length ys) all c.loop-routine-test.true in
    let is = c.routine-item.is ∙ ap (λ ys. get_or ys i f) all in
    let a = c.in_ok-entry.ensures in
    let b = subst (λ p. c.in_ok-behind.behind ≡ suc entry + code_points (routine_of p f).body) pe c.in_ok-behind.ensures in
    let d = c.points_behind.ensures in
    let point : next ≡ entry + routine_points (routine_of code f) = omega (arith, a, b, d) in
    let own = subst (λ p. IsFunctionCode (rlang_of p) (routine_of p f) one) pe c.in_ok-function_code.ensures in
    let n : suc i ≡ i + 1 = omega arith in
    subst (λ m. Making code live c.push.new.self.items next m) n
    (subst (λ ms. Making code live ms next (suc i)) (sym c.in_ok-push.ensures.items) (one_more code live made i entry next f one lt is point own c.loop-routine.invariant))
