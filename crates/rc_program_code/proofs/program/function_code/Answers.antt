use Rattle.std.proofs.Common.{◌≡◌, ◌++◌, length, map, ap, ◌∙◌, arith, rules}
use Rattle.std.proofs.lemmas.List.{length-map}
use Rattle.rc_core.specs.Shapes.{ty_of}
use Rattle.rc_rlang.specs.RegionRuns.{deletes}
use Rattle.rc_rlang.specs.Shapes.{rlang_of}
use Rattle.rc_lines.specs.Bare.{bare_code}
use Rattle.rc_lines.specs.Gathered.{all_kept}
use Rattle.rc_program_code.specs.Numbering.{wide_of}
use Rattle.rc_program_code.specs.Listing.{structs_of, routine_of}
use Rattle.rc_program_code.proofs.Functions.{body_same, function_is}
use Rattle.rc_program_code.proofs.program.function_code.Goals as goal

pub returns : goal.returns
returns c =
    let parts = c.args.program.now.parts.now in
    let routine = c.args.routine.now in
    let f = routine_of parts routine in
    let table = c.in_ok-table.table in
    let own = ap (map ty_of) c.as_slice.ensures.value in
    let kept = ap all_kept c.as_slice-2.ensures.value ∙ c.in_ok-table.ensures.operands (structs_of parts) in
    let locals = c.in_ok-locals.ensures ∙ ap (λ ts. ts ++ map wide_of (all_kept c.as_slice-2.result.now)) own ∙ ap (λ ks. map ty_of routine.locals.items ++ map wide_of ks) kept in
    let n : c.in_ok-first.first ≡ c.len.result = search rules in
    let m = c.len.ensures in
    let l = length-map routine.locals.items ty_of in
    let first : c.in_ok-first.first ≡ length f.locals = omega (arith, n, m, l) in
    let same = body_same (deletes (rlang_of parts)) f c.in_ok-first.first table.keys c.requires.fits first (c.in_ok-table.ensures.keys (structs_of parts)) in
    let lines = c.in_ok-lines.ensures ∙ ap (λ code. bare_code (length code) code) same in
    function_is _ _ _ _ locals lines
