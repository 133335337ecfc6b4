use Rattle.std.proofs.Common.{◌≡◌, ◌++◌, map, sym, ap, ◌∙◌}
use Rattle.rc_core.specs.Shapes.{ty_of}
use Rattle.rc_emission.specs.KeptOperands.{same_type}
use Rattle.rc_lines.specs.Bare.{lines_of}
use Rattle.rc_numbering.specs.Names.{types_named, result_names, code_names}
use Rattle.rc_numbering.specs.Tables.{seen_behind}
use Rattle.rc_tables.specs.Kept.{all_types}
use Rattle.rc_tables.proofs.Places.{on_ok}
use Rattle.rc_tables.proofs.Bared.{routine_named}
use Rattle.rc_tables.proofs.Seen.{seen_both}
use Rattle.rc_tables.proofs.code.add_routine.Goals as goal

pub returns : goal.returns
returns c = λ r f is given.
    let old = all_types c.args.types.now in
    let one = all_types c.add_all_pointed.new.types in
    let two = all_types c.add_result.new.types in
    let three = all_types c.add_code.new.types in
    let locals = types_named (map ty_of c.args.code.now.locals.items) in
    let names = code_names (lines_of c.args.code.now.lines.items) in
    let a : one ≡ seen_behind same_type old locals = c.in_ok-add_all_pointed.ensures ∙ ap (λ tys. seen_behind same_type old (types_named (map ty_of tys))) c.as_slice.ensures.value in
    let b : two ≡ seen_behind same_type one (result_names f.result) = c.in_ok-add_result.ensures ∙ ap (λ o. seen_behind same_type one (result_names o)) (sym given) in
    on_ok c.add_code.result
    (λ d.
    let e : three ≡ seen_behind same_type two names = d ∙ ap (λ lines. seen_behind same_type two (code_names (lines_of lines))) c.as_slice-2.ensures.value in
    seen_both same_type old one three locals (result_names f.result ++ names) a (seen_both same_type one two three (result_names f.result) names b e) ∙ ap (seen_behind same_type old) (routine_named r f c.args.code.now is))
    c.add_code.ensures
