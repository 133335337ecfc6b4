use Rattle.std.proofs.Common.{◌≡◌, length, map, ap, sym, subst, ◌∙◌, arith}
use Rattle.std.specs.Option.{option_map}
use Rattle.std.specs.List.{AllByRecursion as Every}
use Rattle.std.proofs.lemmas.List.{length-map}
use Rattle.rc_code.specs.Image.{IsNumber}
use Rattle.rc_core.specs.Shapes.{ty_of}
use Rattle.rc_emission.specs.StackCode.{Line}
use Rattle.rc_lines.specs.Bare.{lines_of, line_of}
use Rattle.rc_numbering.specs.Numbered.{numbered_from, storage_of}
use Rattle.rc_tables.specs.Placed.{path_number, placed_code, placed_line, type_number}
use Rattle.rc_tables.proofs.Made.{same_function, placed_lines, as_many_rows}
use Rattle.rc_tables.proofs.functions.function.Goals as goal

pub returns-clause-is : goal.returns-clause-is
returns-clause-is c = λ structs.
    let tn = type_number c.args.numbers.now in
    let pn = path_number c.args.numbers.now in
    let code = c.args.code.now in
    let lines = lines_of code.lines.items in
    same_function c.args.routine.now.parameters c.new.result (map (storage_of tn pn) (map ty_of code.locals.items)) c.in_ok-result_storage.field-0 (option_map (storage_of tn pn) (option_map ty_of c.args.routine.now.result))
    c.new-2.result (numbered_from tn pn 0 (placed_code (length lines) lines)) c.new-3.result (map (λ (l : Line). l.line) (placed_code (length lines) lines))
    (c.new.ensures ∙ c.in_ok-storages.ensures ∙ ap (λ tys. map (storage_of tn pn) (map ty_of tys)) c.as_slice.ensures.value)
    c.in_ok-result_storage.ensures
    (c.new-2.ensures ∙ c.in_ok-instructions.ensures ∙ ap (λ ls. numbered_from tn pn 0 (placed_code (length ls) (lines_of ls))) c.as_slice-2.ensures.value ∙ ap (λ m. numbered_from tn pn 0 (placed_code m lines)) (sym (length-map code.lines.items line_of)))
    (c.new-3.ensures ∙ c.in_ok-source_lines.ensures.lines ∙ ap (λ ls. map (λ (l : Line). l.line) (lines_of ls)) c.as_slice-3.ensures.value ∙ sym (placed_lines (length lines) lines))

pub returns-clause-small : goal.returns-clause-small
returns-clause-small c =
    let tn = type_number c.args.numbers.now in
    let pn = path_number c.args.numbers.now in
    let code = c.args.code.now in
    let locals : length c.new.result ≡ length code.locals.items =
    ap length (c.new.ensures ∙ c.in_ok-storages.ensures ∙ ap (λ tys. map (storage_of tn pn) (map ty_of tys)) c.as_slice.ensures.value) ∙ length-map (map ty_of code.locals.items) (storage_of tn pn) ∙ length-map code.locals.items ty_of
    in
    let rows : length c.new-2.result ≡ length code.lines.items =
    ap length (c.new-2.ensures ∙ c.in_ok-instructions.ensures ∙ ap (λ ls. numbered_from tn pn 0 (placed_code (length ls) (lines_of ls))) c.as_slice-2.ensures.value) ∙ as_many_rows tn pn 0 (placed_code (length code.lines.items) (lines_of code.lines.items)) ∙ length-map (lines_of code.lines.items) (placed_line (length code.lines.items)) ∙ length-map code.lines.items line_of
    in
    record {
      locals = omega (arith, locals);
      instructions = omega (arith, rows);
      lines = subst (Every IsNumber) (sym c.new-3.ensures) c.in_ok-source_lines.ensures.numbers;
    }
