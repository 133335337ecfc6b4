use Rattle.std.proofs.Common.{◌≡◌, [], flat_map, map, ap, ◌∙◌, take, arith}
use Rattle.std.proofs.lemmas.List.{take_all}
use Rattle.rc_emission.specs.KeptOperands.{place_in, same_type}
use Rattle.rc_lines.specs.Bare.{lines_of}
use Rattle.rc_lines.specs.declared.function_code.FunctionCode.{FunctionCode}
use Rattle.rc_numbering.specs.Names.{code_paths, same_path}
use Rattle.rc_numbering.specs.Numbered.{type_in}
use Rattle.rc_numbering.specs.Tables.{seen_behind}
use Rattle.rc_tables.specs.Numbers.{number_in}
use Rattle.rc_tables.proofs.Bared.{program_paths_named}
use Rattle.rc_tables.proofs.Seen.{flat_step}
use Rattle.rc_tables.proofs.named_paths.program_paths.Goals as goal

pub loop-function-preserved : goal.loop-function-preserved
loop-function-preserved c =
    flat_step same_path c.args.functions.now c.loop-function.function-index c.function-item.result c.loop-function-test.true c.function-item.is [] c.loop-function.paths c.add_code.new.paths (code_paths (number_in c.args.types.now)) (λ (f : FunctionCode). lines_of f.lines.items) c.loop-function.invariant
    (c.in_ok-add_code.ensures ∙ ap (λ lines. seen_behind same_path c.loop-function.paths (code_paths (number_in c.args.types.now) (lines_of lines))) c.as_slice.ensures.value)

pub returns : goal.returns
returns c = λ r is named.
    let functions = c.args.functions.now in
    let i = c.loop-function.function-index in
    let types = c.args.types.now in
    let whole : take i functions ≡ functions = take_all i functions (omega arith) in
    c.loop-function.invariant
    ∙ ap (λ cs. seen_behind same_path [] (flat_map (code_paths (number_in types)) (map (λ (f : FunctionCode). lines_of f.lines.items) cs))) whole
    ∙ ap (λ ts. seen_behind same_path [] (flat_map (code_paths (λ t. place_in same_type ts t)) (map (λ (f : FunctionCode). lines_of f.lines.items) functions))) named
    ∙ ap (seen_behind same_path []) (program_paths_named (type_in r) r functions is)
