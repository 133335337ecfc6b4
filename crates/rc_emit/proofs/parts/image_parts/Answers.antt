use Rattle.std.proofs.Common.{◌≡◌, ◌++◌, length, map, ap, sym, subst, ◌∙◌, arith}
use Rattle.std.specs.List.{AllByRecursion as Every}
use Rattle.std.proofs.lemmas.List.{length-map}
use Rattle.rc_core.specs.Layout.{cells}
use Rattle.rc_core.specs.Shapes.{bytes_of, global_of as source_global, struct_of}
use Rattle.rc_code.specs.Image.{IsNumber}
use Rattle.rc_code.specs.declared.image.Path.{Path}
use Rattle.rc_numbering.specs.Small.{FunctionIsSmall}
use Rattle.rc_numbering.specs.Numbered.{cell_of, global_of, string_of}
use Rattle.rc_rlang.specs.Shapes.{rlang_of, routine_in}
use Rattle.rc_tables.specs.Kept.{all_types}
use Rattle.rc_emit.proofs.ImagingWhole.{type_by, path_by, parts_by, parts_are, same_parts}
use Rattle.rc_emit.proofs.parts.image_parts.Goals as goal

pub returns-clause-is : goal.returns-clause-is
returns-clause-is c =
    let r = rlang_of c.args.parts.now in
    let types = all_types c.in_ok-types.types in
    let paths = c.in_ok-paths.paths in
    let tn = type_by types in
    let pn = path_by types paths in
    let whole = parts_by r types paths in
    same_parts c.new.result whole.types c.new-2.result whole.globals c.new-3.result whole.paths c.new-4.result whole.functions r.main
    (c.new.ensures ∙ c.in_ok-cells.ensures.cells ∙ ap (λ ss. map (map (cell_of tn pn)) (map (cells (map struct_of ss)) types)) c.as_slice.ensures.value)
    (c.new-2.ensures ∙ c.in_ok-objects.ensures ∙ ap (λ gs. map (global_of tn pn) (map source_global gs) ++ map (string_of tn pn) (map bytes_of c.as_slice-3.result.now)) c.as_slice-2.ensures.value ∙ ap (λ ss. map (global_of tn pn) r.globals ++ map (string_of tn pn) (map bytes_of ss)) c.as_slice-3.ensures.value)
    (c.new-3.ensures ∙ c.into_paths.ensures.paths)
    (c.new-4.ensures ∙ c.in_ok-functions.ensures.are)
    ∙ parts_are r types paths c.in_ok-types.ensures (c.in_ok-paths.ensures r c.requires.code c.in_ok-types.ensures)

pub returns-clause-small : goal.returns-clause-small
returns-clause-small c =
    let cells_long : length c.new.result ≡ length c.in_ok-cells.cells.items = ap length c.new.ensures in
    let paths_are : c.new-3.result ≡ c.in_ok-paths.paths = c.new-3.ensures ∙ c.into_paths.ensures.paths in
    let paths_long : length c.new-3.result ≡ length c.in_ok-paths.paths = ap length paths_are in
    let functions_long : length c.new-4.result ≡ length c.args.parts.now.functions.items =
    ap length (c.new-4.ensures ∙ c.in_ok-functions.ensures.are) ∙ length-map (rlang_of c.args.parts.now).functions _ ∙ length-map c.args.parts.now.functions.items (routine_in (map struct_of c.args.parts.now.structs.items))
    in
    record {
      types = omega (arith, cells_long, c.in_ok-cells.ensures.few);
      paths = omega (arith, paths_long, c.into_paths.ensures.few);
      indices = subst (Every (λ (p : Path). IsNumber (length p.indices))) (sym paths_are) c.into_paths.ensures.short;
      functions = omega (arith, functions_long);
      each = subst (Every FunctionIsSmall) (sym c.new-4.ensures) c.in_ok-functions.ensures.small;
    }
