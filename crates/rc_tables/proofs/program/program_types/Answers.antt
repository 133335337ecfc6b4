use Rattle.std.proofs.Common.{◌≡◌, [], ◌++◌, ℕ, List, flat_map, map, ap, ◌∙◌}
use Rattle.rc_core.specs.Programs.{Global}
use Rattle.rc_core.specs.Shapes.{bytes_of, global_of, struct_of, ty_of}
use Rattle.rc_core.specs.Types.{char}
use Rattle.rc_emission.specs.KeptOperands.{same_type}
use Rattle.rc_numbering.specs.Names.{fields_names, routine_names, structs_from, with_pointed}
use Rattle.rc_numbering.specs.Tables.{seen_behind}
use Rattle.rc_rlang.specs.Shapes.{rlang_of}
use Rattle.rc_tables.specs.Kept.{all_types}
use Rattle.rc_tables.proofs.Seen.{seen_both}
use Rattle.rc_tables.proofs.program.program_types.Goals as goal

pub returns : goal.returns
returns c =
    let r = rlang_of c.args.parts.now in
    let t1 = all_types c.add_all.new.types in
    let t2 = all_types c.add_structs.new.types in
    let t3 = all_types c.add_globals.new.types in
    let t4 = all_types c.add_strings.new.types in
    let t5 = all_types c.add_functions.new.types in
    let fields = flat_map fields_names r.structs in
    let globals = flat_map (λ (g : Global). with_pointed g.ty) r.globals in
    let strings = map (λ (bytes : List ℕ). char) r.strings in
    let functions = flat_map (routine_names r) r.functions in
    let a : t1 ≡ seen_behind same_type [] (structs_from 0 r.structs) = c.in_ok-add_all.ensures ∙ ap (λ ts. seen_behind same_type (all_types ts) (map ty_of c.args.structs.now)) c.new-types.ensures ∙ ap (seen_behind same_type []) c.requires.structs in
    let b : t2 ≡ seen_behind same_type t1 fields = c.in_ok-add_structs.ensures ∙ ap (λ ss. seen_behind same_type t1 (flat_map fields_names (map struct_of ss))) c.as_slice.ensures.value in
    let d : t3 ≡ seen_behind same_type t2 globals = c.in_ok-add_globals.ensures ∙ ap (λ gs. seen_behind same_type t2 (flat_map (λ (g : Global). with_pointed g.ty) (map global_of gs))) c.as_slice-2.ensures.value in
    let e : t4 ≡ seen_behind same_type t3 strings = c.in_ok-add_strings.ensures ∙ ap (λ ss. seen_behind same_type t3 (map (λ (bytes : List ℕ). char) (map bytes_of ss))) c.as_slice-3.ensures.value in
    let f : t5 ≡ seen_behind same_type t4 functions = c.in_ok-add_functions.ensures in
    seen_both same_type [] t1 t5 (structs_from 0 r.structs) (fields ++ (globals ++ (strings ++ functions))) a
    (seen_both same_type t1 t2 t5 fields (globals ++ (strings ++ functions)) b
    (seen_both same_type t2 t3 t5 globals (strings ++ functions) d
    (seen_both same_type t3 t4 t5 strings functions e f)))
