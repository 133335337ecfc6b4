-- The parts of an image by its tables, which are those of the definition.
use Rattle.std.proofs.Common.{◌≡◌, ℕ, List, map, ◌++◌, ap, ◌∙◌}
use Rattle.rc_core.specs.Types.{Ty}
use Rattle.rc_core.specs.Layout.{cells}
use Rattle.rc_rlang.specs.RegionCode.{Access, Rlang}
use Rattle.rc_emission.specs.KeptOperands.{place_in, same_type}
use Rattle.rc_code.specs.declared.kind.Cell.{Cell}
use Rattle.rc_code.specs.declared.image.Global.{Global}
use Rattle.rc_code.specs.declared.image.Function.{Function}
use Rattle.rc_code.specs.declared.image.Path.{Path}
use Rattle.rc_code.specs.declared.image.Parts.{Parts}
use Rattle.rc_numbering.specs.Names.{types_of, same_path, path_of, paths_of, stack_of}
use Rattle.rc_numbering.specs.Numbered.{cell_of, global_of, string_of, function_of, type_in, image_of}

abbrev pub type_by : List Ty → Ty → ℕ
type_by types ty = place_in same_type types ty

abbrev pub path_by : List Ty → List Path → Access → ℕ
path_by types paths a = place_in same_path paths (path_of (type_by types) a)

abbrev pub parts_by : Rlang → List Ty → List Path → Parts
parts_by r types paths = record {
  types = map (map (cell_of (type_by types) (path_by types paths))) (map (cells r.structs) types);
  globals = map (global_of (type_by types) (path_by types paths)) r.globals ++ map (string_of (type_by types) (path_by types paths)) r.strings;
  paths = paths;
  functions = map (λ f. function_of (type_by types) (path_by types paths) (stack_of r f) f) r.functions;
  main = r.main;
}

pub parts_are : (r : Rlang) (types : List Ty) (paths : List Path) → types ≡ types_of r → paths ≡ paths_of (type_in r) r → parts_by r types paths ≡ image_of r
parts_are r types paths t p = ap (λ ts. parts_by r ts paths) t ∙ ap (parts_by r (types_of r)) p

abbrev pub parts_made : List (List Cell) → List Global → List Path → List Function → ℕ → Parts
parts_made types globals paths functions main = record { types = types; globals = globals; paths = paths; functions = functions; main = main }

pub same_parts : (types types' : List (List Cell)) (globals globals' : List Global) (paths paths' : List Path) (functions functions' : List Function) (main : ℕ) → types ≡ types' → globals ≡ globals' → paths ≡ paths' → functions ≡ functions' → parts_made types globals paths functions main ≡ parts_made types' globals' paths' functions' main
same_parts types types' globals globals' paths paths' functions functions' main a b c d =
    ap (λ x. parts_made x globals paths functions main) a ∙ ap (λ x. parts_made types' x paths functions main) b ∙ ap (λ x. parts_made types' globals' x functions main) c ∙ ap (λ x. parts_made types' globals' paths' x main) d
