-- Where the walk over items stands, and what an item adds to the program.
use Rattle.std.specs.Prelude.{List, [], ◌∷◌, map}
use Rattle.rc_core.specs.declared.parts.Global.{Global as CodeGlobal}
use Rattle.rc_core.specs.declared.parts.Function.{Function as CodeFunction}
use Rattle.rc_core.specs.Shapes.{bytes_of, global_of, function_of}
use Rattle.rc_deletes.specs.Items.{Outside, Made, nothing_made}
use Rattle.rc_items.specs.declared.outside.Outside.{Outside as CodeOutside}
use Rattle.rc_items.specs.declared.produced.Produced.{Produced}
use Rattle.rc_items.specs.declared.produced.Produced.TheVariants.{Nothing, Global, Function}
use Rattle.rc_defined.specs.Contexts.{scope_of}

abbrev pub outside_of : CodeOutside → Outside
outside_of o = record {
  names = scope_of o.names;
  structs = o.structs;
  globals = o.globals;
  cells = o.cells;
  functions = o.functions;
  strings = map bytes_of o.strings.items;
}

abbrev pub made_of : Produced → Made
made_of Nothing = nothing_made
made_of (Global g) = record { globals = global_of g ∷ []; functions = [] }
made_of (Function f) = record { globals = []; functions = function_of f ∷ [] }

abbrev pub all_made : List CodeGlobal → List CodeFunction → Made
all_made globals functions = record { globals = map global_of globals; functions = map function_of functions }
