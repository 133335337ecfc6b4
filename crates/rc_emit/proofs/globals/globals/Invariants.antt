use Rattle.std.proofs.Common.{◌≡◌, ◌++◌, map, take}
use Rattle.rc_core.specs.Shapes.{bytes_of, global_of as source_global}
use Rattle.rc_numbering.specs.Numbered.{global_of, string_of}
use Rattle.rc_tables.specs.Placed.{path_number, type_number}
use Rattle.rc_emit.proofs.globals.globals.Given as goal

abbrev pub invariant-loop-variable : goal.invariant-loop-variable
invariant-loop-variable l = l.globals.items ≡ map (global_of (type_number l.numbers) (path_number l.numbers)) (map source_global (take l.variable-index l.variables))

abbrev pub invariant-loop-bytes : goal.invariant-loop-bytes
invariant-loop-bytes l =
    l.globals.items ≡ map (global_of (type_number l.numbers) (path_number l.numbers)) (map source_global l.variables) ++ map (string_of (type_number l.numbers) (path_number l.numbers)) (map bytes_of (take l.bytes-index l.strings))
