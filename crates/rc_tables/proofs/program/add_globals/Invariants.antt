use Rattle.std.proofs.Common.{◌≡◌, flat_map, map, take}
use Rattle.rc_emission.specs.KeptOperands.{same_type}
use Rattle.rc_numbering.specs.Tables.{seen_behind}
use Rattle.rc_tables.specs.Kept.{all_types}
use Rattle.rc_core.specs.Programs.{Global}
use Rattle.rc_core.specs.Shapes.{global_of}
use Rattle.rc_numbering.specs.Names.{with_pointed}
use Rattle.rc_tables.proofs.program.add_globals.Given as goal

abbrev pub invariant-loop-global : goal.invariant-loop-global
invariant-loop-global l = all_types l.types ≡ seen_behind same_type (all_types l.fn.types) (flat_map (λ (g : Global). with_pointed g.ty) (map global_of (take l.global-index l.globals)))
