-- The operands that code keeps in locals, as they are gathered.
use Rattle.std.specs.Prelude.{List, map}
use Rattle.rc_core.specs.Shapes.{ty_of}
use Rattle.rc_emission.specs.KeptOperands.{Kept, kept_at}
use Rattle.rc_lines.specs.declared.gathering.KeptOperand.{KeptOperand}

abbrev pub kept_of : KeptOperand → Kept
kept_of k = kept_at k.height (ty_of k.ty.now)

abbrev pub all_kept : List KeptOperand → List Kept
all_kept kept = map kept_of kept
