-- The struct that a type is, or that its pointers lead to.
use Rattle.std.specs.Prelude.{ℕ, Option, Some, None}
use Rattle.rc_core.specs.Types.{Ty, struct, pointer}

abbrev pub struct_of : Ty → Option ℕ
struct_of (struct s) = Some s
struct_of t = None

abbrev pub struct_behind : Option Ty → Option ℕ
struct_behind (Some (pointer note t)) = struct_of t
struct_behind t = None
