-- What encloses a statement.
use Rattle.std.specs.Prelude.{Option, option_map}
use Rattle.rc_core.specs.Shapes.{ty_of}
use Rattle.rc_core.specs.Types.{Ty}
use Rattle.rc_deletes.specs.Scopes.{Context}
use Rattle.rc_defined.specs.Contexts.{context_of}
use Rattle.rc_bodies.specs.declared.enclosing.Enclosing.{Enclosing}

abbrev pub context_at : Enclosing → Context
context_at e = context_of e.context.now

abbrev pub gives_at : Enclosing → Option Ty
gives_at e = option_map ty_of e.gives.now
