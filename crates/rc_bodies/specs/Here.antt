-- Where the walk over statements stands.
use Rattle.std.specs.Prelude.{length, map}
use Rattle.rc_core.specs.Shapes.{ty_of, bytes_of}
use Rattle.rc_deletes.specs.Statements.{Here}
use Rattle.rc_bodies.specs.declared.here.Here.{Here as CodeHere}
use Rattle.rc_bodies.specs.declared.here.Outer.{Outer}
use Rattle.rc_defined.specs.Contexts.{scope_of}

abbrev pub here_of : CodeHere → Here
here_of h = record { names = scope_of h.names; locals = map ty_of h.locals.items; first = h.first; strings = map bytes_of h.strings.items }

-- what a scope that begins there puts back at its end
abbrev pub outer_of : CodeHere → Outer
outer_of h = record { depth = length h.names; first = h.first }
