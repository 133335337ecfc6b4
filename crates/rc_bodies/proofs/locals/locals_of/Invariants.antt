use Rattle.std.proofs.Common.{◌≡◌, drop, map}
use Rattle.rc_syntax.specs.Shape.{local_of}
use Rattle.rc_core.specs.Shapes.{stmt_of}
use Rattle.rc_deletes.specs.Statements.{locals, behind_locals}
use Rattle.rc_defined.specs.Contexts.{context_of}
use Rattle.rc_bodies.specs.Here.{here_of}
use Rattle.rc_bodies.proofs.Walks.{after_steps}
use Rattle.rc_bodies.proofs.locals.locals_of.Given as goal

abbrev pub invariant-loop-l : goal.invariant-loop-l
invariant-loop-l l = record {
  same : locals (context_of l.context) (here_of l.initial.here) (map local_of l.ls) ≡ after_steps (map stmt_of l.steps.items) (locals (context_of l.context) (here_of l.here) (map local_of (drop l.l-index l.ls)));
  moved : behind_locals (context_of l.context) (here_of l.initial.here) (map local_of l.ls) ≡ behind_locals (context_of l.context) (here_of l.here) (map local_of (drop l.l-index l.ls));
}
