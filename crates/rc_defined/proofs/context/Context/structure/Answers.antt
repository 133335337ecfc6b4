use Rattle.std.proofs.Common.{ap, ◌∙◌, arith}
use Rattle.rc_deletes.specs.Kinds.{place_of}
use Rattle.rc_defined.proofs.Contexts.{no_struct_place}
use Rattle.rc_defined.proofs.context.Context.structure.Goals as goal

pub returns : goal.returns
returns c = no_struct_place c.args.self.now c.args.name.now.text c.in_ok-number.number (c.in_ok-number.ensures.number ∙ ap (place_of c.args.self.now.types) c.as_slice.ensures) (omega arith)
