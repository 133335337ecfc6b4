use Rattle.std.proofs.Common.{◌∙◌, sym, ap, subst}
use Rattle.rc_core.specs.declared.parts.Parts.{Parts}
use Rattle.rc_core.specs.Shapes.{program_of, struct_of}
use Rattle.std.specs.Prelude.{map}
use Rattle.rc_core.specs.WellTyped.{StructsFit}
use Rattle.rc_slow.proofs.Evaluated.{evaluates_nothing}
use Rattle.rc_slow.proofs.evaluating.evaluate.Goals as goal

pub new-requires : goal.new-requires
new-requires g c = subst (λ list. StructsFit (map struct_of list)) (sym (c.as_slice.ensures.value ∙ ap (λ (p : Parts). p.structs.items) c.parts-parts.ensures.parts)) c.parts-parts.ensures.well_typed.structs

pub returns-in-Err : goal.returns-in-Err
returns-in-Err g c = evaluates_nothing (program_of c.args.program.now) c.args.limits.now (g.S.Source.state c.args.input.now) (g.O.Sink.state c.args.out.now)
