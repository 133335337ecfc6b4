use Rattle.std.proofs.Common.{Ok, Err, refl, subst, sym}
use Rattle.rc_build.specs.Built.{Finishes}
use Rattle.rc_compile.specs.declared.fault.CompileFault.{CompileFault}
use Rattle.rc_compile.specs.declared.refusal.Refusal.{Refusal}
use Rattle.rc_core.specs.Shapes.{program_of}
use Rattle.rc_answers.specs.declared.answer.Done.TheVariants.{Refused}
use Rattle.rc_driver.specs.Linking.{StoredProgram, made, no_memory, refused}
use Rattle.rc_driver.proofs.link.store_program.Goals as goal

pub returns-in-Ok : goal.returns-in-Ok
returns-in-Ok g c = made c.in-Ok.image c.store_image.result c.in-Ok.ensures.bounds c.in-Ok.ensures.has c.store_image.ensures

pub returns-in-Err-Refused : goal.returns-in-Err-Refused
returns-in-Err-Refused g c = subst (λ (refusal : Refusal). StoredProgram (program_of c.args.program.now) c.args.to.now (g.F.Shelf.state c.args.files.now) (g.F.Shelf.state c.args.files.now) (Ok (Refused refusal))) (sym c.in-Err-Refused.refusal-is)
    (refused c.in-Err-Refused.refusal (subst (λ (fault : CompileFault). Finishes (program_of c.args.program.now) (Err fault)) c.in-Err-Refused.field-0-is c.in-Err-Refused.ensures) refl)

pub returns-in-Err-Memory : goal.returns-in-Err-Memory
returns-in-Err-Memory g c = no_memory refl
