use Rattle.std.proofs.Common.{Ok, refl, subst, sym}
use Rattle.rc_compile.specs.Compiles.{IsReason}
use Rattle.rc_compile.specs.declared.fault.CompileFault.{CompileFault}
use Rattle.rc_compile.specs.declared.refusal.Refusal.{Refusal}
use Rattle.rc_answers.specs.declared.answer.Done.TheVariants.{Refused}
use Rattle.rc_driver.specs.Compiling.{CompiledText, made, no_memory, refused}
use Rattle.rc_driver.proofs.compile.compile_text.Goals as goal

pub returns-in-Ok : goal.returns-in-Ok
returns-in-Ok g c =
    let built = c.in-Ok.ensures in
    made built.program c.in-Ok.image c.store_image.result built.compiles built.has c.store_image.ensures

pub returns-in-Err-Refused : goal.returns-in-Err-Refused
returns-in-Err-Refused g c = subst (λ (refusal : Refusal). CompiledText c.args.text.now c.args.to.now (g.F.Shelf.state c.args.files.now) (g.F.Shelf.state c.args.files.now) (Ok (Refused refusal))) (sym c.in-Err-Refused.refusal-is)
    (refused c.in-Err-Refused.refusal (subst (λ (fault : CompileFault). IsReason c.args.text.now fault) c.in-Err-Refused.field-0-is c.in-Err-Refused.ensures) refl)

pub returns-in-Err-Memory : goal.returns-in-Err-Memory
returns-in-Err-Memory g c = no_memory refl
