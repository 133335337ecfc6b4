use Rattle.std.proofs.Common.{Ok, refl, subst, sym}
use Rattle.rc_compile.specs.Compiles.{IsReason}
use Rattle.rc_compile.specs.declared.fault.CompileFault.{CompileFault}
use Rattle.rc_compile.specs.declared.refusal.Refusal.{Refusal}
use Rattle.rc_core.specs.Shapes.{program_of}
use Rattle.rc_answers.specs.declared.answer.Done.TheVariants.{Refused}
use Rattle.rc_driver.specs.Soaking.{SoakedText, no_memory, refused, soaked}
use Rattle.rc_driver.proofs.Ends.{comes_to_an_end}
use Rattle.rc_driver.proofs.soak.soak_text.Goals as goal

pub returns-in-Err-Refused : goal.returns-in-Err-Refused
returns-in-Err-Refused g c = subst (λ (refusal : Refusal). SoakedText c.args.number c.args.text.now c.args.limits.now (g.O.Sink.state c.args.out.now) (g.O.Sink.state c.args.out.now) (g.H.Heap.store c.args.heap.now) (g.H.Heap.store c.args.heap.now) (Ok (Refused refusal))) (sym c.in-Err-Refused.refusal-is)
    (refused c.in-Err-Refused.refusal (subst (λ (fault : CompileFault). IsReason c.args.text.now fault) c.in-Err-Refused.field-0-is c.in-Err-Refused.ensures) refl refl)

pub returns-in-Err-Memory : goal.returns-in-Err-Memory
returns-in-Err-Memory g c = no_memory refl refl

pub returns-in_default : goal.returns-in_default
returns-in_default g c = no_memory refl refl

pub returns : goal.returns
returns g c =
    let only = c.in-Ok.ensures in
    let made = c.in-Ok-make.ensures in
    let program = program_of c.in-Ok.program in
    let end = comes_to_an_end c.args.text.now program c.args.limits.now only in
    soaked program c.in-Ok-make.made.entries.items end.0 c.soak_program.result only made.report end.1 (c.soak_program.ensures program end.0 made end.1)
