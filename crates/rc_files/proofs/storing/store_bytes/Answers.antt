use Rattle.std.proofs.Common.{◌∙◌, Err, Ok, ap, arith, subst}
use Rattle.rc_base.specs.Shelves.{Stores}
use Rattle.rc_answers.specs.declared.answer.Done.TheVariants.{Wrote}
use Rattle.rc_answers.specs.declared.answer.Fault.TheVariants.{FileFault, Memory}
use Rattle.rc_files.specs.Making.{made}
use Rattle.rc_files.proofs.ImageFiles.{each_is_byte}
use Rattle.rc_outcomes.specs.Storing.{failed, no_memory, stored}
use Rattle.rc_files.proofs.storing.store_bytes.Goals as goal

pub returns-in-Ok : goal.returns-in-Ok
returns-in-Ok g c = made (Ok Wrote) (each_is_byte c.args.bytes.now (λ i. omega (arith, c.type_inv.bytes i))) (stored c.in-Ok.field-0 c.in-Ok.ensures)

pub returns-in-Err-Memory : goal.returns-in-Err-Memory
returns-in-Err-Memory g c =
    made (Err Memory) (each_is_byte c.args.bytes.now (λ i. omega (arith, c.type_inv.bytes i)))
    (no_memory (subst (λ r. Stores {T = Unit {0}} c.args.name.now c.args.bytes.now (g.F.Shelf.state c.args.files.now) (g.F.Shelf.state c.store.new.self) r) (c.in-Err-Memory.is ∙ ap Err c.in-Err-Memory.field-0-is) c.store.ensures))

pub returns-in-Err-Failed : goal.returns-in-Err-Failed
returns-in-Err-Failed g c =
    made (Err FileFault) (each_is_byte c.args.bytes.now (λ i. omega (arith, c.type_inv.bytes i)))
    (failed (subst (λ r. Stores {T = Unit {0}} c.args.name.now c.args.bytes.now (g.F.Shelf.state c.args.files.now) (g.F.Shelf.state c.store.new.self) r) (c.in-Err-Failed.is ∙ ap Err c.in-Err-Failed.field-0-is) c.store.ensures))
