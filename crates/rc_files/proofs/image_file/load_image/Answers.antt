use Rattle.std.proofs.Common.{◌∙◌, Err, ap, inr, refl, subst}
use Rattle.rc_base.specs.Shelves.{Loads}
use Rattle.rc_base.specs.declared.outside.ShelfFault.TheVariants as shelf_fault
use Rattle.rc_outcomes.specs.Loading.{no_file, no_memory}
use Rattle.rc_answers.specs.declared.answer.Fault.TheVariants.{FileFault, Memory}
use Rattle.rc_files.proofs.ImageFiles.{loaded_image, not_loaded}
use Rattle.rc_files.proofs.image_file.load_image.Goals as goal

pub returns-in-Ok-clause-loaded : goal.returns-in-Ok-clause-loaded
returns-in-Ok-clause-loaded g c = loaded_image c.args.name.now (g.F.Shelf.state c.args.files.now) (g.F.Shelf.state c.load.new.self) c.in-Ok.piece c.image_in_piece.result c.in-Ok.ensures c.image_in_piece.ensures.read

pub returns-in-Err-Memory-clause-loaded : goal.returns-in-Err-Memory-clause-loaded
returns-in-Err-Memory-clause-loaded g c =
    let load = subst (Loads c.args.name.now 268435456 (g.F.Shelf.state c.args.files.now) (g.F.Shelf.state c.load.new.self)) (c.in-Err-Memory.is ∙ ap Err c.in-Err-Memory.field-0-is) c.load.ensures in
    not_loaded c.args.name.now (g.F.Shelf.state c.args.files.now) (g.F.Shelf.state c.load.new.self) shelf_fault.Memory Memory load (no_memory (load.cause.memory refl))

pub returns-in-Err-Absent-clause-loaded : goal.returns-in-Err-Absent-clause-loaded
returns-in-Err-Absent-clause-loaded g c =
    let load = subst (Loads c.args.name.now 268435456 (g.F.Shelf.state c.args.files.now) (g.F.Shelf.state c.load.new.self)) (c.in-Err-Absent.is ∙ ap Err c.in-Err-Absent.field-0-is) c.load.ensures in
    not_loaded c.args.name.now (g.F.Shelf.state c.args.files.now) (g.F.Shelf.state c.load.new.self) shelf_fault.Absent FileFault load (no_file (load.cause.absent refl))

pub returns-in-Err-Failed-clause-loaded : goal.returns-in-Err-Failed-clause-loaded
returns-in-Err-Failed-clause-loaded g c =
    let load = subst (Loads c.args.name.now 268435456 (g.F.Shelf.state c.args.files.now) (g.F.Shelf.state c.load.new.self)) (c.in-Err-Failed.is ∙ ap Err c.in-Err-Failed.field-0-is) c.load.ensures in
    not_loaded c.args.name.now (g.F.Shelf.state c.args.files.now) (g.F.Shelf.state c.load.new.self) shelf_fault.Failed FileFault load (no_file (inr (load.cause.failed refl)))
