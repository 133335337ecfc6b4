use Rattle.rc_image.specs.Spelling.{spelling}
use Rattle.rc_image.specs.declared.version.Version.TheVariants.{Two}
use Rattle.rc_files.proofs.ImageFiles.{made_file}
use Rattle.rc_files.proofs.storing.store_image.Goals as goal

pub returns : goal.returns
returns g c = made_file c.args.name.now (spelling Two c.args.image.now) (g.F.Shelf.state c.args.files.now) (g.F.Shelf.state c.store_made.new.files) c.store_made.result (c.store_made.ensures (spelling Two c.args.image.now) c.write.ensures)
