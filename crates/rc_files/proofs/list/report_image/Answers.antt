use Rattle.rc_listing.specs.Listing.{listing}
use Rattle.rc_files.proofs.list.report_image.Goals as goal

pub returns : goal.returns
returns g c = c.report.ensures (listing c.args.image.now) c.list.ensures
