use Rattle.rc_marking.proofs.Told.{report_tells_of_image}
use Rattle.rc_marking.proofs.laws.reports_tell_of_images.Goals as goal

pub returns : goal.returns
returns c r numberable = report_tells_of_image r numberable
