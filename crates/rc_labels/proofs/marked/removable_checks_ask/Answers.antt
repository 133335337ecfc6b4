use Rattle.rc_labels.proofs.Asked.{only_where_asked}
use Rattle.rc_labels.proofs.marked.removable_checks_ask.Goals as goal

pub returns : goal.returns
returns c r temporaries marks may_go = only_where_asked r temporaries marks may_go
