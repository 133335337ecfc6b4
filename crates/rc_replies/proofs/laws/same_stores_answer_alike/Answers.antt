use Rattle.rc_replies.proofs.Same.{replies_same, stores_same}
use Rattle.rc_replies.proofs.laws.same_stores_answer_alike.Goals as goal

pub returns : goal.returns
returns c = record { replies = replies_same; stores = stores_same }
