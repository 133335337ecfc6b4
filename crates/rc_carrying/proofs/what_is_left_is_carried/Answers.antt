use Rattle.rc_carrying.proofs.Closed.{left_closed}
use Rattle.rc_carrying.proofs.Carried.{left_carried, listed_over}
use Rattle.rc_carrying.proofs.Asking.{passed_proved, proved_passed}
use Rattle.rc_sealed.specs.Carrying.{Before}
use Rattle.rc_carrying.proofs.what_is_left_is_carried.Goals as goal

pub returns : goal.returns
returns c = record {
  closed = λ n s stays x news before after lt below over shut left. left_closed n s stays news before after lt (listed_over n news over) shut x below left;
  proved = λ image proofs g at p first. passed_proved image proofs g at p first;
  passed = λ image proofs g at p. proved_passed image proofs g at p;
  carried = λ image proofs g at news set after below new over has left. left_carried image proofs g at (Before image proofs g at) news set after below new over has left;
}
