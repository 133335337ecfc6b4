use Rattle.rc_greatest_proofs.proofs.Bare.{bare_there, bare_back, checked, before_there, before_back}
use Rattle.rc_greatest_proofs.proofs.Views.{same_variables}
use Rattle.rc_greatest_proofs.proofs.Pins.{pinned}
use Rattle.rc_greatest_proofs.proofs.Fits.{fit, same_claims}
use Rattle.rc_greatest_proofs.proofs.marks_ask_checks_alone.Goals as goal

pub returns : goal.returns
returns c = record {
  bare = λ parts proofs g at. ((λ p. bare_there parts proofs g at p), (λ p. bare_back parts proofs g at p));
  checked = λ image proofs g at. checked image proofs g at;
  before = λ parts proofs g at fact. ((λ b. before_there parts proofs g at fact b), (λ b. before_back parts proofs g at fact b));
  pinned = λ parts g at. pinned parts g at;
  variables = λ parts g. same_variables parts g;
  fit = λ parts proofs. fit parts proofs;
  claims = λ parts proofs. same_claims parts proofs;
}
