use Rattle.rc_greatest_proofs.proofs.Giving.{greater_give, giving_is_proved}
use Rattle.rc_greatest_proofs.proofs.greater_proofs_give_more.Goals as goal

pub returns : goal.returns
returns c = record { gives = λ image fewer more inside g at p. greater_give image fewer more inside g at p; proved = λ image proofs g at p main. giving_is_proved image proofs g at p main }
