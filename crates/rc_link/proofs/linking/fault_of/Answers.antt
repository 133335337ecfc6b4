use Rattle.std.proofs.Common.{inl, inr}
use Rattle.rc_link.proofs.Answering.{is_refused}
use Rattle.rc_link.proofs.linking.fault_of.Goals as goal

pub returns-in_default : goal.returns-in_default
returns-in_default c = λ trees links apart refuses.
    elim (is_refused trees apart links c.args.fault refuses) [ inl e ↦ absurd (c.in_default.not-Memory e) | inr e ↦ e ]
