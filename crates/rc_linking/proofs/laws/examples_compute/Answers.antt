use Rattle.std.proofs.Common.{refl}
use Rattle.rc_linking.proofs.laws.examples_compute.Goals as goal

pub returns : goal.returns
returns c = record { alone_a = refl; alone_b = refl; alone_d = refl; alone_m = refl; both = refl; both_typed = refl; only_a = refl; only_b = refl; b_twice = refl; a_and_c = refl; p_and_q = refl }
