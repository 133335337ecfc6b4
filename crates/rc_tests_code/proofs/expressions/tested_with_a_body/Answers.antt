use Rattle.std.proofs.Common.{ℕ, false}
use Rattle.rc_tests_code.proofs.expressions.tested_with_a_body.Goals as goal

pub is_a_tested_number-requires : goal.is_a_tested_number-requires
is_a_tested_number-requires c = record { live = λ (x : ℕ). false; listed = tt }
