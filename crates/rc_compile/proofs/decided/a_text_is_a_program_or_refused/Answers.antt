use Rattle.rc_compile.proofs.EveryText.{decided}
use Rattle.rc_compile.proofs.decided.a_text_is_a_program_or_refused.Goals as goal

pub returns : goal.returns
returns c = decided
