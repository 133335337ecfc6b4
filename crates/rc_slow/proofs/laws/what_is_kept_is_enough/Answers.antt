use Rattle.rc_core.specs.Source.{source}
use Rattle.rc_memory.specs.KeptWorld.{kept, kept_world}
use Rattle.rc_memory.proofs.Keeps.{kept_agrees}
use Rattle.rc_slow.proofs.Simulation.{main_agrees}
use Rattle.rc_slow.proofs.laws.what_is_kept_is_enough.Goals as goal

pub returns : goal.returns
returns c = λ program w. main_agrees kept_world source kept program kept_agrees w
