-- The examples compute.
use Rattle.std.proofs.Common.{refl}
use Rattle.rc_numbering.specs.ImageExamples.{Examples}

pub examples : Examples
examples = record {
  pair_traps = refl;
  pair_exits = refl;
  hello_writes = refl;
  hello_needs_a_turn = refl;
  list_is_summed = refl;
  list_needs_its_turns = refl;
  live_local_is_a_reference = refl;
  dead_local_is_none = refl;
  global_is_a_reference = refl;
  null_global_is_none = refl;
  handle_inside_is_none = refl;
  ring_holds_its_regions = refl;
  child_goes_first = refl;
  then_its_parent = refl;
  other_region_does_not_fit = refl;
  own_region_fits = refl;
  waiting_local_is_a_reference = refl;
  nothing_waits = refl;
  a_step_back_is_a_turn = refl;
  and_no_more = refl;
}
