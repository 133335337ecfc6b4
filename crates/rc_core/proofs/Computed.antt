-- The examples compute.
use Rattle.std.proofs.Common.{refl}
use Rattle.rc_core.specs.Examples.{Examples}
use Rattle.rc_core.specs.Cases.{Cases}

pub examples : Examples
examples = record {
  hello_writes = refl;
  hello_needs_a_turn = refl;
  list_is_summed = refl;
  list_needs_its_turns = refl;
  live_local_is_a_reference = refl;
  dead_local_is_none = refl;
  global_is_a_reference = refl;
  null_global_is_none = refl;
  handle_inside_is_none = refl;
  ring_holds_its_regions = refl;
  child_goes_first = refl;
  then_its_parent = refl;
  other_region_does_not_fit = refl;
  own_region_fits = refl;
  waiting_local_is_a_reference = refl;
  nothing_waits = refl;
  a_step_back_is_a_turn = refl;
  and_no_more = refl;
}

pub cases : Cases
cases = record {
  live_behind_break = refl;
  break_leaves = refl;
  third_goes_first = refl;
  continue_in_do = refl;
  rounds_of_do = refl;
  char_of_minus_one = refl;
  last_of_field = refl;
  behind_field = refl;
  before_field = refl;
  byte_of_literal = refl;
  zero_behind_literal = refl;
  behind_literal = refl;
  element_updated = refl;
  other_updated = refl;
  behind_array = refl;
  struct_copied = refl;
  copy_does_not_fit = refl;
  same_place_copied = refl;
  right_side_first = refl;
  then_the_left = refl;
  up_to_parent = refl;
  down_to_child = refl;
  text_of_literal = refl;
  text_of_region = refl;
  empty_array = refl;
  negative_size = refl;
  last_element = refl;
  end_is_no_element = refl;
  no_step_past_the_end = refl;
  back_from_the_end = refl;
  null_region = refl;
  root_stays = refl;
  end_of_input = refl;
  regions_are_full = refl;
  turns_go_first = refl;
  region_is_full = refl;
  set_local_is_none = refl;
  waiting_local_counts = refl;
  right_side_left_out = refl;
  right_side_called = refl;
  one_arm = refl;
  remainder_overflows = refl;
  division_cuts = refl;
  remainder_follows = refl;
  division_by_zero = refl;
  difference_overflows = refl;
  bits_shifted = refl;
  shift_too_far = refl;
  sign_shifted = refl;
  to_char = refl;
  to_int = refl;
  to_unsigned = refl;
  unsigned_wraps = refl;
}
