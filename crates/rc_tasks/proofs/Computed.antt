-- The examples compute.
use Rattle.rc_tasks.proofs.Common.{refl, Examples}

pub examples : Examples
examples = record {
  task_goes_on = refl;
  in_no_fewer_turns = refl;
  waiting_task_is_a_reference = refl;
  so_are_two = refl;
  nothing_waits = refl;
  region_is_gone = refl;
  waiting_deeper_is_too = refl;
  and_goes_on = refl;
  waiting_start_is_a_reference = refl;
  what_is_not_used_is_none = refl;
  inner_ends_first = refl;
  last_turn_is_of_the_run = refl;
  three_deep = refl;
  start_yields = refl;
  yield_of_nothing_is_a_turn = refl;
  choices_run_out_inside = refl;
  main_is_called = refl;
  and_takes_turns = refl;
  task_calls_main = refl;
  main_ends_with_a_turn = refl;
  start_calls_itself = refl;
  each_call_is_a_turn = refl;
  task_is_called = refl;
  that_is_a_turn_too = refl;
  fifth_object = refl;
  is_one_too_many = refl;
}
