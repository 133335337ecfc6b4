-- The meaning of a program: its acts, how many bytes of the input it takes, its end, and where it exits what it leaves.
use Rattle.std.specs.Prelude.{ℕ, ◌-◌, List, [], length, map, Option, Some, None, if◌then◌else◌}
use Rattle.rc_base.specs.Acts.{Act}
use Rattle.rc_base.specs.declared.ends.End.TheVariants.{Exit}
use Rattle.rc_base.specs.declared.ends.Limits.{Limits}
use Rattle.rc_core.specs.Arithmetic.{as_int}
use Rattle.rc_core.specs.Programs.{Program}
use Rattle.rc_core.specs.Heap.{Value, Object, Region, first_heap}
use Rattle.rc_core.specs.Runs.{Stop, Ends, Run, Go, Stopped}
use Rattle.rc_core.specs.Evaluation.{number_in}
use Rattle.rc_core.specs.Execution.{run_main}
use Rattle.rc_core.specs.Source.{World, source}

pub record Meaning : Type 0 where
  pub acts : List Act
  pub taken : ℕ
  pub end : Stop

abbrev pub first_world : Program → (input : List ℕ) → Limits → World
first_world program input limits = record {
  turns = limits.turns;
  input = input;
  acts = [];
  heap = first_heap program;
  waiting = [];
  regions = limits.regions;
  blocks = limits.blocks;
}

abbrev pub run_of : Program → (input : List ℕ) → Limits → Run World Value
run_of program input limits = run_main source program (first_world program input limits)

-- what `main` gives is the exit value, an `int`
abbrev pub meaning_of_run : (input : List ℕ) → Run World Value → Meaning
meaning_of_run input (Go v w) = record { acts = w.acts; taken = length input - length w.input; end = Ends (Exit (as_int (number_in v))) }
meaning_of_run input (Stopped stop w) = record { acts = w.acts; taken = length input - length w.input; end = stop }

abbrev pub meaning : Program → (input : List ℕ) → Limits → Meaning
meaning program input limits = meaning_of_run input (run_of program input limits)

-- of an object, its number of elements and the values of its cells
pub record ObjectLeft : Type 0 where
  pub count : ℕ
  pub values : List Value

pub record RegionLeft : Type 0 where
  pub parent : ℕ
  pub objects : List ObjectLeft

-- what is left of each region that was ever made: of a dead one nothing
abbrev pub Left : Type 0
Left = List (Option RegionLeft)

abbrev pub object_left : Object → ObjectLeft
object_left o = record { count = o.count; values = o.values }

abbrev pub region_left : Region → Option RegionLeft
region_left g = if g.alive then Some (record { parent = g.parent; objects = map object_left g.objects }) else None

abbrev pub left_by_run : Run World Value → Option Left
left_by_run (Go v w) = Some (map region_left w.heap)
left_by_run (Stopped stop w) = None

-- defined where the program exits
abbrev pub left : Program → (input : List ℕ) → Limits → Option Left
left program input limits = left_by_run (run_of program input limits)
