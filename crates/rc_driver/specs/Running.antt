-- Running the image of a file's program over the heap.
use Rattle.std.specs.Prelude.{ℕ, List, Option, IsTrue}
use Rattle.rc_base.specs.declared.ends.Limits.{Limits}
use Rattle.rc_driver.specs.Executing.{TellsBytes}
use Rattle.rc_outcomes.specs.Footprint.{footprint}
use Rattle.rc_outcomes.specs.Outcome.{as_left, as_they_are}
use Rattle.rc_requests.specs.Request.{Request}
use Rattle.rc_files.specs.Programs.{RunsTextOf}

-- the rows of the tables say of a request that it runs the program of this file, and over the heap
pub record RunsInHeap (request : Option Request) (name : List ℕ) (limits : Limits) : Type 0 where
  pub runs : RunsTextOf request name as_they_are limits as_left TellsBytes
  pub heap : IsTrue (footprint request).uses_heap
