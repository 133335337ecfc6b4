-- Which files have to be of bytes, so that it is decided what a request comes to.
use Rattle.std.specs.Prelude.{◌≡◌, ◌≤◌, ℕ, List, length, Option, Some}
use Rattle.std.specs.List.{AllByRecursion as Every}
use Rattle.rc_base.specs.Shelves.{Names}
use Rattle.rc_core.specs.Numbers.{IsByte}
use Rattle.rc_linking.specs.Limits.{most_files}
use Rattle.rc_requests.specs.Request.{Request, Compile, Checks, Tasks, Link}
use Rattle.rc_task_text.specs.TaskText.{AreChoices}

abbrev pub HasBytes : (file : List ℕ) → Names → Type 0
HasBytes file files = (text : List ℕ) → files file ≡ Some text → Every IsByte text

-- a text that is compiled, and one whose checks are reported on: which of its program's checks may go has to be decided; one whose
-- tasks are run, by choices that are digits; and texts that are linked, of which there are few enough. Of every other request nothing has
-- to be known
abbrev pub AreBytes : Option Request → Names → Type 0
AreBytes (Some (Compile from to)) files = HasBytes from files
AreBytes (Some (Checks file)) files = HasBytes file files
AreBytes (Some (Tasks file choices limits)) files = HasBytes file files × AreChoices choices
AreBytes (Some (Link to wanted)) files = Every (λ file. HasBytes file files) wanted × (length wanted ≤ most_files)
AreBytes _ files = Unit {0}
