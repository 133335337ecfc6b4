-- What a request may use of the outside, whatever it answers.
use Rattle.std.specs.Prelude.{◌≡◌, ◌⊎◌, ℕ, Bool, true, false, List, [], ◌∷◌, Option, Some, None, Contains, IsTrue}
use Rattle.std.specs.List.{AllByRecursion as Every}
use Rattle.rc_base.specs.Shelves.{Lacks, Names}
use Rattle.rc_core.specs.Numbers.{IsByte}
use Rattle.rc_answers.specs.Answers.{IsQuiet}
use Rattle.rc_answers.specs.declared.answer.Done.{Done}
use Rattle.rc_outcomes.specs.Outside.{Outside}
use Rattle.rc_requests.specs.Request.{Request, Run, Slow, Compile, Exec, Listing, Upgrade, Script, Checks, Soak, Tasks, Link, Seal}

-- the names that it reads, the name that it stores under, and whether it takes bytes of the input, writes to the output and runs over the
-- heap
pub record Footprint : Type 0 where
  pub reads : List (List ℕ)
  pub stores : Option (List ℕ)
  pub takes_input : Bool
  pub writes_out : Bool
  pub uses_heap : Bool

abbrev pub nothing : Footprint
nothing = record { reads = []; stores = None; takes_input = false; writes_out = false; uses_heap = false }

-- a run of a file, node by node
abbrev pub runs_file : List ℕ → Footprint
runs_file file = record { reads = file ∷ []; stores = None; takes_input = true; writes_out = true; uses_heap = false }

-- a run over the heap, of a file's program or image
abbrev pub runs_in_heap : List ℕ → Footprint
runs_in_heap file = record { reads = file ∷ []; stores = None; takes_input = true; writes_out = true; uses_heap = true }

-- a report on a file
abbrev pub reports_on : List ℕ → Footprint
reports_on file = record { reads = file ∷ []; stores = None; takes_input = false; writes_out = true; uses_heap = false }

-- a report on what a file does to the heap
abbrev pub reports_in_heap : List ℕ → Footprint
reports_in_heap file = record { reads = file ∷ []; stores = None; takes_input = false; writes_out = true; uses_heap = true }

-- a report on what a made program does to the heap
abbrev pub made_in_heap : Footprint
made_in_heap = record { reads = []; stores = None; takes_input = false; writes_out = true; uses_heap = true }

-- what is made of files is stored under a name
abbrev pub stores_from : (from : List (List ℕ)) → (to : List ℕ) → Footprint
stores_from from to = record { reads = from; stores = Some to; takes_input = false; writes_out = false; uses_heap = false }

-- the row of each request
abbrev pub footprint : Option Request → Footprint
footprint None = nothing
footprint (Some (Run file limits)) = runs_in_heap file
footprint (Some (Slow file limits)) = runs_file file
footprint (Some (Compile from to)) = stores_from (from ∷ []) to
footprint (Some (Exec file limits)) = runs_in_heap file
footprint (Some (Listing file)) = reports_on file
footprint (Some (Upgrade from to)) = stores_from (from ∷ []) to
footprint (Some (Script file limits)) = reports_in_heap file
footprint (Some (Checks file)) = reports_on file
footprint (Some (Soak n)) = made_in_heap
footprint (Some (Tasks file choices limits)) = runs_in_heap file
footprint (Some (Link to wanted)) = stores_from wanted to
footprint (Some (Seal from to)) = stores_from (from ∷ []) to

abbrev pub Reads : Footprint → List ℕ → Type 0
Reads f name = Contains f.reads name

abbrev pub Stores : Footprint → List ℕ → Type 0
Stores f name = f.stores ≡ Some name

abbrev pub UsesFiles : Footprint → Type 0
UsesFiles f = (name : List ℕ) × (Reads f name ⊎ Stores f name)

-- what it doesn't use is as it was, and under each name but the one that it stores under stands what stood there
pub record Alone (f : Footprint) (before after : Outside) : Type 0 where
  pub others : IsTrue before.files.tells → (name : List ℕ) → ¬ Stores f name → after.files.names name ≡ before.files.names name
  pub names : f.stores ≡ None → IsTrue before.files.tells → after.files.names ≡ before.files.names
  pub files : ¬ UsesFiles f → after.files ≡ before.files
  pub input : f.takes_input ≡ false → after.input ≡ before.input
  pub out : f.writes_out ≡ false → after.out ≡ before.out
  pub heap : f.uses_heap ≡ false → after.heap ≡ before.heap

-- what it uses on the way to this answer tells what it has, and what a run over the heap may read are bytes; an answer that touches no input
-- doesn't ask that this tells
pub record TellsWhatIsUsed (f : Footprint) (done : Done) (before : Outside) : Type 0 where
  pub files : UsesFiles f → IsTrue before.files.tells
  pub input : ¬ IsQuiet done → IsTrue f.takes_input → IsTrue before.input.tells
  pub bytes : ¬ IsQuiet done → IsTrue f.takes_input → IsTrue f.uses_heap → Every IsByte before.input.rest

-- a name that it reads is not there
abbrev pub IsMissing : Footprint → Outside → Type 0
IsMissing f before = (name : List ℕ) × Reads f name × Lacks before.files name

-- all names that it reads are there
abbrev pub AreThere : Footprint → Names → Type 0
AreThere f files = (name : List ℕ) → Reads f name → ¬ (files name ≡ None)
