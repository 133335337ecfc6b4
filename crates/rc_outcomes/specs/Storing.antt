-- Bytes that a request stores under a name.
use Rattle.std.specs.Prelude.{◌≡◌, ℕ, List, Option, Some, Result, Ok, Err, IsTrue}
use Rattle.rc_base.specs.Shelves.{Names, ShelfState, Stores as StoresUnder}
use Rattle.rc_base.specs.declared.outside.ShelfFault.TheVariants as shelf_fault
use Rattle.rc_answers.specs.declared.answer.Done.{Done}
use Rattle.rc_answers.specs.declared.answer.Done.TheVariants.{Wrote}
use Rattle.rc_answers.specs.declared.answer.Fault.{Fault}
use Rattle.rc_answers.specs.declared.answer.Fault.TheVariants.{FileFault, Memory}
use Rattle.rc_outcomes.specs.Footprint.{Stores, UsesFiles, footprint}
use Rattle.rc_outcomes.specs.MayAnswer.{MayAnswer}
use Rattle.rc_outcomes.specs.Outcome.{Comes, IsOutcome, Outcome, stores}
use Rattle.rc_outcomes.specs.Outside.{Outside}
use Rattle.rc_outcomes.specs.StoredPrograms.{StoresProgram}
use Rattle.rc_requests.specs.Request.{Request}

-- bytes are stored; or there is no memory to make them
pub data MadeFile (name bytes : List ℕ) (files files' : ShelfState) : Result Done Fault → Type 0 where
  no_bytes : files' ≡ files → MadeFile name bytes files files' (Err Memory)
  no_memory : StoresUnder {T = Unit {0}} name bytes files files' (Err shelf_fault.Memory) → MadeFile name bytes files files' (Err Memory)
  failed : StoresUnder {T = Unit {0}} name bytes files files' (Err shelf_fault.Failed) → MadeFile name bytes files files' (Err FileFault)
  stored : (value : Unit {0}) → StoresUnder name bytes files files' (Ok value) → MadeFile name bytes files files' (Ok Wrote)

-- the rows of the tables say of a request that it stores these bytes under this name
pub record StoresBytes (request : Option Request) (before : Outside) (to bytes : List ℕ) : Type 0 where
  pub stores_to : Stores (footprint request) to
  pub may_write : MayAnswer request Wrote
  pub outcome : (UsesFiles (footprint request) → IsTrue before.files.tells) → IsOutcome request before.files.names before.input.rest (stores to bytes)
  pub only : (outcome : Outcome) → Comes request before outcome → outcome ≡ stores to bytes
  pub compiled : IsTrue before.files.tells → (files' : Names) → files' to ≡ Some bytes → StoresProgram request before.files.names files'
