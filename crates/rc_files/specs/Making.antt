-- Requests that make something of the image of a file.
use Rattle.std.specs.Prelude.{◌≡◌, ℕ, List, Option, Result, Err, IsTrue}
use Rattle.std.specs.List.{AllByRecursion as Every}
use Rattle.rc_base.specs.Shelves.{Names, ShelfState}
use Rattle.rc_core.specs.Numbers.{IsByte}
use Rattle.rc_answers.specs.Answers.{IsOfBytes}
use Rattle.rc_outcomes.specs.MayAnswer.{MayAnswer}
use Rattle.rc_outcomes.specs.Footprint.{Reads, Stores, footprint}
use Rattle.rc_outcomes.specs.Images.{Carried}
use Rattle.rc_outcomes.specs.StoredPrograms.{StoresProgram}
use Rattle.rc_outcomes.specs.Outcome.{IsOutcome, Lists, OfImage, Outcome, Upgrades}
use Rattle.rc_outcomes.specs.Storing.{MadeFile}
use Rattle.rc_requests.specs.Request.{Request}
use Rattle.rc_answers.specs.declared.answer.Done.{Done}
use Rattle.rc_answers.specs.declared.answer.Done.TheVariants.{ImageRefused, Reported, Wrote}
use Rattle.rc_answers.specs.declared.answer.Fault.{Fault}
use Rattle.rc_answers.specs.declared.answer.Fault.TheVariants.{Memory}
use Rattle.rc_answers.specs.declared.image_refusal.ImageRefusal.{ImageRefusal}

-- the rows of the tables say of a request that this comes of the image of this file
pub record MakesOf (request : Option Request) (name : List ℕ) (Made : Carried → List ℕ → Outcome → Type 0) : Type 0 where
  pub reads : Reads (footprint request) name
  pub only : (other : List ℕ) → Reads (footprint request) other → name ≡ other
  pub may_refuse : (refusal : ImageRefusal) → IsOfBytes refusal → MayAnswer request (ImageRefused refusal)
  pub is_outcome : (files : Names) (input : List ℕ) (outcome : Outcome) → OfImage name Made files input outcome → IsOutcome request files input outcome
  pub outcome_is : (files : Names) (input : List ℕ) (outcome : Outcome) → IsOutcome request files input outcome → OfImage name Made files input outcome

-- it lists it
pub record ListsOf (request : Option Request) (name : List ℕ) : Type 0 where
  pub makes : MakesOf request name Lists
  pub writes_out : IsTrue (footprint request).writes_out
  pub may_report : MayAnswer request Reported

-- it stores it under the other name
pub record UpgradesOf (request : Option Request) (from to : List ℕ) : Type 0 where
  pub makes : MakesOf request from (Upgrades to)
  pub stores : Stores (footprint request) to
  pub may_write : MayAnswer request Wrote
  pub stores_no_program : (files files' : Names) → StoresProgram request files files'

-- what is stored are bytes; or there was no memory to make them
pub data MadeBytes (name bytes : List ℕ) (files files' : ShelfState) : Result Done Fault → Type 0 where
  not_made : files' ≡ files → MadeBytes name bytes files files' (Err Memory)
  made : (result : Result Done Fault) → Every IsByte bytes → MadeFile name bytes files files' result → MadeBytes name bytes files files' result
