-- Storing the image of the program that several texts are together.
use Rattle.std.specs.Prelude.{◌≡◌, ℕ, List, [], ◌∷◌, Option, Result, Ok, Err, Vec}
use Rattle.std.specs.declared.alloc.Global.{Global}
use Rattle.rc_base.specs.Shelves.{Names, ShelfState}
use Rattle.rc_code.specs.declared.image.Parts.{Parts}
use Rattle.rc_compile.specs.Acceptance.{TooMuch}
use Rattle.rc_compile.specs.declared.refusal.Refusal.{Refusal}
use Rattle.rc_core.specs.Programs.{Program}
use Rattle.rc_image.specs.Spelling.{spelling}
use Rattle.rc_image.specs.declared.version.Version.TheVariants.{Two}
use Rattle.rc_link.specs.Answers.{refusal_of, trees_of}
use Rattle.rc_linked_texts.specs.Texts.{AreApart, AreFine, AreProgram, FirstRefused}
use Rattle.rc_rlang.specs.Bounds.{IsWithinBounds}
use Rattle.rc_syntax.specs.declared.tree.Tree.{Tree}
use Rattle.rc_unchecked.specs.Images.{HasImage}
use Rattle.rc_answers.specs.Answers.{IsOfCounts}
use Rattle.rc_answers.specs.declared.answer.Done.{Done}
use Rattle.rc_answers.specs.declared.answer.Done.TheVariants.{LinkRefused, Refused, UnitRefused, Wrote}
use Rattle.rc_answers.specs.declared.answer.Fault.{Fault}
use Rattle.rc_answers.specs.declared.answer.Fault.TheVariants.{Memory}
use Rattle.rc_answers.specs.declared.link_refusal.LinkRefusal.{LinkRefusal}
use Rattle.rc_outcomes.specs.Footprint.{Stores, footprint}
use Rattle.rc_outcomes.specs.Loading.{Have}
use Rattle.rc_outcomes.specs.MayAnswer.{MayAnswer}
use Rattle.rc_outcomes.specs.Outcome.{Compiles, IsOutcome, OfFiles, Outcome}
use Rattle.rc_outcomes.specs.StoredPrograms.{IsUnder, StoresProgram}
use Rattle.rc_outcomes.specs.Storing.{MadeFile}
use Rattle.rc_requests.specs.Request.{Request}
use Rattle.rc_files.specs.Texts.{IsTextOf}
use Rattle.rc_files.specs.declared.text_files.FileText.{FileText}
use Rattle.rc_driver.specs.declared.link.NoUnits.{NoUnits}
use Rattle.rc_driver.specs.declared.link.NoUnits.TheVariants as no_units

-- what was loaded of each of these texts
abbrev pub AreTextsOf : List FileText → List (List ℕ) → Type 0
AreTextsOf [] [] = Unit {0}
AreTextsOf (loaded ∷ all) (text ∷ texts) = IsTextOf loaded text × AreTextsOf all texts
AreTextsOf [] (text ∷ texts) = ⊥
AreTextsOf (loaded ∷ all) [] = ⊥

-- whatever the texts are of which this was loaded
abbrev pub OfLoaded : List FileText → (List (List ℕ) → Type 0) → Type 0
OfLoaded loaded Holds = (texts : List (List ℕ)) → AreTextsOf loaded texts → Holds texts

-- each is fine by itself, and these are their trees; or the first that isn't is refused so
abbrev pub FindsUnits : List (List ℕ) → Result (Vec Tree Global) NoUnits → Type 0
FindsUnits texts (Ok units) = AreFine texts (trees_of units.items)
FindsUnits texts (Err (no_units.Refused number refusal)) = FirstRefused 1 texts number refusal
FindsUnits texts (Err no_units.Memory) = Unit {0}

-- the image that the program is compiled to was stored, or it needs too much of something
pub data StoredProgram (program : Program) (to : List ℕ) (files files' : ShelfState) : Result Done Fault → Type 0 where
  made : (image : Parts) (result : Result Done Fault) → IsWithinBounds program → HasImage program image → MadeFile to (spelling Two image) files files' result → StoredProgram program to files files' result
  refused : (refusal : Refusal) → TooMuch program refusal → files' ≡ files → StoredProgram program to files files' (Ok (Refused refusal))
  no_memory : files' ≡ files → StoredProgram program to files files' (Err Memory)

-- that of the program that the texts are together; or they are refused
pub data LinkedTexts (loaded : List FileText) (to : List ℕ) (files files' : ShelfState) : Result Done Fault → Type 0 where
  linked : (program : Program) (result : Result Done Fault) → OfLoaded loaded (λ texts. AreProgram texts program) → StoredProgram program to files files' result → LinkedTexts loaded to files files' result
  one_refused : (number : ℕ) (refusal : Refusal) → OfLoaded loaded (λ texts. FirstRefused 1 texts number refusal) → files' ≡ files → LinkedTexts loaded to files files' (Ok (UnitRefused number refusal))
  kept_apart : (refusal : LinkRefusal) → OfLoaded loaded (λ texts. AreApart texts (refusal_of refusal)) → files' ≡ files → LinkedTexts loaded to files files' (Ok (LinkRefused refusal))
  out_of_memory : files' ≡ files → LinkedTexts loaded to files files' (Err Memory)

-- the rows of the tables say of a request that it stores the image of the program that these files are together under this name
pub record LinksFiles (request : Option Request) (to : List ℕ) (wanted : List (List ℕ)) : Type 0 where
  pub reads : (footprint request).reads ≡ wanted
  pub stores : Stores (footprint request) to
  pub may_write : MayAnswer request Wrote
  pub may_refuse_one : (number : ℕ) (refusal : Refusal) → ¬ IsOfCounts refusal → MayAnswer request (UnitRefused number refusal)
  pub may_keep_apart : (refusal : LinkRefusal) → MayAnswer request (LinkRefused refusal)
  pub may_refuse_all : (refusal : Refusal) → IsOfCounts refusal → MayAnswer request (Refused refusal)
  pub is_outcome : (files : Names) (input : List ℕ) (outcome : Outcome) → OfFiles wanted (Compiles to) files input outcome → IsOutcome request files input outcome
  pub outcome_is : (files : Names) (input : List ℕ) (outcome : Outcome) → IsOutcome request files input outcome → OfFiles wanted (Compiles to) files input outcome
  pub stores_program : (files files' : Names) → ((texts : List (List ℕ)) (program : Program) → Have files wanted texts → AreProgram texts program → IsUnder to files' program) → StoresProgram request files files'
