-- What a request comes to if nothing fails: its answer, and what it does outside.
use Rattle.std.specs.Prelude.{◌≡◌, ◌⊎◌, ℕ, nat_le, List, [], ◌∷◌, ◌++◌, length, map, Option, Some, None, Result, Ok, Err, IsTrue, if◌then◌else◌}
use Rattle.std.specs.List.{AllByRecursion as Every}
use Rattle.rc_base.specs.Acts.{Act, Gave, IsGetcharNext, IsWriteNext, Write, output}
use Rattle.rc_base.specs.Causes.{Rose}
use Rattle.rc_base.specs.Limits.{most_text_bytes}
use Rattle.rc_base.specs.Shelves.{Names}
use Rattle.rc_base.specs.Sinks.{IsFlushed, SinkState, Took}
use Rattle.rc_base.specs.Sources.{SourceState}
use Rattle.rc_base.specs.declared.ends.End.{End}
use Rattle.rc_base.specs.declared.ends.Limits.{Limits}
use Rattle.rc_code.specs.declared.image.Parts.{Parts}
use Rattle.rc_compile.specs.Acceptance.{Accepted, HasTree, TooMuch}
use Rattle.rc_compile.specs.Acceptance as acceptance
use Rattle.rc_compile.specs.declared.refusal.Refusal.{Refusal}
use Rattle.rc_compile.specs.declared.refusal.Refusal.TheVariants as refusal
use Rattle.rc_core.specs.Meaning.{Left, Meaning, meaning}
use Rattle.rc_core.specs.Meaning as meant
use Rattle.rc_core.specs.Numbers.{IsByte}
use Rattle.rc_core.specs.Programs.{Program}
use Rattle.rc_core.specs.Runs.{Ends, Stale, Stop}
use Rattle.rc_core.specs.Store.{Store}
use Rattle.rc_claims.specs.declared.proofs.Proofs.{Proofs}
use Rattle.rc_code.specs.ImageMeaning.{image_left, image_meaning, view_left}
use Rattle.rc_code.specs.Soundness.{Sound}
use Rattle.rc_loader.specs.Unmarked.{unmarked}
use Rattle.rc_loader.specs.Violations.{FirstViolation}
use Rattle.rc_loader.specs.declared.fault.Rule.{Rule}
use Rattle.rc_loader.specs.declared.fault.Rule.TheVariants as rule
use Rattle.rc_loader.specs.declared.fault.Violation.{Violation}
use Rattle.rc_first_heap.specs.Keeping.{IsKept}
use Rattle.rc_greatest_proofs.specs.Sealed.{IsPinFault, IsSealedAs}
use Rattle.rc_sealed.specs.AllProved.{AllProved}
use Rattle.rc_sealed.specs.Claimed.{annotation_of}
use Rattle.rc_sealed.specs.Faults.{IsProofFault, NoneIsWide}
use Rattle.rc_sealed.specs.declared.fault.ProofFault.{ProofFault}
use Rattle.rc_sealed.specs.declared.fault.ProofFault.TheVariants as proof_fault
use Rattle.rc_sealed_images.specs.Spelling.{sealing}
use Rattle.rc_syntax.specs.Tree.{Tree}
use Rattle.rc_task_items.specs.Items.{tasks_of_text, without_tasks}
use Rattle.rc_task_text.specs.TaskText.{task_text_of}
use Rattle.rc_task_trees.specs.Choices.{choices_of}
use Rattle.rc_tasks.specs.Tasks.{task_meaning}
use Rattle.rc_replies.specs.Replies.{heap_store, heap_text}
use Rattle.rc_replies.specs.Stores.{IsSame}
use Rattle.rc_store.specs.Kept.{KeptStore}
use Rattle.rc_outcomes.specs.Footprint.{TellsWhatIsUsed, footprint}
use Rattle.rc_outcomes.specs.Images.{Carried, carried_by}
use Rattle.rc_outcomes.specs.Loading.{Have}
use Rattle.rc_outcomes.specs.Outside.{Outside}
use Rattle.rc_requests.specs.Request.{Request, Run, Slow, Compile, Exec, Listing, Upgrade, Script, Checks, Soak, Tasks, Link, Seal, usual_limits}
use Rattle.rc_answers.specs.Answers.{IsQuiet}
use Rattle.rc_answers.specs.declared.answer.Done.{Done}
use Rattle.rc_answers.specs.declared.answer.Done.TheVariants.{Ended, StaleImage, Refused, ImageRefused, UnitRefused, LinkRefused, Wrote, Reported, Usage}
use Rattle.rc_answers.specs.declared.answer.Fault.{Fault}
use Rattle.rc_answers.specs.declared.answer.Fault.TheVariants.{FileFault, ReadFault, WriteFault, ErrFault, Memory}
use Rattle.rc_answers.specs.declared.image_refusal.ImageRefusal.{ImageRefusal}
use Rattle.rc_answers.specs.declared.link_refusal.LinkRefusal.{LinkRefusal}
use Rattle.rc_link.specs.Answers.{refusal_of}
use Rattle.rc_linked_texts.specs.Texts.{AreApart, AreProgram, FirstRefused}
use Rattle.rc_rlang.specs.Bounds.{IsWithinBounds}
use Rattle.rc_answers.specs.declared.image_refusal.ImageRefusal.TheVariants.{Target, Height, Kind, Number, Facts, Pins, Wide}
use Rattle.rc_image.specs.Spelling.{spelling}
use Rattle.rc_image.specs.declared.version.Version.TheVariants.{Two}
use Rattle.rc_listing.specs.Listing.{listing}
use Rattle.rc_unchecked.specs.Compiled.{IsCompiled}
use Rattle.rc_gen.specs.Program.{generated}
use Rattle.rc_reports.specs.Inspected.{IsReportOf}
use Rattle.rc_reports.specs.Reports.{removed_count, report_text}
use Rattle.rc_reports.specs.declared.entry.Entry.{Entry}
use Rattle.rc_summaries.specs.Summary.{summary_text}

-- bytes that are stored under a name
pub record Stored : Type 0 where
  pub name : List ℕ
  pub bytes : List ℕ

-- what is said of the heap behind a request
pub data HeapLeft : Type 0 where
  -- nothing
  AnyHeap : HeapLeft
  -- these are its regions, nothing is pinned, and its limits are those of the run
  Unpinned : Left → Limits → HeapLeft
  -- it is this store, but for the order of its pins and the room for more
  SameAs : KeptStore → HeapLeft

-- what is said of the heap behind a run within limits
abbrev pub unpinned : Limits → Option Left → HeapLeft
unpinned limits None = AnyHeap
unpinned limits (Some regions) = Unpinned regions limits

-- the answer of a request, its acts on the input and the output, what it stores, and what it leaves of the heap, where that is said
pub record Outcome : Type 0 where
  pub done : Done
  pub acts : List Act
  pub stored : Option Stored
  pub left : HeapLeft

abbrev pub answers : Done → Outcome
answers done = record { done = done; acts = []; stored = None; left = AnyHeap }

abbrev pub runs : List Act → End → HeapLeft → Outcome
runs acts end left = record { done = Ended end; acts = acts; stored = None; left = left }

-- a run ends, or an image from elsewhere touched a deleted region
abbrev pub end_as : Stop → Done
end_as (Ends end) = Ended end
end_as (Stale line) = StaleImage line

-- what a run comes to that means this
abbrev pub came : Meaning → HeapLeft → Outcome
came means left = record { done = end_as means.end; acts = means.acts; stored = None; left = left }

-- the acts that write these bytes
abbrev pub writes : List ℕ → List Act
writes [] = []
writes (byte ∷ bytes) = Write byte ∷ writes bytes

-- a report is written, and the heap is left so
abbrev pub reports_leaving : List ℕ → HeapLeft → Outcome
reports_leaving report left = record { done = Reported; acts = writes report; stored = None; left = left }

abbrev pub reports : List ℕ → Outcome
reports report = reports_leaving report AnyHeap

abbrev pub stores : (name bytes : List ℕ) → Outcome
stores name bytes = record { done = Wrote; acts = []; stored = Some (record { name = name; bytes = bytes }); left = AnyHeap }

-- ---- texts

-- what is made of the program that a text is; a text that is none is refused
pub data OfText (Made : Program → Outcome → Type 0) (text : List ℕ) (outcome : Outcome) : Type 0 where
  accepts : (program : Program) → Accepted text program → Made program outcome → OfText Made text outcome
  refuses : (refusal : Refusal) → acceptance.Refused text refusal → outcome ≡ answers (Refused refusal) → OfText Made text outcome

-- and of that which is made of a file's bytes
abbrev pub OfTextFile : (file : List ℕ) → (text_of : List ℕ → List ℕ) → (Made : List ℕ → Program → Outcome → Type 0) → Names → (input : List ℕ) → Outcome → Type 0
OfTextFile file text_of Made files input outcome = (bytes : List ℕ) × (files file ≡ Some bytes) × OfText (Made input) (text_of bytes) outcome

-- the bytes themselves
abbrev pub as_they_are : List ℕ → List ℕ
as_they_are bytes = bytes

-- what is said of the heap behind the run of a program
abbrev pub Leaving : Type 0
Leaving = Program → List ℕ → Limits → HeapLeft

-- nothing
abbrev pub unsaid : Leaving
unsaid program input limits = AnyHeap

-- what the program leaves, where it exits
abbrev pub as_left : Leaving
as_left program input limits = unpinned limits (meant.left program input limits)

-- a program does what it means
pub record Runs (leaves : Leaving) (limits : Limits) (input : List ℕ) (program : Program) (outcome : Outcome) : Type 0 where
  pub end : End
  pub ends : (meaning program input limits).end ≡ Ends end
  pub comes : outcome ≡ runs (meaning program input limits).acts end (leaves program input limits)

-- the image that it is compiled to is stored
pub record Compiles (to : List ℕ) (input : List ℕ) (program : Program) (outcome : Outcome) : Type 0 where
  pub image : Parts
  pub compiled : IsCompiled program image
  pub comes : outcome ≡ stores to (spelling Two image)

-- the report on its checks is written
pub record ReportsOn (input : List ℕ) (program : Program) (outcome : Outcome) : Type 0 where
  pub entries : List Entry
  pub report : IsReportOf program entries
  pub comes : outcome ≡ reports (report_text entries)

-- it is run within the usual limits, without input and with its output thrown away. A line that sums it up is written: it has the
-- number n from which the program was made, how many functions and checks it has, how many checks its report removes, and its end
pub record Soaks (n : ℕ) (program : Program) (outcome : Outcome) : Type 0 where
  pub entries : List Entry
  pub report : IsReportOf program entries
  pub end : End
  pub ends : (meaning program [] usual_limits).end ≡ Ends end
  pub comes : outcome ≡ reports_leaving (summary_text (record { number = n; functions = length program.functions; checks = length entries; removed = removed_count entries; end = end })) (as_left program [] usual_limits)

-- ---- tasks

-- what the tasks of a text mean under these choices. The text has the lines behind it that run them, and its tree and its program tell
-- what they are: the functions of the program, but for those that these lines add
abbrev pub means_by_tasks : Tree → Program → (choices input : List ℕ) → Limits → Meaning
means_by_tasks tree program choices input limits = task_meaning (tasks_of_text tree.items (without_tasks program)) (choices_of choices) input limits

-- they do what they mean, and of the heap is left what the program leaves
pub record RunsTasks (limits : Limits) (choices text input : List ℕ) (program : Program) (outcome : Outcome) : Type 0 where
  pub tree : Tree
  pub has_tree : HasTree text tree
  pub end : End
  pub ends : (means_by_tasks tree program choices input limits).end ≡ Ends end
  pub comes : outcome ≡ runs (means_by_tasks tree program choices input limits).acts end (as_left program input limits)

-- of a file's text with those lines behind it; what is no program with them is refused as it is with them
abbrev pub OfTasksFile : (file choices : List ℕ) → Limits → Names → (input : List ℕ) → Outcome → Type 0
OfTasksFile file choices limits files input outcome =
    (text : List ℕ) × (files file ≡ Some text) × OfText (RunsTasks limits choices (task_text_of text choices) input) (task_text_of text choices) outcome

-- ---- several texts

-- what is made of the program that texts are together. They are refused for the first that is no file of a program, for what keeps them
-- apart, or for what their program needs too much of
pub data OfTexts (Made : Program → Outcome → Type 0) (texts : List (List ℕ)) (outcome : Outcome) : Type 0 where
  refuses_one : (number : ℕ) (refusal : Refusal) → FirstRefused 1 texts number refusal → outcome ≡ answers (UnitRefused number refusal) → OfTexts Made texts outcome
  keeps_apart : (refusal : LinkRefusal) → AreApart texts (refusal_of refusal) → outcome ≡ answers (LinkRefused refusal) → OfTexts Made texts outcome
  refuses_all : (program : Program) (refusal : Refusal) → AreProgram texts program → TooMuch program refusal → outcome ≡ answers (Refused refusal) → OfTexts Made texts outcome
  links : (program : Program) → AreProgram texts program → IsWithinBounds program → Made program outcome → OfTexts Made texts outcome

-- and of that which several files have
abbrev pub OfFiles : (wanted : List (List ℕ)) → (Made : List ℕ → Program → Outcome → Type 0) → Names → (input : List ℕ) → Outcome → Type 0
OfFiles wanted Made files input outcome = (texts : List (List ℕ)) × Have files wanted texts × OfTexts (Made input) texts outcome

-- ---- images

-- what comes of a file that carries an image; bytes that carry none are refused
abbrev pub OfRead : (Made : Carried → List ℕ → Outcome → Type 0) → Result Carried ImageRefusal → (input : List ℕ) → Outcome → Type 0
OfRead Made (Ok carried) input outcome = Made carried input outcome
OfRead Made (Err refusal) input outcome = outcome ≡ answers (ImageRefused refusal)

abbrev pub OfImage : (file : List ℕ) → (Made : Carried → List ℕ → Outcome → Type 0) → Names → (input : List ℕ) → Outcome → Type 0
OfImage file Made files input outcome = (bytes : List ℕ) × (files file ≡ Some bytes) × OfRead Made (carried_by bytes) input outcome

-- the refusal of a broken rule of code
abbrev pub refusal_by : Rule → (function instruction : ℕ) → ImageRefusal
refusal_by rule.Number function instruction = Number function instruction
refusal_by rule.Target function instruction = Target function instruction
refusal_by rule.Height function instruction = Height function instruction
refusal_by rule.Kind function instruction = Kind function instruction

abbrev pub refusal_of_code : Violation → ImageRefusal
refusal_of_code v = refusal_by v.rule v.function v.instruction

-- the refusal of an image that its proofs don't prove, or that can't be sealed; want of memory is none
abbrev pub refusal_of_proofs : ProofFault → Option ImageRefusal
refusal_of_proofs (proof_fault.Facts function instruction) = Some (Facts function instruction)
refusal_of_proofs (proof_fault.Pins function instruction) = Some (Pins function instruction)
refusal_of_proofs (proof_fault.Wide function) = Some (Wide function)
refusal_of_proofs proof_fault.Memory = None

-- what is run of a file's image; or the refusal of an image that isn't
pub data Admits (carried : Carried) : Result Parts ImageRefusal → Type 0 where
  -- its code keeps the rules, and no proofs stand beside it: it is run with the mark of every store taken away
  bare : carried.proofs ≡ None → Sound carried.image → Admits carried (Ok (unmarked carried.image))
  -- or proofs do, and prove each instruction of it: it is run as it is
  proven : (proofs : Proofs) → carried.proofs ≡ Some proofs → Sound carried.image → AllProved carried.image (annotation_of carried.image proofs) → NoneIsWide carried.image → Admits carried (Ok carried.image)
  -- they don't: it is refused for the first thing that they don't prove
  unproven : (proofs : Proofs) (fault : ProofFault) (refusal : ImageRefusal) → carried.proofs ≡ Some proofs → Sound carried.image → IsProofFault carried.image (annotation_of carried.image proofs) fault → refusal_of_proofs fault ≡ Some refusal → Admits carried (Err refusal)
  -- its code breaks a rule: it is refused by its first violation
  broken : (v : Violation) → FirstViolation carried.image v → Admits carried (Err (refusal_of_code v))

-- what the run of an image within limits comes to on the rest of the input
abbrev pub comes_of : Parts → Limits → (rest : List ℕ) → Outcome
comes_of parts limits rest = came (image_meaning parts rest limits) (unpinned limits (image_left parts rest limits))

abbrev pub runs_or_refuses : Limits → (input : List ℕ) → Result Parts ImageRefusal → Outcome
runs_or_refuses limits input (Ok parts) = comes_of parts limits input
runs_or_refuses limits input (Err refusal) = answers (ImageRefused refusal)

-- what is run does what it means, and leaves the heap so
pub record Executes (limits : Limits) (carried : Carried) (input : List ℕ) (outcome : Outcome) : Type 0 where
  pub admitted : Result Parts ImageRefusal
  pub admits : Admits carried admitted
  pub comes : outcome ≡ runs_or_refuses limits input admitted

abbrev pub Lists : Carried → (input : List ℕ) → Outcome → Type 0
Lists carried input outcome = outcome ≡ reports (listing carried.image)

abbrev pub Upgrades : (to : List ℕ) → Carried → (input : List ℕ) → Outcome → Type 0
Upgrades to carried input outcome = outcome ≡ stores to (spelling Two carried.image)

-- an image whose code keeps the rules is stored with the greatest proofs there are of it, and with a mark at each store whose check they
-- prove; one that doesn't pin what is used, or has too many variables for proofs, is refused. What was beside it is passed over
pub data Seals (to : List ℕ) (carried : Carried) (input : List ℕ) (outcome : Outcome) : Type 0 where
  seals : (sealed : Parts) (proofs : Proofs) → Sound carried.image → IsSealedAs carried.image sealed proofs → Every IsByte (sealing sealed proofs) → outcome ≡ stores to (sealing sealed proofs) → Seals to carried input outcome
  unsealable : (fault : ProofFault) (refusal : ImageRefusal) → Sound carried.image → IsPinFault carried.image fault → refusal_of_proofs fault ≡ Some refusal → outcome ≡ answers (ImageRefused refusal) → Seals to carried input outcome
  breaks : (v : Violation) → FirstViolation carried.image v → outcome ≡ answers (ImageRefused (refusal_of_code v)) → Seals to carried input outcome

-- ---- scripts

-- the heap commands of a text are obeyed one by one, and each is answered; a text that is longer than a program's may be is refused
abbrev pub script_outcome : Limits → (text : List ℕ) → Outcome
script_outcome limits text =
    if nat_le (length text) most_text_bytes then reports_leaving (heap_text text limits) (SameAs (heap_store text limits)) else answers (Refused refusal.TooLong)

abbrev pub OfScriptFile : (file : List ℕ) → Limits → Names → Outcome → Type 0
OfScriptFile file limits files outcome = (text : List ℕ) × (files file ≡ Some text) × (outcome ≡ script_outcome limits text)

-- what each request comes to over these files, with these bytes of input; it has no outcome where a name that it reads is not there
abbrev pub IsOutcome : Option Request → Names → List ℕ → Outcome → Type 0
IsOutcome None files input outcome = outcome ≡ answers Usage
IsOutcome (Some (Run file limits)) files input outcome = OfTextFile file as_they_are (Runs as_left limits) files input outcome
IsOutcome (Some (Slow file limits)) files input outcome = OfTextFile file as_they_are (Runs unsaid limits) files input outcome
IsOutcome (Some (Compile from to)) files input outcome = OfTextFile from as_they_are (Compiles to) files input outcome
IsOutcome (Some (Exec file limits)) files input outcome = OfImage file (Executes limits) files input outcome
IsOutcome (Some (Listing file)) files input outcome = OfImage file Lists files input outcome
IsOutcome (Some (Upgrade from to)) files input outcome = OfImage from (Upgrades to) files input outcome
IsOutcome (Some (Script file limits)) files input outcome = OfScriptFile file limits files outcome
IsOutcome (Some (Checks file)) files input outcome = OfTextFile file as_they_are ReportsOn files input outcome
IsOutcome (Some (Soak n)) files input outcome = OfText (Soaks n) (generated n) outcome
IsOutcome (Some (Tasks file choices limits)) files input outcome = OfTasksFile file choices limits files input outcome
IsOutcome (Some (Link to wanted)) files input outcome = OfFiles wanted (Compiles to) files input outcome
IsOutcome (Some (Seal from to)) files input outcome = OfImage from (Seals to) files input outcome

-- the outcome, where what comes to it tells what it has
pub record Comes (request : Option Request) (before : Outside) (outcome : Outcome) : Type 0 where
  pub told : TellsWhatIsUsed (footprint request) outcome.done before
  pub comes : IsOutcome request before.files.names before.input.rest outcome

-- there is an outcome, and an answer that touches no input is that of the outcome, whether or not the input tells
pub record Settles (request : Option Request) (before : Outside) (done : Done) : Type 0 where
  pub outcome : Outcome
  pub is : IsOutcome request before.files.names before.input.rest outcome
  pub quiet : IsQuiet done → done ≡ outcome.done

-- what is to be stored stands there
abbrev pub IsStored : Option Stored → Names → Type 0
IsStored None names = Unit {0}
IsStored (Some s) names = names s.name ≡ Some s.bytes

-- the heap is as is said
abbrev pub IsLeft : HeapLeft → KeptStore → Type 0
IsLeft AnyHeap heap = Unit {0}
IsLeft (Unpinned regions limits) heap = (store : Store) × (regions ≡ map view_left store.regions) × IsKept heap store × (heap.pins ≡ []) × (heap.region_limit ≡ limits.regions) × (heap.block_limit ≡ limits.blocks)
IsLeft (SameAs store) heap = IsSame store heap

-- neither was called
pub record Untouched (input input' : SourceState) (out out' : SinkState) : Type 0 where
  pub input_same : input' ≡ input
  pub out_same : out' ≡ out

-- these acts were done: their bytes were written, and the input lost what their `getchar`s gave
pub record Performed (acts : List Act) (input input' : SourceState) (out out' : SinkState) : Type 0 where
  pub wrote : Took (output acts) out out'
  pub gave : Gave acts input input'

-- a front of the acts was done; where a fault came, it says what the next act was
pub record StoppedShort (acts : List Act) (fault : Fault) (input input' : SourceState) (out out' : SinkState) : Type 0 where
  pub before : List Act
  pub left : List Act
  pub split : acts ≡ before ++ left
  pub performed : Performed before input input' out out'
  pub at_file : fault ≡ FileFault → before ≡ []
  pub at_read : fault ≡ ReadFault → IsGetcharNext left
  pub at_write : fault ≡ WriteFault → IsWriteNext left ⊎ (left ≡ [])
  pub at_error : fault ≡ ErrFault → left ≡ []
  -- after a byte that could not be written there is no flush, and else there is one behind what was written
  pub unflushed : fault ≡ WriteFault → IsWriteNext left → IsTrue out.tells → out'.flushed ≡ out.flushed
  pub flushed_at_read : fault ≡ ReadFault → ¬ Rose out.faults out'.faults → IsFlushed out'
  pub flushed_at_memory : fault ≡ Memory → ¬ (before ≡ []) → ¬ Rose out.faults out'.faults → IsFlushed out'

-- an answer beside the outcome
abbrev pub Follows : Outcome → Outside → Outside → Result Done Fault → Type 0
Follows outcome before after (Ok done) = (done ≡ outcome.done) × Performed outcome.acts before.input after.input before.out after.out × IsStored outcome.stored after.files.names × IsLeft outcome.left after.heap
Follows outcome before after (Err fault) = StoppedShort outcome.acts fault before.input after.input before.out after.out
