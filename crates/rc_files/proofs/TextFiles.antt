-- Requests that make something of the text of a file.
use Rattle.std.proofs.Common.{◌≡◌, ◌∙◌, ℕ, List, Option, Result, Ok, Err, IsTrue, refl, sym, ap, subst, arith, inl}
use Rattle.rc_base.specs.Shelves.{IsFront, Loads, ShelfState}
use Rattle.rc_base.specs.Sinks.{SinkState}
use Rattle.rc_base.specs.Sources.{SourceState}
use Rattle.rc_base.specs.declared.outside.Piece.{Piece}
use Rattle.rc_base.specs.declared.outside.ShelfFault.{ShelfFault}
use Rattle.rc_compile.specs.Answers.{IsOnlyProgram, IsOnlyRefusal}
use Rattle.rc_compile.specs.declared.refusal.Refusal.{Refusal}
use Rattle.rc_compile.specs.declared.refusal.Refusal.TheVariants as refusal
use Rattle.rc_compile.proofs.OneAnswer.{too_long_only}
use Rattle.rc_core.specs.Programs.{Program}
use Rattle.rc_answers.specs.declared.answer.Done.TheVariants.{Refused}
use Rattle.rc_answers.specs.declared.answer.Fault.{Fault}
use Rattle.rc_answers.specs.declared.answer.Fault.TheVariants.{Memory}
use Rattle.rc_outcomes.specs.Footprint.{UsesFiles, footprint}
use Rattle.rc_outcomes.specs.Loading.{LoadCause, Loaded, NotLoaded}
use Rattle.rc_outcomes.specs.Outcome.{Comes, IsOutcome, OfText, Outcome, Untouched, accepts, answers, refuses}
use Rattle.rc_outcomes.specs.Outside.{Outside, outside}
use Rattle.rc_outcomes.specs.Performing.{Performs}
use Rattle.rc_outcomes.proofs.TextLaws.{longer, whole_is}
use Rattle.rc_outcomes.proofs.Files as one_file
use Rattle.rc_outcomes.proofs.Ways.{HasRead, OnlyReads, fails_before, is_refused, no_memory as fails_by_memory, same_text, untouched}
use Rattle.rc_requests.specs.Request.{Request}
use Rattle.rc_files.specs.Texts.{IsTooLong, LoadedText, ReadText, TextOf, beyond, whole}
use Rattle.rc_files.specs.declared.text_file.NoText.{NoText}
use Rattle.rc_files.specs.declared.text_file.NoText.TheVariants.{TooLong, Failed}

-- ---- what was loaded

there_and : (name : List ℕ) (files files' : ShelfState) (piece : Piece) (Holds : List ℕ → Type 0) → Loads name 1048577 files files' (Ok piece) → ((file : List ℕ) → IsFront file 1048577 piece → Holds file) → Loaded name files files' Holds
there_and name files files' piece Holds load holds = record {
  tells = load.tells;
  names = load.same;
  kept = load.cause.kept refl;
  holds = λ tells. (let file = load.piece tells in (file.0, file.1, holds file.0 file.2));
}

pub loaded_text : (name : List ℕ) (files files' : ShelfState) (piece : Piece) (result : Result (List ℕ) NoText) → Loads name 1048577 files files' (Ok piece) → ReadText piece result → LoadedText name files files' result
loaded_text name files files' piece result load (beyond not_whole) = there_and name files files' piece IsTooLong load (λ file front. (let long = longer file 1048577 piece front not_whole in omega (arith, long)))
loaded_text name files files' piece result load (whole is) = there_and name files files' piece (λ bytes. bytes ≡ piece.bytes) load (λ file front. sym (whole_is file 1048577 piece front is))

pub not_loaded : (name : List ℕ) (files files' : ShelfState) (error : ShelfFault) (fault : Fault) → Loads name 1048577 files files' (Err error) → LoadCause name files files' fault → NotLoaded name files files' fault
not_loaded name files files' error fault load cause = record { tells = load.tells; names = load.same; never_falls = load.cause.never_falls; cause = cause }

-- ---- what comes of a text

-- of one that is only this program
pub made_so : (Made : Program → Outcome → Type 0) (text : List ℕ) (outcome : Outcome) (program : Program) → IsOnlyProgram text program → OfText Made text outcome → Made program outcome
made_so Made text outcome program only (accepts other is made) = subst (λ (p : Program). Made p outcome) (only.only other is) made
made_so Made text outcome program only (refuses refusal is comes) = absurd (only.not_refused refusal is)

pub refused_so : (Made : Program → Outcome → Type 0) (text : List ℕ) (outcome : Outcome) (k : Refusal) → IsOnlyRefusal text k → OfText Made text outcome → outcome ≡ answers (Refused k)
refused_so Made text outcome k only (accepts program is made) = absurd (only.not_accepted program is)
refused_so Made text outcome k only (refuses other is comes) = comes ∙ ap (λ (r : Refusal). answers (Refused r)) (only.only other is)

-- ---- what is made

module _ (request : Option Request) (name : List ℕ) (text_of : List ℕ → List ℕ) (Made : List ℕ → Program → Outcome → Type 0) (row : TextOf request name text_of Made) (before : Outside) (files' : ShelfState) where
  pub uses : UsesFiles (footprint request)
  uses = (name, inl row.reads)

  module _ (Holds : List ℕ → Type 0) (l : Loaded name before.files files' Holds) where
    pub only_reads : OnlyReads request before files'
    only_reads = one_file.only_reads request name row.reads before files' Holds l

    pub has_read : HasRead request before files'
    has_read = one_file.has_read request name row.reads before files' Holds l row.only

    pub some_made : (outcome : Outcome) → ((bytes : List ℕ) → Holds bytes → OfText (Made before.input.rest) (text_of bytes) outcome) → (UsesFiles (footprint request) → IsTrue before.files.tells) → IsOutcome request before.files.names before.input.rest outcome
    some_made outcome is told = let file = l.holds (told uses) in row.is_outcome before.files.names before.input.rest outcome (file.0, file.1, is file.0 file.2)

    pub only_made : (outcome : Outcome) → Comes request before outcome → (bytes : List ℕ) × Holds bytes × OfText (Made before.input.rest) (text_of bytes) outcome
    only_made outcome comes =
        let file = l.holds (comes.told.files uses) in
        let found = row.outcome_is before.files.names before.input.rest outcome comes.comes in
        (file.0, file.2, subst (λ (b : List ℕ). OfText (Made before.input.rest) (text_of b) outcome) (same_text before.files.names name found.0 file.0 found.1 file.1) found.2)

    pub refused_text : (input' : SourceState) (out' : SinkState) (k : Refusal) → ((bytes : List ℕ) → Holds bytes → IsOnlyRefusal (text_of bytes) k) → Untouched before.input input' before.out out' → Performs request before (outside files' input' out' before.err before.heap) (Ok (Refused k))
    refused_text input' out' k only same =
        is_refused request before files' input' out' (Refused k) has_read same tt (row.may_refuse k)
        (λ told. some_made (answers (Refused k)) (λ bytes h. refuses k (only bytes h).refused refl) told)
        (λ outcome comes. (let m = only_made outcome comes in refused_so (Made before.input.rest) (text_of m.0) outcome k (only m.0 m.1) m.2))

    pub no_memory_then : (input' : SourceState) (out' : SinkState) → Untouched before.input input' before.out out' → Performs request before (outside files' input' out' before.err before.heap) (Err Memory)
    no_memory_then input' out' same = fails_before request before files' input' out' Memory only_reads same (fails_by_memory l.kept)

  -- the file is longer than a text
  pub too_long : LoadedText name before.files files' (Err TooLong) → Performs request before (outside files' before.input before.out before.err before.heap) (Ok (Refused refusal.TooLong))
  too_long l = refused_text IsTooLong l before.input before.out refusal.TooLong (λ bytes long. too_long_only (text_of bytes) (let more = row.no_shorter bytes in omega (arith, long, more))) (untouched before.input before.out)

  pub failed : (fault : Fault) → LoadedText name before.files files' (Err (Failed fault)) → Performs request before (outside files' before.input before.out before.err before.heap) (Err fault)
  failed fault l = one_file.fails_to_load request name row.reads before files' fault l
