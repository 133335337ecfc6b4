-- A request whose names are there has one outcome.
use Rattle.std.proofs.Common.{◌≡◌, ◌⊎◌, ◌∙◌, ℕ, List, [], length, Option, Some, None, Result, Ok, Err, refl, sym, ap, subst, inl, inr, arith}
use Rattle.rc_base.specs.Shelves.{Names}
use Rattle.rc_base.specs.declared.ends.End.{End}
use Rattle.rc_base.specs.declared.ends.Limits.{Limits}
use Rattle.rc_compile.specs.Acceptance as acceptance
use Rattle.rc_compile.specs.Acceptance.{Accepted}
use Rattle.rc_compile.specs.declared.refusal.Refusal.{Refusal}
use Rattle.rc_compile.proofs.EveryText.{decided}
use Rattle.rc_compile.proofs.InPlace.{accepted_in_place}
use Rattle.rc_compile.proofs.OneAnswer.{not_both, one_program, one_refusal}
use Rattle.rc_core.specs.Deletes.{DeletesInPlace}
use Rattle.rc_core.specs.Meaning.{meaning}
use Rattle.rc_core.specs.Programs.{Program}
use Rattle.rc_core.specs.Runs.{Ends}
use Rattle.rc_claims.specs.declared.proofs.Proofs.{Proofs}
use Rattle.rc_code.specs.declared.image.Parts.{Parts}
use Rattle.rc_code.specs.Soundness.{Sound}
use Rattle.rc_image.specs.Spelling.{spelling}
use Rattle.rc_image.specs.declared.version.Version.TheVariants.{Two}
use Rattle.rc_listing.specs.Listing.{listing}
use Rattle.rc_loader.specs.Unmarked.{unmarked}
use Rattle.rc_loader.specs.Violations.{FirstViolation}
use Rattle.rc_loader.specs.declared.fault.Violation.{Violation}
use Rattle.rc_loader.proofs.Totals.{sound_or_first}
use Rattle.rc_answers.specs.declared.image_refusal.ImageRefusal.{ImageRefusal}
use Rattle.rc_outcomes.specs.Images.{Carried, carried_by}
use Rattle.rc_outcomes.specs.Footprint.{AreThere, footprint}
use Rattle.rc_outcomes.specs.Bytes.{AreBytes, HasBytes}
use Rattle.rc_outcomes.specs.Judged.{AreFound, AreJudged, IsJudged}
use Rattle.rc_outcomes.specs.Outcome.{Admits, Compiles, Executes, IsOutcome, Leaving, Lists, OfImage, OfRead, OfScriptFile, OfTasksFile, OfText, OfTextFile, Outcome, ReportsOn, Runs, RunsTasks, Seals, Soaks, Upgrades, accepts, answers, as_left, as_they_are, bare, breaks, broken, refusal_of_code, refuses, reports, reports_leaving, runs, runs_or_refuses, script_outcome, stores, unsaid}
use Rattle.rc_requests.specs.Request.{Request, Run, Slow, Compile, Exec, Listing, Upgrade, Script, Checks, Soak, Tasks, Link, Seal, usual_limits}
use Rattle.rc_answers.specs.declared.answer.Done.TheVariants.{ImageRefused, Refused, Usage}
use Rattle.rc_outcomes.proofs.Admitting.{one_admitted}
use Rattle.rc_outcomes.proofs.Linked.{files_linked, one_of_files}
use Rattle.rc_outcomes.proofs.Sealing.{one_sealing}
use Rattle.rc_outcomes.proofs.MadeTexts.{generated_bytes}
use Rattle.rc_outcomes.proofs.Tasks.{by_tasks, one_by_tasks}
use Rattle.rc_outcomes.proofs.Ways.{an_end, same_text}
use Rattle.rc_safety.specs.Safety.{NeverTouchesDeleted}
use Rattle.rc_safety.proofs.Never.{never_touches_deleted}
use Rattle.std.specs.List.{AllByRecursion as Every}
use Rattle.rc_core.specs.Numbers.{IsByte}
use Rattle.rc_compile.proofs.Texts.{well_typed}
use Rattle.rc_gen.specs.Program.{generated}
use Rattle.rc_edges.proofs.Marks.{marks_decided}
use Rattle.rc_reports.specs.Inspected.{IsReportOf}
use Rattle.rc_translation.proofs.RulesTheorem.{fits_together}
use Rattle.rc_reports.specs.Reports.{entries, removed_count, report_text}
use Rattle.rc_reports.specs.declared.entry.Entry.{Entry}
use Rattle.rc_reports.proofs.One.{one_report}
use Rattle.rc_summaries.specs.Summary.{summary_text}
use Rattle.rc_task_text.specs.TaskText.{AreChoices, task_text_of}
use Rattle.rc_translation.specs.Translation.{region_of_program}
use Rattle.rc_unchecked.proofs.Compiled.{one_image, some_image}

-- what comes of a text, where something comes of each program
text_outcome : (Made : Program → Outcome → Type 0) → (text : List ℕ) → ((program : Program) → Accepted text program → (outcome : Outcome) × Made program outcome) → (outcome : Outcome) × OfText Made text outcome
text_outcome Made text some = by (decided text) where
  by : ((program : Program) × Accepted text program) ⊎ ((refusal : Refusal) × acceptance.Refused text refusal) → (outcome : Outcome) × OfText Made text outcome
  by (inl (program, accepted)) = let made = some program accepted in (made.0, accepts program accepted made.1)
  by (inr (refusal, refused)) = (answers (Refused refusal), refuses refusal refused refl)

file_outcome : (file : List ℕ) (text_of : List ℕ → List ℕ) (Made : List ℕ → Program → Outcome → Type 0) (files : Names) (input : List ℕ) → ((bytes : List ℕ) → files file ≡ Some bytes → (program : Program) → Accepted (text_of bytes) program → (outcome : Outcome) × Made input program outcome) → ¬ (files file ≡ None) → (outcome : Outcome) × OfTextFile file text_of Made files input outcome
file_outcome file text_of Made files input some there = by (files file) refl where
  by : (o : Option (List ℕ)) → files file ≡ o → (outcome : Outcome) × OfTextFile file text_of Made files input outcome
  by None is = absurd (there is)
  by (Some bytes) is = let found = text_outcome (Made input) (text_of bytes) (some bytes is) in (found.0, (bytes, is, found.1))

-- a program that deletes in place comes to an end
pub run_of : (leaves : Leaving) (limits : Limits) (input : List ℕ) (program : Program) → DeletesInPlace program → (outcome : Outcome) × Runs leaves limits input program outcome
run_of leaves limits input program in_place =
    let e = an_end (meaning program input limits).end (never_touches_deleted program input limits in_place) in
    (runs (meaning program input limits).acts e.0 (leaves program input limits), record { end = e.0; ends = e.1; comes = refl })

-- so does one that is accepted
run_outcome : (leaves : Leaving) (limits : Limits) (input text : List ℕ) (program : Program) → Accepted text program → (outcome : Outcome) × Runs leaves limits input program outcome
run_outcome leaves limits input text program accepted = run_of leaves limits input program (accepted_in_place text program accepted)

-- the program of bytes has a report
report_of : (text : List ℕ) → Every IsByte text → (program : Program) → Accepted text program → (all : List Entry) × IsReportOf program all
report_of text bytes program accepted =
    let decided = marks_decided (region_of_program program) (fits_together program (well_typed text program bytes accepted) accepted.bounds) in
    (entries decided.0 (region_of_program program), record { marks = decided.0; removable = decided.1; are = refl })

compiled_outcome : (to input text : List ℕ) → Every IsByte text → (program : Program) → Accepted text program → (outcome : Outcome) × Compiles to input program outcome
compiled_outcome to input text bytes program accepted =
    let found = some_image program (well_typed text program bytes accepted) accepted.bounds in
    (stores to (spelling Two found.0), record { image = found.0; compiled = found.1; comes = refl })

reported_outcome : (input text : List ℕ) → Every IsByte text → (program : Program) → Accepted text program → (outcome : Outcome) × ReportsOn input program outcome
reported_outcome input text bytes program accepted =
    let found = report_of text bytes program accepted in
    (reports (report_text found.0), record { entries = found.0; report = found.1; comes = refl })

soaked_outcome : (n : ℕ) (text : List ℕ) → Every IsByte text → (program : Program) → Accepted text program → (outcome : Outcome) × Soaks n program outcome
soaked_outcome n text bytes program accepted =
    let found = report_of text bytes program accepted in
    let e = an_end (meaning program [] usual_limits).end (never_touches_deleted program [] usual_limits (accepted_in_place text program accepted)) in (
      reports_leaving (summary_text (record { number = n; functions = length program.functions; checks = length found.0; removed = removed_count found.0; end = e.0 })) (as_left program [] usual_limits),
      record { entries = found.0; report = found.1; end = e.0; ends = e.1; comes = refl },
    )

-- what comes of an image, where something comes of each
image_outcome : (file : List ℕ) (Made : Carried → List ℕ → Outcome → Type 0) (files : Names) (input : List ℕ) → ((bytes : List ℕ) (carried : Carried) → files file ≡ Some bytes → carried_by bytes ≡ Ok carried → (outcome : Outcome) × Made carried input outcome) → ¬ (files file ≡ None) → (outcome : Outcome) × OfImage file Made files input outcome
image_outcome file Made files input some there = by (files file) refl where
  of : (bytes : List ℕ) → files file ≡ Some bytes → (said : Result Carried ImageRefusal) → carried_by bytes ≡ said → (outcome : Outcome) × OfRead Made said input outcome
  of bytes is (Ok carried) e = some bytes carried is e
  of bytes is (Err refusal) e = (answers (ImageRefused refusal), refl)

  by : (o : Option (List ℕ)) → files file ≡ o → (outcome : Outcome) × OfImage file Made files input outcome
  by None is = absurd (there is)
  by (Some bytes) is = let found = of bytes is (carried_by bytes) refl in (found.0, (bytes, is, found.1))

-- what is run of it, or its refusal, where it is known what its proofs prove
admission : (carried : Carried) → (Sound carried.image → AreJudged carried) → (admitted : Result Parts ImageRefusal) × Admits carried admitted
admission carried judged = by (sound_or_first carried.image) where
  by_proofs : Sound carried.image → (proofs : Option Proofs) → carried.proofs ≡ proofs → (admitted : Result Parts ImageRefusal) × Admits carried admitted
  by_proofs is None none = (Ok (unmarked carried.image), bare none is)
  by_proofs is (Some proofs) has = judged is proofs has

  by : Sound carried.image ⊎ ((v : Violation) × FirstViolation carried.image v) → (admitted : Result Parts ImageRefusal) × Admits carried admitted
  by (inl is) = by_proofs is carried.proofs refl
  by (inr (v, first)) = (Err (refusal_of_code v), broken v first)

execution : (limits : Limits) (input : List ℕ) (carried : Carried) → (Sound carried.image → AreJudged carried) → (outcome : Outcome) × Executes limits carried input outcome
execution limits input carried judged =
    let found = admission carried judged in
    (runs_or_refuses limits input found.0, record { admitted = found.0; admits = found.1; comes = refl })

sealing : (to input : List ℕ) (carried : Carried) → (Sound carried.image → AreFound to carried) → (outcome : Outcome) × Seals to carried input outcome
sealing to input carried found = by (sound_or_first carried.image) where
  by : Sound carried.image ⊎ ((v : Violation) × FirstViolation carried.image v) → (outcome : Outcome) × Seals to carried input outcome
  by (inl is) = found is input
  by (inr (v, first)) = (answers (ImageRefused (refusal_of_code v)), breaks v first refl)

script_some : (file : List ℕ) (limits : Limits) (files : Names) → ¬ (files file ≡ None) → (outcome : Outcome) × OfScriptFile file limits files outcome
script_some file limits files there = by (files file) refl where
  by : (o : Option (List ℕ)) → files file ≡ o → (outcome : Outcome) × OfScriptFile file limits files outcome
  by None is = absurd (there is)
  by (Some text) is = (script_outcome limits text, (text, is, refl))

-- what comes of tasks, of whose text the program comes to an end
tasks_some : (file choices : List ℕ) (limits : Limits) (files : Names) (input : List ℕ) → HasBytes file files → AreChoices choices → ¬ (files file ≡ None) → (outcome : Outcome) × OfTasksFile file choices limits files input outcome
tasks_some file choices limits files input bytes are there = by (files file) refl where
  by : (o : Option (List ℕ)) → files file ≡ o → (outcome : Outcome) × OfTasksFile file choices limits files input outcome
  by None is = absurd (there is)
  by (Some text) is =
      let whole = task_text_of text choices in
      let found = text_outcome (Runs as_left limits input) whole (run_outcome as_left limits input whole) in
      (found.0, (text, is, by_tasks text choices input limits (bytes text is) are found.0 found.1))

pub some_outcome : (request : Option Request) (files : Names) (input : List ℕ) → AreThere (footprint request) files → AreBytes request files → IsJudged request files → (outcome : Outcome) × IsOutcome request files input outcome
some_outcome None files input there bytes judged = (answers Usage, refl)
some_outcome (Some (Run file limits)) files input there bytes judged = file_outcome file as_they_are (Runs as_left limits) files input (λ text is. run_outcome as_left limits input text) (there file (0, omega arith, refl))
some_outcome (Some (Slow file limits)) files input there bytes judged = file_outcome file as_they_are (Runs unsaid limits) files input (λ text is. run_outcome unsaid limits input text) (there file (0, omega arith, refl))
some_outcome (Some (Compile from to)) files input there bytes judged = file_outcome from as_they_are (Compiles to) files input (λ text is. compiled_outcome to input text (bytes text is)) (there from (0, omega arith, refl))
some_outcome (Some (Exec file limits)) files input there bytes judged = image_outcome file (Executes limits) files input (λ found carried is e. execution limits input carried (judged found carried is e)) (there file (0, omega arith, refl))
some_outcome (Some (Listing file)) files input there bytes judged = image_outcome file Lists files input (λ found carried is e. (reports (listing carried.image), refl)) (there file (0, omega arith, refl))
some_outcome (Some (Upgrade from to)) files input there bytes judged = image_outcome from (Upgrades to) files input (λ found carried is e. (stores to (spelling Two carried.image), refl)) (there from (0, omega arith, refl))
some_outcome (Some (Script file limits)) files input there bytes judged = script_some file limits files (there file (0, omega arith, refl))
some_outcome (Some (Checks file)) files input there bytes judged = file_outcome file as_they_are ReportsOn files input (λ text is. reported_outcome input text (bytes text is)) (there file (0, omega arith, refl))
some_outcome (Some (Soak n)) files input there bytes judged = text_outcome (Soaks n) (generated n) (soaked_outcome n (generated n) (generated_bytes n))
some_outcome (Some (Tasks file choices limits)) files input there bytes judged = tasks_some file choices limits files input bytes.0 bytes.1 (there file (0, omega arith, refl))
some_outcome (Some (Link to wanted)) files input there bytes judged = files_linked to wanted files input bytes.0 bytes.1 there
some_outcome (Some (Seal from to)) files input there bytes judged = image_outcome from (Seals to) files input (λ found carried is e. sealing to input carried (judged found carried is e)) (there from (0, omega arith, refl))

-- two outcomes of one text are one
same_end : (program : Program) (input : List ℕ) (limits : Limits) (one other : End) → (meaning program input limits).end ≡ Ends one → (meaning program input limits).end ≡ Ends other → one ≡ other
same_end program input limits one other is also = let e : Ends one ≡ Ends other = sym is ∙ also in cc

pub one_run : (leaves : Leaving) (limits : Limits) (input : List ℕ) (one other : Outcome) (program : Program) → Runs leaves limits input program one → Runs leaves limits input program other → one ≡ other
one_run leaves limits input one other program is also =
    is.comes ∙ ap (λ (e : End). runs (meaning program input limits).acts e (leaves program input limits)) (same_end program input limits is.end also.end is.ends also.ends) ∙ sym also.comes

one_of_text : (Made : Program → Outcome → Type 0) (text : List ℕ) (one other : Outcome) → ((program : Program) → Made program one → Made program other → one ≡ other) → OfText Made text one → OfText Made text other → one ≡ other
one_of_text Made text one other only (accepts p a m) (accepts q b n) = only p m (subst (λ (r : Program). Made r other) (one_program text q p b a) n)
one_of_text Made text one other only (accepts p a m) (refuses k b d) = absurd (not_both text p k a b)
one_of_text Made text one other only (refuses k a c) (accepts q b n) = absurd (not_both text q k b a)
one_of_text Made text one other only (refuses k a c) (refuses l b d) = c ∙ ap (λ (r : Refusal). answers (Refused r)) (one_refusal text k l a b) ∙ sym d

one_of_file : (file : List ℕ) (text_of : List ℕ → List ℕ) (Made : List ℕ → Program → Outcome → Type 0) (files : Names) (input : List ℕ) (one other : Outcome) → ((program : Program) → Made input program one → Made input program other → one ≡ other) → OfTextFile file text_of Made files input one → OfTextFile file text_of Made files input other → one ≡ other
one_of_file file text_of Made files input one other only (bytes, is, so) (bytes', is', so') =
    let e : Some bytes' ≡ Some bytes = sym is' ∙ is in
    let same : bytes' ≡ bytes = cc in
    one_of_text (Made input) (text_of bytes) one other only so (subst (λ (b : List ℕ). OfText (Made input) (text_of b) other) same so')

one_of_image : (file : List ℕ) (Made : Carried → List ℕ → Outcome → Type 0) (files : Names) (input : List ℕ) (one other : Outcome) → ((carried : Carried) → Made carried input one → Made carried input other → one ≡ other) → OfImage file Made files input one → OfImage file Made files input other → one ≡ other
one_of_image file Made files input one other only (bytes, is, so) (bytes', is', so') =
    let e : Some bytes' ≡ Some bytes = sym is' ∙ is in
    let same : bytes' ≡ bytes = cc in
    by (carried_by bytes) so (subst (λ (b : List ℕ). OfRead Made (carried_by b) input other) same so')
  where
    by : (said : Result Carried ImageRefusal) → OfRead Made said input one → OfRead Made said input other → one ≡ other
    by (Ok carried) so also = only carried so also
    by (Err refusal) so also = so ∙ sym also

one_execution : (limits : Limits) (input : List ℕ) (one other : Outcome) (carried : Carried) → Executes limits carried input one → Executes limits carried input other → one ≡ other
one_execution limits input one other carried is also = is.comes ∙ ap (runs_or_refuses limits input) (one_admitted carried is.admitted also.admitted is.admits also.admits) ∙ sym also.comes

one_script : (file : List ℕ) (limits : Limits) (files : Names) (one other : Outcome) → OfScriptFile file limits files one → OfScriptFile file limits files other → one ≡ other
one_script file limits files one other (text, is, so) (text', is', so') = so ∙ ap (script_outcome limits) (same_text files file text text' is is') ∙ sym so'

pub one_compiled : (to input : List ℕ) (one other : Outcome) (program : Program) → Compiles to input program one → Compiles to input program other → one ≡ other
one_compiled to input one other program is also =
    is.comes ∙ ap (λ (image : Parts). stores to (spelling Two image)) (one_image program is.image also.image is.compiled also.compiled) ∙ sym also.comes

one_reported : (input : List ℕ) (one other : Outcome) (program : Program) → ReportsOn input program one → ReportsOn input program other → one ≡ other
one_reported input one other program is also =
    is.comes ∙ ap (λ (all : List Entry). reports (report_text all)) (one_report (region_of_program program) is.entries also.entries is.report also.report) ∙ sym also.comes

one_soaked : (n : ℕ) (one other : Outcome) (program : Program) → Soaks n program one → Soaks n program other → one ≡ other
one_soaked n one other program is also =
    let sums = λ (all : List Entry) (end : End). reports_leaving (summary_text (record { number = n; functions = length program.functions; checks = length all; removed = removed_count all; end = end })) (as_left program [] usual_limits) in
    is.comes
    ∙ ap (λ (all : List Entry). sums all is.end) (one_report (region_of_program program) is.entries also.entries is.report also.report)
    ∙ ap (λ (end : End). sums also.entries end) (same_end program [] usual_limits is.end also.end is.ends also.ends)
    ∙ sym also.comes

one_of_tasks : (file choices : List ℕ) (limits : Limits) (files : Names) (input : List ℕ) (one other : Outcome) → OfTasksFile file choices limits files input one → OfTasksFile file choices limits files input other → one ≡ other
one_of_tasks file choices limits files input one other (text, is, so) (text', is', so') =
    let whole = task_text_of text choices in
    one_of_text (RunsTasks limits choices whole input) whole one other (one_by_tasks limits choices whole input one other) so
    (subst (λ (t : List ℕ). OfText (RunsTasks limits choices (task_text_of t choices) input) (task_text_of t choices) other) (same_text files file text' text is' is) so')

pub one_outcome : (request : Option Request) (files : Names) (input : List ℕ) (one other : Outcome) → IsOutcome request files input one → IsOutcome request files input other → one ≡ other
one_outcome None files input one other is also = is ∙ sym also
one_outcome (Some (Run file limits)) files input one other is also = one_of_file file as_they_are (Runs as_left limits) files input one other (one_run as_left limits input one other) is also
one_outcome (Some (Slow file limits)) files input one other is also = one_of_file file as_they_are (Runs unsaid limits) files input one other (one_run unsaid limits input one other) is also
one_outcome (Some (Compile from to)) files input one other is also = one_of_file from as_they_are (Compiles to) files input one other (one_compiled to input one other) is also
one_outcome (Some (Exec file limits)) files input one other is also = one_of_image file (Executes limits) files input one other (one_execution limits input one other) is also
one_outcome (Some (Listing file)) files input one other is also = one_of_image file Lists files input one other (λ carried a b. a ∙ sym b) is also
one_outcome (Some (Upgrade from to)) files input one other is also = one_of_image from (Upgrades to) files input one other (λ carried a b. a ∙ sym b) is also
one_outcome (Some (Script file limits)) files input one other is also = one_script file limits files one other is also
one_outcome (Some (Checks file)) files input one other is also = one_of_file file as_they_are ReportsOn files input one other (one_reported input one other) is also
one_outcome (Some (Soak n)) files input one other is also = one_of_text (Soaks n) (generated n) one other (one_soaked n one other) is also
one_outcome (Some (Tasks file choices limits)) files input one other is also = one_of_tasks file choices limits files input one other is also
one_outcome (Some (Link to wanted)) files input one other is also = one_of_files wanted (Compiles to) files input one other (one_compiled to input one other) is also
one_outcome (Some (Seal from to)) files input one other is also = one_of_image from (Seals to) files input one other (λ carried a b. one_sealing to carried input one other a b) is also

pub accepted_never : (text : List ℕ) (program : Program) (input : List ℕ) (limits : Limits) → Accepted text program → NeverTouchesDeleted program input limits
accepted_never text program input limits accepted = never_touches_deleted program input limits (accepted_in_place text program accepted)
