-- Requests that run the script of a file.
use Rattle.std.proofs.Common.{◌≡◌, ◌<◌, ◌≤◌, ◌∙◌, ℕ, true, false, List, Option, Result, Ok, Err, IsTrue, length, sym, ap, subst, arith, inl}
use Rattle.std.specs.Prelude.{nat_le, if◌then◌else◌}
use Rattle.rc_base.specs.Shelves.{ShelfState}
use Rattle.rc_base.specs.Sinks.{SinkState}
use Rattle.rc_base.specs.declared.ends.Limits.{Limits}
use Rattle.rc_compile.specs.declared.refusal.Refusal.TheVariants.{TooLong}
use Rattle.rc_replies.specs.Replies.{heap_store, heap_text}
use Rattle.rc_store.specs.Kept.{KeptStore}
use Rattle.rc_answers.specs.declared.answer.Done.{Done}
use Rattle.rc_answers.specs.declared.answer.Done.TheVariants.{Refused}
use Rattle.rc_answers.specs.declared.answer.Fault.{Fault}
use Rattle.rc_outcomes.specs.Footprint.{UsesFiles, footprint}
use Rattle.rc_outcomes.specs.Loading.{Loaded, NotLoaded}
use Rattle.rc_outcomes.specs.Outcome.{Comes, IsOutcome, Outcome, SameAs, answers, reports_leaving, script_outcome}
use Rattle.rc_outcomes.specs.Outside.{Outside, outside}
use Rattle.rc_outcomes.specs.Performing.{Performs}
use Rattle.rc_outcomes.proofs.Files as one_file
use Rattle.rc_outcomes.proofs.Reports.{made_report}
use Rattle.rc_outcomes.proofs.Ways.{is_not, is_refused, same_text, untouched}
use Rattle.rc_requests.specs.Request.{Request}
use Rattle.rc_files.specs.Texts.{IsTooLong}
use Rattle.rc_driver.specs.Scripting.{AnsweredScript, AnsweredText, ScriptOf, ran, too_long}

-- what a text comes to, by its length
fits_so : (limits : Limits) (text : List ℕ) → length text ≤ 1048576 → script_outcome limits text ≡ reports_leaving (heap_text text limits) (SameAs (heap_store text limits))
fits_so limits text fits = ap (λ b. if b then reports_leaving (heap_text text limits) (SameAs (heap_store text limits)) else answers (Refused TooLong)) (let e : nat_le (length text) 1048576 ≡ true = grind (arith, fits) in e)

long_so : (limits : Limits) (text : List ℕ) → 1048576 < length text → script_outcome limits text ≡ answers (Refused TooLong)
long_so limits text long = ap (λ b. if b then reports_leaving (heap_text text limits) (SameAs (heap_store text limits)) else answers (Refused TooLong)) (let e : nat_le (length text) 1048576 ≡ false = grind (arith, long) in e)

module _ (request : Option Request) (name : List ℕ) (limits : Limits) (row : ScriptOf request name limits) (before : Outside) (files' : ShelfState) where
  -- of what was loaded, this comes
  module _ (Holds : List ℕ → Type 0) (l : Loaded name before.files files' Holds) (outcome : Outcome) (says : (bytes : List ℕ) → Holds bytes → script_outcome limits bytes ≡ outcome) where
    is_outcome : (UsesFiles (footprint request) → IsTrue before.files.tells) → IsOutcome request before.files.names before.input.rest outcome
    is_outcome told = let file = l.holds (told (name, inl row.reads)) in row.is_outcome before.files.names before.input.rest outcome (file.0, file.1, sym (says file.0 file.2))

    the_outcome : (other : Outcome) → Comes request before other → other ≡ outcome
    the_outcome other comes =
        let file = l.holds (comes.told.files (name, inl row.reads)) in
        let found = row.outcome_is before.files.names before.input.rest other comes.comes in
        found.2 ∙ ap (script_outcome limits) (same_text before.files.names name found.0 file.0 found.1 file.1) ∙ says file.0 file.2

  refused_long : (Holds : List ℕ → Type 0) → Loaded name before.files files' Holds → ((bytes : List ℕ) → Holds bytes → 1048576 < length bytes) → Performs request before (outside files' before.input before.out before.err before.heap) (Ok (Refused TooLong))
  refused_long Holds l long =
      is_refused request before files' before.input before.out (Refused TooLong) (one_file.has_read request name row.reads before files' Holds l row.only) (untouched before.input before.out) tt row.may_refuse
      (is_outcome Holds l (answers (Refused TooLong)) (λ bytes h. long_so limits bytes (long bytes h))) (the_outcome Holds l (answers (Refused TooLong)) (λ bytes h. long_so limits bytes (long bytes h)))

  -- the file is longer than what is loaded
  pub is_too_long : Loaded name before.files files' IsTooLong → Performs request before (outside files' before.input before.out before.err before.heap) (Ok (Refused TooLong))
  is_too_long l = refused_long IsTooLong l (λ bytes long. long)

  pub not_loaded : (fault : Fault) → NotLoaded name before.files files' fault → Performs request before (outside files' before.input before.out before.err before.heap) (Err fault)
  not_loaded fault l = one_file.fails_to_load request name row.reads before files' fault l

  module _ (text : List ℕ) (l : Loaded name before.files files' (λ bytes. bytes ≡ text)) (out' : SinkState) (heap' : KeptStore) where
    was_run : length text ≤ 1048576 → (result : Result Done Fault) → AnsweredScript text limits before.out out' heap' result → Performs request before (outside files' before.input out' before.err heap') result
    was_run fits result s =
        made_report request before files' out' heap' (heap_text text limits) (SameAs (heap_store text limits)) (one_file.has_read request name row.reads before files' (λ bytes. bytes ≡ text) l row.only)
        (record { writes_out = row.writes_out; may_report = row.may_report; outcome = is_outcome (λ bytes. bytes ≡ text) l outcome says; only = the_outcome (λ bytes. bytes ≡ text) l outcome says })
        (λ e. absurd (is_not (footprint request).uses_heap row.uses_heap e)) result (record { wrote = s.wrote; reported = s.reported }) s.left
      where
        outcome : Outcome
        outcome = reports_leaving (heap_text text limits) (SameAs (heap_store text limits))

        says : (bytes : List ℕ) → bytes ≡ text → script_outcome limits bytes ≡ outcome
        says bytes is = ap (script_outcome limits) is ∙ fits_so limits text fits

    pub answered : (result : Result Done Fault) → AnsweredText text limits before.out out' before.heap heap' result → Performs request before (outside files' before.input out' before.err heap') result
    answered result (ran done fits s) = was_run fits result s
    answered result (too_long long out_same heap_same) =
        subst (λ (o : SinkState). Performs request before (outside files' before.input o before.err heap') (Ok (Refused TooLong))) (sym out_same)
        (subst (λ (h : KeptStore). Performs request before (outside files' before.input before.out before.err h) (Ok (Refused TooLong))) (sym heap_same)
        (refused_long (λ bytes. bytes ≡ text) l (λ bytes is. subst (λ (t : List ℕ). 1048576 < length t) (sym is) long)))
