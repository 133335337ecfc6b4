-- The ways in which a request ends, of any request: it fails before anything was done, refuses, or runs.
use Rattle.std.proofs.Common.{◌≡◌, ◌≢◌, ◌≤◌, ◌⊎◌, ◌∙◌, ℕ, zero, suc, Bool, true, false, List, [], ◌∷◌, Option, Some, None, Result, Ok, Err, IsErrOf, IsTrue, refl, sym, ap, subst, arith, inl, inr}
use Rattle.std.specs.Prelude.{Contains}
use Rattle.rc_base.specs.Acts.{Act}
use Rattle.rc_base.specs.Causes.{Rose}
use Rattle.rc_base.specs.Shelves.{Names, ShelfState}
use Rattle.rc_base.specs.Sinks.{SinkState, Took}
use Rattle.rc_base.specs.Sources.{SourceState}
use Rattle.rc_base.specs.declared.ends.End.{End}
use Rattle.rc_base.specs.declared.ends.RunFault.{RunFault}
use Rattle.rc_base.proofs.ActLaws.{took_nothing}
use Rattle.rc_core.specs.Runs.{Stop, Ends, Stale}
use Rattle.rc_store.specs.Kept.{KeptStore}
use Rattle.rc_answers.specs.Answers.{IsQuiet, IsRefusal, IsRun, MayFailOut, WritesOut}
use Rattle.rc_outcomes.specs.MayAnswer.{MayAnswer}
use Rattle.rc_outcomes.specs.Footprint.{Alone, IsMissing, UsesFiles, footprint, nothing}
use Rattle.rc_outcomes.specs.Outcome.{Comes, Follows, IsOutcome, IsStored, Outcome, Performed, StoppedShort, Untouched, answers}
use Rattle.rc_outcomes.specs.Outside.{NoCountFalls, Outside, TellsAsBefore, outside}
use Rattle.rc_outcomes.specs.Performing.{Performs}
use Rattle.rc_requests.specs.Request.{Request}
use Rattle.rc_outcomes.specs.Runs.{IsRunFault, Ran}
use Rattle.rc_answers.specs.declared.answer.Done.{Done}
use Rattle.rc_answers.specs.declared.answer.Done.TheVariants.{Ended, StaleImage, Refused, ImageRefused, UnitRefused, LinkRefused, Wrote, Reported, Usage}
use Rattle.rc_answers.specs.declared.answer.Fault.{Fault}
use Rattle.rc_answers.specs.declared.answer.Fault.TheVariants.{FileFault, ReadFault, WriteFault, ErrFault, Memory}

-- words that ask something, of which the files were asked only for names that the request reads
pub record OnlyReads (request : Option Request) (before : Outside) (files' : ShelfState) : Type 0 where
  pub asks : ¬ (request ≡ None)
  pub unused : ¬ UsesFiles (footprint request) → files' ≡ before.files
  pub tells : files'.tells ≡ before.files.tells
  pub names : IsTrue before.files.tells → files'.names ≡ before.files.names
  pub never_falls : before.files.faults ≤ files'.faults

-- and each of them is there
pub record HasRead (request : Option Request) (before : Outside) (files' : ShelfState) : Type 0 where
  pub only_reads : OnlyReads request before files'
  pub there : ¬ IsMissing (footprint request) before
  pub kept : files'.faults ≡ before.files.faults

no_use : UsesFiles nothing → ⊥
no_use (name, inl read) = let low = read.1 in omega (arith, low)
no_use (name, inr stored) = cc

-- words that ask nothing use no file
pub asks_some : (request : Option Request) → UsesFiles (footprint request) → request ≡ None → ⊥
asks_some request uses none = no_use (subst (λ (r : Option Request). UsesFiles (footprint r)) none uses)

-- of a request that uses no file nothing has to be read
pub reads_nothing : (request : Option Request) (before : Outside) → ¬ (request ≡ None) → ¬ UsesFiles (footprint request) → HasRead request before before.files
reads_nothing request before asks none = record {
  only_reads = record { asks = asks; unused = λ unused. refl; tells = refl; names = λ told. refl; never_falls = omega arith };
  there = λ missing. none (missing.0, inl missing.1);
  kept = refl;
}

pub alone_of : (request : Option Request) (before : Outside) (files' : ShelfState) (input' : SourceState) (out' : SinkState) → OnlyReads request before files' → ((footprint request).takes_input ≡ false → input' ≡ before.input) → ((footprint request).writes_out ≡ false → out' ≡ before.out) → Alone (footprint request) before (outside files' input' out' before.err before.heap)
alone_of request before files' input' out' reads takes writes = record {
  others = λ tells name none. ap (λ (names : Names). names name) (reads.names tells);
  names = λ none tells. reads.names tells;
  files = reads.unused;
  input = takes;
  out = writes;
  heap = λ e. refl;
}

pub untouched : (input : SourceState) (out : SinkState) → Untouched input input out out
untouched input out = record { input_same = refl; out_same = refl }

pub performed_nothing : (input input' : SourceState) (out out' : SinkState) → Untouched input input' out out' → Performed [] input input' out out'
performed_nothing input input' out out' same = record {
  wrote = subst (λ (o : SinkState). Took [] out o) (sym same.out_same) (took_nothing out);
  gave = λ tells. ap (λ (s : SourceState). s.rest) same.input_same;
}

input_count : (input input' : SourceState) (out out' : SinkState) → Untouched input input' out out' → input'.faults ≡ input.faults
input_count input input' out out' same = ap (λ (s : SourceState). s.faults) same.input_same

out_count : (input input' : SourceState) (out out' : SinkState) → Untouched input input' out out' → out'.faults ≡ out.faults
out_count input input' out out' same = ap (λ (o : SinkState). o.faults) same.out_same

tells_untouched : (request : Option Request) (before : Outside) (files' : ShelfState) (input' : SourceState) (out' : SinkState) → OnlyReads request before files' → Untouched before.input input' before.out out' → TellsAsBefore before (outside files' input' out' before.err before.heap)
tells_untouched request before files' input' out' reads same = record {
  files = reads.tells;
  input = ap (λ (s : SourceState). s.tells) same.input_same;
  out = ap (λ (o : SinkState). o.tells) same.out_same;
  err = refl;
}

counts_untouched : (request : Option Request) (before : Outside) (files' : ShelfState) (input' : SourceState) (out' : SinkState) → OnlyReads request before files' → Untouched before.input input' before.out out' → NoCountFalls before (outside files' input' out' before.err before.heap)
counts_untouched request before files' input' out' reads same = let input_same = input_count before.input input' before.out out' same in let out_same = out_count before.input input' before.out out' same in record {
  files = reads.never_falls;
  input = omega (arith, input_same);
  out = omega (arith, out_same);
  err = omega arith;
}

-- a front of no acts was done, for want of memory or of a file
pub stopped_before : (acts : List Act) (fault : Fault) (input input' : SourceState) (out out' : SinkState) → Untouched input input' out out' → (fault ≡ FileFault) ⊎ (fault ≡ Memory) → StoppedShort acts fault input input' out out'
stopped_before acts fault input input' out out' same which = record {
  before = [];
  left = acts;
  split = refl;
  performed = performed_nothing input input' out out' same;
  at_file = λ is. refl;
  at_read = λ is. absurd (neither ReadFault is (λ e. cc) (λ e. cc) which);
  at_write = λ is. absurd (neither WriteFault is (λ e. cc) (λ e. cc) which);
  at_error = λ is. absurd (neither ErrFault is (λ e. cc) (λ e. cc) which);
  unflushed = λ is next tells. ap (λ (o : SinkState). o.flushed) same.out_same;
  flushed_at_read = λ is. absurd (neither ReadFault is (λ e. cc) (λ e. cc) which);
  flushed_at_memory = λ is some. absurd (some refl);
} where
  neither : (other : Fault) → fault ≡ other → (other ≡ FileFault → ⊥) → (other ≡ Memory → ⊥) → (fault ≡ FileFault) ⊎ (fault ≡ Memory) → ⊥
  neither other is a b (inl e) = a (sym is ∙ e)
  neither other is a b (inr e) = b (sym is ∙ e)

-- why a request fails before anything was done: a file is not there or can't be read, or there is no memory
pub data FailsFirst (request : Option Request) (before : Outside) (files' : ShelfState) : Fault → Type 0 where
  no_file : UsesFiles (footprint request) → Rose before.files.faults files'.faults ⊎ IsMissing (footprint request) before → FailsFirst request before files' FileFault
  no_memory : files'.faults ≡ before.files.faults → FailsFirst request before files' Memory

one_of_two : (request : Option Request) (before : Outside) (files' : ShelfState) (fault : Fault) → FailsFirst request before files' fault → (fault ≡ FileFault) ⊎ (fault ≡ Memory)
one_of_two request before files' fault (no_file uses cause) = inl refl
one_of_two request before files' fault (no_memory kept) = inr refl

kept_first : (request : Option Request) (before : Outside) (files' : ShelfState) (fault : Fault) → FailsFirst request before files' fault → fault ≢ FileFault → files'.faults ≡ before.files.faults
kept_first request before files' fault (no_file uses cause) other = absurd (other refl)
kept_first request before files' fault (no_memory kept) other = kept

cause_first : (request : Option Request) (before : Outside) (files' : ShelfState) (fault : Fault) → FailsFirst request before files' fault → fault ≡ FileFault → Rose before.files.faults files'.faults ⊎ IsMissing (footprint request) before
cause_first request before files' fault (no_file uses cause) is = cause
cause_first request before files' fault (no_memory kept) is = cc

uses_first : (request : Option Request) (before : Outside) (files' : ShelfState) (fault : Fault) → FailsFirst request before files' fault → fault ≡ FileFault → UsesFiles (footprint request)
uses_first request before files' fault (no_file uses cause) is = uses
uses_first request before files' fault (no_memory kept) is = cc

pub same_fault : {T : Type 0} (fault other : Fault) → IsErrOf {T = T} (Err fault) other → fault ≡ other
same_fault fault other is = cc

pub same_run_fault : {T : Type 0} (fault other : RunFault) → IsErrOf {T = T} (Err fault) other → fault ≡ other
same_run_fault fault other is = cc

no_other : (fault other : Fault) → (fault ≡ FileFault) ⊎ (fault ≡ Memory) → other ≢ FileFault → other ≢ Memory → fault ≡ other → ⊥
no_other fault other (inl e) a b is = a (sym is ∙ e)
no_other fault other (inr e) a b is = b (sym is ∙ e)

told_so : (fault : Fault) → (fault ≡ FileFault) ⊎ (fault ≡ Memory) → (◌≡◌ {A = Result Done Fault} (Err fault) (Err FileFault)) ⊎ (◌≡◌ {A = Result Done Fault} (Err fault) (Err Memory))
told_so fault (inl e) = inl (ap Err e)
told_so fault (inr e) = inr (ap Err e)

-- the first way: it fails before anything was done
pub fails_before : (request : Option Request) (before : Outside) (files' : ShelfState) (input' : SourceState) (out' : SinkState) (fault : Fault) → OnlyReads request before files' → Untouched before.input input' before.out out' → FailsFirst request before files' fault → Performs request before (outside files' input' out' before.err before.heap) (Err fault)
fails_before request before files' input' out' fault reads same first = record {
  follows = λ outcome comes. stopped_before outcome.acts fault before.input input' before.out out' same which;
  settled = λ told. tt;
  missing = λ none. (same, reads.names none.2.tells, refl, told_so fault which);
  may_answer = tt;
  alone = alone_of request before files' input' out' reads (λ e. same.input_same) (λ e. same.out_same);
  stored = λ told may. reads.names told;
  compiled = λ told wrote. cc;
  quiet = tt;
  spared = tt;
  flushed = tt;
  tells = tells_untouched request before files' input' out' reads same;
  no_count_falls = counts_untouched request before files' input' out' reads same;
  counts_stay = record {
    files = λ other. kept_first request before files' fault first (λ e. other (ap Err e));
    input = λ other. input_count before.input input' before.out out' same;
    out = λ other. out_count before.input input' before.out out' same;
    err = λ ok. refl;
  };
  file_fault = λ is. record { uses = uses_first request before files' fault first (same_fault fault FileFault is); cause = cause_first request before files' fault first (same_fault fault FileFault is) };
  read_fault = λ is. absurd (no_other fault ReadFault which (λ e. cc) (λ e. cc) (same_fault fault ReadFault is));
  write_fault = λ is. absurd (no_other fault WriteFault which (λ e. cc) (λ e. cc) (same_fault fault WriteFault is));
  no_error = λ is. no_other fault ErrFault which (λ e. cc) (λ e. cc) (same_fault fault ErrFault is);
  usage = λ none. absurd (reads.asks none);
} where
  which : (fault ≡ FileFault) ⊎ (fault ≡ Memory)
  which = one_of_two request before files' fault first

-- a refusal is no answer behind which the output is flushed, and says nothing of storing
refusal_unwritten : (done : Done) → IsRefusal done → WritesOut done → ⊥
refusal_unwritten (Ended end) refuses writes = refuses
refusal_unwritten (StaleImage line) refuses writes = refuses
refusal_unwritten (Refused refusal) refuses writes = writes
refusal_unwritten (ImageRefused refusal) refuses writes = writes
refusal_unwritten (UnitRefused file refusal) refuses writes = writes
refusal_unwritten (LinkRefused refusal) refuses writes = writes
refusal_unwritten Wrote refuses writes = writes
refusal_unwritten Reported refuses writes = refuses
refusal_unwritten Usage refuses writes = writes

is_wrote : (done : Done) → ◌≡◌ {A = Result Done Fault} (Ok done) (Ok Wrote) → done ≡ Wrote
is_wrote done is = cc

refusal_unstored : (done : Done) → IsRefusal done → ◌≡◌ {A = Result Done Fault} (Ok done) (Ok Wrote) → ⊥
refusal_unstored done refuses is = subst IsRefusal (is_wrote done is) refuses

-- the second way: it is refused
pub is_refused : (request : Option Request) (before : Outside) (files' : ShelfState) (input' : SourceState) (out' : SinkState) (done : Done) → HasRead request before files' → Untouched before.input input' before.out out' → IsRefusal done → MayAnswer request done
    → ((UsesFiles (footprint request) → IsTrue before.files.tells) → IsOutcome request before.files.names before.input.rest (answers done))
    → ((outcome : Outcome) → Comes request before outcome → outcome ≡ answers done)
    → Performs request before (outside files' input' out' before.err before.heap) (Ok done)
is_refused request before files' input' out' done has same refuses may outcome only = record {
  follows = λ o comes. subst (λ (x : Outcome). Follows x before (outside files' input' out' before.err before.heap) (Ok done)) (sym (only o comes)) (refl, performed_nothing before.input input' before.out out' same, tt, tt);
  settled = λ told. record { outcome = answers done; is = outcome told; quiet = λ q. refl };
  missing = λ none. absurd (has.there none);
  may_answer = may;
  alone = alone_of request before files' input' out' has.only_reads (λ e. same.input_same) (λ e. same.out_same);
  stored = λ told other. has.only_reads.names told;
  compiled = λ told wrote. absurd (refusal_unstored done refuses wrote);
  quiet = λ q. same;
  spared = λ q. refl;
  flushed = λ writes. absurd (refusal_unwritten done refuses writes);
  tells = tells_untouched request before files' input' out' has.only_reads same;
  no_count_falls = counts_untouched request before files' input' out' has.only_reads same;
  counts_stay = record {
    files = λ other. has.kept;
    input = λ other. input_count before.input input' before.out out' same;
    out = λ other. out_count before.input input' before.out out' same;
    err = λ ok. refl;
  };
  file_fault = λ is. cc;
  read_fault = λ is. cc;
  write_fault = λ is. cc;
  no_error = λ is. cc;
  usage = λ none. absurd (has.only_reads.asks none);
}

-- a stop that is no touch of a deleted region is an end
pub an_end : (stop : Stop) → ((line : ℕ) → stop ≢ Stale line) → (end : End) × (stop ≡ Ends end)
an_end (Ends end) never = (end, refl)
an_end (Stale line) never = absurd (never line refl)

-- a request runs to this outcome on the rest of the input
pub record RunsTo (request : Option Request) (before : Outside) (Told : Type 0) (comes : List ℕ → Outcome) : Type 0 where
  pub takes : IsTrue (footprint request).takes_input
  pub writes : IsTrue (footprint request).writes_out
  pub is_run : (rest : List ℕ) → IsRun (comes rest).done
  pub stores_none : (rest : List ℕ) → (comes rest).stored ≡ None
  pub outcome : (UsesFiles (footprint request) → IsTrue before.files.tells) → IsOutcome request before.files.names before.input.rest (comes before.input.rest)
  pub only : (outcome : Outcome) → Comes request before outcome → outcome ≡ comes before.input.rest
  pub told : (outcome : Outcome) → Comes request before outcome → Told

pub is_not : (b : Bool) → IsTrue b → b ≡ false → ⊥
is_not true is none = cc
is_not false is none = cc

pub not_quiet : (done : Done) → IsRun done → IsQuiet done → ⊥
not_quiet (Ended end) run quiet = quiet
not_quiet (StaleImage line) run quiet = quiet
not_quiet (Refused refusal) run quiet = run
not_quiet (ImageRefused refusal) run quiet = run
not_quiet (UnitRefused file refusal) run quiet = run
not_quiet (LinkRefused refusal) run quiet = run
not_quiet Wrote run quiet = run
not_quiet Reported run quiet = run
not_quiet Usage run quiet = run

writes_out : (done : Done) → IsRun done → WritesOut done
writes_out (Ended end) run = tt
writes_out (StaleImage line) run = tt
writes_out (Refused refusal) run = run
writes_out (ImageRefused refusal) run = run
writes_out (UnitRefused file refusal) run = run
writes_out (LinkRefused refusal) run = run
writes_out Wrote run = run
writes_out Reported run = tt
writes_out Usage run = run

run_unstored : (done : Done) → IsRun done → ◌≡◌ {A = Result Done Fault} (Ok done) (Ok Wrote) → ⊥
run_unstored done run is = subst IsRun (is_wrote done is) run

not_in_run : (fault other : Fault) → IsRunFault fault → ¬ IsRunFault other → fault ≡ other → ⊥
not_in_run fault other is none same = none (subst IsRunFault same is)

memory_or : (fault : Fault) → IsRunFault fault → ¬ MayFailOut (Err fault) → ⊥
memory_or ReadFault is none = none tt
memory_or WriteFault is none = none tt
memory_or Memory is none = none tt
memory_or FileFault is none = is
memory_or ErrFault is none = is

-- the third way: it runs, to its end or not
module _ (request : Option Request) (before : Outside) (files' : ShelfState) (input' : SourceState) (out' : SinkState) (heap' : KeptStore) (Told : Type 0) (comes : List ℕ → Outcome) (has : HasRead request before files') (is : RunsTo request before Told comes)
    (spares : (footprint request).uses_heap ≡ false → heap' ≡ before.heap) where
  abbrev pub behind : Outside
  behind = outside files' input' out' before.err heap'

  alone_in_run : Alone (footprint request) before behind
  alone_in_run = record {
    others = λ tells name none. ap (λ (names : Names). names name) (has.only_reads.names tells);
    names = λ none tells. has.only_reads.names tells;
    files = has.only_reads.unused;
    input = λ e. absurd (is_not (footprint request).takes_input is.takes e);
    out = λ e. absurd (is_not (footprint request).writes_out is.writes e);
    heap = spares;
  }

  tells_in_run : (result : Result Done Fault) → Ran Told comes before.input input' before.out out' heap' result → TellsAsBefore before behind
  tells_in_run result ran = record { files = has.only_reads.tells; input = ran.input_tells; out = ran.out_tells; err = refl }

  counts_in_run : (result : Result Done Fault) → Ran Told comes before.input input' before.out out' heap' result → NoCountFalls before behind
  counts_in_run result ran = record { files = has.only_reads.never_falls; input = ran.input_later; out = ran.out_later; err = omega arith }

  pub runs_to_the_end : (done : Done) → MayAnswer request done → Ran Told comes before.input input' before.out out' heap' (Ok done) → Performs request before behind (Ok done)
  runs_to_the_end done may ran = record {
    follows = λ outcome c. (let tells = is.told outcome c in subst (λ (o : Outcome). Follows o before behind (Ok done)) (sym (is.only outcome c))
        (ran.done tells, ran.performed tells, subst (λ s. IsStored s files'.names) (sym (is.stores_none before.input.rest)) tt, ran.left tells));
    settled = λ told. record { outcome = comes before.input.rest; is = is.outcome told; quiet = λ q. absurd (not_quiet done ran.is_run q) };
    missing = λ none. absurd (has.there none);
    may_answer = may;
    alone = alone_in_run;
    stored = λ told other. has.only_reads.names told;
    compiled = λ told wrote. absurd (run_unstored done ran.is_run wrote);
    quiet = λ q. absurd (not_quiet done ran.is_run q);
    spared = λ q. absurd (not_quiet done ran.is_run q);
    flushed = λ writes. ran.flushed;
    tells = tells_in_run (Ok done) ran;
    no_count_falls = counts_in_run (Ok done) ran;
    counts_stay = record {
      files = λ other. has.kept;
      input = λ other. ran.input_kept (λ is. cc);
      out = λ other. ran.out_kept refl;
      err = λ ok. refl;
    };
    file_fault = λ is. cc;
    read_fault = λ is. cc;
    write_fault = λ is. cc;
    no_error = λ is. cc;
    usage = λ none. absurd (has.only_reads.asks none);
  }

  -- and it is cut short there
  pub runs_and_is_cut_short : (fault : Fault) → Ran Told comes before.input input' before.out out' heap' (Err fault) → Performs request before behind (Err fault)
  runs_and_is_cut_short fault ran = record {
    follows = λ outcome c. subst (λ (o : Outcome). StoppedShort o.acts fault before.input input' before.out out') (sym (is.only outcome c)) (ran.stopped (is.told outcome c));
    settled = λ told. tt;
    missing = λ none. absurd (has.there none);
    may_answer = tt;
    alone = alone_in_run;
    stored = λ told other. has.only_reads.names told;
    compiled = λ told wrote. cc;
    quiet = tt;
    spared = tt;
    flushed = tt;
    tells = tells_in_run (Err fault) ran;
    no_count_falls = counts_in_run (Err fault) ran;
    counts_stay = record {
      files = λ other. has.kept;
      input = λ other. ran.input_kept (λ e. other (ap Err (same_fault fault ReadFault e)));
      out = λ other. absurd (memory_or fault ran.fault other);
      err = λ ok. refl;
    };
    file_fault = λ e. absurd (not_in_run fault FileFault ran.fault (λ x. x) (same_fault fault FileFault e));
    read_fault = λ e. record { takes = is.takes; rose = ran.read (ap Err (same_fault fault ReadFault e)); in_run = λ outcome c. subst (λ (o : Outcome). IsRun o.done) (sym (is.only outcome c)) (is.is_run before.input.rest) };
    write_fault = λ e. record { writes = is.writes; rose = ran.write (ap Err (same_fault fault WriteFault e)); writing = λ outcome c. subst (λ (o : Outcome). WritesOut o.done) (sym (is.only outcome c)) (writes_out (comes before.input.rest).done (is.is_run before.input.rest)) };
    no_error = λ e. not_in_run fault ErrFault ran.fault (λ x. x) (same_fault fault ErrFault e);
    usage = λ none. absurd (has.only_reads.asks none);
  }

-- words that ask nothing
pub asks_usage : (before : Outside) → Performs None before before (Ok Usage)
asks_usage before = record {
  follows = λ outcome comes. let is : outcome ≡ answers Usage = comes.comes in subst (λ (o : Outcome). Follows o before before (Ok Usage)) (sym is) (refl, performed_nothing before.input before.input before.out before.out (untouched before.input before.out), tt, tt);
  settled = λ told. record { outcome = answers Usage; is = refl; quiet = λ q. refl };
  missing = λ none. absurd (no_use (none.0, inl none.1));
  may_answer = refl;
  alone = record { others = λ told name other. refl; names = λ none told. refl; files = λ none. refl; input = λ none. refl; out = λ none. refl; heap = λ none. refl };
  stored = λ told other. refl;
  compiled = λ told wrote. tt;
  quiet = λ q. untouched before.input before.out;
  spared = λ q. refl;
  flushed = λ writes. absurd writes;
  tells = record { files = refl; input = refl; out = refl; err = refl };
  no_count_falls = record { files = omega arith; input = omega arith; out = omega arith; err = omega arith };
  counts_stay = record { files = λ other. refl; input = λ other. refl; out = λ other. refl; err = λ ok. refl };
  file_fault = λ is. cc;
  read_fault = λ is. cc;
  write_fault = λ is. cc;
  no_error = λ is. cc;
  usage = λ none. refl;
}

-- ---- names

pub the_only : (name other : List ℕ) → Contains (name ∷ []) other → name ≡ other
the_only name other (zero, low, is) = is
the_only name other (suc k, low, is) = absurd (omega (arith, low))

-- one text stands under a name
pub same_text : (files : Names) (name text file : List ℕ) → files name ≡ Some text → files name ≡ Some file → text ≡ file
same_text files name text file a b = let e : Some text ≡ Some file = sym a ∙ b in cc

pub there_is : (files : Names) (name other file : List ℕ) → name ≡ other → files name ≡ Some file → files other ≡ None → ⊥
there_is files name other file same is none = let wrong : Some file ≡ None = sym is ∙ ap files same ∙ none in cc
