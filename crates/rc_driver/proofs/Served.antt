-- What was performed and how it was told make up all that the top call promises.
use Rattle.std.proofs.Common.{◌≡◌, ◌≢◌, ◌⊎◌, [], Option, Some, None, Result, Ok, Err, refl, sym, ap, subst, inl, inr, arith, append-nil}
use Rattle.rc_base.specs.Causes.{Rose}
use Rattle.rc_base.specs.Shelves.{ShelfState}
use Rattle.rc_base.specs.Sinks.{SinkState, TookFront}
use Rattle.rc_base.specs.Sources.{SourceState}
use Rattle.rc_store.specs.Kept.{KeptStore}
use Rattle.rc_base.proofs.ActLaws.{took_all}
use Rattle.rc_answers.specs.Answers.{HasLine, IsQuiet, MayStore}
use Rattle.rc_outcomes.specs.Footprint.{IsMissing, footprint}
use Rattle.rc_driver.specs.Headline.{Heard, Serves}
use Rattle.rc_answers.specs.Lines.{done_line}
use Rattle.rc_outcomes.specs.Outcome.{Comes, IsOutcome, Outcome, Performed, StoppedShort}
use Rattle.rc_outcomes.specs.Outside.{NoneRose, Outside, outside}
use Rattle.rc_outcomes.specs.Performing.{Performs}
use Rattle.rc_requests.specs.Request.{Request, Run, Slow, Compile, Exec, Listing, Upgrade, Script, Checks, Soak, Tasks, Link, Seal}
use Rattle.rc_answers.specs.Telling.{Tells, ToldDone, ToldFault, Untold}
use Rattle.rc_answers.specs.declared.answer.Done.{Done}
use Rattle.rc_answers.specs.declared.answer.Done.TheVariants.{Ended, StaleImage, Refused, ImageRefused, UnitRefused, LinkRefused, Wrote, Reported, Usage}
use Rattle.rc_answers.specs.declared.answer.Fault.{Fault}
use Rattle.rc_answers.specs.declared.answer.Fault.TheVariants.{FileFault, ReadFault, WriteFault, ErrFault, Memory}
use Rattle.rc_outcomes.proofs.Linked.{there_of_all}
use Rattle.rc_outcomes.proofs.Ways.{the_only, there_is}

-- an answer that stays the usage
usage_is : (done : Done) → ◌≡◌ {A = Result Done Fault} (Ok done) (Ok Usage) → done ≡ Usage
usage_is done is = cc

-- what was done is told
told_done : (request : Option Request) (before : Outside) (files' : ShelfState) (input' : SourceState) (out' err' : SinkState) (heap' : KeptStore) (done : Done) → Performs request before (outside files' input' out' before.err heap') (Ok done) → err'.tells ≡ before.err.tells → ToldDone done before.err err' → Serves request before (outside files' input' out' err' heap') (Ok done)
told_done request before files' input' out' err' heap' done p tells told = record {
  follows = p.follows;
  settled = p.settled;
  complete = λ none outcome comes. inl (ap Ok (p.follows outcome comes).0);
  only_memory = λ none here. tt;
  missing = p.missing;
  may_answer = p.may_answer;
  alone = record { others = p.alone.others; names = p.alone.names; files = p.alone.files; input = p.alone.input; out = p.alone.out; heap = p.alone.heap };
  stored = p.stored;
  compiled = p.compiled;
  quiet = p.quiet;
  spared = p.spared;
  flushed = p.flushed;
  heard = told;
  usage = λ none no_rise. p.usage none;
  nothing_asked = λ none. (let is = usage_is done (p.usage none) in record {
    untouched = p.quiet (subst (λ (d : Done). IsQuiet d) (sym is) tt);
    line = subst (λ (d : Done). TookFront (done_line d) before.err err') is (took_all (done_line done) before.err err' told.whole);
    answer = inl (p.usage none);
  });
  tells = record { files = p.tells.files; input = p.tells.input; out = p.tells.out; err = tells };
  no_count_falls = record { files = p.no_count_falls.files; input = p.no_count_falls.input; out = p.no_count_falls.out; err = (let same = told.count in omega (arith, same)) };
  no_fault = λ ok. record { files = p.counts_stay.files (λ e. cc); input = p.counts_stay.input (λ e. cc); out = p.counts_stay.out (λ e. e); err = told.count };
  counts_stay = record { files = p.counts_stay.files; input = p.counts_stay.input; out = p.counts_stay.out; err = λ ok. told.count };
  file_fault = λ is. cc;
  read_fault = λ is. cc;
  write_fault = λ is. cc;
  error_fault = λ is. cc;
}

-- all acts, where the error stream failed behind them
all_acts : (outcome : Outcome) (input input' : SourceState) (out out' : SinkState) → Performed outcome.acts input input' out out' → StoppedShort outcome.acts ErrFault input input' out out'
all_acts outcome input input' out out' performed = record {
  before = outcome.acts;
  left = [];
  split = sym (append-nil outcome.acts);
  performed = performed;
  at_file = λ e. cc;
  at_read = λ e. cc;
  at_write = λ e. cc;
  at_error = λ e. refl;
  unflushed = λ e write. absurd write;
  flushed_at_read = λ e. cc;
  flushed_at_memory = λ e. cc;
}

-- an answer with a line says nothing of storing
unstored : (done : Done) → HasLine done → ¬ MayStore (Ok done)
unstored (Ended end) line may = may
unstored (StaleImage n) line may = may
unstored (Refused refusal) line may = may
unstored (ImageRefused refusal) line may = may
unstored (UnitRefused file refusal) line may = may
unstored (LinkRefused refusal) line may = may
unstored Wrote line may = line refl
unstored Reported line may = may
unstored Usage line may = may

-- the error stream fails in place of what was done
replaced : (request : Option Request) (before : Outside) (files' : ShelfState) (input' : SourceState) (out' err' : SinkState) (heap' : KeptStore) (done : Done) → Performs request before (outside files' input' out' before.err heap') (Ok done) → err'.tells ≡ before.err.tells → Untold done before.err err' → Serves request before (outside files' input' out' err' heap') (Err ErrFault)
replaced request before files' input' out' err' heap' done p tells untold = record {
  follows = λ outcome comes. all_acts outcome before.input input' before.out out' (p.follows outcome comes).1;
  settled = λ told. tt;
  complete = λ none outcome comes. absurd (none.err untold.rose);
  only_memory = λ none here. absurd (none.err untold.rose);
  missing = λ none. absurd (not_missing (p.missing none).3);
  may_answer = tt;
  alone = record { others = p.alone.others; names = p.alone.names; files = p.alone.files; input = p.alone.input; out = p.alone.out; heap = p.alone.heap };
  stored = λ told may. p.stored told (unstored done untold.has_line);
  compiled = λ told wrote. cc;
  quiet = tt;
  spared = tt;
  flushed = tt;
  heard = (
    done,
    record { may_answer = p.may_answer; untold = untold; is = λ outcome comes. (p.follows outcome comes).0; quiet = p.quiet; spared = p.spared; flushed = p.flushed },
  );
  usage = λ none no_rise. absurd (no_rise untold.rose);
  nothing_asked = λ none. (let is = usage_is done (p.usage none) in record {
    untouched = p.quiet (subst (λ (d : Done). IsQuiet d) (sym is) tt);
    line = subst (λ (d : Done). TookFront (done_line d) before.err err') is untold.front;
    answer = inr refl;
  });
  tells = record { files = p.tells.files; input = p.tells.input; out = p.tells.out; err = tells };
  no_count_falls = record { files = p.no_count_falls.files; input = p.no_count_falls.input; out = p.no_count_falls.out; err = untold.later };
  no_fault = λ ok. cc;
  counts_stay = record { files = λ other. p.counts_stay.files (λ e. cc); input = λ other. p.counts_stay.input (λ e. cc); out = λ other. p.counts_stay.out (λ e. e); err = λ ok. cc };
  file_fault = λ is. cc;
  read_fault = λ is. cc;
  write_fault = λ is. cc;
  error_fault = λ is. record { rose = untold.rose; has_line = λ outcome comes. subst (λ (d : Done). HasLine d) (p.follows outcome comes).0 untold.has_line };
} where
  not_missing : (◌≡◌ {A = Result Done Fault} (Ok done) (Err FileFault)) ⊎ (◌≡◌ {A = Result Done Fault} (Ok done) (Err Memory)) → ⊥
  not_missing (inl e) = cc
  not_missing (inr e) = cc

-- a name that a request reads is there, where the request comes to something
there : (request : Option Request) (before : Outside) (outcome : Outcome) → IsOutcome request before.files.names before.input.rest outcome → ¬ IsMissing (footprint request) before
there None before outcome is (name, read, lacks) = let low = read.1 in omega (arith, low)
there (Some (Run file limits)) before outcome is (name, read, lacks) = there_is before.files.names file name is.0 (the_only file name read) is.1 lacks.none
there (Some (Slow file limits)) before outcome is (name, read, lacks) = there_is before.files.names file name is.0 (the_only file name read) is.1 lacks.none
there (Some (Compile from to)) before outcome is (name, read, lacks) = there_is before.files.names from name is.0 (the_only from name read) is.1 lacks.none
there (Some (Exec file limits)) before outcome is (name, read, lacks) = there_is before.files.names file name is.0 (the_only file name read) is.1 lacks.none
there (Some (Listing file)) before outcome is (name, read, lacks) = there_is before.files.names file name is.0 (the_only file name read) is.1 lacks.none
there (Some (Upgrade from to)) before outcome is (name, read, lacks) = there_is before.files.names from name is.0 (the_only from name read) is.1 lacks.none
there (Some (Script file limits)) before outcome is (name, read, lacks) = there_is before.files.names file name is.0 (the_only file name read) is.1 lacks.none
there (Some (Checks file)) before outcome is (name, read, lacks) = there_is before.files.names file name is.0 (the_only file name read) is.1 lacks.none
there (Some (Soak n)) before outcome is (name, read, lacks) = let low = read.1 in omega (arith, low)
there (Some (Tasks file choices limits)) before outcome is (name, read, lacks) = there_is before.files.names file name is.0 (the_only file name read) is.1 lacks.none
there (Some (Link to wanted)) before outcome is (name, read, lacks) = there_of_all before.files.names wanted is.0 is.1 name read lacks.none
there (Some (Seal from to)) before outcome is (name, read, lacks) = there_is before.files.names from name is.0 (the_only from name read) is.1 lacks.none

only_memory_left : (request : Option Request) (before : Outside) (files' : ShelfState) (input' : SourceState) (out' err' : SinkState) (heap' : KeptStore) (fault : Fault) → Performs request before (outside files' input' out' before.err heap') (Err fault) → NoneRose before (outside files' input' out' err' heap') → ¬ IsMissing (footprint request) before → fault ≡ Memory
only_memory_left request before files' input' out' err' heap' FileFault p none here = absurd (no_file (p.file_fault refl).cause) where
  no_file : Rose before.files.faults files'.faults ⊎ IsMissing (footprint request) before → ⊥
  no_file (inl rose) = none.files rose
  no_file (inr missing) = here missing
only_memory_left request before files' input' out' err' heap' ReadFault p none here = absurd (none.input (p.read_fault refl).rose)
only_memory_left request before files' input' out' err' heap' WriteFault p none here = absurd (none.out (p.write_fault refl).rose)
only_memory_left request before files' input' out' err' heap' ErrFault p none here = absurd (p.no_error refl)
only_memory_left request before files' input' out' err' heap' Memory p none here = refl

heard_fault : (request : Option Request) (before : Outside) (files' : ShelfState) (input' : SourceState) (out' err' : SinkState) (heap' : KeptStore) (fault : Fault) → fault ≢ ErrFault → ToldFault fault before.err err' → Heard request before (outside files' input' out' err' heap') (Err fault)
heard_fault request before files' input' out' err' heap' FileFault other told = told
heard_fault request before files' input' out' err' heap' ReadFault other told = told
heard_fault request before files' input' out' err' heap' WriteFault other told = told
heard_fault request before files' input' out' err' heap' ErrFault other told = absurd (other refl)
heard_fault request before files' input' out' err' heap' Memory other told = told

-- a fault stays, whether it is told or not
told_fault : (request : Option Request) (before : Outside) (files' : ShelfState) (input' : SourceState) (out' err' : SinkState) (heap' : KeptStore) (fault : Fault) → Performs request before (outside files' input' out' before.err heap') (Err fault) → err'.tells ≡ before.err.tells → ToldFault fault before.err err' → Serves request before (outside files' input' out' err' heap') (Err fault)
told_fault request before files' input' out' err' heap' fault p tells told = record {
  follows = p.follows;
  settled = λ told. tt;
  complete = λ none outcome comes. inr (ap Err (only_memory_left request before files' input' out' err' heap' fault p none (there request before outcome comes.comes)));
  only_memory = λ none here. only_memory_left request before files' input' out' err' heap' fault p none here;
  missing = p.missing;
  may_answer = tt;
  alone = record { others = p.alone.others; names = p.alone.names; files = p.alone.files; input = p.alone.input; out = p.alone.out; heap = p.alone.heap };
  stored = p.stored;
  compiled = λ told wrote. cc;
  quiet = tt;
  spared = tt;
  flushed = tt;
  heard = heard_fault request before files' input' out' err' heap' fault (λ e. p.no_error (ap Err e)) told;
  usage = λ none. absurd (no_usage none);
  nothing_asked = λ none. absurd (no_usage none);
  tells = record { files = p.tells.files; input = p.tells.input; out = p.tells.out; err = tells };
  no_count_falls = record { files = p.no_count_falls.files; input = p.no_count_falls.input; out = p.no_count_falls.out; err = told.later };
  no_fault = λ ok. cc;
  counts_stay = record { files = p.counts_stay.files; input = p.counts_stay.input; out = p.counts_stay.out; err = λ ok. cc };
  file_fault = λ is. (let c = p.file_fault is in record { uses = c.uses; cause = c.cause });
  read_fault = λ is. (let c = p.read_fault is in record { takes = c.takes; rose = c.rose; in_run = c.in_run });
  write_fault = λ is. (let c = p.write_fault is in record { writes = c.writes; rose = c.rose; writing = c.writing });
  error_fault = λ is. absurd (p.no_error is);
} where
  no_usage : request ≡ None → ⊥
  no_usage none = let is = p.usage none in cc

-- all that the top call promises
pub serves : (request : Option Request) (before : Outside) (files' : ShelfState) (input' : SourceState) (out' err' : SinkState) (heap' : KeptStore) (answer result : Result Done Fault) → Performs request before (outside files' input' out' before.err heap') answer → err'.tells ≡ before.err.tells → Tells answer before.err err' result → Serves request before (outside files' input' out' err' heap') result
serves request before files' input' out' err' heap' (Ok done) (Ok done') p tells told = subst (λ (d : Done). Serves request before (outside files' input' out' err' heap') (Ok d)) (sym told.0) (told_done request before files' input' out' err' heap' done p tells told.1)
serves request before files' input' out' err' heap' (Ok done) (Err fault) p tells told = subst (λ (f : Fault). Serves request before (outside files' input' out' err' heap') (Err f)) (sym told.0) (replaced request before files' input' out' err' heap' done p tells told.1)
serves request before files' input' out' err' heap' (Err fault) (Ok done) p tells told = absurd told
serves request before files' input' out' err' heap' (Err fault) (Err fault') p tells told = subst (λ (f : Fault). Serves request before (outside files' input' out' err' heap') (Err f)) (sym told.0) (told_fault request before files' input' out' err' heap' fault p tells told.1)
