-- What the error stream was told.
use Rattle.std.proofs.Common.{◌≡◌, ◌≢◌, ◌∙◌, ℕ, List, [], Result, Ok, Err, OnOk, OnErr, IsErrOf, refl, sym, subst, append-nil}
use Rattle.rc_base.specs.Causes.{HasCause}
use Rattle.rc_base.specs.Sinks.{Flushes, IsFlushed, SinkState, Took, TookFront, Writes}
use Rattle.rc_base.specs.declared.outside.Failed.{Failed}
use Rattle.rc_base.proofs.ActLaws.{took_all, took_nothing, took_then}
use Rattle.rc_answers.specs.Lines.{answer_line, done_line, fault_line}
use Rattle.rc_answers.specs.Telling.{Tells}
use Rattle.rc_answers.specs.declared.answer.Done.{Done}
use Rattle.rc_answers.specs.declared.answer.Fault.{Fault}
use Rattle.rc_answers.specs.declared.answer.Fault.TheVariants.{FileFault, ReadFault, WriteFault, ErrFault, Memory}

-- the facts of a line that was written and flushed, or of a front of it
pub record Told (line : List ℕ) (err err' : SinkState) (result : Result (Unit {0}) Failed) : Type 0 where
  pub ok : OnOk result (Took line err err')
  pub flushed : OnOk result (IsFlushed err')
  pub failed : OnErr result (TookFront line err err')
  pub cause : HasCause err.faults err'.faults result

-- a flush behind a line
pub flushed_front : (line : List ℕ) (a b c : SinkState) (value : Unit {0}) (result : Result (Unit {0}) Failed) → Writes line a b (Ok value) → Flushes b c result → OnErr result (TookFront line a c)
flushed_front line a b c value (Ok u) w f = tt
flushed_front line a b c value (Err e) w f = took_all line a c (subst (λ (bytes : List ℕ). Took bytes a c) (append-nil line) (took_then line [] a b c w.tells w.ok f.same))

pub told_silent : (answer : Result Done Fault) (err : SinkState) → ¬ IsErrOf answer ErrFault → answer_line answer ≡ [] → Tells answer err err answer
told_silent (Ok done) err no_error none = (
  refl,
  record {
    whole = subst (λ (bytes : List ℕ). Took bytes err err) (sym none) (took_nothing err);
    flushed = λ line. absurd (line none);
    silent = λ e. refl;
    count = refl;
  },
)
told_silent (Err FileFault) err no_error none = cc
told_silent (Err ReadFault) err no_error none = cc
told_silent (Err WriteFault) err no_error none = cc
told_silent (Err ErrFault) err no_error none = absurd (no_error refl)
told_silent (Err Memory) err no_error none = cc

pub told_done : (done : Done) (err err' : SinkState) (line : List ℕ) (value : Unit {0}) → line ≡ done_line done → line ≢ [] → Told line err err' (Ok value) → Tells (Ok done) err err' (Ok done)
told_done done err err' line value is some told = (
  refl,
  record {
    whole = subst (λ (bytes : List ℕ). Took bytes err err') is told.ok;
    flushed = λ e. told.flushed;
    silent = λ none. absurd (some (is ∙ none));
    count = told.cause.kept refl;
  },
)

pub untold : (done : Done) (err err' : SinkState) (line : List ℕ) (e : Failed) → line ≡ done_line done → line ≢ [] → Told line err err' (Err e) → Tells (Ok done) err err' (Err ErrFault)
untold done err err' line e is some told = (
  refl,
  record {
    front = subst (λ (bytes : List ℕ). TookFront bytes err err') is told.failed;
    has_line = λ none. some (is ∙ none);
    rose = told.cause.failed refl;
    later = told.cause.never_falls;
  },
)

pub told_fault : (fault : Fault) (err err' : SinkState) (line : List ℕ) (result : Result (Unit {0}) Failed) → line ≡ fault_line fault → Told line err err' result → Tells (Err fault) err err' (Err fault)
told_fault fault err err' line (Ok value) is told = (
  refl,
  record {
    front = took_all (fault_line fault) err err' (subst (λ (bytes : List ℕ). Took bytes err err') is told.ok);
    whole = λ e. subst (λ (bytes : List ℕ). Took bytes err err') is told.ok;
    flushed = λ e. told.flushed;
    later = told.cause.never_falls;
  },
)
told_fault fault err err' line (Err e) is told = (
  refl,
  record {
    front = subst (λ (bytes : List ℕ). TookFront bytes err err') is told.failed;
    whole = λ no_rise. absurd (no_rise (told.cause.failed refl));
    flushed = λ no_rise. absurd (no_rise (told.cause.failed refl));
    later = told.cause.never_falls;
  },
)
