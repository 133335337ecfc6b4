-- The fourth way in which a request ends: it writes a report, over the heap or not.
use Rattle.std.proofs.Common.{◌≡◌, ◌≢◌, ◌⊎◌, ◌∙◌, ℕ, zero, suc, false, List, [], ◌∷◌, ◌++◌, take, drop, Option, Result, Ok, Err, OnOk, refl, sym, ap, subst, arith, inl, inr, append-nil}
use Rattle.rc_base.specs.Acts.{IsWriteNext, Write, getchars, output}
use Rattle.rc_base.specs.Shelves.{Names, ShelfState}
use Rattle.rc_base.specs.Sinks.{SinkState, Took}
use Rattle.rc_base.specs.Sources.{SourceState}
use Rattle.rc_answers.specs.Answers.{MayFailOut, WritesOut}
use Rattle.rc_outcomes.specs.Footprint.{Alone, footprint}
use Rattle.rc_outcomes.specs.Outcome.{AnyHeap, Follows, HeapLeft, IsLeft, Outcome, Performed, StoppedShort, reports_leaving, writes}
use Rattle.rc_outcomes.specs.Outside.{Outside, outside}
use Rattle.rc_outcomes.specs.Performing.{Performs}
use Rattle.rc_outcomes.specs.Reporting.{CutReport, WritesReport, WroteReport, MadeReport, at_byte, at_flush, no_memory, nothing, reported}
use Rattle.rc_requests.specs.Request.{Request}
use Rattle.rc_answers.specs.declared.answer.Done.{Done}
use Rattle.rc_answers.specs.declared.answer.Fault.{Fault}
use Rattle.rc_answers.specs.declared.answer.Fault.TheVariants.{ErrFault, FileFault, Memory, ReadFault, WriteFault}
use Rattle.rc_outcomes.proofs.Ways.{HasRead, is_not, same_fault, stopped_before}
use Rattle.rc_store.specs.Kept.{KeptStore}

output_is : (bytes : List ℕ) → output (writes bytes) ≡ bytes
output_is [] = refl
output_is (byte ∷ bytes) = ap (λ rest. byte ∷ rest) (output_is bytes)

takes_nothing : (bytes : List ℕ) → getchars (writes bytes) ≡ 0
takes_nothing [] = refl
takes_nothing (byte ∷ bytes) = takes_nothing bytes

split_at : (n : ℕ) (bytes : List ℕ) → writes bytes ≡ writes (take n bytes) ++ writes (drop n bytes)
split_at zero bytes = refl
split_at (suc n) [] = refl
split_at (suc n) (byte ∷ bytes) = ap (λ acts. Write byte ∷ acts) (split_at n bytes)

next_or_end : (bytes : List ℕ) → IsWriteNext (writes bytes) ⊎ (writes bytes ≡ [])
next_or_end [] = inr refl
next_or_end (byte ∷ bytes) = inl tt

performed_writes : (bytes : List ℕ) (input : SourceState) (out out' : SinkState) → Took bytes out out' → Performed (writes bytes) input input out out'
performed_writes bytes input out out' took = record {
  wrote = subst (λ (written : List ℕ). Took written out out') (sym (output_is bytes)) took;
  gave = λ tells. ap (λ n. drop n input.rest) (sym (takes_nothing bytes));
}

cut_short : (report : List ℕ) (input : SourceState) (out out' : SinkState) (fault : Fault) → CutReport report out out' fault → StoppedShort (writes report) fault input input out out'
cut_short report input out out' fault (at_byte n took unflushed) = record {
  before = writes (take n report);
  left = writes (drop n report);
  split = split_at n report;
  performed = performed_writes (take n report) input out out' took;
  at_file = λ e. cc;
  at_read = λ e. cc;
  at_write = λ e. next_or_end (drop n report);
  at_error = λ e. cc;
  unflushed = λ e next tells. unflushed tells;
  flushed_at_read = λ e. cc;
  flushed_at_memory = λ e. cc;
}
cut_short report input out out' fault (at_flush took) = record {
  before = writes report;
  left = [];
  split = sym (append-nil (writes report));
  performed = performed_writes report input out out' took;
  at_file = λ e. cc;
  at_read = λ e. cc;
  at_write = λ e. inr refl;
  at_error = λ e. cc;
  unflushed = λ e next. absurd next;
  flushed_at_read = λ e. cc;
  flushed_at_memory = λ e. cc;
}
cut_short report input out out' fault (no_memory n took flushed) = record {
  before = writes (take n report);
  left = writes (drop n report);
  split = split_at n report;
  performed = performed_writes (take n report) input out out' took;
  at_file = λ e. cc;
  at_read = λ e. cc;
  at_write = λ e. cc;
  at_error = λ e. cc;
  unflushed = λ e. cc;
  flushed_at_read = λ e. cc;
  flushed_at_memory = λ e some none. flushed none;
}
cut_short report input out out' fault (nothing same) = stopped_before (writes report) Memory input input out out' (record { input_same = refl; out_same = same }) (inr refl)

-- a report is cut short by the output or for want of memory alone
cut_by : (report : List ℕ) (out out' : SinkState) (fault : Fault) → CutReport report out out' fault → (fault ≡ WriteFault) ⊎ (fault ≡ Memory)
cut_by report out out' fault (at_byte n took unflushed) = inl refl
cut_by report out out' fault (at_flush took) = inl refl
cut_by report out out' fault (no_memory n took flushed) = inr refl
cut_by report out out' fault (nothing same) = inr refl

no_other : (fault other : Fault) → (fault ≡ WriteFault) ⊎ (fault ≡ Memory) → other ≢ WriteFault → other ≢ Memory → fault ≡ other → ⊥
no_other fault other (inl e) a b is = a (sym is ∙ e)
no_other fault other (inr e) a b is = b (sym is ∙ e)

may_fail : (fault : Fault) → (fault ≡ WriteFault) ⊎ (fault ≡ Memory) → MayFailOut (Err fault)
may_fail fault (inl e) = subst (λ (f : Fault). MayFailOut (Err f)) (sym e) tt
may_fail fault (inr e) = subst (λ (f : Fault). MayFailOut (Err f)) (sym e) tt

-- nothing is said of the heap
pub nothing_said : {T : Type 0} (result : Result T Fault) (heap : KeptStore) → OnOk result (IsLeft AnyHeap heap)
nothing_said (Ok value) heap = tt
nothing_said (Err fault) heap = tt

module _ (request : Option Request) (before : Outside) (files' : ShelfState) (out' : SinkState) (heap' : KeptStore) (report : List ℕ) (left : HeapLeft) (has : HasRead request before files') (is : WritesReport request before report left)
    (spares : (footprint request).uses_heap ≡ false → heap' ≡ before.heap) where
  abbrev pub behind : Outside
  behind = outside files' before.input out' before.err heap'

  alone : Alone (footprint request) before behind
  alone = record {
    others = λ tells name none. ap (λ (names : Names). names name) (has.only_reads.names tells);
    names = λ none tells. has.only_reads.names tells;
    files = has.only_reads.unused;
    input = λ e. refl;
    out = λ e. absurd (is_not (footprint request).writes_out is.writes_out e);
    heap = spares;
  }

  pub writes_report : (result : Result (Unit {0}) Fault) → WroteReport report before.out out' result → OnOk result (IsLeft left heap') → Performs request before behind (reported result)
  writes_report (Ok value) wrote leaves = record {
    follows = λ outcome comes. subst (λ (o : Outcome). Follows o before behind (reported (Ok value))) (sym (is.only outcome comes)) (refl, performed_writes report before.input before.out out' wrote.wrote, tt, leaves);
    settled = λ told. record { outcome = reports_leaving report left; is = is.outcome told; quiet = λ q. absurd q };
    missing = λ none. absurd (has.there none);
    may_answer = is.may_report;
    alone = alone;
    stored = λ told other. has.only_reads.names told;
    compiled = λ told wrote. cc;
    quiet = λ q. absurd q;
    spared = λ q. absurd q;
    flushed = λ w. wrote.flushed;
    tells = record { files = has.only_reads.tells; input = refl; out = wrote.tells; err = refl };
    no_count_falls = record { files = has.only_reads.never_falls; input = omega arith; out = wrote.never_falls; err = omega arith };
    counts_stay = record { files = λ other. has.kept; input = λ other. refl; out = λ other. wrote.kept refl; err = λ ok. refl };
    file_fault = λ e. cc;
    read_fault = λ e. cc;
    write_fault = λ e. cc;
    no_error = λ e. cc;
    usage = λ none. absurd (has.only_reads.asks none);
  }
  writes_report (Err fault) wrote leaves = record {
    follows = λ outcome comes. subst (λ (o : Outcome). Follows o before behind (reported (Err fault))) (sym (is.only outcome comes)) (cut_short report before.input before.out out' fault wrote.cut);
    settled = λ told. tt;
    missing = λ none. absurd (has.there none);
    may_answer = tt;
    alone = alone;
    stored = λ told other. has.only_reads.names told;
    compiled = λ told wrote. cc;
    quiet = tt;
    spared = tt;
    flushed = tt;
    tells = record { files = has.only_reads.tells; input = refl; out = wrote.tells; err = refl };
    no_count_falls = record { files = has.only_reads.never_falls; input = omega arith; out = wrote.never_falls; err = omega arith };
    counts_stay = record { files = λ other. has.kept; input = λ other. refl; out = λ other. absurd (other (may_fail fault which)); err = λ ok. refl };
    file_fault = λ e. absurd (no_other fault FileFault which (λ x. cc) (λ x. cc) (same_fault fault FileFault e));
    read_fault = λ e. absurd (no_other fault ReadFault which (λ x. cc) (λ x. cc) (same_fault fault ReadFault e));
    write_fault = λ e. record { writes = is.writes_out; rose = wrote.rose (ap Err (same_fault fault WriteFault e)); writing = λ outcome comes. subst (λ (o : Outcome). WritesOut o.done) (sym (is.only outcome comes)) tt };
    no_error = λ e. no_other fault ErrFault which (λ x. cc) (λ x. cc) (same_fault fault ErrFault e);
    usage = λ none. absurd (has.only_reads.asks none);
  } where
    which : (fault ≡ WriteFault) ⊎ (fault ≡ Memory)
    which = cut_by report before.out out' fault wrote.cut

  pub made_report : (result : Result Done Fault) → MadeReport report before.out out' result → OnOk result (IsLeft left heap') → Performs request before behind result
  made_report (Ok done) made leaves = subst (λ (d : Done). Performs request before behind (Ok d)) (sym made.reported)
      (writes_report (Ok tt) (record { tells = made.wrote.tells; wrote = made.wrote.wrote; flushed = made.wrote.flushed; cut = tt; never_falls = made.wrote.never_falls; kept = λ ok. made.wrote.kept refl; rose = λ is. cc }) leaves)
  made_report (Err fault) made leaves =
      writes_report (Err fault) (record { tells = made.wrote.tells; wrote = tt; flushed = tt; cut = made.wrote.cut; never_falls = made.wrote.never_falls; kept = λ ok. cc; rose = λ is. made.wrote.rose (ap Err (same_fault fault WriteFault is)) }) tt
