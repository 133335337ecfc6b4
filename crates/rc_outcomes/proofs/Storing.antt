-- Requests that store bytes.
use Rattle.std.proofs.Common.{◌≡◌, ◌⊎◌, ◌∙◌, ◌≤◌, ℕ, List, Option, Some, None, Result, Ok, Err, IsTrue, IsErrOf, refl, sym, ap, subst, arith, inl, inr}
use Rattle.rc_base.specs.Causes.{Rose}
use Rattle.rc_base.specs.Shelves.{Names, ShelfState, Stores as StoresUnder}
use Rattle.rc_base.specs.declared.outside.ShelfFault.{ShelfFault}
use Rattle.rc_base.specs.declared.outside.ShelfFault.TheVariants as shelf_fault
use Rattle.rc_answers.specs.Answers.{MayStore}
use Rattle.rc_answers.specs.declared.answer.Done.{Done}
use Rattle.rc_answers.specs.declared.answer.Done.TheVariants.{Wrote}
use Rattle.rc_answers.specs.declared.answer.Fault.{Fault}
use Rattle.rc_answers.specs.declared.answer.Fault.TheVariants.{FileFault, ReadFault, WriteFault, ErrFault, Memory}
use Rattle.rc_outcomes.specs.Footprint.{Alone, UsesFiles, footprint}
use Rattle.rc_outcomes.specs.Outcome.{Follows, Outcome, stores}
use Rattle.rc_outcomes.specs.Outside.{Outside, outside}
use Rattle.rc_outcomes.specs.Performing.{Performs}
use Rattle.rc_outcomes.specs.Storing.{MadeFile, StoresBytes, failed, no_bytes, no_memory, stored}
use Rattle.rc_requests.specs.Request.{Request}
use Rattle.rc_outcomes.proofs.Ways.{HasRead, fails_before, no_memory as fails_by_memory, performed_nothing, same_fault, stopped_before, untouched}

-- The fifth way in which a request ends: behind what it read, it stores bytes under a name.
module _ (request : Option Request) (before : Outside) (files1 files' : ShelfState) (to bytes : List ℕ) (has : HasRead request before files1) (row : StoresBytes request before to bytes) where
  abbrev pub now : Outside
  now = outside files' before.input before.out before.err before.heap

  uses : UsesFiles (footprint request)
  uses = (to, inr row.stores_to)

  tells_still : IsTrue before.files.tells → IsTrue files1.tells
  tells_still t = has.only_reads.tells ∙ t

  alone : {T : Type 0} (result : Result T ShelfFault) → StoresUnder to bytes files1 files' result → Alone (footprint request) before now
  alone result s = record {
    others = λ t name other. s.others (tells_still t) name (λ e. other (row.stores_to ∙ ap Some (sym e))) ∙ ap (λ (names : Names). names name) (has.only_reads.names t);
    names = λ none t. absurd (some_none (sym row.stores_to ∙ none));
    files = λ none. absurd (none uses);
    input = λ e. refl;
    out = λ e. refl;
    heap = λ e. refl;
  } where
    some_none : Some to ≡ None → ⊥
    some_none e = cc

  counts : {T : Type 0} (result : Result T ShelfFault) → StoresUnder to bytes files1 files' result → before.files.faults ≤ files'.faults
  counts result s = let same = has.kept in let later = s.cause.never_falls in omega (arith, same, later)

  pub was_stored : (value : Unit {0}) → StoresUnder to bytes files1 files' (Ok value) → Performs request before now (Ok Wrote)
  was_stored value s = record {
    follows = λ outcome comes. subst (λ (o : Outcome). Follows o before now (Ok Wrote)) (sym (row.only outcome comes))
        (refl, performed_nothing before.input before.input before.out before.out (untouched before.input before.out), s.stored (tells_still (comes.told.files uses)), tt);
    settled = λ told. record { outcome = stores to bytes; is = row.outcome told; quiet = λ q. refl };
    missing = λ none. absurd (has.there none);
    may_answer = row.may_write;
    alone = alone (Ok value) s;
    stored = λ told may. absurd (may tt);
    compiled = λ told wrote. row.compiled told files'.names (s.stored (tells_still told));
    quiet = λ q. untouched before.input before.out;
    spared = λ q. refl;
    flushed = λ w. absurd w;
    tells = record { files = s.tells ∙ has.only_reads.tells; input = refl; out = refl; err = refl };
    no_count_falls = record { files = counts (Ok value) s; input = omega arith; out = omega arith; err = omega arith };
    counts_stay = record { files = λ other. s.cause.kept refl ∙ has.kept; input = λ other. refl; out = λ other. refl; err = λ ok. refl };
    file_fault = λ e. cc;
    read_fault = λ e. cc;
    write_fault = λ e. cc;
    no_error = λ e. cc;
    usage = λ none. absurd (has.only_reads.asks none);
  }

  -- or the shelf fails at the store
  pub was_not_stored : {T : Type 0} (error : ShelfFault) (fault : Fault) → StoresUnder {T = T} to bytes files1 files' (Err error) → (which : (fault ≡ FileFault) ⊎ (fault ≡ Memory)) → (fault ≡ FileFault → Rose before.files.faults files'.faults) → (fault ≡ Memory → files'.faults ≡ before.files.faults) → Performs request before now (Err fault)
  was_not_stored error fault s which rose kept = record {
    follows = λ outcome comes. stopped_before outcome.acts fault before.input before.input before.out before.out (untouched before.input before.out) which;
    settled = λ told. tt;
    missing = λ none. absurd (has.there none);
    may_answer = tt;
    alone = alone (Err error) s;
    stored = λ told may. absurd (may (may_store fault which));
    compiled = λ told wrote. cc;
    quiet = tt;
    spared = tt;
    flushed = tt;
    tells = record { files = s.tells ∙ has.only_reads.tells; input = refl; out = refl; err = refl };
    no_count_falls = record { files = counts (Err error) s; input = omega arith; out = omega arith; err = omega arith };
    counts_stay = record { files = λ other. kept_by which other; input = λ other. refl; out = λ other. refl; err = λ ok. refl };
    file_fault = λ e. record { uses = uses; cause = inl (rose (same_fault fault FileFault e)) };
    read_fault = λ e. absurd (neither ReadFault which (λ x. cc) (λ x. cc) (same_fault fault ReadFault e));
    write_fault = λ e. absurd (neither WriteFault which (λ x. cc) (λ x. cc) (same_fault fault WriteFault e));
    no_error = λ e. neither ErrFault which (λ x. cc) (λ x. cc) (same_fault fault ErrFault e);
    usage = λ none. absurd (has.only_reads.asks none);
  } where
    neither : (other : Fault) → (fault ≡ FileFault) ⊎ (fault ≡ Memory) → (other ≡ FileFault → ⊥) → (other ≡ Memory → ⊥) → fault ≡ other → ⊥
    neither other (inl e) a b is = a (sym is ∙ e)
    neither other (inr e) a b is = b (sym is ∙ e)

    may_store : (fault : Fault) → (fault ≡ FileFault) ⊎ (fault ≡ Memory) → MayStore (Err fault)
    may_store fault (inl e) = subst (λ (f : Fault). MayStore (Err f)) (sym e) tt
    may_store fault (inr e) = subst (λ (f : Fault). MayStore (Err f)) (sym e) tt

    kept_by : (fault ≡ FileFault) ⊎ (fault ≡ Memory) → ¬ IsErrOf {T = Done} (Err fault) FileFault → files'.faults ≡ before.files.faults
    kept_by (inl e) other = absurd (other (ap Err e))
    kept_by (inr e) other = kept e

pub stored_bytes : (request : Option Request) (before : Outside) (files1 files' : ShelfState) (to bytes : List ℕ) (result : Result Done Fault) → HasRead request before files1 → StoresBytes request before to bytes → MadeFile to bytes files1 files' result → Performs request before (outside files' before.input before.out before.err before.heap) result
stored_bytes request before files1 files' to bytes result has row (no_bytes same) =
    subst (λ (f : ShelfState). Performs request before (outside f before.input before.out before.err before.heap) (Err Memory)) (sym same)
    (fails_before request before files1 before.input before.out Memory has.only_reads (untouched before.input before.out) (fails_by_memory has.kept))
stored_bytes request before files1 files' to bytes result has row (no_memory s) =
    was_not_stored request before files1 files' to bytes has row shelf_fault.Memory Memory s (inr refl) (λ e. cc) (λ e. s.cause.memory refl ∙ has.kept)
stored_bytes request before files1 files' to bytes result has row (failed s) =
    was_not_stored request before files1 files' to bytes has row shelf_fault.Failed FileFault s (inl refl) (λ e. subst (λ (n : ℕ). Rose n files'.faults) has.kept (s.cause.failed refl)) (λ e. cc)
stored_bytes request before files1 files' to bytes result has row (stored value s) = was_stored request before files1 files' to bytes has row value s
