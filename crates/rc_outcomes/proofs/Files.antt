-- Requests that read one file, and requests that read several.
use Rattle.std.proofs.Common.{◌≡◌, ℕ, zero, suc, List, [], ◌∷◌, Option, None, Err, subst, sym, arith, inl, inr}
use Rattle.std.specs.Prelude.{Contains}
use Rattle.rc_base.specs.Shelves.{Names, ShelfState}
use Rattle.rc_answers.specs.declared.answer.Fault.{Fault}
use Rattle.rc_outcomes.specs.Footprint.{Reads, UsesFiles, footprint}
use Rattle.rc_outcomes.specs.Loading.{HoldInOrder, LoadAllCause, LoadCause, Loaded, LoadedAll, NotLoaded, NotLoadedAll, no_file, no_file_of_all, no_memory, no_memory_for_all}
use Rattle.rc_outcomes.specs.Outside.{Outside, outside}
use Rattle.rc_outcomes.specs.Performing.{Performs}
use Rattle.rc_outcomes.proofs.Ways.{FailsFirst, HasRead, OnlyReads, asks_some, fails_before, no_file as fails_by_file, no_memory as fails_by_memory, there_is, untouched}
use Rattle.rc_requests.specs.Request.{Request}

module _ (request : Option Request) (name : List ℕ) (reads : Reads (footprint request) name) (before : Outside) (files' : ShelfState) where
  pub uses_file : UsesFiles (footprint request)
  uses_file = (name, inl reads)

  module _ (Holds : List ℕ → Type 0) (l : Loaded name before.files files' Holds) where
    pub only_reads : OnlyReads request before files'
    only_reads = record { asks = asks_some request uses_file; unused = λ none. absurd (none uses_file); tells = l.tells; names = l.names; never_falls = (let same = l.kept in omega (arith, same)) }

    pub has_read : ((other : List ℕ) → Reads (footprint request) other → name ≡ other) → HasRead request before files'
    has_read only = record {
      only_reads = only_reads;
      there = λ missing. (let file = l.holds missing.2.tells in there_is before.files.names name missing.0 file.0 (only missing.0 missing.1) file.1 missing.2.none);
      kept = l.kept;
    }

  -- it is not there, or was not loaded
  pub fails_to_load : (fault : Fault) → NotLoaded name before.files files' fault → Performs request before (outside files' before.input before.out before.err before.heap) (Err fault)
  fails_to_load fault l =
      fails_before request before files' before.input before.out fault (record { asks = asks_some request uses_file; unused = λ none. absurd (none uses_file); tells = l.tells; names = l.names; never_falls = l.never_falls }) (untouched before.input before.out) (by fault l.cause)
    where
      by : (fault : Fault) → LoadCause name before.files files' fault → FailsFirst request before files' fault
      by fault (no_file (inl lacks)) = fails_by_file uses_file (inr (name, reads, lacks))
      by fault (no_file (inr rose)) = fails_by_file uses_file (inl rose)
      by fault (no_memory kept) = fails_by_memory kept

-- ---- several

-- each file that was read is there
there_in_order : {T : Type 0} (Holds : T → List ℕ → Type 0) (files : Names) (wanted : List (List ℕ)) (all : List T) → HoldInOrder Holds files wanted all → (name : List ℕ) → Contains wanted name → files name ≡ None → ⊥
there_in_order Holds files [] all holds name read none = let low = read.1 in omega (arith, low)
there_in_order Holds files (first ∷ wanted) [] holds name read none = holds
there_in_order Holds files (first ∷ wanted) (made ∷ all) holds name (zero, low, is) none = there_is files first name holds.0.0 is holds.0.1 none
there_in_order Holds files (first ∷ wanted) (made ∷ all) holds name (suc k, low, is) none = there_in_order Holds files wanted all holds.1 name (k, omega (arith, low), is) none

module _ (request : Option Request) (wanted : List (List ℕ)) (reads : (footprint request).reads ≡ wanted) (uses : UsesFiles (footprint request)) (before : Outside) (files' : ShelfState) where
  module _ {T : Type 0} (Holds : T → List ℕ → Type 0) (all : List T) (l : LoadedAll Holds wanted before.files files' all) where
    pub only_reads_all : OnlyReads request before files'
    only_reads_all = record { asks = asks_some request uses; unused = λ none. absurd (none uses); tells = l.tells; names = l.names; never_falls = (let same = l.kept in omega (arith, same)) }

    pub has_read_all : HasRead request before files'
    has_read_all = record {
      only_reads = only_reads_all;
      there = λ missing. there_in_order Holds before.files.names wanted all (l.holds missing.2.tells) missing.0 (subst (λ (names : List (List ℕ)). Contains names missing.0) reads missing.1) missing.2.none;
      kept = l.kept;
    }

  -- one of them is not there, or was not loaded
  pub fails_to_load_all : (fault : Fault) → NotLoadedAll wanted before.files files' fault → Performs request before (outside files' before.input before.out before.err before.heap) (Err fault)
  fails_to_load_all fault l =
      fails_before request before files' before.input before.out fault (record { asks = asks_some request uses; unused = λ none. absurd (none uses); tells = l.tells; names = l.names; never_falls = l.never_falls }) (untouched before.input before.out) (by fault l.cause)
    where
      by : (fault : Fault) → LoadAllCause wanted before.files files' fault → FailsFirst request before files' fault
      by fault (no_file_of_all (inl lacks)) = fails_by_file uses (inr (lacks.0, subst (λ (names : List (List ℕ)). Contains names lacks.0) (sym reads) lacks.1, lacks.2))
      by fault (no_file_of_all (inr rose)) = fails_by_file uses (inl rose)
      by fault (no_memory_for_all kept) = fails_by_memory kept
