-- Where a search begins: with all facts that sets may have.
use Rattle.std.specs.Prelude.{IsTrue, ◌≡◌, ◌<◌, ◌≤◌, ◌++◌, ◌∷◌, [], ℕ, suc, List, length, get_or, slice_get, Some}
use Rattle.rc_facts.specs.declared.fact.Fact.{Fact}
use Rattle.rc_facts.specs.Facts.{Known, holds, is_over}
use Rattle.rc_facts.specs.Flow.{no_set}
use Rattle.rc_prove.specs.declared.start.Counts.{Counts}
use Rattle.rc_prove.specs.Family.{Family}

-- the set has all facts on the first of its variables
pub record IsFull (count variables : ℕ) (set : Known) : Type 0 where
  pub wide : set.variables ≡ variables
  pub facts : (fact : Fact) → holds set fact ≡ is_over count fact

pub record AreFull (count variables many : ℕ) (sets : List Known) : Type 0 where
  pub long : length sets ≡ many
  pub each : (r : ℕ) → r < many → IsFull count variables (get_or sets r no_set)

pub record CountsFit (counts : Counts) : Type 0 where
  pub copies : counts.copies ≤ 128
  pub answers : counts.answers ≤ suc counts.copies
  pub few : suc counts.copies ≤ 128
  pub locals : counts.locals ≤ counts.variables
  pub variables : counts.variables ≤ 128

-- one function's sets were put behind the others
pub record Pushed (counts : Counts) (old new : Family) : Type 0 where
  pub entry : Known
  pub exit : Known
  pub frames : List Known
  pub entries_are : new.entries ≡ old.entries ++ entry ∷ []
  pub exits_are : new.exits ≡ old.exits ++ exit ∷ []
  pub frames_are : new.frames ≡ old.frames ++ frames ∷ []
  pub entry_full : IsFull counts.copies counts.copies entry
  pub exit_full : IsFull counts.answers (suc counts.copies) exit
  pub frames_full : AreFull counts.locals counts.variables counts.targets frames

-- the first functions have all facts that their sets may have
pub record IsBegun (all : List Counts) (k : ℕ) (m : Family) : Type 0 where
  pub entries : length m.entries ≡ k
  pub exits : length m.exits ≡ k
  pub frames : length m.frames ≡ k
  pub entry_full : (j : ℕ) (counts : Counts) → j < k → slice_get all j ≡ Some counts → IsFull counts.copies counts.copies (get_or m.entries j no_set)
  pub exit_full : (j : ℕ) (counts : Counts) → j < k → slice_get all j ≡ Some counts → IsFull counts.answers (suc counts.copies) (get_or m.exits j no_set)
  pub frames_full : (j : ℕ) (counts : Counts) → j < k → slice_get all j ≡ Some counts → AreFull counts.locals counts.variables counts.targets (get_or m.frames j [])

-- ---- what is left of these sets

-- the set is on so many variables, and has facts on the first of them alone
pub record IsWithin (count variables : ℕ) (set : Known) : Type 0 where
  pub wide : set.variables ≡ variables
  pub facts : (fact : Fact) → IsTrue (holds set fact) → IsTrue (is_over count fact)

pub record AreWithin (count variables many : ℕ) (sets : List Known) : Type 0 where
  pub long : length sets ≡ many
  pub each : (r : ℕ) → r < many → IsWithin count variables (get_or sets r no_set)

-- as many sets, on as many variables, each with facts that it had at most
pub record AreShaped (all : List Counts) (m : Family) : Type 0 where
  pub entries : length m.entries ≡ length all
  pub exits : length m.exits ≡ length all
  pub frames : length m.frames ≡ length all
  pub entry : (j : ℕ) (counts : Counts) → slice_get all j ≡ Some counts → IsWithin counts.copies counts.copies (get_or m.entries j no_set)
  pub exit : (j : ℕ) (counts : Counts) → slice_get all j ≡ Some counts → IsWithin counts.answers (suc counts.copies) (get_or m.exits j no_set)
  pub frame : (j : ℕ) (counts : Counts) → slice_get all j ≡ Some counts → AreWithin counts.locals counts.variables counts.targets (get_or m.frames j [])
