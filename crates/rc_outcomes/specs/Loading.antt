-- Loading a file, and several files one behind the other.
use Rattle.std.specs.Prelude.{◌≡◌, ◌⊎◌, ◌≤◌, ℕ, List, [], ◌∷◌, length, Some, Contains, IsTrue}
use Rattle.rc_base.specs.Causes.{Rose}
use Rattle.rc_base.specs.Shelves.{Lacks, Names, ShelfState}
use Rattle.rc_answers.specs.declared.answer.Fault.TheVariants.{FileFault, Memory}
use Rattle.rc_answers.specs.declared.answer.Fault.{Fault}

-- the file is there, was read, and holds this of its bytes
pub record Loaded (name : List ℕ) (files files' : ShelfState) (Holds : List ℕ → Type 0) : Type 0 where
  pub tells : files'.tells ≡ files.tells
  pub names : IsTrue files.tells → files'.names ≡ files.names
  pub kept : files'.faults ≡ files.faults
  pub holds : IsTrue files.tells → (bytes : List ℕ) × (files.names name ≡ Some bytes) × Holds bytes

-- a file that isn't there, or a shelf that fails, or no memory
pub data LoadCause (name : List ℕ) (files files' : ShelfState) : Fault → Type 0 where
  no_file : Lacks files name ⊎ Rose files.faults files'.faults → LoadCause name files files' FileFault
  no_memory : files'.faults ≡ files.faults → LoadCause name files files' Memory

pub record NotLoaded (name : List ℕ) (files files' : ShelfState) (fault : Fault) : Type 0 where
  pub tells : files'.tells ≡ files.tells
  pub names : IsTrue files.tells → files'.names ≡ files.names
  pub never_falls : files.faults ≤ files'.faults
  pub cause : LoadCause name files files' fault

-- ---- several files

-- each of them is there, and what was made of it, in their order, holds of its bytes
abbrev pub HoldInOrder : {T : Type 0} → (Holds : T → List ℕ → Type 0) → Names → (wanted : List (List ℕ)) → List T → Type 0
HoldInOrder Holds files [] [] = Unit {0}
HoldInOrder Holds files (name ∷ wanted) (made ∷ all) = ((bytes : List ℕ) × (files name ≡ Some bytes) × Holds made bytes) × HoldInOrder Holds files wanted all
HoldInOrder Holds files [] (made ∷ all) = ⊥
HoldInOrder Holds files (name ∷ wanted) [] = ⊥

-- these are the bytes of each, in their order
abbrev pub Have : Names → (wanted : List (List ℕ)) → (texts : List (List ℕ)) → Type 0
Have files [] [] = Unit {0}
Have files (name ∷ wanted) (text ∷ texts) = (files name ≡ Some text) × Have files wanted texts
Have files [] (text ∷ texts) = ⊥
Have files (name ∷ wanted) [] = ⊥

-- all were read, and something was made of each
pub record LoadedAll {T : Type 0} (Holds : T → List ℕ → Type 0) (wanted : List (List ℕ)) (files files' : ShelfState) (all : List T) : Type 0 where
  pub tells : files'.tells ≡ files.tells
  pub names : IsTrue files.tells → files'.names ≡ files.names
  pub kept : files'.faults ≡ files.faults
  pub count : length all ≡ length wanted
  pub holds : IsTrue files.tells → HoldInOrder Holds files.names wanted all

-- one isn't there, or the shelf failed, or there was no memory
pub data LoadAllCause (wanted : List (List ℕ)) (files files' : ShelfState) : Fault → Type 0 where
  no_file_of_all : ((name : List ℕ) × Contains wanted name × Lacks files name) ⊎ Rose files.faults files'.faults → LoadAllCause wanted files files' FileFault
  no_memory_for_all : files'.faults ≡ files.faults → LoadAllCause wanted files files' Memory

pub record NotLoadedAll (wanted : List (List ℕ)) (files files' : ShelfState) (fault : Fault) : Type 0 where
  pub tells : files'.tells ≡ files.tells
  pub names : IsTrue files.tells → files'.names ≡ files.names
  pub never_falls : files.faults ≤ files'.faults
  pub cause : LoadAllCause wanted files files' fault
