-- Texts that are the files of one program: which of them is refused by itself, what keeps them apart, and their program.
use Rattle.std.specs.Prelude.{◌≡◌, ◌⊎◌, ℕ, suc, List, [], ◌∷◌, Some, None}
use Rattle.rc_syntax.specs.Place.{last_line}
use Rattle.rc_syntax.specs.Tree.{Tree}
use Rattle.rc_core.specs.Programs.{Program}
use Rattle.rc_deletes.specs.Answer as rules
use Rattle.rc_linking.specs.Joined.{joined}
use Rattle.rc_linking.specs.Links.{LinkRefusal, link_refusal}
use Rattle.rc_linking.specs.Stubs.{stubbed}
use Rattle.rc_compile.specs.Acceptance.{HasTree, Refused, rule_refusal}
use Rattle.rc_compile.specs.Compiles.{IsOfReading}
use Rattle.rc_compile.specs.declared.fault.CompileFault.TheVariants as fault
use Rattle.rc_compile.specs.declared.refusal.Refusal.{Refusal}

-- ---- one text

-- this is its tree, and its last word stands on this line: on line 1 where it has no word
pub record IsFile (text : List ℕ) (tree : Tree) (line : ℕ) : Type 0 where
  pub has_tree : HasTree text tree
  pub on_line : line ≡ last_line has_tree.tokens

-- this is its tree, and with a stub for all that it only declares it is a program
pub record IsFine (text : List ℕ) (tree : Tree) : Type 0 where
  pub line : ℕ
  pub is_file : IsFile text tree line
  pub program : Program
  pub typed : rules.IsProgramOf (stubbed line tree) program

-- it has no tree, so that it is refused as a program too; or the rules refuse its tree with the stubs
pub data IsRefused (text : List ℕ) (refusal : Refusal) : Type 0 where
  unread : Refused text refusal → IsOfReading (fault.Refused refusal) → IsRefused text refusal
  in_rules : (tree : Tree) (line : ℕ) (broken : rules.Refused) → IsFile text tree line → rules.refusal (stubbed line tree) ≡ Some broken → refusal ≡ rule_refusal broken → IsRefused text refusal

-- ---- several texts

-- each of them is fine, and these are their trees in order
abbrev pub AreFine : List (List ℕ) → List Tree → Type 0
AreFine [] [] = Unit {0}
AreFine (text ∷ texts) (tree ∷ trees) = IsFine text tree × AreFine texts trees
AreFine [] (tree ∷ trees) = ⊥
AreFine (text ∷ texts) [] = ⊥

-- the first that isn't is refused so. It is that of this number, where the first text is that of number n
abbrev pub FirstRefused : (n : ℕ) → List (List ℕ) → (number : ℕ) → Refusal → Type 0
FirstRefused n [] number refusal = ⊥
FirstRefused n (text ∷ texts) number refusal = ((number ≡ n) × IsRefused text refusal) ⊎ (((tree : Tree) × IsFine text tree) × FirstRefused (suc n) texts number refusal)

-- each is fine, and this is what keeps them apart
pub record AreApart (texts : List (List ℕ)) (refusal : LinkRefusal) : Type 0 where
  pub trees : List Tree
  pub fine : AreFine texts trees
  pub apart : link_refusal trees ≡ Some refusal

-- each is fine, nothing keeps them apart, and this is the program of all their items in order, in which each struct that an earlier file
-- defines is left out
pub record AreProgram (texts : List (List ℕ)) (program : Program) : Type 0 where
  pub trees : List Tree
  pub fine : AreFine texts trees
  pub together : link_refusal trees ≡ None
  pub typed : rules.IsProgramOf (joined trees) program

-- what texts come to as the files of one program
pub data Together : Type 0 where
  file_refused : (number : ℕ) → Refusal → Together
  kept_apart : LinkRefusal → Together
  one_program : Program → Together

abbrev pub ComeTo : List (List ℕ) → Together → Type 0
ComeTo texts (file_refused number refusal) = FirstRefused 1 texts number refusal
ComeTo texts (kept_apart refusal) = AreApart texts refusal
ComeTo texts (one_program program) = AreProgram texts program
