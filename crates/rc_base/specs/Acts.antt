-- What a run does outside, act by act, and where it may be cut short.
use Rattle.std.specs.Prelude.{◌≡◌, ℕ, suc, List, [], ◌∷◌, ◌++◌, drop, IsTrue}
use Rattle.rc_base.specs.Sources.{SourceState}
use Rattle.rc_base.specs.declared.ends.RunFault.{RunFault}
use Rattle.rc_base.specs.declared.ends.RunFault.TheVariants.{ReadFault, WriteFault}

-- a byte that is written, or a `getchar`
pub data Act : Type 0 where
  Write : ℕ → Act
  Getchar : Act

-- the bytes that the acts write
abbrev pub output : List Act → List ℕ
output [] = []
output (Write byte ∷ acts) = byte ∷ output acts
output (Getchar ∷ acts) = output acts

-- how many bytes the acts ask for
abbrev pub getchars : List Act → ℕ
getchars [] = 0
getchars (Write byte ∷ acts) = getchars acts
getchars (Getchar ∷ acts) = suc (getchars acts)

-- the source lost the bytes that the acts' `getchar`s gave, where it tells that
abbrev pub Gave : List Act → SourceState → SourceState → Type 0
Gave acts before after = IsTrue before.tells → after.rest ≡ drop (getchars acts) before.rest

abbrev pub IsWriteNext : List Act → Type 0
IsWriteNext (Write byte ∷ acts) = Unit {0}
IsWriteNext _ = ⊥

abbrev pub IsGetcharNext : List Act → Type 0
IsGetcharNext (Getchar ∷ acts) = Unit {0}
IsGetcharNext _ = ⊥

-- a run was cut short between two of its acts: those before were done, and a fault stands where it happened
pub record CutShort (acts : List Act) (Did : List Act → Type 0) (fault : RunFault) : Type 0 where
  pub done : List Act
  pub left : List Act
  pub split : acts ≡ done ++ left
  pub did : Did done
  pub at_read : fault ≡ ReadFault → IsGetcharNext left
  pub at_write : fault ≡ WriteFault → IsWriteNext left
