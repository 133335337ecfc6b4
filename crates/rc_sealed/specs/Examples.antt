-- Small images: a marked store that is proved without any proofs given, and a local that dangles behind a deletion.
use Rattle.std.specs.Prelude.{ℕ, true, false, List, [], ◌∷◌, map, Some, None}
use Rattle.rc_core.specs.declared.ty.NumberType.TheVariants.{Int}
use Rattle.rc_core.specs.declared.ty.Note.TheVariants.{SameRegion}
use Rattle.rc_core.specs.declared.ty.Signedness.TheVariants.{Signed}
use Rattle.rc_annotations.specs.Annotations.{Annotation}
use Rattle.rc_code.specs.declared.kind.Cell.{Cell}
use Rattle.rc_code.specs.declared.kind.Cell.TheVariants as cell
use Rattle.rc_code.specs.declared.kind.Storage.{Storage}
use Rattle.rc_code.specs.declared.kind.Storage.TheVariants as storage
use Rattle.rc_code.specs.declared.opcode.Typed.TheVariants as typed
use Rattle.rc_code.specs.declared.opcode.Simple.TheVariants as simple
use Rattle.rc_code.specs.declared.instruction.Instruction.{Instruction}
use Rattle.rc_code.specs.declared.instruction.Instruction.TheVariants as instruction
use Rattle.rc_code.specs.declared.image.Path.{Path}
use Rattle.rc_code.specs.declared.image.Parts.{Parts}
use Rattle.rc_code.specs.Running.{reading_of}
use Rattle.rc_sealed.specs.Pinned.{Pinned}
use Rattle.rc_sealed.specs.AllProved.{AllProved}

abbrev pub no_proofs : Annotation
no_proofs = record { before = λ g at fact. false; entry = λ g fact. false; exit = λ g fact. false }

abbrev pub image_with : List (List Cell) → List Path → List Storage → List Instruction → Parts
image_with types paths locals code =
    record { types = types; globals = []; paths = paths; functions = record { parameters = 0; locals = locals; result = Some (storage.Number Int); code = code; lines = map (λ (i : Instruction). 1) code } ∷ []; main = 0 }

-- a node that is made points to itself; the store has the mark
abbrev pub looped : Parts
looped = image_with ((cell.Pointer SameRegion 0 ∷ []) ∷ []) (record { type_number = 0; shift = None; offset = 0; indices = [] } ∷ []) (storage.Pointer 0 ∷ [])
    (instruction.Simple simple.NewRegion ∷ instruction.Typed typed.Allocate 0 ∷ instruction.Set 0 ∷ instruction.Get 0 ∷ instruction.Get 0 ∷ instruction.Store 0 true ∷ instruction.Constant Signed 0 ∷ instruction.Simple simple.Return ∷ [])

-- it deletes a region, with these locals pinned, and then reads the local that named it and drops it
abbrev pub dangling : List ℕ → Parts
dangling pins = image_with [] [] (storage.Region ∷ [])
    (instruction.Simple simple.NewRegion ∷ instruction.Set 0 ∷ instruction.Get 0 ∷ instruction.Delete pins ∷ instruction.Get 0 ∷ instruction.Simple simple.Pop ∷ instruction.Constant Signed 0 ∷ instruction.Simple simple.Return ∷ [])

pub record Examples : Type 0 where
  pub looped_is_proved : AllProved looped no_proofs
  pub dangling_fails : Pinned (reading_of (dangling [])) 0 3 → ⊥
  pub dangling_is_pinned : AllProved (dangling (0 ∷ [])) no_proofs
