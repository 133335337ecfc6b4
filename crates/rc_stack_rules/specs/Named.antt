-- What a loader asks of the locals that a function's code names. Each local that is read or set is there. What a deletion or a call holds
-- are locals of the source whose types are regions or pointers, in order, each once.
use Rattle.std.specs.Prelude.{◌≡◌, ◌<◌, ℕ, Bool, List, [], ◌∷◌, length, Some, slice_get}
use Rattle.rc_core.specs.Types.{Ty}
use Rattle.rc_core.specs.Programs.{Function, Program}
use Rattle.rc_rlang.specs.RegionCode.{Act, assign, Code, simple, clear, block, branch, loop, repeat, break, continue, Codes, done, then, Routine, Rlang}
use Rattle.rc_rlang.specs.RegionFits.{CodeFits}
use Rattle.rc_translation.specs.Translation.{routine_of}
use Rattle.rc_emission.specs.StackCode.{Instruction, get, set, delete, call, perform as act_call, Line}
use Rattle.rc_emission.specs.StatementCode.{body_lines}
use Rattle.rc_emission.specs.KeptOperands.{slots_of}
use Rattle.rc_emission.specs.Served.{CodeNames}
use Rattle.rc_stack_rules.specs.LoaderRules.{Pins}
use Rattle.rc_rlang.specs.RegionNames.{object_type, result_type}
use Rattle.rc_stack_rules.specs.Loadable.{all_locals, KeepsRules}

-- of a function with these locals in its source, and so many in all
module _ (source : List Ty) (count : ℕ) where
  abbrev pub Named : Instruction → Type 0
  Named (get x) = x < count
  Named (set x ty) = x < count
  Named (delete pins) = Pins source 0 pins
  Named (call f tys pins) = Pins source 0 pins
  Named (act_call f tys pins) = Pins source 0 pins
  Named i = Unit {0}

  abbrev pub EachNamed : List Instruction → Type 0
  EachNamed [] = Unit {0}
  EachNamed (i ∷ is) = Named i × EachNamed is

  abbrev pub AllNamed : List Line → Type 0
  AllNamed [] = Unit {0}
  AllNamed (i ∷ is) = Named i.instruction × AllNamed is

-- each local that region code sets is there
abbrev pub ActSets : (types : List Ty) → Act → Type 0
ActSets types (assign line x ty) = x < length types
ActSets types act = Unit {0}

abbrev mutual
  pub CodeSets : (types : List Ty) → Code → Type 0
  CodeSets types (simple steps act) = ActSets types act
  CodeSets types (clear line x ty) = x < length types
  CodeSets types (block codes) = CodesSet types codes
  CodeSets types (branch steps test a b) = CodeSets types a × CodeSets types b
  CodeSets types (loop line steps test third a) = CodeSets types third × CodeSets types a
  CodeSets types (repeat line a steps test) = CodeSets types a
  CodeSets types (break line) = Unit {0}
  CodeSets types (continue line) = Unit {0}

  pub CodesSet : (types : List Ty) → Codes → Type 0
  CodesSet types done = Unit {0}
  CodesSet types (then c rest) = CodeSets types c × CodesSet types rest

abbrev pub NamesLocals : Routine → Type 0
NamesLocals f = (deleting : ℕ → Bool) → AllNamed f.locals (length (all_locals f)) (body_lines (slots_of f).slot deleting f)

abbrev pub HasLocals : Routine → Type 0
HasLocals f = CodeFits f.body × CodeNames f.locals f.body × CodeSets f.locals f.body

abbrev pub AllNameLocals : Program → Type 0
AllNameLocals program = (k : ℕ) (f : Function) → slice_get program.functions k ≡ Some f → NamesLocals (routine_of program f)

-- of every function of region code
abbrev pub RlangKeepsRules : Rlang → Type 0
RlangKeepsRules r = (k : ℕ) (f : Routine) → slice_get r.functions k ≡ Some f → KeepsRules (object_type r) (result_type r) f × NamesLocals f
