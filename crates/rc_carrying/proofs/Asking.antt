-- An instruction is proved where all that it asks follows.
use Rattle.std.proofs.Common.{◌≡◌, ℕ, true, false, refl, subst}
use Rattle.rc_facts.specs.declared.fact.Fact.{Fact}
use Rattle.rc_annotations.specs.Annotations.{Annotation}
use Rattle.rc_code.specs.declared.opcode.Simple.TheVariants as simple
use Rattle.rc_code.specs.declared.instruction.Instruction.{Instruction}
use Rattle.rc_code.specs.declared.instruction.Instruction.TheVariants as instruction
use Rattle.rc_code.specs.declared.image.Function.{Function}
use Rattle.rc_code.specs.Running.{Reading, function_at}
use Rattle.rc_code.specs.Soundness.{instruction_at}
use Rattle.rc_sealed.specs.ImageVariables.{variables}
use Rattle.rc_sealed.specs.Carrying.{Follows, Carried, Before}
use Rattle.rc_sealed.specs.Proved.{AtEntry, Proved, EntryIsGiven, ExitIsGiven, CheckIsProved}
use Rattle.rc_carrying.specs.Asked.{AskedBefore, AskedBehind, Passed, entry, check, exit, target}

module _ (image : Reading) (proofs : Annotation) (g at : ℕ) where
  abbrev f : Function
  f = function_at image g

  module _ (p : Passed image proofs g at) where
    entry_by : (i : Instruction) → instruction_at f at ≡ i → EntryIsGiven image proofs g at i
    entry_by (instruction.Call h pins) e = λ fact is. p.before _ (entry e is)
    entry_by (instruction.Constant s n) e = tt
    entry_by (instruction.Global x) e = tt
    entry_by (instruction.Get x) e = tt
    entry_by (instruction.Set x) e = tt
    entry_by (instruction.Load x) e = tt
    entry_by (instruction.Typed t x) e = tt
    entry_by (instruction.Arithmetic a s) e = tt
    entry_by (instruction.Move x s d) e = tt
    entry_by (instruction.Store x b) e = tt
    entry_by (instruction.Simple s) e = tt
    entry_by (instruction.Delete pins) e = tt
    entry_by (instruction.Jump j to) e = tt

    exit_by : (i : Instruction) → instruction_at f at ≡ i → ExitIsGiven image proofs g at i
    exit_by (instruction.Simple s) e = by s e
      where
        by : (s : _) → instruction_at f at ≡ instruction.Simple s → ExitIsGiven image proofs g at (instruction.Simple s)
        by simple.Return e = λ fact is. p.behind _ (exit e is)
        by simple.NullRegion e = tt
        by simple.SameRegion e = tt
        by simple.IsZero e = tt
        by simple.IsNullRegion e = tt
        by simple.ToInt e = tt
        by simple.ToUnsigned e = tt
        by simple.ToChar e = tt
        by simple.NewRegion e = tt
        by simple.NewSubregion e = tt
        by simple.PutChar e = tt
        by simple.GetChar e = tt
        by simple.Pop e = tt
    exit_by (instruction.Call h pins) e = tt
    exit_by (instruction.Constant s n) e = tt
    exit_by (instruction.Global x) e = tt
    exit_by (instruction.Get x) e = tt
    exit_by (instruction.Set x) e = tt
    exit_by (instruction.Load x) e = tt
    exit_by (instruction.Typed t x) e = tt
    exit_by (instruction.Arithmetic a s) e = tt
    exit_by (instruction.Move x s d) e = tt
    exit_by (instruction.Store x b) e = tt
    exit_by (instruction.Delete pins) e = tt
    exit_by (instruction.Jump j to) e = tt

    check_by : (i : Instruction) → instruction_at f at ≡ i → CheckIsProved image proofs g at i
    check_by (instruction.Store path true) e = λ fact is. p.before fact (check e is)
    check_by (instruction.Store path false) e = tt
    check_by (instruction.Call h pins) e = tt
    check_by (instruction.Constant s n) e = tt
    check_by (instruction.Global x) e = tt
    check_by (instruction.Get x) e = tt
    check_by (instruction.Set x) e = tt
    check_by (instruction.Load x) e = tt
    check_by (instruction.Typed t x) e = tt
    check_by (instruction.Arithmetic a s) e = tt
    check_by (instruction.Move x s d) e = tt
    check_by (instruction.Simple s) e = tt
    check_by (instruction.Delete pins) e = tt
    check_by (instruction.Jump j to) e = tt

    pub passed_proved : AtEntry image proofs g at at → Proved image proofs g at
    passed_proved first = record {
      targets = λ to way is fact has. p.behind fact (target way is has);
      entry = entry_by (instruction_at f at) refl;
      exit = exit_by (instruction_at f at) refl;
      check = check_by (instruction_at f at) refl;
      first = first;
    }

  module _ (p : Proved image proofs g at) where
    before_by : (fact : Fact) → AskedBefore image proofs g at fact → Follows (variables image f) (Before image proofs g at) fact
    before_by fact (entry {fact = q} e is) = subst (EntryIsGiven image proofs g at) e p.entry q is
    before_by fact (check e is) = subst (CheckIsProved image proofs g at) e p.check fact is

    behind_by : (fact : Fact) → AskedBehind image proofs g at fact → Follows (variables image f) (Carried image proofs g at (Before image proofs g at)) fact
    behind_by fact (exit {fact = q} e is) = subst (ExitIsGiven image proofs g at) e p.exit q is
    behind_by fact (target {to} way t is) = p.targets to way t fact is

    pub proved_passed : Passed image proofs g at
    proved_passed = record { before = before_by; behind = behind_by }
