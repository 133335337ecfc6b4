-- What greater proofs give.
use Rattle.std.proofs.Common.{◌≡◌, ℕ, zero, suc, ◌||◌, true, IsTrue, refl, sym, subst}
use Rattle.rc_facts.specs.declared.fact.Fact.{Fact}
use Rattle.rc_facts.specs.Derivable.{Derivable}
use Rattle.rc_annotations.specs.Annotations.{some_pair}
use Rattle.rc_annotations.proofs.Derivations.{derivable_more, either_more}
use Rattle.rc_code.specs.declared.opcode.Simple.TheVariants as simple
use Rattle.rc_code.specs.declared.instruction.Instruction.{Instruction}
use Rattle.rc_code.specs.declared.instruction.Instruction.TheVariants as instruction
use Rattle.rc_code.specs.Running.{function_at}
use Rattle.rc_code.specs.Soundness.{instruction_at}
use Rattle.rc_claims.specs.Counts.{copies}
use Rattle.rc_sealed.specs.ImageVariables.{variables}
use Rattle.rc_sealed.specs.Carrying.{is_target, entry_pairs, Follows, Carried, Before}
use Rattle.rc_sealed.specs.Proved.{EntryIsGiven, ExitIsGiven, AtEntry}
use Rattle.rc_sealed.proofs.Greater.{follows_more, carried_more, before_more}
use Rattle.rc_greatest_proofs.specs.Greater.{GreaterGive, GivingIsProved}

pub greater_give : GreaterGive
greater_give image fewer more inside g at p = record {
  targets = λ to way t fact is. behind fact (p.targets to way t fact is);
  calls = λ h pins e fact is. before _ (subst (EntryIsGiven image fewer g at) e p.entry fact is);
  returns = λ e fact is. behind _ (subst (ExitIsGiven image fewer g at) e p.exit fact is);
  begins = λ e. subst (λ k. AtEntry image fewer g at k → is_target (function_at image g) 0 ≡ true → (fact : Fact) → IsTrue (fewer.before g 0 fact) → Derivable (variables image (function_at image g)) (λ q. more.entry g q || some_pair (entry_pairs (copies (function_at image g)) (copies (function_at image g))) q) fact) (sym e)
      (λ first t fact is. derivable_more (either_more (inside.entry g) (λ q k. k)) (first.target t fact is)) p.first;
}
  where
    before : (fact : Fact) → Follows (variables image (function_at image g)) (Before image fewer g at) fact → Follows (variables image (function_at image g)) (Before image more g at) fact
    before fact c = follows_more (variables image (function_at image g)) (Before image fewer g at) (Before image more g at) (before_more image g fewer more inside at) fact c

    behind : (fact : Fact) → Follows (variables image (function_at image g)) (Carried image fewer g at (Before image fewer g at)) fact → Follows (variables image (function_at image g)) (Carried image more g at (Before image more g at)) fact
    behind fact c = follows_more (variables image (function_at image g)) (Carried image fewer g at (Before image fewer g at)) (Carried image more g at (Before image more g at))
        (carried_more image g fewer more inside at (Before image fewer g at) (Before image more g at) (before_more image g fewer more inside at)) fact c

pub giving_is_proved : GivingIsProved
giving_is_proved image proofs g at p main = record {
  targets = p.targets;
  entry = entry (instruction_at (function_at image g) at) refl;
  exit = exit (instruction_at (function_at image g) at) refl;
  first = first at p.begins;
}
  where
    entry : (i : Instruction) → instruction_at (function_at image g) at ≡ i → EntryIsGiven image proofs g at i
    entry (instruction.Call h pins) e = p.calls h pins e
    entry (instruction.Constant s n) e = tt
    entry (instruction.Global x) e = tt
    entry (instruction.Get x) e = tt
    entry (instruction.Set x) e = tt
    entry (instruction.Load x) e = tt
    entry (instruction.Typed t x) e = tt
    entry (instruction.Arithmetic a s) e = tt
    entry (instruction.Move x s d) e = tt
    entry (instruction.Store x b) e = tt
    entry (instruction.Simple s) e = tt
    entry (instruction.Delete pins) e = tt
    entry (instruction.Jump j to) e = tt

    exit : (i : Instruction) → instruction_at (function_at image g) at ≡ i → ExitIsGiven image proofs g at i
    exit (instruction.Simple simple.Return) e = p.returns e
    exit (instruction.Simple simple.NullRegion) e = tt
    exit (instruction.Simple simple.SameRegion) e = tt
    exit (instruction.Simple simple.IsZero) e = tt
    exit (instruction.Simple simple.IsNullRegion) e = tt
    exit (instruction.Simple simple.ToInt) e = tt
    exit (instruction.Simple simple.ToUnsigned) e = tt
    exit (instruction.Simple simple.ToChar) e = tt
    exit (instruction.Simple simple.NewRegion) e = tt
    exit (instruction.Simple simple.NewSubregion) e = tt
    exit (instruction.Simple simple.PutChar) e = tt
    exit (instruction.Simple simple.GetChar) e = tt
    exit (instruction.Simple simple.Pop) e = tt
    exit (instruction.Call h pins) e = tt
    exit (instruction.Constant s n) e = tt
    exit (instruction.Global x) e = tt
    exit (instruction.Get x) e = tt
    exit (instruction.Set x) e = tt
    exit (instruction.Load x) e = tt
    exit (instruction.Typed t x) e = tt
    exit (instruction.Arithmetic a s) e = tt
    exit (instruction.Move x s d) e = tt
    exit (instruction.Store x b) e = tt
    exit (instruction.Delete pins) e = tt
    exit (instruction.Jump j to) e = tt

    first : (k : ℕ) → (k ≡ 0 → is_target (function_at image g) 0 ≡ true → (fact : Fact) → IsTrue (proofs.before g 0 fact) → Derivable (variables image (function_at image g)) (λ q. proofs.entry g q || some_pair (entry_pairs (copies (function_at image g)) (copies (function_at image g))) q) fact) → AtEntry image proofs g k k
    first zero begins = record { target = begins refl; main = main }
    first (suc k) begins = tt
