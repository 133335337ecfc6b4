-- Marks change no pins.
use Rattle.std.proofs.Common.{◌≡◌, ◌≢◌, ◌∙◌, ◌↔◌, ℕ, false, List, length, refl, sym, ap, subst, arith}
use Rattle.std.specs.List.{AllByRecursion as Every}
use Rattle.rc_code.specs.declared.instruction.Instruction.{Instruction}
use Rattle.rc_code.specs.declared.instruction.Instruction.TheVariants as instruction
use Rattle.rc_code.specs.declared.image.Function.{Function}
use Rattle.rc_code.specs.declared.image.Parts.{Parts}
use Rattle.rc_code.specs.Running.{Reading, reading_of, function_at}
use Rattle.rc_code.specs.Soundness.{instruction_at}
use Rattle.rc_loader.specs.Unmarked.{unmarked, unmarked_instruction, unmarked_function}
use Rattle.rc_loader.proofs.Marks.{function_is}
use Rattle.rc_sealed.specs.Proved.{Way}
use Rattle.rc_sealed.specs.Pinned.{IsNumeric, Used, got, on, UsedAfter, MayDelete, deletes, calls, PinsAll, PinsWhat, Pinned}
use Rattle.rc_greatest_proofs.proofs.Views.{map_long, same_instruction, same_left}

-- an instruction that isn't a store is the same one
kept : (i j : Instruction) → ((path : ℕ) (b : _) → j ≢ instruction.Store path b) → unmarked_instruction i ≡ j → i ≡ j
kept (instruction.Store path proved) j other e = absurd (other path false (sym e))
kept (instruction.Constant kind value) j other e = e
kept (instruction.Global global) j other e = e
kept (instruction.Get local) j other e = e
kept (instruction.Set local) j other e = e
kept (instruction.Load p) j other e = e
kept (instruction.Typed typed type) j other e = e
kept (instruction.Arithmetic arithmetic kind) j other e = e
kept (instruction.Move type kind direction) j other e = e
kept (instruction.Simple simple) j other e = e
kept (instruction.Delete pins) j other e = e
kept (instruction.Call function pins) j other e = e
kept (instruction.Jump jump target) j other e = e

same_way : (i : Instruction) (at to : ℕ) → Way (unmarked_instruction i) at to ≡ Way i at to
same_way (instruction.Store path proved) at to = refl
same_way i at to = refl

module _ (f : Function) where
  abbrev f1 : Function
  f1 = unmarked_function f

  ways : (at to : ℕ) → Way (instruction_at f1 at) at to ≡ Way (instruction_at f at) at to
  ways at to = ap (λ i. Way i at to) (same_instruction f at) ∙ same_way (instruction_at f at) at to

  way_there : (at to : ℕ) → Way (instruction_at f at) at to → Way (instruction_at f1 at) at to
  way_there at to w = subst (λ (T : Type 0). T) (sym (ways at to)) w

  way_back : (at to : ℕ) → Way (instruction_at f1 at) at to → Way (instruction_at f at) at to
  way_back at to w = subst (λ (T : Type 0). T) (ways at to) w

  used_there : (x : ℕ) {at : ℕ} → Used f x at → Used f1 x at
  used_there x (got {at} is) = got (same_instruction f at ∙ ap unmarked_instruction is)
  used_there x (on {at} {to} not way u) = on (λ e. not (kept (instruction_at f at) (instruction.Set x) (λ path b s. cc) (sym (same_instruction f at) ∙ e))) (way_there at to way) (used_there x u)

  used_back : (x : ℕ) {at : ℕ} → Used f1 x at → Used f x at
  used_back x (got {at} is) = got (kept (instruction_at f at) (instruction.Get x) (λ path b s. cc) (sym (same_instruction f at) ∙ is))
  used_back x (on {at} {to} not way u) = on (λ e. not (same_instruction f at ∙ ap unmarked_instruction e)) (way_back at to way) (used_back x u)

  after_there : (x at : ℕ) → UsedAfter f x at → UsedAfter f1 x at
  after_there x at u = record { to = u.to; way = way_there at u.to u.way; used = used_there x u.used }

  after_back : (x at : ℕ) → UsedAfter f1 x at → UsedAfter f x at
  after_back x at u = record { to = u.to; way = way_back at u.to u.way; used = used_back x u.used }

module _ (parts : Parts) where
  abbrev code : Reading
  code = reading_of parts

  abbrev bare : Reading
  bare = reading_of (unmarked parts)

  at_is : (g at : ℕ) → instruction_at (function_at bare g) at ≡ unmarked_instruction (instruction_at (function_at code g) at)
  at_is g at = ap (λ (f : Function). instruction_at f at) (function_is parts g) ∙ same_instruction (function_at code g) at

  long : (g : ℕ) → length (function_at bare g).code ≡ length (function_at code g).code
  long g = ap (λ (f : Function). length f.code) (function_is parts g) ∙ map_long unmarked_instruction (function_at code g).code

  deletes_there : {g : ℕ} → MayDelete code g → MayDelete bare g
  deletes_there (deletes {g} at lt pins is) = deletes at (let e = long g in omega (arith, e, lt)) pins (at_is g at ∙ ap unmarked_instruction is)
  deletes_there (calls {g} at lt pins is d) = calls at (let e = long g in omega (arith, e, lt)) pins (at_is g at ∙ ap unmarked_instruction is) (deletes_there d)

  deletes_back : {g : ℕ} → MayDelete bare g → MayDelete code g
  deletes_back (deletes {g} at lt pins is) = deletes at (let e = long g in omega (arith, e, lt)) pins (kept (instruction_at (function_at code g) at) (instruction.Delete pins) (λ path b s. cc) (sym (at_is g at) ∙ is))
  deletes_back (calls {g} {h} at lt pins is d) = calls at (let e = long g in omega (arith, e, lt)) pins (kept (instruction_at (function_at code g) at) (instruction.Call h pins) (λ path b s. cc) (sym (at_is g at) ∙ is)) (deletes_back d)

  module _ (f : Function) (at : ℕ) (pins : List ℕ) where
    all_there : PinsAll code f at pins → PinsAll bare (unmarked_function f) at pins
    all_there p = record { locals = λ x is u. p.locals x is (after_back f x at u); below = subst (Every IsNumeric) (sym (same_left parts f at)) p.below }

    all_back : PinsAll bare (unmarked_function f) at pins → PinsAll code f at pins
    all_back p = record { locals = λ x is u. p.locals x is (after_there f x at u); below = subst (Every IsNumeric) (same_left parts f at) p.below }

  module _ (g at : ℕ) where
    over_there : (pins : List ℕ) → PinsAll code (function_at code g) at pins → PinsAll bare (function_at bare g) at pins
    over_there pins p = subst (λ f. PinsAll bare f at pins) (sym (function_is parts g)) (all_there (function_at code g) at pins p)

    over_back : (pins : List ℕ) → PinsAll bare (function_at bare g) at pins → PinsAll code (function_at code g) at pins
    over_back pins p = all_back (function_at code g) at pins (subst (λ f. PinsAll bare f at pins) (function_is parts g) p)

    what_there : (i : Instruction) → PinsWhat code g at i → PinsWhat bare g at (unmarked_instruction i)
    what_there (instruction.Delete pins) p = over_there pins p
    what_there (instruction.Call h pins) p = λ d. over_there pins (p (deletes_back d))
    what_there (instruction.Store path proved) p = tt
    what_there i p = p

    what_back : (i : Instruction) → PinsWhat bare g at (unmarked_instruction i) → PinsWhat code g at i
    what_back (instruction.Delete pins) p = over_back pins p
    what_back (instruction.Call h pins) p = λ d. over_back pins (p (deletes_there d))
    what_back (instruction.Store path proved) p = tt
    what_back i p = p

    pub pinned : Pinned code g at ↔ Pinned bare g at
    pinned = ((λ p. subst (PinsWhat bare g at) (sym (at_is g at)) (what_there (instruction_at (function_at code g) at) p)), (λ p. what_back (instruction_at (function_at code g) at) (subst (PinsWhat bare g at) (at_is g at) p)))
