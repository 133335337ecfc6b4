-- Region code whose temporaries stand in order, and whose locals are there, is served where every operand has a local.
use Rattle.std.proofs.Common.{ℕ, List, [], ◌∷◌}
use Rattle.rc_core.specs.Types.{Ty}
use Rattle.rc_rlang.specs.RegionCode as From
use Rattle.rc_rlang.specs.RegionCode.{Operation, Step, Steps, Act, Code, Codes}
use Rattle.rc_rlang.specs.RegionFits.{step_types, steps_types, StepFits, StepsFit, CodeFits, CodesFit}
use Rattle.rc_emission.specs.Served.{AllKept, OperationKeeps, StepServed, StepsServed, ActKeeps, CodeServed, CodesServed, StepNames, StepsName, CodeNames, CodesName}

abbrev pub Any : ℕ → Ty → Type 0
Any h ty = Unit {0}

module _ (types : List Ty) where
  all_kept : (base : ℕ) (tys : List Ty) → AllKept Any types base tys
  all_kept base [] = tt
  all_kept base (ty ∷ tys) = (tt, all_kept base tys)

  keeps : (h : ℕ) (op : Operation) → OperationKeeps Any types h op
  keeps h (From.constant s n) = tt
  keeps h From.null = tt
  keeps h (From.static g) = tt
  keeps h (From.copy x) = tt
  keeps h (From.load a) = tt
  keeps h (From.step direction pointed n) = tt
  keeps h (From.step_from n pointed) = (tt, tt)
  keeps h (From.unary operator s) = tt
  keeps h (From.binary operator s right) = tt
  keeps h (From.convert from to) = tt
  keeps h (From.not_zero of) = tt
  keeps h (From.truth of) = tt
  keeps h (From.is_null wanted of) = tt
  keeps h (From.same wanted of) = tt
  keeps h (From.call g tys) = tt
  keeps h From.new_region = tt
  keeps h From.new_subregion = tt
  keeps h (From.region_of of) = tt
  keeps h (From.allocate made layout) = tt
  keeps h (From.allocate_array made layout) = tt
  keeps h From.putchar = tt
  keeps h From.getchar = tt

  mutual
    steps_served : (s : Steps) (base : ℕ) (tys : List Ty) → StepsFit s base tys → StepsName types s → StepsServed Any types s base tys
    steps_served From.none base tys f n = tt
    steps_served (From.more s rest) base tys f n = (step_served s base tys f.0 n.0, steps_served rest base (step_types s tys) f.1 n.1)

    step_served : (s : Step) (base : ℕ) (tys : List Ty) → StepFits s base tys → StepNames types s → StepServed Any types s base tys
    step_served (From.set line h ty op) base tys f n = (f.0, f.1, f.2, n, keeps h op)
    step_served (From.fork line h test result a b) base [] f n = absurd f
    step_served (From.fork line h test result a b) base (ty ∷ below) f n =
        (f.0, f.1, steps_served a h [] f.2 n.0, f.3, steps_served b h [] f.4 n.1, f.5, all_kept base (ty ∷ below), tt)

  act_keeps : (act : Act) (tys : List Ty) → ActKeeps Any types act tys
  act_keeps From.drop tys = tt
  act_keeps (From.perform line g parameters) tys = tt
  act_keeps (From.assign line x ty) tys = tt
  act_keeps (From.store line a) tys = tt
  act_keeps (From.update line a change ty) tys = all_kept 0 tys
  act_keeps (From.move line cells left right) tys = all_kept 0 tys
  act_keeps (From.delete line) tys = tt
  act_keeps (From.leave line result) tys = tt

  mutual
    pub code_served : (c : Code) → CodeFits c → CodeNames types c → CodeServed Any types c
    code_served (From.simple steps act) f n = (steps_served steps 0 [] f.0 n, f.1, act_keeps act (steps_types steps []))
    code_served (From.clear line x ty) f n = tt
    code_served (From.block codes) f n = codes_served codes f n
    code_served (From.branch steps test a b) f n = (steps_served steps 0 [] f.0 n.0, f.1, code_served a f.2 n.1, code_served b f.3 n.2)
    code_served (From.loop line steps test third a) f n = (steps_served steps 0 [] f.0 n.0, f.1, code_served third f.2 n.1, code_served a f.3 n.2)
    code_served (From.repeat line a steps test) f n = (code_served a f.0 n.0, steps_served steps 0 [] f.1 n.1, f.2)
    code_served (From.break line) f n = tt
    code_served (From.continue line) f n = tt

    pub codes_served : (cs : Codes) → CodesFit cs → CodesName types cs → CodesServed Any types cs
    codes_served From.done f n = tt
    codes_served (From.then c rest) f n = (code_served c f.0 n.0, codes_served rest f.1 n.1)
