-- Demands are met where the rules are kept.
use Rattle.std.proofs.Common.{◌≡◌, ℕ, Bool, false, cond, ◌&&◌, List, length, drop, Option, Some, None, Result, Ok, Err, refl, sym, ap, ap₂, ◌∙◌}
use Rattle.rc_code.specs.declared.instruction.Instruction.{Instruction}
use Rattle.rc_code.specs.declared.image.Function.{Function}
use Rattle.rc_code.specs.declared.image.Parts.{Parts}
use Rattle.rc_code.specs.Running.{reading_of}
use Rattle.rc_code.specs.Soundness.{count_off}
use Rattle.rc_loader.specs.declared.operand.Operand.{Operand}
use Rattle.rc_loader.specs.declared.demands.Demands.{Demands}
use Rattle.rc_loader.specs.declared.fault.Rule.{Rule}
use Rattle.rc_loader.specs.declared.fault.Rule.TheVariants as rule
use Rattle.rc_loader.specs.Decisions.{names_what_is_there, leads_inside, may_end, left_below, is_empty_enough, checked_kinds, checked_height, checked, AreDemands, met_kinds, met_height, met}
use Rattle.rc_loader.proofs.Operands.{count_is, kinds_are}

module _ (parts : Parts) (f : Function) (n : ℕ) (i : Instruction) (d : Demands) (are : AreDemands parts f n i d) (target : Bool) (stack : List Operand) where
  same_kinds : (below : ℕ) → met_kinds d stack below ≡ checked_kinds parts f i stack below
  same_kinds below = ap (λ b. cond b (Ok below) (Err rule.Kind)) (kinds_are d.taken parts f i are.kinds are.any (drop below stack))

  same_height : (o : Option ℕ) → met_height d target stack o ≡ checked_height parts f i target stack o
  same_height None = refl
  same_height (Some below) = ap₂ (λ e r. cond (is_empty_enough e target below (length stack)) r (Err rule.Height)) are.empties (same_kinds below)

  -- where it names what is there
  pub met_is : (ends : Bool) → ends ≡ may_end (length f.code) n i → met d ends target stack ≡ checked parts f n i target stack
  met_is ends e =
      ap₂ (λ b r. cond b r (Err rule.Target)) (ap₂ (λ b c. b && c) are.leads e)
      (ap (λ count. met_height d target stack (left_below count (length stack))) (count_is d.taken (reading_of parts) f i are.kinds are.any)
      ∙ same_height (left_below (count_off (reading_of parts) f i) (length stack)))
      ∙ sym (ap (λ b. cond b there (Err rule.Number)) are.named)
    where
      there : Result ℕ Rule
      there = cond (leads_inside (length f.code) n i && may_end (length f.code) n i) (checked_height parts f i target stack (left_below (count_off (reading_of parts) f i) (length stack))) (Err rule.Target)

-- where it doesn't
pub not_named : (parts : Parts) (f : Function) (n : ℕ) (i : Instruction) (target : Bool) (stack : List Operand) → names_what_is_there parts f i ≡ false → Err rule.Number ≡ checked parts f n i target stack
not_named parts f n i target stack e = sym (ap (λ b. cond b there (Err rule.Number)) e)
  where
    there : Result ℕ Rule
    there = cond (leads_inside (length f.code) n i && may_end (length f.code) n i) (checked_height parts f i target stack (left_below (count_off (reading_of parts) f i) (length stack))) (Err rule.Target)
