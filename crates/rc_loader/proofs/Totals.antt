-- An image is sound, or has a first violation: each test of an instruction tells which.
use Rattle.std.proofs.Common.{◌≡◌, ◌∙◌, ℕ, zero, suc, ◌<◌, ◌≤◌, ◌⊎◌, inl, inr, true, List, [], ◌∷◌, length, map, reverse, get_or, Option, Some, None, Result, Ok, Err, refl, sym, ap, subst, arith}
use Rattle.std.proofs.Math.Nat.{eq-or-lt_of_le}
use Rattle.rc_core.specs.declared.ty.NumberType.TheVariants.{Int, Unsigned, Char}
use Rattle.rc_code.specs.declared.kind.Storage.{Storage}
use Rattle.rc_code.specs.declared.kind.Storage.TheVariants as storage
use Rattle.rc_code.specs.declared.opcode.Simple.TheVariants as simple
use Rattle.rc_code.specs.declared.instruction.Instruction.{Instruction}
use Rattle.rc_code.specs.declared.instruction.Instruction.TheVariants as instruction
use Rattle.rc_code.specs.declared.image.Function.{Function}
use Rattle.rc_code.specs.declared.image.Parts.{Parts}
use Rattle.rc_code.specs.Running.{Reading, reading_of, function_at}
use Rattle.rc_code.specs.Soundness.{Kind, kinds_before, instruction_at, Names, FunctionIsSound, Sound}
use Rattle.rc_loader.specs.declared.fault.Rule.{Rule}
use Rattle.rc_loader.specs.declared.fault.Rule.TheVariants as rule
use Rattle.rc_loader.specs.declared.fault.Violation.{Violation}
use Rattle.rc_loader.specs.Violations.{rank, KeepsAt, BreaksFirst, MainIsFine, InFunction, FirstViolation}
use Rattle.rc_loader.specs.Codes.{code_of, kind_in}
use Rattle.rc_loader.specs.declared.operand.Operand.{Operand}
use Rattle.rc_loader.specs.Decisions.{checked, is_named, Stand, KeepsAll, BreaksHere}
use Rattle.rc_loader.proofs.Coded.{kind_again}
use Rattle.rc_loader.proofs.Firsts.{code_is_sound}
use Rattle.rc_loader.proofs.Deciding.{Tells, told}

-- an operand of each kind
abbrev operand_for : Kind → Operand
operand_for k = record { code = code_of k }

kinds_again : (ks : List Kind) → map kind_in (map operand_for ks) ≡ ks
kinds_again [] = refl
kinds_again (k ∷ ks) = ap (λ j. j ∷ map kind_in (map operand_for ks)) (kind_again k) ∙ ap (λ ls. k ∷ ls) (kinds_again ks)

module _ (parts : Parts) (f : Function) where
  abbrev Broken : Type 0
  Broken = (n : ℕ) × (r : Rule) × BreaksFirst (reading_of parts) f n r

  -- ---- at one instruction

  abbrev stack : ℕ → List Operand
  stack n = map operand_for (reverse (kinds_before (reading_of parts) f n))

  stands : (n : ℕ) → Stand parts f n (stack n)
  stands n = kinds_again (reverse (kinds_before (reading_of parts) f n))

  kept_or_broken : (n : ℕ) → n < length f.code → KeepsAll parts f n ⊎ ((r : Rule) × BreaksHere parts f n r)
  kept_or_broken n there = by (checked parts f n (instruction_at f n) (is_named f.code n) (stack n)) (told parts f n (stack n) (stands n) there (is_named f.code n) refl (checked parts f n (instruction_at f n) (is_named f.code n) (stack n)) refl)
    where
      by : (r : Result ℕ Rule) → Tells parts f n (stack n) (stands n) there (is_named f.code n) refl r → KeepsAll parts f n ⊎ ((r : Rule) × BreaksHere parts f n r)
      by (Ok left) tells = inl tells.0
      by (Err r) broken = inr (r, broken)

  -- ---- in a function

  kept_to : (n : ℕ) → n ≤ length f.code → ((m : ℕ) → m < n → KeepsAll parts f m) ⊎ Broken
  kept_to zero le = inl (λ m l. absurd (omega (arith, l)))
  kept_to (suc n) le = by (kept_to n (omega (arith, le)))
    where
      at : ((m : ℕ) → m < n → KeepsAll parts f m) → KeepsAll parts f n ⊎ ((r : Rule) × BreaksHere parts f n r) → ((m : ℕ) → m < suc n → KeepsAll parts f m) ⊎ Broken
      at before (inl kept) = inl (λ m l. of m (eq-or-lt_of_le (let h : m ≤ n = omega (arith, l) in h)))
        where
          of : (m : ℕ) → (m ≡ n) ⊎ (m < n) → KeepsAll parts f m
          of m (inl e) = subst (KeepsAll parts f) (sym e) kept
          of m (inr l) = before m l
      at before (inr b) = inr (n, b.0, record { there = omega (arith, le); broken = b.1.broken; before = before; earlier = b.1.earlier })

      by : ((m : ℕ) → m < n → KeepsAll parts f m) ⊎ Broken → ((m : ℕ) → m < suc n → KeepsAll parts f m) ⊎ Broken
      by (inl before) = at before (kept_or_broken n (omega (arith, le)))
      by (inr b) = inr b

  without_code : f.code ≡ [] → BreaksFirst (reading_of parts) f 0 rule.Target
  without_code e = record { there = omega arith; broken = λ goes. let there = goes.there in let none = ap length e in omega (arith, there, none); before = λ m l s. absurd (omega (arith, l)); earlier = earlier }
    where
      earlier : (s : Rule) → rank s < 1 → KeepsAt (reading_of parts) f 0 s
      earlier rule.Number l = subst (λ code. Names true (reading_of parts) f (get_or code 0 (instruction.Simple simple.Return))) (sym e) tt
      earlier rule.Target l = absurd (omega (arith, l))
      earlier rule.Height l = absurd (omega (arith, l))
      earlier rule.Kind l = absurd (omega (arith, l))

  sound_or_broken : FunctionIsSound true (reading_of parts) f ⊎ Broken
  sound_or_broken = by f.code refl
    where
      at : 0 < length f.code → ((m : ℕ) → m < length f.code → KeepsAll parts f m) ⊎ Broken → FunctionIsSound true (reading_of parts) f ⊎ Broken
      at some (inl kept) = inl (code_is_sound (reading_of parts) f (λ n place r. kept n (omega (arith, some, place)) r))
      at some (inr b) = inr b

      by : (code : List Instruction) → f.code ≡ code → FunctionIsSound true (reading_of parts) f ⊎ Broken
      by [] e = inr (0, rule.Target, without_code e)
      by (i ∷ code) e = at (let long = ap length e in omega (arith, long)) (kept_to (length f.code) (omega arith))

-- ---- in an image

module _ (parts : Parts) where
  abbrev image : Reading
  image = reading_of parts

  sound_to : (n : ℕ) → n ≤ length parts.functions → ((g : ℕ) → g < n → FunctionIsSound true image (function_at image g)) ⊎ ((v : Violation) × InFunction image v)
  sound_to zero le = inl (λ g l. absurd (omega (arith, l)))
  sound_to (suc n) le = by (sound_to n (omega (arith, le)))
    where
      at : ((g : ℕ) → g < n → FunctionIsSound true image (function_at image g)) → FunctionIsSound true image (function_at image n) ⊎ Broken parts (function_at image n)
          → ((g : ℕ) → g < suc n → FunctionIsSound true image (function_at image g)) ⊎ ((v : Violation) × InFunction image v)
      at before (inl sound) = inl (λ g l. of g (eq-or-lt_of_le (let h : g ≤ n = omega (arith, l) in h)))
        where
          of : (g : ℕ) → (g ≡ n) ⊎ (g < n) → FunctionIsSound true image (function_at image g)
          of g (inl e) = subst (λ m. FunctionIsSound true image (function_at image m)) (sym e) sound
          of g (inr l) = before g l
      at before (inr b) = inr (record { rule = b.1; function = n; instruction = b.0 }, record { there = omega (arith, le); before = before; first = b.2 })

      by : ((g : ℕ) → g < n → FunctionIsSound true image (function_at image g)) ⊎ ((v : Violation) × InFunction image v)
          → ((g : ℕ) → g < suc n → FunctionIsSound true image (function_at image g)) ⊎ ((v : Violation) × InFunction image v)
      by (inl before) = at before (sound_or_broken parts (function_at image n))
      by (inr v) = inr v

  shaped : (parameters : ℕ) (gives : Option Storage) → (parameters ≡ (function_at image parts.main).parameters) → gives ≡ (function_at image parts.main).result → MainIsFine image ⊎ (MainIsFine image → ⊥)
  shaped zero (Some (storage.Number Int)) e g = inl (record { takes = sym e; gives = sym g })
  shaped zero (Some (storage.Number Unsigned)) e g = inr (λ fine. let h = fine.gives in cc)
  shaped zero (Some (storage.Number Char)) e g = inr (λ fine. let h = fine.gives in cc)
  shaped zero (Some storage.Region) e g = inr (λ fine. let h = fine.gives in cc)
  shaped zero (Some (storage.Pointer t)) e g = inr (λ fine. let h = fine.gives in cc)
  shaped zero None e g = inr (λ fine. let h = fine.gives in cc)
  shaped (suc n) gives e g = inr (λ fine. let h = fine.takes in omega (arith, e, h))

  pub sound_or_first : Sound parts ⊎ ((v : Violation) × FirstViolation parts v)
  sound_or_first = by (sound_to (length parts.functions) (omega arith))
    where
      main : ((g : ℕ) → g < length parts.functions → FunctionIsSound true image (function_at image g)) → MainIsFine image ⊎ (MainIsFine image → ⊥) → Sound parts ⊎ ((v : Violation) × FirstViolation parts v)
      main sound (inl fine) = inl (record { functions = sound; main_takes = fine.takes; main_gives = fine.gives })
      main sound (inr other) = inr (record { rule = rule.Number; function = parts.main; instruction = 0 }, inr (record { functions = sound; shape = other; place = refl }))

      by : ((g : ℕ) → g < length parts.functions → FunctionIsSound true image (function_at image g)) ⊎ ((v : Violation) × InFunction image v) → Sound parts ⊎ ((v : Violation) × FirstViolation parts v)
      by (inl sound) = main sound (shaped (function_at image parts.main).parameters (function_at image parts.main).result refl refl)
      by (inr v) = inr (v.0, inl v.1)
