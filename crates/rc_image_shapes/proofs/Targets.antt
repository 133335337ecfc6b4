-- Targets of jumps.
use Rattle.std.proofs.Common.{◌≡◌, ◌∙◌, ◌⊎◌, inl, inr, ℕ, zero, suc, ◌<◌, ◌≤◌, Bool, true, false, ◌||◌, nat_eq, List, [], ◌∷◌, length, get_or, slice_get, Some, refl, sym, ap, arith, rules}
use Rattle.std.specs.List.{list_any}
use Rattle.rc_code.specs.declared.opcode.Jump.TheVariants as jump
use Rattle.rc_code.specs.declared.instruction.Instruction.{Instruction}
use Rattle.rc_code.specs.declared.instruction.Instruction.TheVariants as instruction
use Rattle.rc_code.specs.declared.image.Function.{Function}
use Rattle.rc_code.specs.Running.{Reading}
use Rattle.rc_code.specs.Soundness.{FunctionIsSound, Targets}
use Rattle.rc_sealed.specs.Carrying.{is_target, jumps_to}

before_eq : (a b : ℕ) → a < b → nat_eq a b ≡ false
before_eq a b lt = by (nat_eq a b) refl
  where
    by : (t : Bool) → nat_eq a b ≡ t → nat_eq a b ≡ false
    by true e = absurd (grind (arith, rules, e, lt))
    by false e = e

-- a jump of a sound function leads to none that isn't there
leads_inside : (image : Reading) (f : Function) (n at : ℕ) (i : Instruction) → length f.code ≤ at → Targets image f n i → jumps_to at i ≡ false
leads_inside image f n at (instruction.Jump jump.Always to) le t = let l = t.1 in before_eq to at (omega (arith, l, le))
leads_inside image f n at (instruction.Jump jump.IfZero to) le t = let l = t.1 in before_eq to at (omega (arith, l, le))
leads_inside image f n at (instruction.Jump jump.Back to) le t = let l = t.1 in before_eq to at (omega (arith, l, le))
leads_inside image f n at (instruction.Constant k v) le t = refl
leads_inside image f n at (instruction.Global g) le t = refl
leads_inside image f n at (instruction.Get x) le t = refl
leads_inside image f n at (instruction.Set x) le t = refl
leads_inside image f n at (instruction.Load p) le t = refl
leads_inside image f n at (instruction.Typed r y) le t = refl
leads_inside image f n at (instruction.Arithmetic a s) le t = refl
leads_inside image f n at (instruction.Move y s d) le t = refl
leads_inside image f n at (instruction.Store p b) le t = refl
leads_inside image f n at (instruction.Simple s) le t = refl
leads_inside image f n at (instruction.Delete pins) le t = refl
leads_inside image f n at (instruction.Call h pins) le t = refl

none_leads : (code : List Instruction) (at : ℕ) → ((n : ℕ) (i : Instruction) → slice_get code n ≡ Some i → jumps_to at i ≡ false) → list_any (jumps_to at) code ≡ false
none_leads [] at h = refl
none_leads (i ∷ code) at h = ap (λ b. b || list_any (jumps_to at) code) (h 0 i refl) ∙ none_leads code at (λ n j e. h (suc n) j e)

pub no_target_outside : (image : Reading) (f : Function) → FunctionIsSound true image f → (at : ℕ) → length f.code ≤ at → is_target f at ≡ false
no_target_outside image f sound at le = none_leads f.code at (λ n i e. leads_inside image f n at i le (sound.fine n i e).targets)

get_beyond : (marks : List Bool) (at : ℕ) → length marks ≤ at → get_or marks at false ≡ false
get_beyond [] at le = refl
get_beyond (b ∷ marks) zero le = absurd (omega (arith, le))
get_beyond (b ∷ marks) (suc at) le = get_beyond marks at (omega (arith, le))

pub targets_told : (image : Reading) (f : Function) → FunctionIsSound true image f → (marks : List Bool) → length marks ≡ length f.code → ((at : ℕ) → at < length f.code → get_or marks at false ≡ list_any (jumps_to at) f.code) → (at : ℕ) → get_or marks at false ≡ is_target f at
targets_told image f sound marks long told at = by (order at (length f.code))
  where
    order : (a b : ℕ) → (a < b) ⊎ (b ≤ a)
    order a b = grind arith

    by : (at < length f.code) ⊎ (length f.code ≤ at) → get_or marks at false ≡ is_target f at
    by (inl lt) = told at lt
    by (inr le) = get_beyond marks at (omega (arith, long, le)) ∙ sym (no_target_outside image f sound at le)
