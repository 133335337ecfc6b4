-- Where the run may go from an instruction.
use Rattle.std.proofs.Common.{◌≡◌, ◌⊎◌, inl, inr, ℕ, suc, true, false, ◌↔◌, refl}
use Rattle.rc_code.specs.declared.opcode.Simple.TheVariants as simple
use Rattle.rc_code.specs.declared.opcode.Jump.TheVariants as jump
use Rattle.rc_code.specs.declared.instruction.Instruction.{Instruction}
use Rattle.rc_code.specs.declared.instruction.Instruction.TheVariants as instruction
use Rattle.rc_sealed.specs.Proved.{Way}
use Rattle.rc_image_steps.specs.Ways.{ways_of}

abbrev pub Leads : Instruction → (at to : ℕ) → Type 0
Leads i at to = (((ways_of i).falls ≡ true) × (to ≡ suc at)) ⊎ (((ways_of i).leads ≡ true) × (to ≡ (ways_of i).to))

-- of an instruction that only falls
falling : (at to : ℕ) → (to ≡ suc at) ↔ (((true ≡ true) × (to ≡ suc at)) ⊎ ((false ≡ true) × (to ≡ 0)))
falling at to = (λ e. inl (refl, e), back)
  where
    back : (((true ≡ true) × (to ≡ suc at)) ⊎ ((false ≡ true) × (to ≡ 0))) → to ≡ suc at
    back (inl h) = h.1
    back (inr h) = let x = h.0 in cc

-- of one that only leads to a target
leading : (at to target : ℕ) → (to ≡ target) ↔ (((false ≡ true) × (to ≡ suc at)) ⊎ ((true ≡ true) × (to ≡ target)))
leading at to target = (λ e. inr (refl, e), back)
  where
    back : (((false ≡ true) × (to ≡ suc at)) ⊎ ((true ≡ true) × (to ≡ target))) → to ≡ target
    back (inl h) = let x = h.0 in cc
    back (inr h) = h.1

pub way_leads : (i : Instruction) (at to : ℕ) → Way i at to ↔ Leads i at to
way_leads (instruction.Jump jump.Always target) at to = leading at to target
way_leads (instruction.Jump jump.Back target) at to = leading at to target
way_leads (instruction.Jump jump.IfZero target) at to = (there, back)
  where
    there : (to ≡ target) ⊎ (to ≡ suc at) → (((true ≡ true) × (to ≡ suc at)) ⊎ ((true ≡ true) × (to ≡ target)))
    there (inl e) = inr (refl, e)
    there (inr e) = inl (refl, e)

    back : (((true ≡ true) × (to ≡ suc at)) ⊎ ((true ≡ true) × (to ≡ target))) → (to ≡ target) ⊎ (to ≡ suc at)
    back (inl h) = inr h.1
    back (inr h) = inl h.1
way_leads (instruction.Simple simple.Return) at to = (λ e. absurd e, back)
  where
    back : (((false ≡ true) × (to ≡ suc at)) ⊎ ((false ≡ true) × (to ≡ 0))) → ⊥
    back (inl h) = let x = h.0 in cc
    back (inr h) = let x = h.0 in cc
way_leads (instruction.Simple simple.NullRegion) at to = falling at to
way_leads (instruction.Simple simple.SameRegion) at to = falling at to
way_leads (instruction.Simple simple.IsZero) at to = falling at to
way_leads (instruction.Simple simple.IsNullRegion) at to = falling at to
way_leads (instruction.Simple simple.ToInt) at to = falling at to
way_leads (instruction.Simple simple.ToUnsigned) at to = falling at to
way_leads (instruction.Simple simple.ToChar) at to = falling at to
way_leads (instruction.Simple simple.NewRegion) at to = falling at to
way_leads (instruction.Simple simple.NewSubregion) at to = falling at to
way_leads (instruction.Simple simple.PutChar) at to = falling at to
way_leads (instruction.Simple simple.GetChar) at to = falling at to
way_leads (instruction.Simple simple.Pop) at to = falling at to
way_leads (instruction.Constant k v) at to = falling at to
way_leads (instruction.Global g) at to = falling at to
way_leads (instruction.Get x) at to = falling at to
way_leads (instruction.Set x) at to = falling at to
way_leads (instruction.Load p) at to = falling at to
way_leads (instruction.Store p b) at to = falling at to
way_leads (instruction.Typed r y) at to = falling at to
way_leads (instruction.Arithmetic a k) at to = falling at to
way_leads (instruction.Move y k d) at to = falling at to
way_leads (instruction.Delete pins) at to = falling at to
way_leads (instruction.Call g pins) at to = falling at to

-- only a return leaves
pub leaves_return : (i : Instruction) → (ways_of i).leaves ≡ true → i ≡ instruction.Simple simple.Return
leaves_return (instruction.Simple simple.Return) e = refl
leaves_return (instruction.Simple simple.NullRegion) e = cc
leaves_return (instruction.Simple simple.SameRegion) e = cc
leaves_return (instruction.Simple simple.IsZero) e = cc
leaves_return (instruction.Simple simple.IsNullRegion) e = cc
leaves_return (instruction.Simple simple.ToInt) e = cc
leaves_return (instruction.Simple simple.ToUnsigned) e = cc
leaves_return (instruction.Simple simple.ToChar) e = cc
leaves_return (instruction.Simple simple.NewRegion) e = cc
leaves_return (instruction.Simple simple.NewSubregion) e = cc
leaves_return (instruction.Simple simple.PutChar) e = cc
leaves_return (instruction.Simple simple.GetChar) e = cc
leaves_return (instruction.Simple simple.Pop) e = cc
leaves_return (instruction.Jump jump.Always to) e = cc
leaves_return (instruction.Jump jump.IfZero to) e = cc
leaves_return (instruction.Jump jump.Back to) e = cc
leaves_return (instruction.Constant k v) e = cc
leaves_return (instruction.Global g) e = cc
leaves_return (instruction.Get x) e = cc
leaves_return (instruction.Set x) e = cc
leaves_return (instruction.Load p) e = cc
leaves_return (instruction.Store p b) e = cc
leaves_return (instruction.Typed r y) e = cc
leaves_return (instruction.Arithmetic a k) e = cc
leaves_return (instruction.Move y k d) e = cc
leaves_return (instruction.Delete pins) e = cc
leaves_return (instruction.Call g pins) e = cc
