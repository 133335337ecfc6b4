-- Where operands stand.
use Rattle.std.proofs.Common.{◌≡◌, ◌∙◌, ℕ, zero, suc, ◌+◌, ◌-◌, ◌<◌, ◌≤◌, Bool, true, false, List, [], ◌∷◌, length, drop, get_or, refl, sym, ap, arith, length-append, length-drop}
use Rattle.std.specs.List.{AllByRecursion as Every}
use Rattle.std.proofs.lemmas.Option.{slice_get-get_or}
use Rattle.rc_code.specs.declared.opcode.Simple.TheVariants as simple
use Rattle.rc_code.specs.declared.instruction.Instruction.{Instruction}
use Rattle.rc_code.specs.declared.instruction.Instruction.TheVariants as instruction
use Rattle.rc_code.specs.declared.image.Function.{Function}
use Rattle.rc_code.specs.declared.image.Parts.{Parts}
use Rattle.rc_code.specs.Image.{FieldsFit, FunctionFits}
use Rattle.rc_code.specs.Running.{Reading, reading_of, function_at, no_function}
use Rattle.rc_code.specs.Soundness.{FunctionIsSound, IsFine, Names, count_off, gives, instruction_at, kinds_before}
use Rattle.rc_claims.specs.Counts.{place}
use Rattle.rc_sealed.specs.ImageVariables.{greater, result_variable, variables}
use Rattle.rc_sealed.specs.Carrying.{height, is_target, lowest, reach}
use Rattle.rc_sealed.proofs.Carry.{greater_left, height_bound}
use Rattle.rc_image_effects.specs.Arguments.{LocalIs}
use Rattle.rc_image_shapes.specs.declared.shape.Shape.{Shape}
use Rattle.rc_image_shapes.specs.Shapes.{IsShape}
use Rattle.rc_image_steps.specs.Sites.{named_local}

pub target_is : (shape : Shape) (at : ℕ) (b : Bool) (image : Reading) (f : Function) → b ≡ get_or shape.targets.items at false → IsShape image f shape → b ≡ is_target f at
target_is shape at b image f e is = e ∙ is.targets at

pub place_is : (first j v : ℕ) (image : Reading) (f : Function) (shape : Shape) → IsShape image f shape → v ≡ shape.first + j → v ≡ place f j
place_is first j v image f shape is e = let p = is.first in omega (arith, p, e)

pub local_is : (image : Reading) (f : Function) (shape : Shape) → IsShape image f shape → (i : Instruction) → Names true image f i → (n v : ℕ) → n ≡ named_local i → v ≡ get_or shape.locals.items n 0 → LocalIs f v i
local_is image f shape is (instruction.Get x) names n v e d = d ∙ ap (λ m. get_or shape.locals.items m 0) e ∙ is.locals x names
local_is image f shape is (instruction.Set x) names n v e d = d ∙ ap (λ m. get_or shape.locals.items m 0) e ∙ is.locals x names
local_is image f shape is i names n v e d = tt

every_at : {A : Type 0} (P : A → Type 0) (xs : List A) (d : A) → Every P xs → (i : ℕ) → i < length xs → P (get_or xs i d)
every_at P [] d all i lt = absurd (omega (arith, lt))
every_at P (x ∷ xs) d all zero lt = all.0
every_at P (x ∷ xs) d all (suc i) lt = every_at P xs d all.1 i (omega (arith, lt))

pub function_fits : (parts : Parts) → FieldsFit parts → (g : ℕ) → g < length parts.functions → FunctionFits (length parts.types) (function_at (reading_of parts) g)
function_fits parts fields g there = every_at (FunctionFits (length parts.types)) parts.functions no_function fields.functions g there

pub is_fine : (image : Reading) (f : Function) → FunctionIsSound true image f → (at : ℕ) → at < length f.code → IsFine true image f at (instruction_at f at)
is_fine image f sound at lt = sound.fine at (instruction_at f at) (slice_get-get_or f.code at (instruction.Simple simple.Return) lt)

module _ (image : Reading) (f : Function) where
  pub height_fits : (at : ℕ) → at ≤ length f.code → place f (height image f at) ≤ result_variable image f
  height_fits at le = let b = height_bound image f at (length f.code) le in omega (arith, b)

  pub lowest_below : (at : ℕ) → lowest image f at ≤ height image f at
  lowest_below at = let e = length-drop (count_off image f (instruction_at f at)) (kinds_before image f at) in omega (arith, e)

  pub lowest_is : (at h low : ℕ) → h ≡ height image f at → low ≡ h - count_off image f (instruction_at f at) → low ≡ lowest image f at
  lowest_is at h low here is = is ∙ ap (λ n. n - count_off image f (instruction_at f at)) here ∙ sym (length-drop (count_off image f (instruction_at f at)) (kinds_before image f at))

  next_is : (at : ℕ) → height image f (suc at) ≡ lowest image f at + length (gives image f (instruction_at f at))
  next_is at =
      let e = length-append (gives image f (instruction_at f at)) (drop (count_off image f (instruction_at f at)) (kinds_before image f at)) in
      let c : length (gives image f (instruction_at f at)) + lowest image f at ≡ lowest image f at + length (gives image f (instruction_at f at)) = omega arith in
      e ∙ c

  pub reach_is : (at h next most : ℕ) → h ≡ height image f at → next ≡ height image f (suc at) → most ≡ greater h next → most ≡ reach image f at
  reach_is at h next most here behind is = is ∙ ap (λ n. greater n next) here ∙ ap (greater (height image f at)) (behind ∙ next_is at)

  pub reach_fits : (at : ℕ) → at < length f.code → place f (reach image f at) ≤ result_variable image f
  reach_fits at lt =
      let b = height_bound image f at (length f.code) (omega (arith, lt)) in
      let n = height_bound image f (suc at) (length f.code) (omega (arith, lt)) in
      let e = next_is at in
      let m = most (height image f at) (lowest image f at + length (gives image f (instruction_at f at))) _ b (omega (arith, n, e)) in
      omega (arith, m)
    where
      most : (a b n : ℕ) → a ≤ n → b ≤ n → greater a b ≤ n
      most a b n la lb = by (Rattle.std.proofs.Common.nat_lt a b) refl
        where
          by : (t : Bool) → Rattle.std.proofs.Common.nat_lt a b ≡ t → greater a b ≤ n
          by true e = rw e lb
          by false e = rw e la

  pub low_reaches : (at : ℕ) → place f (lowest image f at) ≤ place f (reach image f at)
  low_reaches at =
      let l = lowest_below at in
      let g = greater_left (height image f at) (lowest image f at + length (gives image f (instruction_at f at))) in
      omega (arith, l, g)

  pub place_fits : (first at j : ℕ) → first ≡ place f 0 → variables image f ≤ 128 → at ≤ length f.code → j ≤ height image f at → first + j ≤ 128
  place_fits first at j e narrow le small = let b = height_bound image f at (length f.code) le in omega (arith, e, narrow, b, small)

  pub reach_is_narrow : (first at j : ℕ) → first ≡ place f 0 → variables image f ≤ 128 → at < length f.code → j ≡ reach image f at → first + j ≤ 128
  reach_is_narrow first at j e narrow lt is = let r = reach_fits at lt in omega (arith, e, narrow, r, is)
