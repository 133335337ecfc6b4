-- The examples compute.
use Rattle.std.proofs.Common.{◌≡◌, ℕ, zero, suc, ◌+◌, true, List, [], ◌∷◌, slice_get, Some, refl, sym, subst, arith}
use Rattle.rc_code.specs.declared.opcode.Jump.TheVariants as jump
use Rattle.rc_code.specs.declared.opcode.Simple.TheVariants as simple
use Rattle.rc_code.specs.declared.instruction.Instruction.{Instruction}
use Rattle.rc_code.specs.declared.instruction.Instruction.TheVariants as instruction
use Rattle.rc_code.specs.declared.image.Function.{Function}
use Rattle.rc_code.specs.Running.{Reading, reading_of, function_at}
use Rattle.rc_code.specs.Soundness.{IsFine, FunctionIsSound, Sound, ends}
use Rattle.rc_worlds.specs.Examples.{only, hello, Examples}

-- where each instruction of a list is fine, counted from a number
abbrev AllFine : Reading → Function → List Instruction → ℕ → Type 0
AllFine image f [] n = Unit {0}
AllFine image f (i ∷ is) n = IsFine true image f n i × AllFine image f is (suc n)

fine_from : (image : Reading) (f : Function) (is : List Instruction) (n : ℕ) → AllFine image f is n → (k : ℕ) (i : Instruction) → slice_get is k ≡ Some i → IsFine true image f (n + k) i
fine_from image f [] n all zero i e = cc
fine_from image f [] n all (suc k) i e = cc
fine_from image f (x ∷ is) n all zero i e =
    let same : x ≡ i = cc in
    let at : n ≡ n + 0 = omega arith in
    subst (λ m. IsFine true image f m i) at (subst (λ (j : Instruction). IsFine true image f n j) same all.0)
fine_from image f (x ∷ is) n all (suc k) i e = let at : suc n + k ≡ n + suc k = omega arith in subst (λ m. IsFine true image f m i) at (fine_from image f is (suc n) all.1 k i e)

abbrev image : Reading
image = reading_of hello

abbrev main : Function
main = function_at image 0

all_fine : AllFine image main main.code 0
all_fine = (
  record { names = tt; operands = ([], refl); targets = tt; empty = tt },
  (
    record { names = tt; operands = ([], refl); targets = tt; empty = tt },
    (
      record { names = tt; operands = (_, [], refl); targets = tt; empty = tt },
      (
        record { names = tt; operands = ([], refl); targets = tt; empty = tt },
        (
          record { names = tt; operands = ([], refl); targets = tt; empty = refl },
          tt,
        ),
      ),
    ),
  ),
)

main_is_sound : FunctionIsSound true image main
main_is_sound = record {
  begins = omega arith;
  fine = λ n i e. let at : 0 + n ≡ n = omega arith in subst (λ m. IsFine true image main m i) at (fine_from image main main.code 0 all_fine n i e);
  last = λ n i e last.
      let is : n ≡ 4 = omega (arith, last) in
      let there : slice_get main.code 4 ≡ Some i = subst (λ m. slice_get main.code m ≡ Some i) is e in
      let same : instruction.Simple simple.Return ≡ i = cc in
      subst (λ (j : Instruction). ends j ≡ true) same refl;
}

hello_sound : Sound hello
hello_sound = record {
  functions = λ f there. let is : f ≡ 0 = omega (arith, there) in subst (λ n. FunctionIsSound true image (function_at image n)) (sym is) main_is_sound;
  main_takes = refl;
  main_gives = refl;
}

-- an instruction of a sound image of one function is fine
fine_in : (code : List Instruction) → Sound (only code) → (n : ℕ) (i : Instruction) → slice_get (function_at (reading_of (only code)) 0).code n ≡ Some i → IsFine true (reading_of (only code)) (function_at (reading_of (only code)) 0) n i
fine_in code sound n i e = (sound.functions 0 (omega arith)).fine n i e

pub examples : Examples
examples = record {
  hello_writes = refl;
  hello_needs_a_turn = refl;
  hello_is_sound = hello_sound;
  dead_region_is_touched = refl;
  value_is_read = refl;
  pinned_value_is_a_reference = refl;
  jump_out_of_the_code = λ sound. let t = (fine_in (instruction.Jump jump.Always 9 ∷ []) sound 0 (instruction.Jump jump.Always 9) refl).targets in let l = t.1 in omega (arith, l);
  jump_to_itself = λ sound. let t = (fine_in (instruction.Jump jump.Always 0 ∷ []) sound 0 (instruction.Jump jump.Always 0) refl).targets in let l = t.0 in omega (arith, l);
  result_is_missing = λ sound. let e = (fine_in (instruction.Simple simple.Return ∷ []) sound 0 (instruction.Simple simple.Return) refl).operands.1 in cc;
  result_of_another_kind = λ sound. let e = (fine_in (instruction.Simple simple.NewRegion ∷ instruction.Simple simple.Return ∷ []) sound 1 (instruction.Simple simple.Return) refl).operands.1 in cc;
  function_is_missing = λ sound. let l = (fine_in (instruction.Call 5 [] ∷ []) sound 0 (instruction.Call 5 []) refl).names.0 in omega (arith, l);
}
