-- With its marks taken away, the image with marks is the image without.
use Rattle.std.proofs.Common.{◌≡◌, ℕ, suc, ◌+◌, Bool, List, [], ◌∷◌, map, length, refl, ap, ◌∙◌}
use Rattle.rc_core.specs.Types.{int, unsigned, char, region, struct, pointer}
use Rattle.rc_rlang.specs.RegionCode.{Routine, Rlang}
use Rattle.rc_emission.specs.StackCode.{Line}
use Rattle.rc_emission.specs.StackCode as From
use Rattle.rc_numbering.specs.Names.{stack_of}
use Rattle.rc_numbering.specs.Numbered.{numbered, numbered_from, function_of, type_in, path_in, image_of}
use Rattle.rc_loader.specs.Unmarked.{unmarked_instruction, unmarked_function, unmarked}
use Rattle.rc_marks.specs.Stores.{written_one, written}
use Rattle.rc_marks.specs.Marked.{marked_one, marked_from, marked_functions, marked_image}

module _ (r : Rlang) (mask : ℕ → Bool) where
  bare_one : (n at : ℕ) (i : From.Instruction) → unmarked_instruction (marked_one (type_in r) (path_in r) mask n at i) ≡ numbered (type_in r) (path_in r) at i
  bare_one n at (From.number s k) = refl
  bare_one n at (From.null int) = refl
  bare_one n at (From.null unsigned) = refl
  bare_one n at (From.null char) = refl
  bare_one n at (From.null region) = refl
  bare_one n at (From.null (struct k)) = refl
  bare_one n at (From.null (pointer note target)) = refl
  bare_one n at (From.global g) = refl
  bare_one n at (From.get x) = refl
  bare_one n at (From.set x ty) = refl
  bare_one n at (From.arithmetic o s) = refl
  bare_one n at (From.unary o s) = refl
  bare_one n at From.zero_test = refl
  bare_one n at (From.null_test int) = refl
  bare_one n at (From.null_test unsigned) = refl
  bare_one n at (From.null_test char) = refl
  bare_one n at (From.null_test region) = refl
  bare_one n at (From.null_test (struct k)) = refl
  bare_one n at (From.null_test (pointer note target)) = refl
  bare_one n at (From.same int) = refl
  bare_one n at (From.same unsigned) = refl
  bare_one n at (From.same char) = refl
  bare_one n at (From.same region) = refl
  bare_one n at (From.same (struct k)) = refl
  bare_one n at (From.same (pointer note target)) = refl
  bare_one n at (From.convert to) = refl
  bare_one n at (From.move ty s direction) = refl
  bare_one n at (From.load a) = refl
  bare_one n at (From.store a) = refl
  bare_one n at From.new_region = refl
  bare_one n at From.new_subregion = refl
  bare_one n at (From.region_of ty) = refl
  bare_one n at (From.allocate ty layout) = refl
  bare_one n at (From.allocate_array ty layout) = refl
  bare_one n at (From.delete pins) = refl
  bare_one n at (From.call g tys pins) = refl
  bare_one n at (From.perform g tys pins) = refl
  bare_one n at (From.leave tys) = refl
  bare_one n at From.putchar = refl
  bare_one n at From.getchar = refl
  bare_one n at (From.jump k) = refl
  bare_one n at (From.jump_zero k) = refl
  bare_one n at (From.back to) = refl
  bare_one n at From.pop = refl

  bare_lines : (n at : ℕ) (lines : List Line) → map unmarked_instruction (marked_from (type_in r) (path_in r) mask n at lines) ≡ numbered_from (type_in r) (path_in r) at lines
  bare_lines n at [] = refl
  bare_lines n at (l ∷ lines) =
      ap (λ i. i ∷ map unmarked_instruction (marked_from (type_in r) (path_in r) mask (n + length (written_one l.line l.instruction)) (suc at) lines)) (bare_one n at l.instruction)
      ∙ ap (λ is. numbered (type_in r) (path_in r) at l.instruction ∷ is) (bare_lines (n + length (written_one l.line l.instruction)) (suc at) lines)

  bare_functions : (n : ℕ) (fs : List Routine) → map unmarked_function (marked_functions mask r n fs) ≡ map (λ f. function_of (type_in r) (path_in r) (stack_of r f) f) fs
  bare_functions n [] = refl
  bare_functions n (f ∷ fs) =
      ap (λ is. record (function_of (type_in r) (path_in r) (stack_of r f) f) { code = is } ∷ map unmarked_function (marked_functions mask r (n + length (written (stack_of r f).code)) fs)) (bare_lines n 0 (stack_of r f).code)
      ∙ ap (λ gs. function_of (type_in r) (path_in r) (stack_of r f) f ∷ gs) (bare_functions (n + length (written (stack_of r f).code)) fs)

  pub bare_image : unmarked (marked_image mask r) ≡ image_of r
  bare_image = ap (λ fs. record (image_of r) { functions = fs }) (bare_functions 0 r.functions)
