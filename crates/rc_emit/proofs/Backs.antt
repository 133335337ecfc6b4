-- Steps back lead to places of their function, as the image of region code may be run.
use Rattle.std.proofs.Common.{◌≡◌, ◌<◌, ◌+◌, ℕ, zero, suc, false, List, [], ◌∷◌, length, Some, refl, sym, ap, ◌∙◌, subst, arith}
use Rattle.std.specs.Prelude.{slice_get}
use Rattle.std.specs.List.{AllByRecursion as Every}
use Rattle.rc_core.specs.Types.{Ty}
use Rattle.rc_rlang.specs.RegionCode.{Access, Routine, Rlang}
use Rattle.rc_emission.specs.StackCode as To
use Rattle.rc_emission.specs.StackCode.{Line}
use Rattle.rc_code.specs.declared.image.Function.{Function}
use Rattle.rc_code.specs.Running.{Reading, reading_of, function_at}
use Rattle.rc_code.specs.Soundness.{FunctionIsSound, IsFine}
use Rattle.rc_numbering.specs.Means.{IsNumberable}
use Rattle.rc_numbering.specs.Names.{stack_of}
use Rattle.rc_numbering.specs.Numbered.{numbered, numbered_from, function_of, type_in, path_in, image_of}
use Rattle.rc_numbering.proofs.Rights.{function_found}
use Rattle.rc_numbering.proofs.Rows.{length_mapped}
use Rattle.rc_numbering.proofs.Sounds.{image_sound}
use Rattle.rc_tables.specs.Placed.{BackFits}
use Rattle.rc_emit.specs.Cells.{BacksFit}

every_at : {A : Type 0} (P : A → Type 0) (xs : List A) → ((n : ℕ) (x : A) → slice_get xs n ≡ Some x → P x) → Every P xs
every_at P [] each = tt
every_at P (x ∷ xs) each = (each 0 x refl, every_at P xs (λ n y e. each (suc n) y e))

there_below : {A : Type 0} (xs : List A) (n : ℕ) (x : A) → slice_get xs n ≡ Some x → n < length xs
there_below [] n x e = absurd (cc e)
there_below (y ∷ xs) zero x e = omega arith
there_below (y ∷ xs) (suc n) x e = let l = there_below xs n x e in omega (arith, l)

module _ (number : Ty → ℕ) (path : Access → ℕ) where
  as_long : (at : ℕ) (code : List Line) → length (numbered_from number path at code) ≡ length code
  as_long at [] = refl
  as_long at (l ∷ code) = ap suc (as_long (suc at) code)

  numbered_at : (at n : ℕ) (code : List Line) (l : Line) → slice_get code n ≡ Some l → slice_get (numbered_from number path at code) n ≡ Some (numbered number path (at + n) l.instruction)
  numbered_at at n [] l e = absurd (cc e)
  numbered_at at zero (m ∷ code) l e =
      let q : m ≡ l = cc in
      let z : at ≡ at + 0 = omega arith in
      ap (λ (x : Line). Some (numbered number path at x.instruction)) q ∙ ap (λ k. Some (numbered number path k l.instruction)) z
  numbered_at at (suc n) (m ∷ code) l e = numbered_at (suc at) n code l e ∙ (let z : suc at + n ≡ at + suc n = omega arith in ap (λ k. Some (numbered number path k l.instruction)) z)

  -- of a function that may be run
  module _ (image : Reading) (f : Function) (n : ℕ) where
    back_fits : (i : To.Instruction) → IsFine false image f n (numbered number path (0 + n) i) → BackFits (length f.code) i
    back_fits (To.number s n) fine = tt
    back_fits (To.null ty) fine = tt
    back_fits (To.global g) fine = tt
    back_fits (To.get x) fine = tt
    back_fits (To.set x ty) fine = tt
    back_fits (To.arithmetic o s) fine = tt
    back_fits (To.unary o s) fine = tt
    back_fits To.zero_test fine = tt
    back_fits (To.null_test ty) fine = tt
    back_fits (To.same ty) fine = tt
    back_fits (To.convert to) fine = tt
    back_fits (To.move ty s d) fine = tt
    back_fits (To.load a) fine = tt
    back_fits (To.store a) fine = tt
    back_fits To.new_region fine = tt
    back_fits To.new_subregion fine = tt
    back_fits (To.region_of ty) fine = tt
    back_fits (To.allocate ty layout) fine = tt
    back_fits (To.allocate_array ty layout) fine = tt
    back_fits (To.delete pins) fine = tt
    back_fits (To.call f tys pins) fine = tt
    back_fits (To.perform f tys pins) fine = tt
    back_fits (To.leave tys) fine = tt
    back_fits To.putchar fine = tt
    back_fits To.getchar fine = tt
    back_fits (To.jump n) fine = tt
    back_fits (To.jump_zero n) fine = tt
    back_fits (To.back to) fine = let l = fine.targets.1 in omega (arith, l)
    back_fits To.pop fine = tt

module _ (r : Rlang) (numberable : IsNumberable r) where
  backs_of : (f : Routine) (h : Function) → FunctionIsSound false (reading_of (image_of r)) h → function_of (type_in r) (path_in r) (stack_of r f) f ≡ h → Every (λ (l : Line). BackFits (length (stack_of r f).code) l.instruction) (stack_of r f).code
  backs_of f h sound e =
      let code = (stack_of r f).code in
      let own : FunctionIsSound false (reading_of (image_of r)) (function_of (type_in r) (path_in r) (stack_of r f) f) = subst (FunctionIsSound false (reading_of (image_of r))) (sym e) sound in
      let long : length (numbered_from (type_in r) (path_in r) 0 code) ≡ length code = as_long (type_in r) (path_in r) 0 code in
      every_at (λ (l : Line). BackFits (length code) l.instruction) code
      (λ n l q. subst (λ m. BackFits m l.instruction) long (back_fits (type_in r) (path_in r) (reading_of (image_of r)) (function_of (type_in r) (path_in r) (stack_of r f) f) n l.instruction (own.fine n (numbered (type_in r) (path_in r) (0 + n) l.instruction) (numbered_at (type_in r) (path_in r) 0 n code l q))))

  pub backs_fit : BacksFit r
  backs_fit k f e =
      let sound = image_sound r numberable in
      let below : k < length (image_of r).functions = (let l = there_below r.functions k f e in let m = length_mapped (λ g. function_of (type_in r) (path_in r) (stack_of r g) g) r.functions in omega (arith, l, m)) in
      backs_of f (function_at (reading_of (image_of r)) k) (sound.functions k below) (sym (function_found r k f e))
