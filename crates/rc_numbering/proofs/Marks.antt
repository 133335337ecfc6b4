-- No store of the image has a mark, so marks may be allowed, and each is right.
use Rattle.std.proofs.Common.{◌≡◌, ◌<◌, ℕ, zero, suc, true, false, List, [], ◌∷◌, length, get_or, Some, refl, arith}
use Rattle.std.proofs.lemmas.Bool.{false≢true}
use Rattle.std.specs.Prelude.{slice_get}
use Rattle.rc_rlang.specs.RegionCode.{Rlang}
use Rattle.rc_code.specs.declared.instruction.Instruction.{Instruction}
use Rattle.rc_code.specs.declared.instruction.Instruction.TheVariants as instruction
use Rattle.rc_code.specs.declared.image.Function.{Function}
use Rattle.rc_code.specs.Running.{Reading, reading_of, function_at, no_function}
use Rattle.rc_code.specs.Soundness.{Names, FunctionIsSound, Sound}
use Rattle.rc_code.specs.Faithful.{Faithful}
use Rattle.rc_numbering.specs.Numbered.{image_of}
use Rattle.rc_numbering.specs.Means.{IsNumberable}
use Rattle.rc_numbering.proofs.Sounds.{image_sound}

allowed : (code : Reading) (f : Function) (i : Instruction) → Names false code f i → Names true code f i
allowed code f (instruction.Constant s n) names = names
allowed code f (instruction.Global n) names = names
allowed code f (instruction.Get n) names = names
allowed code f (instruction.Set n) names = names
allowed code f (instruction.Load n) names = names
allowed code f (instruction.Typed row n) names = names
allowed code f (instruction.Arithmetic row s) names = names
allowed code f (instruction.Move n s d) names = names
allowed code f (instruction.Store n proved) names = (names.0, λ e. absurd (false≢true (names.1 e).0))
allowed code f (instruction.Simple row) names = names
allowed code f (instruction.Delete pins) names = names
allowed code f (instruction.Call n pins) names = names
allowed code f (instruction.Jump row n) names = names

function_allowed : (code : Reading) (f : Function) → FunctionIsSound false code f → FunctionIsSound true code f
function_allowed code f sound = record {
  begins = sound.begins;
  fine = λ n i e. let fine = sound.fine n i e in record { names = allowed code f i fine.names; operands = fine.operands; targets = fine.targets; empty = fine.empty };
  last = sound.last;
}

module _ (r : Rlang) (numberable : IsNumberable r) where
  pub with_marks : Sound (image_of r)
  with_marks =
      let sound = image_sound r numberable in
      record {
        functions = λ k lt. function_allowed (reading_of (image_of r)) (function_at (reading_of (image_of r)) k) (sound.functions k lt);
        main_takes = sound.main_takes;
        main_gives = sound.main_gives;
      }

  below : (fs : List Function) (k : ℕ) (at : ℕ) (i : Instruction) → slice_get (get_or fs k no_function).code at ≡ Some i → k < length fs
  below [] k at i e = absurd (cc e)
  below (f ∷ fs) zero at i e = omega arith
  below (f ∷ fs) (suc k) at i e = let l = below fs k at i e in omega (arith, l)

  -- there is no marked store to come to
  no_mark : (k at path : ℕ) → slice_get (function_at (reading_of (image_of r)) k).code at ≡ Some (instruction.Store path true) → ⊥
  no_mark k at path e =
      let sound = (image_sound r numberable).functions k (below (image_of r).functions k at (instruction.Store path true) e) in
      false≢true ((sound.fine at (instruction.Store path true) e).names.1 refl).0

  pub image_faithful : Faithful (image_of r)
  image_faithful input bytes limits n s w path comes there = absurd (no_mark s.function s.at path there)
