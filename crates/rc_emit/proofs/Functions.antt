-- The functions of an image, one after another.
use Rattle.std.proofs.Common.{◌≡◌, ◌<◌, ◌+◌, ◌++◌, ℕ, zero, suc, List, [], ◌∷◌, length, map, take, get_or, Some, refl, sym, ap, ◌∙◌}
use Rattle.std.specs.Prelude.{slice_get}
use Rattle.std.proofs.lemmas.Option.{slice_get-get_or}
use Rattle.std.proofs.lemmas.List.{map_push}
use Rattle.rc_rlang.specs.RegionCode.{Routine, Rlang}
use Rattle.rc_code.specs.declared.image.Function.{Function}
use Rattle.rc_lines.specs.declared.function_code.FunctionCode.{FunctionCode}
use Rattle.rc_lines.specs.ProgramCode.{bare_function, function_of as code_function, IsProgramCode}
use Rattle.rc_numbering.specs.Names.{stack_of}
use Rattle.rc_numbering.specs.Numbered.{function_of}
use Rattle.rc_tables.proofs.Taken.{map_more}
use Rattle.rc_tables.proofs.Bared.{code_at}
use Rattle.rc_tables.specs.Placed.{path_number, type_number, in_place}
use Rattle.rc_tables.specs.declared.numbers.Numbers.{Numbers}
use Rattle.rc_tables.proofs.Placing.{function_same}
use Rattle.rc_emit.specs.Cells.{BacksFit}

there_mapped : {A B : Type 0} (g : A → B) (xs : List A) (n : ℕ) (x : A) → slice_get xs n ≡ Some x → slice_get (map g xs) n ≡ Some (g x)
there_mapped g [] n x e = absurd (cc e)
there_mapped g (y ∷ xs) zero x e = let q : y ≡ x = cc in ap (λ z. Some (g z)) q
there_mapped g (y ∷ xs) (suc n) x e = there_mapped g xs n x e

module _ {C : Type 0} (n : Numbers) (r : Rlang) (routine : C → Routine) (routines : List C) (whole : r.functions ≡ map routine routines) where
  pub one_function : (cs : List FunctionCode) → IsProgramCode r cs → BacksFit r → (k : ℕ) (c : FunctionCode) (x : C) → k < length routines → c ≡ get_or cs k c → x ≡ get_or routines k x → function_of (type_number n) (path_number n) (in_place (code_function c)) (routine x) ≡ function_of (type_number n) (path_number n) (stack_of r (routine x)) (routine x)
  one_function cs is fit k c x h p q =
      let there : slice_get r.functions k ≡ Some (routine x) = ap (λ fs. slice_get fs k) whole ∙ there_mapped routine routines k x (slice_get-get_or routines k x h ∙ ap Some (sym q)) in
      function_same (type_number n) (path_number n) (λ a. refl) r (routine x) c (code_at (stack_of r) routine cs routines (is ∙ ap (λ fs. map bare_function (map (stack_of r) fs)) whole) k c x h p q) (fit k (routine x) there)

  pub function_step : (i : ℕ) (x : C) (functions now : List Function) (f : Function) → i < length routines → x ≡ get_or routines i x → functions ≡ map (λ g. function_of (type_number n) (path_number n) (stack_of r g) g) (map routine (take i routines)) → f ≡ function_of (type_number n) (path_number n) (stack_of r (routine x)) (routine x) → now ≡ functions ++ f ∷ [] → now ≡ map (λ g. function_of (type_number n) (path_number n) (stack_of r g) g) (map routine (take (i + 1) routines))
  function_step i x functions now f h q e one m =
      let made = λ (g : Routine). function_of (type_number n) (path_number n) (stack_of r g) g in
      m ∙ ap (λ fs. fs ++ f ∷ []) e ∙ ap (λ g. map made (map routine (take i routines)) ++ g ∷ []) one
      ∙ sym (map_push made (map routine (take i routines)) (routine x))
      ∙ ap (map made) (sym (map_more routines i x h q routine))
