-- A program is compiled to one image: which checks may go is decided, and that says of each store whether it has a mark.
use Rattle.std.proofs.Common.{◌≡◌, ℕ, suc, Bool, false, List, [], ◌∷◌, ◌++◌, map, get_or, refl, sym, ap, ◌∙◌}
use Rattle.rc_core.specs.Programs.{Program}
use Rattle.rc_core.specs.WellTyped.{IsWellTyped}
use Rattle.rc_rlang.specs.declared.order.Order.TheVariants.{Points}
use Rattle.rc_rlang.specs.RegionCode.{Routine}
use Rattle.rc_rlang.specs.Bounds.{IsWithinBounds}
use Rattle.rc_rlang.specs.Sites.{Site, code_sites}
use Rattle.rc_translation.specs.Translation.{region_of_program}
use Rattle.rc_translation.proofs.RulesTheorem.{fits_together}
use Rattle.rc_edges.proofs.Marks.{marks_decided}
use Rattle.rc_elim.proofs.OneMask.{one_mask}
use Rattle.rc_code.specs.declared.image.Parts.{Parts}
use Rattle.rc_marks.specs.InOrder.{routine_marks, functions_marks}
use Rattle.rc_marks.specs.Marked.{marked_image}
use Rattle.rc_unchecked.specs.Unchecked.{image_with}
use Rattle.rc_unchecked.specs.Compiled.{IsCompiled, HasOneImage}

module _ (m n : (function point : ℕ) → Bool) (same : (g p : ℕ) → m g p ≡ n g p) where
  sites_same : (g : ℕ) (sites : List Site) → map (λ (s : Site). m g s.point) sites ≡ map (λ (s : Site). n g s.point) sites
  sites_same g [] = refl
  sites_same g (s ∷ sites) = ap (λ b. b ∷ map (λ (s : Site). m g s.point) sites) (same g s.point) ∙ ap (λ bits. n g s.point ∷ bits) (sites_same g sites)

  functions_same : (g : ℕ) (fs : List Routine) → functions_marks m g fs ≡ functions_marks n g fs
  functions_same g [] = refl
  functions_same g (f ∷ fs) = ap (λ bits. bits ++ functions_marks m (suc g) fs) (sites_same g (code_sites Points f.body 1)) ∙ ap (λ bits. routine_marks (n g) f ++ bits) (functions_same (suc g) fs)

  pub images_same : (program : Program) → image_with m program ≡ image_with n program
  images_same program = ap (λ (bits : List Bool). marked_image (λ number. get_or bits number false) (region_of_program program)) (functions_same 0 (region_of_program program).functions)

pub one_image : (program : Program) (a b : Parts) → IsCompiled program a → IsCompiled program b → a ≡ b
one_image program a b p q = p.is ∙ images_same p.marks q.marks (one_mask (region_of_program program) p.marks q.marks p.removable q.removable) program ∙ sym q.is

pub some_image : (program : Program) → IsWellTyped program → IsWithinBounds program → (image : Parts) × IsCompiled program image
some_image program well bounds =
    let decided = marks_decided (region_of_program program) (fits_together program well bounds) in
    (image_with decided.0 program, record { marks = decided.0; removable = decided.1; is = refl })

pub has_one_image : (program : Program) → IsWellTyped program → IsWithinBounds program → HasOneImage program
has_one_image program well bounds =
    let found = some_image program well bounds in
    (found.0, found.1, λ other compiled. one_image program other found.0 compiled found.1)
