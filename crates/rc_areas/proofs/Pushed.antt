-- One more object of an area.
use Rattle.std.proofs.Common.{◌≡◌, ◌<◌, ℕ, List, [], ◌∷◌, ◌++◌, length, replicate, arith, length-append}
use Rattle.std.proofs.lemmas.List.{length-replicate}
use Rattle.std.proofs.lemmas.List.Sums.{sum_by_push}
use Rattle.rc_store.specs.Kept.{blank}
use Rattle.rc_areas.specs.Shapes.{Shape}
use Rattle.rc_areas.specs.Areas.{AreaState, IsLaid, objects_of, shape_of, size_in}
use Rattle.rc_areas.specs.declared.head.Head.{Head}
use Rattle.rc_areas.proofs.Objects.{laid_more, objects_more}

module _ (shapes : List Shape) (a : AreaState) (laid : IsLaid shapes a) (h : Head) (start : h.start ≡ length a.codes) (inside : h.shape < length shapes) where
  abbrev pub more : AreaState
  more = record { heads = a.heads ++ h ∷ []; codes = a.codes ++ replicate (size_in shapes h) 0 }

  pub pushed_laid : IsLaid shapes more
  pushed_laid = record {
    heads = laid_more shapes a.heads 0 h laid.heads (omega (arith, start, laid.cells)) inside;
    cells = omega (arith, length-append a.codes (replicate (size_in shapes h) 0), length-replicate {A = ℕ} (size_in shapes h) 0, sum_by_push (size_in shapes) a.heads h, laid.cells);
  }

  pub pushed_objects : objects_of shapes more ≡ objects_of shapes a ++ blank (shape_of shapes h) h.count ∷ []
  pushed_objects = objects_more shapes a.heads a.codes h laid.cells
