-- A pass begins at a target.
use Rattle.std.proofs.Common.{◌≡◌, ℕ, zero, suc, Bool, true, false, IsTrue, ◌↔◌, List, subst}
use Rattle.std.proofs.lemmas.Bool.{and_parts}
use Rattle.rc_facts.specs.declared.fact.Fact.{Fact}
use Rattle.rc_facts.specs.Derivable.{Derivable, stated}
use Rattle.rc_facts.specs.Facts.{Known, holds}
use Rattle.rc_annotations.specs.Annotations.{Facts, Annotation}
use Rattle.rc_annotations.proofs.Derivations.{derivable_cut}
use Rattle.rc_facts.specs.Flow.{set_at}
use Rattle.rc_code.specs.declared.image.Function.{Function}
use Rattle.rc_code.specs.Running.{Reading, function_at}
use Rattle.rc_sealed.specs.ImageVariables.{variables}
use Rattle.rc_sealed.specs.Carrying.{is_target, either, Begins, Carried, Before}
use Rattle.rc_prove_parts.specs.declared.spot.Spot.{Spot}
use Rattle.rc_prove_parts.specs.declared.spot.Place.{Place}
use Rattle.rc_prove.specs.Sets.{Sets, rank, IsIn}
use Rattle.rc_prove.specs.Passing.{before_at, Reached}
use Rattle.rc_prove.specs.Visiting.{WentThrough}
use Rattle.rc_prove.specs.Lowering.{LooksFrom, Lessens}
use Rattle.rc_prove.proofs.Anew.{frame_ready}
use Rattle.rc_prove.proofs.Carrying.{each_is}
use Rattle.rc_prove.proofs.Lowering.{lowers_none}

-- what is known there is what is claimed there
claimed_there : (image : Reading) (g at : ℕ) (proofs : Annotation) (q : Fact) → is_target (function_at image g) at ≡ true → before_at image g at proofs q → IsTrue (proofs.before g at q)
claimed_there image g zero proofs q is b = subst (λ (b : Bool). either b (IsTrue (proofs.before g 0 q)) (Begins image proofs g q)) is b
claimed_there image g (suc at) proofs q is b = subst (λ (b : Bool). either b (IsTrue (proofs.before g (suc at) q)) (Carried image proofs g at (Before image proofs g at) q)) is b

lost_none : {P : Type 0} → true ≡ false → P
lost_none e = absurd (no e)
  where
    no : true ≡ false → ⊥
    no c = cc

module _ (image : Reading) (where_is : Place) (spots : List Spot) (target : ℕ) (sets : Sets) (work : Facts) (looks : LooksFrom image where_is spots target sets) (anew : (fact : Fact) → IsTrue (work fact) ↔ Derivable (suc (suc where_is.result)) (set_at sets.frames target) fact) where
  abbrev f : Function
  f = function_at image where_is.function

  abbrev frame : Facts
  frame = set_at sets.frames target

  whole : (fact : Fact) → IsTrue (work fact) ↔ Derivable (variables image f) frame fact
  whole fact = subst (λ k. IsTrue (work fact) ↔ Derivable (suc (suc k)) frame fact) looks.are.result (anew fact)

  claimed : (proofs : Annotation) → IsIn image proofs where_is.function sets → (q : Fact) → before_at image where_is.function looks.from proofs q → IsTrue (frame q)
  claimed proofs i q b = subst (λ k. IsTrue (set_at sets.frames k q)) looks.same
      (and_parts (is_target f looks.from) (set_at sets.frames (rank f looks.from) q) (i.before looks.from q (claimed_there image where_is.function looks.from proofs q looks.is b))).1

  -- whether facts were lost before isn't told, so nothing is owed of what is proved
  pub reached_target : Reached image where_is.function looks.from sets sets work true
  reached_target = record {
    here = record {
      ready = frame_ready image where_is.function sets work target looks.frames whole;
      frames = looks.frames;
      above = λ proofs i fact c. (whole fact).1 (derivable_cut (λ q e. stated (claimed proofs i q (each_is (before_at image where_is.function looks.from proofs) c.used c.each q e))) c.derived);
      below = λ e. lost_none e;
      lowers = lowers_none image where_is.function sets;
      told = λ e. lost_none e;
    };
    proved = λ e. lost_none e;
    entry = λ e. lost_none e;
  }

pub lessens_from : (where_is : Place) (spots : List Spot) (target : ℕ) (old new : Sets) (work after : Known) (more : Bool) → ((fact : Fact) → IsTrue (holds work fact) ↔ Derivable (suc (suc where_is.result)) (set_at old.frames target) fact)
    → WentThrough where_is spots old new work after more → Lessens where_is (λ image. LooksFrom image where_is spots target old) old new more
lessens_from where_is spots target old new work after more anew went = record {
  shape = went.shape;
  fewer = went.fewer;
  shrinks = went.shrinks;
  lowers = λ image looks. (went.reached image looks.from looks.are old true (reached_target image where_is spots target old (holds work) looks anew)).here.lowers;
}
