-- Facts that are asked of an instruction, as far as they are listed.
use Rattle.std.specs.Prelude.{◌≡◌, ◌<◌, ℕ, Bool, true, false, IsTrue, List, [], ◌∷◌, length, get_or}
use Rattle.rc_facts.specs.declared.fact.Fact.{Fact}
use Rattle.rc_annotations.specs.Annotations.{fact_with, renamed}
use Rattle.rc_code.specs.declared.image.Function.{Function}
use Rattle.rc_code.specs.Running.{Reading}
use Rattle.rc_claims.specs.declared.proofs.Proofs.{Proofs}
use Rattle.rc_claims.specs.Counts.{copies, exit_count}
use Rattle.rc_sealed.specs.ImageVariables.{result_variable}
use Rattle.rc_sealed.specs.Carrying.{is_target}
use Rattle.rc_sealed.specs.Claimed.{annotation_of}
use Rattle.rc_image_steps.specs.declared.site.Site.{Site}
use Rattle.rc_image_steps.specs.Sites.{function_in, image_of}

abbrev pub number_if : Bool → ℕ → List ℕ
number_if true number = number ∷ []
number_if false number = []

-- the names of an exit's variables in its function: hidden copies keep theirs, and behind them stands the result
pub record AreExitNames (image : Reading) (f : Function) (names : List ℕ) : Type 0 where
  pub long : length names ≡ exit_count f
  pub each : (x : ℕ) → x < length names → get_or names x 0 ≡ renamed (copies f) (result_variable image f) x

-- of the exit, with the result's variable, if so
pub record ExitAsked (site : Site) (proofs : Proofs) (so : Bool) (fact : Fact) : Type 0 where
  pub asks : so ≡ true
  pub of : Fact
  pub has : IsTrue ((annotation_of site.parts.now proofs).exit site.number of)
  pub named : fact_with (renamed (copies (function_in site)) (result_variable (image_of site) (function_in site))) of ≡ fact

-- of the frame of a target, if so
pub record FrameAsked (site : Site) (proofs : Proofs) (so : Bool) (at : ℕ) (fact : Fact) : Type 0 where
  pub asks : so ≡ true
  pub target : is_target (function_in site) at ≡ true
  pub has : IsTrue ((annotation_of site.parts.now proofs).before site.number at fact)
