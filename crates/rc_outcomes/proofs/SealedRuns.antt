-- An image that its proofs prove runs as with every check made.
use Rattle.std.proofs.Common.{◌≡◌, ◌∙◌, ℕ, List, Option, Some, Result, sym, ap, subst, inl, inr}
use Rattle.rc_base.specs.Shelves.{Names}
use Rattle.rc_base.specs.declared.ends.Limits.{Limits}
use Rattle.rc_claims.specs.declared.proofs.Proofs.{Proofs}
use Rattle.rc_code.specs.Image.{FieldsFit}
use Rattle.rc_code.specs.ImageMeaning.{image_left, image_meaning}
use Rattle.rc_code.specs.declared.image.Parts.{Parts}
use Rattle.rc_core.specs.Meaning.{Left, Meaning}
use Rattle.rc_core.specs.Runs.{Ends, Stale, Stop}
use Rattle.rc_loader.specs.Unmarked.{unmarked}
use Rattle.rc_sealed.specs.Claimed.{annotation_of}
use Rattle.rc_sealed.specs.Law.{IsLawful}
use Rattle.rc_sealed.proofs.Whole.{faithful, means, never_stale}
use Rattle.rc_answers.specs.declared.answer.Done.TheVariants.{ImageRefused, StaleImage}
use Rattle.rc_answers.specs.declared.image_refusal.ImageRefusal.{ImageRefusal}
use Rattle.rc_outcomes.specs.Images.{Carried, carried_by, carrying}
use Rattle.rc_outcomes.specs.Outcome.{Admits, Executes, IsOutcome, OfRead, Outcome, answers, bare, broken, came, comes_of, end_as, proven, refusal_of_code, runs_or_refuses, unpinned, unproven}
use Rattle.rc_outcomes.specs.Sealed.{HasSealed, RunsChecked}
use Rattle.rc_outcomes.proofs.CarriedImages.{image_carried}
use Rattle.rc_outcomes.proofs.Ways.{same_text}
use Rattle.rc_requests.specs.Request.{Exec}

stale_again : (stop : Stop) (line : ℕ) → end_as stop ≡ StaleImage line → stop ≡ Stale line
stale_again (Ends end) line e = absurd cc
stale_again (Stale at) line e = let same : at ≡ line = cc in ap Stale same

module _ (image : Parts) (proofs : Proofs) (fits : FieldsFit image) (limits : Limits) (input : List ℕ) (outcome : Outcome) where
  abbrev carried : Carried
  carried = carrying image (Some proofs)

  is_refused : (refusal : ImageRefusal) → outcome ≡ answers (ImageRefused refusal) → RunsChecked image limits input outcome
  is_refused refusal comes = record {
    never = λ line stale. (let wrong : ImageRefused refusal ≡ StaleImage line = sym (ap (λ (o : Outcome). o.done) comes) ∙ stale in cc);
    checked = inr (refusal, comes);
  }

  runs_lawfully : IsLawful image → outcome ≡ comes_of image limits input → RunsChecked image limits input outcome
  runs_lawfully law comes = record {
    never = λ line stale. law.never input limits line (stale_again (image_meaning image input limits).end line (sym (ap (λ (o : Outcome). o.done) comes) ∙ stale));
    checked = inl (
        comes
        ∙ ap (λ (means : Meaning). came means (unpinned limits (image_left image input limits))) (law.cleared input limits).meaning
        ∙ ap (λ (left : Option Left). came (image_meaning (unmarked image) input limits) (unpinned limits left)) (law.cleared input limits).left);
  }

  checked_by : (admitted : Result Parts ImageRefusal) → Admits carried admitted → outcome ≡ runs_or_refuses limits input admitted → RunsChecked image limits input outcome
  checked_by admitted (bare none sound) comes = absurd cc
  checked_by admitted (proven p has sound all narrow) comes = runs_lawfully (record { faithful = faithful image fits sound (annotation_of image p) all; never = never_stale image fits sound (annotation_of image p) all; cleared = means image fits sound (annotation_of image p) all }) comes
  checked_by admitted (unproven p fault refusal has sound is told) comes = is_refused refusal comes
  checked_by admitted (broken v first) comes = is_refused (refusal_of_code v) comes

pub runs_checked : (files : Names) (file : List ℕ) → (has : HasSealed files file) → (limits : Limits) (input : List ℕ) (outcome : Outcome) → IsOutcome (Some (Exec file limits)) files input outcome → RunsChecked has.image limits input outcome
runs_checked files file has limits input outcome (bytes, is, read) =
    let here = subst (λ (b : List ℕ). OfRead (Executes limits) (carried_by b) input outcome) (same_text files file bytes has.bytes is has.there) read in
    let executes : Executes limits (carrying has.image (Some has.proofs)) input outcome = subst (λ (said : Result Carried ImageRefusal). OfRead (Executes limits) said input outcome) has.carried here in
    checked_by has.image has.proofs (image_carried has.bytes (carrying has.image (Some has.proofs)) has.are_bytes has.carried).fields limits input outcome executes.admitted executes.admits executes.comes
