-- What is told of an image.
use Rattle.std.proofs.Common.{◌≡◌, ℕ, ◌+◌, ◌<◌, ◌≤◌, Option, Some, None, sym, subst, inl, inr, ◌⊎◌, arith}
use Rattle.std.specs.Prelude.{length, MatchOption, Result, Ok, Err, IfOk}
use Rattle.rc_annotations.specs.Annotations.{Annotation}
use Rattle.rc_code.specs.declared.image.Parts.{Parts}
use Rattle.rc_code.specs.Running.{reading_of, function_at}
use Rattle.rc_claims.specs.declared.proofs.Proofs.{Proofs}
use Rattle.rc_sealed.specs.declared.fault.ProofFault.{ProofFault}
use Rattle.rc_sealed.specs.declared.fault.ProofFault.TheVariants.{Facts, Pins, Wide, Memory}
use Rattle.rc_sealed.specs.ImageVariables.{variables}
use Rattle.rc_sealed.specs.AllProved.{AllProved}
use Rattle.rc_sealed.specs.Claimed.{annotation_of}
use Rattle.rc_sealed.specs.Faults.{FirstFailure, IsProofFault, IsWide, NoneIsWide, StandsBefore}
use Rattle.rc_sealed.specs.Proved.{Proved}
use Rattle.rc_sealed.specs.Pinned.{Pinned}
use Rattle.rc_sealed.proofs.Claimed.{are_over}
use Rattle.rc_verify.specs.Firsts.{AllRight, FaultIn, UpTo}

-- ---- of an image

module _ (parts : Parts) (proofs : Annotation) (narrow : NoneIsWide parts) where
  first_failure : (g at : ℕ) → g < length parts.functions → ((f : ℕ) → f < g → AllRight parts proofs f) → UpTo parts proofs g at → FirstFailure parts proofs g at
  first_failure g at there before up = record {
    there = there;
    inside = up.inside;
    proved = λ f k stands lt. proved f k stands lt;
    pinned = λ f k stands lt. pinned f k stands lt;
  }
    where
      proved : (f k : ℕ) → StandsBefore f k g at → k < length (function_at (reading_of parts) f).code → Proved (reading_of parts) proofs f k
      proved f k (inl lt) inside = (before f lt).proved k inside
      proved f k (inr b) inside = subst (λ h. Proved (reading_of parts) proofs h k) (sym b.0) (up.proved k b.1)

      pinned : (f k : ℕ) → StandsBefore f k g at → k < length (function_at (reading_of parts) f).code → Pinned (reading_of parts) f k
      pinned f k (inl lt) inside = (before f lt).pinned k inside
      pinned f k (inr b) inside = subst (λ h. Pinned (reading_of parts) h k) (sym b.0) (up.pinned k b.1)

  pub told : (g : ℕ) → g < length parts.functions → ((f : ℕ) → f < g → AllRight parts proofs f) → (fault : ProofFault) → FaultIn parts proofs g fault → IsProofFault parts proofs fault
  told g there before (Facts f at) t = subst (λ h. IsProofFault parts proofs (Facts h at)) (sym t.0) (narrow, (first_failure g at there before t.1.0, t.1.1))
  told g there before (Pins f at) t = subst (λ h. IsProofFault parts proofs (Pins h at)) (sym t.0) (narrow, (first_failure g at there before t.1.0, (t.1.1.0, t.1.1.1)))
  told g there before (Wide f) t = absurd t
  told g there before Memory t = absurd t

pub one_more_right : (parts : Parts) (proofs : Annotation) (at : ℕ) → ((g : ℕ) → g < at → AllRight parts proofs g) → AllRight parts proofs at → (g : ℕ) → g < at + 1 → AllRight parts proofs g
one_more_right parts proofs at before one g lt = by (order g at) lt
  where
    order : (a b : ℕ) → (a < b) ⊎ ((a ≡ b) ⊎ (b < a))
    order a b = grind arith

    by : (g < at) ⊎ ((g ≡ at) ⊎ (at < g)) → g < at + 1 → AllRight parts proofs g
    by (inl l) i = before g l
    by (inr (inl e)) i = subst (AllRight parts proofs) (sym e) one
    by (inr (inr l)) i = absurd (omega (arith, l, i))

pub all_proved : (parts : Parts) (proofs : Proofs) → ((g : ℕ) → g < length parts.functions → AllRight parts (annotation_of parts proofs) g) → AllProved parts (annotation_of parts proofs)
all_proved parts proofs right = record { over = are_over parts proofs; proved = λ g at there inside. (right g there).proved at inside; pinned = λ g at there inside. (right g there).pinned at inside }

-- a function that isn't wide has at most 128 variables
pub narrow_count : (parts : Parts) (g : ℕ) → (IsWide parts g → ⊥) → variables (reading_of parts) (function_at (reading_of parts) g) ≤ 128
narrow_count parts g refuted = by (order (variables (reading_of parts) (function_at (reading_of parts) g)))
  where
    order : (n : ℕ) → (n ≤ 128) ⊎ (128 < n)
    order n = grind arith

    by : (variables (reading_of parts) (function_at (reading_of parts) g) ≤ 128) ⊎ IsWide parts g → variables (reading_of parts) (function_at (reading_of parts) g) ≤ 128
    by (inl le) = le
    by (inr wide) = absurd (refuted wide)

-- what is told of an image of which no function is wide is told of it
pub finished : {E : Type 0} (parts : Parts) (proofs : Proofs) → NoneIsWide parts → (r : Result (Option ProofFault) E)
    → IfOk r (λ found. MatchOption found ((g : ℕ) → g < length parts.functions → AllRight parts (annotation_of parts proofs) g) (λ fault. IsProofFault parts (annotation_of parts proofs) fault))
    → IfOk r (λ found. MatchOption found (AllProved parts (annotation_of parts proofs) × NoneIsWide parts) (λ fault. IsProofFault parts (annotation_of parts proofs) fault))
finished parts proofs narrow (Ok None) h = (all_proved parts proofs h, narrow)
finished parts proofs narrow (Ok (Some fault)) h = h
finished parts proofs narrow (Err e) h = h
