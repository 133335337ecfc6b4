-- Marks change nothing of which proofs fit, and of what these claim.
use Rattle.std.proofs.Common.{◌≡◌, ◌∙◌, ◌↔◌, ℕ, List, [], ◌∷◌, length, refl, sym, ap, subst, arith}
use Rattle.std.proofs.Math.Path.{fun_ext}
use Rattle.std.specs.List.{AllByRecursion as Every}
use Rattle.rc_annotations.specs.Annotations.{Annotation}
use Rattle.rc_code.specs.declared.image.Function.{Function}
use Rattle.rc_code.specs.declared.image.Parts.{Parts}
use Rattle.rc_code.specs.Running.{Reading, reading_of, function_at}
use Rattle.rc_loader.specs.Unmarked.{unmarked, unmarked_instruction, unmarked_function}
use Rattle.rc_loader.proofs.Marks.{function_is}
use Rattle.rc_claims.specs.declared.proofs.Frame.{Frame}
use Rattle.rc_claims.specs.declared.proofs.Known.{Known}
use Rattle.rc_claims.specs.declared.proofs.Proofs.{Proofs}
use Rattle.rc_claims.specs.Counts.{copies, exit_count, frame_count}
use Rattle.rc_claims.specs.Bits.{claims}
use Rattle.rc_claims.specs.Claims.{FrameFits, KnownFits, ProofsFit, known_at, frame_facts}
use Rattle.rc_sealed.specs.Claimed.{annotation_of}
use Rattle.rc_greatest_proofs.proofs.Views.{map_long}

-- ---- proofs that fit

module _ (f h : Function) (same : length h.code ≡ length f.code) (as_many : copies h ≡ copies f) (exits : exit_count h ≡ exit_count f) (frames : frame_count h ≡ frame_count f) where
  frame_fits : (fs : List Frame) → Every (FrameFits f) fs → Every (FrameFits h) fs
  frame_fits [] all = tt
  frame_fits (x ∷ fs) all = (record { at = (let l = all.0.at in omega (arith, same, l)); facts = subst (λ n. Rattle.rc_claims.specs.Bits.BitsFit n x.facts) (sym frames) all.0.facts }, frame_fits fs all.1)

  known_fits : (known : Known) → KnownFits f known → KnownFits h known
  known_fits known k = record {
    entry = subst (λ n. Rattle.rc_claims.specs.Bits.BitsFit n known.entry) (sym as_many) k.entry;
    exit = subst (λ n. Rattle.rc_claims.specs.Bits.BitsFit n known.exit) (sym exits) k.exit;
    frames = frame_fits known.frames k.frames;
    order = k.order;
  }

fits_there : (f : Function) (known : Known) → KnownFits f known → KnownFits (unmarked_function f) known
fits_there f known k = known_fits f (unmarked_function f) (map_long unmarked_instruction f.code) refl refl refl known k

fits_back : (f : Function) (known : Known) → KnownFits (unmarked_function f) known → KnownFits f known
fits_back f known k = known_fits (unmarked_function f) f (sym (map_long unmarked_instruction f.code)) refl refl refl known k

module _ (parts : Parts) (proofs : Proofs) where
  abbrev code : Reading
  code = reading_of parts

  abbrev bare : Reading
  bare = reading_of (unmarked parts)

  pub fit : ProofsFit parts proofs ↔ ProofsFit (unmarked parts) proofs
  fit = (
    (λ p. record {
      long = p.long ∙ sym (map_long unmarked_function parts.functions);
      each = λ g lt. subst (λ f. KnownFits f (known_at proofs g)) (sym (function_is parts g)) (fits_there (function_at code g) (known_at proofs g) (p.each g (let e = map_long unmarked_function parts.functions in omega (arith, e, lt))));
    }),
    (λ p. record {
      long = p.long ∙ map_long unmarked_function parts.functions;
      each = λ g lt. fits_back (function_at code g) (known_at proofs g) (subst (λ f. KnownFits f (known_at proofs g)) (function_is parts g) (p.each g (let e = map_long unmarked_function parts.functions in omega (arith, e, lt))));
    }),
  )

  -- ---- what is claimed

  abbrev claims_of : (functions : ℕ → Function) → Annotation
  claims_of functions = record {
    before = λ g at. frame_facts (frame_count (functions g)) (known_at proofs g).frames at;
    entry = λ g. claims (copies (functions g)) (known_at proofs g).entry;
    exit = λ g. claims (exit_count (functions g)) (known_at proofs g).exit;
  }

  pub same_claims : annotation_of (unmarked parts) proofs ≡ annotation_of parts proofs
  same_claims = ap claims_of (fun_ext (λ g. function_is parts g)) ∙ refl_of
    where
      refl_of : claims_of (λ g. unmarked_function (function_at code g)) ≡ annotation_of parts proofs
      refl_of = refl
