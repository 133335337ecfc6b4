-- An image whose greatest proofs are found is sealed by their marks.
use Rattle.std.proofs.Common.{◌≡◌, ◌∙◌, ◌↔◌, ◌⊎◌, ℕ, ◌<◌, ◌≤◌, ◌-◌, Bool, true, false, ◌||◌, nat_eq, IsTrue, List, [], ◌∷◌, length, get_or, Some, refl, sym, ap, subst, inl, inr, arith}
use Rattle.std.specs.Prelude.{if◌then◌else◌}
use Rattle.std.specs.List.{list_any}
use Rattle.std.proofs.lemmas.Bool.{and_parts}
use Rattle.std.proofs.lemmas.List.{get_or_past}
use Rattle.rc_facts.specs.declared.fact.Fact.{Fact}
use Rattle.rc_facts.specs.Facts.{is_over}
use Rattle.rc_annotations.specs.Annotations.{Annotation, asked_of}
use Rattle.rc_annotations.specs.Laws.{Inside}
use Rattle.rc_code.specs.declared.instruction.Instruction.{Instruction}
use Rattle.rc_code.specs.declared.instruction.Instruction.TheVariants as instruction
use Rattle.rc_code.specs.declared.image.Function.{Function}
use Rattle.rc_code.specs.declared.image.Parts.{Parts}
use Rattle.rc_code.specs.Running.{Reading, reading_of, function_at}
use Rattle.rc_code.specs.Soundness.{instruction_at}
use Rattle.rc_loader.specs.Unmarked.{unmarked, unmarked_function, unmarked_instruction}
use Rattle.rc_loader.proofs.Marks.{function_is}
use Rattle.rc_claims.specs.declared.proofs.Frame.{Frame}
use Rattle.rc_claims.specs.declared.proofs.Known.{Known}
use Rattle.rc_claims.specs.declared.proofs.Proofs.{Proofs}
use Rattle.rc_claims.specs.Bits.{claims, bit_in, bit_number}
use Rattle.rc_claims.specs.Claims.{frame_facts, known_at, no_known, ProofsFit}
use Rattle.rc_claims.specs.Counts.{frame_count}
use Rattle.rc_sealed.specs.AllProved.{AreOver, AllProved}
use Rattle.rc_sealed.specs.ImageVariables.{variables}
use Rattle.rc_sealed.specs.Carrying.{is_target, effect_of, effect_at, lowest, height, Follows, Before}
use Rattle.rc_sealed.specs.Claimed.{annotation_of}
use Rattle.rc_sealed.specs.Faults.{NoneIsWide}
use Rattle.rc_sealed.specs.Pinned.{Pinned}
use Rattle.rc_sealed.specs.Proved.{CheckIsProved, Proved}
use Rattle.rc_sealed.proofs.Claimed.{are_over}
use Rattle.rc_sealed.proofs.Greater.{follows_more, before_more}
use Rattle.rc_greatest_proofs.specs.Admitted.{asked_at, IsAdmitted, Provable}
use Rattle.rc_greatest_proofs.specs.Marks.{ProvedBare}
use Rattle.rc_greatest_proofs.proofs.Bare.{bare_there, bare_back, checked, before_there, before_back}
use Rattle.rc_greatest_proofs.proofs.Fits.{fit, same_claims}
use Rattle.rc_greatest_proofs.proofs.Pins.{pinned}
use Rattle.rc_greatest_proofs.proofs.Views.{View, view, views, map_long, same_instruction}
use Rattle.rc_greatest_proofs.specs.Sealed.{IsSealedAs}
use Rattle.rc_prove_marks.specs.Checked.{IsChecked}
use Rattle.rc_seal.specs.Marking.{IsMarked}
use Rattle.rc_seal.specs.Finding.{MayBeSealed, AreFound}

-- ---- claims

claims_over : (n : ℕ) (bytes : List ℕ) (fact : Fact) → IsTrue (claims n bytes fact) → IsTrue (is_over n fact)
claims_over n bytes fact e = (and_parts (is_over n fact) (bit_in bytes (bit_number n fact)) e).0

-- a frame that claims a fact is there
record IsFramed (n : ℕ) (frames : List Frame) (at : ℕ) (fact : Fact) : Type 0 where
  over : IsTrue (is_over n fact)
  there : list_any (λ (frame : Frame). nat_eq frame.at at) frames ≡ true

is_framed : (n : ℕ) (frames : List Frame) (at : ℕ) (fact : Fact) → IsTrue (frame_facts n frames at fact) → IsFramed n frames at fact
is_framed n [] at fact e = cc
is_framed n (frame ∷ frames) at fact e = by (nat_eq frame.at at) refl (λ is. is_framed n frames at fact is) e
  where
    by : (b : Bool) → nat_eq frame.at at ≡ b → (IsTrue (frame_facts n frames at fact) → IsFramed n frames at fact) → IsTrue (if b then claims n frame.facts fact else frame_facts n frames at fact) → IsFramed n (frame ∷ frames) at fact
    by true q later is = record { over = claims_over n frame.facts fact is; there = ap (λ b. b || list_any (λ (f : Frame). nat_eq f.at at) frames) q }
    by false q later is = record { over = (later is).over; there = ap (λ b. b || list_any (λ (f : Frame). nat_eq f.at at) frames) q ∙ (later is).there }

-- ---- stores

was_store : (path : ℕ) (i : Instruction) → unmarked_instruction i ≡ instruction.Store path false → (old : Bool) × (i ≡ instruction.Store path old)
was_store path (instruction.Store p proved) e = (proved, cc)
was_store path (instruction.Constant kind value) e = absurd cc
was_store path (instruction.Global global) e = absurd cc
was_store path (instruction.Get local) e = absurd cc
was_store path (instruction.Set local) e = absurd cc
was_store path (instruction.Load p) e = absurd cc
was_store path (instruction.Typed typed type) e = absurd cc
was_store path (instruction.Arithmetic arithmetic kind) e = absurd cc
was_store path (instruction.Move type kind direction) e = absurd cc
was_store path (instruction.Simple simple) e = absurd cc
was_store path (instruction.Delete pins) e = absurd cc
was_store path (instruction.Call function pins) e = absurd cc
was_store path (instruction.Jump jump target) e = absurd cc

-- what the effect of a store asks is what its check asks
store_asks : (image : Reading) (g at path : ℕ) (mark : Bool) → instruction_at (function_at image g) at ≡ instruction.Store path mark → asked_of (effect_at image (function_at image g) at) ≡ asked_at image g at path
store_asks image g at path mark e = ap (λ i. asked_of (effect_of image (function_at image g) (lowest image (function_at image g) at) (height image (function_at image g) at - 1) i)) e

-- ---- an image and the same one with other marks

module _ (parts sealed : Parts) (same : unmarked sealed ≡ unmarked parts) where
  abbrev code : Reading
  code = reading_of parts

  abbrev new : Reading
  new = reading_of sealed

  as_many : length sealed.functions ≡ length parts.functions
  as_many = sym (map_long unmarked_function sealed.functions) ∙ ap (λ (p : Parts). length p.functions) same ∙ map_long unmarked_function parts.functions

  same_unmarked : (g : ℕ) → unmarked_function (function_at new g) ≡ unmarked_function (function_at code g)
  same_unmarked g = sym (function_is sealed g) ∙ ap (λ p. function_at (reading_of p) g) same ∙ function_is parts g

  as_long : (g : ℕ) → length (function_at new g).code ≡ length (function_at code g).code
  as_long g = sym (map_long unmarked_instruction (function_at new g).code) ∙ ap (λ (f : Function). length f.code) (same_unmarked g) ∙ map_long unmarked_instruction (function_at code g).code

  -- the store stood there before
  stood : (g at path : ℕ) (mark : Bool) → instruction_at (function_at new g) at ≡ instruction.Store path mark → (old : Bool) × (instruction_at (function_at code g) at ≡ instruction.Store path old)
  stood g at path mark e = was_store path (instruction_at (function_at code g) at)
      (sym (same_instruction (function_at code g) at) ∙ ap (λ f. instruction_at f at) (sym (same_unmarked g)) ∙ same_instruction (function_at new g) at ∙ ap unmarked_instruction e)

  same_view : (g at : ℕ) → view new (function_at new g) at ≡ view code (function_at code g) at
  same_view g at = sym (views sealed g at) ∙ ap (λ p. view (reading_of p) (function_at (reading_of p) g) at) same ∙ views parts g at

  same_count : (g : ℕ) → variables new (function_at new g) ≡ variables code (function_at code g)
  same_count g = ap (λ (v : View). v.count) (same_view g 0)

  same_effect : (g at : ℕ) → effect_at new (function_at new g) at ≡ effect_at code (function_at code g) at
  same_effect g at = ap (λ (v : View). v.effect) (same_view g at)

  same_claimed : (proofs : Proofs) → annotation_of sealed proofs ≡ annotation_of parts proofs
  same_claimed proofs = sym (same_claims sealed proofs) ∙ ap (λ p. annotation_of p proofs) same ∙ same_claims parts proofs

  still_fit : (proofs : Proofs) → ProofsFit parts proofs → ProofsFit sealed proofs
  still_fit proofs fits = (fit sealed proofs).1 (subst (λ p. ProofsFit p proofs) (sym same) ((fit parts proofs).0 fits))

  still_narrow : NoneIsWide parts → NoneIsWide sealed
  still_narrow narrow f lt w = narrow f (let m = as_many in omega (arith, m, lt)) (subst (λ k. 128 < k) (same_count f) w)

  still_pinned : (g at : ℕ) → Pinned code g at → Pinned new g at
  still_pinned g at p = (pinned sealed g at).1 (subst (λ p. Pinned (reading_of p) g at) (sym same) ((pinned parts g at).0 p))

  module _ (proofs : Annotation) (g at : ℕ) where
    still_bare : ProvedBare code proofs g at → ProvedBare new proofs g at
    still_bare b = bare_back sealed proofs g at (subst (λ p. Proved (reading_of p) proofs g at) (sym same) (bare_there parts proofs g at b))

    still_before : (fact : Fact) → Before code proofs g at fact → Before new proofs g at fact
    still_before fact b = before_back sealed proofs g at fact (subst (λ p. Before (reading_of p) proofs g at fact) (sym same) (before_there parts proofs g at fact b))

    still_follows : (fact : Fact) → Follows (variables code (function_at code g)) (Before code proofs g at) fact → Follows (variables new (function_at new g)) (Before new proofs g at) fact
    still_follows fact f = subst (λ n. Follows n (Before new proofs g at) fact) (sym (same_count g)) (follows_more (variables code (function_at code g)) (Before code proofs g at) (Before new proofs g at) still_before fact f)

    -- a check that is proved
    check_follows : (path : ℕ) → IsChecked code proofs g at → instruction_at (function_at new g) at ≡ instruction.Store path true → CheckIsProved new proofs g at (instruction.Store path true)
    check_follows path c e fact asks = subst (Follows (variables new (function_at new g)) (Before new proofs g at)) (told (sym c.asks ∙ ap asked_of (sym (same_effect g at)) ∙ store_asks new g at path true e ∙ asks)) (still_follows c.fact c.follows)
      where
        told : Some c.fact ≡ Some fact → c.fact ≡ fact
        told e = cc

-- ---- it is sealed

module _ (parts sealed : Parts) (proofs : Proofs) (marks : List (List Bool)) (free : MayBeSealed parts) (found : AreFound parts proofs marks) (is : IsMarked marks parts sealed) where
  abbrev all : Annotation
  all = annotation_of parts proofs

  abbrev Inner : (g at : ℕ) → Type 0
  Inner g at = (g < length parts.functions) × (at < length (function_at (reading_of parts) g).code)

  inner : (g at : ℕ) → g < length sealed.functions → at < length (function_at (reading_of sealed) g).code → Inner g at
  inner g at lt there = (let m = as_many parts sealed is.same in omega (arith, m, lt), let l = as_long parts sealed is.same g in omega (arith, l, there))

  -- ---- the proofs count

  framed_there : (g at : ℕ) (fact : Fact) → IsTrue (all.before g at fact) → is_target (function_at (reading_of parts) g) at ≡ true
  framed_there g at fact e = by (order g (length parts.functions))
    where
      order : (k m : ℕ) → (k < m) ⊎ (m ≤ k)
      order k m = grind arith

      no_frames : length parts.functions ≤ g → (known_at proofs g).frames ≡ []
      no_frames le = ap (λ (k : Known). k.frames) (get_or_past proofs.functions g no_known (let l = found.fits.long in omega (arith, l, le)))

      by : (g < length parts.functions) ⊎ (length parts.functions ≤ g) → is_target (function_at (reading_of parts) g) at ≡ true
      by (inl lt) = sym (found.frames g at lt) ∙ (is_framed (frame_count (function_at (reading_of parts) g)) (known_at proofs g).frames at fact e).there
      by (inr le) = absurd (none (subst (λ fs. IsTrue (frame_facts (frame_count (function_at (reading_of parts) g)) fs at fact)) (no_frames le) e))
        where
          none : IsTrue false → ⊥
          none e = cc

  admitted : IsAdmitted parts all
  admitted = record {
    carried = record {
      entries = λ g fact e. claims_over _ _ fact e;
      exits = λ g fact e. claims_over _ _ fact e;
      frames = λ g at fact e. (is_framed (frame_count (function_at (reading_of parts) g)) (known_at proofs g).frames at fact e).over;
      targets = framed_there;
    };
    proved = λ g at lt there. bare_there parts all g at (found.proved g at lt there);
  }

  -- ---- marks

  check : (g at : ℕ) → Inner g at → CheckIsProved (reading_of sealed) all g at (instruction_at (function_at (reading_of sealed) g) at)
  check g at i = by (instruction_at (function_at (reading_of sealed) g) at) refl
    where
      by : (i : Instruction) → instruction_at (function_at (reading_of sealed) g) at ≡ i → CheckIsProved (reading_of sealed) all g at i
      by (instruction.Store path true) e = check_follows parts sealed is.same all g at path (((found.tells g i.0).each at i.1).0 (sym (is.marks_are g at path true e))) e
      by (instruction.Store path false) e = tt
      by i e = tt

  module _ (g at path : ℕ) (mark : Bool) (i : Inner g at) (e : instruction_at (function_at (reading_of sealed) g) at ≡ instruction.Store path mark) where
    tells : (get_or (get_or marks g []) at false ≡ true) ↔ IsChecked (reading_of parts) all g at
    tells = (found.tells g i.0).each at i.1

    asks : asked_of (effect_at (reading_of parts) (function_at (reading_of parts) g) at) ≡ asked_at (reading_of parts) g at path
    asks = let old = stood parts sealed is.same g at path mark e in store_asks (reading_of parts) g at path old.0 old.1

    provable : IsChecked (reading_of parts) all g at → Provable parts g at path
    provable c = record { proofs = all; admitted = admitted; fact = c.fact; asks = sym asks ∙ c.asks; follows = c.follows }

    checks : Provable parts g at path → IsChecked (reading_of parts) all g at
    checks p = record {
      fact = p.fact;
      asks = asks ∙ p.asks;
      follows = follows_more (variables (reading_of parts) (function_at (reading_of parts) g)) (Before (reading_of parts) p.proofs g at) (Before (reading_of parts) all g at)
          (before_more (reading_of parts) g p.proofs all (found.greatest p.proofs p.admitted) at) p.fact p.follows;
    }

    right_mark : (mark ≡ true) ↔ Provable parts g at path
    right_mark = (λ m. provable (tells.0 (sym (is.marks_are g at path mark e) ∙ m)), λ p. is.marks_are g at path mark e ∙ tells.1 (checks p))

  -- ---- all of it

  all_proved : AllProved sealed all
  all_proved = record {
    over = subst (AreOver sealed) (same_claimed parts sealed is.same proofs) (are_over sealed proofs);
    proved = λ g at lt there. let i = inner g at lt there in (checked (reading_of sealed) all g at).1 (still_bare parts sealed is.same all g at (found.proved g at i.0 i.1), check g at i);
    pinned = λ g at lt there. let i = inner g at lt there in still_pinned parts sealed is.same g at (free.pinned g at i.0 i.1);
  }

  pub sealed_as : IsSealedAs parts sealed proofs
  sealed_as = record {
    same = is.same;
    marks = λ g at path mark lt there e. right_mark g at path mark (lt, there) e;
    fits = still_fit parts sealed is.same proofs found.fits;
    proved = subst (AllProved sealed) (sym (same_claimed parts sealed is.same proofs)) all_proved;
    narrow = still_narrow parts sealed is.same free.narrow;
    frames = found.frames;
    greatest = λ others a. subst (Inside others) (sym (same_claimed parts sealed is.same proofs)) (found.greatest others a);
  }
