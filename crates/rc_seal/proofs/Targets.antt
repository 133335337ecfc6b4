-- The targets of a function, by a table of those in its code.
use Rattle.std.proofs.Common.{◌≡◌, ◌∙◌, ◌⊎◌, inl, inr, ℕ, zero, suc, ◌+◌, ◌<◌, ◌≤◌, ◌-◌, ◌&&◌, Bool, true, false, IsTrue, List, [], ◌∷◌, length, get_or, refl, sym, ap, arith}
use Rattle.std.specs.List.{AllByRecursion as Every}
use Rattle.std.proofs.lemmas.Bool.{cases_lt}
use Rattle.rc_facts.specs.declared.fact.Fact.{Fact}
use Rattle.rc_facts.specs.Facts.{Known, holds, is_over}
use Rattle.rc_facts.specs.Flow.{no_set, set_at}
use Rattle.rc_code.specs.declared.instruction.Instruction.{Instruction}
use Rattle.rc_code.specs.declared.image.Function.{Function}
use Rattle.rc_code.specs.declared.image.Parts.{Parts}
use Rattle.rc_code.specs.Running.{Reading, reading_of, function_at}
use Rattle.rc_code.specs.Soundness.{FunctionIsSound}
use Rattle.rc_claims.specs.declared.proofs.Frame.{Frame}
use Rattle.rc_claims.specs.Bits.{BitsFit}
use Rattle.rc_claims.specs.Claims.{FrameFits}
use Rattle.rc_claims.specs.Counts.{trues, frame_count}
use Rattle.rc_sealed.specs.Carrying.{is_target}
use Rattle.rc_image_shapes.proofs.Targets.{no_target_outside}
use Rattle.rc_fact_bits.specs.Framing.{AreFramesOf}
use Rattle.rc_prove.specs.Sets.{rank}
use Rattle.rc_prove.specs.Family.{Family}
use Rattle.rc_prove.specs.Starting.{AreWithin}
use Rattle.rc_prove_ways.specs.Ranks.{AreTargets}
use Rattle.rc_prove_ways.proofs.Counting.{ranked}
use Rattle.rc_seal.specs.Claiming.{AreFramesAt}

-- ---- how many there are

rank_rises : (f : Function) (at more : ℕ) → rank f at ≤ rank f (at + more)
rank_rises f at zero = let e = ap (rank f) (plain at) in omega (arith, e)
  where
    plain : (n : ℕ) → n ≡ n + 0
    plain n = omega arith
rank_rises f at (suc more) = let e = ap (rank f) (next at more) in let l = rank_rises f at more in omega (arith, e, l)
  where
    next : (n k : ℕ) → suc (n + k) ≡ n + suc k
    next n k = omega arith

-- ---- a table of the targets in the code

beyond : (table : List Bool) (at : ℕ) → length table ≤ at → get_or table at false ≡ false
beyond [] at le = refl
beyond (b ∷ table) zero le = absurd (omega (arith, le))
beyond (b ∷ table) (suc at) le = beyond table at (omega (arith, le))

-- a table of the targets, and of nothing behind the code
pub record InCode (f : Function) (part : List Bool) : Type 0 where
  pub told : AreTargets f part
  pub short : length part ≤ length f.code

pub cut : (image : Reading) (f : Function) (code : List Instruction) (table slice part : List Bool) → FunctionIsSound true image f → code ≡ f.code → AreTargets f table → slice ≡ table → length part ≤ length code → ((at : ℕ) → at < length code → get_or part at false ≡ get_or slice at false) → InCode f part
cut image f code table slice part sound is told all short same = record { told = λ at. by at (cases_lt at (length f.code)); short = within }
  where
    within : length part ≤ length f.code
    within = let e = ap length is in omega (arith, short, e)

    by : (at : ℕ) → (at < length f.code) ⊎ (length f.code ≤ at) → get_or part at false ≡ is_target f at
    by at (inl lt) = same at (let e = ap length is in omega (arith, lt, e)) ∙ ap (λ (bs : List Bool). get_or bs at false) all ∙ told at
    by at (inr le) = beyond part at (omega (arith, le, within)) ∙ sym (no_target_outside image f sound at le)

pub few_marked : (f : Function) (part : List Bool) (many : ℕ) → InCode f part → many ≡ rank f (length f.code) → trues part (length part) ≤ many
few_marked f part many is e = by (length f.code - length part) (let s = is.short in omega (arith, s))
  where
    by : (more : ℕ) → length part + more ≡ length f.code → trues part (length part) ≤ many
    by more s = let l = ap (rank f) s in omega (arith, ranked f part is.told (length part), rank_rises f (length part) more, l, e)

-- ---- frames before them

holds_none : (fact : Fact) → holds no_set fact ≡ false
unfolding holds
holds_none fact = refl

no_more : (sets : List Known) (r : ℕ) → length sets ≤ r → get_or sets r no_set ≡ no_set
no_more [] r le = refl
no_more (s ∷ sets) zero le = absurd (omega (arith, le))
no_more (s ∷ sets) (suc r) le = no_more sets r (omega (arith, le))

pub none_there : (sets : List Known) (r : ℕ) (fact : Fact) → length sets ≤ r → set_at sets r fact ≡ false
none_there sets r fact le = ap (λ (s : Known). holds s fact) (no_more sets r le) ∙ holds_none fact

pub set_over : (n variables many : ℕ) (sets : List Known) → AreWithin n variables many sets → (r : ℕ) (fact : Fact) → IsTrue (set_at sets r fact) → IsTrue (is_over n fact)
set_over n variables many sets are r fact has = by (cases_lt r many)
  where
    by : (r < many) ⊎ (many ≤ r) → IsTrue (is_over n fact)
    by (inl lt) = (are.each r lt).facts fact has
    by (inr le) = let none = none_there sets r fact (let l = are.long in omega (arith, l, le)) in cc

pub both_same : (a b : Bool) → (IsTrue b → IsTrue a) → (a && b) ≡ b
both_same true b h = refl
both_same false true h = h refl
both_same false false h = refl

module _ (parts : Parts) (m : Family) (g : ℕ) where
  abbrev f : Function
  f = function_at (reading_of parts) g

  pub frames_at : (variables many : ℕ) (part : List Bool) (frames : List Frame) (sets : List Known) → sets ≡ get_or m.frames g [] → InCode f part → AreWithin (frame_count f) variables many sets → AreFramesOf (frame_count f) sets part frames → AreFramesAt parts m g frames
  frames_at variables many part frames sets is cut_part within are = record {
    fit = every frames are.fit;
    order = are.order;
    there = λ at. are.there at ∙ cut_part.told at;
    facts = λ at fact.
        are.facts at fact
        ∙ ap (λ b. get_or part at false && b) (both_same (is_over (frame_count f) fact) (set_at sets (trues part at) fact) (set_over (frame_count f) variables many sets within (trues part at) fact))
        ∙ ap (λ b. b && set_at sets (trues part at) fact) (cut_part.told at)
        ∙ ap (λ r. is_target f at && set_at sets r fact) (ranked f part cut_part.told at)
        ∙ ap (λ (xs : List Known). is_target f at && set_at xs (rank f at) fact) is;
  }
    where
      every : (fs : List Frame) → Every (λ (frame : Frame). (frame.at < length part) × BitsFit (frame_count f) frame.facts) fs → Every (FrameFits f) fs
      every [] all = tt
      every (x ∷ fs) all = (record { at = (let l = all.0.0 in let s = cut_part.short in omega (arith, l, s)); facts = all.0.1 }, every fs all.1)
