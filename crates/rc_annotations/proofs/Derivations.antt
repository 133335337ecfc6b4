-- Derivable of fewer facts is derivable of more; of what is derivable nothing new is derivable.
use Rattle.std.proofs.Common.{ℕ, ◌||◌, IsTrue, inl, inr}
use Rattle.std.proofs.lemmas.Bool.{or_cases, or_left, or_right}
use Rattle.rc_facts.specs.declared.fact.Fact.{Fact}
use Rattle.rc_facts.specs.Derivable.{Derivable, stated, in_itself, in_through, up_through, up_by_in, in_back, present_by_in, present_by_up, trad_by_up, up_by_trad, in_by_trad}
use Rattle.rc_annotations.specs.Laws.{Within}
use Rattle.rc_annotations.specs.Annotations.{Facts, allowed_where, assigning}
use Rattle.rc_rlang.specs.RegionFlow.{Effect}
use Rattle.std.specs.Prelude.{Option, Some, None}

-- where each given fact is derivable from others, so is what is derivable from them
pub derivable_cut : {n : ℕ} {given others : Facts} → ((p : Fact) → IsTrue (given p) → Derivable n others p) → {fact : Fact} → Derivable n given fact → Derivable n others fact
derivable_cut h (stated is) = h _ is
derivable_cut h (in_itself below) = in_itself below
derivable_cut h (in_through one two) = in_through (derivable_cut h one) (derivable_cut h two)
derivable_cut h (up_through one two) = up_through (derivable_cut h one) (derivable_cut h two)
derivable_cut h (up_by_in one) = up_by_in (derivable_cut h one)
derivable_cut h (in_back one two) = in_back (derivable_cut h one) (derivable_cut h two)
derivable_cut h (present_by_in one two) = present_by_in (derivable_cut h one) (derivable_cut h two)
derivable_cut h (present_by_up one two) = present_by_up (derivable_cut h one) (derivable_cut h two)
derivable_cut h (trad_by_up one two) = trad_by_up (derivable_cut h one) (derivable_cut h two)
derivable_cut h (up_by_trad one two) = up_by_trad (derivable_cut h one) (derivable_cut h two)
derivable_cut h (in_by_trad one two three) = in_by_trad (derivable_cut h one) (derivable_cut h two) (derivable_cut h three)

pub derivable_more : {n : ℕ} {given others : Facts} → Within given others → {fact : Fact} → Derivable n given fact → Derivable n others fact
derivable_more h d = derivable_cut (λ p is. stated (h p is)) d

pub either_more : {before others gains gains1 : Facts} → Within before others → Within gains gains1 → Within (λ p. before p || gains p) (λ p. others p || gains1 p)
either_more {before} {others} {gains} {gains1} h g p is = elim (or_cases (before p) (gains p) is) [
  | inl old ↦ or_left (others p) (gains1 p) (h p old)
  | inr new ↦ or_right (others p) (gains1 p) (g p new)
]

-- what is allowed after an effect grows with the facts before it and with the exits
pub allowed_more : (n s : ℕ) (gains gains1 : Effect → Facts) (x : Option ℕ) (effect : Effect) (before others : Facts) (fact : Fact) → ((e : Effect) → Within (gains e) (gains1 e)) → Within before others → allowed_where n s gains x effect before fact → allowed_where n s gains1 x effect others fact
allowed_more n s gains gains1 None effect before others fact g h d = derivable_more (either_more h (g effect)) d
allowed_more n s gains gains1 (Some x) effect before others fact g h d = derivable_more (either_more h (g (assigning s effect))) d
