-- Searching among frames, whose instructions increase.
use Rattle.std.proofs.Common.{◌≡◌, ◌∙◌, ◌⊎◌, inl, inr, ℕ, zero, suc, ◌+◌, ◌<◌, ◌≤◌, Bool, true, false, nat_eq, List, [], ◌∷◌, length, slice_get, Some, None, refl, sym, ap, subst, arith, rules}
use Rattle.std.specs.Prelude.{if◌then◌else◌}
use Rattle.rc_facts.specs.declared.fact.Fact.{Fact}
use Rattle.rc_claims.specs.declared.proofs.Frame.{Frame}
use Rattle.rc_claims.specs.Bits.{claims}
use Rattle.rc_claims.specs.Claims.{frame_facts, AreInOrder}
use Rattle.rc_image_claims.specs.Searching.{Splits}

-- ---- order

in_order_least : (least k : ℕ) (frames : List Frame) (frame : Frame) → AreInOrder least frames → slice_get frames k ≡ Some frame → least ≤ frame.at
in_order_least least k [] frame o e = cc
in_order_least least zero (g ∷ frames) frame o e = let q : g ≡ frame = cc in subst (λ (h : Frame). least ≤ h.at) q o.0
in_order_least least (suc k) (g ∷ frames) frame o e = let r = in_order_least (suc g.at) k frames frame o.1 e in let s = o.0 in omega (arith, r, s)

increases : (least j k : ℕ) (frames : List Frame) (f g : Frame) → AreInOrder least frames → j < k → slice_get frames j ≡ Some f → slice_get frames k ≡ Some g → f.at < g.at
increases least j k [] f g o lt e d = cc
increases least zero zero (h ∷ frames) f g o lt e d = absurd (omega (arith, lt))
increases least zero (suc k) (h ∷ frames) f g o lt e d = let q : h ≡ f = cc in let r = in_order_least (suc h.at) k frames g o.1 d in subst (λ (i : Frame). i.at < g.at) q (omega (arith, r))
increases least (suc j) zero (h ∷ frames) f g o lt e d = absurd (omega (arith, lt))
increases least (suc j) (suc k) (h ∷ frames) f g o lt e d = increases (suc h.at) j k frames f g o.1 (omega (arith, lt)) e d

-- ---- a search by halves

pub record Between (frames : List Frame) (at low high : ℕ) : Type 0 where
  pub apart : low ≤ high
  pub inside : high ≤ length frames
  pub before : (k : ℕ) (frame : Frame) → k < low → slice_get frames k ≡ Some frame → frame.at < at
  pub behind : (k : ℕ) (frame : Frame) → high ≤ k → slice_get frames k ≡ Some frame → at ≤ frame.at

order : (a b : ℕ) → (a < b) ⊎ (b ≤ a)
order a b = grind arith

same_frame : (frames : List Frame) (k : ℕ) (f g : Frame) → slice_get frames k ≡ Some f → slice_get frames k ≡ Some g → f ≡ g
same_frame frames k f g e d = let q : Some f ≡ Some g = sym e ∙ d in cc

pub outside : (frames : List Frame) (k : ℕ) (frame : Frame) → length frames ≤ k → slice_get frames k ≡ Some frame → ⊥
outside [] k frame le e = cc
outside (g ∷ frames) zero frame le e = omega (arith, le)
outside (g ∷ frames) (suc k) frame le e = outside frames k frame (omega (arith, le)) e

pub from_start : (frames : List Frame) (at : ℕ) → Between frames at 0 (length frames)
from_start frames at = record { apart = omega arith; inside = omega arith; before = λ k frame lt e. absurd (omega (arith, lt)); behind = λ k frame le e. absurd (outside frames k frame le e) }

pub upper : (frames : List Frame) (at low high middle : ℕ) (m : Frame) → AreInOrder 0 frames → Between frames at low high → middle < high → low ≤ middle → slice_get frames middle ≡ Some m → m.at < at → Between frames at (middle + 1) high
upper frames at low high middle m o b lt le e less = record {
  apart = omega (arith, lt);
  inside = b.inside;
  before = λ k frame l d. by k frame l d (order k middle);
  behind = b.behind;
}
  where
    by : (k : ℕ) (frame : Frame) → k < middle + 1 → slice_get frames k ≡ Some frame → (k < middle) ⊎ (middle ≤ k) → frame.at < at
    by k frame l d (inl s) = let r = increases 0 k middle frames frame m o s d e in omega (arith, r, less)
    by k frame l d (inr s) = let q : k ≡ middle = omega (arith, l, s) in subst (λ (h : Frame). h.at < at) (same_frame frames middle m frame e (subst (λ i. slice_get frames i ≡ Some frame) q d)) less

pub lower : (frames : List Frame) (at low high middle : ℕ) (m : Frame) → AreInOrder 0 frames → Between frames at low high → middle < high → low ≤ middle → slice_get frames middle ≡ Some m → at ≤ m.at → Between frames at low middle
lower frames at low high middle m o b lt le e less = record {
  apart = le;
  inside = (let i = b.inside in omega (arith, lt, i));
  before = b.before;
  behind = λ k frame l d. by k frame l d (order middle k);
}
  where
    by : (k : ℕ) (frame : Frame) → middle ≤ k → slice_get frames k ≡ Some frame → (middle < k) ⊎ (k ≤ middle) → at ≤ frame.at
    by k frame l d (inl s) = let r = increases 0 middle k frames m frame o s e d in omega (arith, r, less)
    by k frame l d (inr s) = let q : k ≡ middle = omega (arith, l, s) in subst (λ (h : Frame). at ≤ h.at) (same_frame frames middle m frame e (subst (λ i. slice_get frames i ≡ Some frame) q d)) less

pub splits : (frames : List Frame) (at low high : ℕ) → high ≤ low → Between frames at low high → Splits frames at low
splits frames at low high le b =
    let a = b.apart in
    let i = b.inside in
    record { inside = omega (arith, a, i, le); before = b.before; behind = λ k frame l e. b.behind k frame (omega (arith, l, le)) e }

-- ---- what stands there

not_eq : (a b : ℕ) → ((a ≡ b) → ⊥) → nat_eq a b ≡ false
not_eq a b never = by (nat_eq a b) refl
  where
    by : (t : Bool) → nat_eq a b ≡ t → nat_eq a b ≡ false
    by true e = absurd (never (grind (arith, rules, e)))
    by false e = e

is_eq : (a b : ℕ) → a ≡ b → nat_eq a b ≡ true
is_eq a b e = grind (arith, rules, e)

pub none_there : (frames : List Frame) (at : ℕ) → ((k : ℕ) (frame : Frame) → slice_get frames k ≡ Some frame → (frame.at ≡ at) → ⊥) → (n : ℕ) (fact : Fact) → frame_facts n frames at fact ≡ false
none_there [] at never n fact = refl
none_there (g ∷ frames) at never n fact =
    ap (λ b. if b then claims n g.facts fact else frame_facts n frames at fact) (not_eq g.at at (never 0 g refl)) ∙ none_there frames at (λ k frame e. never (suc k) frame e) n fact

pub one_there : (frames : List Frame) (at place : ℕ) (frame : Frame) → slice_get frames place ≡ Some frame → frame.at ≡ at → ((k : ℕ) (g : Frame) → k < place → slice_get frames k ≡ Some g → (g.at ≡ at) → ⊥) → (n : ℕ) (fact : Fact) → frame_facts n frames at fact ≡ claims n frame.facts fact
one_there [] at place frame e is never n fact = cc
one_there (g ∷ frames) at zero frame e is never n fact =
    let q : g ≡ frame = cc in
    ap (λ b. if b then claims n g.facts fact else frame_facts n frames at fact) (is_eq g.at at (ap (λ (h : Frame). h.at) q ∙ is)) ∙ ap (λ (h : Frame). claims n h.facts fact) q
one_there (g ∷ frames) at (suc place) frame e is never n fact =
    ap (λ b. if b then claims n g.facts fact else frame_facts n frames at fact) (not_eq g.at at (never 0 g (omega arith) refl)) ∙ one_there frames at place frame e is (λ k h l d. never (suc k) h (omega (arith, l)) d) n fact

pub split_none : (frames : List Frame) (at place : ℕ) → AreInOrder 0 frames → Splits frames at place → ((frame : Frame) → slice_get frames place ≡ Some frame → (frame.at ≡ at) → ⊥) → (n : ℕ) (fact : Fact) → frame_facts n frames at fact ≡ false
split_none frames at place o s never n fact = none_there frames at apart n fact
  where
    found : (k : ℕ) (frame : Frame) → slice_get frames k ≡ Some frame → (r : _) → slice_get frames place ≡ r → (place < k) → (frame.at ≡ at) → ⊥
    found k frame e None d lt is = missing frames place k frame d (omega (arith, lt)) e
      where
        missing : (frames : List Frame) (place k : ℕ) (frame : Frame) → slice_get frames place ≡ None → place ≤ k → slice_get frames k ≡ Some frame → ⊥
        missing [] place k frame d le e = cc
        missing (g ∷ frames) zero k frame d le e = cc
        missing (g ∷ frames) (suc place) zero frame d le e = omega (arith, le)
        missing (g ∷ frames) (suc place) (suc k) frame d le e = missing frames place k frame d (omega (arith, le)) e
    found k frame e (Some g) d lt is = let r = increases 0 place k frames g frame o lt d e in let h = s.behind place g (omega arith) d in omega (arith, r, h, is)

    apart : (k : ℕ) (frame : Frame) → slice_get frames k ≡ Some frame → (frame.at ≡ at) → ⊥
    apart k frame e is = by (order k place) (order place k)
      where
        by : (k < place) ⊎ (place ≤ k) → (place < k) ⊎ (k ≤ place) → ⊥
        by (inl l) x = let r = s.before k frame l e in omega (arith, r, is)
        by (inr l) (inl m) = found k frame e (slice_get frames place) refl m is
        by (inr l) (inr m) = let q : k ≡ place = omega (arith, l, m) in never frame (subst (λ i. slice_get frames i ≡ Some frame) q e) is

pub split_one : (frames : List Frame) (at place : ℕ) (frame : Frame) → Splits frames at place → slice_get frames place ≡ Some frame → frame.at ≡ at → (n : ℕ) (fact : Fact) → frame_facts n frames at fact ≡ claims n frame.facts fact
split_one frames at place frame s e is n fact = one_there frames at place frame e is (λ k g l d q. let r = s.before k g l d in omega (arith, r, q)) n fact
