-- What is claimed speaks of the variables that it may speak of.
use Rattle.std.proofs.Common.{ℕ, suc, ◌+◌, ◌≤◌, Bool, true, false, nat_eq, nat_lt, IsTrue, List, [], ◌∷◌, arith}
use Rattle.std.specs.Prelude.{if◌then◌else◌}
use Rattle.std.proofs.lemmas.Bool.{and_parts, and_from, ltb-true, lt-ltb}
use Rattle.rc_facts.specs.declared.fact.Fact.{Fact}
use Rattle.rc_facts.specs.declared.fact.Fact.TheVariants.{In, Up, Trad, NonNull}
use Rattle.rc_facts.specs.Facts.{is_over}
use Rattle.rc_claims.specs.declared.proofs.Frame.{Frame}
use Rattle.rc_claims.specs.Counts.{one_if}
use Rattle.rc_claims.specs.Bits.{claims, bit_in, bit_number}
use Rattle.rc_claims.specs.Claims.{frame_facts}
use Rattle.rc_sealed.specs.Claimed.{ClaimsAreOver}

claims_over : (n : ℕ) (bytes : List ℕ) (fact : Fact) → IsTrue (claims n bytes fact) → IsTrue (is_over n fact)
claims_over n bytes fact e = (and_parts (is_over n fact) (bit_in bytes (bit_number n fact)) e).0

frame_over : (n : ℕ) (frames : List Frame) (at : ℕ) (fact : Fact) → IsTrue (frame_facts n frames at fact) → IsTrue (is_over n fact)
frame_over n [] at fact e = cc
frame_over n (frame ∷ frames) at fact e = by (nat_eq frame.at at) e (λ is. frame_over n frames at fact is)
  where
    by : (b : Bool) → IsTrue (if b then claims n frame.facts fact else frame_facts n frames at fact) → (IsTrue (frame_facts n frames at fact) → IsTrue (is_over n fact)) → IsTrue (is_over n fact)
    by true is later = claims_over n frame.facts fact is
    by false is later = later is

less : (n m x : ℕ) → n ≤ m → IsTrue (nat_lt x n) → IsTrue (nat_lt x m)
less n m x le e = let l = ltb-true x n e in lt-ltb x m (omega (arith, l, le))

over_more : (n m : ℕ) → n ≤ m → (fact : Fact) → IsTrue (is_over n fact) → IsTrue (is_over m fact)
over_more n m le (In x y) e = let b = and_parts (nat_lt x n) (nat_lt y n) e in and_from (nat_lt x m) (nat_lt y m) (less n m x le b.0) (less n m y le b.1)
over_more n m le (Up x y) e = let b = and_parts (nat_lt x n) (nat_lt y n) e in and_from (nat_lt x m) (nat_lt y m) (less n m x le b.0) (less n m y le b.1)
over_more n m le (Trad x) e = less n m x le e
over_more n m le (NonNull x) e = less n m x le e

one_more : (n : ℕ) (b : Bool) → n + one_if b ≤ suc n
one_more n true = omega arith
one_more n false = omega arith

pub are_over : ClaimsAreOver
are_over parts proofs = record {
  entries = λ g fact e. claims_over _ _ fact e;
  exits = λ g fact e. over_more _ _ (one_more _ _) fact (claims_over _ _ fact e);
  frames = λ g at fact e. frame_over _ _ at fact e;
}
