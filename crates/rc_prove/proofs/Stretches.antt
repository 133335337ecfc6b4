-- Parts of the way through a function.
use Rattle.std.proofs.Common.{◌≡◌, true, ℕ, zero, suc, ◌+◌, ◌-◌, ◌≤◌, List, [], ◌∷◌, length, take, drop, slice_range, Option, Some, subst, arith}
use Rattle.std.specs.Prelude.{slice_get}
use Rattle.std.proofs.lemmas.List.{length-drop, length-take-le}
use Rattle.rc_code.specs.Running.{Reading, function_at}
use Rattle.rc_sealed.specs.Carrying.{is_target}
use Rattle.rc_prove_parts.specs.declared.spot.Spot.{Spot}
use Rattle.rc_prove_parts.specs.declared.spot.Place.{Place}
use Rattle.rc_prove.specs.Sets.{Sets, rank}
use Rattle.rc_prove.specs.Visiting.{SpotIs, AreSpots, AreSpotsFrom}
use Rattle.rc_prove.specs.Lowering.{Looks, LooksAhead, LooksFrom, LeadsBehind}

taken : {X : Type 0} (n : ℕ) (xs : List X) (at : ℕ) (x : X) → slice_get (take n xs) at ≡ Some x → slice_get xs at ≡ Some x
taken zero xs at x e = absurd cc
taken (suc n) [] at x e = absurd cc
taken (suc n) (y ∷ xs) zero x e = e
taken (suc n) (y ∷ xs) (suc at) x e = taken n xs at x e

behind : {X : Type 0} (n : ℕ) (xs : List X) (at : ℕ) (x : X) → slice_get (drop n xs) at ≡ Some x → slice_get xs (n + at) ≡ Some x
behind zero xs at x e = subst (λ k. slice_get xs k ≡ Some x) (let q : at ≡ 0 + at = omega arith in q) e
behind (suc n) [] at x e = absurd cc
behind (suc n) (y ∷ xs) at x e = subst (λ k. slice_get (y ∷ xs) k ≡ Some x) (let q : suc (n + at) ≡ suc n + at = omega arith in q) (behind n xs at x e)

range_long : {X : Type 0} (xs : List X) (from to : ℕ) → from ≤ to → to ≤ length xs → length (slice_range xs from to) ≡ to - from
range_long xs from to f t = length-take-le (to - from) (drop from xs) (let d = length-drop from xs in omega (arith, f, t, d))

module _ (image : Reading) (where_is : Place) (spots : List Spot) where
  pub from_all : AreSpots image where_is spots → AreSpotsFrom image where_is 0 spots
  from_all are = record { copies = are.copies; result = are.result; inside = (let l = are.long in omega (arith, l)); each = λ at spot is. subst (λ k. SpotIs image where_is.function k spot) (let e : at ≡ 0 + at = omega arith in e) (are.each at spot is) }

  pub from_part : (from to : ℕ) → from ≤ to → to ≤ length spots → AreSpots image where_is spots → AreSpotsFrom image where_is from (slice_range spots from to)
  from_part from to f t are = record {
    copies = are.copies;
    result = are.result;
    inside = (let l = are.long in let r = range_long spots from to f t in omega (arith, f, t, l, r));
    each = λ at spot is. are.each (from + at) spot (behind from spots at spot (taken (to - from) (drop from spots) at spot is));
  }

  module _ (first : Option ℕ) (sets : Sets) (looks : Looks image where_is spots first sets) where
    pub ahead_all : LooksAhead image where_is spots first sets
    ahead_all = record { all = spots; looks = looks; are = from_all looks.are }

    pub ahead_part : (to : ℕ) → to ≤ length spots → LooksAhead image where_is (take to spots) first sets
    ahead_part to t = record { all = spots; looks = looks; are = subst (λ n. AreSpotsFrom image where_is 0 (take n spots)) (let e : to - 0 ≡ to = omega arith in e) (from_part 0 to (omega arith) t looks.are) }

    pub from_first : (target to : ℕ) → first ≡ Some target → to ≤ length spots → LooksFrom image where_is (take to spots) target sets
    from_first target to is t = record {
      from = 0;
      are = (ahead_part to t).are;
      is = (looks.begins target is).0;
      same = (looks.begins target is).1;
      frames = looks.frames;
    }

    pub from_behind : (at to target : ℕ) → LeadsBehind spots at target → at + 1 ≤ to → to ≤ length spots → LooksFrom image where_is (slice_range spots (at + 1) to) target sets
    from_behind at to target leads f t = record {
      from = at + 1;
      are = from_part (at + 1) to f t looks.are;
      is = subst (λ k. is_target (function_at image where_is.function) k ≡ true) next follows.0;
      same = subst (λ k. rank (function_at image where_is.function) k ≡ target) next follows.1;
      frames = looks.frames;
    }
      where
        next : suc at ≡ at + 1
        next = omega arith

        follows : (is_target (function_at image where_is.function) (suc at) ≡ true) × (rank (function_at image where_is.function) (suc at) ≡ target)
        follows = (looks.are.each at leads.spot leads.there).leads.follows target leads.next
