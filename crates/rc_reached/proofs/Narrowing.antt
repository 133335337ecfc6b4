-- How far loops that narrow a row have come.
use Rattle.std.proofs.Common.{◌≡◌, ℕ, ◌+◌, ◌-◌, ◌*◌, ◌/◌, ◌≤◌, ◌<◌, Bool, true, false, ◌&&◌, List, [], ◌∷◌, length, take, drop, get_or, refl, sym, ap, subst, ◌∙◌, arith}
use Rattle.std.specs.List.{AllByRecursion as Every}
use Rattle.std.proofs.Math.Nat.{mul-le-mul_right}
use Rattle.std.proofs.lemmas.List.{take_all}
use Rattle.rc_code.specs.declared.image.Index.{Index}
use Rattle.rc_code.specs.Image.{IndexFits}
use Rattle.rc_code.specs.Reached.{span}
use Rattle.rc_reached.specs.Walks.{at_each, at_all}
use Rattle.rc_reached.specs.Masks.{marks}
use Rattle.rc_reached.proofs.Along.{halved}
use Rattle.rc_reached.proofs.Alike.{narrowed_by}

-- ---- along one index

-- what the indices after it may lead over
abbrev rest_of : Index → (reach : ℕ) → ℕ
rest_of i reach = reach - (i.length - 1) * i.stride

-- so many places are left, and they lead as far as reach says
pub record Along (old now : List ℕ) (i : Index) (all reach left : ℕ) : Type 0 where
  pub some : 1 ≤ left
  pub low : reach ≤ all
  pub room : (left - 1) * i.stride + rest_of i all ≡ reach
  pub along : (k : ℕ) → k ≤ rest_of i all → at_each (marks now) left i.stride k ≡ at_each (marks old) i.length i.stride k

pub along_none : (words : List ℕ) (i : Index) (all : ℕ) → 1 ≤ i.length → (i.length - 1) * i.stride ≤ all → Along words words i all all i.length
along_none words i all some inside = record { some = some; low = omega arith; room = omega (arith, inside); along = λ k le. refl }

and_true : (b : Bool) → (b && true) ≡ b
and_true true = refl
and_true false = refl

one_each : (g : ℕ → Bool) (left s k : ℕ) → left ≡ 1 → at_each g left s k ≡ g k
one_each g left s k one = rw one (and_true (g k))

none_before : (left s : ℕ) → left ≡ 1 → (left - 1) * s ≡ 0
none_before left s one = let none : left - 1 ≡ 0 = omega (arith, one) in ap (λ m. m * s) none ∙ (let zero_times : 0 * s ≡ 0 = omega arith in zero_times)

module _ (old now : List ℕ) (i : Index) (all reach left : ℕ) (so_far : Along old now i all reach left) where
  pub half_low : left / 2 * i.stride ≤ reach
  half_low =
      let some = so_far.some in
      let room = so_far.room in
      let less : left / 2 * i.stride ≤ (left - 1) * i.stride = mul-le-mul_right i.stride (omega (arith, some)) in
      omega (arith, less, room)

  module _ (new : List ℕ) (more : 1 < left)
      (narrowed : (k : ℕ) → k < 64 * ((reach - left / 2 * i.stride) / 64 + 1) → marks new k ≡ (marks now k && marks now (left / 2 * i.stride + k))) where
    split : left - 1 ≡ left / 2 + (left - left / 2 - 1)
    split = omega (arith, more)

    less_room : (left - left / 2 - 1) * i.stride + rest_of i all ≡ reach - left / 2 * i.stride
    less_room =
        let room = so_far.room in
        let parts : (left / 2 + (left - left / 2 - 1)) * i.stride ≡ left / 2 * i.stride + (left - left / 2 - 1) * i.stride = omega arith in
        let whole : (left - 1) * i.stride ≡ left / 2 * i.stride + (left - left / 2 - 1) * i.stride = ap (λ m. m * i.stride) split ∙ parts in
        omega (arith, room, whole)

    pub along_more : Along old new i all (reach - left / 2 * i.stride) (left - left / 2)
    along_more = record {
      some = omega (arith, more);
      low = (let low = so_far.low in omega (arith, low));
      room = less_room;
      along = λ k le.
          halved (marks now) (marks new) (left / 2) (left - left / 2) left i.stride (reach - left / 2 * i.stride) (rest_of i all) (omega arith) (omega arith) less_room (λ j far. narrowed j (omega (arith, far))) k le
          ∙ so_far.along k le;
    }

  pub along_done : (i.length - 1) * i.stride ≤ all → left ≤ 1 → ((i.length - 1) * i.stride + reach ≡ all) × ((k : ℕ) → k ≤ reach → marks now k ≡ at_each (marks old) i.length i.stride k)
  along_done inside last =
      let some = so_far.some in
      let room = so_far.room in
      let one : left ≡ 1 = omega (arith, some, last) in
      let none = none_before left i.stride one in
      let rest : rest_of i all ≡ reach = omega (arith, room, none) in
      (omega (arith, inside, rest), λ k le. sym (one_each (marks now) left i.stride k one) ∙ so_far.along k (subst (λ r. k ≤ r) (sym rest) le))

-- ---- along all of them

-- these indices are left, and all places that they lead to are marked where all were
pub record Walk (old now : List ℕ) (indices rest : List Index) (reach : ℕ) : Type 0 where
  pub fit : Every IndexFits rest
  pub far : span rest ≡ reach
  pub room : reach / 64 < length now
  pub small : reach < 4294967296
  pub all : at_all (marks now) rest 0 ≡ at_all (marks old) indices 0

pub walk_none : (words : List ℕ) (indices : List Index) (reach : ℕ) → Every IndexFits indices → span indices ≡ reach → reach / 64 < length words → reach < 4294967296 → Walk words words indices indices reach
walk_none words indices reach fit far room small = record { fit = fit; far = far; room = room; small = small; all = refl }

pub first_some : (rest : List Index) (d : Index) → 1 ≤ length rest → Every IndexFits rest → 1 ≤ (get_or rest 0 d).length
first_some [] d some fit = absurd (omega (arith, some))
first_some (i ∷ after) d some fit = fit.0.some

pub first_inside : (rest : List Index) (d : Index) → 1 ≤ length rest → (reach : ℕ) → span rest ≡ reach → ((get_or rest 0 d).length - 1) * (get_or rest 0 d).stride ≤ reach
first_inside [] d some reach far = absurd (omega (arith, some))
first_inside (i ∷ after) d some reach far = omega (arith, far)

pub walk_more : (old now new : List ℕ) (indices rest : List Index) (d : Index) (reach less : ℕ) → 1 ≤ length rest → Walk old now indices rest reach → length new ≡ length now
    → ((get_or rest 0 d).length - 1) * (get_or rest 0 d).stride + less ≡ reach → ((k : ℕ) → k ≤ less → marks new k ≡ at_each (marks now) (get_or rest 0 d).length (get_or rest 0 d).stride k)
    → Walk old new indices (take (length rest - 1) (drop 1 rest)) less
walk_more old now new indices [] d reach less some so_far long is along = absurd (omega (arith, some))
walk_more old now new indices (i ∷ after) d reach less some so_far long is along =
    let far = so_far.far in
    let room = so_far.room in
    let small = so_far.small in
    let rest : span after ≡ less = omega (arith, far, is) in
    let whole : take (length (i ∷ after) - 1) after ≡ after = take_all (length (i ∷ after) - 1) after (omega arith) in
    subst (λ (xs : List Index). Walk old new indices xs less) (sym whole) (record {
      fit = so_far.fit.1;
      far = rest;
      room = omega (arith, room, long, is);
      small = omega (arith, small, is);
      all = narrowed_by now new i after less (at_all (marks old) indices 0) rest along so_far.all;
    })
