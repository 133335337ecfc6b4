-- Links are written one after the other, each found by those before.
use Rattle.std.proofs.Common.{◌≡◌, ◌≢◌, ◌<◌, ◌≤◌, ◌+◌, ◌-◌, ◌^◌, inl, inr, ℕ, length, set, slice_index, sym, ap, subst, ◌∙◌, arith, length-set, get_or-set_same, get_or-set_other}
use Rattle.std.proofs.Math.Path.{fun_ext}
use Rattle.std.proofs.Math.Pow.{pow_mono}
use Rattle.std.proofs.lemmas.Bool.{cases_eq}
use Rattle.rc_regions.specs.Ascents.{ancestor, AreAscents}
use Rattle.rc_regions.specs.Columns.{Columns, relinked, written}
use Rattle.rc_regions.specs.Slots.{IsLive}
use Rattle.rc_regions.specs.Sound.{IsAscended, IsRelinked}
use Rattle.rc_regions.proofs.Ancestors.{ancestor-add, depth-ancestor, live-ancestor}
use Rattle.rc_regions.proofs.Climbing.{power-some, power-suc, split_at}
use Rattle.rc_regions.proofs.Counted.{live_made}
use Rattle.rc_regions.proofs.Writes.{written_same, written_other}

written_itself : {A : Type 0} (f : ℕ → A) (s : ℕ) → written f s (f s) ≡ f
written_itself f s = fun_ext (λ t. elim (cases_eq t s) [
  | inl e ↦ ap (written f s (f s)) e ∙ written_same f s (f s) ∙ ap f (sym e)
  | inr apart ↦ written_other f s t (f s) apart
])

written_twice : {A : Type 0} (f : ℕ → A) (s : ℕ) (x y : A) → written (written f s x) s y ≡ written f s y
written_twice f s x y = fun_ext (λ t. elim (cases_eq t s) [
  | inl e ↦ ap (written (written f s x) s y) e ∙ written_same (written f s x) s y ∙ sym (written_same f s y) ∙ ap (written f s y) (sym e)
  | inr apart ↦ written_other (written f s x) s t y apart ∙ written_other f s t x apart ∙ sym (written_other f s t y apart)
])

pub relinked-itself : (c : Columns) (s : ℕ) → c ≡ relinked c s (c.links s)
relinked-itself c s = ap (λ links. let e : Columns = record c { links = links } in e) (sym (written_itself c.links s))

-- where a power of two is within, and where its exponent is
pub within_power : (k power : ℕ) → 2 ^ k < 2 ^ power → k < power
within_power k power less = elim (split_at k power) [
  | inl low ↦ low
  | inr high ↦ let more : 2 ^ power ≤ 2 ^ k = pow_mono high in absurd (omega (arith, less, more))
]

-- the slots before, and now, when the links so far of a child of `parent` are written
module _ (old now : Columns) (s parent depth power above : ℕ)
    (free : ¬ IsLive old.slots s) (live : IsLive old.slots parent) (ascents : AreAscents old.slots old.depth old.links) (deep : depth ≡ old.depth parent + 1)
    (same : now ≡ relinked old s (now.links s)) (wide : length (now.links s) ≡ 32) (small : depth < 2 ^ 32)
    (reaches : 2 ^ power ≤ depth) (is : above ≡ ancestor old.slots (2 ^ power - 1) parent)
    (climbed : (j : ℕ) → j < power → slice_index (now.links s) j ≡ ancestor old.slots (2 ^ j - 1) parent) where
  pub power_low : power < 32
  power_low = within_power power 32 (omega (arith, reaches, small))

  slots_same : now.slots ≡ old.slots
  slots_same = ap (λ (c : Columns). c.slots) same

  live_above : IsLive old.slots above
  live_above = subst (IsLive old.slots) (sym is) (live-ancestor old.slots ascents.rooted (2 ^ power - 1) parent live)

  pub above_made : above < length now.slots
  above_made = subst (λ slots. above < length slots) (sym slots_same) (live_made old.slots above live_above)

  apart : above ≢ s
  apart e = free (subst (IsLive old.slots) e live_above)

  module _ (next : Columns) (step : next ≡ relinked now s (set (now.links s) power above)) where
    links_next : next.links s ≡ set (now.links s) power above
    links_next = ap (λ (c : Columns). c.links s) step ∙ written_same now.links s (set (now.links s) power above)

    pub next_same : next ≡ relinked old s (next.links s)
    next_same =
        step
        ∙ ap (λ (c : Columns). relinked c s (set (now.links s) power above)) same
        ∙ ap (λ links. let e : Columns = record old { links = links } in e) (written_twice old.links s (now.links s) (set (now.links s) power above))
        ∙ ap (λ ways. relinked old s ways) (sym links_next)

    pub next_wide : length (next.links s) ≡ 32
    next_wide = ap length links_next ∙ length-set (now.links s) power above ∙ wide

    pub next_climbed : (j : ℕ) → j < power + 1 → slice_index (next.links s) j ≡ ancestor old.slots (2 ^ j - 1) parent
    next_climbed j low = ap (λ links. slice_index links j) links_next ∙ elim (cases_eq j power) [
      | inl e ↦ ap (slice_index (set (now.links s) power above)) e ∙ get_or-set_same (now.links s) power above 0 (omega (arith, wide, power_low)) ∙ is ∙ ap (λ k. ancestor old.slots (2 ^ k - 1) parent) (sym e)
      | inr other ↦ get_or-set_other (now.links s) power j above 0 other ∙ climbed j (omega (arith, low, other))
    ]

    -- the link of the ancestor leads on, where the way is so long
    pub next_above : 2 ^ (power + 1) ≤ depth → slice_index (next.links above) power ≡ ancestor old.slots (2 ^ (power + 1) - 1) parent
    next_above more =
        let kept : next.links above ≡ old.links above
        = ap (λ (c : Columns). c.links above) next_same ∙ written_other old.links s above (next.links s) apart in
        let down : old.depth (ancestor old.slots (2 ^ power - 1) parent) + (2 ^ power - 1) ≡ old.depth parent
        = depth-ancestor old.slots ascents.rooted old.depth ascents.depths (2 ^ power - 1) parent live (omega (arith, reaches, deep)) in
        let far : 2 ^ power - 1 + 2 ^ power ≡ 2 ^ (power + 1) - 1 = omega (arith, power-suc power, power-some power) in
        ap (λ links. slice_index links power) kept
        ∙ ascents.ways above power live_above (omega (arith, down, ap old.depth is, more, deep, power-suc power))
        ∙ ap (ancestor old.slots (2 ^ power)) is
        ∙ sym (ancestor-add old.slots (2 ^ power - 1) (2 ^ power) parent)
        ∙ ap (λ n. ancestor old.slots n parent) far

-- when all are written
pub relinked-all : (old now : Columns) (s parent depth power : ℕ) → now ≡ relinked old s (now.links s) → length (now.links s) ≡ 32 → depth < 2 ^ power
    → ((j : ℕ) → j < power → slice_index (now.links s) j ≡ ancestor old.slots (2 ^ j - 1) parent) → IsRelinked old now s parent depth
relinked-all old now s parent depth power same wide over climbed = record {
  ways = now.links s;
  long = wide;
  climbed = λ k low. climbed k (within_power k power (omega (arith, low, over)));
  is = same;
}

pub ascended-relinked : (old now next : Columns) (s parent depth : ℕ) → IsRelinked old now s parent depth → next ≡ record now { depth = written now.depth s depth } → IsAscended old next s parent depth
ascended-relinked old now next s parent depth relinks is = record {
  ways = relinks.ways;
  long = relinks.long;
  climbed = relinks.climbed;
  is = is ∙ ap (λ (c : Columns). let e : Columns = record c { depth = written c.depth s depth } in e) relinks.is;
}
