-- Ways up stay what they are where a leaf is added or removed.
use Rattle.std.proofs.Common.{◌≡◌, ◌≢◌, ◌≤◌, ◌-◌, ◌^◌, inl, inr, ℕ, zero, suc, true, false, List, slice_index, refl, sym, ap, subst, ◌∙◌}
use Rattle.std.proofs.lemmas.Bool.{cases_eq}
use Rattle.std.proofs.Math.Pow.{suc_ones}
use Rattle.rc_regions.specs.declared.record.Slot.{Slot}
use Rattle.rc_regions.specs.declared.record.Slot.TheVariants.{Free, Root, Child}
use Rattle.rc_regions.specs.Slots.{slot_at, is_live, IsLive}
use Rattle.rc_regions.specs.Columns.{written}
use Rattle.rc_regions.specs.Above.{IsRooted}
use Rattle.rc_regions.specs.Ascents.{parent_or_self, ancestor, AreAscents, AreDepths, AreLinks, AreWays}
use Rattle.rc_regions.proofs.Ancestors.{ancestor-suc}
use Rattle.rc_regions.proofs.Writes.{written_same, written_other}

pub live_not_free : (slots : List Slot) (s : ℕ) → IsLive slots s → slot_at slots s ≢ Free
live_not_free slots s live free = let none : false ≡ true = sym (ap is_live free) ∙ live in cc

-- the slots differ at s alone
module _ (old new : List Slot) (s : ℕ) (same : (t : ℕ) → t ≢ s → slot_at new t ≡ slot_at old t) where
  still_live : (t : ℕ) → t ≢ s → IsLive old t → IsLive new t
  still_live t apart live = ap is_live (same t apart) ∙ live

  -- s is nobody's parent
  module _ (leaf : (t : ℕ) → slot_at old t ≢ Child s) where
    parent_apart : (t : ℕ) → t ≢ s → parent_or_self (slot_at old t) t ≢ s
    parent_apart t apart = by_slot (slot_at old t) refl where
      by_slot : (x : Slot) → slot_at old t ≡ x → parent_or_self x t ≢ s
      by_slot Free is = apart
      by_slot Root is = apart
      by_slot (Child parent) is = λ e. leaf t (is ∙ ap Child e)

    ancestor_same : (n t : ℕ) → t ≢ s → ancestor new n t ≡ ancestor old n t
    ancestor_same zero t apart = refl
    ancestor_same (suc n) t apart = ap (λ x. ancestor new n (parent_or_self x t)) (same t apart) ∙ ancestor_same n (parent_or_self (slot_at old t) t) (parent_apart t apart)

    -- s became free
    module _ (rooted : IsRooted old) (not_root : s ≢ 0) (free : slot_at new s ≡ Free) where
      live_apart : (t : ℕ) → IsLive new t → t ≢ s
      live_apart t live e = live_not_free new t live (ap (slot_at new) e ∙ free)

      pub IsRooted-removed : IsRooted new
      IsRooted-removed = record {
        root = same 0 (λ e. not_root (sym e)) ∙ rooted.root;
        only_root = λ t is. let apart : t ≢ s = λ e. (let clash : Free ≡ Root = sym free ∙ ap (slot_at new) (sym e) ∙ is in cc) in rooted.only_root t (sym (same t apart) ∙ is);
        parents = λ t parent is.
            let apart : t ≢ s = λ e. (let clash : Free ≡ Child parent = sym free ∙ ap (slot_at new) (sym e) ∙ is in cc) in
            let was : slot_at old t ≡ Child parent = sym (same t apart) ∙ is in
            still_live parent (λ e. leaf t (was ∙ ap Child e)) (rooted.parents t parent was);
      }

      pub AreDepths-removed : (depth : ℕ → ℕ) → AreDepths old depth → AreDepths new depth
      AreDepths-removed depth depths = record {
        root = depths.root;
        child = λ t parent is.
            let apart : t ≢ s = λ e. (let clash : Free ≡ Child parent = sym free ∙ ap (slot_at new) (sym e) ∙ is in cc) in
            depths.child t parent (sym (same t apart) ∙ is);
      }

      pub AreLinks-removed : (depth : ℕ → ℕ) (links : ℕ → List ℕ) → AreLinks old depth links → AreLinks new depth links
      AreLinks-removed depth links are t k live low =
          let apart = live_apart t live in
          are t k (ap is_live (sym (same t apart)) ∙ live) low ∙ sym (ancestor_same (2 ^ k) t apart)

    -- s became a child
    module _ (rooted : IsRooted old) (free : slot_at old s ≡ Free) (parent : ℕ) (live : IsLive old parent) (child : slot_at new s ≡ Child parent) where
      was_apart : (t : ℕ) → IsLive old t → t ≢ s
      was_apart t t_live e = live_not_free old t t_live (ap (slot_at old) e ∙ free)

      pub IsRooted-added : IsRooted new
      IsRooted-added = record {
        root = same 0 (was_apart 0 (ap is_live rooted.root)) ∙ rooted.root;
        only_root = λ t is. let apart : t ≢ s = λ e. (let clash : Child parent ≡ Root = sym child ∙ ap (slot_at new) (sym e) ∙ is in cc) in rooted.only_root t (sym (same t apart) ∙ is);
        parents = λ t above is. elim (cases_eq t s) [
          | inl e ↦ let is_parent : Child parent ≡ Child above = sym child ∙ ap (slot_at new) (sym e) ∙ is in let equal : parent ≡ above = cc in subst (IsLive new) equal (still_live parent (was_apart parent live) live)
          | inr apart ↦ let is_live : IsLive old above = rooted.parents t above (sym (same t apart) ∙ is) in still_live above (was_apart above is_live) is_live
        ];
      }

      pub AreDepths-added : (depth : ℕ → ℕ) → AreDepths old depth → AreDepths new (written depth s (suc (depth parent)))
      AreDepths-added depth depths = record {
        root = written_other depth s 0 (suc (depth parent)) (was_apart 0 (ap is_live rooted.root)) ∙ depths.root;
        child = λ t above is. elim (cases_eq t s) [
          | inl e ↦
              let is_parent : Child parent ≡ Child above = sym child ∙ ap (slot_at new) (sym e) ∙ is in
              let equal : parent ≡ above = cc in
              ap (written depth s (suc (depth parent))) e ∙ written_same depth s (suc (depth parent)) ∙ ap suc (ap depth equal ∙ sym (written_other depth s above (suc (depth parent)) (subst (λ n. n ≢ s) equal (was_apart parent live))))
          | inr apart ↦
              let was : slot_at old t ≡ Child above = sym (same t apart) ∙ is in
              written_other depth s t (suc (depth parent)) apart ∙ depths.child t above was ∙ ap suc (sym (written_other depth s above (suc (depth parent)) (was_apart above (rooted.parents t above was))))
        ];
      }

      pub AreLinks-added : (depth : ℕ → ℕ) (links : ℕ → List ℕ) (ways : List ℕ) → AreLinks old depth links → AreWays old parent (suc (depth parent)) ways → AreLinks new (written depth s (suc (depth parent))) (written links s ways)
      AreLinks-added depth links ways are climb t k t_live low = elim (cases_eq t s) [
        | inl e ↦
            let one : 2 ^ k ≡ suc (2 ^ k - 1) = sym (suc_ones k) in
            let deep : 2 ^ k ≤ suc (depth parent) = subst (λ d. 2 ^ k ≤ d) (ap (written depth s (suc (depth parent))) e ∙ written_same depth s (suc (depth parent))) low in
            ap (λ n. slice_index (written links s ways n) k) e ∙ ap (λ xs. slice_index xs k) (written_same links s ways) ∙ climb k deep
            ∙ sym (ancestor_same (2 ^ k - 1) parent (was_apart parent live)) ∙ sym (ancestor-suc new (2 ^ k - 1) s parent child) ∙ ap (λ n. ancestor new n s) (sym one) ∙ ap (ancestor new (2 ^ k)) (sym e)
        | inr apart ↦
            let deep : 2 ^ k ≤ depth t = subst (λ d. 2 ^ k ≤ d) (written_other depth s t (suc (depth parent)) apart) low in
            ap (λ xs. slice_index xs k) (written_other links s t ways apart) ∙ are t k (ap is_live (sym (same t apart)) ∙ t_live) deep ∙ sym (ancestor_same (2 ^ k) t apart)
      ]

-- the slots are the same at each number, though there may be one more that is free
module _ (old new : List Slot) (same : (t : ℕ) → slot_at new t ≡ slot_at old t) where
  pub live_moved : (t : ℕ) → IsLive old t → IsLive new t
  live_moved t live = ap is_live (same t) ∙ live

  pub ancestor_moved : (n t : ℕ) → ancestor new n t ≡ ancestor old n t
  ancestor_moved zero t = refl
  ancestor_moved (suc n) t = ap (λ x. ancestor new n (parent_or_self x t)) (same t) ∙ ancestor_moved n (parent_or_self (slot_at old t) t)

  pub AreAscents-moved : (depth : ℕ → ℕ) (links : ℕ → List ℕ) → AreAscents old depth links → AreAscents new depth links
  AreAscents-moved depth links ascents = record {
    rooted = record {
      root = same 0 ∙ ascents.rooted.root;
      only_root = λ t is. ascents.rooted.only_root t (sym (same t) ∙ is);
      parents = λ t parent is. live_moved parent (ascents.rooted.parents t parent (sym (same t) ∙ is));
    };
    depths = record { root = ascents.depths.root; child = λ t parent is. ascents.depths.child t parent (sym (same t) ∙ is) };
    long = ascents.long;
    ways = λ t k live low. ascents.ways t k (ap is_live (sym (same t)) ∙ live) low ∙ sym (ancestor_moved (2 ^ k) t);
  }
