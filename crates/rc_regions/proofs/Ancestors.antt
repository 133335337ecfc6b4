-- Ancestors, depths and what is above.
use Rattle.std.proofs.Common.{◌≡◌, ◌≤◌, ◌+◌, ◌-◌, ◌⊎◌, inl, inr, ℕ, zero, suc, IsTrue, List, refl, sym, ap, ◌∙◌, arith}
use Rattle.rc_regions.specs.declared.record.Slot.{Slot}
use Rattle.rc_regions.specs.declared.record.Slot.TheVariants.{Free, Root, Child}
use Rattle.rc_regions.specs.Slots.{slot_at, is_live, IsLive}
use Rattle.rc_regions.specs.Above.{Above, here, higher, HasDepth, top, below, IsRooted, IsTree}
use Rattle.rc_regions.specs.Ascents.{parent_or_self, ancestor, AreDepths}

-- the kinds of a live slot
pub live_cases : (slots : List Slot) (s : ℕ) → IsLive slots s → (slot_at slots s ≡ Root) ⊎ ((parent : ℕ) × (slot_at slots s ≡ Child parent))
live_cases slots s live = by_slot (slot_at slots s) refl live where
  by_slot : (x : Slot) → slot_at slots s ≡ x → IsTrue (is_live x) → (slot_at slots s ≡ Root) ⊎ ((parent : ℕ) × (slot_at slots s ≡ Child parent))
  by_slot Free is live = absurd (cc)
  by_slot Root is live = inl is
  by_slot (Child parent) is live = inr (parent, is)

module _ (slots : List Slot) where
  pub ancestor-add : (m n s : ℕ) → ancestor slots (m + n) s ≡ ancestor slots n (ancestor slots m s)
  ancestor-add zero n s = let e : 0 + n ≡ n = omega arith in ap (λ k. ancestor slots k s) e
  ancestor-add (suc m) n s = let e : suc m + n ≡ suc (m + n) = omega arith in ap (λ k. ancestor slots k s) e ∙ ancestor-add m n (parent_or_self (slot_at slots s) s)

  pub ancestor-suc : (n s parent : ℕ) → slot_at slots s ≡ Child parent → ancestor slots (suc n) s ≡ ancestor slots n parent
  ancestor-suc n s parent is = ap (λ x. ancestor slots n (parent_or_self x s)) is

  -- a slot that is found by climbing is above
  pub Above-ancestor : (n b : ℕ) → Above slots (ancestor slots n b) b
  Above-ancestor zero b = here b refl
  Above-ancestor (suc n) b = by_slot (slot_at slots b) refl (Above-ancestor n) where
    by_slot : (x : Slot) → slot_at slots b ≡ x → ((c : ℕ) → Above slots (ancestor slots n c) c) → Above slots (ancestor slots n (parent_or_self x b)) b
    by_slot Free is further = further b
    by_slot Root is further = further b
    by_slot (Child parent) is further = higher b parent is (further parent)

  module _ (rooted : IsRooted slots) where
    pub live-ancestor : (n s : ℕ) → IsLive slots s → IsLive slots (ancestor slots n s)
    live-ancestor zero s live = live
    live-ancestor (suc n) s live = by_slot (slot_at slots s) refl (live-ancestor n) where
      by_slot : (x : Slot) → slot_at slots s ≡ x → ((t : ℕ) → IsLive slots t → IsLive slots (ancestor slots n t)) → IsLive slots (ancestor slots n (parent_or_self x s))
      by_slot Free is further = further s live
      by_slot Root is further = further s live
      by_slot (Child parent) is further = further parent (rooted.parents s parent is)

    module _ (depth : ℕ → ℕ) (depths : AreDepths slots depth) where
      depth-root : (s : ℕ) → slot_at slots s ≡ Root → depth s ≡ 0
      depth-root s is = ap depth (rooted.only_root s is) ∙ depths.root

      pub depth-ancestor : (n s : ℕ) → IsLive slots s → n ≤ depth s → depth (ancestor slots n s) + n ≡ depth s
      depth-ancestor zero s live low = omega arith
      depth-ancestor (suc n) s live low = elim (live_cases slots s live) [
        | inl root ↦ let zero_deep = depth-root s root in absurd (omega (arith, low, zero_deep))
        | inr child ↦
            let deeper = depths.child s child.0 child.1 in
            let rest = depth-ancestor n child.0 (rooted.parents s child.0 child.1) (omega (arith, low, deeper)) in
            let same : depth (ancestor slots (suc n) s) ≡ depth (ancestor slots n child.0) = ap depth (ancestor-suc n s child.0 child.1) in
            omega (arith, deeper, rest, same)
      ]

      -- what is above is found by climbing the difference of depths
      pub ancestor-above : (a b : ℕ) → Above slots a b → (n : ℕ) × (ancestor slots n b ≡ a) × (depth a + n ≡ depth b)
      ancestor-above a b (here _ same) = (0, sym same, let e = ap depth same in omega (arith, e))
      ancestor-above a b (higher _ parent is above) =
          let rest = ancestor-above a parent above in
          let deeper = depths.child b parent is in
          let far = rest.2 in
          (suc rest.0, ancestor-suc rest.0 b parent is ∙ rest.1, omega (arith, far, deeper))

      pub depth-unique : (s d : ℕ) → HasDepth slots s d → depth s ≡ d
      depth-unique s d (top _ is) = depth-root s is
      depth-unique s d (below _ parent e is rest) = depths.child s parent is ∙ ap suc (depth-unique parent e rest)

      HasDepth-depth : (n s : ℕ) → depth s ≡ n → IsLive slots s → HasDepth slots s n
      HasDepth-depth zero s deep live = elim (live_cases slots s live) [
        | inl root ↦ top s root
        | inr child ↦ let deeper = depths.child s child.0 child.1 in absurd (omega (arith, deep, deeper))
      ]
      HasDepth-depth (suc n) s deep live = elim (live_cases slots s live) [
        | inl root ↦ let zero_deep = depth-root s root in absurd (omega (arith, deep, zero_deep))
        | inr child ↦ let deeper = depths.child s child.0 child.1 in below s child.0 n child.1 (HasDepth-depth n child.0 (omega (arith, deep, deeper)) (rooted.parents s child.0 child.1))
      ]

      pub is_tree : IsTree slots
      is_tree = record { rooted = rooted; depths = λ s live. (depth s, HasDepth-depth (depth s) s refl live) }

      -- a is above b exactly where the way up from b by the difference of depths leads to a
      pub above_found : (a b : ℕ) → Above slots a b → ancestor slots (depth b - depth a) b ≡ a
      above_found a b above =
          let way = ancestor-above a b above in
          let far = way.2 in
          let distance : depth b - depth a ≡ way.0 = omega (arith, far) in
          ap (λ n. ancestor slots n b) distance ∙ way.1

      pub above_deeper : (a b : ℕ) → Above slots a b → depth a ≤ depth b
      above_deeper a b above = let far = (ancestor-above a b above).2 in omega (arith, far)
