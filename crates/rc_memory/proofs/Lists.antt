-- Regions that are searched at a place, and who is above whom.
use Rattle.std.proofs.Common.{◌≡◌, ◌≢◌, ◌<◌, ℕ, zero, suc, ◌+◌, Bool, true, false, ◌||◌, [], ◌∷◌, length, drop, get_or, refl, sym, ap, ◌∙◌, arith, add-one}
use Rattle.std.specs.Prelude.{not, ◌&&◌, nat_eq}
use Rattle.std.specs.List.{list_any}
use Rattle.rc_core.specs.Heap.{is_above_within}
use Rattle.rc_memory.specs.Kept.{KeptRegion, KeptHeap, is_named}
use Rattle.rc_values.specs.Objects.{object_names}

named_drop : (r at i : ℕ) (xs : KeptHeap) (d : KeptRegion) → i < length xs → is_named r at (drop i xs) ≡ ((not (nat_eq at r) && ((get_or xs i d).alive && list_any (object_names r) (get_or xs i d).objects)) || is_named r (suc at) (drop (suc i) xs))
named_drop r at i [] d within = absurd (omega (arith, within))
named_drop r at zero (x ∷ xs) d within = refl
named_drop r at (suc i) (x ∷ xs) d within = named_drop r at i xs d (omega (arith, within))

named_next : (r i : ℕ) (xs : KeptHeap) (d : KeptRegion) → i < length xs → is_named r i (drop i xs) ≡ ((not (nat_eq i r) && ((get_or xs i d).alive && list_any (object_names r) (get_or xs i d).objects)) || is_named r (i + 1) (drop (i + 1) xs))
named_next r i xs d within = named_drop r i i xs d within ∙ ap (λ n. (not (nat_eq i r) && ((get_or xs i d).alive && list_any (object_names r) (get_or xs i d).objects)) || is_named r n (drop n xs)) (sym (add-one i))

-- a region that names it decides
pub named_here : (r i : ℕ) (xs : KeptHeap) (d : KeptRegion) → i < length xs → i ≢ r → ((get_or xs i d).alive && list_any (object_names r) (get_or xs i d).objects) ≡ true → is_named r i (drop i xs) ≡ true
named_here r i xs d within other is = named_next r i xs d within ∙ ap (λ b. (not (nat_eq i r) && b) || is_named r (i + 1) (drop (i + 1) xs)) is ∙ grind (arith, other)

-- one that doesn't is passed by, and so is the region itself
pub named_on : (r i : ℕ) (xs : KeptHeap) (d : KeptRegion) → i < length xs → ((get_or xs i d).alive && list_any (object_names r) (get_or xs i d).objects) ≡ false → is_named r i (drop i xs) ≡ is_named r (i + 1) (drop (i + 1) xs)
named_on r i xs d within is = named_next r i xs d within ∙ ap (λ b. (not (nat_eq i r) && b) || is_named r (i + 1) (drop (i + 1) xs)) is ∙ grind arith

pub named_past : (r i : ℕ) (xs : KeptHeap) → i < length xs → i ≡ r → is_named r i (drop i xs) ≡ is_named r (i + 1) (drop (i + 1) xs)
named_past r i xs within same = named_next r i xs (record { parent = 0; alive = false; objects = [] }) within ∙ grind (arith, same)

pub above_on : (parent : ℕ → ℕ) (n m a at : ℕ) → n ≡ suc m → at ≢ a → at ≢ 0 → is_above_within parent n a at ≡ is_above_within parent m a (parent at)
above_on parent n m a at e other below = ap (λ k. is_above_within parent k a at) e ∙ grind (arith, other, below)

pub named_on_at : (r i : ℕ) (xs : KeptHeap) (x : KeptRegion) (b : Bool) → i < length xs → x ≡ get_or xs i x → b ≡ (x.alive && list_any (object_names r) x.objects) → b ≡ false → is_named r (i + 1) (drop (i + 1) xs) ≡ is_named r i (drop i xs)
named_on_at r i xs x b within read is other = sym (named_on r i xs x within (ap (λ (g : KeptRegion). g.alive && list_any (object_names r) g.objects) (sym read) ∙ sym is ∙ other))
