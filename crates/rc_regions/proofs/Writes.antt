-- What a write does to a column, and to the places of lists.
use Rattle.std.proofs.Common.{◌≡◌, ◌≢◌, ◌<◌, ◌⊎◌, inl, inr, ℕ, suc, zero, true, false, List, [], ◌∷◌, ◌++◌, Option, Some, None, length, set, nat_eq, cond, refl, sym, ap, subst, rules, get_or-set_same, get_or-set_other}
use Rattle.std.proofs.lemmas.Bool.{cases_eq}
use Rattle.rc_regions.specs.declared.record.Slot.{Slot}
use Rattle.rc_regions.specs.declared.record.Slot.TheVariants.{Free, Root, Child}
use Rattle.rc_regions.specs.Slots.{slot_at}
use Rattle.rc_regions.specs.Columns.{Columns, written}
use Rattle.rc_regions.specs.Lists.{Spot, Head, Behind, follower, spot, with_first, with_follower, with_previous, placed}

is_self : (n : ℕ) → nat_eq n n ≡ true
is_self n = search rules

is_other : (m n : ℕ) → m ≢ n → nat_eq m n ≡ false
is_other m n other = search rules

pub written_same : {A : Type 0} (f : ℕ → A) (s : ℕ) (value : A) → written f s value s ≡ value
unfolding written
written_same f s value = ap (λ b. cond b value (f s)) (is_self s)

pub written_other : {A : Type 0} (f : ℕ → A) (s t : ℕ) (value : A) → t ≢ s → written f s value t ≡ f t
unfolding written
written_other f s t value other = ap (λ b. cond b value (f t)) (is_other t s other)

-- cases: two slots, two places, or a perhaps-slot and a slot are equal or not
slot_cases : (x y : Slot) → (x ≡ y) ⊎ (x ≢ y)
slot_cases Free Free = inl refl
slot_cases Free Root = inr (λ e. cc)
slot_cases Free (Child q) = inr (λ e. cc)
slot_cases Root Free = inr (λ e. cc)
slot_cases Root Root = inl refl
slot_cases Root (Child q) = inr (λ e. cc)
slot_cases (Child p) Free = inr (λ e. cc)
slot_cases (Child p) Root = inr (λ e. cc)
slot_cases (Child p) (Child q) = elim (cases_eq p q) [ inl e ↦ inl (ap Child e) | inr n ↦ inr (λ e. n (cc)) ]

pub spot_cases : (x y : Spot) → (x ≡ y) ⊎ (x ≢ y)
spot_cases (Head l) (Head m) = elim (slot_cases l m) [ inl e ↦ inl (ap Head e) | inr n ↦ inr (λ e. n (cc)) ]
spot_cases (Head l) (Behind t) = inr (λ e. cc)
spot_cases (Behind s) (Head m) = inr (λ e. cc)
spot_cases (Behind s) (Behind t) = elim (cases_eq s t) [ inl e ↦ inl (ap Behind e) | inr n ↦ inr (λ e. n (cc)) ]

pub some_cases : (o : Option ℕ) (s : ℕ) → (o ≡ Some s) ⊎ (o ≢ Some s)
some_cases None s = inr (λ e. cc)
some_cases (Some t) s = elim (cases_eq t s) [ inl e ↦ inl (ap Some e) | inr n ↦ inr (λ e. n (cc)) ]

pub follower_same : (c : Columns) (at : Spot) (s : Option ℕ) → at ≢ Head Root → follower (with_follower c at s) at ≡ s
follower_same c (Head Free) s not_root = refl
follower_same c (Head Root) s not_root = absurd (not_root refl)
follower_same c (Head (Child p)) s not_root = written_same c.first_child p s
follower_same c (Behind t) s not_root = written_same c.next t s

pub follower_other : (c : Columns) (at other : Spot) (s : Option ℕ) → other ≢ at → follower (with_follower c at s) other ≡ follower c other
follower_other c (Head Free) (Head Free) s apart = absurd (apart refl)
follower_other c (Head Free) (Head Root) s apart = refl
follower_other c (Head Free) (Head (Child q)) s apart = refl
follower_other c (Head Free) (Behind u) s apart = refl
follower_other c (Head Root) other s apart = refl
follower_other c (Head (Child p)) (Head Free) s apart = refl
follower_other c (Head (Child p)) (Head Root) s apart = refl
follower_other c (Head (Child p)) (Head (Child q)) s apart = written_other c.first_child p q s (λ e. apart (ap (λ n. Head (Child n)) e))
follower_other c (Head (Child p)) (Behind u) s apart = refl
follower_other c (Behind t) (Head Free) s apart = refl
follower_other c (Behind t) (Head Root) s apart = refl
follower_other c (Behind t) (Head (Child q)) s apart = refl
follower_other c (Behind t) (Behind u) s apart = written_other c.next t u s (λ e. apart (ap Behind e))

-- what links between slots don't change
pub record Unlisted : Type 0 where
  pub slots : List Slot
  pub depth : ℕ → ℕ
  pub links : ℕ → List ℕ

abbrev pub unlisted : Columns → Unlisted
unlisted c = record { slots = c.slots; depth = c.depth; links = c.links }

pub unlisted-with_first : (c : Columns) (list : Slot) (s : Option ℕ) → unlisted (with_first c list s) ≡ unlisted c
unlisted-with_first c Free s = refl
unlisted-with_first c Root s = refl
unlisted-with_first c (Child p) s = refl

pub unlisted-with_follower : (c : Columns) (at : Spot) (s : Option ℕ) → unlisted (with_follower c at s) ≡ unlisted c
unlisted-with_follower c (Head list) s = unlisted-with_first c list s
unlisted-with_follower c (Behind t) s = refl

pub unlisted-with_previous : (c : Columns) (s previous : Option ℕ) → unlisted (with_previous c s previous) ≡ unlisted c
unlisted-with_previous c None previous = refl
unlisted-with_previous c (Some s) previous = refl

pub slots-with_follower : (c : Columns) (at : Spot) (s : Option ℕ) → (with_follower c at s).slots ≡ c.slots
slots-with_follower c at s = ap (λ (x : Unlisted). x.slots) (unlisted-with_follower c at s)

pub slots-with_previous : (c : Columns) (s previous : Option ℕ) → (with_previous c s previous).slots ≡ c.slots
slots-with_previous c s previous = ap (λ (x : Unlisted). x.slots) (unlisted-with_previous c s previous)

pub previous-with_follower : (c : Columns) (at : Spot) (s : Option ℕ) → (with_follower c at s).previous ≡ c.previous
previous-with_follower c (Head Free) s = refl
previous-with_follower c (Head Root) s = refl
previous-with_follower c (Head (Child p)) s = refl
previous-with_follower c (Behind t) s = refl

pub follower-with_previous : (c : Columns) (s previous : Option ℕ) (at : Spot) → follower (with_previous c s previous) at ≡ follower c at
follower-with_previous c None previous at = refl
follower-with_previous c (Some s) previous (Head Free) = refl
follower-with_previous c (Some s) previous (Head Root) = refl
follower-with_previous c (Some s) previous (Head (Child p)) = refl
follower-with_previous c (Some s) previous (Behind t) = refl

pub previous_same : (c : Columns) (o previous : Option ℕ) (s : ℕ) → o ≡ Some s → (with_previous c o previous).previous s ≡ previous
previous_same c None previous s is = cc
previous_same c (Some t) previous s is = let same : s ≡ t = cc in subst (λ n. written c.previous t previous n ≡ previous) (sym same) (written_same c.previous t previous)

pub previous_other : (c : Columns) (o previous : Option ℕ) (s : ℕ) → o ≢ Some s → (with_previous c o previous).previous s ≡ c.previous s
previous_other c None previous s other = refl
previous_other c (Some t) previous s other = written_other c.previous t s previous (λ e. other (ap Some (sym e)))

pub spot_is_behind : (list : Slot) (o : Option ℕ) (s : ℕ) → spot list o ≡ Behind s → o ≡ Some s
spot_is_behind list None s e = cc
spot_is_behind list (Some t) s e = cc

pub spot_is_head : (list other : Slot) (o : Option ℕ) → spot list o ≡ Head other → (o ≡ None) × (list ≡ other)
spot_is_head list other None e = (refl, cc)
spot_is_head list other (Some t) e = cc

pub spot_not_root : (list : Slot) (o : Option ℕ) → list ≢ Root → spot list o ≢ Head Root
spot_not_root list None not_root e = not_root (cc)
spot_not_root list (Some t) not_root e = cc

pub follower-placed : (c : Columns) (s : ℕ) (list : Slot) (next : Option ℕ) (at : Spot) → at ≢ Behind s → follower (placed c s list next) at ≡ follower c at
follower-placed c s list next (Head Free) apart = refl
follower-placed c s list next (Head Root) apart = refl
follower-placed c s list next (Head (Child p)) apart = refl
follower-placed c s list next (Behind t) apart = written_other c.next s t next (λ e. apart (ap Behind e))

-- what stands at a slot after a write
pub slot_at_same : (slots : List Slot) (s : ℕ) (x : Slot) → s < length slots → slot_at (set slots s x) s ≡ x
slot_at_same slots s x below = get_or-set_same slots s x Free below

pub slot_at_other : (slots : List Slot) (s t : ℕ) (x : Slot) → t ≢ s → slot_at (set slots s x) t ≡ slot_at slots t
slot_at_other slots s t x apart = get_or-set_other slots s t x Free apart

pub slot_at-new : (slots : List Slot) (s : ℕ) → slot_at (slots ++ Free ∷ []) s ≡ slot_at slots s
slot_at-new [] zero = refl
slot_at-new [] (suc s) = refl
slot_at-new (x ∷ xs) zero = refl
slot_at-new (x ∷ xs) (suc s) = slot_at-new xs s
