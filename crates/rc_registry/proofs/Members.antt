-- Members by their numbers: one that is taken out, one more, and the children of one.
use Rattle.std.proofs.Common.{◌≡◌, ◌≢◌, ◌<◌, ◌∙◌, ◌⊎◌, inl, inr, ℕ, zero, suc, Bool, true, false, nat_eq, IsTrue, List, [], ◌∷◌, ◌++◌, Option, Some, None, length, map, get_or, set, refl, sym, ap, subst, arith, rules, get_or-set_other}
use Rattle.std.specs.Prelude.{◌||◌, option_map}
use Rattle.std.proofs.lemmas.Bool.{false≢true}
use Rattle.rc_slots.specs.declared.entry.Entry.{Entry}
use Rattle.rc_slots.specs.Entries.{Member, counted, entry_at, is_entry, member_of, members_of, slot_of}
use Rattle.rc_registry.specs.Registries.{IsMember, Members, has_child, is_child_of, is_member, member_at, member_in, or_root, parent_among}

pub member_there : (members : Members) (n : ℕ) → IsMember members n → n < length members
member_there [] n live = absurd (false≢true live)
member_there (m ∷ ms) zero live = omega arith
member_there (m ∷ ms) (suc n) live = omega (arith, member_there ms n live)

-- one is taken out
gone : (members : Members) (r : ℕ) → member_at (set members r None) r ≡ None
gone [] r = refl
gone (m ∷ ms) zero = refl
gone (m ∷ ms) (suc r) = gone ms r

pub left_apart : (members : Members) (r n : ℕ) → IsMember (set members r None) n → n ≢ r
left_apart members r n live same = false≢true (subst (λ m. IsTrue (is_member m)) (ap (member_at (set members r None)) same ∙ gone members r) live)

pub left_same : (members : Members) (r n : ℕ) → n ≢ r → member_at (set members r None) n ≡ member_at members n
left_same members r n apart = get_or-set_other members r n None None apart

-- one more
pub more_same : (members : Members) (x : Option Member) (n : ℕ) → n < length members → member_at (members ++ x ∷ []) n ≡ member_at members n
more_same [] x n below = absurd (omega (arith, below))
more_same (m ∷ ms) x zero below = refl
more_same (m ∷ ms) x (suc n) below = more_same ms x n (omega (arith, below))

pub more_new : (members : Members) (x : Option Member) → member_at (members ++ x ∷ []) (length members) ≡ x
more_new [] x = refl
more_new (m ∷ ms) x = more_new ms x

pub more_cases : (members : Members) (x : Option Member) (n : ℕ) → IsMember (members ++ x ∷ []) n → (n ≡ length members) ⊎ (n < length members)
more_cases [] x zero live = inl refl
more_cases [] x (suc n) live = absurd (false≢true live)
more_cases (m ∷ ms) x zero live = inr (omega arith)
more_cases (m ∷ ms) x (suc n) live = elim (more_cases ms x n live) [
  | inl same ↦ inl (ap suc same)
  | inr below ↦ inr (omega (arith, below))
]

-- a child of r
either : (a b : Bool) → (a || b) ≡ true → (a ≡ true) ⊎ (b ≡ true)
either true b holds = inl refl
either false b holds = inr holds

or_right : (a : Bool) → (a || true) ≡ true
or_right true = refl
or_right false = refl

same_number : (m n : ℕ) → nat_eq m n ≡ true → m ≡ n
same_number m n same = search (rules, same)

number_itself : (n : ℕ) → nat_eq n n ≡ true
number_itself n = search rules

child_here : (r : ℕ) (m : Option Member) → is_child_of r m ≡ true → IsTrue (is_member m) × ((or_root m).parent ≡ r)
child_here r None child = absurd (false≢true child)
child_here r (Some m) child = (refl, same_number m.parent r child)

pub child_found : (members : Members) (r : ℕ) → has_child members r ≡ true → (n : ℕ) × IsMember members n × (parent_among members n ≡ r)
child_found [] r child = absurd (false≢true child)
child_found (m ∷ ms) r child = elim (either (is_child_of r m) (has_child ms r) child) [
  | inl here ↦ (0, (child_here r m here).0, (child_here r m here).1)
  | inr behind ↦ let rest = child_found ms r behind in (suc rest.0, rest.1, rest.2)
]

is_child : (r : ℕ) (m : Option Member) → IsTrue (is_member m) → (or_root m).parent ≡ r → is_child_of r m ≡ true
is_child r None live same = absurd (false≢true live)
is_child r (Some m) live same = ap (λ n. nat_eq n r) same ∙ number_itself r

pub child_there : (members : Members) (r n : ℕ) → IsMember members n → parent_among members n ≡ r → has_child members r ≡ true
child_there [] r n live same = absurd (false≢true live)
child_there (m ∷ ms) r zero live same = ap (λ b. b || has_child ms r) (is_child r m live same)
child_there (m ∷ ms) r (suc n) live same = ap (λ b. is_child_of r m || b) (child_there ms r n live same) ∙ or_right (is_child_of r m)

-- a member by its entry
pub entry_slot : (d : List (Option Entry)) (n : ℕ) (e : Entry) → entry_at d n ≡ Some e → IsMember (members_of d) n × ((member_in (members_of d) n).slot ≡ e.slot)
entry_slot [] n e is = cc
entry_slot (x ∷ xs) zero e is = (ap (λ y. is_member (option_map member_of y)) is, ap (λ y. (or_root (option_map member_of y)).slot) is)
entry_slot (x ∷ xs) (suc n) e is = entry_slot xs n e is

pub no_entry : (d : List (Option Entry)) (n : ℕ) → entry_at d n ≡ None → ¬ IsMember (members_of d) n
no_entry [] n is live = false≢true live
no_entry (x ∷ xs) zero is live = false≢true (sym (ap (λ y. is_member (option_map member_of y)) is) ∙ live)
no_entry (x ∷ xs) (suc n) is live = no_entry xs n is live

pub entry_member : (d : List (Option Entry)) (n : ℕ) → is_entry (entry_at d n) ≡ is_member (member_at (members_of d) n)
entry_member [] n = refl
entry_member (None ∷ xs) zero = refl
entry_member (Some e ∷ xs) zero = refl
entry_member (x ∷ xs) (suc n) = entry_member xs n

pub slot_member : (d : List (Option Entry)) (n slot : ℕ) → slot_of (entry_at d n) ≡ Some slot → slot ≡ (member_in (members_of d) n).slot
slot_member [] n slot is = cc
slot_member (None ∷ xs) zero slot is = cc
slot_member (Some e ∷ xs) zero slot is = cc
slot_member (x ∷ xs) (suc n) slot is = slot_member xs n slot is

-- one that is counted is live
pub counted_live : (d : List (Option Entry)) (r : ℕ) → 0 < get_or (map counted d) r 0 → IsMember (members_of d) r
counted_live [] r some = absurd (omega (arith, some))
counted_live (None ∷ es) zero some = absurd (omega (arith, some))
counted_live (Some e ∷ es) zero some = refl
counted_live (e ∷ es) (suc r) some = counted_live es r some
