-- References given one after the other.
use Rattle.std.proofs.Common.{◌≡◌, ◌≤◌, ◌+◌, ◌∙◌, ℕ, zero, suc, Bool, true, false, List, [], ◌∷◌, get_or, Option, Some, None, refl, sym, ap, arith}
use Rattle.std.specs.Prelude.{option_map}
use Rattle.rc_slots.specs.declared.entry.Entry.{Entry}
use Rattle.rc_slots.specs.Entries.{Member, entry_at, is_entry, member_of, members_of}
use Rattle.rc_tally.specs.Tally.{IsGiven, MayBeGiven}

-- nothing was given
pub given_none : (d : List (Option Entry)) (by : ℕ → ℕ) → ((r : ℕ) → by r ≡ 0) → IsGiven d d by
given_none d by none = record { counts = λ r. omega (arith, none r); members = refl }

-- one after the other
pub given_more : (a b c : List (Option Entry)) (f g h : ℕ → ℕ) → IsGiven a b f → IsGiven b c g → ((r : ℕ) → h r ≡ f r + g r) → IsGiven a c h
given_more a b c f g h first second both = record {
  counts = λ r. omega (arith, first.counts r, second.counts r, both r);
  members = second.members ∙ first.members;
}

abbrev is_there : Option Member → Bool
is_there None = false
is_there (Some m) = true

entry_there : (e : Option Entry) → is_entry e ≡ is_there (option_map member_of e)
entry_there None = refl
entry_there (Some e) = refl

pub entry_member : (d : List (Option Entry)) (r : ℕ) → is_entry (entry_at d r) ≡ is_there (get_or (members_of d) r None)
entry_member [] r = refl
entry_member (e ∷ es) zero = entry_there e
entry_member (e ∷ es) (suc r) = entry_member es r

-- what is left of the room is enough for the next
pub room_left : (a b : List (Option Entry)) (f g h : ℕ → ℕ) → IsGiven a b f → MayBeGiven a h → ((r : ℕ) → f r + g r ≤ h r) → MayBeGiven b g
room_left a b f g h first may both = record {
  live = λ r some. entry_member b r ∙ ap (λ ms. is_there (get_or ms r None)) first.members ∙ sym (entry_member a r) ∙ may.live r (omega (arith, some, both r));
  few = λ r. omega (arith, first.counts r, may.few r, both r);
}
