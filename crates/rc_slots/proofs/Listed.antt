-- The entries of chunks as a list, and what changes do to it.
use Rattle.std.proofs.Common.{◌≡◌, ◌<◌, ◌+◌, ◌/◌, inl, inr, ◌∙◌, ℕ, IsTrue, true, List, [], ◌∷◌, ◌++◌, Option, Some, None, length, set, get_or, refl, sym, ap, subst, arith, length-set, get_or-set_same, get_or-set_other}
use Rattle.std.proofs.lemmas.Bool.{cases_eq, cases_lt, false≢true}
use Rattle.std.proofs.lemmas.List.{get_or_past}
use Rattle.std.proofs.lemmas.List.FromFn.{fill_by_all, get_or-map-range_with_len, length-map-range_with_len, map-range_with_len_more}
use Rattle.rc_slots.specs.declared.entry.Entry.{Entry}
use Rattle.rc_slots.specs.Entries.{IsEntry, counted, entry_at, is_entry, slot_of}
use Rattle.rc_slots.specs.Chunks.{AreSame, Chunks, Holds, IsChanged, IsRecent, chunk_at, entries_of, entry_in, is_chunk}

pub length-entries : (chunks : Chunks) (n : ℕ) → length (entries_of chunks n) ≡ n
length-entries chunks n = length-map-range_with_len (entry_in chunks) 0 n

pub chunk_below : (chunks : Chunks) (index : ℕ) → IsTrue (is_chunk (chunk_at chunks index)) → index < length chunks
chunk_below chunks index there = elim (cases_lt index (length chunks)) [
  | inl below ↦ below
  | inr past ↦ absurd (false≢true (subst (λ c. IsTrue (is_chunk c)) (get_or_past chunks index None past) there))
]

-- the same entries
pub entries_same : (old new : Chunks) (n : ℕ) → AreSame old new → entries_of new n ≡ entries_of old n
entries_same old new n same =
    sym (fill_by_all (entry_in new) (entries_of old n) n None (length-entries old n) (λ k below. get_or-map-range_with_len (entry_in old) 0 n k k None below (omega arith) ∙ sym (same.entries k)))

pub holds_same : (old new : Chunks) (n : ℕ) → AreSame old new → Holds old n → Holds new n
holds_same old new n same held = record { enough = omega (arith, held.enough, same.count); none = λ number past. same.entries number ∙ held.none number past }

pub same_again : (old mid new : Chunks) → AreSame old mid → AreSame mid new → AreSame old new
same_again old mid new first second = record { entries = λ number. second.entries number ∙ first.entries number; count = omega (arith, first.count, second.count) }

module _ (chunks : Chunks) (n : ℕ) (held : Holds chunks n) where
  listed : (number : ℕ) → entry_at (entries_of chunks n) number ≡ entry_in chunks number
  listed number = elim (cases_lt number n) [
    | inl below ↦ get_or-map-range_with_len (entry_in chunks) 0 n number number None below (omega arith)
    | inr past ↦ get_or_past (entries_of chunks n) number None (omega (arith, length-entries chunks n, past)) ∙ sym (held.none number past)
  ]

  pub below_from : (number : ℕ) → IsEntry (entry_in chunks number) → number < n
  below_from number live = elim (cases_lt number n) [
    | inl below ↦ below
    | inr past ↦ absurd (false≢true (subst (λ e. IsTrue (is_entry e)) (held.none number past) live))
  ]

  module _ (new : Chunks) (number : ℕ) (entry : Option Entry) (changed : IsChanged chunks new number entry) where
    pub holds_changed : number < n → Holds new n
    holds_changed below = record { enough = omega (arith, held.enough, changed.count); none = λ other past. changed.others other (λ e. absurd (omega (arith, e, below, past))) ∙ held.none other past }

    pub holds_more : number ≡ n → n / 256 < length chunks → Holds new (n + 1)
    holds_more is inside = record { enough = omega (arith, inside, changed.count); none = λ other past. changed.others other (λ e. absurd (omega (arith, e, is, past))) ∙ held.none other (omega (arith, past)) }

    written : number < n → (k : ℕ) → get_or (set (entries_of chunks n) number entry) k None ≡ entry_in new k
    written below k = elim (cases_eq k number) [
      | inl same ↦ same_number k same below
      | inr apart ↦ get_or-set_other (entries_of chunks n) number k entry None apart ∙ listed k ∙ sym (changed.others k apart)
    ]
      where
        same_number : (k : ℕ) → k ≡ number → number < n → get_or (set (entries_of chunks n) number entry) k None ≡ entry_in new k
        same_number k same below =
            ap (λ m. get_or (set (entries_of chunks n) number entry) m None) same
            ∙ get_or-set_same (entries_of chunks n) number entry None (omega (arith, length-entries chunks n, below))
            ∙ sym changed.there
            ∙ ap (entry_in new) (sym same)

    pub entries_changed : number < n → entries_of new n ≡ set (entries_of chunks n) number entry
    entries_changed below = sym (fill_by_all (entry_in new) (set (entries_of chunks n) number entry) n None (length-set (entries_of chunks n) number entry ∙ length-entries chunks n) (λ k inside. written below k))

    unchanged : number ≡ n → (k : ℕ) → k < n → get_or (entries_of chunks n) k None ≡ entry_in new k
    unchanged is k below = listed k ∙ sym (changed.others k (λ e. absurd (omega (arith, e, is, below))))

    pub entries_more : number ≡ n → entries_of new (n + 1) ≡ entries_of chunks n ++ entry ∷ []
    entries_more is =
        map-range_with_len_more (entry_in new) 0 n n (omega arith)
        ∙ ap (λ es. es ++ entry_in new n ∷ []) (sym (fill_by_all (entry_in new) (entries_of chunks n) n None (length-entries chunks n) (unchanged is)))
        ∙ ap (λ e. entries_of chunks n ++ e ∷ []) (ap (entry_in new) (sym is) ∙ changed.there)

  module _ (now : List (Option Entry)) (view : entries_of chunks n ≡ now) where
    pub shown : (number : ℕ) → entry_at now number ≡ entry_in chunks number
    shown number = ap (λ es. entry_at es number) (sym view) ∙ listed number

    pub shown_length : n ≡ length now
    shown_length = sym (length-entries chunks n) ∙ ap length view

-- what has a count is an entry
pub counted_entry : (e : Option Entry) → 0 < counted e → IsEntry e
counted_entry None some = absurd (omega (arith, some))
counted_entry (Some e) some = refl

module _ (chunks : Chunks) (n : ℕ) (held : Holds chunks n) (now : List (Option Entry)) (view : entries_of chunks n ≡ now) where
  -- an entry was changed
  pub settled : (was new done : Chunks) (number : ℕ) (change : Option Entry → Option Entry) → was ≡ chunks → done ≡ new → IsEntry (entry_in was number) → IsChanged was new number (change (entry_in was number))
      → Holds done n × (entries_of done n ≡ set now number (change (entry_at now number)))
  settled was new done number change same is live changed =
      let before : IsChanged chunks new number (change (entry_in chunks number)) = subst (λ cs. IsChanged cs new number (change (entry_in cs number))) same changed in
      let below : number < n = below_from chunks n held number (subst (λ cs. IsEntry (entry_in cs number)) same live) in (
        subst (λ cs. Holds cs n) (sym is) (holds_changed chunks n held new number (change (entry_in chunks number)) before below),
        ap (λ cs. entries_of cs n) is
            ∙ entries_changed chunks n held new number (change (entry_in chunks number)) before below
            ∙ ap (λ es. set es number (change (entry_in chunks number))) view
            ∙ ap (λ e. set now number (change e)) (sym (shown chunks n held now view number)),
      )

  -- nothing was changed
  pub kept : (was new done : Chunks) → was ≡ chunks → done ≡ new → AreSame was new → Holds done n × (entries_of done n ≡ now)
  kept was new done same is unchanged =
      let before : AreSame chunks new = subst (λ cs. AreSame cs new) same unchanged in (
        subst (λ cs. Holds cs n) (sym is) (holds_same chunks new n before held),
        ap (λ cs. entries_of cs n) is ∙ entries_same chunks new n before ∙ view,
      )

  -- an entry was appended
  pub pushed : (was new done : Chunks) (entry : Option Entry) → was ≡ chunks → done ≡ new → n / 256 < length was → IsChanged was new n entry
      → Holds done (n + 1) × (entries_of done (n + 1) ≡ now ++ entry ∷ [])
  pushed was new done entry same is inside changed =
      let before : IsChanged chunks new n entry = subst (λ cs. IsChanged cs new n entry) same changed in (
        subst (λ cs. Holds cs (n + 1)) (sym is) (holds_more chunks n held new n entry before refl (subst (λ cs. n / 256 < length cs) same inside)),
        ap (λ cs. entries_of cs (n + 1)) is ∙ entries_more chunks n held new n entry before refl ∙ ap (λ es. es ++ entry ∷ []) view,
      )

-- what has a slot is an entry
pub slotted_entry : (e : Option Entry) (slot : ℕ) → slot_of e ≡ Some slot → true ≡ is_entry e
slotted_entry None slot is = grind (arith, is)
slotted_entry (Some e) slot is = refl

-- the same entries have the same slots
pub recent_same : (old new : Chunks) (number slot : ℕ) → ((k : ℕ) → slot_of (entry_in new k) ≡ slot_of (entry_in old k)) → IsRecent old number slot → IsRecent new number slot
recent_same old new number slot same recent = λ below. same number ∙ recent below

pub recent_unchanged : (old new : Chunks) (number slot : ℕ) → AreSame old new → IsRecent old number slot → IsRecent new number slot
recent_unchanged old new number slot same recent = recent_same old new number slot (λ k. ap slot_of (same.entries k)) recent

-- a change that leaves the slot
pub recent_changed : (chunks was new done : Chunks) (number : ℕ) (change : Option Entry → Option Entry) → was ≡ chunks → done ≡ new → ((e : Option Entry) → slot_of (change e) ≡ slot_of e) → IsChanged was new number (change (entry_in was number))
    → (recent slot : ℕ) → IsRecent chunks recent slot → IsRecent done recent slot
recent_changed chunks was new done number change same is keeps changed recent slot known =
    recent_same chunks done recent slot (λ k. ap (λ cs. slot_of (entry_in cs k)) is ∙ left k ∙ ap (λ cs. slot_of (entry_in cs k)) same) known
  where
    left : (k : ℕ) → slot_of (entry_in new k) ≡ slot_of (entry_in was k)
    left k = elim (cases_eq k number) [
      | inl e ↦ ap (λ m. slot_of (entry_in new m)) e ∙ ap slot_of changed.there ∙ keeps (entry_in was number) ∙ sym (ap (λ m. slot_of (entry_in was m)) e)
      | inr apart ↦ ap slot_of (changed.others k apart)
    ]
