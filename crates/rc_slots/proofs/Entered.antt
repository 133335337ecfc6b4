-- Entries in chunks, and what a change of one does.
use Rattle.std.proofs.Common.{◌≡◌, ◌≢◌, ◌<◌, ◌/◌, ◌%◌, inl, inr, ◌∙◌, ℕ, zero, suc, cond, List, [], ◌∷◌, Option, Some, None, length, set, replicate, refl, sym, ap, arith, length-set, get_or-set_same, get_or-set_other}
use Rattle.std.specs.List.{count_by}
use Rattle.std.proofs.lemmas.Bool.{cases_eq}
use Rattle.std.proofs.lemmas.List.Sums.{sum_by-cons}
use Rattle.rc_slots.specs.declared.entry.Entry.{Entry}
use Rattle.rc_slots.specs.Entries.{entry_at, is_entry}
use Rattle.rc_slots.specs.Chunks.{AreSame, Chunks, IsChanged, chunk_at, entries_in, entry_in}

-- a list without an entry
pub no_entry : (entries : List (Option Entry)) → count_by is_entry entries ≡ 0 → entries ≡ replicate (length entries) None
no_entry [] none = refl
no_entry (None ∷ entries) none = ap (λ es. None ∷ es) (no_entry entries (omega (arith, none, sum_by-cons (λ e. cond (is_entry e) 1 0) None entries)))
no_entry (Some e ∷ entries) none = absurd (omega (arith, none, sum_by-cons (λ e. cond (is_entry e) 1 0) (Some e) entries))

-- entries of a chunk of nothing but none
pub none_there : (n at : ℕ) → entry_at (replicate n None) at ≡ None
none_there zero at = refl
none_there (suc n) zero = refl
none_there (suc n) (suc at) = none_there n at

-- two numbers with one chunk and one place are the same
one_number : (m n : ℕ) → m / 256 ≡ n / 256 → m % 256 ≡ n % 256 → m ≡ n
one_number m n chunk place = omega (arith, chunk, place)

module _ (chunks : Chunks) (number : ℕ) (old new : List (Option Entry)) (entry : Option Entry) (was : chunk_at chunks (number / 256) ≡ Some old) (inside : number / 256 < length chunks) (is : new ≡ set old (number % 256) entry) (long : length new ≡ 256) where
  abbrev pub now : Chunks
  now = set chunks (number / 256) (Some new)

  long_before : number % 256 < length old
  long_before = let same : length new ≡ length old = ap length is ∙ length-set old (number % 256) entry in omega (arith, long, same)

  chunk_now : chunk_at now (number / 256) ≡ Some new
  chunk_now = get_or-set_same chunks (number / 256) (Some new) None inside

  there : entry_in now number ≡ entry
  there = ap (λ c. entry_at (entries_in c) (number % 256)) chunk_now ∙ ap (λ es. entry_at es (number % 256)) is ∙ get_or-set_same old (number % 256) entry None long_before

  other_place : (other : ℕ) → other ≢ number → other / 256 ≡ number / 256 → entry_in now other ≡ entry_in chunks other
  other_place other apart same =
      let place : other % 256 ≢ number % 256 = λ e. apart (one_number other number same e) in
      ap (λ k. entry_at (entries_in (chunk_at now k)) (other % 256)) same
      ∙ ap (λ c. entry_at (entries_in c) (other % 256)) chunk_now
      ∙ ap (λ es. entry_at es (other % 256)) is
      ∙ get_or-set_other old (number % 256) (other % 256) entry None place
      ∙ sym (ap (λ k. entry_at (entries_in (chunk_at chunks k)) (other % 256)) same ∙ ap (λ c. entry_at (entries_in c) (other % 256)) was)

  others : (other : ℕ) → other ≢ number → entry_in now other ≡ entry_in chunks other
  others other apart = elim (cases_eq (other / 256) (number / 256)) [
    | inl same ↦ other_place other apart same
    | inr far ↦ ap (λ c. entry_at (entries_in c) (other % 256)) (get_or-set_other chunks (number / 256) (other / 256) (Some new) None far)
  ]

  pub chunk_changed : IsChanged chunks now number entry
  chunk_changed = record { there = there; others = others; count = length-set chunks (number / 256) (Some new) }

-- a chunk is exchanged for one with the same entries
pub chunk_exchanged : (chunks : Chunks) (index : ℕ) (c : Option (List (Option Entry))) → index < length chunks
    → ((at : ℕ) → entry_at (entries_in c) at ≡ entry_at (entries_in (chunk_at chunks index)) at)
    → AreSame chunks (set chunks index c)
chunk_exchanged chunks index c inside same = record {
  entries = λ number. elim (cases_eq (number / 256) index) [
    | inl here ↦
        ap (λ k. entry_at (entries_in (chunk_at (set chunks index c) k)) (number % 256)) here
        ∙ ap (λ d. entry_at (entries_in d) (number % 256)) (get_or-set_same chunks index c None inside)
        ∙ same (number % 256)
        ∙ sym (ap (λ k. entry_at (entries_in (chunk_at chunks k)) (number % 256)) here)
    | inr far ↦ ap (λ d. entry_at (entries_in d) (number % 256)) (get_or-set_other chunks index (number / 256) c None far)
  ];
  count = omega (arith, length-set chunks index c);
}
