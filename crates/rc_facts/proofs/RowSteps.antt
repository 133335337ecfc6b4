-- What writing a row and a column leaves.
use Rattle.std.proofs.Common.{◌≡◌, ◌∙◌, inl, inr, ◌<◌, ◌≤◌, ℕ, Bool, true, false, ◌||◌, ◌==◌, List, length, set, cond, refl, sym, ap}
use Rattle.std.specs.Prelude.{Option, Some, None}
use Rattle.std.proofs.lemmas.Bool.{cases_eq, cases_Bool, ne_eqb}
use Rattle.rc_base.specs.BitSets.{marks}
use Rattle.rc_facts.specs.Rows.{links}
use Rattle.rc_facts.specs.Shut.{spot, pair_by, one_by}
use Rattle.rc_facts.proofs.RowLoops.{links-set_same, links-set_other, links_beyond}
use Rattle.rc_facts.proofs.Fresh.{spot_same, spot_other}

pair_some : (t : ℕ → ℕ → Bool) (row column : ℕ → Bool) (a : ℕ) (o : Option ℕ) → pair_by t row column (Some a) o ≡ one_by (t a) (column a) o
pair_some t row column a None = refl
pair_some t row column a (Some b) = refl

or_always : (b : Bool) → (b || true) ≡ true
or_always true = refl
or_always false = refl

or_never : (b : Bool) → (b || false) ≡ b
or_never true = refl
or_never false = refl

row_with : (t : ℕ → ℕ → Bool) (row column : ℕ → Bool) (x b : ℕ) → (row b || b == x) ≡ pair_by t row column None (spot x b)
row_with t row column x b = elim (cases_Bool (b == x)) [
  | inl same ↦ ap (λ e. row b || e) same ∙ or_always (row b) ∙ sym (ap (λ e. pair_by t row column None (cond e None (Some b))) same)
  | inr other ↦ ap (λ e. row b || e) other ∙ or_never (row b) ∙ sym (ap (λ e. pair_by t row column None (cond e None (Some b))) other)
]

pub write_all : (before after : List ℕ) (x cells row column : ℕ) → x < length after → ((y : ℕ) → marks cells y ≡ (marks row y || y == x)) → ((a b : ℕ) → links after a b ≡ one_by (links before a) (marks column a) (spot x b)) → (a b : ℕ) → links (set after x cells) a b ≡ pair_by (links before) (marks row) (marks column) (spot x a) (spot x b)
write_all before after x cells row column below is done a b = elim (cases_eq a x) [
  | inl same ↦ rw same (links-set_same after x cells b below) ∙ is b ∙ row_with (links before) (marks row) (marks column) x b ∙ sym (ap (λ o. pair_by (links before) (marks row) (marks column) o (spot x b)) (spot_same x a same))
  | inr other ↦ links-set_other after x cells a b other ∙ done a b ∙ sym (pair_some (links before) (marks row) (marks column) a (spot x b)) ∙ sym (ap (λ o. pair_by (links before) (marks row) (marks column) o (spot x b)) (spot_other x a (ne_eqb a x other)))
]

-- a variable with no row, and that isn't marked, has no link
pub one_by_none : (rows : List ℕ) (a column x b : ℕ) → length rows ≤ a → marks column a ≡ false → one_by (links rows a) (marks column a) (spot x b) ≡ false
one_by_none rows a column x b beyond out = by (spot x b)
  where
    by : (o : Option ℕ) → one_by (links rows a) (marks column a) o ≡ false
    by None = out
    by (Some c) = links_beyond rows a c beyond
