-- Loops that go over rows and write one after another.
use Rattle.std.proofs.Common.{◌≡◌, ◌≢◌, ◌∙◌, inl, inr, ◌<◌, ◌≤◌, ℕ, Bool, false, List, length, get_or, set, ap}
use Rattle.std.proofs.lemmas.Bool.{cases_lt}
use Rattle.std.proofs.lemmas.List.{get_or-set_same, get_or-set_other, get_or_past, get_or_read}
use Rattle.rc_base.specs.BitSets.{marks}
use Rattle.rc_facts.specs.Rows.{links}
use Rattle.rc_base.proofs.Marks.{marks_none}

-- the rows below `done` have the links that a test says, the others what they had
pub record Written (before after : List ℕ) (done : ℕ) (test : ℕ → ℕ → Bool) : Type 0 where
  pub written : (x y : ℕ) → x < done → links after x y ≡ test x y
  pub rest : (x y : ℕ) → done ≤ x → links after x y ≡ links before x y

-- there are no links from what has no row
pub links_beyond : (rows : List ℕ) (x y : ℕ) → length rows ≤ x → links rows x y ≡ false
links_beyond rows x y beyond = ap (λ row. marks row y) (get_or_past rows x 0 beyond) ∙ marks_none y

-- what is in a row that is read
pub read_row : (rows : List ℕ) (i row : ℕ) → i < length rows → row ≡ get_or rows i row → (y : ℕ) → marks row y ≡ links rows i y
read_row rows i row below is y = ap (λ r. marks r y) (get_or_read rows i row below is 0)

pub links-set_same : (rows : List ℕ) (i v y : ℕ) → i < length rows → links (set rows i v) i y ≡ marks v y
links-set_same rows i v y below = ap (λ row. marks row y) (get_or-set_same rows i v 0 below)

pub links-set_other : (rows : List ℕ) (i v x y : ℕ) → x ≢ i → links (set rows i v) x y ≡ links rows x y
links-set_other rows i v x y other = ap (λ row. marks row y) (get_or-set_other rows i x v 0 other)

-- all rows are written
pub written_all : {before : List ℕ} {test : ℕ → ℕ → Bool} (after : List ℕ) (n : ℕ) → Written before after n test → ((x y : ℕ) → n ≤ x → links before x y ≡ test x y) → (x y : ℕ) → links after x y ≡ test x y
written_all after n done beyond x y = elim (cases_lt x n) [
  | inl below ↦ done.written x y below
  | inr above ↦ done.rest x y above ∙ beyond x y above
]
