-- What a bank shows, and how cells lie in pages.
use Rattle.std.specs.Prelude.{◌≡◌, ◌≤◌, ◌+◌, ◌-◌, ◌*◌, ◌/◌, take, ℕ, List, [], ◌∷◌, ◌++◌, length, replicate, All, Option, Some, None}
use Rattle.std.specs.List.{concat}

-- the places of a bank, and how many of them have a spare page
pub record BankState : Type 0 where
  pub places : ℕ
  pub kept : ℕ

-- how many pages so many cells need that stand in pages
abbrev pub pages_under : ℕ → ℕ
pages_under cells = (cells + 255) / 256

-- how many pages a list of so many cells has: its first four stand inside it
abbrev pub pages_for : ℕ → ℕ
pages_for cells = pages_under (cells - 4)

-- how many more pages a list of so many cells needs for n more
abbrev pub more_pages : ℕ → ℕ → ℕ
more_pages cells n = pages_for (cells + n) - pages_for cells

abbrev pub zero_page : List ℕ
zero_page = replicate 256 0

-- the cells inside a list that has none of them yet
abbrev pub few_zeros : List ℕ
few_zeros = replicate 4 0

-- the cells of pages, and how many more pages have room
pub record PagesState : Type 0 where
  pub pages : List (List ℕ)
  pub room : ℕ

abbrev pub AreWhole : List (List ℕ) → Type 0
AreWhole pages = All (λ page. length page ≡ 256) pages

-- the last page was taken out, or there was none and is none
abbrev pub Popped : Option (List ℕ) → (old new : List (List ℕ)) → Type 0
Popped None old new = (old ≡ []) × (new ≡ [])
Popped (Some page) old new = old ≡ new ++ page ∷ []

-- so many whole pages were appended, whatever they hold
pub record IsLonger (old new : List (List ℕ)) (count : ℕ) : Type 0 where
  pub more : List (List ℕ)
  pub is : new ≡ old ++ more
  pub long : length more ≡ count
  pub whole : AreWhole more

-- pages that hold so many cells: each is whole, and there are as many as it needs
pub record Holds (pages : List (List ℕ)) (cells : ℕ) : Type 0 where
  pub whole : AreWhole pages
  pub enough : length pages ≡ pages_under cells

-- behind the first cells, so many, all are zero up to here
pub record IsClean (pages : List (List ℕ)) (cells clean : ℕ) : Type 0 where
  pub behind : cells ≤ clean
  pub inside : clean ≤ 256 * length pages
  pub zeros : take clean (concat pages) ≡ take cells (concat pages) ++ replicate (clean - cells) 0

-- a list of so many cells, the first four inside it: behind its own these are zero, and the rest comes behind all four
pub record Begins (few rest : List ℕ) (cells : ℕ) : Type 0 where
  pub four : length few ≡ 4
  pub zeros : few ≡ take cells few ++ replicate (4 - cells) 0
  pub behind : length rest ≡ cells - 4
