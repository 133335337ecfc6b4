-- Where the cells of whole pages lie, and what writing one and appending zeros does.
use Rattle.std.proofs.Common.{◌≡◌, ◌+◌, ◌-◌, ◌*◌, ◌/◌, ◌%◌, ◌<◌, ◌≤◌, ℕ, zero, suc, List, [], ◌∷◌, ◌++◌, length, take, drop, replicate, get_or, set, sym, ap, subst, ◌∙◌, refl, arith, append_assoc, append-nil, length-append, length-set, length-take-le, take-append-drop}
use Rattle.std.specs.Prelude.{All}
use Rattle.std.specs.List.{concat}
use Rattle.std.proofs.lemmas.List.{get_or-take, get_or_append_left, get_or-append_right, set-append_left, set-append_right, take_at, take_more_set, length-replicate, replicate-append-replicate}
use Rattle.std.proofs.lemmas.List.Elements.{All-append, All-set}
use native.Mathlib.Nat.{zero-mul, suc-mul}
use Rattle.rc_pages.specs.Cells.{AreWhole, Holds, IsLonger, zero_page}

-- pages of w cells each
module _ (w : ℕ) where
  abbrev Whole : List (List ℕ) → Type 0
  Whole = All (λ page. length page ≡ w)

  first : (page : List ℕ) (pages : List (List ℕ)) → Whole (page ∷ pages) → length page ≡ w
  first page pages whole = whole 0 [] (omega arith)

  rest : (page : List ℕ) (pages : List (List ℕ)) → Whole (page ∷ pages) → Whole pages
  rest page pages whole = λ k d inside. whole (suc k) d (omega (arith, inside))

  length-cells : (pages : List (List ℕ)) → Whole pages → length (concat pages) ≡ length pages * w
  length-cells [] whole = sym (zero-mul w)
  length-cells (page ∷ pages) whole = omega (arith, length-append page (concat pages), length-cells pages (rest page pages whole), (first page pages whole), suc-mul (length pages) w)

  cell-read : (pages : List (List ℕ)) (q r at : ℕ) → Whole pages → q < length pages → r < w → at ≡ q * w + r → get_or (concat pages) at 0 ≡ get_or (get_or pages q []) r 0
  cell-read [] q r at whole inside small is = absurd (omega arith)
  cell-read (page ∷ pages) zero r at whole inside small is =
      let here : at ≡ r = omega (arith, zero-mul w) in
      get_or_append_left page (concat pages) 0 at (omega (arith, first page pages whole)) ∙ ap (λ k. get_or page k 0) here
  cell-read (page ∷ pages) (suc q) r at whole inside small is =
      get_or-append_right page (concat pages) w at 0 (first page pages whole) (omega (arith, suc-mul q w)) ∙ cell-read pages q r (at - w) (rest page pages whole) (omega arith) small (omega (arith, suc-mul q w))

  cell-write : (pages : List (List ℕ)) (q r at x : ℕ) → Whole pages → q < length pages → r < w → at ≡ q * w + r → set (concat pages) at x ≡ concat (set pages q (set (get_or pages q []) r x))
  cell-write [] q r at x whole inside small is = absurd (omega arith)
  cell-write (page ∷ pages) zero r at x whole inside small is =
      let here : at ≡ r = omega (arith, zero-mul w) in
      set-append_left page (concat pages) at x (omega (arith, first page pages whole)) ∙ ap (λ k. set page k x ++ concat pages) here
  cell-write (page ∷ pages) (suc q) r at x whole inside small is =
      set-append_right page (concat pages) w at x (first page pages whole) (omega (arith, suc-mul q w)) ∙ ap (λ cells. page ++ cells) (cell-write pages q r (at - w) x (rest page pages whole) (omega arith) small (omega (arith, suc-mul q w)))

  pub take-past : (xs more : List ℕ) (n k : ℕ) → n ≡ length xs + k → take n (xs ++ more) ≡ xs ++ take k more
  take-past [] more n k is = ap (λ m. take m more) (omega (arith, is))
  take-past (x ∷ xs) more zero k is = absurd (omega (arith, is))
  take-past (x ∷ xs) more (suc n) k is = ap (λ cells. x ∷ cells) (take-past xs more n k (omega (arith, is)))

  -- a whole page at once
  page-set : (pages : List (List ℕ)) (q at next : ℕ) (new : List ℕ) → Whole pages → length new ≡ w → q < length pages → at ≡ q * w → next ≡ at + w → take next (concat (set pages q new)) ≡ take at (concat pages) ++ new
  page-set [] q at next new whole full inside is on = absurd (omega arith)
  page-set (page ∷ pages) zero at next new whole full inside is on =
      let here : at ≡ 0 = omega (arith, is, zero-mul w) in
      ap (λ k. take k (new ++ concat pages)) (omega (arith, on, here, full))
      ∙ take_at new (concat pages) (length new) refl
      ∙ ap (λ k. take k (page ++ concat pages) ++ new) (sym here)
  page-set (page ∷ pages) (suc q) at next new whole full inside is on =
      let long = first page pages whole in
      take-past page (concat (set pages q new)) next (q * w + w) (omega (arith, on, is, long, suc-mul q w))
      ∙ ap (λ cells. page ++ cells) (page-set pages q (q * w) (q * w + w) new (rest page pages whole) full (omega arith) refl refl)
      ∙ sym (append_assoc page (take (q * w) (concat pages)) new)
      ∙ ap (λ cells. cells ++ new) (sym (take-past page (concat pages) at (q * w) (omega (arith, is, long, suc-mul q w))))

pub longer-length : (old some : List (List ℕ)) (count : ℕ) → IsLonger old some count → length some ≡ length old + count
longer-length old some count grown = ap (λ pages. length pages) grown.is ∙ length-append old grown.more ∙ ap (λ k. length old + k) grown.long

module _ (pages : List (List ℕ)) (len : ℕ) (held : Holds pages len) where
  pub all_cells : length (concat pages) ≡ length pages * 256
  all_cells = length-cells 256 pages held.whole

  fits : len ≤ length (concat pages)
  fits = omega (arith, all_cells, held.enough)

  pub held-length : length (take len (concat pages)) ≡ len
  held-length = length-take-le len (concat pages) fits

  module _ (at : ℕ) (inside : at < len) where
    pub held-page : at / 256 < length pages
    held-page = omega (arith, inside, held.enough)

    pub held-place : at % 256 < length (get_or pages (at / 256) [])
    held-place = omega (arith, held.whole (at / 256) [] held-page)

    pub held-read : get_or (get_or pages (at / 256) []) (at % 256) 0 ≡ get_or (take len (concat pages)) at 0
    held-read = sym (get_or-take len (concat pages) at 0 inside ∙ cell-read 256 pages (at / 256) (at % 256) at held.whole held-page (omega arith) (omega arith))

    module _ (x : ℕ) where
      abbrev written : List (List ℕ)
      written = set pages (at / 256) (set (get_or pages (at / 256) []) (at % 256) x)

      moved : concat written ≡ set (concat pages) at x
      moved = sym (cell-write 256 pages (at / 256) (at % 256) at x held.whole held-page (omega arith) (omega arith))

      pub held-written : Holds written len
      held-written = record {
        whole = All-set (λ page. length page ≡ 256) pages (at / 256) (set (get_or pages (at / 256) []) (at % 256) x)
            (length-set (get_or pages (at / 256) []) (at % 256) x ∙ held.whole (at / 256) [] held-page) held.whole;
        enough = length-set pages (at / 256) (set (get_or pages (at / 256) []) (at % 256) x) ∙ held.enough;
      }

      pub held-write : take len (concat written) ≡ set (take len (concat pages)) at x
      held-write =
          let cells : List ℕ = take len (concat pages) in
          let apart : concat written ≡ set cells at x ++ drop len (concat pages)
          = moved ∙ ap (λ all. set all at x) (sym (take-append-drop len (concat pages))) ∙ set-append_left cells (drop len (concat pages)) at x (omega (arith, inside, held-length)) in
          ap (λ all. take len all) apart ∙ take_at (set cells at x) (drop len (concat pages)) len (length-set cells at x ∙ held-length)

-- the same of a list that shows the cells
module _ (pages : List (List ℕ)) (len : ℕ) (now : List ℕ) (held : Holds pages len) (shown : take len (concat pages) ≡ now) (at : ℕ) (inside : at < length now) where
  below : at < len
  below = omega (arith, inside, ap (λ cells. length cells) shown, held-length pages len held)

  pub shown-page : at / 256 < length pages
  shown-page = held-page pages len held at below

  pub shown-place : at % 256 < length (get_or pages (at / 256) [])
  shown-place = held-place pages len held at below

  pub shown-read : (x : ℕ) → x ≡ get_or (get_or pages (at / 256) []) (at % 256) 0 → x ≡ get_or now at 0
  shown-read x is = is ∙ held-read pages len held at below ∙ ap (λ cells. get_or cells at 0) shown

  module _ (x : ℕ) (after : List (List ℕ)) (is : after ≡ set pages (at / 256) (set (get_or pages (at / 256) []) (at % 256) x)) where
    pub shown-holds : Holds after len
    shown-holds = subst (λ ps. Holds ps len) (sym is) (held-written pages len held at below x)

    pub shown-write : take len (concat after) ≡ set now at x
    shown-write = ap (λ ps. take len (concat ps)) is ∙ held-write pages len held at below x ∙ ap (λ cells. set cells at x) shown

pub no_cells : Holds [] 0
no_cells = record { whole = λ k d inside. absurd (omega (arith, inside)); enough = refl }

-- one more page
pub longer-next : (old some next : List (List ℕ)) (count total : ℕ) (page : List ℕ) → IsLonger old some count → length page ≡ 256 → next ≡ some ++ page ∷ [] → total ≡ count + 1 → IsLonger old next total
longer-next old some next count total page grown whole is more = record {
  more = grown.more ++ page ∷ [];
  is = is ∙ ap (λ pages. pages ++ page ∷ []) grown.is ∙ append_assoc old grown.more (page ∷ []);
  long = length-append grown.more (page ∷ []) ∙ omega (arith, grown.long, more);
  whole = All-append (λ p. length p ≡ 256) grown.more (page ∷ []) grown.whole (one page whole);
} where
  one : (page : List ℕ) → length page ≡ 256 → AreWhole (page ∷ [])
  one page whole zero d inside = whole
  one page whole (suc k) d inside = absurd (omega (arith, inside))

pub longer-none : (old : List (List ℕ)) → IsLonger old old 0
longer-none old = record { more = []; is = sym (append-nil old); long = refl; whole = λ k d inside. absurd (omega (arith, inside)) }

-- pages in two goes
pub longer-both : (old some all : List (List ℕ)) (count spare : ℕ) → spare ≤ count → IsLonger old some (count - spare) → IsLonger some all spare → IsLonger old all count
longer-both old some all count spare fewer first next = record {
  more = first.more ++ next.more;
  is = next.is ∙ ap (λ pages. pages ++ next.more) first.is ∙ append_assoc old first.more next.more;
  long = length-append first.more next.more ∙ omega (arith, first.long, next.long, fewer);
  whole = All-append (λ p. length p ≡ 256) first.more next.more first.whole next.whole;
}

pub longer-taken : (old some : List (List ℕ)) (count : ℕ) → IsLonger old some count → take (length old) some ≡ old
longer-taken old some count grown = ap (λ pages. take (length old) pages) grown.is ∙ take_at old grown.more (length old) refl

pub longer-whole : (old some : List (List ℕ)) (count : ℕ) → AreWhole old → IsLonger old some count → AreWhole some
longer-whole old some count whole grown = subst (λ all. AreWhole all) (sym grown.is) (All-append (λ p. length p ≡ 256) old grown.more whole grown.whole)

-- a cell is made zero behind those that are
module _ (pages : List (List ℕ)) (at : ℕ) (whole : AreWhole pages) (inside : at < 256 * length pages) where
  pub cleared-page : at / 256 < length pages
  cleared-page = omega (arith, inside)

  pub cleared-place : at % 256 < length (get_or pages (at / 256) [])
  cleared-place = omega (arith, whole (at / 256) [] cleared-page)

  abbrev after : List (List ℕ)
  after = set pages (at / 256) (set (get_or pages (at / 256) []) (at % 256) 0)

  pub cleared-whole : AreWhole after
  cleared-whole = All-set (λ page. length page ≡ 256) pages (at / 256) (set (get_or pages (at / 256) []) (at % 256) 0) (length-set (get_or pages (at / 256) []) (at % 256) 0 ∙ whole (at / 256) [] cleared-page) whole

  pub cleared-count : length after ≡ length pages
  cleared-count = length-set pages (at / 256) (set (get_or pages (at / 256) []) (at % 256) 0)

  pub cleared-next : (front : List ℕ) (from : ℕ) → from ≤ at → take at (concat pages) ≡ front ++ replicate (at - from) 0 → take (at + 1) (concat after) ≡ front ++ replicate (at + 1 - from) 0
  cleared-next front from low before =
      ap (λ all. take (at + 1) all) (sym (cell-write 256 pages (at / 256) (at % 256) at 0 whole cleared-page (omega arith) (omega arith)))
      ∙ take_more_set (concat pages) at 0 (omega (arith, inside, length-cells 256 pages whole))
      ∙ ap (λ all. all ++ 0 ∷ []) before
      ∙ append_assoc front (replicate (at - from) 0) (0 ∷ [])
      ∙ ap (λ tail. front ++ tail) (replicate-append-replicate (at - from) 1 0 ∙ ap (λ k. replicate k 0) (omega (arith, low)))

-- a whole page is made zero behind those that are
module _ (pages : List (List ℕ)) (at total : ℕ) (whole : AreWhole pages) (begins : at % 256 ≡ 0) (room : 256 ≤ total - at) (fits : total ≤ 256 * length pages) where
  pub zeroed-page : at / 256 < length pages
  zeroed-page = omega (arith, room, fits)

  abbrev zeroed : List (List ℕ)
  zeroed = set pages (at / 256) zero_page

  pub zeroed-whole : AreWhole zeroed
  zeroed-whole = All-set (λ page. length page ≡ 256) pages (at / 256) zero_page (length-replicate {A = ℕ} 256 0) whole

  pub zeroed-count : length zeroed ≡ length pages
  zeroed-count = length-set pages (at / 256) zero_page

  pub zeroed-next : (front : List ℕ) (from : ℕ) → from ≤ at → take at (concat pages) ≡ front ++ replicate (at - from) 0 → take (at + 256) (concat zeroed) ≡ front ++ replicate (at + 256 - from) 0
  zeroed-next front from low before =
      page-set 256 pages (at / 256) at (at + 256) zero_page whole (length-replicate {A = ℕ} 256 0) zeroed-page (omega (arith, begins)) refl
      ∙ ap (λ all. all ++ zero_page) before
      ∙ append_assoc front (replicate (at - from) 0) zero_page
      ∙ ap (λ tail. front ++ tail) (replicate-append-replicate (at - from) 256 0 ∙ ap (λ k. replicate k 0) (omega (arith, low)))
