-- Cells that are zero before they are asked for.
use Rattle.std.proofs.Common.{◌≡◌, ◌+◌, ◌-◌, ◌*◌, ◌/◌, ◌%◌, ◌<◌, ◌≤◌, ℕ, List, [], ◌++◌, length, take, replicate, get_or, set, sym, ap, ◌∙◌, refl, arith, append_assoc, length-set, length-take-le}
use Rattle.std.specs.List.{concat}
use Rattle.std.proofs.lemmas.List.{set-append_left, take_at, take-append-le, take-take, take-replicate, replicate-append-replicate}
use Rattle.std.proofs.lemmas.List.Folds.{concat-append}
use Rattle.rc_pages.specs.Cells.{Holds, IsClean, IsLonger, pages_under}
use Rattle.rc_pages.proofs.CellLaws.{all_cells, held-length, held-write, longer-length, take-past}

-- so many more of them become the list's own
module _ (pages : List (List ℕ)) (len clean n total cells : ℕ) (held : Holds pages cells) (is : IsClean pages len clean) (sum : total ≡ len + n) (within : total ≤ clean) where
  abbrev own : List ℕ
  own = take len (concat pages)

  own-length : length own ≡ len
  own-length = length-take-le len (concat pages) (omega (arith, all_cells pages cells held, is.behind, is.inside))

  pub grown-shown : take total (concat pages) ≡ own ++ replicate n 0
  grown-shown =
      sym (take-take total clean (concat pages) within)
      ∙ ap (λ cells. take total cells) is.zeros
      ∙ take-past 0 own (replicate (clean - len) 0) total n (omega (arith, sum, own-length))
      ∙ ap (λ cells. own ++ cells) (take-replicate n (clean - len) 0 (omega (arith, sum, within)))

-- a cell of the list is written
module _ (pages : List (List ℕ)) (len clean : ℕ) (held : Holds pages len) (is : IsClean pages len clean) (at : ℕ) (inside : at < len) (x : ℕ) where
  abbrev written : List (List ℕ)
  written = set pages (at / 256) (set (get_or pages (at / 256) []) (at % 256) x)

  all_held : Holds pages clean
  all_held = record { whole = held.whole; enough = omega (arith, held.enough, is.behind, is.inside) }

  pub written-clean : IsClean written len clean
  written-clean = record {
    behind = is.behind;
    inside = omega (arith, is.inside, length-set pages (at / 256) (set (get_or pages (at / 256) []) (at % 256) x));
    zeros = held-write pages clean all_held at (omega (arith, inside, is.behind)) x
        ∙ ap (λ cells. set cells at x) is.zeros
        ∙ set-append_left (take len (concat pages)) (replicate (clean - len) 0) at x (omega (arith, inside, held-length pages len held))
        ∙ ap (λ cells. cells ++ replicate (clean - len) 0) (sym (held-write pages len held at inside x));
  }

-- pages are appended, and cells made zero behind those that are
module _ (pages longer cleared : List (List ℕ)) (len clean total count now : ℕ) (held : Holds pages len) (is : IsClean pages len clean) (more : clean < total) (missing : count ≡ pages_under total - length pages) (longer_is : IsLonger pages longer count) (same : length cleared ≡ length longer) (enough : total ≤ now)
    (few : now ≤ 256 * pages_under total) (cells : take now (concat cleared) ≡ take clean (concat longer) ++ replicate (now - clean) 0) where
  abbrev first : List ℕ
  first = take len (concat pages)

  before : take clean (concat longer) ≡ first ++ replicate (clean - len) 0
  before =
      ap (λ all. take clean all) (ap (λ all. concat all) longer_is.is ∙ concat-append pages longer_is.more)
      ∙ take-append-le clean (concat pages) (concat longer_is.more) (omega (arith, is.inside, all_cells pages len held))
      ∙ is.zeros

  all_zero : take now (concat cleared) ≡ first ++ replicate (now - len) 0
  all_zero =
      cells
      ∙ ap (λ all. all ++ replicate (now - clean) 0) before
      ∙ append_assoc first (replicate (clean - len) 0) (replicate (now - clean) 0)
      ∙ ap (λ tail. first ++ tail) (replicate-append-replicate (clean - len) (now - clean) 0 ∙ ap (λ k. replicate k 0) (omega (arith, more, enough, is.behind)))

  pub cleared-cells : take len (concat cleared) ≡ first
  cleared-cells =
      sym (take-take len now (concat cleared) (omega (arith, more, enough, is.behind)))
      ∙ ap (λ all. take len all) all_zero
      ∙ take_at first (replicate (now - len) 0) len (held-length pages len held)

  pub cleared-clean : IsClean cleared len now
  cleared-clean = record {
    behind = omega (arith, more, enough, is.behind);
    inside = omega (arith, few, same, longer-length pages longer count longer_is, missing, held.enough, is.behind, more);
    zeros = all_zero ∙ ap (λ all. all ++ replicate (now - len) 0) (sym cleared-cells);
  }

pub none-clean : IsClean [] 0 0
none-clean = record { behind = omega arith; inside = omega arith; zeros = refl }
