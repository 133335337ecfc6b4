-- Region code has a report, and two reports of it are the same.
use Rattle.std.proofs.Common.{◌≡◌, ℕ, suc, Bool, List, [], ◌∷◌, ◌++◌, map, refl, sym, ap, ◌∙◌}
use Rattle.rc_rlang.specs.RegionCode.{Routine, Rlang}
use Rattle.rc_rlang.specs.IsRlang.{IsRlang}
use Rattle.rc_rlang.specs.Sites.{Site}
use Rattle.rc_edges.proofs.Marks.{marks_decided}
use Rattle.rc_elim.proofs.OneMask.{one_mask}
use Rattle.rc_reports.specs.declared.entry.Entry.{Entry}
use Rattle.rc_reports.specs.Listed.{listed}
use Rattle.rc_reports.specs.Reports.{entry_of, entries_from, entries, IsReport}

module _ (m n : (function point : ℕ) → Bool) (same : (g p : ℕ) → m g p ≡ n g p) where
  mapped : (g : ℕ) (sites : List Site) → map (entry_of (m g)) sites ≡ map (entry_of (n g)) sites
  mapped g [] = refl
  mapped g (s ∷ sites) = ap (λ b. record { line = s.line; note = s.note; removed = b } ∷ map (entry_of (m g)) sites) (same g s.point) ∙ ap (λ all. entry_of (n g) s ∷ all) (mapped g sites)

  all_same : (g : ℕ) (fs : List Routine) → entries_from m g fs ≡ entries_from n g fs
  all_same g [] = refl
  all_same g (f ∷ fs) = ap (λ all. all ++ entries_from m (suc g) fs) (mapped g (listed f.body 1)) ∙ ap (λ all. map (entry_of (n g)) (listed f.body 1) ++ all) (all_same (suc g) fs)

pub one_report : (r : Rlang) (a b : List Entry) → IsReport r a → IsReport r b → a ≡ b
one_report r a b p q =
    p.are
    ∙ all_same p.marks q.marks (one_mask r p.marks q.marks p.removable q.removable) 0 r.functions
    ∙ sym q.are

-- which checks may go is decided
pub some_report : (r : Rlang) → IsRlang r → (all : List Entry) × IsReport r all
some_report r fit = let decided = marks_decided r fit in (entries decided.0 r, record { marks = decided.0; removable = decided.1; are = refl })
