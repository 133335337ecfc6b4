-- The report of region code: a line for each store to an annotated cell, in the order of the text, with its line, its annotation, and
-- whether its check is removed or kept. Behind them stands a line with how many there are, and of how many the check is removed.
use Rattle.std.specs.Prelude.{◌≡◌, ℕ, suc, Bool, true, false, List, [], ◌∷◌, ◌++◌, length, map, flat_map, filter, codes}
use Rattle.std.specs.Fmt.{decimal}
use Rattle.rc_core.specs.declared.ty.Note.{Note}
use Rattle.rc_core.specs.declared.ty.Note.TheVariants.{Plain, SameRegion, ParentPtr, Traditional}
use Rattle.rc_rlang.specs.RegionCode.{Routine, Rlang}
use Rattle.rc_rlang.specs.Sites.{Site}
use Rattle.rc_elim.specs.Masks.{MarksRemovable}
use Rattle.rc_reports.specs.declared.entry.Entry.{Entry}
use Rattle.rc_reports.specs.Listed.{listed}

-- what is said of a store, where these are marked of its function
abbrev pub entry_of : (marks : (point : ℕ) → Bool) → Site → Entry
entry_of marks s = record { line = s.line; note = s.note; removed = marks s.point }

-- of functions, the first of which has this number; a body's first point is 1
abbrev pub entries_from : (marks : (function point : ℕ) → Bool) → (number : ℕ) → List Routine → List Entry
entries_from marks g [] = []
entries_from marks g (f ∷ fs) = map (entry_of (marks g)) (listed f.body 1) ++ entries_from marks (suc g) fs

abbrev pub entries : (marks : (function point : ℕ) → Bool) → Rlang → List Entry
entries marks r = entries_from marks 0 r.functions

-- it is the report of region code, where exactly the checks are removed that may go
pub record IsReport (r : Rlang) (all : List Entry) : Type 0 where
  pub marks : (function point : ℕ) → Bool
  pub removable : MarksRemovable r marks
  pub are : all ≡ entries marks r

-- ---- as a text

abbrev pub annotation_name : Note → List ℕ
annotation_name Plain = codes "plain"
annotation_name SameRegion = codes "sameregion"
annotation_name ParentPtr = codes "parentptr"
annotation_name Traditional = codes "traditional"

abbrev pub verdict : Bool → List ℕ
verdict true = codes "removed"
verdict false = codes "kept"

abbrev pub entry_text : Entry → List ℕ
entry_text e = decimal e.line ++ (codes " " ++ (annotation_name e.note ++ (codes " " ++ (verdict e.removed ++ codes "\n"))))

abbrev pub removed_count : List Entry → ℕ
removed_count all = length (filter (λ (e : Entry). e.removed) all)

abbrev pub total_text : List Entry → List ℕ
total_text all = codes "total " ++ (decimal (length all) ++ (codes " removed " ++ (decimal (removed_count all) ++ codes "\n")))

abbrev pub report_text : List Entry → List ℕ
report_text all = flat_map entry_text all ++ total_text all
