-- The report of region code tells of its image. Whatever is asked of a line, an annotation and a bit, as many of the image's annotated stores
-- pass, by their marks, as of the report's lines, by whether a check is removed, where exactly the checks are marked that may go.
use Rattle.std.specs.Prelude.{◌≡◌, ℕ, Bool, List, count_by}
use Rattle.rc_core.specs.declared.ty.Note.{Note}
use Rattle.rc_rlang.specs.RegionCode.{Rlang}
use Rattle.rc_elim.specs.Masks.{MarksRemovable}
use Rattle.rc_reports.specs.declared.entry.Entry.{Entry}
use Rattle.rc_reports.specs.Reports.{IsReport}
use Rattle.rc_marks.specs.InOrder.{mask_of}
use Rattle.rc_marks.specs.Marked.{Stored, image_stores, marked_image}

abbrev pub ReportTellsOfImage : Rlang → Type 0
ReportTellsOfImage r = (marks : (function point : ℕ) → Bool) → MarksRemovable r marks → (report : List Entry) → IsReport r report → (passes : (line : ℕ) → Note → Bool → Bool) →
    count_by (λ (s : Stored). passes s.line s.note s.proved) (image_stores (marked_image (mask_of marks r) r)) ≡ count_by (λ (e : Entry). passes e.line e.note e.removed) report
