-- The lines of a report are the sites of the code, which are the stores of the image.
use Rattle.std.proofs.Common.{◌≡◌, ℕ, suc, ◌+◌, Bool, List, [], ◌∷◌, ◌++◌, map, refl, sym, ap, ◌∙◌, arith}
use Rattle.std.specs.Prelude.{cond, count_by, fold}
use Rattle.std.proofs.lemmas.List.Sums.{sum_by-append}
use Rattle.rc_core.specs.declared.ty.Note.{Note}
use Rattle.rc_rlang.specs.declared.order.Order.TheVariants.{Points}
use Rattle.rc_rlang.specs.RegionCode.{Code, simple, clear, block, branch, loop, repeat, break, continue, Codes, done, then, Routine, Rlang}
use Rattle.rc_rlang.specs.RegionPoints.{steps_points, branch_points, code_points}
use Rattle.rc_rlang.specs.Sites.{Site, code_sites, codes_sites}
use Rattle.rc_numbering.specs.Means.{IsNumberable}
use Rattle.rc_marks.specs.Marked.{Stored}
use Rattle.rc_marks.specs.Counted.{Placed, in_function, placed_from, all_sites, stored}
use Rattle.rc_marks.proofs.Counted.{stores_are_sites}
use Rattle.rc_reports.specs.declared.entry.Entry.{Entry}
use Rattle.rc_reports.specs.Listed.{listed}
use Rattle.rc_reports.specs.Reports.{entry_of, entries_from, entries}
use Rattle.rc_reports.proofs.One.{one_report}
use Rattle.rc_marking.specs.Told.{ReportTellsOfImage}

module _ {A : Type 0} (test : A → Bool) where
  both : (a b c d : List A) → count_by test a ≡ count_by test c → count_by test b ≡ count_by test d → count_by test (a ++ b) ≡ count_by test (c ++ d)
  both a b c d p q = sum_by-append (λ x. cond (test x) 1 0) a b ∙ (λ i. p i + q i) ∙ sym (sum_by-append (λ x. cond (test x) 1 0) c d)

  turned : (a b c d : List A) → count_by test a ≡ count_by test c → count_by test b ≡ count_by test d → count_by test (a ++ b) ≡ count_by test (d ++ c)
  turned a b c d p q =
      let exchanged : count_by test c + count_by test d ≡ count_by test d + count_by test c = omega arith in
      sum_by-append (λ x. cond (test x) 1 0) a b ∙ (λ i. p i + q i) ∙ exchanged ∙ sym (sum_by-append (λ x. cond (test x) 1 0) d c)

-- what passes of images is what passes of their originals
module _ {A B : Type 0} (test : B → Bool) (make : A → B) where
  along : (z : ℕ) (xs : List A) → fold (λ a x. a + cond (test x) 1 0) z (map make xs) ≡ fold (λ a x. a + cond (test (make x)) 1 0) z xs
  along z [] = refl
  along z (x ∷ xs) = along (z + cond (test (make x)) 1 0) xs

  of_made : (xs : List A) → count_by test (map make xs) ≡ count_by (λ x. test (make x)) xs
  of_made xs = along 0 xs

-- the order of the text and that of the points have the same sites
module _ (test : Site → Bool) where
  mutual
    in_code : (c : Code) (here : ℕ) → count_by test (listed c here) ≡ count_by test (code_sites Points c here)
    in_code (simple steps act) here = refl
    in_code (clear line x ty) here = refl
    in_code (block codes) here = in_codes codes here
    in_code (branch steps asked a b) here =
        let at_a = suc (here + steps_points steps) in
        both test (listed a at_a) (listed b (at_a + code_points a)) (code_sites Points a at_a) (code_sites Points b (at_a + code_points a)) (in_code a at_a) (in_code b (at_a + code_points a))
    in_code (loop line steps asked third body) here =
        let at_body = suc here + steps_points steps + branch_points asked in
        let at_third = at_body + code_points body in
        turned test (listed third at_third) (listed body at_body) (code_sites Points third at_third) (code_sites Points body at_body) (in_code third at_third) (in_code body at_body)
    in_code (repeat line body steps asked) here = in_code body (suc here)
    in_code (break line) here = refl
    in_code (continue line) here = refl

    in_codes : (cs : Codes) (here : ℕ) → count_by test (listed (block cs) here) ≡ count_by test (codes_sites Points cs here)
    in_codes done here = refl
    in_codes (then c rest) here =
        both test (listed c here) (listed (block rest) (here + code_points c)) (code_sites Points c here) (codes_sites Points rest (here + code_points c)) (in_code c here) (in_codes rest (here + code_points c))

module _ (passes : (line : ℕ) → Note → Bool → Bool) (marks : (function point : ℕ) → Bool) where
  abbrev of_entry : Entry → Bool
  of_entry e = passes e.line e.note e.removed

  abbrev of_stored : Stored → Bool
  of_stored s = passes s.line s.note s.proved

  abbrev of_placed : Placed → Bool
  of_placed s = passes s.line s.note (marks s.function s.point)

  abbrev of_site : ℕ → Site → Bool
  of_site g s = passes s.line s.note (marks g s.point)

  in_functions : (g : ℕ) (fs : List Routine) → count_by of_entry (entries_from marks g fs) ≡ count_by of_placed (placed_from g fs)
  in_functions g [] = refl
  in_functions g (f ∷ fs) =
      let sites = code_sites Points f.body 1 in
      let made = map (entry_of (marks g)) (listed f.body 1) in
      let placed = map (in_function g) sites in
      let one : count_by of_entry made ≡ count_by of_placed placed = of_made of_entry (entry_of (marks g)) (listed f.body 1) ∙ in_code (of_site g) f.body 1 ∙ sym (of_made of_placed (in_function g) sites) in
      sum_by-append (λ (e : Entry). cond (of_entry e) 1 0) made (entries_from marks (suc g) fs) ∙ (λ i. one i + in_functions (suc g) fs i) ∙ sym (sum_by-append (λ (s : Placed). cond (of_placed s) 1 0) placed (placed_from (suc g) fs))

pub report_tells_of_image : (r : Rlang) → IsNumberable r → ReportTellsOfImage r
report_tells_of_image r numberable marks removable report is passes =
    ap (count_by (of_stored passes marks)) (stores_are_sites r numberable marks)
    ∙ of_made (of_stored passes marks) (stored marks) (all_sites r)
    ∙ sym (in_functions passes marks 0 r.functions)
    ∙ ap (count_by (of_entry passes marks)) (sym (one_report r report (entries marks r) is (record { marks = marks; removable = removable; are = refl })))
