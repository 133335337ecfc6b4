-- Reading one run of lines after the other, as a loop does, and gathering runs.
use Rattle.std.proofs.Common.{◌≡◌, ℕ, suc, ◌-◌, ◌+◌, ◌≤◌, ◌<◌, List, ◌++◌, Option, Some, Ok, Err, refl, sym, ap, ◌∙◌, append_assoc, arith}
use Rattle.std.specs.Prelude.{replicate}
use Rattle.std.proofs.lemmas.List.{append-nil}
use Rattle.rc_fields.specs.declared.stop.Stop.{Stop}
use Rattle.rc_image.specs.declared.run.Run.{Run}
use Rattle.rc_fields.specs.Reading.{◌>>=◌, Fault, Fails, Read}
use Rattle.rc_image.specs.Reading.{run_at, runs_at}
use Rattle.rc_fields.proofs.Loop.{with_front, fails_by}

regroup : (front more : List ℕ) (read : Read (List ℕ)) → with_front front (read >>= λ x. Ok (more ++ x.0, x.1)) ≡ with_front (front ++ more) read
regroup front more (Ok x) = ap (λ (ns : List ℕ). Ok (ns, x.1)) (simp append_assoc)
regroup front more (Err f) = refl

pub runs_go_on : (front : List ℕ) (runs i left : ℕ) (before : Option ℕ) (bytes : List ℕ) (run : Run) (after : List ℕ) (total : Read (List ℕ)) → i < runs → run_at (runs - i - 1) left before bytes ≡ Ok (run, after)
    → with_front front (runs_at (runs - i) left before bytes) ≡ total → with_front (front ++ replicate run.count run.line) (runs_at (runs - (i + 1)) (left - run.count) (Some run.line) after) ≡ total
unfolding runs_at
runs_go_on front runs i left before bytes run after total lt h so_far =
    let k : runs - i ≡ suc (runs - (i + 1)) = omega arith in
    let j : runs - i - 1 ≡ runs - (i + 1) = omega arith in
    let h1 : run_at (runs - (i + 1)) left before bytes ≡ Ok (run, after) = rw j at h in
    let one : with_front front (runs_at (runs - i) left before bytes) ≡ with_front (front ++ replicate run.count run.line) (runs_at (runs - (i + 1)) (left - run.count) (Some run.line) after)
    = rw (k, h1) (regroup front (replicate run.count run.line) (runs_at (runs - (i + 1)) (left - run.count) (Some run.line) after)) in
    sym one ∙ so_far

failed : (front : List ℕ) (runs i left : ℕ) (before : Option ℕ) (bytes : List ℕ) (total : Read (List ℕ)) (f : Fault) → i < runs
    → with_front front (runs_at (runs - i) left before bytes) ≡ total → run_at (runs - i - 1) left before bytes ≡ Err f → total ≡ Err f
unfolding runs_at
failed front runs i left before bytes total f lt so_far h =
    let k : runs - i ≡ suc (runs - (i + 1)) = omega arith in
    let j : runs - i - 1 ≡ runs - (i + 1) = omega arith in
    let h1 : run_at (runs - (i + 1)) left before bytes ≡ Err f = rw j at h in
    let one : with_front front (runs_at (runs - i) left before bytes) ≡ Err f = rw (k, h1) refl in
    sym so_far ∙ one

pub runs_end : (e : Stop) (front : List ℕ) (runs i left : ℕ) (before : Option ℕ) (bytes : List ℕ) (total : Read (List ℕ)) → i < runs → Fails e (run_at (runs - i - 1) left before bytes)
    → with_front front (runs_at (runs - i) left before bytes) ≡ total → Fails e total
runs_end e front runs i left before bytes total lt fails so_far =
    fails_by e (run_at (runs - i - 1) left before bytes) total (λ f h. failed front runs i left before bytes total f lt so_far h) fails

pub runs_are_done : (front : List ℕ) (runs i left : ℕ) (before : Option ℕ) (bytes : List ℕ) (total : Read (List ℕ)) → runs ≤ i → with_front front (runs_at (runs - i) left before bytes) ≡ total → total ≡ Ok (front, bytes)
unfolding runs_at
runs_are_done front runs i left before bytes total le so_far =
    let k : runs - i ≡ 0 = omega arith in
    let one : with_front front (runs_at (runs - i) left before bytes) ≡ Ok (front, bytes) = rw k (ap (λ (ns : List ℕ). Ok (ns, bytes)) (append-nil front)) in
    sym so_far ∙ one
