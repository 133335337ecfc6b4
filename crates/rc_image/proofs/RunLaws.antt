-- Lines are read as they are spelled, one by one or in runs.
use Rattle.std.proofs.Common.{◌≡◌, ℕ, zero, suc, ◌+◌, ◌-◌, ◌<◌, ◌≤◌, Bool, true, false, cond, ltb, eqb, not, List, [], ◌∷◌, ◌++◌, length, Option, Some, None, Ok, Err, refl, sym, ap, subst, ◌∙◌, append_assoc, arith, inl, inr}
use Rattle.std.specs.Prelude.{replicate}
use Rattle.std.specs.List.{flat_map, AllByRecursion as Every}
use Rattle.std.proofs.lemmas.Bool.{eqb-true, ltb-true, lt-ltb, eqb-false, true_from_ne_false}
use Rattle.std.proofs.lemmas.List.{append-nil, length-append}
use Rattle.std.proofs.lemmas.List.Concat.{flat_map-cons}
use Rattle.rc_code.specs.Image.{IsNumber}
use Rattle.rc_image.specs.declared.run.Run.{Run}
use Rattle.rc_image.specs.declared.version.Version.{Version}
use Rattle.rc_image.specs.declared.version.Version.TheVariants.{One, Two}
use Rattle.rc_fields.specs.Spelling.{number, counted}
use Rattle.rc_image.specs.Spelling.{runs_from, runs, run_bytes, lines_bytes}
use Rattle.rc_fields.specs.Reading.{◌>>=◌, field, number_at}
use Rattle.rc_image.specs.Reading.{is_same, run_breaks, run_at, runs_at, shared_at, lines_at}
use Rattle.rc_fields.proofs.Codecs.{IsBytes, bind_ok, no_then, no_else, chosen, ok_is, Takes, Takes-then, Takes-nothing, Law, nonzero, not_zero, number_law, takes_then, many_law}

same_number : (n : ℕ) → eqb n n ≡ true
same_number n = true_from_ne_false (eqb n n) (λ e. eqb-false n n e refl)

flipped : (b : Bool) → not b ≡ false → b ≡ true
flipped true e = refl
flipped false e = absurd cc

turned : (l line : ℕ) → eqb line l ≡ false → eqb l line ≡ false
turned l line e = grind arith

true_is_false : true ≡ false → ⊥
true_is_false e = cc

abbrev run_of : (count line : ℕ) → Run
run_of count line = record { count = count; line = line }

-- a run fits: it has lines, and as many as are left exactly where it is the last
record RunFits (more left : ℕ) (before : Option ℕ) (run : Run) : Type 0 where
  pub some : 1 ≤ run.count
  pub last : more ≡ 0 → run.count ≡ left
  pub further : 1 ≤ more → run.count < left
  pub count_small : IsNumber run.count
  pub line_small : IsNumber run.line
  pub other : is_same before run.line ≡ false

breaks_not : (more left count : ℕ) → run_breaks more left count ≡ false → (1 ≤ count) × (more ≡ 0 → count ≡ left) × (1 ≤ more → count < left)
breaks_not more left count e =
    elim (chosen (eqb count 0) true (cond (eqb more 0) (not (eqb count left)) (not (ltb count left))) false e) [
      | inl p ↦ absurd (true_is_false p.1)
      | inr p ↦
          let some : 1 ≤ count = nonzero count p.0 in
          elim (chosen (eqb more 0) (not (eqb count left)) (not (ltb count left)) false p.1) [
            | inl q ↦
                let none : more ≡ 0 = eqb-true more 0 q.0 in
                let all : count ≡ left = eqb-true count left (flipped (eqb count left) q.1) in
                (some, (λ z. all), (λ le. absurd (omega arith)))
            | inr q ↦
                let further : 1 ≤ more = nonzero more q.0 in
                let fewer : count < left = ltb-true count left (flipped (ltb count left) q.1) in
                (some, (λ z. absurd (omega arith)), (λ le. fewer))
          ]
    ]

run_takes : (more left : ℕ) (before : Option ℕ) (bytes : List ℕ) (x : Run × List ℕ) → IsBytes bytes → run_at more left before bytes ≡ Ok x → Takes bytes (run_bytes x.0) x.1 × RunFits more left before x.0
unfolding run_at
run_takes more left before bytes x fits e =
    let a = takes_then number_at number IsNumber number_law (λ count. cond (run_breaks more left count.0) (Err (field (length bytes))) (number_at count.1 >>= λ line.
    cond (is_same before line.0) (Err (field (length count.1))) (Ok (record { count = count.0; line = line.0 }, line.1)))) bytes x fits e in
    let p = no_then (run_breaks more left a.0.0) (field (length bytes)) (number_at a.0.1 >>= λ line. cond (is_same before line.0) (Err (field (length a.0.1))) (Ok (record { count = a.0.0; line = line.0 }, line.1))) x a.3 in
    let b = takes_then number_at number IsNumber number_law (λ line. cond (is_same before line.0) (Err (field (length a.0.1))) (Ok (record { count = a.0.0; line = line.0 }, line.1))) a.0.1 x a.1.rest_fits p.1 in
    let made : Run × List ℕ = (record { count = a.0.0; line = b.0.0 }, b.0.1) in
    let q = no_then (is_same before b.0.0) (field (length a.0.1)) (Ok made) x b.3 in
    let r = breaks_not more left a.0.0 p.0 in
    subst (λ (y : Run × List ℕ). Takes bytes (run_bytes y.0) y.1 × RunFits more left before y.0) (ok_is made x q.1)
    (Takes-then bytes (number a.0.0) a.0.1 (number b.0.0) b.0.1 a.1 b.1, record { some = r.0; last = r.1; further = r.2; count_small = a.2; line_small = b.2; other = q.0 })

run_again : (more left : ℕ) (before : Option ℕ) (run : Run) (rest : List ℕ) → IsNumber run.count → IsNumber run.line → run_breaks more left run.count ≡ false → is_same before run.line ≡ false
    → run_at more left before (run_bytes run ++ rest) ≡ Ok (run, rest)
unfolding run_at
run_again more left before run rest count line fits other =
    ap (run_at more left before) (append_assoc (number run.count) (number run.line) rest)
    ∙ rw (number_law.again run.count (number run.line ++ rest) count, fits, number_law.again run.line rest line, other) refl

-- the first of the lines, if any, is another
abbrev Differs : Option ℕ → List ℕ → Type 0
Differs before [] = Unit {0}
Differs before (l ∷ ls) = is_same before l ≡ false

same_run : (c d line : ℕ) (rest : List Run) → c ≡ d → run_of c line ∷ rest ≡ run_of d line ∷ rest
same_run c d line rest e = ap (λ (k : ℕ). run_of k line ∷ rest) e

joined : (k c line : ℕ) (ls : List ℕ) → Differs (Some line) ls → runs_from c line (replicate k line ++ ls) ≡ run_of (c + k) line ∷ runs ls
joined zero c line [] d = same_run c (c + 0) line [] (omega arith)
joined zero c line (l ∷ ls) d = rw (turned l line d) (same_run c (c + 0) line (runs_from 1 l ls) (omega arith))
joined (suc k) c line ls d = rw (same_number line) (joined k (suc c) line ls d ∙ same_run (suc c + k) (c + suc k) line (runs ls) (omega arith))

begun : (k line : ℕ) (ls : List ℕ) → 1 ≤ k → Differs (Some line) ls → runs (replicate k line ++ ls) ≡ run_of k line ∷ runs ls
begun zero line ls some d = absurd (omega arith)
begun (suc k) line ls some d = joined k 1 line ls d ∙ same_run (1 + k) (suc k) line (runs ls) (omega arith)

all_same : (k line : ℕ) (ls : List ℕ) → IsNumber line → Every IsNumber ls → Every IsNumber (replicate k line ++ ls)
all_same zero line ls small all = all
all_same (suc k) line ls small all = (small, all_same k line ls small all)

differs_first : (k line : ℕ) (before : Option ℕ) (ls : List ℕ) → 1 ≤ k → is_same before line ≡ false → Differs before (replicate k line ++ ls)
differs_first zero line before ls some d = absurd (omega arith)
differs_first (suc k) line before ls some d = d

record AreRuns (more left : ℕ) (before : Option ℕ) (bytes : List ℕ) (x : List ℕ × List ℕ) : Type 0 where
  pub takes : Takes bytes (flat_map run_bytes (runs x.0)) x.1
  pub count : length (runs x.0) ≡ more
  pub lines : length x.0 ≡ left
  pub small : Every IsNumber x.0
  pub other : Differs before x.0

length-replicate : (k line : ℕ) → length (replicate k line) ≡ k
length-replicate zero line = refl
length-replicate (suc k) line = ap suc (length-replicate k line)

total_is : (more left : ℕ) (before : Option ℕ) (run : Run) (ls : List ℕ) → RunFits more left before run → (more ≡ 0 → length ls ≡ left - run.count) → (1 ≤ more → length ls ≡ left - run.count) → length (replicate run.count run.line ++ ls) ≡ left
total_is zero left before run ls fits none some =
    let l : run.count ≡ left = fits.last refl in let e : length ls ≡ left - run.count = none refl in omega (arith, length-append (replicate run.count run.line) ls, length-replicate run.count run.line)
total_is (suc more) left before run ls fits none some =
    let l : run.count < left = fits.further (omega arith) in let e : length ls ≡ left - run.count = some (omega arith) in omega (arith, length-append (replicate run.count run.line) ls, length-replicate run.count run.line)

with_run : (more left : ℕ) (before : Option ℕ) (bytes rest : List ℕ) (run : Run) (x : List ℕ × List ℕ) → Takes bytes (run_bytes run) rest → RunFits more left before run → AreRuns more (left - run.count) (Some run.line) rest x
    → AreRuns (suc more) left before bytes (replicate run.count run.line ++ x.0, x.1)
with_run more left before bytes rest run x first fits then =
    let b = begun run.count run.line x.0 fits.some then.other in
    let runs_are : flat_map run_bytes (runs (replicate run.count run.line ++ x.0)) ≡ run_bytes run ++ flat_map run_bytes (runs x.0) = ap (flat_map run_bytes) b ∙ flat_map-cons run_bytes run (runs x.0) in
    record {
      takes = subst (λ (t : List ℕ). Takes bytes t x.1) (sym runs_are) (Takes-then bytes (run_bytes run) rest (flat_map run_bytes (runs x.0)) x.1 first then.takes);
      count = ap length b ∙ ap suc then.count;
      lines = total_is more left before run x.0 fits (λ z. then.lines) (λ z. then.lines);
      small = all_same run.count run.line x.0 fits.line_small then.small;
      other = differs_first run.count run.line before x.0 fits.some fits.other;
    }

no_lines : (left : ℕ) (before : Option ℕ) (bytes : List ℕ) → IsBytes bytes → left ≡ 0 → AreRuns 0 left before bytes ([], bytes)
no_lines left before bytes fits e = record { takes = Takes-nothing bytes fits; count = refl; lines = sym e; small = tt; other = tt }

runs_take : (more left : ℕ) (before : Option ℕ) (bytes : List ℕ) (x : List ℕ × List ℕ) → (more ≡ 0 → left ≡ 0) → IsBytes bytes → runs_at more left before bytes ≡ Ok x → AreRuns more left before bytes x
unfolding runs_at
runs_take zero left before bytes x none fits e = subst (λ (y : List ℕ × List ℕ). AreRuns 0 left before bytes y) (ok_is ([], bytes) x e) (no_lines left before bytes fits (none refl))
runs_take (suc more) left before bytes x none fits e =
    let a = bind_ok (run_at more left before bytes) (λ run. runs_at more (left - run.0.count) (Some run.0.line) run.1 >>= λ lines. Ok (replicate run.0.count run.0.line ++ lines.0, lines.1)) x e in
    let r = run_takes more left before bytes a.0 fits a.1 in
    let b = bind_ok (runs_at more (left - a.0.0.count) (Some a.0.0.line) a.0.1) (λ lines. Ok (replicate a.0.0.count a.0.0.line ++ lines.0, lines.1)) x a.2 in
    let left_is : more ≡ 0 → left - a.0.0.count ≡ 0 = λ z. let l : a.0.0.count ≡ left = r.1.last z in omega arith in
    let rest = runs_take more (left - a.0.0.count) (Some a.0.0.line) a.0.1 b.0 left_is r.0.rest_fits b.1 in
    subst (λ (y : List ℕ × List ℕ). AreRuns (suc more) left before bytes y) (ok_is (replicate a.0.0.count a.0.0.line ++ b.0.0, b.0.1) x b.2) (with_run more left before bytes a.0.1 a.0.0 b.0 r.0 r.1 rest)

-- ---- and again

more_runs : (c line : ℕ) (ls : List ℕ) → 1 ≤ length (runs_from c line ls)
more_runs c line [] = omega arith
more_runs c line (l ∷ ls) = elim (chosen (eqb l line) (runs_from (suc c) line ls) (run_of c line ∷ runs_from 1 l ls) (runs_from c line (l ∷ ls)) refl) [
  | inl q ↦ subst (λ (r : List Run). 1 ≤ length r) q.1 (more_runs (suc c) line ls)
  | inr q ↦ subst (λ (r : List Run). 1 ≤ length r) q.1 (omega arith)
]

keeps_last : (c : ℕ) → 1 ≤ c → run_breaks 0 (c + 0) c ≡ false
keeps_last c some = let e : c + 0 ≡ c = omega arith in rw (not_zero c some, e, same_number c) refl

keeps_more : (more left c : ℕ) → 1 ≤ c → 1 ≤ more → c < left → run_breaks more left c ≡ false
keeps_more more left c some further lt = rw (not_zero c some, not_zero more further, lt-ltb c left lt) refl

one_more : (c line : ℕ) (ls : List ℕ) → replicate (suc c) line ++ ls ≡ replicate c line ++ line ∷ ls
one_more zero line ls = refl
one_more (suc c) line ls = ap (λ (t : List ℕ). line ∷ t) (one_more c line ls)

runs_again : (ls : List ℕ) (c line : ℕ) (before : Option ℕ) (rest : List ℕ) → 1 ≤ c → c + length ls < 4294967296 → is_same before line ≡ false → IsNumber line → Every IsNumber ls
    → runs_at (length (runs_from c line ls)) (c + length ls) before (flat_map run_bytes (runs_from c line ls) ++ rest) ≡ Ok (replicate c line ++ ls, rest)
unfolding runs_at
runs_again [] c line before rest some small other line_small all =
    let run : Run = run_of c line in
    let bytes_are : flat_map run_bytes (run ∷ []) ++ rest ≡ run_bytes run ++ rest = ap (λ (t : List ℕ). t ++ rest) (flat_map-cons run_bytes run [] ∙ append-nil (run_bytes run)) in
    ap (runs_at 1 (c + 0) before) bytes_are ∙ rw (run_again 0 (c + 0) before run rest (omega arith) line_small (keeps_last c some) other) refl
runs_again (l ∷ ls) c line before rest some small other line_small all =
    elim (chosen (eqb l line) (runs_from (suc c) line ls) (run_of c line ∷ runs_from 1 l ls) (runs_from c line (l ∷ ls)) refl) [
      | inl q ↦
          let same : l ≡ line = eqb-true l line q.0 in
          let count : c + suc (length ls) ≡ suc c + length ls = omega arith in
          let again = runs_again ls (suc c) line before rest (omega arith) (omega arith) other line_small all.1 in
          let lines_are : replicate (suc c) line ++ ls ≡ replicate c line ++ l ∷ ls = one_more c line ls ∙ ap (λ (k : ℕ). replicate c line ++ k ∷ ls) (sym same) in
          subst (λ (r : List Run). runs_at (length r) (c + suc (length ls)) before (flat_map run_bytes r ++ rest) ≡ Ok (replicate c line ++ l ∷ ls, rest)) q.1
          (rw count (again ∙ ap (λ (t : List ℕ). Ok (t, rest)) lines_are))
      | inr q ↦
          let run : Run = run_of c line in
          let others = runs_from 1 l ls in
          let left : c + suc (length ls) - c ≡ 1 + length ls = omega arith in
          let bytes_are : flat_map run_bytes (run ∷ others) ++ rest ≡ run_bytes run ++ (flat_map run_bytes others ++ rest)
          = ap (λ (t : List ℕ). t ++ rest) (flat_map-cons run_bytes run others) ∙ append_assoc (run_bytes run) (flat_map run_bytes others) rest in
          let first = run_again (length others) (c + suc (length ls)) before run (flat_map run_bytes others ++ rest) (omega arith) line_small (keeps_more (length others) (c + suc (length ls)) c some (more_runs 1 l ls) (omega arith)) other in
          let again = runs_again ls 1 l (Some line) rest (omega arith) (omega arith) (turned line l q.0) all.0 all.1 in
          subst (λ (r : List Run). runs_at (length r) (c + suc (length ls)) before (flat_map run_bytes r ++ rest) ≡ Ok (replicate c line ++ l ∷ ls, rest)) q.1
          (ap (runs_at (suc (length others)) (c + suc (length ls)) before) bytes_are ∙ rw (first, left, again) refl)
    ]

few_runs : (c line : ℕ) (ls : List ℕ) → length (runs_from c line ls) ≤ suc (length ls)
few_runs c line [] = omega arith
few_runs c line (l ∷ ls) = elim (chosen (eqb l line) (runs_from (suc c) line ls) (run_of c line ∷ runs_from 1 l ls) (runs_from c line (l ∷ ls)) refl) [
  | inl q ↦ subst (λ (r : List Run). length r ≤ suc (suc (length ls))) q.1 (omega (arith, few_runs (suc c) line ls))
  | inr q ↦ subst (λ (r : List Run). length r ≤ suc (suc (length ls))) q.1 (omega (arith, few_runs 1 l ls))
]

shared_again : (ls rest : List ℕ) → IsNumber (length ls) → Every IsNumber ls → shared_at (length ls) (counted run_bytes (runs ls) ++ rest) ≡ Ok (ls, rest)
unfolding shared_at
shared_again [] rest small all = ap (λ (t : List ℕ). shared_at 0 (t ++ rest)) (append-nil (number 0)) ∙ rw (number_law.again 0 rest (omega arith)) refl
shared_again (l ∷ ls) rest small all =
    let rs = runs_from 1 l ls in
    let some = more_runs 1 l ls in
    let few : length rs < 4294967296 = omega (arith, few_runs 1 l ls) in
    let count : suc (length ls) ≡ 1 + length ls = omega arith in
    ap (shared_at (suc (length ls))) (append_assoc (number (length rs)) (flat_map run_bytes rs) rest)
    ∙ rw (number_law.again (length rs) (flat_map run_bytes rs ++ rest) few, not_zero (suc (length ls)) (omega arith), not_zero (length rs) some, count, runs_again ls 1 l None rest (omega arith) (omega arith) refl all.0 all.1) refl

some_runs : (n : ℕ) → eqb n 0 ≡ false → n ≡ 0 → ⊥
some_runs n e z = let some : 1 ≤ n = nonzero n e in omega arith

shared_takes : (count : ℕ) (bytes : List ℕ) (x : List ℕ × List ℕ) → IsBytes bytes → shared_at count bytes ≡ Ok x → Takes bytes (counted run_bytes (runs x.0)) x.1 × ((length x.0 ≡ count) × Every IsNumber x.0)
unfolding shared_at
shared_takes count bytes x fits e =
    let a = takes_then number_at number IsNumber number_law (λ n. cond (eqb count 0) (cond (eqb n.0 0) (Ok ([], n.1)) (Err (field (length bytes)))) (cond (eqb n.0 0) (Err (field (length bytes))) (runs_at n.0 count None n.1))) bytes x fits e in
    elim (chosen (eqb count 0) (cond (eqb a.0.0 0) (Ok ([], a.0.1)) (Err (field (length bytes)))) (cond (eqb a.0.0 0) (Err (field (length bytes))) (runs_at a.0.0 count None a.0.1)) (Ok x) a.3) [
      | inl q ↦
          let none : count ≡ 0 = eqb-true count 0 q.0 in
          let p = no_else (eqb a.0.0 0) (field (length bytes)) (Ok ([], a.0.1)) x q.1 in
          let zero_runs : a.0.0 ≡ 0 = eqb-true a.0.0 0 p.0 in
          let first : Takes bytes (number 0 ++ []) a.0.1 = subst (λ (t : List ℕ). Takes bytes t a.0.1) (sym (append-nil (number 0))) (subst (λ (n : ℕ). Takes bytes (number n) a.0.1) zero_runs a.1) in
          subst (λ (y : List ℕ × List ℕ). Takes bytes (counted run_bytes (runs y.0)) y.1 × ((length y.0 ≡ count) × Every IsNumber y.0)) (ok_is ([], a.0.1) x p.1) (first, (sym none, tt))
      | inr q ↦
          let p = no_then (eqb a.0.0 0) (field (length bytes)) (runs_at a.0.0 count None a.0.1) x q.1 in
          let r = runs_take a.0.0 count None a.0.1 x (λ z. absurd (some_runs a.0.0 p.0 z)) a.1.rest_fits p.1 in
          let first : Takes bytes (number (length (runs x.0))) a.0.1 = subst (λ (n : ℕ). Takes bytes (number n) a.0.1) (sym r.count) a.1 in
          (Takes-then bytes (number (length (runs x.0))) a.0.1 (flat_map run_bytes (runs x.0)) x.1 first r.takes, (r.lines, r.small))
    ]

pub lines_law : (v : Version) (count : ℕ) → IsNumber count → Law (lines_at v count) (lines_bytes v) (λ ls. (length ls ≡ count) × Every IsNumber ls)
lines_law One count small = many_law number_at number IsNumber number_law count
lines_law Two count small = record {
  takes = λ bytes x fits e. shared_takes count bytes x fits e;
  again = λ ls rest f. subst (λ (m : ℕ). shared_at m (counted run_bytes (runs ls) ++ rest) ≡ Ok (ls, rest)) f.0 (shared_again ls rest (subst IsNumber (sym f.0) small) f.1);
}
