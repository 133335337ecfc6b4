-- Steps one after another: what is left to do, from a step on.
use Rattle.std.proofs.Common.{◌≡◌, ◌<◌, ◌≤◌, ◌+◌, ℕ, zero, suc, Bool, List, [], ◌∷◌, ◌++◌, length, get_or, drop, refl, sym, ap, ◌∙◌, subst, arith}
use Rattle.std.proofs.Math.Seq.{drop-cons}
use Rattle.std.proofs.Math.ListN.{drop_of_length-le}
use Rattle.std.proofs.lemmas.List.{map-append, append_assoc, append-nil}
use Rattle.std.specs.Prelude.{Some}
use Rattle.rc_safety.proofs.Lists.{every_split}
use Rattle.rc_core.specs.Types.{Ty}
use Rattle.rc_core.specs.Programs.{Struct}
use Rattle.rc_emission.specs.StackCode.{Instruction, Line}
use Rattle.rc_emission.specs.OperationCode.{at}
use Rattle.rc_emission.specs.StatementCode.{step_lines, steps_lines}
use Rattle.rc_rlang.specs.declared.steps.Step.{Step as CodeStep}
use Rattle.rc_rlang.specs.LiveLists.{Held, step_lists, steps_lists}
use Rattle.rc_rlang.specs.RegionCode.{Step, Steps, fork, none, more}
use Rattle.rc_rlang.specs.RegionFits.{dropped, step_types, steps_types}
use Rattle.rc_rlang.specs.RegionLive.{before_steps}
use Rattle.rc_rlang.specs.RegionPoints.{step_points, steps_points}
use Rattle.rc_rlang.specs.LiveMaps.{list_at}
use Rattle.rc_rlang.specs.Shapes.{step_of, steps_of}
use Rattle.rc_lines.specs.declared.body.Body.{Body}
use Rattle.rc_lines.specs.declared.instruction.Line.{Line as CodeLine}
use Rattle.rc_lines.specs.declared.operands.Operand.{Operand}
use Rattle.rc_lines.specs.Bare.{bare, bare_line, bare_all, bare_code, lines_of}
use Rattle.rc_lines.specs.Operands.{types_on}
use Rattle.rc_lines.proofs.Stacks.{length_types}
use Rattle.rc_lines.specs.Over.{Listed, deleting_in, types_in, slot_in, structs_in, steps_in}

pub at_bare : (line : ℕ) (is : List Instruction) → at line (bare_all is) ≡ bare_code 0 (at line is)
at_bare line [] = refl
at_bare line (i ∷ is) = ap (λ ls. record { line = line; instruction = bare 0 i } ∷ ls) (at_bare line is)

pub bare_append : (xs ys : List Line) → bare_code 0 (xs ++ ys) ≡ bare_code 0 xs ++ bare_code 0 ys
bare_append xs ys = map-append (bare_line 0) xs ys

module _ (b : Body) (old : List CodeLine) (steps : List CodeStep) (base point : ℕ) where
  -- of the steps from one on
  abbrev pub rest_of : ℕ → Steps
  rest_of i = steps_in b (drop i steps)

  pub record Going (out : List CodeLine) (operands : List Operand) (here i : ℕ) : Type 0 where
    pub lines : (saved : List Ty) (live : ℕ → Bool) → length saved ≡ base → Listed b.live.now (steps_lists (deleting_in b) (types_in b) (steps_in b steps) point live) →
        lines_of out ++ bare_code 0 (steps_lines (slot_in b) (deleting_in b) (types_in b) (rest_of i) saved (types_on operands) live) ≡ lines_of old ++ bare_code 0 (steps_lines (slot_in b) (deleting_in b) (types_in b) (steps_in b steps) saved [] live)
    pub listed : (live : ℕ → Bool) → Listed b.live.now (steps_lists (deleting_in b) (types_in b) (steps_in b steps) point live) → Listed b.live.now (steps_lists (deleting_in b) (types_in b) (rest_of i) here live)
    pub types : steps_types (rest_of i) (types_on operands) ≡ steps_types (steps_in b steps) []
    pub points : here + steps_points (rest_of i) ≡ point + steps_points (steps_in b steps)

  pub begins : Going old [] point 0
  begins = record { lines = λ saved live h l. refl; listed = λ live l. l; types = refl; points = refl }

  -- what a step did
  pub record Did (s : Step) (out out1 : List CodeLine) (operands operands1 : List Operand) (here here1 : ℕ) : Type 0 where
    pub lines : (saved : List Ty) (live : ℕ → Bool) → length saved ≡ base → Listed b.live.now (step_lists (deleting_in b) (types_in b) s here live) →
        lines_of out1 ≡ lines_of out ++ bare_code 0 (step_lines (slot_in b) (deleting_in b) (types_in b) s saved (types_on operands) live)
    pub types : types_on operands1 ≡ step_types s (types_on operands)
    pub points : here1 ≡ here + step_points s

  next_is : (i : ℕ) (s : CodeStep) → i < length steps → s ≡ get_or steps i s → rest_of i ≡ more (step_of (structs_in b) s) (rest_of (i + 1))
  next_is i s h e =
      let k : suc i ≡ i + 1 = omega arith in
      ap (steps_in b) (drop-cons steps i s h) ∙ ap (λ x. more (step_of (structs_in b) x) (rest_of (suc i))) (sym e) ∙ ap (λ n. more (step_of (structs_in b) s) (rest_of n)) k

  -- the lists of a step that is next
  pub step_listed : (i : ℕ) (s : CodeStep) (here : ℕ) (live : ℕ → Bool) → i < length steps → s ≡ get_or steps i s → Listed b.live.now (steps_lists (deleting_in b) (types_in b) (rest_of i) here live) →
      Listed b.live.now (step_lists (deleting_in b) (types_in b) (step_of (structs_in b) s) here (before_steps (rest_of (i + 1)) live)) × Listed b.live.now (steps_lists (deleting_in b) (types_in b) (rest_of (i + 1)) (here + step_points (step_of (structs_in b) s)) live)
  step_listed i s here live h e l =
      every_split (λ (x : Held). list_at b.live.now x.point ≡ Some x.locals) (step_lists (deleting_in b) (types_in b) (step_of (structs_in b) s) here (before_steps (rest_of (i + 1)) live)) (steps_lists (deleting_in b) (types_in b) (rest_of (i + 1)) (here + step_points (step_of (structs_in b) s)) live)
      (subst (λ r. Listed b.live.now (steps_lists (deleting_in b) (types_in b) r here live)) (next_is i s h e) l)

  pub goes_on : (i : ℕ) (s : CodeStep) (out out1 : List CodeLine) (operands operands1 : List Operand) (here here1 : ℕ) → i < length steps → s ≡ get_or steps i s → Going out operands here i → Did (step_of (structs_in b) s) out out1 operands operands1 here here1 → Going out1 operands1 here1 (i + 1)
  goes_on i s out out1 operands operands1 here here1 h e g d =
      let r = rest_of (i + 1) in
      let p = step_of (structs_in b) s in
      let n = next_is i s h e in
      record {
        lines = λ saved live hs l.
            let both = step_listed i s here live h e (g.listed live l) in
            let own = step_lines (slot_in b) (deleting_in b) (types_in b) p saved (types_on operands) (before_steps r live) in
            ap (λ tys. lines_of out1 ++ bare_code 0 (steps_lines (slot_in b) (deleting_in b) (types_in b) r saved tys live)) d.types
            ∙ ap (λ ls. ls ++ bare_code 0 (steps_lines (slot_in b) (deleting_in b) (types_in b) r saved (step_types p (types_on operands)) live)) (d.lines saved (before_steps r live) hs both.0)
            ∙ append_assoc (lines_of out) (bare_code 0 own) (bare_code 0 (steps_lines (slot_in b) (deleting_in b) (types_in b) r saved (step_types p (types_on operands)) live))
            ∙ ap (λ ls. lines_of out ++ ls) (sym (bare_append own (steps_lines (slot_in b) (deleting_in b) (types_in b) r saved (step_types p (types_on operands)) live)))
            ∙ ap (λ q. lines_of out ++ bare_code 0 (steps_lines (slot_in b) (deleting_in b) (types_in b) q saved (types_on operands) live)) (sym n)
            ∙ g.lines saved live hs l;
        listed = λ live l. subst (λ m. Listed b.live.now (steps_lists (deleting_in b) (types_in b) r m live)) (sym d.points) (step_listed i s here live h e (g.listed live l)).1;
        types = ap (steps_types r) d.types ∙ ap (λ q. steps_types q (types_on operands)) (sym n) ∙ g.types;
        points = let a = ap (λ q. here + steps_points q) n in let z = g.points in let y = d.points in omega (arith, a, z, y);
      }

  ends_at : (i : ℕ) → length steps ≤ i → rest_of i ≡ none
  ends_at i h = ap (steps_in b) (drop_of_length-le steps h)

  -- all of them are done
  pub all_lines : (i : ℕ) (out : List CodeLine) (operands : List Operand) (here : ℕ) → length steps ≤ i → Going out operands here i → (saved : List Ty) (live : ℕ → Bool) → length saved ≡ base → Listed b.live.now (steps_lists (deleting_in b) (types_in b) (steps_in b steps) point live) →
      lines_of out ≡ lines_of old ++ bare_code 0 (steps_lines (slot_in b) (deleting_in b) (types_in b) (steps_in b steps) saved [] live)
  all_lines i out operands here h g saved live hs l =
      sym (append-nil (lines_of out)) ∙ ap (λ q. lines_of out ++ bare_code 0 (steps_lines (slot_in b) (deleting_in b) (types_in b) q saved (types_on operands) live)) (sym (ends_at i h)) ∙ g.lines saved live hs l

  pub all_types : (i : ℕ) (out : List CodeLine) (operands : List Operand) (here : ℕ) → length steps ≤ i → Going out operands here i → types_on operands ≡ steps_types (steps_in b steps) []
  all_types i out operands here h g = ap (λ q. steps_types q (types_on operands)) (sym (ends_at i h)) ∙ g.types

  pub all_points : (i : ℕ) (out : List CodeLine) (operands : List Operand) (here : ℕ) → length steps ≤ i → Going out operands here i → here ≡ point + steps_points (steps_in b steps)
  all_points i out operands here h g = let a = ap steps_points (ends_at i h) in let z = g.points in omega (arith, a, z)

-- no step has more points than all
pub points_within : (structs : List Struct) (steps : List CodeStep) (i : ℕ) (s : CodeStep) → i < length steps → s ≡ get_or steps i s → step_points (step_of structs s) ≤ steps_points (steps_of structs steps)
points_within structs [] i s h e = absurd (omega arith)
points_within structs (x ∷ xs) zero s h e = let p = ap (λ y. step_points (step_of structs y)) e in omega (arith, p)
points_within structs (x ∷ xs) (suc i) s h e = let p = points_within structs xs i s (omega arith) e in omega (arith, p)

-- a fork's lists are those of its two ways
pub ways_listed : (b : Body) (line h : ℕ) (test result : Ty) (yes' no' : Steps) (here : ℕ) (live : ℕ → Bool) → Listed b.live.now (step_lists (deleting_in b) (types_in b) (fork line h test result yes' no') here live) →
    Listed b.live.now (steps_lists (deleting_in b) (types_in b) yes' (suc here) live) × Listed b.live.now (steps_lists (deleting_in b) (types_in b) no' (suc here + steps_points yes') live)
ways_listed b line h test result yes' no' here live l = every_split (λ (x : Held). list_at b.live.now x.point ≡ Some x.locals) (steps_lists (deleting_in b) (types_in b) yes' (suc here) live) (steps_lists (deleting_in b) (types_in b) no' (suc here + steps_points yes') live) l

pub fork_types : (line h : ℕ) (test result : Ty) (yes' no' : Steps) (xs : List Operand) → 1 ≤ length xs → step_types (fork line h test result yes' no') (types_on xs) ≡ result ∷ dropped 1 (types_on xs)
fork_types line h test result yes' no' xs some = by_types (types_on xs) (let n = length_types xs in omega (arith, n, some))
  where
    by_types : (tys : List Ty) → 1 ≤ length tys → step_types (fork line h test result yes' no') tys ≡ result ∷ dropped 1 tys
    by_types [] l = absurd (omega arith)
    by_types (ty ∷ tys) l = refl
