-- Nodes of parts of code, one behind another.
use Rattle.std.proofs.Common.{◌≡◌, ◌<◌, ◌≤◌, ◌-◌, ◌+◌, ℕ, zero, suc, Bool, true, false, List, [], ◌∷◌, ◌++◌, length, map, replicate, take, drop, refl, sym, ap, ◌∙◌, arith, append_assoc, nat_eq, nat_lt}
use Rattle.std.specs.Prelude.{Option, Some, None, Result, Ok, Err, OnOk, slice_get}
use Rattle.std.proofs.lemmas.Bool.{eqb-true, eq-eqb, ltb-true, ltb-false}
use Rattle.std.proofs.lemmas.Option.{same_Some}
use Rattle.rc_core.specs.Programs.{Struct}
use Rattle.rc_rlang.specs.Counted.{Counted}
use Rattle.rc_rlang.specs.declared.steps.Step.{Step as CodeStep}
use Rattle.rc_rlang.specs.Shapes.{step_of, steps_of}
use Rattle.rc_core.specs.Types.{Ty}
use Rattle.rc_core.specs.Layout.{Layout, note_of}
use Rattle.rc_rlang.specs.RegionCode.{Step, set, fork, Steps, more, Act, Test, Code, simple, branch, loop, repeat, Codes, then, Routine}
use Rattle.rc_rlang.specs.RegionPoints.{steps_points, step_points, code_points, codes_points}
use Rattle.rc_rlang.specs.RegionFlow.{Node, Effect, nulled, if_regional, returned_variable, returning, entered, entry_pairs, end_nodes, routine_nodes, one_of, nothing, looked_at, is_regional_cell, loading, storing, going, forking, yes_effect, no_effect, Ends, first_of, step_nodes, steps_nodes, act_nodes, test_nodes, code_nodes, codes_nodes, in_line, cell_effects, temporary_variable}
use Rattle.rc_plans.specs.declared.plans.ForkPlan.{ForkPlan}
use Rattle.rc_plans.specs.declared.plans.ActPlan.{ActPlan}
use Rattle.rc_plans.specs.declared.plans.BranchPlan.{BranchPlan}
use Rattle.rc_plans.specs.declared.plans.LoopPlan.{LoopPlan}
use Rattle.rc_plans.specs.declared.plans.RepeatPlan.{RepeatPlan}
use Rattle.rc_plans.specs.declared.plans.RoutinePlan.{RoutinePlan}
use Rattle.rc_graph.specs.Nodes.{idle_nodes}
use Rattle.rc_plans.specs.Plans.{Planned, fork_plan, act_plan, branch_plan, loop_plan, repeat_plan, routine_plan}

two : {A : Type 0} (old m new a b : List A) → m ≡ old ++ a → new ≡ m ++ b → new ≡ old ++ (a ++ b)
two old m new a b e d = d ∙ ap (λ x. x ++ b) e ∙ append_assoc old a b

three : {A : Type 0} (old m1 m2 new a b c : List A) → m1 ≡ old ++ a → m2 ≡ m1 ++ b → new ≡ m2 ++ c → new ≡ old ++ (a ++ (b ++ c))
three old m1 m2 new a b c e d g = two old m1 new a (b ++ c) e (two m1 m2 new b c d g)

four : {A : Type 0} (old m1 m2 m3 new a b c d : List A) → m1 ≡ old ++ a → m2 ≡ m1 ++ b → m3 ≡ m2 ++ c → new ≡ m3 ++ d → new ≡ old ++ (a ++ (b ++ (c ++ d)))
four old m1 m2 m3 new a b c d e g h i = two old m1 new a (b ++ (c ++ d)) e (three m1 m2 m3 new b c d g h i)

five : {A : Type 0} (old m1 m2 m3 m4 new a b c d e : List A) → m1 ≡ old ++ a → m2 ≡ m1 ++ b → m3 ≡ m2 ++ c → m4 ≡ m3 ++ d → new ≡ m4 ++ e → new ≡ old ++ (a ++ (b ++ (c ++ (d ++ e))))
five old m1 m2 m3 m4 new a b c d e h i j k l = two old m1 new a (b ++ (c ++ (d ++ e))) h (four m1 m2 m3 m4 new b c d e i j k l)

-- what is there is what it should be
pub from_count : (o : Option ℕ) (known it : ℕ) → o ≡ Some known → Counted o it → known ≡ it
from_count (Some x) known it e h = sym (same_Some x known e) ∙ h
from_count None known it e h = cc

pub from_plan : {A : Type 0} (o : Option A) (known it : A) (behind : ℕ) → o ≡ Some known → Planned o behind it → known ≡ it
from_plan (Some x) known it behind e h = sym (same_Some x known e) ∙ h.0
from_plan None known it behind e h = cc

-- the point behind, or the next one where nothing is left
abbrev pub last_or : {A : Type 0} → List A → (next behind : ℕ) → ℕ
last_or [] next behind = next
last_or (x ∷ xs) next behind = behind

module _ (f : Routine) where
  pub fork_done : (line h : ℕ) (test result : Ty) (a b : Steps) (here next : ℕ) (p : ForkPlan) (left right : Effect) (old m1 m2 new : List Node) → p ≡ fork_plan a b here next → left ≡ yes_effect f test h → right ≡ no_effect f test h →
      m1 ≡ old ++ forking left right p.yes p.no ∷ [] → m2 ≡ m1 ++ steps_nodes f a p.at_yes next → new ≡ m2 ++ steps_nodes f b p.at_no next → new ≡ old ++ step_nodes f (fork line h test result a b) here next
  fork_done line h test result a b here next p left right old m1 m2 new e l r one mid last =
      let q = fork_plan a b here next in
      three old m1 m2 new (forking left right p.yes p.no ∷ []) (steps_nodes f a p.at_yes next) (steps_nodes f b p.at_no next) one mid last
      ∙ ap (λ (q : ForkPlan). old ++ (forking left right q.yes q.no ∷ (steps_nodes f a q.at_yes next ++ steps_nodes f b q.at_no next))) e
      ∙ ap (λ x. old ++ (forking x right q.yes q.no ∷ (steps_nodes f a q.at_yes next ++ steps_nodes f b q.at_no next))) l
      ∙ ap (λ x. old ++ (forking (yes_effect f test h) x q.yes q.no ∷ (steps_nodes f a q.at_yes next ++ steps_nodes f b q.at_no next))) r

  pub simple_done : (steps : Steps) (act : Act) (here : ℕ) (k : Ends) (p : ActPlan) (old m1 new : List Node) → p ≡ act_plan steps act here k.next →
      m1 ≡ old ++ steps_nodes f steps here p.behind → new ≡ m1 ++ act_nodes f act p.at_act k.next → new ≡ old ++ code_nodes f (simple steps act) here k
  simple_done steps act here k p old m1 new e one last =
      two old m1 new (steps_nodes f steps here p.behind) (act_nodes f act p.at_act k.next) one last
      ∙ ap (λ (q : ActPlan). old ++ (steps_nodes f steps here q.behind ++ act_nodes f act q.at_act k.next)) e

  pub branch_done : (steps : Steps) (test : Test) (a b : Code) (here : ℕ) (k : Ends) (p : BranchPlan) (old m1 m2 m3 new : List Node) → p ≡ branch_plan steps a b here k.next →
      m1 ≡ old ++ steps_nodes f steps here p.at_test → m2 ≡ m1 ++ test_nodes f (Some test) p.taken p.past → m3 ≡ m2 ++ code_nodes f a p.at_yes k → new ≡ m3 ++ code_nodes f b p.at_no k → new ≡ old ++ code_nodes f (branch steps test a b) here k
  branch_done steps test a b here k p old m1 m2 m3 new e one mid third last =
      four old m1 m2 m3 new (steps_nodes f steps here p.at_test) (test_nodes f (Some test) p.taken p.past) (code_nodes f a p.at_yes k) (code_nodes f b p.at_no k) one mid third last
      ∙ ap (λ (q : BranchPlan). old ++ (steps_nodes f steps here q.at_test ++ (test_nodes f (Some test) q.taken q.past ++ (code_nodes f a q.at_yes k ++ code_nodes f b q.at_no k)))) e

  pub loop_done : (line : ℕ) (steps : Steps) (test : Option Test) (third body : Code) (here : ℕ) (k : Ends) (p : LoopPlan) (old m1 m2 m3 m4 new : List Node) → p ≡ loop_plan steps test third body here →
      m1 ≡ old ++ going nothing p.entry ∷ [] → m2 ≡ m1 ++ steps_nodes f steps p.first p.at_test → m3 ≡ m2 ++ test_nodes f test p.inside k.next →
      m4 ≡ m3 ++ code_nodes f body p.at_body (record { next = p.back; broken = k.next; continued = p.back }) → new ≡ m4 ++ code_nodes f third p.at_third (record k { next = here }) → new ≡ old ++ code_nodes f (loop line steps test third body) here k
  loop_done line steps test third body here k p old m1 m2 m3 m4 new e one mid tested inner last =
      five old m1 m2 m3 m4 new (going nothing p.entry ∷ []) (steps_nodes f steps p.first p.at_test) (test_nodes f test p.inside k.next) (code_nodes f body p.at_body (record { next = p.back; broken = k.next; continued = p.back })) (code_nodes f third p.at_third (record k { next = here })) one mid tested inner last
      ∙ ap (λ (q : LoopPlan). old ++ (going nothing q.entry ∷ (steps_nodes f steps q.first q.at_test ++ (test_nodes f test q.inside k.next ++ (code_nodes f body q.at_body (record { next = q.back; broken = k.next; continued = q.back }) ++ code_nodes f third q.at_third (record k { next = here })))))) e

  pub repeat_done : (line : ℕ) (body : Code) (steps : Steps) (test : Test) (here : ℕ) (k : Ends) (p : RepeatPlan) (old m1 m2 m3 new : List Node) → p ≡ repeat_plan body steps here →
      m1 ≡ old ++ going nothing p.entry ∷ [] → m2 ≡ m1 ++ code_nodes f body p.first (record { next = p.tail; broken = k.next; continued = p.tail }) → m3 ≡ m2 ++ steps_nodes f steps p.at_tail p.at_test →
      new ≡ m3 ++ test_nodes f (Some test) here k.next → new ≡ old ++ code_nodes f (repeat line body steps test) here k
  repeat_done line body steps test here k p old m1 m2 m3 new e one mid third last =
      four old m1 m2 m3 new (going nothing p.entry ∷ []) (code_nodes f body p.first (record { next = p.tail; broken = k.next; continued = p.tail })) (steps_nodes f steps p.at_tail p.at_test) (test_nodes f (Some test) here k.next) one mid third last
      ∙ ap (λ (q : RepeatPlan). old ++ (going nothing q.entry ∷ (code_nodes f body q.first (record { next = q.tail; broken = k.next; continued = q.tail }) ++ (steps_nodes f steps q.at_tail q.at_test ++ test_nodes f (Some test) here k.next)))) e

  -- one more step: what was put, and what is left, are the nodes of all

  pub steps_more : (s : Step) (rest : Steps) (at to behind next : ℕ) (all old mid new : List Node) → all ≡ mid ++ steps_nodes f (more s rest) at next → behind ≡ at + step_points s → to ≡ first_of (steps_points rest) behind next →
      new ≡ mid ++ step_nodes f s at to → all ≡ new ++ steps_nodes f rest behind next
  steps_more s rest at to behind next all old mid new e b t n =
      e ∙ ap (λ x. mid ++ (step_nodes f s at (first_of (steps_points rest) x next) ++ steps_nodes f rest x next)) (sym b) ∙ ap (λ x. mid ++ (step_nodes f s at x ++ steps_nodes f rest behind next)) (sym t)
      ∙ sym (append_assoc mid (step_nodes f s at to) (steps_nodes f rest behind next)) ∙ ap (λ x. x ++ steps_nodes f rest behind next) (sym n)

  pub codes_more : (c : Code) (rest : Codes) (at to behind : ℕ) (k : Ends) (all mid new : List Node) → all ≡ mid ++ codes_nodes f (then c rest) at k → behind ≡ at + code_points c → to ≡ first_of (codes_points rest) behind k.next →
      new ≡ mid ++ code_nodes f c at (record k { next = to }) → all ≡ new ++ codes_nodes f rest behind k
  codes_more c rest at to behind k all mid new e b t n =
      e ∙ ap (λ x. mid ++ (code_nodes f c at (record k { next = first_of (codes_points rest) x k.next }) ++ codes_nodes f rest x k)) (sym b) ∙ ap (λ x. mid ++ (code_nodes f c at (record k { next = x }) ++ codes_nodes f rest behind k)) (sym t)
      ∙ sym (append_assoc mid (code_nodes f c at (record k { next = to })) (codes_nodes f rest behind k)) ∙ ap (λ x. x ++ codes_nodes f rest behind k) (sym n)

  -- the cells of a struct copy

  cells_first : (v from : ℕ) (kind : _) (kinds : Layout) (at next : ℕ) → in_line (cell_effects f v from (kind ∷ kinds)) at next
      ≡ going (loading f (is_regional_cell kind) (note_of kind) v from) (suc at) ∷ (going (storing f (is_regional_cell kind) (note_of kind) v 0) (last_or kinds next (suc (suc at))) ∷ in_line (cell_effects f v from kinds) (suc (suc at)) next)
  cells_first v from kind [] at next = refl
  cells_first v from kind (x ∷ xs) at next = refl

  pub cells_more : (v from : ℕ) (kind : _) (kinds : Layout) (at to next : ℕ) (e d : Effect) (all mid m1 new : List Node) → all ≡ mid ++ in_line (cell_effects f v from (kind ∷ kinds)) at next → to ≡ last_or kinds next (suc (suc at)) →
      e ≡ loading f (is_regional_cell kind) (note_of kind) v from → d ≡ storing f (is_regional_cell kind) (note_of kind) v 0 →
      m1 ≡ mid ++ going e (suc at) ∷ [] → new ≡ m1 ++ going d to ∷ [] → all ≡ new ++ in_line (cell_effects f v from kinds) (suc (suc at)) next
  cells_more v from kind kinds at to next e d all mid m1 new is t le ls one last =
      let rest = in_line (cell_effects f v from kinds) (suc (suc at)) next in
      is ∙ ap (λ x. mid ++ x) (cells_first v from kind kinds at next)
      ∙ ap (λ x. mid ++ (going x (suc at) ∷ (going (storing f (is_regional_cell kind) (note_of kind) v 0) (last_or kinds next (suc (suc at))) ∷ rest))) (sym le)
      ∙ ap (λ x. mid ++ (going e (suc at) ∷ (going x (last_or kinds next (suc (suc at))) ∷ rest))) (sym ls)
      ∙ ap (λ x. mid ++ (going e (suc at) ∷ (going d x ∷ rest))) (sym t)
      ∙ sym (append_assoc mid (going e (suc at) ∷ going d to ∷ []) rest)
      ∙ ap (λ x. x ++ rest) (sym (two mid m1 new (going e (suc at) ∷ []) (going d to ∷ []) one last))

-- points that do nothing

pub idle_last : (n here : ℕ) → idle_nodes (suc n) here ≡ idle_nodes n here ++ going nothing (suc (here + n)) ∷ []
idle_last zero here = ap (λ x. going nothing (suc x) ∷ []) (let e : here ≡ here + 0 = omega arith in e)
idle_last (suc n) here = ap (λ x. going nothing (suc here) ∷ x) (idle_last n (suc here) ∙ ap (λ x. idle_nodes n (suc here) ++ going nothing (suc x) ∷ []) (let e : suc here + n ≡ here + suc n = omega arith in e))

pub idle_line : (n : ℕ) (e : Effect) (here next : ℕ) → in_line (replicate n nothing ++ e ∷ []) here next ≡ idle_nodes n here ++ going e next ∷ []
idle_line zero e here next = refl
idle_line (suc zero) e here next = refl
idle_line (suc (suc n)) e here next = ap (λ z. going nothing (suc here) ∷ z) (idle_line (suc n) e (suc here) next)

-- where a part leads that stands before others

pub first_some : (k here next : ℕ) → 0 < k → first_of k here next ≡ here
first_some zero here next l = absurd (omega (arith, l))
first_some (suc k) here next l = refl

step_some : (s : Step) (n : ℕ) → 0 < step_points s + n
step_some (set line h ty op) n = omega arith
step_some (fork line h test result a b) n = omega arith

pub last_step : (structs : List Struct) (ys : List CodeStep) (n m behind next : ℕ) → length ys ≡ m - n → n ≤ m → one_of (nat_eq n m) next behind ≡ first_of (steps_points (steps_of structs ys)) behind next
last_step structs [] n m behind next e le = ap (λ b. one_of b next behind) (eq-eqb n m (let z : 0 ≡ m - n = e in omega (arith, z, le)))
last_step structs (y ∷ ys) n m behind next e le = by (nat_eq n m) refl
  where
    has : first_of (steps_points (steps_of structs (y ∷ ys))) behind next ≡ behind
    has = first_some (step_points (step_of structs y) + steps_points (steps_of structs ys)) behind next (step_some (step_of structs y) (steps_points (steps_of structs ys)))

    by : (b : Bool) → nat_eq n m ≡ b → one_of b next behind ≡ first_of (steps_points (steps_of structs (y ∷ ys))) behind next
    by true q = let same = eqb-true n m q in absurd (omega (arith, same, e))
    by false q = sym has

pub last_cell : (kinds : Layout) (n m behind next : ℕ) → length kinds ≡ m - n → n ≤ m → one_of (nat_eq n m) next behind ≡ last_or kinds next behind
last_cell [] n m behind next e le = ap (λ b. one_of b next behind) (eq-eqb n m (let z : 0 ≡ m - n = e in omega (arith, z, le)))
last_cell (y ∷ ys) n m behind next e le = by (nat_eq n m) refl
  where
    by : (b : Bool) → nat_eq n m ≡ b → one_of b next behind ≡ behind
    by true q = let same = eqb-true n m q in absurd (omega (arith, same, e))
    by false q = refl

pub last_code : (points j n behind next : ℕ) → (j < n → points ≡ 0 → ⊥) → (n ≤ j → points ≡ 0) → one_of (nat_lt j n) behind next ≡ first_of points behind next
last_code points j n behind next busy idle = by (nat_lt j n) refl
  where
    more : (p : ℕ) → (p ≡ 0 → ⊥) → first_of p behind next ≡ behind
    more zero h = absurd (h refl)
    more (suc p) h = refl

    by : (b : Bool) → nat_lt j n ≡ b → one_of b behind next ≡ first_of points behind next
    by true q = sym (more points (busy (ltb-true j n q)))
    by false q = ap (λ p. first_of p behind next) (sym (idle (ltb-false j n q)))

-- an element of a list
pub record Split {A : Type 0} (xs : List A) (i : ℕ) : Type 0 where
  pub item : A
  pub rest : drop i xs ≡ item ∷ drop (suc i) xs
  pub there : slice_get xs i ≡ Some item

pub split_at : {A : Type 0} (xs : List A) (i : ℕ) → i < length xs → Split xs i
split_at [] i l = absurd (omega (arith, l))
split_at (x ∷ xs) zero l = record { item = x; rest = refl; there = refl }
split_at (x ∷ xs) (suc i) l = let r = split_at xs i (omega (arith, l)) in record { item = r.item; rest = r.rest; there = r.there }

-- the points of an update of a number

line_more : (e : Effect) (n : ℕ) (d : Effect) (here next : ℕ) → in_line (e ∷ (replicate n nothing ++ d ∷ [])) here next ≡ going e (suc here) ∷ in_line (replicate n nothing ++ d ∷ []) (suc here) next
line_more e zero d here next = refl
line_more e (suc n) d here next = refl

pub compute_done : (holder points count here second next : ℕ) (old m1 m2 new : List Node) → count ≡ points - 2 → second ≡ here + 1 → m1 ≡ old ++ going (looked_at holder) second ∷ [] → m2 ≡ m1 ++ idle_nodes count second →
    new ≡ m2 ++ going (looked_at holder) next ∷ [] → new ≡ old ++ in_line (looked_at holder ∷ (replicate (points - 2) nothing ++ looked_at holder ∷ [])) here next
compute_done holder points count here second next old m1 m2 new k s one mid last =
    let at : second ≡ suc here = omega (arith, s) in
    three old m1 m2 new (going (looked_at holder) second ∷ []) (idle_nodes count second) (going (looked_at holder) next ∷ []) one mid last
    ∙ ap (λ n. old ++ (going (looked_at holder) n ∷ (idle_nodes count n ++ going (looked_at holder) next ∷ []))) at
    ∙ ap (λ n. old ++ (going (looked_at holder) (suc here) ∷ (idle_nodes n (suc here) ++ going (looked_at holder) next ∷ []))) k
    ∙ ap (λ ys. old ++ (going (looked_at holder) (suc here) ∷ ys)) (sym (idle_line (points - 2) (looked_at holder) (suc here) next))
    ∙ ap (λ ys. old ++ ys) (sym (line_more (looked_at holder) (points - 2) (looked_at holder) here next))

pub points_done : (l d s x y : Effect) (here second third next : ℕ) (old m1 m2 new : List Node) → second ≡ here + 1 → third ≡ second + 1 → x ≡ l → y ≡ s → m1 ≡ old ++ going x second ∷ [] → m2 ≡ m1 ++ going d third ∷ [] → new ≡ m2 ++ going y next ∷ [] →
    new ≡ old ++ (going l (suc here) ∷ going d (suc (suc here)) ∷ going s next ∷ [])
points_done l d s x y here second third next old m1 m2 new at2 at3 ex ey one mid last =
    let k2 : second ≡ suc here = omega (arith, at2) in
    let k3 : third ≡ suc (suc here) = omega (arith, at2, at3) in
    three old m1 m2 new (going x second ∷ []) (going d third ∷ []) (going y next ∷ []) one mid last
    ∙ ap (λ n. old ++ (going x n ∷ going d third ∷ going y next ∷ [])) k2
    ∙ ap (λ n. old ++ (going x (suc here) ∷ going d n ∷ going y next ∷ [])) k3
    ∙ ap (λ e. old ++ (going e (suc here) ∷ going d (suc (suc here)) ∷ going y next ∷ [])) ex
    ∙ ap (λ e. old ++ (going l (suc here) ∷ going d (suc (suc here)) ∷ going e next ∷ [])) ey

pub idle_more : (count at here next : ℕ) (old mid new : List Node) → mid ≡ old ++ idle_nodes count here → at ≡ here + count → next ≡ at + 1 → new ≡ mid ++ going nothing next ∷ [] → new ≡ old ++ idle_nodes (count + 1) here
idle_more count at here next old mid new m a n e =
    let k : next ≡ suc (here + count) = omega (arith, a, n) in
    let j : suc count ≡ count + 1 = omega arith in
    two old mid new (idle_nodes count here) (going nothing next ∷ []) m e
    ∙ ap (λ p. old ++ (idle_nodes count here ++ going nothing p ∷ [])) k ∙ ap (λ ys. old ++ ys) (sym (idle_last count here)) ∙ ap (λ i. old ++ idle_nodes i here) j

pub on_ok : {A E : Type 0} (r : Result A E) (P Q : Type 0) → (P → Q) → OnOk r P → OnOk r Q
on_ok (Ok a) P Q h p = h p
on_ok (Err e) P Q h p = p

pub routine_done : (f : Routine) (p : RoutinePlan) (entry : Effect) (old m1 m2 new : List Node) → p ≡ routine_plan f.body → entry ≡ entered (entry_pairs f (take f.parameters f.locals) 0) → m1 ≡ old ++ going entry p.first ∷ [] →
    m2 ≡ m1 ++ code_nodes f f.body 1 (record { next = p.at_end; broken = p.at_end; continued = p.at_end }) → new ≡ m2 ++ end_nodes f f.result p.at_end → new ≡ old ++ routine_nodes f
routine_done f p entry old m1 m2 new e d one mid last =
    three old m1 m2 new (going entry p.first ∷ []) (code_nodes f f.body 1 (record { next = p.at_end; broken = p.at_end; continued = p.at_end })) (end_nodes f f.result p.at_end) one mid last
    ∙ ap (λ (q : RoutinePlan). old ++ (going entry q.first ∷ (code_nodes f f.body 1 (record { next = q.at_end; broken = q.at_end; continued = q.at_end }) ++ end_nodes f f.result q.at_end))) e
    ∙ ap (λ x. old ++ (going x (routine_plan f.body).first ∷ (code_nodes f f.body 1 (record { next = (routine_plan f.body).at_end; broken = (routine_plan f.body).at_end; continued = (routine_plan f.body).at_end }) ++ end_nodes f f.result (routine_plan f.body).at_end))) d

pub end_done : (f : Routine) (o : Option Ty) (ty : Ty) (e : Effect) (behind here : ℕ) (v : Option ℕ) (old m1 new : List Node) → o ≡ Some ty → e ≡ if_regional ty (nulled (temporary_variable f 0)) → behind ≡ 1 + here → v ≡ returned_variable f o → m1 ≡ old ++ going e behind ∷ [] → new ≡ m1 ++ returning v ∷ [] → new ≡ old ++ end_nodes f o here
end_done f o ty e behind here v old m1 new is ee b ev one last =
    let k : behind ≡ suc here = omega (arith, b) in
    two old m1 new (going e behind ∷ []) (returning v ∷ []) one last
    ∙ ap (λ n. old ++ (going e n ∷ returning v ∷ [])) k ∙ ap (λ x. old ++ (going x (suc here) ∷ returning v ∷ [])) ee ∙ ap (λ x. old ++ (going (if_regional ty (nulled (temporary_variable f 0))) (suc here) ∷ returning x ∷ [])) (ev ∙ ap (returned_variable f) is)
    ∙ ap (λ x. old ++ end_nodes f x here) (sym is)

pub taken_map : {A B : Type 0} (f : A → B) (n : ℕ) (xs : List A) → map f (take n xs) ≡ take n (map f xs)
taken_map f zero xs = refl
taken_map f (suc n) [] = refl
taken_map f (suc n) (x ∷ xs) = ap (λ ys. f x ∷ ys) (taken_map f n xs)

pub mapped_get : {A B : Type 0} (f : A → B) (xs : List A) (i : ℕ) (x : A) → slice_get xs i ≡ Some x → slice_get (map f xs) i ≡ Some (f x)
mapped_get f [] i x e = cc
mapped_get f (y ∷ ys) zero x e = cc
mapped_get f (y ∷ ys) (suc i) x e = mapped_get f ys i x e
