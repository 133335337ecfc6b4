-- Where the parts of code stand, and where they lead.
use Rattle.std.specs.Prelude.{◌≡◌, ℕ, suc, ◌+◌, ◌^◌, ◌<◌, ◌≤◌, List, drop, Option, MatchOption}
use Rattle.rc_core.specs.Programs.{Struct}
use Rattle.rc_rlang.specs.declared.code.Code.{Code as CodeCode}
use Rattle.rc_rlang.specs.RegionCode.{Steps, Act, Test, Code}
use Rattle.rc_rlang.specs.RegionPoints.{steps_points, act_points, branch_points, code_points, codes_points}
use Rattle.rc_rlang.specs.RegionFlow.{first_of}
use Rattle.rc_rlang.specs.Shapes.{codes_of}
use Rattle.rc_plans.specs.declared.plans.ForkPlan.{ForkPlan}
use Rattle.rc_plans.specs.declared.plans.ActPlan.{ActPlan}
use Rattle.rc_plans.specs.declared.plans.BranchPlan.{BranchPlan}
use Rattle.rc_plans.specs.declared.plans.LoopPlan.{LoopPlan}
use Rattle.rc_plans.specs.declared.plans.RepeatPlan.{RepeatPlan}
use Rattle.rc_plans.specs.declared.plans.RoutinePlan.{RoutinePlan}

-- it is the plan, and the point behind is a `u32`; there is none just where that is no `u32`
abbrev pub Planned : {A : Type 0} → Option A → (behind : ℕ) → A → Type 0
Planned result behind plan = MatchOption result (2 ^ 32 ≤ behind) (λ p. (p ≡ plan) × (behind < 2 ^ 32))

abbrev pub fork_plan : (yes no : Steps) → (here next : ℕ) → ForkPlan
fork_plan a b here next = record {
  at_yes = suc here;
  at_no = suc here + steps_points a;
  yes = first_of (steps_points a) (suc here) next;
  no = first_of (steps_points b) (suc here + steps_points a) next;
}

abbrev pub act_plan : Steps → Act → (here next : ℕ) → ActPlan
act_plan steps act here next = record { at_act = here + steps_points steps; behind = first_of (act_points act) (here + steps_points steps) next }

abbrev pub branch_plan : Steps → (yes no : Code) → (here next : ℕ) → BranchPlan
branch_plan steps a b here next =
    let at_yes = suc (here + steps_points steps) in
    record {
      at_test = here + steps_points steps;
      at_yes = at_yes;
      at_no = at_yes + code_points a;
      taken = first_of (code_points a) at_yes next;
      past = first_of (code_points b) (at_yes + code_points a) next;
    }

abbrev pub loop_plan : Steps → Option Test → (third body : Code) → (here : ℕ) → LoopPlan
loop_plan steps test third body here =
    let at_test = suc here + steps_points steps in
    let at_body = at_test + branch_points test in
    let at_third = at_body + code_points body in
    let back = first_of (code_points third) at_third here in
    let inside = first_of (code_points body) at_body back in
    record {
      first = suc here;
      at_test = at_test;
      at_body = at_body;
      at_third = at_third;
      back = back;
      inside = inside;
      entry = first_of (steps_points steps + branch_points test) (suc here) inside;
    }

abbrev pub repeat_plan : Code → Steps → (here : ℕ) → RepeatPlan
repeat_plan body steps here =
    let at_tail = suc here + code_points body in
    let at_test = at_tail + steps_points steps in
    let tail = first_of (steps_points steps) at_tail at_test in
    record { first = suc here; at_tail = at_tail; at_test = at_test; tail = tail; entry = first_of (code_points body) (suc here) tail }

abbrev pub routine_plan : Code → RoutinePlan
routine_plan body = record { first = first_of (code_points body) 1 (suc (code_points body)); at_end = suc (code_points body) }

-- just from the number n on no statement has a point
pub record EndsBusy (structs : List Struct) (body : List CodeCode) (n : ℕ) : Type 0 where
  pub busy : (i : ℕ) → i < n → codes_points (codes_of structs (drop i body)) ≡ 0 → ⊥
  pub idle : (i : ℕ) → n ≤ i → codes_points (codes_of structs (drop i body)) ≡ 0
