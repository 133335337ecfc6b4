-- Gathering over steps: what is left to gather, from a step on.
use Rattle.std.proofs.Common.{◌≡◌, ◌<◌, ◌≤◌, ◌+◌, ℕ, suc, List, [], ◌++◌, length, get_or, drop, sym, ap, ◌∙◌, arith}
use Rattle.std.proofs.Math.Seq.{drop-cons}
use Rattle.std.proofs.Math.ListN.{drop_of_length-le}
use Rattle.std.proofs.lemmas.List.{append_assoc, append-nil}
use Rattle.rc_core.specs.Programs.{Struct}
use Rattle.rc_emission.specs.KeptOperands.{kept_step, kept_steps, kept_code, kept_codes}
use Rattle.rc_rlang.specs.declared.code.Code.{Code as CodeCode}
use Rattle.rc_rlang.specs.declared.steps.Step.{Step as CodeStep}
use Rattle.rc_rlang.specs.RegionCode.{none, more, then}
use Rattle.rc_rlang.specs.RegionFits.{step_types, steps_types}
use Rattle.rc_rlang.specs.Shapes.{step_of, steps_of, code_of, codes_of}
use Rattle.rc_lines.specs.declared.gathering.KeptOperand.{KeptOperand}
use Rattle.rc_lines.specs.declared.operands.Operand.{Operand}
use Rattle.rc_lines.specs.Gathered.{all_kept}
use Rattle.rc_lines.specs.Operands.{types_on}

module _ (old : List KeptOperand) (steps : List CodeStep) (base : ℕ) where
  pub record Gathering (out : List KeptOperand) (operands : List Operand) (i : ℕ) : Type 0 where
    pub kept : (structs : List Struct) → all_kept out ++ kept_steps (steps_of structs (drop i steps)) base (types_on operands) ≡ all_kept old ++ kept_steps (steps_of structs steps) base []
    pub types : (structs : List Struct) → steps_types (steps_of structs (drop i steps)) (types_on operands) ≡ steps_types (steps_of structs steps) []

  -- what a step did
  pub record Gathered (s : CodeStep) (out out1 : List KeptOperand) (operands operands1 : List Operand) : Type 0 where
    pub kept : (structs : List Struct) → all_kept out1 ≡ all_kept out ++ kept_step (step_of structs s) base (types_on operands)
    pub types : (structs : List Struct) → types_on operands1 ≡ step_types (step_of structs s) (types_on operands)

  next_is : (structs : List Struct) (i : ℕ) (s : CodeStep) → i < length steps → s ≡ get_or steps i s → steps_of structs (drop i steps) ≡ more (step_of structs s) (steps_of structs (drop (i + 1) steps))
  next_is structs i s h e =
      let k : suc i ≡ i + 1 = omega arith in
      ap (steps_of structs) (drop-cons steps i s h) ∙ ap (λ x. more (step_of structs x) (steps_of structs (drop (suc i) steps))) (sym e) ∙ ap (λ n. more (step_of structs s) (steps_of structs (drop n steps))) k

  pub gathers_on : (i : ℕ) (s : CodeStep) (out out1 : List KeptOperand) (operands operands1 : List Operand) → i < length steps → s ≡ get_or steps i s → Gathering out operands i → Gathered s out out1 operands operands1 → Gathering out1 operands1 (i + 1)
  gathers_on i s out out1 operands operands1 h e g d = record {
    kept = λ structs.
        let r = steps_of structs (drop (i + 1) steps) in
        let p = step_of structs s in
        ap (λ tys. all_kept out1 ++ kept_steps r base tys) (d.types structs)
        ∙ ap (λ ks. ks ++ kept_steps r base (step_types p (types_on operands))) (d.kept structs)
        ∙ append_assoc (all_kept out) (kept_step p base (types_on operands)) (kept_steps r base (step_types p (types_on operands)))
        ∙ ap (λ q. all_kept out ++ kept_steps q base (types_on operands)) (sym (next_is structs i s h e))
        ∙ g.kept structs;
    types = λ structs.
        ap (steps_types (steps_of structs (drop (i + 1) steps))) (d.types structs) ∙ ap (λ q. steps_types q (types_on operands)) (sym (next_is structs i s h e)) ∙ g.types structs;
  }

  ends_at : (structs : List Struct) (i : ℕ) → length steps ≤ i → steps_of structs (drop i steps) ≡ none
  ends_at structs i h = ap (steps_of structs) (drop_of_length-le steps h)

  pub all_gathered : (i : ℕ) (out : List KeptOperand) (operands : List Operand) → length steps ≤ i → Gathering out operands i → (structs : List Struct) → all_kept out ≡ all_kept old ++ kept_steps (steps_of structs steps) base []
  all_gathered i out operands h g structs = sym (append-nil (all_kept out)) ∙ ap (λ q. all_kept out ++ kept_steps q base (types_on operands)) (sym (ends_at structs i h)) ∙ g.kept structs

  pub all_types : (i : ℕ) (out : List KeptOperand) (operands : List Operand) → length steps ≤ i → Gathering out operands i → (structs : List Struct) → types_on operands ≡ steps_types (steps_of structs steps) []
  all_types i out operands h g structs = ap (λ q. steps_types q (types_on operands)) (sym (ends_at structs i h)) ∙ g.types structs

pub appended : {A : Type 0} (o a b l1 l2 : List A) → l1 ≡ o ++ a → l2 ≡ l1 ++ b → l2 ≡ o ++ (a ++ b)
appended o a b l1 l2 e f = f ∙ ap (λ l. l ++ b) e ∙ append_assoc o a b

module _ (old : List KeptOperand) (body : List CodeCode) where
  pub record GatheringCode (out : List KeptOperand) (i : ℕ) : Type 0 where
    pub kept : (structs : List Struct) → all_kept out ++ kept_codes (codes_of structs (drop i body)) ≡ all_kept old ++ kept_codes (codes_of structs body)

  pub code_goes_on : (i : ℕ) (c : CodeCode) (out out1 : List KeptOperand) → i < length body → c ≡ get_or body i c → GatheringCode out i → ((structs : List Struct) → all_kept out1 ≡ all_kept out ++ kept_code (code_of structs c)) → GatheringCode out1 (i + 1)
  code_goes_on i c out out1 h e g d = record {
    kept = λ structs.
        let k : suc i ≡ i + 1 = omega arith in
        let rest = kept_codes (codes_of structs (drop (i + 1) body)) in
        let n : codes_of structs (drop i body) ≡ then (code_of structs c) (codes_of structs (drop (i + 1) body)) =
        ap (codes_of structs) (drop-cons body i c h) ∙ ap (λ x. then (code_of structs x) (codes_of structs (drop (suc i) body))) (sym e) ∙ ap (λ m. then (code_of structs c) (codes_of structs (drop m body))) k in
        ap (λ ks. ks ++ rest) (d structs) ∙ append_assoc (all_kept out) (kept_code (code_of structs c)) rest ∙ ap (λ q. all_kept out ++ kept_codes q) (sym n) ∙ g.kept structs;
  }

  pub code_ends : (i : ℕ) (out : List KeptOperand) → length body ≤ i → GatheringCode out i → (structs : List Struct) → all_kept out ≡ all_kept old ++ kept_codes (codes_of structs body)
  code_ends i out h g structs = sym (append-nil (all_kept out)) ∙ ap (λ q. all_kept out ++ kept_codes (codes_of structs q)) (sym (drop_of_length-le body h)) ∙ g.kept structs
