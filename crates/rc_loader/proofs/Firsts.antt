-- Code that keeps every rule at every instruction is sound and the other way round, and of violations one is the first.
use Rattle.std.proofs.Common.{◌≡◌, ℕ, suc, ◌-◌, ◌<◌, ◌≤◌, ◌+◌, ◌⊎◌, inl, inr, true, List, [], ◌∷◌, ◌++◌, length, Some, refl, sym, ap, subst, ◌∙◌, arith}
use Rattle.std.specs.Prelude.{slice_get}
use Rattle.std.proofs.lemmas.Option.{slice_get-get_or, get_or_from_slice_get, slice_get_within}
use Rattle.std.proofs.lemmas.List.{length-append}
use Rattle.std.proofs.lemmas.Bool.{cases_order}
use Rattle.rc_code.specs.declared.opcode.Jump.{Jump}
use Rattle.rc_code.specs.declared.opcode.Jump.TheVariants as jump
use Rattle.rc_code.specs.declared.opcode.Simple.TheVariants as simple
use Rattle.rc_code.specs.declared.instruction.Instruction.{Instruction}
use Rattle.rc_code.specs.declared.instruction.Instruction.TheVariants as instruction
use Rattle.rc_code.specs.declared.image.Function.{Function}
use Rattle.rc_code.specs.declared.image.Parts.{Parts}
use Rattle.rc_code.specs.Running.{Reading, reading_of, function_at}
use Rattle.rc_code.specs.Soundness.{Kind, takes, instruction_at, kinds_before, count_off, Operands, Targets, FunctionIsSound, Sound}
use Rattle.rc_loader.specs.declared.fault.Rule.{Rule}
use Rattle.rc_loader.specs.declared.fault.Rule.TheVariants as rule
use Rattle.rc_loader.specs.declared.fault.Violation.{Violation}
use Rattle.rc_loader.specs.Violations.{Leads, GoesOn, HasHeight, Keeps, rank, KeepsAt, BreaksFirst, InFunction, FirstViolation}

module _ (image : Reading) (f : Function) where
  -- ---- sound code keeps the rules

  leads : (n : ℕ) (i : Instruction) → Targets image f n i → Leads f n i
  leads n (instruction.Jump jump.Always to) t = (t.0, t.1)
  leads n (instruction.Jump jump.IfZero to) t = (t.0, t.1)
  leads n (instruction.Jump jump.Back to) t = (t.0, t.1)
  leads n i t = tt

  empty_at : (n to : ℕ) (row : Jump) → Targets image f n (instruction.Jump row to) → kinds_before image f to ≡ []
  empty_at n to jump.Always t = t.2
  empty_at n to jump.IfZero t = t.2
  empty_at n to jump.Back t = t.2

  under : (ks kinds : List Kind) → ((below : List Kind) × (kinds ≡ ks ++ below)) → length ks ≤ length kinds
  under ks kinds b = let e : length kinds ≡ length ks + length b.0 = ap length b.1 ∙ length-append ks b.0 in omega (arith, e)

  popped : (kinds : List Kind) → ((kind : Kind) × (below : List Kind) × (kinds ≡ kind ∷ below)) → 1 ≤ length kinds
  popped kinds b = let e : length kinds ≡ suc (length b.1) = ap length b.2 in omega (arith, e)

  enough : (i : Instruction) (kinds : List Kind) → Operands image f i kinds → count_off image f i ≤ length kinds
  enough (instruction.Simple simple.Pop) kinds o = popped kinds o
  enough i kinds o = under (takes image f i) kinds o

  kept_there : FunctionIsSound true image f → (n : ℕ) → n < length f.code → slice_get f.code n ≡ Some (instruction_at f n) → (r : Rule) → KeepsAt image f n r
  kept_there sound n there is rule.Number = (sound.fine n (instruction_at f n) is).names
  kept_there sound n there is rule.Target = record { there = there; target = leads n (instruction_at f n) (sound.fine n (instruction_at f n) is).targets; end = sound.last n (instruction_at f n) is }
  kept_there sound n there is rule.Height = record {
    enough = enough (instruction_at f n) (kinds_before image f n) (sound.fine n (instruction_at f n) is).operands;
    empty = (sound.fine n (instruction_at f n) is).empty;
    target = λ t. empty_at t.0 n t.1 (sound.fine t.0 (instruction.Jump t.1 n) t.2).targets;
  }
  kept_there sound n there is rule.Kind = (sound.fine n (instruction_at f n) is).operands

  pub all_kept : FunctionIsSound true image f → (n : ℕ) → n ≤ length f.code - 1 → (r : Rule) → KeepsAt image f n r
  all_kept sound n place r =
      let some = sound.begins in
      let there : n < length f.code = omega (arith, some, place) in
      kept_there sound n there (slice_get-get_or f.code n (instruction.Simple simple.Return) there) r

  -- ---- and code that keeps them is sound

  module _ (kept : (n : ℕ) → n ≤ length f.code - 1 → (r : Rule) → KeepsAt image f n r) where
    placed : (n : ℕ) → n < length f.code → n ≤ length f.code - 1
    placed n there = omega (arith, there)

    keeps : (n : ℕ) (i : Instruction) → slice_get f.code n ≡ Some i → (r : Rule) → Keeps r image f n i
    keeps n i is r = subst (λ j. Keeps r image f n j) (get_or_from_slice_get f.code n i (instruction.Simple simple.Return) is) (kept n (placed n (slice_get_within f.code n i is)) r)

    emptied : (n to : ℕ) (row : Jump) → slice_get f.code n ≡ Some (instruction.Jump row to) → to < length f.code → kinds_before image f to ≡ []
    emptied n to row is there = let h : HasHeight image f to (instruction_at f to) = kept to (placed to there) rule.Height in h.target (n, row, is)

    targets : (n : ℕ) (i : Instruction) → slice_get f.code n ≡ Some i → Leads f n i → Targets image f n i
    targets n (instruction.Jump jump.Always to) is l = (l.0, l.1, emptied n to jump.Always is l.1)
    targets n (instruction.Jump jump.IfZero to) is l = (l.0, l.1, emptied n to jump.IfZero is l.1)
    targets n (instruction.Jump jump.Back to) is l = (l.0, l.1, emptied n to jump.Back is l.1)
    targets n i is l = tt

    begins : 0 < length f.code
    begins = let h : GoesOn f 0 (instruction_at f 0) = kept 0 (omega arith) rule.Target in h.there

    pub code_is_sound : FunctionIsSound true image f
    code_is_sound = record {
      begins = begins;
      fine = λ n i is. let t : GoesOn f n i = keeps n i is rule.Target in let h : HasHeight image f n i = keeps n i is rule.Height in
          record { names = keeps n i is rule.Number; operands = keeps n i is rule.Kind; targets = targets n i is t.target; empty = h.empty };
      last = λ n i is. let t : GoesOn f n i = keeps n i is rule.Target in t.end;
    }

  -- ---- one of them is the first

  rank_alone : (r s : Rule) → rank r ≡ rank s → r ≡ s
  rank_alone rule.Number rule.Number e = refl
  rank_alone rule.Target rule.Target e = refl
  rank_alone rule.Height rule.Height e = refl
  rank_alone rule.Kind rule.Kind e = refl
  rank_alone r s e = absurd cc

  pub one_place : (n m : ℕ) (r s : Rule) → BreaksFirst image f n r → BreaksFirst image f m s → n ≡ m
  one_place n m r s a b = by (cases_order n m)
    where
      by : (n ≡ m) ⊎ ((n < m) ⊎ (m < n)) → n ≡ m
      by (inr (inl l)) = absurd (a.broken (b.before n l r))
      by (inl e) = e
      by (inr (inr l)) = absurd (b.broken (a.before m l s))

  pub one_rule : (n : ℕ) (r s : Rule) → BreaksFirst image f n r → BreaksFirst image f n s → r ≡ s
  one_rule n r s a b = by (cases_order (rank r) (rank s))
    where
      by : (rank r ≡ rank s) ⊎ ((rank r < rank s) ⊎ (rank s < rank r)) → r ≡ s
      by (inr (inl l)) = absurd (a.broken (b.earlier r l))
      by (inl e) = rank_alone r s e
      by (inr (inr l)) = absurd (b.broken (a.earlier s l))

  pub sound_breaks_none : FunctionIsSound true image f → (n : ℕ) (r : Rule) → BreaksFirst image f n r → ⊥
  sound_breaks_none sound n r a = a.broken (all_kept sound n a.there r)

fields : (v w : Violation) → v.function ≡ w.function → v.instruction ≡ w.instruction → v.rule ≡ w.rule → v ≡ w
fields v w e place rules =
    ap (λ g. let u : Violation = record { rule = v.rule; function = g; instruction = v.instruction } in u) e
    ∙ ap (λ n. let u : Violation = record { rule = v.rule; function = w.function; instruction = n } in u) place
    ∙ ap (λ r. let u : Violation = record { rule = r; function = w.function; instruction = w.instruction } in u) rules

module _ (image : Reading) where
  both_in : (v w : Violation) → InFunction image v → InFunction image w → v ≡ w
  both_in v w a b = by (cases_order v.function w.function)
    where
      made : v.function ≡ w.function → v.instruction ≡ w.instruction → v.rule ≡ w.rule → v ≡ w
      made e place rules = fields v w e place rules

      same : v.function ≡ w.function → v ≡ w
      same e =
          let second : BreaksFirst image (function_at image v.function) w.instruction w.rule = subst (λ g. BreaksFirst image (function_at image g) w.instruction w.rule) (sym e) b.first in
          let place = one_place image (function_at image v.function) v.instruction w.instruction v.rule w.rule a.first second in
          let third : BreaksFirst image (function_at image v.function) v.instruction w.rule = subst (λ n. BreaksFirst image (function_at image v.function) n w.rule) (sym place) second in
          let rules = one_rule image (function_at image v.function) v.instruction v.rule w.rule a.first third in
          made e place rules

      by : (v.function ≡ w.function) ⊎ ((v.function < w.function) ⊎ (w.function < v.function)) → v ≡ w
      by (inl e) = same e
      by (inr (inl l)) = absurd (sound_breaks_none image (function_at image v.function) (b.before v.function l) v.instruction v.rule a.first)
      by (inr (inr l)) = absurd (sound_breaks_none image (function_at image w.function) (a.before w.function l) w.instruction w.rule b.first)

  breaks_soundness : (v : Violation) → InFunction image v → ((f : ℕ) → f < length image.parts.functions → FunctionIsSound true image (function_at image f)) → ⊥
  breaks_soundness v a all = sound_breaks_none image (function_at image v.function) (all v.function a.there) v.instruction v.rule a.first

pub one_first : (parts : Parts) (v w : Violation) → FirstViolation parts v → FirstViolation parts w → v ≡ w
one_first parts v w (inl a) (inl b) = both_in (reading_of parts) v w a b
one_first parts v w (inl a) (inr b) = absurd (breaks_soundness (reading_of parts) v a b.functions)
one_first parts v w (inr a) (inl b) = absurd (breaks_soundness (reading_of parts) w b a.functions)
one_first parts v w (inr a) (inr b) = a.place ∙ sym b.place

pub none_where_sound : (parts : Parts) (v : Violation) → Sound parts → FirstViolation parts v → ⊥
none_where_sound parts v sound (inl a) = breaks_soundness (reading_of parts) v a sound.functions
none_where_sound parts v sound (inr a) = a.shape (record { takes = sound.main_takes; gives = sound.main_gives })
