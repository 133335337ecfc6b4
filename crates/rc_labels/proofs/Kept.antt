-- Labelled code keeps the same operands in locals.
use Rattle.std.proofs.Common.{◌≡◌, ℕ, suc, ◌+◌, Bool, List, [], ◌∷◌, ◌++◌, length, map, refl, ap, ◌∙◌}
use Rattle.rc_core.specs.Types.{Ty}
use Rattle.rc_rlang.specs.RegionCode.{Step, set, fork, Steps, none, more, Act, drop, perform, assign, store, update, move, delete, leave, Code, simple, clear, block, branch, loop, repeat, break, continue, Codes, done, then, Routine}
use Rattle.rc_rlang.specs.RegionPoints.{steps_points, branch_points, code_points}
use Rattle.rc_rlang.specs.RegionFits.{step_types, steps_types}
use Rattle.rc_emission.specs.OperationCode.{wide}
use Rattle.rc_emission.specs.StatementCode.{Slots}
use Rattle.rc_emission.specs.KeptOperands.{Kept, kept_at, place_in, once, same_kept, kept_operands, kept_step, kept_steps, kept_act, kept_code, kept_codes, slots_of}
use Rattle.rc_stack_rules.specs.Loadable.{all_locals}
use Rattle.rc_labels.specs.Labels.{Numbering}
use Rattle.rc_labels.specs.Labelled.{step_labelled, steps_labelled, act_labelled, code_labelled, codes_labelled, routine_labelled}
use Rattle.rc_labels.proofs.Fits.{step_types_same, steps_types_same}

joined : (a' a b' b : List Kept) → a' ≡ a → b' ≡ b → a' ++ b' ≡ a ++ b
joined a' a b' b e f = ap (λ kept. kept ++ b') e ∙ ap (λ kept. a ++ kept) f

module _ (n : Numbering) where
  mutual
    step_kept : (s : Step) (base : ℕ) (tys : List Ty) → kept_step (step_labelled n s) base tys ≡ kept_step s base tys
    step_kept (set line h ty op) base tys = refl
    step_kept (fork line h test result a b) base tys =
        ap (λ kept. kept_operands base tys ++ (kept_at h result ∷ kept)) (joined (kept_steps (steps_labelled n a) h []) (kept_steps a h []) (kept_steps (steps_labelled n b) h []) (kept_steps b h []) (steps_kept a h []) (steps_kept b h []))

    steps_kept : (x : Steps) (base : ℕ) (tys : List Ty) → kept_steps (steps_labelled n x) base tys ≡ kept_steps x base tys
    steps_kept none base tys = refl
    steps_kept (more s rest) base tys =
        joined (kept_step (step_labelled n s) base tys) (kept_step s base tys) (kept_steps (steps_labelled n rest) base (step_types (step_labelled n s) tys)) (kept_steps rest base (step_types s tys)) (step_kept s base tys)
        (ap (kept_steps (steps_labelled n rest) base) (step_types_same n s tys) ∙ steps_kept rest base (step_types s tys))

  module _ (marked : (point : ℕ) → Bool) where
    act_kept : (act : Act) (here : ℕ) (tys : List Ty) → kept_act (act_labelled n marked act here) tys ≡ kept_act act tys
    act_kept drop here tys = refl
    act_kept (perform line f given) here tys = refl
    act_kept (assign line x ty) here tys = refl
    act_kept (store line a) here tys = refl
    act_kept (update line a change ty) here tys = refl
    act_kept (move line cells left right) here tys = refl
    act_kept (delete line) here tys = refl
    act_kept (leave line result) here tys = refl

    mutual
      pub code_kept : (c : Code) (here : ℕ) → kept_code (code_labelled n marked c here) ≡ kept_code c
      code_kept (simple steps act) here =
          let at_act = here + steps_points steps in
          let act' = act_labelled n marked act at_act in
          joined (kept_steps (steps_labelled n steps) 0 []) (kept_steps steps 0 []) (kept_act act' (steps_types (steps_labelled n steps) [])) (kept_act act (steps_types steps [])) (steps_kept steps 0 [])
          (ap (kept_act act') (steps_types_same n steps []) ∙ act_kept act at_act (steps_types steps []))
      code_kept (clear line x ty) here = refl
      code_kept (block codes) here = codes_kept codes here
      code_kept (branch steps test a b) here =
          let at_a = suc (here + steps_points steps) in
          let a' = code_labelled n marked a at_a in
          let b' = code_labelled n marked b (at_a + code_points a) in
          joined (kept_steps (steps_labelled n steps) 0 []) (kept_steps steps 0 []) (kept_code a' ++ kept_code b') (kept_code a ++ kept_code b) (steps_kept steps 0 [])
          (joined (kept_code a') (kept_code a) (kept_code b') (kept_code b) (code_kept a at_a) (code_kept b (at_a + code_points a)))
      code_kept (loop line steps test third a) here =
          let at_a = suc here + steps_points steps + branch_points test in
          let a' = code_labelled n marked a at_a in
          let third' = code_labelled n marked third (at_a + code_points a) in
          joined (kept_steps (steps_labelled n steps) 0 []) (kept_steps steps 0 []) (kept_code third' ++ kept_code a') (kept_code third ++ kept_code a) (steps_kept steps 0 [])
          (joined (kept_code third') (kept_code third) (kept_code a') (kept_code a) (code_kept third (at_a + code_points a)) (code_kept a at_a))
      code_kept (repeat line a steps test) here =
          joined (kept_code (code_labelled n marked a (suc here))) (kept_code a) (kept_steps (steps_labelled n steps) 0 []) (kept_steps steps 0 []) (code_kept a (suc here)) (steps_kept steps 0 [])
      code_kept (break line) here = refl
      code_kept (continue line) here = refl

      codes_kept : (c : Codes) (here : ℕ) → kept_codes (codes_labelled n marked c here) ≡ kept_codes c
      codes_kept done here = refl
      codes_kept (then c rest) here =
          joined (kept_code (code_labelled n marked c here)) (kept_code c) (kept_codes (codes_labelled n marked rest (here + code_points c))) (kept_codes rest) (code_kept c here) (codes_kept rest (here + code_points c))

    -- so the locals that keep them are the same
    pub slots_same : (f : Routine) → slots_of (routine_labelled n marked f) ≡ slots_of f
    slots_same f = ap (λ kept. record { types = map (λ (e : Kept). wide e.ty) (once same_kept kept); slot = λ h ty. length f.locals + place_in same_kept (once same_kept kept) (kept_at h ty) }) (code_kept f.body 1)

    pub all_locals_same : (f : Routine) → all_locals (routine_labelled n marked f) ≡ all_locals f
    all_locals_same f = ap (λ (s : Slots). f.locals ++ s.types) (slots_same f)
