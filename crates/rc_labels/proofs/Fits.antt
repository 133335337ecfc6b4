-- Labels change nothing of the order of temporaries, of the locals that are named and set, and of how types agree.
use Rattle.std.proofs.Common.{◌≡◌, ℕ, suc, ◌+◌, Bool, List, [], ◌∷◌, Option, Some, None, refl, sym, ap, ◌∙◌, subst}
use Rattle.std.specs.Option.{option_map}
use Rattle.rc_core.specs.Types.{Ty}
use Rattle.rc_rlang.specs.RegionCode.{Step, set, fork, Steps, none, more, Act, drop, perform, assign, store, update, move, delete, leave, Test, Code, simple, clear, block, branch, loop, repeat, break, continue, Codes, done, then}
use Rattle.rc_rlang.specs.RegionPoints.{steps_points, branch_points, code_points}
use Rattle.rc_rlang.specs.RegionFits.{step_types, steps_types, StepFits, StepsFit, ActFits, test_types, CodeFits, CodesFit}
use Rattle.rc_rlang.specs.RegionKinds.{StepKinded, StepsKinded, ActKinded, CodeKinded, CodesKinded}
use Rattle.rc_emission.specs.Served.{StepNames, StepsName, CodeNames, CodesName}
use Rattle.rc_stack_rules.specs.Named.{ActSets, CodeSets, CodesSet}
use Rattle.rc_labels.specs.Labels.{Numbering}
use Rattle.rc_labels.specs.Labelled.{step_labelled, steps_labelled, test_labelled, act_labelled, code_labelled, codes_labelled}

module _ (n : Numbering) where
  pub step_types_same : (s : Step) (tys : List Ty) → step_types (step_labelled n s) tys ≡ step_types s tys
  step_types_same (set line h ty op) tys = refl
  step_types_same (fork line h test result a b) [] = refl
  step_types_same (fork line h test result a b) (ty ∷ below) = refl

  pub steps_types_same : (x : Steps) (tys : List Ty) → steps_types (steps_labelled n x) tys ≡ steps_types x tys
  steps_types_same none tys = refl
  steps_types_same (more s rest) tys = ap (steps_types (steps_labelled n rest)) (step_types_same s tys) ∙ steps_types_same rest (step_types s tys)

  mutual
    step_fits : (s : Step) (base : ℕ) (tys : List Ty) → StepFits s base tys → StepFits (step_labelled n s) base tys
    step_fits (set line h ty op) base tys fits = fits
    step_fits (fork line h test result a b) base [] fits = fits
    step_fits (fork line h test result a b) base (ty ∷ below) fits =
        (fits.0, fits.1, steps_fit a h [] fits.2, steps_types_same a [] ∙ fits.3, steps_fit b h [] fits.4, steps_types_same b [] ∙ fits.5)

    steps_fit : (x : Steps) (base : ℕ) (tys : List Ty) → StepsFit x base tys → StepsFit (steps_labelled n x) base tys
    steps_fit none base tys fits = fits
    steps_fit (more s rest) base tys fits = (step_fits s base tys fits.0, subst (λ after. StepsFit (steps_labelled n rest) base after) (sym (step_types_same s tys)) (steps_fit rest base (step_types s tys) fits.1))

  test_types_same : (test : Option Test) → test_types (option_map (test_labelled n) test) ≡ test_types test
  test_types_same None = refl
  test_types_same (Some test) = refl

  module _ (locals : List Ty) where
    mutual
      step_names : (s : Step) → StepNames locals s → StepNames locals (step_labelled n s)
      step_names (set line h ty op) there = there
      step_names (fork line h test result a b) there = (steps_name a there.0, steps_name b there.1)

      steps_name : (x : Steps) → StepsName locals x → StepsName locals (steps_labelled n x)
      steps_name none there = there
      steps_name (more s rest) there = (step_names s there.0, steps_name rest there.1)

    module _ (global_ty result_ty : ℕ → Ty) where
      mutual
        step_kinded : (s : Step) → StepKinded locals global_ty result_ty s → StepKinded locals global_ty result_ty (step_labelled n s)
        step_kinded (set line h ty op) agree = agree
        step_kinded (fork line h test result a b) agree = (steps_kinded a agree.0, steps_kinded b agree.1)

        steps_kinded : (x : Steps) → StepsKinded locals global_ty result_ty x → StepsKinded locals global_ty result_ty (steps_labelled n x)
        steps_kinded none agree = agree
        steps_kinded (more s rest) agree = (step_kinded s agree.0, steps_kinded rest agree.1)

  module _ (marked : (point : ℕ) → Bool) where
    act_fits : (act : Act) (here : ℕ) (tys : List Ty) → ActFits act tys → ActFits (act_labelled n marked act here) tys
    act_fits drop here tys fits = fits
    act_fits (perform line f given) here tys fits = fits
    act_fits (assign line x ty) here tys fits = fits
    act_fits (store line a) here tys fits = fits
    act_fits (update line a change ty) here tys fits = fits
    act_fits (move line cells left right) here tys fits = fits
    act_fits (delete line) here tys fits = fits
    act_fits (leave line None) here tys fits = fits
    act_fits (leave line (Some ty)) here tys fits = fits

    mutual
      pub code_fits : (c : Code) (here : ℕ) → CodeFits c → CodeFits (code_labelled n marked c here)
      code_fits (simple steps act) here fits =
          let at_act = here + steps_points steps in
          (steps_fit steps 0 [] fits.0, subst (λ tys. ActFits (act_labelled n marked act at_act) tys) (sym (steps_types_same steps [])) (act_fits act at_act (steps_types steps []) fits.1))
      code_fits (clear line x ty) here fits = fits
      code_fits (block codes) here fits = codes_fit codes here fits
      code_fits (branch steps test a b) here fits =
          let at_a = suc (here + steps_points steps) in
          (steps_fit steps 0 [] fits.0, steps_types_same steps [] ∙ fits.1, code_fits a at_a fits.2, code_fits b (at_a + code_points a) fits.3)
      code_fits (loop line steps test third a) here fits =
          let at_a = suc here + steps_points steps + branch_points test in
          (steps_fit steps 0 [] fits.0, steps_types_same steps [] ∙ fits.1 ∙ sym (test_types_same test), code_fits third (at_a + code_points a) fits.2, code_fits a at_a fits.3)
      code_fits (repeat line a steps test) here fits = (code_fits a (suc here) fits.0, steps_fit steps 0 [] fits.1, steps_types_same steps [] ∙ fits.2)
      code_fits (break line) here fits = fits
      code_fits (continue line) here fits = fits

      codes_fit : (c : Codes) (here : ℕ) → CodesFit c → CodesFit (codes_labelled n marked c here)
      codes_fit done here fits = fits
      codes_fit (then c rest) here fits = (code_fits c here fits.0, codes_fit rest (here + code_points c) fits.1)

    module _ (locals : List Ty) where
      mutual
        pub code_names : (c : Code) (here : ℕ) → CodeNames locals c → CodeNames locals (code_labelled n marked c here)
        code_names (simple steps act) here there = steps_name locals steps there
        code_names (clear line x ty) here there = there
        code_names (block codes) here there = codes_name codes here there
        code_names (branch steps test a b) here there =
            let at_a = suc (here + steps_points steps) in
            (steps_name locals steps there.0, code_names a at_a there.1, code_names b (at_a + code_points a) there.2)
        code_names (loop line steps test third a) here there =
            let at_a = suc here + steps_points steps + branch_points test in
            (steps_name locals steps there.0, code_names third (at_a + code_points a) there.1, code_names a at_a there.2)
        code_names (repeat line a steps test) here there = (code_names a (suc here) there.0, steps_name locals steps there.1)
        code_names (break line) here there = there
        code_names (continue line) here there = there

        codes_name : (c : Codes) (here : ℕ) → CodesName locals c → CodesName locals (codes_labelled n marked c here)
        codes_name done here there = there
        codes_name (then c rest) here there = (code_names c here there.0, codes_name rest (here + code_points c) there.1)

      act_sets : (act : Act) (here : ℕ) → ActSets locals act → ActSets locals (act_labelled n marked act here)
      act_sets drop here there = there
      act_sets (perform line f given) here there = there
      act_sets (assign line x ty) here there = there
      act_sets (store line a) here there = there
      act_sets (update line a change ty) here there = there
      act_sets (move line cells left right) here there = there
      act_sets (delete line) here there = there
      act_sets (leave line result) here there = there

      mutual
        pub code_sets : (c : Code) (here : ℕ) → CodeSets locals c → CodeSets locals (code_labelled n marked c here)
        code_sets (simple steps act) here there = act_sets act (here + steps_points steps) there
        code_sets (clear line x ty) here there = there
        code_sets (block codes) here there = codes_set codes here there
        code_sets (branch steps test a b) here there =
            let at_a = suc (here + steps_points steps) in
            (code_sets a at_a there.0, code_sets b (at_a + code_points a) there.1)
        code_sets (loop line steps test third a) here there =
            let at_a = suc here + steps_points steps + branch_points test in
            (code_sets third (at_a + code_points a) there.0, code_sets a at_a there.1)
        code_sets (repeat line a steps test) here there = code_sets a (suc here) there
        code_sets (break line) here there = there
        code_sets (continue line) here there = there

        codes_set : (c : Codes) (here : ℕ) → CodesSet locals c → CodesSet locals (codes_labelled n marked c here)
        codes_set done here there = there
        codes_set (then c rest) here there = (code_sets c here there.0, codes_set rest (here + code_points c) there.1)

      module _ (global_ty result_ty : ℕ → Ty) where
        act_kinded : (act : Act) (here : ℕ) → ActKinded locals global_ty result_ty act → ActKinded locals global_ty result_ty (act_labelled n marked act here)
        act_kinded drop here agree = agree
        act_kinded (perform line f given) here agree = agree
        act_kinded (assign line x ty) here agree = agree
        act_kinded (store line a) here agree = agree
        act_kinded (update line a change ty) here agree = agree
        act_kinded (move line cells left right) here agree = agree
        act_kinded (delete line) here agree = agree
        act_kinded (leave line result) here agree = agree

        mutual
          pub code_kinded : (c : Code) (here : ℕ) → CodeKinded locals global_ty result_ty c → CodeKinded locals global_ty result_ty (code_labelled n marked c here)
          code_kinded (simple steps act) here agree = (steps_kinded locals global_ty result_ty steps agree.0, act_kinded act (here + steps_points steps) agree.1)
          code_kinded (clear line x ty) here agree = agree
          code_kinded (block codes) here agree = codes_kinded codes here agree
          code_kinded (branch steps test a b) here agree =
              let at_a = suc (here + steps_points steps) in
              (steps_kinded locals global_ty result_ty steps agree.0, code_kinded a at_a agree.1, code_kinded b (at_a + code_points a) agree.2)
          code_kinded (loop line steps test third a) here agree =
              let at_a = suc here + steps_points steps + branch_points test in
              (steps_kinded locals global_ty result_ty steps agree.0, code_kinded third (at_a + code_points a) agree.1, code_kinded a at_a agree.2)
          code_kinded (repeat line a steps test) here agree = (code_kinded a (suc here) agree.0, steps_kinded locals global_ty result_ty steps agree.1)
          code_kinded (break line) here agree = agree
          code_kinded (continue line) here agree = agree

          codes_kinded : (c : Codes) (here : ℕ) → CodesKinded locals global_ty result_ty c → CodesKinded locals global_ty result_ty (codes_labelled n marked c here)
          codes_kinded done here agree = agree
          codes_kinded (then c rest) here agree = (code_kinded c here agree.0, codes_kinded rest (here + code_points c) agree.1)
