-- A whole run, from where `main` begins.
use Rattle.std.proofs.Common.{◌≡◌, ℕ, zero, suc, true, false, [], map, Some, refl, sym, ap, ◌∙◌, subst, take, arith}
use Rattle.std.specs.Prelude.{slice_get, option_map}
use Rattle.std.proofs.lemmas.Option.{slice_get-map}
use Rattle.rc_core.specs.Programs.{Program}
use Rattle.rc_core.specs.WellTyped.{IsWellTyped}
use Rattle.rc_core.specs.Meaning.{first_world}
use Rattle.rc_kinds.specs.Suits.{first_ledger, AllSuit}
use Rattle.rc_kinds.proofs.First.{first_world_suits}
use Rattle.rc_translation.specs.Translation.{routine_of, region_of_program}
use Rattle.rc_along.specs.Along.{given_to}
use Rattle.rc_checks.proofs.Typed.{calls_hold}
use Rattle.rc_checks.specs.Laws.{RunsMeet, RemovedChecksNeverFail, FactsHold}
use Rattle.rc_checks.proofs.Rights.{all_right}
use Rattle.rc_core.specs.Heap.{Null, parent, first_heap}
use Rattle.rc_safety.proofs.First.{first_is_sound}
use Rattle.rc_rlang.specs.RegionCode.{Routine, Rlang}
use Rattle.rc_rlang.specs.RegionFlow.{is_regional}
use Rattle.rc_annotations.specs.Heights.{temporaries_of}
use Rattle.rc_annotations.specs.Holding.{Rooted}
use Rattle.rc_annotations.specs.Variables.{picked, past}
use Rattle.rc_annotations.specs.Worlds.{Made}
use Rattle.rc_annotations.proofs.Unions.{one_proves_all}
use Rattle.rc_along.proofs.Along.{marked_calls_same}
use Rattle.rc_along.proofs.Coming.{facts_hold_whenever}

pub runs_meet : (program : Program) → IsWellTyped program → RunsMeet program
runs_meet program well input limits bytes m =
    (calls_hold program well m program.main well.main.0 [] (first_ledger program) (first_world program input limits) well.main.1.0
    (subst (λ k. AllSuit (first_ledger program) (take k well.main.0.locals) []) (sym well.main.1.1) tt)
    (first_world_suits program input limits well bytes)).0

-- the first heap has region 0 alone
first_rooted : (program : Program) → Rooted (parent (first_heap program))
first_rooted program zero apart = cc
first_rooted program (suc k) apart = omega arith

module _ (program : Program) (well : IsWellTyped program) where
  abbrev r : Rlang
  r = region_of_program program

  abbrev main' : Routine
  main' = routine_of program well.main.0

  main_there : slice_get r.functions r.main ≡ Some main'
  main_there = slice_get-map (routine_of program) program.functions program.main ∙ ap (option_map (routine_of program)) well.main.1.0

  -- nothing is passed to it
  passes_nothing : (i : ℕ) → past (given_to main' []) (λ _. Null) i ≡ Null
  passes_nothing i = subst (λ m. past (picked (map is_regional (take m well.main.0.locals)) []) (λ _. Null) i ≡ Null) (sym well.main.1.1) refl

  pub removed_never_fail : RemovedChecksNeverFail program
  removed_never_fail input limits bytes marks removable put trusting =
      let w = first_world program input limits in
      let one = one_proves_all r (temporaries_of r) marks removable in
      marked_calls_same r (temporaries_of r) one.0 one.1 (all_right program well) marks one.2 put trusting (suc w.turns) r.main main' [] w main_there (sym well.main.1.1) (runs_meet program well input limits bytes (suc w.turns))
      (record { sound = first_is_sound program; rooted = first_rooted program })
      (λ i. subst (Made w.heap) (sym (passes_nothing i)) (λ p. absurd p))
      (λ fact is. absurd (false_true (sym (one.1.main fact) ∙ is)))
    where
      false_true : false ≡ true → ⊥
      false_true e = cc

  pub facts_hold : FactsHold program
  facts_hold a consistent input limits bytes function point values heap comes =
      facts_hold_whenever r (temporaries_of r) a consistent (all_right program well) (first_world program input limits) (record { sound = first_is_sound program; rooted = first_rooted program }) no_parameters (runs_meet program well input limits bytes) function point values heap comes
    where
      no_parameters : (f : Routine) → slice_get r.functions r.main ≡ Some f → f.parameters ≡ 0
      no_parameters f found = let e : main' ≡ f = some_is (sym main_there ∙ found) in ap (λ (x : Routine). x.parameters) (sym e) ∙ well.main.1.1
        where
          some_is : {x y : Routine} → Some x ≡ Some y → x ≡ y
          some_is e = cc
