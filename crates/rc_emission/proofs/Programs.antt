-- The stack code of a typed program means what the program means.
use Rattle.std.proofs.Common.{◌≡◌, ℕ, List, Option, Some, None, refl, sym, ap, ◌∙◌, subst}
use Rattle.std.specs.Prelude.{slice_get, false}
use Rattle.std.specs.Option.{option_map}
use Rattle.std.proofs.lemmas.Option.{slice_get-map}
use Rattle.rc_base.specs.declared.ends.Limits.{Limits}
use Rattle.rc_core.specs.Programs.{Function, Program}
use Rattle.rc_core.specs.Source.{source}
use Rattle.rc_core.specs.Meaning.{first_world, meaning_of_run, left_by_run}
use Rattle.rc_core.specs.WellTyped.{IsWellTyped}
use Rattle.rc_rlang.specs.RegionCode.{Routine}
use Rattle.rc_rlang.specs.RegionFits.{CodeFits}
use Rattle.rc_rlang.specs.RegionRuns.{run_main}
use Rattle.rc_translation.specs.Translation.{routine_of, region_of_program}
use Rattle.rc_translation.proofs.StatementFitting.{statement_fits}
use Rattle.rc_translation.proofs.Theorem.{region_code_means}
use Rattle.rc_emission.specs.Served.{CodeNames}
use Rattle.rc_emission.specs.Means.{IsOrdered}
use Rattle.rc_emission.specs.ProgramsMean.{stack_run, ProgramMeansTheSame, ProgramLeavesTheSame}
use Rattle.rc_emission.proofs.Naming.{statement_names}
use Rattle.rc_emission.proofs.SourceTurns.{source_turns}
use Rattle.rc_emission.proofs.Theorem.{means}

module _ (program : Program) (well : IsWellTyped program) where
  pub ordered : IsOrdered (region_of_program program)
  ordered k f there = by (slice_get program.functions k) refl (sym (slice_get-map (routine_of program) program.functions k) ∙ there)
    where
      by : (o : Option Function) → slice_get program.functions k ≡ o → option_map (routine_of program) o ≡ Some f → CodeFits f.body × CodeNames f.locals f.body
      by None e is = absurd (cc is)
      by (Some g) e is =
          let typed = (well.functions k g e).body in
          subst (λ r. CodeFits r.body × CodeNames r.locals r.body) (inner (routine_of program g) f is) (statement_fits program g false g.body typed, statement_names program g false g.body typed)
        where
          inner : (a b : Routine) → Some a ≡ Some b → a ≡ b
          inner a b e = cc

  same_run : (input : List ℕ) (limits : Limits) → stack_run program input limits ≡ run_main source (region_of_program program) (first_world program input limits)
  same_run input limits = means source source_turns (region_of_program program) ordered (first_world program input limits)

  pub program_means : ProgramMeansTheSame program
  program_means input limits bytes = ap (meaning_of_run input) (same_run input limits) ∙ (region_code_means program well input limits bytes).0

  pub program_leaves : ProgramLeavesTheSame program
  program_leaves input limits bytes = ap left_by_run (same_run input limits) ∙ (region_code_means program well input limits bytes).1
