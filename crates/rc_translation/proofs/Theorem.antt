-- The region code of a program means what the program means, on every input of bytes.
use Rattle.std.proofs.Common.{◌≡◌, ◌≢◌, inl, inr, ℕ, List, [], Option, Some, None, refl, sym, ap, ◌∙◌, subst, take}
use Rattle.std.specs.List.{AllByRecursion as Every}
use Rattle.rc_base.specs.declared.ends.Limits.{Limits}
use Rattle.rc_core.specs.Types.{Ty}
use Rattle.rc_core.specs.Programs.{Function, Program}
use Rattle.rc_core.specs.Heap.{Value}
use Rattle.rc_core.specs.Runs.{Stop, Ends, Stale, Run, Go, Stopped}
use Rattle.rc_core.specs.Source.{World, source}
use Rattle.rc_core.specs.Typing.{parameters_of}
use Rattle.rc_core.specs.WellTyped.{IsWellTyped}
use Rattle.rc_core.specs.Meaning.{first_world, run_of, meaning_of_run, meaning, left_by_run, left}
use Rattle.rc_safety.proofs.Never.{never_touches_deleted}
use Rattle.rc_translation.proofs.Copying.{AllButHeap, copies_meet}
use Rattle.rc_kinds.specs.Suits as K
use Rattle.rc_kinds.specs.Suits.{first_ledger, Known}
use Rattle.rc_core.specs.Numbers.{IsByte}
use Rattle.rc_kinds.proofs.First.{first_world_suits}
use Rattle.rc_rlang.specs.RegionRuns as R
use Rattle.rc_rlang.specs.RegionRuns.{code_run}
use Rattle.rc_translation.specs.Translation.{parameter_types, region_of_program}
use Rattle.rc_translation.proofs.Sames.{IsStale, Same}
use Rattle.rc_translation.proofs.ValueKinds.{AllSuit}
use Rattle.rc_translation.proofs.Statements.{Equal}
use Rattle.rc_translation.proofs.Whole.{region_is_source}
use Rattle.rc_translation.proofs.Instance.{Good, sound_program}
use Rattle.rc_translation.proofs.Updates.{updates_meet}

abbrev types_in : Option Function → List Ty
types_in None = []
types_in (Some g) = parameters_of g

dead : (stop : Stop) (w : World) → IsStale stop → ((line : ℕ) → (meaning_of_run [] (Stopped stop w)).end ≢ Stale line) → ⊥
dead (Ends end) w stale never = stale
dead (Stale line) w stale never = never line refl

module _ (input : List ℕ) where
  -- what is seen of a run: its meaning, and what it leaves
  seen : (m m' : Run World Value) → ((line : ℕ) → (meaning_of_run input m).end ≢ Stale line) → Same AllButHeap Equal m m' → (meaning_of_run input m' ≡ meaning_of_run input m) × (left_by_run m' ≡ left_by_run m)
  seen (Go v w) (Go u w1) never s = (ap (λ x. meaning_of_run input (Go x w1)) (sym s.1) ∙ ap (λ x. meaning_of_run input (Go v x)) (sym s.0), ap (λ x. left_by_run (Go v x)) (sym s.0))
  seen (Go v w) (Stopped stop w1) never s = absurd s
  seen (Stopped stop w) (Go u w1) never (inl stale) = absurd (dead stop w stale never)
  seen (Stopped stop w) (Go u w1) never (inr s) = absurd s
  seen (Stopped stop w) (Stopped stop1 w1) never (inl stale) = absurd (dead stop w stale never)
  seen (Stopped stop w) (Stopped stop1 w1) never (inr s) =
      (ap (λ x. meaning_of_run input (Stopped stop1 x)) s.1 ∙ ap (λ x. meaning_of_run input (Stopped x w)) (sym s.0), refl)

module _ (program : Program) (well : IsWellTyped program) where
  no_parameters : parameter_types program program.main ≡ []
  no_parameters = let m = well.main in ap types_in m.1.0 ∙ ap (λ n. take n m.0.locals) m.1.1

  same_runs : (input : List ℕ) (limits : Limits) → Every IsByte input → Same AllButHeap Equal (run_of program input limits) (R.run_main source (region_of_program program) (first_world program input limits))
  same_runs input limits bytes =
      region_is_source AllButHeap (λ w. refl) source program (Known program) (Good program) (sound_program program well)
      (λ j f there n calls' called loop line place change e ht hp k env t w good. updates_meet AllButHeap (λ w. refl) program well j f there n calls' called loop line place change e ht hp k env t w good)
      (λ j f there n calls' called loop line s left right ht hp k env t w good. copies_meet program well j f there n calls' called loop line s left right ht hp k env t w good)
      (first_world program input limits)
      (record { ledger = first_ledger program; world = first_world_suits program input limits well bytes; suit = subst (λ tys. K.AllSuit (first_ledger program) tys []) (sym no_parameters) tt })
      (subst (λ tys. AllSuit tys []) (sym no_parameters) tt)

  -- the region code of a program means what the program means, and leaves what it leaves
  pub region_code_means : (input : List ℕ) (limits : Limits) → Every IsByte input →
      (meaning_of_run input (R.run_main source (region_of_program program) (first_world program input limits)) ≡ meaning program input limits)
      × (left_by_run (R.run_main source (region_of_program program) (first_world program input limits)) ≡ left program input limits)
  region_code_means input limits bytes = seen input (run_of program input limits) (R.run_main source (region_of_program program) (first_world program input limits)) (never_touches_deleted program input limits well.deleting) (same_runs input limits bytes)
