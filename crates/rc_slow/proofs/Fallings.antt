-- Each step, and what is done outside behind it, leaves less to do.
use Rattle.std.proofs.Common.{arith, ◌≡◌, ◌<◌, ◌≤◌, ◌⊎◌, ◌∙◌, inl, inr, ℕ, sym, subst}
use Rattle.rc_base.specs.declared.ends.Limits.{Limits}
use Rattle.rc_core.specs.Programs.{Program}
use Rattle.rc_slow.specs.declared.machine.Machine.{Machine as CodeMachine}
use Rattle.rc_slow.specs.declared.machine.Progress.{Progress as CodeProgress}
use Rattle.rc_slow.specs.declared.machine.Progress.TheVariants.{Onward as OnwardProgress, Ended as EndedProgress, Asks, Writes}
use Rattle.rc_slow.specs.declared.outside.Next.{Next as CodeNext}
use Rattle.rc_slow.specs.Advancing.{LeadsTo, standing, state_at}
use Rattle.rc_slow.specs.Falling.{Lessens}
use Rattle.rc_slow.specs.Performing.{Follows}
use Rattle.rc_slow.specs.Size.{Falls}
use Rattle.rc_nodes.specs.Stepping.{Control}
use Rattle.rc_slow.proofs.Goings.{nowhere, step_from}
use Rattle.rc_slow.proofs.Sizes.{step_falls}

module _ (program : Program) (limits : Limits) (control : Control) (m m1 : CodeMachine) where
  falls : Falls (state_at control m) (standing limits m nowhere) (step_from program limits control m nowhere)
  falls = step_falls program (state_at control m) (standing limits m nowhere)

  pub lessens : (p : CodeProgress) (next : CodeNext) → LeadsTo limits p m1 nowhere (step_from program limits control m nowhere) → Follows p next → Lessens control m next m1
  lessens (OnwardProgress c) next leads is = subst (λ n. Lessens control m n m1) (sym is) (subst (Falls (state_at control m) (standing limits m nowhere)) leads falls)
  lessens (EndedProgress value) next leads is = subst (λ n. Lessens control m n m1) (sym is) tt
  lessens Asks next leads is = subst (λ n. Lessens control m n m1) (sym is.1) (subst (Falls (state_at control m) (standing limits m nowhere)) leads falls)
  lessens (Writes byte) next leads is = subst (λ n. Lessens control m n m1) (sym is) (subst (Falls (state_at control m) (standing limits m nowhere)) leads falls)

-- behind a step that took no turn less is left to do, and as many turns
pub less_left : (turns now after size1 size : ℕ) → now ≡ turns → turns ≤ after → (after < now) ⊎ ((after ≡ now) × (size1 < size)) → size1 < size
less_left turns now after size1 size is most (inl fewer) = absurd (omega (arith, fewer, most, is))
less_left turns now after size1 size is most (inr less) = less.1

pub as_many : (turns now after size1 size : ℕ) → now ≡ turns → turns ≤ after → (after < now) ⊎ ((after ≡ now) × (size1 < size)) → after ≡ turns
as_many turns now after size1 size is most (inl fewer) = absurd (omega (arith, fewer, most, is))
as_many turns now after size1 size is most (inr less) = less.0 ∙ is
