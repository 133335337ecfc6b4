-- Why a call on the outside may fail. Each object of the outside counts its faults.
use Rattle.std.specs.Prelude.{◌<◌, ◌≤◌, ◌≡◌, ◌⊎◌, ℕ, Result, IsOk, IsErr}
use Rattle.rc_base.specs.declared.outside.Failed.{Failed}

-- a count rose in a call: it is greater after the call, or it stands at its last value
abbrev pub Rose : ℕ → ℕ → Type 0
Rose before after = (before < after) ⊎ (after ≡ 18446744073709551615)

-- a call fails only where the count rose in it, and else leaves the count
pub record HasCause {T : Type 0} (before after : ℕ) (result : Result T Failed) : Type 0 where
  pub never_falls : before ≤ after
  pub failed : IsErr result → Rose before after
  pub kept : IsOk result → after ≡ before
