-- What a source of bytes shows, and what asking it for a byte does.
use Rattle.std.specs.Prelude.{◌≡◌, ◌↔◌, ◌⊎◌, ℕ, Bool, List, [], ◌++◌, Option, None, Result, Ok, IfOk, OnErr, IsTrue, IsNone}
use Rattle.std.specs.Option.{option_to_list}
use Rattle.rc_base.specs.Causes.{HasCause}
use Rattle.rc_base.specs.declared.outside.Failed.{Failed}

-- whether it tells its bytes, those that are left where it does, whether it has ended, and its faults
pub record SourceState : Type 0 where
  pub tells : Bool
  pub rest : List ℕ
  pub ended : Bool
  pub faults : ℕ

pub record Nexts (before after : SourceState) (result : Result (Option ℕ) Failed) : Type 0 where
  pub tells : after.tells ≡ before.tells
  -- the byte was the first of those that were left
  pub byte : IsTrue before.tells → IfOk result (λ byte. before.rest ≡ option_to_list byte ++ after.rest)
  pub none : IsTrue before.tells → IfOk result (λ byte. IsNone byte → before.rest ≡ [])
  pub failed : IsTrue before.tells → OnErr result (after.rest ≡ before.rest)
  -- it has ended once it answered that there is none, and then answers no byte any more
  pub ended : IsTrue after.ended ↔ (IsTrue before.ended ⊎ (result ≡ Ok None))
  pub silent : IsTrue before.ended → IfOk result IsNone
  pub cause : HasCause before.faults after.faults result
