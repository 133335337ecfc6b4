-- The table of the operands that are kept: each stands there once, and the number of its key is its place.
use Rattle.std.specs.Prelude.{◌≡◌, ℕ, List}
use Rattle.std.specs.List.{AllByRecursion as Every}
use Rattle.rc_core.specs.Types.{Ty}
use Rattle.rc_emission.specs.OperationCode.{wide}
use Rattle.rc_emission.specs.KeptOperands.{Kept, same_kept, place_in, once}
use Rattle.rc_scope.specs.Names.{number_of}
use Rattle.rc_lines.specs.Keyed.{key_of}

-- keys number all of these operands as the table of them does
abbrev pub Numbers : (keys : List (List ℕ)) → List Kept → Type 0
Numbers keys kept = Every (λ k. number_of keys (key_of k) ≡ place_in same_kept (once same_kept kept) k) kept

-- the type of the local that keeps an operand
abbrev pub wide_of : Kept → Ty
wide_of k = wide k.ty
