-- The keys of operands that are kept.
use Rattle.std.specs.Prelude.{ℕ, List}
use Rattle.rc_emission.specs.KeptOperands.{Kept}
use Rattle.rc_lines.specs.Keys.{kept_key}

abbrev pub key_of : Kept → List ℕ
key_of k = kept_key k.height k.ty
