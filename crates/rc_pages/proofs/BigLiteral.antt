-- A number above a byte as an operand.
use Rattle.std.proofs.Common.{ℕ, List, Fits}
use seplogic.Ra.Ura.{Ura}
use base.Logic.{via, guard_i}
use mir.Syntax.{Width, int_big}
use mir.Val.{vint}
use prog.Wp.{Env}
use types.Logic.{Logic}
use types.Kit.{Item}
use types.Run.{Opd}

module _ {M : Type 1} {𝓤 : Ura M} {𝓛 : Logic 𝓤} {K : Type 0} {Γ : List (Item 𝓤)} {E : Env 𝓤 𝓛.H} where
  pub big_lit : K → {w : Width} {n : ℕ} → Fits w n → Opd K 𝓛 Γ E (int_big w n) (vint w n)
  big_lit t {w} {n} fits = record { go = λ Kt h. via 𝓤 (Kt (vint w n)) h (guard_i 𝓤 (Fits w n) (Kt (vint w n)) fits) }
