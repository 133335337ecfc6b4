use Rattle.std.proofs.Common.{◌≡◌, ℕ, true, arith}
use Rattle.std.specs.Prelude.{slice_get, Some}
use Rattle.std.proofs.lemmas.Option.{slice_get_within}
use Rattle.rc_base.specs.BitSets.{marks}
use Rattle.rc_live.proofs.Told.{full_at, setting_told}
use Rattle.rc_live.proofs.effects.Effect.setting.Goals as goal

pub returns : goal.returns
returns c bit x k at =
    let all : (j y : ℕ) → slice_get c.args.names.now j ≡ Some y → marks c.below.result j ≡ true = λ j y there. let here = slice_get_within c.args.names.now j y there in let short = c.requires.short in full_at c.below.result j c.below.ensures (omega (arith, here, short)) in
    setting_told _ c.empty.ensures c.empty-2.ensures c.empty-3.ensures bit x c.args.local (k.next x) (k.broken x) (k.continued x) (c.without.ensures (λ y. true) all bit x at)
