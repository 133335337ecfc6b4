use Rattle.std.proofs.Common.{sym, ◌∙◌, subst}
use Rattle.rc_live.specs.Effects.{Tells}
use Rattle.rc_live.proofs.Doing.{same_ends}
use Rattle.rc_live.proofs.walk.head.Goals as goal

pub returns : goal.returns
returns c names before e f k old t w =
    let ends = same_ends before c.pop.new.self.items e c.in-Some.effect (sym old ∙ c.in-Some.ensures.items) in
    (c.before-2.ensures names f k (subst (λ d. Tells names d f) ends.1 t) w, sym ends.0)
