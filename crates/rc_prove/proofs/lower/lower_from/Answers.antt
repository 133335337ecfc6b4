use Rattle.std.proofs.Common.{◌≡◌, ◌∙◌, ◌↔◌, ◌+◌, suc, IsTrue, refl, subst, arith}
use Rattle.rc_facts.specs.Derivable.{Derivable}
use Rattle.rc_facts.specs.Facts.{holds}
use Rattle.rc_facts.specs.Flow.{set_at}
use Rattle.rc_prove.specs.Visiting.{sets_of, WentThrough}
use Rattle.rc_prove.specs.Lowering.{Lessens, LooksFrom}
use Rattle.rc_prove.proofs.Anew.{anew_ready}
use Rattle.rc_prove.proofs.Families.{if_ok}
use Rattle.rc_prove.proofs.Targets.{lessens_from}
use Rattle.rc_prove.proofs.lower.lower_from.Goals as goal

two : (n : _) → n + 2 ≡ suc (suc n)
two n = omega arith

pub pass-requires-clause-ready : goal.pass-requires-clause-ready
pass-requires-clause-ready c = anew_ready (suc (suc c.args.place.result)) (suc c.args.place.result) (set_at c.args.frames.now c.args.target) (holds c.resume.new.work) refl (c.requires.place.frames c.args.target)
    (λ fact. subst (λ n. IsTrue (holds c.resume.new.work fact) ↔ Derivable n (set_at c.args.frames.now c.args.target) fact) (c.in_ok-work.ensures.variables ∙ two c.args.place.result) (c.resume.ensures.whole c.args.target refl fact))

pub returns : goal.returns
returns c =
    let old = sets_of c.args.entries.now c.args.exits.now c.args.frames.now in
    let new = sets_of c.pass.new.entries c.pass.new.exits c.pass.new.frames in
    if_ok c.pass.result (λ losses. WentThrough c.args.place c.args.spots.now old new c.resume.new.work c.pass.new.work losses.lost) (λ losses. Lessens c.args.place (λ image. LooksFrom image c.args.place c.args.spots.now c.args.target old) old new losses.lost)
    (λ losses went. lessens_from c.args.place c.args.spots.now c.args.target old new c.resume.new.work c.pass.new.work losses.lost
    (λ fact. subst (λ n. IsTrue (holds c.resume.new.work fact) ↔ Derivable n (set_at c.args.frames.now c.args.target) fact) (c.in_ok-work.ensures.variables ∙ two c.args.place.result) (c.resume.ensures.whole c.args.target refl fact)) went)
    c.pass.ensures
