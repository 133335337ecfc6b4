use Rattle.std.proofs.Common.{◌∙◌, ℕ, IsTrue, Vec, Global, sym, subst}
use Rattle.std.specs.Prelude.{MatchOption}
use Rattle.std.specs.List.{All}
use Rattle.rc_facts.specs.declared.fact.Fact.{Fact}
use Rattle.rc_facts.specs.Facts.{holds, is_over}
use Rattle.rc_sealed.specs.ImageVariables.{scratch}
use Rattle.rc_carrying.specs.Passing.{Visited}
use Rattle.rc_image_steps.specs.Sites.{function_in, image_of}
use Rattle.rc_verify.specs.Passes.{count}
use Rattle.rc_verify.proofs.Going.{Restarted, frame_below, goes_on, stops_here}
use Rattle.rc_verify.proofs.passing.go_on.Goals as goal

pub returns-then-not-branch : goal.returns-then-not-branch
returns-then-not-branch c =
    let P = c.args.pass.now in
    let S = scratch (image_of P.site) (function_in P.site) in
    let step = c.in_ok-step.step in
    let fits = c.in_ok-step.ensures.fits P.exits.now c.requires.pass.exits in
    let visited = subst (λ b. Visited (count P) S P.exits.now step (holds c.args.set.now) (holds c.visit.new.set) b) c.if-not-branch.true
    (subst (λ u. Visited (count P) u P.exits.now step (holds c.args.set.now) (holds c.visit.new.set) c.in_ok-visit.field-0) c.scratch_of.ensures
    (subst (λ m. Visited m c.scratch_of.result P.exits.now step (holds c.args.set.now) (holds c.visit.new.set) c.in_ok-visit.field-0) c.requires.here.same c.in_ok-visit.ensures.told)) in
    stops_here P c.requires.pass c.args.at step c.in_ok-step.ensures.stands fits c.args.set.now c.requires.here c.visit.new.set visited

pub restart_at-requires-clause-over : goal.restart_at-requires-clause-over
restart_at-requires-clause-over c =
    let P = c.args.pass.now in
    let S = scratch (image_of P.site) (function_in P.site) in
    let step = c.in_ok-step.step in
    let fits = c.in_ok-step.ensures.fits P.exits.now c.requires.pass.exits in
    subst (λ (m : ℕ). MatchOption step.frame (Unit {0}) (λ (facts : Vec Fact Global). All (λ p. IsTrue (is_over m p)) facts.items)) (sym (c.visit.ensures.variables ∙ c.requires.here.same))
    (frame_below P c.requires.pass c.args.at step c.in_ok-step.ensures.stands fits c.args.set.now c.requires.here)

pub returns : goal.returns
returns c =
    let P = c.args.pass.now in
    let S = scratch (image_of P.site) (function_in P.site) in
    let step = c.in_ok-step.step in
    let fits = c.in_ok-step.ensures.fits P.exits.now c.requires.pass.exits in
    let visited = subst (λ b. Visited (count P) S P.exits.now step (holds c.args.set.now) (holds c.visit.new.set) b) c.if-not-branch.false
    (subst (λ u. Visited (count P) u P.exits.now step (holds c.args.set.now) (holds c.visit.new.set) c.in_ok-visit.field-0) c.scratch_of.ensures
    (subst (λ m. Visited m c.scratch_of.result P.exits.now step (holds c.args.set.now) (holds c.visit.new.set) c.in_ok-visit.field-0) c.requires.here.same c.in_ok-visit.ensures.told)) in
    goes_on P c.requires.pass c.args.at step c.in_ok-step.ensures.stands fits c.args.set.now c.requires.here c.visit.new.set c.restart_at.new.set visited (c.visit.ensures.variables ∙ c.requires.here.same) c.restart_at.ensures.variables
    (subst (λ (m : ℕ). Restarted m step.frame c.visit.new.set c.restart_at.new.set) (c.visit.ensures.variables ∙ c.requires.here.same) c.restart_at.ensures.facts)
