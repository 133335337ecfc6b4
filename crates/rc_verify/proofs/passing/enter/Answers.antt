use Rattle.std.proofs.Common.{◌≡◌, ◌∙◌, ◌↔◌, ℕ, IsTrue, List, true, refl, sym, subst}
use Rattle.std.specs.Prelude.{MatchBool}
use Rattle.std.specs.List.{All}
use Rattle.rc_facts.specs.declared.fact.Fact.{Fact}
use Rattle.rc_facts.specs.Derivable.{Derivable}
use Rattle.rc_facts.specs.Facts.{holds, is_over}
use Rattle.rc_sealed.specs.ImageVariables.{scratch}
use Rattle.rc_crossing.specs.Fitting.{lacks}
use Rattle.rc_carrying.specs.Passing.{listed}
use Rattle.rc_carrying.proofs.Visits.{over_next}
use Rattle.rc_image_steps.specs.Sites.{function_in, image_of}
use Rattle.rc_verify.specs.Passes.{count, Taken}
use Rattle.rc_verify.proofs.Entering.{FirstFrame, begins_over, chosen, first_over, unframed}
use Rattle.rc_verify.proofs.passing.enter.Goals as goal

pub restart-requires-clause-over : goal.restart-requires-clause-over
restart-requires-clause-over c =
    let P = c.args.pass.now in
    let facts = c.in_ok-facts.facts.items in
    subst (λ (fs : List Fact). All (λ p. IsTrue (is_over c.args.set.now.variables p)) fs) (sym c.as_slice.ensures.value)
    (subst (λ (m : ℕ). All (λ p. IsTrue (is_over m p)) facts) (sym c.requires.variables) (over_next (count P) (scratch (image_of P.site) (function_in P.site)) facts refl (begins_over P c.requires.pass facts c.in_ok-facts.ensures)))

pub returns-in-None : goal.returns-in-None
returns-in-None c =
    let P = c.args.pass.now in
    let facts = c.in_ok-facts.facts.items in
    let closed = subst (λ (m : ℕ). (p : Fact) → IsTrue (holds c.restart.new.set p) ↔ Derivable m (listed facts) p) c.requires.variables
    (subst (λ (fs : List Fact). (p : Fact) → IsTrue (holds c.restart.new.set p) ↔ Derivable c.args.set.now.variables (listed fs) p) c.as_slice.ensures.value c.restart.ensures.facts) in
    unframed P c.requires.pass facts c.in_ok-facts.ensures c.restart.new.set closed (c.restart.ensures.variables ∙ c.requires.variables) (subst (FirstFrame P c.requires.pass) c.in-None.is c.in_ok-first.ensures)

pub take_frame-requires-clause-over : goal.take_frame-requires-clause-over
take_frame-requires-clause-over c =
    let P = c.args.pass.now in
    let facts = c.in_ok-facts.facts.items in
    let frame = c.in-Some.frame.items in
    let given = subst (FirstFrame P c.requires.pass) c.in-Some.is c.in_ok-first.ensures in
    let closed = subst (λ (m : ℕ). (p : Fact) → IsTrue (holds c.restart.new.set p) ↔ Derivable m (listed facts) p) c.requires.variables
    (subst (λ (fs : List Fact). (p : Fact) → IsTrue (holds c.restart.new.set p) ↔ Derivable c.args.set.now.variables (listed fs) p) c.as_slice.ensures.value c.restart.ensures.facts) in
    subst (λ (fs : List Fact). All (λ p. IsTrue (is_over c.restart.new.set.variables p)) fs) (sym c.as_slice-in-Some.ensures.value)
    (subst (λ (m : ℕ). All (λ p. IsTrue (is_over m p)) frame) (sym (c.restart.ensures.variables ∙ c.requires.variables))
    (over_next (count P) (scratch (image_of P.site) (function_in P.site)) frame refl (first_over P c.requires.pass facts c.in_ok-facts.ensures c.restart.new.set closed frame given.0 given.1)))

pub returns : goal.returns
returns c =
    let P = c.args.pass.now in
    let facts = c.in_ok-facts.facts.items in
    let frame = c.in-Some.frame.items in
    let given = subst (FirstFrame P c.requires.pass) c.in-Some.is c.in_ok-first.ensures in
    let closed = subst (λ (m : ℕ). (p : Fact) → IsTrue (holds c.restart.new.set p) ↔ Derivable m (listed facts) p) c.requires.variables
    (subst (λ (fs : List Fact). (p : Fact) → IsTrue (holds c.restart.new.set p) ↔ Derivable c.args.set.now.variables (listed fs) p) c.as_slice.ensures.value c.restart.ensures.facts) in
    chosen P c.requires.pass facts c.in_ok-facts.ensures c.restart.new.set closed frame given.0 given.1 c.take_frame.result c.take_frame.new.set (c.take_frame.ensures.variables ∙ c.restart.ensures.variables ∙ c.requires.variables)
    (subst (λ (fs : List Fact). MatchBool c.take_frame.result (Taken (holds c.restart.new.set) fs c.take_frame.new.set) (lacks (holds c.restart.new.set) fs ≡ true)) c.as_slice-in-Some.ensures.value c.take_frame.ensures.told)
