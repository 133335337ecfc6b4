use Rattle.std.proofs.Common.{◌∙◌, IsTrue, ap}
use Rattle.rc_claims.specs.declared.proofs.Known.{Known}
use Rattle.rc_claims.specs.Claims.{known_at}
use Rattle.rc_image_claims.specs.Naming.{is_listed}
use Rattle.rc_image_steps.proofs.Framed.{entry_added}
use Rattle.rc_image_steps.proofs.Pairs.{begins_told}
use Rattle.rc_image_steps.proofs.beginning.begins.Goals as goal

pub returns : goal.returns
returns c =
    let site = c.args.site.now in
    begins_told site c.args.proofs.now c.new-facts.result.items c.add_claims.new.out.items c.add_pairs.new.out.items site.shape.now.copies c.requires.site.shape.copies c.new-facts.ensures.items
    (entry_added (λ p. IsTrue (is_listed c.add_claims.new.out.items p)) (λ p. IsTrue (is_listed c.new-facts.result.items p)) site.shape.now.copies c.as_slice-2.result.now c.in_ok-names.names.items c.as_slice.result.now (known_at c.args.proofs.now site.number).entry
    c.as_slice-2.ensures.value (c.as_slice.ensures ∙ ap (λ (k : Known). k.entry) c.known_of-known.ensures) c.in_ok-names.ensures.long c.in_ok-names.ensures.each c.in_ok-add_claims.ensures)
    c.in_ok-add_pairs.ensures
