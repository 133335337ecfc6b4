use Rattle.std.proofs.Common.{◌≡◌, ◌∙◌, ◌⊎◌, ◌↔◌, Bool, true, IsTrue, sym, ap, subst, rules}
use Rattle.rc_claims.specs.declared.proofs.Known.{Known}
use Rattle.rc_image_claims.specs.Naming.{is_listed}
use Rattle.rc_image_steps.specs.Listing.{ExitAsked}
use Rattle.rc_image_steps.proofs.Framed.{exit_added}
use Rattle.rc_image_steps.proofs.framing.add_exit.Goals as goal

pub returns : goal.returns
returns c = λ fact.
    let so : c.args.so ≡ true = (let e = c.if-not-so.false in grind (rules, e)) in
    subst (λ (b : Bool). IsTrue (is_listed c.add_claims.new.out.items fact) ↔ (IsTrue (is_listed c.args.out.now.items fact) ⊎ ExitAsked c.args.site.now c.args.proofs.now b fact)) (sym so)
    (exit_added (λ p. IsTrue (is_listed c.add_claims.new.out.items p)) (λ p. IsTrue (is_listed c.args.out.now.items p)) c.args.site.now c.args.proofs.now c.as_slice-2.result.now c.in_ok-names.names.items c.as_slice.result.now
    c.as_slice-2.ensures.value (c.as_slice.ensures ∙ ap (λ (k : Known). k.exit) c.known_of-known.ensures) c.in_ok-names.ensures c.in_ok-add_claims.ensures fact)
