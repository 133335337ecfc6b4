use Rattle.std.proofs.Common.{◌∙◌, ◌||◌, IsTrue, List, ℕ, ap, sym, subst}
use Rattle.std.specs.List.{All}
use Rattle.rc_facts.specs.declared.fact.Fact.{Fact}
use Rattle.rc_facts.specs.Facts.{is_over}
use Rattle.rc_claims.specs.declared.proofs.Known.{Known as Claims}
use Rattle.rc_claims.specs.Bits.{claims}
use Rattle.rc_claims.specs.Claims.{known_at}
use Rattle.rc_image_claims.specs.Naming.{is_listed}
use Rattle.rc_verify.proofs.Claiming.{Listing, listed_claims, listed_over}
use Rattle.rc_verify.proofs.exits.exit_of.Goals as goal

pub fill-requires : goal.fill-requires
fill-requires c =
    let bytes = (known_at c.args.proofs.now c.args.number).exit in
    let names = c.in_ok-names.names.items in
    let facts = c.add_claims.new.out.items in
    let are = subst (λ (others : List Fact). Listing facts others bytes names) c.new-facts.ensures.items
    (subst (λ (b : List ℕ). Listing facts c.new-facts.result.items b names) (c.as_slice.ensures ∙ ap (λ (k : Claims). k.exit) c.known_of.ensures)
    (subst (λ (ns : List ℕ). Listing facts c.new-facts.result.items c.as_slice.result.now ns) c.as_slice-2.ensures.value c.in_ok-add_claims.ensures)) in
    record {
      over = subst (λ (fs : List Fact). All (λ p. IsTrue (is_over c.in_ok-set.set.variables p)) fs) (sym c.as_slice-3.ensures.value)
          (subst (λ m. All (λ p. IsTrue (is_over m p)) facts) (sym c.in_ok-set.ensures.variables) (listed_over c.count_of-count.result names c.in_ok-names.ensures.each bytes c.in_ok-names.ensures.long facts are));
    }

pub returns : goal.returns
returns c =
    let bytes = (known_at c.args.proofs.now c.args.number).exit in
    let names = c.in_ok-names.names.items in
    let facts = c.add_claims.new.out.items in
    let are = subst (λ (others : List Fact). Listing facts others bytes names) c.new-facts.ensures.items
    (subst (λ (b : List ℕ). Listing facts c.new-facts.result.items b names) (c.as_slice.ensures ∙ ap (λ (k : Claims). k.exit) c.known_of.ensures)
    (subst (λ (ns : List ℕ). Listing facts c.new-facts.result.items c.as_slice.result.now ns) c.as_slice-2.ensures.value c.in_ok-add_claims.ensures)) in
    record {
      variables = c.fill.ensures.variables ∙ c.in_ok-set.ensures.variables ∙ c.count_of-count.ensures.count;
      facts = λ fact. c.fill.ensures.facts fact
          ∙ ap (λ b. b || is_listed c.as_slice-3.result.now fact) (c.in_ok-set.ensures.facts fact)
          ∙ ap (λ (fs : List Fact). is_listed fs fact) c.as_slice-3.ensures.value
          ∙ listed_claims c.count_of-count.result names c.in_ok-names.ensures.each bytes c.in_ok-names.ensures.long facts are fact
          ∙ ap (λ m. claims m bytes fact) c.count_of-count.ensures.count;
    }
