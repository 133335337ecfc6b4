use Rattle.std.proofs.Common.{◌≡◌, ◌∙◌, ◌↔◌, ◌||◌, suc, IsTrue, List, [], get_or, sym, subst, ap, length, ◌<◌, arith}
use Rattle.std.proofs.lemmas.List.{length-map, get_or-map}
use Rattle.rc_facts.specs.Derivable.{Derivable}
use Rattle.rc_facts.specs.Facts.{Known, holds}
use Rattle.rc_annotations.specs.Annotations.{some_pair}
use Rattle.rc_facts.specs.Flow.{no_set, set_at}
use Rattle.rc_boundaries.proofs.Handing.{set_there}
use Rattle.rc_sealed.specs.Carrying.{entry_pairs}
use Rattle.rc_prove.specs.Family.{family_of, items_of}
use Rattle.rc_prove_marks.proofs.Going.{begins_at}
use Rattle.rc_prove_marks.proofs.marks.enter.Goals as goal

pub returns : goal.returns
returns c =
    let m = family_of c.args.claims.now.entries.items c.args.claims.now.exits.items c.args.claims.now.frames.items in
    let route = c.args.route.now in
    let g = route.place.function in
    let start = c.in_ok-work.work in
    let there : get_or m.entries g no_set ≡ c.index.result.now = set_there c.args.claims.now.entries.items g c.index.result.now c.requires.there c.index.ensures in
    let within : g < length c.args.claims.now.frames.items = (let f = c.requires.frames in let l = length-map c.args.claims.now.frames.items items_of in omega (arith, f, l)) in
    let frames : c.as_slice.result.now ≡ get_or m.frames g [] =
    c.as_slice.ensures.value ∙ ap items_of c.index-2.ensures ∙ sym (get_or-map items_of c.args.claims.now.frames.items g c.index-2.result.now [] within) in
    begins_at route m c.requires start c.restart.new.work c.in_ok-work.ensures.variables c.restart.ensures.variables
    (λ fact. subst (λ (k : Known). IsTrue (holds start fact) ↔ Derivable (suc (suc route.place.result)) (λ p. holds k p || some_pair (entry_pairs route.place.copies route.place.copies) p) fact) (sym there) (c.in_ok-work.ensures.facts fact))
    (record {
      kept = c.restart.ensures.kept;
      whole = λ r e fact. subst (λ (fs : List Known). IsTrue (holds c.restart.new.work fact) ↔ Derivable (suc (suc route.place.result)) (set_at fs r) fact) frames
          (subst (λ n. IsTrue (holds c.restart.new.work fact) ↔ Derivable n (set_at c.as_slice.result.now r) fact) c.in_ok-work.ensures.variables (c.restart.ensures.whole r e fact));
    })
