use Rattle.std.proofs.Common.{◌≡◌, ◌∙◌, sym, ap, subst, false, length, replicate}
use Rattle.std.specs.List.{list_any}
use Rattle.std.proofs.lemmas.Result.{IfOk-weaker}
use Rattle.rc_prove.specs.Family.{family_of}
use Rattle.rc_prove_marks.specs.Going.{asks}
use Rattle.rc_prove_marks.proofs.Going.{none_checked, all_told}
use Rattle.rc_prove_marks.proofs.marks.marks_of.Goals as goal

pub returns-then-not-some_asks : goal.returns-then-not-some_asks
returns-then-not-some_asks c =
    let m = family_of c.args.claims.now.entries.items c.args.claims.now.exits.items c.args.claims.now.frames.items in
    let route = c.args.route.now in
    let none = subst (λ xs. list_any asks xs ≡ false) c.as_slice.ensures.value (sym c.some_asks.ensures ∙ c.if-not-some_asks.true) in
    let long : c.len.result ≡ length route.spots.items = c.len.ensures ∙ sym c.as_slice.ensures.len ∙ ap length c.as_slice.ensures.value in
    IfOk-weaker c.no_marks.result _ _ (λ marks is image looks. all_told image route m looks marks.items (none_checked route m none marks.items (subst (λ n. marks.items ≡ replicate n false) long is))) c.no_marks.ensures

pub returns : goal.returns
returns c =
    let m = family_of c.args.claims.now.entries.items c.args.claims.now.exits.items c.args.claims.now.frames.items in
    IfOk-weaker c.marks_through.result _ _ (λ marks first image looks. all_told image c.args.route.now m looks marks.items first) c.marks_through.ensures
