use Rattle.std.proofs.Common.{◌≡◌, ℕ, List, Ok, Err, refl, subst, sym}
use Rattle.rc_base.specs.Shelves.{ShelfState}
use Rattle.rc_syntax.specs.declared.tree.Tree.{Tree}
use Rattle.rc_compile.specs.declared.refusal.Refusal.{Refusal}
use Rattle.rc_core.specs.Shapes.{program_of}
use Rattle.rc_answers.specs.declared.answer.Done.TheVariants.{LinkRefused, UnitRefused}
use Rattle.rc_answers.specs.declared.link_refusal.LinkRefusal.{LinkRefusal}
use Rattle.rc_link.specs.Answers.{IsLinked, LinkRefuses, trees_of}
use Rattle.rc_link.specs.declared.fault.LinkFault.{LinkFault}
use Rattle.rc_files.specs.declared.text_files.FileText.{FileText}
use Rattle.rc_driver.specs.Linking.{FindsUnits, LinkedTexts, kept_apart, linked, one_refused, out_of_memory}
use Rattle.rc_driver.specs.declared.link.NoUnits.{NoUnits}
use Rattle.rc_driver.proofs.link.link_texts.Goals as goal

-- the same refusal of the same file
refused_again : (loaded : List FileText) (to : List ℕ) (files files' : ShelfState) (m n : ℕ) (k l : Refusal) → m ≡ n → k ≡ l → LinkedTexts loaded to files files' (Ok (UnitRefused m k)) → LinkedTexts loaded to files files' (Ok (UnitRefused n l))
refused_again loaded to files files' m n k l number refusal is =
    subst (λ (r : Refusal). LinkedTexts loaded to files files' (Ok (UnitRefused n r))) refusal (subst (λ (i : ℕ). LinkedTexts loaded to files files' (Ok (UnitRefused i k))) number is)

pub returns-in-Err-Refused : goal.returns-in-Err-Refused
returns-in-Err-Refused g c =
    refused_again c.args.texts.now c.args.to.now (g.F.Shelf.state c.args.files.now) (g.F.Shelf.state c.args.files.now) _ _ _ _ (sym c.in-Err-Refused.number-is) (sym c.in-Err-Refused.refusal-is)
    (one_refused c.in-Err-Refused.number c.in-Err-Refused.refusal (λ texts are. subst (λ (none : NoUnits). FindsUnits texts (Err none)) c.in-Err-Refused.field-0-is (c.in-Err-Refused.ensures.units texts are)) refl)

pub returns-in-Err-Memory : goal.returns-in-Err-Memory
returns-in-Err-Memory g c = out_of_memory refl

pub returns-in-Ok-link : goal.returns-in-Ok-link
returns-in-Ok-link g c =
    let is = subst (λ (units : List Tree). IsLinked (trees_of units) c.in-Ok-link.program) c.as_slice.ensures.value c.in-Ok-link.ensures.ok in
    linked (program_of c.in-Ok-link.program) c.store_program.result (λ texts are. record { trees = trees_of c.in-Ok.units.items; fine = c.in-Ok.ensures.units texts are; together = is.fine; typed = is.whole }) c.store_program.ensures

pub returns-in-Err-Refused-link : goal.returns-in-Err-Refused-link
returns-in-Err-Refused-link g c =
    let apart = subst (λ (units : List Tree). LinkRefuses (trees_of units) c.in-Err-Refused-link.field-0) c.as_slice.ensures.value c.in-Err-Refused-link.ensures.err in
    subst (λ (refusal : LinkRefusal). LinkedTexts c.args.texts.now c.args.to.now (g.F.Shelf.state c.args.files.now) (g.F.Shelf.state c.args.files.now) (Ok (LinkRefused refusal))) (sym c.in-Err-Refused-link.refusal-is)
    (kept_apart c.in-Err-Refused-link.refusal (λ texts are. record { trees = trees_of c.in-Ok.units.items; fine = c.in-Ok.ensures.units texts are; apart = subst (λ (fault : LinkFault). LinkRefuses (trees_of c.in-Ok.units.items) fault) c.in-Err-Refused-link.field-0-is apart }) refl)

pub returns : goal.returns
returns g c = out_of_memory refl
