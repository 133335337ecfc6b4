use Rattle.std.proofs.Common.{◌≡◌, ◌∙◌, ◌↔◌, IsTrue, List, [], Some, sym, ap, subst}
use Rattle.rc_facts.specs.declared.fact.Fact.{Fact}
use Rattle.rc_annotations.specs.Annotations.{asked_of}
use Rattle.rc_code.specs.declared.image.Function.{Function}
use Rattle.rc_code.specs.Soundness.{instruction_at}
use Rattle.rc_graph.specs.Nodes.{effect_of}
use Rattle.rc_sealed.specs.Claimed.{annotation_of}
use Rattle.rc_carrying.specs.Asked.{AskedBefore}
use Rattle.rc_carrying.specs.Passing.{listed}
use Rattle.rc_image_steps.specs.declared.ways.Asks.TheVariants.{Entry, Check, Nothing}
use Rattle.rc_image_steps.specs.Sites.{function_in, image_of}
use Rattle.rc_image_steps.specs.Ways.{asks_of}
use Rattle.rc_image_steps.proofs.Asked.{check_tells, entry_tells, nothing_tells}
use Rattle.rc_image_steps.proofs.Facts.{both_ways, if_ok_more, one_listed}
use Rattle.rc_image_steps.proofs.Stepping.{entry_few, entry_there}
use Rattle.rc_image_steps.proofs.asking.asked_before.Goals as goal

pub of_entry-requires-clause-there : goal.of_entry-requires-clause-there
of_entry-requires-clause-there c =
    let a : asks_of (instruction_at (function_in c.args.site.now) c.args.at) ≡ Entry c.in-Entry.number = sym (ap asks_of (c.instruction_of.ensures ∙ ap (λ (f : Function). instruction_at f c.args.at) c.function_of-function.ensures)) ∙ sym c.asks_of.ensures ∙ c.in-Entry.is in
    entry_there c.args.site.now c.requires.site c.args.proofs.now c.args.at c.requires.there c.requires.claims c.in-Entry.number a

pub of_entry-requires-clause-few : goal.of_entry-requires-clause-few
of_entry-requires-clause-few c =
    let a : asks_of (instruction_at (function_in c.args.site.now) c.args.at) ≡ Entry c.in-Entry.number = sym (ap asks_of (c.instruction_of.ensures ∙ ap (λ (f : Function). instruction_at f c.args.at) c.function_of-function.ensures)) ∙ sym c.asks_of.ensures ∙ c.in-Entry.is in
    entry_few c.args.site.now c.requires.site c.args.proofs.now c.args.at c.requires.there (effect_of c.args.effect.now) c.in-Entry.number a c.requires.effect

pub returns-in-Entry : goal.returns-in-Entry
returns-in-Entry c =
    let site = c.args.site.now in
    let a : asks_of (instruction_at (function_in site) c.args.at) ≡ Entry c.in-Entry.number = sym (ap asks_of (c.instruction_of.ensures ∙ ap (λ (f : Function). instruction_at f c.args.at) c.function_of-function.ensures)) ∙ sym c.asks_of.ensures ∙ c.in-Entry.is in
    if_ok_more c.of_entry.result _ _ (λ facts tells fact. entry_tells site.parts.now c.args.proofs.now site.number c.args.at (effect_of c.args.effect.now) c.in-Entry.number a c.requires.effect (listed facts.items) tells fact) c.of_entry.ensures

pub returns-in-Check : goal.returns-in-Check
returns-in-Check c =
    let site = c.args.site.now in
    let a : asks_of (instruction_at (function_in site) c.args.at) ≡ Check = sym (ap asks_of (c.instruction_of.ensures ∙ ap (λ (f : Function). instruction_at f c.args.at) c.function_of-function.ensures)) ∙ sym c.asks_of.ensures ∙ c.in-Check.is in
    if_ok_more c.of_check.result _ _ (λ facts is fact. both_ways (IsTrue (listed facts.items fact)) (asked_of (effect_of c.args.effect.now) ≡ Some fact) (AskedBefore (image_of site) (annotation_of site.parts.now c.args.proofs.now) site.number c.args.at fact)
    (subst (λ (xs : List Fact). IsTrue (listed xs fact) ↔ (asked_of (effect_of c.args.effect.now) ≡ Some fact)) (sym is) (one_listed (asked_of (effect_of c.args.effect.now)) fact))
    (check_tells site.parts.now c.args.proofs.now site.number c.args.at (effect_of c.args.effect.now) a c.requires.effect fact)) c.of_check.ensures

pub returns-in-Nothing : goal.returns-in-Nothing
returns-in-Nothing c = λ fact.
    let site = c.args.site.now in
    let a : asks_of (instruction_at (function_in site) c.args.at) ≡ Nothing = sym (ap asks_of (c.instruction_of.ensures ∙ ap (λ (f : Function). instruction_at f c.args.at) c.function_of-function.ensures)) ∙ sym c.asks_of.ensures ∙ c.in-Nothing.is in (
      λ l. let x : IsTrue (listed [] fact) = subst (λ (xs : List Fact). IsTrue (listed xs fact)) c.new.ensures.items l in cc,
      λ asked. absurd (nothing_tells site.parts.now c.args.proofs.now site.number c.args.at a fact asked),
    )
