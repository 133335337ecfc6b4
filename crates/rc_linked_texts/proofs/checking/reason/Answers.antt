use Rattle.std.proofs.Common.{refl, subst}
use Rattle.rc_deletes.specs.Answer as rules
use Rattle.rc_deletes.specs.declared.fault.Refusal.TheVariants as node_refusal
use Rattle.rc_deletes.specs.declared.deletes.DeletesFault.TheVariants as place_refusal
use Rattle.rc_typing.specs.Checks.{Refuses}
use Rattle.rc_linked_texts.proofs.checking.reason.Goals as goal

pub returns-in-Unknown : goal.returns-in-Unknown
returns-in-Unknown c = λ tree found. (rules.at_node node_refusal.Unknown c.in-Unknown.line, subst (Refuses tree) c.in-Unknown.is found, refl)

pub returns-in-Twice : goal.returns-in-Twice
returns-in-Twice c = λ tree found. (rules.at_node node_refusal.Twice c.in-Twice.line, subst (Refuses tree) c.in-Twice.is found, refl)

pub returns-in-Mistyped : goal.returns-in-Mistyped
returns-in-Mistyped c = λ tree found. (rules.at_node node_refusal.Mistyped c.in-Mistyped.line, subst (Refuses tree) c.in-Mistyped.is found, refl)

pub returns-in-Arity : goal.returns-in-Arity
returns-in-Arity c = λ tree found. (rules.at_node node_refusal.Arity c.in-Arity.line, subst (Refuses tree) c.in-Arity.is found, refl)

pub returns-in-TooBig : goal.returns-in-TooBig
returns-in-TooBig c = λ tree found. (rules.at_node node_refusal.TooBig c.in-TooBig.line, subst (Refuses tree) c.in-TooBig.is found, refl)

pub returns-in-Main : goal.returns-in-Main
returns-in-Main c = λ tree found. (rules.at_main c.in-Main.line, subst (Refuses tree) c.in-Main.is found, refl)

pub returns-in-AnnotationPlace : goal.returns-in-AnnotationPlace
returns-in-AnnotationPlace c = λ tree found. (rules.at_place (place_refusal.AnnotationPlace c.in-AnnotationPlace.line), subst (Refuses tree) c.in-AnnotationPlace.is found, refl)

pub returns-in-NotDeletes : goal.returns-in-NotDeletes
returns-in-NotDeletes c = λ tree found. (rules.at_place (place_refusal.NotDeletes c.in-NotDeletes.line), subst (Refuses tree) c.in-NotDeletes.is found, refl)

pub returns-in-DeletesPlace : goal.returns-in-DeletesPlace
returns-in-DeletesPlace c = λ tree found. (rules.at_place (place_refusal.DeletesPlace c.in-DeletesPlace.line), subst (Refuses tree) c.in-DeletesPlace.is found, refl)
