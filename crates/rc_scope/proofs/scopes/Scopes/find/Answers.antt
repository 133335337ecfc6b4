use Rattle.std.proofs.Common.{◌∙◌, sym, ap, option_copied}
use Rattle.rc_scope.specs.Scopes.{meaning_of}
use Rattle.rc_scope.specs.Stack.{slot_of}
use Rattle.rc_scope.proofs.Finds.{unknown_stands_for_nothing, nowhere_stands_for_nothing, innermost_stands, innermost_is_there}
use Rattle.rc_scope.proofs.scopes.Scopes.find.Goals as goal

pub returns-in_err-number : goal.returns-in_err-number
returns-in_err-number g c =
    ap option_copied c.from_residual.ensures
    ∙ sym (unknown_stands_for_nothing c.self.inside.names c.args.name.now c.self.inside.entries _ c.self.invariant.linked (sym c.in_err-number.ensures.number))
    ∙ ap (λ s. meaning_of s c.args.name.now) c.self.view_is

pub returns-in_err-place : goal.returns-in_err-place
returns-in_err-place g c =
    let nowhere = sym (c.self.invariant.known c.in_ok-number.number) ∙ ap (λ s. slot_of s c.in_ok-number.number) (sym c.deref.ensures.value) ∙ sym c.in_err-place.ensures in
    ap option_copied c.from_residual-in_err-place.ensures
    ∙ sym (nowhere_stands_for_nothing c.self.inside.names c.args.name.now c.in_ok-number.ensures.distinct c.in_ok-number.number (sym c.in_ok-number.ensures.number) c.self.inside.entries _ c.self.invariant.linked nowhere)
    ∙ ap (λ s. meaning_of s c.args.name.now) c.self.view_is

pub returns-in_err-entry : goal.returns-in_err-entry
returns-in_err-entry g c =
    let place = sym (c.self.invariant.known c.in_ok-number.number) ∙ ap (λ s. slot_of s c.in_ok-number.number) (sym c.deref.ensures.value) ∙ sym c.in_ok-place.ensures in
    absurd (innermost_is_there c.self.inside.names c.args.name.now c.in_ok-number.ensures.distinct c.in_ok-number.number (sym c.in_ok-number.ensures.number) c.self.inside.entries c.in_ok-place.place place (sym c.in_err-entry.ensures))

pub returns : goal.returns
returns g c =
    let place = sym (c.self.invariant.known c.in_ok-number.number) ∙ ap (λ s. slot_of s c.in_ok-number.number) (sym c.deref.ensures.value) ∙ sym c.in_ok-place.ensures in
    sym (innermost_stands c.self.inside.names c.args.name.now c.in_ok-number.ensures.distinct c.in_ok-number.number (sym c.in_ok-number.ensures.number) c.self.inside.entries _ c.in_ok-place.place c.in_ok-entry.entry.now c.self.invariant.linked place (sym c.in_ok-entry.ensures))
    ∙ ap (λ s. meaning_of s c.args.name.now) c.self.view_is
