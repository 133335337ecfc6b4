use Rattle.std.proofs.Common.{◌≡◌, ◌∙◌, ap, arith, sym, map, false, rules, take}
use Rattle.std.specs.List.{list_any}
use Rattle.rc_code.specs.declared.image.Function.{Function}
use Rattle.rc_code.specs.Running.{function_at, reading_of}
use Rattle.rc_pile.specs.Words.{value_of}
use Rattle.rc_pile.specs.Stacks.{Stack, entered}
use Rattle.rc_decode.specs.Whole.{is_char}
use Rattle.rc_calls.specs.Calling.{kept_first}
use Rattle.rc_calls.proofs.Calling.{with_chars, without_chars}
use Rattle.rc_calls.proofs.calls.begin.Goals as goal

pub returns-then-not-body : goal.returns-then-not-body
returns-then-not-body c =
    let f = function_at (reading_of c.args.setting.now.image.now) c.args.callee in
    let b = c.requires.body in
    let s = c.args.pile.now in
    let zs = map value_of c.args.body.now.locals.items in
    let none : list_any is_char (take f.parameters f.locals) ≡ false = sym b.chars ∙ search rules in
    let p = b.parameters in
    let there = c.requires.there in
    c.enter.ensures ∙ ap (λ ws. entered c.args.caller c.args.body.now.parameters (map value_of ws) s) c.deref.ensures.value ∙ ap (λ n. entered c.args.caller n zs s) b.parameters
    ∙ without_chars f c.args.caller s zs (omega (arith, p, there)) b.first none

pub returns : goal.returns
returns c =
    let f = function_at (reading_of c.args.setting.now.image.now) c.args.callee in
    let b = c.requires.body in
    let s = c.args.pile.now in
    let zs = map value_of c.args.body.now.locals.items in
    let p = b.parameters in
    let there = c.requires.there in
    let e : c.enter.new.self ≡ entered c.args.caller f.parameters zs s = c.enter.ensures ∙ ap (λ ws. entered c.args.caller c.args.body.now.parameters (map value_of ws) s) c.deref.ensures.value ∙ ap (λ n. entered c.args.caller n zs s) b.parameters in
    c.keep_first.ensures
    ∙ ap (λ (h : Function). record c.enter.new.self { locals = kept_first h.parameters h.locals c.enter.new.self.locals }) c.function_of.ensures.is
    ∙ ap (λ (q : Stack). record q { locals = kept_first f.parameters f.locals q.locals }) e
    ∙ with_chars f c.args.caller s zs (omega (arith, p, there)) b.first
