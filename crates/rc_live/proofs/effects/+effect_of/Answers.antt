use Rattle.std.proofs.Common.{◌≡◌, ◌+◌, [], ◌∷◌, ◌++◌, drop, sym, ap, subst}
use Rattle.std.specs.Prelude.{option_map}
use Rattle.rc_core.specs.Shapes.{ty_of}
use Rattle.rc_rlang.specs.RegionCode.{simple, clear, block, branch, loop, repeat, break, continue}
use Rattle.rc_rlang.specs.RegionLive.{before_code}
use Rattle.rc_rlang.specs.Shapes.{act_of, steps_of, test_of, code_of, codes_of}
use Rattle.rc_rlang.proofs.CodeRows.{block_is}
use Rattle.rc_live.specs.Effects.{Tells, ReadsShown, EffectFound, EffectsFound, loops}
use Rattle.rc_live.proofs.Back.{if_ok_more}
use Rattle.rc_live.proofs.Bits.{below_128}
use Rattle.rc_live.proofs.Doing.{UpTo, effect_as, found_none, found_both, found_last, simple_tells, branch_tells, upto_more, upto_done, upto_none, codes_from, codes_past}
use Rattle.rc_live.proofs.effects.+effect_of.Goals as goal

pub effect_of-returns-in-Simple : goal.effect_of-returns-in-Simple
effect_of-returns-in-Simple t c structs =
    let names = c.args.names.now in
    let i = c.in-Simple in
    let steps = steps_of structs i.steps.items in
    let row = subst (λ xs. ReadsShown names c.reads-row.result (steps_of structs xs)) c.as_slice.ensures.value (c.reads-row.ensures structs) in
    effect_as names (code_of structs c.args.code.now) (simple steps (act_of structs i.last)) c.reading.result c.args.listed.now.items c.args.listed.now.items (ap (code_of structs) i.is)
    (record { tells = simple_tells names steps (act_of structs i.last) c.reads-row.result c.act.result c.reading.result row (c.act.ensures structs) c.reading.ensures; found = found_none names c.args.listed.now.items })

pub effect_of-returns-in-Clear : goal.effect_of-returns-in-Clear
effect_of-returns-in-Clear t c structs =
    let i = c.in-Clear in
    effect_as c.args.names.now (code_of structs c.args.code.now) (clear i.line i.local (ty_of i.ty)) c.setting.result c.args.listed.now.items c.args.listed.now.items (ap (code_of structs) i.is)
    (record { tells = c.setting.ensures; found = found_none c.args.names.now c.args.listed.now.items })

pub effect_of-returns-in-Block : goal.effect_of-returns-in-Block
effect_of-returns-in-Block t c structs =
    let names = c.args.names.now in
    let i = c.in-Block in
    let old = c.args.listed.now.items in
    let new = c.effect_of_all.new.listed.items in
    if_ok_more c.effect_of_all.result (λ e. EffectsFound names (codes_of structs c.as_slice-in-Block.result.now) e old new) (λ e. EffectFound names (code_of structs c.args.code.now) e old new)
    (λ e d. let f = subst (λ xs. EffectsFound names (codes_of structs xs) e old new) c.as_slice-in-Block.ensures.value d in
    effect_as names (code_of structs c.args.code.now) (block (codes_of structs i.body.items)) e old new (block_is structs c.args.code.now i.body i.is) (record { tells = f.tells; found = f.found }))
    (c.effect_of_all.ensures structs)

pub effect_of-returns-in_ok-other-in-Branch : goal.effect_of-returns-in_ok-other-in-Branch
effect_of-returns-in_ok-other-in-Branch t c structs =
    let names = c.args.names.now in
    let i = c.in-Branch in
    let steps = steps_of structs i.steps.items in
    let yes' = code_of structs i.yes.value in
    let no' = code_of structs i.no.value in
    let old = c.args.listed.now.items in
    let mid = c.effect_of.new.listed.items in
    let new = c.effect_of-in-Branch.new.listed.items in
    let row = subst (λ xs. ReadsShown names c.reads-row-in-Branch.result (steps_of structs xs)) c.as_slice-in-Branch.ensures.value (c.reads-row-in-Branch.ensures structs) in
    let one = subst (λ b. EffectFound names (code_of structs b) c.in_ok-one-in-Branch.one old mid) c.deref.ensures (c.in_ok-one-in-Branch.ensures structs) in
    let other = subst (λ b. EffectFound names (code_of structs b) c.in_ok-other-in-Branch.other mid new) c.deref-in-Branch.ensures (c.in_ok-other-in-Branch.ensures structs) in
    effect_as names (code_of structs c.args.code.now) (branch steps (test_of i.test) yes' no') c.reading-in-Branch.result old new (ap (code_of structs) i.is)
    (record {
      tells = branch_tells names steps (test_of i.test) yes' no' c.reads-row-in-Branch.result c.in_ok-one-in-Branch.one c.in_ok-other-in-Branch.other c.or.result c.reading-in-Branch.result row one.tells other.tells c.or.ensures c.reading-in-Branch.ensures;
      found = found_both names (loops yes') (loops no') old mid new one.found other.found;
    })

pub effect_of-returns-in_ok-again-in-Loop : goal.effect_of-returns-in_ok-again-in-Loop
effect_of-returns-in_ok-again-in-Loop t c structs =
    let names = c.args.names.now in
    let i = c.in-Loop in
    let steps = steps_of structs i.steps.items in
    let test = option_map test_of i.test in
    let third = code_of structs i.third.value in
    let body = code_of structs i.body.value in
    let whole = loop i.line steps test third body in
    let old = c.args.listed.now.items in
    let one = c.effect_of-in-Loop.new.listed.items in
    let two = c.effect_of-in-Loop-2.new.listed.items in
    let new = c.keep.new.listed.items in
    let row = subst (λ xs. ReadsShown names c.reads-row-in-Loop.result (steps_of structs xs)) c.as_slice-in-Loop.ensures.value (c.reads-row-in-Loop.ensures structs) in
    let inside = subst (λ b. EffectFound names (code_of structs b) c.in_ok-inside-in-Loop.inside old one) c.deref-in-Loop.ensures (c.in_ok-inside-in-Loop.ensures structs) in
    let again = subst (λ b. EffectFound names (code_of structs b) c.in_ok-again-in-Loop.again one two) c.deref-in-Loop-2.ensures (c.in_ok-again-in-Loop.ensures structs) in
    let tells = c.of_loop-whole.ensures names i.line steps third body c.requires.short row again.tells inside.tells in
    if_ok_more c.keep.result (λ e. (e ≡ c.of_loop-whole.result) × (new ≡ two ++ e ∷ [])) (λ e. EffectFound names (code_of structs c.args.code.now) e old new)
    (λ e d. let of_e = subst (λ x. Tells names x (before_code whole)) (sym d.0) tells in
    effect_as names (code_of structs c.args.code.now) whole e old new (ap (code_of structs) i.is)
    (record { tells = of_e; found = found_both names (loops body ++ loops third) (whole ∷ []) old two new (found_both names (loops body) (loops third) old one two inside.found again.found) (found_last names whole e two new d.1 of_e) }))
    c.keep.ensures

pub effect_of-returns-in_ok-inside-in-Repeat : goal.effect_of-returns-in_ok-inside-in-Repeat
effect_of-returns-in_ok-inside-in-Repeat t c structs =
    let names = c.args.names.now in
    let i = c.in-Repeat in
    let steps = steps_of structs i.steps.items in
    let test = test_of i.test in
    let body = code_of structs i.body.value in
    let whole = repeat i.line body steps test in
    let old = c.args.listed.now.items in
    let one = c.effect_of-in-Repeat.new.listed.items in
    let new = c.keep-in-Repeat.new.listed.items in
    let row = subst (λ xs. ReadsShown names c.reads-row-in-Repeat.result (steps_of structs xs)) c.as_slice-in-Repeat.ensures.value (c.reads-row-in-Repeat.ensures structs) in
    let inside = subst (λ b. EffectFound names (code_of structs b) c.in_ok-inside-in-Repeat.inside old one) c.deref-in-Repeat.ensures (c.in_ok-inside-in-Repeat.ensures structs) in
    let tells = c.of_repeat-whole.ensures names i.line steps test body c.requires.short row inside.tells in
    if_ok_more c.keep-in-Repeat.result (λ e. (e ≡ c.of_repeat-whole.result) × (new ≡ one ++ e ∷ [])) (λ e. EffectFound names (code_of structs c.args.code.now) e old new)
    (λ e d. let of_e = subst (λ x. Tells names x (before_code whole)) (sym d.0) tells in
    effect_as names (code_of structs c.args.code.now) whole e old new (ap (code_of structs) i.is)
    (record { tells = of_e; found = found_both names (loops body) (whole ∷ []) old one new inside.found (found_last names whole e one new d.1 of_e) }))
    c.keep-in-Repeat.ensures

pub effect_of-returns-in-Break : goal.effect_of-returns-in-Break
effect_of-returns-in-Break t c structs =
    let names = c.args.names.now in
    effect_as names (code_of structs c.args.code.now) (break c.in-Break.line) c.breaking.result c.args.listed.now.items c.args.listed.now.items (ap (code_of structs) c.in-Break.is)
    (record { tells = λ bit x k at. sym (c.breaking.ensures bit (k.next x) (k.broken x) (k.continued x) (below_128 names bit x c.requires.short at)); found = found_none names c.args.listed.now.items })

pub effect_of-returns-in-Continue : goal.effect_of-returns-in-Continue
effect_of-returns-in-Continue t c structs =
    let names = c.args.names.now in
    effect_as names (code_of structs c.args.code.now) (continue c.in-Continue.line) c.continuing.result c.args.listed.now.items c.args.listed.now.items (ap (code_of structs) c.in-Continue.is)
    (record { tells = λ bit x k at. sym (c.continuing.ensures bit (k.next x) (k.broken x) (k.continued x) (below_128 names bit x c.requires.short at)); found = found_none names c.args.listed.now.items })

pub effect_of_all-loop-one-init : goal.effect_of_all-loop-one-init
effect_of_all-loop-one-init t c structs = upto_none c.args.names.now (codes_of structs c.args.body.now) c.passing-all.result c.args.listed.now.items c.passing-all.ensures c.requires.short

pub effect_of_all-loop-one-preserved : goal.effect_of_all-loop-one-preserved
effect_of_all-loop-one-preserved t c structs =
    let names = c.args.names.now in
    let all = codes_of structs c.args.body.now in
    let i = c.loop-one.one-index in
    let x = c.one-item.result in
    let now = c.loop-one.listed.items in
    upto_more names all (codes_of structs (drop (i + 1) c.args.body.now)) (code_of structs x) c.loop-one.all c.in_ok-next.next c.then-all.result c.args.listed.now.items now c.effect_of.new.listed.items
    (subst (λ s. UpTo names all s c.loop-one.all c.args.listed.now.items now) (codes_from structs c.args.body.now i x c.loop-one-test.true c.one-item.is) (c.loop-one.invariant structs)) (c.in_ok-next.ensures structs) c.then-all.ensures

pub effect_of_all-returns : goal.effect_of_all-returns
effect_of_all-returns t c structs =
    let all = codes_of structs c.args.body.now in
    upto_done c.args.names.now all c.loop-one.all c.args.listed.now.items c.loop-one.listed.items
    (subst (λ s. UpTo c.args.names.now all s c.loop-one.all c.args.listed.now.items c.loop-one.listed.items) (codes_past structs c.args.body.now c.loop-one.one-index c.loop-one-test.false) (c.loop-one.invariant structs))
