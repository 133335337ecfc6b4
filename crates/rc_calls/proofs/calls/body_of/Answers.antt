use Rattle.std.proofs.Common.{arith}
use Rattle.std.proofs.lemmas.Option.{slice_get-get_or}
use Rattle.rc_calls.proofs.Calling.{as_many_bodies, body_is}
use Rattle.rc_calls.proofs.calls.body_of.Goals as goal

pub bounds-setting-function : goal.bounds-setting-function
bounds-setting-function c =
    let many = as_many_bodies c.args.setting.now.image.now c.args.setting.now.bodies.now c.requires.set.functions in
    let known = c.requires.known in
    omega (arith, many, known)

pub returns-clause-there : goal.returns-clause-there
returns-clause-there c =
    let many = as_many_bodies c.args.setting.now.image.now c.args.setting.now.bodies.now c.requires.set.functions in
    let known = c.requires.known in
    slice_get-get_or c.args.setting.now.bodies.now c.args.function c.index-setting-function.result (omega (arith, many, known))

pub returns-clause-body : goal.returns-clause-body
returns-clause-body c =
    let many = as_many_bodies c.args.setting.now.image.now c.args.setting.now.bodies.now c.requires.set.functions in
    let known = c.requires.known in
    body_is c.args.setting.now.image.now c.args.setting.now.bodies.now c.requires.set.functions c.args.function known _
    (slice_get-get_or c.args.setting.now.bodies.now c.args.function c.index-setting-function.result (omega (arith, many, known)))
