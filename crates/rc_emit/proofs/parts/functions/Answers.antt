use Rattle.std.proofs.Common.{◌≡◌, ◌<◌, ◌++◌, ◌∷◌, [], length, map, ap, sym, subst, ◌∙◌, arith, rules}
use Rattle.std.specs.List.{AllByRecursion as Every}
use Rattle.rc_core.specs.Shapes.{struct_of}
use Rattle.rc_safety.proofs.Lists.{every_append}
use Rattle.rc_numbering.specs.Small.{FunctionIsSmall}
use Rattle.rc_rlang.specs.Shapes.{rlang_of, routine_in}
use Rattle.rc_emit.proofs.Functions.{one_function, function_step}
use Rattle.rc_emit.proofs.parts.functions.Goals as goal

pub loop-at-preserved : goal.loop-at-preserved
loop-at-preserved c =
    let n = c.args.numbers.now in
    let r = rlang_of c.args.parts.now in
    let routines = c.as_slice-routines.result.now in
    let routine = routine_in (map struct_of c.args.parts.now.structs.items) in
    let at = c.loop-at.at in
    let x = c.index-routines-at.result in
    let h : at < length routines = omega arith in
    let whole : r.functions ≡ map routine routines = ap (map routine) (sym c.as_slice-routines.ensures.value) in
    let one = c.in_ok-function.ensures.is (map struct_of c.args.parts.now.structs.items) ∙ one_function n r routine routines whole c.args.code.now c.requires.code c.requires.backs at c.index-code-at.result x h c.index-code-at.is c.index-routines-at.is in
    let pushed : c.push.new.self.items ≡ c.loop-at.functions.items ++ c.in_ok-function.field-0 ∷ [] = search rules in
    record {
      are = function_step n r routine routines whole at x c.loop-at.functions.items c.push.new.self.items c.in_ok-function.field-0 h c.index-routines-at.is c.loop-at.invariant.are one pushed;
      small = subst (Every FunctionIsSmall) (sym pushed) (every_append FunctionIsSmall c.loop-at.functions.items (c.in_ok-function.field-0 ∷ []) c.loop-at.invariant.small (c.in_ok-function.ensures.small, tt));
    }
