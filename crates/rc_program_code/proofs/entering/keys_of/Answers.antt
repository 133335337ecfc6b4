use Rattle.std.proofs.Common.{◌≡◌, ◌+◌, suc, [], ◌∷◌, take, sym, ap, ◌∙◌, subst, arith}
use Rattle.rc_scope.specs.Names.{with_name}
use Rattle.rc_safety.proofs.Lists.{every_append}
use Rattle.rc_lines.specs.Gathered.{kept_of, all_kept}
use Rattle.rc_lines.specs.Keys.{HasKey}
use Rattle.rc_program_code.proofs.Once.{goes_behind}
use Rattle.rc_program_code.proofs.Loops.{KeysOf, done_is, fresh_at}
use Rattle.rc_program_code.proofs.entering.keys_of.Goals as goal

pub loop-operand-preserved : goal.loop-operand-preserved
loop-operand-preserved c =
    let table = c.args.table.now in
    let i = c.loop-operand.operand-index in
    let x = c.operand-item.result in
    let k = kept_of x in
    let t = all_kept (take i table) in
    let own = c.in_ok-key.ensures.own in
    let m = c.loop-operand.invariant in
    let e = c.in_ok-number.ensures ∙ ap (λ key. with_name c.loop-operand.keys key) (c.as_slice.ensures.value ∙ c.in_ok-key.ensures.key) in
    let n : suc i ≡ i + 1 = omega arith in
    subst (λ ks. KeysOf c.number.new.names ks) (sym (sym (ap (λ j. all_kept (take j table)) n) ∙ done_is table i x c.loop-operand-test.true c.operand-item.is))
    (record {
      keys = goes_behind k own c.loop-operand.keys c.number.new.names t m.own m.keys (fresh_at table i x c.requires c.loop-operand-test.true c.operand-item.is) e;
      own = every_append HasKey t (k ∷ []) m.own (own, tt);
    })
