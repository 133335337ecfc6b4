use Rattle.std.proofs.Common.{◌≡◌, ◌+◌, ◌-◌, ◌<◌, ℕ, suc, [], ◌∷◌, ◌++◌, drop, length, sym, ap, ◌∙◌, subst, arith}
use Rattle.std.specs.Prelude.{option_map, OnOk, IfOk, ◌||◌}
use Rattle.rc_emission.specs.OperationCode.{line_of}
use Rattle.rc_emission.specs.StackCode.{pop}
use Rattle.rc_emission.specs.StatementCode.{code_size, steps_lines, code_lines}
use Rattle.rc_rlang.specs.RegionCode.{block, simple}
use Rattle.rc_rlang.specs.RegionLive.{before_code}
use Rattle.rc_rlang.specs.RegionPoints.{code_points, codes_points, steps_points}
use Rattle.rc_rlang.specs.Shapes.{test_of}
use Rattle.rc_rlang.proofs.CodeRows.{block_is}
use Rattle.rc_lines.specs.Bare.{bare_code}
use Rattle.rc_lines.specs.Over.{deleting_in, types_in, slot_in, steps_in, act_in, structs_in}
use Rattle.rc_lines.proofs.Copies.{in_ok}
use Rattle.rc_program_code.specs.Onward.{onward}
use Rattle.rc_program_code.specs.Placed.{code_in, codes_in, CodeReady, CodesReady, StepsReady, CodeHeld, StepsHeld, IsPlaced}
use Rattle.rc_program_code.specs.declared.leads.Leads.{Leads}
use Rattle.rc_program_code.proofs.Holding.{no_held, yes_held, branch_held, third_held, body_held, loop_held, tail_held, inside_held, no_ready, yes_ready, branch_ready, third_ready, body_ready, loop_ready, tail_ready, inside_ready, block_ready, third_ways, body_ways, head_live, repeat_ways, tail_live}
use Rattle.rc_program_code.proofs.InFront.{onward_long}
use Rattle.rc_program_code.proofs.Making.{no_place, no_placed, yes_place, yes_placed, yes_long, branch_made, third_place, third_placed, body_place, body_placed, loop_over, before, loop_so_far, loop_made, inside_place, inside_placed, until_back, repeat_so_far, repeat_made}
use Rattle.rc_program_code.proofs.Walks.{Lines, HeadLines, any_ok, nodes, all_nodes, node_within, at_last, one_made, one_ready, MadeFrom}
use Rattle.rc_program_code.proofs.code.+code.Goals as goal

pub code-codes-requires : goal.code-codes-requires
code-codes-requires t c =
    let b = c.args.body.now in
    let i = c.in-Block in
    let is = block_is (structs_in b) c.args.code.now i.all i.is in
    let v = c.as_slice-in-Block.ensures.value in
    let d = c.decreases in
    let p = ap nodes is in
    let q = ap (λ xs. all_nodes (codes_in b xs)) v in
    (omega (arith, d, p, q), subst (λ xs. CodesReady b (codes_in b xs) c.args.end) (sym v) (block_ready b (codes_in b i.all.items) c.args.end (subst (λ x. CodeReady b x c.args.end) is c.requires)))

pub code-code-requires : goal.code-code-requires
code-code-requires t c =
    let b = c.args.body.now in
    let i = c.in-Branch in
    let is = ap (code_in b) i.is in
    let d = c.decreases in
    let p = ap nodes is in
    let q = ap (λ x. nodes (code_in b x)) c.deref.ensures in (
      omega (arith, d, p, q),
      subst (λ x. CodeReady b (code_in b x) c.args.end) (sym c.deref.ensures)
          (no_ready b (steps_in b i.steps.items) (test_of i.test) (code_in b i.yes.value) (code_in b i.no.value) c.args.end (subst (λ x. CodeReady b x c.args.end) is c.requires)),
    )

pub code-code-requires-in-Branch : goal.code-code-requires-in-Branch
code-code-requires-in-Branch t c =
    let b = c.args.body.now in
    let i = c.in-Branch in
    let is = ap (code_in b) i.is in
    let d = c.decreases in
    let p = ap nodes is in
    let q = ap (λ x. nodes (code_in b x)) c.deref-in-Branch.ensures in
    let at_no = c.in_ok-at_no-in-Branch.at_no in
    let point = subst (λ x. at_no + code_points (code_in b x) ≡ c.args.end) c.deref.ensures c.in_ok-at_no-in-Branch.ensures.point in (
      omega (arith, d, p, q),
      subst (λ x. CodeReady b (code_in b x) at_no) (sym c.deref-in-Branch.ensures)
          (yes_ready b (steps_in b i.steps.items) (test_of i.test) (code_in b i.yes.value) (code_in b i.no.value) c.args.end at_no point (subst (λ x. CodeReady b x c.args.end) is c.requires)),
    )

pub code-head-requires : goal.code-head-requires
code-head-requires t c =
    let b = c.args.body.now in
    let i = c.in-Branch in
    let is = ap (code_in b) i.is in
    let at_no = c.in_ok-at_no-in-Branch.at_no in
    let at_yes = c.in_ok-at_yes-in-Branch.at_yes in
    let m = c.in_ok-before-in-Branch.field-0 in
    let first = subst (λ x. at_no + code_points (code_in b x) ≡ c.args.end) c.deref.ensures c.in_ok-at_no-in-Branch.ensures.point in
    let second = subst (λ x. at_yes + code_points (code_in b x) ≡ at_no) c.deref-in-Branch.ensures c.in_ok-at_yes-in-Branch.ensures.point in
    subst (λ xs. StepsReady b (steps_in b xs) m) (sym c.as_slice-in-Branch-2.ensures.value)
    (branch_ready b (steps_in b i.steps.items) (test_of i.test) (code_in b i.yes.value) (code_in b i.no.value) c.args.end at_no at_yes m first second c.in_ok-before-in-Branch.ensures (subst (λ x. CodeReady b x c.args.end) is c.requires))

pub code-code-requires-in-Loop : goal.code-code-requires-in-Loop
code-code-requires-in-Loop t c =
    let b = c.args.body.now in
    let i = c.in-Loop in
    let is = ap (code_in b) i.is in
    let d = c.decreases in
    let p = ap nodes is in
    let q = ap (λ x. nodes (code_in b x)) c.deref-in-Loop.ensures in (
      omega (arith, d, p, q),
      subst (λ x. CodeReady b (code_in b x) c.args.end) (sym c.deref-in-Loop.ensures)
          (third_ready b i.line (steps_in b i.steps.items) (option_map test_of i.test) (code_in b i.third.value) (code_in b i.inside.value) c.args.end (subst (λ x. CodeReady b x c.args.end) is c.requires)),
    )

pub code-code-requires-in-Loop-2 : goal.code-code-requires-in-Loop-2
code-code-requires-in-Loop-2 t c =
    let b = c.args.body.now in
    let i = c.in-Loop in
    let is = ap (code_in b) i.is in
    let d = c.decreases in
    let p = ap nodes is in
    let q = ap (λ x. nodes (code_in b x)) c.deref-in-Loop-2.ensures in
    let at_third = c.in_ok-at_third-in-Loop.at_third in
    let point = subst (λ x. at_third + code_points (code_in b x) ≡ c.args.end) c.deref-in-Loop.ensures c.in_ok-at_third-in-Loop.ensures.point in (
      omega (arith, d, p, q),
      subst (λ x. CodeReady b (code_in b x) at_third) (sym c.deref-in-Loop-2.ensures)
          (body_ready b i.line (steps_in b i.steps.items) (option_map test_of i.test) (code_in b i.third.value) (code_in b i.inside.value) c.args.end at_third point (subst (λ x. CodeReady b x c.args.end) is c.requires)),
    )

pub code-head-requires-in-Loop : goal.code-head-requires-in-Loop
code-head-requires-in-Loop t c =
    let b = c.args.body.now in
    let i = c.in-Loop in
    let is = ap (code_in b) i.is in
    let at_third = c.in_ok-at_third-in-Loop.at_third in
    let at_inside = c.in_ok-at_inside-in-Loop.at_inside in
    let at_test = c.in_ok-at_test-in-Loop.at_test in
    let first = subst (λ x. at_third + code_points (code_in b x) ≡ c.args.end) c.deref-in-Loop.ensures c.in_ok-at_third-in-Loop.ensures.point in
    let second = subst (λ x. at_inside + code_points (code_in b x) ≡ at_third) c.deref-in-Loop-2.ensures c.in_ok-at_inside-in-Loop.ensures.point in
    let third = subst (λ n. at_test + n ≡ at_inside) c.branch_points.ensures c.in_ok-at_test-in-Loop.ensures in
    subst (λ xs. StepsReady b (steps_in b xs) at_test) (sym c.as_slice-in-Loop.ensures.value)
    (loop_ready b i.line (steps_in b i.steps.items) (option_map test_of i.test) (code_in b i.third.value) (code_in b i.inside.value) c.args.end at_third at_inside at_test first second third (subst (λ x. CodeReady b x c.args.end) is c.requires))

pub code-head-requires-in-Repeat : goal.code-head-requires-in-Repeat
code-head-requires-in-Repeat t c =
    let b = c.args.body.now in
    let i = c.in-Repeat in
    let is = ap (code_in b) i.is in
    let m = c.in_ok-before-in-Repeat.field-0 in
    subst (λ xs. StepsReady b (steps_in b xs) m) (sym c.as_slice-in-Repeat.ensures.value)
    (tail_ready b i.line (code_in b i.inside.value) (steps_in b i.steps.items) (test_of i.test) c.args.end m c.in_ok-before-in-Repeat.ensures (subst (λ x. CodeReady b x c.args.end) is c.requires))

pub code-code-requires-in-Repeat : goal.code-code-requires-in-Repeat
code-code-requires-in-Repeat t c =
    let b = c.args.body.now in
    let i = c.in-Repeat in
    let is = ap (code_in b) i.is in
    let d = c.decreases in
    let p = ap nodes is in
    let q = ap (λ x. nodes (code_in b x)) c.deref-in-Repeat.ensures in
    let m = c.in_ok-before-in-Repeat.field-0 in
    let at_steps = c.in_ok-at_steps-in-Repeat.at_steps in
    let point = subst (λ xs. at_steps + steps_points (steps_in b xs) ≡ m) c.as_slice-in-Repeat.ensures.value c.in_ok-at_steps-in-Repeat.ensures.point in (
      omega (arith, d, p, q),
      subst (λ x. CodeReady b (code_in b x) at_steps) (sym c.deref-in-Repeat.ensures)
          (inside_ready b i.line (code_in b i.inside.value) (steps_in b i.steps.items) (test_of i.test) c.args.end m at_steps c.in_ok-before-in-Repeat.ensures point (subst (λ x. CodeReady b x c.args.end) is c.requires)),
    )

pub code-returns-in-Simple-clause-lines : goal.code-returns-in-Simple-clause-lines
code-returns-in-Simple-clause-lines t c total k p held placed =
    let b = c.args.body.now in
    let i = c.in-Simple in
    let o = onward c.args.out.now.items in
    let is = ap (code_in b) i.is ∙ ap (λ xs. simple (steps_in b xs) (act_in b i.act)) (sym c.as_slice.ensures.value) in
    subst (λ x. OnOk c.simple.result (onward c.simple.new.out.items ≡ bare_code total (code_lines (slot_in b) (deleting_in b) (types_in b) x k p) ++ o)) (sym is)
    (c.simple.ensures.lines total k p (subst (λ x. CodeHeld b x k c.args.end) is held))

pub code-returns-in_ok-clear-in-Clear-clause-lines : goal.code-returns-in_ok-clear-in-Clear-clause-lines
code-returns-in_ok-clear-in-Clear-clause-lines t c total k p held placed =
    let b = c.args.body.now in
    let i = c.in-Clear in
    let o = onward c.args.out.now.items in
    any_ok c.before-in-Clear.result (c.in_ok-clear-in-Clear.ensures total k p ∙ ap (λ x. bare_code total (code_lines (slot_in b) (deleting_in b) (types_in b) x k p) ++ o) (sym (ap (code_in b) i.is)))

pub code-returns-in-Block-clause-lines : goal.code-returns-in-Block-clause-lines
code-returns-in-Block-clause-lines t c total k p held0 placed0 =
    let b = c.args.body.now in
    let i = c.in-Block in
    let l0 = c.args.out.now.items in
    let o = onward l0 in
    let is = block_is (structs_in b) c.args.code.now i.all i.is ∙ ap (λ xs. block (codes_in b xs)) (sym c.as_slice-in-Block.ensures.value) in
    let all = codes_in b c.as_slice-in-Block.result.now in
    let held = subst (λ x. CodeHeld b x k c.args.end) is held0 in
    let placed = subst (λ x. IsPlaced (code_size (slot_in b) (deleting_in b) (types_in b) x k) p total c.args.leads (length o)) is placed0 in
    subst (λ x. OnOk c.codes.result (onward c.codes.new.out.items ≡ bare_code total (code_lines (slot_in b) (deleting_in b) (types_in b) x k p) ++ o)) (sym is)
    (c.codes.ensures.lines total k p (record { here = held.here; ends = held.ends; listed = held.listed }) placed)

pub code-returns-in-Block-clause-point : goal.code-returns-in-Block-clause-point
code-returns-in-Block-clause-point t c =
    let b = c.args.body.now in
    let i = c.in-Block in
    let is = block_is (structs_in b) c.args.code.now i.all i.is ∙ ap (λ xs. block (codes_in b xs)) (sym c.as_slice-in-Block.ensures.value) in
    subst (λ x. IfOk c.codes.result (λ here. here + code_points x ≡ c.args.end)) (sym is) c.codes.ensures.point

pub code-returns-in_ok-before-in-Branch-clause-lines : goal.code-returns-in_ok-before-in-Branch-clause-lines
code-returns-in_ok-before-in-Branch-clause-lines t c total k p held0 placed0 =
    let b = c.args.body.now in
    let slot = slot_in b in
    let dl = deleting_in b in
    let ty = types_in b in
    let i = c.in-Branch in
    let is = ap (code_in b) i.is in
    let s = steps_in b i.steps.items in
    let test = test_of i.test in
    let yes' = code_in b i.yes.value in
    let no' = code_in b i.no.value in
    let leads = c.args.leads in
    let end = c.args.end in
    let l0 = c.args.out.now.items in
    let l1 = c.code.new.out.items in
    let l2 = c.put.new.out.items in
    let l3 = c.code-in-Branch.new.out.items in
    let l4 = c.exit.new.out.items in
    let l5 = c.head.new.out.items in
    let o = onward l0 in
    let held = subst (λ x. CodeHeld b x k end) is held0 in
    let placed = subst (λ x. IsPlaced (code_size slot dl ty x k) p total leads (length o)) is placed0 in
    let at_no = c.in_ok-at_no-in-Branch.at_no in
    let at_yes = c.in_ok-at_yes-in-Branch.at_yes in
    let m = c.in_ok-before-in-Branch.field-0 in
    let first = subst (λ x. at_no + code_points (code_in b x) ≡ end) c.deref.ensures c.in_ok-at_no-in-Branch.ensures.point in
    let second = subst (λ x. at_yes + code_points (code_in b x) ≡ at_no) c.deref-in-Branch.ensures c.in_ok-at_yes-in-Branch.ensures.point in
    let lines_no = subst (λ x. Lines b (code_in b x) leads end l0 l1) c.deref.ensures c.in_ok-at_no-in-Branch.ensures.lines in
    let lines_yes = subst (λ x. Lines b (code_in b x) leads at_no l2 l3) c.deref-in-Branch.ensures c.in_ok-at_yes-in-Branch.ensures.lines in
    let e1 = lines_no total k (no_place total slot dl ty s test yes' no' k p leads o placed) (no_held b s test yes' no' k end held) (no_placed total slot dl ty s test yes' no' k p leads o placed) in
    let n0 : c.len-behind.result ≡ length (onward l0) = let e = c.len-behind.ensures in let w = onward_long l0 in omega (arith, e, w) in
    let over = c.in_ok-over-in-Branch.over in
    let q = c.in_ok-over-in-Branch.ensures in
    let v = ap (λ xs. length (onward xs)) c.as_slice-in-Branch.ensures.value in
    let d : over + length o ≡ length (onward l1) = omega (arith, q, v, n0) in
    let e2 = c.in_ok-put-in-Branch.ensures in
    let e3 = lines_yes total k (yes_place total slot dl ty s test yes' no' k p leads o placed) (yes_held b s test yes' no' k end at_no first held) (yes_placed total slot dl ty s test yes' no' k p leads o placed (onward l1) (onward l2) over e1 d e2) in
    let n1 : c.len-no_begins.result ≡ length (onward l1) = let e = c.len-no_begins.ensures in let w = onward_long l1 in omega (arith, e, w) in
    let yl = yes_long total slot dl ty s test yes' no' k p leads o placed (onward l1) (onward l2) over e1 d e2 (onward l3) e3 in
    let e4 = c.in_ok-exit-in-Branch.ensures total (code_size slot dl ty yes' k + 1) (omega (arith, yl, n1)) in
    let live = λ (y : ℕ). before_code yes' k y || before_code no' k y in
    let h = subst (λ xs. StepsHeld b (steps_in b xs) live m) (sym c.as_slice-in-Branch-2.ensures.value) (branch_held b s test yes' no' k end at_no at_yes m first second c.in_ok-before-in-Branch.ensures held) in
    in_ok c.head.result _ _
    (λ e5. branch_made total slot dl ty s test yes' no' k p leads o placed (onward l1) (onward l2) over e1 d e2 (onward l3) e3 (onward l4) (onward l5) e4
    (e5 ∙ ap (λ xs. bare_code total (steps_lines slot dl ty (steps_in b xs) [] [] live) ++ onward l4) c.as_slice-in-Branch-2.ensures.value)
    ∙ ap (λ x. bare_code total (code_lines slot dl ty x k p) ++ o) (sym is))
    (c.head.ensures.lines total live h)

pub code-returns-in_ok-set_back-in-Loop-clause-lines : goal.code-returns-in_ok-set_back-in-Loop-clause-lines
code-returns-in_ok-set_back-in-Loop-clause-lines t c total k p held0 placed0 =
    let b = c.args.body.now in
    let slot = slot_in b in
    let dl = deleting_in b in
    let ty = types_in b in
    let i = c.in-Loop in
    let is = ap (code_in b) i.is in
    let line = i.line in
    let s = steps_in b i.steps.items in
    let test = option_map test_of i.test in
    let third = code_in b i.third.value in
    let body = code_in b i.inside.value in
    let leads = c.args.leads in
    let end = c.args.end in
    let l0 = c.args.out.now.items in
    let l1 = c.put-in-Loop.new.out.items in
    let l2 = c.code-in-Loop.new.out.items in
    let l3 = c.code-in-Loop-2.new.out.items in
    let l4 = c.exit_if.new.out.items in
    let l5 = c.head-in-Loop.new.out.items in
    let l6 = c.set_back.new.out.items in
    let o = onward l0 in
    let held = subst (λ x. CodeHeld b x k end) is held0 in
    let placed = subst (λ x. IsPlaced (code_size slot dl ty x k) p total leads (length o)) is placed0 in
    let at_third = c.in_ok-at_third-in-Loop.at_third in
    let at_inside = c.in_ok-at_inside-in-Loop.at_inside in
    let at_test = c.in_ok-at_test-in-Loop.at_test in
    let first = subst (λ x. at_third + code_points (code_in b x) ≡ end) c.deref-in-Loop.ensures c.in_ok-at_third-in-Loop.ensures.point in
    let second = subst (λ x. at_inside + code_points (code_in b x) ≡ at_third) c.deref-in-Loop-2.ensures c.in_ok-at_inside-in-Loop.ensures.point in
    let tested = subst (λ n. at_test + n ≡ at_inside) c.branch_points.ensures c.in_ok-at_test-in-Loop.ensures in
    let k2 = third_ways b line s test third body k in
    let k1 = body_ways b line s test third body k in
    let live = head_live b line s test third body k in
    let round : Leads = record { out = c.len-behind-in-Loop.result; on = c.len.result } in
    let lines_third = subst (λ x. Lines b (code_in b x) leads end l1 l2) c.deref-in-Loop.ensures c.in_ok-at_third-in-Loop.ensures.lines in
    let lines_body = subst (λ x. Lines b (code_in b x) round at_third l2 l3) c.deref-in-Loop-2.ensures c.in_ok-at_inside-in-Loop.ensures.lines in
    let head_lines = subst (λ xs. HeadLines b (steps_in b xs) at_test l4 l5) c.as_slice-in-Loop.ensures.value c.in_ok-at_steps-in-Loop.ensures.lines in
    let e1 = c.in_ok-put-in-Loop.ensures in
    let e2 = lines_third total k2 (third_place total slot dl ty line s test third body k p leads o placed) (third_held b line s test third body k end held) (third_placed total slot dl ty line s test third body k p leads o placed (onward l1) e1) in
    let n0 : c.len-behind-in-Loop.result ≡ length (onward l0) = let e = c.len-behind-in-Loop.ensures in let w = onward_long l0 in omega (arith, e, w) in
    let n2 : c.len.result ≡ length (onward l2) = let e = c.len.ensures in let w = onward_long l2 in omega (arith, e, w) in
    let e3 = lines_body total k1 (body_place total slot dl ty line s test third body k p leads o placed) (body_held b line s test third body k end at_third first held) (body_placed total slot dl ty line s test third body k p leads o placed (onward l1) e1 (onward l2) e2 round n0 n2) in
    let ov = loop_over total slot dl ty line s test third body k p leads o placed (onward l1) e1 (onward l2) e2 (onward l3) e3 in
    let e4 = c.in_ok-exit_if-in-Loop.ensures total (code_size slot dl ty body k1 + (code_size slot dl ty third k2 + 1)) (omega (arith, ov, n0)) in
    let e5 = head_lines total live (loop_held b line s test third body k end at_third at_inside at_test first second tested held) in
    let far = loop_so_far total slot dl ty line s test third body k p leads o placed (onward l1) e1 (onward l2) e2 (onward l3) e3 (onward l4) (onward l5) e4 e5 in
    let e6 = c.in_ok-set_back-in-Loop.ensures (bare_code total (before total slot dl ty line s test third body k p leads o placed (onward l1) e1 (onward l2) e2 (onward l3) e3 (onward l4) (onward l5) e4 e5)) o (line_of line pop) far (sym n0) in
    any_ok c.before-in-Loop-2.result
    (loop_made total slot dl ty line s test third body k p leads o placed (onward l1) e1 (onward l2) e2 (onward l3) e3 (onward l4) (onward l5) e4 e5 (onward l6) e6 ∙ ap (λ x. bare_code total (code_lines slot dl ty x k p) ++ o) (sym is))

pub code-returns-in_ok-set_back-in-Repeat-clause-lines : goal.code-returns-in_ok-set_back-in-Repeat-clause-lines
code-returns-in_ok-set_back-in-Repeat-clause-lines t c total k p held0 placed0 =
    let b = c.args.body.now in
    let slot = slot_in b in
    let dl = deleting_in b in
    let ty = types_in b in
    let i = c.in-Repeat in
    let is = ap (code_in b) i.is in
    let line = i.line in
    let s = steps_in b i.steps.items in
    let test = test_of i.test in
    let body = code_in b i.inside.value in
    let leads = c.args.leads in
    let end = c.args.end in
    let l0 = c.args.out.now.items in
    let l1 = c.put-in-Repeat.new.out.items in
    let l2 = c.exit-in-Repeat.new.out.items in
    let l3 = c.head-in-Repeat.new.out.items in
    let l4 = c.code-in-Repeat.new.out.items in
    let l5 = c.set_back-in-Repeat.new.out.items in
    let o = onward l0 in
    let held = subst (λ x. CodeHeld b x k end) is held0 in
    let placed = subst (λ x. IsPlaced (code_size slot dl ty x k) p total leads (length o)) is placed0 in
    let m = c.in_ok-before-in-Repeat.field-0 in
    let at_steps = c.in_ok-at_steps-in-Repeat.at_steps in
    let point = subst (λ xs. at_steps + steps_points (steps_in b xs) ≡ m) c.as_slice-in-Repeat.ensures.value c.in_ok-at_steps-in-Repeat.ensures.point in
    let k1 = repeat_ways b line body s test k in
    let live = tail_live b line body s test k in
    let round : Leads = record { out = c.len-behind-in-Repeat.result; on = c.len-in-Repeat.result } in
    let head_lines = subst (λ xs. HeadLines b (steps_in b xs) m l2 l3) c.as_slice-in-Repeat.ensures.value c.in_ok-at_steps-in-Repeat.ensures.lines in
    let lines_body = subst (λ x. Lines b (code_in b x) round at_steps l3 l4) c.deref-in-Repeat.ensures c.in_ok-at_inside-in-Repeat.ensures.lines in
    let e1 = c.in_ok-put-in-Repeat.ensures in
    let n0 : c.len-behind-in-Repeat.result ≡ length (onward l0) = let e = c.len-behind-in-Repeat.ensures in let w = onward_long l0 in omega (arith, e, w) in
    let n1 = ap length e1 in
    let e2 = c.in_ok-exit-in-Repeat.ensures total 1 (omega (arith, n0, n1)) in
    let e3 = head_lines total live (tail_held b line body s test k end m c.in_ok-before-in-Repeat.ensures held) in
    let n3 : c.len-in-Repeat.result ≡ length (onward l3) = let e = c.len-in-Repeat.ensures in let w = onward_long l3 in omega (arith, e, w) in
    let e4 = lines_body total k1 (inside_place total slot dl ty line body s test k p leads o placed) (inside_held b line body s test k end m at_steps c.in_ok-before-in-Repeat.ensures point held) (inside_placed total slot dl ty line body s test k p leads o placed (onward l1) (onward l2) (onward l3) e1 e2 e3 round n0 n3) in
    let far = repeat_so_far total slot dl ty line body s test k p leads o placed (onward l1) (onward l2) (onward l3) e1 e2 e3 (onward l4) e4 in
    let e5 = c.in_ok-set_back-in-Repeat.ensures (bare_code total (until_back total slot dl ty line body s test k p leads o placed (onward l1) (onward l2) (onward l3) e1 e2 e3 (onward l4) e4)) o (line_of line pop) far (sym n0) in
    any_ok c.before-in-Repeat-2.result
    (repeat_made total slot dl ty line body s test k p leads o placed (onward l1) (onward l2) (onward l3) e1 e2 e3 (onward l4) e4 (onward l5) e5 ∙ ap (λ x. bare_code total (code_lines slot dl ty x k p) ++ o) (sym is))

pub codes-code-requires : goal.codes-code-requires
codes-code-requires t c =
    let b = c.args.body.now in
    let all = c.args.all.now in
    let i = c.loop-i.i in
    let one = c.index-all-i.result in
    let d = c.decreases in
    let lt = c.loop-i-test.true in
    let le = c.loop-i.auto.i in
    let inside : i - 1 < length all = omega (arith, lt, le) in
    let n = node_within b all (i - 1) one inside c.index-all-i.is in
    let k : suc (i - 1) ≡ i = omega (arith, lt) in
    let there = at_last all i one lt le c.index-all-i.is ∙ ap (λ j. one ∷ drop j all) (sym k) in
    let point = subst (λ j. c.loop-i.here + codes_points (codes_in b (drop j all)) ≡ c.args.end) (sym k) c.loop-i.invariant.point in
    (omega (arith, d, n), one_ready b all (i - 1) c.args.end c.loop-i.here one there point c.requires)

pub codes-loop-i-preserved : goal.codes-loop-i-preserved
codes-loop-i-preserved t c =
    let b = c.args.body.now in
    let all = c.args.all.now in
    let i = c.loop-i.i in
    let one = c.index-all-i.result in
    let there = at_last all i one c.loop-i-test.true c.loop-i.auto.i c.index-all-i.is in
    subst (λ xs. MadeFrom b xs c.args.leads c.args.end c.args.out.now.items c.code.new.out.items c.in_ok-here.here) (sym there)
    (one_made b c.args.leads c.args.end c.args.out.now.items one (drop i all) c.loop-i.out.items c.code.new.out.items c.loop-i.here c.in_ok-here.here c.loop-i.invariant c.in_ok-here.ensures.lines c.in_ok-here.ensures.point)
