use Rattle.std.proofs.Common.{◌≡◌, ◌+◌, ◌++◌, ◌∷◌, [], suc, drop, length, sym, ap, ◌∙◌, arith}
use Rattle.std.proofs.lemmas.List.{length-map, length-drop}
use Rattle.rc_core.specs.Laid.{held_kind}
use Rattle.rc_rlang.specs.RegionFlow.{cell_effects, in_line, going, is_regional_cell, loading, storing, temporary_variable}
use Rattle.rc_graph.specs.Nodes.{nodes_of, effect_of}
use Rattle.rc_graph.proofs.Walking.{cells_more, last_cell, last_or, split_at}
use Rattle.rc_graph.proofs.acts.cells.Goals as goal

pub loop-i-preserved : goal.loop-i-preserved
loop-i-preserved c f v u layout hv hu ht same =
    let l = c.loop-i in
    let i = l.i in
    let within = c.loop-i-test.true in
    let long = ap length same ∙ length-map layout held_kind in
    let s = split_at layout i (omega (arith, within, long)) in
    let rest = drop (suc i) layout in
    let note = c.note_at-note.ensures layout s.item same s.there in
    let second = c.in_ok-second.ensures in
    let behind = c.in_ok-behind.ensures in
    let k2 : c.in_ok-second.second ≡ suc l.at = omega (arith, second) in
    let k3 : c.in_ok-behind.behind ≡ suc (suc l.at) = omega (arith, second, behind) in
    let h = c.args.holders in
    let short = length-drop (suc i) layout in
    let to = c.either-to.ensures ∙ last_cell rest (i + 1) (length c.args.kinds.now) c.in_ok-behind.behind c.args.next (omega (arith, short, long)) (omega (arith, within)) ∙ ap (last_or rest c.args.next) k3 in
    let regional = c.regional_at-regional.ensures layout s.item same s.there in
    let e = effect_of c.load_cell-load.result in
    let d = effect_of c.store_cell-store.result in
    let le = c.load_cell-load.ensures f v u hv hu ∙ ap (λ b. loading f b c.note_at-note.result v u) regional ∙ ap (λ m. loading f (is_regional_cell s.item) m v u) note in
    let ls = c.store_cell-store.ensures f v 0 hv ht ∙ ap (λ b. storing f b c.note_at-note.result v 0) regional ∙ ap (λ m. storing f (is_regional_cell s.item) m v 0) note in
    let all = l.invariant f v u layout hv hu ht same ∙ ap (λ ks. nodes_of l.out.items ++ in_line (cell_effects f v u ks) l.at c.args.next) s.rest in
    let first = c.in_ok-go.ensures ∙ ap (λ n. nodes_of l.out.items ++ going e n ∷ []) k2 in
    let done = cells_more f v u s.item rest l.at c.either-to.result c.args.next e d
    (nodes_of c.args.out.now.items ++ in_line (cell_effects f v u layout) c.args.here c.args.next) (nodes_of l.out.items) (nodes_of c.go.new.out.items) (nodes_of c.go-in-loop-i.new.out.items) all to le ls first c.in_ok-go-2.ensures in
    let j : suc i ≡ i + 1 = omega arith in
    done ∙ ap (λ k. nodes_of c.go-in-loop-i.new.out.items ++ in_line (cell_effects f v u (drop k layout)) (suc (suc l.at)) c.args.next) j ∙ ap (λ p. nodes_of c.go-in-loop-i.new.out.items ++ in_line (cell_effects f v u (drop (i + 1) layout)) p c.args.next) (sym k3)
