use Rattle.std.proofs.Common.{◌≡◌, ◌≤◌, ◌+◌, ◌*◌, ◌∙◌, length, get_or, map, sym, ap, subst, arith}
use Rattle.std.proofs.lemmas.List.{length-map}
use Rattle.rc_core.specs.Laid.{held_kind}
use Rattle.rc_core.specs.Shapes.{kinds_in}
use Rattle.rc_core.specs.Shapes.{cell_kind_of}
use Rattle.rc_store.specs.Kept.{KeptStore, Regions}
use Rattle.rc_store.specs.Stores.{IsLive, all_cells}
use Rattle.rc_count.specs.Counted.{IsCounted}
use Rattle.rc_count.proofs.Counting.{counted_allocated}
use Rattle.rc_count.proofs.count.CountHeap.append.Goals as goal

pub push-requires-clause-size : goal.push-requires-clause-size
push-requires-clause-size g c =
    let width : c.len.result ≡ length c.args.kind.now.cells.items = omega (arith, c.len.ensures, c.args.kind.now.cells.ok.0) in
    c.in_ok-size.ensures ∙ ap (λ n. c.args.count * n) width

pub invariant_of-self-2 : goal.invariant_of-self-2
invariant_of-self-2 g c =
    let h = c.self.inside in
    let s : KeptStore = record { regions = h.space.regions; pins = h.pins.pins; spare = h.pins.spare; region_limit = h.region_limit; block_limit = h.block_limit } in
    let with : Regions → KeptStore = λ rs. record s { regions = rs } in
    let ks = map held_kind (kinds_in c.args.kind.now) in
    let width : c.len.result ≡ length ks = omega (arith, c.len.ensures, c.args.kind.now.cells.ok.0, length-map (kinds_in c.args.kind.now) held_kind, length-map c.args.kind.now.cells.items cell_kind_of) in
    let total : c.in_ok-cells.cells ≡ all_cells s + c.args.count * length ks = c.in_ok-cells.ensures.total ∙ ap (λ x. all_cells x + c.in_ok-size.size) (sym c.self.view_is) ∙ ap (λ n. all_cells s + n) (c.in_ok-size.ensures ∙ ap (λ n. c.args.count * n) width) in
    let few : c.in_ok-cells.cells + length s.pins + s.spare ≤ 18446744073709551615 = subst (λ (x : KeptStore). c.in_ok-cells.cells + length x.pins + x.spare ≤ 18446744073709551615) (sym c.self.view_is) c.in_ok-cells.ensures.few in
    let live : IsLive s c.args.region = subst (λ x. IsLive x c.args.region) (sym c.self.view_is) c.requires.live in
    subst (λ rs. IsCounted c.push.new.self (with rs) c.in_ok-cells.cells) (sym c.in_ok-push.ensures.ok)
    (counted_allocated h.space s h.cells c.self.invariant c.push.new.self c.args.region c.args.count ks c.in_ok-cells.cells live (λ r. ap (λ ns. get_or ns r 0) c.in_ok-push.ensures.counts) total few)
