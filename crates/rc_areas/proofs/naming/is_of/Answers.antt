use Rattle.std.proofs.Common.{◌≡◌, ◌∙◌, ap, arith, get_or, length, map, refl, rules, sym}
use Rattle.std.proofs.lemmas.Bool.{false≢true}
use Rattle.std.proofs.lemmas.List.{length-map}
use Rattle.rc_core.specs.Laid.{held_kind}
use Rattle.rc_core.specs.Shapes.{cell_kind_of}
use Rattle.rc_core.specs.Shapes.{kinds_in}
use Rattle.rc_core.specs.declared.layouts.Kind.TheVariants.{Number}
use Rattle.rc_areas.specs.Naming.{kind_byte}
use Rattle.rc_areas.specs.Shapes.{is_kind}
use Rattle.rc_areas.proofs.Named.{alike, kind_among, kind_itself, more_alike}
use Rattle.rc_areas.proofs.Same.{same_kind}
use Rattle.rc_areas.proofs.naming.is_of.Goals as goal

pub loop-i-preserved : goal.loop-i-preserved
loop-i-preserved c =
    let i = c.loop-i.i in
    let shape = map held_kind (kinds_in c.args.layout.now) in
    let test = c.loop-i-test.true in
    let long = c.if-shape-cells.false in
    let count : length shape ≡ length c.as_slice-cells.result.now = length-map (kinds_in c.args.layout.now) held_kind ∙ length-map c.args.layout.now.cells.items cell_kind_of ∙ ap length (sym c.as_slice-cells.ensures.value) in
    let here = kind_among c.args.layout.now c.as_slice-cells.result.now i c.index-cells-i.result (c.as_slice-cells.ensures.value) test c.index-cells-i.is in
    more_alike c.args.shape.now shape i (omega (arith, test, long)) (omega (arith, test, count)) c.loop-i.invariant
    (ap kind_byte (same_kind (get_or c.args.shape.now i Number) (held_kind (cell_kind_of c.index-cells-i.result)) (sym c.is_kind_of.ensures ∙ search (rules, c.if-not-is_kind_of.false)) ∙ sym here))

pub returns : goal.returns
returns c =
    let shape = map held_kind (kinds_in c.args.layout.now) in
    let count : length shape ≡ length c.as_slice-cells.result.now = length-map (kinds_in c.args.layout.now) held_kind ∙ length-map c.args.layout.now.cells.items cell_kind_of ∙ ap length (sym c.as_slice-cells.ensures.value) in
    let long = c.if-shape-cells.false in
    let last = c.loop-i-test.false in
    let within = c.loop-i.auto.i-end in
    (λ yes. alike c.args.shape.now shape c.loop-i.i (omega (arith, long, last, within)) (long ∙ sym count) c.loop-i.invariant, λ same. refl)

pub returns-then-not-is_kind_of : goal.returns-then-not-is_kind_of
returns-then-not-is_kind_of c =
    let here = kind_among c.args.layout.now c.as_slice-cells.result.now c.loop-i.i c.index-cells-i.result (c.as_slice-cells.ensures.value) c.loop-i-test.true c.index-cells-i.is in (
      λ no. absurd (false≢true no),
      λ same. absurd (false≢true (sym (search (rules, c.if-not-is_kind_of.true)) ∙ c.is_kind_of.ensures ∙ ap (λ k. is_kind k (held_kind (cell_kind_of c.index-cells-i.result))) (ap (λ s. get_or s c.loop-i.i Number) same ∙ here) ∙ kind_itself (held_kind (cell_kind_of c.index-cells-i.result)))),
    )
