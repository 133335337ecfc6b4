use Rattle.std.proofs.Common.{◌∙◌, ◌*◌, List, [], ◌++◌, ap, sym, map, arith}
use Rattle.rc_syntax.specs.Shape.{item_of}
use Rattle.rc_syntax.specs.Tree as t
use Rattle.rc_deletes.specs.Items.{struct_definitions}
use Rattle.rc_linking.specs.Joined.{joined_behind}
use Rattle.rc_link.specs.Answers.{trees_of}
use Rattle.rc_link.proofs.Walking.{joined_here, joined_end, structs_more}
use Rattle.rc_link.proofs.joining.joined.Goals as goal

pub loop-i-init : goal.loop-i-init
loop-i-init c = record { behind = ([], c.new-structs.ensures, ap (λ (is : List t.Item). is ++ joined_behind [] 0 (trees_of c.args.units.now)) (ap (map item_of) (sym c.new-items.ensures.items))) }

pub loop-i-preserved : goal.loop-i-preserved
loop-i-preserved c =
    let b = c.loop-i.invariant.behind in
    let items = c.as_slice-file.result.now in
    record {
      behind = (
        b.0 ++ map item_of items,
        c.in_ok-add_structs.ensures (struct_definitions b.0) b.1 ∙ structs_more b.0 (map item_of items),
        joined_here c.args.units.now c.loop-i.i c.index-units-i.result (omega arith) c.index-units-i.is b.0 (joined_behind [] 0 (trees_of c.args.units.now)) (map item_of c.loop-i.items.items) b.2 items (cc) c.loop-i.structs (map item_of c.add_file.new.joined.items) b.1 c.in_ok-add_file.ensures,
      );
    }

pub returns : goal.returns
returns c =
    let b = c.loop-i.invariant.behind in
    ap (λ (is : List t.Item). record { items = is })
    (joined_end c.args.units.now c.loop-i.i (omega arith) b.0 (map item_of c.loop-i.items.items) (joined_behind [] 0 (trees_of c.args.units.now)) (c.loop-i.i * 1048576) b.2)
