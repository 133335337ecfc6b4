use Rattle.std.proofs.Common.{sym, ◌∙◌, subst}
use Rattle.rc_rlang.specs.LiveMaps.{IsMap}
use Rattle.rc_rlang.specs.Shapes.{rlang_of}
use Rattle.rc_live.proofs.Deleting.{nothing_listed, empty_are_map}
use Rattle.rc_live.proofs.program.none.Goals as goal

pub new-requires : goal.new-requires
new-requires c =
    let r = rlang_of c.args.code.now in
    subst IsMap (sym (c.in_ok-lists.ensures ∙ nothing_listed r)) (empty_are_map c.lists_are_maps.ensures r)

pub returns : goal.returns
returns c = c.new.ensures ∙ c.in_ok-lists.ensures ∙ nothing_listed (rlang_of c.args.code.now)
