use Rattle.std.proofs.Common.{◌∙◌, ap, length, nat_eq}
use Rattle.std.proofs.lemmas.Map.Views.{btree_set_len-from_list}
use Rattle.std.specs.Cmp.{nat_cmp_total}
use Rattle.rc_sets.proofs.Lines.{counted_apart}
use Rattle.rc_sets.proofs.deletion.are_distinct.Goals as goal

pub returns : goal.returns
returns c = ap (λ n. nat_eq n (length c.args.regions.now)) (c.len.ensures.len ∙ btree_set_len-from_list nat_cmp_total c.args.regions.now c.in_ok-set.set c.in_ok-set.ensures ∙ counted_apart c.args.regions.now)
