use Rattle.std.proofs.Common.{◌≡◌, ◌∙◌, ◌+◌, suc, map, ap, subst, arith}
use Rattle.rc_prove.specs.Family.{items_of}
use Rattle.rc_prove.specs.Starting.{IsFull}
use Rattle.rc_prove.proofs.Starts.{pushed_items}
use Rattle.rc_prove.proofs.start.push_full.Goals as goal

pub returns : goal.returns
returns c = record {
  entry = c.in_ok-entry.entry;
  exit = c.in_ok-exit.exit;
  frames = c.in_ok-frames.frames.items;
  entries_are = c.in_ok-push.ensures.items;
  exits_are = c.in_ok-push-2.ensures.items;
  frames_are = ap (map items_of) c.in_ok-push-3.ensures.items ∙ pushed_items c.args.claims.now.frames.items c.in_ok-frames.frames;
  entry_full = c.in_ok-entry.ensures;
  exit_full = subst (λ n. IsFull c.args.counts.answers n c.in_ok-exit.exit) (let e : c.args.counts.copies + 1 ≡ suc c.args.counts.copies = omega arith in e) c.in_ok-exit.ensures;
  frames_full = c.in_ok-frames.ensures;
}
