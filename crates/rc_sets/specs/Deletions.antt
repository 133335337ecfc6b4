-- The answer of a deletion of a set, and the store behind it.
use Rattle.std.specs.Prelude.{◌≡◌, ℕ, List, if◌then◌else◌}
use Rattle.rc_store.specs.Kept.{KeptStore}
use Rattle.rc_store.specs.Sets.{deleted_all}
use Rattle.rc_replies.specs.declared.reply.Reply.{Reply}
use Rattle.rc_replies.specs.Replies.{changes, deletion_reply}

pub record Deletes (set : List ℕ) (s s' : KeptStore) (reply : Reply) : Type 0 where
  pub answered : reply ≡ deletion_reply set s
  pub left : s' ≡ (if changes reply then deleted_all set s else s)
