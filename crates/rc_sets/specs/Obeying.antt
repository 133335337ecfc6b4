-- A line that was obeyed: the answer, the store behind it, and the records, which are right again.
use Rattle.std.specs.Prelude.{◌≡◌, ◌⊎◌, Option, Some, Result, Ok, Err}
use Rattle.rc_base.specs.declared.outside.NoMemory.{NoMemory}
use Rattle.rc_store.specs.Kept.{KeptStore}
use Rattle.rc_replies.specs.Commands.{Command}
use Rattle.rc_replies.specs.declared.reply.Reply.{Reply}
use Rattle.rc_replies.specs.Replies.{line_reply, line_store}
use Rattle.rc_replies.specs.Stores.{IsSame}
use Rattle.rc_sets.specs.Records.{IsKeptBy, RecordsState}

pub record DidLine (command : Option Command) (s s' : KeptStore) (t' : RecordsState) (reply : Reply) : Type 0 where
  pub answered : reply ≡ line_reply command s
  pub left : IsSame (line_store command s) s'
  pub kept : IsKeptBy t' s'

-- where there was no memory the store is as it was, or the line was obeyed and is not answered
abbrev pub MayDoLine : Option Command → (s s' : KeptStore) → RecordsState → Result Reply NoMemory → Type 0
MayDoLine command s s' t' (Ok reply) = DidLine command s s' t' reply
MayDoLine command s s' t' (Err e) = IsSame s s' ⊎ IsSame (line_store command s) s'

abbrev pub MayObey : Command → (s s' : KeptStore) → RecordsState → Result Reply NoMemory → Type 0
MayObey command s s' t' result = MayDoLine (Some command) s s' t' result
