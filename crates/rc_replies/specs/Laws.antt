-- Of stores that differ in nothing that a script can tell, a script tells nothing apart.
use Rattle.std.specs.Prelude.{◌≡◌, ℕ, List}
use Rattle.rc_store.specs.Kept.{KeptStore}
use Rattle.rc_replies.specs.Replies.{replies, store_behind}
use Rattle.rc_replies.specs.Stores.{IsSame}

pub record SameStoresAnswerAlike : Type 0 where
  pub replies : (lines : List (List ℕ)) (s t : KeptStore) → IsSame s t → replies lines t ≡ replies lines s
  pub stores : (lines : List (List ℕ)) (s t : KeptStore) → IsSame s t → IsSame (store_behind lines s) (store_behind lines t)
