-- A script that is on its way: what was put so far, and what is left.
use Rattle.std.proofs.Common.{◌≡◌, ◌<◌, ◌∙◌, ℕ, zero, suc, List, [], ◌∷◌, ◌++◌, length, take, drop, inl, inr, ◌⊎◌, Some, Ok, Err, refl, sym, ap, ap₂, subst, arith, append_assoc, IsTrue}
use Rattle.std.specs.Prelude.{count_by, slice_index}
use Rattle.std.proofs.lemmas.List.{take-append-le, take_all}
use Rattle.rc_base.specs.Causes.{Rose}
use Rattle.rc_base.specs.Sinks.{SinkState, Took}
use Rattle.rc_base.specs.declared.outside.Failed.{Failed}
use Rattle.rc_base.proofs.ActLaws.{took_nothing, took_then}
use Rattle.rc_core.specs.Heap.{Value}
use Rattle.rc_store.specs.Kept.{KeptStore, Regions}
use Rattle.rc_store.specs.Stores.{IsNew, live_in, no_view, objects_in}
use Rattle.rc_replies.specs.Commands.{command_of, lines_of}
use Rattle.rc_replies.specs.declared.reply.Reply.{Reply}
use Rattle.rc_replies.specs.Replies.{first_store, line_store, replies, reply_text, store_behind}
use Rattle.rc_replies.specs.Stores.{IsSame}
use Rattle.rc_replies.specs.Writing.{StoppedIn, WritesUntil}
use Rattle.rc_replies.proofs.Same.{line_store_same, replies_same, stores_same}
use Rattle.rc_replies.proofs.Written.{stopped_behind, stopped_within}
use Rattle.rc_sets.specs.declared.run.ScriptFault.TheVariants.{WriteFault, Memory}
use Rattle.rc_sets.specs.Obeying.{DidLine}
use Rattle.rc_sets.specs.Records.{AreRecordsOf, AreRows, IsKeptBy, RecordsState}
use Rattle.rc_sets.specs.Scripts.{IsBehindSome, PutText, limits_of}

-- these bytes were put, and those are left
pub record SoFar (total left : List ℕ) (before now : SinkState) : Type 0 where
  pub put : List ℕ
  pub split : total ≡ put ++ left
  pub took : Took put before now
  pub tells : now.tells ≡ before.tells
  pub flushed : IsTrue before.tells → now.flushed ≡ before.flushed
  pub faults : now.faults ≡ before.faults

pub started : (total left : List ℕ) (out : SinkState) → total ≡ left → SoFar total left out out
started total left out same = record { put = []; split = same; took = took_nothing out; tells = refl; flushed = λ tells. refl; faults = refl }

pub went_on : {T : Type 0} (total line left all : List ℕ) (a b c : SinkState) (value : T) → SoFar total all a b → all ≡ line ++ left → WritesUntil line b c (Ok value) → SoFar total left a c
went_on total line left all a b c value far parts w = record {
  put = far.put ++ line;
  split = far.split ∙ ap (λ bytes. far.put ++ bytes) parts ∙ sym (append_assoc far.put line left);
  took = took_then far.put line a b c far.tells far.took w.ok;
  tells = w.tells ∙ far.tells;
  flushed = λ tells. w.flushed (far.tells ∙ tells) ∙ far.flushed tells;
  faults = w.cause.kept refl ∙ far.faults;
}

pub stopped : {T U : Type 0} (total line left all : List ℕ) (a b c : SinkState) (e : Failed) → SoFar total all a b → all ≡ line ++ left → WritesUntil {T = T} line b c (Err e) → PutText {T = U} total a c (Err WriteFault)
stopped total line left all a b c e far parts w =
    let faults = far.faults in
    let later = w.cause.never_falls in
    record {
      tells = w.tells ∙ far.tells;
      whole = tt;
      stopped = λ is. subst (λ (bytes : List ℕ). StoppedIn bytes a c) (sym (far.split ∙ ap (λ bytes. far.put ++ bytes) parts)) (stopped_behind far.put (line ++ left) a b c far.tells far.took (stopped_within line left b c w.failed));
      cut = λ is. cc;
      flushed = λ tells. w.flushed (far.tells ∙ tells) ∙ far.flushed tells;
      never_falls = omega (arith, faults, later);
      rose = λ is. subst (λ (n : ℕ). Rose n c.faults) far.faults (w.cause.failed refl);
      kept = λ ok. cc;
      kept_without_memory = λ is. cc;
    }

pub cut : {T : Type 0} (total left : List ℕ) (a b : SinkState) → SoFar total left a b → PutText {T = T} total a b (Err Memory)
cut total left a b far =
    let faults = far.faults in
    record {
      tells = far.tells;
      whole = tt;
      stopped = λ is. cc;
      cut = λ is. (length far.put, subst (λ (bytes : List ℕ). Took bytes a b) (sym (ap (take (length far.put)) far.split ∙ take-append-le (length far.put) far.put left (omega arith) ∙ take_all (length far.put) far.put (omega arith))) far.took);
      flushed = far.flushed;
      never_falls = omega (arith, faults);
      rose = λ is. cc;
      kept = λ ok. cc;
      kept_without_memory = λ is. far.faults;
    }

-- ---- stores

pub same_then : (s t u : KeptStore) → IsSame s t → IsSame t u → IsSame s u
same_then s t u first next = record {
  regions = next.regions ∙ first.regions;
  pins = λ test. next.pins test ∙ first.pins test;
  region_limit = next.region_limit ∙ first.region_limit;
  block_limit = next.block_limit ∙ first.block_limit;
}

-- a new heap is the first store
pub new_same : (s : KeptStore) → IsNew s → IsSame (first_store (limits_of s)) s
new_same s new = record {
  regions = new.regions;
  pins = λ test. ap (count_by test) new.pins;
  region_limit = refl;
  block_limit = refl;
}

one_region : (r : ℕ) → IsTrue (live_in (Some no_view ∷ []) r) → slice_index (0 ∷ []) r ≡ length (objects_in (Some no_view ∷ []) r)
one_region zero live = refl
one_region (suc r) live = refl

no_objects : (r o : ℕ) → o < length (objects_in (Some no_view ∷ []) r) → ⊥
no_objects zero o there = omega (arith, there)
no_objects (suc r) o there = omega (arith, there)

no_pins : (r : ℕ) → slice_index (0 ∷ []) r ≡ 0
no_pins zero = refl
no_pins (suc r) = refl

pub new_kept : (s : KeptStore) (t : RecordsState) → IsNew s → t ≡ record { objects = 0 ∷ []; pins = 0 ∷ [] } → IsKeptBy t s
new_kept s t new is =
    let first : RecordsState = record { objects = 0 ∷ []; pins = 0 ∷ [] } in
    subst (λ (u : RecordsState). IsKeptBy u s) (sym is)
    (record {
      records = subst (λ (regions : Regions). AreRecordsOf first regions s.pins) (sym new.regions)
          (subst (λ (pins : List Value). AreRecordsOf first (Some no_view ∷ []) pins) (sym new.pins)
          (record { all_objects = refl; all_pins = refl; objects = one_region; pins = no_pins }));
      rows = subst AreRows (sym new.regions) (λ r o there. absurd (no_objects r o there));
    })

-- ---- the next line

pub next_text : (rest line next : List ℕ) (s s' : KeptStore) (t' : RecordsState) (reply : Reply) → lines_of rest ≡ line ∷ lines_of next → DidLine (command_of line) s s' t' reply → replies (lines_of rest) s ≡ reply_text reply ++ replies (lines_of next) s'
next_text rest line next s s' t' reply parts did =
    ap (λ lines. replies lines s) parts
    ∙ ap₂ (λ (r : Reply) (bytes : List ℕ). reply_text r ++ bytes) (sym did.answered) (sym (replies_same (lines_of next) (line_store (command_of line) s) s' did.left))

pub next_store : (rest line next : List ℕ) (s s' final : KeptStore) (t' : RecordsState) (reply : Reply) → lines_of rest ≡ line ∷ lines_of next → DidLine (command_of line) s s' t' reply → IsSame final (store_behind (lines_of rest) s) → IsSame final (store_behind (lines_of next) s')
next_store rest line next s s' final t' reply parts did far =
    same_then final (store_behind (lines_of next) (line_store (command_of line) s)) (store_behind (lines_of next) s')
    (subst (λ (lines : List (List ℕ)). IsSame final (store_behind lines s)) parts far)
    (stores_same (lines_of next) (line_store (command_of line) s) s' did.left)

-- ---- how many lines were obeyed

-- so many, and these are left
pub record Obeyed (lines left : List (List ℕ)) (first s : KeptStore) : Type 0 where
  pub count : ℕ
  pub rest : drop count lines ≡ left
  pub same : IsSame (store_behind (take count lines) first) s

pub none_obeyed : (lines : List (List ℕ)) (first s : KeptStore) → IsSame first s → Obeyed lines lines first s
none_obeyed lines first s same = record { count = 0; rest = refl; same = same }

next_line : (n : ℕ) (lines : List (List ℕ)) (line : List ℕ) (next : List (List ℕ)) (s : KeptStore) → drop n lines ≡ line ∷ next → (drop (suc n) lines ≡ next) × (store_behind (take (suc n) lines) s ≡ line_store (command_of line) (store_behind (take n lines) s))
next_line zero [] line next s is = cc
next_line zero (l ∷ ls) line next s is = (cc, ap (λ (x : List ℕ). line_store (command_of x) s) (head_is l line ls next is))
  where
    head_is : (a b : List ℕ) (xs ys : List (List ℕ)) → a ∷ xs ≡ b ∷ ys → a ≡ b
    head_is a b xs ys e = cc
next_line (suc n) [] line next s is = cc
next_line (suc n) (l ∷ ls) line next s is = next_line n ls line next (line_store (command_of l) s) is

pub one_obeyed : (lines next : List (List ℕ)) (line : List ℕ) (first s s' : KeptStore) → Obeyed lines (line ∷ next) first s → IsSame (line_store (command_of line) s) s' → Obeyed lines next first s'
one_obeyed lines next line first s s' far did =
    let step = next_line far.count lines line next first far.rest in
    record {
      count = suc far.count;
      rest = step.0;
      same = subst (λ (u : KeptStore). IsSame u s') (sym step.1)
          (same_then (line_store (command_of line) (store_behind (take far.count lines) first)) (line_store (command_of line) s) s' (line_store_same (command_of line) (store_behind (take far.count lines) first) s far.same) did);
    }

-- without memory for a line
pub some_obeyed : (lines left next : List (List ℕ)) (line : List ℕ) (first s s' : KeptStore) → Obeyed lines left first s → left ≡ line ∷ next → IsSame s s' ⊎ IsSame (line_store (command_of line) s) s' → IsBehindSome lines first s'
some_obeyed lines left next line first s s' far parts (inl same) = (far.count, same_then (store_behind (take far.count lines) first) s s' far.same same)
some_obeyed lines left next line first s s' far parts (inr did) = behind (one_obeyed lines next line first s s' (subst (λ (ls : List (List ℕ)). Obeyed lines ls first s) parts far) did)
  where
    behind : Obeyed lines next first s' → IsBehindSome lines first s'
    behind far = (far.count, far.same)
