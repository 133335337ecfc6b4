-- Stores that differ in nothing that a script can tell answer each line alike, and differ in no more after it.
use Rattle.std.proofs.Common.{◌≡◌, ◌+◌, ◌∙◌, ℕ, zero, suc, Bool, true, false, cond, nat_lt, List, [], ◌∷◌, ◌++◌, Option, Some, None, refl, sym, ap, ap₂, subst, arith}
use Rattle.std.proofs.Math.Path.{fun_ext}
use Rattle.std.specs.Prelude.{◌&&◌, count_by, sum_by, if◌then◌else◌}
use Rattle.std.proofs.lemmas.Bool.Decides.{nat_tests}
use Rattle.std.proofs.lemmas.List.Sums.{sum_by-append, sum_by-cons}
use Rattle.rc_core.specs.Heap.{Value, Number, Null, Handle, Pointer, names}
use Rattle.rc_store.specs.Kept.{KeptStore, Regions, view_refs}
use Rattle.rc_store.specs.Stores.{deleted, live_in}
use Rattle.rc_store.specs.Sets.{deleted_all, has_child_outside, is_in, set_refs, without}
use Rattle.rc_replies.specs.Commands.{Command, New, Cells, Link, Pin, Unpin, Drop, command_of}
use Rattle.rc_replies.specs.declared.reply.Reply.{Reply}
use Rattle.rc_replies.specs.declared.reply.Reply.TheVariants.{Done, Root, Subregion, Reference, Bad}
use Rattle.rc_replies.specs.Replies.{changed, changes, is_pin, is_set, line_reply, line_store, replies, reply_text, reply_to, store_behind, without_pin}
use Rattle.rc_replies.specs.Stores.{IsSame}

abbrev weight : Bool → ℕ
weight b = cond b 1 0

pub count_cons : {X : Type 0} (test : X → Bool) (v : X) (vs : List X) → count_by test (v ∷ vs) ≡ weight (test v) + count_by test vs
count_cons test v vs = sum_by-cons (λ x. cond (test x) 1 0) v vs

pub count_more : {X : Type 0} (test : X → Bool) (vs us : List X) → count_by test (vs ++ us) ≡ count_by test vs + count_by test us
count_more test vs us = sum_by-append (λ x. cond (test x) 1 0) vs us

-- ---- a pin less

pub pin_is : (r : ℕ) (v : Value) → is_pin r v ≡ true → v ≡ Handle r
pin_is r (Number n) is = cc
pin_is r Null is = cc
pin_is r (Handle q) is = ap Handle (grind (arith, nat_tests, is))
pin_is r (Pointer a) is = cc

abbrev pub taken : (test : Value → Bool) → (r pins : ℕ) → ℕ
taken test r zero = 0
taken test r (suc n) = weight (test (Handle r))

taken_some : (test : Value → Bool) (r n m : ℕ) → n ≡ 1 + m → taken test r n ≡ weight (test (Handle r))
taken_some test r zero m is = absurd (omega (arith, is))
taken_some test r (suc n) m is = refl

counts_step : (test : Value → Bool) (r : ℕ) (v : Value) (vs : List Value) (b : Bool) → is_pin r v ≡ b
    → count_by test (without_pin r vs) + taken test r (count_by (is_pin r) vs) ≡ count_by test vs
    → count_by test (cond b vs (v ∷ without_pin r vs)) + taken test r (count_by (is_pin r) (v ∷ vs)) ≡ count_by test (v ∷ vs)
counts_step test r v vs true is rest =
    let pins = count_cons (is_pin r) v vs ∙ ap (λ b. weight b + count_by (is_pin r) vs) is in
    let all = count_cons test v vs ∙ ap (λ w. weight (test w) + count_by test vs) (pin_is r v is) in
    let some = taken_some test r (count_by (is_pin r) (v ∷ vs)) (count_by (is_pin r) vs) pins in
    omega (arith, all, some)
counts_step test r v vs false is rest =
    let first = count_cons (is_pin r) v vs in
    let none = ap weight is in
    let pins : count_by (is_pin r) (v ∷ vs) ≡ count_by (is_pin r) vs = omega (arith, first, none) in
    let all = count_cons test v vs in
    let less = count_cons test v (without_pin r vs) in
    let same = ap (taken test r) pins in
    omega (arith, all, less, same, rest)

pub counts_without : (test : Value → Bool) (r : ℕ) (vs : List Value) → count_by test (without_pin r vs) + taken test r (count_by (is_pin r) vs) ≡ count_by test vs
counts_without test r [] = refl
counts_without test r (v ∷ vs) = counts_step test r v vs (is_pin r v) refl (counts_without test r vs)

-- ---- deletions

pub deleted_regions : (set : List ℕ) (s t : KeptStore) → t.regions ≡ s.regions → (deleted_all set t).regions ≡ (deleted_all set s).regions
deleted_regions [] s t same = same
deleted_regions (r ∷ set) s t same = deleted_regions set (deleted r s) (deleted r t) (ap (λ (regions : Regions). (deleted r (record s { regions = regions })).regions) same)

pub record OthersStay (s t : KeptStore) : Type 0 where
  pub pins : t.pins ≡ s.pins
  pub region_limit : t.region_limit ≡ s.region_limit
  pub block_limit : t.block_limit ≡ s.block_limit

pub deleted_stays : (set : List ℕ) (s : KeptStore) → OthersStay s (deleted_all set s)
deleted_stays [] s = record { pins = refl; region_limit = refl; block_limit = refl }
deleted_stays (r ∷ set) s = let rest = deleted_stays set (deleted r s) in record { pins = rest.pins; region_limit = rest.region_limit; block_limit = rest.block_limit }

-- ---- one line

module _ (s : KeptStore) (ps : List Value) (n : ℕ) (same : (test : Value → Bool) → count_by test ps ≡ count_by test s.pins) where
  abbrev other : KeptStore
  other = record s { pins = ps; spare = n }

  refs_same : (set : List ℕ) → set_refs other set ≡ set_refs s set
  refs_same set = ap (λ (f : ℕ → ℕ). sum_by f set) (fun_ext (λ r. ap (λ c. sum_by (view_refs r) (without set s.regions) + c) (same (names r))))

  reply_same : (command : Command) → reply_to command other ≡ reply_to command s
  reply_same (New parent) = refl
  reply_same (Cells r k) = refl
  reply_same (Link r o i target) = refl
  reply_same (Pin r) = refl
  reply_same (Unpin r) = ap (λ c. if live_in s.regions r && nat_lt 0 c then Done else Bad) (same (is_pin r))
  reply_same (Drop set) = ap (λ c. if is_set s.regions set then (if is_in set 0 then Root else if has_child_outside set s.regions then Subregion else if nat_lt 0 c then Reference else Done) else Bad) (refs_same set)

  pushed : (test : Value → Bool) (r : ℕ) → count_by test (ps ++ Handle r ∷ []) ≡ count_by test (s.pins ++ Handle r ∷ [])
  pushed test r = count_more test ps (Handle r ∷ []) ∙ ap (λ c. c + count_by test (Handle r ∷ [])) (same test) ∙ sym (count_more test s.pins (Handle r ∷ []))

  unpinned : (test : Value → Bool) (r : ℕ) → count_by test (without_pin r ps) ≡ count_by test (without_pin r s.pins)
  unpinned test r =
      let here = counts_without test r ps in
      let there = counts_without test r s.pins in
      let all = same test in
      let pins = ap (taken test r) (same (is_pin r)) in
      omega (arith, here, there, all, pins)

  changed_same : (command : Command) → IsSame (changed command s) (changed command other)
  changed_same (New parent) = record { regions = refl; pins = same; region_limit = refl; block_limit = refl }
  changed_same (Cells r k) = record { regions = refl; pins = same; region_limit = refl; block_limit = refl }
  changed_same (Link r o i target) = record { regions = refl; pins = same; region_limit = refl; block_limit = refl }
  changed_same (Pin r) = record { regions = refl; pins = λ test. pushed test r; region_limit = refl; block_limit = refl }
  changed_same (Unpin r) = record { regions = refl; pins = λ test. unpinned test r; region_limit = refl; block_limit = refl }
  changed_same (Drop set) =
      let here = deleted_stays set other in
      let there = deleted_stays set s in
      record {
        regions = deleted_regions set s other refl;
        pins = λ test. ap (count_by test) here.pins ∙ same test ∙ sym (ap (count_by test) there.pins);
        region_limit = here.region_limit ∙ sym there.region_limit;
        block_limit = here.block_limit ∙ sym there.block_limit;
      }

  other_same : IsSame s other
  other_same = record { regions = refl; pins = same; region_limit = refl; block_limit = refl }

  either : (a b : Bool) (command : Command) → b ≡ a → IsSame (cond a (changed command s) s) (cond b (changed command other) other)
  either true true command e = changed_same command
  either true false command e = cc
  either false true command e = cc
  either false false command e = other_same

  line_reply_other : (command : Option Command) → line_reply command other ≡ line_reply command s
  line_reply_other None = refl
  line_reply_other (Some command) = reply_same command

  line_store_other : (command : Option Command) → IsSame (line_store command s) (line_store command other)
  line_store_other None = other_same
  line_store_other (Some command) = either (changes (reply_to command s)) (changes (reply_to command other)) command (ap changes (reply_same command))

-- one is the other with other pins and other room
form : (s t : KeptStore) → IsSame s t → t ≡ record s { pins = t.pins; spare = t.spare }
form s t is =
    ap (λ (regions : Regions). (let u : KeptStore = record t { regions = regions } in u)) is.regions
    ∙ ap (λ (n : ℕ). (let u : KeptStore = record t { regions = s.regions; region_limit = n } in u)) is.region_limit
    ∙ ap (λ (n : ℕ). (let u : KeptStore = record t { regions = s.regions; region_limit = s.region_limit; block_limit = n } in u)) is.block_limit

pub line_reply_same : (command : Option Command) (s t : KeptStore) → IsSame s t → line_reply command t ≡ line_reply command s
line_reply_same command s t is = ap (line_reply command) (form s t is) ∙ line_reply_other s t.pins t.spare is.pins command

pub line_store_same : (command : Option Command) (s t : KeptStore) → IsSame s t → IsSame (line_store command s) (line_store command t)
line_store_same command s t is = subst (λ (u : KeptStore). IsSame (line_store command s) (line_store command u)) (sym (form s t is)) (line_store_other s t.pins t.spare is.pins command)

pub replies_same : (lines : List (List ℕ)) (s t : KeptStore) → IsSame s t → replies lines t ≡ replies lines s
replies_same [] s t is = refl
replies_same (line ∷ lines) s t is =
    ap₂ (λ (reply : Reply) (rest : List ℕ). reply_text reply ++ rest) (line_reply_same (command_of line) s t is) (replies_same lines (line_store (command_of line) s) (line_store (command_of line) t) (line_store_same (command_of line) s t is))

pub stores_same : (lines : List (List ℕ)) (s t : KeptStore) → IsSame s t → IsSame (store_behind lines s) (store_behind lines t)
stores_same [] s t is = is
stores_same (line ∷ lines) s t is = stores_same lines (line_store (command_of line) s) (line_store (command_of line) t) (line_store_same (command_of line) s t is)
