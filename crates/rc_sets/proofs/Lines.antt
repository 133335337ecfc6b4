-- What a line answers and what it changes, from what was asked of the heap and of the records.
use Rattle.std.proofs.Common.{◌≡◌, ◌<◌, ◌≤◌, ◌+◌, ◌∙◌, ℕ, Bool, true, false, cond, nat_eq, nat_lt, zero, suc, inl, inr, List, [], ◌∷◌, ◌++◌, get_or, set, length, Option, Some, refl, sym, ap, subst, arith, Contains, ◌==◌}
use Rattle.std.specs.Prelude.{◌&&◌, count_by, nat_le, IsPermutation}
use Rattle.std.specs.List.{list_all}
use Rattle.std.specs.Set.{distinct_count}
use Rattle.std.specs.Ordering.{eq_by_cmp, nat_cmp}
use Rattle.std.specs.Cmp.{nat_eq_equiv, unsigned_Decides, unsigned_tied}
use Rattle.std.proofs.Math.Path.{fun_ext}
use Rattle.std.proofs.lemmas.Bool.{cases_Bool}
use Rattle.std.proofs.lemmas.Bool.Decides.{nat_tests}
use Rattle.std.proofs.lemmas.List.Sums.{AllPass-from_list_all}
use Rattle.std.proofs.lemmas.List.Sorted.{sum_by-IsPermutation}
use Rattle.std.proofs.lemmas.Map.Made.{AllPairs-from_IsDistinct, IsDistinct-from_count, is_member-Decides}
use Rattle.rc_core.specs.declared.layouts.Kind.TheVariants.{Region as RegionKind}
use Rattle.rc_core.specs.Heap.{Value, Handle}
use Rattle.rc_store.specs.Kept.{KeptStore}
use Rattle.rc_store.specs.Stores.{allocated, live_in, made, object_in, objects_in, written}
use Rattle.rc_store.specs.Sets.{IsSet, deleted_all, has_child_outside, is_in, set_refs}
use Rattle.rc_replies.specs.Commands.{Command, New, Cells, Link, Pin, Unpin, Drop}
use Rattle.rc_replies.specs.declared.reply.Reply.{Reply}
use Rattle.rc_replies.specs.declared.reply.Reply.TheVariants.{Region, Object, Full, Done, Root, Subregion, Reference, Bad}
use Rattle.rc_replies.specs.Replies.{changed, changes, deletion_reply, has_cell, is_pin, is_target, place, reply_to, target_value, without_pin}
use Rattle.rc_replies.specs.Stores.{IsSame}
use Rattle.rc_replies.proofs.Same.{counts_without, count_cons, pin_is, taken}
use Rattle.rc_sets.specs.Deletions.{Deletes}
use Rattle.rc_sets.specs.Obeying.{DidLine}
use Rattle.rc_sets.specs.Records.{IsKeptBy, RecordsState}
use Rattle.rc_sets.proofs.Keeping.{kept_allocated, kept_deleted, kept_made, kept_pinned, kept_unpinned, kept_written}

pub same_as : (s : KeptStore) → IsSame s s
same_as s = record { regions = refl; pins = λ test. refl; region_limit = refl; block_limit = refl }

-- a line that changed the store
obeyed : (command : Command) (s s' : KeptStore) (t' : RecordsState) (reply : Reply) → reply ≡ reply_to command s → changes reply ≡ true → IsSame (changed command s) s' → IsKeptBy t' s' → DidLine (Some command) s s' t' reply
obeyed command s s' t' reply is yes' same kept = record {
  answered = is;
  left = subst (λ b. IsSame (cond b (changed command s) s) s') (sym (ap changes (sym is) ∙ yes')) same;
  kept = kept;
}

test_true : (a b : ℕ) → a < b → nat_lt a b ≡ true
test_true a b less = grind (arith, nat_tests, less)

test_false : (a b : ℕ) → (a < b → ⊥) → nat_lt a b ≡ false
test_false a b more = grind (arith, nat_tests, more)

le_true : (a b : ℕ) → a ≤ b → nat_le a b ≡ true
le_true a b below = grind (arith, nat_tests, below)

le_false : (a b : ℕ) → (a ≤ b → ⊥) → nat_le a b ≡ false
le_false a b above = grind (arith, nat_tests, above)

module _ (s : KeptStore) (t : RecordsState) (kept : IsKeptBy t s) where
  -- ---- a region

  pub new_made : (parent n : ℕ) (s' : KeptStore) → live_in s.regions parent ≡ true → (s.region_limit < length s.regions → ⊥) → n ≡ length s.regions → s' ≡ made parent s → DidLine (Some (New parent)) s s' (record { objects = t.objects ++ 0 ∷ []; pins = t.pins ++ 0 ∷ [] }) (Region n)
  new_made parent n s' live room number same =
      let after : RecordsState = record { objects = t.objects ++ 0 ∷ []; pins = t.pins ++ 0 ∷ [] } in
      let is = ap Region number ∙ ap (λ b. cond b Full (Region (length s.regions))) (sym (test_false s.region_limit (length s.regions) room))
      ∙ ap (λ b. cond b (cond (nat_lt s.region_limit (length s.regions)) Full (Region (length s.regions))) Bad) (sym live) in
      obeyed (New parent) s s' after (Region n) is refl
      (subst (λ (u : KeptStore). IsSame (made parent s) u) (sym same) (same_as (made parent s)))
      (subst (λ (u : KeptStore). IsKeptBy after u) (sym same) (kept_made t s parent kept))

  -- ---- an object

  abbrev cells_reply : (r : ℕ) → Bool → Reply
  cells_reply r b = cond b (cond (nat_le s.block_limit (length (objects_in s.regions r))) Full (Object (length (objects_in s.regions r)))) Bad

  cells_fit : (r n : ℕ) → live_in s.regions r ≡ true → n ≤ 2147483647 → cells_reply r true ≡ reply_to (Cells r n) s
  cells_fit r n live short = ap (cells_reply r) (sym (le_true n 2147483647 short)) ∙ ap (λ b. cells_reply r (b && nat_le n 2147483647)) (sym live)

  pub cells_made : (r n o : ℕ) (s' : KeptStore) → live_in s.regions r ≡ true → n ≤ 2147483647 → (s.block_limit ≤ length (objects_in s.regions r) → ⊥) → o ≡ length (objects_in s.regions r) → s' ≡ allocated r (RegionKind ∷ []) n s → DidLine (Some (Cells r n)) s s' (record t { objects = set t.objects r (o + 1) }) (Object o)
  cells_made r n o s' live short room number same =
      let is = ap Object number ∙ ap (λ b. cond b Full (Object (length (objects_in s.regions r)))) (sym (le_false s.block_limit (length (objects_in s.regions r)) room)) ∙ cells_fit r n live short in
      let after = kept_allocated t s r n kept live in
      obeyed (Cells r n) s s' (record t { objects = set t.objects r (o + 1) }) (Object o) is refl
      (subst (λ (u : KeptStore). IsSame (allocated r (RegionKind ∷ []) n s) u) (sym same) (same_as (allocated r (RegionKind ∷ []) n s)))
      (subst (λ (u : KeptStore). IsKeptBy (record t { objects = set t.objects r (o + 1) }) u) (sym same)
      (subst (λ (k : ℕ). IsKeptBy (record t { objects = set t.objects r (k + 1) }) (allocated r (RegionKind ∷ []) n s)) (sym number) after))

  -- ---- a cell

  has_region : (r o i : ℕ) (b c d : Bool) → live_in s.regions r ≡ b → (b && c && d) ≡ true → live_in s.regions r ≡ true
  has_region r o i true c d is all = is
  has_region r o i false c d is all = cc

  pub linked : (r o i : ℕ) (target : Option ℕ) (s' : KeptStore) → has_cell s.regions r o i ≡ true → is_target s.regions target ≡ true → s' ≡ written (place r o i) (target_value target) s → DidLine (Some (Link r o i target)) s s' t Done
  linked r o i target s' has fits same =
      let live = has_region r o i (live_in s.regions r) (nat_lt o (length (objects_in s.regions r))) (nat_lt i (object_in s.regions r o).count) refl has in
      obeyed (Link r o i target) s s' t Done (ap (λ b. cond b Done Bad) (sym fits) ∙ ap (λ b. cond (b && is_target s.regions target) Done Bad) (sym has)) refl
      (subst (λ (u : KeptStore). IsSame (written (place r o i) (target_value target) s) u) (sym same) (same_as (written (place r o i) (target_value target) s)))
      (subst (λ (u : KeptStore). IsKeptBy t u) (sym same) (kept_written t s r o i (target_value target) kept live))

  -- ---- pins

  -- with other room
  pub pinned : (r n k : ℕ) (s' : KeptStore) → live_in s.regions r ≡ true → get_or t.pins r 0 + 1 ≡ n → s' ≡ record s { pins = s.pins ++ Handle r ∷ []; spare = k } → DidLine (Some (Pin r)) s s' (record t { pins = set t.pins r n }) Done
  pinned r n k s' live more same =
      let new : KeptStore = record s { pins = s.pins ++ Handle r ∷ []; spare = k } in
      let after : RecordsState = record t { pins = set t.pins r n } in
      subst (λ (u : KeptStore). DidLine (Some (Pin r)) s u after Done) (sym same)
      (obeyed (Pin r) s new after Done (ap (λ b. cond b Done Bad) (sym live)) refl
      (record { regions = refl; pins = λ test. refl; region_limit = refl; block_limit = refl })
      (record { records = kept_pinned t s r n kept live more; rows = kept.rows }))

  taken_pin : (test : Value → Bool) (r n : ℕ) → 0 < n → taken test r n ≡ cond (test (Handle r)) 1 0
  taken_pin test r zero some = absurd (omega (arith, some))
  taken_pin test r (suc n) some = refl

  pub unpinned : (r n k : ℕ) (pins : List Value) (s' : KeptStore) → live_in s.regions r ≡ true → n + 1 ≡ get_or t.pins r 0 → IsPermutation s.pins (Handle r ∷ pins) → s' ≡ record s { pins = pins; spare = k } → DidLine (Some (Unpin r)) s s' (record t { pins = set t.pins r n }) Done
  unpinned r n k pins s' live less out same =
      let new : KeptStore = record s { pins = pins; spare = k } in
      let after : RecordsState = record t { pins = set t.pins r n } in
      let counted = kept.records.pins r in
      let some : 0 < count_by (is_pin r) s.pins = omega (arith, counted, less) in
      let is = ap (λ b. cond b Done Bad) (sym (test_true 0 (count_by (is_pin r) s.pins) some)) ∙ ap (λ b. cond (b && nat_lt 0 (count_by (is_pin r) s.pins)) Done Bad) (sym live) in
      let counts : (test : Value → Bool) → count_by test pins ≡ count_by test (without_pin r s.pins) = λ test.
      let one = taken_pin test r (count_by (is_pin r) s.pins) some in
      let all = counts_without test r s.pins in
      let first = count_cons test (Handle r) pins in
      let moved = sum_by-IsPermutation (λ v. cond (test v) 1 0) s.pins (Handle r ∷ pins) out in
      omega (arith, one, all, first, moved) in
      subst (λ (u : KeptStore). DidLine (Some (Unpin r)) s u after Done) (sym same)
      (obeyed (Unpin r) s new after Done is refl
      (record { regions = refl; pins = counts; region_limit = refl; block_limit = refl })
      (record { records = kept_unpinned t s r n pins kept live less out; rows = kept.rows }))

  -- ---- a set

  abbrev drop_reply : List ℕ → Bool → Reply
  drop_reply set b = cond b (deletion_reply set s) Bad

  pub set_is : (set : List ℕ) → list_all (live_in s.regions) set ≡ true → (distinct_count nat_eq set == length set) ≡ true → IsSet s set
  set_is set live distinct = record {
    live = AllPass-from_list_all (live_in s.regions) set live;
    distinct = AllPairs-from_IsDistinct unsigned_Decides set (IsDistinct-from_count nat_eq_equiv set ((unsigned_Decides (distinct_count nat_eq set) (length set)).0 distinct));
  }

  kept_either : (set : List ℕ) (b : Bool) → IsKeptBy t (cond b (deleted_all set s) s)
  kept_either set true = kept_deleted t s set kept
  kept_either set false = kept

  pub dropped : (set : List ℕ) (s' : KeptStore) (reply : Reply) → list_all (live_in s.regions) set ≡ true → (distinct_count nat_eq set == length set) ≡ true → Deletes set s s' reply → DidLine (Some (Drop set)) s s' t reply
  dropped set s' reply live distinct did =
      let is : reply ≡ reply_to (Drop set) s = did.answered ∙ ap (drop_reply set) (sym distinct) ∙ ap (λ b. drop_reply set (b && (distinct_count nat_eq set == length set))) (sym live) in
      let after : s' ≡ cond (changes (reply_to (Drop set) s)) (deleted_all set s) s = did.left ∙ ap (λ r. cond (changes r) (deleted_all set s) s) is in
      record {
        answered = is;
        left = subst (λ (u : KeptStore). IsSame u s') after (same_as s');
        kept = subst (IsKeptBy t) (sym did.left) (kept_either set (changes reply));
      }

-- ---- deletions

pub no_member : (set : List ℕ) → (Contains set 0 → ⊥) → is_in set 0 ≡ false
no_member set not = elim (cases_Bool (is_in set 0)) [
  | inl has ↦ absurd (not ((is_member-Decides unsigned_Decides set 0).0 has))
  | inr misses ↦ misses
]

module _ (set : List ℕ) (s : KeptStore) where
  abbrev refs_reply : Reply
  refs_reply = cond (nat_lt 0 (set_refs s set)) Reference Done

  abbrev child_reply : Reply
  child_reply = cond (has_child_outside set s.regions) Subregion refs_reply

  no_root : (Contains set 0 → ⊥) → child_reply ≡ deletion_reply set s
  no_root not = ap (λ b. cond b Root child_reply) (sym (no_member set not))

  pub deletes_subregion : (s' : KeptStore) → (Contains set 0 → ⊥) → has_child_outside set s.regions ≡ true → s' ≡ s → Deletes set s s' Subregion
  deletes_subregion s' not child same = record { answered = ap (λ b. cond b Subregion refs_reply) (sym child) ∙ no_root not; left = same }

  no_child : (Contains set 0 → ⊥) → has_child_outside set s.regions ≡ false → refs_reply ≡ deletion_reply set s
  no_child not none = ap (λ b. cond b Subregion refs_reply) (sym none) ∙ no_root not

  pub deletes_reference : (s' : KeptStore) → (Contains set 0 → ⊥) → has_child_outside set s.regions ≡ false → 0 < set_refs s set → s' ≡ s → Deletes set s s' Reference
  deletes_reference s' not none some same = record { answered = ap (λ b. cond b Reference Done) (sym (test_true 0 (set_refs s set) some)) ∙ no_child not none; left = same }

  pub deletes_all : (s' : KeptStore) → (Contains set 0 → ⊥) → ((Contains set 0 → ⊥) × (has_child_outside set s.regions ≡ true) → ⊥) → ((Contains set 0 → ⊥) × (has_child_outside set s.regions ≡ false) × (0 < set_refs s set) → ⊥) → s' ≡ deleted_all set s → Deletes set s s' Done
  deletes_all s' not no_subregion no_reference same =
      let none : has_child_outside set s.regions ≡ false = elim (cases_Bool (has_child_outside set s.regions)) [
        | inl child ↦ absurd (no_subregion (not, child))
        | inr childless ↦ childless
      ] in
      let unnamed = test_false 0 (set_refs s set) (λ some. no_reference (not, none, some)) in
      record { answered = ap (λ b. cond b Reference Done) (sym unnamed) ∙ no_child not none; left = same }

-- a pin that is counted is there
pub pin_there : (r : ℕ) (pins : List Value) → 0 < count_by (is_pin r) pins → Contains pins (Handle r)
pin_there r [] some = absurd (omega (arith, some))
pin_there r (v ∷ pins) some = elim (cases_Bool (is_pin r v)) [
  | inl one ↦ (0, omega arith, pin_is r v one)
  | inr none ↦
      let all = count_cons (is_pin r) v pins in
      let not : cond {A = ℕ} (is_pin r v) 1 0 ≡ 0 = ap (λ b. cond {A = ℕ} b 1 0) none in
      let rest = pin_there r pins (omega (arith, all, not, some)) in
      let below = rest.1 in
      (suc rest.0, omega (arith, below), rest.2)
]

-- as many numbers as a tree of them has
pub counted_apart : (set : List ℕ) → distinct_count (eq_by_cmp nat_cmp) set ≡ distinct_count nat_eq set
counted_apart set = ap (λ (same : ℕ → ℕ → Bool). distinct_count same set) (fun_ext (λ a. fun_ext (λ b. unsigned_tied a b)))
