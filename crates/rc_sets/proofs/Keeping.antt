-- The records are right again after each command, and all objects are rows.
use Rattle.std.proofs.Common.{◌≡◌, ◌≢◌, ◌<◌, ◌+◌, ◌∙◌, ℕ, zero, suc, nat_eq, true, false, cond, List, [], ◌∷◌, ◌++◌, length, get_or, set, replicate, Option, Some, refl, sym, ap, subst, arith, inl, inr, length-append}
use Rattle.std.specs.Prelude.{count_by, flat_map, IsPermutation}
use Rattle.std.proofs.lemmas.Bool.{cases_eq}
use Rattle.std.proofs.lemmas.Bool.Decides.{nat_tests}
use Rattle.std.proofs.lemmas.List.{length-set, get_or-set_same, get_or-set_other}
use Rattle.std.proofs.lemmas.List.Sorted.{sum_by-IsPermutation}
use Rattle.rc_core.specs.declared.layouts.Kind.{Kind}
use Rattle.rc_core.specs.declared.layouts.Kind.TheVariants.{Number as NumberKind, Region as RegionKind}
use Rattle.rc_core.specs.Heap.{Value, Handle}
use Rattle.rc_store.specs.Kept.{KeptObject, KeptStore, KeptView, Regions, blank}
use Rattle.rc_store.specs.Stores.{allocated, is_view, live_in, made, no_object, object_in, object_with, objects_in, objects_with, or_none, parent_in, region_at, with_objects, written}
use Rattle.rc_store.specs.Sets.{deleted_all}
use Rattle.rc_store.proofs.Changed.{objects_set}
use Rattle.rc_replies.specs.Replies.{is_pin, place}
use Rattle.rc_replies.proofs.Same.{count_cons, count_more, deleted_stays}
use Rattle.rc_sets.specs.Records.{AreRecordsOf, AreRows, IsKeptBy, IsRow, RecordsState}
use Rattle.rc_sets.proofs.Lists.{beyond, deleted_length, has_live, live_below, objects_same, push_new, push_old, set_other, set_same, survives, zero_pushed}

-- ---- objects

kinds_are : (n i : ℕ) → i < n → get_or (flat_map (λ (ks : List Kind). ks) (replicate n (RegionKind ∷ []))) i NumberKind ≡ RegionKind
kinds_are zero i below = absurd (omega (arith, below))
kinds_are (suc n) zero below = refl
kinds_are (suc n) (suc i) below = kinds_are n i (omega (arith, below))

blank_row : (n : ℕ) → IsRow (blank (RegionKind ∷ []) n)
blank_row n = record { size = refl; kinds = kinds_are n }

-- where one region has other objects, and these are rows
module _ (regions : Regions) (r : ℕ) (live : live_in regions r ≡ true) (objects : List KeptObject) where
  abbrev changed : Regions
  changed = with_objects r objects regions

  pub objects_here : objects_in changed r ≡ objects
  objects_here = ap (λ v. (or_none v).objects) (ap (λ rs. region_at rs r) (objects_set r objects regions live) ∙ set_same regions r (Some (record { parent = parent_in regions r; objects = objects })) live)

  pub objects_elsewhere : (q : ℕ) → q ≢ r → region_at changed q ≡ region_at regions q
  objects_elsewhere q other = ap (λ rs. region_at rs q) (objects_set r objects regions live) ∙ set_other regions r q (Some (record { parent = parent_in regions r; objects = objects })) other

  pub rows_set : AreRows regions → ((o : ℕ) → o < length objects → IsRow (get_or objects o no_object)) → AreRows changed
  rows_set rows own q o there = elim (cases_eq q r) [
    | inl same ↦ subst (λ (p : ℕ). IsRow (object_in changed p o)) (sym same)
        (subst (λ (os : List KeptObject). IsRow (get_or os o no_object)) (sym objects_here)
        (own o (subst (λ (os : List KeptObject). o < length os) objects_here (subst (λ (p : ℕ). o < length (objects_in changed p)) same there))))
    | inr other ↦
        let is = objects_same changed regions q (objects_elsewhere q other) in
        subst (λ (os : List KeptObject). IsRow (get_or os o no_object)) (sym is) (rows q o (subst (λ (os : List KeptObject). o < length os) is there))
  ]

pub row_pushed : (objects : List KeptObject) (n : ℕ) → ((o : ℕ) → o < length objects → IsRow (get_or objects o no_object)) → (o : ℕ) → o < length (objects ++ blank (RegionKind ∷ []) n ∷ []) → IsRow (get_or (objects ++ blank (RegionKind ∷ []) n ∷ []) o no_object)
row_pushed [] n rows zero there = blank_row n
row_pushed [] n rows (suc o) there = absurd (omega (arith, there))
row_pushed (x ∷ objects) n rows zero there = rows zero (omega arith)
row_pushed (x ∷ objects) n rows (suc o) there = row_pushed objects n (λ p below. rows (suc p) (omega (arith, below))) o (omega (arith, there))

row_with : (o : KeptObject) (index cell : ℕ) (v : Value) → IsRow o → IsRow (object_with index cell v o)
row_with o index cell v row = record { size = row.size; kinds = row.kinds }

pub row_changed : (objects : List KeptObject) (o index cell : ℕ) (v : Value) → ((p : ℕ) → p < length objects → IsRow (get_or objects p no_object)) → (p : ℕ) → p < length (objects_with o index cell v objects) → IsRow (get_or (objects_with o index cell v objects) p no_object)
row_changed objects o index cell v rows p there =
    let new = object_with index cell v (get_or objects o no_object) in
    let size = length-set objects o new in
    let below : p < length objects = omega (arith, size, there) in
    elim (cases_eq p o) [
      | inl same ↦
          let at : o < length objects = omega (arith, below, same) in
          subst (λ (q : ℕ). IsRow (get_or (set objects o new) q no_object)) (sym same)
          (subst IsRow (sym (get_or-set_same objects o new no_object at)) (row_with (get_or objects o no_object) index cell v (rows o at)))
      | inr other ↦ subst IsRow (sym (get_or-set_other objects o p new no_object other)) (rows p below)
    ]

-- ---- counts by region

-- a count changed in one place
module _ (xs : List ℕ) (r n : ℕ) (there : r < length xs) (wanted : ℕ → ℕ) (here : wanted r ≡ n) where
  counts_set : (q : ℕ) → (q ≢ r → get_or xs q 0 ≡ wanted q) → get_or (set xs r n) q 0 ≡ wanted q
  counts_set q others = elim (cases_eq q r) [
    | inl same ↦ ap (λ p. get_or (set xs r n) p 0) same ∙ get_or-set_same xs r n 0 there ∙ sym here ∙ ap wanted (sym same)
    | inr other ↦ get_or-set_other xs r q n 0 other ∙ others other
  ]

-- the objects of one region changed
objects_counted : (t : RecordsState) (regions : Regions) (pins : List Value) (r n : ℕ) (objects : List KeptObject) → AreRecordsOf t regions pins → live_in regions r ≡ true → length objects ≡ n → AreRecordsOf (record t { objects = set t.objects r n }) (with_objects r objects regions) pins
objects_counted t regions pins r n objects are live size =
    let all = are.all_objects in
    let below = live_below regions r live in
    let long = ap length (objects_set r objects regions live) ∙ length-set regions r (Some (record { parent = parent_in regions r; objects = objects })) in
    let same = length-set t.objects r n in
    let both = are.all_pins in
    record {
      all_objects = omega (arith, all, long, same);
      all_pins = omega (arith, both, long);
      objects = λ q alive. counts_set t.objects r n (omega (arith, all, below)) (λ p. length (objects_in (with_objects r objects regions) p)) (ap length (objects_here regions r live objects) ∙ size) q
          (λ other.
          let is = objects_elsewhere regions r live objects q other in
          are.objects q (sym (ap is_view is) ∙ alive) ∙ sym (ap length (objects_same (with_objects r objects regions) regions q is)));
      pins = are.pins;
    }

-- ---- commands

pub kept_made : (t : RecordsState) (s : KeptStore) (parent : ℕ) → IsKeptBy t s → IsKeptBy (record { objects = t.objects ++ 0 ∷ []; pins = t.pins ++ 0 ∷ [] }) (made parent s)
kept_made t s parent kept =
    let new : Option KeptView = Some (record { parent = parent; objects = [] }) in
    let regions = length-append s.regions (new ∷ []) in
    let objects = length-append t.objects (0 ∷ []) in
    let pins = length-append t.pins (0 ∷ []) in
    let all = kept.records.all_objects in
    let both = kept.records.all_pins in
    let empty : objects_in (s.regions ++ new ∷ []) (length s.regions) ≡ [] = ap (λ v. (or_none v).objects) (push_new s.regions new) in
    let old : (q : ℕ) → q < length s.regions → objects_in (s.regions ++ new ∷ []) q ≡ objects_in s.regions q = λ q below. objects_same (s.regions ++ new ∷ []) s.regions q (push_old s.regions q new below) in
    let within : (q : ℕ) → live_in (s.regions ++ new ∷ []) q ≡ true → q ≢ length s.regions → q < length s.regions = λ q live other. (let low = live_below (s.regions ++ new ∷ []) q live in omega (arith, low, regions, other)) in
    record {
      records = record {
        all_objects = omega (arith, regions, objects, all);
        all_pins = omega (arith, regions, pins, both);
        objects = λ q live. zero_pushed t.objects q ∙ elim (cases_eq q (length s.regions)) [
          | inl same ↦ beyond t.objects q (all ∙ sym same) ∙ sym (ap length (ap (objects_in (s.regions ++ new ∷ [])) same ∙ empty))
          | inr other ↦
              let below = within q live other in
              kept.records.objects q (sym (ap is_view (push_old s.regions q new below)) ∙ live) ∙ sym (ap length (old q below))
        ];
        pins = λ q. zero_pushed t.pins q ∙ kept.records.pins q;
      };
      rows = λ q o there. elim (cases_eq q (length s.regions)) [
        | inl same ↦ absurd (let none = ap length (ap (objects_in (s.regions ++ new ∷ [])) same ∙ empty) in omega (arith, none, there))
        | inr other ↦
            let is = old q (within q (has_live (s.regions ++ new ∷ []) q o there) other) in
            subst (λ (os : List KeptObject). IsRow (get_or os o no_object)) (sym is) (kept.rows q o (subst (λ (os : List KeptObject). o < length os) is there))
      ];
    }

pub kept_allocated : (t : RecordsState) (s : KeptStore) (r n : ℕ) → IsKeptBy t s → live_in s.regions r ≡ true → IsKeptBy (record t { objects = set t.objects r (length (objects_in s.regions r) + 1) }) (allocated r (RegionKind ∷ []) n s)
kept_allocated t s r n kept live =
    let objects = objects_in s.regions r ++ blank (RegionKind ∷ []) n ∷ [] in
    record {
      records = objects_counted t s.regions s.pins r (length (objects_in s.regions r) + 1) objects kept.records live (length-append (objects_in s.regions r) (blank (RegionKind ∷ []) n ∷ []));
      rows = rows_set s.regions r live objects kept.rows (row_pushed (objects_in s.regions r) n (kept.rows r));
    }

-- the same number is written again
set_self : (xs : List ℕ) (r : ℕ) → set xs r (get_or xs r 0) ≡ xs
set_self [] r = refl
set_self (x ∷ xs) zero = refl
set_self (x ∷ xs) (suc r) = ap (λ ys. x ∷ ys) (set_self xs r)

pub kept_written : (t : RecordsState) (s : KeptStore) (r o i : ℕ) (v : Value) → IsKeptBy t s → live_in s.regions r ≡ true → IsKeptBy t (written (place r o i) v s)
kept_written t s r o i v kept live =
    let objects = objects_with o i 0 v (objects_in s.regions r) in
    let size = length-set (objects_in s.regions r) o (object_with i 0 v (get_or (objects_in s.regions r) o no_object)) in
    let counted = kept.records.objects r live in
    record {
      records = subst (λ (os : List ℕ). AreRecordsOf (record t { objects = os }) (with_objects r objects s.regions) s.pins) (set_self t.objects r)
          (objects_counted t s.regions s.pins r (get_or t.objects r 0) objects kept.records live (size ∙ sym counted));
      rows = rows_set s.regions r live objects kept.rows (row_changed (objects_in s.regions r) o i 0 v (kept.rows r));
    }

-- the pins of one region changed
pub kept_pins : (t : RecordsState) (s : KeptStore) (r n : ℕ) (pins : List Value) → IsKeptBy t s → live_in s.regions r ≡ true → count_by (is_pin r) pins ≡ n → ((q : ℕ) → q ≢ r → count_by (is_pin q) pins ≡ count_by (is_pin q) s.pins) → AreRecordsOf (record t { pins = set t.pins r n }) s.regions pins
kept_pins t s r n pins kept live here others =
    let below = live_below s.regions r live in
    let all = kept.records.all_pins in
    record {
      all_objects = kept.records.all_objects;
      all_pins = length-set t.pins r n ∙ all;
      objects = kept.records.objects;
      pins = λ q. counts_set t.pins r n (omega (arith, all, below)) (λ p. count_by (is_pin p) pins) here q (λ other. kept.records.pins q ∙ sym (others q other));
    }

one_pin : (r : ℕ) → nat_eq r r ≡ true
one_pin r = grind (arith, nat_tests)

other_pin : (r q : ℕ) → q ≢ r → nat_eq r q ≡ false
other_pin r q other = grind (arith, nat_tests, other)

pub pins_cons : (r : ℕ) (pins : List Value) → count_by (is_pin r) (Handle r ∷ pins) ≡ 1 + count_by (is_pin r) pins
pins_cons r pins = count_cons (is_pin r) (Handle r) pins ∙ ap (λ b. cond b 1 0 + count_by (is_pin r) pins) (one_pin r)

pub pins_other : (r q : ℕ) (pins : List Value) → q ≢ r → count_by (is_pin q) (Handle r ∷ pins) ≡ count_by (is_pin q) pins
pins_other r q pins other = let all = count_cons (is_pin q) (Handle r) pins in let none : cond {A = ℕ} (nat_eq r q) 1 0 ≡ 0 = ap (λ b. cond {A = ℕ} b 1 0) (other_pin r q other) in omega (arith, all, none)

pub kept_pinned : (t : RecordsState) (s : KeptStore) (r n : ℕ) → IsKeptBy t s → live_in s.regions r ≡ true → get_or t.pins r 0 + 1 ≡ n → AreRecordsOf (record t { pins = set t.pins r n }) s.regions (s.pins ++ Handle r ∷ [])
kept_pinned t s r n kept live more =
    let one = pins_cons r [] in
    let all = count_more (is_pin r) s.pins (Handle r ∷ []) in
    let was = kept.records.pins r in
    kept_pins t s r n (s.pins ++ Handle r ∷ []) kept live (omega (arith, one, all, was, more))
    (λ q other. (let none = pins_other r q [] other in let rest = count_more (is_pin q) s.pins (Handle r ∷ []) in omega (arith, none, rest)))

pub kept_unpinned : (t : RecordsState) (s : KeptStore) (r n : ℕ) (pins : List Value) → IsKeptBy t s → live_in s.regions r ≡ true → n + 1 ≡ get_or t.pins r 0 → IsPermutation s.pins (Handle r ∷ pins) → AreRecordsOf (record t { pins = set t.pins r n }) s.regions pins
kept_unpinned t s r n pins kept live less taken =
    let counts : (q : ℕ) → count_by (is_pin q) (Handle r ∷ pins) ≡ count_by (is_pin q) s.pins = λ q. sum_by-IsPermutation (λ v. cond (is_pin q v) 1 0) s.pins (Handle r ∷ pins) taken in
    let here = counts r in
    let one = pins_cons r pins in
    let was = kept.records.pins r in
    kept_pins t s r n pins kept live (omega (arith, here, one, was, less))
    (λ q other. sym (pins_other r q pins other) ∙ counts q)

pub kept_deleted : (t : RecordsState) (s : KeptStore) (set : List ℕ) → IsKeptBy t s → IsKeptBy t (deleted_all set s)
kept_deleted t s set kept =
    let after = deleted_all set s in
    record {
      records = record {
        all_objects = kept.records.all_objects ∙ sym (deleted_length set s);
        all_pins = kept.records.all_pins ∙ sym (deleted_length set s);
        objects = λ q live.
            let is = survives set s q live in
            kept.records.objects q (sym (ap is_view is) ∙ live) ∙ sym (ap length (objects_same after.regions s.regions q is));
        pins = λ q. kept.records.pins q ∙ sym (ap (count_by (is_pin q)) (deleted_stays set s).pins);
      };
      rows = λ q o there.
          let is = objects_same after.regions s.regions q (survives set s q (has_live after.regions q o there)) in
          subst (λ (os : List KeptObject). IsRow (get_or os o no_object)) (sym is) (kept.rows q o (subst (λ (os : List KeptObject). o < length os) is there));
    }
