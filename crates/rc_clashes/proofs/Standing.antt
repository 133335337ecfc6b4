-- What is kept of earlier items clashes with what all of them clash with.
use Rattle.std.proofs.Common.{◌≡◌, ◌+◌, ℕ, zero, suc, List, [], ◌∷◌, ◌++◌, Option, Some, None, Bool, true, false, ◌&&◌, not, refl, sym, ap, ◌∙◌, subst, length, arith, length-append, if◌then◌else◌}
use Rattle.std.specs.Prelude.{◌||◌, slice_get, slice_set, option_map}
use Rattle.std.specs.Str.{bytes_eq}
use Rattle.rc_syntax.specs.declared.tree.Name.{Name}
use Rattle.rc_syntax.specs.Tree as t
use Rattle.rc_deletes.specs.Kinds.{place_of}
use Rattle.rc_deletes.specs.Items.{same_bool}
use Rattle.rc_deletes.proofs.Naming.{same_name, own_name, found_in, place_is}
use Rattle.rc_linking.proofs.Values.{both_true, and_true}
use Rattle.rc_linking.specs.Clash.{same_fields, same_params, same_result, disagrees, doubles, any}
use Rattle.rc_clashes.specs.Standing.{name_of, covers, kept_of, StandFor}
use Rattle.rc_clashes.proofs.Same.{fields, heads}

abbrev Text : Type 0
Text = List ℕ

differ : {A : Type 0} → false ≡ true → A
differ e = absurd cc

-- names the other way round
turned : (a b : Text) (c : Bool) → bytes_eq a b ≡ false → bytes_eq b a ≡ c → c ≡ false
turned a b false h e = refl
turned a b true h e = absurd (differ (sym h ∙ subst (λ x. bytes_eq x b ≡ true) (same_name b a e) (own_name b)))

-- a test that fails fails where it would hold for another
apart : (a b c : Bool) → (b ≡ true → c ≡ true → a ≡ true) → b ≡ true → not a ≡ true → not c ≡ true
apart a b false h e f = refl
apart true b true h e f = f
apart false b true h e f = absurd (differ (h e refl))

-- the same name of three
third : (a b c : Text) → bytes_eq a b ≡ true → bytes_eq b c ≡ true → bytes_eq a c ≡ true
third a b c e f = subst (λ x. bytes_eq x c ≡ true) (sym (same_name a b e)) f

module _ (a b c : Name) (d e f : Bool) (r s u : Option t.TypeName) (qs rs us : List t.Param) where
  heads_differ : bytes_eq a.text b.text && (same_bool d e && (same_result r s && same_params qs rs)) ≡ true → bytes_eq b.text c.text && not (same_bool e f && (same_result s u && same_params rs us)) ≡ true →
      bytes_eq a.text c.text && not (same_bool d f && (same_result r u && same_params qs us)) ≡ true
  heads_differ g h =
      let x = both_true (bytes_eq a.text b.text) (same_bool d e && (same_result r s && same_params qs rs)) g in
      let y = both_true (bytes_eq b.text c.text) (not (same_bool e f && (same_result s u && same_params rs us))) h in
      and_true (bytes_eq a.text c.text) (not (same_bool d f && (same_result r u && same_params qs us))) (third a.text b.text c.text x.0 y.0)
      (apart (same_bool e f && (same_result s u && same_params rs us)) (same_bool d e && (same_result r s && same_params qs rs)) (same_bool d f && (same_result r u && same_params qs us)) (heads d e f r s u qs rs us) x.1 y.1)

  named_same : bytes_eq a.text b.text && (same_bool d e && (same_result r s && same_params qs rs)) ≡ true → bytes_eq b.text c.text ≡ true → bytes_eq a.text c.text ≡ true
  named_same g h = third a.text b.text c.text (both_true (bytes_eq a.text b.text) (same_bool d e && (same_result r s && same_params qs rs)) g).0 h

abbrev Clashes : Type 0
Clashes = t.Item → t.Item → Bool

-- what clashes with a covered item clashes with what covers it
abbrev IsCarried : Clashes → Type 0
IsCarried f = (i x j : t.Item) → covers i x ≡ true → f x j ≡ true → f i j ≡ true

-- clashing items have one name
abbrev IsNamed : Clashes → Type 0
IsNamed f = (i j : t.Item) → f i j ≡ true → bytes_eq (name_of i).text (name_of j).text ≡ true

pub disagree_carried : IsCarried disagrees
disagree_carried (t.struct a name fs) (t.struct b other gs) (t.struct c last hs) covered h =
    let p = both_true (bytes_eq name.text other.text) (same_fields fs gs) covered in
    let q = both_true (bytes_eq other.text last.text) (not (same_fields gs hs)) h in
    and_true (bytes_eq name.text last.text) (not (same_fields fs hs)) (third name.text other.text last.text p.0 q.0) (apart (same_fields gs hs) (same_fields fs gs) (same_fields fs hs) (fields fs gs hs) p.1 q.1)
disagree_carried (t.function a d r name qs (Some body)) (t.function b e s other rs code) (t.function c f u last us more) covered h = heads_differ name other last d e f r s u qs rs us covered h
disagree_carried (t.function a d r name qs None) (t.function b e s other rs None) (t.function c f u last us more) covered h = heads_differ name other last d e f r s u qs rs us covered h
disagree_carried (t.global a ty name count c) (t.struct b other gs) j covered h = absurd cc
disagree_carried (t.global a ty name count c) (t.function b e s other rs code) j covered h = absurd cc
disagree_carried (t.global a ty name count c) (t.global b tz other size initial) (t.struct d last hs) covered h = absurd cc
disagree_carried (t.global a ty name count c) (t.global b tz other size initial) (t.global d tu last more value) covered h = absurd cc
disagree_carried (t.global a ty name count c) (t.global b tz other size initial) (t.function d f u last us code) covered h = absurd cc
disagree_carried _ _ _ covered h = absurd cc

pub double_carried : IsCarried doubles
double_carried (t.function a d r name qs (Some body)) (t.function b e s other rs (Some code)) (t.function c f u last us (Some more)) covered h = named_same name other last d e f r s u qs rs us covered h
double_carried (t.function a d r name qs (Some body)) (t.function b e s other rs (Some code)) (t.global c ty last count initial) covered h = named_same name other last d e e r s s qs rs rs covered h
double_carried (t.function a d r name qs (Some body)) (t.function b e s other rs None) (t.global c ty last count initial) covered h = named_same name other last d e e r s s qs rs rs covered h
double_carried (t.function a d r name qs None) (t.function b e s other rs None) (t.global c ty last count initial) covered h = named_same name other last d e e r s s qs rs rs covered h
double_carried (t.global a ty name count c) (t.global b tz other size initial) (t.global d tu last more value) covered h = third name.text other.text last.text covered h
double_carried (t.global a ty name count c) (t.global b tz other size initial) (t.function d e s last rs code) covered h = third name.text other.text last.text covered h
double_carried (t.struct a name fs) (t.struct b other gs) (t.struct c last hs) covered h = absurd cc
double_carried (t.struct a name fs) (t.struct b other gs) (t.global c ty last count initial) covered h = absurd cc
double_carried (t.struct a name fs) (t.struct b other gs) (t.function c f u last us code) covered h = absurd cc
double_carried (t.struct a name fs) (t.global b tz other size initial) j covered h = absurd cc
double_carried (t.struct a name fs) (t.function b e s other rs code) j covered h = absurd cc
double_carried _ _ _ covered h = absurd cc

pub disagree_named : IsNamed disagrees
disagree_named (t.struct a name fs) (t.struct b other gs) h = (both_true (bytes_eq name.text other.text) (not (same_fields fs gs)) h).0
disagree_named (t.function a d r name qs body) (t.function b e s other rs code) h = (both_true (bytes_eq name.text other.text) (not (same_bool d e && (same_result r s && same_params qs rs))) h).0
disagree_named _ _ h = absurd cc

pub double_named : IsNamed doubles
double_named (t.function a d r name qs (Some body)) (t.function b e s other rs (Some code)) h = h
double_named (t.function a d r name qs (Some body)) (t.global b ty other count c) h = h
double_named (t.function a d r name qs None) (t.global b ty other count c) h = h
double_named (t.global a ty name count c) (t.global b tz other size initial) h = h
double_named (t.global a ty name count c) (t.function b e s other rs code) h = h
double_named _ _ h = absurd cc

-- what is kept of a name
module _ (name : Text) where
  kept_found : (ns : List Text) (kept : List (List t.Item)) (k : ℕ) → length ns ≡ length kept → found_in ns name ≡ Some k → slice_get kept k ≡ Some (kept_of ns kept name)
  kept_found [] kept k l h = absurd cc
  kept_found (n ∷ ns) [] k l h = absurd (omega (arith, l))
  kept_found (n ∷ ns) (items ∷ kept) k l h = here (bytes_eq name n) (found_in ns name) k h (λ j e. kept_found ns kept j (omega (arith, l)) e)
    where
      here : (b : Bool) (o : Option ℕ) (k : ℕ) → (if b then Some 0 else option_map (λ k. suc k) o) ≡ Some k → ((j : ℕ) → o ≡ Some j → slice_get kept j ≡ Some (kept_of ns kept name)) → slice_get (items ∷ kept) k ≡ Some (if b then items else kept_of ns kept name)
      here true o k h m = let z : 0 ≡ k = cc in subst (λ x. slice_get (items ∷ kept) x ≡ Some items) z refl
      here false (Some j) k h m = let z : suc j ≡ k = cc in subst (λ x. slice_get (items ∷ kept) x ≡ Some (kept_of ns kept name)) z (m j refl)
      here false None k h m = absurd cc

  kept_none : (ns : List Text) (kept : List (List t.Item)) → found_in ns name ≡ None → kept_of ns kept name ≡ []
  kept_none [] kept h = refl
  kept_none (n ∷ ns) [] h = refl
  kept_none (n ∷ ns) (items ∷ kept) h = here (bytes_eq name n) (found_in ns name) h (kept_none ns kept)
    where
      here : (b : Bool) (o : Option ℕ) → (if b then Some 0 else option_map (λ k. suc k) o) ≡ None → (o ≡ None → kept_of ns kept name ≡ []) → (if b then items else kept_of ns kept name) ≡ []
      here true o h m = absurd cc
      here false None h m = m refl
      here false (Some j) h m = absurd cc

  -- other names keep what they had
  abbrev Puts : (new : List t.Item) → (ns ms : List Text) → (kept next : List (List t.Item)) → Type 0
  Puts new ns ms kept next = (other : Text) → kept_of ms next other ≡ (if bytes_eq other name then new else kept_of ns kept other)

  branch : (a b : Bool) (n other : Text) (items new old next : List t.Item) → bytes_eq name n ≡ false → bytes_eq other n ≡ a → bytes_eq other name ≡ b → next ≡ (if b then new else old) → (if a then items else next) ≡ (if b then new else (if a then items else old))
  branch true true n other items new old next h e f g = absurd (differ (sym h ∙ subst (λ z. bytes_eq z n ≡ true) (same_name other name f) e))
  branch true false n other items new old next h e f g = refl
  branch false b n other items new old next h e f g = g

  puts_new : (ns : List Text) (kept : List (List t.Item)) (new : List t.Item) → length ns ≡ length kept → found_in ns name ≡ None → Puts new ns (ns ++ name ∷ []) kept (kept ++ new ∷ [])
  puts_new [] [] new l h other = refl
  puts_new [] (items ∷ kept) new l h other = absurd (omega (arith, l))
  puts_new (n ∷ ns) [] new l h other = absurd (omega (arith, l))
  puts_new (n ∷ ns) (items ∷ kept) new l h other =
      let q = apart_from (bytes_eq name n) (found_in ns name) h in
      branch (bytes_eq other n) (bytes_eq other name) n other items new (kept_of ns kept other) (kept_of (ns ++ name ∷ []) (kept ++ new ∷ []) other) q.0 refl refl (puts_new ns kept new (omega (arith, l)) q.1 other)
    where
      apart_from : (b : Bool) (o : Option ℕ) → (if b then Some 0 else option_map (λ k. suc k) o) ≡ None → (b ≡ false) × (o ≡ None)
      apart_from true o h = absurd cc
      apart_from false None h = (refl, refl)
      apart_from false (Some j) h = absurd cc

  puts_more : (ns : List Text) (kept : List (List t.Item)) (k : ℕ) (new : List t.Item) → length ns ≡ length kept → found_in ns name ≡ Some k → Puts new ns ns kept (slice_set kept k new)
  puts_more [] kept k new l h other = absurd cc
  puts_more (n ∷ ns) [] k new l h other = absurd (omega (arith, l))
  puts_more (n ∷ ns) (items ∷ kept) k new l h other = here (bytes_eq name n) (found_in ns name) k refl h (λ j e. puts_more ns kept j new (omega (arith, l)) e other)
    where
      first : (a : Bool) (b : Bool) → bytes_eq other n ≡ a → bytes_eq other name ≡ b → name ≡ n → (if a then new else kept_of ns kept other) ≡ (if b then new else (if a then items else kept_of ns kept other))
      first true true e f i = refl
      first false false e f i = refl
      first true false e f i = absurd (differ (sym f ∙ subst (λ z. bytes_eq other z ≡ true) (sym i) e))
      first false true e f i = absurd (differ (sym e ∙ subst (λ z. bytes_eq other z ≡ true) i f))

      here : (b : Bool) (o : Option ℕ) (k : ℕ) → bytes_eq name n ≡ b → (if b then Some 0 else option_map (λ k. suc k) o) ≡ Some k →
          ((j : ℕ) → o ≡ Some j → kept_of ns (slice_set kept j new) other ≡ (if bytes_eq other name then new else kept_of ns kept other)) →
          kept_of (n ∷ ns) (slice_set (items ∷ kept) k new) other ≡ (if bytes_eq other name then new else kept_of (n ∷ ns) (items ∷ kept) other)
      here true o k e h m = let z : 0 ≡ k = cc in subst (λ x. kept_of (n ∷ ns) (slice_set (items ∷ kept) x new) other ≡ (if bytes_eq other name then new else kept_of (n ∷ ns) (items ∷ kept) other)) z (first (bytes_eq other n) (bytes_eq other name) refl refl (same_name name n e))
      here false (Some j) k e h m = let z : suc j ≡ k = cc in subst (λ x. kept_of (n ∷ ns) (slice_set (items ∷ kept) x new) other ≡ (if bytes_eq other name then new else kept_of (n ∷ ns) (items ∷ kept) other)) z (branch (bytes_eq other n) (bytes_eq other name) n other items new (kept_of ns kept other) (kept_of ns (slice_set kept j new) other) e refl refl (m j refl))
      here false None k e h m = absurd cc

-- one more item
pub any_behind : (f : t.Item → Bool) (xs : List t.Item) (x : t.Item) → any f (xs ++ x ∷ []) ≡ any f xs || f x
any_behind f [] x = alone (f x) where
  alone : (b : Bool) → b || false ≡ b
  alone true = refl
  alone false = refl
any_behind f (y ∷ ys) x = ap (λ b. f y || b) (any_behind f ys x) ∙ turn (f y) (any f ys) (f x) where
  turn : (a b c : Bool) → a || (b || c) ≡ (a || b) || c
  turn true b c = refl
  turn false b c = refl

module _ (f : Clashes) (named : IsNamed f) (carried : IsCarried f) (ns : List Text) (kept : List (List t.Item)) (x : t.Item) where
  no_clash : (j : t.Item) (b : Bool) → bytes_eq (name_of j).text (name_of x).text ≡ false → f x j ≡ b → b ≡ false
  no_clash j false h e = refl
  no_clash j true h e = absurd (differ (sym (turned (name_of j).text (name_of x).text (bytes_eq (name_of x).text (name_of j).text) h refl) ∙ named x j e))

  right_false : (a b : Bool) → b ≡ false → a ≡ a || b
  right_false true b h = refl
  right_false false b h = sym h

  left_true : (a b : Bool) → a ≡ true → a || b ≡ true
  left_true true b h = refl
  left_true false b h = absurd cc

  right_true : (a b : Bool) → b ≡ true → a || b ≡ true
  right_true true b h = refl
  right_true false b h = h

  -- where it is put behind what is kept of its name
  put_clash : (ms : List Text) (next : List (List t.Item)) → Puts (name_of x).text (kept_of ns kept (name_of x).text ++ x ∷ []) ns ms kept next →
      (j : t.Item) → any (λ i. f i j) (kept_of ms next (name_of j).text) ≡ any (λ i. f i j) (kept_of ns kept (name_of j).text) || f x j
  put_clash ms next puts j = ap (any (λ i. f i j)) (puts (name_of j).text) ∙ go (bytes_eq (name_of j).text (name_of x).text) refl
    where
      go : (b : Bool) → bytes_eq (name_of j).text (name_of x).text ≡ b → any (λ i. f i j) (if b then kept_of ns kept (name_of x).text ++ x ∷ [] else kept_of ns kept (name_of j).text) ≡ any (λ i. f i j) (kept_of ns kept (name_of j).text) || f x j
      go true e = any_behind (λ i. f i j) (kept_of ns kept (name_of x).text) x ∙ ap (λ n. any (λ i. f i j) (kept_of ns kept n) || f x j) (sym (same_name (name_of j).text (name_of x).text e))
      go false e = right_false (any (λ i. f i j) (kept_of ns kept (name_of j).text)) (f x j) (no_clash j (f x j) e refl)

  clash_if : (j i : t.Item) (is : List t.Item) (b : Bool) → covers i x ≡ b → f x j ≡ true → b || any (λ i. covers i x) is ≡ true → (any (λ i. covers i x) is ≡ true → any (λ i. f i j) is ≡ true) → f i j || any (λ i. f i j) is ≡ true
  clash_if j i is true c e h more = left_true (f i j) (any (λ i. f i j) is) (carried i x j c e)
  clash_if j i is false c e h more = right_true (f i j) (any (λ i. f i j) is) (more h)

  found : (j : t.Item) → f x j ≡ true → (xs : List t.Item) → any (λ i. covers i x) xs ≡ true → any (λ i. f i j) xs ≡ true
  found j e [] h = absurd cc
  found j e (i ∷ is) h = clash_if j i is (covers i x) refl e h (found j e is)

  -- where an item that is kept covers it
  cover_clash : any (λ i. covers i x) (kept_of ns kept (name_of x).text) ≡ true → (j : t.Item) → any (λ i. f i j) (kept_of ns kept (name_of j).text) ≡ any (λ i. f i j) (kept_of ns kept (name_of j).text) || f x j
  cover_clash covered j = go (f x j) refl
    where
      go : (b : Bool) → f x j ≡ b → any (λ i. f i j) (kept_of ns kept (name_of j).text) ≡ any (λ i. f i j) (kept_of ns kept (name_of j).text) || b
      go false e = right_false (any (λ i. f i j) (kept_of ns kept (name_of j).text)) false refl
      go true e =
          let same = same_name (name_of x).text (name_of j).text (named x j e) in
          let all = subst (λ n. any (λ i. f i j) (kept_of ns kept n) ≡ true) same (found j e (kept_of ns kept (name_of x).text) covered) in
          all ∙ sym (ap (λ a. a || true) all)

module _ (ns : List Text) (kept : List (List t.Item)) (earlier : List t.Item) (x : t.Item) (stand : StandFor ns kept earlier) where
  grown : (f : Clashes) (ms : List Text) (next : List (List t.Item)) → ((j : t.Item) → any (λ i. f i j) (kept_of ms next (name_of j).text) ≡ any (λ i. f i j) (kept_of ns kept (name_of j).text) || f x j) →
      ((j : t.Item) → any (λ i. f i j) (kept_of ns kept (name_of j).text) ≡ any (λ i. f i j) earlier) → (j : t.Item) → any (λ i. f i j) (kept_of ms next (name_of j).text) ≡ any (λ i. f i j) (earlier ++ x ∷ [])
  grown f ms next h k j = h j ∙ ap (λ b. b || f x j) (k j) ∙ sym (any_behind (λ i. f i j) earlier x)

  -- an item of a new name
  pub stand_new : place_of ns (name_of x).text ≡ None → StandFor (ns ++ (name_of x).text ∷ []) (kept ++ (x ∷ []) ∷ []) (earlier ++ x ∷ [])
  stand_new none =
      let name = (name_of x).text in
      let h : found_in ns name ≡ None = sym (place_is ns name) ∙ none in
      let puts = subst (λ (old : List t.Item). Puts name (old ++ x ∷ []) ns (ns ++ name ∷ []) kept (kept ++ (x ∷ []) ∷ [])) (sym (kept_none name ns kept h)) (puts_new name ns kept (x ∷ []) stand.aligned h) in
      record {
        aligned = length-append ns (name ∷ []) ∙ ap (λ n. n + 1) stand.aligned ∙ sym (length-append kept ((x ∷ []) ∷ []));
        disagree = grown disagrees (ns ++ name ∷ []) (kept ++ (x ∷ []) ∷ []) (put_clash disagrees disagree_named disagree_carried ns kept x (ns ++ name ∷ []) (kept ++ (x ∷ []) ∷ []) puts) stand.disagree;
        double = grown doubles (ns ++ name ∷ []) (kept ++ (x ∷ []) ∷ []) (put_clash doubles double_named double_carried ns kept x (ns ++ name ∷ []) (kept ++ (x ∷ []) ∷ []) puts) stand.double;
      }

  -- an item that something kept covers
  pub stand_covered : any (λ i. covers i x) (kept_of ns kept (name_of x).text) ≡ true → StandFor ns kept (earlier ++ x ∷ [])
  stand_covered covered = record {
    aligned = stand.aligned;
    disagree = grown disagrees ns kept (cover_clash disagrees disagree_named disagree_carried ns kept x covered) stand.disagree;
    double = grown doubles ns kept (cover_clash doubles double_named double_carried ns kept x covered) stand.double;
  }

  -- another item of a name
  pub stand_more : (k : ℕ) → place_of ns (name_of x).text ≡ Some k → StandFor ns (slice_set kept k (kept_of ns kept (name_of x).text ++ x ∷ [])) (earlier ++ x ∷ [])
  stand_more k found =
      let name = (name_of x).text in
      let new = kept_of ns kept name ++ x ∷ [] in
      let puts = puts_more name ns kept k new stand.aligned (sym (place_is ns name) ∙ found) in
      record {
        aligned = stand.aligned ∙ sym (length_set kept k new);
        disagree = grown disagrees ns (slice_set kept k new) (put_clash disagrees disagree_named disagree_carried ns kept x ns (slice_set kept k new) puts) stand.disagree;
        double = grown doubles ns (slice_set kept k new) (put_clash doubles double_named double_carried ns kept x ns (slice_set kept k new) puts) stand.double;
      }
    where
      length_set : (xs : List (List t.Item)) (k : ℕ) (y : List t.Item) → length (slice_set xs k y) ≡ length xs
      length_set [] k y = refl
      length_set (x ∷ xs) zero y = refl
      length_set (x ∷ xs) (suc k) y = ap suc (length_set xs k y)

-- what is kept of a name, where it stands
pub kept_at : (ns : List Text) (kept : List (List t.Item)) (name : Text) (k : ℕ) → length ns ≡ length kept → place_of ns name ≡ Some k → slice_get kept k ≡ Some (kept_of ns kept name)
kept_at ns kept name k l h = kept_found name ns kept k l (sym (place_is ns name) ∙ h)

pub kept_nowhere : (ns : List Text) (kept : List (List t.Item)) (name : Text) → place_of ns name ≡ None → kept_of ns kept name ≡ []
kept_nowhere ns kept name h = kept_none name ns kept (sym (place_is ns name) ∙ h)
