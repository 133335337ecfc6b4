-- What the source's world has, its store has: lives, parents and objects of live regions, and which values are pinned.
use Rattle.std.proofs.Common.{◌≡◌, ℕ, zero, suc, ◌-◌, ◌+◌, ◌*◌, Bool, true, false, ◌||◌, ◌&&◌, nat_eq, cond, List, [], ◌∷◌, ◌++◌, length, map, take, replicate, flat_map, get_or, Some, None, filter, refl, sym, ap, ◌∙◌}
use Rattle.std.proofs.Math.Path.{fun_ext}
use Rattle.std.specs.List.{AllByRecursion as Every, list_any}
use Rattle.std.proofs.lemmas.List.Elements.{filter-append}
use Rattle.rc_core.specs.Types.{Ty, CellKind, int_cell, unsigned_cell, char_cell, region_cell, pointer_cell}
use Rattle.rc_core.specs.Layout.{Layout, note_of, is_counted}
use Rattle.rc_core.specs.Heap.{Value, Null, Object, Region, Heap, no_object, region_at, live, parent, objects, blank, blank_cell, update, with_objects, is_fresh}
use Rattle.rc_core.specs.Source.{Spot, place_of, overwritten, World, has_child, killed, source}
use Rattle.rc_code.specs.StoreModel.{or_none, is_view, lives, view, parent_in, changed_view, is_child}
use Rattle.rc_worlds.specs.Worlds.{model, naming, named_cell, renamed, seen}

-- a value is pinned as it was, where it is as fresh as it was
pub filter_same : {A : Type 0} (p q : A → Bool) (xs : List A) → Every (λ x. p x ≡ q x) xs → filter p xs ≡ filter q xs
filter_same p q [] all = refl
filter_same p q (x ∷ xs) all = ap (λ b. cond b (x ∷ filter p xs) (filter p xs)) all.0 ∙ ap (λ rest. cond (q x) (x ∷ rest) rest) (filter_same p q xs all.1)

module _ (name : Ty → Ty) where
  pub seen_at : (heap : Heap) (r : ℕ) → get_or (map (seen name) heap) r None ≡ (seen name) (region_at heap r)
  seen_at [] r = refl
  seen_at (g ∷ heap) zero = refl
  seen_at (g ∷ heap) (suc r) = seen_at heap r

  pub view_lives : (g : Region) → is_view ((seen name) g) ≡ g.alive
  view_lives g = by g.alive
    where
      by : (b : Bool) → is_view ((seen name) (record g { alive = b })) ≡ b
      by true = refl
      by false = refl

  pub lives_same : (w : World) (r : ℕ) → lives (model name w).store r ≡ live w.heap r
  lives_same w r = ap is_view (seen_at w.heap r) ∙ view_lives (region_at w.heap r)

  pub all_lives_same : (w : World) → lives (model name w).store ≡ live w.heap
  all_lives_same w = fun_ext (lives_same w)

  pub objects_seen : (g : Region) → g.alive ≡ true → (or_none ((seen name) g)).objects ≡ map (renamed name) g.objects
  objects_seen g l = by g.alive l
    where
      by : (b : Bool) → b ≡ true → (or_none ((seen name) (record g { alive = b }))).objects ≡ map (renamed name) g.objects
      by true l = refl
      by false l = cc

  pub parent_seen : (g : Region) → g.alive ≡ true → (or_none ((seen name) g)).parent ≡ g.parent
  parent_seen g l = by g.alive l
    where
      by : (b : Bool) → b ≡ true → (or_none ((seen name) (record g { alive = b }))).parent ≡ g.parent
      by true l = refl
      by false l = cc

  pub in_view : (w : World) (r : ℕ) → live w.heap r ≡ true → (view (model name w).store r).objects ≡ map (renamed name) (objects w.heap r)
  in_view w r l = ap (λ v. (or_none v).objects) (seen_at w.heap r) ∙ objects_seen (region_at w.heap r) l

  pub parent_in_view : (w : World) (r : ℕ) → live w.heap r ≡ true → parent_in (model name w).store r ≡ parent w.heap r
  parent_in_view w r l = ap (λ v. (or_none v).parent) (seen_at w.heap r) ∙ parent_seen (region_at w.heap r) l

  pub child_same : (r : ℕ) (heap : Heap) → list_any (is_child r) (map (seen name) heap) ≡ has_child r heap
  child_same r [] = refl
  child_same r (g ∷ heap) = ap (λ b. b || list_any (is_child r) (map (seen name) heap)) (by g.alive) ∙ ap (λ b. (g.alive && nat_eq g.parent r) || b) (child_same r heap)
    where
      by : (b : Bool) → is_child r ((seen name) (record g { alive = b })) ≡ (b && nat_eq g.parent r)
      by true = refl
      by false = refl

  pub killed_seen : (heap : Heap) (r : ℕ) → map (seen name) (killed heap r) ≡ update (map (seen name) heap) r (λ _. None)
  killed_seen [] r = refl
  killed_seen (g ∷ heap) zero = refl
  killed_seen (g ∷ heap) (suc r) = ap (λ vs. (seen name) g ∷ vs) (killed_seen heap r)

  pub changed_seen : (heap : Heap) (r : ℕ) (change change' : List Object → List Object) → ((os : List Object) → map (renamed name) (change os) ≡ change' (map (renamed name) os)) → map (seen name) (with_objects heap r change) ≡ update (map (seen name) heap) r (changed_view change')
  changed_seen [] r change change' e = refl
  changed_seen (g ∷ heap) zero change change' e = ap (λ v. v ∷ map (seen name) heap) (by g.alive)
    where
      by : (b : Bool) → seen name (record g { alive = b; objects = change g.objects }) ≡ changed_view change' (seen name (record g { alive = b }))
      by true = ap (λ os. Some (record { parent = g.parent; objects = os })) (e g.objects)
      by false = refl
  changed_seen (g ∷ heap) (suc r) change change' e = ap (λ vs. seen name g ∷ vs) (changed_seen heap r change change' e)

  pub map_append : (heap : Heap) (g : Region) → map (seen name) (heap ++ g ∷ []) ≡ map (seen name) heap ++ (seen name) g ∷ []
  map_append [] g = refl
  map_append (x ∷ heap) g = ap (λ vs. (seen name) x ∷ vs) (map_append heap g)

  pub length_seen : (heap : Heap) → length (map (seen name) heap) ≡ length heap
  length_seen [] = refl
  length_seen (x ∷ heap) = ap suc (length_seen heap)

  -- `enter`: the values that name a dead region are passed over
  pub enter_law : (held : List Value) (w : World) → (naming name).enter held (model name w) ≡ model name (source.enter held w)
  enter_law held w =
      ap (λ f. record (model name w) { store = record (model name w).store { pins = filter (is_fresh f) held ++ (model name w).store.pins } }) (all_lives_same w)
      ∙ ap (λ vs. record (model name w) { store = record (model name w).store { pins = vs } }) (sym (filter-append (is_fresh (live w.heap)) held w.waiting))

long : (name : Ty → Ty) (l : Layout) → length (map (named_cell name) l) ≡ length l
long name [] = refl
long name (k ∷ l) = ap suc (long name l)

note_named : (name : Ty → Ty) (k : CellKind) → note_of (named_cell name k) ≡ note_of k
note_named name int_cell = refl
note_named name unsigned_cell = refl
note_named name char_cell = refl
note_named name region_cell = refl
note_named name (pointer_cell note target) = refl

pub counted_named : (name : Ty → Ty) (k : CellKind) → is_counted (named_cell name k) ≡ is_counted k
counted_named name int_cell = refl
counted_named name unsigned_cell = refl
counted_named name char_cell = refl
counted_named name region_cell = refl
counted_named name (pointer_cell note target) = refl

blank_named : (name : Ty → Ty) (l : Layout) → map blank_cell (map (named_cell name) l) ≡ map blank_cell l
blank_named name [] = refl
blank_named name (k ∷ l) = ap (λ v. v ∷ map blank_cell (map (named_cell name) l)) (one k) ∙ ap (λ vs. blank_cell k ∷ vs) (blank_named name l)
  where
    one : (k : CellKind) → blank_cell (named_cell name k) ≡ blank_cell k
    one int_cell = refl
    one unsigned_cell = refl
    one char_cell = refl
    one region_cell = refl
    one (pointer_cell note target) = refl

blanks_named : (name : Ty → Ty) (l : Layout) (n : ℕ) → flat_map (map blank_cell) (replicate n (map (named_cell name) l)) ≡ flat_map (map blank_cell) (replicate n l)
blanks_named name l zero = refl
blanks_named name l (suc n) = ap (λ vs. vs ++ flat_map (map blank_cell) (replicate n (map (named_cell name) l))) (blank_named name l) ∙ ap (λ vs. map blank_cell l ++ vs) (blanks_named name l n)

-- a blank object of the layout that is named so
pub blank_renamed : (name : Ty → Ty) (l : Layout) (n : ℕ) → renamed name (blank l n) ≡ blank (map (named_cell name) l) n
blank_renamed name l n = ap (λ vs. record { layout = map (named_cell name) l; count = n; values = vs }) (sym (blanks_named name l n))

-- the kinds of its cells
pub kinds_renamed : (name : Ty → Ty) (l : Layout) (n : ℕ) → flat_map (λ layout. layout) (replicate n (map (named_cell name) l)) ≡ map (named_cell name) (flat_map (λ layout. layout) (replicate n l))
kinds_renamed name l zero = refl
kinds_renamed name l (suc n) = ap (λ ks. map (named_cell name) l ++ ks) (kinds_renamed name l n) ∙ joined l (flat_map (λ layout. layout) (replicate n l))
  where
    joined : (l ks : Layout) → map (named_cell name) l ++ map (named_cell name) ks ≡ map (named_cell name) (l ++ ks)
    joined [] ks = refl
    joined (k ∷ l) ks = ap (λ xs. named_cell name k ∷ xs) (joined l ks)

pub counts_renamed : (name : Ty → Ty) (os : List Object) (o : ℕ) → (get_or (map (renamed name) os) o no_object).count ≡ (get_or os o no_object).count
counts_renamed name [] o = refl
counts_renamed name (x ∷ os) zero = refl
counts_renamed name (x ∷ os) (suc o) = counts_renamed name os o

pub length_renamed : (name : Ty → Ty) (os : List Object) → length (map (renamed name) os) ≡ length os
length_renamed name [] = refl
length_renamed name (x ∷ os) = ap suc (length_renamed name os)

pub note_renamed : (name : Ty → Ty) (os : List Object) (o cell : ℕ) → note_of (get_or (get_or (map (renamed name) os) o no_object).layout cell int_cell) ≡ note_of (get_or (get_or os o no_object).layout cell int_cell)
note_renamed name [] o cell = refl
note_renamed name (x ∷ os) zero cell = at x.layout cell
  where
    at : (l : Layout) (cell : ℕ) → note_of (get_or (map (named_cell name) l) cell int_cell) ≡ note_of (get_or l cell int_cell)
    at [] cell = refl
    at (k ∷ l) zero = note_named name k
    at (k ∷ l) (suc cell) = at l cell
note_renamed name (x ∷ os) (suc o) cell = note_renamed name os o cell

pub value_renamed : (name : Ty → Ty) (os : List Object) (spot : Spot) → get_or (get_or (map (renamed name) os) spot.object no_object).values (place_of (get_or (map (renamed name) os) spot.object no_object) spot) Null ≡ get_or (get_or os spot.object no_object).values (place_of (get_or os spot.object no_object) spot) Null
value_renamed name os spot = by os spot.object
  where
    by : (os : List Object) (o : ℕ) → get_or (get_or (map (renamed name) os) o no_object).values (place_of (get_or (map (renamed name) os) o no_object) spot) Null ≡ get_or (get_or os o no_object).values (place_of (get_or os o no_object) spot) Null
    by [] o = refl
    by (x ∷ os) zero = ap (λ n. get_or x.values (spot.element * n + spot.cell) Null) (long name x.layout)
    by (x ∷ os) (suc o) = by os o

pub appended_renamed : (name : Ty → Ty) (x : Object) (os : List Object) → map (renamed name) (os ++ x ∷ []) ≡ map (renamed name) os ++ renamed name x ∷ []
appended_renamed name x [] = refl
appended_renamed name x (o ∷ os) = ap (λ xs. renamed name o ∷ xs) (appended_renamed name x os)

-- one cell is overwritten alike
abbrev pub put : Spot → Value → Object → Object
put spot v o = record o { values = overwritten (place_of o spot) (take (length o.layout - spot.cell) (v ∷ [])) o.values }

pub put_renamed : (name : Ty → Ty) (spot : Spot) (v : Value) (os : List Object) → map (renamed name) (update os spot.object (put spot v)) ≡ update (map (renamed name) os) spot.object (put spot v)
put_renamed name spot v os = by os spot.object
  where
    by : (os : List Object) (i : ℕ) → map (renamed name) (update os i (put spot v)) ≡ update (map (renamed name) os) i (put spot v)
    by [] i = refl
    by (x ∷ os) zero = ap (λ n. record { layout = map (named_cell name) x.layout; count = x.count; values = overwritten (spot.element * n + spot.cell) (take (n - spot.cell) (v ∷ [])) x.values } ∷ map (renamed name) os) (sym (long name x.layout))
    by (x ∷ os) (suc i) = ap (λ xs. renamed name x ∷ xs) (by os i)
