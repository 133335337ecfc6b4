-- A heap with two objects more in region 0, to which nothing leads.
use Rattle.rc_tasks.proofs.Common.{◌≡◌, ℕ, zero, suc, ◌+◌, ◌-◌, ◌≤◌, not, ◌||◌, ◌&&◌, cond, List, [], ◌∷◌, ◌++◌, length, map, take, drop, replicate, flat_map, filter, get_or, nat_eq, if◌then◌else◌, refl, sym, ap, ◌∙◌, arith, fun_ext, CellKind, int_cell, unsigned_cell, char_cell, region_cell, pointer_cell, Layout, note_of, Value, Object, Region, Heap, no_region, no_object, live, parent, objects, object_at, with_objects, names, blank_cell, blank, Spot, object_of, place_of, values_from, notes_from, first_of, overwritten, written, killed, has_child, values_of, values_outside, is_empty}
use Rattle.std.proofs.Common.{Bool, true, false}
use Rattle.rc_core.specs.Heap.{update}
use Rattle.rc_tasks.proofs.Lists.{shift, insert, get_shifted, get_inserted, get_before, update_before, length_inserted, update_shifted, update_inserted, append_inserted, length_updated, map_updated, get_mapped}
use Rattle.rc_tasks.proofs.Moved.{place, moved_object, moved, of_region_moved}

-- alive, and with so many objects in it
pub record Fine (n : ℕ) (heap : Heap) : Type 0 where
  pub lives : live heap 0 ≡ true
  pub has : n ≤ length (objects heap 0)

-- it leads to no region
abbrev pub Silent : Object → Type 0
Silent o = (r : ℕ) → is_empty (filter (names r) o.values) ≡ true

and_true : (a b : Bool) → a ≡ true → (a && b) ≡ b
and_true true b e = refl
and_true false b e = cc

module _ (g s : ℕ) where
  abbrev m : Value → Value
  m = moved g s

  abbrev pub moved_in : Object → Object
  moved_in o = record { layout = o.layout; count = o.count; values = map m o.values }

  abbrev pub moved_region : Region → Region
  moved_region q = record { parent = q.parent; alive = q.alive; objects = map moved_in q.objects }

  abbrev pub moved_spot : Spot → Spot
  moved_spot p = record { region = p.region; object = moved_object g s p.region p.object; element = p.element; cell = p.cell }

  take_moved : (n : ℕ) (vs : List Value) → take n (map m vs) ≡ map m (take n vs)
  take_moved zero vs = refl
  take_moved (suc n) [] = refl
  take_moved (suc n) (v ∷ vs) = ap (λ l. m v ∷ l) (take_moved n vs)

  drop_moved : (n : ℕ) (vs : List Value) → drop n (map m vs) ≡ map m (drop n vs)
  drop_moved zero vs = refl
  drop_moved (suc n) [] = refl
  drop_moved (suc n) (v ∷ vs) = drop_moved n vs

  overwritten_moved : (n : ℕ) (new old : List Value) → overwritten n (map m new) (map m old) ≡ map m (overwritten n new old)
  overwritten_moved n new [] = refl
  overwritten_moved zero [] (v ∷ vs) = refl
  overwritten_moved zero (u ∷ new) (v ∷ vs) = ap (λ l. m u ∷ l) (overwritten_moved zero new vs)
  overwritten_moved (suc n) new (v ∷ vs) = ap (λ l. m v ∷ l) (overwritten_moved n new vs)

  pub first_moved : (vs : List Value) → m (first_of vs) ≡ first_of (map m vs)
  first_moved [] = refl
  first_moved (v ∷ vs) = refl

  blank_cell_moved : (c : CellKind) → m (blank_cell c) ≡ blank_cell c
  blank_cell_moved int_cell = refl
  blank_cell_moved unsigned_cell = refl
  blank_cell_moved char_cell = refl
  blank_cell_moved region_cell = refl
  blank_cell_moved (pointer_cell note target) = refl

  append_moved : (vs us : List Value) → map m (vs ++ us) ≡ map m vs ++ map m us
  append_moved [] us = refl
  append_moved (v ∷ vs) us = ap (λ l. m v ∷ l) (append_moved vs us)

  pub append_map : (vs us : List Value) → map m (vs ++ us) ≡ map m vs ++ map m us
  append_map = append_moved

  cells_moved : (layout : Layout) → map m (map blank_cell layout) ≡ map blank_cell layout
  cells_moved [] = refl
  cells_moved (c ∷ layout) = ap (λ v. v ∷ map m (map blank_cell layout)) (blank_cell_moved c) ∙ ap (λ l. blank_cell c ∷ l) (cells_moved layout)

  blanks_moved : (layout : Layout) (n : ℕ) → map m (flat_map (map blank_cell) (replicate n layout)) ≡ flat_map (map blank_cell) (replicate n layout)
  blanks_moved layout zero = refl
  blanks_moved layout (suc n) =
      append_moved (map blank_cell layout) (flat_map (map blank_cell) (replicate n layout))
      ∙ ap (λ l. l ++ map m (flat_map (map blank_cell) (replicate n layout))) (cells_moved layout)
      ∙ ap (λ l. map blank_cell layout ++ l) (blanks_moved layout n)

  pub blank_moved : (layout : Layout) (n : ℕ) → moved_in (blank layout n) ≡ blank layout n
  blank_moved layout n = ap (λ vs. record { layout = layout; count = n; values = vs }) (blanks_moved layout n)

  -- the objects of the other regions, and these of region 0
  module _ (a b : Object) where
    abbrev pub with_hidden : List Object → List Object
    with_hidden os = insert (suc (g + s)) b (insert g a (map moved_in os))

    abbrev pub lifted : Heap → Heap
    lifted [] = []
    lifted (q ∷ heap) = record { parent = q.parent; alive = q.alive; objects = with_hidden q.objects } ∷ map moved_region heap

    abbrev F : Heap → Type 0
    F heap = Fine (g + s) heap

    mapped_length : (os : List Object) → length (map moved_in os) ≡ length os
    mapped_length [] = refl
    mapped_length (o ∷ os) = ap suc (mapped_length os)

    regions_length : (heap : Heap) → length (map moved_region heap) ≡ length heap
    regions_length [] = refl
    regions_length (q ∷ heap) = ap suc (regions_length heap)

    first_fits : (os : List Object) → g + s ≤ length os → g ≤ length (map moved_in os)
    first_fits os le = omega (arith, le, mapped_length os)

    second_fits : (os : List Object) → g + s ≤ length os → suc (g + s) ≤ length (insert g a (map moved_in os))
    second_fits os le = omega (arith, le, mapped_length os, length_inserted g a (map moved_in os))

    pub hidden_length : (os : List Object) → length (with_hidden os) ≡ suc (suc (length os))
    hidden_length os = length_inserted (suc (g + s)) b (insert g a (map moved_in os)) ∙ ap suc (length_inserted g a (map moved_in os)) ∙ ap (λ n. suc (suc n)) (mapped_length os)

    hidden_at : (os : List Object) (o : ℕ) → g + s ≤ length os → get_or (with_hidden os) (place g s o) no_object ≡ moved_in (get_or os o no_object)
    hidden_at os o le =
        get_shifted (suc (g + s)) b (insert g a (map moved_in os)) (shift g o) no_object (second_fits os le)
        ∙ get_shifted g a (map moved_in os) o no_object (first_fits os le) ∙ get_mapped moved_in os o no_object

    hidden_update : (os : List Object) (o : ℕ) (f f' : Object → Object) → g + s ≤ length os → ((x : Object) → f' (moved_in x) ≡ moved_in (f x)) → update (with_hidden os) (place g s o) f' ≡ with_hidden (update os o f)
    hidden_update os o f f' le h =
        update_shifted (suc (g + s)) b (insert g a (map moved_in os)) (shift g o) f' (second_fits os le)
        ∙ ap (insert (suc (g + s)) b) (update_shifted g a (map moved_in os) o f' (first_fits os le) ∙ ap (insert g a) (map_updated moved_in os o f f' h))

    append_in : (xs ys : List Object) → map moved_in (xs ++ ys) ≡ map moved_in xs ++ map moved_in ys
    append_in [] ys = refl
    append_in (x ∷ xs) ys = ap (λ l. moved_in x ∷ l) (append_in xs ys)

    append_regions : (xs ys : Heap) → map moved_region (xs ++ ys) ≡ map moved_region xs ++ map moved_region ys
    append_regions [] ys = refl
    append_regions (x ∷ xs) ys = ap (λ l. moved_region x ∷ l) (append_regions xs ys)

    hidden_append : (os : List Object) (o : Object) → g + s ≤ length os → moved_in o ≡ o → with_hidden os ++ o ∷ [] ≡ with_hidden (os ++ o ∷ [])
    hidden_append os o le e =
        append_inserted (suc (g + s)) b (insert g a (map moved_in os)) (o ∷ []) (second_fits os le)
        ∙ ap (insert (suc (g + s)) b) (append_inserted g a (map moved_in os) (o ∷ []) (first_fits os le)
        ∙ ap (insert g a) (ap (λ x. map moved_in os ++ x ∷ []) (sym e) ∙ sym (append_in os (o ∷ []))))

    pub live_lifted : (heap : Heap) → live (lifted heap) ≡ live heap
    live_lifted heap = fun_ext (at heap)
      where
        at : (heap : Heap) (r : ℕ) → live (lifted heap) r ≡ live heap r
        at [] r = refl
        at (q ∷ heap) zero = refl
        at (q ∷ heap) (suc r) = ap (λ (x : Region). x.alive) (get_mapped moved_region heap r no_region)

    pub parent_lifted : (heap : Heap) → parent (lifted heap) ≡ parent heap
    parent_lifted heap = fun_ext (at heap)
      where
        at : (heap : Heap) (r : ℕ) → parent (lifted heap) r ≡ parent heap r
        at [] r = refl
        at (q ∷ heap) zero = refl
        at (q ∷ heap) (suc r) = ap (λ (x : Region). x.parent) (get_mapped moved_region heap r no_region)

    pub length_lifted : (heap : Heap) → length (lifted heap) ≡ length heap
    length_lifted [] = refl
    length_lifted (q ∷ heap) = ap suc (regions_length heap)

    objects_later : (q : Region) (heap : Heap) (r : ℕ) → objects (lifted (q ∷ heap)) (suc r) ≡ map moved_in (objects (q ∷ heap) (suc r))
    objects_later q heap r = ap (λ (x : Region). x.objects) (get_mapped moved_region heap r no_region)

    pub object_lifted : (heap : Heap) (r o : ℕ) → F heap → object_at (lifted heap) r (moved_object g s r o) ≡ moved_in (object_at heap r o)
    object_lifted [] r o fine = absurd (no fine.lives)
      where
        no : false ≡ true → ⊥
        no e = cc
    object_lifted (q ∷ heap) zero o fine = hidden_at q.objects o fine.has
    object_lifted (q ∷ heap) (suc r) o fine = ap (λ os. get_or os o no_object) (objects_later q heap r) ∙ get_mapped moved_in (objects (q ∷ heap) (suc r)) o no_object

    values_at : (o : Object) (p : Spot) (n : ℕ) → take n (drop (place_of (moved_in o) (moved_spot p)) (moved_in o).values) ≡ map m (take n (drop (place_of o p) o.values))
    values_at o p n = ap (take n) (drop_moved (place_of o p) o.values) ∙ take_moved n (drop (place_of o p) o.values)

    pub values_lifted : (heap : Heap) (p : Spot) (n : ℕ) → F heap → values_from (lifted heap) (moved_spot p) n ≡ map m (values_from heap p n)
    values_lifted heap p n fine =
        ap (λ (o : Object). take n (drop (place_of o (moved_spot p)) o.values)) (object_lifted heap p.region p.object fine) ∙ values_at (object_of heap p) p n

    pub notes_lifted : (heap : Heap) (p : Spot) → F heap → notes_from (lifted heap) (moved_spot p) ≡ notes_from heap p
    notes_lifted heap p fine = ap (λ (o : Object). map note_of (drop p.cell o.layout)) (object_lifted heap p.region p.object fine)

    -- a change in place
    change_later : (heap : Heap) (r : ℕ) (f f' : List Object → List Object) → ((os : List Object) → f' (map moved_in os) ≡ map moved_in (f os)) →
        update (map moved_region heap) r (λ x. record x { objects = f' x.objects }) ≡ map moved_region (update heap r (λ x. record x { objects = f x.objects }))
    change_later heap r f f' h = map_updated moved_region heap r (λ x. record x { objects = f x.objects }) (λ x. record x { objects = f' x.objects })
        (λ x. ap (λ os. record { parent = x.parent; alive = x.alive; objects = os }) (h x.objects))

    abbrev write_in : Spot → List Value → Object → Object
    write_in p vs o = record o { values = overwritten (place_of o p) (take (length o.layout - p.cell) vs) o.values }

    write_both : (p : Spot) (vs : List Value) (x : Object) → write_in (moved_spot p) (map m vs) (moved_in x) ≡ moved_in (write_in p vs x)
    write_both p vs x = ap (λ us. record { layout = x.layout; count = x.count; values = us })
        (ap (λ us. overwritten (place_of x p) us (map m x.values)) (take_moved (length x.layout - p.cell) vs) ∙ overwritten_moved (place_of x p) (take (length x.layout - p.cell) vs) x.values)

    written_at : (p : Spot) (vs : List Value) (heap : Heap) (r : ℕ) → F heap →
        with_objects (lifted heap) r (λ os. update os (moved_object g s r p.object) (write_in (moved_spot p) (map m vs))) ≡ lifted (with_objects heap r (λ os. update os p.object (write_in p vs)))
    written_at p vs [] r fine = refl
    written_at p vs (q ∷ heap) zero fine =
        ap (λ os. record { parent = q.parent; alive = q.alive; objects = os } ∷ map moved_region heap) (hidden_update q.objects p.object (write_in p vs) (write_in (moved_spot p) (map m vs)) fine.has (write_both p vs))
    written_at p vs (q ∷ heap) (suc r) fine = ap (λ l. record { parent = q.parent; alive = q.alive; objects = with_hidden q.objects } ∷ l)
        (change_later heap r (λ os. update os p.object (write_in p vs)) (λ os. update os p.object (write_in (moved_spot p) (map m vs)))
        (λ os. map_updated moved_in os p.object (write_in p vs) (write_in (moved_spot p) (map m vs)) (write_both p vs)))

    pub written_lifted : (heap : Heap) (p : Spot) (vs : List Value) → F heap → written (moved_spot p) (map m vs) (lifted heap) ≡ lifted (written p vs heap)
    written_lifted heap p vs fine = written_at p vs heap p.region fine

    -- region 0 stays, and loses no object
    objects_kept : (heap : Heap) (r : ℕ) (f : List Object → List Object) → ((os : List Object) → length os ≤ length (f os)) → F heap → F (with_objects heap r f)
    objects_kept [] r f h fine = fine
    objects_kept (q ∷ heap) zero f h fine = record { lives = fine.lives; has = omega (arith, fine.has, h q.objects) }
    objects_kept (q ∷ heap) (suc r) f h fine = record { lives = fine.lives; has = fine.has }

    pub written_fine : (heap : Heap) (p : Spot) (vs : List Value) → F heap → F (written p vs heap)
    written_fine heap p vs fine = objects_kept heap p.region _ (λ os. omega (arith, length_updated os p.object (write_in p vs))) fine

    -- a region that is made
    pub made_lifted : (heap : Heap) (parent : ℕ) → F heap →
        lifted heap ++ record { parent = parent; alive = true; objects = [] } ∷ [] ≡ lifted (heap ++ record { parent = parent; alive = true; objects = [] } ∷ [])
    made_lifted [] parent fine = absurd (no fine.lives)
      where
        no : false ≡ true → ⊥
        no e = cc
    made_lifted (q ∷ heap) parent fine = ap (λ l. record { parent = q.parent; alive = q.alive; objects = with_hidden q.objects } ∷ l) (sym (append_regions heap (record { parent = parent; alive = true; objects = [] } ∷ [])))

    pub made_fine : (heap : Heap) (r : Region) → F heap → F (heap ++ r ∷ [])
    made_fine [] r fine = absurd (no fine.lives)
      where
        no : false ≡ true → ⊥
        no e = cc
    made_fine (q ∷ heap) r fine = record { lives = fine.lives; has = fine.has }

    -- an object that is made
    pub allocated_lifted : (heap : Heap) (r : ℕ) (o : Object) → F heap → moved_in o ≡ o → with_objects (lifted heap) r (λ os. os ++ o ∷ []) ≡ lifted (with_objects heap r (λ os. os ++ o ∷ []))
    allocated_lifted [] r o fine e = refl
    allocated_lifted (q ∷ heap) zero o fine e = ap (λ os. record { parent = q.parent; alive = q.alive; objects = os } ∷ map moved_region heap) (hidden_append q.objects o fine.has e)
    allocated_lifted (q ∷ heap) (suc r) o fine e = ap (λ l. record { parent = q.parent; alive = q.alive; objects = with_hidden q.objects } ∷ l)
        (change_later heap r (λ os. os ++ o ∷ []) (λ os. os ++ o ∷ []) (λ os. ap (λ x. map moved_in os ++ x ∷ []) (sym e) ∙ sym (append_in os (o ∷ []))))

    append_longer : (os : List Object) (o : Object) → length os ≤ length (os ++ o ∷ [])
    append_longer [] o = omega arith
    append_longer (x ∷ os) o = omega (arith, append_longer os o)

    pub allocated_fine : (heap : Heap) (r : ℕ) (o : Object) → F heap → F (with_objects heap r (λ os. os ++ o ∷ []))
    allocated_fine heap r o fine = objects_kept heap r _ (λ os. append_longer os o) fine

    pub objects_length : (heap : Heap) (r : ℕ) → F heap → length (objects (lifted heap) (suc r)) ≡ length (objects heap (suc r))
    objects_length [] r fine = refl
    objects_length (q ∷ heap) r fine = ap length (objects_later q heap r) ∙ mapped_length (objects (q ∷ heap) (suc r))

    pub first_length : (heap : Heap) → F heap → length (objects (lifted heap) 0) ≡ suc (suc (length (objects heap 0)))
    first_length [] fine = absurd (no fine.lives)
      where
        no : false ≡ true → ⊥
        no e = cc
    first_length (q ∷ heap) fine = hidden_length q.objects

    -- a region that dies, which is not the first
    killed_later : (heap : Heap) (r : ℕ) → killed (map moved_region heap) r ≡ map moved_region (killed heap r)
    killed_later heap r = map_updated moved_region heap r (λ x. record x { alive = false }) (λ x. record x { alive = false }) (λ x. refl)

    pub killed_lifted : (heap : Heap) (r : ℕ) → killed (lifted heap) (suc r) ≡ lifted (killed heap (suc r))
    killed_lifted [] r = refl
    killed_lifted (q ∷ heap) r = ap (λ l. record { parent = q.parent; alive = q.alive; objects = with_hidden q.objects } ∷ l) (killed_later heap r)

    pub killed_fine : (heap : Heap) (r : ℕ) → F heap → F (killed heap (suc r))
    killed_fine [] r fine = fine
    killed_fine (q ∷ heap) r fine = record { lives = fine.lives; has = fine.has }

    -- what a deletion looks at
    children_later : (heap : Heap) (r : ℕ) → has_child r (map moved_region heap) ≡ has_child r heap
    children_later [] r = refl
    children_later (q ∷ heap) r = ap (λ c. (q.alive && nat_eq q.parent r) || c) (children_later heap r)

    pub child_lifted : (heap : Heap) (r : ℕ) → has_child r (lifted heap) ≡ has_child r heap
    child_lifted [] r = refl
    child_lifted (q ∷ heap) r = ap (λ c. (q.alive && nat_eq q.parent r) || c) (children_later heap r)

    -- the two objects themselves
    pub first_there : (heap : Heap) → F heap → object_at (lifted heap) 0 g ≡ a
    first_there [] fine = absurd (no fine.lives)
      where
        no : false ≡ true → ⊥
        no e = cc
    first_there (q ∷ heap) fine =
        get_before (suc (g + s)) b (insert g a (map moved_in q.objects)) g no_object (omega arith) (second_fits q.objects fine.has)
        ∙ get_inserted g a (map moved_in q.objects) no_object (first_fits q.objects fine.has)

    pub second_there : (heap : Heap) → F heap → object_at (lifted heap) 0 (suc (g + s)) ≡ b
    second_there [] fine = absurd (no fine.lives)
      where
        no : false ≡ true → ⊥
        no e = cc
    second_there (q ∷ heap) fine = get_inserted (suc (g + s)) b (insert g a (map moved_in q.objects)) no_object (second_fits q.objects fine.has)

    module _ (r : ℕ) where
      -- none of these names it
      abbrev Free : List Value → Bool
      Free vs = is_empty (filter (names r) vs)

      free_by : (c : Bool) (v : Value) (xs ys : List Value) → is_empty (cond c (v ∷ xs) xs) ≡ not c && is_empty xs
      free_by true v xs ys = refl
      free_by false v xs ys = refl

      free_cons : (v : Value) (vs : List Value) → Free (v ∷ vs) ≡ not (names r v) && Free vs
      free_cons v vs = free_by (names r v) v (filter (names r) vs) vs

      and_assoc : (x y z : Bool) → x && (y && z) ≡ (x && y) && z
      and_assoc true y z = refl
      and_assoc false y z = refl

      pub free_append : (vs us : List Value) → Free (vs ++ us) ≡ Free vs && Free us
      free_append [] us = refl
      free_append (v ∷ vs) us =
          free_cons v (vs ++ us) ∙ ap (λ c. not (names r v) && c) (free_append vs us) ∙ and_assoc (not (names r v)) (Free vs) (Free us) ∙ ap (λ c. c && Free us) (sym (free_cons v vs))

      pub free_moved : (vs : List Value) → Free (map m vs) ≡ Free vs
      free_moved [] = refl
      free_moved (v ∷ vs) =
          free_cons (m v) (map m vs) ∙ ap (λ c. not c && Free (map m vs)) (of_region_moved g s false (λ q. nat_eq q r) v) ∙ ap (λ c. not (names r v) && c) (free_moved vs) ∙ sym (free_cons v vs)

      abbrev all_values : List Object → List Value
      all_values os = flat_map (λ (o : Object). o.values) os

      free_objects : (os : List Object) → Free (all_values (map moved_in os)) ≡ Free (all_values os)
      free_objects [] = refl
      free_objects (o ∷ os) =
          free_append (map m o.values) (all_values (map moved_in os)) ∙ ap (λ c. c && Free (all_values (map moved_in os))) (free_moved o.values)
          ∙ ap (λ c. Free o.values && c) (free_objects os) ∙ sym (free_append o.values (all_values os))

      free_inserted : (n : ℕ) (x : Object) (os : List Object) → Silent x → Free (all_values (insert n x os)) ≡ Free (all_values os)
      free_inserted zero x os quiet = free_append x.values (all_values os) ∙ and_true (Free x.values) (Free (all_values os)) (quiet r)
      free_inserted (suc n) x [] quiet = free_append x.values [] ∙ and_true (Free x.values) true (quiet r)
      free_inserted (suc n) x (o ∷ os) quiet =
          free_append o.values (all_values (insert n x os)) ∙ ap (λ c. Free o.values && c) (free_inserted n x os quiet) ∙ sym (free_append o.values (all_values os))

      free_hidden : (os : List Object) → Silent a → Silent b → Free (all_values (with_hidden os)) ≡ Free (all_values os)
      free_hidden os qa qb = free_inserted (suc (g + s)) b (insert g a (map moved_in os)) qb ∙ free_inserted g a (map moved_in os) qa ∙ free_objects os

      -- looked at where the region lives and isn't the one that is deleted
      free_if : (c : Bool) (vs us : List Value) → Free vs ≡ Free us → Free (if c then vs else []) ≡ Free (if c then us else [])
      free_if true vs us e = e
      free_if false vs us e = refl

      free_unless : (c : Bool) (vs us : List Value) → Free vs ≡ Free us → Free (if c then [] else vs) ≡ Free (if c then [] else us)
      free_unless true vs us e = refl
      free_unless false vs us e = e

      free_region : (at : ℕ) (q : Region) (os : List Object) → Free (all_values os) ≡ Free (all_values q.objects) →
          Free (if nat_eq at r then [] else (if q.alive then all_values os else [])) ≡ Free (if nat_eq at r then [] else values_of q)
      free_region at q os e = free_unless (nat_eq at r) _ _ (free_if q.alive (all_values os) (all_values q.objects) e)

      outside_later : (at : ℕ) (heap : Heap) → Free (values_outside r at (map moved_region heap)) ≡ Free (values_outside r at heap)
      outside_later at [] = refl
      outside_later at (q ∷ heap) =
          free_append (if nat_eq at r then [] else values_of (moved_region q)) (values_outside r (suc at) (map moved_region heap))
          ∙ ap (λ c. c && Free (values_outside r (suc at) (map moved_region heap))) (free_region at q (map moved_in q.objects) (free_objects q.objects))
          ∙ ap (λ c. Free (if nat_eq at r then [] else values_of q) && c) (outside_later (suc at) heap)
          ∙ sym (free_append (if nat_eq at r then [] else values_of q) (values_outside r (suc at) heap))

      pub outside_lifted : (heap : Heap) → Silent a → Silent b → Free (values_outside r 0 (lifted heap)) ≡ Free (values_outside r 0 heap)
      outside_lifted [] qa qb = refl
      outside_lifted (q ∷ heap) qa qb =
          free_append (if nat_eq 0 r then [] else (if q.alive then all_values (with_hidden q.objects) else [])) (values_outside r 1 (map moved_region heap))
          ∙ ap (λ c. c && Free (values_outside r 1 (map moved_region heap))) (free_region 0 q (with_hidden q.objects) (free_hidden q.objects qa qb))
          ∙ ap (λ c. Free (if nat_eq 0 r then [] else values_of q) && c) (outside_later 1 heap)
          ∙ sym (free_append (if nat_eq 0 r then [] else values_of q) (values_outside r 1 heap))

      pub references_lifted : (heap : Heap) (waiting held : List Value) → Silent a → Silent b →
          Free (values_outside r 0 (lifted heap) ++ (map m waiting ++ map m held)) ≡ Free (values_outside r 0 heap ++ (waiting ++ held))
      references_lifted heap waiting held qa qb =
          free_append (values_outside r 0 (lifted heap)) (map m waiting ++ map m held)
          ∙ ap (λ c. c && Free (map m waiting ++ map m held)) (outside_lifted heap qa qb)
          ∙ ap (λ vs. Free (values_outside r 0 heap) && Free vs) (sym (append_moved waiting held))
          ∙ ap (λ c. Free (values_outside r 0 heap) && c) (free_moved (waiting ++ held))
          ∙ sym (free_append (values_outside r 0 heap) (waiting ++ held))

  -- a change of the first object
  pub first_changed : (a b : Object) (heap : Heap) (f : Object → Object) → Fine (g + s) heap → with_objects (lifted a b heap) 0 (λ os. update os g f) ≡ lifted (f a) b heap
  first_changed a b [] f fine = refl
  first_changed a b (q ∷ heap) f fine = ap (λ os. record { parent = q.parent; alive = q.alive; objects = os } ∷ map moved_region heap)
      (update_before (suc (g + s)) b (insert g a (map moved_in q.objects)) g f (omega arith) (second_fits a b q.objects fine.has)
      ∙ ap (insert (suc (g + s)) b) (update_inserted g a (map moved_in q.objects) f (first_fits a b q.objects fine.has)))
