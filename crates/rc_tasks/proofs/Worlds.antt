-- What the source's operations do in a world with two objects more in region 0, against what they do without them where the
-- limit of objects counts two more.
use Rattle.rc_tasks.proofs.Common.{◌≡◌, ℕ, zero, suc, ◌+◌, not, List, [], ◌∷◌, ◌++◌, length, map, nat_eq, refl, sym, ap, ◌∙◌, subst, arith, ℤ, pos, ◌+ℤ◌, nat_le, unsigned_abs, list_all, Trap, Bounds, Size, Root, Subregion, Reference, Full, Note, Layout, Value, Number, Null, Handle, Pointer, Address, Object, Heap, live, parent, objects, object_at, is_fresh, fits, Run, Go, tested, touching, Target, World, with_heap, turn_from, byte_from, at_region, at_address, Spot, values_from, notes_from, is_index, cell_of, at_spot, unfit, fitting, written, stored, made, stepped, killed, deleted, references, is_empty, has_child, first_of, source, TaskWorld, beside, counted_besides, allocated, tasks}
use Rattle.std.proofs.Common.{Bool, true, false}
use Rattle.std.specs.Prelude.{nat_lt}
use Rattle.rc_tasks.proofs.Moved.{moved_object, moved, moved_address, moved_target, of_region_moved, later_moved}
use Rattle.rc_tasks.proofs.Follows.{Follows, goes, stops, same_as, goes_to, Alike}
use Rattle.rc_tasks.proofs.Heaps.{Fine, Silent, moved_spot, append_map, first_moved, blank_moved, lifted, live_lifted, parent_lifted, length_lifted, object_lifted, values_lifted, notes_lifted, written_lifted, written_fine, made_lifted, made_fine, allocated_lifted, allocated_fine, objects_length, first_length, killed_lifted, killed_fine, child_lifted, references_lifted}

module _ (g s : ℕ) (a b : Object) where
  abbrev m : Value → Value
  m = moved g s

  abbrev pub lifted_world : World → World
  lifted_world w = record { turns = w.turns; input = w.input; acts = w.acts; heap = lifted g s a b w.heap; waiting = map m w.waiting; regions = w.regions; blocks = w.blocks }

  -- with the two objects, and else the same
  abbrev pub Lifts : World → World → Type 0
  Lifts w v = (v ≡ lifted_world w) × Fine (g + s) w.heap

  abbrev P : {A B : Type 0} → (A → B) → Run World A → Run World B → Type 0
  P f k l = Follows Lifts f k l

  abbrev Ready : World → Type 0
  Ready w = Fine (g + s) w.heap

  here : (w : World) → Ready w → Lifts w (lifted_world w)
  here w fine = (refl, fine)

  tested_lifts : {A B : Type 0} (f : A → B) (c d : Bool) (t : Trap) (line : ℕ) (w : World) → Ready w → (k : Run World A) (l : Run World B) → d ≡ c → (c ≡ true → P f k l) → P f (tested c t line w k) (tested d t line (lifted_world w) l)
  tested_lifts f c d t line w fine k l e h = subst (λ x. P f (tested c t line w k) (tested x t line (lifted_world w) l)) (sym e) (both c h)
    where
      both : (x : Bool) → (x ≡ true → P f k l) → P f (tested x t line w k) (tested x t line (lifted_world w) l)
      both true h = h refl
      both false h = stops _ _ _ (here w fine)

  touching_lifts : {A B : Type 0} (f : A → B) (c d : Bool) (line : ℕ) (w : World) → Ready w → (k : Run World A) (l : Run World B) → d ≡ c → P f k l → P f (touching c line w k) (touching d line (lifted_world w) l)
  touching_lifts f c d line w fine k l e h = subst (λ x. P f (touching c line w k) (touching x line (lifted_world w) l)) (sym e) (both c)
    where
      both : (x : Bool) → P f (touching x line w k) (touching x line (lifted_world w) l)
      both true = h
      both false = stops _ _ _ (here w fine)

  live_at : (w : World) (r : ℕ) → live (lifted_world w).heap r ≡ live w.heap r
  live_at w r = ap (λ l. l r) (live_lifted g s a b w.heap)

  at_region_lifts : {A B : Type 0} (f : A → B) (line : ℕ) (x : Value) (w : World) → Ready w → (k : ℕ → Run World A) (l : ℕ → Run World B) → ((r : ℕ) → P f (k r) (l r)) → P f (at_region line x w k) (at_region line (m x) (lifted_world w) l)
  at_region_lifts f line (Number n) w fine k l h = stops _ _ _ (here w fine)
  at_region_lifts f line Null w fine k l h = stops _ _ _ (here w fine)
  at_region_lifts f line (Handle r) w fine k l h = h r
  at_region_lifts f line (Pointer p) w fine k l h = stops _ _ _ (here w fine)

  at_address_lifts : {A B : Type 0} (f : A → B) (line : ℕ) (x : Value) (w : World) → Ready w → (k : Address → Run World A) (l : Address → Run World B) → ((p : Address) → P f (k p) (l (moved_address g s p))) → P f (at_address line x w k) (at_address line (m x) (lifted_world w) l)
  at_address_lifts f line (Number n) w fine k l h = stops _ _ _ (here w fine)
  at_address_lifts f line Null w fine k l h = stops _ _ _ (here w fine)
  at_address_lifts f line (Handle r) w fine k l h = stops _ _ _ (here w fine)
  at_address_lifts f line (Pointer p) w fine k l h = h p

  count_at : (w : World) (r o : ℕ) → Ready w → (object_at (lifted_world w).heap r (moved_object g s r o)).count ≡ (object_at w.heap r o).count
  count_at w r o fine = ap (λ (x : Object). x.count) (object_lifted g s a b w.heap r o fine)

  at_spot_lifts : {A B : Type 0} (f : A → B) (line : ℕ) (t : Target) (w : World) → Ready w → (k : Spot → Run World A) (l : Spot → Run World B) → ((p : Spot) → P f (k p) (l (moved_spot g s p))) → P f (at_spot line t w k) (at_spot line (moved_target g s t) (lifted_world w) l)
  at_spot_lifts f line t w fine k l h =
      at_address_lifts f line t.pointer w fine _ _ (λ p. touching_lifts f _ _ line w fine _ _ (live_at w p.region)
      (tested_lifts f _ _ Bounds line w fine _ _ (ap (is_index (pos p.index +ℤ t.shift)) (count_at w p.region p.object fine)) (λ _.
      tested_lifts f _ _ Bounds line w fine _ _ refl (λ _.
      h (record { region = p.region; object = p.object; element = unsigned_abs (pos p.index +ℤ t.shift); cell = cell_of t })))))

  fresh_at : (w : World) (v : Value) → is_fresh (live (lifted_world w).heap) (m v) ≡ is_fresh (live w.heap) v
  fresh_at w v = of_region_moved g s true (live (lifted_world w).heap) v ∙ ap (λ l. is_fresh l v) (live_lifted g s a b w.heap)

  all_fresh_at : (w : World) (vs : List Value) → list_all (is_fresh (live (lifted_world w).heap)) (map m vs) ≡ list_all (is_fresh (live w.heap)) vs
  all_fresh_at w [] = refl
  all_fresh_at w (v ∷ vs) = rw (fresh_at w v, all_fresh_at w vs) refl

  fits_at : (w : World) (note : Note) (holder : ℕ) (v : Value) → fits (parent (lifted_world w).heap) note holder (m v) ≡ fits (parent w.heap) note holder v
  fits_at w note holder v = ap (λ p. fits p note holder (m v)) (parent_lifted g s a b w.heap) ∙ moved_fits note
    where
      moved_fits : (n : Note) → fits (parent w.heap) n holder (m v) ≡ fits (parent w.heap) n holder v
      moved_fits Note.Plain = refl
      moved_fits Note.SameRegion = of_region_moved g s true _ v
      moved_fits Note.ParentPtr = of_region_moved g s true _ v
      moved_fits Note.Traditional = of_region_moved g s true _ v

  fitting_lifts : {A B : Type 0} (f : A → B) (holder line : ℕ) (notes : List Note) (vs : List Value) (w : World) → Ready w → (k : Run World (Unit {0})) (l : Run World (Unit {0})) → P same_as k l →
      P same_as (fitting w.heap holder line notes vs w k) (fitting (lifted_world w).heap holder line notes (map m vs) (lifted_world w) l)
  fitting_lifts f holder line notes [] w fine k l h = h
  fitting_lifts f holder line [] (v ∷ vs) w fine k l h = h
  fitting_lifts f holder line (note ∷ notes) (v ∷ vs) w fine k l h = tested_lifts same_as _ _ (unfit note) line w fine _ _ (fits_at w note holder v) (λ _. fitting_lifts f holder line notes vs w fine k l h)

  heap_lifts : (w : World) (heap : Heap) (new : Heap) → new ≡ lifted g s a b heap → Fine (g + s) heap → Lifts (with_heap w heap) (with_heap (lifted_world w) new)
  heap_lifts w heap new e fine = (ap (λ h. with_heap (lifted_world w) h) e, fine)

  stored_lifts : (line : ℕ) (t : Target) (vs : List Value) (w : World) → Ready w → P same_as (stored line t vs w) (stored line (moved_target g s t) (map m vs) (lifted_world w))
  stored_lifts line t vs w fine =
      at_spot_lifts same_as line t w fine _
      (λ p. touching (list_all (is_fresh (live (lifted_world w).heap)) (map m vs)) line (lifted_world w) (fitting (lifted_world w).heap p.region line (notes_from (lifted_world w).heap p) (map m vs) (lifted_world w) (Go tt (with_heap (lifted_world w) (written p (map m vs) (lifted_world w).heap)))))
      (λ p. touching_lifts same_as _ _ line w fine _ _ (all_fresh_at w vs)
      (subst (λ notes. P same_as (fitting w.heap p.region line (notes_from w.heap p) vs w (Go tt (with_heap w (written p vs w.heap)))) (fitting (lifted_world w).heap p.region line notes (map m vs) (lifted_world w) (Go tt (with_heap (lifted_world w) (written (moved_spot g s p) (map m vs) (lifted_world w).heap)))))
      (sym (notes_lifted g s a b w.heap p fine))
      (fitting_lifts (same_as {A = ℕ}) p.region line (notes_from w.heap p) vs w fine _ _ (goes tt _ _ (heap_lifts w _ _ (written_lifted g s a b w.heap p vs fine) (written_fine g s a b w.heap p vs fine))))))

  made_lifts : (line parent : ℕ) (w : World) → Ready w → P m (made line parent w) (made line parent (lifted_world w))
  made_lifts line parent w fine =
      tested_lifts m _ _ Full line w fine _ _ (ap (λ n. nat_le n w.regions) (length_lifted g s a b w.heap)) (λ _.
      goes_to Lifts (Handle (length w.heap)) _ _ _ (ap Handle (sym (length_lifted g s a b w.heap))) (heap_lifts w _ _ (made_lifted g s a b w.heap parent fine) (made_fine g s a b w.heap _ fine)))

  -- the limit counts the two objects, and the new object stands behind them
  room_at : (w : World) (r : ℕ) → Ready w → length (objects (lifted_world w).heap r) ≡ length (objects w.heap r) + counted_besides r
  room_at w zero fine = first_length g s a b w.heap fine ∙ two (length (objects w.heap 0))
    where
      two : (n : ℕ) → suc (suc n) ≡ n + 2
      two n = omega arith
  room_at w (suc r) fine = objects_length g s a b w.heap r fine ∙ none (length (objects w.heap (suc r)))
    where
      none : (n : ℕ) → n ≡ n + 0
      none n = omega arith

  new_at : (w : World) (r : ℕ) → Ready w → moved_object g s r (length (objects w.heap r)) ≡ length (objects (lifted_world w).heap r)
  new_at w zero fine = later_moved g s (length (objects w.heap 0)) fine.has ∙ sym (first_length g s a b w.heap fine)
  new_at w (suc r) fine = sym (objects_length g s a b w.heap r fine)

  allocated_lifts : (line r : ℕ) (count : ℤ) (layout : Layout) (w : World) → Ready w → P m (allocated line r count layout w) (Rattle.rc_core.specs.Source.allocated line r count layout (lifted_world w))
  allocated_lifts line r count layout w fine =
      tested_lifts m _ _ Size line w fine _ _ refl (λ _. tested_lifts m _ _ Full line w fine _ _ (ap (λ n. nat_lt n w.blocks) (room_at w r fine)) (λ _.
      goes_to Lifts (Pointer (record { region = r; object = length (objects w.heap r); index = 0 })) _ _ _ (ap (λ o. Pointer (record { region = r; object = o; index = 0 })) (new_at w r fine))
      (heap_lifts w _ _ (allocated_lifted g s a b w.heap r _ fine (blank_moved g s layout (unsigned_abs count))) (allocated_fine g s a b w.heap r _ fine))))

  stepped_lifts : (line : ℕ) (p : Address) (n : ℤ) (w : World) → Ready w → P m (stepped line p n w) (stepped line (moved_address g s p) n (lifted_world w))
  stepped_lifts line p n w fine =
      touching_lifts m _ _ line w fine _ _ (live_at w p.region) (tested_lifts m _ _ Bounds line w fine _ _ (ap (λ c. is_index (pos p.index +ℤ n) (suc c)) (count_at w p.region p.object fine)) (λ _.
      goes (Pointer (record p { index = unsigned_abs (pos p.index +ℤ n) })) _ _ (here w fine)))

  load_lifts : (line : ℕ) (t : Target) (w : World) → Ready w → P m (source.load line t w) (source.load line (moved_target g s t) (lifted_world w))
  load_lifts line t w fine =
      at_spot_lifts m line t w fine (λ p. Go (first_of (values_from w.heap p 1)) w) (λ p. Go (first_of (values_from (lifted_world w).heap p 1)) (lifted_world w))
      (λ p. goes_to Lifts (first_of (values_from w.heap p 1)) _ w _ (first_moved g s (values_from w.heap p 1) ∙ ap first_of (sym (values_lifted g s a b w.heap p 1 fine))) (refl, fine))

  load_all_lifts : (line : ℕ) (t : Target) (n : ℕ) (w : World) → Ready w → P (map m) (source.load_all line t n w) (source.load_all line (moved_target g s t) n (lifted_world w))
  load_all_lifts line t n w fine =
      at_spot_lifts (map m) line t w fine (λ p. Go (values_from w.heap p n) w) (λ p. Go (values_from (lifted_world w).heap p n) (lifted_world w))
      (λ p. goes_to Lifts (values_from w.heap p n) _ w _ (sym (values_lifted g s a b w.heap p n fine)) (refl, fine))

  module _ (qa : Silent a) (qb : Silent b) where
    deleted_lifts : (line : ℕ) (held : List Value) (r : ℕ) (w : World) → Ready w → P same_as (deleted line held r w) (deleted line (map m held) r (lifted_world w))
    deleted_lifts line held zero w fine =
        touching_lifts same_as _ _ line w fine _ _ (live_at w 0) (tested_lifts same_as _ _ Root line w fine
        (tested (not (has_child 0 w.heap)) Subregion line w (tested (is_empty (references 0 held w)) Reference line w (Go tt (with_heap w (killed w.heap 0)))))
        (tested (not (has_child 0 (lifted_world w).heap)) Subregion line (lifted_world w) (tested (is_empty (references 0 (map m held) (lifted_world w))) Reference line (lifted_world w) (Go tt (with_heap (lifted_world w) (killed (lifted_world w).heap 0)))))
        refl (λ e. absurd (root e)))
      where
        root : not (nat_eq 0 0) ≡ true → ⊥
        root e = cc
    deleted_lifts line held (suc r) w fine =
        touching_lifts same_as _ _ line w fine _ _ (live_at w (suc r)) (tested_lifts same_as _ _ Root line w fine _ _ refl (λ _.
        tested_lifts same_as _ _ Subregion line w fine _ _ (ap not (child_lifted g s a b w.heap (suc r))) (λ _.
        tested_lifts same_as _ _ Reference line w fine _ _ (references_lifted g s a b (suc r) w.heap w.waiting held qa qb) (λ _.
        goes tt _ _ (heap_lifts w _ _ (killed_lifted g s a b w.heap r) (killed_fine g s a b w.heap r fine))))))

    byte_lifts : (input : List ℕ) (w : World) → Ready w → P same_as (byte_from input w) (byte_from input (lifted_world w))
    byte_lifts [] w fine = goes _ _ _ (refl, fine)
    byte_lifts (c ∷ rest) w fine = goes _ _ _ (refl, fine)

    turn_lifts : (n : ℕ) (w : World) → Ready w → P same_as (turn_from n w) (turn_from n (lifted_world w))
    turn_lifts zero w fine = stops _ _ _ (here w fine)
    turn_lifts (suc n) w fine = goes tt _ _ (refl, fine)

-- the numbers of the choices that were taken and of those that are left make all of them
pub record Related (g s : ℕ) (a : ℕ → Object) (b : Object) (choices : List ℕ) (w : TaskWorld) (v : World) : Type 0 where
  pub taken : List ℕ
  pub all : choices ≡ taken ++ w.choices
  pub lifts : Lifts g s (a (length taken)) b w.source v

module _ (g s : ℕ) (a : ℕ → Object) (b : Object) (choices : List ℕ) (qa : (n : ℕ) → Silent (a n)) (qb : Silent b) where
  abbrev pub Rel : TaskWorld → World → Type 0
  Rel w v = Related g s a b choices w v

  beside_follows : {A B : Type 0} (f : A → B) (taken left : List ℕ) (k : Run World A) (l : Run World B) → choices ≡ taken ++ left → Follows (Lifts g s (a (length taken)) b) f k l → Follows Rel f (beside left k) l
  beside_follows f taken left _ _ e (goes x w v r) = goes x _ v (record { taken = taken; all = e; lifts = r })
  beside_follows f taken left _ _ e (stops st w v r) = stops st _ v (record { taken = taken; all = e; lifts = r })

  lift_op : {A B : Type 0} (f : A → B) (op : World → Run World A) (op' : World → Run World B) (w : TaskWorld) (v : World) → (r : Rel w v) → Follows (Lifts g s (a (length r.taken)) b) f (op w.source) (op' (lifted_world g s (a (length r.taken)) b w.source)) → Follows Rel f (beside w.choices (op w.source)) (op' v)
  lift_op f op op' w v r h = subst (λ u. Follows Rel f (beside w.choices (op w.source)) (op' u)) (sym r.lifts.0) (beside_follows f r.taken w.choices _ _ r.all h)

  abbrev X : {w : TaskWorld} {v : World} → Rel w v → Object
  X r = a (length r.taken)

  pub tasks_alike : Alike Rel g s tasks source
  tasks_alike = record {
    turns_left = λ w v r. ap (λ (u : World). u.turns) (sym r.lifts.0);
    take_turn = λ w v r. lift_op same_as source.take_turn source.take_turn w v r (turn_lifts g s (X r) b (qa _) qb w.source.turns w.source r.lifts.1);
    get_byte = λ w v r. lift_op same_as source.get_byte source.get_byte w v r (byte_lifts g s (X r) b (qa _) qb w.source.input w.source r.lifts.1);
    put_byte = λ c w v r. lift_op same_as (source.put_byte c) (source.put_byte c) w v r (goes tt _ _ (refl, r.lifts.1));
    new_region = λ line w v r. lift_op (moved g s) (source.new_region line) (source.new_region line) w v r (made_lifts g s (X r) b line 0 w.source r.lifts.1);
    new_subregion = λ line p w v r. lift_op (moved g s) (source.new_subregion line p) (source.new_subregion line (moved g s p)) w v r
        (at_region_lifts g s (X r) b (moved g s) line p w.source r.lifts.1 _ _ (λ q. touching_lifts g s (X r) b (moved g s) _ _ line w.source r.lifts.1 _ _ (live_at g s (X r) b w.source q) (made_lifts g s (X r) b line q w.source r.lifts.1)));
    allocate = λ line p count layout w v r. lift_op (moved g s) (λ u. at_region line p u (λ q. touching (live u.heap q) line u (allocated line q count layout u))) (source.allocate line (moved g s p) count layout) w v r
        (at_region_lifts g s (X r) b (moved g s) line p w.source r.lifts.1 _ _ (λ q. touching_lifts g s (X r) b (moved g s) _ _ line w.source r.lifts.1 _ _ (live_at g s (X r) b w.source q) (allocated_lifts g s (X r) b line q count layout w.source r.lifts.1)));
    step = λ line p n w v r. lift_op (moved g s) (source.step line p n) (source.step line (moved g s p) n) w v r (at_address_lifts g s (X r) b (moved g s) line p w.source r.lifts.1 _ _ (λ q. stepped_lifts g s (X r) b line q n w.source r.lifts.1));
    load = λ line t w v r. lift_op (moved g s) (source.load line t) (source.load line (moved_target g s t)) w v r (load_lifts g s (X r) b line t w.source r.lifts.1);
    store = λ line t x w v r. lift_op same_as (source.store line t x) (source.store line (moved_target g s t) (moved g s x)) w v r (stored_lifts g s (X r) b line t (x ∷ []) w.source r.lifts.1);
    load_all = λ line t n w v r. lift_op (map (moved g s)) (source.load_all line t n) (source.load_all line (moved_target g s t) n) w v r (load_all_lifts g s (X r) b line t n w.source r.lifts.1);
    store_all = λ line t xs w v r. lift_op same_as (source.store_all line t xs) (source.store_all line (moved_target g s t) (map (moved g s) xs)) w v r (stored_lifts g s (X r) b line t xs w.source r.lifts.1);
    delete = λ line held p w v r. lift_op same_as (source.delete line held p) (source.delete line (map (moved g s) held) (moved g s p)) w v r
        (at_region_lifts g s (X r) b same_as line p w.source r.lifts.1 _ _ (λ q. deleted_lifts g s (X r) b (qa _) qb line held q w.source r.lifts.1));
    enter = λ xs w v r. record { taken = r.taken; all = r.all; lifts = (entered xs w v r, r.lifts.1) };
    leave = λ w w1 v v1 r r1. record { taken = r1.taken; all = r1.all; lifts = (left w w1 v v1 r r1, r1.lifts.1) };
  }
    where
      entered : (xs : List Value) (w : TaskWorld) (v : World) (r : Rel w v) → source.enter (map (moved g s) xs) v ≡ lifted_world g s (X r) b (source.enter xs w.source)
      entered xs w v r =
          ap (source.enter (map (moved g s) xs)) r.lifts.0
          ∙ ap (λ vs. record (lifted_world g s (X r) b w.source) { waiting = vs }) (sym (append_map g s xs w.source.waiting))

      left : (w w1 : TaskWorld) (v v1 : World) (r : Rel w v) (r1 : Rel w1 v1) → source.leave v v1 ≡ lifted_world g s (X r1) b (source.leave w.source w1.source)
      left w w1 v v1 r r1 = ap (λ u. source.leave u v1) r.lifts.0 ∙ ap (source.leave (lifted_world g s (X r) b w.source)) r1.lifts.0
