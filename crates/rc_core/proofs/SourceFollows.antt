-- The source's runs under other limits of turns, and what they keep.
use Rattle.std.proofs.Common.{◌≡◌, ℕ, zero, suc, ◌≤◌, Bool, true, false, List, [], ◌∷◌, drop, refl, sym, ap, ◌∙◌, subst, arith}
use Rattle.std.specs.Prelude.{ℤ, pos, ◌+ℤ◌, nat_le, nat_lt, nat_eq, not, int_le, unsigned_abs, length}
use Rattle.std.specs.List.{list_all}
use Rattle.rc_base.specs.declared.ends.Trap.{Trap}
use Rattle.rc_base.specs.declared.ends.Trap.TheVariants.{Bounds, Size, Root, Subregion, Reference, Full}
use Rattle.rc_core.specs.declared.ty.Note.{Note}
use Rattle.rc_core.specs.Layout.{Layout}
use Rattle.rc_core.specs.Heap.{Value, Number, Null, Handle, Pointer, Address, Heap, live, objects, object_at, is_fresh, blank}
use Rattle.rc_core.specs.Runs.{Run, Go, spent, tested, touching, Target}
use Rattle.rc_core.specs.Source.{World, with_heap, turn_from, byte_from, at_region, at_address, Spot, values_from, notes_from, is_index, chosen_in_range, cell_of, at_spot, fitting, written, stored, made, allocated, stepped, killed, deleted, references, is_empty, has_child, first_of, source}
use Rattle.rc_core.proofs.Follows.{Follows, goes, stops, weaken, Within, Alike}
use Rattle.rc_core.proofs.Grows.{Later, later_refl, later_heap, later_written, later_waiting, later_turn, later_read, HeapGrows, heap_made, heap_killed, heap_allocated, heap_written}

-- with other turns, and else the same
abbrev pub with_turns : (ℕ → ℕ) → World → World
with_turns g w = record w { turns = g w.turns }

module _ (g : ℕ → ℕ) (Out Outlasts : World → Type 0) where
  -- from this world on
  abbrev Since : World → World → World → Type 0
  Since w x y = Later w x × (y ≡ with_turns g x)

  abbrev S : World → {A : Type 0} → Run World A → Run World A → Type 0
  S w m n = Follows (Since w) (Since w) Out Outlasts m n

  here : (w : World) → Since w w (with_turns g w)
  here w = (later_refl w, refl)

  changed : (w : World) (heap : Heap) → HeapGrows w.heap heap → Since w (with_heap w heap) (with_heap (with_turns g w) heap)
  changed w heap h = (later_heap w heap h, refl)

  tested_same : {A : Type 0} (b : Bool) (t : Trap) (line : ℕ) (w : World) (m n : Run World A) → S w m n → S w (tested b t line w m) (tested b t line (with_turns g w) n)
  tested_same true t line w m n h = h
  tested_same false t line w m n h = stops _ _ _ refl (here w)

  touching_same : {A : Type 0} (b : Bool) (line : ℕ) (w : World) (m n : Run World A) → S w m n → S w (touching b line w m) (touching b line (with_turns g w) n)
  touching_same true line w m n h = h
  touching_same false line w m n h = stops _ _ _ refl (here w)

  at_region_same : {A : Type 0} (line : ℕ) (x : Value) (w : World) (k l : ℕ → Run World A) → ((r : ℕ) → S w (k r) (l r)) → S w (at_region line x w k) (at_region line x (with_turns g w) l)
  at_region_same line (Number n) w k l h = stops _ _ _ refl (here w)
  at_region_same line Null w k l h = stops _ _ _ refl (here w)
  at_region_same line (Handle r) w k l h = h r
  at_region_same line (Pointer a) w k l h = stops _ _ _ refl (here w)

  at_address_same : {A : Type 0} (line : ℕ) (x : Value) (w : World) (k l : Address → Run World A) → ((a : Address) → S w (k a) (l a)) → S w (at_address line x w k) (at_address line x (with_turns g w) l)
  at_address_same line (Number n) w k l h = stops _ _ _ refl (here w)
  at_address_same line Null w k l h = stops _ _ _ refl (here w)
  at_address_same line (Handle r) w k l h = stops _ _ _ refl (here w)
  at_address_same line (Pointer a) w k l h = h a

  at_spot_same : {A : Type 0} (line : ℕ) (t : Target) (w : World) (k l : Spot → Run World A) → ((s : Spot) → S w (k s) (l s)) → S w (at_spot line t w k) (at_spot line t (with_turns g w) l)
  at_spot_same line t w k l h =
      at_address_same line t.pointer w _ _ (λ a. touching_same (live w.heap a.region) line w _ _
      (tested_same (is_index (pos a.index +ℤ t.shift) (object_at w.heap a.region a.object).count) Bounds line w _ _
      (tested_same (list_all chosen_in_range t.chosen) Bounds line w _ _
      (h (record { region = a.region; object = a.object; element = unsigned_abs (pos a.index +ℤ t.shift); cell = cell_of t })))))

  fitting_same : (heap : Heap) (holder line : ℕ) (notes : List Note) (vs : List Value) (w : World) (m n : Run World (Unit {0})) → S w m n → S w (fitting heap holder line notes vs w m) (fitting heap holder line notes vs (with_turns g w) n)
  fitting_same heap holder line notes [] w m n h = h
  fitting_same heap holder line [] (v ∷ vs) w m n h = h
  fitting_same heap holder line (note ∷ notes) (v ∷ vs) w m n h = tested_same _ _ line w _ _ (fitting_same heap holder line notes vs w m n h)

  stored_same : (line : ℕ) (t : Target) (vs : List Value) (w : World) → S w (stored line t vs w) (stored line t vs (with_turns g w))
  stored_same line t vs w =
      at_spot_same line t w _ _ (λ s. touching_same (list_all (is_fresh (live w.heap)) vs) line w _ _ (fitting_same w.heap s.region line (notes_from w.heap s) vs w _ _
      (goes tt _ _ (changed w (written s vs w.heap) (heap_written w.heap s.region s.object _)))))

  made_same : (line p : ℕ) (w : World) → S w (made line p w) (made line p (with_turns g w))
  made_same line p w = tested_same (nat_le (length w.heap) w.regions) Full line w _ _ (goes _ _ _ (changed w _ (heap_made w.heap _)))

  allocated_same : (line r : ℕ) (count : ℤ) (layout : Layout) (w : World) → S w (allocated line r count layout w) (allocated line r count layout (with_turns g w))
  allocated_same line r count layout w =
      tested_same (int_le (pos 0) count) Size line w _ _ (tested_same (nat_lt (length (objects w.heap r)) w.blocks) Full line w _ _
      (goes _ _ _ (changed w _ (heap_allocated w.heap r (blank layout (unsigned_abs count))))))

  stepped_same : (line : ℕ) (a : Address) (n : ℤ) (w : World) → S w (stepped line a n w) (stepped line a n (with_turns g w))
  stepped_same line a n w = touching_same (live w.heap a.region) line w _ _ (tested_same (is_index (pos a.index +ℤ n) (suc (object_at w.heap a.region a.object).count)) Bounds line w _ _ (goes _ _ _ (here w)))

  deleted_same : (line : ℕ) (held : List Value) (r : ℕ) (w : World) → S w (deleted line held r w) (deleted line held r (with_turns g w))
  deleted_same line held r w =
      touching_same (live w.heap r) line w _ _ (tested_same (not (nat_eq r 0)) Root line w _ _
      (tested_same (not (has_child r w.heap)) Subregion line w _ _ (tested_same (is_empty (references r held w)) Reference line w _ _
      (goes tt _ _ (changed w (killed w.heap r) (heap_killed w.heap r))))))

  byte_same : (input : List ℕ) (w : World) → w.input ≡ input → S w (byte_from input w) (byte_from input (with_turns g w))
  byte_same [] w e = goes _ _ _ (later_read w w.input (e ∙ sym (ap (λ xs. drop 1 xs) e)), refl)
  byte_same (b ∷ rest) w e = goes _ _ _ (later_read w rest (sym (ap (λ xs. drop 1 xs) e)), refl)

-- a fact that stays, in worlds that differ by their turns
module _ (g : ℕ → ℕ) (more : (n : ℕ) → n ≤ g n) (next : (n : ℕ) → g (suc n) ≡ suc (g n)) (Out Outlasts : World → Type 0) (I : World → Type 0) (stays : (u w : World) → Later u w → I u → I w) where
  abbrev pub Same : World → World → Type 0
  Same w v = I w × (v ≡ with_turns g w)

  abbrev Steps : World → {A : Type 0} → Run World A → Run World A → Type 0
  Steps w m n = Follows (Within Same source w.turns) (Within Same source w.turns) Out Outlasts m n

  lift : {A : Type 0} (op : World → Run World A) (w v : World) → Same w v → S g Out Outlasts w (op w) (op (with_turns g w)) → Steps w (op w) (op v)
  lift op w v r h =
      subst (λ y. Steps w (op w) (op y)) (sym r.1) (weaken h (λ x y s. ((stays w x s.0 r.0, s.1), s.0.turns)) (λ x y s. ((stays w x s.0 r.0, s.1), s.0.turns)))

  abbrev Turn : World → Run World (Unit {0}) → Run World (Unit {0}) → Type 0
  Turn w m n = Follows (λ x y. Same x y × (suc x.turns ≤ w.turns)) (Within Same source w.turns) Out Outlasts m n

  module _ (none : (w : World) → I w → w.turns ≡ 0 → Turn w (spent w) (turn_from (g 0) (with_turns g w))) where
    turn_same : (n : ℕ) (w : World) → I w → w.turns ≡ n → Turn w (turn_from n w) (turn_from (g n) (with_turns g w))
    turn_same zero w i e = none w i e
    turn_same (suc n) w i e =
        subst (λ m. Turn w (Go tt (record w { turns = n })) (turn_from m (with_turns g w))) (sym (next n))
        (goes tt (record w { turns = n }) _ ((stays w _ (later_turn w n (omega (arith, e))) i, refl), omega (arith, e)))

    pub source_alike : Alike Same Out Outlasts source source
    source_alike = record {
      turns_left = λ w v r. subst (λ y. w.turns ≤ y.turns) (sym r.1) (more w.turns);
      take_turn = λ w v r. subst (λ y. Turn w (turn_from w.turns w) (turn_from y.turns y)) (sym r.1) (turn_same w.turns w r.0 refl);
      get_byte = λ w v r. lift source.get_byte w v r (byte_same g Out Outlasts w.input w refl);
      put_byte = λ b w v r. lift (source.put_byte b) w v r (goes tt _ _ (later_written w b, refl));
      new_region = λ line w v r. lift (source.new_region line) w v r (made_same g Out Outlasts line 0 w);
      new_subregion = λ line p w v r. lift (source.new_subregion line p) w v r (at_region_same g Out Outlasts line p w _ _ (λ q. touching_same g Out Outlasts (live w.heap q) line w _ _ (made_same g Out Outlasts line q w)));
      allocate = λ line p count layout w v r. lift (source.allocate line p count layout) w v r (at_region_same g Out Outlasts line p w _ _ (λ q. touching_same g Out Outlasts (live w.heap q) line w _ _ (allocated_same g Out Outlasts line q count layout w)));
      step = λ line p n w v r. lift (source.step line p n) w v r (at_address_same g Out Outlasts line p w _ _ (λ a. stepped_same g Out Outlasts line a n w));
      load = λ line t w v r. lift (source.load line t) w v r (at_spot_same g Out Outlasts line t w _ _ (λ s. goes (first_of (values_from w.heap s 1)) _ _ (here g Out Outlasts w)));
      store = λ line t x w v r. lift (source.store line t x) w v r (stored_same g Out Outlasts line t (x ∷ []) w);
      load_all = λ line t n w v r. lift (source.load_all line t n) w v r (at_spot_same g Out Outlasts line t w _ _ (λ s. goes (values_from w.heap s n) _ _ (here g Out Outlasts w)));
      store_all = λ line t xs w v r. lift (source.store_all line t xs) w v r (stored_same g Out Outlasts line t xs w);
      delete = λ line held p w v r. lift (source.delete line held p) w v r (at_region_same g Out Outlasts line p w _ _ (λ q. deleted_same g Out Outlasts line held q w));
      enter = λ xs w v r. ((stays w _ (later_waiting w _) r.0, ap (λ y. source.enter xs y) r.1), omega arith);
      leave = λ w w1 v v1 r s. ((stays w1 _ (later_waiting w1 _) s.0, ap (λ y. source.leave y v1) r.1 ∙ ap (λ y. source.leave (with_turns g w) y) s.1), omega arith);
    }
