-- A copy that goes cell by cell does what reading all cells and then writing them all does.
use Rattle.std.proofs.Common.{◌≡◌, ◌≤◌, ◌+◌, ◌-◌, ◌*◌, ℕ, zero, suc, pos, ◌+ℤ◌, Bool, true, false, ◌&&◌, List, [], ◌∷◌, length, take, drop, map, refl, sym, ap, ◌∙◌, subst, ◌⊎◌, inl, inr, arith}
use Rattle.std.specs.List.{list_all}
use Rattle.rc_base.specs.declared.ends.End.TheVariants.{Trapped}
use Rattle.rc_base.specs.declared.ends.Trap.TheVariants.{Bounds, Null as NullTrap}
use Rattle.rc_core.specs.declared.ty.Note.{Note}
use Rattle.rc_core.specs.Layout.{Layout, note_of}
use Rattle.rc_core.specs.Heap.{Value, Number, Null, Handle, Pointer, Address, Object, Heap, live, parent, object_at, is_fresh, fits}
use Rattle.rc_core.specs.Runs.{Stop, Ends, Stale, Run, Go, Stopped, bind, tested, touching, Target}
use Rattle.rc_core.specs.Source.{World, with_heap, at_address, is_index, chosen_in_range, cell_of, Spot, object_of, place_of, values_from, notes_from, at_spot, unfit, fitting, written, stored, first_of, source}
use Rattle.rc_safety.proofs.Changed.{same_lives, same_parents}
use Rattle.rc_kinds.specs.Copies.{copied_at_once, onward, copied_by_cells, DoesTheSame, Apart, AreApart}
use Rattle.rc_kinds.proofs.Moves.{apart_next, first_taken, overwritten_length}
use Rattle.rc_kinds.proofs.Cells.{still, overwrite, next, written_first, written_nothing, read_next, Passes, spot_at, passed, fitting_first, fitting_heap}

stops_alike : (stop : Stop) (w : World) → DoesTheSame (Stopped stop w) (Stopped stop w)
stops_alike (Ends end) w = (w.heap, refl)
stops_alike (Stale line) w = tt

both_true : (a b : Bool) → (a && b) ≡ true → (a ≡ true) × (b ≡ true)
both_true true b e = (refl, e)
both_true false b e = cc

onward_spot : (tg : Target) (a : Address) → spot_at (onward tg) a ≡ next (spot_at tg a)
onward_spot tg a = let e : cell_of (onward tg) ≡ suc (cell_of tg) = omega arith in ap (λ c. record (spot_at tg a) { cell = c }) e

still_passes : (tg : Target) (a : Address) (heap : Heap) (spot : Spot) (vs : List Value) → Passes tg a heap → Passes (onward tg) a (written spot vs heap)
still_passes tg a heap spot vs p = record {
  pointer = p.pointer;
  alive = ap (λ f. f a.region) (same_lives heap spot.region _) ∙ p.alive;
  index = ap (is_index (pos a.index +ℤ tg.shift)) (still (λ o. o.count) (overwrite spot vs) (λ o. refl) heap spot.region spot.object a.region a.object) ∙ p.index;
  chosen = p.chosen;
}

module _ (line : ℕ) (w : World) (H : Heap) where
  abbrev End : Run World (Unit {0})
  End = Go tt (with_heap w H)

  one : (heap : Heap) (holder : ℕ) (notes : List Note) (v : Value) (h : Heap) (m m' : Run World (Unit {0})) (k : Unit {0} → World → Run World (Unit {0})) → DoesTheSame m (bind m' k) →
      DoesTheSame (fitting heap holder line notes (v ∷ []) w m) (bind (fitting heap holder line notes (v ∷ []) (with_heap w h) m') k)
  one heap holder [] v h m m' k s = s
  one heap holder (note ∷ notes) v h m m' k s = by (fits (parent heap) note holder v)
    where
      by : (b : Bool) → DoesTheSame (tested b (unfit note) line w m) (bind (tested b (unfit note) line (with_heap w h) m') k)
      by true = s
      by false = (h, refl)

  -- a cell that is read and written
  cell_run : (from to : Target) (af at : Address) (h : Heap) (m : ℕ) → Passes from af h → Passes to at h → is_fresh (live h) (first_of (values_from h (spot_at from af) 1)) ≡ true →
      copied_by_cells line (suc m) from to (with_heap w h) ≡
      bind (fitting h (spot_at to at).region line (notes_from h (spot_at to at)) (first_of (values_from h (spot_at from af) 1) ∷ []) (with_heap w h) (Go tt (with_heap w (written (spot_at to at) (first_of (values_from h (spot_at from af) 1) ∷ []) h)))) (λ _ w2. copied_by_cells line m (onward from) (onward to) w2)
  cell_run from to af at h m pf pt fresh =
      let v = first_of (values_from h (spot_at from af) 1) in
      ap (λ r. bind r (λ u w1. bind (source.store line to u w1) (λ _ w2. copied_by_cells line m (onward from) (onward to) w2))) (passed line from af (with_heap w h) (λ spot. Go (first_of (values_from h spot 1)) (with_heap w h)) pf)
      ∙ ap (λ r. bind r (λ _ w2. copied_by_cells line m (onward from) (onward to) w2))
      (passed line to at (with_heap w h) (λ spot. touching (list_all (is_fresh (live h)) (v ∷ [])) line (with_heap w h) (fitting h spot.region line (notes_from h spot) (v ∷ []) (with_heap w h) (Go tt (with_heap w (written spot (v ∷ []) h))))) pt
      ∙ ap (λ b. touching (b && true) line (with_heap w h) (fitting h (spot_at to at).region line (notes_from h (spot_at to at)) (v ∷ []) (with_heap w h) (Go tt (with_heap w (written (spot_at to at) (v ∷ []) h))))) fresh)

  pub cells_meet : (m : ℕ) (from to : Target) (af at : Address) (h : Heap) → Passes from af h → Passes to at h → AreApart m h (spot_at from af) (spot_at to at) →
      place_of (object_of h (spot_at from af)) (spot_at from af) + m ≤ length (object_of h (spot_at from af)).values → list_all (is_fresh (live h)) (values_from h (spot_at from af) m) ≡ true → H ≡ written (spot_at to at) (values_from h (spot_at from af) m) h →
      DoesTheSame (fitting h (spot_at to at).region line (notes_from h (spot_at to at)) (values_from h (spot_at from af) m) w End) (copied_by_cells line m from to (with_heap w h))
  cells_meet zero from to af at h pf pt apart long fresh result = ap (λ x. Go tt (with_heap w x)) (sym (result ∙ written_nothing (spot_at to at) h))
  cells_meet (suc m) from to af at h pf pt apart long fresh result =
      let v = first_of (values_from h sf 1) in
      let vs = values_from h (next sf) m in
      let fresh2 = both_true (is_fresh (live h) v) (list_all (is_fresh (live h)) vs) (ap (list_all (is_fresh (live h))) (sym split) ∙ fresh) in
      let h1 = written st (v ∷ []) h in
      let cells = copied_by_cells line (suc m) from to (with_heap w h) in
      subst (λ us. DoesTheSame (fitting h st.region line (notes_from h st) us w End) cells) (sym split)
      (subst (λ r. DoesTheSame r cells) (sym (fitting_first h st.region line st.cell (object_of h st).layout v vs w End))
      (subst (λ r. DoesTheSame (fitting h st.region line (notes_from h st) (v ∷ []) w (fitting h st.region line (notes_from h (next st)) vs w End)) r) (sym (cell_run from to af at h m pf pt fresh2.0))
      (one h st.region (notes_from h st) v h (fitting h st.region line (notes_from h (next st)) vs w End) (Go tt (with_heap w h1)) (λ _ w2. copied_by_cells line m (onward from) (onward to) w2)
      (same_rest v (cells_meet m (onward from) (onward to) af at h1 (still_passes from af h st (v ∷ []) pf) (still_passes to at h st (v ∷ []) pt) (separate v) (longer v) (all_fresh v fresh2.1) (result_next v split))))))
    where
      sf : Spot
      sf = spot_at from af

      st : Spot
      st = spot_at to at

      step : (o : Object) (s : Spot) → place_of o (next s) ≡ suc (place_of o s)
      step o s = omega arith

      split : values_from h sf (suc m) ≡ first_of (values_from h sf 1) ∷ values_from h (next sf) m
      split = first_taken m (place_of (object_of h sf) sf) (object_of h sf).values (omega (arith, long)) ∙ ap (λ n. first_of (values_from h sf 1) ∷ take m (drop n (object_of h sf).values)) (sym (step (object_of h sf) sf))

      layouts : (v : Value) (s : Spot) → (object_of (written st (v ∷ []) h) s).layout ≡ (object_of h s).layout
      layouts v s = still (λ o. o.layout) (overwrite st (v ∷ [])) (λ o. refl) h st.region st.object s.region s.object

      lengths : (v : Value) (s : Spot) → length (object_of (written st (v ∷ []) h) s).values ≡ length (object_of h s).values
      lengths v s = still (λ o. length o.values) (overwrite st (v ∷ [])) (λ o. overwritten_length (place_of o st) (take (length o.layout - st.cell) (v ∷ [])) o.values) h st.region st.object s.region s.object

      read : (v : Value) → values_from (written st (v ∷ []) h) (next sf) m ≡ values_from h (next sf) m
      read v = read_next m h sf st v apart

      place_next : (v : Value) (s : Spot) → place_of (object_of (written st (v ∷ []) h) s) (next s) ≡ suc (place_of (object_of h s) s)
      place_next v s = ap (λ (l : Layout). s.element * length l + suc s.cell) (layouts v s) ∙ step (object_of h s) s

      place_other : (v : Value) → place_of (object_of (written st (v ∷ []) h) sf) (next st) ≡ suc (place_of (object_of h sf) st)
      place_other v = ap (λ (l : Layout). st.element * length l + suc st.cell) (layouts v sf) ∙ step (object_of h sf) st

      separate : (v : Value) → AreApart m (written st (v ∷ []) h) (spot_at (onward from) af) (spot_at (onward to) at)
      separate v =
          subst (λ s. AreApart m (written st (v ∷ []) h) s (spot_at (onward to) at)) (sym (onward_spot from af))
          (subst (λ s. AreApart m (written st (v ∷ []) h) (next sf) s) (sym (onward_spot to at)) (by apart))
        where
          by : AreApart (suc m) h sf st → AreApart m (written st (v ∷ []) h) (next sf) (next st)
          by (inl other) = inl other
          by (inr s) = inr (
            s.0,
            s.1,
            subst (λ n. Apart m n (place_of (object_of (written st (v ∷ []) h) sf) (next st))) (sym (place_next v sf))
                (subst (λ n. Apart m (suc (place_of (object_of h sf) sf)) n) (sym (place_other v)) (apart_next m (place_of (object_of h sf) sf) (place_of (object_of h sf) st) s.2)),
          )

      longer : (v : Value) → place_of (object_of (written st (v ∷ []) h) (spot_at (onward from) af)) (spot_at (onward from) af) + m ≤ length (object_of (written st (v ∷ []) h) (spot_at (onward from) af)).values
      longer v = subst (λ s. place_of (object_of (written st (v ∷ []) h) s) s + m ≤ length (object_of (written st (v ∷ []) h) s).values) (sym (onward_spot from af)) (omega (arith, long, place_next v sf, lengths v sf))

      all_fresh : (v : Value) → list_all (is_fresh (live h)) (values_from h (next sf) m) ≡ true → list_all (is_fresh (live (written st (v ∷ []) h))) (values_from (written st (v ∷ []) h) (spot_at (onward from) af) m) ≡ true
      all_fresh v e =
          subst (λ s. list_all (is_fresh (live (written st (v ∷ []) h))) (values_from (written st (v ∷ []) h) s m) ≡ true) (sym (onward_spot from af))
          (ap (λ lives. list_all (is_fresh lives) (values_from (written st (v ∷ []) h) (next sf) m)) (same_lives h st.region _) ∙ ap (list_all (is_fresh (live h))) (read v) ∙ e)

      result_next : (v : Value) → values_from h sf (suc m) ≡ v ∷ values_from h (next sf) m → H ≡ written (spot_at (onward to) at) (values_from (written st (v ∷ []) h) (spot_at (onward from) af) m) (written st (v ∷ []) h)
      result_next v e =
          let h1 = written st (v ∷ []) h in
          result ∙ ap (λ us. written st us h) e ∙ written_first st v (values_from h (next sf) m) h
          ∙ ap (λ s. written s (values_from h (next sf) m) h1) (sym (onward_spot to at))
          ∙ ap (λ us. written (spot_at (onward to) at) us h1) (sym (read v))
          ∙ ap (λ s. written (spot_at (onward to) at) (values_from h1 s m) h1) (sym (onward_spot from af))

      same_rest : (v : Value) → DoesTheSame (fitting (written st (v ∷ []) h) (spot_at (onward to) at).region line (notes_from (written st (v ∷ []) h) (spot_at (onward to) at)) (values_from (written st (v ∷ []) h) (spot_at (onward from) af) m) w End) (copied_by_cells line m (onward from) (onward to) (with_heap w (written st (v ∷ []) h))) →
          DoesTheSame (fitting h st.region line (notes_from h (next st)) (values_from h (next sf) m) w End) (copied_by_cells line m (onward from) (onward to) (with_heap w (written st (v ∷ []) h)))
      same_rest v s =
          let X = copied_by_cells line m (onward from) (onward to) (with_heap w (written st (v ∷ []) h)) in
          let h1 = written st (v ∷ []) h in
          let a = subst (λ x. DoesTheSame (fitting h1 x.region line (notes_from h1 x) (values_from h1 (spot_at (onward from) af) m) w End) X) (onward_spot to at) s in
          let b = subst (λ x. DoesTheSame (fitting h1 st.region line (notes_from h1 (next st)) (values_from h1 x m) w End) X) (onward_spot from af) a in
          let c = subst (λ us. DoesTheSame (fitting h1 st.region line (notes_from h1 (next st)) us w End) X) (read v) b in
          let d = subst (λ (l : Layout). DoesTheSame (fitting h1 st.region line (map note_of (drop (suc st.cell) l)) (values_from h (next sf) m) w End) X) (layouts v st) c in
          subst (λ r. DoesTheSame r X) (fitting_heap h1 h (same_parents h st.region _) st.region line (notes_from h (next st)) (values_from h (next sf) m) w End) d

-- a target whose tests don't pass stops whatever is done there
pub record Fails (line : ℕ) (tg : Target) (w : World) : Type 0 where
  pub stop : Stop
  pub lists : (go : Spot → Run World (List Value)) → at_spot line tg w go ≡ Stopped stop w
  pub values : (go : Spot → Run World Value) → at_spot line tg w go ≡ Stopped stop w
  pub writes : (go : Spot → Run World (Unit {0})) → at_spot line tg w go ≡ Stopped stop w

module _ (line : ℕ) (tg : Target) (w : World) where
  behind_pointer : {A : Type 0} (a : Address) (go : Spot → Run World A) → tg.pointer ≡ Pointer a →
      at_spot line tg w go ≡ touching (live w.heap a.region) line w (tested (is_index (pos a.index +ℤ tg.shift) (object_at w.heap a.region a.object).count) Bounds line w (tested (list_all chosen_in_range tg.chosen) Bounds line w (go (spot_at tg a))))
  behind_pointer a go e = ap (λ v. at_address line v w (λ b. touching (live w.heap b.region) line w (tested (is_index (pos b.index +ℤ tg.shift) (object_at w.heap b.region b.object).count) Bounds line w (tested (list_all chosen_in_range tg.chosen) Bounds line w (go (spot_at tg b)))))) e

  dead : {A : Type 0} (a : Address) (go : Spot → Run World A) → tg.pointer ≡ Pointer a → live w.heap a.region ≡ false → at_spot line tg w go ≡ Stopped (Stale line) w
  dead a go e l = behind_pointer a go e ∙ ap (λ b. touching b line w (tested (is_index (pos a.index +ℤ tg.shift) (object_at w.heap a.region a.object).count) Bounds line w (tested (list_all chosen_in_range tg.chosen) Bounds line w (go (spot_at tg a))))) l

  outside : {A : Type 0} (a : Address) (go : Spot → Run World A) → tg.pointer ≡ Pointer a → live w.heap a.region ≡ true → is_index (pos a.index +ℤ tg.shift) (object_at w.heap a.region a.object).count ≡ false → at_spot line tg w go ≡ Stopped (Ends (Trapped Bounds line)) w
  outside a go e l i = behind_pointer a go e ∙ ap (λ b. touching b line w (tested (is_index (pos a.index +ℤ tg.shift) (object_at w.heap a.region a.object).count) Bounds line w (tested (list_all chosen_in_range tg.chosen) Bounds line w (go (spot_at tg a))))) l
      ∙ ap (λ b. tested b Bounds line w (tested (list_all chosen_in_range tg.chosen) Bounds line w (go (spot_at tg a)))) i

  unchosen : {A : Type 0} (a : Address) (go : Spot → Run World A) → tg.pointer ≡ Pointer a → live w.heap a.region ≡ true → is_index (pos a.index +ℤ tg.shift) (object_at w.heap a.region a.object).count ≡ true → list_all chosen_in_range tg.chosen ≡ false → at_spot line tg w go ≡ Stopped (Ends (Trapped Bounds line)) w
  unchosen a go e l i c = behind_pointer a go e ∙ ap (λ b. touching b line w (tested (is_index (pos a.index +ℤ tg.shift) (object_at w.heap a.region a.object).count) Bounds line w (tested (list_all chosen_in_range tg.chosen) Bounds line w (go (spot_at tg a))))) l
      ∙ ap (λ b. tested b Bounds line w (tested (list_all chosen_in_range tg.chosen) Bounds line w (go (spot_at tg a)))) i ∙ ap (λ b. tested b Bounds line w (go (spot_at tg a))) c

  no_address : {A : Type 0} (v : Value) (go : Spot → Run World A) → tg.pointer ≡ v → ((f : Address → Run World A) → at_address line v w f ≡ Stopped (Ends (Trapped NullTrap line)) w) → at_spot line tg w go ≡ Stopped (Ends (Trapped NullTrap line)) w
  no_address v go e h = ap (λ u. at_address line u w (λ b. touching (live w.heap b.region) line w (tested (is_index (pos b.index +ℤ tg.shift) (object_at w.heap b.region b.object).count) Bounds line w (tested (list_all chosen_in_range tg.chosen) Bounds line w (go (spot_at tg b)))))) e ∙ h _

  pub passes_or_fails : ((a : Address) × Passes tg a w.heap) ⊎ Fails line tg w
  passes_or_fails = by tg.pointer refl
    where
      third : (a : Address) → tg.pointer ≡ Pointer a → live w.heap a.region ≡ true → is_index (pos a.index +ℤ tg.shift) (object_at w.heap a.region a.object).count ≡ true → (c : Bool) → list_all chosen_in_range tg.chosen ≡ c → ((a : Address) × Passes tg a w.heap) ⊎ Fails line tg w
      third a e l i true c = inl (a, record { pointer = e; alive = l; index = i; chosen = c })
      third a e l i false c = inr (record { stop = Ends (Trapped Bounds line); lists = λ go. unchosen a go e l i c; values = λ go. unchosen a go e l i c; writes = λ go. unchosen a go e l i c })

      second : (a : Address) → tg.pointer ≡ Pointer a → live w.heap a.region ≡ true → (i : Bool) → is_index (pos a.index +ℤ tg.shift) (object_at w.heap a.region a.object).count ≡ i → ((a : Address) × Passes tg a w.heap) ⊎ Fails line tg w
      second a e l true i = third a e l i (list_all chosen_in_range tg.chosen) refl
      second a e l false i = inr (record { stop = Ends (Trapped Bounds line); lists = λ go. outside a go e l i; values = λ go. outside a go e l i; writes = λ go. outside a go e l i })

      first : (a : Address) → tg.pointer ≡ Pointer a → (l : Bool) → live w.heap a.region ≡ l → ((a : Address) × Passes tg a w.heap) ⊎ Fails line tg w
      first a e true l = second a e l (is_index (pos a.index +ℤ tg.shift) (object_at w.heap a.region a.object).count) refl
      first a e false l = inr (record { stop = Stale line; lists = λ go. dead a go e l; values = λ go. dead a go e l; writes = λ go. dead a go e l })

      by : (v : Value) → tg.pointer ≡ v → ((a : Address) × Passes tg a w.heap) ⊎ Fails line tg w
      by (Number n) e = inr (record { stop = Ends (Trapped NullTrap line); lists = λ go. no_address (Number n) go e (λ f. refl); values = λ go. no_address (Number n) go e (λ f. refl); writes = λ go. no_address (Number n) go e (λ f. refl) })
      by Null e = inr (record { stop = Ends (Trapped NullTrap line); lists = λ go. no_address Null go e (λ f. refl); values = λ go. no_address Null go e (λ f. refl); writes = λ go. no_address Null go e (λ f. refl) })
      by (Handle r) e = inr (record { stop = Ends (Trapped NullTrap line); lists = λ go. no_address (Handle r) go e (λ f. refl); values = λ go. no_address (Handle r) go e (λ f. refl); writes = λ go. no_address (Handle r) go e (λ f. refl) })
      by (Pointer a) e = first a e (live w.heap a.region) refl

-- what a write does at a spot
abbrev storing : (line : ℕ) → List Value → World → Spot → Run World (Unit {0})
storing line vs w spot = touching (list_all (is_fresh (live w.heap)) vs) line w (fitting w.heap spot.region line (notes_from w.heap spot) vs w (Go tt (with_heap w (written spot vs w.heap))))

module _ (line : ℕ) where
  -- of at least one cell, where the places are apart if their tests pass
  pub copied : (m : ℕ) (from to : Target) (w : World) → ((af at : Address) → Passes from af w.heap → Passes to at w.heap → AreApart (suc m) w.heap (spot_at from af) (spot_at to at) × (place_of (object_of w.heap (spot_at from af)) (spot_at from af) + suc m ≤ length (object_of w.heap (spot_at from af)).values)) →
      DoesTheSame (copied_at_once line (suc m) from to w) (copied_by_cells line (suc m) from to w)
  copied m from to w known = by_from (passes_or_fails line from w)
    where
      moved : Run World (Unit {0})
      moved = copied_by_cells line (suc m) from to w

      -- both pass
      both : (af at : Address) → Passes from af w.heap → Passes to at w.heap → (b : Bool) → list_all (is_fresh (live w.heap)) (values_from w.heap (spot_at from af) (suc m)) ≡ b →
          DoesTheSame (touching b line w (fitting w.heap (spot_at to at).region line (notes_from w.heap (spot_at to at)) (values_from w.heap (spot_at from af) (suc m)) w (Go tt (with_heap w (written (spot_at to at) (values_from w.heap (spot_at from af) (suc m)) w.heap))))) moved
      both af at pf pt false e = tt
      both af at pf pt true e = let k = known af at pf pt in cells_meet line w (written (spot_at to at) (values_from w.heap (spot_at from af) (suc m)) w.heap) (suc m) from to af at w.heap pf pt k.0 k.1 e refl

      at_once : (af : Address) → Passes from af w.heap → copied_at_once line (suc m) from to w ≡ stored line to (values_from w.heap (spot_at from af) (suc m)) w
      at_once af pf = ap (λ r. bind r (λ vs w1. stored line to vs w1)) (passed line from af w (λ spot. Go (values_from w.heap spot (suc m)) w) pf)

      by_to : (af : Address) → Passes from af w.heap → ((a : Address) × Passes to a w.heap) ⊎ Fails line to w → DoesTheSame (copied_at_once line (suc m) from to w) moved
      by_to af pf (inl p) =
          subst (λ r. DoesTheSame r moved) (sym (at_once af pf ∙ passed line to p.0 w (λ spot. touching (list_all (is_fresh (live w.heap)) (values_from w.heap (spot_at from af) (suc m))) line w (fitting w.heap spot.region line (notes_from w.heap spot) (values_from w.heap (spot_at from af) (suc m)) w (Go tt (with_heap w (written spot (values_from w.heap (spot_at from af) (suc m)) w.heap))))) p.1))
          (both af p.0 pf p.1 (list_all (is_fresh (live w.heap)) (values_from w.heap (spot_at from af) (suc m))) refl)
      by_to af pf (inr f) =
          let v = first_of (values_from w.heap (spot_at from af) 1) in
          let rest : World → Run World (Unit {0}) = λ w2. copied_by_cells line m (onward from) (onward to) w2 in
          let stops : moved ≡ Stopped f.stop w =
          ap (λ r. bind r (λ u w1. bind (source.store line to u w1) (λ _ w2. rest w2))) (passed line from af w (λ spot. Go (first_of (values_from w.heap spot 1)) w) pf) ∙ ap (λ r. bind r (λ _ w2. rest w2)) (f.writes (storing line (v ∷ []) w)) in
          subst (λ r. DoesTheSame r moved) (sym (at_once af pf ∙ f.writes (storing line (values_from w.heap (spot_at from af) (suc m)) w))) (subst (λ r. DoesTheSame (Stopped f.stop w) r) (sym stops) (stops_alike f.stop w))

      by_from : ((a : Address) × Passes from a w.heap) ⊎ Fails line from w → DoesTheSame (copied_at_once line (suc m) from to w) moved
      by_from (inl p) = by_to p.0 p.1 (passes_or_fails line to w)
      by_from (inr f) =
          let rest : Value → World → Run World (Unit {0}) = λ u w1. bind (source.store line to u w1) (λ _ w2. copied_by_cells line m (onward from) (onward to) w2) in
          subst (λ r. DoesTheSame r moved) (sym (ap (λ r. bind r (λ vs w1. stored line to vs w1)) (f.lists (λ spot. Go (values_from w.heap spot (suc m)) w))))
          (subst (λ r. DoesTheSame (Stopped f.stop w) r) (sym (ap (λ r. bind r rest) (f.values (λ spot. Go (first_of (values_from w.heap spot 1)) w)))) (stops_alike f.stop w))
