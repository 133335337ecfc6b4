-- What the source's operations do to regions: none is used again, no parent changes, and what they give is made.
use Rattle.std.proofs.Common.{◌≡◌, ℕ, zero, suc, ◌+◌, ◌*◌, ◌<◌, ◌≤◌, ℤ, pos, negsuc, ◌+ℤ◌, Bool, true, false, not, nat_eq, nat_lt, nat_le, int_le, unsigned_abs, List, [], ◌∷◌, ◌++◌, length, map, get_or, take, drop, replicate, flat_map, ◌⊎◌, inl, inr, refl, sym, ap, ◌∙◌, subst, arith, rules, length-append}
use Rattle.std.specs.List.{AllZip, list_all}
use Rattle.std.proofs.Math.ListN.{get_or-append}
use Rattle.std.proofs.lemmas.List.{get_or-append-add}
use Rattle.std.proofs.lemmas.Bool.{and_parts}
use Rattle.rc_base.specs.declared.ends.Trap.{Trap}
use Rattle.rc_base.specs.declared.ends.Trap.TheVariants.{Bounds, Size, Full, Root, Subregion, Reference}
use Rattle.rc_core.specs.declared.ty.Note.{Note}
use Rattle.rc_core.specs.declared.ty.Note.TheVariants.{Plain}
use Rattle.rc_core.specs.Types.{CellKind, int_cell}
use Rattle.rc_core.specs.Layout.{Layout, note_of}
use Rattle.rc_core.specs.Heap.{Value, Number, Null, Handle, Pointer, Address, Object, Region, Heap, kinds_of, no_object, region_at, live, parent, objects, object_at, with_objects, is_above, is_fresh, fits, blank}
use Rattle.rc_core.specs.Runs.{Run, Go, Stopped, bind, branching, tested, touching, Target}
use Rattle.rc_core.specs.Laws.{IfGoes}
use Rattle.rc_core.specs.Source.{World, with_heap, at_region, at_address, at_spot, is_index, chosen_in_range, cell_of, Spot, object_of, place_of, values_from, notes_from, first_of, fitting, unfit, written, killed, has_child, values_outside, references, is_empty, source}
use Rattle.rc_safety.specs.Soundness.{CellIsSound, ObjectIsSound, HeapIsSound}
use Rattle.rc_safety.proofs.Lists.{every_append, every_get_or, every_split}
use Rattle.rc_safety.proofs.Heaps.{parent_same}
use Rattle.rc_safety.proofs.Changed.{same_parents, changed_sound}
use Rattle.rc_safety.proofs.Made.{new_region, live_is_made, made_before, made_last, made_sound}
use Rattle.rc_safety.proofs.Written.{Fit, written_sound}
use Rattle.rc_safety.proofs.Killed.{NamesNot, none_kept, empty_is_nil, killed_sound}
use Rattle.rc_safety.proofs.Allocations.{blank_object_is_sound}
use Rattle.rc_annotations.specs.Worlds.{Grown, Made, Sane, Stays, Beside, Anew, Under, Loaded, Stored, Deleted}
use Rattle.rc_annotations.specs.Laws.{OperationsSay}
use Rattle.rc_annotations.specs.Holding.{Rooted}
use Rattle.rc_annotations.proofs.Truths.{parent_above}

-- where it goes on
pub record Goes {A : Type 0} (P : A → World → Type 0) (m : Run World A) : Type 0 where
  pub holds : IfGoes P m

pub goes_bind : {A B : Type 0} (P : A → World → Type 0) (Q : B → World → Type 0) (m : Run World A) (next : A → World → Run World B) → Goes P m → ((x : A) (w : World) → P x w → Goes Q (next x w)) → Goes Q (bind m next)
goes_bind P Q (Go x w) next g k = k x w g.holds
goes_bind P Q (Stopped s w) next g k = record { holds = tt }

pub goes_more : {A : Type 0} (P Q : A → World → Type 0) (m : Run World A) → ((x : A) (w : World) → P x w → Q x w) → Goes P m → Goes Q m
goes_more P Q (Go x w) k g = record { holds = k x w g.holds }
goes_more P Q (Stopped s w) k g = record { holds = tt }

pub goes_both : {A : Type 0} (P Q : A → World → Type 0) (m : Run World A) → Goes P m → Goes Q m → Goes (λ x w. P x w × Q x w) m
goes_both P Q (Go x w) g h = record { holds = (g.holds, h.holds) }
goes_both P Q (Stopped s w) g h = record { holds = tt }

pub goes_branching : {A : Type 0} (P : A → World → Type 0) (b : Bool) (m k : World → Run World A) (w : World) → (b ≡ true → Goes P (m w)) → (b ≡ false → Goes P (k w)) → Goes P (branching b m k w)
goes_branching P true m k w g h = g refl
goes_branching P false m k w g h = h refl

goes_tested : {A : Type 0} (P : A → World → Type 0) (b : Bool) (t : Trap) (line : ℕ) (w : World) (m : Run World A) → (b ≡ true → Goes P m) → Goes P (tested b t line w m)
goes_tested P true t line w m k = k refl
goes_tested P false t line w m k = record { holds = tt }

goes_touching : {A : Type 0} (P : A → World → Type 0) (b : Bool) (line : ℕ) (w : World) (m : Run World A) → (b ≡ true → Goes P m) → Goes P (touching b line w m)
goes_touching P true line w m k = k refl
goes_touching P false line w m k = record { holds = tt }

goes_region : {A : Type 0} (P : A → World → Type 0) (line : ℕ) (v : Value) (w : World) (go : ℕ → Run World A) → ((r : ℕ) → v ≡ Handle r → Goes P (go r)) → Goes P (at_region line v w go)
goes_region P line (Handle r) w go k = k r refl
goes_region P line (Number n) w go k = record { holds = tt }
goes_region P line Null w go k = record { holds = tt }
goes_region P line (Pointer a) w go k = record { holds = tt }

goes_address : {A : Type 0} (P : A → World → Type 0) (line : ℕ) (v : Value) (w : World) (go : Address → Run World A) → ((a : Address) → v ≡ Pointer a → Goes P (go a)) → Goes P (at_address line v w go)
goes_address P line (Pointer a) w go k = k a refl
goes_address P line (Number n) w go k = record { holds = tt }
goes_address P line Null w go k = record { holds = tt }
goes_address P line (Handle r) w go k = record { holds = tt }

-- the spot of a target, where its pointer has the address
abbrev pub spot_at : Address → Target → Spot
spot_at a t = record { region = a.region; object = a.object; element = unsigned_abs (pos a.index +ℤ t.shift); cell = cell_of t }

index_is_below : (z : ℤ) (count : ℕ) → is_index z count ≡ true → unsigned_abs z < count
index_is_below (pos k) count e = grind (arith, rules)
index_is_below (negsuc k) count e = cc

goes_spot : {A : Type 0} (P : A → World → Type 0) (line : ℕ) (t : Target) (w : World) (go : Spot → Run World A) → ((a : Address) → t.pointer ≡ Pointer a → live w.heap a.region ≡ true → (spot_at a t).element < (object_at w.heap a.region a.object).count → Goes P (go (spot_at a t))) → Goes P (at_spot line t w go)
goes_spot P line t w go k =
    goes_address P line t.pointer w _ (λ a e.
    goes_touching P (live w.heap a.region) line w _ (λ l.
    goes_tested P (is_index (pos a.index +ℤ t.shift) (object_at w.heap a.region a.object).count) Bounds line w _ (λ i.
    goes_tested P (list_all chosen_in_range t.chosen) Bounds line w _ (λ c.
    k a e l (index_is_below (pos a.index +ℤ t.shift) (object_at w.heap a.region a.object).count i)))))

pub grown_itself : (heap : Heap) → Grown heap heap
grown_itself heap = record { longer = omega arith; parents = λ r lt. refl }

pub grown_trans : (a b c : Heap) → Grown a b → Grown b c → Grown a c
grown_trans a b c g h = record { longer = omega (arith, g.longer, h.longer); parents = λ r lt. h.parents r (omega (arith, lt, g.longer)) ∙ g.parents r lt }

pub stays_itself : (w : World) → Sane w → Stays w w
stays_itself w sane = record { sane = sane; grown = grown_itself w.heap }

pub stays_trans : (u v w : World) → Stays u v → Stays v w → Stays u w
stays_trans u v w a b = record { sane = b.sane; grown = grown_trans u.heap v.heap w.heap a.grown b.grown }

-- a world with the same heap
pub stays_heap : (w w1 : World) → Sane w → w1.heap ≡ w.heap → Stays w w1
stays_heap w w1 sane e = record {
  sane = record { sound = subst HeapIsSound (sym e) sane.sound; rooted = subst (λ h. Rooted (parent h)) (sym e) sane.rooted };
  grown = subst (Grown w.heap) (sym e) (grown_itself w.heap);
}

pub made_grown : (a b : Heap) (v : Value) → Grown a b → Made a v → Made b v
made_grown a b v g m = λ p. let k = m p in omega (arith, k, g.longer)

-- objects or lives change
same_stays : (w : World) (heap : Heap) → Sane w → HeapIsSound heap → length heap ≡ length w.heap → parent heap ≡ parent w.heap → Stays w (with_heap w heap)
same_stays w heap sane sound l e = record {
  sane = record { sound = sound; rooted = subst Rooted (sym e) sane.rooted };
  grown = record { longer = omega (arith, l); parents = λ r lt. ap (λ p. p r) e };
}

length_changed : (heap : Heap) (r : ℕ) (f : Region → Region) → length (Rattle.rc_core.specs.Heap.update heap r f) ≡ length heap
length_changed [] r f = refl
length_changed (g ∷ heap) zero f = refl
length_changed (g ∷ heap) (suc r) f = ap suc (length_changed heap r f)

pub gives : {A : Type 0} (P : A → World → Type 0) (x : A) (w : World) → P x w → Goes P (Go x w)
gives P x w h = record { holds = h }

-- a pointer is stepped
pub step_says : (line : ℕ) (v : Value) (n : ℤ) (w : World) → Sane w → Goes (Beside w v) (source.step line v n w)
step_says line v n w sane = goes_address (Beside w v) line v w _ (λ a e.
    goes_touching (Beside w v) (live w.heap a.region) line w _ (λ l.
    goes_tested (Beside w v) (is_index (pos a.index +ℤ n) (suc (object_at w.heap a.region a.object).count)) Bounds line w _ (λ i.
    gives (Beside w v) (Pointer (record a { index = unsigned_abs (pos a.index +ℤ n) })) w (rw e (stays_itself w sane, (λ p. live_is_made w.heap a.region l), tt, tt, refl)))))

-- a new region
region_beyond : (heap : Heap) (g : Region) (r : ℕ) → length heap < r → parent (heap ++ g ∷ []) r ≡ 0
region_beyond [] g zero lt = absurd (omega (arith, lt))
region_beyond [] g (suc r) lt = refl
region_beyond (x ∷ heap) g zero lt = absurd (omega (arith, lt))
region_beyond (x ∷ heap) g (suc r) lt = region_beyond heap g r (omega (arith, lt))

apart_positive : (r : ℕ) → nat_eq r 0 ≡ false → 0 < r
apart_positive zero e = cc
apart_positive (suc r) e = omega arith

positive_apart : (r : ℕ) → 0 < r → nat_eq r 0 ≡ false
positive_apart zero lt = absurd (omega (arith, lt))
positive_apart (suc r) lt = search rules

made_rooted : (heap : Heap) (p : ℕ) → Rooted (parent heap) → p < length heap → Rooted (parent (heap ++ new_region p ∷ []))
made_rooted heap p rooted lt r apart = by (order r (length heap))
  where
    order : (a b : ℕ) → (a < b) ⊎ ((a ≡ b) ⊎ (b < a))
    order a b = grind arith

    by : (r < length heap) ⊎ ((r ≡ length heap) ⊎ (length heap < r)) → parent (heap ++ new_region p ∷ []) r < r
    by (inl below) = rw (ap (λ (g : Region). g.parent) (made_before heap (new_region p) r below)) (rooted r apart)
    by (inr (inl last)) = subst (λ i. parent (heap ++ new_region p ∷ []) i < i) (sym last) (rw (ap (λ (g : Region). g.parent) (made_last heap (new_region p))) lt)
    by (inr (inr beyond)) = rw (region_beyond heap (new_region p) r beyond) (apart_positive r apart)

made_stays : (w : World) (p : ℕ) → Sane w → live w.heap p ≡ true → Stays w (with_heap w (w.heap ++ new_region p ∷ []))
made_stays w p sane l = record {
  sane = record { sound = made_sound w.heap p sane.sound l; rooted = made_rooted w.heap p sane.rooted (live_is_made w.heap p l) };
  grown = record { longer = omega (arith, length-append w.heap (new_region p ∷ [])); parents = λ r lt. ap (λ (g : Region). g.parent) (made_before w.heap (new_region p) r lt) };
}

last_made : (heap : Heap) (g : Region) → length heap < length (heap ++ g ∷ [])
last_made heap g = omega (arith, length-append heap (g ∷ []))

pub new_region_says : (line : ℕ) (w : World) → Sane w → Goes (Anew w) (source.new_region line w)
new_region_says line w sane = goes_tested (Anew w) (nat_le (length w.heap) w.regions) Full line w _ (λ e.
    gives (Anew w) (Handle (length w.heap)) (with_heap w (w.heap ++ new_region 0 ∷ [])) (made_stays w 0 sane sane.sound.root, (λ p. last_made w.heap (new_region 0)), tt))

pub new_subregion_says : (line : ℕ) (v : Value) (w : World) → Sane w → Goes (Under w v) (source.new_subregion line v w)
new_subregion_says line v w sane = goes_region (Under w v) line v w _ (λ r e. goes_touching (Under w v) (live w.heap r) line w _ (λ l. goes_tested (Under w v) (nat_le (length w.heap) w.regions) Full line w _ (λ f.
    let s : Stays w (with_heap w (w.heap ++ new_region r ∷ [])) = made_stays w r sane l in
    gives (Under w v) (Handle (length w.heap)) (with_heap w (w.heap ++ new_region r ∷ [])) (rw e (
      s,
      (λ p. last_made w.heap (new_region r)),
      tt,
      tt,
      parent_above (parent (w.heap ++ new_region r ∷ [])) s.sane.rooted r (length w.heap) (positive_apart (length w.heap) (let k = live_is_made w.heap r l in omega (arith, k))) (sym (ap (λ (g : Region). g.parent) (made_last w.heap (new_region r)))),
    )))))

-- a new object
pub allocate_says : (line : ℕ) (v : Value) (n : ℤ) (layout : Layout) (w : World) → Sane w → Goes (Beside w v) (source.allocate line v n layout w)
allocate_says line v n layout w sane = goes_region (Beside w v) line v w _ (λ r e. goes_touching (Beside w v) (live w.heap r) line w _ (λ l.
    goes_tested (Beside w v) (int_le (pos 0) n) Size line w _ (λ f. goes_tested (Beside w v) (nat_lt (length (objects w.heap r)) w.blocks) Full line w _ (λ g.
    let new : List Object → List Object = λ os. os ++ blank layout (unsigned_abs n) ∷ [] in
    let s : Stays w (with_heap w (with_objects w.heap r new)) = same_stays w (with_objects w.heap r new) sane (changed_sound w.heap r new sane.sound l (every_append _ (objects w.heap r) (blank layout (unsigned_abs n) ∷ []) (sane.sound.regions r l).objects (blank_object_is_sound (live w.heap) (parent w.heap) r layout (unsigned_abs n), tt)))
    (length_changed w.heap r _) (same_parents w.heap r new) in
    gives (Beside w v) (Pointer (record { region = r; object = length (objects w.heap r); index = 0 })) (with_heap w (with_objects w.heap r new))
    (rw e (s, (λ p. let k = live_is_made w.heap r l in let j = s.grown.longer in omega (arith, k, j)), tt, tt, refl))))))

kinds_long : (layout : Layout) (count e c : ℕ) → e < count → c < length layout → e * length layout + c < length (flat_map (λ l. l) (replicate count layout))
kinds_long layout zero e c lt le = absurd (omega (arith, lt))
kinds_long layout (suc count) zero c lt le = let k = length-append layout (flat_map (λ l. l) (replicate count layout)) in omega (arith, k, le)
kinds_long layout (suc count) (suc e) c lt le =
    let k = length-append layout (flat_map (λ l. l) (replicate count layout)) in
    let j = kinds_long layout count e c (omega (arith, lt)) le in
    subst (λ i. i < length (layout ++ flat_map (λ l. l) (replicate count layout))) (sym (next (length layout))) (omega (arith, k, j))
  where
    next : (m : ℕ) → suc e * m + c ≡ m + (e * m + c)
    next m = grind arith

get_or_past : {X : Type 0} (xs : List X) (i : ℕ) (d : X) → length xs ≤ i → get_or xs i d ≡ d
get_or_past [] i d le = refl
get_or_past (x ∷ xs) zero d le = absurd (omega (arith, le))
get_or_past (x ∷ xs) (suc i) d le = get_or_past xs i d (omega (arith, le))

length-map : {X Y : Type 0} (f : X → Y) (xs : List X) → length (map f xs) ≡ length xs
length-map f [] = refl
length-map f (x ∷ xs) = ap suc (length-map f xs)

kinds_at : (layout : Layout) (count e c : ℕ) (d : CellKind) → e < count → c < length layout → get_or (flat_map (λ l. l) (replicate count layout)) (e * length layout + c) d ≡ get_or layout c d
kinds_at layout zero e c d lt le = absurd (omega (arith, lt))
kinds_at layout (suc count) zero c d lt le = ap (λ i. get_or (layout ++ flat_map (λ l. l) (replicate count layout)) i d) (omega arith) ∙ get_or-append layout (flat_map (λ l. l) (replicate count layout)) d c le
kinds_at layout (suc count) (suc e) c d lt le =
    ap (λ i. get_or (layout ++ flat_map (λ l. l) (replicate count layout)) i d) (next (length layout)) ∙ get_or-append-add layout (flat_map (λ l. l) (replicate count layout)) (e * length layout + c) d ∙ kinds_at layout count e c d (omega (arith, lt)) le
  where
    next : (m : ℕ) → suc e * m + c ≡ m + (e * m + c)
    next m = grind arith

zip_at : (R : CellKind → Value → Type 0) (ks : Layout) (vs : List Value) (i : ℕ) → AllZip R ks vs → i < length ks → R (get_or ks i int_cell) (get_or vs i Null)
zip_at R [] vs i all lt = absurd (omega (arith, lt))
zip_at R (k ∷ ks) [] i all lt = absurd all
zip_at R (k ∷ ks) (v ∷ vs) zero all lt = all.0
zip_at R (k ∷ ks) (v ∷ vs) (suc i) all lt = zip_at R ks vs i all.1 (omega (arith, lt))

zip_fresh : (live : ℕ → Bool) (parents : ℕ → ℕ) (holder : ℕ) (ks : Layout) (vs : List Value) (i : ℕ) → AllZip (CellIsSound live parents holder) ks vs → is_fresh live (get_or vs i Null) ≡ true
zip_fresh live parents holder [] [] i all = refl
zip_fresh live parents holder [] (v ∷ vs) i all = absurd all
zip_fresh live parents holder (k ∷ ks) [] i all = absurd all
zip_fresh live parents holder (k ∷ ks) (v ∷ vs) zero all = all.0.fresh
zip_fresh live parents holder (k ∷ ks) (v ∷ vs) (suc i) all = zip_fresh live parents holder ks vs i all.1

pub fresh_made : (heap : Heap) (v : Value) → is_fresh (live heap) v ≡ true → Made heap v
fresh_made heap (Number n) e = λ p. absurd p
fresh_made heap Null e = λ p. absurd p
fresh_made heap (Handle r) e = λ p. live_is_made heap r e
fresh_made heap (Pointer a) e = λ p. live_is_made heap a.region e

-- where cells are sound, what is there fits by its note
cell_fits : (w : World) (spot : Spot) → Sane w → live w.heap spot.region ≡ true → spot.element < (object_of w.heap spot).count
    → fits (parent w.heap) (get_or (map note_of (object_of w.heap spot).layout) spot.cell Plain) spot.region (get_or (object_of w.heap spot).values (place_of (object_of w.heap spot) spot) Null) ≡ true
cell_fits w spot sane l inside = by (below_or spot.cell (length o.layout))
  where
    o : Object
    o = object_of w.heap spot

    below_or : (a b : ℕ) → (a < b) ⊎ (b ≤ a)
    below_or a b = grind arith

    all : ObjectIsSound (live w.heap) (parent w.heap) spot.region o
    all = every_get_or (ObjectIsSound (live w.heap) (parent w.heap) spot.region) (objects w.heap spot.region) spot.object no_object tt (sane.sound.regions spot.region l).objects

    by : (spot.cell < length o.layout) ⊎ (length o.layout ≤ spot.cell) → fits (parent w.heap) (get_or (map note_of o.layout) spot.cell Plain) spot.region (get_or o.values (place_of o spot) Null) ≡ true
    by (inr past) = rw (get_or_past (map note_of o.layout) spot.cell Plain (let k = length-map note_of o.layout in omega (arith, k, past))) refl
    by (inl below) =
        let cell : CellIsSound (live w.heap) (parent w.heap) spot.region (get_or (kinds_of o) (place_of o spot) int_cell) (get_or o.values (place_of o spot) Null) =
        zip_at (CellIsSound (live w.heap) (parent w.heap) spot.region) (kinds_of o) o.values (place_of o spot) all (kinds_long o.layout o.count spot.element spot.cell inside below) in
        ap (λ note. fits (parent w.heap) note spot.region (get_or o.values (place_of o spot) Null)) (map_at o.layout spot.cell below ∙ ap note_of (sym (kinds_at o.layout o.count spot.element spot.cell int_cell inside below))) ∙ cell.fit
      where
        map_at : (layout : Layout) (c : ℕ) → c < length layout → get_or (map note_of layout) c Plain ≡ note_of (get_or layout c int_cell)
        map_at [] c lt = absurd (omega (arith, lt))
        map_at (k ∷ ks) zero lt = refl
        map_at (k ∷ ks) (suc c) lt = map_at ks c (omega (arith, lt))

first_at : (vs : List Value) (n : ℕ) → first_of (take 1 (drop n vs)) ≡ get_or vs n Null
first_at [] zero = refl
first_at [] (suc n) = refl
first_at (v ∷ vs) zero = refl
first_at (v ∷ vs) (suc n) = first_at vs n

pub load_says : (line : ℕ) (t : Target) (w : World) → Sane w → Goes (Loaded w t) (source.load line t w)
load_says line t w sane = goes_spot (Loaded w t) line t w (λ spot. Go (first_of (values_from w.heap spot 1)) w) (λ a e l inside.
    let o : Object = object_at w.heap a.region a.object in
    let all : ObjectIsSound (live w.heap) (parent w.heap) a.region o = every_get_or (ObjectIsSound (live w.heap) (parent w.heap) a.region) (objects w.heap a.region) a.object no_object tt (sane.sound.regions a.region l).objects in
    gives (Loaded w t) (first_of (values_from w.heap (spot_at a t) 1)) w
    (rw (first_at o.values (place_of o (spot_at a t)), e) (stays_itself w sane, fresh_made w.heap _ (zip_fresh (live w.heap) (parent w.heap) a.region (kinds_of o) o.values (place_of o (spot_at a t)) all), tt, cell_fits w (spot_at a t) sane l inside)))

abbrev first_note : List Note → Note
first_note [] = Plain
first_note (n ∷ ns) = n

note_first : (layout : Layout) (c : ℕ) → get_or (map note_of layout) c Plain ≡ first_note (map note_of (drop c layout))
note_first [] zero = refl
note_first [] (suc c) = refl
note_first (k ∷ ks) zero = refl
note_first (k ∷ ks) (suc c) = note_first ks c

fitting_says : (P : Unit {0} → World → Type 0) (heap : Heap) (holder line : ℕ) (kinds : Layout) (v : Value) (w : World) (m : Run World (Unit {0})) → (fits (parent heap) (first_note (map note_of kinds)) holder v ≡ true → Fit (parent heap) holder kinds (v ∷ []) → Goes P m) → Goes P (fitting heap holder line (map note_of kinds) (v ∷ []) w m)
fitting_says P heap holder line [] v w m k = k refl tt
fitting_says P heap holder line (kind ∷ kinds) v w m k = goes_tested P (fits (parent heap) (note_of kind) holder v) (unfit (note_of kind)) line w _ (λ e. last kinds (k e (e, tt)))
  where
    last : (kinds : Layout) → Goes P m → Goes P (fitting heap holder line (map note_of kinds) [] w m)
    last [] g = g
    last (x ∷ xs) g = g

pub store_says : (line : ℕ) (t : Target) (v : Value) (w : World) → Sane w → Goes (Stored w t v) (source.store line t v w)
store_says line t v w sane = goes_spot (Stored w t v) line t w (λ spot. touching (list_all (is_fresh (live w.heap)) (v ∷ [])) line w (fitting w.heap spot.region line (notes_from w.heap spot) (v ∷ []) w (Go tt (with_heap w (written spot (v ∷ []) w.heap))))) (λ a e l inside.
    goes_touching (Stored w t v) (list_all (is_fresh (live w.heap)) (v ∷ [])) line w _ (λ fresh.
    fitting_says (Stored w t v) w.heap a.region line (drop (cell_of t) (object_at w.heap a.region a.object).layout) v w _ (λ fit front.
    let heap1 : Heap = written (spot_at a t) (v ∷ []) w.heap in
    let s : Stays w (with_heap w heap1) = same_stays w heap1 sane (written_sound w.heap (spot_at a t) (v ∷ []) sane.sound l inside ((and_parts (is_fresh (live w.heap) v) true fresh).0, tt) front) (length_changed w.heap a.region _) (same_parents w.heap a.region _) in
    let ep : parent heap1 ≡ parent w.heap = same_parents w.heap a.region _ in
    gives (Stored w t v) tt (with_heap w heap1) (rw e (
      s,
      tt,
      subst (λ ps. fits ps (get_or (map note_of (object_at w.heap a.region a.object).layout) (cell_of t) Plain) a.region v ≡ true) (sym ep) (rw (note_first (object_at w.heap a.region a.object).layout (cell_of t)) fit),
    )))))

not_true : (b : Bool) → not b ≡ true → b ≡ false
not_true true e = cc
not_true false e = refl

pub delete_says : (line : ℕ) (held : List Value) (v : Value) (w : World) → Sane w → Goes (Deleted w v) (source.delete line held v w)
delete_says line held v w sane = goes_region (Deleted w v) line v w _ (λ r e.
    goes_touching (Deleted w v) (live w.heap r) line w _ (λ l. goes_tested (Deleted w v) (not (nat_eq r 0)) Root line w _ (λ inner.
    goes_tested (Deleted w v) (not (has_child r w.heap)) Subregion line w _ (λ childless. goes_tested (Deleted w v) (is_empty (references r held w)) Reference line w _ (λ empty.
    let none = none_kept _ (values_outside r 0 w.heap ++ (w.waiting ++ held)) (empty_is_nil (references r held w) empty) in
    let parts = every_split (NamesNot r) (values_outside r 0 w.heap) (w.waiting ++ held) none in
    let s : Stays w (with_heap w (killed w.heap r)) = same_stays w (killed w.heap r) sane (killed_sound w.heap r sane.sound (not_true _ inner) (not_true _ childless) parts.0) (length_changed w.heap r _) (parent_same w.heap r _ (λ g. refl)) in
    gives (Deleted w v) tt (with_heap w (killed w.heap r)) (rw e (s, tt)))))))

pub operations_say : OperationsSay
operations_say = record {
  steps = λ line v n w sane. (step_says line v n w sane).holds;
  regions = λ line w sane. (new_region_says line w sane).holds;
  subregions = λ line v w sane. (new_subregion_says line v w sane).holds;
  objects = λ line v n layout w sane. (allocate_says line v n layout w sane).holds;
  loads = λ line t w sane. (load_says line t w sane).holds;
  stores = λ line t v w sane. (store_says line t v w sane).holds;
  deletions = λ line held v w sane. (delete_says line held v w sane).holds;
}
