-- The law as it is stated.
use Rattle.std.proofs.Common.{◌≡◌, ◌<◌, ◌*◌, ℕ, zero, suc, ℤ, List, [], ◌∷◌, length, take, flat_map, replicate, slice_get, Some, refl, sym, ap, ◌∙◌, subst, ◌⊎◌, inl, inr, arith, length-append}
use Rattle.std.specs.Prelude.{IsTrue}
use Rattle.std.specs.List.{AllByRecursion as Every, AllZip}
use Rattle.rc_base.specs.declared.ends.Limits.{Limits}
use Rattle.rc_core.specs.declared.ty.Note.{Note}
use Rattle.rc_core.specs.declared.ty.NumberType.{NumberType}
use Rattle.rc_core.specs.declared.ty.NumberType.TheVariants.{Int}
use Rattle.rc_core.specs.Numbers.{IsByte}
use Rattle.rc_core.specs.Arithmetic.{as_int}
use Rattle.rc_core.specs.Types.{Ty, int, region, pointer}
use Rattle.rc_core.specs.Programs.{Program}
use Rattle.rc_core.specs.Layout.{Layout, cells}
use Rattle.rc_core.specs.Heap.{kinds_of, Value, Number, Null, Handle, Pointer, Address, Object, Heap, no_object, objects, object_at}
use Rattle.rc_core.specs.Runs.{Go, Target}
use Rattle.rc_core.specs.Source.{World, source, Spot, object_of, place_of}
use Rattle.rc_core.specs.Execution.{calls_within}
use Rattle.rc_core.specs.Typing.{number, fits}
use Rattle.rc_core.specs.WellTyped.{IsWellTyped}
use Rattle.rc_core.specs.Meaning.{first_world, run_of}
use Rattle.std.proofs.lemmas.Option.{get_or_from_slice_get}
use Rattle.rc_kinds.specs.Suits.{Entry, Ledger, entry_at, IsNumber, Suits, ObjectSuits, RegionSuits, first_ledger, CellSuits, WorldSuits, AllSuit}
use Rattle.rc_kinds.specs.Kinds.{Of, ResultSuits, IsThere, FindsCells, KeepsToTypes, HasObject, ObjectSays, ValuesSay}
use Rattle.rc_kinds.proofs.InRange.{suits_number, as_int_same}
use Rattle.rc_kinds.proofs.Zips.{zip_length, slice_below, below_slice}
use Rattle.rc_kinds.proofs.Knowing.{goes_on}
use Rattle.rc_kinds.proofs.Kept.{Keeps, keeps_here}
use Rattle.rc_kinds.proofs.Ledgers.{object_suits}
use Rattle.rc_kinds.proofs.Paths.{Aims}
use Rattle.rc_kinds.proofs.Operations.{IsSpot, at_spot_keeps, stands_in, stands_ends}
use Rattle.rc_kinds.proofs.Executions.{value_keeps, place_keeps, exec_keeps}
use Rattle.rc_kinds.proofs.Calls.{calls_keep}
use Rattle.rc_kinds.proofs.First.{first_world_suits}

module _ (program : Program) where
  pub is_there : (l : Ledger) (t : Ty) (w : World) (spot : Spot) → IsSpot program l t w spot → IsThere program t w spot
  is_there l t w spot is =
      let o = object_of w.heap spot in
      record {
        element = is.inside;
        cells = stands_ends o.layout (cells program.structs t) spot.cell is.stands;
        values = let a = stands_ends (kinds_of o) (cells program.structs t) (place_of o spot) (stands_in program l t w spot is) in let b = zip_length (CellSuits l) (kinds_of o) o.values is.object.values in omega (arith, a, b);
      }

  finds : (l : Ledger) (t : Ty) (tg : Target) (w : World) → WorldSuits program l w → Aims program.structs l t tg → FindsCells program t tg w
  finds l t tg w suits a line =
      goes_on program l (λ l spot. IsThere program t w spot) (λ spot w1. IsThere program t w spot) _
      (at_spot_keeps program l line t tg w (λ l spot. IsThere program t w spot) (λ spot. Go spot w) a suits (λ spot is. keeps_here program l (λ l spot. IsThere program t w spot) spot w suits (is_there l t w spot is)))
      (λ spot l1 w1 g s h. h)

  number_says : (l : Ledger) (k : NumberType) (v : Value) → Suits l (number k) v → (z : ℤ) × (v ≡ Number z) × IsTrue (fits k z)
  number_says l k v s = by v (suits_number l k v s)
    where
      by : (v : Value) → IsNumber k v → (z : ℤ) × (v ≡ Number z) × IsTrue (fits k z)
      by (Number z) s = (z, refl, s)
      by Null s = absurd s
      by (Handle r) s = absurd s
      by (Pointer a) s = absurd s

  pub region_says : (l : Ledger) (w : World) (v : Value) → WorldSuits program l w → Suits l region v → (v ≡ Null) ⊎ ((r : ℕ) × (v ≡ Handle r) × (r < length w.heap))
  region_says l w (Number n) suits s = absurd s
  region_says l w Null suits s = inl refl
  region_says l w (Handle r) suits s = inr (r, refl, let n = zip_length (RegionSuits program.structs l) l w.heap suits.heap in omega (arith, n, s))
  region_says l w (Pointer a) suits s = absurd s

  object_there : (l part : Ledger) (heap : Heap) (r o : ℕ) (e : Entry) → AllZip (RegionSuits program.structs l) part heap → entry_at part r o ≡ Some e → slice_get (objects heap r) o ≡ Some (object_at heap r o)
  object_there l [] heap r o e all h = cc
  object_there l (es ∷ part) [] r o e all h = absurd all
  object_there l (es ∷ part) (g ∷ heap) zero o e all h = let b = slice_below g.objects o (let n = zip_length (ObjectSuits program.structs l) es g.objects all.0 in let m = below_slice es o e h in omega (arith, n, m)) in b.1 ∙ ap Some (sym (get_or_from_slice_get g.objects o b.0 no_object b.1))
  object_there l (es ∷ part) (g ∷ heap) (suc r) o e all h = object_there l part heap r o e all.1 h

  pub pointer_says : (l : Ledger) (w : World) (note : Note) (t : Ty) (v : Value) → WorldSuits program l w → Suits l (pointer note t) v → (v ≡ Null) ⊎ ((a : Address) × (v ≡ Pointer a) × HasObject program w t a)
  pointer_says l w note t (Number n) suits s = absurd s
  pointer_says l w note t Null suits s = inl refl
  pointer_says l w note t (Handle r) suits s = absurd s
  pointer_says l w note t (Pointer a) suits s =
      let o = object_suits program.structs l l w.heap a.region a.object _ suits.heap s.entry in
      inr (
        a,
        refl,
        record {
          object = object_at w.heap a.region a.object;
          there = object_there l l w.heap a.region a.object _ suits.heap s.entry;
          layout = o.layout;
          defined = o.defined;
          within = let n = o.count in let m = s.within in omega (arith, n, m);
        },
      )

  local_says : (l : Ledger) (types : List Ty) (locals : List Value) (x : ℕ) (t : Ty) → AllSuit l types locals → slice_get types x ≡ Some t → (v : Value) × (slice_get locals x ≡ Some v) × Suits l t v
  local_says l [] locals x t all e = cc
  local_says l (u ∷ types) [] x t all e = absurd all
  local_says l (u ∷ types) (v ∷ locals) zero t all e = let q : u ≡ t = cc in (v, refl, subst (λ y. Suits l y v) q all.0)
  local_says l (u ∷ types) (v ∷ locals) (suc x) t all e = local_says l types locals x t all.1 e

  entry_there : (l part : Ledger) (heap : Heap) (r o : ℕ) (there : Object) → AllZip (RegionSuits program.structs l) part heap → slice_get (objects heap r) o ≡ Some there → (e : Entry) × ObjectSuits program.structs l e there
  entry_there l [] [] r o there all e = cc
  entry_there l [] (g ∷ heap) r o there all e = absurd all
  entry_there l (es ∷ part) [] r o there all e = absurd all
  entry_there l (es ∷ part) (g ∷ heap) zero o there all e = by es g.objects o all.0 e
    where
      by : (es : List Entry) (os : List Object) (o : ℕ) → AllZip (ObjectSuits program.structs l) es os → slice_get os o ≡ Some there → (e : Entry) × ObjectSuits program.structs l e there
      by es [] o all e = cc
      by [] (x ∷ os) o all e = absurd all
      by (e1 ∷ es) (x ∷ os) zero all e = let q : x ≡ there = cc in (e1, subst (ObjectSuits program.structs l e1) q all.0)
      by (e1 ∷ es) (x ∷ os) (suc o) all e = by es os o all.1 e
  entry_there l (es ∷ part) (g ∷ heap) (suc r) o there all e = entry_there l part heap r o there all.1 e

  kinds_counted : (count : ℕ) (layout : Layout) → length (flat_map (λ layout. layout) (replicate count layout)) ≡ count * length layout
  kinds_counted zero layout = omega arith
  kinds_counted (suc count) layout = let r = kinds_counted count layout in omega (arith, r, length-append layout (flat_map (λ layout. layout) (replicate count layout)))

  pub object_says : (l : Ledger) (w : World) (r o : ℕ) (there : Object) → WorldSuits program l w → slice_get (objects w.heap r) o ≡ Some there → ObjectSays program l there
  object_says l w r o there suits e =
      let s = entry_there l l w.heap r o there suits.heap e in
      record { ty = s.0.ty; defined = s.1.defined; layout = s.1.layout; counted = zip_length (CellSuits l) (kinds_of there) there.values s.1.values ∙ kinds_counted there.count there.layout; values = s.1.values }

  pub values_say : ValuesSay program
  values_say = record { number = number_says; region = region_says; pointer = pointer_says; local = local_says; object = object_says }

module _ (program : Program) (well : IsWellTyped program) where
  main_keeps : (input : List ℕ) (limits : Limits) → Every IsByte input → Keeps program (first_ledger program) (Of int) (run_of program input limits)
  main_keeps input limits bytes =
      let m = well.main in
      subst (λ r. Keeps program (first_ledger program) (ResultSuits r) (run_of program input limits)) m.1.2
      (calls_keep program well (suc limits.turns) program.main m.0 [] (first_ledger program) (first_world program input limits) m.1.0 (subst (λ n. AllSuit (first_ledger program) (take n m.0.locals) []) (sym m.1.1) tt) (first_world_suits program input limits well bytes))

  pub keeps_to_types : KeepsToTypes program
  keeps_to_types = record {
    begins = λ input limits bytes. first_world_suits program input limits well bytes;
    expression = λ live e t at s h. (value_keeps program well.structs at.function (well.functions s.number at.function s.there).locals (calls_within source program at.depth) (calls_keep program well at.depth) live e t at.locals s.known.ledger at.world h s.known.suit s.known.world).holds;
    place = λ live place t at s h. goes_on program s.known.ledger (λ l tg. Aims program.structs l t tg) (FindsCells program t) _
        (place_keeps program well.structs at.function (well.functions s.number at.function s.there).locals (calls_within source program at.depth) (calls_keep program well at.depth) live place t at.locals s.known.ledger at.world h s.known.suit s.known.world) (λ tg l1 w1 g s1 a. finds program l1 t tg w1 s1 a);
    statement = λ loop st ways at s h. (exec_keeps program well.structs at.function (well.functions s.number at.function s.there).locals (calls_within source program at.depth) (calls_keep program well at.depth) loop st ways at.locals s.known.ledger at.world h s.known.suit s.known.world).holds;
    call = λ n k f arguments w there known. (calls_keep program well n k f arguments known.ledger w there known.suit known.world).holds;
    exit = λ input limits bytes. goes_on program (first_ledger program) (Of int) (λ v w. (z : ℤ) × (v ≡ Number z) × (as_int z ≡ z)) (run_of program input limits) (main_keeps input limits bytes) (λ v l1 w1 g s1 s.
        let n = number_says program l1 Int v s in (n.0, n.1, as_int_same n.0 n.2));
  }
