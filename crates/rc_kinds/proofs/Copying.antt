-- The two places of a copy, and what the copy does.
use Rattle.std.proofs.Common.{◌≡◌, ◌<◌, ◌≤◌, ◌+◌, ◌*◌, ℕ, zero, suc, pos, ◌+ℤ◌, Bool, length, Some, refl, sym, ap, ◌∙◌, subst, ◌⊎◌, inl, inr, arith}
use Rattle.rc_core.specs.Types.{Ty, struct}
use Rattle.rc_core.specs.Layout.{Layout, cells, size}
use Rattle.rc_core.specs.Programs.{Place, Program}
use Rattle.rc_core.specs.Heap.{Address, object_at}
use Rattle.rc_core.specs.Runs.{Go, Target}
use Rattle.rc_core.specs.Source.{World, Spot, object_of, place_of, cell_of, source, at_spot}
use Rattle.rc_core.specs.Execution.{calls_within}
use Rattle.rc_core.specs.Typing.{IsPlace}
use Rattle.rc_core.specs.WellTyped.{IsWellTyped}
use Rattle.rc_core.specs.Laws.{IfGoes}
use Rattle.rc_kinds.specs.Suits.{Entry, Ledger, entry_at, IsPointer, WorldSuits}
use Rattle.rc_kinds.specs.Frames.{Frame, IsSuited}
use Rattle.rc_kinds.specs.Copies.{copied_at_once, copied_by_cells, DoesTheSame, Apart, AreApart, OfBoth, CopiesGoByCells}
use Rattle.rc_kinds.proofs.Grown.{all_still_suit}
use Rattle.rc_kinds.proofs.Zips.{Stands}
use Rattle.rc_kinds.proofs.Kept.{keeps_here}
use Rattle.rc_kinds.proofs.Knowing.{goes_on}
use Rattle.rc_kinds.proofs.Ledgers.{object_suits}
use Rattle.rc_kinds.proofs.Places.{Reaches, reached_cell}
use Rattle.rc_kinds.proofs.Paths.{Aims, index_is_below}
use Rattle.rc_kinds.proofs.Apart.{order, times, places_apart}
use Rattle.rc_kinds.proofs.Sizes.{struct_has_cell}
use Rattle.rc_kinds.proofs.Operations.{IsSpot, stands_ends, at_spot_keeps}
use Rattle.rc_kinds.proofs.Evaluations.{still_aims}
use Rattle.rc_kinds.proofs.Executions.{place_keeps}
use Rattle.rc_kinds.proofs.Calls.{calls_keep}
use Rattle.rc_kinds.proofs.Stated.{is_there}
use Rattle.rc_kinds.proofs.Cells.{Passes, spot_at}
use Rattle.rc_kinds.proofs.ByCells.{copied}

-- elements of an array, and places in them
elements_apart : (n size ea ca eb cb : ℕ) → ca + size ≤ n → cb + size ≤ n → Apart size ca cb → Apart size (ea * n + ca) (eb * n + cb)
elements_apart n size ea ca eb cb ha hb apart = by (order ea eb)
  where
    same : ea * n ≡ eb * n → Apart size ca cb → Apart size (ea * n + ca) (eb * n + cb)
    same e (inl q) = inl (omega (arith, e, q))
    same e (inr (inl q)) = inr (inl (omega (arith, e, q)))
    same e (inr (inr q)) = inr (inr (omega (arith, e, q)))

    by : (ea ≡ eb) ⊎ ((ea < eb) ⊎ (eb < ea)) → Apart size (ea * n + ca) (eb * n + cb)
    by (inl e) = same (ap (λ k. k * n) e) apart
    by (inr (inl h)) = inr (inl (let r = times ea eb n h in omega (arith, r, ha)))
    by (inr (inr h)) = inr (inr (let r = times eb ea n h in omega (arith, r, hb)))

module _ (program : Program) (well : IsWellTyped program) where
  -- where the tests pass
  spot_of : (l : Ledger) (t : Ty) (tg : Target) (a : Address) (w : World) → Aims program.structs l t tg → WorldSuits program l w → Passes tg a w.heap → IsSpot program l t w (spot_at tg a)
  spot_of l t tg a w aims suits p =
      let leads = subst (IsPointer l aims.element) p.pointer aims.pointer in
      let o = object_suits program.structs l l w.heap a.region a.object _ suits.heap leads.entry in
      record {
        entry = record { ty = aims.element; count = leads.count };
        there = leads.entry;
        object = o;
        inside = index_is_below (pos a.index +ℤ tg.shift) _ p.index;
        stands = subst (λ (xs : Layout). Stands xs (cells program.structs t) (cell_of tg)) (sym o.layout) (aims.stands p.chosen);
        reached = aims.reached p.chosen;
      }

  -- two places of one type are the same or share no cell
  separate : (l : Ledger) (t : Ty) (w : World) (a b : Spot) → IsSpot program l t w a → IsSpot program l t w b → AreApart (size program.structs t) w.heap a b
  separate l t w a b sa sb = regions (order b.region a.region)
    where
      bound : b.region ≡ a.region → b.object ≡ a.object → b.cell + size program.structs t ≤ length (object_of w.heap a).layout
      bound r o =
          let e : object_of w.heap b ≡ object_of w.heap a = ap (λ q. object_at w.heap q b.object) r ∙ ap (λ q. object_at w.heap a.region q) o in
          subst (λ x. b.cell + size program.structs t ≤ length (x.layout)) e (stands_ends (object_of w.heap b).layout (cells program.structs t) b.cell sb.stands)

      cells_apart : b.region ≡ a.region → b.object ≡ a.object → Apart (size program.structs t) a.cell b.cell
      cells_apart r o =
          let e : entry_at l b.region b.object ≡ entry_at l a.region a.object = ap (λ q. entry_at l q b.object) r ∙ ap (λ q. entry_at l a.region q) o in
          let s : Some sb.entry ≡ Some sa.entry = sym sb.there ∙ e ∙ sa.there in
          let same : sb.entry ≡ sa.entry = cc in
          let p = places_apart program.structs well.structs sa.reached.path sb.reached.path sa.entry.ty t sa.reached.reaches (subst (λ (x : Entry). Reaches program.structs sb.reached.path x.ty t) same sb.reached.reaches) in
          subst (λ n. Apart (size program.structs t) n b.cell) sa.reached.at_is (subst (λ n. Apart (size program.structs t) (reached_cell program.structs sa.reached.path) n) sb.reached.at_is p)

      objects : b.region ≡ a.region → (b.object ≡ a.object) ⊎ ((b.object < a.object) ⊎ (a.object < b.object)) → AreApart (size program.structs t) w.heap a b
      objects r (inl o) = inr (r, o, elements_apart (length (object_of w.heap a).layout) (size program.structs t) a.element a.cell b.element b.cell (stands_ends (object_of w.heap a).layout (cells program.structs t) a.cell sa.stands) (bound r o) (cells_apart r o))
      objects r (inr (inl h)) = inl (λ _ o. absurd (omega (arith, o, h)))
      objects r (inr (inr h)) = inl (λ _ o. absurd (omega (arith, o, h)))

      regions : (b.region ≡ a.region) ⊎ ((b.region < a.region) ⊎ (a.region < b.region)) → AreApart (size program.structs t) w.heap a b
      regions (inl r) = objects r (order b.object a.object)
      regions (inr (inl h)) = inl (λ r _. absurd (omega (arith, r, h)))
      regions (inr (inr h)) = inl (λ r _. absurd (omega (arith, r, h)))

  -- both places of a copy
  record Two (t : Ty) (to from : Target) (w : World) : Type 0 where
    pub ledger : Ledger
    pub world : WorldSuits program ledger w
    pub to_aims : Aims program.structs ledger t to
    pub from_aims : Aims program.structs ledger t from

  moves : (line : ℕ) (t : Ty) (n : ℕ) → size program.structs t ≡ n → 1 ≤ n → (to from : Target) (w : World) → Two t to from w → DoesTheSame (copied_at_once line n from to w) (copied_by_cells line n from to w)
  moves line t zero e some to from w two = absurd (omega (arith, some))
  moves line t (suc m) e some to from w two =
      copied line m from to w (λ af at pf pt.
      let sf = spot_of two.ledger t from af w two.from_aims two.world pf in
      let st = spot_of two.ledger t to at w two.to_aims two.world pt in (
        subst (λ k. AreApart k w.heap (spot_at from af) (spot_at to at)) e (separate two.ledger t w (spot_at from af) (spot_at to at) sf st),
        subst (λ k. place_of (object_of w.heap (spot_at from af)) (spot_at from af) + k ≤ length (object_of w.heap (spot_at from af)).values) e (is_there program two.ledger t w (spot_at from af) sf).values,
      ))

  -- both are found
  two_found : (live : ℕ → Bool) (left right : Place) (t : Ty) (at : Frame) → IsSuited program at → IsPlace program at.function.locals left t → IsPlace program at.function.locals right t → (Holds : Target → Target → World → Type 0) → ((to from : Target) (w : World) → Two t to from w → Holds to from w) → OfBoth program live left right at Holds
  two_found live left right t at s hl hr Holds more =
      let variables = (well.functions s.number at.function s.there).locals in
      let calls = calls_within source program at.depth in
      goes_on program s.known.ledger (λ l tg. Aims program.structs l t tg) _ _ (place_keeps program well.structs at.function variables calls (calls_keep program well at.depth) live left t at.locals s.known.ledger at.world hl s.known.suit s.known.world) (λ to l1 w1 g1 s1 a1.
      goes_on program l1 (λ l tg. Aims program.structs l t tg) _ _ (place_keeps program well.structs at.function variables calls (calls_keep program well at.depth) live right t at.locals l1 w1 hr (all_still_suit s.known.ledger l1 g1 at.function.locals at.locals s.known.suit) s1) (λ from l2 w2 g2 s2 a2.
      more to from w2 (record { ledger = l2; world = s2; to_aims = still_aims program l1 l2 t to g2 a1; from_aims = a2 })))

  spots_apart : (t : Ty) (to from : Target) (w : World) → Two t to from w → (line : ℕ) → IfGoes (λ (spots : Spot × Spot) w1. AreApart (size program.structs t) w.heap spots.0 spots.1) (at_spot line from w (λ a. at_spot line to w (λ b. Go (a, b) w)))
  spots_apart t to from w two line =
      let S : Ledger → Spot × Spot → Type 0 = λ l spots. AreApart (size program.structs t) w.heap spots.0 spots.1 in
      goes_on program two.ledger S _ _
      (at_spot_keeps program two.ledger line t from w S _ two.from_aims two.world (λ a sa.
      at_spot_keeps program two.ledger line t to w S _ two.to_aims two.world (λ b sb. keeps_here program two.ledger S (a, b) w two.world (separate two.ledger t w a b sa sb)))) (λ spots l1 w1 g s1 h. h)

  pub copies_go_by_cells : CopiesGoByCells program
  copies_go_by_cells = record {
    apart = λ live left right t at s hl hr. two_found live left right t at s hl hr _ (λ to from w two. spots_apart t to from w two);
    same = λ live left right k at s hl hr there. two_found live left right (struct k) at s hl hr _ (λ to from w two line. moves line (struct k) (size program.structs (struct k)) refl (struct_has_cell program.structs well.structs k there) to from w two);
  }
