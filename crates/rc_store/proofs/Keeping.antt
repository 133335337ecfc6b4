-- What a heap keeps of objects is enough to make them and to count references.
use Rattle.std.proofs.Common.{◌≡◌, ◌+◌, ◌∙◌, ℕ, zero, suc, List, [], ◌∷◌, ◌++◌, cond, nat_eq, map, replicate, Option, Some, None, refl, sym, ap}
use Rattle.std.specs.Prelude.{◌&&◌, zip, flat_map, option_map}
use Rattle.std.specs.List.{count_by, sum_by}
use Rattle.std.proofs.lemmas.List.{length-map, map-append}
use Rattle.std.proofs.lemmas.List.Sums.{sum_by-cons}
use Rattle.rc_core.specs.declared.layouts.Kind.{Kind}
use Rattle.rc_core.specs.Types.{CellKind, int_cell, unsigned_cell, char_cell, region_cell, pointer_cell}
use Rattle.rc_core.specs.Layout.{Layout, is_counted as cell_is_counted}
use Rattle.rc_core.specs.Laid.{held_kind}
use Rattle.rc_core.specs.Heap.{Value, Object, blank_cell, names, kinds_of}
use Rattle.rc_core.specs.Heap.{blank as blank_object}
use Rattle.rc_core.specs.Store.{View, Store}
use Rattle.rc_core.specs.Store as S
use Rattle.rc_store.specs.Kept.{blank, kept_object, kept_view, object_refs, view_refs}
use Rattle.rc_store.specs.Laws.{KeepsTheStore}
use Rattle.rc_store.specs.Values.{blank_of, is_counted}
use Rattle.rc_store.proofs.Along.{refs_along, refs_from}

kind_counted : (k : CellKind) → is_counted (held_kind k) ≡ cell_is_counted k
kind_counted int_cell = refl
kind_counted unsigned_cell = refl
kind_counted char_cell = refl
kind_counted region_cell = refl
kind_counted (pointer_cell note target) = refl

kind_blank : (k : CellKind) → blank_cell k ≡ blank_of (held_kind k)
kind_blank int_cell = refl
kind_blank unsigned_cell = refl
kind_blank char_cell = refl
kind_blank region_cell = refl
kind_blank (pointer_cell note target) = refl

row_blank : (layout : Layout) → map blank_cell layout ≡ map blank_of (map held_kind layout)
row_blank [] = refl
row_blank (k ∷ ks) = ap (λ v. v ∷ map blank_cell ks) (kind_blank k) ∙ ap (λ vs. blank_of (held_kind k) ∷ vs) (row_blank ks)

all_kinds : (layout : Layout) (n : ℕ) → map held_kind (flat_map (λ l. l) (replicate n layout)) ≡ flat_map (λ ks. ks) (replicate n (map held_kind layout))
all_kinds layout zero = refl
all_kinds layout (suc n) = map-append held_kind layout (flat_map (λ l. l) (replicate n layout)) ∙ ap (λ ks. map held_kind layout ++ ks) (all_kinds layout n)

all_blank : (layout : Layout) (n : ℕ) → flat_map (map blank_cell) (replicate n layout) ≡ flat_map (map blank_of) (replicate n (map held_kind layout))
all_blank layout zero = refl
all_blank layout (suc n) = ap (λ vs. vs ++ flat_map (map blank_cell) (replicate n layout)) (row_blank layout) ∙ ap (λ vs. map blank_of (map held_kind layout) ++ vs) (all_blank layout n)

blank_kept : (layout : Layout) (n : ℕ) → kept_object (blank_object layout n) ≡ blank (map held_kind layout) n
blank_kept layout n =
    let size = sym (length-map layout held_kind) in
    let kinds = all_kinds layout n in
    let values = all_blank layout n in
    cc

zip_refs : (r : ℕ) (kinds : Layout) (values : List Value) → count_by (λ (c : Kind × Value). is_counted c.0 && names r c.1) (zip (map held_kind kinds) values) ≡ count_by (λ (c : CellKind × Value). cell_is_counted c.0 && names r c.1) (zip kinds values)
zip_refs r [] values = refl
zip_refs r (k ∷ kinds) [] = refl
zip_refs r (k ∷ kinds) (v ∷ values) =
    sum_by-cons (λ (c : Kind × Value). cond (is_counted c.0 && names r c.1) 1 0) (held_kind k, v) (zip (map held_kind kinds) values)
    ∙ ap (λ b. cond (b && names r v) 1 0 + count_by (λ (c : Kind × Value). is_counted c.0 && names r c.1) (zip (map held_kind kinds) values)) (kind_counted k)
    ∙ ap (λ n. cond (cell_is_counted k && names r v) 1 0 + n) (zip_refs r kinds values)
    ∙ sym (sum_by-cons (λ (c : CellKind × Value). cond (cell_is_counted c.0 && names r c.1) 1 0) (k, v) (zip kinds values))

objects_refs : (r : ℕ) (os : List Object) → sum_by (object_refs r) (map kept_object os) ≡ sum_by (S.object_refs r) os
objects_refs r [] = refl
objects_refs r (o ∷ os) =
    sum_by-cons (object_refs r) (kept_object o) (map kept_object os)
    ∙ ap (λ n. n + sum_by (object_refs r) (map kept_object os)) (zip_refs r (kinds_of o) o.values)
    ∙ ap (λ n. S.object_refs r o + n) (objects_refs r os)
    ∙ sym (sum_by-cons (S.object_refs r) o os)

view_refs_kept : (r : ℕ) (v : Option View) → view_refs r (option_map kept_view v) ≡ S.view_refs r v
view_refs_kept r None = refl
view_refs_kept r (Some v) = objects_refs r v.objects

outside_kept : (r at : ℕ) (views : List (Option View)) → refs_from r at (map (option_map kept_view) views) ≡ S.refs_outside r at views
outside_kept r at [] = refl
outside_kept r at (v ∷ views) =
    ap (λ n. cond (nat_eq at r) 0 n + refs_from r (suc at) (map (option_map kept_view) views)) (view_refs_kept r v)
    ∙ ap (λ n. cond (nat_eq at r) 0 (S.view_refs r v) + n) (outside_kept r (suc at) views)

pub keeps_the_store : KeepsTheStore
keeps_the_store = record {
  blanks = blank_kept;
  references = λ s r. ap (λ n. n + count_by (names r) s.pins) (refs_along r (map (option_map kept_view) s.regions) ∙ outside_kept r 0 s.regions);
}
