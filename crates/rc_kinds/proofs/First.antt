-- Where a run begins.
use Rattle.std.proofs.Common.{◌≡◌, ℕ, zero, suc, ℤ, List, [], ◌∷◌, map, Option, Some, None, slice_get, refl, subst}
use Rattle.std.specs.List.{AllByRecursion as Every, AllZip}
use Rattle.rc_base.specs.declared.ends.Limits.{Limits}
use Rattle.rc_core.specs.Numbers.{IsByte}
use Rattle.rc_core.specs.Types.{Ty, int, unsigned, char, region, struct, pointer}
use Rattle.rc_core.specs.Programs.{Struct, Program}
use Rattle.rc_core.specs.Layout.{cells}
use Rattle.rc_core.specs.Heap.{kinds_of, global_object_of, global_object, literal}
use Rattle.rc_core.specs.Meaning.{first_world}
use Rattle.rc_core.specs.Typing.{IsDefined}
use Rattle.rc_core.specs.WellTyped.{IsInitial, elements, IsWellTyped}
use Rattle.rc_safety.proofs.Lists.{zip_append}
use Rattle.rc_kinds.specs.Suits.{Ledger, CellSuits, ObjectSuits, global_entry, literal_entry, first_ledger, WorldSuits}
use Rattle.rc_kinds.proofs.InRange.{is_less}
use Rattle.rc_kinds.proofs.Zips.{zip_map}
use Rattle.rc_kinds.proofs.Grown.{grows_itself}
use Rattle.rc_kinds.proofs.Operations.{blank_object_suits}

module _ (structs : List Struct) (l : Ledger) where
  global_suits : (t : Ty) (count : Option ℕ) (n : ℤ) → IsDefined structs t → IsInitial count t n → ObjectSuits structs l (record { ty = t; count = elements count }) (global_object_of (cells structs t) t count n)
  global_suits t (Some count) n d i = blank_object_suits structs l t count d
  global_suits int None n d i = record { defined = d; count = refl; layout = refl; values = (i, tt) }
  global_suits unsigned None n d i = record { defined = d; count = refl; layout = refl; values = (i, tt) }
  global_suits char None n d i = record { defined = d; count = refl; layout = refl; values = (i, tt) }
  global_suits region None n d i = blank_object_suits structs l region 1 d
  global_suits (struct k) None n d i = blank_object_suits structs l (struct k) 1 d
  global_suits (pointer note target) None n d i = blank_object_suits structs l (pointer note target) 1 d

  literal_values : (bytes : List ℕ) → Every IsByte bytes → AllZip (CellSuits l) (kinds_of (literal bytes)) (literal bytes).values
  literal_values [] all = (refl, tt)
  literal_values (b ∷ bytes) all = (is_less b 256 all.0, literal_values bytes all.1)

  literal_suits : (bytes : List ℕ) → Every IsByte bytes → ObjectSuits structs l (literal_entry bytes) (literal bytes)
  literal_suits bytes all = record { defined = tt; count = refl; layout = refl; values = literal_values bytes all }

every_at : {A : Type 0} (P : A → Type 0) (xs : List A) (i : ℕ) (x : A) → Every P xs → slice_get xs i ≡ Some x → P x
every_at P [] i x all e = cc
every_at P (a ∷ xs) zero x all e = let q : a ≡ x = cc in subst P q all.0
every_at P (a ∷ xs) (suc i) x all e = every_at P xs i x all.1 e

pub first_world_suits : (program : Program) (input : List ℕ) (limits : Limits) → IsWellTyped program → Every IsByte input → WorldSuits program (first_ledger program) (first_world program input limits)
first_world_suits program input limits fits bytes = record {
  heap = (
    zip_append (ObjectSuits program.structs l) (map global_entry program.globals) (map literal_entry program.strings) (map (global_object program.structs) program.globals) (map literal program.strings)
        (zip_map (ObjectSuits program.structs l) global_entry (global_object program.structs) program.globals (λ i g e. let h = fits.globals i g e in global_suits program.structs l g.ty g.count g.initial h.defined h.initial_fits))
        (zip_map (ObjectSuits program.structs l) literal_entry literal program.strings (λ i b e. literal_suits program.structs l b (every_at (Every IsByte) program.strings i b fits.bytes e))),
    tt,
  );
  waiting = tt;
  input = bytes;
  begun = grows_itself l;
}
  where
    l : Ledger
    l = first_ledger program
