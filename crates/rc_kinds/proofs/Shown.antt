-- What a world that suits shows without a ledger: each cell and each value that waits, by its type, and a pointer by the layout of
-- its object.
use Rattle.std.proofs.Common.{◌≡◌, ◌<◌, ℕ, length, slice_get, Some, ◌⊎◌}
use Rattle.std.specs.List.{AllByRecursion as Every, AllZip}
use Rattle.rc_core.specs.declared.ty.NumberType.TheVariants.{Int, Unsigned, Char}
use Rattle.rc_core.specs.Types.{Ty, int, unsigned, char, region, struct, pointer, CellKind}
use Rattle.rc_core.specs.Programs.{Program}
use Rattle.rc_core.specs.Heap.{Value, Null, Handle, Pointer, Address, Object, kinds_of, objects}
use Rattle.rc_core.specs.Source.{World}
use Rattle.rc_safety.proofs.Lists.{every_more, zip_more}
use Rattle.rc_kinds.specs.Suits.{Ledger, IsNumber, Suits, cell_type, CellSuits, SuitsSome, WorldSuits}
use Rattle.rc_kinds.specs.Kinds.{HasObject}
use Rattle.rc_kinds.proofs.Stated.{region_says, pointer_says, object_says}

module _ (program : Program) where
  abbrev pub IsOf : World → Ty → Value → Type 0
  IsOf w int v = IsNumber Int v
  IsOf w unsigned v = IsNumber Unsigned v
  IsOf w char v = IsNumber Char v
  IsOf w region v = (v ≡ Null) ⊎ ((r : ℕ) × (v ≡ Handle r) × (r < length w.heap))
  IsOf w (struct k) v = ⊥
  IsOf w (pointer note target) v = (v ≡ Null) ⊎ ((a : Address) × (v ≡ Pointer a) × HasObject program w target a)

  pub value_shown : (l : Ledger) (w : World) (t : Ty) (v : Value) → WorldSuits program l w → Suits l t v → IsOf w t v
  value_shown l w int v suits s = s
  value_shown l w unsigned v suits s = s
  value_shown l w char v suits s = s
  value_shown l w region v suits s = region_says program l w v suits s
  value_shown l w (struct k) v suits s = s
  value_shown l w (pointer note target) v suits s = pointer_says program l w note target v suits s

  pub cells_shown : (l : Ledger) (w : World) (r o : ℕ) (there : Object) → WorldSuits program l w → slice_get (objects w.heap r) o ≡ Some there → AllZip (λ (kind : CellKind) v. IsOf w (cell_type kind) v) (kinds_of there) there.values
  cells_shown l w r o there suits e = zip_more (CellSuits l) (λ (kind : CellKind) v. IsOf w (cell_type kind) v) (λ kind v s. value_shown l w (cell_type kind) v suits s) (kinds_of there) there.values (object_says program l w r o there suits e).values

  pub waiting_shown : (l : Ledger) (w : World) → WorldSuits program l w → Every (λ v. (t : Ty) × IsOf w t v) w.waiting
  waiting_shown l w suits = every_more (SuitsSome l) (λ v. (t : Ty) × IsOf w t v) (λ v s. (s.0, value_shown l w s.0 v suits s.1)) w.waiting suits.waiting
