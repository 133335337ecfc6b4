-- Where regions may be deleted: by functions marked `deletes` alone, and a call of such a function is the whole of an
-- expression statement, of what a local or a return takes, or of a statement's condition, but for a conversion of its result.
use Rattle.std.specs.Prelude.{◌≡◌, ℕ, false, IfSome, Some, slice_get}
use Rattle.rc_core.specs.Programs.{Expr, constant, null, string, local, read, address, step, step_from, unary, binary, convert, not_zero, and, or, choose, is_null, same, call, new_region, new_subregion, region_of, allocate, allocate_array, putchar, getchar, Arguments, none, more, Place, global, pointed, indexed, Path, here, field, element, Stmt, block, declare, assign, store, update, copy, evaluate, delete, branch, while, repeat, for, break, continue, return, Stmts, done, then, Function, Program}
use Rattle.rc_core.specs.Execution.{deletes}

module _ (program : Program) where
  -- nothing in it calls a `deletes` function
  abbrev mutual
    pub IsQuiet : Expr → Type 0
    IsQuiet (constant line s n) = Unit {0}
    IsQuiet (null line) = Unit {0}
    IsQuiet (string line k) = Unit {0}
    IsQuiet (local line x) = Unit {0}
    IsQuiet (read line place) = IsQuietPlace place
    IsQuiet (address line g) = Unit {0}
    IsQuiet (step line direction p i) = IsQuiet p × IsQuiet i
    IsQuiet (step_from line i p) = IsQuiet i × IsQuiet p
    IsQuiet (unary line op s e) = IsQuiet e
    IsQuiet (binary line op s a b) = IsQuiet a × IsQuiet b
    IsQuiet (convert line from to e) = IsQuiet e
    IsQuiet (not_zero line e) = IsQuiet e
    IsQuiet (and line a b) = IsQuiet a × IsQuiet b
    IsQuiet (or line a b) = IsQuiet a × IsQuiet b
    IsQuiet (choose line test a b) = IsQuiet test × IsQuiet a × IsQuiet b
    IsQuiet (is_null line wanted e) = IsQuiet e
    IsQuiet (same line wanted a b) = IsQuiet a × IsQuiet b
    IsQuiet (call line f arguments) = (deletes program f ≡ false) × AreQuiet arguments
    IsQuiet (new_region line) = Unit {0}
    IsQuiet (new_subregion line r) = IsQuiet r
    IsQuiet (region_of line p) = IsQuiet p
    IsQuiet (allocate line r ty) = IsQuiet r
    IsQuiet (allocate_array line r n ty) = IsQuiet r × IsQuiet n
    IsQuiet (putchar line e) = IsQuiet e
    IsQuiet (getchar line) = Unit {0}

    pub AreQuiet : Arguments → Type 0
    AreQuiet none = Unit {0}
    AreQuiet (more e rest) = IsQuiet e × AreQuiet rest

    pub IsQuietPlace : Place → Type 0
    IsQuietPlace (global g path) = IsQuietPath path
    IsQuietPlace (pointed p path) = IsQuiet p × IsQuietPath path
    IsQuietPlace (indexed p i path) = IsQuiet p × IsQuiet i × IsQuietPath path

    pub IsQuietPath : Path → Type 0
    IsQuietPath here = Unit {0}
    IsQuietPath (field s f rest) = IsQuietPath rest
    IsQuietPath (element s f i rest) = IsQuiet i × IsQuietPath rest

  -- the whole of it may be such a call
  abbrev pub IsQuietInside : Expr → Type 0
  IsQuietInside (call line f arguments) = AreQuiet arguments
  IsQuietInside (convert line from to e) = IsQuietInside e
  IsQuietInside e = IsQuiet e

  -- the calls stand where they may
  abbrev mutual
    pub IsPlaced : Stmt → Type 0
    IsPlaced (block body) = ArePlaced body
    IsPlaced (declare line x value) = IfSome value IsQuietInside
    IsPlaced (assign line x e) = IsQuietInside e
    IsPlaced (store line place e) = IsQuietPlace place × IsQuiet e
    IsPlaced (update line place change e) = IsQuietPlace place × IsQuiet e
    IsPlaced (copy line s left right) = IsQuietPlace left × IsQuietPlace right
    IsPlaced (evaluate line e) = IsQuietInside e
    IsPlaced (delete line e) = IsQuiet e
    IsPlaced (branch line test a b) = IsQuietInside test × IsPlaced a × IsPlaced b
    IsPlaced (while line test a) = IsQuietInside test × IsPlaced a
    IsPlaced (repeat line a test) = IsPlaced a × IsQuietInside test
    IsPlaced (for line first test third a) = IsPlaced first × IfSome test IsQuietInside × IsPlaced third × IsPlaced a
    IsPlaced (break line) = Unit {0}
    IsPlaced (continue line) = Unit {0}
    IsPlaced (return line value) = IfSome value IsQuietInside

    pub ArePlaced : Stmts → Type 0
    ArePlaced done = Unit {0}
    ArePlaced (then s rest) = IsPlaced s × ArePlaced rest

  -- no region is deleted, and no `deletes` function called
  abbrev mutual
    pub KeepsRegions : Stmt → Type 0
    KeepsRegions (block body) = KeepRegions body
    KeepsRegions (declare line x value) = IfSome value IsQuiet
    KeepsRegions (assign line x e) = IsQuiet e
    KeepsRegions (store line place e) = IsQuietPlace place × IsQuiet e
    KeepsRegions (update line place change e) = IsQuietPlace place × IsQuiet e
    KeepsRegions (copy line s left right) = IsQuietPlace left × IsQuietPlace right
    KeepsRegions (evaluate line e) = IsQuiet e
    KeepsRegions (delete line e) = ⊥
    KeepsRegions (branch line test a b) = IsQuiet test × KeepsRegions a × KeepsRegions b
    KeepsRegions (while line test a) = IsQuiet test × KeepsRegions a
    KeepsRegions (repeat line a test) = KeepsRegions a × IsQuiet test
    KeepsRegions (for line first test third a) = KeepsRegions first × IfSome test IsQuiet × KeepsRegions third × KeepsRegions a
    KeepsRegions (break line) = Unit {0}
    KeepsRegions (continue line) = Unit {0}
    KeepsRegions (return line value) = IfSome value IsQuiet

    pub KeepRegions : Stmts → Type 0
    KeepRegions done = Unit {0}
    KeepRegions (then s rest) = KeepsRegions s × KeepRegions rest

pub record DeletesInPlace (program : Program) : Type 0 where
  pub placed : (k : ℕ) (f : Function) → slice_get program.functions k ≡ Some f → IsPlaced program f.body
  pub kept : (k : ℕ) (f : Function) → slice_get program.functions k ≡ Some f → f.deletes ≡ false → KeepsRegions program f.body
