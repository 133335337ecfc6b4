-- Region code whose types agree. An operation's result has the type that a step puts it in as, its operands have the types that it reads
-- them by, and what goes into a local has the local's type. Types agree where their kinds do: a `char` is an `int` there, and the notes of
-- pointers don't matter. Given are the types of all locals, of the objects of region 0, and of the functions' results.
use Rattle.std.specs.Prelude.{◌≡◌, ℕ, Bool, true, false, IsTrue, List, get_or}
use Rattle.rc_core.specs.declared.ty.Note.TheVariants.{Plain}
use Rattle.rc_core.specs.declared.ty.Signedness.{Signedness}
use Rattle.rc_core.specs.declared.ty.Signedness.TheVariants.{Signed, Unsigned as Wrapping}
use Rattle.rc_core.specs.declared.stmt.Change.{Change}
use Rattle.rc_core.specs.declared.stmt.Change.TheVariants.{Compute, Step as Stepping}
use Rattle.rc_core.specs.Types.{Ty, int, unsigned, char, region, struct, pointer}
use Rattle.rc_core.specs.Typing.{arithmetic, number, is_shift, is_comparison, is_reference}
use Rattle.rc_rlang.specs.RegionCode.{Access, Operation}
use Rattle.rc_rlang.specs.RegionCode as From

-- the kinds of operands: `char` is kept as an `int`, and notes of pointers don't matter
abbrev pub kind_ty : Ty → Ty
kind_ty int = int
kind_ty unsigned = unsigned
kind_ty char = int
kind_ty region = region
kind_ty (struct k) = struct k
kind_ty (pointer note target) = pointer Plain target

-- what a comparison gives is an `int`
abbrev pub result_kind : Bool → Signedness → Ty
result_kind true s = int
result_kind false s = arithmetic s

-- the signedness of a number that moves a pointer
abbrev pub signed_of : Ty → Signedness
signed_of unsigned = Wrapping
signed_of ty = Signed

-- the right operand: the count of a shift has its own signedness, every other has the left operand's
abbrev pub RightKinded : (shift : Bool) → Signedness → Ty → Type 0
RightKinded true s right = kind_ty right ≡ arithmetic (signed_of right)
RightKinded false s right = kind_ty right ≡ arithmetic s

module _ (locals : List Ty) (global_ty result_ty : ℕ → Ty) where
  -- what the kinds of an operation's operands and of its value must be
  abbrev pub OperationKinded : (result : Ty) → Operation → Type 0
  OperationKinded ty (From.constant s n) = kind_ty ty ≡ arithmetic s
  OperationKinded ty From.null = IsTrue (is_reference ty)
  OperationKinded ty (From.static g) = kind_ty ty ≡ pointer Plain (global_ty g)
  OperationKinded ty (From.copy x) = kind_ty ty ≡ kind_ty (get_or locals x int)
  OperationKinded ty (From.load a) = kind_ty ty ≡ kind_ty a.cell
  OperationKinded ty (From.step direction pointed n) = (kind_ty ty ≡ kind_ty pointed) × (kind_ty n ≡ arithmetic (signed_of n))
  OperationKinded ty (From.step_from n pointed) = (kind_ty ty ≡ kind_ty pointed) × (kind_ty n ≡ arithmetic (signed_of n))
  OperationKinded ty (From.unary operator s) = kind_ty ty ≡ arithmetic s
  OperationKinded ty (From.binary operator s right) = (kind_ty ty ≡ result_kind (is_comparison operator) s) × RightKinded (is_shift operator) s right
  OperationKinded ty (From.convert from to) = kind_ty ty ≡ kind_ty (number to)
  OperationKinded ty (From.not_zero of) = kind_ty ty ≡ int
  OperationKinded ty (From.truth of) = kind_ty ty ≡ int
  OperationKinded ty (From.is_null wanted of) = kind_ty ty ≡ int
  OperationKinded ty (From.same wanted of) = kind_ty ty ≡ int
  OperationKinded ty (From.call f tys) = kind_ty ty ≡ kind_ty (result_ty f)
  OperationKinded ty From.new_region = kind_ty ty ≡ region
  OperationKinded ty From.new_subregion = kind_ty ty ≡ region
  OperationKinded ty (From.region_of of) = kind_ty ty ≡ region
  OperationKinded ty (From.allocate made layout) = kind_ty ty ≡ pointer Plain made
  OperationKinded ty (From.allocate_array made layout) = kind_ty ty ≡ pointer Plain made
  OperationKinded ty From.putchar = kind_ty ty ≡ int
  OperationKinded ty From.getchar = kind_ty ty ≡ int

  abbrev mutual
    pub StepKinded : From.Step → Type 0
    StepKinded (From.set line h ty op) = OperationKinded ty op
    StepKinded (From.fork line h test result a b) = StepsKinded a × StepsKinded b

    pub StepsKinded : From.Steps → Type 0
    StepsKinded From.none = Unit {0}
    StepsKinded (From.more s rest) = StepKinded s × StepsKinded rest

  -- what the kinds of an act's operands must be
  abbrev pub ChangeKinded : Change → (cell operand : Ty) → Type 0
  ChangeKinded (Compute from operator s) cell ty =
      (kind_ty cell ≡ kind_ty (number from)) × OperationKinded (arithmetic s) (From.binary operator s ty)
  ChangeKinded (Stepping direction) cell ty = kind_ty ty ≡ arithmetic (signed_of ty)

  abbrev pub ActKinded : From.Act → Type 0
  ActKinded (From.assign line x ty) = kind_ty (get_or locals x int) ≡ kind_ty ty
  ActKinded (From.update line a change ty) = ChangeKinded change a.cell ty
  ActKinded act = Unit {0}

  abbrev mutual
    pub CodeKinded : From.Code → Type 0
    CodeKinded (From.simple steps act) = StepsKinded steps × ActKinded act
    CodeKinded (From.clear line x ty) = kind_ty (get_or locals x int) ≡ kind_ty ty
    CodeKinded (From.block codes) = CodesKinded codes
    CodeKinded (From.branch steps test a b) = StepsKinded steps × CodeKinded a × CodeKinded b
    CodeKinded (From.loop line steps test third a) = StepsKinded steps × CodeKinded third × CodeKinded a
    CodeKinded (From.repeat line a steps test) = CodeKinded a × StepsKinded steps
    CodeKinded (From.break line) = Unit {0}
    CodeKinded (From.continue line) = Unit {0}

    pub CodesKinded : From.Codes → Type 0
    CodesKinded From.done = Unit {0}
    CodesKinded (From.then c rest) = CodeKinded c × CodesKinded rest
