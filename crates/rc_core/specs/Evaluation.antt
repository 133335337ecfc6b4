-- Evaluation: operands, arguments and the parts of a place are evaluated from left to right, in any world. Null and bounds
-- tests of a place are the operation's, behind the evaluation of the whole place.
use Rattle.std.specs.Prelude.{ℕ, ℤ, pos, neg_ℤ, ◌+◌, Bool, true, false, not, ◌&&◌, nat_eq, List, [], ◌∷◌, ◌++◌, length, get_or}
use Rattle.rc_base.specs.declared.ends.Trap.TheVariants.{Null as NullTrap}
use Rattle.rc_core.specs.declared.operators.Direction.{Direction}
use Rattle.rc_core.specs.declared.operators.Direction.TheVariants.{Forward, Backward}
use Rattle.rc_core.specs.Numbers.{byte_of}
use Rattle.rc_core.specs.Arithmetic.{converted, calculate, calculate_one, truth, equals}
use Rattle.rc_core.specs.Programs.{Expr, constant, null, string, local, read, address, step, step_from, unary, binary, convert, not_zero, and, or, choose, is_null, same, call, new_region, new_subregion, region_of, allocate, allocate_array, putchar, getchar, Arguments, none, more, Place, global, pointed, indexed, Path, here, field, element, Program}
use Rattle.rc_core.specs.Layout.{cells, offset, count_of, stride}
use Rattle.rc_core.specs.Heap.{Value, Number, Null, Handle, Pointer}
use Rattle.rc_core.specs.Runs.{Run, Go, bind, trap, branching, computed, Chosen, Target, Calls, Ops}

abbrev pub number_in : Value → ℤ
number_in (Number n) = n
number_in Null = pos 0
number_in (Handle r) = pos 0
number_in (Pointer a) = pos 0

-- not zero, and not null
abbrev pub is_true : Value → Bool
is_true (Number n) = not (equals n (pos 0))
is_true Null = false
is_true (Handle r) = true
is_true (Pointer a) = true

abbrev pub same_value : Value → Value → Bool
same_value (Number n) (Number m) = equals n m
same_value Null Null = true
same_value (Handle r) (Handle q) = nat_eq r q
same_value (Pointer a) (Pointer b) = nat_eq a.region b.region && (nat_eq a.object b.object && nat_eq a.index b.index)
same_value v u = false

-- whether it is as is wanted, as a number
abbrev pub as_wanted : (wanted is : Bool) → Value
as_wanted true is = Number (truth is)
as_wanted false is = Number (truth (not is))

abbrev pub toward : Direction → ℤ → ℤ
toward Forward n = n
toward Backward n = neg_ℤ n

-- the first element of an object of region 0
abbrev pub static : ℕ → Value
static object = Pointer (record { region = 0; object = object; index = 0 })

abbrev pub aimed : (pointer : Value) → (shift : ℤ) → Target
aimed pointer shift = record { pointer = pointer; shift = shift; offset = 0; chosen = [] }

abbrev pub further : ℕ → Target → Target
further cells t = record t { offset = t.offset + cells }

abbrev pub choosing : Chosen → Target → Target
choosing c t = record t { chosen = t.chosen ++ c ∷ [] }

-- the region of a pointer
abbrev pub region_named : {W : Type 0} → (line : ℕ) → Value → W → Run W Value
region_named line (Number n) w = trap NullTrap line w
region_named line Null w = trap NullTrap line w
region_named line (Handle r) w = Go (Handle r) w
region_named line (Pointer a) w = Go (Handle a.region) w

abbrev pub local_at : List Value → ℕ → Value
local_at locals x = get_or locals x Null

abbrev pub give_number : {W : Type 0} → ℤ → W → Run W Value
give_number n w = Go (Number n) w

module _ {W : Type 0} (ops : Ops W) (program : Program) where
  abbrev mutual
    pub eval : Expr → Calls W → List Value → W → Run W Value
    eval (constant line s n) calls env w = Go (Number n) w
    eval (null line) calls env w = Go Null w
    eval (string line k) calls env w = Go (static (length program.globals + k)) w
    eval (local line x) calls env w = Go (local_at env x) w
    eval (read line place) calls env w = bind (target place calls env w) (ops.load line)
    eval (address line g) calls env w = Go (static g) w
    -- p + i, p - i, &p[i]: p, i, and then the tests of the step
    eval (step line direction p i) calls env w =
        bind (eval p calls env w) (λ v w1. bind (eval i calls env w1) (λ n w2. ops.step line v (toward direction (number_in n)) w2))
    -- i + p: i, p, and then the step
    eval (step_from line i p) calls env w =
        bind (eval i calls env w) (λ n w1. bind (eval p calls env w1) (λ v w2. ops.step line v (number_in n) w2))
    eval (unary line operator s e) calls env w =
        bind (eval e calls env w) (λ v w1. bind (computed line (calculate_one operator s (number_in v)) w1) give_number)
    -- a + b and the like: a, b, and then the operation, which may trap
    eval (binary line operator s a b) calls env w =
        bind (eval a calls env w) (λ v w1. bind (eval b calls env w1) (λ u w2. bind (computed line (calculate operator s (number_in v) (number_in u)) w2) give_number))
    eval (convert line from to e) calls env w = bind (eval e calls env w) (λ v w1. Go (Number (converted to (number_in v))) w1)
    eval (not_zero line e) calls env w = bind (eval e calls env w) (λ v w1. Go (as_wanted false (is_true v)) w1)
    -- a && b, a || b: b only where a leaves it open; test ? a : b: one of both
    eval (and line a b) calls env w =
        bind (eval a calls env w) (λ v. branching (is_true v) (λ w1. bind (eval b calls env w1) (λ u w2. Go (as_wanted true (is_true u)) w2)) (Go (Number (pos 0))))
    eval (or line a b) calls env w =
        bind (eval a calls env w) (λ v. branching (is_true v) (Go (Number (pos 1))) (λ w1. bind (eval b calls env w1) (λ u w2. Go (as_wanted true (is_true u)) w2)))
    eval (choose line test a b) calls env w =
        bind (eval test calls env w) (λ v. branching (is_true v) (eval a calls env) (eval b calls env))
    eval (is_null line wanted e) calls env w = bind (eval e calls env w) (λ v w1. Go (as_wanted wanted (not (is_true v))) w1)
    -- a == b, a != b, of pointers and regions
    eval (same line wanted a b) calls env w =
        bind (eval a calls env w) (λ v w1. bind (eval b calls env w1) (λ u w2. Go (as_wanted wanted (same_value v u)) w2))
    -- f(a, b): the arguments, and then the call, which takes its turn
    eval (call line f arguments) calls env w = bind (eval_all arguments calls env w) (calls f)
    eval (new_region line) calls env w = ops.new_region line w
    eval (new_subregion line r) calls env w = bind (eval r calls env w) (ops.new_subregion line)
    eval (region_of line p) calls env w = bind (eval p calls env w) (region_named line)
    eval (allocate line r ty) calls env w = bind (eval r calls env w) (λ v w1. ops.allocate line v (pos 1) (cells program.structs ty) w1)
    -- rarrayalloc(r, n, ty): the region, the number, and then the tests of the allocation
    eval (allocate_array line r n ty) calls env w =
        bind (eval r calls env w) (λ v w1. bind (eval n calls env w1) (λ m w2. ops.allocate line v (number_in m) (cells program.structs ty) w2))
    -- putchar(e): the byte that is written is also the result
    eval (putchar line e) calls env w =
        bind (eval e calls env w) (λ v w1. bind (ops.put_byte (byte_of (number_in v)) w1) (λ _ w2. Go (Number (pos (byte_of (number_in v)))) w2))
    eval (getchar line) calls env w = bind (ops.get_byte w) give_number

    pub eval_all : Arguments → Calls W → List Value → W → Run W (List Value)
    eval_all none calls env w = Go [] w
    eval_all (more e rest) calls env w = bind (eval e calls env w) (λ v w1. bind (eval_all rest calls env w1) (λ vs w2. Go (v ∷ vs) w2))

    -- of p->f, a[i].g and the like: the pointer, the index, and the indices of array fields, from left to right; nothing is tested
    pub target : Place → Calls W → List Value → W → Run W Target
    target (global g path) calls env w = along path (aimed (static g) (pos 0)) calls env w
    target (pointed p path) calls env w = bind (eval p calls env w) (λ v w1. along path (aimed v (pos 0)) calls env w1)
    target (indexed p i path) calls env w =
        bind (eval p calls env w) (λ v w1. bind (eval i calls env w1) (λ n w2. along path (aimed v (number_in n)) calls env w2))

    pub along : Path → Target → Calls W → List Value → W → Run W Target
    along here t calls env w = Go t w
    along (field s f rest) t calls env w = along rest (further (offset program.structs s f) t) calls env w
    along (element s f i rest) t calls env w =
        bind (eval i calls env w) (λ n w1. along rest (choosing (record { index = number_in n; count = count_of program.structs s f; stride = stride program.structs s f }) (further (offset program.structs s f) t)) calls env w1)
