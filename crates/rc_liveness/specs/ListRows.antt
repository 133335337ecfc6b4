-- Small codes, and what is listed at their deleting points. Local 0 is a region, 1 a pointer and 2 a number.
use Rattle.std.specs.Prelude.{◌≡◌, ℕ, true, List, [], ◌∷◌, Some, None}
use Rattle.rc_core.specs.declared.ty.Note.TheVariants.{Plain}
use Rattle.rc_core.specs.Types.{Ty, int, region, pointer}
use Rattle.rc_rlang.specs.RegionCode.{copy, call, set, Steps, none, more, drop, assign, delete, Test, Code, simple, block, branch, loop, repeat, done, then, Routine}
use Rattle.rc_rlang.specs.LiveLists.{Held, routine_lists}

abbrev pub types : List Ty
types = region ∷ pointer Plain int ∷ int ∷ []

abbrev pub function : Code → Routine
function body = record { parameters = 0; locals = types; result = None; deletes = true; line = 1; body = body }

-- every function deletes
abbrev pub listed : Code → List Held
listed body = routine_lists (λ g. true) (function body) 0

abbrev pub held : ℕ → List ℕ → Held
held point locals = record { point = point; locals = locals }

abbrev pub read : ℕ → Ty → Steps
read x ty = more (set 1 0 ty (copy x)) none

abbrev pub use_pointer : Code
use_pointer = simple (read 1 (pointer Plain int)) drop

abbrev pub use_region : Code
use_region = simple (read 0 region) drop

abbrev pub delete_region : Code
delete_region = simple (read 0 region) (delete 1)

abbrev pub test : Test
test = record { line = 1; ty = int; wanted = true }

abbrev pub nothing : Code
nothing = block done

abbrev pub both : Code → Code → Code
both a b = block (then a (then b done))

pub record ListRows : Type 0 where
  -- what is deleted isn't held for that, and nothing is live at the end
  pub argument : listed delete_region ≡ held 2 [] ∷ []
  -- one way behind it reads the pointer
  pub behind : listed (both delete_region (branch (read 2 int) test use_pointer nothing)) ≡ held 2 (1 ∷ []) ∷ []
  -- what the other way reads isn't live on this one
  pub other_way : listed (branch (read 2 int) test delete_region use_pointer) ≡ held 4 [] ∷ []
  -- the local that a call's value goes to is set before it is read
  pub assigned : listed (both (simple (more (set 1 0 (pointer Plain int) (call 0 [])) none) (assign 1 1 (pointer Plain int))) (both use_pointer use_region)) ≡ held 1 (0 ∷ []) ∷ []
  -- the next round reads both
  pub next_round : listed (loop 1 (read 2 int) (Some test) nothing (both use_pointer delete_region)) ≡ held 6 (0 ∷ 1 ∷ []) ∷ []
  -- and so behind the condition of a `do`
  pub do_round : listed (repeat 1 (both use_pointer delete_region) (read 2 int) test) ≡ held 4 (0 ∷ 1 ∷ []) ∷ []
