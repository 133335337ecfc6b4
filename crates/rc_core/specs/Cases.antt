-- Examples by rule: for each rule a small program, its C text above it, and what it means.
use Rattle.std.specs.Prelude.{◌≡◌, ℕ, ℤ, pos, negsuc, true, List, [], ◌∷◌, Some, None}
use Rattle.rc_base.specs.Acts.{Write, Getchar}
use Rattle.rc_base.specs.declared.ends.End.TheVariants.{Exit, Trapped, Spent}
use Rattle.rc_base.specs.declared.ends.Trap.TheVariants.{SameRegion as UnfitSameRegion, ParentPtr as UnfitParentPtr, Traditional as UnfitTraditional, Reference, Null as NullTrap, Bounds, Size, Zero, Overflow, Shift, Full, Root}
use Rattle.rc_core.specs.declared.ty.Note.TheVariants.{Plain, SameRegion, ParentPtr, Traditional}
use Rattle.rc_core.specs.declared.ty.Signedness.TheVariants.{Signed, Unsigned as Wrapping}
use Rattle.rc_core.specs.declared.ty.NumberType.TheVariants.{Int, Unsigned, Char}
use Rattle.rc_core.specs.declared.operators.Direction.TheVariants.{Forward, Backward}
use Rattle.rc_core.specs.declared.stmt.Change.TheVariants.{Compute}
use Rattle.rc_core.specs.declared.operators.Operator.TheVariants.{Add, Subtract, Divide, Remainder, Less, ShiftLeft, ShiftRight}
use Rattle.rc_core.specs.Types.{Ty, int, char, region, struct, pointer}
use Rattle.rc_core.specs.Programs.{Expr, constant, null, string, local, read, step, binary, convert, and, choose, same, call, region_of, new_region, new_subregion, allocate, allocate_array, putchar, getchar, none, more, Place, pointed, indexed, here, field, element, block, declare, assign, store, update, copy, evaluate, delete, branch, while, repeat, for, break, continue, return, Stmts, done, then, Struct, Program}
use Rattle.rc_core.specs.Runs.{Ends}
use Rattle.rc_core.specs.Meaning.{meaning}
use Rattle.rc_core.specs.Examples.{limits, Runs, number, one, to_node, function_with, program_with, give, new, allocate_in}

-- struct t { int v; struct t *sameregion s; struct t *parentptr u; char *traditional t; char c[3]; };
abbrev t : Struct
t = one int ∷ one (pointer SameRegion (struct 0)) ∷ one (pointer ParentPtr (struct 0)) ∷ one (pointer Traditional char) ∷ record { ty = char; count = Some 3 } ∷ []

-- `main` has these locals and does this; the text has one string literal, "ab"
abbrev main_with : List Ty → Stmts → Program
main_with locals body = record (program_with (t ∷ []) [] (function_with 0 locals body ∷ [])) { strings = (97 ∷ 98 ∷ []) ∷ [] }

-- return e;
abbrev gives : Expr → Program
gives e = main_with [] (then (return 1 (Some e)) done)

-- x->f
abbrev field_of : (line x f : ℕ) → Place
field_of line x f = pointed (local line x) (field 0 f here)

-- x->c[i]
abbrev text_at : (line x : ℕ) → ℤ → Place
text_at line x i = pointed (local line x) (element 0 4 (number i) here)

-- as an `int`
abbrev character : Place → Expr
character place = convert 2 Char Int (read 2 place)

abbrev least : Expr
least = number (negsuc 2147483647)

abbrev unsigned_number : ℤ → Expr
unsigned_number n = constant 1 Wrapping n

-- region r = newregion(); struct t *p = ralloc(r, struct t); int i = 0;
-- for (;;) { if (i) break; deleteregion(r); r = NULL; i = 1; }
-- return p->v;
abbrev left_by_break : Program
left_by_break = main_with (region ∷ to_node ∷ int ∷ []) (then (new 1 0) (then (allocate_in 1 1 0) (then
    (for 2 (block done) None (block done) (block (then (branch 3 (local 3 2) (break 3) (block done)) (then (delete 4 (local 4 0)) (then (assign 4 0 (null 4)) (then (assign 4 2 (number (pos 1))) done))))))
    (then (return 5 (Some (read 5 (field_of 5 1 0)))) done))))

-- int i = 0; while (1) { i = 7; break; } return i;
abbrev broken : Program
broken = main_with (int ∷ []) (then (while 1 (number (pos 1)) (block (then (assign 1 0 (number (pos 7))) (then (break 1) done)))) (then (return 2 (Some (local 2 0))) done))

-- for (;; putchar(115)) { putchar(98); continue; }
abbrev third_then_turn : Program
third_then_turn = main_with [] (then (for 1 (block done) None (evaluate 1 (putchar 1 (number (pos 115)))) (block (then (evaluate 1 (putchar 1 (number (pos 98)))) (then (continue 1) done)))) done)

-- int i = 0; do { i = i + 1; continue; } while (i < 3); return i;
abbrev continued_do : Program
continued_do = main_with (int ∷ []) (then (repeat 1 (block (then (assign 1 0 (binary 1 Add Signed (local 1 0) (number (pos 1)))) (then (continue 1) done))) (binary 1 Less Signed (local 1 0) (number (pos 3)))) (then (return 2 (Some (local 2 0))) done))

-- region r = newregion(); struct t *p = ralloc(r, struct t); p->c[1] -= 1; return p->c[1];
abbrev char_wraps : Program
char_wraps = main_with (region ∷ to_node ∷ []) (then (new 1 0) (then (allocate_in 1 1 0) (then (update 1 (text_at 1 1 (pos 1)) (Compute Char Subtract Signed) (number (pos 1)))
    (then (return 2 (Some (character (text_at 2 1 (pos 1))))) done))))

-- region r = newregion(); struct t *p = ralloc(r, struct t); return p->c[i];
abbrev text_index : ℤ → Program
text_index i = main_with (region ∷ to_node ∷ []) (then (new 1 0) (then (allocate_in 1 1 0) (then (return 2 (Some (character (text_at 2 1 i)))) done)))

-- return "ab"[i];
abbrev literal_index : ℤ → Program
literal_index i = gives (convert 2 Char Int (read 2 (indexed (string 2 0) (number i) here)))

-- region r = newregion(); int *a = rarrayalloc(r, 3, int); a[1] = 5; a[i] += 2; return a[1];
abbrev array_index : ℤ → Program
array_index i = main_with (region ∷ pointer Plain int ∷ []) (then (new 1 0) (then (declare 1 1 (Some (allocate_array 1 (local 1 0) (number (pos 3)) int)))
    (then (store 2 (indexed (local 2 1) (number (pos 1)) here) (number (pos 5))) (then (update 3 (indexed (local 3 1) (number i) here) (Compute Int Add Signed) (number (pos 2)))
    (then (return 4 (Some (read 4 (indexed (local 4 1) (number (pos 1)) here)))) done)))))

-- region r = newregion(), s = newregion(); struct t *p = ralloc(r, struct t), *q = ralloc(r or s, struct t);
-- q->s = q; q->v = 7; *p = *q; return p->v;
abbrev copied : (region : ℕ) → Program
copied s = main_with (region ∷ region ∷ to_node ∷ to_node ∷ []) (then (new 1 0) (then (new 1 1) (then (allocate_in 1 2 0) (then (allocate_in 1 3 s)
    (then (store 2 (field_of 2 3 1) (local 2 3)) (then (store 2 (field_of 2 3 0) (number (pos 7))) (then (copy 3 0 (pointed (local 3 2) here) (pointed (local 3 3) here))
    (then (return 4 (Some (read 4 (field_of 4 2 0)))) done))))))))

-- region r = newregion(); struct t *p = ralloc(r, struct t); p->s = p; p->v = 7; *p = *p->s; return p->v;
abbrev copied_onto_itself : Program
copied_onto_itself = main_with (region ∷ to_node ∷ []) (then (new 1 0) (then (allocate_in 1 1 0)
    (then (store 2 (field_of 2 1 1) (local 2 1)) (then (store 2 (field_of 2 1 0) (number (pos 7))) (then (copy 3 0 (pointed (local 3 1) here) (pointed (read 3 (field_of 3 1 1)) here))
    (then (return 4 (Some (read 4 (field_of 4 1 0)))) done))))))

-- region r = newregion(); struct t *p = ralloc(r, struct t), *q = NULL; *left = right[1];
abbrev copied_null : (left right : ℕ) → Program
copied_null l r = main_with (region ∷ to_node ∷ to_node ∷ []) (then (new 1 0) (then (allocate_in 1 1 0) (then (copy 3 0 (pointed (local 3 l) here) (indexed (local 4 r) (number (pos 1)) here)) (give 6))))

-- region r = newregion(), s = newsubregion(r); struct t *p = ralloc(r, struct t), *q = ralloc(s, struct t); from->u = to;
abbrev up : (from to : ℕ) → Program
up from to = main_with (region ∷ region ∷ to_node ∷ to_node ∷ []) (then (new 1 0) (then (declare 1 1 (Some (new_subregion 1 (local 1 0)))) (then (allocate_in 1 2 0) (then (allocate_in 1 3 1)
    (then (store 2 (field_of 2 from 2) (local 2 to)) (give 3))))))

-- region r = newregion(); struct t *p = ralloc(r, struct t); p->t = e;
abbrev set_text : Expr → Program
set_text e = main_with (region ∷ to_node ∷ []) (then (new 1 0) (then (allocate_in 1 1 0) (then (store 2 (field_of 2 1 3) e) (give 3))))

-- region r = newregion(); int *p = rarrayalloc(r, n, int); return e;
abbrev arrays : ℤ → Expr → Program
arrays n result = main_with (region ∷ pointer Plain int ∷ []) (then (new 1 0) (then (declare 1 1 (Some (allocate_array 1 (local 1 0) (number n) int))) (then (return 2 (Some result)) done)))

-- *(p + n)
abbrev stepped_by : ℤ → Expr
stepped_by n = read 2 (pointed (step 3 Forward (local 3 1) (number n)) here)

-- p + n - n == p, where the step back has its own line
abbrev there_and_back : ℤ → Expr
there_and_back n = same 2 true (step 4 Backward (step 3 Forward (local 3 1) (number n)) (number n)) (local 2 1)

-- getchar(); return getchar();
abbrev reads : Program
reads = main_with [] (then (evaluate 1 (getchar 1)) (then (return 1 (Some (getchar 1))) done))

-- while (1) newregion();
abbrev many_regions : Program
many_regions = main_with [] (then (while 1 (number (pos 1)) (evaluate 2 (new_region 2))) done)

-- region r = newregion(); while (1) ralloc(r, int);
abbrev many_objects : Program
many_objects = main_with (region ∷ []) (then (new 1 0) (then (while 1 (number (pos 1)) (evaluate 2 (allocate 2 (local 2 0) int))) done))

-- struct t *f(struct t *x) deletes { deleteregion(regionof(x)); return NULL; }
-- region r = newregion(); struct t *p = ralloc(r, struct t), *q = NULL; p or q = f(p); if (p) {} return 0;
abbrev given_back : (x : ℕ) → Program
given_back x = program_with (t ∷ []) [] (function_with 0 (region ∷ to_node ∷ to_node ∷ []) (then (new 1 0) (then (allocate_in 1 1 0) (then (assign 2 x (call 2 1 (more (local 2 1) none))) (then (branch 3 (local 3 1) (block done) (block done)) (give 4)))))
    ∷ record (function_with 1 (to_node ∷ []) (then (delete 6 (region_of 6 (local 6 0))) done)) { result = Some to_node } ∷ [])

-- int f() { putchar(33); return 5; }   return e;
abbrev with_call : Expr → Program
with_call e = program_with [] [] (function_with 0 [] (then (return 1 (Some e)) done) ∷ function_with 0 [] (then (evaluate 2 (putchar 2 (number (pos 33)))) (then (return 2 (Some (number (pos 5)))) done)) ∷ [])

-- f()
abbrev the_call : Expr
the_call = call 1 1 none

pub record Cases : Type 0 where
  -- a `for` without a condition is left by `break` alone, and what is behind it counts at a deletion in it
  pub live_behind_break : Runs left_by_break 9 [] (Trapped Reference 4)
  pub break_leaves : Runs broken 1 [] (Exit (pos 7))
  -- `continue` leads to the third part of a `for`, behind which the round takes its turn; to the condition of a `do`
  pub third_goes_first : Runs third_then_turn 3 (Write 98 ∷ Write 115 ∷ Write 98 ∷ Write 115 ∷ Write 98 ∷ Write 115 ∷ []) Spent
  pub continue_in_do : Runs continued_do 3 [] (Exit (pos 3))
  pub rounds_of_do : Runs continued_do 2 [] Spent
  -- an array field, a literal and an array: an index is from 0, and less than the length
  pub char_of_minus_one : Runs char_wraps 1 [] (Exit (pos 255))
  pub last_of_field : Runs (text_index (pos 2)) 1 [] (Exit (pos 0))
  pub behind_field : Runs (text_index (pos 3)) 1 [] (Trapped Bounds 2)
  pub before_field : Runs (text_index (negsuc 0)) 1 [] (Trapped Bounds 2)
  pub byte_of_literal : Runs (literal_index (pos 1)) 1 [] (Exit (pos 98))
  pub zero_behind_literal : Runs (literal_index (pos 2)) 1 [] (Exit (pos 0))
  pub behind_literal : Runs (literal_index (pos 3)) 1 [] (Trapped Bounds 2)
  pub element_updated : Runs (array_index (pos 1)) 1 [] (Exit (pos 7))
  pub other_updated : Runs (array_index (pos 0)) 1 [] (Exit (pos 5))
  pub behind_array : Runs (array_index (pos 3)) 1 [] (Trapped Bounds 3)
  -- a copy checks its annotations in the target's region; both places are looked at, the right one first
  pub struct_copied : Runs (copied 0) 1 [] (Exit (pos 7))
  pub copy_does_not_fit : Runs (copied 1) 1 [] (Trapped UnfitSameRegion 3)
  pub same_place_copied : Runs copied_onto_itself 1 [] (Exit (pos 7))
  pub right_side_first : Runs (copied_null 2 1) 1 [] (Trapped Bounds 3)
  pub then_the_left : Runs (copied_null 1 2) 1 [] (Trapped NullTrap 3)
  -- `parentptr` leads up, `traditional` to what no region has
  pub up_to_parent : Runs (up 3 2) 1 [] (Exit (pos 0))
  pub down_to_child : Runs (up 2 3) 1 [] (Trapped UnfitParentPtr 2)
  pub text_of_literal : Runs (set_text (string 2 0)) 1 [] (Exit (pos 0))
  pub text_of_region : Runs (set_text (allocate 2 (local 2 0) char)) 1 [] (Trapped UnfitTraditional 2)
  -- arrays may be empty; a pointer may step to the end, and is tested where it is used
  pub empty_array : Runs (arrays (pos 0) (number (pos 5))) 1 [] (Exit (pos 5))
  pub negative_size : Runs (arrays (negsuc 0) (number (pos 5))) 1 [] (Trapped Size 1)
  pub last_element : Runs (arrays (pos 3) (stepped_by (pos 2))) 1 [] (Exit (pos 0))
  pub end_is_no_element : Runs (arrays (pos 3) (stepped_by (pos 3))) 1 [] (Trapped Bounds 2)
  pub no_step_past_the_end : Runs (arrays (pos 3) (stepped_by (pos 4))) 1 [] (Trapped Bounds 3)
  pub back_from_the_end : Runs (arrays (pos 3) (there_and_back (pos 3))) 1 [] (Exit (pos 1))
  -- null and the root
  pub null_region : Runs (gives (same 1 true (new_subregion 1 (null 1)) (null 1))) 1 [] (Trapped NullTrap 1)
  pub root_stays : Runs (main_with [] (then (delete 1 (region_of 1 (string 1 0))) (give 2))) 1 [] (Trapped Root 1)
  -- at its end the input gives -1, and that is an act as well
  pub end_of_input : meaning reads (97 ∷ []) (limits 1) ≡ record { acts = Getchar ∷ Getchar ∷ []; taken = 1; end = Ends (Exit (negsuc 0)) }
  -- limits of regions and objects are 10 here
  pub regions_are_full : Runs many_regions 100 [] (Trapped Full 2)
  pub turns_go_first : Runs many_regions 10 [] Spent
  pub region_is_full : Runs many_objects 100 [] (Trapped Full 2)
  -- a waiting caller's local counts where it is used behind the call, but for the one that the call's result sets
  pub set_local_is_none : Runs (given_back 1) 2 [] (Exit (pos 0))
  pub waiting_local_counts : Runs (given_back 2) 2 [] (Trapped Reference 6)
  -- return 0 && f();   return 1 && f();   return 1 ? 8 : f();
  pub right_side_left_out : Runs (with_call (and 1 (number (pos 0)) the_call)) 1 [] (Exit (pos 0))
  pub right_side_called : Runs (with_call (and 1 (number (pos 1)) the_call)) 2 (Write 33 ∷ []) (Exit (pos 1))
  pub one_arm : Runs (with_call (choose 1 (number (pos 1)) (number (pos 8)) the_call)) 1 [] (Exit (pos 8))
  -- return -2147483648 % -1;   return -7 / 2;   return -7 % 2;   return 1 / 0;   return -1 - 2147483647 - 1;
  pub remainder_overflows : Runs (gives (binary 1 Remainder Signed least (number (negsuc 0)))) 1 [] (Trapped Overflow 1)
  pub division_cuts : Runs (gives (binary 1 Divide Signed (number (negsuc 6)) (number (pos 2)))) 1 [] (Exit (negsuc 2))
  pub remainder_follows : Runs (gives (binary 1 Remainder Signed (number (negsuc 6)) (number (pos 2)))) 1 [] (Exit (negsuc 0))
  pub division_by_zero : Runs (gives (binary 1 Divide Signed (number (pos 1)) (number (pos 0)))) 1 [] (Trapped Zero 1)
  pub difference_overflows : Runs (gives (binary 1 Subtract Signed least (number (pos 1)))) 1 [] (Trapped Overflow 1)
  -- return -1 << 31;   return 1 << 32;   return -5 >> 1;
  pub bits_shifted : Runs (gives (binary 1 ShiftLeft Signed (number (negsuc 0)) (number (pos 31)))) 1 [] (Exit (negsuc 2147483647))
  pub shift_too_far : Runs (gives (binary 1 ShiftLeft Signed (number (pos 1)) (number (pos 32)))) 1 [] (Trapped Shift 1)
  pub sign_shifted : Runs (gives (binary 1 ShiftRight Signed (number (negsuc 4)) (number (pos 1)))) 1 [] (Exit (negsuc 2))
  -- return (char) 300;   return (int) 3000000000u;   return (int) ((unsigned) -1 / 2u);   return (int) (4294967295u + 1u);
  pub to_char : Runs (gives (convert 1 Char Int (convert 1 Int Char (number (pos 300))))) 1 [] (Exit (pos 44))
  pub to_int : Runs (gives (convert 1 Unsigned Int (unsigned_number (pos 3000000000)))) 1 [] (Exit (negsuc 1294967295))
  pub to_unsigned : Runs (gives (convert 1 Unsigned Int (binary 1 Divide Wrapping (convert 1 Int Unsigned (number (negsuc 0))) (unsigned_number (pos 2))))) 1 [] (Exit (pos 2147483647))
  pub unsigned_wraps : Runs (gives (convert 1 Unsigned Int (binary 1 Add Wrapping (unsigned_number (pos 4294967295)) (unsigned_number (pos 1))))) 1 [] (Exit (pos 0))
