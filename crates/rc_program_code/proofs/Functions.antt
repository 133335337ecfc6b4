-- The functions of a program, one after another.
use Rattle.std.proofs.Common.{◌≡◌, ◌<◌, ℕ, suc, ◌+◌, List, [], ◌∷◌, ◌++◌, length, map, take, drop, get_or, sym, ap, ◌∙◌, subst, arith}
use Rattle.std.specs.Prelude.{Some, slice_get, option_map, Bool}
use Rattle.std.specs.List.{AllByRecursion as Every}
use Rattle.std.proofs.Math.Seq.{drop-cons, take-suc}
use Rattle.std.proofs.lemmas.List.{map-append}
use Rattle.std.proofs.lemmas.Option.{slice_get-map, slice_get-get_or}
use Rattle.rc_safety.proofs.Lists.{every_split, every_more}
use Rattle.rc_core.specs.Types.{Ty}
use Rattle.rc_core.specs.Live.{at_end}
use Rattle.rc_rlang.specs.declared.code.RegionParts.{RegionParts}
use Rattle.rc_rlang.specs.declared.code.Routine.{Routine as CodeRoutine}
use Rattle.rc_rlang.specs.IsRlang.{IsRlang}
use Rattle.rc_rlang.specs.LiveLists.{Held, routine_lists, functions_lists}
use Rattle.rc_rlang.specs.LiveMaps.{list_at}
use Rattle.rc_rlang.specs.RegionCode.{Routine}
use Rattle.rc_rlang.specs.RegionFits.{CodeFits}
use Rattle.rc_rlang.specs.RegionPoints.{routine_points}
use Rattle.rc_rlang.specs.RegionRuns.{deletes}
use Rattle.rc_rlang.specs.Shapes.{rlang_of}
use Rattle.rc_emission.specs.StackCode.{Line, StackFunction}
use Rattle.rc_emission.specs.KeptOperands.{kept_code, slots_of, same_kept, place_in, once}
use Rattle.rc_emission.specs.StatementCode.{body_lines, code_lines, stack_function, end_lines}
use Rattle.rc_scope.specs.Names.{number_of}
use Rattle.rc_lines.specs.Keys.{kept_key}
use Rattle.rc_lines.specs.Over.{Listed}
use Rattle.rc_lines.specs.Keyed.{key_of}
use Rattle.rc_program_code.specs.Numbering.{Numbers}
use Rattle.rc_lines.specs.declared.function_code.FunctionCode.{FunctionCode}
use Rattle.rc_lines.specs.ProgramCode.{function_of, bare_function, IsFunctionCode}
use Rattle.rc_program_code.specs.Listing.{routine_of}
use Rattle.rc_program_code.proofs.SameSlots.{Same, code_same, end_same}

abbrev function_at : List Ty → List Line → StackFunction
function_at locals code = record { locals = locals; code = code }

pub function_is : (l1 l2 : List Ty) (c1 c2 : List Line) → l1 ≡ l2 → c1 ≡ c2 → function_at l1 c1 ≡ function_at l2 c2
function_is l1 l2 c1 c2 e f = ap (λ l. function_at l c1) e ∙ ap (λ c. function_at l2 c) f

-- the same code with the locals that keys choose
pub body_same : (deleting : ℕ → Bool) (f : Routine) (first : ℕ) (keys : List (List ℕ)) → CodeFits f.body → first ≡ length f.locals → Numbers keys (kept_code f.body) →
    body_lines (λ h ty. first + number_of keys (kept_key h ty)) deleting f ≡ body_lines (slots_of f).slot deleting f
body_same deleting f first keys fits e numbers =
    let s1 : ℕ → Ty → ℕ = λ h ty. first + number_of keys (kept_key h ty) in
    let s2 = (slots_of f).slot in
    let same : Every (Same s1 s2 deleting f.locals) (kept_code f.body) =
    every_more (λ k. number_of keys (key_of k) ≡ place_in same_kept (once same_kept (kept_code f.body)) k) (Same s1 s2 deleting f.locals) (λ k n. omega (arith, e, n)) (kept_code f.body) numbers in
    ap (λ ls. ls ++ end_lines s1 deleting f.locals f.result f.line) (code_same s1 s2 deleting f.locals f.body at_end (record { at = 0; out = 0; on = 0 }) fits same)
    ∙ ap (λ ls. code_lines s2 deleting f.locals f.body at_end (record { at = 0; out = 0; on = 0 }) ++ ls) (end_same s1 s2 deleting f.locals f.result f.line)

module _ (parts : RegionParts) (lists : List Held) where
  abbrev all : List CodeRoutine
  all = parts.functions.items

  abbrev deleting : ℕ → Bool
  deleting f = deletes (rlang_of parts) f

  -- those before one have their code, and the map has the lists of the others, the first of which has this entry
  pub record Making (codes : List FunctionCode) (entry i : ℕ) : Type 0 where
    pub made : map function_of codes ≡ map bare_function (map (stack_function slots_of (deletes (rlang_of parts))) (map (routine_of parts) (take i all)))
    pub listed : Listed lists (functions_lists (deletes (rlang_of parts)) (map (routine_of parts) (drop i all)) entry)

  next_is : (i : ℕ) (f : CodeRoutine) → i < length all → f ≡ get_or all i f → drop i all ≡ f ∷ drop (suc i) all
  next_is i f h e = drop-cons all i f h ∙ ap (λ x. x ∷ drop (suc i) all) (sym e)

  both_listed : (i entry : ℕ) (f : CodeRoutine) → i < length all → f ≡ get_or all i f → Listed lists (functions_lists (deletes (rlang_of parts)) (map (routine_of parts) (drop i all)) entry) →
      Listed lists (routine_lists (deletes (rlang_of parts)) (routine_of parts f) entry) × Listed lists (functions_lists (deletes (rlang_of parts)) (map (routine_of parts) (drop (suc i) all)) (entry + routine_points (routine_of parts f)))
  both_listed i entry f h e l =
      every_split (λ (x : Held). list_at lists x.point ≡ Some x.locals) (routine_lists (deletes (rlang_of parts)) (routine_of parts f) entry) (functions_lists (deletes (rlang_of parts)) (map (routine_of parts) (drop (suc i) all)) (entry + routine_points (routine_of parts f)))
      (subst (λ xs. Listed lists (functions_lists (deletes (rlang_of parts)) (map (routine_of parts) xs) entry)) (next_is i f h e) l)

  pub one_listed : (made : List FunctionCode) (i entry : ℕ) (f : CodeRoutine) → i < length all → f ≡ get_or all i f → Making made entry i → Listed lists (routine_lists (deletes (rlang_of parts)) (routine_of parts f) entry)
  one_listed made i entry f h e m = (both_listed i entry f h e m.listed).0

  pub one_more : (made : List FunctionCode) (i entry entry1 : ℕ) (f : CodeRoutine) (c : FunctionCode) → i < length all → f ≡ get_or all i f → entry1 ≡ entry + routine_points (routine_of parts f) →
      IsFunctionCode (rlang_of parts) (routine_of parts f) c → Making made entry i → Making (made ++ c ∷ []) entry1 (suc i)
  one_more made i entry entry1 f c h e p is m =
      let stack = stack_function slots_of (deletes (rlang_of parts)) in
      let done : take (suc i) all ≡ take i all ++ f ∷ [] = take-suc all i f h ∙ ap (λ x. take i all ++ x ∷ []) (sym e) in
      record {
        made =
            map-append function_of made (c ∷ []) ∙ ap (λ xs. xs ++ function_of c ∷ []) m.made ∙ ap (λ x. map bare_function (map stack (map (routine_of parts) (take i all))) ++ x ∷ []) is
            ∙ sym (ap (λ xs. map bare_function (map stack (map (routine_of parts) xs))) done
            ∙ ap (λ xs. map bare_function (map stack xs)) (map-append (routine_of parts) (take i all) (f ∷ []))
            ∙ ap (map bare_function) (map-append stack (map (routine_of parts) (take i all)) (routine_of parts f ∷ []))
            ∙ map-append bare_function (map stack (map (routine_of parts) (take i all))) (stack (routine_of parts f) ∷ []));
        listed = subst (λ n. Listed lists (functions_lists (deletes (rlang_of parts)) (map (routine_of parts) (drop (suc i) all)) n)) (sym p) (both_listed i entry f h e m.listed).1;
      }

  pub one_fits : (i : ℕ) (f : CodeRoutine) → IsRlang (rlang_of parts) → i < length all → f ≡ get_or all i f → CodeFits (routine_of parts f).body
  one_fits i f is h e =
      let there : slice_get (map (routine_of parts) all) i ≡ Some (routine_of parts f) = slice_get-map (routine_of parts) all i ∙ ap (λ o. option_map (routine_of parts) o) (slice_get-get_or all i f h ∙ ap Some (sym e)) in
      (is.functions i (routine_of parts f) there).in_order
