-- Small texts, and what the rules answer of them.
use Rattle.std.specs.Prelude.{◌≡◌, refl, ℕ, pos, List, [], ◌∷◌, Option, Some, None, true, false, codes}
use Rattle.rc_syntax.specs.declared.tree.Spot.{Spot}
use Rattle.rc_syntax.specs.declared.tree.Name.{Name}
use Rattle.rc_syntax.specs.declared.tree.Note.{Note}
use Rattle.rc_syntax.specs.declared.tree.Note.TheVariants as written
use Rattle.rc_syntax.specs.declared.tree.Base.{Base}
use Rattle.rc_syntax.specs.declared.tree.Base.TheVariants as base
use Rattle.rc_syntax.specs.declared.tree.BinaryOp.TheVariants as bi
use Rattle.rc_syntax.specs.Tree as t
use Rattle.rc_deletes.specs.declared.fault.Refusal.TheVariants as re
use Rattle.rc_deletes.specs.declared.deletes.DeletesFault.TheVariants as de
use Rattle.rc_core.specs.declared.ty.NumberType.TheVariants as number
use Rattle.rc_core.specs.declared.ty.Signedness.TheVariants.{Unsigned as Wrapping}
use Rattle.rc_core.specs.declared.operators.Operator.TheVariants.{Add}
use Rattle.rc_core.specs.Types.{int, unsigned, char}
use Rattle.rc_core.specs.Programs as p
use Rattle.rc_deletes.specs.Items.{Typed}
use Rattle.rc_deletes.specs.Answer.{at_node, at_main, at_place, refusal}
use Rattle.rc_deletes.specs.PlacedFaults.{annotated, not_allowed, not_whole, fault, placed_faults}

abbrev at : ℕ → ℕ → Spot
at place line = record { place = place; line = line }

abbrev name : ℕ → ℕ → List ℕ → Name
name place line text = record { spot = at place line; text = text }

abbrev ty : Base → List Note → t.TypeName
ty b stars = record { base = b; stars = stars }

abbrev loc : Spot → t.TypeName → Name → Option t.Expr → t.Local
loc a n name e = record { spot = a; type_name = n; name = name; initial = e }

abbrev fld : Spot → t.TypeName → Name → Option ℕ → t.Field
fld a n name l = record { spot = a; type_name = n; name = name; length = l }

abbrev par : Spot → t.TypeName → Option Name → t.Param
par a n name = record { spot = a; type_name = n; name = name }

--
abbrev nothing : t.Tree
nothing = record { items = ([]) }

nothing_is : refusal nothing ≡ (Some (at_main 1))
nothing_is = refl

-- int main() {}
abbrev least : t.Tree
least = record { items = ((t.function (at 0 1) false (Some (ty (base.Int (at 0 1)) ([]))) (name 1 1 (109 ∷ 97 ∷ 105 ∷ 110 ∷ [])) ([]) (Some t.done)) ∷ []) }

least_is : refusal least ≡ None
least_is = refl

-- unsigned main(void) {}
abbrev shape_of_main : t.Tree
shape_of_main = record { items = ((t.function (at 0 2) false (Some (ty (base.Unsigned (at 0 2)) ([]))) (name 1 2 (109 ∷ 97 ∷ 105 ∷ 110 ∷ [])) ([]) (Some t.done)) ∷ []) }

shape_of_main_is : refusal shape_of_main ≡ (Some (at_main 2))
shape_of_main_is = refl

-- int f(void) { return 1; } / int / f(void) { return 1; } int main(void) { return 0; }
abbrev defined_twice : t.Tree
defined_twice = record { items = ((t.function (at 0 1) false (Some (ty (base.Int (at 0 1)) ([]))) (name 1 1 (102 ∷ [])) ([]) (Some (t.next (t.return_with (at 6 1) (Some (t.number (at 7 1) 1 false))) t.done))) ∷ (t.function (at 10 2) false (Some (ty (base.Int (at 10 2)) ([]))) (name 11 3 (102 ∷ [])) ([]) (Some (t.next (t.return_with (at 16 3) (Some (t.number (at 17 3) 1 false))) t.done))) ∷ (t.function (at 20 3) false (Some (ty (base.Int (at 20 3)) ([]))) (name 21 3 (109 ∷ 97 ∷ 105 ∷ 110 ∷ [])) ([]) (Some (t.next (t.return_with (at 26 3) (Some (t.number (at 27 3) 0 false))) t.done))) ∷ []) }

defined_twice_is : refusal defined_twice ≡ (Some (at_node re.Twice 3))
defined_twice_is = refl

-- int g(void); int main(void) { return / g(); }
abbrev never_defined : t.Tree
never_defined = record { items = ((t.function (at 0 1) false (Some (ty (base.Int (at 0 1)) ([]))) (name 1 1 (103 ∷ [])) ([]) None) ∷ (t.function (at 6 1) false (Some (ty (base.Int (at 6 1)) ([]))) (name 7 1 (109 ∷ 97 ∷ 105 ∷ 110 ∷ [])) ([]) (Some (t.next (t.return_with (at 12 1) (Some (t.call (name 13 2 (103 ∷ [])) t.none))) t.done))) ∷ []) }

never_defined_is : refusal never_defined ≡ (Some (at_node re.Unknown 2))
never_defined_is = refl

-- int g; int main(void) { g(..); return 0; }
abbrev calling_a_variable : t.Exprs → t.Tree
calling_a_variable arguments = record { items = ((t.global (at 0 1) (ty (base.Int (at 0 1)) ([])) (name 1 1 (103 ∷ [])) None None) ∷ (t.function (at 3 1) false (Some (ty (base.Int (at 3 1)) ([]))) (name 4 1 (109 ∷ 97 ∷ 105 ∷ 110 ∷ [])) ([]) (Some (t.next (t.simple (at 9 1) (t.expression (t.call (name 9 1 (103 ∷ [])) arguments))) (t.next (t.return_with (at 14 2) (Some (t.number (at 15 2) 0 false))) t.done)))) ∷ []) }

-- a variable is called: so the call is refused, and what is refused inside comes before it
calling_a_variable_is : refusal (calling_a_variable t.none) ≡ (Some (at_node re.Mistyped 1))
calling_a_variable_is = refl

-- g( / x)
unknown_inside_is : refusal (calling_a_variable (t.more (t.variable (name 11 2 (120 ∷ []))) t.none)) ≡ (Some (at_node re.Unknown 2))
unknown_inside_is = refl

-- void f(int a) {} int main(void) { f(NULL, 2); return 0; }
abbrev types_before_number : t.Tree
types_before_number = record { items = ((t.function (at 0 1) false None (name 1 1 (102 ∷ [])) ((par (at 3 1) (ty (base.Int (at 3 1)) ([])) (Some (name 4 1 (97 ∷ [])))) ∷ []) (Some t.done)) ∷ (t.function (at 8 1) false (Some (ty (base.Int (at 8 1)) ([]))) (name 9 1 (109 ∷ 97 ∷ 105 ∷ 110 ∷ [])) ([]) (Some (t.next (t.simple (at 14 1) (t.expression (t.call (name 14 1 (102 ∷ [])) (t.more (t.null (at 16 1)) (t.more (t.number (at 18 1) 2 false) t.none))))) (t.next (t.return_with (at 21 1) (Some (t.number (at 22 1) 0 false))) t.done)))) ∷ []) }

types_before_number_is : refusal types_before_number ≡ (Some (at_node re.Mistyped 1))
types_before_number_is = refl

-- void f(int a) {} int main(void) { f(1, 2); return 0; }
abbrev number_of_arguments : t.Tree
number_of_arguments = record { items = ((t.function (at 0 1) false None (name 1 1 (102 ∷ [])) ((par (at 3 1) (ty (base.Int (at 3 1)) ([])) (Some (name 4 1 (97 ∷ [])))) ∷ []) (Some t.done)) ∷ (t.function (at 8 1) false (Some (ty (base.Int (at 8 1)) ([]))) (name 9 1 (109 ∷ 97 ∷ 105 ∷ 110 ∷ [])) ([]) (Some (t.next (t.simple (at 14 1) (t.expression (t.call (name 14 1 (102 ∷ [])) (t.more (t.number (at 16 1) 1 false) (t.more (t.number (at 18 1) 2 false) t.none))))) (t.next (t.return_with (at 21 1) (Some (t.number (at 22 1) 0 false))) t.done)))) ∷ []) }

number_of_arguments_is : refusal number_of_arguments ≡ (Some (at_node re.Arity 1))
number_of_arguments_is = refl

-- int main(void) { return / 3 + / NULL; }
abbrev operand_null : t.Tree
operand_null = record { items = ((t.function (at 0 1) false (Some (ty (base.Int (at 0 1)) ([]))) (name 1 1 (109 ∷ 97 ∷ 105 ∷ 110 ∷ [])) ([]) (Some (t.next (t.return_with (at 6 1) (Some (t.binary (at 7 2) bi.Add (t.number (at 7 2) 3 false) (t.null (at 9 3))))) t.done))) ∷ []) }

operand_null_is : refusal operand_null ≡ (Some (at_node re.Mistyped 2))
operand_null_is = refl

-- int a[1048576], / b; int main(void) { return 0; }
abbrev globals_too_big : t.Tree
globals_too_big = record { items = ((t.global (at 1 1) (ty (base.Int (at 0 1)) ([])) (name 1 1 (97 ∷ [])) (Some 1048576) None) ∷ (t.global (at 6 2) (ty (base.Int (at 0 1)) ([])) (name 6 2 (98 ∷ [])) None None) ∷ (t.function (at 8 2) false (Some (ty (base.Int (at 8 2)) ([]))) (name 9 2 (109 ∷ 97 ∷ 105 ∷ 110 ∷ [])) ([]) (Some (t.next (t.return_with (at 14 2) (Some (t.number (at 15 2) 0 false))) t.done))) ∷ []) }

globals_too_big_is : refusal globals_too_big ≡ (Some (at_node re.TooBig 2))
globals_too_big_is = refl

-- int *sameregion f(void) { / deleteregion(NULL); return NULL; } int main(void) { return 0; }
abbrev inner_fault_alone : t.Tree
inner_fault_alone = record { items = ((t.function (at 0 2) false (Some (ty (base.Int (at 0 2)) (written.SameRegion ∷ []))) (name 3 2 (102 ∷ [])) ([]) (Some (t.next (t.simple (at 8 3) (t.expression (t.call (name 8 3 (100 ∷ 101 ∷ 108 ∷ 101 ∷ 116 ∷ 101 ∷ 114 ∷ 101 ∷ 103 ∷ 105 ∷ 111 ∷ 110 ∷ [])) (t.more (t.null (at 10 3)) t.none)))) (t.next (t.return_with (at 13 3) (Some (t.null (at 14 3)))) t.done)))) ∷ (t.function (at 17 3) false (Some (ty (base.Int (at 17 3)) ([]))) (name 18 3 (109 ∷ 97 ∷ 105 ∷ 110 ∷ [])) ([]) (Some (t.next (t.return_with (at 23 3) (Some (t.number (at 24 3) 0 false))) t.done))) ∷ []) }

inner_fault_alone_is : refusal inner_fault_alone ≡ (Some (at_place (de.NotDeletes 3)))
inner_fault_alone_is = refl

-- int f(region r) deletes { return 1; } int main(void) deletes { return / putchar( / f(NULL)); }
abbrev not_the_whole : t.Tree
not_the_whole = record { items = ((t.function (at 0 1) true (Some (ty (base.Int (at 0 1)) ([]))) (name 1 1 (102 ∷ [])) ((par (at 3 1) (ty (base.Region (at 3 1)) ([])) (Some (name 4 1 (114 ∷ [])))) ∷ []) (Some (t.next (t.return_with (at 8 1) (Some (t.number (at 9 1) 1 false))) t.done))) ∷ (t.function (at 12 1) true (Some (ty (base.Int (at 12 1)) ([]))) (name 13 1 (109 ∷ 97 ∷ 105 ∷ 110 ∷ [])) ([]) (Some (t.next (t.return_with (at 19 1) (Some (t.call (name 20 2 (112 ∷ 117 ∷ 116 ∷ 99 ∷ 104 ∷ 97 ∷ 114 ∷ [])) (t.more (t.call (name 22 3 (102 ∷ [])) (t.more (t.null (at 24 3)) t.none)) t.none)))) t.done))) ∷ []) }

not_the_whole_is : refusal not_the_whole ≡ (Some (at_place (de.DeletesPlace 3)))
not_the_whole_is = refl

-- char c; unsigned u; int main(void) { return c + u; }
abbrev sum : t.Tree
sum = record { items = ((t.global (at 1 1) (ty (base.Char (at 0 1)) ([])) (name 1 1 (99 ∷ [])) None None) ∷ (t.global (at 4 1) (ty (base.Unsigned (at 3 1)) ([])) (name 4 1 (117 ∷ [])) None None) ∷ (t.function (at 6 1) false (Some (ty (base.Int (at 6 1)) ([]))) (name 7 1 (109 ∷ 97 ∷ 105 ∷ 110 ∷ [])) ([]) (Some (t.next (t.return_with (at 12 1) (Some (t.binary (at 13 1) bi.Add (t.variable (name 13 1 (99 ∷ []))) (t.variable (name 15 1 (117 ∷ [])))))) t.done))) ∷ []) }

abbrev sum_program : p.Program
sum_program = record {
  structs = [];
  strings = [];
  main = 0;
  globals = record { ty = char; count = None; initial = pos 0 } ∷ record { ty = unsigned; count = None; initial = pos 0 } ∷ [];
  functions = record {
    parameters = 0;
    locals = [];
    result = Some int;
    deletes = false;
    line = 1;
    body = p.block (p.then (p.return 1 (Some (p.convert 1 number.Unsigned number.Int
        (p.binary 1 Add Wrapping (p.convert 1 number.Char number.Unsigned (p.read 1 (p.global 0 p.here))) (p.read 1 (p.global 1 p.here)))))) p.done);
  } ∷ [];
}

sum_is : Typed sum sum_program
sum_is = refl

-- struct S { struct T / *a[0], b; }; struct T { int x; };
abbrev shared_struct : t.Tree
shared_struct = record { items = ((t.struct (at 0 1) (name 1 1 (83 ∷ [])) ((fld (at 5 2) (ty (base.Struct (at 3 1) (name 4 1 (84 ∷ []))) (written.Plain ∷ [])) (name 6 2 (97 ∷ [])) (Some 0)) ∷ (fld (at 11 2) (ty (base.Struct (at 3 1) (name 4 1 (84 ∷ []))) ([])) (name 11 2 (98 ∷ [])) None) ∷ [])) ∷ (t.struct (at 15 2) (name 16 2 (84 ∷ [])) ((fld (at 19 2) (ty (base.Int (at 18 2)) ([])) (name 19 2 (120 ∷ [])) None) ∷ [])) ∷ []) }

shared_struct_is : refusal shared_struct ≡ (Some (at_node re.Unknown 1))
shared_struct_is = refl

inner_fault_shows : placed_faults inner_fault_alone ≡ (fault (at 8 3) not_allowed ∷ [])
inner_fault_shows = refl

not_the_whole_shows : placed_faults not_the_whole ≡ (fault (at 22 3) not_whole ∷ [])
not_the_whole_shows = refl

-- int f(int *sameregion p) { int *sameregion q; deleteregion(NULL); return 0; }
abbrev three_on_a_line : t.Tree
three_on_a_line = record { items = ((t.function (at 0 1) false (Some (ty (base.Int (at 0 1)) ([]))) (name 1 1 (102 ∷ [])) ((par (at 3 1) (ty (base.Int (at 3 1)) (written.SameRegion ∷ [])) (Some (name 6 1 (112 ∷ [])))) ∷ []) (Some (t.next (t.local (loc (at 10 1) (ty (base.Int (at 9 1)) (written.SameRegion ∷ [])) (name 12 1 (113 ∷ [])) None)) (t.next (t.simple (at 14 1) (t.expression (t.call (name 14 1 (codes "deleteregion")) (t.more (t.null (at 16 1)) t.none)))) (t.next (t.return_with (at 19 1) (Some (t.number (at 20 1) 0 false))) t.done))))) ∷ []) }

three_on_a_line_show : placed_faults three_on_a_line ≡ (fault (at 3 1) annotated ∷ fault (at 10 1) annotated ∷ fault (at 14 1) not_allowed ∷ [])
three_on_a_line_show = refl

-- int g; int f(void) deletes { return 1; } int main(void) deletes { int x = f(); x = f(); g = f(); int g; g = f(); return f() + 1; }
abbrev given_to_locals : t.Tree
given_to_locals = record { items = ((t.global (at 1 1) (ty (base.Int (at 0 1)) ([])) (name 1 1 (103 ∷ [])) None None) ∷ (t.function (at 3 1) true (Some (ty (base.Int (at 3 1)) ([]))) (name 4 1 (102 ∷ [])) ([]) (Some (t.next (t.return_with (at 10 1) (Some (t.number (at 11 1) 1 false))) t.done))) ∷ (t.function (at 14 1) true (Some (ty (base.Int (at 14 1)) ([]))) (name 15 1 (codes "main")) ([]) (Some (t.next (t.local (loc (at 22 1) (ty (base.Int (at 21 1)) ([])) (name 22 1 (120 ∷ [])) (Some (t.call (name 24 1 (102 ∷ [])) t.none)))) (t.next (t.simple (at 28 1) (t.assign (at 28 1) (t.variable (name 28 1 (120 ∷ []))) (t.call (name 30 1 (102 ∷ [])) t.none))) (t.next (t.simple (at 34 1) (t.assign (at 34 1) (t.variable (name 34 1 (103 ∷ []))) (t.call (name 36 1 (102 ∷ [])) t.none))) (t.next (t.local (loc (at 41 1) (ty (base.Int (at 40 1)) ([])) (name 41 1 (103 ∷ [])) None)) (t.next (t.simple (at 43 1) (t.assign (at 43 1) (t.variable (name 43 1 (103 ∷ []))) (t.call (name 45 1 (102 ∷ [])) t.none))) (t.next (t.return_with (at 49 1) (Some (t.binary (at 50 1) bi.Add (t.call (name 50 1 (102 ∷ [])) t.none) (t.number (at 54 1) 1 false)))) t.done)))))))) ∷ []) }

given_to_locals_show : placed_faults given_to_locals ≡ (fault (at 36 1) not_whole ∷ fault (at 50 1) not_whole ∷ [])
given_to_locals_show = refl

given_to_locals_is : refusal given_to_locals ≡ (Some (at_place (de.DeletesPlace 1)))
given_to_locals_is = refl
