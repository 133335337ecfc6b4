-- The rules of what stands outside of functions, and the program of a whole text.
use Rattle.std.specs.Prelude.{◌≡◌, ◌⊎◌, ℕ, suc, max, flat_map, ◌+◌, ℤ, pos, neg_ℤ, List, [], ◌∷◌, ◌++◌, Option, Some, None, Bool, true, false, not, ◌&&◌, ◌||◌, nat_eq, nat_lt, length, map, option_map, is_some, is_none, codes, if◌then◌else◌}
use Rattle.std.specs.Str.{bytes_eq}
use Rattle.rc_base.specs.Limits.{most_global_cells, most_struct_cells}
use Rattle.rc_syntax.specs.declared.tree.Spot.{Spot}
use Rattle.rc_syntax.specs.declared.tree.Name.{Name}
use Rattle.rc_syntax.specs.declared.tree.Base.{Base}
use Rattle.rc_syntax.specs.declared.tree.Base.TheVariants as base
use Rattle.rc_syntax.specs.declared.tree.Constant.{Constant}
use Rattle.rc_syntax.specs.declared.tree.Constant.TheVariants as constant
use Rattle.rc_syntax.specs.Tree as t
use Rattle.rc_core.specs.Arithmetic.{converted}
use Rattle.rc_core.specs.Types.{Ty, struct}
use Rattle.rc_core.specs.Programs as p
use Rattle.rc_core.specs.Layout.{size}
use Rattle.rc_core.specs.WellTyped.{global_size}
use Rattle.rc_core.specs.Typing.{is_struct}
use Rattle.rc_deletes.specs.declared.fault.Fault.{Fault}
use Rattle.rc_deletes.specs.declared.fault.Refusal.{Refusal}
use Rattle.rc_deletes.specs.declared.fault.Refusal.TheVariants.{Unknown, Twice, Mistyped, TooBig}
use Rattle.rc_deletes.specs.declared.sort.Sort.{Sort}
use Rattle.rc_deletes.specs.declared.sort.Sort.TheVariants.{Number, Region, Pointer}
use Rattle.rc_deletes.specs.declared.builtin.Builtin.{Builtin}
use Rattle.rc_deletes.specs.Builtins.{Parameter, of_type, any_pointer, row, every_builtin}
use Rattle.rc_deletes.specs.Judged.{Judged, Holds, with_part, with_parts, in_front, both, faults, fails, failing, ruled}
use Rattle.rc_deletes.specs.Kinds.{place_of, number_or, same_type, written_type, sort_of_type}
use Rattle.rc_deletes.specs.Scopes.{Context, Shape, struct_names, structs_in, Scope, Meaning, a_local, a_global, a_function, a_builtin, Signature, meaning_in}
use Rattle.rc_deletes.specs.Expressions.{base_rule}
use Rattle.rc_deletes.specs.Statements.{Here, with_local, new_name, behind_stmts, stmts}

abbrev pub is_among : List (List ℕ) → List ℕ → Bool
is_among names name = is_some (place_of names name)

-- a struct that is defined, with its fields as they are written
abbrev pub Definition : Type 0
Definition = List ℕ × List t.Field

abbrev pub names_of : List Definition → List (List ℕ)
names_of = map (λ d. d.0)

-- the definitions after one more: the first of a name counts
abbrev pub with_definition : List Definition → Definition → List Definition
with_definition ds d = if is_among (names_of ds) d.0 then ds else ds ++ d ∷ []

abbrev pub with_struct : List Definition → t.Item → List Definition
with_struct ds (t.struct at name fields) = with_definition ds (name.text, fields)
with_struct ds (t.global at n name count c) = ds
with_struct ds (t.function at deletes result name params body) = ds

abbrev pub with_structs : List Definition → List t.Item → List Definition
with_structs ds [] = ds
with_structs ds (i ∷ is) = with_structs (with_struct ds i) is

abbrev pub struct_definitions : List t.Item → List Definition
struct_definitions items = with_structs [] items

abbrev pub with_new : List (List ℕ) → List ℕ → List (List ℕ)
with_new names name = if is_among names name then names else names ++ name ∷ []

-- names after others, each once
abbrev pub with_all : List (List ℕ) → List (List ℕ) → List (List ℕ)
with_all names [] = names
with_all names (m ∷ ms) = with_all (with_new names m) ms

-- the names of the functions that are defined, with that of one more item
abbrev pub with_function_name : List (List ℕ) → t.Item → List (List ℕ)
with_function_name names (t.struct at name fields) = names
with_function_name names (t.global at n name count c) = names
with_function_name names (t.function at deletes result name params None) = names
with_function_name names (t.function at deletes result name params (Some body)) = with_new names name.text

abbrev pub with_functions : List (List ℕ) → List t.Item → List (List ℕ)
with_functions names [] = names
with_functions names (i ∷ is) = with_functions (with_function_name names i) is

abbrev pub function_names : List t.Item → List (List ℕ)
function_names items = with_functions [] items

abbrev pub field_of : (types : List (List ℕ)) → t.Field → List ℕ × p.Field
field_of types f = (f.name.text, record { ty = written_type types f.type_name; count = f.length })

abbrev pub shape_of : (types : List (List ℕ)) → Definition → Shape
shape_of types d = map (field_of types) d.1

-- the struct that a type names
abbrev pub named_by : Base → List (List ℕ)
named_by (base.Struct at name) = name.text ∷ []
named_by b = []

abbrev pub named_in : t.TypeName → List (List ℕ)
named_in n = named_by n.base

abbrev pub named_in_option : Option t.TypeName → List (List ℕ)
named_in_option None = []
named_in_option (Some n) = named_in n

-- the structs that fields, results and parameters name
abbrev pub mentioned : List t.Item → List (List ℕ)
mentioned [] = []
mentioned (t.struct at name fields ∷ is) = flat_map (λ f. named_in f.type_name) fields ++ mentioned is
mentioned (t.global at n name count c ∷ is) = mentioned is
mentioned (t.function at deletes result name params body ∷ is) = named_in_option result ++ (flat_map (λ q. named_in q.type_name) params ++ mentioned is)

-- the names by which the types of a text are told apart
abbrev pub types_in : List t.Item → List (List ℕ)
types_in items = with_all (names_of (struct_definitions items)) (mentioned items)

-- what the whole text defines
abbrev pub context_of : List t.Item → Context
context_of items = record {
  shapes = map (shape_of (types_in items)) (struct_definitions items);
  types = types_in items;
  functions = function_names items;
}

abbrev pub builtins : Scope
builtins = map (λ b. ((row b).name, a_builtin b)) every_builtin

-- where an item stands: the names so far, how many structs, globals and functions were defined, how many cells the globals
-- have, and the strings
pub record Outside : Type 0 where
  pub names : Scope
  pub structs : ℕ
  pub globals : ℕ
  pub cells : ℕ
  pub functions : ℕ
  pub strings : List (List ℕ)

abbrev pub at_the_start : Outside
at_the_start = record { names = builtins; structs = 0; globals = 0; cells = 0; functions = 0; strings = [] }

-- a name keeps its first meaning
abbrev pub with_name : Scope → List ℕ → Meaning → Scope
with_name names name meaning = if is_some (meaning_in names name) then names else (name, meaning) ∷ names

-- the number of definitions, after that of the one with this number
abbrev pub behind_definition : ℕ → Option ℕ → ℕ
behind_definition n None = n
behind_definition n (Some k) = max n (suc k)

-- the one with this number was defined before
abbrev pub is_defined_before : ℕ → Option ℕ → Bool
is_defined_before n None = false
is_defined_before n (Some k) = nat_lt k n

abbrev pub global_of : Context → t.TypeName → Option ℕ → (initial : ℤ) → p.Global
global_of context n count initial = record { ty = written_type context.types n; count = count; initial = initial }

abbrev pub cells_of_global : Context → t.TypeName → Option ℕ → ℕ
cells_of_global context n count = global_size (structs_in context) (global_of context n count (pos 0))

abbrev pub type_option : Context → Option t.TypeName → Option Ty
type_option context n = option_map (written_type context.types) n

abbrev pub signature_of : Context → Bool → Option t.TypeName → List t.Param → Signature
signature_of context deletes result params = record {
  takes = map (λ q. written_type context.types q.type_name) params;
  gives = type_option context result;
  deletes = deletes;
}

abbrev pub with_function : Context → Outside → Bool → Option t.TypeName → Name → List t.Param → Outside
with_function context o deletes result name params =
    record o { names = with_name o.names name.text (a_function (place_of context.functions name.text) (signature_of context deletes result params)) }

-- a parameter is a local, which may have no name
abbrev pub with_param : Context → Here → t.Param → Here
with_param context here q = elim q.name [
  | None ↦ record here { locals = here.locals ++ written_type context.types q.type_name ∷ [] }
  | Some name ↦ with_local here (written_type context.types q.type_name) name.text
]

abbrev pub with_params : Context → Here → List t.Param → Here
with_params context here [] = here
with_params context here (q ∷ qs) = with_params context (with_param context here q) qs

-- where a function's parameters begin
abbrev pub before_params : Outside → Here
before_params o = record { names = o.names; locals = []; first = 0; strings = o.strings }

-- where its body ends
abbrev pub behind_body : Context → Outside → List t.Param → t.Stmts → Here
behind_body context o params body = behind_stmts context (with_params context (before_params o) params) body

-- where the item after this one stands, whatever is wrong in it
abbrev pub behind_item : Context → Outside → t.Item → Outside
behind_item context o (t.struct at name fields) = record o { structs = behind_definition o.structs (place_of (struct_names context) name.text) }
behind_item context o (t.global at n name count c) = record o {
  names = with_name o.names name.text (a_global o.globals (written_type context.types n) count);
  globals = suc o.globals;
  cells = o.cells + cells_of_global context n count;
}
behind_item context o (t.function at deletes result name params None) = with_function context o deletes result name params
behind_item context o (t.function at deletes result name params (Some body)) =
    let own = with_function context o deletes result name params in
    record own { functions = behind_definition o.functions (place_of context.functions name.text); strings = (behind_body context own params body).strings }

-- a struct that stands by value in a field or a global was defined before it
abbrev pub value_base : Context → (structs : ℕ) → Base → Judged (Unit {0})
value_base context structs (base.Struct at name) = if is_defined_before structs (place_of (struct_names context) name.text) then Holds tt else fails name.spot Unknown
value_base context structs b = Holds tt

abbrev pub cell_type : Context → (structs : ℕ) → t.TypeName → Judged (Unit {0})
cell_type context structs n = elim n.stars [ [] ↦ value_base context structs n.base | note ∷ notes ↦ base_rule context n.base ]

abbrev pub is_plain : t.TypeName → Bool
is_plain n = elim n.stars [ [] ↦ true | note ∷ notes ↦ false ]

-- two declarators share the name of a struct that is written before them
abbrev pub same_struct : Base → Base → Bool
same_struct (base.Struct at name) (base.Struct other again) = nat_eq name.spot.place again.spot.place && bytes_eq name.text again.text
same_struct a b = false

-- the name of a struct that several declarators share is read once, before the first of them, and as that of a struct by
-- value where one of them has no star
abbrev pub field_by_value : Base → List t.Field → Bool
field_by_value n [] = false
field_by_value n (f ∷ fs) = same_struct n f.type_name.base && (is_plain f.type_name || field_by_value n fs)

abbrev pub global_by_value : Base → List t.Item → Bool
global_by_value n (t.global at m name count c ∷ is) = same_struct n m.base && (is_plain m || global_by_value n is)
global_by_value n is = false

abbrev pub shared_rule : Context → (structs : ℕ) → Base → (by_value : Bool) → Judged (Unit {0})
shared_rule context structs n false = Holds tt
shared_rule context structs n true = value_base context structs n

-- what is read before the first of these fields
abbrev pub before_fields : Context → (structs : ℕ) → List t.Field → Judged (Unit {0})
before_fields context structs [] = Holds tt
before_fields context structs (f ∷ fs) = shared_rule context structs f.type_name.base (field_by_value f.type_name.base fs)

-- what is read before the first of these items
abbrev pub before_globals : Context → (structs : ℕ) → List t.Item → Judged (Unit {0})
before_globals context structs (t.global at n name count c ∷ is) = shared_rule context structs n.base (global_by_value n.base is)
before_globals context structs is = Holds tt

abbrev pub is_empty : Option ℕ → Bool
is_empty None = false
is_empty (Some count) = nat_eq count 0

abbrev pub once : Name → Bool → Judged (Unit {0})
once name twice = if twice then fails name.spot Twice else Holds tt

abbrev pub field_rule : Context → (structs : ℕ) → (earlier : List (List ℕ)) → t.Field → Judged (Unit {0})
field_rule context structs earlier f = with_parts (cell_type context structs f.type_name) (once f.name (is_among earlier f.name.text))
    (λ u v. ruled f.spot (failing (is_empty f.length) TooBig) tt)

abbrev pub fields_rule : Context → (structs : ℕ) → (earlier : List (List ℕ)) → List t.Field → Judged (Unit {0})
fields_rule context structs earlier [] = Holds tt
fields_rule context structs earlier (f ∷ fs) =
    in_front (before_fields context structs (f ∷ fs))
    (with_parts (field_rule context structs earlier f) (fields_rule context structs (earlier ++ f.name.text ∷ []) fs) (λ u v. Holds tt))

abbrev pub cells_of_struct : Context → Option ℕ → ℕ
cells_of_struct context None = 0
cells_of_struct context (Some k) = size (structs_in context) (struct k)

-- the value that a constant writes
abbrev pub written_value : Constant → Option ℤ
written_value (constant.Number at n u) = Some (pos n)
written_value (constant.Negative at n u) = Some (neg_ℤ (pos n))
written_value (constant.Character at c) = Some (pos c)
written_value (constant.Null at) = None
written_value (constant.Eof at) = Some (neg_ℤ (pos 1))

-- a number begins with any number, converted to its type, a region or pointer with `NULL`
abbrev pub initial_by : Sort → Option ℤ → Option ℤ
initial_by (Number k) (Some z) = Some (converted k z)
initial_by Region None = Some (pos 0)
initial_by Pointer None = Some (pos 0)
initial_by s z = None

-- an array or a struct is given no first value
abbrev pub initial_of : Ty → (count : Option ℕ) → Option Constant → Option ℤ
initial_of ty count None = Some (pos 0)
initial_of ty None (Some c) = initial_by (sort_of_type ty) (written_value c)
initial_of ty (Some count) (Some c) = None

abbrev pub value_or_zero : Option ℤ → ℤ
value_or_zero None = pos 0
value_or_zero (Some z) = z

-- what an item adds to the program
pub record Made : Type 0 where
  pub globals : List p.Global
  pub functions : List p.Function

abbrev pub nothing_made : Made
nothing_made = record { globals = []; functions = [] }

abbrev pub made_both : Made → Made → Made
made_both a b = record { globals = a.globals ++ b.globals; functions = a.functions ++ b.functions }

abbrev pub global_made : Context → Spot → t.TypeName → Option ℕ → (cells : ℕ) → Option ℤ → Judged Made
global_made context at n count cells initial =
    ruled at (failing (is_none initial) Mistyped ++ failing (is_empty count || nat_lt most_global_cells cells) TooBig)
    (record { globals = global_of context n count (value_or_zero initial) ∷ []; functions = [] })

abbrev pub same_result : Option Ty → Option Ty → Bool
same_result None None = true
same_result (Some t) (Some u) = same_type t u
same_result t u = false

abbrev pub same_takes : List Ty → List Ty → Bool
same_takes [] [] = true
same_takes (t ∷ ts) (u ∷ us) = same_type t u && same_takes ts us
same_takes ts us = false

abbrev pub same_bool : Bool → Bool → Bool
same_bool true b = b
same_bool false b = not b

abbrev pub agrees : Signature → Signature → Bool
agrees a b = same_takes a.takes b.takes && (same_result a.gives b.gives && same_bool a.deletes b.deletes)

-- a declaration can't say that a parameter takes pointers of every type
abbrev pub is_taken : Parameter → Ty → Bool
is_taken (of_type t) u = same_type t u
is_taken any_pointer u = false

abbrev pub are_taken : List Parameter → List Ty → Bool
are_taken [] [] = true
are_taken (q ∷ qs) (u ∷ us) = is_taken q u && are_taken qs us
are_taken qs us = false

-- a declaration and a built-in function
abbrev pub agrees_with : Builtin → Signature → Bool
agrees_with b s = are_taken (row b).takes s.takes && (same_result (row b).gives s.gives && same_bool (row b).deletes s.deletes)

abbrev pub declared_again : Name → (twice agrees : Bool) → Judged (Unit {0})
declared_again name true agrees = fails name.spot Twice
declared_again name false true = Holds tt
declared_again name false false = fails name.spot Mistyped

-- a function's name: new, or declared before and not defined twice; all declarations agree with the first
abbrev pub function_name : Name → (has_body : Bool) → (functions : ℕ) → Option Meaning → Signature → Judged (Unit {0})
function_name name has_body functions None s = Holds tt
function_name name has_body functions (Some (a_local x t)) s = Holds tt
function_name name has_body functions (Some (a_global g t count)) s = fails name.spot Twice
function_name name has_body functions (Some (a_builtin b)) s = declared_again name has_body (agrees_with b s)
function_name name has_body functions (Some (a_function number first)) s = declared_again name (has_body && is_defined_before functions number) (agrees first s)

-- a parameter has a name in a definition, no name twice, and no struct type
abbrev pub param_name : Here → Option Name → Judged (Unit {0})
param_name here None = Holds tt
param_name here (Some name) = new_name here.first here.names name

abbrev pub param_rule : Context → (has_body : Bool) → Here → t.Param → Judged (Unit {0})
param_rule context has_body here q = with_parts (base_rule context q.type_name.base) (param_name here q.name)
    (λ u v. ruled q.spot (failing (is_struct (written_type context.types q.type_name) || (has_body && is_none q.name)) Mistyped) tt)

abbrev pub params_rule : Context → (has_body : Bool) → Here → List t.Param → Judged (Unit {0})
params_rule context has_body here [] = Holds tt
params_rule context has_body here (q ∷ qs) = with_parts (param_rule context has_body here q) (params_rule context has_body (with_param context here q) qs) (λ u v. Holds tt)

abbrev pub result_rule : Context → Option t.TypeName → Judged (Unit {0})
result_rule context None = Holds tt
result_rule context (Some n) = base_rule context n.base

abbrev pub is_struct_option : Option Ty → Bool
is_struct_option None = false
is_struct_option (Some t) = is_struct t

-- the parts before a function's body
abbrev pub head_rule : Context → Outside → (has_body deletes : Bool) → Option t.TypeName → Name → List t.Param → Judged (Unit {0})
head_rule context o has_body deletes result name params =
    with_parts (result_rule context result)
    (both (function_name name has_body o.functions (meaning_in o.names name.text) (signature_of context deletes result params))
    (params_rule context has_body (before_params (with_function context o deletes result name params)) params))
    (λ u v. Holds tt)

abbrev pub function_made : Context → Spot → Bool → Option Ty → List t.Param → Here → p.Stmts → Judged Made
function_made context at deletes result params end body = ruled at (failing (is_struct_option result) Mistyped) (record {
  globals = [];
  functions = record { parameters = length params; locals = end.locals; result = result; deletes = deletes; line = at.line; body = p.block body } ∷ [];
})

abbrev pub item : Context → Outside → t.Item → Judged Made
item context o (t.struct at name fields) =
    with_parts (once name (is_defined_before o.structs (place_of (struct_names context) name.text))) (fields_rule context o.structs [] fields)
    (λ u v. ruled at (failing (nat_lt most_struct_cells (cells_of_struct context (place_of (struct_names context) name.text))) TooBig) nothing_made)
item context o (t.global at n name count c) =
    with_parts (cell_type context o.structs n) (once name (is_some (meaning_in o.names name.text)))
    (λ u v. global_made context at n count (o.cells + cells_of_global context n count) (initial_of (written_type context.types n) count c))
item context o (t.function at deletes result name params None) =
    with_part (head_rule context o false deletes result name params)
    (λ u. ruled at (failing (is_struct_option (type_option context result)) Mistyped) nothing_made)
item context o (t.function at deletes result name params (Some body)) =
    let own = with_function context o deletes result name params in
    with_parts (head_rule context o true deletes result name params)
    (stmts context (type_option context result) false (with_params context (before_params own) params) body)
    (λ u b. function_made context at deletes (type_option context result) params (behind_body context own params body) b)

abbrev pub items : Context → Outside → List t.Item → Judged Made
items context o [] = Holds nothing_made
items context o (i ∷ is) = in_front (before_globals context o.structs (i ∷ is)) (with_parts (item context o i) (items context (behind_item context o i) is) (λ a b. Holds (made_both a b)))

abbrev pub behind_items : Context → Outside → List t.Item → Outside
behind_items context o [] = o
behind_items context o (i ∷ is) = behind_items context (behind_item context o i) is

abbrev pub main_name : List ℕ
main_name = codes "main"

abbrev pub program_of : List t.Item → Made → p.Program
program_of is made = record {
  structs = structs_in (context_of is);
  globals = made.globals;
  strings = (behind_items (context_of is) at_the_start is).strings;
  functions = made.functions;
  main = number_or (place_of (function_names is) main_name) 0;
}

-- the program of a tree, or the violations in it
abbrev pub judged : t.Tree → Judged p.Program
judged tree = with_part (items (context_of tree.items) at_the_start tree.items) (λ made. Holds (program_of tree.items made))

-- the program that a tree has by the rules
abbrev pub Typed : t.Tree → p.Program → Type 0
Typed tree program = judged tree ≡ Holds program

abbrev pub IsAmong : Fault → List Fault → Type 0
IsAmong f [] = ⊥
IsAmong f (g ∷ gs) = (g ≡ f) ⊎ IsAmong f gs

-- the rule of a refusal fails at a node, and inside that node none does
abbrev pub Violation : t.Tree → Spot → Refusal → Type 0
Violation tree at refusal = IsAmong (record { at = at; refusal = refusal }) (faults (judged tree))
