-- The program of a text, from what its parts are.
use Rattle.std.proofs.Common.{◌≡◌, ◌≤◌, ℕ, refl, ap, sym, ◌∙◌, subst, List, [], ◌∷◌, ◌++◌, length, drop, map, None}
use Rattle.std.proofs.lemmas.List.{append-nil}
use Rattle.rc_core.specs.Programs.{Program, Struct, Field}
use Rattle.rc_core.specs.declared.parts.Parts.{Parts}
use Rattle.rc_core.specs.Shapes.{field_of, struct_of, program_of}
use Rattle.rc_syntax.specs.Tree as t
use Rattle.rc_deletes.specs.Answer.{IsProgramOf, refusal, first_of, first_place, main_or, main_fault}
use Rattle.rc_deletes.specs.Items as rule
use Rattle.rc_deletes.specs.Items.{Made, judged, at_the_start, behind_items, main_name, function_names}
use Rattle.rc_deletes.specs.Judged.{Judged, Holds, with_part}
use Rattle.rc_deletes.specs.Kinds.{place_of, number_or}
use Rattle.rc_deletes.specs.Places.{deletes_faults}
use Rattle.rc_deletes.specs.Scopes.{Context, structs_in}
use Rattle.rc_typed_values.specs.declared.stop.Stop.{Stop}
use Rattle.rc_typed_values.specs.Stops.{StopsAt}
use Rattle.rc_defined.specs.declared.fields.NamedField.{NamedField}
use Rattle.rc_defined.specs.Fields.{named_of}
use Rattle.rc_items.specs.Outside.{all_made}
use Rattle.rc_defined.proofs.Stops.{part_stops}
use Rattle.rc_defined.proofs.Walks.{none_left}

-- a list that is made from another, part by part, is whole
module _ {A B C : Type 0} (f : A → C) (g : B → C) (all : List A) (i : ℕ) (made : List B) where
  pub made_end : length all ≤ i → map g made ++ map f (drop i all) ≡ map g made
  made_end l = ap (λ xs. map g made ++ map f xs) (none_left all i l) ∙ append-nil (map g made)

abbrev pub own_field : NamedField → Field
own_field f = field_of f.field

pub own_fields : (fs : List NamedField) → map (λ f. f.1) (map named_of fs) ≡ map own_field fs
own_fields [] = refl
own_fields (f ∷ fs) = ap (λ xs. field_of f.field ∷ xs) (own_fields fs)

-- of a text that the rules give a program
module _ (tree : t.Tree) (program : Program) (typed : judged tree ≡ Holds program) where
  later : None ≡ main_fault tree.items → refusal tree ≡ first_place (deletes_faults tree program)
  later h = ap (first_of tree) typed ∙ ap (λ m. main_or m (first_place (deletes_faults tree program))) (sym h)

  pub its_program : None ≡ main_fault tree.items → deletes_faults tree program ≡ [] → IsProgramOf tree program
  its_program h e = (typed, later h ∙ ap first_place e)

-- the parts together

module _ (tree : t.Tree) (context : Context) (c : context ≡ rule.context_of tree.items) where
  pub whole : (parts : Parts) → rule.items context at_the_start tree.items ≡ Holds (all_made parts.globals.items parts.functions.items) → map struct_of parts.structs.items ≡ structs_in context →
      map (λ bytes. bytes.items) parts.strings.items ≡ (behind_items context at_the_start tree.items).strings → parts.main ≡ number_or (place_of context.functions main_name) 0 → judged tree ≡ Holds (program_of parts)
  whole parts held structs strings main =
      let is = tree.items in
      let made : Made = all_made parts.globals.items parts.functions.items in
      let items : rule.items (rule.context_of is) at_the_start is ≡ Holds made = ap (λ (k : Context). rule.items k at_the_start is) (sym c) ∙ held in
      let ss : structs_in (rule.context_of is) ≡ map struct_of parts.structs.items = ap (λ (k : Context). structs_in k) (sym c) ∙ sym structs in
      let bs : (behind_items (rule.context_of is) at_the_start is).strings ≡ map (λ bytes. bytes.items) parts.strings.items = ap (λ (k : Context). (behind_items k at_the_start is).strings) (sym c) ∙ sym strings in
      let m : number_or (place_of (function_names is) main_name) 0 ≡ parts.main = ap (λ (k : Context). number_or (place_of k.functions main_name) 0) (sym c) ∙ sym main in
      ap (λ (x : Judged Made). with_part x (λ made. Holds (rule.program_of is made))) items
      ∙ ap (λ (xs : List Struct). Holds (record { structs = xs; globals = made.globals; strings = (behind_items (rule.context_of is) at_the_start is).strings; functions = made.functions; main = number_or (place_of (function_names is) main_name) 0 })) ss
      ∙ ap (λ (xs : List (List ℕ)). Holds (record { structs = map struct_of parts.structs.items; globals = made.globals; strings = xs; functions = made.functions; main = number_or (place_of (function_names is) main_name) 0 })) bs
      ∙ ap (λ n. Holds (record { structs = map struct_of parts.structs.items; globals = made.globals; strings = map (λ bytes. bytes.items) parts.strings.items; functions = made.functions; main = n })) m

  pub items_stop : (s : Stop) → StopsAt (rule.items context at_the_start tree.items) s → StopsAt (judged tree) s
  items_stop s h = part_stops (rule.items (rule.context_of tree.items) at_the_start tree.items) (λ made. Holds (rule.program_of tree.items made)) s (subst (λ (k : Context). StopsAt (rule.items k at_the_start tree.items) s) c h)
