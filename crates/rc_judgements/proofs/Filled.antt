-- Each struct that words derive has a field; and the trees of texts keep their limits.
use Rattle.std.specs.Prelude.{◌≡◌, ℕ, ◌≤◌, List, [], ◌∷◌, ◌++◌, length, map, slice_get, Some}
use Rattle.std.proofs.Common.{sym, ◌∙◌, subst, arith, length-append}
use Rattle.std.proofs.lemmas.List.{length-map}
use Rattle.rc_syntax.specs.declared.tree.Spot.{Spot}
use Rattle.rc_syntax.specs.declared.tree.Base.{Base}
use Rattle.rc_syntax.specs.Tree as t
use Rattle.rc_syntax.specs.Grammar as g
use Rattle.rc_syntax.specs.Grammar.{Symbol, TreeOf, Placed, Part, word, node, Rule, BeginAt, Derives, GlobalDeclarator, global}
use Rattle.rc_deletes.specs.Limits.{HasFields, IsLimited, AreShort}
use Rattle.rc_judgements.proofs.Derived.{KnownAll, k_done, k_word, k_node, derived}
use Rattle.rc_judgements.proofs.Strings.{strings_of_text, strings_are, few_strings, short_strings}

abbrev pub Filled : (s : Symbol) → TreeOf s → List Placed → Type 0
Filled g.Text is ws = HasFields is
Filled g.Item is ws = HasFields is
Filled g.Fields fs ws = 1 ≤ length fs
Filled g.Field fs ws = 1 ≤ length fs
Filled g.FieldDecs ds ws = 1 ≤ length ds
Filled s a ws = Unit {0}

filled_joined : (xs ys : List t.Item) → HasFields xs → HasFields ys → HasFields (xs ++ ys)
filled_joined [] ys h k = k
filled_joined (t.struct at name fields ∷ xs) ys h k = (h.0, filled_joined xs ys h.1 k)
filled_joined (t.global at n name count c ∷ xs) ys h k = filled_joined xs ys h k
filled_joined (t.function at deletes result name params body ∷ xs) ys h k = filled_joined xs ys h k

globals_filled : (base : Base) (ds : List GlobalDeclarator) → HasFields (map (global base) ds)
globals_filled base [] = tt
globals_filled base (d ∷ ds) = globals_filled base ds

text_filled : {at : Spot} {a : TreeOf g.Text} {ps : List Part} {ws : List Placed} → Rule at g.Text a ps → KnownAll Filled ws ps → HasFields a
text_filled g.no_items k_done = tt
text_filled (g.items {before = before} {is = is}) (k_node xs h (k_node ys k k_done)) = filled_joined before is h k

item_filled : {at : Spot} {a : TreeOf g.Item} {ps : List Part} {ws : List Placed} → Rule at g.Item a ps → KnownAll Filled ws ps → HasFields a
item_filled g.a_struct (k_word (k_node xs h (k_word (k_node ys k rest)))) = (k, tt)
item_filled (g.globals {base = base} {ds = ds}) all = globals_filled base ds
item_filled g.a_function all = tt
item_filled g.a_deleting all = tt

fields_filled : {at : Spot} {a : TreeOf g.Fields} {ps : List Part} {ws : List Placed} → Rule at g.Fields a ps → KnownAll Filled ws ps → 1 ≤ length a
fields_filled g.first_field (k_node xs h k_done) = h
fields_filled (g.more_fields {before = before} {fs = fs}) (k_node xs h (k_node ys k k_done)) = omega (arith, h, length-append before fs)

field_filled : {at : Spot} {a : TreeOf g.Field} {ps : List Part} {ws : List Placed} → Rule at g.Field a ps → KnownAll Filled ws ps → 1 ≤ length a
field_filled (g.fields {base = base} {ds = ds}) (k_node xs h (k_node ys k rest)) = subst (λ n. 1 ≤ n) (sym (length-map ds (g.field base))) k

decs_filled : {at : Spot} {a : TreeOf g.FieldDecs} {ps : List Part} {ws : List Placed} → Rule at g.FieldDecs a ps → KnownAll Filled ws ps → 1 ≤ length a
decs_filled (g.one_field {d = d}) all = omega arith
decs_filled (g.another_field {before = before} {d = d}) (k_node xs h rest) = omega (arith, h, length-append before (d ∷ []))

filled_step : (s : Symbol) {at : Spot} {a : TreeOf s} {ps : List Part} {ws : List Placed} → BeginAt at ws → Rule at s a ps → KnownAll Filled ws ps → Filled s a ws
filled_step g.Text e rule all = text_filled rule all
filled_step g.Item e rule all = item_filled rule all
filled_step g.Fields e rule all = fields_filled rule all
filled_step g.Field e rule all = field_filled rule all
filled_step g.FieldDecs e rule all = decs_filled rule all
filled_step s e rule all = tt

-- a text of so many words with short enough string literals keeps the limits
pub keeps_limits : (is : List t.Item) (ws : List Placed) → Derives ws (node g.Text is) → length ws ≤ 16777216 → AreShort ws → IsLimited (record { items = is })
keeps_limits is ws d few short =
    let same = strings_are (record { items = is }) ∙ strings_of_text is ws d in
    record {
      fields = derived Filled (λ s at a ps ws e rule all. filled_step s e rule all) d;
      number_of_strings = subst (λ l. length l ≤ 16777216) (sym same) (omega (arith, few_strings ws, few));
      strings = subst (λ l. (k : ℕ) (bytes : List ℕ) → slice_get l k ≡ Some bytes → length bytes ≤ 1048576) (sym same) (short_strings ws short);
    }
