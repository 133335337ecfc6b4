-- Whether files go together, from what is found of them in order.
use Rattle.std.proofs.Common.{◌≡◌, List, [], ◌∷◌, Bool, true, false, Option, Some, None, inl, inr, refl, sym, ap, ◌∙◌, if◌then◌else◌}
use Rattle.std.specs.Prelude.{◌⊎◌, nat_lt, option_map}
use Rattle.std.specs.List.{AllByRecursion as Every}
use Rattle.rc_base.specs.Limits.{most_global_cells}
use Rattle.rc_syntax.specs.Tree as t
use Rattle.rc_deletes.specs.Items.{function_names}
use Rattle.rc_deletes.specs.Answer.{Refused, refusal, at_node, at_main, at_place}
use Rattle.rc_deletes.specs.declared.fault.Refusal.TheVariants as node_refusal
use Rattle.rc_deletes.specs.declared.deletes.DeletesFault.TheVariants as place_refusal
use Rattle.rc_typing.specs.Checks.{Refuses}
use Rattle.rc_typing.specs.declared.fault.TypeFault.{TypeFault}
use Rattle.rc_typing.specs.declared.fault.TypeFault.TheVariants.{Unknown, Twice, Mistyped, Arity, AnnotationPlace, NotDeletes, DeletesPlace, Main, TooBig, Memory}
use Rattle.rc_linking.specs.Joined.{joined, all_items}
use Rattle.rc_linking.specs.Limits.{IsFileLimited}
use Rattle.rc_linking.specs.Stubs.{IsUnit}
use Rattle.rc_linking.specs.Links.{LinkRefusal, large, or_else, clashes, missing_of, entry_of, large_of, cells_of, link_refusal}
use Rattle.rc_linked_files.proofs.Mains.{linked_program}
use Rattle.rc_units.specs.Units.{IsLinkable}
use Rattle.rc_answers.specs.declared.link_refusal.LinkRefusal.{LinkRefusal as Told}
use Rattle.rc_link.specs.Answers.{reason_of, refusal_of}

in_order : (a b c d : Option LinkRefusal) → or_else a (or_else b (or_else c d)) ≡ or_else (or_else a (or_else b c)) d
in_order None None c d = refl
in_order None (Some b) c d = refl
in_order (Some a) b c d = refl

-- cells are looked at last
cells_last : (trees : List t.Tree) → link_refusal trees ≡ or_else (reason_of trees) (large_of trees)
cells_last trees = in_order (clashes [] 1 trees) (missing_of (function_names (all_items trees)) 1 trees) (entry_of trees) (large_of trees)

-- something else keeps the files apart, or nothing does
module _ (trees : List t.Tree) where
  pub is_told : (r : Option Told) (refusal : Told) → r ≡ Some refusal → option_map refusal_of r ≡ reason_of trees → link_refusal trees ≡ Some (refusal_of refusal)
  is_told r refusal h e = cells_last trees ∙ ap (λ (o : Option LinkRefusal). or_else o (large_of trees)) (sym e ∙ ap (option_map refusal_of) h)

  pub is_apart : (r : Option Told) → ((x : Told) → r ≡ Some x → ⊥) → option_map refusal_of r ≡ reason_of trees → reason_of trees ≡ None
  is_apart None none e = sym e
  is_apart (Some x) none e = absurd (none x refl)

units_of : (trees : List t.Tree) → Every IsLinkable trees → Every IsUnit trees
units_of [] h = tt
units_of (tree ∷ trees) h = (h.0.unit, units_of trees h.1)

pub limits_of : (trees : List t.Tree) → Every IsLinkable trees → Every IsFileLimited trees
limits_of [] h = tt
limits_of (tree ∷ trees) h = (h.0.limited, limits_of trees h.1)

not_both : (r : Refused) → Some r ≡ None → ⊥
not_both r e = cc

-- of files that nothing else keeps apart
module _ (trees : List t.Tree) (apart : reason_of trees ≡ None) where
  alone : link_refusal trees ≡ large_of trees
  alone = cells_last trees ∙ ap (λ r. or_else r (large_of trees)) apart

  pub is_fine : large_of trees ≡ None → link_refusal trees ≡ None
  is_fine h = alone ∙ h

  is_large : Every IsLinkable trees → (r : Refused) → refusal (joined trees) ≡ Some r → link_refusal trees ≡ Some large
  is_large h r e = alone ∙ by_cells (nat_lt most_global_cells (cells_of (joined trees))) refl
    where
      by_cells : (b : Bool) → nat_lt most_global_cells (cells_of (joined trees)) ≡ b → (if b then Some large else None) ≡ Some large
      by_cells true k = refl
      by_cells false k =
          let fine : link_refusal trees ≡ None = is_fine (ap (λ (b : Bool). if b then Some large else None) k) in
          let has = linked_program trees (units_of trees h) fine in
          absurd (not_both r (sym e ∙ has.1.1))

  pub is_refused : Every IsLinkable trees → (fault : TypeFault) → Refuses (joined trees) fault → (fault ≡ Memory) ⊎ (link_refusal trees ≡ Some large)
  is_refused h (Unknown line) e = inr (is_large h (at_node node_refusal.Unknown line) e)
  is_refused h (Twice line) e = inr (is_large h (at_node node_refusal.Twice line) e)
  is_refused h (Mistyped line) e = inr (is_large h (at_node node_refusal.Mistyped line) e)
  is_refused h (Arity line) e = inr (is_large h (at_node node_refusal.Arity line) e)
  is_refused h (AnnotationPlace line) e = inr (is_large h (at_place (place_refusal.AnnotationPlace line)) e)
  is_refused h (NotDeletes line) e = inr (is_large h (at_place (place_refusal.NotDeletes line)) e)
  is_refused h (DeletesPlace line) e = inr (is_large h (at_place (place_refusal.DeletesPlace line)) e)
  is_refused h (Main line) e = inr (is_large h (at_main line) e)
  is_refused h (TooBig line) e = inr (is_large h (at_node node_refusal.TooBig line) e)
  is_refused h Memory e = inl refl
