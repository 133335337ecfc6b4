-- Several texts come to one thing.
use Rattle.std.proofs.Common.{◌≡◌, ◌⊎◌, ◌∙◌, ℕ, suc, List, [], ◌∷◌, Option, Some, None, refl, sym, ap, subst, inl, inr}
use Rattle.std.specs.List.{AllByRecursion as Every}
use Rattle.rc_syntax.specs.Tree.{Tree}
use Rattle.rc_core.specs.Programs.{Program}
use Rattle.rc_deletes.specs.Answer as rules
use Rattle.rc_deletes.specs.Items.{judged}
use Rattle.rc_deletes.specs.Judged.{Judged, Holds}
use Rattle.rc_linking.specs.Joined.{joined}
use Rattle.rc_linking.specs.Links.{LinkRefusal, link_refusal}
use Rattle.rc_linking.specs.Stubs.{IsUnit}
use Rattle.rc_linked_files.proofs.Mains.{linked_program}
use Rattle.rc_compile.specs.declared.refusal.Refusal.{Refusal}
use Rattle.rc_linked_texts.specs.Texts.{AreFine, ComeTo, FirstRefused, Together, file_refused, kept_apart, one_program}
use Rattle.rc_linked_texts.proofs.OneText.{IsFineOrRefused, fine_not_refused, fine_or_refused, one_refused, same_tree}

same_apart : (found : Option LinkRefusal) (a b : LinkRefusal) → found ≡ Some a → found ≡ Some b → a ≡ b
same_apart found a b x y = let same : Some a ≡ Some b = sym x ∙ y in cc

apart_or_none : (found : Option LinkRefusal) (a : LinkRefusal) → found ≡ Some a → found ≡ None → ⊥
apart_or_none found a is none = let wrong : None ≡ Some a = sym none ∙ is in cc

-- ---- files

pub are_units : (texts : List (List ℕ)) (trees : List Tree) → AreFine texts trees → Every IsUnit trees
are_units [] [] fine = tt
are_units [] (tree ∷ trees) fine = absurd fine
are_units (text ∷ texts) [] fine = absurd fine
are_units (text ∷ texts) (tree ∷ trees) fine = (record { line = fine.0.line; program = fine.0.program; typed = fine.0.typed }, are_units texts trees fine.1)

pub one_list_of_trees : (texts : List (List ℕ)) (a b : List Tree) → AreFine texts a → AreFine texts b → a ≡ b
one_list_of_trees [] [] [] x y = refl
one_list_of_trees [] [] (t ∷ ts) x y = absurd y
one_list_of_trees [] (t ∷ ts) b x y = absurd x
one_list_of_trees (text ∷ texts) [] b x y = absurd x
one_list_of_trees (text ∷ texts) (t ∷ ts) [] x y = absurd y
one_list_of_trees (text ∷ texts) (t ∷ ts) (u ∷ us) x y =
    ap (λ (tree : Tree). tree ∷ ts) (same_tree text t u x.0.is_file.has_tree y.0.is_file.has_tree) ∙ ap (λ (trees : List Tree). u ∷ trees) (one_list_of_trees texts ts us x.1 y.1)

abbrev AreFineOrRefused : ℕ → List (List ℕ) → Type 0
AreFineOrRefused n texts = ((trees : List Tree) × AreFine texts trees) ⊎ ((number : ℕ) × (refusal : Refusal) × FirstRefused n texts number refusal)

each_or_first : (n : ℕ) (texts : List (List ℕ)) → AreFineOrRefused n texts
each_or_first n [] = inl ([], tt)
each_or_first n (text ∷ texts) = by (fine_or_refused text) (each_or_first (suc n) texts) where
  by : IsFineOrRefused text → AreFineOrRefused (suc n) texts → AreFineOrRefused n (text ∷ texts)
  by (inr (refusal, refused)) later = inr (n, refusal, inl (refl, refused))
  by (inl (tree, fine)) (inl (trees, all)) = inl (tree ∷ trees, (fine, all))
  by (inl (tree, fine)) (inr (number, refusal, first)) = inr (number, refusal, inr ((tree, fine), first))

first_not_fine : (n : ℕ) (texts : List (List ℕ)) (trees : List Tree) (number : ℕ) (refusal : Refusal) → AreFine texts trees → FirstRefused n texts number refusal → ⊥
first_not_fine n [] trees number refusal fine first = first
first_not_fine n (text ∷ texts) [] number refusal fine first = fine
first_not_fine n (text ∷ texts) (tree ∷ trees) number refusal fine (inl here) = fine_not_refused text tree refusal fine.0 here.1
first_not_fine n (text ∷ texts) (tree ∷ trees) number refusal fine (inr later) = first_not_fine (suc n) texts trees number refusal fine.1 later.1

one_first : (n : ℕ) (texts : List (List ℕ)) (i j : ℕ) (k l : Refusal) → FirstRefused n texts i k → FirstRefused n texts j l → file_refused i k ≡ file_refused j l
one_first n [] i j k l x y = absurd x
one_first n (text ∷ texts) i j k l (inl a) (inl b) = ap (λ number. file_refused number k) (a.0 ∙ sym b.0) ∙ ap (file_refused j) (one_refused text k l a.1 b.1)
one_first n (text ∷ texts) i j k l (inl a) (inr b) = absurd (fine_not_refused text b.0.0 k b.0.1 a.1)
one_first n (text ∷ texts) i j k l (inr a) (inl b) = absurd (fine_not_refused text a.0.0 l a.0.1 b.1)
one_first n (text ∷ texts) i j k l (inr a) (inr b) = one_first (suc n) texts i j k l a.1 b.1

-- ---- together

pub come_to_some : (texts : List (List ℕ)) → (together : Together) × ComeTo texts together
come_to_some texts = by (each_or_first 1 texts) where
  linked : (trees : List Tree) → AreFine texts trees → (found : Option LinkRefusal) → link_refusal trees ≡ found → (together : Together) × ComeTo texts together
  linked trees fine (Some refusal) is = (kept_apart refusal, record { trees = trees; fine = fine; apart = is })
  linked trees fine None is = (
      let found = linked_program trees (are_units texts trees fine) is in
      (one_program found.0, record { trees = trees; fine = fine; together = is; typed = found.1 }))

  by : AreFineOrRefused 1 texts → (together : Together) × ComeTo texts together
  by (inr (number, refusal, first)) = (file_refused number refusal, first)
  by (inl (trees, fine)) = linked trees fine (link_refusal trees) refl

same_typed : (found : Judged Program) (p q : Program) → found ≡ Holds p → found ≡ Holds q → p ≡ q
same_typed found p q x y = let same : Holds p ≡ Holds q = sym x ∙ y in cc

same_program : (a b : List Tree) (p q : Program) → a ≡ b → rules.IsProgramOf (joined a) p → rules.IsProgramOf (joined b) q → p ≡ q
same_program a b p q same x y = same_typed (judged (joined b)) p q (subst (λ (trees : List Tree). judged (joined trees) ≡ Holds p) same x.0) y.0

pub come_to_one : (texts : List (List ℕ)) (one other : Together) → ComeTo texts one → ComeTo texts other → one ≡ other
come_to_one texts (file_refused i k) (file_refused j l) x y = one_first 1 texts i j k l x y
come_to_one texts (file_refused i k) (kept_apart l) x y = absurd (first_not_fine 1 texts y.trees i k y.fine x)
come_to_one texts (file_refused i k) (one_program q) x y = absurd (first_not_fine 1 texts y.trees i k y.fine x)
come_to_one texts (kept_apart k) (file_refused j l) x y = absurd (first_not_fine 1 texts x.trees j l x.fine y)
come_to_one texts (kept_apart k) (kept_apart l) x y =
    ap kept_apart (same_apart (link_refusal y.trees) k l (ap link_refusal (one_list_of_trees texts y.trees x.trees y.fine x.fine) ∙ x.apart) y.apart)
come_to_one texts (kept_apart k) (one_program q) x y =
    absurd (apart_or_none (link_refusal y.trees) k (ap link_refusal (one_list_of_trees texts y.trees x.trees y.fine x.fine) ∙ x.apart) y.together)
come_to_one texts (one_program p) (file_refused j l) x y = absurd (first_not_fine 1 texts x.trees j l x.fine y)
come_to_one texts (one_program p) (kept_apart l) x y =
    absurd (apart_or_none (link_refusal x.trees) l (ap link_refusal (one_list_of_trees texts x.trees y.trees x.fine y.fine) ∙ y.apart) x.together)
come_to_one texts (one_program p) (one_program q) x y = ap one_program (same_program x.trees y.trees p q (one_list_of_trees texts x.trees y.trees x.fine y.fine) x.typed y.typed)
