-- The units of texts, one behind the other.
use Rattle.std.proofs.Common.{◌≡◌, ◌<◌, ◌∙◌, ◌+◌, ℕ, zero, suc, List, [], ◌∷◌, ◌++◌, get_or, length, take, refl, sym, ap, subst, arith, inl, inr}
use Rattle.rc_compile.specs.declared.refusal.Refusal.{Refusal}
use Rattle.rc_syntax.specs.Tree.{Tree}
use Rattle.rc_linked_texts.specs.Texts.{AreFine, FirstRefused, IsFine, IsRefused}
use Rattle.rc_files.specs.Texts.{IsTextOf}
use Rattle.rc_files.specs.declared.text_files.FileText.{FileText}
use Rattle.rc_driver.specs.Linking.{AreTextsOf}

-- of the text that was loaded at a place there is one at this place
pub text_at : (loaded : List FileText) (all : List (List ℕ)) (i : ℕ) (one : FileText) → AreTextsOf loaded all → i < length loaded → one ≡ get_or loaded i one → (text : List ℕ) × (i < length all) × (get_or all i text ≡ text) × IsTextOf one text
text_at [] all i one are low is = absurd (omega (arith, low))
text_at (l ∷ loaded) [] i one are low is = absurd are
text_at (l ∷ loaded) (text ∷ all) zero one are low is = (text, omega arith, refl, subst (λ (o : FileText). IsTextOf o text) (sym is) are.0)
text_at (l ∷ loaded) (text ∷ all) (suc i) one are low is = let r = text_at loaded all i one are.1 (omega (arith, low)) is in (r.0, (let there = r.1 in omega (arith, there)), r.2, r.3)

-- each text before it is fine, and it is too
fine_then : (before : List (List ℕ)) (trees : List Tree) (text : List ℕ) (tree : Tree) → AreFine before trees → IsFine text tree → AreFine (before ++ text ∷ []) (trees ++ tree ∷ [])
fine_then [] [] text tree fine own = (own, tt)
fine_then [] (other ∷ trees) text tree fine own = absurd fine
fine_then (first ∷ before) [] text tree fine own = absurd fine
fine_then (first ∷ before) (other ∷ trees) text tree fine own = (fine.0, fine_then before trees text tree fine.1 own)

pub fine_at : (all : List (List ℕ)) (trees : List Tree) (i : ℕ) (text : List ℕ) (tree : Tree) → take (i + 1) all ≡ take i all ++ get_or all i text ∷ [] → get_or all i text ≡ text → AreFine (take i all) trees → IsFine text tree → AreFine (take (i + 1) all) (trees ++ tree ∷ [])
fine_at all trees i text tree more is fine own =
    subst (λ (texts : List (List ℕ)). AreFine texts (trees ++ tree ∷ [])) (sym (more ∙ ap (λ (t : List ℕ). take i all ++ t ∷ []) is)) (fine_then (take i all) trees text tree fine own)

-- or it is the first that is refused
pub refused_at : (n : ℕ) (all : List (List ℕ)) (trees : List Tree) (i : ℕ) (text : List ℕ) (k : Refusal) → AreFine (take i all) trees → i < length all → get_or all i text ≡ text → IsRefused text k → FirstRefused n all (n + i) k
refused_at n [] trees i text k fine low is refused = absurd (omega (arith, low))
refused_at n (first ∷ all) trees zero text k fine low is refused = inl (omega arith, subst (λ (t : List ℕ). IsRefused t k) (sym is) refused)
refused_at n (first ∷ all) [] (suc i) text k fine low is refused = absurd fine
refused_at n (first ∷ all) (tree ∷ trees) (suc i) text k fine low is refused =
    inr ((tree, fine.0), subst (λ number. FirstRefused (suc n) all number k) (omega arith) (refused_at (suc n) all trees i text k fine.1 (omega (arith, low)) is refused))

-- there are no more texts than were loaded
pub all_of_them : (loaded : List FileText) (all : List (List ℕ)) → AreTextsOf loaded all → take (length loaded) all ≡ all
all_of_them [] [] are = refl
all_of_them [] (text ∷ all) are = absurd are
all_of_them (one ∷ loaded) [] are = absurd are
all_of_them (one ∷ loaded) (text ∷ all) are = ap (λ (rest : List (List ℕ)). text ∷ rest) (all_of_them loaded all are.1)
