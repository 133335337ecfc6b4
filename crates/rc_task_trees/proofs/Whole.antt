-- The tree of a text of tasks ends with the three items.
use Rattle.rc_task_trees.proofs.Common.{◌≡◌, zero, ◌<◌, ◌≤◌, append_assoc, refl, ap, sym, ◌∙◌, subst, Spot, line_behind, Token, Words, Placed, placed, node, Derives, then, by_any, alone, one_cut, nothing, one_tree, of_text, digit, appended_items, task_text_of, EndsWithTasks}
use Rattle.std.proofs.Common.{ℕ, suc, List, [], ◌∷◌, ◌++◌, length, map}
use Rattle.std.specs.List.{AllByRecursion as Every}
use Rattle.rc_syntax.specs.Tree as t
use Rattle.rc_syntax.specs.Grammar as g
use Rattle.rc_task_items.specs.Items as tree
use Rattle.rc_task_trees.proofs.Cutting.{cut_front}
use Rattle.rc_task_trees.proofs.LineFeeds.{parted}
use Rattle.rc_task_trees.proofs.OwnWords.{own_tokens, yield_tokens, main_tokens, on, counter_words}
use Rattle.rc_task_trees.proofs.Lines.{text_is, own_text, own_lexes, no_slashes}
use Rattle.rc_task_trees.proofs.Derived.{nth, after, placed_on}
use Rattle.rc_task_trees.proofs.OwnItems.{counter_places, yield_places, main_places, counter_derives, yield_derives, main_derives}

-- The words of a text of tasks end with those of the three lines.
pub words_end : (text choices : List ℕ) (tokens : List Token) → length choices ≤ 1000 → Every (λ d. d < 10) choices → Words (task_text_of text (map digit choices)) tokens → (front : List Token) × (tokens ≡ front ++ own_tokens choices (line_behind (text ++ 10 ∷ [])))
words_end text choices tokens few good words =
    let p = parted words refl text (own_text choices) (no_slashes choices few good) (text_is choices text) in
    let before = text ++ 10 ∷ [] in
    let line = line_behind before in
    let same = one_cut p.cut (nothing _) (own_lexes choices few good line before refl) (nothing _) in
    (p.front, p.is ∙ ap (λ z. p.front ++ z) same.0)

abbrev places_of : (ℕ → ℕ) → (ℕ → ℕ) → (ℕ → ℕ) → ℕ → ℕ → ℕ
places_of a b c zero = a
places_of a b c (suc zero) = b
places_of a b c (suc (suc n)) = c

o0 : Spot
o0 = record { place = 0; line = 0 }

-- A text of these words ends with the three items.
pub tree_ends : (choices : List ℕ) (line : ℕ) (front : List Token) (items : List t.Item) → Derives (placed 0 (front ++ own_tokens choices line)) (node g.Text items) →
    (own : List t.Item) × (places : ℕ → ℕ → ℕ) × Derives (placed 0 front) (node g.Text own) × (items ≡ own ++ appended_items choices places line)
tree_ends choices line front items d =
    let i = after 0 front in
    let f = placed 0 front in
    let y = yield_tokens choices (suc line) in
    let m = main_tokens choices (suc (suc line)) in
    let j = nth i 3 in
    let k = after j y in
    let P : List Placed → Type 0 = λ z. Derives z (node g.Text items) in
    let e : Derives (f ++ placed i (own_tokens choices line)) (node g.Text items) = subst P (placed_on 0 front (own_tokens choices line)) d in
    let a = cut_front f _ _ _ _ _ (refl, refl, refl) refl e in
    let one = placed i (on line counter_words) in
    let two = placed j y in
    let three = placed k m in
    let c1 = tree.counter_item choices (counter_places i) line in
    let c2 = tree.yield_item choices (yield_places choices (suc line) j) (suc line) in
    let c3 = tree.main_item choices (main_places k) (suc (suc line)) in
    let d1 : Derives (f ++ one) (node g.Text (a.0 ++ c1 ∷ [])) = by_any o0 (λ o. g.items) (then a.1 (alone (counter_derives choices line i))) in
    let d2 : Derives ((f ++ one) ++ two) (node g.Text ((a.0 ++ c1 ∷ []) ++ c2 ∷ [])) = by_any o0 (λ o. g.items) (then d1 (alone (yield_derives choices (suc line) j))) in
    let d3 : Derives (((f ++ one) ++ two) ++ three) (node g.Text (((a.0 ++ c1 ∷ []) ++ c2 ∷ []) ++ c3 ∷ [])) = by_any o0 (λ o. g.items) (then d2 (alone (main_derives choices (suc (suc line)) k))) in
    let words : ((f ++ one) ++ two) ++ three ≡ f ++ placed i (own_tokens choices line) =
    append_assoc (f ++ one) two three ∙ append_assoc f one (two ++ three) ∙ ap (λ z. f ++ (one ++ z)) (sym (placed_on j y m)) in
    let Q : List Placed → Type 0 = λ z. Derives z (node g.Text (((a.0 ++ c1 ∷ []) ++ c2 ∷ []) ++ c3 ∷ [])) in
    let same = one_tree g.Text of_text e (subst Q words d3) in (
      a.0,
      places_of (counter_places i) (yield_places choices (suc line) j) (main_places k),
      a.1,
      same ∙ append_assoc (a.0 ++ c1 ∷ []) (c2 ∷ []) (c3 ∷ []) ∙ append_assoc a.0 (c1 ∷ []) (c2 ∷ c3 ∷ []),
    )

pub ends_with_tasks : (text choices : List ℕ) (tokens : List Token) (items : List t.Item) → length choices ≤ 1000 → Every (λ d. d < 10) choices → Words (task_text_of text (map digit choices)) tokens → Derives (placed 0 tokens) (node g.Text items) →
    EndsWithTasks text choices tokens items
ends_with_tasks text choices tokens items few good words d =
    let w = words_end text choices tokens few good words in
    let line = line_behind (text ++ 10 ∷ []) in
    let P : List Token → Type 0 = λ z. Derives (placed 0 z) (node g.Text items) in
    let e = tree_ends choices line w.0 items (subst P w.1 d) in
    record { front = w.0; others = own_tokens choices line; cut = w.1; own = e.0; derived = e.2; places = e.1; line = line; on_line = refl; are = e.3 }
