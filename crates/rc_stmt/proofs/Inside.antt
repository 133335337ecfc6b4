-- Symbols that go on with a symbol inside, that are taken up again, and that end where a word begins nothing more of them.
use Rattle.std.proofs.Common.{ℕ, ◌≡◌, ◌≤◌, ◌+◌, ◌-◌, List, [], ◌∷◌, Some, None, Option, refl, ap, sym, ◌∙◌, arith, Result, Ok, Err}
use Rattle.rc_syntax.specs.declared.fault.ParseFault.{ParseFault}
use Rattle.rc_syntax.specs.declared.word.Token.{Token as CodeToken}
use Rattle.rc_syntax.specs.declared.tree.Spot.{Spot}
use Rattle.rc_syntax.specs.Grammar.{Symbol, TreeOf, Placed}
use Rattle.rc_syntax.specs.reader.Todo.{Todo, build, resume, within}
use Rattle.rc_syntax.specs.reader.Reading.{first, tail}
use Rattle.rc_syntax.specs.reader.Steps.{Stack, frame, State, about, amid as at, run, next, step, finish, place, offer, give, closed, first_of}
use Rattle.rc_words.specs.Words.{from, spot_of, word_in, word_at}
use Rattle.rc_expr.specs.Goes.{amid, inside}
use Rattle.rc_expr.proofs.Running.{same_run, faults_along}
use Rattle.rc_stmt.specs.Along.{Parses, Proceeds}
use Rattle.rc_stmt.proofs.Going.{Flat, inner, along}

-- Two states that go over to the same one at the next word.
pub same_some : {root : Symbol} (round : ℕ) (a b st : State root) (p : Placed) (ps : List Placed) → step a p ≡ Some st → step b p ≡ Some st → run round a (p ∷ ps) ≡ run round b (p ∷ ps)
same_some round a b st p ps ea eb =
    ap (next round (p ∷ ps) (finish a) (λ r. run round r ps)) ea ∙ sym (ap (next round (p ∷ ps) (finish b) (λ r. run round r ps)) eb)

-- A complete symbol goes on with another, which begins with the word.
pub record Enters {s : Symbol} (j : Symbol) (sp : Spot) (a : TreeOf s) (h : TreeOf j → Todo s) (p : Placed) : Type 0 where
  pub leads : tail s sp a p ≡ within j h (first j p)
  pub begins : (root : Symbol) (k : Stack root j) → (st : State root) × (place p (first j p) p.spot 0 k ≡ Some st)

pub goes_into_at : {root s j : Symbol} (round : ℕ) (sp : Spot) (n : ℕ) (a : TreeOf s) (h : TreeOf j → Todo s) (k : Stack root s) (p : Placed) (ps : List Placed) → Enters j sp a h p →
    run round (at sp (build a) n k) (p ∷ ps) ≡ run round (about (frame sp n h k)) (p ∷ ps)
goes_into_at {root} {s} {j} round sp n a h k p ps x =
    let st = x.begins root (frame sp n h k) in
    same_some round (at sp (build a) n k) (about (frame sp n h k)) st.0 p ps
    (ap (λ d. first_of (place p d sp n k) (give p k n a)) x.leads ∙ ap (λ o. first_of o (give p k n a)) st.1)
    st.1

some_word : (ws : List Placed) → (word_in ws ≡ None → ⊥) → (p : Placed) × (ps : List Placed) × (ws ≡ p ∷ ps)
some_word [] h = absurd (h refl)
some_word (p ∷ ps) h = (p, ps, refl)

pub goes_into : {root s j : Symbol} (round : ℕ) (ts : List CodeToken) (i q : ℕ) (a : TreeOf s) (h : TreeOf j → Todo s) (k : Stack root s) → (word_at ts q ≡ None → ⊥) →
    ((p : Placed) → word_at ts q ≡ Some p.word → Enters j (spot_of ts i) a h p) →
    run round (amid ts i q (build a) k) (from ts q) ≡ run round (about (inside ts i q h k)) (from ts q)
goes_into round ts i q a h k some x =
    let w = some_word (from ts q) some in
    ap (run round (amid ts i q (build a) k)) w.2
    ∙ goes_into_at round (spot_of ts i) (q - i) a h k w.0 w.1 (x w.0 (ap word_in w.2))
    ∙ sym (ap (run round (about (inside ts i q h k))) w.2)

module _ {A B : Type 0} {s : Symbol} {depth : ℕ} {ts : List CodeToken} {i : ℕ} {shape : A → TreeOf s} where
  pub more_part : {r : Result (A × ℕ) ParseFault} (j : Symbol) (q e : ℕ) (tree : TreeOf s) (h : TreeOf j → Todo s) (inner_shape : B → TreeOf j) (x : B) → (word_at ts q ≡ None → ⊥) →
      ((p : Placed) → word_at ts q ≡ Some p.word → Enters j (spot_of ts i) tree h p) → i ≤ q → Parses j depth ts q inner_shape (Ok (x, e)) →
      Proceeds s depth ts i e (h (inner_shape x)) shape r → Proceeds s depth ts i q (build tree) shape r
  more_part j q e tree h inner_shape x some enters le c p = along (λ root round k a. goes_into round ts i q tree h k some enters ∙ c.goes root s round (spot_of ts i) i h k le a) p

  pub more_part_refused : (j : Symbol) (q : ℕ) (tree : TreeOf s) (h : TreeOf j → Todo s) (inner_shape : B → TreeOf j) (f : ParseFault) → (word_at ts q ≡ None → ⊥) →
      ((p : Placed) → word_at ts q ≡ Some p.word → Enters j (spot_of ts i) tree h p) → i ≤ q → Parses j depth ts q inner_shape (Err f) →
      Proceeds s depth ts i q (build tree) shape (Err f)
  more_part_refused j q tree h inner_shape f some enters le c = record {
    goes = λ root outer round own b g k le2 a. faults_along ts _ _ f (goes_into round ts i q tree h (frame own (i - b) g k) some enters) (c.goes root s round (spot_of ts i) i h (frame own (i - b) g k) le a);
  }

-- The word begins nothing more of the symbol.
pub closes_calm : {root s : Symbol} (j : Symbol) (round : ℕ) (ts : List CodeToken) (own : Spot) (i q e : ℕ) (a : TreeOf j) (h : TreeOf j → Todo s) (k : Stack root s) → i ≤ q → q ≤ e →
    ((p : Placed) → word_at ts e ≡ Some p.word → (n : ℕ) (k2 : Stack root j) → place p (tail j (spot_of ts q) a p) (spot_of ts q) n k2 ≡ None) →
    run round (amid ts q e (build a) (frame own (q - i) h k)) (from ts e) ≡ run round (at own (h a) (e - i) k) (from ts e)
closes_calm {root} {s} j round ts own i q e a h k le le2 calm =
    let count : (q - i) + (e - q) ≡ e - i = omega (arith, le, le2) in
    same_run round (amid ts q e (build a) (frame own (q - i) h k)) (at own (h a) (e - i) k) (from ts e) refl
    (λ p ps w.
    ap (λ o. first_of o (give p (frame own (q - i) h k) (e - q) a)) (calm p (ap word_in w) (e - q) (frame own (q - i) h k))
    ∙ ap (λ n. step (at own (h a) n k) p) count)

pub ends_calm : {A : Type 0} {s : Symbol} {depth : ℕ} {ts : List CodeToken} {i : ℕ} {shape : A → TreeOf s} (e : ℕ) (x : A) (tree : TreeOf s) → tree ≡ shape x → i ≤ e →
    ((p : Placed) → word_at ts e ≡ Some p.word → (root : Symbol) (n : ℕ) (k : Stack root s) → place p (tail s (spot_of ts i) (shape x) p) (spot_of ts i) n k ≡ None) →
    Proceeds s depth ts i e (build tree) shape (Ok (x, e))
ends_calm {A} {s} {depth} {ts} {i} {shape} e x tree same le calm = record {
  goes = λ root outer round own j h k le2 a.
      ap (λ t. run round (amid ts i e (build t) (frame own (i - j) h k)) (from ts e)) same ∙ closes_calm s round ts own j i e (shape x) h k le2 le (λ p here. calm p here root);
}

-- A symbol inside that began before is gone on with.
takes_up : {root s j : Symbol} (round : ℕ) (ts : List CodeToken) (i p q m : ℕ) (h : TreeOf j → Todo s) (td : Todo j) (k : Stack root s) → m ≡ p - i → i ≤ p → p ≤ q →
    run round (amid ts i q (resume (spot_of ts p) m j h td) k) (from ts q) ≡ run round (amid ts p q td (inside ts i p h k)) (from ts q)
takes_up {root} {s} {j} round ts i p q m h td k same le le2 =
    let on : Placed → ℕ → ℕ → ℕ → Option (State root) = λ w x y z.
    offer w td (spot_of ts p) y (frame (spot_of ts i) x h k)
    (λ a. first_of (place w (tail j (spot_of ts p) a w) (spot_of ts p) y (frame (spot_of ts i) x h k)) (offer w (h a) (spot_of ts i) z k (closed w (spot_of ts i) z k))) in
    let some' : (q - i) - (p - i) ≡ q - p = omega (arith, le, le2) in
    let all' : q - i ≡ (p - i) + (q - p) = omega (arith, le, le2) in
    same_run round (amid ts i q (resume (spot_of ts p) m j h td) k) (amid ts p q td (inside ts i p h k)) (from ts q) refl
    (λ w ws e.
    ap (λ x. on w x ((q - i) - x) (q - i)) same
    ∙ ap (λ x. on w (p - i) x (q - i)) some'
    ∙ ap (λ x. on w (p - i) (q - p) x) all')

module _ {A B : Type 0} {s : Symbol} {depth : ℕ} {ts : List CodeToken} {i : ℕ} {shape : A → TreeOf s} where
  pub resumed : {r : Result (A × ℕ) ParseFault} (j : Symbol) (p q e m : ℕ) (h : TreeOf j → Todo s) (td : Todo j) (inner_shape : B → TreeOf j) (x : B) → Flat j → m ≡ p - i → i ≤ p → p ≤ q →
      Proceeds j depth ts p q td inner_shape (Ok (x, e)) → Proceeds s depth ts i e (h (inner_shape x)) shape r → Proceeds s depth ts i q (resume (spot_of ts p) m j h td) shape r
  resumed j p q e m h td inner_shape x f same le le2 c d =
      along (λ root round k a. takes_up round ts i p q m h td k same le le2 ∙ c.goes root s round (spot_of ts i) i h k le (inner (spot_of ts i) (p - i) h f a)) d

  pub resumed_refused : (j : Symbol) (p q m : ℕ) (h : TreeOf j → Todo s) (td : Todo j) (inner_shape : B → TreeOf j) (f : ParseFault) → Flat j → m ≡ p - i → i ≤ p → p ≤ q →
      Proceeds j depth ts p q td inner_shape (Err f) → Proceeds s depth ts i q (resume (spot_of ts p) m j h td) shape (Err f)
  resumed_refused j p q m h td inner_shape f flat same le le2 c = record {
    goes = λ root outer round own b g k le3 a. faults_along ts _ _ f (takes_up round ts i p q m h td (frame own (i - b) g k) same le le2) (c.goes root s round (spot_of ts i) i h (frame own (i - b) g k) le (inner (spot_of ts i) (p - i) h flat a));
  }
