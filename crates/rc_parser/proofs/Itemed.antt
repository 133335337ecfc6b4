-- How items and their parts begin.
use Rattle.std.proofs.Common.{ℕ, ◌≡◌, ◌≤◌, ◌-◌, List, [], Some, false, refl, ap, sym, ◌∙◌, subst, arith, Result, Ok, Err}
use Rattle.rc_syntax.specs.declared.fault.ParseFault.{ParseFault}
use Rattle.rc_syntax.specs.declared.word.Token.{Token as CodeToken}
use Rattle.rc_syntax.specs.declared.word.Key.TheVariants as y
use Rattle.rc_syntax.specs.declared.word.Mark.TheVariants as m
use Rattle.rc_syntax.specs.declared.tree.Spot.{Spot}
use Rattle.rc_syntax.specs.declared.tree.Base.{Base as BaseTree}
use Rattle.rc_syntax.specs.Tokens.{Word, mark, key}
use Rattle.rc_syntax.specs.Grammar.{Symbol, TreeOf, Placed, Item, Base, BodyEnd, Block, FunctionEnd, Stars}
use Rattle.rc_syntax.specs.reader.Todo.{begin, build, read, Deeper, within}
use Rattle.rc_syntax.specs.reader.Reading.{first, base, item_in, item_based, item_named, named, body_end_in, function_end_in}
use Rattle.rc_syntax.specs.reader.Steps.{Stack, frame, about, amid as at, run, step, place}
use Rattle.rc_words.specs.Words.{from, spot_of, word_in, word_at, Misses}
use Rattle.rc_expr.specs.Goes.{amid, inside, Goes}
use Rattle.rc_words.proofs.Standing.{spot_first}
use Rattle.rc_expr.proofs.Running.{same_run, faults_along}
use Rattle.rc_stmt.specs.Along.{Parses, Starts, Proceeds}
use Rattle.rc_stmt.proofs.Going.{along}

body_else : (x : Word) (d : Deeper BodyEnd) → (x ≡ mark m.Semicolon → ⊥) → body_end_in x d ≡ d
body_else (mark m.Semicolon) d h = absurd (h refl)
body_else _ d h = refl

pub body_begins : (ts : List CodeToken) (q : ℕ) → Misses ts q (mark m.Semicolon) → (p : Placed) → word_at ts q ≡ Some p.word → first BodyEnd p ≡ within Block (λ a. build (Some a)) (first Block p)
body_begins ts q h p here = body_else p.word _ (λ e. h (here ∙ ap Some e))

ending_else : (x : Word) (d : Deeper FunctionEnd) → (x ≡ key y.Deletes → ⊥) → function_end_in x d ≡ d
ending_else (key y.Deletes) d h = absurd (h refl)
ending_else _ d h = refl

pub ending_begins : (ts : List CodeToken) (q : ℕ) → Misses ts q (key y.Deletes) → (p : Placed) → word_at ts q ≡ Some p.word → first FunctionEnd p ≡ within BodyEnd (λ a. build (record { deletes = false; body = a })) (first BodyEnd p)
ending_begins ts q h p here = ending_else p.word _ (λ e. h (here ∙ ap Some e))

item_else : (sp : Spot) (x : Word) (d : Deeper Item) → (x ≡ key y.Struct → ⊥) → (x ≡ key y.Deletes → ⊥) → (x ≡ key y.Void → ⊥) → item_in sp x d ≡ d
item_else sp (key y.Struct) d h i j = absurd (h refl)
item_else sp (key y.Deletes) d h i j = absurd (i refl)
item_else sp (key y.Void) d h i j = absurd (j refl)
item_else sp _ d h i j = refl

-- An item that begins with a base, whose first word has the spot of the item.
item_begins : {root : Symbol} (round : ℕ) (ts : List CodeToken) (i : ℕ) (k : Stack root Item) → Misses ts i (key y.Struct) → Misses ts i (key y.Deletes) → Misses ts i (key y.Void) →
    run round (about k) (from ts i) ≡ run round (about (inside {j = Base} ts i i (item_based (spot_of ts i)) k)) (from ts i)
item_begins round ts i k s d v =
    let none : i - i ≡ 0 = omega arith in
    same_run round (about k) (about (inside {j = Base} ts i i (item_based (spot_of ts i)) k)) (from ts i) refl
    (λ p ps e.
    ap (λ x. place p x p.spot 0 k) (item_else p.spot p.word (within Base (item_based p.spot) (base p)) (λ x. s (ap word_in e ∙ ap Some x)) (λ x. d (ap word_in e ∙ ap Some x)) (λ x. v (ap word_in e ∙ ap Some x)))
    ∙ ap (λ sp. place p (base p) p.spot 0 (frame {i = Base} sp 0 (item_based sp) k)) (sym (spot_first ts i p ps e))
    ∙ ap (λ n. place p (base p) p.spot 0 (frame {i = Base} (spot_of ts i) n (item_based (spot_of ts i)) k)) (sym none))

module _ {A : Type 0} {depth : ℕ} {ts : List CodeToken} {q : ℕ} {shape : A → TreeOf Item} where
  pub item_part : {r : Result (A × ℕ) ParseFault} → Misses ts q (key y.Struct) → Misses ts q (key y.Deletes) → Misses ts q (key y.Void) → (e : ℕ) (x : BaseTree) → Parses Base depth ts q (λ b. b) (Ok (x, e)) →
      Proceeds Item depth ts q e (item_based (spot_of ts q) x) shape r → Starts Item depth ts q shape r
  item_part {r} s d v e x c p =
      let le : q ≤ q = omega arith in
      record {
        goes = λ root outer round own i g k le2 a.
            subst (λ y. Goes round ts (λ z b. at own (g (shape z)) (b - i) k) y r)
            (sym (item_begins round ts q (frame own (q - i) g k) s d v ∙ c.goes root Item round (spot_of ts q) q (item_based (spot_of ts q)) (frame own (q - i) g k) le a))
            (p.goes root outer round own i g k le2 a);
      }

  pub item_part_refused : Misses ts q (key y.Struct) → Misses ts q (key y.Deletes) → Misses ts q (key y.Void) → (f : ParseFault) → Parses Base depth ts q (λ b. b) (Err f) → Starts Item depth ts q shape (Err f)
  item_part_refused s d v f c =
      let le : q ≤ q = omega arith in
      record {
        goes = λ root outer round own i g k le2 a.
            faults_along ts _ _ f (item_begins round ts q (frame own (q - i) g k) s d v) (c.goes root Item round (spot_of ts q) q (item_based (spot_of ts q)) (frame own (q - i) g k) le a);
      }

-- The first declarator after a base.
pub peeked : {A : Type 0} {depth : ℕ} {ts : List CodeToken} {i : ℕ} {shape : A → TreeOf Item} {r : Result (A × ℕ) ParseFault} (q : ℕ) (sp : Spot) (base : BaseTree) →
    Proceeds Item depth ts i q (begin Stars [] (λ ns. read (named (item_named sp base (q - i) (spot_of ts q) ns)))) shape r → Proceeds Item depth ts i q (item_based sp base) shape r
peeked {A} {depth} {ts} {i} {shape} {r} q sp base p = along
    (λ root round k a.
    same_run round (amid ts i q (item_based sp base) k) (amid ts i q (begin Stars [] (λ ns. read (named (item_named sp base (q - i) (spot_of ts q) ns)))) k) (from ts q) refl
    (λ w ws e. ap (λ own. step (amid ts i q (begin Stars [] (λ ns. read (named (item_named sp base (q - i) own ns)))) k) w) (sym (spot_first ts q w ws e))))
    p
