-- Numbers that are read, and words that are none.
use Rattle.std.proofs.Common.{ℕ, ◌≡◌, ◌≤◌, ◌+◌, ◌-◌, List, Some, None, Bool, false, length, refl, ap, sym, ◌∙◌, arith, Result, Err}
use Rattle.rc_syntax.specs.declared.fault.ParseFault.{ParseFault}
use Rattle.rc_syntax.specs.declared.fault.ParseFault.TheVariants.{Syntax, Deep, Memory}
use Rattle.rc_syntax.specs.declared.word.Token.{Token as CodeToken}
use Rattle.rc_syntax.specs.Tokens as w
use Rattle.rc_syntax.specs.Tokens.{Word}
use Rattle.rc_syntax.specs.Grammar.{Symbol, TreeOf, adds}
use Rattle.rc_syntax.specs.reader.Todo.{Todo, stop, read, is_stop}
use Rattle.rc_syntax.specs.reader.Reading.{numbered, number_in}
use Rattle.rc_syntax.specs.reader.Steps.{Stack, frame, run, taken, first_of, opened}
use Rattle.rc_words.specs.Words.{from, spot_of, Stands}
use Rattle.rc_expr.specs.Goes.{amid}
use Rattle.rc_expr.proofs.Running.{takes, stops}
use Rattle.rc_stmt.specs.Along.{Outside, Proceeds}
use Rattle.rc_stmt.proofs.Going.{near, takes_some, along}
use Rattle.rc_parser.specs.Items.{IsNumber, is_number}

not_numbered : {s : Symbol} (h : ℕ → Bool → Todo s) (y : Word) → is_number (Some y) ≡ false → number_in h y ≡ stop
not_numbered h (w.number x u) e = absurd cc
not_numbered h _ e = refl

within_limit : {root s : Symbol} {round depth : ℕ} {k : Stack root s} → Outside round depth k → depth ≤ 200 → (round + opened k) + adds s ≤ 200
within_limit {root} {s} {round} {depth} {k} a d = let n = a.nested in omega (arith, n, d)

module _ {A : Type 0} {s : Symbol} {depth : ℕ} {ts : List CodeToken} {i : ℕ} {shape : A → TreeOf s} {r : Result (A × ℕ) ParseFault} where
  pub number_read : (q e : ℕ) (h : ℕ → Bool → Todo s) (value : ℕ) (unsigned : Bool) → depth ≤ 200 → i ≤ q → Stands ts q (w.number value unsigned) × (e ≡ q + 1) → is_stop (h value unsigned) ≡ false →
      Proceeds s depth ts i e (h value unsigned) shape r → Proceeds s depth ts i q (read (numbered h)) shape r
  number_read q e h value unsigned d le stands go p = along
      (λ root round k a.
      takes {far = length ts} q (read (numbered h)) (h value unsigned) (w.number value unsigned) (near (length ts) i ts (omega arith) a) (within_limit a d) le stands.0.within stands.0
      (ap (λ o. first_of o None) (takes_some (h value unsigned) (spot_of ts i) (q - i) k go))
      ∙ ap (λ b. run round (amid ts i b (h value unsigned) k) (from ts b)) (sym stands.1))
      p

module _ {A : Type 0} {s : Symbol} {depth : ℕ} {ts : List CodeToken} {i : ℕ} {shape : A → TreeOf s} where
  pub number_refused : (q : ℕ) (h : ℕ → Bool → Todo s) (f : ParseFault) → IsNumber ts q (Err f) → Proceeds s depth ts i q (read (numbered h)) shape (Err f)
  number_refused q h (Syntax line) n = record {
    goes = λ root outer round own j g k le a. (
      from ts q,
      stops round ts i q (read (numbered h)) (frame own (i - j) g k) refl
          (λ p here. ap (λ td. first_of (taken td (spot_of ts i) (q - i) (frame own (i - j) g k)) None) (not_numbered h p.word (ap is_number (sym here) ∙ n.0))),
      n.1,
    );
  }
  number_refused q h (Deep line) n = absurd n
  number_refused q h Memory n = absurd n
