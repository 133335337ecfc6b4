-- How declarators begin, and how lists of them grow.
use Rattle.std.proofs.Common.{ℕ, ◌≡◌, ◌+◌, ◌-◌, List, [], ◌++◌, Option, Some, None, true, false, refl, ap, sym, ◌∙◌, subst, arith, Result, Ok, Err, ◌≤◌}
use Rattle.rc_syntax.specs.declared.fault.ParseFault.{ParseFault}
use Rattle.rc_syntax.specs.declared.word.Token.{Token as CodeToken}
use Rattle.rc_syntax.specs.declared.word.Mark.TheVariants as m
use Rattle.rc_syntax.specs.declared.word.Key.TheVariants as y
use Rattle.rc_syntax.specs.declared.tree.Spot.{Spot}
use Rattle.rc_syntax.specs.declared.tree.Constant.{Constant}
use Rattle.rc_syntax.specs.Tokens as w
use Rattle.rc_syntax.specs.Tokens.{Word, mark, key}
use Rattle.rc_syntax.specs.Tree.{Field}
use Rattle.rc_syntax.specs.Shape.{type_of}
use Rattle.rc_syntax.specs.declared.tree.TypeName.{TypeName as TypeTree}
use Rattle.rc_syntax.specs.Grammar.{Symbol, TreeOf, Placed, FieldDec, Stars, Base, Fields, Field as FieldSymbol, TypeName, Param as ParamSymbol, Params, ParamsEnd, Constant as ConstantSymbol}
use Rattle.rc_syntax.specs.reader.Todo.{Todo, begin, build, stop, is_stop, read, sees, Deeper, within}
use Rattle.rc_syntax.specs.reader.Reading.{field_starred, base, base_in, fields_of, first, tail, type_name, param_typed, params_end_in, constant_in, is_close}
use Rattle.rc_syntax.specs.reader.Steps.{Stack, frame, State, about, run, amid as at, step, place, taken}
use Rattle.rc_words.specs.Words.{from, spot_of, word_at, Misses}
use Rattle.rc_expr.specs.Goes.{amid, inside, begins_base, Goes}
use Rattle.rc_words.proofs.Standing.{spot_first}
use Rattle.rc_expr.proofs.Running.{same_run, faults_along}
use Rattle.rc_stmt.specs.Along.{Parses, Starts, Proceeds}
use Rattle.rc_parser.specs.Items.{constant_of}
use Rattle.rc_stmt.proofs.Going.{along_start, takes_some}
use Rattle.rc_stmt.proofs.Inside.{Enters}

field_step : {root : Symbol} (sp : Spot) (x : Word) (k : Stack root FieldDec) → step (about k) (record { word = x; spot = sp }) ≡ step (at sp (begin Stars [] (field_starred sp)) 0 k) (record { word = x; spot = sp })
field_step sp (mark m.Star) k = refl
field_step sp (w.name x) k = refl
field_step sp _ k = refl

pub field_starts : {A : Type 0} {depth : ℕ} {ts : List CodeToken} {q : ℕ} {shape : A → TreeOf FieldDec} {r : Result (A × ℕ) ParseFault} →
    Proceeds FieldDec depth ts q q (begin Stars [] (field_starred (spot_of ts q))) shape r → Starts FieldDec depth ts q shape r
field_starts {A} {depth} {ts} {q} {shape} {r} p =
    let none : q - q ≡ 0 = omega arith in
    along_start
    (λ root round k a. same_run round (about k) (amid ts q q (begin Stars [] (field_starred (spot_of ts q))) k) (from ts q) refl
    (λ x xs e.
    field_step x.spot x.word k
    ∙ ap (λ sp. step (at sp (begin Stars [] (field_starred sp)) 0 k) x) (sym (spot_first ts q x xs e))
    ∙ ap (λ n. step (at (spot_of ts q) (begin Stars [] (field_starred (spot_of ts q))) n k) x) (sym none)))
    p

-- Fields go on where a base begins.
base_some : (sp : Spot) (x : Word) → begins_base (Some x) ≡ true → is_stop (base_in sp x) ≡ false
base_some sp (key y.Int) h = refl
base_some sp (key y.Unsigned) h = refl
base_some sp (key y.Char) h = refl
base_some sp (key y.Region) h = refl
base_some sp (key y.Struct) h = refl
base_some sp _ h = absurd cc

pub base_none : (sp : Spot) (x : Word) → begins_base (Some x) ≡ false → base_in sp x ≡ stop
base_none sp (key y.Int) h = absurd cc
base_none sp (key y.Unsigned) h = absurd cc
base_none sp (key y.Char) h = absurd cc
base_none sp (key y.Region) h = absurd cc
base_none sp (key y.Struct) h = absurd cc
base_none sp _ h = refl

pub base_places : {root : Symbol} (p : Placed) (k : Stack root Base) → begins_base (Some p.word) ≡ true → (st : State root) × (place p (base p) p.spot 0 k ≡ Some st)
base_places p k h = (at p.spot (base_in p.spot p.word) (0 + 1) k, takes_some (base_in p.spot p.word) p.spot 0 k (base_some p.spot p.word h))

pub base_stays : {root : Symbol} (p : Placed) (k : Stack root Base) → begins_base (Some p.word) ≡ false → place p (base p) p.spot 0 k ≡ None
base_stays p k h = ap (λ td. taken td p.spot 0 k) (base_none p.spot p.word h)

pub some_base : (ts : List CodeToken) (q : ℕ) → begins_base (word_at ts q) ≡ true → word_at ts q ≡ None → ⊥
some_base ts q h none = let e : begins_base None ≡ true = ap begins_base (sym none) ∙ h in cc

pub field_enters : (ts : List CodeToken) (q : ℕ) (sp : Spot) (fs : List Field) → begins_base (word_at ts q) ≡ true → (p : Placed) → word_at ts q ≡ Some p.word → Enters {s = Fields} FieldSymbol sp fs (λ hs. build (fs ++ hs)) p
field_enters ts q sp fs h p here = record {
  leads = refl;
  begins = λ root k. base_places p (frame p.spot 0 fields_of k) (ap begins_base (sym here) ∙ h);
}

pub field_stays : (ts : List CodeToken) (q i : ℕ) (fs : List Field) → begins_base (word_at ts q) ≡ false → (p : Placed) → word_at ts q ≡ Some p.word → (root : Symbol) (n : ℕ) (k : Stack root Fields) → place p (tail Fields (spot_of ts i) fs p) (spot_of ts i) n k ≡ None
field_stays ts q i fs h p here root n k =
    base_stays p (frame p.spot 0 fields_of (frame {i = FieldSymbol} (spot_of ts i) n (λ hs. build (fs ++ hs)) k)) (ap begins_base (sym here) ∙ h)

-- A parameter begins with its type, whose first word has the spot of the parameter.
param_begins : {root : Symbol} (round : ℕ) (ts : List CodeToken) (i : ℕ) (k : Stack root ParamSymbol) →
    run round (about k) (from ts i) ≡ run round (about (inside {j = TypeName} ts i i (param_typed (spot_of ts i)) k)) (from ts i)
param_begins round ts i k =
    let none : i - i ≡ 0 = omega arith in
    same_run round (about k) (about (inside {j = TypeName} ts i i (param_typed (spot_of ts i)) k)) (from ts i) refl
    (λ p ps e.
    ap (λ sp. place p (type_name p) p.spot 0 (frame {i = TypeName} sp 0 (param_typed sp) k)) (sym (spot_first ts i p ps e))
    ∙ ap (λ n. place p (type_name p) p.spot 0 (frame {i = TypeName} (spot_of ts i) n (param_typed (spot_of ts i)) k)) (sym none))

module _ {A : Type 0} {depth : ℕ} {ts : List CodeToken} {q : ℕ} {shape : A → TreeOf ParamSymbol} where
  pub param_part : {r : Result (A × ℕ) ParseFault} (e : ℕ) (x : TypeTree) → Parses TypeName depth ts q type_of (Ok (x, e)) → Proceeds ParamSymbol depth ts q e (param_typed (spot_of ts q) (type_of x)) shape r → Starts ParamSymbol depth ts q shape r
  param_part {r} e x c p =
      let le : q ≤ q = omega arith in
      record {
        goes = λ root outer round own i g k le2 a.
            subst (λ y. Goes round ts (λ z b. at own (g (shape z)) (b - i) k) y r)
            (sym (param_begins round ts q (frame own (q - i) g k) ∙ c.goes root ParamSymbol round (spot_of ts q) q (param_typed (spot_of ts q)) (frame own (q - i) g k) le a))
            (p.goes root outer round own i g k le2 a);
      }

  pub param_part_refused : (f : ParseFault) → Parses TypeName depth ts q type_of (Err f) → Starts ParamSymbol depth ts q shape (Err f)
  param_part_refused f c =
      let le : q ≤ q = omega arith in
      record {
        goes = λ root outer round own i g k le2 a.
            faults_along ts _ _ f (param_begins round ts q (frame own (q - i) g k)) (c.goes root ParamSymbol round (spot_of ts q) q (param_typed (spot_of ts q)) (frame own (q - i) g k) le a);
      }

-- Behind neither `)` nor `void` parameters begin.
params_else : (x : Word) (d : Deeper ParamsEnd) → (x ≡ mark m.CloseParenthesis → ⊥) → (x ≡ key y.Void → ⊥) → params_end_in x d ≡ d
params_else (mark m.CloseParenthesis) d h i = absurd (h refl)
params_else (key y.Void) d h i = absurd (i refl)
params_else _ d h i = refl

pub params_begin : (ts : List CodeToken) (q : ℕ) → Misses ts q (mark m.CloseParenthesis) → Misses ts q (key y.Void) → (p : Placed) → word_at ts q ≡ Some p.word → first ParamsEnd p ≡ within Params (λ ps. read (sees is_close (build ps))) (first Params p)
params_begin ts q h i p here = params_else p.word _ (λ e. h (here ∙ ap Some e)) (λ e. i (here ∙ ap Some e))

-- A constant of one word.
abbrev pub given : Option Constant → Todo ConstantSymbol
given (Some c) = build c
given None = stop

pub constant_reads : (sp : Spot) (x : Word) → (x ≡ mark m.Minus → ⊥) → constant_in sp x ≡ given (constant_of sp x)
constant_reads sp (mark m.Minus) h = absurd (h refl)
constant_reads sp (w.number i u) h = refl
constant_reads sp (w.character i) h = refl
constant_reads sp (key y.Null) h = refl
constant_reads sp (key y.Eof) h = refl
constant_reads sp _ h = refl
