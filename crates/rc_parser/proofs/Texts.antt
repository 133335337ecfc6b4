-- How the items of a text are read, and what is answered of the whole text.
use Rattle.std.proofs.Common.{ℕ, ◌≡◌, ◌≤◌, ◌<◌, ◌+◌, ◌-◌, List, [], ◌∷◌, ◌++◌, Some, None, true, false, length, slice_index_or, refl, ap, sym, ◌∙◌, subst, arith, Result, Ok, Err}
use Rattle.std.specs.Prelude.{IsErrAnd}
use Rattle.std.proofs.lemmas.Result.{err_from_is_err_and}
use Rattle.rc_syntax.specs.declared.fault.ParseFault.{ParseFault}
use Rattle.rc_syntax.specs.declared.fault.ParseFault.TheVariants.{Syntax, Deep, Memory}
use Rattle.rc_syntax.specs.declared.word.Token.{Token as CodeToken}
use Rattle.rc_syntax.specs.declared.word.Key.TheVariants as y
use Rattle.rc_syntax.specs.declared.tree.Spot.{Spot}
use Rattle.rc_syntax.specs.declared.tree.Tree.{Tree}
use Rattle.rc_syntax.specs.Tokens.{Word, key}
use Rattle.rc_syntax.specs.WordShapes.{tokens_of, word_of}
use Rattle.rc_syntax.specs.Tree as t
use Rattle.rc_syntax.specs.Shape.{tree_of}
use Rattle.rc_syntax.specs.Place.{AnswersAll, line_at}
use Rattle.rc_syntax.specs.Grammar.{Symbol, Placed, placed, Text, Item, Base}
use Rattle.rc_syntax.specs.reader.Todo.{Todo, build, read}
use Rattle.rc_syntax.specs.reader.Reading.{first, base_in, item_based, item_deleting, function_named, named, struct_named}
use Rattle.rc_syntax.specs.reader.Steps.{Stack, bottom, frame, State, entry, about, amid as at, Answer, Accepts, run, next, place, first_of}
use Rattle.rc_syntax.proofs.Whole.{MeansAll, text_means}
use Rattle.rc_words.specs.Words.{from, line_of, word_in, word_at}
use Rattle.rc_expr.specs.Goes.{Faults}
use Rattle.rc_words.proofs.Standing.{from_more, from_past}
use Rattle.rc_stmt.specs.Along.{Outside, Parses}
use Rattle.rc_parser.specs.Items.{begins_item}
use Rattle.rc_stmt.proofs.Inside.{goes_into_at}

item_places : {root : Symbol} (sp : Spot) (x : Word) (k : Stack root Item) → begins_item (Some x) ≡ true → (st : State root) × (place (record { word = x; spot = sp }) (first Item (record { word = x; spot = sp })) sp 0 k ≡ Some st)
item_places sp (key y.Struct) k h = (at sp (read (named (struct_named sp))) (0 + 1) k, refl)
item_places sp (key y.Deletes) k h = (at sp (item_deleting sp) (0 + 1) k, refl)
item_places sp (key y.Void) k h = (at sp (function_named sp false None) (0 + 1) k, refl)
item_places sp (key y.Int) k h = (at sp (base_in sp (key y.Int)) (0 + 1) (frame {i = Base} sp 0 (item_based sp) k), refl)
item_places sp (key y.Unsigned) k h = (at sp (base_in sp (key y.Unsigned)) (0 + 1) (frame {i = Base} sp 0 (item_based sp) k), refl)
item_places sp (key y.Char) k h = (at sp (base_in sp (key y.Char)) (0 + 1) (frame {i = Base} sp 0 (item_based sp) k), refl)
item_places sp (key y.Region) k h = (at sp (base_in sp (key y.Region)) (0 + 1) (frame {i = Base} sp 0 (item_based sp) k), refl)
item_places sp _ k h = absurd cc

item_stays : {root : Symbol} (sp : Spot) (x : Word) (k : Stack root Item) → begins_item (Some x) ≡ false → place (record { word = x; spot = sp }) (first Item (record { word = x; spot = sp })) sp 0 k ≡ None
item_stays sp (key y.Struct) k h = absurd cc
item_stays sp (key y.Deletes) k h = absurd cc
item_stays sp (key y.Void) k h = absurd cc
item_stays sp (key y.Int) k h = absurd cc
item_stays sp (key y.Unsigned) k h = absurd cc
item_stays sp (key y.Char) k h = absurd cc
item_stays sp (key y.Region) k h = absurd cc
item_stays sp _ k h = refl

-- The items that were read, before a word; and after the first of them.
abbrev pub start : Spot
start = record { place = 0; line = 0 }

abbrev pub behind : List t.Item → ℕ → State Text
behind is q = at start (build is) (q - 0) bottom

abbrev longer : List t.Item → List t.Item → Todo Text
longer is js = build (is ++ js)

abbrev before_item : List t.Item → ℕ → State Text
before_item is q = about (frame {i = Item} start (q - 0) (longer is) bottom)

outside_text : Outside 0 0 (bottom {root = Text})
outside_text = record { nested = refl; reach = λ n r. refl }

item_runs : (is : List t.Item) (q : ℕ) (p : Placed) (ps : List Placed) → begins_item (Some p.word) ≡ true → run 0 (behind is q) (p ∷ ps) ≡ run 0 (before_item is q) (p ∷ ps)
item_runs is q p ps h =
    goes_into_at 0 start (q - 0) is (longer is) bottom p ps (record { leads = refl; begins = λ root k. item_places p.spot p.word k h })

text_stops : (is : List t.Item) (q : ℕ) (p : Placed) (ps : List Placed) → begins_item (Some p.word) ≡ false → run 0 (behind is q) (p ∷ ps) ≡ Accepts is (p ∷ ps)
text_stops is q p ps h =
    ap (λ o. next 0 (p ∷ ps) (Some is) (λ r. run 0 r ps) (first_of o None)) (item_stays p.spot p.word (frame {i = Item} start (q - 0) (longer is) bottom) h)

-- A word stands where an item begins.
some_item : (ts : List CodeToken) (q : ℕ) → begins_item (word_at ts q) ≡ true → (p : Placed) × (ps : List Placed) × (from ts q ≡ p ∷ ps) × (begins_item (Some p.word) ≡ true)
some_item ts q h = by_words (from ts q) h refl
  where
    by_words : (ws : List Placed) → begins_item (word_in ws) ≡ true → from ts q ≡ ws → (p : Placed) × (ps : List Placed) × (from ts q ≡ p ∷ ps) × (begins_item (Some p.word) ≡ true)
    by_words [] h e = absurd cc
    by_words (p ∷ ps) h e = (p, ps, e, h)

item_goes : (ts : List CodeToken) (is : List t.Item) (q : ℕ) → begins_item (word_at ts q) ≡ true → run 0 (behind is q) (from ts q) ≡ run 0 (before_item is q) (from ts q)
item_goes ts is q h =
    let w = some_item ts q h in
    ap (run 0 (behind is q)) w.2 ∙ item_runs is q w.0 w.1 w.3 ∙ sym (ap (run 0 (before_item is q)) w.2)

-- An item is read.
pub item_read : {A : Type 0} (ts : List CodeToken) (is : List t.Item) (q e : ℕ) (shape : A → List t.Item) (x : A) → begins_item (word_at ts q) ≡ true → Parses Item 0 ts q shape (Ok (x, e)) → run 0 (behind is q) (from ts q) ≡ run 0 (behind (is ++ shape x) e) (from ts e)
item_read ts is q e shape x h c =
    let low : 0 ≤ q = omega arith in
    item_goes ts is q h ∙ c.goes Text Text 0 start 0 (longer is) bottom low outside_text

-- What is answered of the whole text, by what the reader answers.
abbrev all_words : List CodeToken → List Placed
all_words ts = placed 0 (tokens_of ts)

fault_answers : (ts : List CodeToken) (a : Answer Text) (f : ParseFault) → MeansAll (all_words ts) a → Faults ts a f → AnswersAll (tokens_of ts) (Err f)
fault_answers ts a (Syntax line) m (rest, e, l) =
    let x = subst (MeansAll (all_words ts)) e m in
    record { front = x.0; rest = rest; stretch = x.1; shallow = x.2; no_tree = x.3; on_line = l }
fault_answers ts a (Deep line) m (rest, e, l) =
    let x = subst (MeansAll (all_words ts)) e m in
    record { rest = rest; too_deep = x; on_line = l }
fault_answers ts a Memory m h = tt

all_means : (ts : List CodeToken) (a : Answer Text) → run 0 (entry Text) (from ts 0) ≡ a → MeansAll (all_words ts) a
all_means ts a e = subst (MeansAll (all_words ts)) e (text_means (all_words ts))

pub item_refused : {A : Type 0} (ts : List CodeToken) (is : List t.Item) (q : ℕ) (shape : A → List t.Item) (f : ParseFault) → begins_item (word_at ts q) ≡ true → Parses Item 0 ts q shape (Err f) →
    run 0 (entry Text) (from ts 0) ≡ run 0 (behind is q) (from ts q) → AnswersAll (tokens_of ts) (Err f)
item_refused ts is q shape f h c along =
    let low : 0 ≤ q = omega arith in
    fault_answers ts (run 0 (before_item is q) (from ts q)) f (all_means ts (run 0 (before_item is q) (from ts q)) (along ∙ item_goes ts is q h)) (c.goes Text Text 0 start 0 (longer is) bottom low outside_text)

-- Words are left that begin no item.
pub rest_refused : (ts : List CodeToken) (is : List t.Item) (q : ℕ) (f : ParseFault) → begins_item (word_at ts q) ≡ false → q < length ts → f ≡ Syntax (line_of ts q) →
    run 0 (entry Text) (from ts 0) ≡ run 0 (behind is q) (from ts q) → AnswersAll (tokens_of ts) (Err f)
rest_refused ts is q f h within same along =
    let w = some_word ts q within in
    let p = w.0 in
    let ps = w.1 in
    let none : begins_item (Some p.word) ≡ false = ap (λ ws. begins_item (word_in ws)) (sym w.2) ∙ h in
    let x = all_means ts (Accepts is (p ∷ ps)) (along ∙ ap (run 0 (behind is q)) w.2 ∙ text_stops is q p ps none) in
    subst (λ y. AnswersAll (tokens_of ts) (Err y)) (sym same) (record { front = x.0; rest = p ∷ ps; stretch = x.1; shallow = x.2; no_tree = x.3; on_line = ap (line_at (tokens_of ts)) w.2 })
  where
    some_word : (ts : List CodeToken) (q : ℕ) → q < length ts → (p : Placed) × (ps : List Placed) × (from ts q ≡ p ∷ ps)
    some_word [] q within = absurd (omega (arith, within))
    some_word (t ∷ ts) q within = (
      record { word = word_of (slice_index_or (t ∷ ts) q t).word; spot = record { place = q; line = (slice_index_or (t ∷ ts) q t).line } },
      from (t ∷ ts) (q + 1),
      from_more (t ∷ ts) q t within,
    )

-- All words are read.
pub text_read : (ts : List CodeToken) (r : Tree) (q : ℕ) → length ts ≤ q → run 0 (entry Text) (from ts 0) ≡ run 0 (behind (tree_of r).items q) (from ts q) → AnswersAll (tokens_of ts) (Ok r)
text_read ts r q past along = all_means ts (Accepts (tree_of r).items []) (along ∙ ap (run 0 (behind (tree_of r).items q)) (from_past ts q past))

pub text_fails : (ts : List CodeToken) (r : Result Tree ParseFault) (f : ParseFault) → IsErrAnd r (λ y. y ≡ f) → AnswersAll (tokens_of ts) (Err f) → AnswersAll (tokens_of ts) r
text_fails ts r f e p =
    let x = err_from_is_err_and r e in
    subst (AnswersAll (tokens_of ts)) (sym x.1) (subst (λ y. AnswersAll (tokens_of ts) (Err y)) (sym x.2) p)
