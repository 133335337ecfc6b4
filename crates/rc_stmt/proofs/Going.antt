-- Laws of reading on, as functions that read the parts of a production cite them: what is read of a part, and what is read
-- after it, is what is read of the whole.
use Rattle.std.proofs.Common.{ℕ, ◌≡◌, ◌<◌, ◌≤◌, ◌+◌, ◌-◌, List, [], ◌∷◌, Some, None, Bool, true, false, nat_lt, length, refl, ap, sym, ◌∙◌, subst, arith, Result, Ok, Err}
use Rattle.std.specs.Prelude.{IsErrAnd, IfOk}
use Rattle.std.proofs.lemmas.Result.{err_from_is_err_and}
use Rattle.std.proofs.lemmas.Bool.Decides.{nat_tests}
use Rattle.rc_syntax.specs.declared.fault.ParseFault.{ParseFault}
use Rattle.rc_syntax.specs.declared.fault.ParseFault.TheVariants.{Syntax, Deep, Memory}
use Rattle.rc_syntax.specs.declared.word.Token.{Token as CodeToken}
use Rattle.rc_syntax.specs.declared.tree.Spot.{Spot}
use Rattle.rc_syntax.specs.declared.tree.Name.{Name}
use Rattle.rc_syntax.specs.declared.word.Mark.TheVariants as m
use Rattle.rc_syntax.specs.Tokens as w
use Rattle.rc_syntax.specs.Tokens.{Word, mark}
use Rattle.rc_syntax.specs.Grammar.{Symbol, TreeOf, Placed, adds, reach}
use Rattle.rc_syntax.specs.reader.Todo.{Todo, build, stop, try, enter, begin, read, sees, when, is_stop, only, within}
use Rattle.rc_syntax.specs.reader.Reading.{first, tail, named, name_in, is_comma}
use Rattle.rc_syntax.specs.reader.Steps.{Stack, frame, about, amid as at, Answer, Refuses, run, next, step, place, taken, offer, give, closed, first_of, opened, reached}
use Rattle.rc_words.specs.Words.{from, line_of, spot_of, word_in, word_at, Stands, Misses, TakesName, is_name}
use Rattle.rc_expr.specs.Goes.{amid, inside, Around, Within, Faults, Goes, Quiet, Reads, ReadsAnywhere, ContinuesAnywhere}
use Rattle.rc_words.proofs.Standing.{spot_first}
use Rattle.rc_expr.proofs.Running.{same_run, takes, begins, enters, opens, skips, stops, stops_about, missed, faults_along}
use Rattle.rc_stmt.specs.Along.{Outside, Parses, Starts, Proceeds, IsNamed}

-- A symbol that makes no word deeper, and that doesn't count its words.
pub record Flat (s : Symbol) : Type 0 where
  pub none : adds s ≡ 0
  pub plain : (n r : ℕ) → reach s n r ≡ r

past : (a b : ℕ) → b ≤ a → false ≡ nat_lt a b
past a b h = grind (arith, nat_tests)

-- No word is too far.
pub near : {root s : Symbol} {round depth : ℕ} {k : Stack root s} (far i : ℕ) (ts : List CodeToken) → length ts ≤ far → Outside round depth k → Around round (round + opened k) far ts i k
near far i ts few a = record {
  nested = refl;
  reach = λ n l. ap (nat_lt 1024) (a.reach n 0) ∙ past far (i + n) (let l2 : i + n ≤ far = omega arith in l2);
}

within_limit : {root s : Symbol} {round depth : ℕ} {k : Stack root s} → Outside round depth k → depth ≤ 200 → (round + opened k) + adds s ≤ 200
within_limit {root} {s} {round} {depth} {k} a d = let n = a.nested in omega (arith, n, d)

-- What is around a symbol inside.
pub inner : {root s j : Symbol} {round depth : ℕ} {k : Stack root s} (own : Spot) (m : ℕ) (h : TreeOf j → Todo s) → Flat j → Outside round depth k → Outside round depth (frame own m h k)
inner {root} {s} {j} {round} {depth} {k} own m h f a =
    let n = a.nested in
    let none = f.none in
    record {
      nested = omega (arith, n, none);
      reach = λ n r. ap (reached k (m + n)) (f.plain n r) ∙ a.reach (m + n) r;
    }

pub takes_some : {root s : Symbol} (td : Todo s) (sp : Spot) (n : ℕ) (k : Stack root s) → is_stop td ≡ false → taken td sp n k ≡ Some (at sp td (n + 1) k)
takes_some stop sp n k h = absurd cc
takes_some _ sp n k h = refl

-- A complete symbol that the next word doesn't go on with is given to what is around it.
pub closes_at : {root s : Symbol} (j : Symbol) (round : ℕ) (ts : List CodeToken) (own : Spot) (i q e : ℕ) (a : TreeOf j) (h : TreeOf j → Todo s) (k : Stack root s) → i ≤ q → q ≤ e →
    Quiet j (spot_of ts q) a (from ts e) →
    run round (amid ts q e (build a) (frame own (q - i) h k)) (from ts e) ≡ run round (at own (h a) (e - i) k) (from ts e)
closes_at j round ts own i q e a h k le le2 quiet =
    let count : (q - i) + (e - q) ≡ e - i = omega (arith, le, le2) in
    same_run round (amid ts q e (build a) (frame own (q - i) h k)) (at own (h a) (e - i) k) (from ts e) refl
    (λ p ps w.
    let calm : tail j (spot_of ts q) a p ≡ only stop = subst (Quiet j (spot_of ts q) a) w quiet in
    ap (λ d. first_of (place p d (spot_of ts q) (e - q) (frame own (q - i) h k)) (give p (frame own (q - i) h k) (e - q) a)) calm
    ∙ ap (λ n. step (at own (h a) n k) p) count)

-- Faults.
pub fails : {A : Type 0} {s : Symbol} {depth : ℕ} {ts : List CodeToken} {i q : ℕ} {td : Todo s} {shape : A → TreeOf s} {r : Result (A × ℕ) ParseFault} {f : ParseFault} →
    IsErrAnd r (λ y. y ≡ f) → Proceeds s depth ts i q td shape (Err f) → Proceeds s depth ts i q td shape r
fails {A} {s} {depth} {ts} {i} {q} {td} {shape} {r} {f} e p =
    let x = err_from_is_err_and r e in
    subst (Proceeds s depth ts i q td shape) (sym x.1) (subst (λ y. Proceeds s depth ts i q td shape (Err y)) (sym x.2) p)

pub fails_first : {A : Type 0} {s : Symbol} {depth : ℕ} {ts : List CodeToken} {q : ℕ} {shape : A → TreeOf s} {r : Result (A × ℕ) ParseFault} {f : ParseFault} →
    IsErrAnd r (λ y. y ≡ f) → Parses s depth ts q shape (Err f) → Parses s depth ts q shape r
fails_first {A} {s} {depth} {ts} {q} {shape} {r} {f} e p =
    let x = err_from_is_err_and r e in
    subst (Parses s depth ts q shape) (sym x.1) (subst (λ y. Parses s depth ts q shape (Err y)) (sym x.2) p)

pub fails_start : {A : Type 0} {s : Symbol} {depth : ℕ} {ts : List CodeToken} {q : ℕ} {shape : A → TreeOf s} {r : Result (A × ℕ) ParseFault} {f : ParseFault} →
    IsErrAnd r (λ y. y ≡ f) → Starts s depth ts q shape (Err f) → Starts s depth ts q shape r
fails_start {A} {s} {depth} {ts} {q} {shape} {r} {f} e p =
    let x = err_from_is_err_and r e in
    subst (Starts s depth ts q shape) (sym x.1) (subst (λ y. Starts s depth ts q shape (Err y)) (sym x.2) p)

-- Want of memory may be answered at any place.
pub wanting : {A : Type 0} {s : Symbol} {depth : ℕ} {ts : List CodeToken} {i q : ℕ} {td : Todo s} {shape : A → TreeOf s} {f : ParseFault} → f ≡ Memory → Proceeds s depth ts i q td shape (Err f)
wanting {A} {s} {depth} {ts} {i} {q} {td} {shape} {f} e =
    subst (λ y. Proceeds s depth ts i q td shape (Err y)) (sym e) (record { goes = λ root outer round own j h k le a. tt })

not_named : {s : Symbol} (h : Name → Todo s) (sp : Spot) (y : Word) → is_name (Some y) ≡ false → name_in h sp y ≡ stop
not_named h sp (w.name x) e = absurd cc
not_named h sp _ e = refl

pub unread : {root : Symbol} (ts : List CodeToken) (a : Answer root) (q : ℕ) (f : ParseFault) → a ≡ Refuses (from ts q) → f ≡ Syntax (line_of ts q) → Faults ts a f
unread ts a q f e h = subst (Faults ts a) (sym h) (from ts q, e, refl)

-- The reader comes along from one state to another.
module _ {A : Type 0} {s : Symbol} {depth : ℕ} {ts : List CodeToken} {i : ℕ} {shape : A → TreeOf s} {r : Result (A × ℕ) ParseFault} where
  pub along : {q q2 : ℕ} {td td2 : Todo s} →
      ((root round : _) (k : Stack root s) → Outside round depth k → run round (amid ts i q td k) (from ts q) ≡ run round (amid ts i q2 td2 k) (from ts q2)) →
      Proceeds s depth ts i q2 td2 shape r → Proceeds s depth ts i q td shape r
  along {q} {q2} {td} {td2} e p = record {
    goes = λ root outer round own j h k le a.
        subst (λ x. Goes round ts (λ y b. at own (h (shape y)) (b - j) k) x r) (sym (e root round (frame own (i - j) h k) a)) (p.goes root outer round own j h k le a);
  }

  -- A word that is read.
  pub word : (q e : ℕ) (test : Word → Bool) (td td2 : Todo s) (x : Word) → depth ≤ 200 → i ≤ q → Stands ts q x × (e ≡ q + 1) → test x ≡ true → is_stop td ≡ false →
      Proceeds s depth ts i e td shape r → Proceeds s depth ts i q (try (sees test td) td2) shape r
  word q e test td td2 x d le stands holds go p = along
      (λ root round k a.
      takes {far = length ts} q (try (sees test td) td2) td x (near (length ts) i ts (omega arith) a) (within_limit a d) le stands.0.within stands.0
      (ap (λ b. first_of (taken (when b td) (spot_of ts i) (q - i) k) (offer (record { word = x; spot = spot_of ts q }) td2 (spot_of ts i) (q - i) k (closed (record { word = x; spot = spot_of ts q }) (spot_of ts i) (q - i) k))) holds
      ∙ ap (λ o. first_of o (offer (record { word = x; spot = spot_of ts q }) td2 (spot_of ts i) (q - i) k (closed (record { word = x; spot = spot_of ts q }) (spot_of ts i) (q - i) k))) (takes_some td (spot_of ts i) (q - i) k go))
      ∙ ap (λ b. run round (amid ts i b td k) (from ts b)) (sym stands.1))
      p

  -- A word that may stand here and doesn't.
  pub no_word : (q : ℕ) (test : Word → Bool) (td td2 : Todo s) (x : Word) → Misses ts q x → ((y : Word) → (y ≡ x → ⊥) → test y ≡ false) →
      Proceeds s depth ts i q td2 shape r → Proceeds s depth ts i q (try (sees test td) td2) shape r
  no_word q test td td2 x miss other p = along (λ root round k a. missed round ts i q test td td2 k x miss other) p

  -- A name that is read.
  pub name_read : (q e : ℕ) (h : Name → Todo s) (td2 : Todo s) (x : Name) → depth ≤ 200 → i ≤ q → IsNamed ts q (Ok (x, e)) → is_stop (h x) ≡ false →
      Proceeds s depth ts i e (h x) shape r → Proceeds s depth ts i q (try (named h) td2) shape r
  name_read q e h td2 x d le stands go p = along
      (λ root round k a.
      takes {far = length ts} q (try (named h) td2) (h x) (w.name x.text) (near (length ts) i ts (omega arith) a) (within_limit a d) le stands.0.within stands.0
      (ap (λ sp. first_of (taken (h (record { spot = sp; text = x.text })) (spot_of ts i) (q - i) k) (offer (record { word = w.name x.text; spot = spot_of ts q }) td2 (spot_of ts i) (q - i) k (closed (record { word = w.name x.text; spot = spot_of ts q }) (spot_of ts i) (q - i) k))) (sym stands.1)
      ∙ ap (λ o. first_of o (offer (record { word = w.name x.text; spot = spot_of ts q }) td2 (spot_of ts i) (q - i) k (closed (record { word = w.name x.text; spot = spot_of ts q }) (spot_of ts i) (q - i) k))) (takes_some (h x) (spot_of ts i) (q - i) k go))
      ∙ ap (λ b. run round (amid ts i b (h x) k) (from ts b)) (sym stands.2))
      p

  pub no_name : (q : ℕ) (h : Name → Todo s) (td2 : Todo s) → is_name (word_at ts q) ≡ false →
      Proceeds s depth ts i q td2 shape r → Proceeds s depth ts i q (try (named h) td2) shape r
  no_name q h td2 none p = along (λ root round k a. skips round ts i q (named h) td2 k (λ y here. not_named h y.spot y.word (ap is_name (sym here) ∙ none))) p

  -- A symbol that is read to its end.
  pub part : {B : Type 0} (j : Symbol) (q e : ℕ) (h : TreeOf j → Todo s) (inner_shape : B → TreeOf j) (x : B) → Parses j depth ts q inner_shape (Ok (x, e)) → i ≤ q →
      Proceeds s depth ts i e (h (inner_shape x)) shape r → Proceeds s depth ts i q (enter j h) shape r
  part j q e h inner_shape x c le p = along (λ root round k a. enters round ts i q j h k ∙ c.goes root s round (spot_of ts i) i h k le a) p

  -- The same of a symbol whose words may be none.
  pub opened_part : {B : Type 0} (j : Symbol) (q e : ℕ) (first : TreeOf j) (h : TreeOf j → Todo s) (inner_shape : B → TreeOf j) (x : B) → Flat j → Proceeds j depth ts q q (build first) inner_shape (Ok (x, e)) → i ≤ q →
      Proceeds s depth ts i e (h (inner_shape x)) shape r → Proceeds s depth ts i q (begin j first h) shape r
  opened_part j q e first h inner_shape x f c le p = along (λ root round k a. opens round ts i q j first h k ∙ c.goes root s round (spot_of ts i) i h k le (inner (spot_of ts i) (q - i) h f a)) p

-- What stands here can't be read.
module _ {A : Type 0} {s : Symbol} {depth : ℕ} {ts : List CodeToken} {i : ℕ} {shape : A → TreeOf s} where
  pub word_refused : (q : ℕ) (test : Word → Bool) (td : Todo s) (x : Word) (f : ParseFault) → Misses ts q x × (f ≡ Syntax (line_of ts q)) → ((y : Word) → (y ≡ x → ⊥) → test y ≡ false) →
      Proceeds s depth ts i q (read (sees test td)) shape (Err f)
  word_refused q test td x f miss other = record {
    goes = λ root outer round own j h k le a.
        unread ts _ q f
        (stops round ts i q (read (sees test td)) (frame own (i - j) h k) refl
        (λ p here. ap (λ b. first_of (taken (when b td) (spot_of ts i) (q - i) (frame own (i - j) h k)) None) (other p.word (λ same. miss.0 (here ∙ ap Some same)))))
        miss.1;
  }

  pub name_refused : (q : ℕ) (h : Name → Todo s) (f : ParseFault) → IsNamed ts q (Err f) → Proceeds s depth ts i q (read (named h)) shape (Err f)
  name_refused q h (Syntax line) n = record {
    goes = λ root outer round own j g k le a. (
      from ts q,
      stops round ts i q (read (named h)) (frame own (i - j) g k) refl
          (λ p here. ap (λ td. first_of (taken td (spot_of ts i) (q - i) (frame own (i - j) g k)) None) (not_named h p.spot p.word (ap is_name (sym here) ∙ n.0))),
      n.1,
    );
  }
  name_refused q h (Deep line) n = absurd n
  name_refused q h Memory n = wanting refl

  pub part_refused : {B : Type 0} (j : Symbol) (q : ℕ) (h : TreeOf j → Todo s) (inner_shape : B → TreeOf j) (f : ParseFault) → Parses j depth ts q inner_shape (Err f) → i ≤ q →
      Proceeds s depth ts i q (enter j h) shape (Err f)
  part_refused j q h inner_shape f c le = record {
    goes = λ root outer round own b g k le2 a. faults_along ts _ _ f (enters round ts i q j h (frame own (i - b) g k)) (c.goes root s round (spot_of ts i) i h (frame own (i - b) g k) le a);
  }

  pub opened_part_refused : {B : Type 0} (j : Symbol) (q : ℕ) (first : TreeOf j) (h : TreeOf j → Todo s) (inner_shape : B → TreeOf j) (f : ParseFault) → Flat j → Proceeds j depth ts q q (build first) inner_shape (Err f) → i ≤ q →
      Proceeds s depth ts i q (begin j first h) shape (Err f)
  opened_part_refused j q first h inner_shape f flat c le = record {
    goes = λ root outer round own b g k le2 a. faults_along ts _ _ f (opens round ts i q j first h (frame own (i - b) g k)) (c.goes root s round (spot_of ts i) i h (frame own (i - b) g k) le (inner (spot_of ts i) (q - i) h flat a));
  }

-- The symbol is complete, and the next word doesn't go on with it.
pub ends : {A : Type 0} {s : Symbol} {depth : ℕ} {ts : List CodeToken} {i : ℕ} {shape : A → TreeOf s} (e : ℕ) (x : A) (tree : TreeOf s) → tree ≡ shape x → i ≤ e → Quiet s (spot_of ts i) (shape x) (from ts e) →
    Proceeds s depth ts i e (build tree) shape (Ok (x, e))
ends {A} {s} {depth} {ts} {i} {shape} e x tree same le quiet = record {
  goes = λ root outer round own j h k le2 a.
      ap (λ t. run round (amid ts i e (build t) (frame own (i - j) h k)) (from ts e)) same ∙ closes_at s round ts own j i e (shape x) h k le2 le quiet;
}

-- The first word of a symbol.
module _ {A : Type 0} {s : Symbol} {depth : ℕ} {ts : List CodeToken} {q : ℕ} {shape : A → TreeOf s} {r : Result (A × ℕ) ParseFault} where
  pub flat : Flat s → Starts s depth ts q shape r → Parses s depth ts q shape r
  flat f p = record { goes = λ root outer round own i h k le a. p.goes root outer round own i h k le (inner own (q - i) h f a) }

  pub along_start : {p : ℕ} {td : Todo s} →
      ((root round : _) (k : Stack root s) → Outside round depth k → run round (about k) (from ts q) ≡ run round (amid ts q p td k) (from ts p)) →
      Proceeds s depth ts q p td shape r → Starts s depth ts q shape r
  along_start {p} {td} e c = record {
    goes = λ root outer round own i h k le a.
        subst (λ x. Goes round ts (λ y b. at own (h (shape y)) (b - i) k) x r) (sym (e root round (frame own (q - i) h k) a)) (c.goes root outer round own i h k le a);
  }

  pub first_word : (e : ℕ) (x : Word) (td : Todo s) → depth ≤ 200 → Stands ts q x → e ≡ q + 1 → first s (record { word = x; spot = spot_of ts q }) ≡ only td → is_stop td ≡ false →
      Proceeds s depth ts q e td shape r → Starts s depth ts q shape r
  first_word e x td d stands next leads go p = along_start
      (λ root round k a.
      begins {far = length ts} q td x (near (length ts) q ts (omega arith) a) (within_limit a d) stands.within stands
      (ap (λ y. place (record { word = x; spot = spot_of ts q }) y (spot_of ts q) 0 k) leads ∙ takes_some td (spot_of ts q) 0 k go)
      ∙ ap (λ b. run round (amid ts q b td k) (from ts b)) (sym next))
      p

begins_inside : {root s j : Symbol} (round : ℕ) (ts : List CodeToken) (i : ℕ) (h : TreeOf j → Todo s) (k : Stack root s) →
    ((p : Placed) → word_at ts i ≡ Some p.word → first s p ≡ within j h (first j p)) →
    run round (about k) (from ts i) ≡ run round (about (inside ts i i h k)) (from ts i)
begins_inside round ts i h k f =
    let none : i - i ≡ 0 = omega arith in
    same_run round (about k) (about (inside ts i i h k)) (from ts i) refl
    (λ p ps e.
    ap (λ d. place p d p.spot 0 k) (f p (ap word_in e))
    ∙ ap (λ sp. place p (first _ p) p.spot 0 (frame sp 0 h k)) (sym (spot_first ts i p ps e))
    ∙ ap (λ n. place p (first _ p) p.spot 0 (frame (spot_of ts i) n h k)) (sym none))

module _ {A : Type 0} {s : Symbol} {depth : ℕ} {ts : List CodeToken} {q : ℕ} {shape : A → TreeOf s} where
  -- A symbol that begins with another.
  pub first_part : {B : Type 0} {r : Result (A × ℕ) ParseFault} (j : Symbol) (e : ℕ) (h : TreeOf j → Todo s) (inner_shape : B → TreeOf j) (x : B) →
      ((p : Placed) → word_at ts q ≡ Some p.word → first s p ≡ within j h (first j p)) → Parses j depth ts q inner_shape (Ok (x, e)) →
      Proceeds s depth ts q e (h (inner_shape x)) shape r → Starts s depth ts q shape r
  first_part {B} {r} j e h inner_shape x f c p =
      let le : q ≤ q = omega arith in
      record {
        goes = λ root outer round own i g k le2 a.
            subst (λ y. Goes round ts (λ z b. at own (g (shape z)) (b - i) k) y r)
            (sym (begins_inside round ts q h (frame own (q - i) g k) f ∙ c.goes root s round (spot_of ts q) q h (frame own (q - i) g k) le a))
            (p.goes root outer round own i g k le2 a);
      }

  pub first_part_refused : {B : Type 0} (j : Symbol) (h : TreeOf j → Todo s) (inner_shape : B → TreeOf j) (f : ParseFault) →
      ((p : Placed) → word_at ts q ≡ Some p.word → first s p ≡ within j h (first j p)) → Parses j depth ts q inner_shape (Err f) → Starts s depth ts q shape (Err f)
  first_part_refused j h inner_shape f leads c =
      let le : q ≤ q = omega arith in
      record {
        goes = λ root outer round own i g k le2 a.
            faults_along ts _ _ f (begins_inside round ts q h (frame own (q - i) g k) leads) (c.goes root s round (spot_of ts q) q h (frame own (q - i) g k) le a);
      }

  -- No word of the symbol stands here.
  pub first_refused : (f : ParseFault) → ((p : Placed) → word_at ts q ≡ Some p.word → first s p ≡ only stop) → f ≡ Syntax (line_of ts q) → Starts s depth ts q shape (Err f)
  first_refused f none e = record {
    goes = λ root outer round own i h k le a.
        subst (Faults ts (run round (about (frame own (q - i) h k)) (from ts q))) (sym e)
        (from ts q, stops_about round ts q (frame own (q - i) h k) (λ p here. ap (λ d. place p d p.spot 0 (frame own (q - i) h k)) (none p here)), refl);
  }

-- A list goes on after a comma.
pub comma : {A : Type 0} {s : Symbol} {depth : ℕ} {ts : List CodeToken} {i : ℕ} {shape : A → TreeOf s} {r : Result (A × ℕ) ParseFault} (q : ℕ) (tree : TreeOf s) (td : Todo s) →
    depth ≤ 200 → i ≤ q → Stands ts q (mark m.Comma) → ((p : Placed) → tail s (spot_of ts i) tree p ≡ only (sees is_comma td p)) → is_stop td ≡ false →
    Proceeds s depth ts i (q + 1) td shape r → Proceeds s depth ts i q (build tree) shape r
comma {A} {s} {depth} {ts} {i} {shape} {r} q tree td d le stands goes_on go p = along
    (λ root round k a.
    takes {far = length ts} q (build tree) td (mark m.Comma) (near (length ts) i ts (omega arith) a) (within_limit a d) le stands.within stands
    (ap (λ x. first_of (place (record { word = mark m.Comma; spot = spot_of ts q }) x (spot_of ts i) (q - i) k) (give (record { word = mark m.Comma; spot = spot_of ts q }) k (q - i) tree)) (goes_on (record { word = mark m.Comma; spot = spot_of ts q }))
    ∙ ap (λ o. first_of o (give (record { word = mark m.Comma; spot = spot_of ts q }) k (q - i) tree)) (takes_some td (spot_of ts i) (q - i) k go)))
    p

-- What rc_expr reads of symbols that may stand outside of expressions.
module _ {A : Type 0} {s : Symbol} {depth far : ℕ} {ts : List CodeToken} {q : ℕ} {shape : A → TreeOf s} where
  pub from_anywhere : {r : Result (A × ℕ) ParseFault} → Flat s → length ts ≤ far → IfOk r (λ x. (q < x.1) × (x.1 ≤ length ts)) → ((x : A × ℕ) → r ≡ Ok x → Quiet s (spot_of ts q) (shape x.0) (from ts x.1)) →
      ReadsAnywhere s depth far ts q shape r → Parses s depth ts q shape r
  from_anywhere {r} f few place quiet p = by_answer r place quiet p
    where
      around : {root outer : Symbol} {round : ℕ} {own : Spot} (m : ℕ) {h : TreeOf s → Todo outer} {k : Stack root outer} → Outside round depth k → Around round depth far ts q (frame own m h k)
      around {root} {outer} {round} {own} m {h} {k} a =
          let n = a.nested in
          let b = near far q ts few (inner own m h f a) in
          record { nested = n; reach = b.reach }

      by_answer : (r : Result (A × ℕ) ParseFault) → IfOk r (λ x. (q < x.1) × (x.1 ≤ length ts)) → ((x : A × ℕ) → r ≡ Ok x → Quiet s (spot_of ts q) (shape x.0) (from ts x.1)) → ReadsAnywhere s depth far ts q shape r → Parses s depth ts q shape r
      by_answer (Ok x) place quiet p = record {
        goes = λ root outer round own i h k le a.
            let past = place.0 in
            let le2 : q ≤ x.1 = omega (arith, past) in
            p root round (frame own (q - i) h k) (around (q - i) a) ∙ closes_at s round ts own i q x.1 (shape x.0) h k le le2 (quiet x refl);
      }
      by_answer (Err e) place quiet p = record { goes = λ root outer round own i h k le a. p root round (frame own (q - i) h k) (around (q - i) a) }

  pub on_from_anywhere : {r : Result (A × ℕ) ParseFault} {td : Todo s} → length ts ≤ far → IfOk r (λ x. (q ≤ x.1) × (x.1 ≤ length ts)) → ((x : A × ℕ) → r ≡ Ok x → Quiet s (spot_of ts q) (shape x.0) (from ts x.1)) →
      Flat s → ContinuesAnywhere s depth far ts q q td shape r → Proceeds s depth ts q q td shape r
  on_from_anywhere {r} {td} few place quiet f p = by_answer r place quiet p
    where
      around : {root outer : Symbol} {round : ℕ} {own : Spot} (m : ℕ) {h : TreeOf s → Todo outer} {k : Stack root outer} → Outside round depth (frame {i = s} own m h k) → Around round depth far ts q (frame {i = s} own m h k)
      around {root} {outer} {round} {own} m {h} {k} a =
          let n = a.nested in
          let none = f.none in
          let b = near far q ts few a in
          record { nested = omega (arith, n, none); reach = b.reach }

      by_answer : (r : Result (A × ℕ) ParseFault) → IfOk r (λ x. (q ≤ x.1) × (x.1 ≤ length ts)) → ((x : A × ℕ) → r ≡ Ok x → Quiet s (spot_of ts q) (shape x.0) (from ts x.1)) → ContinuesAnywhere s depth far ts q q td shape r → Proceeds s depth ts q q td shape r
      by_answer (Ok x) place quiet p = record {
        goes = λ root outer round own i h k le a.
            p root round (frame own (q - i) h k) (around (q - i) a) ∙ closes_at s round ts own i q x.1 (shape x.0) h k le place.0 (quiet x refl);
      }
      by_answer (Err e) place quiet p = record { goes = λ root outer round own i h k le a. p root round (frame own (q - i) h k) (around (q - i) a) }

-- A symbol that counts its words, as far as 1,024 of them.
lt_shift : (i n : ℕ) → nat_lt 1024 n ≡ nat_lt (i + 1024) (i + n)
lt_shift i n = by_test (nat_lt 1024 n) refl
  where
    by_test : (b : Bool) → nat_lt 1024 n ≡ b → nat_lt 1024 n ≡ nat_lt (i + 1024) (i + n)
    by_test true e = let lt : i + 1024 < i + n = grind (arith, nat_tests) in let yes' : nat_lt (i + 1024) (i + n) ≡ true = grind (arith, nat_tests) in e ∙ sym yes'
    by_test false e = let le : i + n ≤ i + 1024 = grind (arith, nat_tests) in let no' : nat_lt (i + 1024) (i + n) ≡ false = grind (arith, nat_tests) in e ∙ sym no'

pub counted : {root outer j : Symbol} {round depth : ℕ} {k : Stack root outer} (ts : List CodeToken) (own : Spot) (i q : ℕ) (h : TreeOf j → Todo outer) → ((n r : ℕ) → reach j n r ≡ n) → Outside round depth k → Within round depth (q + 1024) ts q (frame own (q - i) h k)
counted {root} {outer} {j} {round} {depth} {k} ts own i q h counts a = record {
  nested = a.nested;
  reach = λ n r l. ap (λ x. nat_lt 1024 x) (ap (reached k ((q - i) + n)) (counts n r) ∙ a.reach ((q - i) + n) n) ∙ lt_shift q n;
}

pub from_counted : {A : Type 0} {s : Symbol} {depth : ℕ} {ts : List CodeToken} {q : ℕ} {shape : A → TreeOf s} {r : Result (A × ℕ) ParseFault} → ((n r : ℕ) → reach s n r ≡ n) → IfOk r (λ x. (q < x.1) × (x.1 ≤ length ts)) →
    ((x : A × ℕ) → r ≡ Ok x → Quiet s (spot_of ts q) (shape x.0) (from ts x.1)) → Reads s depth (q + 1024) ts q shape r → Parses s depth ts q shape r
from_counted {A} {s} {depth} {ts} {q} {shape} {r} counts place quiet p = by_answer r place quiet p
  where
    by_answer : (r : Result (A × ℕ) ParseFault) → IfOk r (λ x. (q < x.1) × (x.1 ≤ length ts)) → ((x : A × ℕ) → r ≡ Ok x → Quiet s (spot_of ts q) (shape x.0) (from ts x.1)) → Reads s depth (q + 1024) ts q shape r → Parses s depth ts q shape r
    by_answer (Ok x) place quiet p = record {
      goes = λ root outer round own i h k le a.
          let past = place.0 in
          let le2 : q ≤ x.1 = omega (arith, past) in
          p root round (frame own (q - i) h k) (counted ts own i q h counts a) ∙ closes_at s round ts own i q x.1 (shape x.0) h k le le2 (quiet x refl);
    }
    by_answer (Err e) place quiet p = record { goes = λ root outer round own i h k le a. p root round (frame own (q - i) h k) (counted ts own i q h counts a) }

-- A name that is not too far.
pub named_of : (ts : List CodeToken) (i far : ℕ) (r : Result (Name × ℕ) ParseFault) → length ts ≤ far → TakesName ts i far r → IsNamed ts i r
named_of ts i far (Ok r) few h = (h.0, h.2, h.3)
named_of ts i far (Err (Syntax line)) few h = h
named_of ts i far (Err (Deep line)) few h =
    let within = h.0.1.within in
    let le = h.1 in
    absurd (omega (arith, few, within, le))
named_of ts i far (Err Memory) few h = tt

-- The symbol is complete, and no word goes on with it.
pub ends_plain : {A : Type 0} {s : Symbol} {depth : ℕ} {ts : List CodeToken} {i : ℕ} {shape : A → TreeOf s} (e : ℕ) (x : A) (tree : TreeOf s) → tree ≡ shape x → i ≤ e → ((p : Placed) → tail s (spot_of ts i) (shape x) p ≡ only stop) →
    Proceeds s depth ts i e (build tree) shape (Ok (x, e))
ends_plain {A} {s} {depth} {ts} {i} {shape} e x tree same le none = ends e x tree same le (quiet (from ts e))
  where
    quiet : (ws : List Placed) → Quiet s (spot_of ts i) (shape x) ws
    quiet [] = tt
    quiet (p ∷ ps) = none p

pub wanting_first : {A : Type 0} {s : Symbol} {depth : ℕ} {ts : List CodeToken} {q : ℕ} {shape : A → TreeOf s} {f : ParseFault} → f ≡ Memory → Parses s depth ts q shape (Err f)
wanting_first {A} {s} {depth} {ts} {q} {shape} {f} e =
    subst (λ y. Parses s depth ts q shape (Err y)) (sym e) (record { goes = λ root outer round own i h k le a. tt })

pub wanting_start : {A : Type 0} {s : Symbol} {depth : ℕ} {ts : List CodeToken} {q : ℕ} {shape : A → TreeOf s} {f : ParseFault} → f ≡ Memory → Starts s depth ts q shape (Err f)
wanting_start {A} {s} {depth} {ts} {q} {shape} {f} e =
    subst (λ y. Starts s depth ts q shape (Err y)) (sym e) (record { goes = λ root outer round own i h k le a. tt })
