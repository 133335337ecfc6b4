-- A text is cut in one way, as far as it can be, and what is found at a place is what is read there.
use Rattle.std.proofs.Common.{ℕ, zero, suc, ◌≡◌, ◌≤◌, List, [], ◌∷◌, ◌++◌, append_assoc, append-nil, length, take, drop, Option, Some, None, refl, ap, sym, ◌∙◌, subst, arith, inl, inr, length-drop}
use Rattle.std.specs.Prelude.{◌⊎◌}
use Rattle.rc_syntax.specs.Tokens.{Word, Token}
use Rattle.rc_syntax.specs.Bytes.{line_behind}
use Rattle.rc_syntax.specs.Words.{Piece, Reads, with_line, Cut, end, piece, Words, IsStuck, StopsAt}
use Rattle.rc_syntax.specs.reader.Look.{Seen, look}
use Rattle.rc_syntax.proofs.ByteLaws.{drop_front, take_front, same_length}
use Rattle.rc_syntax.proofs.NamesAndMarks.{Within}
use Rattle.rc_syntax.proofs.PieceLaws.{look_stands, look_within, look_fits}

within : (before text bytes rest : List ℕ) (seen : Option Word) (r : Option Seen) → look before text ≡ r → text ≡ bytes ++ rest → Piece before bytes rest seen → Within r (length bytes) seen
within before text bytes rest seen r e f p = let P : Option Seen → Type 0 = λ z. Within z (length bytes) seen in subst P (sym (ap (look before) f) ∙ e) (look_within before bytes rest seen p)

-- nothing found, nothing stands there
pub look_stuck : (before text : List ℕ) → look before text ≡ None → IsStuck before text
look_stuck before text e bytes rest seen f p = within before text bytes rest seen None e f p

pub nothing : (before : List ℕ) → IsStuck before []
nothing before = look_stuck before [] refl

-- what is found is read
pub look_reads : (before text : List ℕ) (x : Seen) → look before text ≡ Some x → Reads before text (take x.0 text) x.1 (drop x.0 text)
look_reads before text x e =
    let s = look_stands before text x e in
    let t : take x.0 text ≡ s.bytes = ap (λ z. take z text) s.count ∙ ap (take (length s.bytes)) s.is ∙ take_front s.bytes s.rest in
    let d : drop x.0 text ≡ s.rest = ap (λ z. drop z text) s.count ∙ ap (drop (length s.bytes)) s.is ∙ drop_front s.bytes s.rest in
    let r : Reads before text s.bytes x.1 s.rest = record {
      cut = s.is;
      piece = s.piece;
      longest = λ longer further other f p. elim (within before text longer further other (Some x) e f p) [ inl w ↦ omega (arith, s.count) | inr w ↦ omega (arith, s.count, w.0) ];
    } in
    let P : List ℕ → Type 0 = λ z. Reads before text z x.1 (drop x.0 text) in
    let Q : List ℕ → Type 0 = λ z. Reads before text s.bytes x.1 z in
    subst P (sym t) (subst Q (sym d) r)

-- what is read is found
pub reads_look : (before text bytes rest : List ℕ) (seen : Option Word) → Reads before text bytes seen rest → look before text ≡ Some (length bytes, seen)
reads_look before text bytes rest seen r = go (look before text) refl
  where
    go : (o : Option Seen) → look before text ≡ o → o ≡ Some (length bytes, seen)
    go None e = absurd (within before text bytes rest seen None e r.cut r.piece)
    go (Some x) e = elim (within before text bytes rest seen (Some x) e r.cut r.piece) [
      | inl w ↦ (let s = look_stands before text x e in absurd (omega (arith, s.count, r.longest s.bytes s.rest x.1 s.is s.piece)))
      | inr w ↦ (let f = w.0 in let g = w.1 in ap (λ z. Some (z, x.1)) (sym f) ∙ ap (λ z. Some (length bytes, z)) (sym g))
    ]

pub one_reading : (before text p q r s : List ℕ) (o u : Option Word) → Reads before text p o r → Reads before text q u s → (p ≡ q) × (o ≡ u) × (r ≡ s)
one_reading before text p q r s o u x y =
    let e : ◌≡◌ {A = Option Seen} (Some (length p, o)) (Some (length q, u)) = sym (reads_look before text p r o x) ∙ reads_look before text q s u y in
    let d : ◌≡◌ {A = Seen} (length p, o) (length q, u) = cc in
    let f : length p ≡ length q = ap (λ (z : Seen). z.0) d in
    let g : o ≡ u = ap (λ (z : Seen). z.1) d in
    let k = same_length p r q s (sym x.cut ∙ y.cut) f in
    (k.0, g, k.1)

pub one_cut : {before text read rest stay left : List ℕ} {ts us : List Token} → Cut before text ts read rest → IsStuck read rest → Cut before text us stay left → IsStuck stay left →
    (ts ≡ us) × (read ≡ stay) × (rest ≡ left)
one_cut end h end i = (refl, refl, refl)
one_cut end h (piece x d) i = absurd (h _ _ _ x.cut x.piece)
one_cut (piece x c) h end i = absurd (i _ _ _ x.cut x.piece)
one_cut {before = before} {text = text} {stay = stay} {left = left} {us = us} (piece {bytes = p} {middle = m} {seen = o} {tokens = ts} x c) h (piece {bytes = q} {middle = l} {seen = u} {tokens = vs} y d) i =
    let e = one_reading before text p q m l o u x y in
    let P : List ℕ → Type 0 = λ z. Cut (before ++ p) z vs stay left in
    let Q : List ℕ → Type 0 = λ z. Cut (before ++ z) l vs stay left in
    let k = one_cut c h (subst P (sym e.2) (subst Q (sym e.0) d)) i in
    (ap (λ z. with_line (line_behind before) z ts) e.1 ∙ ap (with_line (line_behind before) u) k.0, k.1, k.2)

with_line-append : (n : ℕ) (o : Option Word) (ts us : List Token) → with_line n o ts ++ us ≡ with_line n o (ts ++ us)
with_line-append n None ts us = refl
with_line-append n (Some w) ts us = refl

-- one piece more
pub cut_more : {before text read rest bytes more : List ℕ} {ts : List Token} {seen : Option Word} → Cut before text ts read rest → Reads read rest bytes seen more →
    Cut before text (ts ++ with_line (line_behind read) seen []) (read ++ bytes) more
cut_more end x = piece x end
cut_more {before = before} {text = text} {read = read} {bytes = bs} {more = more} {seen = u} (piece {seen = o} {tokens = ts} y c) x =
    let P : List Token → Type 0 = λ z. Cut before text z (read ++ bs) more in
    subst P (sym (with_line-append (line_behind before) o ts (with_line (line_behind read) u []))) (piece y (cut_more c x))

pub one_list : (text : List ℕ) (ts us : List Token) → Words text ts → Words text us → ts ≡ us
one_list text ts us x y = (one_cut x (nothing text) y (nothing text)).0

pub one_place : (text : List ℕ) (b c l m : ℕ) → StopsAt text b l → StopsAt text c m → (b ≡ c) × (l ≡ m)
one_place text b c l m x y =
    let e = one_cut x.cut x.stuck y.cut y.stuck in
    let f : b ∷ x.others ≡ c ∷ y.others = e.2 in
    ((cc), x.on_line ∙ ap line_behind e.1 ∙ sym y.on_line)

pub read_or_stopped : (text : List ℕ) (ts : List Token) (b l : ℕ) → Words text ts → StopsAt text b l → ⊥
read_or_stopped text ts b l x y =
    let e = one_cut x (nothing text) y.cut y.stuck in
    let f : [] ≡ b ∷ y.others = e.2 in cc

-- nothing is lost in a cut
cut_whole : {before text read rest : List ℕ} {ts : List Token} → Cut before text ts read rest → read ++ rest ≡ before ++ text
cut_whole end = refl
cut_whole {before = before} {text = text} (piece {bytes = bytes} {middle = middle} x c) = cut_whole c ∙ append_assoc before bytes middle ∙ ap (λ z. before ++ z) (sym x.cut)

-- a text is cut as far as it can be
record Stopped (before text : List ℕ) : Type 0 where
  tokens : List Token
  read : List ℕ
  rest : List ℕ
  cut : Cut before text tokens read rest
  stuck : IsStuck read rest

cut_far : (fuel : ℕ) (before text : List ℕ) → length text ≤ fuel → Stopped before text
cut_far zero before [] h = record { tokens = []; read = before; rest = []; cut = end; stuck = nothing before }
cut_far zero before (b ∷ text) h = absurd (omega arith)
cut_far (suc fuel) before text h = go (look before text) refl (λ bytes rest short. cut_far fuel (before ++ bytes) rest short)
  where
    go : (o : Option Seen) → look before text ≡ o → ((bytes rest : List ℕ) → length rest ≤ fuel → Stopped (before ++ bytes) rest) → Stopped before text
    go None e again = record { tokens = []; read = before; rest = text; cut = end; stuck = look_stuck before text e }
    go (Some x) e again =
        let f = look_fits before text x e in
        let w = again (take x.0 text) (drop x.0 text) (omega (arith, f.0, f.1, length-drop x.0 text)) in
        record { tokens = with_line (line_behind before) x.1 w.tokens; read = w.read; rest = w.rest; cut = piece (look_reads before text x e) w.cut; stuck = w.stuck }

pub words_or_stop : (text : List ℕ) → ((ts : List Token) × Words text ts) ⊎ ((b : ℕ) × (l : ℕ) × StopsAt text b l)
words_or_stop text = go s.rest s.cut s.stuck
  where
    s : Stopped [] text
    s = cut_far (length text) [] text (omega arith)

    go : (rest : List ℕ) → Cut [] text s.tokens s.read rest → IsStuck s.read rest → ((ts : List Token) × Words text ts) ⊎ ((b : ℕ) × (l : ℕ) × StopsAt text b l)
    go [] c i =
        let e : s.read ≡ text = sym (append-nil s.read) ∙ cut_whole c in
        let P : List ℕ → Type 0 = λ z. Cut [] text s.tokens z [] in
        inl (s.tokens, subst P e c)
    go (b ∷ others) c i = inr (b, line_behind s.read, record { tokens = s.tokens; read = s.read; others = others; cut = c; stuck = i; on_line = refl })
