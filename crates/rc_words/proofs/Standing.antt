-- Laws of the words of a list.
use Rattle.std.proofs.Common.{ℕ, ◌≡◌, ◌<◌, ◌≤◌, ◌+◌, ◌-◌, List, [], ◌∷◌, Some, None, length, drop, slice_index_or, ap, sym, ◌∙◌, arith}
use Rattle.std.specs.Prelude.{slice_get}
use Rattle.std.proofs.lemmas.List.{drop_more, drop_all}
use Rattle.rc_syntax.specs.declared.word.Token.{Token as CodeToken}
use Rattle.rc_syntax.specs.declared.word.Mark.{Mark}
use Rattle.rc_syntax.specs.declared.word.Key.{Key}
use Rattle.rc_syntax.specs.Tokens.{Word, Token, mark, key}
use Rattle.rc_syntax.specs.WordShapes.{word_of, tokens_of}
use Rattle.rc_syntax.specs.Grammar.{Placed, placed}
use Rattle.rc_syntax.specs.Place.{line_at, last_line}
use Rattle.rc_words.specs.Words.{from, line_of, spot_of, word_in, word_at, mark_in, key_in, Stands, Misses}

pub from_more : (ts : List CodeToken) (i : ℕ) (d : CodeToken) → i < length ts →
    from ts i ≡ record { word = word_of (slice_index_or ts i d).word; spot = record { place = i; line = (slice_index_or ts i d).line } } ∷ from ts (i + 1)
from_more ts i d h = ap (λ xs. placed i (tokens_of xs)) (drop_more ts i d h)

pub line_here : (ts : List CodeToken) (i : ℕ) (d : CodeToken) → i < length ts → (slice_index_or ts i d).line ≡ line_of ts i
line_here ts i d h = sym (ap (line_at (tokens_of ts)) (from_more ts i d h))

pub stands_here : (ts : List CodeToken) (i : ℕ) (d : CodeToken) (w : Word) → i < length ts → word_of (slice_index_or ts i d).word ≡ w → Stands ts i w
stands_here ts i d w h e = record {
  within = h;
  here = from_more ts i d h
      ∙ ap (λ l. record { word = word_of (slice_index_or ts i d).word; spot = record { place = i; line = l } } ∷ from ts (i + 1)) (line_here ts i d h)
      ∙ ap (λ x. record { word = x; spot = spot_of ts i } ∷ from ts (i + 1)) e;
}

pub from_past : (ts : List CodeToken) (i : ℕ) → length ts ≤ i → from ts i ≡ []
from_past ts i h = ap (λ xs. placed i (tokens_of xs)) (drop_all i ts h)

pub line_past : (ts : List CodeToken) (i : ℕ) → length ts ≤ i → line_of ts i ≡ last_line (tokens_of ts)
line_past ts i h = ap (line_at (tokens_of ts)) (from_past ts i h)

last_more : (a : CodeToken) (more : List CodeToken) (t : CodeToken) → slice_get (a ∷ more) (length more) ≡ Some t → t.line ≡ last_line (tokens_of (a ∷ more))
last_more a [] t e = sym (ap (λ o. elim o [ Some x ↦ x.line | None ↦ t.line ]) e)
last_more a (b ∷ more) t e = last_more b more t e

pub last_is : (ts : List CodeToken) (t : CodeToken) → slice_get ts (length ts - 1) ≡ Some t → t.line ≡ last_line (tokens_of ts)
last_is [] t e = absurd cc
last_is (a ∷ more) t e =
    let one : length (a ∷ more) - 1 ≡ length more = omega arith in
    last_more a more t (ap (slice_get (a ∷ more)) (sym one) ∙ e)

pub word_stands : (ts : List CodeToken) (i : ℕ) (w : Word) → Stands ts i w → word_at ts i ≡ Some w
word_stands ts i w s = ap word_in s.here

pub no_word : (ts : List CodeToken) (i : ℕ) → from ts i ≡ [] → word_at ts i ≡ None
no_word ts i e = ap word_in e

pub no_mark : (ts : List CodeToken) (i : ℕ) (m : Mark) → (mark_in (word_at ts i) ≡ Some m → ⊥) → Misses ts i (mark m)
no_mark ts i m h e = h (ap mark_in e)

pub no_key : (ts : List CodeToken) (i : ℕ) (m : Key) → (key_in (word_at ts i) ≡ Some m → ⊥) → Misses ts i (key m)
no_key ts i m h e = h (ap key_in e)

placed_spot : (i : ℕ) (l : List Token) (p : Placed) (ps : List Placed) → placed i l ≡ p ∷ ps → record { place = i; line = p.spot.line } ≡ p.spot
placed_spot i [] p ps e = absurd cc
placed_spot i (a ∷ rest) p ps e =
    let q : Placed = record { word = a.word; spot = record { place = i; line = a.line } } in
    let same : q ≡ p = ap (λ l. elim l [ x ∷ xs ↦ x | [] ↦ q ]) e in
    ap (λ x. record { place = i; line = x.spot.line }) (sym same) ∙ ap (λ x. x.spot) same

-- The first of the words from a place on stands at the place.
pub spot_first : (ts : List CodeToken) (i : ℕ) (p : Placed) (ps : List Placed) → from ts i ≡ p ∷ ps → spot_of ts i ≡ p.spot
spot_first ts i p ps e =
    ap (λ l. record { place = i; line = line_at (tokens_of ts) l }) e ∙ placed_spot i (tokens_of (drop i ts)) p ps e
