-- Words that are tested.
use Rattle.std.proofs.Common.{◌≡◌, ◌∙◌, refl, ap, Some, [], ◌∷◌, List, ℕ, false}
use Rattle.rc_syntax.specs.declared.word.Token.{Token as CodeToken}
use Rattle.rc_syntax.specs.declared.word.Key.TheVariants as y
use Rattle.rc_syntax.specs.declared.word.Mark.TheVariants as m
use Rattle.rc_syntax.specs.declared.tree.Spot.{Spot}
use Rattle.rc_syntax.specs.Tokens.{Word, mark, key}
use Rattle.rc_syntax.specs.Grammar.{Symbol, TreeOf, Placed}
use Rattle.rc_syntax.specs.reader.Todo.{Todo, only, sees, when}
use Rattle.rc_syntax.specs.reader.Reading.{tail, is_open_brace, is_close_brace, is_open_bracket, is_semicolon, is_comma, is_equal, is_void, is_while, is_else}
use Rattle.rc_words.specs.Words.{from, word_in, Misses}
use Rattle.rc_expr.specs.Goes.{Quiet}
use Rattle.rc_expr.proofs.Tests.{comma_else}

pub open_brace_else : (x : Word) → (x ≡ mark m.OpenBrace → ⊥) → is_open_brace x ≡ false
open_brace_else (mark m.OpenBrace) h = absurd (h refl)
open_brace_else _ h = refl

pub close_brace_else : (x : Word) → (x ≡ mark m.CloseBrace → ⊥) → is_close_brace x ≡ false
close_brace_else (mark m.CloseBrace) h = absurd (h refl)
close_brace_else _ h = refl

pub open_bracket_else : (x : Word) → (x ≡ mark m.OpenBracket → ⊥) → is_open_bracket x ≡ false
open_bracket_else (mark m.OpenBracket) h = absurd (h refl)
open_bracket_else _ h = refl

pub semicolon_else : (x : Word) → (x ≡ mark m.Semicolon → ⊥) → is_semicolon x ≡ false
semicolon_else (mark m.Semicolon) h = absurd (h refl)
semicolon_else _ h = refl

pub equal_else : (x : Word) → (x ≡ mark m.Equal → ⊥) → is_equal x ≡ false
equal_else (mark m.Equal) h = absurd (h refl)
equal_else _ h = refl

pub void_else : (x : Word) → (x ≡ key y.Void → ⊥) → is_void x ≡ false
void_else (key y.Void) h = absurd (h refl)
void_else _ h = refl

pub while_else : (x : Word) → (x ≡ key y.While → ⊥) → is_while x ≡ false
while_else (key y.While) h = absurd (h refl)
while_else _ h = refl

pub else_else : (x : Word) → (x ≡ key y.Else → ⊥) → is_else x ≡ false
else_else (key y.Else) h = absurd (h refl)
else_else _ h = refl

quiet_list_in : {s : Symbol} (sp : Spot) (a : TreeOf s) (td : Todo s) (ws : List Placed) → ((p : Placed) → tail s sp a p ≡ only (sees is_comma td p)) → (word_in ws ≡ Some (mark m.Comma) → ⊥) → Quiet s sp a ws
quiet_list_in sp a td [] goes_on h = tt
quiet_list_in sp a td (p ∷ ps) goes_on h = goes_on p ∙ ap (λ b. only (when b td)) (comma_else p.word (λ e. h (ap Some e)))

-- A list after which no comma stands.
pub quiet_list : {s : Symbol} (ts : List CodeToken) (q : ℕ) (sp : Spot) (a : TreeOf s) (td : Todo s) → ((p : Placed) → tail s sp a p ≡ only (sees is_comma td p)) → Misses ts q (mark m.Comma) → Quiet s sp a (from ts q)
quiet_list ts q sp a td goes_on h = quiet_list_in sp a td (from ts q) goes_on h
