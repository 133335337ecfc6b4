-- How declarators of locals begin.
use Rattle.std.proofs.Common.{ℕ, ◌≡◌, ◌-◌, List, [], refl, ap, sym, ◌∙◌, arith, Result}
use Rattle.rc_syntax.specs.declared.fault.ParseFault.{ParseFault}
use Rattle.rc_syntax.specs.declared.word.Token.{Token as CodeToken}
use Rattle.rc_syntax.specs.declared.word.Mark.TheVariants as m
use Rattle.rc_syntax.specs.declared.tree.Spot.{Spot}
use Rattle.rc_syntax.specs.Tokens as w
use Rattle.rc_syntax.specs.Tokens.{Word, mark}
use Rattle.rc_syntax.specs.Grammar.{Symbol, TreeOf, LocalDec, Stars}
use Rattle.rc_syntax.specs.reader.Todo.{begin}
use Rattle.rc_syntax.specs.reader.Reading.{local_starred}
use Rattle.rc_syntax.specs.reader.Steps.{Stack, about, amid as at, step}
use Rattle.rc_words.specs.Words.{from, spot_of}
use Rattle.rc_expr.specs.Goes.{amid}
use Rattle.rc_words.proofs.Standing.{spot_first}
use Rattle.rc_expr.proofs.Running.{same_run}
use Rattle.rc_stmt.specs.Along.{Starts, Proceeds}
use Rattle.rc_stmt.proofs.Going.{along_start}

local_step : {root : Symbol} (sp : Spot) (x : Word) (k : Stack root LocalDec) → step (about k) (record { word = x; spot = sp }) ≡ step (at sp (begin Stars [] (local_starred sp)) 0 k) (record { word = x; spot = sp })
local_step sp (mark m.Star) k = refl
local_step sp (w.name x) k = refl
local_step sp _ k = refl

pub local_starts : {A : Type 0} {depth : ℕ} {ts : List CodeToken} {q : ℕ} {shape : A → TreeOf LocalDec} {r : Result (A × ℕ) ParseFault} →
    Proceeds LocalDec depth ts q q (begin Stars [] (local_starred (spot_of ts q))) shape r → Starts LocalDec depth ts q shape r
local_starts {A} {depth} {ts} {q} {shape} {r} p =
    let none : q - q ≡ 0 = omega arith in
    along_start
    (λ root round k a. same_run round (about k) (amid ts q q (begin Stars [] (local_starred (spot_of ts q))) k) (from ts q) refl
    (λ x xs e.
    local_step x.spot x.word k
    ∙ ap (λ sp. step (at sp (begin Stars [] (local_starred sp)) 0 k) x) (sym (spot_first ts q x xs e))
    ∙ ap (λ n. step (at (spot_of ts q) (begin Stars [] (local_starred (spot_of ts q))) n k) x) (sym none)))
    p
