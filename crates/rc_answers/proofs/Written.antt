-- What was written in several calls.
use Rattle.std.proofs.Common.{◌≡◌, ◌+◌, ◌∙◌, ℕ, min, List, [], ◌++◌, length, take, Result, Ok, Err, Option, Some, None, refl, sym, subst, arith}
use Rattle.std.proofs.Math.Seq.{take-append-add}
use Rattle.std.proofs.lemmas.List.{take_min, take-append-le}
use Rattle.rc_base.specs.Causes.{Rose}
use Rattle.rc_base.specs.Sinks.{SinkState, Took, TookFront, Writes}
use Rattle.rc_base.specs.declared.outside.Failed.{Failed}
use Rattle.rc_answers.specs.Pieces.{all_numbered, numbered}
use Rattle.rc_answers.specs.declared.numbered.Numbered.{Numbered}
use Rattle.rc_base.proofs.ActLaws.{took_nothing, took_then}

front_within : (xs ys : List ℕ) (before after : SinkState) → TookFront xs before after → TookFront (xs ++ ys) before after
front_within xs ys before after front =
    let n = min front.0 (length xs) in
    (n, subst (λ (bytes : List ℕ). Took bytes before after) (sym (take_min front.0 xs) ∙ sym (take-append-le n xs ys (omega arith))) front.1)

front_behind : (xs ys : List ℕ) (a b c : SinkState) → b.tells ≡ a.tells → Took xs a b → TookFront ys b c → TookFront (xs ++ ys) a c
front_behind xs ys a b c tells first front =
    (length xs + front.0, subst (λ (bytes : List ℕ). Took bytes a c) (sym (take-append-add xs ys front.0)) (took_then xs (take front.0 ys) a b c tells first front.1))

-- nothing was written
pub writes_nothing : {T : Type 0} (sink : SinkState) (value : T) → Writes [] sink sink (Ok value)
writes_nothing sink value = record {
  tells = refl;
  ok = took_nothing sink;
  failed = tt;
  flushed = λ tells. refl;
  cause = record { never_falls = omega arith; failed = λ e. cc; kept = λ e. refl };
}

-- a call failed, and what was to be written behind it was not
pub writes_cut : {T U : Type 0} (xs ys : List ℕ) (before after : SinkState) (e : Failed) → Writes {T = T} xs before after (Err e) → Writes {T = U} (xs ++ ys) before after (Err e)
writes_cut xs ys before after e w = record {
  tells = w.tells;
  ok = tt;
  failed = front_within xs ys before after w.failed;
  flushed = w.flushed;
  cause = record { never_falls = w.cause.never_falls; failed = λ is. w.cause.failed is; kept = λ is. cc };
}

-- two calls
pub writes_then : {T U : Type 0} (xs ys : List ℕ) (a b c : SinkState) (value : T) (result : Result U Failed) → Writes xs a b (Ok value) → Writes ys b c result → Writes (xs ++ ys) a c result
writes_then xs ys a b c value (Ok last) first next = record {
  tells = next.tells ∙ first.tells;
  ok = took_then xs ys a b c first.tells first.ok next.ok;
  failed = tt;
  flushed = λ tells. next.flushed (first.tells ∙ tells) ∙ first.flushed tells;
  cause = record { never_falls = omega (arith, first.cause.never_falls, next.cause.never_falls); failed = λ is. cc; kept = λ is. next.cause.kept is ∙ first.cause.kept refl };
}
writes_then xs ys a b c value (Err e) first next = record {
  tells = next.tells ∙ first.tells;
  ok = tt;
  failed = front_behind xs ys a b c first.tells first.ok next.failed;
  flushed = λ tells. next.flushed (first.tells ∙ tells) ∙ first.flushed tells;
  cause = record { never_falls = omega (arith, first.cause.never_falls, next.cause.never_falls); failed = λ is. subst (λ (n : ℕ). Rose n c.faults) (first.cause.kept refl) (next.cause.failed is); kept = λ is. cc };
}

-- a line whose text was not written whole
pub line_cut : (text : List ℕ) (first second : Option Numbered) (a b : SinkState) (e : Failed) → Writes {T = Unit {0}} text a b (Err e) → Writes {T = Unit {0}} (all_numbered text first second) a b (Err e)
line_cut text None second a b e w = w
line_cut text (Some n) None a b e w = writes_cut text (numbered n) a b e w
line_cut text (Some n) (Some m) a b e w = writes_cut (text ++ numbered n) (numbered m) a b e (let front : Writes {T = Unit {0}} (text ++ numbered n) a b (Err e) = writes_cut text (numbered n) a b e w in front)

-- a line whose first number was not written whole
pub line_cut_behind : (text : List ℕ) (first second : Option Numbered) (n : Numbered) (a b c : SinkState) (value : Unit {0}) (e : Failed) → first ≡ Some n → Writes text a b (Ok value) → Writes {T = Unit {0}} (numbered n) b c (Err e) → Writes {T = Unit {0}} (all_numbered text first second) a c (Err e)
line_cut_behind text first second n a b c value e is w v = subst (λ (o : Option Numbered). Writes {T = Unit {0}} (all_numbered text o second) a c (Err e)) (sym is) (by second) where
  by : (o : Option Numbered) → Writes {T = Unit {0}} (all_numbered text (Some n) o) a c (Err e)
  by None = writes_then text (numbered n) a b c value (Err e) w v
  by (Some m) = writes_cut (text ++ numbered n) (numbered m) a c e (writes_then text (numbered n) a b c value (Err e) w v)

pub line_whole : (text : List ℕ) (first second : Option Numbered) (n m : Numbered) (a b c d : SinkState) (value other : Unit {0}) (result : Result (Unit {0}) Failed) → first ≡ Some n → second ≡ Some m → Writes text a b (Ok value) → Writes (numbered n) b c (Ok other) → Writes (numbered m) c d result → Writes (all_numbered text first second) a d result
line_whole text first second n m a b c d value other result is is' w v u =
    subst (λ (o : Option Numbered). Writes (all_numbered text o second) a d result) (sym is)
    (subst (λ (o : Option Numbered). Writes (all_numbered text (Some n) o) a d result) (sym is')
    (writes_then (text ++ numbered n) (numbered m) a c d other result (writes_then text (numbered n) a b c value (Ok other) w v) u))
