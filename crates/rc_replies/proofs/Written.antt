-- What was put in several calls.
use Rattle.std.proofs.Common.{◌≡◌, ◌+◌, ◌∙◌, ℕ, List, ◌++◌, length, take, Result, Ok, Err, refl, sym, subst, arith, length-append}
use Rattle.std.proofs.Math.Seq.{take-append-add}
use Rattle.std.proofs.lemmas.List.{take-append-le}
use Rattle.rc_base.specs.Causes.{Rose}
use Rattle.rc_base.specs.Sinks.{SinkState, Took}
use Rattle.rc_base.specs.declared.outside.Failed.{Failed}
use Rattle.rc_base.proofs.ActLaws.{took_then}
use Rattle.rc_replies.specs.Writing.{StoppedIn, WritesUntil}

pub stopped_within : (xs ys : List ℕ) (before after : SinkState) → StoppedIn xs before after → StoppedIn (xs ++ ys) before after
stopped_within xs ys before after stop =
    let below = stop.1 in
    let all = length-append xs ys in
    (stop.0, omega (arith, below, all), subst (λ (bytes : List ℕ). Took bytes before after) (sym (take-append-le stop.0 xs ys (omega (arith, below)))) stop.2)

pub stopped_behind : (xs ys : List ℕ) (a b c : SinkState) → b.tells ≡ a.tells → Took xs a b → StoppedIn ys b c → StoppedIn (xs ++ ys) a c
stopped_behind xs ys a b c tells first stop =
    let below = stop.1 in
    let all = length-append xs ys in
    (length xs + stop.0, omega (arith, below, all), subst (λ (bytes : List ℕ). Took bytes a c) (sym (take-append-add xs ys stop.0)) (took_then xs (take stop.0 ys) a b c tells first stop.2))

-- a call failed, and what was to be put behind it was not
pub until_cut : {T U : Type 0} (xs ys : List ℕ) (before after : SinkState) (e : Failed) → WritesUntil {T = T} xs before after (Err e) → WritesUntil {T = U} (xs ++ ys) before after (Err e)
until_cut xs ys before after e w = record {
  tells = w.tells;
  ok = tt;
  failed = stopped_within xs ys before after w.failed;
  flushed = w.flushed;
  cause = record { never_falls = w.cause.never_falls; failed = λ is. w.cause.failed is; kept = λ is. cc };
}

-- two calls
pub until_then : {T U : Type 0} (xs ys : List ℕ) (a b c : SinkState) (value : T) (result : Result U Failed) → WritesUntil xs a b (Ok value) → WritesUntil ys b c result → WritesUntil (xs ++ ys) a c result
until_then xs ys a b c value (Ok last) first next = record {
  tells = next.tells ∙ first.tells;
  ok = took_then xs ys a b c first.tells first.ok next.ok;
  failed = tt;
  flushed = λ tells. next.flushed (first.tells ∙ tells) ∙ first.flushed tells;
  cause = record { never_falls = omega (arith, first.cause.never_falls, next.cause.never_falls); failed = λ is. cc; kept = λ is. next.cause.kept is ∙ first.cause.kept refl };
}
until_then xs ys a b c value (Err e) first next = record {
  tells = next.tells ∙ first.tells;
  ok = tt;
  failed = stopped_behind xs ys a b c first.tells first.ok next.failed;
  flushed = λ tells. next.flushed (first.tells ∙ tells) ∙ first.flushed tells;
  cause = record { never_falls = omega (arith, first.cause.never_falls, next.cause.never_falls); failed = λ is. subst (λ (n : ℕ). Rose n c.faults) (first.cause.kept refl) (next.cause.failed is); kept = λ is. cc };
}
