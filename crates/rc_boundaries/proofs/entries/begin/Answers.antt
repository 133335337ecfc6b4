use Rattle.std.proofs.Common.{◌≡◌, suc, ◌&&◌, false, IsTrue, ◌↔◌, length, ap, ◌∙◌, subst, arith}
use Rattle.std.proofs.lemmas.List.FromFn.{length-range_with_len}
use Rattle.rc_facts.specs.Facts.{holds, is_over, names}
use Rattle.rc_facts.specs.Derivable.{Derivable}
use Rattle.rc_boundaries.proofs.Handing.{begun_by, range_below}
use Rattle.rc_boundaries.proofs.Lost.{loses_as}
use Rattle.rc_boundaries.proofs.entries.begin.Goals as goal

pub read-requires-clause-names : goal.read-requires-clause-names
read-requires-clause-names c = range_below c.as_slice.result.now c.args.copies c.args.entry.now.variables (c.as_slice.ensures.value ∙ c.in_ok-own.ensures) c.requires.copies

pub read-requires-clause-room : goal.read-requires-clause-room
read-requires-clause-room c =
    let long = ap length (c.as_slice.ensures.value ∙ c.in_ok-own.ensures) ∙ length-range_with_len 0 c.args.copies in
    let hidden = c.requires.hidden in
    omega (arith, long, hidden)

pub returns : goal.returns
returns c =
    let wide = c.in_ok-known.ensures.variables in
    let s = c.args.spare in
    let gone = c.forget.new.self in
    loses_as c.lose.result c.args.sets.now c.lose.new.sets (λ p fact. p ≡ 0 → IsTrue (holds gone fact)) (λ p fact. p ≡ 0 → Derivable (suc s) (λ q. is_over c.args.copies q && holds c.args.entry.now q) fact × (names s fact ≡ false))
    (λ p fact. (
    let is = begun_by c.args.copies s c.as_slice.result.now c.args.entry.now (holds c.in_ok-known.known) (holds c.close.new.self) (holds gone) (c.as_slice.ensures.value ∙ c.in_ok-own.ensures) c.in_ok-known.ensures.facts
    (λ p. subst (λ m. IsTrue (holds c.close.new.self p) ↔ Derivable m (holds c.in_ok-known.known) p) (omega (arith, wide)) (c.close.ensures.facts p)) c.forget.ensures.facts fact in
    (λ h e. is.0 (h e), λ h e. is.1 (h e))))
    c.lose.ensures
