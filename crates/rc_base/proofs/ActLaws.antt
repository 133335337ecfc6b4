-- Laws of acts, and of what sinks took.
use Rattle.std.proofs.Common.{◌≡◌, ◌+◌, ◌∙◌, ℕ, List, [], ◌∷◌, ◌++◌, length, refl, sym, ap, arith, append-nil, append_assoc}
use Rattle.std.proofs.lemmas.Grind.{common_steps}
use Rattle.rc_base.specs.Acts.{Act, Write, Getchar, output, getchars}
use Rattle.rc_base.specs.Sinks.{SinkState, Took, TookFront}

pub output-append : (a b : List Act) → output (a ++ b) ≡ output a ++ output b
output-append [] b = refl
output-append (Write byte ∷ a) b = ap (λ bytes. byte ∷ bytes) (output-append a b)
output-append (Getchar ∷ a) b = output-append a b

pub getchars-append : (a b : List Act) → getchars (a ++ b) ≡ getchars a + getchars b
getchars-append [] b = omega arith
getchars-append (Write byte ∷ a) b = getchars-append a b
getchars-append (Getchar ∷ a) b = omega (arith, getchars-append a b)

pub took_nothing : (sink : SinkState) → Took [] sink sink
took_nothing sink = λ tells. sym (append-nil sink.taken)

pub took_front : (bytes : List ℕ) (before after : SinkState) → Took [] before after → TookFront bytes before after
took_front bytes before after took = (0, took)

pub took_all : (bytes : List ℕ) (before after : SinkState) → Took bytes before after → TookFront bytes before after
took_all bytes before after took = (length bytes, λ tells. took tells ∙ grind (arith, common_steps))

-- first these bytes, then those
pub took_then : (xs ys : List ℕ) (a b c : SinkState) → b.tells ≡ a.tells → Took xs a b → Took ys b c → Took (xs ++ ys) a c
took_then xs ys a b c same first next = λ tells. next (same ∙ tells) ∙ ap (λ taken. taken ++ ys) (first tells) ∙ append_assoc a.taken xs ys
