-- What a `getchar` gives, of what is left of the input.
use Rattle.std.proofs.Common.{◌≡◌, ◌++◌, ◌∷◌, [], ℕ, pos, negsuc, List, drop, refl, sym, subst}
use Rattle.rc_base.specs.Acts.{Getchar}
use Rattle.rc_core.specs.Runs.{Go}
use Rattle.rc_memory.specs.KeptWorld.{KeptWorld, kept, byte_from}
use Rattle.rc_slow.specs.Outside.{later}

pub asked_none : (w : KeptWorld) → w.input ≡ [] → kept.get_byte w ≡ Go (negsuc 0) (later (Getchar ∷ []) w)
asked_none w is =
    let P : List ℕ → Type 0 = λ i. byte_from i (record w { input = i }) ≡ Go (negsuc 0) (record w { acts = w.acts ++ Getchar ∷ []; input = drop 1 i }) in
    subst P (sym is) refl

pub asked_some : (w : KeptWorld) (b : ℕ) (rest : List ℕ) → w.input ≡ b ∷ rest → kept.get_byte w ≡ Go (pos b) (later (Getchar ∷ []) w)
asked_some w b rest is =
    let P : List ℕ → Type 0 = λ i. byte_from i (record w { input = i }) ≡ Go (pos b) (record w { acts = w.acts ++ Getchar ∷ []; input = drop 1 i }) in
    subst P (sym is) refl
