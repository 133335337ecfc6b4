-- Indices that were read keep their bounds.
use Rattle.std.proofs.Common.{◌≡◌, ℕ, zero, suc, ◌≤◌, ◌<◌, ltb, List, [], ◌∷◌, length, Ok, subst}
use Rattle.std.specs.List.{AllByRecursion as Every}
use Rattle.std.proofs.lemmas.Bool.{ltb-true, ltb-false}
use Rattle.rc_code.specs.declared.image.Index.{Index}
use Rattle.rc_code.specs.Image.{IndexFits}
use Rattle.rc_fields.specs.Reading.{field, number_at, number_within, many, counted_at, kind_at, index_at}
use Rattle.rc_fields.proofs.Codecs.{bind_ok, no_then, no_else, ok_is}

within_bounds : (least bound : ℕ) (bytes : List ℕ) (x : ℕ × List ℕ) → number_within least bound bytes ≡ Ok x → (least ≤ x.0) × (x.0 < bound)
unfolding number_within
within_bounds least bound bytes x e =
    let a = bind_ok (number_at bytes) _ x e in
    let p = no_then (ltb a.0.0 least) (field (length bytes)) _ x a.2 in
    let q = no_else (ltb a.0.0 bound) (field (length bytes)) (Ok a.0) x p.1 in
    subst (λ (y : ℕ × List ℕ). (least ≤ y.0) × (y.0 < bound)) (ok_is a.0 x q.1) (ltb-false a.0.0 least p.0, ltb-true a.0.0 bound q.0)

index_fits : (bytes : List ℕ) (x : Index × List ℕ) → index_at bytes ≡ Ok x → IndexFits x.0
unfolding index_at
index_fits bytes x e =
    let a = bind_ok (number_within 1 4294967296 bytes) _ x e in
    let b = bind_ok (number_within 1 4294967296 a.0.1) _ x a.2 in
    let c = bind_ok (kind_at b.0.1) _ x b.2 in
    let made : Index × List ℕ = (record { length = a.0.0; stride = b.0.0; kind = c.0.0 }, c.0.1) in
    let l = within_bounds 1 4294967296 bytes a.0 a.1 in
    let s = within_bounds 1 4294967296 a.0.1 b.0 b.1 in
    subst (λ (y : Index × List ℕ). IndexFits y.0) (ok_is made x c.2) (record { some = l.0; apart = s.0; most = l.1; far = s.1 })

many_fit : (count : ℕ) (bytes : List ℕ) (x : List Index × List ℕ) → many index_at count bytes ≡ Ok x → Every IndexFits x.0
unfolding many
many_fit zero bytes x e =
    let made : List Index × List ℕ = ([], bytes) in
    subst (λ (y : List Index × List ℕ). Every IndexFits y.0) (ok_is made x e) tt
many_fit (suc n) bytes x e =
    let a = bind_ok (index_at bytes) _ x e in
    let b = bind_ok (many index_at n a.0.1) _ x a.2 in
    let made : List Index × List ℕ = (a.0.0 ∷ b.0.0, b.0.1) in
    subst (λ (y : List Index × List ℕ). Every IndexFits y.0) (ok_is made x b.2) (index_fits bytes a.0 a.1, many_fit n a.0.1 b.0 b.1)

-- so are those of a path
pub indices_fit : (bytes : List ℕ) (x : List Index × List ℕ) → counted_at index_at bytes ≡ Ok x → Every IndexFits x.0
unfolding counted_at
indices_fit bytes x e =
    let a = bind_ok (number_at bytes) _ x e in
    many_fit a.0.0 a.0.1 x a.2
