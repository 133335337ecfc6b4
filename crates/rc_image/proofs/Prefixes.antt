-- The bytes of no image begin those of another.
use Rattle.std.proofs.Common.{◌≡◌, ℕ, List, [], ◌++◌, Result, Ok, sym, ap, ◌∙◌}
use Rattle.std.proofs.lemmas.List.{append-nil}
use Rattle.rc_code.specs.declared.image.Parts.{Parts}
use Rattle.rc_code.specs.Image.{FieldsFit}
use Rattle.rc_image.specs.declared.version.Version.{Version}
use Rattle.rc_image.specs.Spelling.{parts_bytes, spelling}
use Rattle.rc_fields.specs.Reading.{Fault}
use Rattle.rc_image.specs.Reading.{start_at, parts_at}
use Rattle.rc_fields.proofs.Codecs.{ok_is}
use Rattle.rc_image.proofs.Wholes.{start_again, parts_again}

starts : (v w : Version) (p q : Parts) (rest : List ℕ) → spelling v p ++ rest ≡ spelling w q → ◌≡◌ {A = Version × List ℕ} (v, parts_bytes v p ++ rest) (w, parts_bytes w q)
starts v w p q rest e = ok_is (v, parts_bytes v p ++ rest) (w, parts_bytes w q) (sym (start_again v (parts_bytes v p ++ rest)) ∙ ap start_at e ∙ start_again w (parts_bytes w q))

pub same_version : (v w : Version) (p q : Parts) (rest : List ℕ) → FieldsFit p → FieldsFit q → spelling v p ++ rest ≡ spelling w q → v ≡ w
same_version v w p q rest pf qf e = ap (λ (x : Version × List ℕ). x.0) (starts v w p q rest e)

in_one_version : (v w : Version) (p q : Parts) (rest : List ℕ) → FieldsFit q → (x : Version × List ℕ) → x.0 ≡ w → x.1 ≡ parts_bytes w q → ◌≡◌ {A = Result (Parts × List ℕ) Fault} (parts_at x.0 x.1) (Ok (q, []))
in_one_version v w p q rest qf x same bytes = rw (same, bytes) (ap (parts_at w) (sym (append-nil (parts_bytes w q))) ∙ parts_again w q [] qf)

ends : (v w : Version) (p q : Parts) (rest : List ℕ) → FieldsFit p → FieldsFit q → spelling v p ++ rest ≡ spelling w q → ◌≡◌ {A = Parts × List ℕ} (p, rest) (q, [])
ends v w p q rest pf qf e =
    let s = starts v w p q rest e in
    ok_is (p, rest) (q, []) (sym (parts_again v p rest pf) ∙ in_one_version v w p q rest qf (v, parts_bytes v p ++ rest) (ap (λ (x : Version × List ℕ). x.0) s) (ap (λ (x : Version × List ℕ). x.1) s))

pub same_parts : (v w : Version) (p q : Parts) (rest : List ℕ) → FieldsFit p → FieldsFit q → spelling v p ++ rest ≡ spelling w q → p ≡ q
same_parts v w p q rest pf qf e = ap (λ (x : Parts × List ℕ). x.0) (ends v w p q rest pf qf e)

pub nothing_follows : (v w : Version) (p q : Parts) (rest : List ℕ) → FieldsFit p → FieldsFit q → spelling v p ++ rest ≡ spelling w q → rest ≡ []
nothing_follows v w p q rest pf qf e = ap (λ (x : Parts × List ℕ). x.1) (ends v w p q rest pf qf e)
