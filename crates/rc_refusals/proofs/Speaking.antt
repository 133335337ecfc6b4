-- What refusals say.
use Rattle.std.proofs.Common.{◌≡◌, ◌≢◌, ℕ, ◌+◌, ◌-◌, Bool, true, false, cond, eqb, List, [], ◌∷◌, ◌++◌, length, Option, Result, Ok, Err, refl, sym, ap, subst, ◌∙◌, arith, length-append, rules}
use Rattle.std.proofs.lemmas.List.{append-nil}
use Rattle.rc_code.specs.declared.image.Parts.{Parts}
use Rattle.rc_code.specs.Image.{FieldsFit}
use Rattle.rc_claims.specs.declared.proofs.Proofs.{Proofs}
use Rattle.rc_fields.specs.Reading.{◌>>=◌, Fault, Read, extra, field, short, wrong_magic, wrong_version}
use Rattle.rc_image.specs.declared.version.Version.{Version}
use Rattle.rc_image.specs.Reading.{parts_at, parts_of, start_at}
use Rattle.rc_image.specs.Spelling.{parts_bytes, spelling}
use Rattle.rc_fields.proofs.Codecs.{ok_is}
use Rattle.rc_image.proofs.Wholes.{parts_again, start_again}
use Rattle.rc_sealed_images.specs.Reading.{image_at, carried_of}
use Rattle.rc_sealed_images.proofs.Wholes.{carried_again}
use Rattle.rc_refusals.specs.Refusals.{RefusalsSpeak, CarriedRefusalsSpeak}
use Rattle.rc_refusals.proofs.Images.{parts_steady, start_steady}
use Rattle.rc_refusals.proofs.Seals.{image_steady}
use Rattle.rc_refusals.proofs.Steady.{Grown, Stays, Steady, grown, then}

some : (more : List ℕ) → more ≢ [] → eqb (length more) 0 ≡ false
some [] not = absurd (not refl)
some (m ∷ ms) not = search rules

no_more : (xs more : List ℕ) → xs ++ more ≡ [] → more ≡ []
no_more [] more e = e
no_more (x ∷ xs) more e = absurd cc

-- all of the bytes are read
closed : {A : Type 0} → Read A → Result A Fault
closed r = r >>= λ x. cond (eqb (length x.1) 0) (Ok x.0) (Err extra)

module _ (A : Type 0) (all : List ℕ → Read A) (steady : (more : List ℕ) → Steady more all) where
  is_extra : (bytes more : List ℕ) (x : A) → more ≢ [] → all (bytes ++ more) ≡ Ok (x, more) → closed (all (bytes ++ more)) ≡ Err extra
  unfolding closed
  is_extra bytes more x not spelled = ap closed spelled ∙ ap (λ b. cond b (Ok x) (Err extra)) (some more not)

  is_short : (front more : List ℕ) (p : A) → more ≢ [] → all (front ++ more) ≡ Ok (p, []) → closed (all front) ≡ Err short
  unfolding closed
  is_short front more p not whole = by (all front) (steady more front).is
    where
      fault : (x y : Fault) → all (front ++ more) ≡ Err x → closed {A = A} (Err y) ≡ Err short
      fault x y is = let no : ◌≡◌ {A = Read A} (Err x) (Ok (p, [])) = sym is ∙ whole in absurd cc

      by : (r : Read A) → Grown (grown more) (length more) r (all (front ++ more)) → closed r ≡ Err short
      by (Ok x) is =
          let same : ◌≡◌ {A = Read A} (Ok (grown more x)) (Ok (p, [])) = sym is ∙ whole in
          let nothing : x.1 ++ more ≡ [] = ap (λ (y : A × List ℕ). y.1) (ok_is (grown more x) (p, []) same) in
          absurd (not (no_more x.1 more nothing))
      by (Err short) is = refl
      by (Err extra) is = absurd is
      by (Err wrong_magic) is = fault wrong_magic wrong_magic is
      by (Err wrong_version) is = fault wrong_version wrong_version is
      by (Err (field left)) is = fault (field (left + length more)) (field left) is

  stays : (bytes more : List ℕ) (e : Fault) → e ≢ short → e ≢ extra → closed (all bytes) ≡ Err e → Stays (length more) e (closed (all (bytes ++ more)))
  unfolding closed
  stays bytes more e not_short not_extra is = by (all bytes) is (steady more bytes).is
    where
      then_closed : (x : Fault) (s : Read A) → x ≢ short → Stays (length more) x s → Stays (length more) x (closed s)
      then_closed wrong_magic s not e = ap closed e
      then_closed wrong_version s not e = ap closed e
      then_closed short s not e = absurd (not refl)
      then_closed extra s not e = absurd e
      then_closed (field left) s not e = ap closed e

      ended : (b : Bool) (y : A) → cond b (Ok y) (Err extra) ≡ Err e → Stays (length more) e (closed (all (bytes ++ more)))
      ended true y is = absurd cc
      ended false y is = let same : extra ≡ e = cc in absurd (not_extra (sym same))

      by : (r : Read A) → closed r ≡ Err e → Grown (grown more) (length more) r (all (bytes ++ more)) → Stays (length more) e (closed (all (bytes ++ more)))
      by (Ok x) is grows = ended (eqb (length x.1) 0) x.0 is
      by (Err x) is grows =
          let same : x ≡ e = cc in
          subst (λ y. Stays (length more) y (closed (all (bytes ++ more)))) same (then_closed x (all (bytes ++ more)) (λ k. not_short (sym same ∙ k)) grows)

moved : (offset left : ℕ) (bytes more : List ℕ) → offset ≡ length bytes - left → offset ≡ length (bytes ++ more) - (left + length more)
moved offset left bytes more e = omega (arith, e, length-append bytes more)

-- ---- without proofs

-- the parts, and what is behind them
all_of : List ℕ → Read Parts
all_of bytes = start_at bytes >>= λ start. parts_at start.0 start.1

of_all : (bytes : List ℕ) → parts_of bytes ≡ closed (all_of bytes)
unfolding parts_of all_of closed
of_all bytes = by (start_at bytes)
  where
    by : (r : Read Version) → (r >>= λ start. parts_at start.0 start.1 >>= λ parts. cond (eqb (length parts.1) 0) (Ok parts.0) (Err extra)) ≡ closed (r >>= λ start. parts_at start.0 start.1)
    by (Ok x) = refl
    by (Err e) = refl

all_steady : (more : List ℕ) → Steady more all_of
unfolding all_of
all_steady more bytes = then more _ _ _ _ (start_steady more bytes) (λ start. parts_steady more start.0 start.1)

all_spelled : (v : Version) (p : Parts) (rest : List ℕ) → FieldsFit p → all_of (spelling v p ++ rest) ≡ Ok (p, rest)
unfolding all_of
all_spelled v p rest fits = rw (start_again v (parts_bytes v p ++ rest), parts_again v p rest fits) refl

parts_stay : (bytes more : List ℕ) (e : Fault) → e ≢ short → e ≢ extra → parts_of bytes ≡ Err e → Stays (length more) e (parts_of (bytes ++ more))
parts_stay bytes more e not_short not_extra is =
    subst (λ r. Stays (length more) e r) (sym (of_all (bytes ++ more))) (stays Parts all_of all_steady bytes more e not_short not_extra (sym (of_all bytes) ∙ is))

pub refusals_speak : RefusalsSpeak
refusals_speak = record {
  short = λ v p front more fits not e. of_all front ∙ is_short Parts all_of all_steady front more p not (ap all_of (e ∙ sym (append-nil (spelling v p))) ∙ all_spelled v p [] fits);
  extra = λ v p more fits not. of_all (spelling v p ++ more) ∙ is_extra Parts all_of all_steady (spelling v p) more p not (all_spelled v p more fits);
  magic = λ bytes more is. parts_stay bytes more wrong_magic (λ e. cc) (λ e. cc) is;
  version = λ bytes more is. parts_stay bytes more wrong_version (λ e. cc) (λ e. cc) is;
  field = λ bytes more offset refuses. (refuses.0 + length more, parts_stay bytes more (field refuses.0) (λ e. cc) (λ e. cc) refuses.1, moved offset refuses.0 bytes more refuses.2);
}

-- ---- and with them

carried_is : (bytes : List ℕ) → carried_of bytes ≡ closed (image_at bytes)
unfolding carried_of closed
carried_is bytes = refl

carried_stays : (bytes more : List ℕ) (e : Fault) → e ≢ short → e ≢ extra → carried_of bytes ≡ Err e → Stays (length more) e (carried_of (bytes ++ more))
carried_stays bytes more e not_short not_extra is =
    subst (λ r. Stays (length more) e r) (sym (carried_is (bytes ++ more))) (stays (Parts × Option Proofs) image_at image_steady bytes more e not_short not_extra (sym (carried_is bytes) ∙ is))

pub carried_refusals_speak : CarriedRefusalsSpeak
carried_refusals_speak = record {
  short = λ p c front more not carries.
      carried_is front ∙ is_short (Parts × Option Proofs) image_at image_steady front more (p, c) not (ap image_at (sym (append-nil (front ++ more))) ∙ carried_again (front ++ more) [] p c carries);
  extra = λ p c bytes more not carries. carried_is (bytes ++ more) ∙ is_extra (Parts × Option Proofs) image_at image_steady bytes more (p, c) not (carried_again bytes more p c carries);
  magic = λ bytes more is. carried_stays bytes more wrong_magic (λ e. cc) (λ e. cc) is;
  version = λ bytes more is. carried_stays bytes more wrong_version (λ e. cc) (λ e. cc) is;
  field = λ bytes more offset refuses. (refuses.0 + length more, carried_stays bytes more (field refuses.0) (λ e. cc) (λ e. cc) refuses.1, moved offset refuses.0 bytes more refuses.2);
}
