-- The whole is read as it is spelled, with and without proofs, and no spelling begins another.
use Rattle.std.proofs.Common.{◌≡◌, ℕ, zero, suc, ◌<◌, ◌≤◌, cond, eqb, List, [], ◌∷◌, ◌++◌, length, get_or, Option, Some, None, Ok, Err, refl, sym, ap, subst, ◌∙◌, append_assoc, arith}
use Rattle.std.specs.List.{AllByRecursion as Every}
use Rattle.std.proofs.lemmas.Bool.{eqb-true}
use Rattle.std.proofs.lemmas.List.{append-nil, nil_from_length}
use Rattle.rc_code.specs.declared.image.Function.{Function}
use Rattle.rc_code.specs.declared.image.Parts.{Parts}
use Rattle.rc_code.specs.Image.{FunctionFits, FieldsFit}
use Rattle.rc_code.specs.Running.{no_function}
use Rattle.rc_fields.specs.Spelling.{number}
use Rattle.rc_fields.specs.Reading.{◌>>=◌, extra, number_within}
use Rattle.rc_fields.proofs.Codecs.{IsBytes, bind_ok, no_else, ok_is, Takes, Takes-then, Takes-nothing, within_law, takes_then}
use Rattle.rc_image.specs.declared.version.Version.{Version}
use Rattle.rc_image.specs.declared.version.Version.TheVariants.{One, Two}
use Rattle.rc_image.specs.Spelling.{start_bytes, fields_bytes, proofs_bytes}
use Rattle.rc_image.specs.Reading.{start_at, fields_at}
use Rattle.rc_image.proofs.Wholes.{fields_take, fields_again, start_takes, start_again}
use Rattle.rc_claims.specs.declared.proofs.Known.{Known}
use Rattle.rc_claims.specs.declared.proofs.Proofs.{Proofs}
use Rattle.rc_claims.specs.Claims.{no_known, KnownFits, ProofsFit}
use Rattle.rc_sealed_images.specs.Counted.{IsCounted}
use Rattle.rc_sealed_images.specs.Spelling.{claims_bytes, sealing}
use Rattle.rc_sealed_images.specs.Reading.{claims_at, proofs_numbered, carried_at, image_at, carried_of}
use Rattle.rc_sealed_images.specs.Carrying.{Carries}
use Rattle.rc_sealed_images.proofs.Claimed.{AllFit, claims_law}

-- ---- proofs fit where what is claimed of each function does

all_fit : (fs : List Function) (knowns : List Known) → length knowns ≡ length fs → ((g : ℕ) → g < length fs → KnownFits (get_or fs g no_function) (get_or knowns g no_known)) → AllFit fs knowns
all_fit [] [] long each = tt
all_fit [] (known ∷ knowns) long each = absurd (omega (arith, long))
all_fit (f ∷ fs) [] long each = absurd (omega (arith, long))
all_fit (f ∷ fs) (known ∷ knowns) long each = (each 0 (omega arith), all_fit fs knowns (omega (arith, long)) (λ g lt. each (suc g) (omega (arith, lt))))

as_long : (fs : List Function) (knowns : List Known) → AllFit fs knowns → length knowns ≡ length fs
as_long [] [] all = refl
as_long [] (known ∷ knowns) all = absurd all
as_long (f ∷ fs) [] all = absurd all
as_long (f ∷ fs) (known ∷ knowns) all = ap suc (as_long fs knowns all.1)

each_fits : (fs : List Function) (knowns : List Known) → AllFit fs knowns → (g : ℕ) → g < length fs → KnownFits (get_or fs g no_function) (get_or knowns g no_known)
each_fits [] knowns all g lt = absurd (omega (arith, lt))
each_fits (f ∷ fs) [] all g lt = absurd all
each_fits (f ∷ fs) (known ∷ knowns) all zero lt = all.0
each_fits (f ∷ fs) (known ∷ knowns) all (suc g) lt = each_fits fs knowns all.1 g (omega (arith, lt))

proofs_fit : (p : Parts) (proofs : Proofs) → AllFit p.functions proofs.functions → ProofsFit p proofs
proofs_fit p proofs all = record { long = as_long p.functions proofs.functions all; each = each_fits p.functions proofs.functions all }

claims_fit : (p : Parts) (proofs : Proofs) → ProofsFit p proofs → AllFit p.functions proofs.functions
claims_fit p proofs fits = all_fit p.functions proofs.functions fits.long fits.each

counted : (types : ℕ) (fs : List Function) → Every (FunctionFits types) fs → Every IsCounted fs
counted types [] each = tt
counted types (f ∷ fs) each = (record { locals = each.0.count; code = each.0.instructions }, counted types fs each.1)

pub counted_in : (p : Parts) → FieldsFit p → Every IsCounted p.functions
counted_in p fits = counted (length p.types) p.functions fits.functions

-- ---- what stands behind `main`

abbrev tail_bytes : Version → Option Proofs → List ℕ
tail_bytes v None = proofs_bytes v
tail_bytes v (Some proofs) = number 1 ++ claims_bytes proofs

-- version 1 has no proofs
abbrev TailFits : Version → List Function → Option Proofs → Type 0
TailFits v fs None = Unit {0}
TailFits One fs (Some proofs) = ⊥
TailFits Two fs (Some proofs) = AllFit fs proofs.functions

proofs_taken : (fs : List Function) (n : ℕ) (bytes rest : List ℕ) (x : Option Proofs × List ℕ) → Every IsCounted fs → n < 2 → Takes bytes (number n) rest → proofs_numbered fs n rest ≡ Ok x → Takes bytes (tail_bytes Two x.0) x.1 × TailFits Two fs x.0
proofs_taken fs zero bytes rest x few lt first e = subst (λ (y : Option Proofs × List ℕ). Takes bytes (tail_bytes Two y.0) y.1 × TailFits Two fs y.0) (ok_is (None, rest) x e) (first, tt)
proofs_taken fs (suc n) bytes rest x few lt first e =
    let a = takes_then (claims_at fs) claims_bytes (λ (proofs : Proofs). AllFit fs proofs.functions) (claims_law fs few) (λ proofs. Ok (Some proofs.0, proofs.1)) rest x first.rest_fits e in
    let one : suc n ≡ 1 = omega (arith, lt) in
    let number_one : Takes bytes (number 1) rest = subst (λ (m : ℕ). Takes bytes (number m) rest) one first in
    let made : Option Proofs × List ℕ = (Some a.0.0, a.0.1) in
    subst (λ (y : Option Proofs × List ℕ). Takes bytes (tail_bytes Two y.0) y.1 × TailFits Two fs y.0) (ok_is made x a.3) (Takes-then bytes (number 1) rest (claims_bytes a.0.0) a.0.1 number_one a.1, a.2)

tail_takes : (v : Version) (fs : List Function) (bytes : List ℕ) (x : Option Proofs × List ℕ) → Every IsCounted fs → IsBytes bytes → carried_at v fs bytes ≡ Ok x → Takes bytes (tail_bytes v x.0) x.1 × TailFits v fs x.0
unfolding carried_at
tail_takes One fs bytes x few fits e = subst (λ (y : Option Proofs × List ℕ). Takes bytes (tail_bytes One y.0) y.1 × TailFits One fs y.0) (ok_is (None, bytes) x e) (Takes-nothing bytes fits, tt)
tail_takes Two fs bytes x few fits e =
    let a = takes_then (number_within 0 2) number (λ m. (0 ≤ m) × (m < 2)) (within_law 0 2 (omega arith)) (λ n. proofs_numbered fs n.0 n.1) bytes x fits e in
    proofs_taken fs a.0.0 bytes a.0.1 x few a.2.1 a.1 a.3

tail_again : (v : Version) (fs : List Function) (c : Option Proofs) (rest : List ℕ) → Every IsCounted fs → TailFits v fs c → carried_at v fs (tail_bytes v c ++ rest) ≡ Ok (c, rest)
unfolding carried_at
tail_again One fs None rest few fits = refl
tail_again One fs (Some proofs) rest few fits = absurd fits
tail_again Two fs None rest few fits = rw ((within_law 0 2 (omega arith)).again 0 rest (omega arith, omega arith)) refl
tail_again Two fs (Some proofs) rest few fits =
    ap (carried_at Two fs) (append_assoc (number 1) (claims_bytes proofs) rest) ∙ rw ((within_law 0 2 (omega arith)).again 1 (claims_bytes proofs ++ rest) (omega arith, omega arith), (claims_law fs few).again proofs rest fits) refl

-- ---- the whole

abbrev whole_bytes : Version → Parts → Option Proofs → List ℕ
whole_bytes v p c = start_bytes v ++ (fields_bytes v p ++ tail_bytes v c)

image_again : (v : Version) (p : Parts) (c : Option Proofs) (rest : List ℕ) → FieldsFit p → TailFits v p.functions c → image_at (whole_bytes v p c ++ rest) ≡ Ok ((p, c), rest)
unfolding image_at
image_again v p c rest fits tail =
    let regrouped : whole_bytes v p c ++ rest ≡ start_bytes v ++ (fields_bytes v p ++ (tail_bytes v c ++ rest)) = simp append_assoc in
    ap image_at regrouped ∙ rw (start_again v (fields_bytes v p ++ (tail_bytes v c ++ rest)), fields_again v p (tail_bytes v c ++ rest) fits, tail_again v p.functions c rest (counted_in p fits) tail) refl

record IsWhole (bytes : List ℕ) (p : Parts) (c : Option Proofs) : Type 0 where
  fields : FieldsFit p
  version : Version
  tail : TailFits version p.functions c
  parts : bytes ≡ whole_bytes version p c

as_whole : (bytes : List ℕ) (p : Parts) (c : Option Proofs) → Carries bytes p c → IsWhole bytes p c
as_whole bytes p None carries = record { fields = carries.fields; version = carries.version; tail = tt; parts = carries.spelled }
as_whole bytes p (Some proofs) carries = record { fields = carries.fields; version = Two; tail = claims_fit p proofs carries.fits; parts = carries.sealed ∙ regrouped }
  where
    regrouped : sealing p proofs ≡ whole_bytes Two p (Some proofs)
    regrouped = simp append_assoc

as_carried : (v : Version) (bytes : List ℕ) (p : Parts) (c : Option Proofs) → FieldsFit p → TailFits v p.functions c → bytes ≡ whole_bytes v p c → Carries bytes p c
as_carried v bytes p None fits tail is = record { fields = fits; version = v; spelled = is }
as_carried One bytes p (Some proofs) fits tail is = absurd tail
as_carried Two bytes p (Some proofs) fits tail is = record { fields = fits; fits = proofs_fit p proofs tail; sealed = is ∙ regrouped }
  where
    regrouped : whole_bytes Two p (Some proofs) ≡ sealing p proofs
    regrouped = simp append_assoc

pub carried_again : (bytes rest : List ℕ) (p : Parts) (c : Option Proofs) → Carries bytes p c → image_at (bytes ++ rest) ≡ Ok ((p, c), rest)
carried_again bytes rest p c carries =
    let w = as_whole bytes p c carries in
    ap (λ (t : List ℕ). image_at (t ++ rest)) w.parts ∙ image_again w.version p c rest w.fields w.tail

image_take : (bytes : List ℕ) (x : (Parts × Option Proofs) × List ℕ) → IsBytes bytes → image_at bytes ≡ Ok x → x.1 ≡ [] → Carries bytes x.0.0 x.0.1
unfolding image_at
image_take bytes x fits e nothing =
    let a = bind_ok (start_at bytes) (λ start. fields_at start.0 start.1 >>= λ parts. carried_at start.0 parts.0.functions parts.1 >>= λ proofs. Ok ((parts.0, proofs.0), proofs.1)) x e in
    let ta = start_takes bytes a.0 fits a.1 in
    let b = bind_ok (fields_at a.0.0 a.0.1) (λ parts. carried_at a.0.0 parts.0.functions parts.1 >>= λ proofs. Ok ((parts.0, proofs.0), proofs.1)) x a.2 in
    let tb = fields_take a.0.0 a.0.1 b.0 ta.rest_fits b.1 in
    let c = bind_ok (carried_at a.0.0 b.0.0.functions b.0.1) (λ proofs. Ok ((b.0.0, proofs.0), proofs.1)) x b.2 in
    let tc = tail_takes a.0.0 b.0.0.functions b.0.1 c.0 (counted_in b.0.0 tb.1) tb.0.rest_fits c.1 in
    let made : (Parts × Option Proofs) × List ℕ = ((b.0.0, c.0.0), c.0.1) in
    let same = ok_is made x c.2 in
    let behind : c.0.1 ≡ [] = ap (λ (y : (Parts × Option Proofs) × List ℕ). y.1) same ∙ nothing in
    let taken = Takes-then bytes (start_bytes a.0.0) a.0.1 (fields_bytes a.0.0 b.0.0 ++ tail_bytes a.0.0 c.0.0) c.0.1 ta (Takes-then a.0.1 (fields_bytes a.0.0 b.0.0) b.0.1 (tail_bytes a.0.0 c.0.0) c.0.1 tb.0 tc.0) in
    let whole : bytes ≡ whole_bytes a.0.0 b.0.0 c.0.0 = taken.parts ∙ ap (λ (r : List ℕ). whole_bytes a.0.0 b.0.0 c.0.0 ++ r) behind ∙ append-nil (whole_bytes a.0.0 b.0.0 c.0.0) in
    subst (λ (y : (Parts × Option Proofs) × List ℕ). Carries bytes y.0.0 y.0.1) same (as_carried a.0.0 bytes b.0.0 c.0.0 tb.1 tc.1 whole)

pub all_take : (bytes : List ℕ) (p : Parts) (c : Option Proofs) → IsBytes bytes → carried_of bytes ≡ Ok (p, c) → Carries bytes p c
unfolding carried_of
all_take bytes p c fits e =
    let a = bind_ok (image_at bytes) (λ image. cond (eqb (length image.1) 0) (Ok image.0) (Err extra)) (p, c) e in
    let g = no_else (eqb (length a.0.1) 0) extra (Ok a.0.0) (p, c) a.2 in
    let nothing : a.0.1 ≡ [] = nil_from_length a.0.1 (eqb-true (length a.0.1) 0 g.0) in
    subst (λ (y : Parts × Option Proofs). Carries bytes y.0 y.1) (ok_is a.0.0 (p, c) g.1) (image_take bytes a.0 fits a.1 nothing)

pub all_again : (bytes : List ℕ) (p : Parts) (c : Option Proofs) → Carries bytes p c → carried_of bytes ≡ Ok (p, c)
unfolding carried_of
all_again bytes p c carries =
    let read : image_at bytes ≡ Ok ((p, c), []) = ap image_at (sym (append-nil bytes)) ∙ carried_again bytes [] p c carries in
    rw read refl

-- ---- no spelling begins another

module _ (front whole rest : List ℕ) (p q : Parts) (c d : Option Proofs) (a : Carries front p c) (b : Carries whole q d) (e : front ++ rest ≡ whole) where
  ends : ◌≡◌ {A = (Parts × Option Proofs) × List ℕ} ((p, c), rest) ((q, d), [])
  ends = ok_is ((p, c), rest) ((q, d), []) (sym (carried_again front rest p c a) ∙ ap image_at (e ∙ sym (append-nil whole)) ∙ carried_again whole [] q d b)

  pub same_parts : p ≡ q
  same_parts = ap (λ (x : (Parts × Option Proofs) × List ℕ). x.0.0) ends

  pub same_proofs : c ≡ d
  same_proofs = ap (λ (x : (Parts × Option Proofs) × List ℕ). x.0.1) ends

  pub nothing_follows : rest ≡ []
  nothing_follows = ap (λ (x : (Parts × Option Proofs) × List ℕ). x.1) ends
