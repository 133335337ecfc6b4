-- Numbers that say which of a few it is, types, locals and results are read as they are spelled, and keep their rules.
use Rattle.std.proofs.Common.{◌≡◌, ℕ, zero, suc, ◌<◌, ◌≤◌, false, cond, eqb, List, ◌++◌, length, Option, Some, None, Ok, refl, sym, ap, subst, ◌∙◌, append_assoc, arith, inl, inr}
use Rattle.std.specs.List.{flat_map, AllByRecursion as Every}
use Rattle.rc_base.specs.Limits.{most_struct_cells}
use Rattle.rc_core.specs.declared.ty.NumberType.TheVariants as numbers
use Rattle.rc_core.specs.declared.ty.Note.TheVariants as note
use Rattle.rc_core.specs.declared.ty.Signedness.{Signedness}
use Rattle.rc_core.specs.declared.ty.Signedness.TheVariants.{Signed, Unsigned}
use Rattle.rc_code.specs.declared.kind.Cell.{Cell}
use Rattle.rc_code.specs.declared.kind.Cell.TheVariants as cell
use Rattle.rc_code.specs.declared.kind.Storage.{Storage}
use Rattle.rc_code.specs.declared.kind.Storage.TheVariants as storage
use Rattle.rc_code.specs.Kinds.{cell_tag, cell_tagged, with_no_type, storage_tag, storage_tagged, with_no_pointee}
use Rattle.rc_code.proofs.Rows.{cell_of_tag, cell_tag_is, storage_of_tag, storage_tag_is}
use Rattle.rc_code.specs.Image.{IsNumber, kind_number, CellFits, TypeFits, StorageFits, ResultFits}
use Rattle.std.proofs.lemmas.Bool.{eqb-true}
use Rattle.rc_fields.specs.Spelling.{number, counted, cell_target, cell_bytes, type_bytes, storage_target, storage_bytes, result_bytes, shift_number}
use Rattle.rc_fields.specs.Reading.{◌>>=◌, Read, number_at, number_within, many, kind_numbered, kind_at, cell_of, cell_at, type_at, types_at, shift_of, shift_at, storage_of, storage_at, result_at}
use Rattle.rc_fields.proofs.Codecs.{IsBytes, bind_ok, chosen, ok_is, Takes, Takes-then, Takes-nothing, Law, number_law, within_law, takes_then, many_law}

abbrev pub Anything : {A : Type 0} → A → Type 0
Anything a = Unit {0}

-- ---- a number that says which of a few it is

pub record Picks {A : Type 0} (pick : (left n : ℕ) → List ℕ → Read A) (code : A → ℕ) : Type 0 where
  pub is : (left n : ℕ) (rest : List ℕ) (x : A × List ℕ) → pick left n rest ≡ Ok x → (n ≡ code x.0) × (rest ≡ x.1)
  pub again : (left : ℕ) (a : A) (rest : List ℕ) → pick left (code a) rest ≡ Ok (a, rest)
  pub small : (a : A) → code a < 4294967296

pub pick_takes : {A : Type 0} (pick : (left n : ℕ) → List ℕ → Read A) (code : A → ℕ) (picks : Picks pick code) (bytes : List ℕ) (x : A × List ℕ) → IsBytes bytes
    → (number_at bytes >>= λ n. pick (length bytes) n.0 n.1) ≡ Ok x → Takes bytes (number (code x.0)) x.1 × Unit {0}
pick_takes pick code picks bytes x fits e =
    let b = takes_then number_at number IsNumber number_law (λ n. pick (length bytes) n.0 n.1) bytes x fits e in
    let s = picks.is (length bytes) b.0.0 b.0.1 x b.3 in
    (subst (λ (n : ℕ). Takes bytes (number n) x.1) s.0 (subst (λ (r : List ℕ). Takes bytes (number b.0.0) r) s.1 b.1), tt)

pub pick_again : {A : Type 0} (pick : (left n : ℕ) → List ℕ → Read A) (code : A → ℕ) (picks : Picks pick code) (left : ℕ) (a : A) (rest : List ℕ)
    → (number_at (number (code a) ++ rest) >>= λ n. pick left n.0 n.1) ≡ Ok (a, rest)
pick_again pick code picks left a rest = rw (number_law.again (code a) rest (picks.small a)) (picks.again left a rest)

kind_is : (left n : ℕ) (rest : List ℕ) (x : Signedness × List ℕ) → kind_numbered left n rest ≡ Ok x → (n ≡ kind_number x.0) × (rest ≡ x.1)
kind_is left zero rest x e = let s = ok_is (Signed, rest) x e in (ap (λ (y : Signedness × List ℕ). kind_number y.0) s, ap (λ (y : Signedness × List ℕ). y.1) s)
kind_is left (suc zero) rest x e = let s = ok_is (Unsigned, rest) x e in (ap (λ (y : Signedness × List ℕ). kind_number y.0) s, ap (λ (y : Signedness × List ℕ). y.1) s)
kind_is left (suc (suc n)) rest x e = absurd cc

kind_again : (left : ℕ) (a : Signedness) (rest : List ℕ) → kind_numbered left (kind_number a) rest ≡ Ok (a, rest)
kind_again left Signed rest = refl
kind_again left Unsigned rest = refl

pub kind_small : (a : Signedness) → kind_number a < 4294967296
kind_small Signed = omega arith
kind_small Unsigned = omega arith

kind_picks : Picks kind_numbered kind_number
kind_picks = record { is = kind_is; again = kind_again; small = kind_small }

pub kind_law : Law kind_at (λ k. number (kind_number k)) Anything
unfolding kind_at
kind_law = record {
  takes = λ bytes x fits e. pick_takes kind_numbered kind_number kind_picks bytes x fits e;
  again = λ a rest f. pick_again kind_numbered kind_number kind_picks (length (number (kind_number a) ++ rest)) a rest;
}

shift_is : (left n : ℕ) (rest : List ℕ) (x : Option Signedness × List ℕ) → shift_of left n rest ≡ Ok x → (n ≡ shift_number x.0) × (rest ≡ x.1)
shift_is left zero rest x e = let s = ok_is (None, rest) x e in (ap (λ (y : Option Signedness × List ℕ). shift_number y.0) s, ap (λ (y : Option Signedness × List ℕ). y.1) s)
shift_is left (suc zero) rest x e = let s = ok_is (Some Signed, rest) x e in (ap (λ (y : Option Signedness × List ℕ). shift_number y.0) s, ap (λ (y : Option Signedness × List ℕ). y.1) s)
shift_is left (suc (suc zero)) rest x e = let s = ok_is (Some Unsigned, rest) x e in (ap (λ (y : Option Signedness × List ℕ). shift_number y.0) s, ap (λ (y : Option Signedness × List ℕ). y.1) s)
shift_is left (suc (suc (suc n))) rest x e = absurd cc

shift_again : (left : ℕ) (a : Option Signedness) (rest : List ℕ) → shift_of left (shift_number a) rest ≡ Ok (a, rest)
shift_again left None rest = refl
shift_again left (Some Signed) rest = refl
shift_again left (Some Unsigned) rest = refl

shift_small : (a : Option Signedness) → shift_number a < 4294967296
shift_small None = omega arith
shift_small (Some Signed) = omega arith
shift_small (Some Unsigned) = omega arith

shift_picks : Picks shift_of shift_number
shift_picks = record { is = shift_is; again = shift_again; small = shift_small }

pub shift_law : Law shift_at (λ s. number (shift_number s)) Anything
unfolding shift_at
shift_law = record {
  takes = λ bytes x fits e. pick_takes shift_of shift_number shift_picks bytes x fits e;
  again = λ a rest f. pick_again shift_of shift_number shift_picks (length (number (shift_number a) ++ rest)) a rest;
}

-- ---- cells and types

cell_takes : (types left n : ℕ) (o : Option Cell) (rest : List ℕ) (x : Cell × List ℕ) → types ≤ 4294967296 → IsBytes rest → cell_tagged n ≡ o → cell_of types left o rest ≡ Ok x
    → (n ≡ cell_tag x.0) × Takes rest (cell_target x.0) x.1 × CellFits types x.0
cell_takes types left n None rest x most fits t e = absurd cc
cell_takes types left n (Some (cell.Number m)) rest x most fits t e =
    subst (λ (y : Cell × List ℕ). (n ≡ cell_tag y.0) × Takes rest (cell_target y.0) y.1 × CellFits types y.0) (ok_is (cell.Number m, rest) x e) (sym (cell_tag_is n (cell.Number m) t), Takes-nothing rest fits, tt)
cell_takes types left n (Some cell.Region) rest x most fits t e =
    subst (λ (y : Cell × List ℕ). (n ≡ cell_tag y.0) × Takes rest (cell_target y.0) y.1 × CellFits types y.0) (ok_is (cell.Region, rest) x e) (sym (cell_tag_is n cell.Region t), Takes-nothing rest fits, tt)
cell_takes types left n (Some (cell.Pointer note z)) rest x most fits t e =
    let w = within_law 0 types most in
    let b = takes_then (number_within 0 types) number (λ m. (0 ≤ m) × (m < types)) w (λ type. Ok (cell.Pointer note type.0, type.1)) rest x fits e in
    subst (λ (y : Cell × List ℕ). (n ≡ cell_tag y.0) × Takes rest (cell_target y.0) y.1 × CellFits types y.0) (ok_is (cell.Pointer note b.0.0, b.0.1) x b.3) (sym (cell_tag_is n (cell.Pointer note z) t), b.1, b.2.1)

cell_again : (types left : ℕ) (c : Cell) (rest : List ℕ) → types ≤ 4294967296 → CellFits types c → cell_of types left (Some (with_no_type c)) (cell_target c ++ rest) ≡ Ok (c, rest)
cell_again types left (cell.Number m) rest most fits = refl
cell_again types left cell.Region rest most fits = refl
cell_again types left (cell.Pointer note type) rest most fits = rw ((within_law 0 types most).again type rest (omega arith, fits)) refl

cell_tag_small : (c : Cell) → cell_tag c < 4294967296
cell_tag_small (cell.Number numbers.Int) = omega arith
cell_tag_small (cell.Number numbers.Unsigned) = omega arith
cell_tag_small (cell.Number numbers.Char) = omega arith
cell_tag_small cell.Region = omega arith
cell_tag_small (cell.Pointer note.Plain type) = omega arith
cell_tag_small (cell.Pointer note.SameRegion type) = omega arith
cell_tag_small (cell.Pointer note.ParentPtr type) = omega arith
cell_tag_small (cell.Pointer note.Traditional type) = omega arith

cell_law : (types : ℕ) → types ≤ 4294967296 → Law (cell_at types) cell_bytes (CellFits types)
unfolding cell_at
cell_law types most = record {
  takes = λ bytes x fits e.
      let b = takes_then number_at number IsNumber number_law (λ tag. cell_of types (length bytes) (cell_tagged tag.0) tag.1) bytes x fits e in
      let c = cell_takes types (length bytes) b.0.0 (cell_tagged b.0.0) b.0.1 x most b.1.rest_fits refl b.3 in
      let first : Takes bytes (number (cell_tag x.0)) b.0.1 = subst (λ (n : ℕ). Takes bytes (number n) b.0.1) c.0 b.1 in
      (Takes-then bytes (number (cell_tag x.0)) b.0.1 (cell_target x.0) x.1 first c.1, c.2);
  again = λ c rest f.
      ap (cell_at types) (append_assoc (number (cell_tag c)) (cell_target c) rest)
      ∙ rw (number_law.again (cell_tag c) (cell_target c ++ rest) (cell_tag_small c), cell_of_tag c) (cell_again types (length (number (cell_tag c) ++ (cell_target c ++ rest))) c rest most f);
}

type_law : (types : ℕ) → types ≤ 4294967296 → Law (type_at types) type_bytes (TypeFits types)
unfolding type_at
type_law types most = record {
  takes = λ bytes x fits e.
      let b = takes_then (number_within 1 (suc most_struct_cells)) number (λ n. (1 ≤ n) × (n < suc most_struct_cells)) (within_law 1 (suc most_struct_cells) (omega arith)) (λ count. many (cell_at types) count.0 count.1) bytes x fits e in
      let c = (many_law (cell_at types) cell_bytes (CellFits types) (cell_law types most) b.0.0).takes b.0.1 x b.1.rest_fits b.3 in
      let first : Takes bytes (number (length x.0)) b.0.1 = subst (λ (n : ℕ). Takes bytes (number n) b.0.1) (sym c.1.0) b.1 in
      (Takes-then bytes (number (length x.0)) b.0.1 (flat_map cell_bytes x.0) x.1 first c.0, record { some = omega (arith, c.1.0, b.2.0); most = omega (arith, c.1.0, b.2.1); cells = c.1.1 });
  again = λ cells rest f.
      ap (type_at types) (append_assoc (number (length cells)) (flat_map cell_bytes cells) rest)
      ∙ rw ((within_law 1 (suc most_struct_cells) (omega arith)).again (length cells) (flat_map cell_bytes cells ++ rest) (f.some, omega (arith, f.most)))
      ((many_law (cell_at types) cell_bytes (CellFits types) (cell_law types most) (length cells)).again cells rest (refl, f.cells));
}

pub types_law : Law types_at (counted type_bytes) (λ types. IsNumber (length types) × Every (TypeFits (length types)) types)
unfolding types_at
types_law = record {
  takes = λ bytes x fits e.
      let b = takes_then number_at number IsNumber number_law (λ count. many (type_at count.0) count.0 count.1) bytes x fits e in
      let most : b.0.0 ≤ 4294967296 = omega (arith, b.2) in
      let c = (many_law (type_at b.0.0) type_bytes (TypeFits b.0.0) (type_law b.0.0 most) b.0.0).takes b.0.1 x b.1.rest_fits b.3 in
      let first : Takes bytes (number (length x.0)) b.0.1 = subst (λ (n : ℕ). Takes bytes (number n) b.0.1) (sym c.1.0) b.1 in (
        Takes-then bytes (number (length x.0)) b.0.1 (flat_map type_bytes x.0) x.1 first c.0,
        (subst IsNumber (sym c.1.0) b.2, subst (λ (n : ℕ). Every (TypeFits n) x.0) (sym c.1.0) c.1.1),
      );
  again = λ types rest f.
      let most : length types ≤ 4294967296 = omega (arith, f.0) in
      ap types_at (append_assoc (number (length types)) (flat_map type_bytes types) rest)
      ∙ rw (number_law.again (length types) (flat_map type_bytes types ++ rest) f.0)
      ((many_law (type_at (length types)) type_bytes (TypeFits (length types)) (type_law (length types) most) (length types)).again types rest (refl, f.1));
}

-- ---- what locals and results hold

storage_takes : (types left n : ℕ) (o : Option Storage) (rest : List ℕ) (x : Storage × List ℕ) → types ≤ 4294967296 → IsBytes rest → storage_tagged n ≡ o → storage_of types left o rest ≡ Ok x
    → (n ≡ storage_tag x.0) × Takes rest (storage_target x.0) x.1 × StorageFits types x.0
storage_takes types left n None rest x most fits t e = absurd cc
storage_takes types left n (Some (storage.Number m)) rest x most fits t e =
    subst (λ (y : Storage × List ℕ). (n ≡ storage_tag y.0) × Takes rest (storage_target y.0) y.1 × StorageFits types y.0) (ok_is (storage.Number m, rest) x e) (sym (storage_tag_is n (storage.Number m) t), Takes-nothing rest fits, tt)
storage_takes types left n (Some storage.Region) rest x most fits t e =
    subst (λ (y : Storage × List ℕ). (n ≡ storage_tag y.0) × Takes rest (storage_target y.0) y.1 × StorageFits types y.0) (ok_is (storage.Region, rest) x e) (sym (storage_tag_is n storage.Region t), Takes-nothing rest fits, tt)
storage_takes types left n (Some (storage.Pointer z)) rest x most fits t e =
    let w = within_law 0 types most in
    let b = takes_then (number_within 0 types) number (λ m. (0 ≤ m) × (m < types)) w (λ type. Ok (storage.Pointer type.0, type.1)) rest x fits e in
    subst (λ (y : Storage × List ℕ). (n ≡ storage_tag y.0) × Takes rest (storage_target y.0) y.1 × StorageFits types y.0) (ok_is (storage.Pointer b.0.0, b.0.1) x b.3) (sym (storage_tag_is n (storage.Pointer z) t), b.1, b.2.1)

storage_again : (types left : ℕ) (s : Storage) (rest : List ℕ) → types ≤ 4294967296 → StorageFits types s → storage_of types left (Some (with_no_pointee s)) (storage_target s ++ rest) ≡ Ok (s, rest)
storage_again types left (storage.Number m) rest most fits = refl
storage_again types left storage.Region rest most fits = refl
storage_again types left (storage.Pointer type) rest most fits = rw ((within_law 0 types most).again type rest (omega arith, fits)) refl

storage_tag_small : (s : Storage) → storage_tag s < 5
storage_tag_small (storage.Number numbers.Int) = omega arith
storage_tag_small (storage.Number numbers.Unsigned) = omega arith
storage_tag_small (storage.Number numbers.Char) = omega arith
storage_tag_small storage.Region = omega arith
storage_tag_small (storage.Pointer type) = omega arith

pub storage_law : (types : ℕ) → types ≤ 4294967296 → Law (storage_at types) storage_bytes (StorageFits types)
unfolding storage_at
storage_law types most = record {
  takes = λ bytes x fits e.
      let b = takes_then number_at number IsNumber number_law (λ tag. storage_of types (length bytes) (storage_tagged tag.0) tag.1) bytes x fits e in
      let c = storage_takes types (length bytes) b.0.0 (storage_tagged b.0.0) b.0.1 x most b.1.rest_fits refl b.3 in
      let first : Takes bytes (number (storage_tag x.0)) b.0.1 = subst (λ (n : ℕ). Takes bytes (number n) b.0.1) c.0 b.1 in
      (Takes-then bytes (number (storage_tag x.0)) b.0.1 (storage_target x.0) x.1 first c.1, c.2);
  again = λ s rest f.
      ap (storage_at types) (append_assoc (number (storage_tag s)) (storage_target s) rest)
      ∙ rw (number_law.again (storage_tag s) (storage_target s ++ rest) (omega (arith, storage_tag_small s)), storage_of_tag s) (storage_again types (length (number (storage_tag s) ++ (storage_target s ++ rest))) s rest most f);
}

not_equal : (m n : ℕ) → m < n → eqb m n ≡ false
not_equal m n lt = grind arith

result_again : (types : ℕ) (s : Option Storage) (rest : List ℕ) → types ≤ 4294967296 → ResultFits types s → result_at types (result_bytes s ++ rest) ≡ Ok (s, rest)
unfolding result_at
result_again types None rest most fits = rw (number_law.again 5 rest (omega arith)) refl
result_again types (Some s) rest most fits =
    let bytes = number (storage_tag s) ++ (storage_target s ++ rest) in
    ap (result_at types) (append_assoc (number (storage_tag s)) (storage_target s) rest)
    ∙ rw (number_law.again (storage_tag s) (storage_target s ++ rest) (omega (arith, storage_tag_small s)), not_equal (storage_tag s) 5 (storage_tag_small s), storage_of_tag s, storage_again types (length bytes) s rest most fits) refl

pub result_law : (types : ℕ) → types ≤ 4294967296 → Law (result_at types) result_bytes (ResultFits types)
unfolding result_at
result_law types most = record {
  takes = λ bytes x fits e.
      let b = takes_then number_at number IsNumber number_law
      (λ tag. cond (eqb tag.0 5) (Ok (None, tag.1)) (storage_of types (length bytes) (storage_tagged tag.0) tag.1 >>= λ s. Ok (Some s.0, s.1))) bytes x fits e in
      elim (chosen (eqb b.0.0 5) (Ok (None, b.0.1)) (storage_of types (length bytes) (storage_tagged b.0.0) b.0.1 >>= λ s. Ok (Some s.0, s.1)) (Ok x) b.3) [
        | inl q ↦
            let first : Takes bytes (number 5) b.0.1 = subst (λ (n : ℕ). Takes bytes (number n) b.0.1) (eqb-true b.0.0 5 q.0) b.1 in
            subst (λ (y : Option Storage × List ℕ). Takes bytes (result_bytes y.0) y.1 × ResultFits types y.0) (ok_is (None, b.0.1) x q.1) (first, tt)
        | inr q ↦
            let r = bind_ok (storage_of types (length bytes) (storage_tagged b.0.0) b.0.1) (λ s. Ok (Some s.0, s.1)) x q.1 in
            let c = storage_takes types (length bytes) b.0.0 (storage_tagged b.0.0) b.0.1 r.0 most b.1.rest_fits refl r.1 in
            let first : Takes bytes (number (storage_tag r.0.0)) b.0.1 = subst (λ (n : ℕ). Takes bytes (number n) b.0.1) c.0 b.1 in
            let both : Takes bytes (storage_bytes r.0.0) r.0.1 = Takes-then bytes (number (storage_tag r.0.0)) b.0.1 (storage_target r.0.0) r.0.1 first c.1 in
            subst (λ (y : Option Storage × List ℕ). Takes bytes (result_bytes y.0) y.1 × ResultFits types y.0) (ok_is (Some r.0.0, r.0.1) x r.2) (both, c.2)
      ];
  again = λ s rest f. result_again types s rest most f;
}
