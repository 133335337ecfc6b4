-- The readers of types, globals, paths, and of what locals and results hold.
use Rattle.std.proofs.Common.{◌≡◌, ℕ, zero, suc, ◌+◌, Bool, true, false, cond, ltb, eqb, List, ◌++◌, length, take, drop, Option, Some, None, Ok, Err, refl, ap, ◌∙◌, arith, length-append}
use Rattle.std.proofs.lemmas.Bool.{ltb-false, le-ltb}
use Rattle.std.proofs.lemmas.List.{take-append-le, drop-append-le}
use Rattle.rc_code.specs.declared.kind.Cell.{Cell}
use Rattle.rc_code.specs.declared.kind.Cell.TheVariants as cell
use Rattle.rc_code.specs.declared.kind.Storage.{Storage}
use Rattle.rc_code.specs.declared.kind.Storage.TheVariants as storage
use Rattle.rc_code.specs.declared.image.Initial.{Initial}
use Rattle.rc_code.specs.declared.image.Initial.TheVariants as initial
use Rattle.rc_code.specs.Image.{bound_of, cells_at}
use Rattle.rc_code.specs.Kinds.{cell_tagged, storage_tagged}
use Rattle.rc_fields.specs.Reading.{◌>>=◌, field, short, number_within, kind_numbered, kind_at, cell_of, cell_at, type_at, types_at, text_at, initial_of, initial_at, global_at, shift_of, shift_at, index_at, path_at, storage_of, storage_at, result_at}
use Rattle.rc_refusals.proofs.Steady.{Grows, Steady, guard_else, ok, then, number_steady, within_steady, many_steady, counted_steady, picked}

module _ (more : List ℕ) where
  pub kind_steady : Steady more kind_at
  unfolding kind_at
  kind_steady = picked more kind_numbered pick
    where
      pick : (left n : ℕ) (rest : List ℕ) → Grows more (kind_numbered left n rest) (kind_numbered (left + length more) n (rest ++ more))
      pick left zero rest = (record { is = refl })
      pick left (suc zero) rest = (record { is = refl })
      pick left (suc (suc n)) rest = (record { is = refl })

  cell_steady : (types : ℕ) → Steady more (cell_at types)
  unfolding cell_at
  cell_steady types = picked more (λ left n rest. cell_of types left (cell_tagged n) rest) (λ left n rest. pick left (cell_tagged n) rest)
    where
      pick : (left : ℕ) (c : Option Cell) (rest : List ℕ) → Grows more (cell_of types left c rest) (cell_of types (left + length more) c (rest ++ more))
      pick left None rest = (record { is = refl })
      pick left (Some (cell.Number n)) rest = (record { is = refl })
      pick left (Some cell.Region) rest = (record { is = refl })
      pick left (Some (cell.Pointer note zeroth)) rest = then more _ _ _ _ (within_steady more 0 types rest) (λ x. (record { is = refl }))

  type_steady : (types : ℕ) → Steady more (type_at types)
  unfolding type_at
  type_steady types bytes = then more _ _ _ _ (within_steady more _ _ bytes) (λ count. many_steady more (cell_at types) (cell_steady types) count.0 count.1)

  pub types_steady : Steady more types_at
  unfolding types_at
  types_steady bytes = then more _ _ _ _ (number_steady more bytes) (λ count. many_steady more (type_at count.0) (type_steady count.0) count.0 count.1)

  text_steady : (elements : ℕ) → Steady more (text_at elements)
  text_steady elements bytes = by (ltb (length bytes) elements) refl
    where
      by : (b : Bool) → ltb (length bytes) elements ≡ b → Grows more (cond b (Err short) (Ok (initial.Bytes (take elements bytes), drop elements bytes))) (text_at elements (bytes ++ more))
      by true e = record { is = tt }
      by false e =
          let enough = ltb-false (length bytes) elements e in
          let still : ltb (length (bytes ++ more)) elements ≡ false = le-ltb (length (bytes ++ more)) elements (omega (arith, enough, length-append bytes more)) in
          record {
            is = ap (λ b. cond b (Err short) (Ok (initial.Bytes (take elements (bytes ++ more)), drop elements (bytes ++ more)))) still
                ∙ ap (λ (t : List ℕ). Ok (initial.Bytes t, drop elements (bytes ++ more))) (take-append-le elements bytes more enough)
                ∙ ap (λ (t : List ℕ). Ok (initial.Bytes (take elements bytes), t)) (drop-append-le elements bytes more enough);
          }

  first_steady : (t u : Bool) (bound left : ℕ) (rest : List ℕ)
      → Grows more {A = Initial} (cond t (cond u (Err (field left)) (number_within 0 bound rest >>= λ n. Ok (initial.Number n.0, n.1))) (Err (field left)))
      (cond t (cond u (Err (field (left + length more))) (number_within 0 bound (rest ++ more) >>= λ n. Ok (initial.Number n.0, n.1))) (Err (field (left + length more))))
  first_steady true true bound left rest = record { is = refl }
  first_steady true false bound left rest = then more _ _ _ _ (within_steady more 0 bound rest) (λ x. (record { is = refl }))
  first_steady false u bound left rest = record { is = refl }

  picked_text : (t : Bool) (elements left : ℕ) (rest : List ℕ) → Grows more (cond t (text_at elements rest) (Err (field left))) (cond t (text_at elements (rest ++ more)) (Err (field (left + length more))))
  picked_text true elements left rest = text_steady elements rest
  picked_text false elements left rest = record { is = refl }

  initial_steady : (cells : List Cell) (elements : ℕ) → Steady more (initial_at cells elements)
  unfolding initial_at
  initial_steady cells elements = picked more (λ left n rest. initial_of cells elements left n rest) pick
    where
      pick : (left n : ℕ) (rest : List ℕ) → Grows more (initial_of cells elements left n rest) (initial_of cells elements (left + length more) n (rest ++ more))
      pick left zero rest = (record { is = refl })
      pick left (suc zero) rest = first_steady (eqb elements 1) (eqb (bound_of cells) 0) (bound_of cells) left rest
      pick left (suc (suc zero)) rest = picked_text (eqb (bound_of cells) 256) elements left rest
      pick left (suc (suc (suc n))) rest = (record { is = refl })

  pub global_steady : (types : List (List Cell)) → Steady more (global_at types)
  unfolding global_at
  global_steady types bytes = then more _ _ _ _ (within_steady more _ _ bytes) (λ type. then more _ _ _ _ (within_steady more _ _ type.1) (λ elements. then more _ _ _ _ (initial_steady (cells_at types type.0) elements.0 elements.1) (λ x. (record { is = refl }))))

  shift_steady : Steady more shift_at
  unfolding shift_at
  shift_steady = picked more shift_of pick
    where
      pick : (left n : ℕ) (rest : List ℕ) → Grows more (shift_of left n rest) (shift_of (left + length more) n (rest ++ more))
      pick left zero rest = (record { is = refl })
      pick left (suc zero) rest = (record { is = refl })
      pick left (suc (suc zero)) rest = (record { is = refl })
      pick left (suc (suc (suc n))) rest = (record { is = refl })

  index_steady : Steady more index_at
  unfolding index_at
  index_steady bytes = then more _ _ _ _ (within_steady more _ _ bytes) (λ count. then more _ _ _ _ (within_steady more _ _ count.1) (λ stride. then more _ _ _ _ (kind_steady stride.1) (λ x. (record { is = refl }))))

  pub path_steady : (types : List (List Cell)) → Steady more (path_at types)
  unfolding path_at
  path_steady types bytes =
      then more _ _ _ _ (within_steady more _ _ bytes) (λ type. then more _ _ _ _ (shift_steady type.1) (λ shift. then more _ _ _ _ (number_steady more shift.1) (λ offset. then more _ _ _ _ (counted_steady more index_at index_steady offset.1) (λ indices.
      guard_else more _ bytes _ _ (ok more _)))))

  storage_pick : (types left : ℕ) (s : Option Storage) (rest : List ℕ) → Grows more (storage_of types left s rest) (storage_of types (left + length more) s (rest ++ more))
  storage_pick types left None rest = (record { is = refl })
  storage_pick types left (Some (storage.Number n)) rest = (record { is = refl })
  storage_pick types left (Some storage.Region) rest = (record { is = refl })
  storage_pick types left (Some (storage.Pointer zeroth)) rest = then more _ _ _ _ (within_steady more 0 types rest) (λ x. (record { is = refl }))

  pub storage_steady : (types : ℕ) → Steady more (storage_at types)
  unfolding storage_at
  storage_steady types = picked more (λ left n rest. storage_of types left (storage_tagged n) rest) (λ left n rest. storage_pick types left (storage_tagged n) rest)

  result_pick : (t : Bool) (types left : ℕ) (s : Option Storage) (rest : List ℕ)
      → Grows more {A = Option Storage} (cond t (Ok (None, rest)) (storage_of types left s rest >>= λ s. Ok (Some s.0, s.1))) (cond t (Ok (None, rest ++ more)) (storage_of types (left + length more) s (rest ++ more) >>= λ s. Ok (Some s.0, s.1)))
  result_pick true types left s rest = record { is = refl }
  result_pick false types left s rest = then more _ _ _ _ (storage_pick types left s rest) (λ x. (record { is = refl }))

  pub result_steady : (types : ℕ) → Steady more (result_at types)
  unfolding result_at
  result_steady types = picked more (λ left n rest. cond (eqb n 5) (Ok (None, rest)) (storage_of types left (storage_tagged n) rest >>= λ s. Ok (Some s.0, s.1)))
      (λ left n rest. result_pick (eqb n 5) types left (storage_tagged n) rest)
