-- The sites of region code are its stores to annotated cells.
use Rattle.std.proofs.Common.{◌≡◌, ℕ, suc, ◌+◌, List, [], ◌∷◌, ◌++◌, map, flat_map, refl, ap, ◌∙◌}
use Rattle.std.proofs.lemmas.List.{map-append}
use Rattle.rc_core.specs.declared.ty.Note.{Note}
use Rattle.rc_core.specs.declared.ty.Note.TheVariants.{Plain, SameRegion, ParentPtr, Traditional}
use Rattle.rc_core.specs.Types.{Ty, int, unsigned, char, region, struct, pointer}
use Rattle.rc_core.specs.Layout.{Layout, note_of}
use Rattle.rc_rlang.specs.declared.order.Order.TheVariants.{Points}
use Rattle.rc_rlang.specs.RegionCode.{Act, store, update, move, Code, simple, clear, block, branch, loop, repeat, break, continue, Codes, done, then, Routine}
use Rattle.rc_rlang.specs.RegionFlow.{note_in}
use Rattle.rc_rlang.specs.RegionPoints.{steps_points, branch_points, code_points}
use Rattle.rc_rlang.specs.Sites.{Site, store_sites, cells_sites, act_sites, code_sites, codes_sites, before_store}
use Rattle.rc_marks.specs.Stores.{Store, note_on, annotated, store_of}
use Rattle.rc_marks.proofs.CodeStores.{cells_stores, act_stores, code_stores, codes_stores}

same_note : (ty : Ty) → note_in ty ≡ note_on ty
same_note int = refl
same_note unsigned = refl
same_note char = refl
same_note region = refl
same_note (struct k) = refl
same_note (pointer note target) = refl

one_sited : (note : Note) (line point : ℕ) → map store_of (store_sites note line point) ≡ annotated note line
one_sited Plain line point = refl
one_sited SameRegion line point = refl
one_sited ParentPtr line point = refl
one_sited Traditional line point = refl

joined : (xs ys : List Site) (ss ts : List Store) → map store_of xs ≡ ss → map store_of ys ≡ ts → map store_of (xs ++ ys) ≡ ss ++ ts
joined xs ys ss ts a b = map-append store_of xs ys ∙ (λ k. a k ++ b k)

cells_sited : (layout : Layout) (line here : ℕ) → map store_of (cells_sites layout line here) ≡ cells_stores layout line
cells_sited [] line here = refl
cells_sited (kind ∷ kinds) line here =
    joined (store_sites (note_of kind) line (suc here)) (cells_sites kinds line (suc (suc here))) (annotated (note_of kind) line) (cells_stores kinds line)
    (one_sited (note_of kind) line (suc here)) (cells_sited kinds line (suc (suc here)))

act_sited : (act : Act) (here : ℕ) → map store_of (act_sites act here) ≡ act_stores act
act_sited (store line a) here = one_sited (note_in a.cell) line here ∙ ap (λ note. annotated note line) (same_note a.cell)
act_sited (update line a change ty) here = one_sited (note_in a.cell) line (here + before_store change) ∙ ap (λ note. annotated note line) (same_note a.cell)
act_sited (move line cells left right) here = cells_sited cells line here
act_sited act here = refl

mutual
  code_sited : (c : Code) (here : ℕ) → map store_of (code_sites Points c here) ≡ code_stores c
  code_sited (simple steps act) here = act_sited act (here + steps_points steps)
  code_sited (clear line x ty) here = refl
  code_sited (block codes) here = codes_sited codes here
  code_sited (branch steps test a b) here =
      let at_a = suc (here + steps_points steps) in
      joined (code_sites Points a at_a) (code_sites Points b (at_a + code_points a)) (code_stores a) (code_stores b) (code_sited a at_a) (code_sited b (at_a + code_points a))
  code_sited (loop line steps test third body) here =
      let at_body = suc here + steps_points steps + branch_points test in
      joined (code_sites Points body at_body) (code_sites Points third (at_body + code_points body)) (code_stores body) (code_stores third) (code_sited body at_body) (code_sited third (at_body + code_points body))
  code_sited (repeat line body steps test) here = code_sited body (suc here)
  code_sited (break line) here = refl
  code_sited (continue line) here = refl

  codes_sited : (cs : Codes) (here : ℕ) → map store_of (codes_sites Points cs here) ≡ codes_stores cs
  codes_sited done here = refl
  codes_sited (then c rest) here =
      joined (code_sites Points c here) (codes_sites Points rest (here + code_points c)) (code_stores c) (codes_stores rest) (code_sited c here) (codes_sited rest (here + code_points c))

pub functions_sited : (fs : List Routine) → flat_map (λ (f : Routine). map store_of (code_sites Points f.body 1)) fs ≡ flat_map (λ (f : Routine). code_stores f.body) fs
functions_sited [] = refl
functions_sited (f ∷ fs) = λ k. code_sited f.body 1 k ++ functions_sited fs k
