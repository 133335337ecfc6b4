-- Code names the locals of those operands alone that it keeps: where two ways of choosing locals agree on these, the code is the same.
use Rattle.std.proofs.Common.{◌≡◌, ℕ, suc, ◌+◌, Bool, ◌||◌, ◌&&◌, List, [], ◌∷◌, ◌++◌, length, refl, sym, ap, ◌∙◌, subst, arith, length-append}
use Rattle.std.specs.Prelude.{Option, Some, None, is_some}
use Rattle.std.specs.List.{AllByRecursion as Every}
use Rattle.rc_safety.proofs.Lists.{every_split}
use Rattle.rc_core.specs.declared.operators.Direction.TheVariants.{Forward}
use Rattle.rc_core.specs.declared.stmt.Change.{Change}
use Rattle.rc_core.specs.declared.stmt.Change.TheVariants.{Compute, Step as Stepping}
use Rattle.rc_core.specs.Types.{Ty}
use Rattle.rc_core.specs.Layout.{Layout}
use Rattle.rc_core.specs.Live.{Ways, then_live, round}
use Rattle.rc_rlang.specs.RegionCode as From
use Rattle.rc_rlang.specs.RegionCode.{Access, width, Operation, Step, Steps, set, fork, none, more, Act, Test, Code, simple, clear, block, branch, loop, repeat, break, continue, Codes, done, then}
use Rattle.rc_rlang.specs.RegionFits.{pushed, place_types, step_types, steps_types, StepFits, StepsFit, ActFits, CodeFits, CodesFit}
use Rattle.rc_rlang.specs.RegionKinds.{signed_of}
use Rattle.rc_rlang.specs.RegionLive.{before_steps, before_act, before_code, before_codes, loop_head, repeat_tail}
use Rattle.rc_emission.specs.StackCode.{Instruction, Line}
use Rattle.rc_emission.specs.StackCode as To
use Rattle.rc_emission.specs.OperationCode.{line_of, at, test_code, wide, spills, reloads}
use Rattle.rc_emission.specs.KeptOperands.{Kept, kept_at, kept_operands, kept_operation, kept_step, kept_steps, kept_act, kept_code, kept_codes}
use Rattle.rc_emission.specs.StatementCode.{Place, exit_lines, exit_size, set_code, gets, steps_lines, step_lines, change_code, cells_code, cell_type, further, last_line, act_lines, code_size, codes_size, code_lines, codes_lines, end_lines}
use Rattle.rc_emission.proofs.CodesDo.{size_is, sizes_are}
use Rattle.rc_lines.proofs.Stacks.{place_width}

module _ (s1 s2 : ℕ → Ty → ℕ) (deleting : ℕ → Bool) (types : List Ty) where
  abbrev pub Same : Kept → Type 0
  Same k = s1 k.height k.ty ≡ s2 k.height k.ty

  split : (xs ys : List Kept) → Every Same (xs ++ ys) → Every Same xs × Every Same ys
  split xs ys h = every_split Same xs ys h

  -- operands at heights from one on, the lowest first
  abbrev AllFrom : ℕ → List Ty → Type 0
  AllFrom h [] = Unit {0}
  AllFrom h (ty ∷ tys) = (s1 h ty ≡ s2 h ty) × AllFrom (suc h) tys

  from_split : (h : ℕ) (xs ys : List Ty) → AllFrom h (xs ++ ys) → AllFrom h xs × AllFrom (h + length xs) ys
  from_split h [] ys a = let e : h ≡ h + 0 = omega arith in (tt, subst (λ n. AllFrom n ys) e a)
  from_split h (x ∷ xs) ys a =
      let r = from_split (suc h) xs ys a.1 in
      let e : suc h + length xs ≡ h + length (x ∷ xs) = omega arith in
      ((a.0, r.0), subst (λ n. AllFrom n ys) e r.1)

  from_pushed : (xs below : List Ty) (base : ℕ) → Every Same (kept_operands base (pushed xs below)) → AllFrom (base + length below) xs × Every Same (kept_operands base below)
  from_pushed [] below base a = (tt, a)
  from_pushed (x ∷ xs) below base a =
      let r = from_pushed xs (x ∷ below) base a in
      let e : base + length (x ∷ below) ≡ suc (base + length below) = omega arith in
      ((r.1.0, subst (λ n. AllFrom n xs) e r.0), r.1.1)

  from_below : (tys xs : List Ty) → tys ≡ pushed xs [] → Every Same (kept_operands 0 tys) → AllFrom 0 xs
  from_below tys xs e a = (from_pushed xs [] 0 (subst (λ t. Every Same (kept_operands 0 t)) e a)).0

  spills_same : (base : ℕ) (tys : List Ty) → Every Same (kept_operands base tys) → spills s1 base tys ≡ spills s2 base tys
  spills_same base [] a = refl
  spills_same base (ty ∷ tys) a = ap (λ n. To.set n (wide ty) ∷ spills s1 base tys) a.0 ∙ ap (λ is. To.set (s2 (base + length tys) ty) (wide ty) ∷ is) (spills_same base tys a.1)

  reloads_same : (base : ℕ) (tys : List Ty) → Every Same (kept_operands base tys) → reloads s1 base tys ≡ reloads s2 base tys
  reloads_same base [] a = refl
  reloads_same base (ty ∷ tys) a = ap (λ n. reloads s1 base tys ++ To.get n ∷ []) a.0 ∙ ap (λ is. is ++ To.get (s2 (base + length tys) ty) ∷ []) (reloads_same base tys a.1)

  gets_same : (h : ℕ) (tys : List Ty) → AllFrom h tys → gets s1 deleting types h tys ≡ gets s2 deleting types h tys
  gets_same h [] a = refl
  gets_same h (ty ∷ tys) a = ap (λ n. To.get n ∷ gets s1 deleting types (suc h) tys) a.0 ∙ ap (λ is. To.get (s2 h ty) ∷ is) (gets_same (suc h) tys a.1)

  set_same : (h : ℕ) (ty : Ty) (op : Operation) (live : ℕ → Bool) → Every Same (kept_operation h op) → set_code s1 deleting types h ty op live ≡ set_code s2 deleting types h ty op live
  set_same h ty (From.step_from n pointed) live a =
      ap (λ x. To.set x (wide pointed) ∷ To.set (s1 h n) (wide n) ∷ To.get x ∷ To.get (s1 h n) ∷ To.move pointed (signed_of n) Forward ∷ []) a.1.0
      ∙ ap (λ x. To.set (s2 (suc h) pointed) (wide pointed) ∷ To.set x (wide n) ∷ To.get (s2 (suc h) pointed) ∷ To.get x ∷ To.move pointed (signed_of n) Forward ∷ []) a.0
  set_same h ty (From.constant s n) live a = refl
  set_same h ty From.null live a = refl
  set_same h ty (From.static g) live a = refl
  set_same h ty (From.copy x) live a = refl
  set_same h ty (From.load x) live a = refl
  set_same h ty (From.step direction pointed n) live a = refl
  set_same h ty (From.unary o s) live a = refl
  set_same h ty (From.binary o s right) live a = refl
  set_same h ty (From.convert from to) live a = refl
  set_same h ty (From.not_zero of) live a = refl
  set_same h ty (From.truth of) live a = refl
  set_same h ty (From.is_null wanted of) live a = refl
  set_same h ty (From.same wanted of) live a = refl
  set_same h ty (From.call f tys) live a = refl
  set_same h ty From.new_region live a = refl
  set_same h ty From.new_subregion live a = refl
  set_same h ty (From.region_of of) live a = refl
  set_same h ty (From.allocate made layout) live a = refl
  set_same h ty (From.allocate_array made layout) live a = refl
  set_same h ty From.putchar live a = refl
  set_same h ty From.getchar live a = refl

  abbrev steps1 : Steps → (saved tys : List Ty) → (ℕ → Bool) → List Line
  steps1 s saved tys live = steps_lines s1 deleting types s saved tys live

  abbrev steps2 : Steps → (saved tys : List Ty) → (ℕ → Bool) → List Line
  steps2 s saved tys live = steps_lines s2 deleting types s saved tys live

  abbrev forked : (line : ℕ) (test result : Ty) (sp re : List Instruction) (x g : ℕ) (xs ys : List Line) → List Line
  forked line test result sp re x g xs ys =
      at line sp ++ (at line (To.get x ∷ test_code test) ++ (line_of line (To.jump_zero (suc (suc (length xs)))) ∷ (xs ++ (line_of line (To.set g (wide result)) ∷ line_of line (To.jump (suc (length ys))) ∷ (ys ++ (line_of line (To.set g (wide result)) ∷ (at line re ++ line_of line (To.get g) ∷ [])))))))

  mutual
    pub steps_same : (s : Steps) (saved tys : List Ty) (live : ℕ → Bool) → StepsFit s (length saved) tys → Every Same (kept_steps s (length saved) tys) → steps1 s saved tys live ≡ steps2 s saved tys live
    steps_same none saved tys live f a = refl
    steps_same (more s rest) saved tys live f a =
        let r = split (kept_step s (length saved) tys) (kept_steps rest (length saved) (step_types s tys)) a in
        ap (λ ls. ls ++ steps1 rest saved (step_types s tys) live) (step_same s saved tys (before_steps rest live) f.0 r.0)
        ∙ ap (λ ls. step_lines s2 deleting types s saved tys (before_steps rest live) ++ ls) (steps_same rest saved (step_types s tys) live f.1 r.1)

    step_same : (s : Step) (saved tys : List Ty) (live : ℕ → Bool) → StepFits s (length saved) tys → Every Same (kept_step s (length saved) tys) → step_lines s1 deleting types s saved tys live ≡ step_lines s2 deleting types s saved tys live
    step_same (set line h ty op) saved tys live f a = ap (at line) (set_same h ty op live a)
    step_same (fork line h test result a b) saved [] live f all = absurd f
    step_same (fork line h test result a b) saved (ty ∷ below) live f all =
        let r = split (kept_operands (length saved) (ty ∷ below)) (kept_at h result ∷ (kept_steps a h [] ++ kept_steps b h [])) all in
        let q = split (kept_steps a h []) (kept_steps b h []) r.1.1 in
        let n = length-append below saved in
        let hf = f.1 in
        let e : h ≡ length (below ++ saved) = omega (arith, n, hf) in
        let ea = steps_same a (below ++ saved) [] live (subst (λ m. StepsFit a m []) e f.2) (subst (λ m. Every Same (kept_steps a m [])) e q.0) in
        let eb = steps_same b (below ++ saved) [] live (subst (λ m. StepsFit b m []) e f.4) (subst (λ m. Every Same (kept_steps b m [])) e q.1) in
        let base = length saved in
        let top = base + length below in
        let g : s1 top result ≡ s2 top result = subst (λ m. s1 m result ≡ s2 m result) hf r.1.0 in
        let a1 = steps1 a (below ++ saved) [] live in
        let a2 = steps2 a (below ++ saved) [] live in
        let b1 = steps1 b (below ++ saved) [] live in
        let sp1 = spills s1 base (ty ∷ below) in
        let sp2 = spills s2 base (ty ∷ below) in
        let re1 = reloads s1 base below in
        let re2 = reloads s2 base below in
        ap (λ sp. forked line test result sp re1 (s1 top ty) (s1 top result) a1 b1) (spills_same base (ty ∷ below) r.0)
        ∙ ap (λ re. forked line test result sp2 re (s1 top ty) (s1 top result) a1 b1) (reloads_same base below r.0.1)
        ∙ ap (λ x. forked line test result sp2 re2 x (s1 top result) a1 b1) r.0.0
        ∙ ap (λ x. forked line test result sp2 re2 (s2 top ty) x a1 b1) g
        ∙ ap (λ xs. forked line test result sp2 re2 (s2 top ty) (s2 top result) xs b1) ea
        ∙ ap (λ ys. forked line test result sp2 re2 (s2 top ty) (s2 top result) a2 ys) eb

  cells_same : (kinds : Layout) (left right : Access) → AllFrom 0 (place_types left) → AllFrom (width left) (place_types right) → cells_code s1 deleting types kinds left right ≡ cells_code s2 deleting types kinds left right
  cells_same [] left right a b = refl
  cells_same (kind ∷ kinds) left right a b =
      let ld = To.load (record right { cell = cell_type kind }) in
      let st = To.store (record left { cell = cell_type kind }) in
      let g1 = gets s1 deleting types (width left) (place_types right) in
      ap (λ is. is ++ (g1 ++ (ld ∷ st ∷ cells_code s1 deleting types kinds (further left) (further right)))) (gets_same 0 (place_types left) a)
      ∙ ap (λ is. gets s2 deleting types 0 (place_types left) ++ (is ++ (ld ∷ st ∷ cells_code s1 deleting types kinds (further left) (further right)))) (gets_same (width left) (place_types right) b)
      ∙ ap (λ is. gets s2 deleting types 0 (place_types left) ++ (gets s2 deleting types (width left) (place_types right) ++ (ld ∷ st ∷ is))) (cells_same kinds (further left) (further right) a b)

  act_same : (last : ℕ) (act : Act) (tys : List Ty) (live : ℕ → Bool) → ActFits act tys → Every Same (kept_act act tys) → act_lines s1 deleting types last act tys live ≡ act_lines s2 deleting types last act tys live
  act_same last From.drop tys live f a = pops_same tys
    where
      pops_same : (tys : List Ty) → act_lines s1 deleting types last From.drop tys live ≡ act_lines s2 deleting types last From.drop tys live
      pops_same [] = refl
      pops_same (ty ∷ tys) = ap (λ ls. line_of last To.pop ∷ ls) (pops_same tys)
  act_same last (From.perform line g parameters) tys live f a = refl
  act_same last (From.assign line x ty) tys live f a = refl
  act_same last (From.store line place) tys live f a = refl
  act_same last (From.update line place change ty) tys live f a =
      let all = from_split 0 (place_types place) (ty ∷ []) (from_below tys (place_types place ++ ty ∷ []) f a) in
      let w : 0 + length (place_types place) ≡ width place = let p = place_width place in omega (arith, p) in
      let own : s1 (width place) ty ≡ s2 (width place) ty = subst (λ n. s1 n ty ≡ s2 n ty) w all.1.0 in
      let g1 = gets s1 deleting types 0 (place_types place) in
      let rest : ℕ → List Instruction = λ x. To.load place ∷ (change_code s1 deleting types change place.cell ty (To.get x) ++ To.store place ∷ []) in
      ap (λ is. at line (is ++ (g1 ++ (g1 ++ rest (s1 (width place) ty))))) (spills_same 0 tys a)
      ∙ ap (λ is. at line (spills s2 0 tys ++ (is ++ (is ++ rest (s1 (width place) ty))))) (gets_same 0 (place_types place) all.0)
      ∙ ap (λ x. at line (spills s2 0 tys ++ (gets s2 deleting types 0 (place_types place) ++ (gets s2 deleting types 0 (place_types place) ++ rest x)))) own
      ∙ ap (λ is. at line (spills s2 0 tys ++ (gets s2 deleting types 0 (place_types place) ++ (gets s2 deleting types 0 (place_types place) ++ (To.load place ∷ (is ++ To.store place ∷ [])))))) (changed change)
    where
      changed : (change : Change) → change_code s1 deleting types change place.cell ty (To.get (s2 (width place) ty)) ≡ change_code s2 deleting types change place.cell ty (To.get (s2 (width place) ty))
      changed (Compute from o s) = refl
      changed (Stepping direction) = refl
  act_same last (From.move line cells left right) tys live f a =
      let all = from_split 0 (place_types left) (place_types right) (from_below tys (place_types left ++ place_types right) f a) in
      let w : 0 + length (place_types left) ≡ width left = let p = place_width left in omega (arith, p) in
      ap (λ is. at line (is ++ cells_code s1 deleting types cells left right)) (spills_same 0 tys a)
      ∙ ap (λ is. at line (spills s2 0 tys ++ is)) (cells_same cells left right all.0 (subst (λ n. AllFrom n (place_types right)) w all.1))
  act_same last (From.delete line) tys live f a = refl
  act_same last (From.leave line result) tys live f a = refl

  abbrev of1 : Code → Ways → Place → List Line
  of1 c k p = code_lines s1 deleting types c k p

  abbrev of2 : Code → Ways → Place → List Line
  of2 c k p = code_lines s2 deleting types c k p

  abbrev size1 : Code → Ways → ℕ
  size1 c k = code_size s1 deleting types c k

  abbrev size2 : Code → Ways → ℕ
  size2 c k = code_size s2 deleting types c k

  abbrev nowhere : Place
  nowhere = record { at = 0; out = 0; on = 0 }

  sized : (c : Code) (k : Ways) → of1 c k nowhere ≡ of2 c k nowhere → size1 c k ≡ size2 c k
  sized c k e = sym (size_is s1 deleting types c k nowhere) ∙ ap length e ∙ size_is s2 deleting types c k nowhere

  all_sized : (c : Codes) (k : Ways) → codes_lines s1 deleting types c k nowhere ≡ codes_lines s2 deleting types c k nowhere → codes_size s1 deleting types c k ≡ codes_size s2 deleting types c k
  all_sized c k e = sym (sizes_are s1 deleting types c k nowhere) ∙ ap length e ∙ sizes_are s2 deleting types c k nowhere

  mutual
    pub code_same : (c : Code) (k : Ways) (p : Place) → CodeFits c → Every Same (kept_code c) → of1 c k p ≡ of2 c k p
    code_same (simple steps act) k p f a =
        let r = split (kept_steps steps 0 []) (kept_act act (steps_types steps [])) a in
        ap (λ ls. ls ++ act_lines s1 deleting types (last_line steps) act (steps_types steps []) k.next) (steps_same steps [] [] (before_act act k.next) f.0 r.0)
        ∙ ap (λ ls. steps2 steps [] [] (before_act act k.next) ++ ls) (act_same (last_line steps) act (steps_types steps []) k.next f.1 r.1)
    code_same (clear line x ty) k p f a = refl
    code_same (block codes) k p f a = codes_same codes k p f a
    code_same (branch steps test yes' no') k p f a =
        let r = split (kept_steps steps 0 []) (kept_code yes' ++ kept_code no') a in
        let q = split (kept_code yes') (kept_code no') r.1 in
        let live : ℕ → Bool = λ y. before_code yes' k y || before_code no' k y in
        let h1 = steps1 steps [] [] live in
        let h2 = steps2 steps [] [] live in
        let at1 : List Line → ℕ = λ h. p.at + (length h + exit_size (Some test)) in
        let yes_at : List Line → ℕ → Place = λ h n. record { at = at1 h; out = suc (n + p.out); on = suc (n + p.on) } in
        let no_at : List Line → ℕ → Place = λ h n. record p { at = at1 h + (n + 1) } in
        let whole : List Line → ℕ → ℕ → List Line → List Line → List Line = λ h sa sb ca cb. h ++ (exit_lines (Some test) (sa + 1) ++ (ca ++ (line_of test.line (To.jump sb) ∷ cb))) in
        ap (λ h. whole h (size1 yes' k) (size1 no' k) (of1 yes' k (yes_at h (size1 no' k))) (of1 no' k (no_at h (size1 yes' k)))) (steps_same steps [] [] live f.0 r.0)
        ∙ ap (λ n. whole h2 n (size1 no' k) (of1 yes' k (yes_at h2 (size1 no' k))) (of1 no' k (no_at h2 n))) (sized yes' k (code_same yes' k nowhere f.2 q.0))
        ∙ ap (λ n. whole h2 (size2 yes' k) n (of1 yes' k (yes_at h2 n)) (of1 no' k (no_at h2 (size2 yes' k)))) (sized no' k (code_same no' k nowhere f.3 q.1))
        ∙ ap (λ ls. whole h2 (size2 yes' k) (size2 no' k) ls (of1 no' k (no_at h2 (size2 yes' k)))) (code_same yes' k (yes_at h2 (size2 no' k)) f.2 q.0)
        ∙ ap (λ ls. whole h2 (size2 yes' k) (size2 no' k) (of2 yes' k (yes_at h2 (size2 no' k))) ls) (code_same no' k (no_at h2 (size2 yes' k)) f.3 q.1)
    code_same (loop line steps test third body) k p f a =
        let r = split (kept_steps steps 0 []) (kept_code third ++ kept_code body) a in
        let q = split (kept_code third) (kept_code body) r.1 in
        let k2 = then_live (loop_head steps test third body k) k in
        let k1 = round (before_code third k2) k in
        let live : ℕ → Bool = λ y. (is_some test && k.next y) || before_code body k1 y in
        let h2 = steps2 steps [] [] live in
        let at1 : List Line → ℕ = λ h. p.at + (length h + exit_size test) in
        let body_at : List Line → ℕ → Place = λ h n. record { at = at1 h; out = n + 1; on = 0 } in
        let third_at : List Line → ℕ → Place = λ h n. record { at = at1 h + n; out = suc p.out; on = suc p.on } in
        let whole : List Line → ℕ → ℕ → List Line → List Line → List Line = λ h sa st ca ct. h ++ (exit_lines test (sa + (st + 1)) ++ (ca ++ (ct ++ line_of line (To.back p.at) ∷ []))) in
        ap (λ h. whole h (size1 body k1) (size1 third k2) (of1 body k1 (body_at h (size1 third k2))) (of1 third k2 (third_at h (size1 body k1)))) (steps_same steps [] [] live f.0 r.0)
        ∙ ap (λ n. whole h2 n (size1 third k2) (of1 body k1 (body_at h2 (size1 third k2))) (of1 third k2 (third_at h2 n))) (sized body k1 (code_same body k1 nowhere f.3 q.1))
        ∙ ap (λ n. whole h2 (size2 body k1) n (of1 body k1 (body_at h2 n)) (of1 third k2 (third_at h2 (size2 body k1)))) (sized third k2 (code_same third k2 nowhere f.2 q.0))
        ∙ ap (λ ls. whole h2 (size2 body k1) (size2 third k2) ls (of1 third k2 (third_at h2 (size2 body k1)))) (code_same body k1 (body_at h2 (size2 third k2)) f.3 q.1)
        ∙ ap (λ ls. whole h2 (size2 body k1) (size2 third k2) (of2 body k1 (body_at h2 (size2 third k2))) ls) (code_same third k2 (third_at h2 (size2 body k1)) f.2 q.0)
    code_same (repeat line body steps test) k p f a =
        let r = split (kept_code body) (kept_steps steps 0 []) a in
        let k1 = round (repeat_tail body steps test k) k in
        let live : ℕ → Bool = λ y. k.next y || before_code (repeat 0 body steps test) k y in
        let t2 = steps2 steps [] [] live in
        let body_at : List Line → Place = λ t. record { at = p.at; out = length t + (exit_size (Some test) + 1); on = 0 } in
        let whole : List Line → List Line → List Line = λ c t. c ++ (t ++ (exit_lines (Some test) 1 ++ line_of line (To.back p.at) ∷ [])) in
        ap (λ t. whole (of1 body k1 (body_at t)) t) (steps_same steps [] [] live f.1 r.1) ∙ ap (λ ls. whole ls t2) (code_same body k1 (body_at t2) f.0 r.0)
    code_same (break line) k p f a = refl
    code_same (continue line) k p f a = refl

    codes_same : (c : Codes) (k : Ways) (p : Place) → CodesFit c → Every Same (kept_codes c) → codes_lines s1 deleting types c k p ≡ codes_lines s2 deleting types c k p
    codes_same done k p f a = refl
    codes_same (then c rest) k p f a =
        let r = split (kept_code c) (kept_codes rest) a in
        let kc = then_live (before_codes rest k) k in
        let first_at : ℕ → Place = λ n. record p { out = n + p.out; on = n + p.on } in
        let rest_at : ℕ → Place = λ n. record p { at = p.at + n } in
        let r1 = codes_size s1 deleting types rest k in
        let r2 = codes_size s2 deleting types rest k in
        ap (λ n. of1 c kc (first_at n) ++ codes_lines s1 deleting types rest k (rest_at (size1 c kc))) (all_sized rest k (codes_same rest k nowhere f.1 r.1))
        ∙ ap (λ n. of1 c kc (first_at r2) ++ codes_lines s1 deleting types rest k (rest_at n)) (sized c kc (code_same c kc nowhere f.0 r.0))
        ∙ ap (λ ls. ls ++ codes_lines s1 deleting types rest k (rest_at (size2 c kc))) (code_same c kc (first_at r2) f.0 r.0)
        ∙ ap (λ ls. of2 c kc (first_at r2) ++ ls) (codes_same rest k (rest_at (size2 c kc)) f.1 r.1)

  pub end_same : (result : Option Ty) (line : ℕ) → end_lines s1 deleting types result line ≡ end_lines s2 deleting types result line
  end_same None line = refl
  end_same (Some ty) line = refl
