-- Temporaries that are written, and those below that stay.
use Rattle.std.proofs.Common.{◌≡◌, ◌<◌, ℕ, suc, ◌+◌, pos, Bool, true, false, List, [], ◌∷◌, ◌++◌, length, Option, Some, None, refl, sym, ap, ◌∙◌, arith, rules}
use Rattle.std.specs.Prelude.{nat_eq}
use Rattle.std.proofs.Math.Path.{fun_ext}
use Rattle.rc_core.specs.declared.ty.Signedness.{Signedness}
use Rattle.rc_core.specs.Types.{Ty}
use Rattle.rc_core.specs.Heap.{Value}
use Rattle.rc_core.specs.Runs.{bind, Calls, Ops}
use Rattle.rc_core.specs.Evaluation.{number_in}
use Rattle.rc_rlang.specs.RegionCode.{Kind, numeric, regional, Index, Access, shift_width, width, Steps, none, more, both}
use Rattle.rc_rlang.specs.RegionRuns.{Temporaries, at_kind, chosen_value, set_kind, chosen_from, target_shifted, target_at, step_run, steps_run}
use Rattle.rc_rlang.specs.RegionLive.{before_step, before_steps}
use Rattle.rc_translation.proofs.Sames.{bind_bind}

eq_self : (n : ℕ) → nat_eq n n ≡ true
eq_self n = search rules

eq_other : (k h : ℕ) → k < h → nat_eq k h ≡ false
eq_other k h lt = search rules

-- the temporaries below h are as before
pub record Lower (h : ℕ) (t t1 : Temporaries) : Type 0 where
  pub numbers : (k : ℕ) → k < h → t1.numbers k ≡ t.numbers k
  pub regions : (k : ℕ) → k < h → t1.regions k ≡ t.regions k

pub lower_itself : (h : ℕ) (t : Temporaries) → Lower h t t
lower_itself h t = record { numbers = λ k lt. refl; regions = λ k lt. refl }

pub lower_trans : (h h1 : ℕ) (t t1 t2 : Temporaries) → h < suc h1 → Lower h t t1 → Lower h1 t1 t2 → Lower h t t2
lower_trans h h1 t t1 t2 le a b = record {
  numbers = λ k lt. b.numbers k (omega (arith, le, lt)) ∙ a.numbers k lt;
  regions = λ k lt. b.regions k (omega (arith, le, lt)) ∙ a.regions k lt;
}

pub at_lower : (kind : Kind) (h k : ℕ) (t t1 : Temporaries) → Lower h t t1 → k < h → at_kind kind t1 k ≡ at_kind kind t k
at_lower numeric h k t t1 l lt = l.numbers k lt
at_lower regional h k t t1 l lt = l.regions k lt

pub set_here : (kind : Kind) (t : Temporaries) (h : ℕ) (v : Value) → at_kind kind (set_kind kind t h v) h ≡ v
set_here numeric t h v = ap (λ b. chosen_value b v (t.numbers h)) (eq_self h)
set_here regional t h v = ap (λ b. chosen_value b v (t.regions h)) (eq_self h)

pub set_lower : (kind : Kind) (t : Temporaries) (h : ℕ) (v : Value) → Lower h t (set_kind kind t h v)
set_lower numeric t h v = record { numbers = λ k lt. ap (λ b. chosen_value b v (t.numbers k)) (eq_other k h lt); regions = λ k lt. refl }
set_lower regional t h v = record { numbers = λ k lt. refl; regions = λ k lt. ap (λ b. chosen_value b v (t.regions k)) (eq_other k h lt) }

-- what a place's temporaries tell stays, as long as they do
chosen_lower : (is : List Index) (h b : ℕ) (t t1 : Temporaries) → Lower b t t1 → h + length is < suc b → chosen_from is t1 h ≡ chosen_from is t h
chosen_lower [] h b t t1 l le = refl
chosen_lower (i ∷ is) h b t t1 l le =
    ap (λ v. record { index = number_in v; count = i.count; stride = i.stride } ∷ chosen_from is t1 (suc h)) (l.numbers h (omega (arith, le)))
    ∙ ap (λ cs. record { index = number_in (t.numbers h); count = i.count; stride = i.stride } ∷ cs) (chosen_lower is (suc h) b t t1 l (omega (arith, le)))

pub target_lower : (a : Access) (h b : ℕ) (t t1 : Temporaries) → Lower b t t1 → h + width a < suc b → target_at a t1 h ≡ target_at a t h
target_lower a h b t t1 l le = by_shift a.shift le
  where
    by_shift : (s : Option Signedness) → h + suc (shift_width s + length a.indices) < suc b → target_shifted s a t1 h ≡ target_shifted s a t h
    by_shift None le =
        ap (λ p. record { pointer = p; shift = pos 0; offset = a.offset; chosen = chosen_from a.indices t1 (suc h) }) (l.regions h (omega (arith, le)))
        ∙ ap (λ cs. record { pointer = t.regions h; shift = pos 0; offset = a.offset; chosen = cs }) (chosen_lower a.indices (suc h) b t t1 l (omega (arith, le)))
    by_shift (Some s) le =
        ap (λ p. record { pointer = p; shift = number_in (t1.numbers (suc h)); offset = a.offset; chosen = chosen_from a.indices t1 (suc (suc h)) }) (l.regions h (omega (arith, le)))
        ∙ ap (λ v. record { pointer = t.regions h; shift = number_in v; offset = a.offset; chosen = chosen_from a.indices t1 (suc (suc h)) }) (l.numbers (suc h) (omega (arith, le)))
        ∙ ap (λ cs. record { pointer = t.regions h; shift = number_in (t.numbers (suc h)); offset = a.offset; chosen = cs }) (chosen_lower a.indices (suc (suc h)) b t t1 l (omega (arith, le)))

pub chosen_behind : (is : List Index) (i : Index) (t : Temporaries) (h : ℕ) → chosen_from (is ++ i ∷ []) t h ≡ chosen_from is t h ++ record { index = number_in (t.numbers (h + length is)); count = i.count; stride = i.stride } ∷ []
chosen_behind [] i t h = let e : h ≡ h + 0 = omega arith in ap (λ n. record { index = number_in (t.numbers n); count = i.count; stride = i.stride } ∷ []) e
chosen_behind (j ∷ is) i t h =
    let e : suc h + length is ≡ h + suc (length is) = omega arith in
    ap (λ cs. record { index = number_in (t.numbers h); count = j.count; stride = j.stride } ∷ cs) (chosen_behind is i t (suc h) ∙ ap (λ n. chosen_from is t (suc h) ++ record { index = number_in (t.numbers n); count = i.count; stride = i.stride } ∷ []) e)

-- operations one after another
pub before_both : (a b : Steps) (live : ℕ → Bool) → before_steps (both a b) live ≡ before_steps a (before_steps b live)
before_both none b live = refl
before_both (more s a) b live = fun_ext (λ x. ap (λ l. before_step s l x) (before_both a b live))

module _ {W : Type 0} (ops : Ops W) (deleting : ℕ → Bool) (types : List Ty) where
  pub run_both : (a b : Steps) (calls : Calls W) (live : ℕ → Bool) (env : List Value) (t : Temporaries) (w : W) →
      steps_run ops deleting types (both a b) calls live env t w ≡ bind (steps_run ops deleting types a calls (before_steps b live) env t w) (steps_run ops deleting types b calls live env)
  run_both none b calls live env t w = refl
  run_both (more s a) b calls live env t w =
      ap (λ l. bind (step_run ops deleting types s calls l env t w) (steps_run ops deleting types (both a b) calls live env)) (before_both a b live)
      ∙ ap (λ k. bind (step_run ops deleting types s calls (before_steps a (before_steps b live)) env t w) k) (fun_ext (λ t1. fun_ext (λ w1. run_both a b calls live env t1 w1)))
      ∙ sym (bind_bind (step_run ops deleting types s calls (before_steps a (before_steps b live)) env t w) (steps_run ops deleting types a calls (before_steps b live) env) (steps_run ops deleting types b calls live env))
