-- Steps behind steps.
use Rattle.std.proofs.Common.{◌≡◌, ℕ, List, [], ◌∷◌, ◌++◌, length, refl, sym, ap, ◌∙◌}
use Rattle.std.specs.Prelude.{Result, Ok, Err, OnOk}
use Rattle.rc_core.specs.Programs.{Struct}
use Rattle.rc_core.specs.Types.{Ty}
use Rattle.rc_core.specs.declared.ty.Ty.{Ty as CodeTy}
use Rattle.std.specs.declared.vec.Vec.{Vec}
use Rattle.std.specs.declared.alloc.Global.{Global as Alloc}
use Rattle.std.proofs.Math.ListN.{length-map}
use Rattle.rc_core.specs.declared.parts.Parts.{Parts}
use Rattle.rc_core.specs.Shapes.{ty_of, global_of, program_of}
use Rattle.rc_rlang.specs.declared.steps.Step.{Step as CodeStep, Set, Fork}
use Rattle.rc_rlang.specs.declared.steps.Operation.{Operation as CodeOperation}
use Rattle.rc_rlang.specs.RegionCode.{Steps, none, more, both, one, set, fork}
use Rattle.rc_rlang.specs.Shapes.{operation_of, step_of, steps_of}
use Rattle.rc_rlang.proofs.ShapeRows.{steps_behind, made_fork}
use Rattle.rc_translation.proofs.Expressions.{both_assoc}
use Rattle.rc_region_steps.specs.Adding.{Adds}

-- nothing more
pub adds_none : (structs : List Struct) (a : List CodeStep) → Adds structs a a none
adds_none structs a = sym (both_none (steps_of structs a))
  where
    both_none : (s : Steps) → both s none ≡ s
    both_none none = refl
    both_none (more s rest) = ap (more s) (both_none rest)

-- one step more
adds_one : (structs : List Struct) (a b : List CodeStep) (s : CodeStep) → b ≡ a ++ s ∷ [] → Adds structs a b (one (step_of structs s))
adds_one structs a b s e = ap (steps_of structs) e ∙ steps_behind structs a s

pub adds_set : (structs : List Struct) (a b : List CodeStep) (line h : ℕ) (ty : CodeTy) (op : CodeOperation) → b ≡ a ++ Set line h ty op ∷ [] → Adds structs a b (one (set line h (ty_of ty) (operation_of structs op)))
adds_set structs a b line h ty op e = adds_one structs a b (Set line h ty op) e

pub adds_two : (structs : List Struct) (a b c : List CodeStep) (x y : Steps) → Adds structs a b x → Adds structs b c y → Adds structs a c (both x y)
adds_two structs a b c x y p q = q ∙ ap (λ s. both s y) p ∙ both_assoc (steps_of structs a) x y

pub adds_three : (structs : List Struct) (a b c d : List CodeStep) (x y z : Steps) → Adds structs a b x → Adds structs b c y → Adds structs c d z → Adds structs a d (both x (both y z))
adds_three structs a b c d x y z p q r = adds_two structs a b d x (both y z) p (adds_two structs b c d y z q r)

-- what was built alone
pub alone : (structs : List Struct) (a b : List CodeStep) (x : Steps) → a ≡ [] → Adds structs a b x → steps_of structs b ≡ x
alone structs a b x e p = p ∙ ap (λ l. both (steps_of structs l) x) e

pub adds_fork : (structs : List Struct) (b c : List CodeStep) (line h : ℕ) (test result : CodeTy) (v w : Vec CodeStep Alloc) → c ≡ b ++ Fork line h test result v w ∷ [] →
    Adds structs b c (one (fork line h (ty_of test) (ty_of result) (steps_of structs v.items) (steps_of structs w.items)))
adds_fork structs b c line h test result v w e = adds_one structs b c (Fork line h test result v w) e ∙ ap (λ s. both (steps_of structs b) (one s)) (made_fork structs line h test result v w)

pub truth_alone : (structs : List Struct) (a b c : List CodeStep) (x y : Steps) → a ≡ [] → Adds structs a b x → Adds structs b c y → steps_of structs c ≡ both x y
truth_alone structs a b c x y e p q = alone structs a c (both x y) e (adds_two structs a b c x y p q)

pub globals_there : (p : Parts) → length (program_of p).globals ≡ length p.globals.items
globals_there p = length-map p.globals.items global_of

-- the same where the last of them may fail

pub on_then : {A E P Q : Type 0} (r : Result A E) → (P → Q) → OnOk r P → OnOk r Q
on_then (Ok a) f p = f p
on_then (Err e) f p = tt

pub two_on : {A E : Type 0} (r : Result A E) (structs : List Struct) (a b c : List CodeStep) (x y : Steps) → Adds structs a b x → OnOk r (Adds structs b c y) → OnOk r (Adds structs a c (both x y))
two_on r structs a b c x y p q = on_then r (adds_two structs a b c x y p) q

pub three_on : {A E : Type 0} (r : Result A E) (structs : List Struct) (a b c d : List CodeStep) (x y z : Steps) → Adds structs a b x → Adds structs b c y → OnOk r (Adds structs c d z) → OnOk r (Adds structs a d (both x (both y z)))
three_on r structs a b c d x y z p q s = on_then r (adds_three structs a b c d x y z p q) s

pub fork_on : {A E : Type 0} (r : Result A E) (structs : List Struct) (a b c : List CodeStep) (x : Steps) (line h : ℕ) (test result : Ty) (v w p q : Steps) → Adds structs a b x → v ≡ p → w ≡ q → OnOk r (Adds structs b c (one (fork line h test result v w))) → OnOk r (Adds structs a c (both x (one (fork line h test result p q))))
fork_on r structs a b c x line h test result v w p q d e f g =
    on_then r (λ i. adds_two structs a b c x (one (fork line h test result p q)) d (i ∙ ap (λ y. both (steps_of structs b) (one (fork line h test result y w))) e ∙ ap (λ n. both (steps_of structs b) (one (fork line h test result p n))) f)) g
