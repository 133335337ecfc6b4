-- The steps of an expression write each temporary at the height where it is read, and it is read once.
use Rattle.std.proofs.Common.{◌≡◌, ℕ, suc, ◌+◌, List, [], ◌∷◌, ◌++◌, length, map, Some, refl, sym, ap, ◌∙◌, subst, arith, length-append, append_assoc}
use Rattle.rc_core.specs.declared.ty.Note.TheVariants.{Plain}
use Rattle.rc_core.specs.declared.operators.UnaryOperator.TheVariants.{Negate, Plus, Complement}
use Rattle.rc_core.specs.Types.{Ty, int, region, pointer}
use Rattle.rc_core.specs.Typing.{value_type, arithmetic}
use Rattle.rc_core.specs.Layout.{offset, count_of, stride}
use Rattle.rc_core.specs.Programs.{Expr, constant, null, string, local, read, address, step, step_from, unary, binary, convert, not_zero, and, or, choose, is_null, same, call, new_region, new_subregion, region_of, allocate, allocate_array, putchar, getchar, Arguments, none, more, Place, global, pointed, indexed, Path, here, field, element, Program}
use Rattle.rc_rlang.specs.RegionCode as To
use Rattle.rc_rlang.specs.RegionCode.{Index, Access, Step, Steps, both, one, Operation}
use Rattle.rc_rlang.specs.RegionFits.{index_types, shift_types, place_types, operands, pushed, dropped, step_types, steps_types, StepsFit}
use Rattle.rc_translation.proofs.Expressions.{both_assoc}
use Rattle.rc_translation.specs.Translation.{expression_type, argument_types, pointee, pointer_type, index_type, signedness, global_type, place_type, parameter_types, first_access, path_access, access, expression_code, arguments_code, place_code, path_code}

-- from height h on, these types come onto the stack
pub record Puts (steps : Steps) (h : ℕ) (tys : List Ty) : Type 0 where
  pub fits : (base : ℕ) (below : List Ty) → h ≡ base + length below → StepsFit steps base below
  pub types : (below : List Ty) → steps_types steps below ≡ pushed tys below

types_both : (a b : Steps) (tys : List Ty) → steps_types (both a b) tys ≡ steps_types b (steps_types a tys)
types_both To.none b tys = refl
types_both (To.more s a) b tys = types_both a b (step_types s tys)

fits_both : (a b : Steps) (base : ℕ) (tys : List Ty) → StepsFit a base tys → StepsFit b base (steps_types a tys) → StepsFit (both a b) base tys
fits_both To.none b base tys f g = g
fits_both (To.more s a) b base tys f g = (f.0, fits_both a b base (step_types s tys) f.1 g)

pushed_append : {A : Type 0} (xs ys below : List A) → pushed (xs ++ ys) below ≡ pushed ys (pushed xs below)
pushed_append [] ys below = refl
pushed_append (x ∷ xs) ys below = pushed_append xs ys (x ∷ below)

length_pushed : {A : Type 0} (xs below : List A) → length (pushed xs below) ≡ length xs + length below
length_pushed [] below = let e : length below ≡ 0 + length below = omega arith in e
length_pushed (x ∷ xs) below = let e = length_pushed xs (x ∷ below) in omega (arith, e)

dropped_pushed : (xs below : List Ty) (m : ℕ) → dropped (m + length xs) (pushed xs below) ≡ dropped m below
dropped_pushed [] below m = let e : m + 0 ≡ m = omega arith in ap (λ k. dropped k below) e
dropped_pushed (x ∷ xs) below m =
    let e : m + length (x ∷ xs) ≡ suc m + length xs = omega arith in
    ap (λ k. dropped k (pushed xs (x ∷ below))) e ∙ dropped_pushed xs (x ∷ below) (suc m)

set_types : (line h : ℕ) (ty : Ty) (op : Operation) (below : List Ty) → step_types (To.set line h ty op) (pushed (operands ty op) below) ≡ ty ∷ below
set_types line h ty op below =
    let e : length (operands ty op) ≡ 0 + length (operands ty op) = omega arith in
    ap (λ x. ty ∷ x) (ap (λ k. dropped k (pushed (operands ty op) below)) e ∙ dropped_pushed (operands ty op) below 0)

pub puts_none : (h : ℕ) → Puts To.none h []
puts_none h = record { fits = λ base below e. tt; types = λ below. refl }

pub puts_both : (a b : Steps) (h k : ℕ) (xs ys : List Ty) → k ≡ h + length xs → Puts a h xs → Puts b k ys → Puts (both a b) h (xs ++ ys)
puts_both a b h k xs ys e pa pb = record {
  fits = λ base below eh. fits_both a b base below (pa.fits base below eh) (subst (λ x. StepsFit b base x) (sym (pa.types below)) (pb.fits base (pushed xs below) (let l = length_pushed xs below in omega (arith, e, eh, l))));
  types = λ below. types_both a b below ∙ ap (steps_types b) (pa.types below) ∙ pb.types (pushed xs below) ∙ sym (pushed_append xs ys below);
}

puts_set : (a : Steps) (line h : ℕ) (ty : Ty) (op : Operation) (xs : List Ty) → operands ty op ≡ xs → Puts a h xs → Puts (both a (one (To.set line h ty op))) h (ty ∷ [])
puts_set a line h ty op xs eo pa = record {
  fits = λ base below eh. fits_both a (one (To.set line h ty op)) base below (pa.fits base below eh) ((below, pa.types below ∙ ap (λ x. pushed x below) (sym eo), eh), tt);
  types = λ below. types_both a (one (To.set line h ty op)) below ∙ ap (step_types (To.set line h ty op)) (pa.types below ∙ ap (λ x. pushed x below) (sym eo)) ∙ set_types line h ty op below;
}

puts_one : (line h : ℕ) (ty : Ty) (op : Operation) → operands ty op ≡ [] → Puts (one (To.set line h ty op)) h (ty ∷ [])
puts_one line h ty op eo = puts_set To.none line h ty op [] eo (puts_none h)

puts_fork : (a : Steps) (line h : ℕ) (test ty : Ty) (b c : Steps) → Puts a h (test ∷ []) → Puts b h (ty ∷ []) → Puts c h (ty ∷ []) → Puts (both a (one (To.fork line h test ty b c))) h (ty ∷ [])
puts_fork a line h test ty b c pa pb pc = record {
  fits = λ base below eh. fits_both a (one (To.fork line h test ty b c)) base below (pa.fits base below eh)
      (subst (λ x. StepsFit (one (To.fork line h test ty b c)) base x) (sym (pa.types below)) ((refl, eh, pb.fits h [] from_none, pb.types [], pc.fits h [] from_none, pc.types []), tt));
  types = λ below. types_both a (one (To.fork line h test ty b c)) below ∙ ap (step_types (To.fork line h test ty b c)) (pa.types below);
}
  where
    from_none : h ≡ h + 0
    from_none = omega arith

three : (line h : ℕ) (ty : Ty) (a b : Steps) (op : Operation) (x y : Ty) → operands ty op ≡ x ∷ y ∷ [] → Puts a h (x ∷ []) → Puts b (suc h) (y ∷ []) → Puts (both a (both b (one (To.set line h ty op)))) h (ty ∷ [])
three line h ty a b op x y eo pa pb = subst (λ s. Puts s h (ty ∷ [])) (both_assoc a b (one (To.set line h ty op))) (puts_set (both a b) line h ty op (x ∷ y ∷ []) eo (puts_both a b h (suc h) (x ∷ []) (y ∷ []) (omega arith) pa pb))

both_none : (a : Steps) → both a To.none ≡ a
both_none To.none = refl
both_none (To.more s a) = ap (To.more s) (both_none a)

index_behind : (is : List Index) (i : Index) → index_types (is ++ i ∷ []) ≡ index_types is ++ arithmetic i.kind ∷ []
index_behind [] i = refl
index_behind (j ∷ is) i = ap (λ ts. arithmetic j.kind ∷ ts) (index_behind is i)

module _ (program : Program) (locals : List Ty) where
  mutual
    pub expression_puts : (e : Expr) (ty : Ty) (h : ℕ) → Puts (expression_code program locals e ty h) h (ty ∷ [])
    expression_puts (constant line s n) ty h = puts_one line h ty _ refl
    expression_puts (null line) ty h = puts_one line h ty _ refl
    expression_puts (string line k) ty h = puts_one line h ty _ refl
    expression_puts (local line x) ty h = puts_one line h ty _ refl
    expression_puts (read line place) ty h = puts_set _ line h ty _ _ refl (place_puts line place h)
    expression_puts (address line g) ty h = puts_one line h ty _ refl
    expression_puts (step line direction p i) ty h = three line h ty (expression_code program locals p (pointer_type program locals p) h) (expression_code program locals i (index_type program locals i) (suc h)) (To.step direction _ _) (pointer_type program locals p) (index_type program locals i) refl (expression_puts p _ h) (expression_puts i _ (suc h))
    expression_puts (step_from line i p) ty h = three line h ty (expression_code program locals i (index_type program locals i) h) (expression_code program locals p (pointer_type program locals p) (suc h)) (To.step_from _ _) (index_type program locals i) (pointer_type program locals p) refl (expression_puts i _ h) (expression_puts p _ (suc h))
    expression_puts (unary line Negate s e) ty h = puts_set _ line h ty _ _ refl (expression_puts e _ h)
    expression_puts (unary line Plus s e) ty h = expression_puts e ty h
    expression_puts (unary line Complement s e) ty h = puts_set _ line h ty _ _ refl (expression_puts e _ h)
    expression_puts (binary line operator s a b) ty h = three line h ty (expression_code program locals a (arithmetic s) h) (expression_code program locals b (expression_type program locals b) (suc h)) (To.binary operator s (expression_type program locals b)) (arithmetic s) (expression_type program locals b) refl (expression_puts a _ h) (expression_puts b _ (suc h))
    expression_puts (convert line from to e) ty h = puts_set _ line h ty _ _ refl (expression_puts e _ h)
    expression_puts (not_zero line e) ty h = puts_set _ line h ty _ _ refl (expression_puts e _ h)
    expression_puts (and line a b) ty h = puts_fork _ line h _ ty _ _ (expression_puts a _ h) (puts_set _ line h ty _ _ refl (expression_puts b _ h)) (puts_one line h ty _ refl)
    expression_puts (or line a b) ty h = puts_fork _ line h _ ty _ _ (expression_puts a _ h) (puts_one line h ty _ refl) (puts_set _ line h ty _ _ refl (expression_puts b _ h))
    expression_puts (choose line test a b) ty h = puts_fork _ line h _ ty _ _ (expression_puts test _ h) (expression_puts a ty h) (expression_puts b ty h)
    expression_puts (is_null line wanted e) ty h = puts_set _ line h ty _ _ refl (expression_puts e _ h)
    expression_puts (same line wanted a b) ty h = three line h ty (expression_code program locals a (expression_type program locals a) h) (expression_code program locals b (expression_type program locals a) (suc h)) (To.same wanted (expression_type program locals a)) (expression_type program locals a) (expression_type program locals a) refl (expression_puts a _ h) (expression_puts b _ (suc h))
    expression_puts (call line f es) ty h = puts_set _ line h ty (To.call f (argument_types program locals es (parameter_types program f))) _ refl (arguments_put es (parameter_types program f) h)
    expression_puts (new_region line) ty h = puts_one line h ty _ refl
    expression_puts (new_subregion line r) ty h = puts_set _ line h ty _ _ refl (expression_puts r _ h)
    expression_puts (region_of line p) ty h = puts_set _ line h ty _ _ refl (expression_puts p _ h)
    expression_puts (allocate line r made) ty h = puts_set _ line h ty _ _ refl (expression_puts r _ h)
    expression_puts (allocate_array line r n made) ty h = three line h ty (expression_code program locals r region h) (expression_code program locals n int (suc h)) (To.allocate_array made _) region int refl (expression_puts r _ h) (expression_puts n _ (suc h))
    expression_puts (putchar line e) ty h = puts_set _ line h ty _ _ refl (expression_puts e _ h)
    expression_puts (getchar line) ty h = puts_one line h ty _ refl

    pub arguments_put : (es : Arguments) (tys : List Ty) (h : ℕ) → Puts (arguments_code program locals es tys h) h (map value_type (argument_types program locals es tys))
    arguments_put none tys h = puts_none h
    arguments_put (more e es) [] h = puts_both _ _ h (suc h) (value_type (expression_type program locals e) ∷ []) (map value_type (argument_types program locals es [])) (omega arith) (expression_puts e _ h) (arguments_put es [] (suc h))
    arguments_put (more e es) (ty ∷ tys) h = puts_both _ _ h (suc h) (value_type ty ∷ []) (map value_type (argument_types program locals es tys)) (omega arith) (expression_puts e _ h) (arguments_put es tys (suc h))

    pub place_puts : (line : ℕ) (place : Place) (h : ℕ) → Puts (place_code program locals line place h) h (place_types (access program locals place))
    place_puts line (global g path) h = path_puts path _ (one (To.set line h (pointer Plain (global_type program g)) (To.static g))) h (suc h) (omega arith) (puts_one line h (pointer Plain (global_type program g)) (To.static g) refl)
    place_puts line (pointed p path) h = path_puts path _ (expression_code program locals p (pointer_type program locals p) h) h (suc h) (omega arith) (expression_puts p (pointer_type program locals p) h)
    place_puts line (indexed p i path) h =
        subst (λ z. Puts z h (place_types (access program locals (indexed p i path)))) (both_assoc (expression_code program locals p (pointer_type program locals p) h) (expression_code program locals i (index_type program locals i) (suc h)) (path_code program locals path (suc (suc h))))
        (path_puts path (first_access program locals (pointee (expression_type program locals p)) (Some (signedness program locals (expression_type program locals i))) (place_type program locals (indexed p i path))) (both (expression_code program locals p (pointer_type program locals p) h) (expression_code program locals i (index_type program locals i) (suc h))) h (suc (suc h)) (omega arith)
        (puts_both _ _ h (suc h) (pointer_type program locals p ∷ []) (index_type program locals i ∷ []) (omega arith) (expression_puts p (pointer_type program locals p) h) (expression_puts i (index_type program locals i) (suc h))))

    -- behind operands that stand there
    path_puts : (path : Path) (a : Access) (first : Steps) (h next : ℕ) → next ≡ h + length (place_types a) → Puts first h (place_types a) → Puts (both first (path_code program locals path next)) h (place_types (path_access program locals path a))
    path_puts here a first h next e pf = subst (λ s. Puts s h (place_types a)) (sym (both_none first)) pf
    path_puts (field s f rest) a first h next e pf = path_puts rest _ first h next e pf
    path_puts (element s f i rest) a first h next e pf =
        let ix : Index = record { count = count_of program.structs s f; stride = stride program.structs s f; kind = signedness program locals (expression_type program locals i) } in
        let a2 : Access = record a { offset = a.offset + offset program.structs s f; indices = a.indices ++ ix ∷ [] } in
        let te : place_types a ++ index_type program locals i ∷ [] ≡ place_types a2 = ap (λ ts. pointer Plain a.element ∷ ts) (append_assoc (shift_types a.shift) (index_types a.indices) (index_type program locals i ∷ []) ∙ ap (λ ts. shift_types a.shift ++ ts) (sym (index_behind a.indices ix))) in
        let le = length-append (place_types a) (index_type program locals i ∷ []) in
        subst (λ z. Puts z h (place_types (path_access program locals rest a2))) (both_assoc first (expression_code program locals i (index_type program locals i) next) (path_code program locals rest (suc next)))
        (path_puts rest a2 (both first (expression_code program locals i (index_type program locals i) next)) h (suc next) (let l2 = ap length te in omega (arith, e, le, l2))
        (subst (λ ts. Puts (both first (expression_code program locals i (index_type program locals i) next)) h ts) te
        (puts_both first (expression_code program locals i (index_type program locals i) next) h next (place_types a) (index_type program locals i ∷ []) e pf (expression_puts i (index_type program locals i) next))))
