-- The structs of a file agree with those of all files: by name, by fields, and in size.
use Rattle.std.specs.Prelude.{◌≡◌, ◌⊎◌, ℕ, zero, suc, ◌+◌, ◌<◌, List, [], ◌∷◌, ◌++◌, Option, Some, None, true, is_some, map, length, get_or, slice_get, if◌then◌else◌}
use Rattle.std.proofs.Common.{refl, sym, ap, ◌∙◌, subst, inl, inr, arith, length-append}
use Rattle.std.proofs.lemmas.List.{length-map, map-append}
use Rattle.rc_syntax.specs.declared.tree.Spot.{Spot}
use Rattle.rc_syntax.specs.declared.tree.Name.{Name}
use Rattle.rc_syntax.specs.declared.tree.Note.{Note as WrittenNote}
use Rattle.rc_syntax.specs.declared.tree.Base.{Base}
use Rattle.rc_syntax.specs.declared.tree.Base.TheVariants as base
use Rattle.rc_syntax.specs.Tree as t
use Rattle.rc_core.specs.Types.{Ty, int, unsigned, char, region, struct, pointer}
use Rattle.rc_core.specs.Layout.{Layout, cells_by, copies, field_cells, fields_cells}
use Rattle.rc_core.specs.WellTyped.{IsInside}
use Rattle.rc_core.proofs.LayoutLaws.{AreInside}
use Rattle.rc_deletes.specs.Kinds.{place_of, number_or, spelled, struct_number, base_type, starred, written_type, note_of}
use Rattle.rc_deletes.specs.Scopes.{Context, Shape, fields_in, struct_names}
use Rattle.rc_deletes.specs.Items.{names_of, Definition, with_definition, with_structs, field_of}
use Rattle.rc_deletes.proofs.Naming.{place_more, place_taken}
use Rattle.rc_deletes.proofs.Definitions.{more_structs}
use Rattle.rc_linking.proofs.Values.{ren_ty}
use Rattle.rc_linking.proofs.Names.{Names}
use Rattle.rc_linking.proofs.Scopes.{IsIn}
use Rattle.rc_linking.proofs.Expressions.{ren_field, ren_shape}
use Rattle.rc_linked_files.proofs.Structs.{not_more, IsBefore, AreBefore, IsEarlier, AreKnown, FileStructs}
use Rattle.rc_linked_files.proofs.Covers.{within}

-- a type by its struct's other number
pub starred_ren : (ren : ℕ → ℕ) (t u : Ty) (notes : List WrittenNote) → u ≡ ren_ty ren t → starred u notes ≡ ren_ty ren (starred t notes)
starred_ren ren t u [] h = h
starred_ren ren t u (m ∷ ms) h = starred_ren ren (pointer (note_of m) t) (pointer (note_of m) u) ms (ap (pointer (note_of m)) h)

pub number_is : (context : Context) (name : List ℕ) (k : ℕ) → place_of (struct_names context) name ≡ Some k → struct_number context.types name ≡ k
number_is context name k h = ap (λ o. number_or o (length context.types + spelled name)) (place_taken (length context.shapes) context.types name k h)

pointer_inside : (k : ℕ) (n : _) (u : Ty) (notes : List WrittenNote) → IsInside k (starred (pointer n u) notes)
pointer_inside k n u [] = tt
pointer_inside k n u (m ∷ ms) = pointer_inside k (note_of m) (pointer n u) ms

-- what stands before a struct is inside it
module _ (context : Context) where
  inside_by : (l : ℕ) (b : Base) (stars : List WrittenNote) → IsBefore (struct_names context) l b stars → IsInside l (starred (base_type context.types b) stars)
  inside_by l (base.Struct at name) [] h = subst (λ x. x < l) (sym (number_is context name.text h.0 h.1)) h.2
  inside_by l b (m ∷ ms) h = pointer_inside l (note_of m) (base_type context.types b) ms
  inside_by l (base.Int at) [] h = tt
  inside_by l (base.Unsigned at) [] h = tt
  inside_by l (base.Char at) [] h = tt
  inside_by l (base.Region at) [] h = tt

  pub are_inside : (l : ℕ) (fs : List t.Field) → AreBefore (struct_names context) l fs → AreInside l (fields_in (map (field_of context.types) fs))
  are_inside l [] h j f e = absurd cc
  are_inside l (g ∷ fs) h zero f e = let q : record { ty = written_type context.types g.type_name; count = g.length } ≡ f = cc in subst (λ x. IsInside l x.ty) q (inside_by l g.type_name.base g.type_name.stars h.0)
  are_inside l (g ∷ fs) h (suc j) f e = are_inside l fs h.1 j f e

-- how many cells copies have
copies_many : (n : ℕ) (xs ys : Layout) → length xs ≡ length ys → length (copies (Some n) xs) ≡ length (copies (Some n) ys)
copies_many zero xs ys h = refl
copies_many (suc n) xs ys h =
    let k = copies_many n xs ys h in
    omega (arith, length-append xs (copies (Some n) xs), length-append ys (copies (Some n) ys), h, k)

copies_same : (count : Option ℕ) (xs ys : Layout) → length xs ≡ length ys → length (copies count xs) ≡ length (copies count ys)
copies_same None xs ys h = h
copies_same (Some n) xs ys h = copies_many n xs ys h

pub cells_same : (ren : ℕ → ℕ) (l m : List Layout) (n : ℕ) → ((k : ℕ) → k < n → length (get_or m (ren k) []) ≡ length (get_or l k [])) → (t : Ty) → IsInside n t → length (cells_by m (ren_ty ren t)) ≡ length (cells_by l t)
cells_same ren l m n h int i = refl
cells_same ren l m n h unsigned i = refl
cells_same ren l m n h char i = refl
cells_same ren l m n h region i = refl
cells_same ren l m n h (struct k) i = h k i
cells_same ren l m n h (pointer note t) i = refl

pub fields_size : (ren : ℕ → ℕ) (l m : List Layout) (n : ℕ) → ((k : ℕ) → k < n → length (get_or m (ren k) []) ≡ length (get_or l k [])) → (shape : Shape) → AreInside n (fields_in shape) → length (fields_cells m (fields_in (ren_shape ren shape))) ≡ length (fields_cells l (fields_in shape))
fields_size ren l m n h [] i = refl
fields_size ren l m n h (f ∷ fs) i =
    let one = copies_same f.1.count (cells_by m (ren_ty ren f.1.ty)) (cells_by l f.1.ty) (cells_same ren l m n h f.1.ty (i 0 f.1 refl)) in
    let rest = fields_size ren l m n h fs (λ j g e. i (suc j) g e) in
    omega (arith, length-append (field_cells m (ren_field ren f.1)) (fields_cells m (fields_in (ren_shape ren fs))), length-append (field_cells l f.1) (fields_cells l (fields_in fs)), one, rest)

-- a definition of a file, with what the file shows of it
pub record Shown (file : Context) (is : List t.Item) (ns : Names) (s : ℕ) (d : Definition) : Type 0 where
  pub at : Spot
  pub name : Name
  pub fields : List t.Field
  pub inside : IsIn (t.struct at name fields) is
  pub same : (name.text, fields) ≡ d
  pub bases : Names
  pub known : AreKnown file bases fields
  pub before : AreBefore ns s fields

some_of : (o : Option ℕ) → is_some o ≡ true → (k : ℕ) × (o ≡ Some k)
some_of (Some k) h = (k, refl)
some_of None h = not_more h

early : (file : Context) (ns more : Names) (l : ℕ) (fs : List t.Field) → length ns ≡ l → AreKnown file ns fs → AreBefore (ns ++ more) l fs
early file ns more l [] e h = tt
early file ns more l (f ∷ fs) e h = (by f.type_name.base f.type_name.stars h.1, early file ns more l fs e h.2) where
  by : (b : Base) (stars : List WrittenNote) → IsEarlier ns b stars → IsBefore (ns ++ more) l b stars
  by (base.Struct at name) [] k = let q = some_of (place_of ns name.text) k in (q.0, place_more ns more name.text q.0 q.1, subst (λ x. q.0 < x) e (within ns name.text q.0 q.1))
  by (base.Struct at name) (m ∷ ms) k = tt
  by (base.Int at) stars k = tt
  by (base.Unsigned at) stars k = tt
  by (base.Char at) stars k = tt
  by (base.Region at) stars k = tt

last_is : {A : Type 0} (xs : List A) (y z : A) (s : ℕ) → slice_get (xs ++ y ∷ []) s ≡ Some z → (slice_get xs s ≡ Some z) ⊎ ((y ≡ z) × (s ≡ length xs))
last_is [] y z zero h = inr (cc, refl)
last_is [] y z (suc s) h = absurd cc
last_is (x ∷ xs) y z zero h = inl h
last_is (x ∷ xs) y z (suc s) h = more (last_is xs y z s h) where
  more : (slice_get xs s ≡ Some z) ⊎ ((y ≡ z) × (s ≡ length xs)) → (slice_get xs s ≡ Some z) ⊎ ((y ≡ z) × (suc s ≡ suc (length xs)))
  more (inl h) = inl h
  more (inr h) = inr (h.0, ap suc h.1)

later_shown : (file : Context) (i : t.Item) (is : List t.Item) (ns : Names) (s : ℕ) (d : Definition) (q : Option Definition) → (q ≡ Some d) ⊎ Shown file is ns s d → (q ≡ Some d) ⊎ Shown file (i ∷ is) ns s d
later_shown file i is ns s d q (inl h) = inl h
later_shown file i is ns s d q (inr h) = inr (record { at = h.at; name = h.name; fields = h.fields; inside = inr h.inside; same = h.same; bases = h.bases; known = h.known; before = h.before })

pub shown : (file : Context) (is : List t.Item) (ds : List Definition) (s : ℕ) (d : Definition) → FileStructs file ds is → slice_get (with_structs ds is) s ≡ Some d → (slice_get ds s ≡ Some d) ⊎ Shown file is (names_of (with_structs ds is)) s d
shown file [] ds s d shows h = inl h
shown file (t.global at ty name count c ∷ is) ds s d shows h = later_shown file _ is _ s d (slice_get ds s) (shown file is ds s d shows h)
shown file (t.function at deletes result name params body ∷ is) ds s d shows h = later_shown file _ is _ s d (slice_get ds s) (shown file is ds s d shows h)
shown file (t.struct at name fields ∷ is) ds s d shows h = one (shown file is (with_definition ds (name.text, fields)) s d shows.2 h) where
  added : with_definition ds (name.text, fields) ≡ ds ++ (name.text, fields) ∷ []
  added = ap (λ b. if b then ds else ds ++ (name.text, fields) ∷ []) shows.0

  after : (rest : List Definition) × (with_structs (with_definition ds (name.text, fields)) is ≡ (ds ++ (name.text, fields) ∷ []) ++ rest)
  after = let m = more_structs (with_definition ds (name.text, fields)) is in (m.0, m.1 ∙ ap (λ x. x ++ m.0) added)

  names_are : names_of (with_structs (with_definition ds (name.text, fields)) is) ≡ names_of ds ++ (name.text ∷ names_of after.0)
  names_are = ap names_of after.1 ∙ ap names_of (assoc ds (name.text, fields) after.0) ∙ map-append (λ d. d.0) ds ((name.text, fields) ∷ after.0) where
    assoc : (xs : List Definition) (y : Definition) (ys : List Definition) → (xs ++ y ∷ []) ++ ys ≡ xs ++ (y ∷ ys)
    assoc [] y ys = refl
    assoc (x ∷ xs) y ys = ap (λ z. x ∷ z) (assoc xs y ys)

  two : (slice_get ds s ≡ Some d) ⊎ (((name.text, fields) ≡ d) × (s ≡ length ds)) → (slice_get ds s ≡ Some d) ⊎ Shown file (t.struct at name fields ∷ is) (names_of (with_structs (with_definition ds (name.text, fields)) is)) s d
  two (inl h) = inl h
  two (inr h) = inr (record {
    at = at;
    name = name;
    fields = fields;
    inside = inl refl;
    same = h.0;
    bases = names_of ds;
    known = shows.1;
    before = subst (λ x. AreBefore x s fields) (sym names_are) (early file (names_of ds) (name.text ∷ names_of after.0) s fields (length-map ds (λ d. d.0) ∙ sym h.1) shows.1);
  })

  one : (slice_get (with_definition ds (name.text, fields)) s ≡ Some d) ⊎ Shown file is (names_of (with_structs (with_definition ds (name.text, fields)) is)) s d → (slice_get ds s ≡ Some d) ⊎ Shown file (t.struct at name fields ∷ is) (names_of (with_structs (with_definition ds (name.text, fields)) is)) s d
  one (inl h) = two (last_is ds (name.text, fields) d s (subst (λ x. slice_get x s ≡ Some d) added h))
  one (inr h) = inr (record { at = h.at; name = h.name; fields = h.fields; inside = inr h.inside; same = h.same; bases = h.bases; known = h.known; before = h.before })
