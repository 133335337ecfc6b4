-- Each file's structs agree with those of all files that cover them.
use Rattle.std.specs.Prelude.{◌≡◌, ◌⊎◌, ℕ, zero, suc, ◌+◌, ◌<◌, ◌≤◌, List, [], ◌∷◌, ◌++◌, Option, Some, None, true, is_some, map, option_map, length, get_or, slice_get}
use Rattle.std.proofs.Common.{refl, sym, ap, ◌∙◌, subst, inl, inr, arith, length-append}
use Rattle.std.proofs.lemmas.List.{length-map, get_or_past}
use Rattle.std.proofs.lemmas.Option.{slice_get-map}
use Rattle.rc_syntax.specs.declared.tree.Base.{Base}
use Rattle.rc_syntax.specs.declared.tree.Base.TheVariants as base
use Rattle.rc_syntax.specs.Tree as t
use Rattle.rc_core.specs.Types.{Ty, struct}
use Rattle.rc_core.specs.Programs as p
use Rattle.rc_core.specs.Layout.{Layout, size, fields_cells, layouts_after, layouts_of}
use Rattle.rc_core.proofs.LayoutLaws.{AreInside, struct_cells}
use Rattle.rc_deletes.specs.Kinds.{place_of, number_or, base_type}
use Rattle.rc_deletes.specs.Scopes.{Context, Shape, fields_in, struct_names, structs_in}
use Rattle.rc_deletes.specs.Items.{is_among, names_of, Definition, with_structs, struct_definitions, field_of, shape_of, context_of}
use Rattle.rc_deletes.proofs.Naming.{same_name, name_at}
use Rattle.rc_judgements.proofs.WellTypedStructs.{names_same}
use Rattle.rc_linking.proofs.Values.{ren_ty}
use Rattle.rc_linking.proofs.Names.{Names}
use Rattle.rc_linking.proofs.Scopes.{IsIn}
use Rattle.rc_linking.proofs.Expressions.{Agree, ren_field, ren_shape}
use Rattle.rc_linked_files.proofs.Fronts.{AreFunctions, no_structs}
use Rattle.rc_linked_files.proofs.All.{structs_append}
use Rattle.rc_linked_files.proofs.Structs.{AreBefore, IsCovered, AreCovered, IsKnown, AreKnown, FileStructs}
use Rattle.rc_linked_files.proofs.Covers.{struct_in, IsStructOf}
use Rattle.rc_linked_files.proofs.Agrees.{starred_ren, number_is, are_inside, fields_size, Shown, shown}

layouts_length : (acc : List Layout) (ss : List p.Struct) → length (layouts_after acc ss) ≡ length acc + length ss
layouts_length acc [] = omega arith
layouts_length acc (fields ∷ ss) = layouts_length (acc ++ fields_cells acc fields ∷ []) ss ∙ omega (arith, length-append acc (fields_cells acc fields ∷ []))

lower : {A : Type 0} (xs : List A) (k s : ℕ) (x : A) → k < s → slice_get xs s ≡ Some x → (y : A) × (slice_get xs k ≡ Some y)
lower [] k s x h e = absurd cc
lower (a ∷ xs) zero s x h e = (a, refl)
lower (a ∷ xs) (suc k) (suc s) x h e = lower xs k s x (omega (arith, h)) e
lower (a ∷ xs) (suc k) zero x h e = absurd (never h) where
  never : suc k < zero → ⊥
  never h = omega arith

abbrev place_there : Names → Option (List ℕ) → Option ℕ
place_there names None = None
place_there names (Some name) = place_of names name

mapped_some : {A B : Type 0} (f : A → B) (o : Option A) (b : B) → option_map f o ≡ Some b → (a : A) × (o ≡ Some a) × (f a ≡ b)
mapped_some f (Some a) b h = (a, refl, cc)
mapped_some f None b h = absurd cc

module _ (mine stubs : List t.Item) (functions : AreFunctions stubs) (every : List t.Item) (shows : FileStructs (context_of (mine ++ stubs)) [] mine) (covered : AreCovered (struct_definitions every) mine) where
  abbrev file : Context
  file = context_of (mine ++ stubs)

  abbrev all : Context
  all = context_of every

  abbrev own : List Definition
  own = with_structs [] mine

  abbrev whole : List Definition
  whole = struct_definitions every

  own_is : struct_definitions (mine ++ stubs) ≡ with_structs [] mine
  own_is = structs_append [] mine stubs ∙ no_structs (with_structs [] mine) stubs functions

  file_names : struct_names (context_of (mine ++ stubs)) ≡ names_of (with_structs [] mine)
  file_names = names_same (mine ++ stubs) ∙ ap names_of own_is

  abbrev pub ren : ℕ → ℕ
  ren s = number_or (place_there (names_of whole) (slice_get (names_of own) s)) (length whole)

  covered_name : (name : List ℕ) → (is_among (names_of []) name ≡ true) ⊎ ((i : t.Item) × (IsIn i mine × IsStructOf i name)) → (l : ℕ) × (place_of (names_of whole) name ≡ Some l)
  covered_name name (inl h) = absurd (no_name h) where
    no_name : is_among [] name ≡ true → ⊥
    no_name h = cc
  covered_name name (inr h) = by h.0 h.1.1 (covered h.0 h.1.0) where
    by : (i : t.Item) → IsStructOf i name → IsCovered whole i → (l : ℕ) × (place_of (names_of whole) name ≡ Some l)
    by (t.struct a other fs) e c = (c.l, ap (place_of (names_of whole)) (same_name name other.text e) ∙ c.placed)
    by (t.global a ty other count c) e q = absurd e
    by (t.function a d r other qs b) e q = absurd e

  names_agree : (name : List ℕ) (k : ℕ) → place_of (struct_names file) name ≡ Some k → place_of (struct_names all) name ≡ Some (ren k)
  names_agree name k h =
      let here : place_of (names_of own) name ≡ Some k = sym (ap (λ x. place_of x name) file_names) ∙ h in
      let at : slice_get (names_of own) k ≡ Some name = name_at (names_of own) name k here in
      let q = covered_name name (struct_in [] mine name (ap is_some here)) in
      let r : ren k ≡ q.0 = ap (λ o. number_or (place_there (names_of whole) o) (length whole)) at ∙ ap (λ o. number_or o (length whole)) q.1 in
      ap (λ x. place_of x name) (names_same every) ∙ q.1 ∙ ap Some (sym r)

  -- fields by the other numbers
  base_ren : (b : Base) → IsKnown file b → base_type all.types b ≡ ren_ty ren (base_type file.types b)
  base_ren (base.Int at) h = refl
  base_ren (base.Unsigned at) h = refl
  base_ren (base.Char at) h = refl
  base_ren (base.Region at) h = refl
  base_ren (base.Struct at name) h = ap struct (number_is all name.text (ren h.0) (names_agree name.text h.0 h.1) ∙ ap ren (sym (number_is file name.text h.0 h.1)))

  fields_ren : (bases : Names) (fs : List t.Field) → AreKnown file bases fs → map (field_of all.types) fs ≡ ren_shape ren (map (field_of file.types) fs)
  fields_ren bases [] h = refl
  fields_ren bases (f ∷ fs) h =
      let x : Ty → List ℕ × p.Field = λ ty. (f.name.text, record { ty = ty; count = f.length }) in
      ap (λ z. z ∷ map (field_of all.types) fs) (ap x (starred_ren ren (base_type file.types f.type_name.base) (base_type all.types f.type_name.base) f.type_name.stars (base_ren f.type_name.base h.0)))
      ∙ ap (λ z. (f.name.text, ren_field ren (field_of file.types f).1) ∷ z) (fields_ren bases fs h.2)

  -- a definition here and the one that counts
  pub record Pair (s : ℕ) (d : Definition) : Type 0 where
    pub fields : List t.Field
    pub mine_is : d.1 ≡ fields
    pub l : ℕ
    pub other : Definition
    pub number : ren s ≡ l
    pub there : slice_get whole l ≡ Some other
    pub shape : map (field_of all.types) other.1 ≡ ren_shape ren (map (field_of file.types) fields)
    pub before : AreBefore (names_of own) s fields
    pub before_there : AreBefore (names_of whole) l other.1

  pair_of : (s : ℕ) (d : Definition) → slice_get own s ≡ Some d → Pair s d
  pair_of s d h = which (shown file mine [] s d shows h) where
    at : slice_get (names_of own) s ≡ Some d.0
    at = slice_get-map (λ d. d.0) own s ∙ ap (option_map (λ d. d.0)) h

    which : (slice_get [] s ≡ Some d) ⊎ Shown file mine (names_of own) s d → Pair s d
    which (inl e) = absurd cc
    which (inr r) =
        let c = covered (t.struct r.at r.name r.fields) r.inside in
        record {
          fields = r.fields;
          mine_is = sym (ap (λ x. x.1) r.same);
          l = c.l;
          other = c.d;
          number = ap (λ o. number_or (place_there (names_of whole) o) (length whole)) (at ∙ ap Some (sym (ap (λ x. x.0) r.same))) ∙ ap (λ o. number_or o (length whole)) c.placed;
          there = c.there;
          shape = c.shape all.types ∙ fields_ren r.bases r.fields r.known;
          before = r.before;
          before_there = c.before;
        }

  own_shape : (s : ℕ) (d : Definition) → slice_get own s ≡ Some d → slice_get file.shapes s ≡ Some (shape_of file.types d)
  own_shape s d h = slice_get-map (shape_of file.types) (struct_definitions (mine ++ stubs)) s ∙ ap (option_map (shape_of file.types)) (ap (λ x. slice_get x s) own_is ∙ h)

  whole_shape : (l : ℕ) (d : Definition) → slice_get whole l ≡ Some d → slice_get all.shapes l ≡ Some (shape_of all.types d)
  whole_shape l d h = slice_get-map (shape_of all.types) whole l ∙ ap (option_map (shape_of all.types)) h

  shapes_agree : (s : ℕ) (shape : Shape) → slice_get file.shapes s ≡ Some shape → slice_get all.shapes (ren s) ≡ Some (ren_shape ren shape)
  shapes_agree s shape h =
      let m = mapped_some (shape_of file.types) (slice_get (struct_definitions (mine ++ stubs)) s) shape (sym (slice_get-map (shape_of file.types) (struct_definitions (mine ++ stubs)) s) ∙ h) in
      let q = pair_of s m.0 (sym (ap (λ x. slice_get x s) own_is) ∙ m.1) in
      ap (slice_get all.shapes) q.number ∙ whole_shape q.l q.other q.there ∙ ap Some (q.shape ∙ ap (λ x. ren_shape ren (map (field_of file.types) x)) (sym q.mine_is) ∙ ap (ren_shape ren) m.2)

  -- sizes, from the structs that stand first
  below : (b s : ℕ) → s < b → (d : Definition) → slice_get own s ≡ Some d → size (structs_in all) (struct (ren s)) ≡ size (structs_in file) (struct s)
  below zero s h d e = absurd (never h) where
    never : s < zero → ⊥
    never h = omega arith
  below (suc b) s h d e =
      let q = pair_of s d e in
      let shape : Shape = map (field_of file.types) q.fields in
      let mine_shape : slice_get (structs_in file) s ≡ Some (fields_in shape) = slice_get-map fields_in file.shapes s ∙ ap (option_map fields_in) (own_shape s d e ∙ ap (λ x. Some (map (field_of file.types) x)) q.mine_is) in
      let their_shape : slice_get (structs_in all) q.l ≡ Some (fields_in (map (field_of all.types) q.other.1)) = slice_get-map fields_in all.shapes q.l ∙ ap (option_map fields_in) (whole_shape q.l q.other q.there) in
      let mine_inside : AreInside s (fields_in shape) = are_inside file s q.fields (subst (λ x. AreBefore x s q.fields) (sym file_names) q.before) in
      let their_inside : AreInside q.l (fields_in (map (field_of all.types) q.other.1)) = are_inside all q.l q.other.1 (subst (λ x. AreBefore x q.l q.other.1) (sym (names_same every)) q.before_there) in
      ap (λ x. size (structs_in all) (struct x)) q.number
      ∙ ap length (struct_cells (structs_in all) q.l (fields_in (map (field_of all.types) q.other.1)) their_shape their_inside)
      ∙ ap (λ x. length (fields_cells (layouts_of (structs_in all)) (fields_in x))) q.shape
      ∙ fields_size ren (layouts_of (structs_in file)) (layouts_of (structs_in all)) s (λ k less. let m = lower own k s d less e in below b k (omega (arith, less, h)) m.0 m.1) shape mine_inside
      ∙ sym (ap length (struct_cells (structs_in file) s (fields_in shape) mine_shape mine_inside))

  beyond : (s : ℕ) → slice_get own s ≡ None → size (structs_in all) (struct (ren s)) ≤ size (structs_in file) (struct s)
  beyond s h =
      let at : slice_get (names_of own) s ≡ None = slice_get-map (λ d. d.0) own s ∙ ap (option_map (λ d. d.0)) h in
      let r : ren s ≡ length whole = ap (λ o. number_or (place_there (names_of whole) o) (length whole)) at in
      let many : length (layouts_of (structs_in all)) ≡ length whole = layouts_length [] (structs_in all) ∙ omega (arith, length-map all.shapes fields_in, length-map whole (shape_of all.types)) in
      let past : get_or (layouts_of (structs_in all)) (ren s) [] ≡ [] = get_or_past (layouts_of (structs_in all)) (ren s) [] (omega (arith, r, many)) in
      subst (λ x. length x ≤ size (structs_in file) (struct s)) (sym past) (omega arith)

  sizes_agree : (s : ℕ) → size (structs_in all) (struct (ren s)) ≤ size (structs_in file) (struct s)
  sizes_agree s = by (slice_get own s) refl where
    by : (o : Option Definition) → slice_get own s ≡ o → size (structs_in all) (struct (ren s)) ≤ size (structs_in file) (struct s)
    by None e = beyond s e
    by (Some d) e = let q = below (suc s) s (omega arith) d e in omega (arith, q)

  pub agreed : Agree (context_of (mine ++ stubs)) (context_of every) ren
  agreed = record { names = names_agree; shapes = shapes_agree; sizes = sizes_agree }
