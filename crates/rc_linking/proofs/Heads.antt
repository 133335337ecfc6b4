-- Types and heads in the same words.
use Rattle.std.specs.Prelude.{◌≡◌, ℕ, List, [], ◌∷◌, Option, Some, None, Bool, true, false, ◌&&◌, map, option_map}
use Rattle.std.proofs.Common.{refl, sym, ap, ◌∙◌, subst}
use Rattle.rc_syntax.specs.declared.tree.Base.{Base}
use Rattle.rc_syntax.specs.declared.tree.Base.TheVariants as base
use Rattle.rc_syntax.specs.declared.tree.Note.{Note}
use Rattle.rc_syntax.specs.Tree as t
use Rattle.rc_core.specs.Types.{Ty, int, region, struct, pointer}
use Rattle.rc_deletes.specs.Kinds.{same_note, same_type, note_of, struct_number, base_type, starred, written_type}
use Rattle.rc_deletes.specs.Scopes.{Context, Signature}
use Rattle.rc_deletes.specs.Builtins.{row}
use Rattle.rc_deletes.specs.declared.builtin.Builtin.{Builtin}
use Rattle.rc_deletes.specs.declared.builtin.Builtin.TheVariants.{NewRegion, NewSubregion, DeleteRegion, RegionOf, Putchar, Getchar}
use Rattle.rc_deletes.specs.Items.{signature_of, type_option, same_bool, agrees, same_takes, are_taken, agrees_with, same_result as equal_result}
use Rattle.rc_deletes.proofs.Naming.{same_name}
use Rattle.rc_linking.specs.Moved.{moved_base, moved_type, moved_param}
use Rattle.rc_linking.specs.Clash.{same_base, same_stars, same_written, same_params, same_result}
use Rattle.rc_linking.proofs.Values.{ren_ty, same_more, own_type, note_is, both_true, and_true}
use Rattle.rc_linking.proofs.Calls.{IsSignature}

module _ (types : List (List ℕ)) where
  bases_same : (a b : Base) → same_base a b ≡ true → base_type types a ≡ base_type types b
  bases_same (base.Int x) (base.Int y) h = refl
  bases_same (base.Unsigned x) (base.Unsigned y) h = refl
  bases_same (base.Char x) (base.Char y) h = refl
  bases_same (base.Region x) (base.Region y) h = refl
  bases_same (base.Struct x name) (base.Struct y other) h = ap (λ s. struct (struct_number types s)) (same_name name.text other.text h)
  bases_same _ _ h = absurd cc

  stars_same : (t u : Ty) (ms ns : List Note) → t ≡ u → same_stars ms ns ≡ true → starred t ms ≡ starred u ns
  stars_same t u [] [] e h = e
  stars_same t u (m ∷ ms) (n ∷ ns) e h =
      let q = both_true (same_note (note_of m) (note_of n)) (same_stars ms ns) h in
      stars_same (pointer (note_of m) t) (pointer (note_of n) u) ms ns (ap (pointer (note_of m)) e ∙ ap (λ x. pointer x u) (note_is (note_of m) (note_of n) q.0)) q.1
  stars_same t u [] (n ∷ ns) e h = absurd cc
  stars_same t u (m ∷ ms) [] e h = absurd cc

  pub written_same : (a b : t.TypeName) → same_written a b ≡ true → written_type types a ≡ written_type types b
  written_same a b h =
      let q = both_true (same_base a.base b.base) (same_stars a.stars b.stars) h in
      stars_same (base_type types a.base) (base_type types b.base) a.stars b.stars (bases_same a.base b.base q.0) q.1

  params_same : (qs rs : List t.Param) → same_params qs rs ≡ true → map (λ q. written_type types q.type_name) qs ≡ map (λ q. written_type types q.type_name) rs
  params_same [] [] h = refl
  params_same (q ∷ qs) (r ∷ rs) h =
      let k = both_true (same_written q.type_name r.type_name) (same_params qs rs) h in
      ap (λ x. x ∷ map (λ q. written_type types q.type_name) qs) (written_same q.type_name r.type_name k.0) ∙ ap (λ x. written_type types r.type_name ∷ x) (params_same qs rs k.1)
  params_same [] (r ∷ rs) h = absurd cc
  params_same (q ∷ qs) [] h = absurd cc

  module _ (n : ℕ) where
    pub moved_base_type : (b : Base) → base_type types (moved_base n b) ≡ base_type types b
    moved_base_type (base.Int x) = refl
    moved_base_type (base.Unsigned x) = refl
    moved_base_type (base.Char x) = refl
    moved_base_type (base.Region x) = refl
    moved_base_type (base.Struct x name) = refl

    pub moved_written : (a : t.TypeName) → written_type types (moved_type n a) ≡ written_type types a
    moved_written a = ap (λ x. starred x a.stars) (moved_base_type a.base)

    moved_params : (qs : List t.Param) → map (λ q. written_type types q.type_name) (map (moved_param n) qs) ≡ map (λ q. written_type types q.type_name) qs
    moved_params [] = refl
    moved_params (q ∷ qs) = ap (λ x. x ∷ map (λ q. written_type types q.type_name) (map (moved_param n) qs)) (moved_written q.type_name) ∙ ap (λ x. written_type types q.type_name ∷ x) (moved_params qs)

pub same_flag : (a b : Bool) → same_bool a b ≡ true → a ≡ b
same_flag true true h = refl
same_flag true false h = absurd cc
same_flag false false h = refl
same_flag false true h = absurd cc

pub own_flag : (a : Bool) → same_bool a a ≡ true
own_flag true = refl
own_flag false = refl

signature_is : (s r : Signature) → s.takes ≡ r.takes → s.gives ≡ r.gives → s.deletes ≡ r.deletes → s ≡ r
signature_is s r h k l = ap (λ x. record { takes = x; gives = s.gives; deletes = s.deletes }) h ∙ ap (λ x. record { takes = r.takes; gives = x; deletes = s.deletes }) k ∙ ap (λ x. record { takes = r.takes; gives = r.gives; deletes = x }) l

module _ (context : Context) where
  results_same : (a b : Option t.TypeName) → same_result a b ≡ true → type_option context a ≡ type_option context b
  results_same None None h = refl
  results_same (Some a) (Some b) h = ap Some (written_same context.types a b h)
  results_same None (Some b) h = absurd cc
  results_same (Some a) None h = absurd cc

  moved_result : (n : ℕ) (a : Option t.TypeName) → type_option context (option_map (moved_type n) a) ≡ type_option context a
  moved_result n None = refl
  moved_result n (Some a) = ap Some (moved_written context.types n a)

  -- heads that agree have one signature
  pub heads_same : (deletes also : Bool) (result given : Option t.TypeName) (params others : List t.Param) → same_bool deletes also && (same_result result given && same_params params others) ≡ true → signature_of context deletes result params ≡ signature_of context also given others
  heads_same deletes also result given params others h =
      let q = both_true (same_bool deletes also) (same_result result given && same_params params others) h in
      let r = both_true (same_result result given) (same_params params others) q.1 in
      signature_is (signature_of context deletes result params) (signature_of context also given others) (params_same context.types params others r.1) (results_same result given r.0) (same_flag deletes also q.0)

  pub moved_signature : (n : ℕ) (deletes : Bool) (result : Option t.TypeName) (params : List t.Param) → signature_of context deletes (option_map (moved_type n) result) (map (moved_param n) params) ≡ signature_of context deletes result params
  moved_signature n deletes result params = signature_is (signature_of context deletes (option_map (moved_type n) result) (map (moved_param n) params)) (signature_of context deletes result params) (moved_params context.types n params) (moved_result n result) refl

own_takes : (ts : List Ty) → same_takes ts ts ≡ true
own_takes [] = refl
own_takes (t ∷ ts) = and_true (same_type t t) (same_takes ts ts) (own_type t) (own_takes ts)

own_result : (t : Option Ty) → equal_result t t ≡ true
own_result None = refl
own_result (Some t) = own_type t

pub own_signature : (s : Signature) → agrees s s ≡ true
own_signature s = and_true (same_takes s.takes s.takes) (equal_result s.gives s.gives && same_bool s.deletes s.deletes) (own_takes s.takes) (and_true (equal_result s.gives s.gives) (same_bool s.deletes s.deletes) (own_result s.gives) (own_flag s.deletes))

module _ (ren : ℕ → ℕ) where
  takes_more : (ts us : List Ty) → same_takes ts us ≡ true → same_takes (map (ren_ty ren) ts) (map (ren_ty ren) us) ≡ true
  takes_more [] [] h = refl
  takes_more (t ∷ ts) (u ∷ us) h =
      let q = both_true (same_type t u) (same_takes ts us) h in
      and_true (same_type (ren_ty ren t) (ren_ty ren u)) (same_takes (map (ren_ty ren) ts) (map (ren_ty ren) us)) (same_more ren t u q.0) (takes_more ts us q.1)
  takes_more [] (u ∷ us) h = absurd cc
  takes_more (t ∷ ts) [] h = absurd cc

  result_more : (t u : Option Ty) → equal_result t u ≡ true → equal_result (option_map (ren_ty ren) t) (option_map (ren_ty ren) u) ≡ true
  result_more None None h = refl
  result_more (Some t) (Some u) h = same_more ren t u h
  result_more None (Some u) h = absurd cc
  result_more (Some t) None h = absurd cc

  -- signatures that agree in a file agree behind others
  pub agrees_more : (a b c d : Signature) → IsSignature ren a c → IsSignature ren b d → agrees a b ≡ true → agrees c d ≡ true
  agrees_more a b c d h k e =
      let q = both_true (same_takes a.takes b.takes) (equal_result a.gives b.gives && same_bool a.deletes b.deletes) e in
      let r = both_true (equal_result a.gives b.gives) (same_bool a.deletes b.deletes) q.1 in
      and_true (same_takes c.takes d.takes) (equal_result c.gives d.gives && same_bool c.deletes d.deletes)
      (subst (λ x. same_takes x d.takes ≡ true) (sym h.takes) (subst (λ x. same_takes (map (ren_ty ren) a.takes) x ≡ true) (sym k.takes) (takes_more a.takes b.takes q.0)))
      (and_true (equal_result c.gives d.gives) (same_bool c.deletes d.deletes)
      (subst (λ x. equal_result x d.gives ≡ true) (sym h.gives) (subst (λ x. equal_result (option_map (ren_ty ren) a.gives) x ≡ true) (sym k.gives) (result_more a.gives b.gives r.0)))
      (subst (λ x. same_bool x d.deletes ≡ true) (sym h.deletes) (subst (λ x. same_bool a.deletes x ≡ true) (sym k.deletes) r.1)))

  taken_more : (b : Builtin) (us : List Ty) → are_taken (row b).takes us ≡ true → are_taken (row b).takes (map (ren_ty ren) us) ≡ true
  taken_more NewRegion [] h = refl
  taken_more NewRegion (u ∷ us) h = absurd cc
  taken_more Getchar [] h = refl
  taken_more Getchar (u ∷ us) h = absurd cc
  taken_more NewSubregion (u ∷ us) h = one_more region u us refl h where
    one_more : (t u : Ty) (us : List Ty) → ren_ty ren t ≡ t → same_type t u && are_taken [] us ≡ true → same_type t (ren_ty ren u) && are_taken [] (map (ren_ty ren) us) ≡ true
    one_more t u [] e h = let q = both_true (same_type t u) true h in and_true (same_type t (ren_ty ren u)) true (subst (λ x. same_type x (ren_ty ren u) ≡ true) e (same_more ren t u q.0)) refl
    one_more t u (v ∷ us) e h = let q = both_true (same_type t u) false h in absurd (differ q.1) where
      differ : false ≡ true → ⊥
      differ e = cc
  taken_more DeleteRegion (u ∷ us) h = one_more region u us refl h where
    one_more : (t u : Ty) (us : List Ty) → ren_ty ren t ≡ t → same_type t u && are_taken [] us ≡ true → same_type t (ren_ty ren u) && are_taken [] (map (ren_ty ren) us) ≡ true
    one_more t u [] e h = let q = both_true (same_type t u) true h in and_true (same_type t (ren_ty ren u)) true (subst (λ x. same_type x (ren_ty ren u) ≡ true) e (same_more ren t u q.0)) refl
    one_more t u (v ∷ us) e h = let q = both_true (same_type t u) false h in absurd (differ q.1) where
      differ : false ≡ true → ⊥
      differ e = cc
  taken_more Putchar (u ∷ us) h = one_more int u us refl h where
    one_more : (t u : Ty) (us : List Ty) → ren_ty ren t ≡ t → same_type t u && are_taken [] us ≡ true → same_type t (ren_ty ren u) && are_taken [] (map (ren_ty ren) us) ≡ true
    one_more t u [] e h = let q = both_true (same_type t u) true h in and_true (same_type t (ren_ty ren u)) true (subst (λ x. same_type x (ren_ty ren u) ≡ true) e (same_more ren t u q.0)) refl
    one_more t u (v ∷ us) e h = let q = both_true (same_type t u) false h in absurd (differ q.1) where
      differ : false ≡ true → ⊥
      differ e = cc
  taken_more NewSubregion [] h = absurd cc
  taken_more DeleteRegion [] h = absurd cc
  taken_more Putchar [] h = absurd cc
  taken_more RegionOf [] h = absurd cc
  taken_more RegionOf (u ∷ us) h = absurd cc

  gives_more : (b : Builtin) (u : Option Ty) → equal_result (row b).gives u ≡ true → equal_result (row b).gives (option_map (ren_ty ren) u) ≡ true
  gives_more NewRegion u h = result_more (Some region) u h
  gives_more NewSubregion u h = result_more (Some region) u h
  gives_more DeleteRegion u h = result_more None u h
  gives_more RegionOf u h = result_more (Some region) u h
  gives_more Putchar u h = result_more (Some int) u h
  gives_more Getchar u h = result_more (Some int) u h

  pub agrees_with_more : (b : Builtin) (s r : Signature) → IsSignature ren s r → agrees_with b s ≡ true → agrees_with b r ≡ true
  agrees_with_more b s r h e =
      let q = both_true (are_taken (row b).takes s.takes) (equal_result (row b).gives s.gives && same_bool (row b).deletes s.deletes) e in
      let k = both_true (equal_result (row b).gives s.gives) (same_bool (row b).deletes s.deletes) q.1 in
      and_true (are_taken (row b).takes r.takes) (equal_result (row b).gives r.gives && same_bool (row b).deletes r.deletes)
      (subst (λ x. are_taken (row b).takes x ≡ true) (sym h.takes) (taken_more b s.takes q.0))
      (and_true (equal_result (row b).gives r.gives) (same_bool (row b).deletes r.deletes)
      (subst (λ x. equal_result (row b).gives x ≡ true) (sym h.gives) (gives_more b s.gives k.0))
      (subst (λ x. same_bool (row b).deletes x ≡ true) (sym h.deletes) k.1))
