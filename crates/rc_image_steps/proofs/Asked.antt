-- What is listed is what an instruction asks.
use Rattle.std.proofs.Common.{◌≡◌, ◌∙◌, ◌⊎◌, inl, inr, ℕ, ◌+◌, ◌-◌, Bool, true, false, IsTrue, List, [], length, take, get_or, Some, ◌↔◌, refl, sym, ap, subst, arith}
use Rattle.rc_core.specs.Layout.{note_of}
use Rattle.rc_facts.specs.declared.fact.Fact.{Fact}
use Rattle.std.proofs.lemmas.Bool.{and_parts}
use Rattle.rc_facts.specs.Facts.{is_over}
use Rattle.rc_annotations.specs.Annotations.{Annotation, asked, asked_of, fact_with}
use Rattle.rc_rlang.specs.RegionFlow.{Effect}
use Rattle.rc_code.specs.declared.instruction.Instruction.{Instruction}
use Rattle.rc_code.specs.declared.instruction.Instruction.TheVariants as instruction
use Rattle.rc_code.specs.declared.image.Function.{Function}
use Rattle.rc_code.specs.declared.image.Parts.{Parts}
use Rattle.rc_code.specs.Running.{Reading, reading_of, path_at, function_at, cell_at}
use Rattle.rc_code.specs.Soundness.{instruction_at}
use Rattle.rc_claims.specs.declared.proofs.Proofs.{Proofs}
use Rattle.rc_claims.specs.Counts.{copies, place, regionals}
use Rattle.rc_claims.specs.Bits.{bit_in, bit_number, claims}
use Rattle.rc_claims.specs.Claims.{known_at}
use Rattle.rc_sealed.specs.Carrying.{effect_at, effect_of, height, is_target, lowest, regional_places}
use Rattle.rc_sealed.specs.Claimed.{annotation_of}
use Rattle.rc_carrying.specs.Asked.{AskedBefore, AskedBehind, entry, check, exit, target}
use Rattle.rc_image_claims.specs.Naming.{is_listed, Named}
use Rattle.rc_image_steps.specs.declared.site.Site.{Site}
use Rattle.rc_image_steps.specs.declared.ways.Ways.{Ways}
use Rattle.rc_image_steps.specs.declared.ways.Asks.TheVariants.{Entry, Check, Nothing}
use Rattle.rc_image_steps.specs.Sites.{function_in, image_of}
use Rattle.rc_image_steps.specs.Listing.{ExitAsked, FrameAsked}
use Rattle.rc_image_steps.specs.Ways.{arguments_in, asks_of, ways_of}
use Rattle.rc_image_steps.proofs.Below.{arguments_long}
use Rattle.rc_image_steps.proofs.Leading.{Leads, way_leads, leaves_return}

claims_over : (n : ℕ) (bytes : List ℕ) (fact : Fact) → IsTrue (claims n bytes fact) → IsTrue (is_over n fact)
claims_over n bytes fact e = (and_parts (is_over n fact) (bit_in bytes (bit_number n fact)) e).0

pub call_asks : (i : Instruction) (h : ℕ) → asks_of i ≡ Entry h → (pins : List ℕ) × (i ≡ instruction.Call h pins)
call_asks (instruction.Call g pins) h e = let q : g ≡ h = cc in (pins, ap (λ k. instruction.Call k pins) q)
call_asks (instruction.Store p true) h e = cc
call_asks (instruction.Store p false) h e = cc
call_asks (instruction.Constant k v) h e = cc
call_asks (instruction.Global g) h e = cc
call_asks (instruction.Get x) h e = cc
call_asks (instruction.Set x) h e = cc
call_asks (instruction.Load p) h e = cc
call_asks (instruction.Typed r y) h e = cc
call_asks (instruction.Arithmetic a k) h e = cc
call_asks (instruction.Move y k d) h e = cc
call_asks (instruction.Simple s) h e = cc
call_asks (instruction.Delete pins) h e = cc
call_asks (instruction.Jump j to) h e = cc

store_asks : (i : Instruction) → asks_of i ≡ Check → (path : ℕ) × (i ≡ instruction.Store path true)
store_asks (instruction.Call g pins) e = cc
store_asks (instruction.Store p true) e = (p, refl)
store_asks (instruction.Store p false) e = cc
store_asks (instruction.Constant k v) e = cc
store_asks (instruction.Global g) e = cc
store_asks (instruction.Get x) e = cc
store_asks (instruction.Set x) e = cc
store_asks (instruction.Load p) e = cc
store_asks (instruction.Typed r y) e = cc
store_asks (instruction.Arithmetic a k) e = cc
store_asks (instruction.Move y k d) e = cc
store_asks (instruction.Simple s) e = cc
store_asks (instruction.Delete pins) e = cc
store_asks (instruction.Jump j to) e = cc

module _ (parts : Parts) (proofs : Proofs) (g at : ℕ) where
  abbrev image : Reading
  image = reading_of parts

  abbrev f : Function
  f = function_at image g

  abbrev i : Instruction
  i = instruction_at f at

  abbrev facts : Annotation
  facts = annotation_of parts proofs

  abbrev places : ℕ → List ℕ
  places h = regional_places f (take (function_at image h).parameters (regionals (function_at image h))) (lowest image f at)

  -- the arguments in the effect of a call
  pub arguments_are : (e : Effect) (h : ℕ) → asks_of i ≡ Entry h → e ≡ effect_at image f at → arguments_in e ≡ places h
  arguments_are e h a is =
      let c = call_asks i h a in
      ap arguments_in (is ∙ ap (effect_of image f (lowest image f at) (height image f at - 1)) c.1)

  pub entry_tells : (e : Effect) (h : ℕ) → asks_of i ≡ Entry h → e ≡ effect_at image f at → (listed : Fact → Bool) → ((fact : Fact) → IsTrue (listed fact) ↔ Named (claims (length (arguments_in e)) (known_at proofs h).entry) (arguments_in e) fact) → (fact : Fact) → IsTrue (listed fact) ↔ AskedBefore image facts g at fact
  entry_tells e h a is listed tells fact = (λ l. there ((tells fact).0 l), back fact)
    where
      c : (pins : List ℕ) × (i ≡ instruction.Call h pins)
      c = call_asks i h a

      q : arguments_in e ≡ places h
      q = arguments_are e h a is

      long : length (arguments_in e) ≡ copies (function_at image h)
      long = ap length q ∙ arguments_long f (function_at image h) (lowest image f at)

      there : Named (claims (length (arguments_in e)) (known_at proofs h).entry) (arguments_in e) fact → AskedBefore image facts g at fact
      there n = subst (AskedBefore image facts g at) (ap (λ (xs : List ℕ). fact_with (λ v. get_or xs v 0) n.of) (sym q) ∙ n.named) (entry c.1 (subst (λ k. IsTrue (claims k (known_at proofs h).entry n.of)) long n.has))

      back : (p : Fact) → AskedBefore image facts g at p → IsTrue (listed p)
      back p (entry {h = k} {fact = r} e1 has) =
          let s : Entry k ≡ Entry h = sym (ap asks_of e1) ∙ a in
          let t : k ≡ h = cc in
          let own = subst (λ m. IsTrue (claims (copies (function_at image m)) (known_at proofs m).entry r)) t has in
          let n = subst (λ m. IsTrue (claims m (known_at proofs h).entry r)) (sym long) own in
          (tells _).1 (record { of = r; over = claims_over (length (arguments_in e)) (known_at proofs h).entry r n; has = n; named = ap (λ (xs : List ℕ). fact_with (λ v. get_or xs v 0) r) (q ∙ ap places (sym t)) })
      back p (check e1 has) = let s : Check ≡ Entry h = sym (ap asks_of e1) ∙ a in cc

  pub check_tells : (e : Effect) → asks_of i ≡ Check → e ≡ effect_at image f at → (fact : Fact) → (asked_of e ≡ Some fact) ↔ AskedBefore image facts g at fact
  check_tells e a is fact = (λ s. check c.1 (sym (asks c.0 c.1) ∙ s), back fact)
    where
      c : (path : ℕ) × (i ≡ instruction.Store path true)
      c = store_asks i a

      asks : (path : ℕ) → i ≡ instruction.Store path true → asked_of e ≡ asked (note_of (cell_at image (path_at image path))) (place f (height image f at - 1)) (place f (lowest image f at))
      asks path q = ap asked_of (is ∙ ap (effect_of image f (lowest image f at) (height image f at - 1)) q)

      back : (p : Fact) → AskedBefore image facts g at p → asked_of e ≡ Some p
      back p (check {path = path} e1 has) = asks path e1 ∙ has
      back p (entry {h = k} e1 has) = let s : Entry k ≡ Check = sym (ap asks_of e1) ∙ a in cc

  pub nothing_tells : asks_of i ≡ Nothing → (fact : Fact) → AskedBefore image facts g at fact → ⊥
  nothing_tells a fact (entry {h = k} e1 has) = let s : Entry k ≡ Nothing = sym (ap asks_of e1) ∙ a in cc
  nothing_tells a fact (check e1 has) = let s : Check ≡ Nothing = sym (ap asks_of e1) ∙ a in cc

-- ---- behind it

module _ (site : Site) (proofs : Proofs) (at : ℕ) where
  abbrev j : Instruction
  j = instruction_at (function_in site) at

  abbrev asked_there : Fact → Type 0
  asked_there fact = AskedBehind (image_of site) (annotation_of site.parts.now proofs) site.number at fact

  exit_there : (so : Bool) → so ≡ (ways_of j).leaves → (fact : Fact) → ExitAsked site proofs so fact → asked_there fact
  exit_there so e fact x = subst asked_there x.named (exit (leaves_return j (sym e ∙ x.asks)) x.has)

  falls_there : (so : Bool) → so ≡ (ways_of j).falls → (fact : Fact) → FrameAsked site proofs so (at + 1) fact → asked_there fact
  falls_there so e fact x = target ((way_leads j at (at + 1)).1 (inl (sym e ∙ x.asks, omega arith))) x.target x.has

  leads_there : (so : Bool) → so ≡ (ways_of j).leads → (to : ℕ) → to ≡ (ways_of j).to → (fact : Fact) → FrameAsked site proofs so to fact → asked_there fact
  leads_there so e to q fact x = target ((way_leads j at to).1 (inr (sym e ∙ x.asks, q))) x.target x.has

  pub behind_tells : (w : Ways) → w ≡ ways_of j → (none one two all : List Fact) → none ≡ [] → ((fact : Fact) → IsTrue (is_listed one fact) ↔ (IsTrue (is_listed none fact) ⊎ ExitAsked site proofs w.leaves fact))
      → ((fact : Fact) → IsTrue (is_listed two fact) ↔ (IsTrue (is_listed one fact) ⊎ FrameAsked site proofs w.falls (at + 1) fact)) → ((fact : Fact) → IsTrue (is_listed all fact) ↔ (IsTrue (is_listed two fact) ⊎ FrameAsked site proofs w.leads w.to fact))
      → (fact : Fact) → IsTrue (is_listed all fact) ↔ asked_there fact
  behind_tells w is none one two all empty first second third fact = (λ l. last ((third fact).0 l), back fact)
    where
      begin : IsTrue (is_listed none fact) ⊎ ExitAsked site proofs w.leaves fact → asked_there fact
      begin (inl l) = let x : IsTrue (is_listed [] fact) = subst (λ (xs : List Fact). IsTrue (is_listed xs fact)) empty l in cc
      begin (inr x) = exit_there w.leaves (ap (λ (v : Ways). v.leaves) is) fact x

      middle : IsTrue (is_listed one fact) ⊎ FrameAsked site proofs w.falls (at + 1) fact → asked_there fact
      middle (inl l) = begin ((first fact).0 l)
      middle (inr x) = falls_there w.falls (ap (λ (v : Ways). v.falls) is) fact x

      last : IsTrue (is_listed two fact) ⊎ FrameAsked site proofs w.leads w.to fact → asked_there fact
      last (inl l) = middle ((second fact).0 l)
      last (inr x) = leads_there w.leads (ap (λ (v : Ways). v.leads) is) w.to (ap (λ (v : Ways). v.to) is) fact x

      by_way : (to : ℕ) (p : Fact) → is_target (function_in site) to ≡ true → IsTrue ((annotation_of site.parts.now proofs).before site.number to p) → Leads j at to → IsTrue (is_listed all p)
      by_way to p t has (inl h) =
          let e : to ≡ at + 1 = (let k = h.1 in omega (arith, k)) in
          (third p).1 (inl ((second p).1 (inr (record {
            asks = ap (λ (v : Ways). v.falls) is ∙ h.0;
            target = subst (λ k. is_target (function_in site) k ≡ true) e t;
            has = subst (λ k. IsTrue ((annotation_of site.parts.now proofs).before site.number k p)) e has;
          }))))
      by_way to p t has (inr h) =
          let e : to ≡ w.to = h.1 ∙ sym (ap (λ (v : Ways). v.to) is) in
          (third p).1 (inr (record {
            asks = ap (λ (v : Ways). v.leads) is ∙ h.0;
            target = subst (λ k. is_target (function_in site) k ≡ true) e t;
            has = subst (λ k. IsTrue ((annotation_of site.parts.now proofs).before site.number k p)) e has;
          }))

      back : (p : Fact) → asked_there p → IsTrue (is_listed all p)
      back p (exit {fact = r} e has) = (third _).1 (inl ((second _).1 (inl ((first _).1 (inr (record { asks = ap (λ (v : Ways). v.leaves) is ∙ ap (λ k. (ways_of k).leaves) e; of = r; has = has; named = refl }))))))
      back p (target {to} way t has) = by_way to p t has ((way_leads j at to).0 way)
