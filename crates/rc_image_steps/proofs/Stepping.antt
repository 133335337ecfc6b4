-- What an instruction is to a pass fits its function.
use Rattle.std.proofs.Common.{◌≡◌, ◌∙◌, ℕ, suc, ◌+◌, ◌-◌, ◌<◌, ◌≤◌, Bool, true, false, nat_eq, IsTrue, List, ◌++◌, length, take, get_or, Option, Some, None, Vec, Global, MatchOption, sym, ap, subst, arith, length-append, length-drop, length-take}
use Rattle.std.specs.List.{All}
use Rattle.std.proofs.lemmas.List.{length-map, length-reverse}
use Rattle.std.proofs.lemmas.Bool.{and_from, lt-ltb}
use Rattle.rc_core.specs.declared.ty.Note.{Note}
use Rattle.rc_core.specs.declared.ty.Note.TheVariants.{Plain, SameRegion, ParentPtr, Traditional}
use Rattle.rc_core.specs.Layout.{note_of}
use Rattle.rc_facts.specs.declared.fact.Fact.{Fact}
use Rattle.rc_facts.specs.declared.fact.Fact.TheVariants.{In, Up, Trad}
use Rattle.rc_facts.specs.Facts.{Known, is_over}
use Rattle.rc_annotations.specs.Annotations.{Annotation, asked, renamed, renamed_by}
use Rattle.rc_edges.specs.Edges.{EffectBelow}
use Rattle.rc_crossing.specs.Fitting.{CallFits}
use Rattle.rc_code.specs.declared.instruction.Instruction.{Instruction}
use Rattle.rc_code.specs.declared.instruction.Instruction.TheVariants as instruction
use Rattle.rc_code.specs.declared.image.Function.{Function}
use Rattle.rc_code.specs.Running.{Reading, path_at, cell_at, function_at}
use Rattle.rc_code.specs.Soundness.{ArePins, Kind, IsFine, Names, Operands, is_regional, count_off, takes, instruction_at, operand_kind, kinds_before, parameter_kinds}
use Rattle.rc_claims.specs.declared.proofs.Proofs.{Proofs}
use Rattle.rc_claims.specs.Counts.{copies, place, regionals}
use Rattle.rc_sealed.specs.ImageVariables.{result_variable, scratch, variables}
use Rattle.rc_sealed.specs.Carrying.{effect_at, height, is_target, lowest, regional_places}
use Rattle.rc_sealed.specs.Claimed.{annotation_of}
use Rattle.rc_sealed.proofs.Claimed.{are_over}
use Rattle.rc_carrying.specs.declared.step.Step.{Step}
use Rattle.rc_carrying.specs.Asked.{AskedBefore, AskedBehind, entry, check, exit, target}
use Rattle.rc_carrying.specs.Passing.{listed, Fits, StandsFor}
use Rattle.rc_image_steps.specs.declared.site.Site.{Site}
use Rattle.rc_image_steps.specs.Sites.{function_in, image_of, AreExits, IsSite}
use Rattle.rc_image_steps.proofs.Places.{height_fits, is_fine, low_reaches, lowest_below, reach_fits}
use Rattle.rc_image_steps.proofs.Below.{arguments_long, call_fits, effect_below, regional_below, regional_few}
use Rattle.rc_image_steps.specs.declared.ways.Asks.TheVariants.{Entry}
use Rattle.rc_image_steps.specs.Ways.{arguments_in, asks_of}
use Rattle.rc_image_steps.proofs.Asked.{arguments_are, call_asks}
use Rattle.rc_claims.specs.Claims.{ProofsFit}
use Rattle.rc_rlang.specs.RegionFlow.{Effect}
use Rattle.rc_image_steps.proofs.Facts.{all_listed, below_at, named_over, over_more}

-- ---- a call's arguments are there

pub call_room : (image : Reading) (f : Function) (at g : ℕ) (pins : List ℕ) → IsFine true image f at (instruction_at f at) → instruction_at f at ≡ instruction.Call g pins
    → lowest image f at + length (take (function_at image g).parameters (regionals (function_at image g))) ≤ height image f at
call_room image f at g pins fine e =
    let to : Function = function_at image g in
    let kinds : List Kind = kinds_before image f at in
    let o : (below : List Kind) × (kinds ≡ takes image f (instruction.Call g pins) ++ below) = subst (λ (i : Instruction). Operands image f i kinds) e fine.operands in
    let k1 = ap length o.1 ∙ length-append (takes image f (instruction.Call g pins)) o.0 in
    let k2 = length-drop (count_off image f (instruction_at f at)) kinds in
    let k3 : count_off image f (instruction_at f at) ≡ length (takes image f (instruction.Call g pins)) = ap (count_off image f) e in
    let k4 : length (takes image f (instruction.Call g pins)) ≡ length (take to.parameters to.locals) = length-reverse (parameter_kinds to) ∙ length-map (take to.parameters to.locals) operand_kind in
    let k5 = length-take to.parameters (regionals to) in
    let k6 = length-take to.parameters to.locals in
    let k7 : length (regionals to) ≡ length to.locals = length-map to.locals is_regional in
    omega (arith, k1, k2, k3, k4, k5, k6, k7)

-- ---- what is asked speaks of the function's variables

asked_over : (n : ℕ) (note : Note) (value holder : ℕ) → value < n → holder < n → (fact : Fact) → asked note value holder ≡ Some fact → IsTrue (is_over n fact)
asked_over n Plain value holder v h fact e = cc
asked_over n SameRegion value holder v h fact e = let q : In value holder ≡ fact = cc in subst (λ p. IsTrue (is_over n p)) q (and_from _ _ (lt-ltb value n v) (lt-ltb holder n h))
asked_over n ParentPtr value holder v h fact e = let q : Up value holder ≡ fact = cc in subst (λ p. IsTrue (is_over n p)) q (and_from _ _ (lt-ltb value n v) (lt-ltb holder n h))
asked_over n Traditional value holder v h fact e = let q : Trad value ≡ fact = cc in subst (λ p. IsTrue (is_over n p)) q (lt-ltb value n v)

renamed_below : (n copy result x : ℕ) → copy < n → result < n → x < suc copy → renamed copy result x < n
renamed_below n copy result x c r lt = by (nat_eq x copy)
  where
    by : (b : Bool) → renamed_by b result x < n
    by true = r
    by false = omega (arith, c, lt)

module _ (site : Site) (is : IsSite site) (proofs : Proofs) (at : ℕ) (lt : at < length (function_in site).code) where
  abbrev image : Reading
  image = image_of site

  abbrev f : Function
  f = function_in site

  abbrev facts : Annotation
  facts = annotation_of site.parts.now proofs

  fine : IsFine true image f at (instruction_at f at)
  fine = is_fine image f (is.sound.functions site.number is.there) at lt

  is_narrow : variables image f ≤ 128
  is_narrow = is.narrow

  fits : place f (height image f at) ≤ result_variable image f
  fits = height_fits image f at (omega (arith, lt))

  low_fits : place f (lowest image f at) ≤ result_variable image f
  low_fits = let l = lowest_below image f at in let h = fits in omega (arith, l, h)

  room : (g : ℕ) (pins : List ℕ) → instruction_at f at ≡ instruction.Call g pins → place f (lowest image f at + length (take (function_at image g).parameters (regionals (function_at image g)))) ≤ scratch image f
  room g pins e = let r = call_room image f at g pins fine e in let h = fits in omega (arith, r, h)

  before_over : (fact : Fact) → AskedBefore image facts site.number at fact → IsTrue (is_over (variables image f) fact)
  before_over fact (entry {h = h} {pins = pins} {fact = p} e has) =
      named_over (copies (function_at image h)) (variables image f) (λ v. get_or places v 0) below p ((are_over site.parts.now proofs).entries h p has)
    where
      places : List ℕ
      places = regional_places f (take (function_at image h).parameters (regionals (function_at image h))) (lowest image f at)

      below : (x : ℕ) → x < copies (function_at image h) → get_or places x 0 < variables image f
      below x l =
          let long = arguments_long f (function_at image h) (lowest image f at) in
          let b = below_at (scratch image f) places (regional_below f (scratch image f) (take (function_at image h).parameters (regionals (function_at image h))) (lowest image f at) (room h pins e)) x (omega (arith, l, long)) in
          omega (arith, b)
  before_over fact (check {path = path} e has) =
      let l = low_fits in
      let h = fits in
      asked_over (variables image f) (note_of (cell_at image (path_at image path))) (place f (height image f at - 1)) (place f (lowest image f at)) (omega (arith, h)) (omega (arith, l)) fact has

  behind_over : (fact : Fact) → AskedBehind image facts site.number at fact → IsTrue (is_over (variables image f) fact)
  behind_over fact (exit {fact = p} e has) =
      let h = fits in
      named_over (suc (copies f)) (variables image f) (renamed (copies f) (result_variable image f)) (λ x l. renamed_below (variables image f) (copies f) (result_variable image f) x (omega (arith, h)) (omega arith) l) p ((are_over site.parts.now proofs).exits site.number p has)
  behind_over fact (target {to} way t has) = let h = fits in over_more (place f 0) (variables image f) (omega (arith, h)) fact ((are_over site.parts.now proofs).frames site.number to fact has)

  frame_fits : (frame : Option (Vec Fact Global)) → MatchOption frame (is_target f (suc at) ≡ false) (λ given. (is_target f (suc at) ≡ true) × ((fact : Fact) → listed given.items fact ≡ facts.before site.number (suc at) fact))
      → MatchOption frame (Unit {0}) (λ given. All (λ p. IsTrue (is_over (scratch image f) p)) given.items)
  frame_fits None m = tt
  frame_fits (Some given) m =
      let h = fits in
      all_listed (λ p. IsTrue (is_over (scratch image f) p)) given.items (λ fact l. over_more (place f 0) (scratch image f) (omega (arith, h)) fact ((are_over site.parts.now proofs).frames site.number (suc at) fact (sym (m.1 fact) ∙ l)))

  pub step_fits : (step : Step) → StandsFor image facts site.number at step → (exits : List Known) → AreExits site.parts.now exits → Fits (variables image f) (scratch image f) exits step
  step_fits step stands exits are = record {
    below = subst (EffectBelow (scratch image f)) (sym stands.effect) (effect_below image f (scratch image f) (lowest image f at) (height image f at - 1)
        (let l = low_fits in omega (arith, l)) (let h = fits in omega (arith, h)) (omega arith) (instruction_at f at) room);
    call = subst (CallFits exits) (sym stands.effect) (call_fits site.parts.now f exits are (lowest image f at) (height image f at - 1) (instruction_at f at) fine.names);
    low = (let l = stands.low in let t = stands.top in let r = low_reaches image f at in omega (arith, l, t, r));
    top = (let t = stands.top in let r = reach_fits image f at lt in omega (arith, t, r));
    before = all_listed (λ p. IsTrue (is_over (variables image f) p)) step.before.items (λ fact l. before_over fact ((stands.before fact).0 l));
    behind = all_listed (λ p. IsTrue (is_over (variables image f) p)) step.behind.items (λ fact l. behind_over fact ((stands.behind fact).0 l));
    frame = frame_fits step.frame stands.frame;
  }

  -- of a call

  pub entry_there : ProofsFit site.parts.now proofs → (h : ℕ) → asks_of (instruction_at f at) ≡ Entry h → h < length proofs.functions
  entry_there claims h a =
      let c = call_asks (instruction_at f at) h a in
      let n : (h < length site.parts.now.functions) × ArePins f c.0 = subst (Names true image f) c.1 fine.names in
      let l = n.0 in
      let e = claims.long in
      omega (arith, l, e)

  pub entry_few : (e : Effect) (h : ℕ) → asks_of (instruction_at f at) ≡ Entry h → e ≡ effect_at image f at → length (arguments_in e) ≤ 128
  entry_few e h a is =
      let c = call_asks (instruction_at f at) h a in
      let bs = take (function_at image h).parameters (regionals (function_at image h)) in
      let q = ap length (arguments_are site.parts.now proofs site.number at e h a is) in
      let r = call_room image f at h c.0 fine c.1 in
      let k = regional_few f bs (lowest image f at) in
      let b = fits in
      let n = is_narrow in
      omega (arith, q, r, k, b, n)
