-- What is claimed of functions is read as it is spelled, and keeps its rules.
use Rattle.std.proofs.Common.{◌≡◌, ℕ, zero, suc, ◌+◌, ◌<◌, ◌≤◌, List, [], ◌∷◌, ◌++◌, length, Ok, refl, sym, ap, subst, ◌∙◌, append_assoc, arith}
use Rattle.std.specs.List.{flat_map, AllByRecursion as Every}
use Rattle.std.proofs.lemmas.List.Concat.{flat_map-cons}
use Rattle.rc_code.specs.declared.image.Function.{Function}
use Rattle.rc_code.specs.Image.{IsNumber}
use Rattle.rc_fields.specs.Spelling.{number, counted}
use Rattle.rc_fields.specs.Reading.{◌>>=◌, number_at, number_within}
use Rattle.rc_fields.proofs.Codecs.{IsBytes, bind_ok, ok_is, Takes, Takes-then, Takes-nothing, Law, number_law, within_law, takes_then}
use Rattle.rc_claims.specs.declared.proofs.Frame.{Frame}
use Rattle.rc_claims.specs.declared.proofs.Known.{Known}
use Rattle.rc_claims.specs.declared.proofs.Proofs.{Proofs}
use Rattle.rc_claims.specs.Counts.{copies, exit_count, frame_count}
use Rattle.rc_claims.specs.Bits.{BitsFit}
use Rattle.rc_claims.specs.Claims.{AreInOrder, FrameFits, KnownFits}
use Rattle.rc_sealed_images.specs.Counted.{IsCounted}
use Rattle.rc_sealed_images.specs.Spelling.{frame_bytes, known_bytes, claims_bytes}
use Rattle.rc_sealed_images.specs.Reading.{bits_at, frame_at, frames_at, known_at, knowns_at, claims_at}
use Rattle.rc_sealed_images.proofs.Unused.{bits_law}

abbrev same : List ℕ → List ℕ
same bits = bits

-- ---- frames

abbrev FrameIs : Function → (least : ℕ) → Frame → Type 0
FrameIs f least frame = (least ≤ frame.at) × FrameFits f frame

frame_law : (f : Function) (least : ℕ) → IsCounted f → Law (frame_at f least) frame_bytes (FrameIs f least)
unfolding frame_at
frame_law f least few = record {
  takes = λ bytes x fits e.
      let a = takes_then (number_within least (length f.code)) number (λ m. (least ≤ m) × (m < length f.code)) (within_law least (length f.code) most) (λ at. bits_at (frame_count f) at.1 >>= λ facts. Ok (record { at = at.0; facts = facts.0 }, facts.1)) bytes x fits e in
      let b = takes_then (bits_at (frame_count f)) same (BitsFit (frame_count f)) (bits_law (frame_count f)) (λ facts. Ok (record { at = a.0.0; facts = facts.0 }, facts.1)) a.0.1 x a.1.rest_fits a.3 in
      let made : Frame × List ℕ = (record { at = a.0.0; facts = b.0.0 }, b.0.1) in
      subst (λ (y : Frame × List ℕ). Takes bytes (frame_bytes y.0) y.1 × FrameIs f least y.0) (ok_is made x b.3)
      (Takes-then bytes (number a.0.0) a.0.1 b.0.0 b.0.1 a.1 b.1, (a.2.0, record { at = a.2.1; facts = b.2 }));
  again = λ frame rest g.
      ap (frame_at f least) (append_assoc (number frame.at) frame.facts rest)
      ∙ rw ((within_law least (length f.code) most).again frame.at (frame.facts ++ rest) (g.0, g.1.at), (bits_law (frame_count f)).again frame.facts rest g.1.facts) refl;
}
  where
    most : length f.code ≤ 4294967296
    most = omega (arith, few.code)

record AreFrames (f : Function) (count least : ℕ) (frames : List Frame) : Type 0 where
  count_is : length frames ≡ count
  each : Every (FrameFits f) frames
  order : AreInOrder least frames

frames_take : (f : Function) (count least : ℕ) (bytes : List ℕ) (x : List Frame × List ℕ) → IsCounted f → IsBytes bytes → frames_at f count least bytes ≡ Ok x → Takes bytes (flat_map frame_bytes x.0) x.1 × AreFrames f count least x.0
unfolding frames_at
frames_take f zero least bytes x few fits e =
    subst (λ (y : List Frame × List ℕ). Takes bytes (flat_map frame_bytes y.0) y.1 × AreFrames f 0 least y.0) (ok_is ([], bytes) x e) (Takes-nothing bytes fits, record { count_is = refl; each = tt; order = tt })
frames_take f (suc count) least bytes x few fits e =
    let a = takes_then (frame_at f least) frame_bytes (FrameIs f least) (frame_law f least few) (λ frame. frames_at f count (suc frame.0.at) frame.1 >>= λ others. Ok (frame.0 ∷ others.0, others.1)) bytes x fits e in
    let b = bind_ok (frames_at f count (suc a.0.0.at) a.0.1) (λ others. Ok (a.0.0 ∷ others.0, others.1)) x a.3 in
    let rest = frames_take f count (suc a.0.0.at) a.0.1 b.0 few a.1.rest_fits b.1 in
    let both = Takes-then bytes (frame_bytes a.0.0) a.0.1 (flat_map frame_bytes b.0.0) b.0.1 a.1 rest.0 in
    let made : List Frame × List ℕ = (a.0.0 ∷ b.0.0, b.0.1) in
    subst (λ (y : List Frame × List ℕ). Takes bytes (flat_map frame_bytes y.0) y.1 × AreFrames f (suc count) least y.0) (ok_is made x b.2)
    (rw flat_map-cons both, record { count_is = ap suc rest.1.count_is; each = (a.2.1, rest.1.each); order = (a.2.0, rest.1.order) })

frames_again : (f : Function) (least : ℕ) (frames : List Frame) (rest : List ℕ) → IsCounted f → Every (FrameFits f) frames → AreInOrder least frames → frames_at f (length frames) least (flat_map frame_bytes frames ++ rest) ≡ Ok (frames, rest)
unfolding frames_at
frames_again f least [] rest few each order = refl
frames_again f least (frame ∷ frames) rest few each order =
    let regrouped : flat_map frame_bytes (frame ∷ frames) ++ rest ≡ frame_bytes frame ++ (flat_map frame_bytes frames ++ rest)
    = ap (λ (t : List ℕ). t ++ rest) (flat_map-cons frame_bytes frame frames) ∙ append_assoc (frame_bytes frame) (flat_map frame_bytes frames) rest in
    ap (frames_at f (suc (length frames)) least) regrouped
    ∙ rw ((frame_law f least few).again frame (flat_map frame_bytes frames ++ rest) (order.0, each.0), frames_again f (suc frame.at) frames rest few each.1 order.1) refl

-- they are at most as many as instructions
few_frames : (f : Function) (least : ℕ) (frames : List Frame) → least ≤ length f.code → Every (FrameFits f) frames → AreInOrder least frames → least + length frames ≤ length f.code
few_frames f least [] le each order = omega (arith, le)
few_frames f least (frame ∷ frames) le each order =
    let at : frame.at < length f.code = each.0.at in
    let first : least ≤ frame.at = order.0 in
    let others = few_frames f (suc frame.at) frames (omega (arith, at)) each.1 order.1 in
    omega (arith, first, others)

-- ---- functions

known_takes : (f : Function) (bytes : List ℕ) (x : Known × List ℕ) → IsCounted f → IsBytes bytes → known_at f bytes ≡ Ok x → Takes bytes (known_bytes x.0) x.1 × KnownFits f x.0
unfolding known_at
known_takes f bytes x few fits e =
    let a = takes_then (bits_at (copies f)) same (BitsFit (copies f)) (bits_law (copies f)) (λ entry. bits_at (exit_count f) entry.1 >>= λ exit. number_at exit.1 >>= λ count. frames_at f count.0 0 count.1 >>= λ frames.
    Ok (record { entry = entry.0; exit = exit.0; frames = frames.0 }, frames.1)) bytes x fits e in
    let b = takes_then (bits_at (exit_count f)) same (BitsFit (exit_count f)) (bits_law (exit_count f)) (λ exit. number_at exit.1 >>= λ count. frames_at f count.0 0 count.1 >>= λ frames.
    Ok (record { entry = a.0.0; exit = exit.0; frames = frames.0 }, frames.1)) a.0.1 x a.1.rest_fits a.3 in
    let c = takes_then number_at number IsNumber number_law (λ count. frames_at f count.0 0 count.1 >>= λ frames. Ok (record { entry = a.0.0; exit = b.0.0; frames = frames.0 }, frames.1)) b.0.1 x b.1.rest_fits b.3 in
    let d = bind_ok (frames_at f c.0.0 0 c.0.1) (λ frames. Ok (record { entry = a.0.0; exit = b.0.0; frames = frames.0 }, frames.1)) x c.3 in
    let t = frames_take f c.0.0 0 c.0.1 d.0 few c.1.rest_fits d.1 in
    let count : Takes b.0.1 (number (length d.0.0)) c.0.1 = subst (λ (n : ℕ). Takes b.0.1 (number n) c.0.1) (sym t.1.count_is) c.1 in
    let frames = Takes-then b.0.1 (number (length d.0.0)) c.0.1 (flat_map frame_bytes d.0.0) d.0.1 count t.0 in
    let made : Known × List ℕ = (record { entry = a.0.0; exit = b.0.0; frames = d.0.0 }, d.0.1) in
    subst (λ (y : Known × List ℕ). Takes bytes (known_bytes y.0) y.1 × KnownFits f y.0) (ok_is made x d.2)
    (Takes-then bytes (a.0.0 ++ b.0.0) b.0.1 (counted frame_bytes d.0.0) d.0.1 (Takes-then bytes a.0.0 a.0.1 b.0.0 b.0.1 a.1 b.1) frames, record { entry = a.2; exit = b.2; frames = t.1.each; order = t.1.order })

known_again : (f : Function) (known : Known) (rest : List ℕ) → IsCounted f → KnownFits f known → known_at f (known_bytes known ++ rest) ≡ Ok (known, rest)
unfolding known_at
known_again f known rest few fits =
    let frames = flat_map frame_bytes known.frames ++ rest in
    let count : IsNumber (length known.frames) = omega (arith, few_frames f 0 known.frames (omega arith) fits.frames fits.order, few.code) in
    let regrouped : known_bytes known ++ rest ≡ known.entry ++ (known.exit ++ (number (length known.frames) ++ frames)) = simp append_assoc in
    ap (known_at f) regrouped
    ∙ rw (
      (bits_law (copies f)).again known.entry (known.exit ++ (number (length known.frames) ++ frames)) fits.entry,
      (bits_law (exit_count f)).again known.exit (number (length known.frames) ++ frames) fits.exit,
      number_law.again (length known.frames) frames count,
      frames_again f 0 known.frames rest few fits.frames fits.order,
    ) refl

known_law : (f : Function) → IsCounted f → Law (known_at f) known_bytes (KnownFits f)
known_law f few = record { takes = λ bytes x fits e. known_takes f bytes x few fits e; again = λ known rest g. known_again f known rest few g }

-- what is claimed of each function fits it
abbrev pub AllFit : List Function → List Known → Type 0
AllFit [] [] = Unit {0}
AllFit [] (known ∷ knowns) = ⊥
AllFit (f ∷ fs) [] = ⊥
AllFit (f ∷ fs) (known ∷ knowns) = KnownFits f known × AllFit fs knowns

knowns_take : (fs : List Function) (bytes : List ℕ) (x : List Known × List ℕ) → Every IsCounted fs → IsBytes bytes → knowns_at fs bytes ≡ Ok x → Takes bytes (flat_map known_bytes x.0) x.1 × AllFit fs x.0
unfolding knowns_at
knowns_take [] bytes x few fits e = subst (λ (y : List Known × List ℕ). Takes bytes (flat_map known_bytes y.0) y.1 × AllFit [] y.0) (ok_is ([], bytes) x e) (Takes-nothing bytes fits, tt)
knowns_take (f ∷ fs) bytes x few fits e =
    let a = takes_then (known_at f) known_bytes (KnownFits f) (known_law f few.0) (λ known. knowns_at fs known.1 >>= λ others. Ok (known.0 ∷ others.0, others.1)) bytes x fits e in
    let b = bind_ok (knowns_at fs a.0.1) (λ others. Ok (a.0.0 ∷ others.0, others.1)) x a.3 in
    let rest = knowns_take fs a.0.1 b.0 few.1 a.1.rest_fits b.1 in
    let both = Takes-then bytes (known_bytes a.0.0) a.0.1 (flat_map known_bytes b.0.0) b.0.1 a.1 rest.0 in
    let made : List Known × List ℕ = (a.0.0 ∷ b.0.0, b.0.1) in
    subst (λ (y : List Known × List ℕ). Takes bytes (flat_map known_bytes y.0) y.1 × AllFit (f ∷ fs) y.0) (ok_is made x b.2) (rw flat_map-cons both, (a.2, rest.1))

knowns_again : (fs : List Function) (knowns : List Known) (rest : List ℕ) → Every IsCounted fs → AllFit fs knowns → knowns_at fs (flat_map known_bytes knowns ++ rest) ≡ Ok (knowns, rest)
unfolding knowns_at
knowns_again [] [] rest few fits = refl
knowns_again [] (known ∷ knowns) rest few fits = absurd fits
knowns_again (f ∷ fs) [] rest few fits = absurd fits
knowns_again (f ∷ fs) (known ∷ knowns) rest few fits =
    let regrouped : flat_map known_bytes (known ∷ knowns) ++ rest ≡ known_bytes known ++ (flat_map known_bytes knowns ++ rest)
    = ap (λ (t : List ℕ). t ++ rest) (flat_map-cons known_bytes known knowns) ∙ append_assoc (known_bytes known) (flat_map known_bytes knowns) rest in
    ap (knowns_at (f ∷ fs)) regrouped ∙ rw (known_again f known (flat_map known_bytes knowns ++ rest) few.0 fits.0, knowns_again fs knowns rest few.1 fits.1) refl

pub claims_law : (fs : List Function) → Every IsCounted fs → Law (claims_at fs) claims_bytes (λ (proofs : Proofs). AllFit fs proofs.functions)
unfolding claims_at
claims_law fs few = record {
  takes = λ bytes x fits e.
      let a = bind_ok (knowns_at fs bytes) (λ knowns. Ok (record { functions = knowns.0 }, knowns.1)) x e in
      let t = knowns_take fs bytes a.0 few fits a.1 in
      let made : Proofs × List ℕ = (record { functions = a.0.0 }, a.0.1) in
      subst (λ (y : Proofs × List ℕ). Takes bytes (claims_bytes y.0) y.1 × AllFit fs y.0.functions) (ok_is made x a.2) (t.0, t.1);
  again = λ proofs rest fits. rw (knowns_again fs proofs.functions rest few fits) refl;
}
