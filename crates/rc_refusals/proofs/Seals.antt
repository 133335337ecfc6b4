-- The readers of what an image claims, and of the whole with it.
use Rattle.std.proofs.Common.{◌≡◌, ℕ, zero, suc, ◌+◌, ◌-◌, ◌/◌, ◌≤◌, Bool, true, false, cond, ltb, List, [], ◌∷◌, ◌++◌, length, take, drop, Ok, Err, refl, ap, arith, length-append}
use Rattle.std.proofs.lemmas.Bool.{ltb-false, le-ltb}
use Rattle.std.proofs.lemmas.List.{take-append-le, drop-append-le}
use Rattle.rc_code.specs.declared.image.Function.{Function}
use Rattle.rc_claims.specs.Counts.{copies, exit_count, frame_count}
use Rattle.rc_claims.specs.Bits.{bit_count, byte_count}
use Rattle.rc_fields.specs.Reading.{field, short}
use Rattle.rc_image.specs.declared.version.Version.{Version}
use Rattle.rc_image.specs.declared.version.Version.TheVariants.{One, Two}
use Rattle.rc_sealed_images.specs.Reading.{has_unused, bits_at, frame_at, frames_at, known_at, knowns_at, claims_at, proofs_numbered, carried_at, image_at}
use Rattle.rc_refusals.proofs.Steady.{Grows, Steady, then, number_steady, within_steady}
use Rattle.rc_refusals.proofs.Images.{fields_steady, start_steady}

module _ (more : List ℕ) where
  unused_steady : (b : Bool) (count last : ℕ) (bytes : List ℕ) → last ≤ length bytes
      → Grows more {A = List ℕ} (cond b (Err (field (length bytes - last))) (Ok (take count bytes, drop count bytes))) (cond b (Err (field (length (bytes ++ more) - last))) (Ok (take count bytes, drop count bytes ++ more)))
  unused_steady true count last bytes le = let further : length (bytes ++ more) - last ≡ length bytes - last + length more = omega (arith, le, length-append bytes more) in record { is = ap (λ l. Err (field l)) further }
  unused_steady false count last bytes le = record { is = refl }

  bits_by : (n count last : ℕ) (bytes : List ℕ) (b : Bool) → last ≤ count → ltb (length bytes) count ≡ b
      → Grows more {A = List ℕ} (cond b (Err short) (cond (has_unused n (take count bytes)) (Err (field (length bytes - last))) (Ok (take count bytes, drop count bytes))))
      (cond (ltb (length (bytes ++ more)) count) (Err short) (cond (has_unused n (take count (bytes ++ more))) (Err (field (length (bytes ++ more) - last))) (Ok (take count (bytes ++ more), drop count (bytes ++ more)))))
  bits_by n count last bytes true le e = record { is = tt }
  bits_by n count last bytes false le e =
      let enough = ltb-false (length bytes) count e in
      let still : ltb (length (bytes ++ more)) count ≡ false = le-ltb (length (bytes ++ more)) count (omega (arith, enough, length-append bytes more)) in
      rw (still, take-append-le count bytes more enough, drop-append-le count bytes more enough) (unused_steady (has_unused n (take count bytes)) count last bytes (omega (arith, enough, le)))

  bits_steady : (n : ℕ) → Steady more (bits_at n)
  unfolding bits_at
  bits_steady n bytes = bits_by n (byte_count n) (bit_count n / 8) bytes (ltb (length bytes) (byte_count n)) (let le : bit_count n / 8 ≤ byte_count n = omega arith in le) refl

  frame_steady : (f : Function) (least : ℕ) → Steady more (frame_at f least)
  unfolding frame_at
  frame_steady f least bytes = then more _ _ _ _ (within_steady more _ _ bytes) (λ at. then more _ _ _ _ (bits_steady (frame_count f) at.1) (λ facts. (record { is = refl })))

  frames_steady : (f : Function) (count least : ℕ) → Steady more (frames_at f count least)
  unfolding frames_at
  frames_steady f zero least bytes = (record { is = refl })
  frames_steady f (suc count) least bytes = then more _ _ _ _ (frame_steady f least bytes) (λ frame. then more _ _ _ _ (frames_steady f count (suc frame.0.at) frame.1) (λ others. (record { is = refl })))

  known_steady : (f : Function) → Steady more (known_at f)
  unfolding known_at
  known_steady f bytes =
      then more _ _ _ _ (bits_steady (copies f) bytes) (λ entry.
      then more _ _ _ _ (bits_steady (exit_count f) entry.1) (λ exit.
      then more _ _ _ _ (number_steady more exit.1) (λ count.
      then more _ _ _ _ (frames_steady f count.0 0 count.1) (λ frames. (record { is = refl })))))

  knowns_steady : (fs : List Function) → Steady more (knowns_at fs)
  unfolding knowns_at
  knowns_steady [] bytes = (record { is = refl })
  knowns_steady (f ∷ fs) bytes = then more _ _ _ _ (known_steady f bytes) (λ known. then more _ _ _ _ (knowns_steady fs known.1) (λ others. (record { is = refl })))

  claims_steady : (fs : List Function) → Steady more (claims_at fs)
  unfolding claims_at
  claims_steady fs bytes = then more _ _ _ _ (knowns_steady fs bytes) (λ knowns. (record { is = refl }))

  numbered_steady : (fs : List Function) (n : ℕ) → Steady more (proofs_numbered fs n)
  numbered_steady fs zero bytes = (record { is = refl })
  numbered_steady fs (suc n) bytes = then more _ _ _ _ (claims_steady fs bytes) (λ proofs. (record { is = refl }))

  carried_steady : (v : Version) (fs : List Function) → Steady more (carried_at v fs)
  unfolding carried_at
  carried_steady One fs bytes = (record { is = refl })
  carried_steady Two fs bytes = then more _ _ _ _ (within_steady more _ _ bytes) (λ n. numbered_steady fs n.0 n.1)

  pub image_steady : Steady more image_at
  unfolding image_at
  image_steady bytes =
      then more _ _ _ _ (start_steady more bytes) (λ start. then more _ _ _ _ (fields_steady more start.0 start.1) (λ parts. then more _ _ _ _ (carried_steady start.0 parts.0.functions parts.1) (λ proofs. (record { is = refl }))))
