-- Links in columns: reading one, writing one, and columns that grow.
use Rattle.std.proofs.Common.{◌≡◌, ◌<◌, ◌≤◌, inl, inr, ℕ, zero, suc, List, [], ◌∷◌, ◌++◌, length, map, replicate, set, get_or, refl, sym, ap, subst, ◌∙◌, arith, length-set, get_or-set_same, get_or-set_other}
use Rattle.std.proofs.lemmas.Bool.{cases_eq}
use Rattle.std.proofs.Math.Path.{fun_ext}
use Rattle.std.proofs.lemmas.List.{map-set, length-map, length-replicate, get_or-map}
use Rattle.std.proofs.Math.Seq.{map-set_same}
use Rattle.rc_regions.specs.Columns.{links_in, written}
use Rattle.rc_regions.specs.Ways.{NoneShorter}
use Rattle.rc_regions.proofs.Writes.{written_same, written_other}

abbrev link_in : ℕ → List ℕ → ℕ
link_in s way = get_or way s 0

pub links-length : (ways : List (List ℕ)) (s : ℕ) → length (links_in ways s) ≡ length ways
links-length ways s = length-map ways (link_in s)

pub link-read : (ways : List (List ℕ)) (s power : ℕ) → power < length ways → get_or (links_in ways s) power 0 ≡ get_or (get_or ways power []) s 0
link-read ways s power low = get_or-map (link_in s) ways power [] 0 low

module _ (ways : List (List ℕ)) (power : ℕ) (low : power < length ways) where
  abbrev way : List ℕ
  way = get_or ways power []

  -- a column with the same links, perhaps with more places
  pub links-same : (other : List ℕ) → ((t : ℕ) → get_or other t 0 ≡ get_or way t 0) → links_in (set ways power other) ≡ links_in ways
  links-same other same = fun_ext (λ t. map-set_same (link_in t) ways power other [] (same t))

  pub none_shorter : (other : List ℕ) → length way ≤ length other → NoneShorter ways (set ways power other)
  none_shorter other long k = elim (cases_eq k power) [
    | inl e ↦
        let now : get_or (set ways power other) k [] ≡ other = ap (λ n. get_or (set ways power other) n []) e ∙ get_or-set_same ways power other [] low in
        let was : get_or ways k [] ≡ way = ap (λ n. get_or ways n []) e in
        omega (arith, ap length now, ap length was, long)
    | inr apart ↦ let same = ap length (get_or-set_other ways power k other [] apart) in omega (arith, same)
  ]

  module _ (s x : ℕ) (place : s < length way) where
    pub links-written : links_in (set ways power (set way s x)) ≡ written (links_in ways) s (set (links_in ways s) power x)
    links-written = fun_ext (λ t. elim (cases_eq t s) [
      | inl e ↦
          ap (links_in (set ways power (set way s x))) e
          ∙ map-set (link_in s) ways power (set way s x)
          ∙ ap (set (links_in ways s) power) (get_or-set_same way s x 0 place)
          ∙ sym (written_same (links_in ways) s (set (links_in ways s) power x))
          ∙ ap (written (links_in ways) s (set (links_in ways s) power x)) (sym e)
      | inr apart ↦
          map-set_same (link_in t) ways power (set way s x) [] (get_or-set_other way s t x 0 apart)
          ∙ sym (written_other (links_in ways) s t (set (links_in ways s) power x) apart)
    ])

    pub places-written : NoneShorter ways (set ways power (set way s x))
    places-written = let same = length-set way s x in none_shorter (set way s x) (omega (arith, same))

-- columns that are seen through a function, of which one is changed
module _ {A : Type 0} (f : A → List ℕ) (xs : List A) (i : ℕ) (now new : A) (low : i < length xs) (is : now ≡ get_or xs i now) where
  abbrev seen : List (List ℕ)
  seen = map f xs

  seen_low : i < length seen
  seen_low = let same = length-map xs f in omega (arith, same, low)

  seen_now : get_or seen i [] ≡ f now
  seen_now = get_or-map f xs i now [] low ∙ ap f (sym is)

  pub seen-written : (s x : ℕ) → f new ≡ set (f now) s x → map f (set xs i new) ≡ set seen i (set (get_or seen i []) s x)
  seen-written s x changed = map-set f xs i new ∙ ap (set seen i) (changed ∙ ap (λ column. set column s x) (sym seen_now))

  pub seen-length : length (get_or (map f (set xs i new)) i []) ≡ length (f new)
  seen-length = ap (λ columns. length (get_or columns i [])) (map-set f xs i new) ∙ ap length (get_or-set_same seen i (f new) [] seen_low)

  pub seen-longer : length (f now) ≤ length (f new) → NoneShorter seen (map f (set xs i new))
  seen-longer long = subst (NoneShorter seen) (sym (map-set f xs i new)) (none_shorter seen i seen_low (f new) (let same = ap length seen_now in omega (arith, same, long)))

  pub seen-links : ((t : ℕ) → get_or (f new) t 0 ≡ get_or (f now) t 0) → links_in (map f (set xs i new)) ≡ links_in seen
  seen-links same = ap links_in (map-set f xs i new) ∙ links-same seen i seen_low (f new) (λ t. same t ∙ ap (λ column. get_or column t 0) (sym seen_now))

zeros-read : (k t : ℕ) → get_or {A = ℕ} (replicate k 0) t 0 ≡ 0
zeros-read zero t = refl
zeros-read (suc k) zero = refl
zeros-read (suc k) (suc t) = zeros-read k t

-- behind the end of a column is what new places hold
pub zeros-behind : (column : List ℕ) (k t : ℕ) → get_or (column ++ replicate k 0) t 0 ≡ get_or column t 0
zeros-behind [] k t = zeros-read k t
zeros-behind (x ∷ column) k zero = refl
zeros-behind (x ∷ column) k (suc t) = zeros-behind column k t

pub links-none : (s : ℕ) → length (links_in (replicate 32 []) s) ≡ 32
links-none s = links-length (replicate 32 []) s ∙ length-replicate {A = List ℕ} 32 []
