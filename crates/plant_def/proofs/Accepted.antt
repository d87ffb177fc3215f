-- A plant that is read has no fault.
use mathlib.Core.Path.{◌≡◌, refl, subst}
use mathlib.Core.Bool.{true}
use mathlib.Core.List.{List, [], ◌∷◌, ◌++◌}
use Prim.Native.Nat.{ℕ, zero, suc, ◌≤◌}
use native.Mathlib.Omega.{arith}
use borrow.Author.Tests.{le-ltb}
use lib.ListN.{length, drop, length-append}
use Rattle.num_bytes.proofs.Tests.{and_left, and_right, and_both, first_none_left, first_none_right}
use Rattle.plant_def.specs.declared.Stream.{Stream}
use Rattle.plant_def.specs.Results.{Site, Units, Missing, Record, Listed, End, Refused}
use Rattle.plant_def.specs.Limits.{max_streams, site_body}
use Rattle.plant_def.specs.Plants.{Plant, units_fault, stream_fault, first_fault, plant_fault, plain_one, plain}
use Rattle.plant_def.specs.Files.{Got, bad, got, site_at, on_site, record_at, on_record, with_stream, records_by, most_records, file_by, read_plant}
use Rattle.plant_def.specs.Within.{Within}
use Rattle.plant_def.proofs.Records.{Taken, Means, record_taken, units_there, missing_there, site_units}
use Rattle.plant_def.proofs.Limited.{within}

-- What is known of the plant while a file is read.
pub record Sound (p : Plant) : Type 0 where
  pub units_fit : units_fault p.units ≡ 0
  pub few : length p.streams ≤ max_streams
  pub no_fault : first_fault p.units p.streams ≡ 0
  pub all_plain : plain p.streams ≡ true

-- It is without fault.
pub sound_faultless : (p : Plant) → Sound p → (plant_fault p ≡ 0) × (plain p.streams ≡ true)
sound_faultless p h = (rw (h.units_fit, le-ltb max_streams (length p.streams) h.few) h.no_fault, h.all_plain)

-- One stream without fault more.
fault_more : (n : ℕ) (ss : List Stream) (s : Stream) → first_fault n ss ≡ 0 → stream_fault n s ≡ 0 → first_fault n (ss ++ (s ∷ [])) ≡ 0
fault_more n [] s e f = rw f
fault_more n (t ∷ ss) s e f =
    rw (first_none_left (stream_fault n t) (first_fault n ss) e) (fault_more n ss s (first_none_right (stream_fault n t) (first_fault n ss) e) f)

plain_more : (ss : List Stream) (s : Stream) → plain ss ≡ true → plain (s ∷ []) ≡ true → plain (ss ++ (s ∷ [])) ≡ true
plain_more [] s e f = f
plain_more (t ∷ ss) s e f =
    and_both (plain_one t) (plain (ss ++ (s ∷ []))) (and_left (plain_one t) (plain ss) e) (plain_more ss s (and_right (plain_one t) (plain ss) e) f)

-- One more is listed.
pub sound_more : (p : Plant) (s : Stream) {b : List ℕ} {m : ℕ} → Sound p → Taken p.units (length p.streams) b s m → Sound (with_stream p s)
sound_more p s h f =
    let l = length-append p.streams (s ∷ []) in
    let r = f.room in
    record {
      units_fit = h.units_fit;
      few = omega arith;
      no_fault = fault_more p.units p.streams s h.no_fault f.good;
      all_plain = plain_more p.streams s h.all_plain f.bare;
    }

abbrev Good : Got → Type 0
Good (bad f) = f ≡ 0 → ⊥
Good (got p) = Sound p

-- A file whose records are said by `at`.
module _ (at : ℕ → ℕ → List ℕ → Record) (means : (n c : ℕ) (s : List ℕ) → Means n c s (at n c s)) where
  -- Whatever is read from here on is sound, and a refusal has a number.
  good_records : (l : ℕ) (p : Plant) (s : List ℕ) → Sound p → Good (records_by at l p s)
  good_records zero p s h = λ e. omega arith
  good_records (suc l) p s h = go (at p.units (length p.streams) s) (means p.units (length p.streams) s) (good_records l)
    where
      go : (r : Record) → Means p.units (length p.streams) s r → ((q : Plant) (t : List ℕ) → Sound q → Good (records_by at l q t))
          → Good (on_record r (λ x m. records_by at l (with_stream p x) (drop m s)) (got p) bad)
      go (Listed x m) f rest = rest (with_stream p x) (drop m s) (sound_more p x h f)
      go End f rest = h
      go (Refused f) h rest = h

  -- (At any fuel: a numeral here would be unfolded.)
  good_file : (l : ℕ) (s : List ℕ) → Good (on_site (site_at s) (λ n. records_by at l (record { units = n; streams = [] }) (drop (suc site_body) s)) bad)
  good_file l s = go (site_at s) refl
    where
      go : (r : Site) → r ≡ site_at s → Good (on_site r (λ n. records_by at l (record { units = n; streams = [] }) (drop (suc site_body) s)) bad)
      go (Units n) e =
          let u = units_there s n e in
          good_records l (record { units = n; streams = [] }) (drop (suc site_body) s)
          (record { units_fit = rw u.1 (site_units s u.0); few = omega arith; no_fault = refl; all_plain = refl })
      go (Missing f) e = missing_there s f e

  -- A plant that is read has no fault, and nothing is said that its kinds of record do not say.
  pub file_accepted : (s : List ℕ) (p : Plant) → file_by at s ≡ got p → (plant_fault p ≡ 0) × (plain p.streams ≡ true)
  file_accepted s p e = sound_faultless p (subst Good e (good_file most_records s))

  -- A file that is refused has a number.
  pub file_refused : (s : List ℕ) (f : ℕ) → file_by at s ≡ bad f → f ≡ 0 → ⊥
  file_refused s f e = subst Good e (good_file most_records s)

-- A plant file.
pub accepted : (s : List ℕ) (p : Plant) → read_plant s ≡ got p → (plant_fault p ≡ 0) × (plain p.streams ≡ true)
accepted = file_accepted record_at record_taken

-- A plant that is read is within the limits.
pub read_within : (s : List ℕ) (p : Plant) → read_plant s ≡ got p → Within p
read_within s p e = within p (accepted s p e).0

-- A refusal is never 0.
pub refused : (s : List ℕ) (f : ℕ) → read_plant s ≡ bad f → f ≡ 0 → ⊥
refused = file_refused record_at record_taken
