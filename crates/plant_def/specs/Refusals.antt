-- With which number a plant file is refused, said over the bytes of plants: how files are read need not be known.
use Rattle.std.specs.Prelude.{◌≡◌, ◌⊎◌, Bool, true, false, ◌&&◌, ◌||◌, List, ◌∷◌, ◌++◌, ℕ, ◌<◌, ◌≤◌, ◌^◌, eqb, ltb, length}
use Rattle.num_bytes.specs.Bytes.{holds, all_bytes}
use Rattle.plant_def.specs.declared.Stream.{Stream}
use Rattle.plant_def.specs.Limits.{max_streams, site_kind, metered_kind, unmetered_kind, end_kind, ranged_kind}
use Rattle.plant_def.specs.Plants.{Plant, units_fault, stream_fault, plant_fault, plain_one, plain}
use Rattle.plant_def.specs.Files.{bad, read_plant, stream_bytes, streams_bytes}

-- The kinds of record that list a stream.
abbrev pub listing_kind : ℕ → Bool
listing_kind k = eqb k metered_kind || (eqb k ranged_kind || eqb k unmetered_kind)

-- A stream that a record can hold: its weight in 2 bytes, its reading, low and high in 4 each.
abbrev pub recorded : Stream → Bool
recorded s = plain_one s && (ltb s.weight (256 ^ 2) && (holds 4 s.reading && (holds 4 s.low && holds 4 s.high)))

-- What is amiss where a record is due, after c streams of a plant with n units: a kind not allowed here 4, a 97th stream 5, a stream
-- with a fault, another count 11, bytes after the end 12.
pub data Amiss (n c : ℕ) : List ℕ → ℕ → Type 0 where
  kind : (k : ℕ) (b : List ℕ) → listing_kind k ≡ false → (k ≡ end_kind → ⊥) → Amiss n c (k ∷ b) 4
  many : (k : ℕ) (b : List ℕ) → listing_kind k ≡ true → max_streams ≤ c → Amiss n c (k ∷ b) 5
  faulty : (s : Stream) (b : List ℕ) → c < max_streams → recorded s ≡ true → (stream_fault n s ≡ 0 → ⊥) → Amiss n c (stream_bytes s ++ b) (stream_fault n s)
  count : (d : ℕ) (b : List ℕ) → (d ≡ c → ⊥) → Amiss n c (end_kind ∷ d ∷ b) 11
  after : (x : ℕ) (b : List ℕ) → Amiss n c (end_kind ∷ c ∷ x ∷ b) 12

-- A file that is refused: the first record is of another kind than a site's, 4, or its units are at fault, 6; or something is amiss behind
-- the records of a plant without fault.
pub data Refusal : List ℕ → ℕ → Type 0 where
  site : (k : ℕ) (b : List ℕ) → (k ≡ site_kind → ⊥) → Refusal (k ∷ b) 4
  units : (n : ℕ) (b : List ℕ) → (units_fault n ≡ 0 → ⊥) → Refusal (site_kind ∷ n ∷ b) 6
  behind : (p : Plant) (b : List ℕ) (f : ℕ) → plant_fault p ≡ 0 → plain p.streams ≡ true → Amiss p.units (length p.streams) b f
      → Refusal (site_kind ∷ p.units ∷ streams_bytes p.streams ++ b) f

-- Every other file that is not read ends too early: 3.
pub record RefusedFiles : Type 0 where
  pub refused : (file : List ℕ) (f : ℕ) → Refusal file f → read_plant file ≡ bad f
  pub others : (file : List ℕ) (f : ℕ) → all_bytes file ≡ true → read_plant file ≡ bad f → (f ≡ 3) ⊎ Refusal file f
