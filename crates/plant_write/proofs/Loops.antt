-- Writing a plant: its streams written one after the other.
use mathlib.Core.Path.{◌≡◌, refl, sym, ap, ◌∙◌}
use mathlib.Core.List.{List, [], ◌∷◌, ◌++◌, append_assoc, append-nil}
use Prim.Native.Nat.{ℕ, suc, ◌+◌, ◌*◌, ◌<◌, ◌≤◌}
use native.Mathlib.Omega.{arith}
use native.Mathlib.Numerals.{add-one}
use lib.ListN.{length, get_or, take, length-append}
use lib.Seq.{take-suc, length-take-le}
use Rattle.num_bytes.specs.Choice.{pick}
use Rattle.num_bytes.specs.Bytes.{over}
use Rattle.num_bytes.specs.Inner.{Put}
use Rattle.num_bytes.proofs.Tests.{picked}
use Rattle.num_bytes.proofs.Parts.{Laid, laid, lay, room, part_from, returned}
use Rattle.num_bytes.proofs.Rows.{Rows, one_row}
use Rattle.plant_def.specs.declared.Stream.{Stream}
use Rattle.plant_def.specs.Limits.{max_streams, site_kind, metered_kind, unmetered_kind, end_kind, ranged_kind, ranged_body, longest_file}
use Rattle.plant_def.specs.Plants.{no_stream}
use Rattle.plant_def.specs.Files.{meter_bytes, range_bytes, stream_bytes, streams_bytes, plant_bytes}
use Rattle.plant_def.specs.Says.{listing}

-- The bytes of streams.
bytes_append : (xs ys : List Stream) → streams_bytes (xs ++ ys) ≡ streams_bytes xs ++ streams_bytes ys
bytes_append [] ys = refl
bytes_append (x ∷ xs) ys = ap (λ (l : List ℕ). stream_bytes x ++ l) (bytes_append xs ys) ∙ sym (append_assoc (stream_bytes x) (streams_bytes xs) (streams_bytes ys))

bytes_most : (s : Stream) → length (stream_bytes s) ≤ suc ranged_body
bytes_most s =
    picked short s.metered (pick s.ranged (ranged_kind ∷ meter_bytes s ++ range_bytes s) (metered_kind ∷ meter_bytes s)) (unmetered_kind ∷ s.from ∷ s.to ∷ [])
    (λ t. picked short s.ranged (ranged_kind ∷ meter_bytes s ++ range_bytes s) (metered_kind ∷ meter_bytes s) (λ q. omega arith) (λ q. omega arith))
    (λ t. omega arith)
  where
    short : List ℕ → Type 0
    short l = length l ≤ suc ranged_body

all_most : (ss : List Stream) → length (streams_bytes ss) ≤ suc ranged_body * length ss
all_most [] = omega arith
all_most (s ∷ ss) = omega (arith, length-append (stream_bytes s) (streams_bytes ss), bytes_most s, all_most ss)

bytes_more : (i : ℕ) (ss : List Stream) → i < length ss → streams_bytes (take i ss) ++ stream_bytes (get_or ss i no_stream) ≡ streams_bytes (take (i + 1) ss)
bytes_more i ss h =
    let x = get_or ss i no_stream in
    ap (λ (l : List ℕ). streams_bytes (take i ss) ++ l) (sym (append-nil (stream_bytes x)))
    ∙ sym (bytes_append (take i ss) (x ∷ []))
    ∙ ap streams_bytes (sym (take-suc ss i no_stream h) ∙ ap (λ (j : ℕ). take j ss) (sym (add-one i)))

-- The stream records, one after the other.
abbrev pub Streams : List Stream → ℕ → List ℕ → List ℕ → ℕ → ℕ → Type 0
Streams ss k o o₁ at i = Rows (λ (j : ℕ). streams_bytes (take j ss)) (suc ranged_body) k o o₁ at i

-- One stream more.
pub one_stream : {ss : List Stream} {k : ℕ} {o o₁ : List ℕ} {at i : ℕ} → Streams ss k o o₁ at i → {last : List ℕ} {m : ℕ} → i < k → k ≤ length ss
    → Put (stream_bytes (get_or ss i no_stream)) (part_from at o₁) last m → Streams ss k o (returned at o₁ last) (at + m) (i + 1)
one_stream {ss} {k} {o} {o₁} {at} {i} w h long p =
    one_row w (stream_bytes (get_or ss i no_stream)) h (sym (bytes_more i ss (omega arith))) (bytes_most (get_or ss i no_stream)) p

-- A plant's site record and stream records written at the front of o, which is o₁ now; the streams take m bytes.
pub record Streamed (n k : ℕ) (ss : List Stream) (o o₁ : List ℕ) (m : ℕ) : Type 0 where
  pub listed : length (take k ss) ≡ k
  pub wide : longest_file ≤ length o
  pub most : m ≤ max_streams * suc ranged_body
  pub so_far : Laid (site_kind ∷ n ∷ streams_bytes (take k ss)) o o₁ (2 + m)

-- The streams in the part behind the site record.
pub streamed : (n k : ℕ) (ss : List Stream) (o : List ℕ) {o₁ last : List ℕ} {m : ℕ} → k ≤ max_streams → length ss ≡ max_streams → longest_file ≤ length o
    → o₁ ≡ over (site_kind ∷ n ∷ []) o → Put (streams_bytes (take k ss)) (part_from 2 o₁) last m → Streamed n k ss o (returned 2 o₁ last) m
streamed n k ss o {m = m} few held wide site p =
    let l : length (take k ss) ≡ k = length-take-le k ss (omega arith) in
    let b : m ≤ max_streams * suc ranged_body = omega (arith, all_most (take k ss), p.size, ap (λ (j : ℕ). suc ranged_body * j) l) in
    let q = lay (laid (site_kind ∷ n ∷ []) o (omega arith) site) (streams_bytes (take k ss)) (omega (arith, p.size)) p.bytes in
    record { listed = l; wide = wide; most = b; so_far = record { bytes = q.bytes; size = q.size ∙ ap (λ (j : ℕ). 2 + j) (sym p.size); fits = omega arith } }

module _ {n k : ℕ} {ss : List Stream} {o o₁ : List ℕ} {m : ℕ} (w : Streamed n k ss o o₁ m) where
  -- There is room for the end record in the part behind the streams.
  pub end_room : 2 ≤ length (part_from (2 + m) o₁)
  end_room = let b = w.most in let l = w.wide in room w.so_far 2 (omega arith)

  -- The end record in the part behind them.
  pub plant_put : (end : List ℕ) → end ≡ over (end_kind ∷ k ∷ []) (part_from (2 + m) o₁) → Put (plant_bytes (listing n k ss)) o (returned (2 + m) o₁ end) (2 + m + 2)
  plant_put end q =
      let b = w.most in
      let l = w.wide in
      let r = lay w.so_far (end_kind ∷ k ∷ []) (omega arith) q in
      let c : site_kind ∷ n ∷ streams_bytes (take k ss) ++ (end_kind ∷ k ∷ []) ≡ plant_bytes (listing n k ss) =
      ap (λ (j : ℕ). site_kind ∷ n ∷ streams_bytes (take k ss) ++ (end_kind ∷ j ∷ [])) (sym w.listed) in
      record { bytes = r.bytes ∙ ap (λ (x : List ℕ). over x o) c; size = sym r.size ∙ ap length c }
