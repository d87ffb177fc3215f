-- A plant file that is read is no longer than the longest.
use mathlib.Core.Path.{◌≡◌, subst}
use mathlib.Core.List.{List, [], ◌∷◌}
use Prim.Native.Nat.{ℕ, zero, suc, ◌+◌, ◌*◌, ◌≤◌}
use native.Mathlib.Omega.{arith}
use lib.Dec.{eqb}
use lib.ListN.{length, get_or, drop, length-append, length-drop}
use Rattle.num_bytes.proofs.Tests.{picked}
use Rattle.plant_def.specs.declared.Stream.{Stream}
use Rattle.plant_def.specs.Results.{Site, Units, Missing, Record, Listed, End, Refused}
use Rattle.plant_def.specs.Limits.{max_streams, metered_kind, unmetered_kind, end_kind, ranged_kind, site_body, metered_body, ranged_body, unmetered_body, end_body, longest_file}
use Rattle.plant_def.specs.Plants.{Plant, stream_fault}
use Rattle.plant_def.specs.Files.{Got, bad, got, site_at, on_site, metered_in, ranged_in, unmetered_in, body_fault}
use Rattle.plant_def.specs.Files.{checked, stream_record, end_fault, kind_record, record_at, on_record, with_stream, records_by, most_records}
use Rattle.plant_def.specs.Says.{LongestFile}
use Rattle.plant_def.proofs.Records.{Meaning, record_means}

-- No record of a stream is longer than one with a range.
abbrev Small : Record → Type 0
Small (Listed x m) = m ≤ suc ranged_body
Small End = Unit
Small (Refused f) = Unit

stream_small : (size : ℕ) (s : Stream) (n c : ℕ) (b : List ℕ) → size ≤ ranged_body → Small (stream_record size s n c b)
stream_small size s n c b h =
    picked Small (eqb (body_fault size c b) 0) (checked n s (suc size)) (Refused (body_fault size c b))
    (λ t. picked Small (eqb (stream_fault n s) 0) (Listed s (suc size)) (Refused (stream_fault n s)) (λ u. omega arith) (λ u. tt))
    (λ t. tt)

kind_small : (n c k : ℕ) (b : List ℕ) → Small (kind_record n c k b)
kind_small n c k b =
    picked Small (eqb k metered_kind) _ _ (λ t. stream_small metered_body (metered_in b) n c b (omega arith))
    (λ t. picked Small (eqb k ranged_kind) _ _ (λ t. stream_small ranged_body (ranged_in b) n c b (omega arith))
    (λ t. picked Small (eqb k unmetered_kind) _ _ (λ t. stream_small unmetered_body (unmetered_in b) n c b (omega arith))
    (λ t. picked Small (eqb k end_kind) _ _ (λ t. picked Small (eqb (end_fault c b) 0) End (Refused (end_fault c b)) (λ u. tt) (λ u. tt)) (λ t. tt))))

record_small : (n c : ℕ) (s : List ℕ) → Small (record_at n c s)
record_small n c s = picked Small (eqb (length s) 0) (Refused 3) (kind_record n c (get_or s 0 0) (drop 1 s)) (λ t. tt) (λ t. kind_small n c (get_or s 0 0) (drop 1 s))

-- What is left of a file after c streams.
abbrev Short : ℕ → List ℕ → Got → Type 0
Short c s (bad f) = Unit
Short c s (got q) = length s + c * suc ranged_body ≤ max_streams * suc ranged_body + suc end_body

short_more : (c m : ℕ) (s : List ℕ) (d : ℕ) (g : Got) → m ≤ suc ranged_body → d ≡ suc c → Short d (drop m s) g → Short c s g
short_more c m s d (bad f) h e k = tt
short_more c m s d (got q) h e k = let l = length-drop m s in omega arith

short_records : (l : ℕ) (p : Plant) (s : List ℕ) → length p.streams ≤ max_streams → Short (length p.streams) s (records_by record_at l p s)
short_records zero p s h = tt
short_records (suc l) p s h =
    go (record_at p.units (length p.streams) s) (record_means p.units (length p.streams) s) (record_small p.units (length p.streams) s) (short_records l)
  where
    c : ℕ
    c = length p.streams

    go : (r : Record) → Meaning p.units c s r → Small r
        → ((q : Plant) (t : List ℕ) → length q.streams ≤ max_streams → Short (length q.streams) t (records_by record_at l q t))
        → Short c s (on_record r (λ x m. records_by record_at l (with_stream p x) (drop m s)) (got p) bad)
    go (Listed x m) f k rest =
        let n : length (with_stream p x).streams ≡ suc (length p.streams) = let a = length-append p.streams (x ∷ []) in omega arith in
        let room = f.taken.room in
        short_more c m s (length (with_stream p x).streams) (records_by record_at l (with_stream p x) (drop m s)) k n (rest (with_stream p x) (drop m s) (omega arith))
    go End f k rest = rw f (omega arith)
    go (Refused e) f k rest = tt

abbrev Whole : List ℕ → Got → Type 0
Whole s (bad f) = Unit
Whole s (got p) = length s ≤ longest_file

whole_file : (s : List ℕ) (g : Got) → Short 0 (drop (suc site_body) s) g → Whole s g
whole_file s (bad f) h = tt
whole_file s (got p) h = let l = length-drop (suc site_body) s in omega arith

-- (At any fuel: a numeral here would be unfolded.)
file_whole : (l : ℕ) (s : List ℕ) → Whole s (on_site (site_at s) (λ n. records_by record_at l (record { units = n; streams = [] }) (drop (suc site_body) s)) bad)
file_whole l s = go (site_at s)
  where
    go : (r : Site) → Whole s (on_site r (λ n. records_by record_at l (record { units = n; streams = [] }) (drop (suc site_body) s)) bad)
    go (Units n) =
        let none : Plant = record { units = n; streams = [] } in
        whole_file s (records_by record_at l none (drop (suc site_body) s)) (short_records l none (drop (suc site_body) s) (omega arith))
    go (Missing f) = tt

-- No file that is read is longer than the longest file, and one is as long.
pub longest_file_lem : LongestFile
longest_file_lem s p e = subst (Whole s) e (file_whole most_records s)
