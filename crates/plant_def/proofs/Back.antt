-- A plant file read and written again from its parts: the bytes. The round trip.
use mathlib.Core.Path.{◌≡◌, refl, sym, ap, ◌∙◌}
use mathlib.Core.List.{List, [], ◌∷◌, ◌++◌, append_assoc, append-nil}
use mathlib.Core.Bool.{true}
use Prim.Native.Nat.{ℕ, zero, suc, ◌≤◌}
use native.Mathlib.Omega.{arith}
use lib.ListN.{length, get_or, drop}
use Rattle.num_bytes.specs.Bytes.{all_bytes}
use Rattle.num_bytes.proofs.Digits.{bytes_drop}
use Rattle.plant_def.specs.declared.Stream.{Stream}
use Rattle.plant_def.specs.Results.{Site, Units, Missing, Record, Listed, End, Refused}
use Rattle.plant_def.specs.Limits.{site_kind, end_kind, site_body}
use Rattle.plant_def.specs.Plants.{Plant}
use Rattle.plant_def.specs.Files.{bad, got, site_at, on_site, record_at, on_record, with_stream, records_by, most_records, read_plant, stream_bytes, streams_bytes, plant_bytes, RoundTrip}
use Rattle.plant_def.proofs.Accepted.{accepted}
use Rattle.plant_def.proofs.Records.{Meaning, record_means, units_there, site_kind_lem, site_whole}
use Rattle.plant_def.proofs.There.{there}

not_got : (f : ℕ) (p : Plant) → bad f ≡ got p → ⊥
not_got f p e = let z : ◌≡◌ {A = ℕ} 0 1 = cc in omega arith

-- The streams that the rest of the bytes lists.
record Lists (q : Plant) (s : List ℕ) (p : Plant) : Type 0 where
  more : List Stream
  plant : p ≡ record { units = q.units; streams = q.streams ++ more }
  bytes : s ≡ streams_bytes more ++ (end_kind ∷ length (q.streams ++ more) ∷ [])

rest_back : (l : ℕ) (q : Plant) (s : List ℕ) (p : Plant) → all_bytes s ≡ true → records_by record_at l q s ≡ got p → Lists q s p
rest_back zero q s p a e = absurd (not_got 3 p e)
rest_back (suc l) q s p a e =
    go (record_at q.units (length q.streams) s) (record_means q.units (length q.streams) s) e (λ x m. rest_back l (with_stream q x) (drop m s) p (bytes_drop m s a))
  where
    go : (h : Record) → Meaning q.units (length q.streams) s h → on_record h (λ x m. records_by record_at l (with_stream q x) (drop m s)) (got q) bad ≡ got p
        → ((x : Stream) (m : ℕ) → records_by record_at l (with_stream q x) (drop m s) ≡ got p → Lists (with_stream q x) (drop m s) p) → Lists q s p
    go (Refused f) h e ih = absurd (not_got f p e)
    go End h e ih =
        let d : q.streams ++ [] ≡ q.streams = append-nil q.streams in
        let g : p ≡ q = cc in
        record {
          more = [];
          plant = g ∙ (λ i. record { units = q.units; streams = sym d i });
          bytes = h ∙ ap (λ (t : List Stream). end_kind ∷ length t ∷ []) (sym d);
        }
    go (Listed x m) h e ih =
        let r = ih x m e in
        let ss = r.more in
        let d : (q.streams ++ (x ∷ [])) ++ ss ≡ q.streams ++ x ∷ ss = append_assoc q.streams (x ∷ []) ss in
        record {
          more = x ∷ ss;
          plant = r.plant ∙ (λ i. record { units = q.units; streams = d i });
          bytes =
              h.bytes a
              ∙ ap (λ (t : List ℕ). stream_bytes x ++ t) (r.bytes ∙ ap (λ (t : List Stream). streams_bytes ss ++ (end_kind ∷ length t ∷ [])) d)
              ∙ sym (append_assoc (stream_bytes x) (streams_bytes ss) (end_kind ∷ length (q.streams ++ x ∷ ss) ∷ []));
        }

-- A site record, written again.
pub site_back : (s : List ℕ) (n : ℕ) → Units n ≡ site_at s → s ≡ site_kind ∷ n ∷ drop (suc site_body) s
site_back s n e = let u = units_there s n e in go s (site_whole s u.0) (site_kind_lem s u.0) u.1
  where
    go : (s : List ℕ) → suc site_body ≤ length s → get_or s 0 0 ≡ site_kind → n ≡ get_or s 1 0 → s ≡ site_kind ∷ n ∷ drop (suc site_body) s
    go [] h k m = absurd (omega arith)
    go (a ∷ []) h k m = absurd (omega arith)
    go (a ∷ b ∷ s) h k m = λ i. k i ∷ sym m i ∷ s

-- (At any fuel: a numeral here would be unfolded.)
all_back : (l : ℕ) (s : List ℕ) (p : Plant) → all_bytes s ≡ true
    → on_site (site_at s) (λ n. records_by record_at l (record { units = n; streams = [] }) (drop (suc site_body) s)) bad ≡ got p → plant_bytes p ≡ s
all_back l s p a e = go (site_at s) refl e
  where
    go : (h : Site) → h ≡ site_at s → on_site h (λ n. records_by record_at l (record { units = n; streams = [] }) (drop (suc site_body) s)) bad ≡ got p → plant_bytes p ≡ s
    go (Missing f) h e = absurd (not_got f p e)
    go (Units n) h e =
        let r = rest_back l (record { units = n; streams = [] }) (drop (suc site_body) s) p (bytes_drop (suc site_body) s a) e in
        ap plant_bytes r.plant ∙ ap (λ (t : List ℕ). site_kind ∷ n ∷ t) (sym r.bytes) ∙ sym (site_back s n h)

-- A file that is read is the file of its plant.
pub back : (s : List ℕ) (p : Plant) → all_bytes s ≡ true → read_plant s ≡ got p → plant_bytes p ≡ s
back s p a e = all_back most_records s p a e

-- Demand 2: a plant file written from its parts and read again comes back the same, both ways.
pub round_trip : RoundTrip
round_trip = record { there = there; back = λ s p b e. let a = accepted s p e in (back s p b e, a.0, a.1) }
