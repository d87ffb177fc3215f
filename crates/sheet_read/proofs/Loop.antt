-- Reading a sheet: what the loop keeps, and what each record makes of it.
use mathlib.Core.Path.{◌≡◌, refl, sym, ap, ◌∙◌, subst}
use mathlib.Core.List.{List, [], ◌∷◌, ◌++◌}
use Prim.Native.Nat.{ℕ, suc, ◌+◌, ◌-◌, ◌<◌, ◌≤◌}
use native.Mathlib.Omega.{arith}
use lib.ListN.{length, drop, set, replicate, length-append, length-drop}
use lib.Seq.{drop-drop}
use Rattle.num_bytes.specs.Arrays.{filled}
use Rattle.num_bytes.proofs.Parts.{part_from, part_is}
use Rattle.num_bytes.proofs.Filled.{filled_none, filled_more}
use Rattle.plant_def.specs.Limits.{max_streams}
use Rattle.plant_def.specs.Files.{most_records}
use Rattle.sheet_def.specs.declared.Entry.{Entry}
use Rattle.sheet_def.specs.declared.Total.{Total}
use Rattle.sheet_def.specs.Kept.{SheetRecord, Listed, Ended, Refused, no_sheet, blank, record_at, on_record, sheet_with, records_from, read_sheet, read_of, ReadSays}
use Rattle.sheet_def.proofs.Records.{ListedAs, Meaning, record_means}

-- c entries held in es, and the place `at`: what stands from there on decides the whole.
pub record Reading (bytes : List ℕ) (es : List Entry) (c at : ℕ) : Type 0 where
  pub done : List Entry
  pub array : es ≡ filled blank max_streams done
  pub counted : c ≡ length done
  pub few : length done ≤ max_streams
  pub within : at ≤ length bytes
  pub rest : read_sheet bytes ≡ records_from (most_records - c) done (drop at bytes)

-- No stream yet.
pub begin : (bytes : List ℕ) (e : Entry) → e ≡ blank → Reading bytes (replicate max_streams e) 0 0
begin bytes e z =
    record {
      done = [];
      array = ap (replicate max_streams) z ∙ filled_none blank max_streams;
      counted = refl;
      few = omega arith;
      within = omega arith;
      rest = refl;
    }

module _ {bytes : List ℕ} {es : List Entry} {c at : ℕ} (r : Reading bytes es c at) where
  next : {h : SheetRecord} → h ≡ record_at c (part_from at bytes)
      → read_sheet bytes ≡ on_record h (λ x m. records_from (max_streams - c) (r.done ++ (x ∷ [])) (drop m (drop at bytes))) (sheet_with r.done) no_sheet
  next {h} e =
      let k = r.counted in
      let f = r.few in
      let fuel : most_records - c ≡ suc (max_streams - c) = omega arith in
      let d : record_at (length r.done) (drop at bytes) ≡ h = ap (λ (j : ℕ). record_at j (drop at bytes)) (sym k) ∙ ap (record_at c) (sym (part_is at bytes)) ∙ sym e in
      r.rest
      ∙ ap (λ (l : ℕ). records_from l r.done (drop at bytes)) fuel
      ∙ ap (λ (g : SheetRecord). on_record g (λ x m. records_from (max_streams - c) (r.done ++ (x ∷ [])) (drop m (drop at bytes))) (sheet_with r.done) no_sheet) d

  module _ {x : Entry} {m : ℕ} (e : Listed x m ≡ record_at c (part_from at bytes)) where
    listed : ListedAs c (drop at bytes) x m
    listed = subst (Meaning c (drop at bytes)) (ap (record_at c) (sym (part_is at bytes)) ∙ sym e) (record_means c (drop at bytes))

    -- There is room for it in the array.
    pub room_left : c < max_streams
    room_left = listed.room

    -- The next turn.
    pub turn : Reading bytes (set es c x) (c + 1) (at + m)
    turn =
        let l = length-drop at bytes in
        let f = listed.whole in
        let k = r.counted in
        let q = listed.room in
        let fuel : max_streams - c ≡ most_records - (c + 1) = omega arith in
        record {
          done = r.done ++ (x ∷ []);
          array = ap (λ (t : List Entry). set t c x) r.array ∙ ap (λ (j : ℕ). set (filled blank max_streams r.done) j x) k
              ∙ filled_more blank max_streams r.done x (omega arith);
          counted = omega (arith, length-append r.done (x ∷ []));
          few = omega (arith, length-append r.done (x ∷ []));
          within = let w = r.within in omega arith;
          rest = next e ∙ ap (λ (j : ℕ). records_from j (r.done ++ (x ∷ [])) (drop m (drop at bytes))) fuel
              ∙ ap (records_from (most_records - (c + 1)) (r.done ++ (x ∷ []))) (drop-drop m at bytes);
        }

  -- The total ends the reading, with the sheet.
  pub ended_here : {t : Total} → Ended t ≡ record_at c (part_from at bytes) → ReadSays bytes (record { number = 0; count = c; streams = es; total = t })
  ended_here {t} e = (λ i. record { number = 0; count = r.counted i; streams = r.array i; total = t }) ∙ ap read_of (sym (next e))

  -- A refusal.
  pub refused_here : {f : ℕ} → Refused f ≡ record_at c (part_from at bytes) → ReadSays bytes (read_of (no_sheet f))
  refused_here e = ap read_of (sym (next e))
