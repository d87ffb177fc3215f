-- The bytes of a sheet, laid down: records, then the total.
use mathlib.Core.Path.{◌≡◌, sym, ap, ◌∙◌}
use mathlib.Core.List.{List, [], ◌∷◌, ◌++◌, append-nil, append_assoc}
use lib.IntN.{ℤ}
use Prim.Native.Nat.{ℕ, zero, suc, ◌+◌, ◌*◌, ◌≤◌, ◌<◌}
use native.Mathlib.Omega.{arith}
use native.Mathlib.Numerals.{add-one}
use lib.ListN.{length, get_or, take, length-append}
use Rattle.num_bytes.specs.Bytes.{over}
use Rattle.num_bytes.specs.Inner.{Put}
use Rattle.num_bytes.proofs.Parts.{Laid, lay, room, may_lend, part_from, returned}
use Rattle.plant_def.specs.Limits.{max_streams}
use Rattle.plant_def.specs.Plants.{Plant}
use Rattle.flow_def.specs.declared.Class.{Class}
use Rattle.flow_def.specs.declared.Class.TheVariants.{Adjusted, AsRead, Given, Withheld}
use Rattle.sheet_def.specs.declared.Entry.{Entry}
use Rattle.sheet_def.specs.declared.Balance.{Balance}
use Rattle.sheet_def.specs.Balances.{balance_of}
use Rattle.sheet_def.specs.Sheets.{record_of, records_of, total_of}
use Rattle.sheet_def.specs.Drawings.{sheet_bytes, sheet_of}
use Rattle.sheet_def.specs.Totals.{stream_size, total_size, least_slice}

-- No stream record is longer than a number's.
pub record_most : (c : Class) (x : ℤ) → length (record_of c x) ≤ stream_size
record_most Adjusted x = omega arith
record_most AsRead x = omega arith
record_most Given x = omega arith
record_most Withheld x = omega arith

-- A record under its class and with its flow.
pub record_as : {c d : Class} {x y : ℤ} → d ≡ c → x ≡ y → record_of c x ≡ record_of d y
record_as {c} {d} {x} {y} e f = ap (λ (k : Class). record_of k x) (sym e) ∙ ap (record_of d) f

-- One record more.
pub records_more : (es : List Entry) (i : ℕ) (d : Entry) → i < length es
    → records_of (take (i + 1) es) ≡ records_of (take i es) ++ record_of (get_or es i d).class (get_or es i d).flow
records_more es i d h = rw (add-one i) (go es i h)
  where
    go : (es : List Entry) (i : ℕ) → i < length es → records_of (take (suc i) es) ≡ records_of (take i es) ++ record_of (get_or es i d).class (get_or es i d).flow
    go [] i h = absurd (omega arith)
    go (e ∷ es) zero h = append-nil (record_of e.class e.flow)
    go (e ∷ es) (suc i) h =
        ap (λ (l : List ℕ). record_of e.class e.flow ++ l) (go es i (omega arith))
        ∙ sym (append_assoc (record_of e.class e.flow) (records_of (take i es)) (record_of (get_or es i d).class (get_or es i d).flow))

records_most : (k : ℕ) (es : List Entry) → length (records_of (take k es)) ≤ stream_size * k
records_most zero es = omega arith
records_most (suc k) [] = omega arith
records_most (suc k) (e ∷ es) =
    let b = record_of e.class e.flow in
    omega (arith, length-append b (records_of (take k es)), record_most e.class e.flow, records_most k es)

-- A sheet is no longer than the least slice.
pub sheet_most : (office : ℕ) (p : Plant) (xs : List ℤ) (n : ℕ) → length p.streams ≤ max_streams → length (sheet_of office p xs n) ≤ least_slice
sheet_most office p xs n h =
    let rs = records_of (take (length p.streams) (balance_of p xs).streams) in
    let t = total_of office n (balance_of p xs).cost (balance_of p xs).degrees (balance_of p xs).verdict in
    omega (arith, length-append rs t, records_most (length p.streams) (balance_of p xs).streams)

-- The records laid down: the total has room behind them.
pub record Recorded (k : ℕ) (es : List Entry) (o o₁ : List ℕ) (m : ℕ) : Type 0 where
  pub wide : least_slice ≤ length o
  pub most : m ≤ max_streams * stream_size
  pub so_far : Laid (records_of (take k es)) o o₁ m

-- The records of k entries stand in the slice, with room for what follows.
pub recorded : (k : ℕ) (es : List Entry) (o : List ℕ) {o₁ : List ℕ} {m : ℕ} → k ≤ max_streams → least_slice ≤ length o
    → Put (records_of (take k es)) o o₁ m → Recorded k es o o₁ m
recorded k es o {o₁} {m} h l p =
    let s = p.size in
    let b : m ≤ max_streams * stream_size = omega (arith, records_most k es) in
    record { wide = l; most = b; so_far = record { bytes = p.bytes; size = sym s; fits = omega arith } }

module _ {k : ℕ} (b : Balance) {o o₁ : List ℕ} {m : ℕ} (r : Recorded k b.streams o o₁ m) where
  -- The place for the total is in the slice,
  pub total_lend : m ≤ length o₁
  total_lend = may_lend r.so_far

  -- and there is room for it.
  pub total_room : total_size ≤ length (part_from m o₁)
  total_room = let a = r.wide in let b = r.most in room r.so_far total_size (omega arith)

  -- The total behind them makes the sheet whole.
  pub sheet_put : (office n : ℕ) (last : List ℕ) → last ≡ over (total_of office n b.cost b.degrees b.verdict) (part_from m o₁)
      → Put (sheet_bytes office k n b) o (returned m o₁ last) (m + total_size)
  sheet_put office n last q =
      let a = r.wide in
      let c = r.most in
      let l = lay r.so_far (total_of office n b.cost b.degrees b.verdict) (omega arith) q in
      record { bytes = l.bytes; size = sym l.size }
