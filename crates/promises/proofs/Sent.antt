-- No transmitter file is refused with 19.
use mathlib.Core.Path.{◌≡◌, refl}
use mathlib.Core.Bool.{Bool, true, false, not, ◌||◌}
use mathlib.Core.Logic.{⊎_elim}
use mathlib.Core.List.{List}
use lib.IntN.{ℤ, nat_abs}
use Prim.Native.Nat.{ℕ, zero, suc}
use native.Mathlib.Omega.{arith}
use lib.Dec.{eqb, ltb}
use lib.Ieee.Scale.{finite}
use lib.Ieee.Positive.{positive}
use Rattle.num_bytes.specs.Bytes.{all_bytes}
use Rattle.num_bytes.specs.Choice.{pick, refuse_if, first_of}
use Rattle.num_bytes.proofs.Tests.{picked}
use Rattle.plant_def.specs.Limits.{max_weight, max_reading}
use Rattle.plant_def.specs.Plants.{unmetered, meter_fault, stream_fault}
use Rattle.plant_def.specs.Files.{Got, bad, got}
use Rattle.plant_def.specs.Converts.{fault_of}
use Rattle.transmitter_def.specs.Limits.{fault_kind}
use Rattle.transmitter_def.specs.Signals.{reading_of, weight_of}
use Rattle.transmitter_def.specs.Says.{read_transmitter}
use Rattle.transmitter_def.specs.Sendings.{Sending, value_of, deviation_of, sending_fault, Amiss, kind, many, faulty, count, after, Refusal, site, units, behind}
use Rattle.transmitter_def.proofs.Amiss.{sent_files}

-- Another number than 19.
abbrev Other : ℕ → Type 0
Other f = f ≡ 19 → ⊥

-- A test with a number of its own first, then the rest.
then_other : (b : Bool) (k g : ℕ) → Other k → Other g → Other (first_of (refuse_if b k) g)
then_other true zero g h l = l
then_other true (suc k) g h l = h
then_other false k g h l = l

first_other : (f g : ℕ) → Other f → Other g → Other (first_of f g)
first_other zero g h l = l
first_other (suc f) g h l = h

refuse_other : (b : Bool) (k : ℕ) → Other k → Other (refuse_if b k)
refuse_other true k h = h
refuse_other false k h = λ e. omega arith

ends_other : (n u v : ℕ) → Other (stream_fault n (unmetered u v))
ends_other n u v =
    then_other (ltb n u || ltb n v) 7 (first_of (refuse_if (eqb u v) 8) 0) (λ e. omega arith) (then_other (eqb u v) 8 0 (λ e. omega arith) (λ e. omega arith))

meter_other : (w : ℕ) (r : ℤ) → Other (meter_fault w r)
meter_other w r =
    then_other (eqb w 0 || ltb max_weight w) 9 (refuse_if (ltb max_reading (nat_abs r)) 10) (λ e. omega arith)
    (refuse_other (ltb max_reading (nat_abs r)) 10 (λ e. omega arith))

sending_other : (n : ℕ) (x : Sending) → Other (sending_fault n x)
sending_other n x =
    let m = meter_fault (weight_of (deviation_of x)) (reading_of (value_of x)) in
    let d = first_of (refuse_if (not (positive (deviation_of x))) 17) m in
    let v = first_of (refuse_if (not (finite (value_of x))) 16) d in
    first_other (stream_fault n (unmetered x.from x.to)) (pick (eqb x.kind fault_kind) 0 v) (ends_other n x.from x.to)
    (picked Other (eqb x.kind fault_kind) 0 v (λ t e. omega arith)
    (λ t. then_other (not (finite (value_of x))) 16 d (λ e. omega arith)
    (then_other (not (positive (deviation_of x))) 17 m (λ e. omega arith) (meter_other (weight_of (deviation_of x)) (reading_of (value_of x))))))

amiss_other : {n c : ℕ} {b : List ℕ} {f : ℕ} → Amiss n c b f → Other f
amiss_other (kind k b t e) = λ q. omega arith
amiss_other (many k b t h) = λ q. omega arith
amiss_other {n} (faulty x b h t e) = sending_other n x
amiss_other (count d b e) = λ q. omega arith
amiss_other (after x b) = λ q. omega arith

refusal_other : {file : List ℕ} {f : ℕ} → Refusal file f → Other f
refusal_other (site k b e) = λ q. omega arith
refusal_other (units n b e) = λ q. omega arith
refusal_other (behind n xs b f h a) = amiss_other a

-- Whatever is read of one, its number is another.
pub sent_not : (file : List ℕ) → all_bytes file ≡ true → fault_of (read_transmitter file) ≡ 19 → ⊥
sent_not file b = go (read_transmitter file) refl
  where
    go : (g : Got) → read_transmitter file ≡ g → fault_of g ≡ 19 → ⊥
    go (bad f) e = ⊎_elim (λ (z : f ≡ 3) q. omega arith) (λ r. refusal_other r) (sent_files.others file f b e)
    go (got p) e = λ q. omega arith
