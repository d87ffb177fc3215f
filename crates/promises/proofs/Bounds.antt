-- What the calls give at most, and what they never give.
use mathlib.Core.Path.{◌≡◌, refl, sym, ap, ◌∙◌}
use mathlib.Core.Bool.{Bool, true, false, not, ◌||◌}
use mathlib.Core.List.{List, [], ◌∷◌}
use Prim.Native.Nat.{ℕ, ◌-◌, ◌*◌, ◌≤◌}
use native.Mathlib.Omega.{arith}
use native.Mathlib.Decide.{ℕ_discrete, dec_le}
use lib.Dec.{eqb, ltb}
use lib.ListN.{length}
use Rattle.num_bytes.specs.Choice.{refuse_if, first_of}
use Rattle.num_bytes.proofs.Tests.{clash, picked}
use Rattle.plant_def.specs.declared.Stream.{Stream}
use Rattle.plant_def.specs.Results.{Done}
use Rattle.plant_def.specs.Limits.{max_streams, longest_file}
use Rattle.plant_def.specs.Plants.{Plant}
use Rattle.plant_def.specs.Files.{Got, bad, got, read_plant}
use Rattle.plant_def.specs.Says.{file_number}
use Rattle.plant_def.proofs.Accepted.{read_within}
use Rattle.plant_def.proofs.Refusals.{file_refusals, write_not_19}
use Rattle.plant_def.specs.Converts.{fault_of, Converts}
use Rattle.ranged_def.specs.Moves.{narrower, narrow_fault, home, to_ranged, from_ranged}
use Rattle.transmitter_def.specs.Says.{read_transmitter}
use Rattle.transmitter_def.proofs.Short.{written_short}
use Rattle.purchase_def.specs.Results.{Bought}
use Rattle.purchase_def.specs.Purchases.{max_price, unmetered_to, some_unfair, prices_fault}
use Rattle.purchase_def.specs.Says.{BuyWith}
use Rattle.purchase_def.proofs.Price.{price_most}
use Rattle.survey_def.specs.Results.{Layouts}
use Rattle.survey_def.specs.Says.{max_surveyed, SurveySays}
use Rattle.promises.specs.Bounds.{Without19, Bounds}
use Rattle.promises.proofs.Sent.{sent_not}

-- No file is refused with 19, nor with anything but its numbers.
bad_not : (file : List ℕ) (f : ℕ) → read_plant file ≡ bad f → f ≡ 19 → ⊥
bad_not file f e n = clash (file_number 19) (ap file_number (sym n) ∙ file_refusals file f e) refl

-- A call that reads a file and writes a plant file: 1, or the reading's.
converts_not : (g : Got) (o o' : List ℕ) (r : Done) → (fault_of g ≡ 19 → ⊥) → Converts g o o' r → r.number ≡ 19 → ⊥
converts_not g o o' r h c e = go (ltb (length o) longest_file) (sym (ap (λ (y : Done). y.number) c.0) ∙ e)
  where
    go : (b : Bool) → first_of (refuse_if b 1) (fault_of g) ≡ 19 → ⊥
    go true q = omega arith
    go false q = h q

to_not : (file : List ℕ) (g : Got) → read_plant file ≡ g → fault_of (to_ranged g) ≡ 19 → ⊥
to_not file (bad f) e = bad_not file f e
to_not file (got p) e = λ q. omega arith

narrow_not : (ss : List Stream) → narrow_fault ss ≡ 19 → ⊥
narrow_not [] e = omega arith
narrow_not (s ∷ ss) e = go (narrower s) (narrow_not ss) e
  where
    go : (b : Bool) → (narrow_fault ss ≡ 19 → ⊥) → first_of (refuse_if b 20) (narrow_fault ss) ≡ 19 → ⊥
    go true h q = omega arith
    go false h q = h q

from_not : (file : List ℕ) (g : Got) → read_plant file ≡ g → fault_of (from_ranged g) ≡ 19 → ⊥
from_not file (bad f) e = bad_not file f e
from_not file (got p) e =
    picked (λ (g : Got). fault_of g ≡ 19 → ⊥) (eqb (narrow_fault p.streams) 0) (got (home p)) (bad (narrow_fault p.streams)) (λ t q. omega arith) (λ t. narrow_not p.streams)

prices_not : (p : Plant) (prices : List ℕ) → prices_fault p prices ≡ 19 → ⊥
prices_not p prices = go (not (eqb (length prices) (unmetered_to p.streams (length p.streams))) || some_unfair prices)
  where
    go : (b : Bool) → refuse_if b 21 ≡ 19 → ⊥
    go true q = omega arith
    go false q = omega arith

number_of : {r y : Bought} → r ≡ y → r.number ≡ y.number
number_of e = ap (λ (z : Bought). z.number) e

buy_not : (file prices : List ℕ) (r : Bought) (g : Got) → read_plant file ≡ g → BuyWith g prices r → r.number ≡ 19 → ⊥
buy_not file prices r (bad f) e b n = bad_not file f e (sym (number_of b) ∙ n)
buy_not file prices r (got p) e b n = elim (ℕ_discrete (prices_fault p prices) 0) [
  | yes z ↦ let q : ◌≡◌ {A = ℕ} 0 19 = sym (number_of (b.bought z).2) ∙ n in omega arith
  | no z ↦ prices_not p prices (sym (number_of (b.unpriced z)) ∙ n)
]

survey_not : (file : List ℕ) (r : Layouts) → SurveySays file r → (g : Got) → read_plant file ≡ g → r.number ≡ 19 → ⊥
survey_not file r s (bad f) e n = bad_not file f e (sym (ap (λ (y : Layouts). y.number) (s.unread f e)) ∙ n)
survey_not file r s (got p) e n = elim (dec_le (length p.streams) max_surveyed) [
  | yes h ↦ let q : ◌≡◌ {A = ℕ} 0 19 = sym (s.surveyed p e h).number ∙ n in omega arith
  | no h ↦ let q : ◌≡◌ {A = ℕ} 23 19 = sym (ap (λ (y : Layouts). y.number) (s.too_many p e (omega arith))) ∙ n in omega arith
]

-- The calls that never give 19.
pub without_19 : Without19
without_19 = record {
  writer = write_not_19;
  translator = λ file o o' r b. converts_not (read_transmitter file) o o' r (sent_not file b);
  forth = λ file o o' r. converts_not (to_ranged (read_plant file)) o o' r (to_not file (read_plant file) refl);
  home = λ file o o' r. converts_not (from_ranged (read_plant file)) o o' r (from_not file (read_plant file) refl);
  purchase = λ file prices r b. buy_not file prices r (read_plant file) refl b;
  survey = λ file r s. survey_not file r s (read_plant file) refl;
}

-- What a purchase costs.
buy_price : (file prices : List ℕ) (r : Bought) (g : Got) → read_plant file ≡ g → BuyWith g prices r → r.price ≤ (max_streams - 1) * max_price
buy_price file prices r (bad f) e b = rw b (omega arith)
buy_price file prices r (got p) e b = elim (ℕ_discrete (prices_fault p prices) 0) [
  | yes z ↦ let x = b.bought z in rw x.2 (price_most p (read_within file p e) prices z x.0 x.1)
  | no z ↦ rw (b.unpriced z) (omega arith)
]

-- The record of bounds.
pub bounds : Bounds
bounds = record {
  translated = written_short;
  price = λ file prices r b. buy_price file prices r (read_plant file) refl b;
}
