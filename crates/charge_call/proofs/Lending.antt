-- What is handed over has room in the slices.
use mathlib.Core.Path.{◌≡◌, refl}
use mathlib.Core.List.{List}
use lib.IntN.{ℤ}
use Prim.Native.Nat.{ℕ, ◌≤◌}
use lib.ListN.{take}
use Rattle.num_bytes.specs.Bytes.{over}
use Rattle.plant_def.specs.Limits.{max_streams}
use Rattle.num_lent.specs.Made.{Made}
use Rattle.num_lent.proofs.Rooms.{room_both}
use Rattle.charge_def.specs.Results.{Charges}
use Rattle.charge_def.specs.Says.{no_charges, ChargesSays}
use Rattle.charge_def.proofs.Promise.{charges_few}
use Rattle.charge_call.specs.Lent.{charges_shown}

-- There is room: no more are charged than there may be, nor than either slice holds.
pub room_lent : (file rates : List ℕ) (m n : ℕ) (r : Charges) → Made ((max_streams ≤ m) × (max_streams ≤ n)) no_charges (ChargesSays file rates) r
    → (r.count ≤ max_streams) × (r.count ≤ m) × (r.count ≤ n)
room_lent file rates = room_both no_charges (ChargesSays file rates) (λ c. c.count) refl (charges_few file rates)

-- What is found is what the answer shows, where each part of it is.
pub charges_shown_lem : (c : Charges) (number count : ℕ) (bill : ℤ) (ns ns' : List ℕ) (cs cs' : List ℤ) → number ≡ c.number → count ≡ c.count → bill ≡ c.bill
    → ns' ≡ over (take c.count c.streams) ns → cs' ≡ over (take c.count c.cents) cs → (number, count, bill, ns', cs') ≡ charges_shown ns cs c
charges_shown_lem c number count bill ns ns' cs cs' a b d e f = λ i. (a i, b i, d i, e i, f i)
