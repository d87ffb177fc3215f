-- The balance of a plant: the class and the number of each stream, cost, degrees and verdict.
use Rattle.std.specs.Prelude.{◌≡◌, List, ℤ, pos}
use Rattle.plant_def.specs.Limits.{max_streams}
use Rattle.plant_def.specs.Plants.{Plant}
use Rattle.flow_def.specs.declared.Class.{Class}
use Rattle.flow_def.specs.declared.Class.TheVariants.{Adjusted, AsRead, Given, Withheld}
use Rattle.flow_def.specs.Flows.{cost, Cheapest}
use Rattle.num_bytes.specs.Inner.{values, PickT}
use Rattle.flow_def.specs.Classes.{class_of, number_of, degrees}
use Rattle.flow_def.specs.Test.{verdict_at}
use Rattle.flow_def.specs.Shown.{adjusted}
use Rattle.flow_def.specs.Overfull.{Overfull}
use Rattle.sheet_def.specs.declared.Entry.{Entry}
use Rattle.sheet_def.specs.declared.Balance.{Balance}
use Rattle.sheet_def.specs.declared.Outcome.{Outcome}
use Rattle.sheet_def.specs.Totals.{capped}

-- A stream's entry: its class and its number; a withheld stream has none, and 0 stands there.
abbrev pub entry_of : Class → ℤ → Entry
entry_of Adjusted x = record { class = Adjusted; flow = x }
entry_of AsRead x = record { class = AsRead; flow = x }
entry_of Given x = record { class = Given; flow = x }
entry_of Withheld x = record { class = Withheld; flow = pos 0 }

-- The balance of a plant with a flow: its cost as it is written, and the verdict by the cost itself and the A streams' weights.
-- (A record past the last stream is empty, from the outside to itself: it is withheld.)
unfoldable pub balance_of : Plant → List ℤ → Balance
balance_of p xs =
    let c = cost p.streams xs in
    record {
      streams = values max_streams (λ k. entry_of (class_of p k) (number_of p xs k));
      cost = capped c;
      degrees = degrees p;
      verdict = verdict_at (degrees p) c (adjusted p);
    }

-- What the balance of a plant is: that of its cheapest flow.
abbrev pub BalanceSays : Plant → Balance → Type 0
BalanceSays p b = (xs : List ℤ) × Cheapest p xs × (b ≡ balance_of p xs)

-- What is found of a plant: its balance, or an overfull set.
abbrev pub OutcomeSays : Plant → Outcome → Type 0
OutcomeSays p r = PickT r.found (BalanceSays p r.balance) (Overfull p r.marked)
