-- What the parts of a balance require, and what they sum and list.
use Rattle.std.specs.Prelude.{List, ℤ, pos, nat_abs, ◌-ℤ◌, ◌*ℤ◌, ℕ, ◌*◌, ◌≤◌, ◌<◌, get_or}
use Rattle.num_bytes.specs.Choice.{pick}
use Rattle.plant_def.specs.declared.Stream.{Stream}
use Rattle.plant_def.specs.Limits.{max_streams}
use Rattle.flow_def.specs.declared.Class.{Class}
use Rattle.flow_def.specs.declared.Class.TheVariants.{Adjusted}
use Rattle.flow_def.specs.Flows.{amount_at, square}
use Rattle.num_bytes.specs.Inner.{values}
use Rattle.solve_def.specs.Sizes.{flow_shift}
use Rattle.sheet_def.specs.declared.Entry.{Entry}
use Rattle.sheet_def.specs.Balances.{entry_of}

-- What stands past an array of entries.
abbrev pub no_entry : Entry
no_entry = record { class = Adjusted; flow = pos 0 }

-- The entries of streams, by their classes and their flows.
unfoldable pub entries_of : List Class → List ℤ → List Entry
entries_of cs xs = values max_streams (λ k. entry_of (get_or cs k Adjusted) (amount_at xs k))

-- An amount that the solver may hold, opened: of size flow_shift at most.
abbrev pub Small : ℤ → Type 0
Small x = nat_abs x ≤ flow_shift

-- Every amount of a list is small.
abbrev pub AllSmall : List ℤ → Type 0
AllSmall xs = (k : ℕ) → k < max_streams → Small (amount_at xs k)

-- What a stream with a flow costs.
abbrev pub stream_cost : Stream → ℤ → ℕ
stream_cost s x = pick s.metered (s.weight * square (x -ℤ pos 1 *ℤ s.reading)) 0
