-- What the call over meters worth a visit promises.
use Rattle.std.specs.Prelude.{◌≡◌, ◌⊎◌, ◌↔◌, true, false, List, ℤ, ℕ, suc, ◌≤◌, ◌<◌, length, get_or, replicate}
use Rattle.plant_def.specs.Converts.{ReadAs}
use Rattle.plant_def.specs.Limits.{max_streams}
use Rattle.plant_def.specs.Plants.{Plant}
use Rattle.plant_def.specs.Files.{Got, got, read_plant}
use Rattle.flow_def.specs.Flows.{stream_at, allowed, cost, Cheapest}
use Rattle.sheet_def.specs.Totals.{capped}
use Rattle.sheet_def.specs.Sentences.{EndsJoined}
use Rattle.visit_def.specs.Results.{Visits}
use Rattle.visit_def.specs.Visits.{without, is_listed, LeastCost, Ordered, AllLeast}

-- A refusal hands over its number and zeros.
abbrev pub no_visits : ℕ → Visits
no_visits f = record { number = f; count = 0; streams = replicate max_streams 0; costs = replicate max_streams 0 }

-- Of a plant that is read: 19 where no balanced flow lies within all ranges; else the list by the least costs.
pub record VisitsFor (p : Plant) (r : Visits) : Type 0 where
  pub unbalanced : ((ys : List ℤ) → allowed p ys ≡ false) → r ≡ no_visits 19
  pub listed : (ys : List ℤ) → allowed p ys ≡ true → (costs : ℕ → ℕ) × AllLeast p costs × Ordered p costs r

-- The call: the file's refusals, 3 to 12 and 18, come first.
abbrev pub VisitsSays : List ℕ → Visits → Type 0
VisitsSays file = ReadAs no_visits VisitsFor (read_plant file)

-- The same of what was read.
abbrev pub VisitsWith : Got → Visits → Type 0
VisitsWith = ReadAs no_visits VisitsFor

-- What is promised of every list.
pub record MetersWorthAVisit : Type 0 where
  -- A plant that has a sheet has one without any of its meters, so that no entry is refused; and no entry is above the sheet's cost.
  pub feasible : (p : Plant) (k : ℕ) (xs : List ℤ) → allowed p xs ≡ true → allowed (without p k) xs ≡ true
  pub some : (file : List ℕ) (p : Plant) → read_plant file ≡ got p → (xs : List ℤ) → allowed p xs ≡ true
      → (k : ℕ) → k < length p.streams → (ys : List ℤ) × Cheapest (without p k) ys
  pub not_above : (p : Plant) (k : ℕ) (xs : List ℤ) (c : ℕ) → Cheapest p xs → LeastCost (without p k) c → c ≤ capped (cost p.streams xs)
  -- The streams listed are the A streams: metered, and no chain of unmetered streams joins their ends.
  pub which : (file : List ℕ) (p : Plant) → read_plant file ≡ got p → (k : ℕ) → k < length p.streams
      → (is_listed p k ≡ true) ↔ (((stream_at p.streams k).metered ≡ true) × (EndsJoined p k → ⊥))
  -- There is one least cost alone.
  pub one : (p : Plant) (c d : ℕ) → LeastCost p c → LeastCost p d → c ≡ d
  -- A list by costs holds A streams alone, each once, in the order of their costs, equals by their numbers; and it is one.
  pub stands : (p : Plant) (costs : ℕ → ℕ) (r : Visits) → length p.streams ≤ max_streams → Ordered p costs r → (i : ℕ) → i < r.count
      → (k : ℕ) × (k < length p.streams) × (is_listed p k ≡ true) × (get_or r.streams i 0 ≡ suc k) × (get_or r.costs i 0 ≡ costs k)
  pub in_order : (p : Plant) (costs : ℕ → ℕ) (r : Visits) → length p.streams ≤ max_streams → Ordered p costs r → (i j : ℕ) → i < j → j < r.count
      → (get_or r.costs i 0 < get_or r.costs j 0) ⊎ ((get_or r.costs i 0 ≡ get_or r.costs j 0) × (get_or r.streams i 0 < get_or r.streams j 0))
  -- What the call hands over follows from the file.
  pub only : (file : List ℕ) (r r' : Visits) → VisitsSays file r → VisitsSays file r' → r ≡ r'
