-- The fringe of a walk, a bit for each place: those to which a code within the limit leads.
use Rattle.std.specs.Prelude.{◌≡◌, true, List, ℕ, ◌/◌, ◌%◌, ◌^◌, ◌≤◌, ◌<◌, ltb, get_or, set}
use Rattle.num_bytes.specs.Choice.{pick}
use Rattle.plant_def.specs.Limits.{places}
use Rattle.num_bytes.specs.Sums.{bit}
use Rattle.solve_def.specs.Sizes.{far, numbering}
use Rattle.solve_def.specs.declared.Spot.{Spot}
use Rattle.solve_def.specs.Near.{code_of, nearest_within}

-- Every place with a code within the limit is in it; other places may be.
pub record Fringe (limit : ℕ) (near : List ℕ) (m : ℕ) : Type 0 where
  pub inside : (h : ℕ) → bit h m ≡ true → h < places
  pub all : (v : ℕ) → v < places → get_or near v 0 < far → get_or near v 0 / numbering ≤ limit → bit v m ≡ true

-- The bit of place v, where distance d over stream i is nearer and within the limit.
abbrev pub fringe_bit : ℕ → List ℕ → ℕ → ℕ → ℕ → ℕ
fringe_bit limit near v d i = pick (ltb (code_of d i) (get_or near v 0)) (pick (ltb limit d) 0 (2 ^ v)) 0

-- The nearest place is taken out of the codes and the fringe; where there is none within the limit, the walk stays where it is.
pub record Stepped (limit : ℕ) (codes : List ℕ) (k : ℕ) (near : List ℕ) (r : Spot) : Type 0 where
  pub place : r.place ≡ nearest_within codes limit
  pub none : r.place ≡ places → r.distance ≡ k
  pub distance : (r.place ≡ places → ⊥) → r.distance ≡ get_or codes r.place 0 / numbering
  pub stream : (r.place ≡ places → ⊥) → r.stream ≡ get_or codes r.place 0 % numbering
  pub taken : (r.place ≡ places → ⊥) → near ≡ set codes r.place far
  pub fringe : (r.place ≡ places → ⊥) → Fringe limit near r.fringe
