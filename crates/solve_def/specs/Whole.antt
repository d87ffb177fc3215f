-- The whole for a plant: phases, ties, and what is handed over.
use Rattle.std.specs.Prelude.{not, List, ℕ, length}
use Rattle.num_bytes.specs.Choice.{pick}
use Rattle.plant_def.specs.declared.Stream.{Stream}
use Rattle.solve_def.specs.declared.State.{State}
use Rattle.solve_def.specs.declared.Solved.{Solved}
use Rattle.solve_def.specs.Model.{finished, ties_to, masked}
use Rattle.solve_def.specs.Made as Made

-- For a plant of n units, from amounts settled at a hint: a flow with potentials, or a set of places; and how many improvements are made.
unfoldable pub solved_from : ℕ → List Stream → State → Solved
solved_from n ss start =
    let e = finished ss start in
    let st = e.state in
    record {
      found = not e.full;
      flows = pick e.full st.flows (ties_to ss st.potentials (length ss) st.flows);
      potentials = st.potentials;
      marked = masked n e.marked;
      made = Made.made ss start;
    }
