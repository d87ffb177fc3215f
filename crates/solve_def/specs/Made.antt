-- The improvements that are made, and the searches that are stuck, beside the definitions of the solver.
use Rattle.std.specs.Prelude.{List, ℕ, zero, suc, ◌+◌, ◌-◌, ◌/◌, ◌^◌, leb, get_or}
use Rattle.num_bytes.specs.Choice.{pick}
use Rattle.plant_def.specs.declared.Stream.{Stream}
use Rattle.plant_def.specs.Limits.{places}
use Rattle.solve_def.specs.Sizes.{net_shift, most_tried, halvings}
use Rattle.solve_def.specs.declared.Hint.{Hint}
use Rattle.solve_def.specs.declared.State.{State}
use Rattle.solve_def.specs.Model.{improved_at, phase_to, phase, settled, as_hint, no_hint, excess_sum}

-- From place s, of k attempts at step d at most: those that succeed; one that does not ends them.
unfoldable pub made_from : ℕ → List Stream → ℕ → ℕ → State → ℕ
made_from zero ss d s st = 0
made_from (suc k) ss d s st = let r = improved_at ss st d s in pick r.done (suc (made_from k ss d s r.state)) 0

-- From place s, of k attempts at step d at most: 1 where one is stuck, which ends them; else 0.
unfoldable pub stuck_from : ℕ → List Stream → ℕ → ℕ → State → ℕ
stuck_from zero ss d s st = 0
stuck_from (suc k) ss d s st = let r = improved_at ss st d s in pick r.done (stuck_from k ss d s r.state) 1

-- The improvements that are made in a phase, from the first n places.
unfoldable pub made_to : ℕ → List Stream → ℕ → State → ℕ
made_to zero ss d st = 0
made_to (suc n) ss d st =
    let e = phase_to n ss d st in
    made_to n ss d st + pick e.full 0 (made_from ((get_or e.state.nets n 0 - net_shift) / d) ss d n e.state)

-- The searches that are stuck in a phase, from the first n places.
unfoldable pub stuck_to : ℕ → List Stream → ℕ → State → ℕ
stuck_to zero ss d st = 0
stuck_to (suc n) ss d st =
    let e = phase_to n ss d st in
    stuck_to n ss d st + pick e.full 0 (stuck_from ((get_or e.state.nets n 0 - net_shift) / d) ss d n e.state)

-- The improvements that are made in the phases from step 2^n on.
unfoldable pub made_by : ℕ → List Stream → Hint → ℕ
made_by zero ss h = made_to places ss 1 (settled ss h)
made_by (suc n) ss h =
    let e = phase ss (2 ^ suc n) (settled ss h) in
    made_to places ss (2 ^ suc n) (settled ss h) + pick e.full 0 (made_by n ss (as_hint e.state))

-- The searches that are stuck in the phases from step 2^n on.
unfoldable pub stuck_by : ℕ → List Stream → Hint → ℕ
stuck_by zero ss h = stuck_to places ss 1 (settled ss h)
stuck_by (suc n) ss h =
    let e = phase ss (2 ^ suc n) (settled ss h) in
    stuck_to places ss (2 ^ suc n) (settled ss h) + pick e.full 0 (stuck_by n ss (as_hint e.state))

-- The improvements that are made in a call, from amounts settled at a hint.
unfoldable pub made : List Stream → State → ℕ
made ss st = pick (leb (excess_sum st.nets) most_tried) (made_to places ss 1 st) (made_by halvings ss no_hint)

-- The searches that are stuck in a call, from amounts settled at a hint.
unfoldable pub stuck : List Stream → State → ℕ
stuck ss st = pick (leb (excess_sum st.nets) most_tried) (stuck_to places ss 1 st) (stuck_by halvings ss no_hint)
