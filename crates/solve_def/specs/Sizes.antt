-- Shifts and limits of the numbers that the solver works with, with the inequality that each must meet. Each is stated here and
-- nowhere else in specs/.
use Rattle.std.specs.Prelude.{ℕ, ◌*◌, ◌+◌, ◌-◌}
use Rattle.plant_def.specs.Limits.{max_units, places, max_weight, max_streams}

-- The greatest reading provided for: max_reading ≤ most_reading.
abbrev pub most_reading : ℕ
most_reading = 4000000

-- The greatest size of a range's ends provided for: max_range ≤ most_range.
abbrev pub most_range : ℕ
most_range = 2000000000

-- An amount x is held as x + flow_shift, 2^46: every amount that arises is above −flow_shift and below flow_shift.
abbrev pub flow_shift : ℕ
flow_shift = 70368744177664

-- So a held amount is at most most_flow.
abbrev pub most_flow : ℕ
most_flow = 2 * flow_shift

-- Weight times a held amount. In 64 bits: 2 * most_pull + max_weight * most_step + potential_shift < 2^64.
abbrev pub most_pull : ℕ
most_pull = max_weight * most_flow

-- The greatest step, 2^29: what is moved along a way at once. 2 * most_reading + most_step ≤ 2 * most_range.
abbrev pub most_step : ℕ
most_step = 536870912

-- How often it is halved, down to 1.
abbrev pub halvings : ℕ
halvings = 29

-- The most that is ever over at the places together: what amounts in range bring, and what is moved when amounts are settled anew.
abbrev pub most_excess : ℕ
most_excess = max_streams * (most_range + 2 * most_step)

-- The greatest size of a metered amount that meets the step condition: what the other streams bring in range, and what is over.
abbrev pub metered_room : ℕ
metered_room = max_streams * most_range + most_excess

-- The greatest size of a metered amount that a search allows for, 2^39: metered_room + max_streams ≤ most_amount, for the ties still take 1
-- for each stream.
abbrev pub most_amount : ℕ
most_amount = 549755813888

-- The greatest marginal cost of a step on a metered stream: the potentials at the ends of a stream that can move differ by no more.
abbrev pub most_marginal : ℕ
most_marginal = max_weight * (2 * (most_amount + most_reading) + most_step)

-- A potential p is held as p + potential_shift, 2^57: potentials are at most 0, so a held potential is at most potential_shift.
-- (2 * places + search_rounds) * most_marginal ≤ potential_shift: a search lowers none below 0.
abbrev pub potential_shift : ℕ
potential_shift = 144115188075855872

-- Potentials below this are compressed again after an improvement.
abbrev pub potential_floor : ℕ
potential_floor = potential_shift - places * most_marginal

-- The places that a search may visit after the first.
abbrev pub search_rounds : ℕ
search_rounds = max_units

-- A net z is held as z + net_shift, 2^56: 2 * max_streams * most_flow ≤ net_shift, what all streams together may bring or take.
abbrev pub net_shift : ℕ
net_shift = 72057594037927936

-- The greatest size of a net, where every stream brings or takes as much as it can twice over: net_room + most_flow ≤ net_shift, and in
-- 64 bits places * net_room < 2^64.
abbrev pub net_room : ℕ
net_room = 2 * max_streams * most_flow

-- A distance and a stream's number are held as one: max_streams ≤ numbering.
abbrev pub numbering : ℕ
numbering = 128

-- Every distance of a place that can be reached is below this, 2^56, and a stream that cannot move has it as its reduced cost:
-- (2 * places - 1) * most_marginal < farthest, and in 64 bits 2 * farthest * numbering ≤ 2^64.
abbrev pub farthest : ℕ
farthest = 72057594037927936

-- So no distance with a number is as much.
abbrev pub far : ℕ
far = farthest * numbering

-- Potentials of a hint are at most this, 2^54, below potential_shift: potential_spread ≤ places * most_marginal.
abbrev pub potential_spread : ℕ
potential_spread = 18014398509481984

-- The greatest size of an unmetered amount of a hint, 2^45: (halvings + 1) * most_excess ≤ hint_room.
abbrev pub hint_room : ℕ
hint_room = 35184372088832

-- The summed positive net up to which a hint is of use.
abbrev pub most_tried : ℕ
most_tried = 512

-- The greatest size of an amount at the end: settled_room + max_streams + places * most_step ≤ flow_shift, for an augmentation may
-- take a step from a stream at each place, and the ties still take 1 for each stream.
abbrev pub settled_room : ℕ
settled_room = hint_room + most_excess
