-- How long a step is: reals as IEEE 754 has them (lib.Ieee), each operation rounded once.
use Rattle.std.specs.Prelude.{ℕ, zero, suc, ◌+◌, ◌%◌, not, List, replicate, ◌==◌, from_bits, Float}
use Rattle.std.specs.Float.{binary64}
use Rattle.std.specs.Float.Ieee.{add, sub, mul, div, lt}
use Rattle.num_bytes.specs.Choice.{pick}
use Rattle.plant_def.specs.Limits.{places}
use Rattle.newton_descend.specs.Nets.{none, product_to, moved_to, nets_to}
use Rattle.newton_descend.specs.declared.descents.Bracket.{Bracket}

-- 1,
abbrev pub one : Float
one = from_bits binary64 4607182418800017408

-- 2,
abbrev pub two : Float
two = from_bits binary64 4611686018427387904

-- and the float of 64 bits nearest to a tenth.
abbrev pub tenth : Float
tenth = from_bits binary64 4591870180066957722

-- The slope after a step of length t: the nets there, times the direction.
unfoldable pub slope_at : List ℕ → List Float → ℕ → List Float → List Float → ℕ → Float → Float
slope_at es ms count ps ws n t = product_to (nets_to es ms (moved_to ps ws t (replicate places none) n) count) ws n

-- A length between two: halfway each third time, else where a straight line has the slope 0.
abbrev pub length_between : Bracket → ℕ → Float
length_between b trial =
    pick (trial % 3 == 2) (div binary64 (add binary64 b.short b.long) two)
    (sub binary64 b.short (div binary64 (mul binary64 (sub binary64 b.long b.short) b.falling) (sub binary64 b.rising b.falling)))

-- The bracket with the slope at t known.
abbrev pub narrowed_by : Bracket → Float → Float → Bracket
narrowed_by b t at =
    pick (lt none at) (record { short = b.short; long = t; falling = b.falling; rising = at })
    (record { short = t; long = b.long; falling = at; rising = b.rising })

-- The bracket after a trial.
abbrev pub tried : (Float → Float) → Bracket → ℕ → Bracket
tried slope b trial = narrowed_by b (length_between b trial) (slope (length_between b trial))

-- The length found with so many trials left: once the slope is within a tenth of what it was at first, else the last.
unfoldable pub length_by : (Float → Float) → Float → ℕ → Bracket → ℕ → Float
length_by slope first zero b trial = b.short
length_by slope first (suc left) b trial =
    pick (lt (mul binary64 tenth first) (tried slope b trial).falling) (tried slope b trial).short
    (length_by slope first left (tried slope b trial) (trial + 1))

-- How often the length of a step is sought.
abbrev pub trials : ℕ
trials = 12

-- How long a step is: 1 where the slope is not above 0 there, else by trials.
abbrev pub step_length : (Float → Float) → Float → Float
step_length slope first =
    pick (not (lt none (slope one))) one
    (length_by slope first trials (record { short = none; long = one; falling = first; rising = slope one }) 0)
