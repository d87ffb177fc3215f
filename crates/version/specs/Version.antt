-- The version of the part, by semantic versioning, and the number that tells it.
use Rattle.std.specs.Prelude.{ℕ, ◌+◌, ◌*◌}

-- Raised by a change that a caller must follow,
abbrev pub major : ℕ
major = 1

-- by one that adds to what there is,
abbrev pub minor : ℕ
minor = 1

-- and by any other.
abbrev pub patch : ℕ
patch = 0

-- Two digits for each of the last two: 10,000 is 1.0.0.
abbrev pub version : ℕ
version = 10000 * major + 100 * minor + patch
