-- The test of the whole (the global test): the cost against a critical value of chi-square at 95 per cent.
use Rattle.std.specs.Prelude.{List, [], ◌∷◌, ℕ, ◌+◌, ◌-◌, ◌*◌, eqb, leb, get_or}
use Rattle.num_bytes.specs.Choice.{pick}

-- Critical values in thousandths, degrees 1 to 32.
abbrev pub critical : List ℕ
critical =
    3841 ∷ 5991 ∷ 7815 ∷ 9488 ∷ 11070 ∷ 12592 ∷ 14067 ∷ 15507
    ∷ 16919 ∷ 18307 ∷ 19675 ∷ 21026 ∷ 22362 ∷ 23685 ∷ 24996 ∷ 26296
    ∷ 27587 ∷ 28869 ∷ 30144 ∷ 31410 ∷ 32671 ∷ 33924 ∷ 35172 ∷ 36415
    ∷ 37652 ∷ 38885 ∷ 40113 ∷ 41337 ∷ 42557 ∷ 43773 ∷ 44985 ∷ 46194 ∷ []

-- The critical value at so many degrees.
abbrev pub critical_at : ℕ → ℕ
critical_at d = get_or critical (d - 1) 0

-- Verdict by degrees d, cost c and the summed weights q of the A streams: 2 (none) at no degrees, 0 (pass) where the cost is at most
-- the critical value, 3 (close) where it is above it and 4 × cost is at most 4 × value + q, else 1 (fail).
abbrev pub verdict_at : ℕ → ℕ → ℕ → ℕ
verdict_at d c q = pick (eqb d 0) 2 (pick (leb c (critical_at d)) 0 (pick (leb (4 * c) (4 * critical_at d + q)) 3 1))
