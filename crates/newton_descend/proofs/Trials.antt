-- The length of a step, trial by trial.
use Rattle.std.proofs.Common.{◌≡◌, ℕ, zero, suc, ◌+◌, ◌-◌, ◌<◌, true, false, not, List, replicate, refl, arith}
use lib.Ieee.{Float, binary64, mul, lt}
use Rattle.plant_def.specs.Limits.{places}
use Rattle.newton_descend.specs.Nets.{none, product_to, moved_to, nets_to}
use Rattle.newton_descend.specs.Descents.{one, tenth, slope_at, length_between, narrowed_by, tried, length_by, step_length, trials}
use Rattle.newton_descend.specs.declared.descents.Bracket.{Bracket}

-- The slope, by what was moved and the nets there.
pub slope_is : (es : List ℕ) (ms : List Float) (count : ℕ) (ps ws : List Float) (n : ℕ) (t : Float) (there zs : List Float) (r : Float)
    → there ≡ moved_to ps ws t (replicate places none) n → zs ≡ nets_to es ms there count → r ≡ product_to zs ws n → r ≡ slope_at es ms count ps ws n t
unfolding slope_at
slope_is es ms count ps ws n t there zs r a b c = rw (c, b, a)

module _ (slope : Float → Float) (first : Float) where
  -- A bracket with which the trials left find the length that all of them find.
  abbrev pub Tried : Bracket → Bracket → ℕ → Type 0
  Tried start b trial = length_by slope first (trials - trial) b trial ≡ length_by slope first trials start 0

  -- No trial is left.
  pub length_last : (left : ℕ) (b : Bracket) (trial : ℕ) → left ≡ 0 → b.short ≡ length_by slope first left b trial
  unfolding length_by
  length_last zero b trial e = refl
  length_last (suc left) b trial e = absurd (omega arith)

  -- The slope is within a tenth of what it was at first.
  pub length_found : (left : ℕ) (b c : Bracket) (trial : ℕ) → 0 < left → c ≡ tried slope b trial → lt (mul binary64 tenth first) c.falling ≡ true
      → c.short ≡ length_by slope first left b trial
  unfolding length_by
  length_found zero b c trial h e t = absurd (omega arith)
  length_found (suc left) b c trial h e t = rw (← e, t)

  -- One trial more.
  pub length_more : (left : ℕ) (b c : Bracket) (trial : ℕ) → 0 < left → c ≡ tried slope b trial → lt (mul binary64 tenth first) c.falling ≡ false
      → length_by slope first (left - 1) c (trial + 1) ≡ length_by slope first left b trial
  unfolding length_by
  length_more zero b c trial h e t = absurd (omega arith)
  length_more (suc left) b c trial h e t = let z : suc left - 1 ≡ left = omega arith in rw (z, ← e, t)

  -- The bracket after a trial, by its length and the slope there.
  pub tried_is : (b c : Bracket) (trial : ℕ) (t at : Float) → t ≡ length_between b trial → at ≡ slope t → c ≡ narrowed_by b t at → c ≡ tried slope b trial
  tried_is b c trial t at e f g = rw (g, f, e)

  -- The slope w of the whole step is not above 0.
  pub step_whole : (w : Float) → w ≡ slope one → not (lt none w) ≡ true → one ≡ step_length slope first
  step_whole w e h = rw (← e, h)

  -- It is, and a length x was found by trials.
  pub step_tried : (w x : Float) → w ≡ slope one → not (lt none w) ≡ false
      → x ≡ length_by slope first trials (record { short = none; long = one; falling = first; rising = w }) 0 → x ≡ step_length slope first
  step_tried w x e h q = rw (← e, h) q
