-- One group or one stream more: the least change, the groups that fall, and what is brought into them.
use Rattle.std.proofs.Common.{◌≡◌, ℕ, zero, suc, ◌+◌, ◌*◌, ◌^◌, ◌<◌, ◌≤◌, Bool, true, false, ◌&&◌, leb, List, length, get_or, take, arith, sym, refl, ap, ◌∙◌, add-one}
use Rattle.std.proofs.lemmas.List.{length-take-le, get_or-take}
use lib.Bits.{bit_or}
use lib.Ieee.{Float, nan, binary64, add, div}
use Rattle.num_bytes.specs.Choice.{pick}
use Rattle.num_bytes.specs.Sums.{bit}
use Rattle.num_bytes.proofs.Lists.{values_at, Written, written_all}
use Rattle.plant_def.specs.Limits.{places}
use Rattle.solve_def.specs.Model.{masked}
use Rattle.solve_def.proofs.Marked.{masked_long}
use Rattle.newton_descend.specs.Nets.{none, highest_to}
use Rattle.newton_descend.specs.Descents.{two}
use Rattle.newton_descend.proofs.Steps.{highest_front}
use Rattle.newton_descend.specs.Guesses.{smaller, lowest_to, halfway_of, set_to, falls, fallen_of, least_into, into_at, into_to, crowded_by, guess_by, marks_of}

-- Before the first group the least is 0;
pub lowest_none : (xs : List Float) → none ≡ lowest_to xs 0
unfolding lowest_to
lowest_none xs = refl

-- with one group more, the smaller of that and its number.
pub lowest_more : (xs : List Float) (n : ℕ) (a b : Float) → a ≡ lowest_to xs n → b ≡ smaller a (get_or xs n nan) → b ≡ lowest_to xs (n + 1)
unfolding lowest_to
lowest_more xs n a b e f = rw (add-one n) (f ∙ ap (λ (x : Float). smaller x (get_or xs n nan)) e)

-- The groups after the first n have no part in it.
pub lowest_front : (xs : List Float) (n k : ℕ) → k ≤ n → lowest_to (take n xs) k ≡ lowest_to xs k
unfolding lowest_to
lowest_front xs n zero h = refl
lowest_front xs n (suc k) h = rw (lowest_front xs n k (omega arith), get_or-take n xs k nan (omega arith))

-- Halfway between both.
pub halfway_is : (ws : List Float) (n : ℕ) (a b : Float) → a ≡ highest_to ws n → b ≡ lowest_to ws n → div binary64 (add binary64 a b) two ≡ halfway_of ws n
halfway_is ws n a b e f = rw (e, f)

-- Before the first number no bit is set;
pub set_none : (test : ℕ → Bool) → 0 ≡ set_to test 0
unfolding set_to
set_none test = refl

-- one number more has its own, where it passes the test.
pub set_more : (test : ℕ → Bool) (n bits own : ℕ) (b : Bool) → bits ≡ set_to test n → own ≡ pick b (2 ^ n) 0 → b ≡ test n → bit_or bits own ≡ set_to test (n + 1)
unfolding set_to
set_more test n bits own b e f g = rw (add-one n, e, f, g)

-- Tests that agree below n have one set.
pub set_same : (f g : ℕ → Bool) (n : ℕ) → ((k : ℕ) → k < n → f k ≡ g k) → set_to f n ≡ set_to g n
unfolding set_to
set_same f g zero h = refl
set_same f g (suc n) h = rw (set_same f g n (λ k l. h k (omega arith)), h n (omega arith))

-- All n groups are looked at.
pub fallen_all : (ws : List Float) (middle : Float) (n bits : ℕ) → middle ≡ halfway_of ws n → bits ≡ set_to (falls ws middle) n → bits ≡ fallen_of ws n
fallen_all ws middle n bits e f = f ∙ ap (λ (m : Float). set_to (falls ws m) n) e

-- The groups after the first n have no part in it.
pub fallen_front : (ws : List Float) (n : ℕ) → n ≤ length ws → fallen_of (take n ws) (length (take n ws)) ≡ fallen_of ws n
fallen_front ws n h =
    let e : n ≤ n = omega arith in
    rw (length-take-le n ws h)
    (set_same (falls (take n ws) (halfway_of (take n ws) n)) (falls ws (halfway_of ws n)) n (λ k l. rw (get_or-take n ws k nan l, highest_front ws n n e, lowest_front ws n n e)))

-- What stream k brings in at least, by whether its ends are in the set.
pub into_is : (es : List ℕ) (ms : List Float) (bits k g h : ℕ) (a b : Bool) (x : Float) → g ≡ get_or es (2 * k) 0 → h ≡ get_or es (2 * k + 1) 0
    → a ≡ bit g bits → b ≡ bit h bits → x ≡ least_into a b (get_or ms (4 * k + 2) nan) (get_or ms (4 * k + 3) nan) → x ≡ into_at es ms bits k
into_is es ms bits k g h a b x p q s t e = e ∙ rw (s, t, p, q)

-- Before the first stream nothing is brought in;
pub into_none : (es : List ℕ) (ms : List Float) (bits : ℕ) → none ≡ into_to es ms bits 0
unfolding into_to
into_none es ms bits = refl

-- one stream more adds its own.
pub into_more : (es : List ℕ) (ms : List Float) (bits k : ℕ) (a x : Float) → a ≡ into_to es ms bits k → x ≡ into_at es ms bits k
    → add binary64 a x ≡ into_to es ms bits (k + 1)
unfolding into_to
into_more es ms bits k a x e f = rw (add-one k, e, f)

module _ (es : List ℕ) (ms : List Float) (count : ℕ) (ws : List Float) (n bits : ℕ) (b : Bool) (e : bits ≡ fallen_of ws n) (f : b ≡ crowded_by es ms count bits) where
  tested : b ≡ crowded_by es ms count (fallen_of ws n)
  tested = f ∙ ap (crowded_by es ms count) e

  -- The set is crowded,
  pub guess_some : b ≡ true → bits ≡ guess_by es ms count ws n
  guess_some t = e ∙ sym (rw (sym tested ∙ t))

  -- or it is not.
  pub guess_none : b ≡ false → 0 ≡ guess_by es ms count ws n
  guess_none t = sym (rw (sym tested ∙ t))

-- A loop has marked the places.
pub marks_all : (bits n : ℕ) {before now : List Bool} → Written false places (λ k x. bit k bits && leb k n) before now places → now ≡ masked n (marks_of bits)
unfolding masked
marks_all bits n h =
    written_all h (masked n (marks_of bits)) (masked_long n (marks_of bits))
    (λ k l. values_at (λ u. get_or (marks_of bits) u false && leb u n) false places k l ∙ ap (λ (b : Bool). b && leb k n) (values_at (λ u. bit u bits) false places k l))
