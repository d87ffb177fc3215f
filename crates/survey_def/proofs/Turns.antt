-- What a turn of each loop does: the next bit of a number, the next stream, the next number.
use mathlib.Core.Path.{◌≡◌, refl, sym, ◌∙◌, ap}
use mathlib.Core.Bool.{Bool, true, false, not, ◌&&◌, ◌||◌}
use mathlib.Core.List.{List}
use Prim.Native.Nat.{ℕ, zero, suc, ◌+◌, ◌*◌, ◌/◌, ◌%◌, ◌^◌, ◌≤◌, ◌<◌}
use native.Mathlib.Numerals.{add-one}
use native.Mathlib.Omega.{arith}
use borrow.Author.Tests.{eq-eqb, ne_eqb}
use lib.Dec.{eqb}
use lib.Pow.{shl_exact}
use lib.ListN.{length, get_or, take, set, length-set, replicate, length-replicate, get_or-replicate}
use lib.Seq.{length-take-le, get_or-take, get_or-set_same, get_or-set_other}
use native.Mathlib.Decide.{ℕ_discrete}
use Rattle.plant_def.specs.declared.Stream.{Stream}
use Rattle.plant_def.specs.Limits.{places}
use Rattle.plant_def.specs.Plants.{no_stream}
use Rattle.flow_def.specs.Flows.{stream_at}
use Rattle.flow_def.specs.Groups.{AmongPlaces, StepSays}
use Rattle.flow_def.specs.Labels.{own_numbers, labels_after, one_label}
use Rattle.num_bytes.specs.Sums.{bit}
use Rattle.flow_def.specs.Certificate.{every}
use Rattle.flow_def.proofs.Certified.{every_off}
use Rattle.flow_def.proofs.Labels.{step_none, labels_long}
use Rattle.flow_def.proofs.Grouping.{step_said}
use Rattle.num_bytes.proofs.Counts.{one, count_few}
use Rattle.survey_def.specs.Says.{max_surveyed, survey_size}
use Rattle.survey_def.specs.Inner.{bit_off, meets, each_meets, ones, count_below, Few, Surveyable}

-- The numbers of n bits.
pub top_so : (n : ℕ) → n ≤ max_surveyed → 1 * 2 ^ n % 2 ^ 16 ≡ 2 ^ n
top_so n h = shl_exact 1 n 16 (omega arith) (omega arith) ∙ one_times (2 ^ n)
  where
    one_times : (x : ℕ) → 1 * x ≡ x
    one_times x = omega arith

-- A bit as a number.
pub bit_one : (m j : ℕ) → one (bit j m) ≡ m / 2 ^ j % 2
bit_one m j = go (m / 2 ^ j % 2) (omega arith)
  where
    go : (x : ℕ) → x < 2 → one (eqb x 1) ≡ x
    go zero h = refl
    go (suc zero) h = refl
    go (suc (suc x)) h = absurd (omega arith)

-- The ones of a number, one bit more.
pub ones_more : (n m : ℕ) → ones n m + m / 2 ^ n % 2 ≡ ones (n + 1) m
ones_more n m = rw (add-one n) (omega (arith, bit_one m n))

-- A test of each number below n, one more.
pub every_more : (n : ℕ) (test : ℕ → Bool) → every n test ≡ true → test n ≡ true → every (n + 1) test ≡ true
every_more n test e t = rw (add-one n) (rw (t, e) refl)

-- A bit that is 0.
bit_off_lem : (m j : ℕ) → not (bit j m) ≡ eqb (m / 2 ^ j % 2) 0
bit_off_lem m j = go (m / 2 ^ j % 2) (omega arith)
  where
    go : (x : ℕ) → x < 2 → not (eqb x 1) ≡ eqb x 0
    go zero h = refl
    go (suc zero) h = refl
    go (suc (suc x)) h = absurd (omega arith)

-- The first n of so many streams.
module _ (n : ℕ) (streams : List Stream) (f : Few n streams) where
  -- As many as they are.
  pub few_long : length (take n streams) ≡ n
  few_long = length-take-le n streams (omega (arith, f.few, f.long))

  -- The stream at a place.
  pub few_at : (k : ℕ) → k < n → stream_at (take n streams) k ≡ get_or streams k no_stream
  few_at k l = get_or-take n streams k no_stream l

  -- They are surveyed.
  pub few_surveyed : Surveyable (take n streams)
  few_surveyed = record {
    few = rw few_long f.few;
    each = λ k l. let h : k < n = rw few_long at l in rw (few_at k h) (f.each k h);
  }

-- After j of the streams, each of which joined two groups if it has no meter by the bits of m: the labels.
pub record Passed (ss : List Stream) (m : ℕ) (labels : List ℕ) (j : ℕ) : Type 0 where
  pub grouped : labels ≡ labels_after (bit_off m) ss j
  pub joined : every j (meets m ss) ≡ true

module _ (ss : List Stream) (f : Surveyable ss) (m : ℕ) where
  ends : AmongPlaces ss
  ends k l = let w = f.each k l in (omega (arith, w.from_in), omega (arith, w.to_in))

  -- None is looked at yet.
  pub passed_none : (labels : List ℕ) → labels ≡ own_numbers → Passed ss m labels 0
  passed_none labels e = record { grouped = step_none (bit_off m) ss labels e; joined = refl }

  module _ (labels : List ℕ) (j : ℕ) (g : Passed ss m labels j) where
    -- There is a label for each place.
    pub passed_long : length labels ≡ places
    passed_long = rw g.grouped (labels_long (bit_off m) ss j)

    -- The next stream has no meter, and its ends have one label.
    abbrev closes : Bool
    closes = eqb (m / 2 ^ j % 2) 0 && one_label labels (get_or ss j no_stream).from (get_or ss j no_stream).to

    meets_so : meets m ss j ≡ not closes
    meets_so = rw (← g.grouped, ← bit_off_lem m j) (go (bit j m) (one_label labels (get_or ss j no_stream).from (get_or ss j no_stream).to))
      where
        go : (b o : Bool) → b || not o ≡ not (not b && o)
        go true o = refl
        go false o = refl

    -- A stream closes a loop: the choice does not serve.
    pub passed_closed : j < length ss → closes ≡ true → false ≡ each_meets m ss
    passed_closed h t = sym (every_off (length ss) (meets m ss) j h (meets_so ∙ ap not t))

    -- One stream more, and no loop.
    pub passed_more : j < length ss → closes ≡ false → (next : List ℕ) → StepSays (eqb (m / 2 ^ j % 2) 0) (get_or ss j no_stream) labels next
        → Passed ss m next (j + 1)
    passed_more h t next says = record {
      grouped = step_said (bit_off m) ss ends j (get_or ss j no_stream) labels next (eqb (m / 2 ^ j % 2) 0) h g.grouped refl (sym (bit_off_lem m j)) says;
      joined = every_more j (meets m ss) g.joined (meets_so ∙ ap not t);
    }

-- The numbers below m are counted, by size.
pub record Tallied (ss : List Stream) (counts : List ℕ) (m : ℕ) : Type 0 where
  pub long : length counts ≡ survey_size
  pub each : (k : ℕ) → k < survey_size → get_or counts k 0 ≡ count_below ss k m

-- No number yet.
pub tallied_none : (ss : List Stream) → Tallied ss (replicate survey_size 0) 0
tallied_none ss = record { long = length-replicate {A = ℕ} survey_size 0; each = λ k l. get_or-replicate survey_size k 0 0 l }

module _ (ss : List Stream) (counts : List ℕ) (m : ℕ) (t : Tallied ss counts m) where
  -- No count is above the numbers tried.
  pub tally_most : (k : ℕ) → k < survey_size → get_or counts k 0 ≤ m
  tally_most k l = omega (arith, t.each k l, count_few m (λ m. eqb (ones (length ss) m) k && each_meets m ss))

  -- A number whose choice does not serve.
  pub tallied_not : each_meets m ss ≡ false → Tallied ss counts (m + 1)
  tallied_not e = record { long = t.long; each = λ k l. t.each k l ∙ sym (rw (add-one m) (same k)) }
    where
      no_more : (a : Bool) → one (a && false) ≡ 0
      no_more true = refl
      no_more false = refl

      same : (k : ℕ) → count_below ss k (suc m) ≡ count_below ss k m
      same k = rw e (omega (arith, no_more (eqb (ones (length ss) m) k)))

  -- The number's size is one of the sizes, and it alone has one more.
  pub tallied_one : (k : ℕ) → k < survey_size → k ≡ ones (length ss) m → each_meets m ss ≡ true → Tallied ss (set counts k (get_or counts k 0 + 1)) (m + 1)
  tallied_one k l q e = record {
    long = length-set counts k (get_or counts k 0 + 1) ∙ t.long;
    each = λ j h. elim (ℕ_discrete j k) [
      | yes z ↦ rw z (get_or-set_same counts k (get_or counts k 0 + 1) 0 (rw t.long l) ∙ here)
      | no z ↦ get_or-set_other counts k j (get_or counts k 0 + 1) 0 z ∙ t.each j h ∙ sym (rw (add-one m) (other j z))
    ];
  }
    where
      here : get_or counts k 0 + 1 ≡ count_below ss k (m + 1)
      here = rw (add-one m, e, eq-eqb (ones (length ss) m) k (sym q)) (omega (arith, t.each k l))

      other : (j : ℕ) → (j ≡ k → ⊥) → count_below ss j (suc m) ≡ count_below ss j m
      other j z = rw (ne_eqb (ones (length ss) m) j (λ x. z (sym (q ∙ x)))) (omega arith)
