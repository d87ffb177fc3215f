-- The survey's promise: the counts by number are those of the sets; what the call answers, by what was read; no choice is left.
use mathlib.Core.Path.{◌≡◌, refl, sym, ◌∙◌, ap, subst}
use mathlib.Core.Bool.{Bool, true, false, ◌&&◌}
use mathlib.Core.List.{List, [], ◌∷◌}
use Prim.Native.Nat.{ℕ, zero, suc, ◌^◌, ◌≤◌, ◌<◌}
use native.Mathlib.Omega.{arith}
use borrow.Author.Tests.{ne_eqb, ltb-true, ltb-false}
use lib.Dec.{eqb, ltb}
use lib.ListN.{length, get_or, take, length-replicate, get_or-eq_default}
use lib.Seq.{ext_get_or, length-take-le, get_or-take}
use Rattle.num_bytes.proofs.Tests.{by_cases, same_test}
use Rattle.plant_def.specs.Results.{Read}
use Rattle.plant_def.specs.declared.Stream.{Stream}
use Rattle.plant_def.specs.declared.Plant as Arrays
use Rattle.plant_def.specs.Plants.{Plant, no_stream}
use Rattle.plant_def.specs.Files.{Got, bad, got, read_plant}
use Rattle.plant_def.specs.Within.{Within, Accepted}
use Rattle.plant_def.specs.Says.{plant_of, read_of}
use Rattle.plant_def.proofs.Arrayed.{all_listed, listed_at, within_of, stream_within, read_held}
use Rattle.plant_def.proofs.Found.{found, plant_count}
use Rattle.num_bytes.specs.Sums.{bit, count_to}
use Rattle.num_bytes.proofs.Counts.{count_few}
use Rattle.survey_def.specs.Results.{Layouts}
use Rattle.survey_def.specs.Layouts.{size, sets_of, Counted}
use Rattle.survey_def.specs.Says.{max_surveyed, survey_size, refused_with, Surveyed, SurveySays, OneSurvey}
use Rattle.survey_def.specs.Inner.{each_meets, ones, count_below, Few}
use Rattle.survey_def.proofs.Deciding.{each_joins, decides}
use Rattle.survey_def.proofs.Masks.{sets_below}
use Rattle.survey_def.proofs.Turns.{few_long, few_at}

-- The count of the sets, from the count of the numbers.
pub counted : (p : Plant) → Within p → (k c : ℕ) → c ≡ count_below p.streams k (2 ^ length p.streams) → Counted p k c
counted p w k c e = record {
  test = λ set. each_joins set p.streams;
  tells = decides p w;
  counts = e ∙ sym (sets_below p.streams k);
}

-- No set of n streams has more than n.
count_none : (n : ℕ) (f : ℕ → Bool) → ((k : ℕ) → f k ≡ false) → count_to n f ≡ 0
count_none zero f e = refl
count_none (suc n) f e = rw (e n) (omega (arith, count_none n f e))

below_none : (ss : List Stream) (k top : ℕ) → length ss < k → count_below ss k top ≡ 0
below_none ss k top h =
    count_none top (λ m. eqb (ones (length ss) m) k && each_meets m ss)
    (λ m. rw (ne_eqb (ones (length ss) m) k (λ e. omega (arith, count_few (length ss) (λ j. bit j m)))) refl)

-- A survey with these counts.
pub surveyed_by : (p : Plant) → Within p → (r : Layouts) → r.number ≡ 0 → r.count ≡ length p.streams → length r.counts ≡ survey_size
    → ((k : ℕ) → k < survey_size → get_or r.counts k 0 ≡ count_below p.streams k (2 ^ length p.streams))
    → length p.streams ≤ max_surveyed → Surveyed p r
surveyed_by p w r n c l h few = record {
  number = n;
  count = c;
  long = l;
  each = λ k b. counted p w k (get_or r.counts k 0) (h k (omega arith));
  past = λ k b. by_cases (ltb k survey_size)
      (λ t. h k (ltb-true k survey_size t) ∙ below_none p.streams k (2 ^ length p.streams) b)
      (λ t. get_or-eq_default r.counts 0 (rw l (ltb-false k survey_size t)));
}

-- A plant in its array: its first streams, and its survey by their counts.
module _ (p : Arrays.Plant) (a : Accepted p) (few : p.count ≤ max_surveyed) where
  -- Its first streams, as many as are surveyed, are within the limits of a plant.
  pub few_of : Few p.count (take max_surveyed p.streams)
  few_of = record {
    few = few;
    long = length-take-le max_surveyed p.streams (omega (arith, a.long));
    each = λ k l. rw (get_or-take max_surveyed p.streams k no_stream (omega arith)) (stream_within p a k l);
  }

  same_streams : take p.count (take max_surveyed p.streams) ≡ (plant_of p).streams
  same_streams =
      ext_get_or no_stream (take p.count (take max_surveyed p.streams)) (plant_of p).streams
      (few_long p.count (take max_surveyed p.streams) few_of ∙ sym (all_listed p a))
      (λ k l.
      let h : k < p.count = rw (few_long p.count (take max_surveyed p.streams) few_of) at l in
      few_at p.count (take max_surveyed p.streams) few_of k h ∙ get_or-take max_surveyed p.streams k no_stream (omega arith) ∙ sym (listed_at p a k h))

  -- Counts that are right for each k are the survey.
  pub plant_surveyed : (ss : List Stream) → ss ≡ take max_surveyed p.streams → (counts : List ℕ)
      → (length counts ≡ survey_size) × ((k : ℕ) → k < survey_size → get_or counts k 0 ≡ count_below (take p.count ss) k (2 ^ p.count))
      → Surveyed (plant_of p) (record { number = 0; count = p.count; counts = counts })
  plant_surveyed ss e counts t =
      surveyed_by (plant_of p) (within_of p a) (record { number = 0; count = p.count; counts = counts }) refl (sym (all_listed p a)) t.0
      (λ k l. t.1 k l ∙ ap (λ (x : List Stream). count_below x k (2 ^ p.count)) (ap (take p.count) e ∙ same_streams)
      ∙ ap (λ (n : ℕ). count_below (plant_of p).streams k (2 ^ n)) (sym (all_listed p a)))
      (rw (all_listed p a) few)

-- What the call answers, by what the reader handed over.
got_bad : {p : Plant} {f : ℕ} {A : Type 0} → got p ≡ bad f → A
got_bad e = let z : ◌≡◌ {A = ℕ} 0 1 = cc in absurd (omega arith)

module _ (file : List ℕ) (y : Read) (e : y ≡ read_of (read_plant file)) (n : y.number ≡ 0) where
  the_plant : (p : Plant) → read_plant file ≡ got p → p ≡ (found file y e n).0
  the_plant p q = same (sym q ∙ (found file y e n).1)
    where
      same : {p q : Plant} → got p ≡ got q → p ≡ q
      same e = cc

  the_count : (p : Plant) → read_plant file ≡ got p → length p.streams ≡ y.plant.count
  the_count p q = ap (λ (x : Plant). length x.streams) (the_plant p q) ∙ sym (plant_count file y e n)

  -- The survey of a plant that is read.
  pub says_surveyed : y.plant.count ≤ max_surveyed → (r : Layouts) → Surveyed (plant_of y.plant) r → SurveySays file r
  says_surveyed m r s = record {
    unread = λ f q. got_bad (sym (found file y e n).1 ∙ q);
    too_many = λ p q h. absurd (omega (arith, the_count p q));
    surveyed = λ p q h. subst (λ (x : Plant). Surveyed x r) (ap plant_of (found file y e n).2 ∙ read_held file (found file y e n).0 (found file y e n).1 ∙ sym (the_plant p q)) s;
  }

-- Tests that agree count alike, so there is one count.
sets_same : (n : ℕ) (f g : List Bool → Bool) → ((set : List Bool) → f set ≡ g set) → sets_of n f ≡ sets_of n g
sets_same zero f g e = rw (e [])
sets_same (suc n) f g e =
    rw (
      sets_same n (λ set. f (true ∷ set)) (λ set. g (true ∷ set)) (λ set. e (true ∷ set)),
      sets_same n (λ set. f (false ∷ set)) (λ set. g (false ∷ set)) (λ set. e (false ∷ set)),
    )

-- No two counts are right.
pub one_count : (p : Plant) (k c d : ℕ) → Counted p k c → Counted p k d → c ≡ d
one_count p k c d x y =
    x.counts
    ∙ sets_same (length p.streams) (λ set. eqb (size set) k && x.test set) (λ set. eqb (size set) k && y.test set)
    (λ set. ap (λ (b : Bool). eqb (size set) k && b) (same_test (x.test set) (y.test set) (λ e. (y.tells set).1 ((x.tells set).0 e)) (λ e. (x.tells set).1 ((y.tells set).0 e))))
    ∙ sym y.counts

-- No two surveys are.
pub one_plant : (p : Plant) (r s : Layouts) → Surveyed p r → Surveyed p s → r ≡ s
one_plant p r s x y = λ i. record { number = (x.number ∙ sym y.number) i; count = (x.count ∙ sym y.count) i; counts = counts i }
  where
    at : (k : ℕ) → get_or r.counts k 0 ≡ get_or s.counts k 0
    at k = by_cases (ltb (length p.streams) k)
        (λ t. let b = ltb-true (length p.streams) k t in x.past k b ∙ sym (y.past k b))
        (λ t. let b = ltb-false (length p.streams) k t in one_count p k _ _ (x.each k b) (y.each k b))

    counts : r.counts ≡ s.counts
    counts = ext_get_or 0 r.counts s.counts (x.long ∙ sym y.long) (λ k l. at k)

-- No choice is left.
pub one_survey : OneSurvey
one_survey file r s x y = go (read_plant file) refl
  where
    go : (g : Got) → read_plant file ≡ g → r ≡ s
    go (bad f) e = x.unread f e ∙ sym (y.unread f e)
    go (got p) e =
        by_cases (ltb max_surveyed (length p.streams))
        (λ t. let m = ltb-true max_surveyed (length p.streams) t in x.too_many p e m ∙ sym (y.too_many p e m))
        (λ t. let m = ltb-false max_surveyed (length p.streams) t in one_plant p r s (x.surveyed p e m) (y.surveyed p e m))

-- A survey fits its array.
pub survey_fits : (file : List ℕ) (r : Layouts) → SurveySays file r → (r.count ≤ max_surveyed) × (length r.counts ≡ survey_size)
survey_fits file r x = go (read_plant file) refl
  where
    none : (f : ℕ) → r ≡ refused_with f → (r.count ≤ max_surveyed) × (length r.counts ≡ survey_size)
    none f e = rw e (omega arith, length-replicate {A = ℕ} survey_size 0)

    go : (g : Got) → read_plant file ≡ g → (r.count ≤ max_surveyed) × (length r.counts ≡ survey_size)
    go (bad f) e = none f (x.unread f e)
    go (got p) e =
        by_cases (ltb max_surveyed (length p.streams))
        (λ t. none 23 (x.too_many p e (ltb-true max_surveyed (length p.streams) t)))
        (λ t. let m = ltb-false max_surveyed (length p.streams) t in let s = x.surveyed p e m in (omega (arith, s.count), s.long))
