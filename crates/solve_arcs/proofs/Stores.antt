-- What a store to the margins of one stream changes.
use mathlib.Core.Path.{◌≡◌, refl, sym, ◌∙◌, ap}
use mathlib.Core.Bool.{Bool, true, false, ◌&&◌}
use mathlib.Core.List.{List}
use Prim.Native.Nat.{ℕ, ◌+◌, ◌*◌, ◌≤◌, ◌<◌}
use native.Mathlib.Omega.{arith}
use native.Mathlib.Decide.{ℕ_discrete, dec_le}
use borrow.Author.Tests.{lt-ltb, le-ltb}
use lib.Dec.{ltb}
use lib.ListN.{length, get_or, set, length-set}
use lib.Seq.{get_or-set_same, get_or-set_other}
use Rattle.num_bytes.specs.Choice.{pick}
use Rattle.num_bytes.proofs.Tests.{clash, and_none, pick_same}
use Rattle.plant_def.specs.Limits.{max_streams}
use Rattle.solve_arcs.specs.Cells.{arc_of, margin_cells}
use Rattle.solve_arcs.specs.Margins.{margin_at, shut, spared}
use Rattle.solve_arcs.specs.ArcNeeds.{Margined}

module _ (i a b : ℕ) (ms : List ℕ) (low : i < max_streams) (long : length ms ≡ margin_cells) where
  -- Both margins of stream i stored.
  abbrev pub put : List ℕ
  put = set (set ms (2 * i + 1) a) (2 * i) b

  -- As many margins as before.
  pub put_long : length put ≡ margin_cells
  put_long = length-set (set ms (2 * i + 1) a) (2 * i) b ∙ length-set ms (2 * i + 1) a ∙ long

  put_own : (f : Bool) → get_or put (arc_of i f) 0 ≡ pick f a b
  put_own true = get_or-set_other (set ms (2 * i + 1) a) (2 * i) (2 * i + 1) b 0 (λ o. omega arith) ∙ get_or-set_same ms (2 * i + 1) a 0 (omega arith)
  put_own false =
      let e : 2 * i + 0 ≡ 2 * i = omega arith in
      rw e (get_or-set_same (set ms (2 * i + 1) a) (2 * i) b 0 (omega (arith, length-set ms (2 * i + 1) a)))

  put_other : (k : ℕ) (f : Bool) → (k ≡ i → ⊥) → get_or put (arc_of k f) 0 ≡ get_or ms (arc_of k f) 0
  put_other k true o =
      get_or-set_other (set ms (2 * i + 1) a) (2 * i) (2 * k + 1) b 0 (λ q. omega arith) ∙ get_or-set_other ms (2 * i + 1) (2 * k + 1) a 0 (λ q. o (omega arith))
  put_other k false o =
      get_or-set_other (set ms (2 * i + 1) a) (2 * i) (2 * k + 0) b 0 (λ q. o (omega arith)) ∙ get_or-set_other ms (2 * i + 1) (2 * k + 0) a 0 (λ q. omega arith)

-- None is left alone before number 0; and one more before the next number.
pub spare_none : (rs : List ℕ) (k : ℕ) → spared rs 0 k ≡ false
spare_none rs k = rw (le-ltb k 0 (omega arith)) (and_none (ltb 0 (get_or rs (4 * k) 0)))

spare_other : (rs : List ℕ) (i k : ℕ) → (k ≡ i → ⊥) → spared rs (i + 1) k ≡ spared rs i k
spare_other rs i k q = ap (λ (b : Bool). ltb 0 (get_or rs (4 * k) 0) && b) (elim (dec_le k i) [
  | yes l ↦ lt-ltb k (i + 1) (omega arith) ∙ sym (lt-ltb k i (less l))
  | no l ↦ le-ltb k (i + 1) (omega arith) ∙ sym (le-ltb k i (omega arith))
])
  where
    less : k ≤ i → k < i
    less l = elim (dec_le i k) [ yes m ↦ absurd (q (omega arith)) | no m ↦ omega arith ]

-- A metered stream is among those left alone before the next one.
pub spare_own : (rs : List ℕ) (i : ℕ) → 0 < get_or rs (4 * i) 0 → spared rs (i + 1) i ≡ true
spare_own rs i l = rw (lt-ltb 0 (get_or rs (4 * i) 0) l, lt-ltb i (i + 1) (omega arith))

spare_free : (rs : List ℕ) (i skip : ℕ) → get_or rs (4 * i) 0 ≤ 0 → spared rs skip i ≡ false
spare_free rs i skip l = rw (le-ltb 0 (get_or rs (4 * i) 0) l)

-- The margins of one stream more; and those of all, after one amount became x, or one more stream is left alone.
module _ (rs : List ℕ) (d i : ℕ) (ms : List ℕ) (low : i < max_streams) where
  own : (x : ℕ) (f : Bool) → pick f (margin_at rs true i x d) (margin_at rs false i x d) ≡ margin_at rs f i x d
  own x true = refl
  own x false = refl

  -- No stream has its margins yet.
  pub margined_none : (xs : List ℕ) → length ms ≡ margin_cells → Margined 0 rs xs d 0 ms
  margined_none xs h = record { long = h; are = λ k f l. absurd (omega arith); alone = λ k f l. absurd (omega arith) }

  -- One stream more has them.
  pub margined_more : (xs : List ℕ) → Margined i rs xs d 0 ms
      → Margined (i + 1) rs xs d 0 (set (set ms (2 * i + 1) (margin_at rs true i (get_or xs i 0) d)) (2 * i) (margin_at rs false i (get_or xs i 0) d))
  margined_more xs m = record {
    long = put_long i _ _ ms low m.long;
    are = λ k f l o. elim (ℕ_discrete k i) [
      | yes q ↦ rw q (put_own i _ _ ms low m.long f ∙ own (get_or xs i 0) f)
      | no q ↦ put_other i _ _ ms low m.long k f q ∙ m.are k f (omega arith) o
    ];
    alone = λ k f l o. clash _ o (spare_none rs k);
  }

  -- One amount moves, and its margins with it.
  pub margined_moved : (n skip : ℕ) (xs : List ℕ) (x : ℕ) → i < length xs → spared rs skip i ≡ false → Margined n rs xs d skip ms
      → Margined n rs (set xs i x) d skip (set (set ms (2 * i + 1) (margin_at rs true i x d)) (2 * i) (margin_at rs false i x d))
  margined_moved n skip xs x l free m = record {
    long = put_long i _ _ ms low m.long;
    are = λ k f b o. elim (ℕ_discrete k i) [
      | yes q ↦ rw (q, get_or-set_same xs i x 0 l) (put_own i _ _ ms low m.long f ∙ own x f)
      | no q ↦ rw (get_or-set_other xs i k x 0 q) (put_other i _ _ ms low m.long k f q ∙ m.are k f b o)
    ];
    alone = λ k f b o. elim (ℕ_discrete k i) [
      | yes q ↦ clash _ o (rw q free)
      | no q ↦ put_other i _ _ ms low m.long k f q ∙ m.alone k f b o
    ];
  }

  -- The amount of a stream that is left alone does not matter.
  pub margined_own : (n skip : ℕ) (xs : List ℕ) (x : ℕ) → spared rs skip i ≡ true → Margined n rs xs d skip ms → Margined n rs (set xs i x) d skip ms
  margined_own n skip xs x on m = record {
    long = m.long;
    are = λ k f b o. elim (ℕ_discrete k i) [
      | yes q ↦ clash _ (rw q on) o
      | no q ↦ rw (get_or-set_other xs i k x 0 q) (m.are k f b o)
    ];
    alone = m.alone;
  }

  -- A metered stream is left alone.
  pub margined_shut : (n : ℕ) (xs : List ℕ) → 0 < get_or rs (4 * i) 0 → Margined n rs xs d i ms → Margined n rs xs d (i + 1) (set (set ms (2 * i + 1) shut) (2 * i) shut)
  margined_shut n xs l m = record {
    long = put_long i _ _ ms low m.long;
    are = λ k f b o. elim (ℕ_discrete k i) [
      | yes q ↦ clash _ (rw q (spare_own rs i l)) o
      | no q ↦ put_other i _ _ ms low m.long k f q ∙ m.are k f b (sym (spare_other rs i k q) ∙ o)
    ];
    alone = λ k f b o. elim (ℕ_discrete k i) [
      | yes q ↦ rw q (put_own i _ _ ms low m.long f ∙ pick_same f shut)
      | no q ↦ put_other i _ _ ms low m.long k f q ∙ m.alone k f b (sym (spare_other rs i k q) ∙ o)
    ];
  }

  -- An unmetered one never is.
  pub margined_free : (n : ℕ) (xs : List ℕ) → get_or rs (4 * i) 0 ≤ 0 → Margined n rs xs d i ms → Margined n rs xs d (i + 1) ms
  margined_free n xs l m = record {
    long = m.long;
    are = λ k f b o. m.are k f b (sym (same k) ∙ o);
    alone = λ k f b o. m.alone k f b (sym (same k) ∙ o);
  }
    where
      same : (k : ℕ) → spared rs (i + 1) k ≡ spared rs i k
      same k = elim (ℕ_discrete k i) [ yes q ↦ rw q (spare_free rs i (i + 1) l ∙ sym (spare_free rs i i l)) | no q ↦ spare_other rs i k q ]
