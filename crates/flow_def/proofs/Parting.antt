-- A stream that joins two groups: how the sides of places change with it.
use mathlib.Core.Path.{◌≡◌, refl, sym, ◌∙◌, ap, subst}
use mathlib.Core.Bool.{Bool, true, false, not}
use mathlib.Core.List.{List}
use mathlib.Core.Logic.{◌⊎◌, ⊎_elim}
use Prim.Native.Nat.{ℕ, suc, ◌≤◌, ◌<◌, ◌^◌}
use native.Mathlib.Omega.{arith}
use borrow.Author.Tests.{eqb-false, eq-eqb, ne_eqb}
use lib.Bits.{bit_xor}
use lib.Dec.{eqb}
use lib.ListN.{length, get_or}
use Rattle.num_bytes.specs.Choice.{pick}
use Rattle.num_bytes.proofs.Tests.{by_cases, clash}
use Rattle.plant_def.specs.declared.Stream.{Stream}
use Rattle.plant_def.specs.Limits.{places}
use Rattle.flow_def.specs.Flows.{stream_at}
use Rattle.flow_def.specs.Labels.{renamed, relabelled}
use Rattle.num_bytes.specs.Sums.{bit}
use Rattle.flow_def.specs.Sides.{way_between, turned, taken_at}
use Rattle.num_bytes.proofs.Lists.{map_at, values_at}
use Rattle.num_bytes.proofs.Binary.{unlike, bit_xor_lem, bit_same, bit_other}
use Rattle.flow_def.proofs.Parted.{Loose, label, side, Bridge, Parted, taken_loose, lower}

-- A bit that changes where a place changes sides.
abbrev flipped : Bool → Bool → Bool → Bool
flipped c x b = pick c (unlike x b) x

flipped_none : (c : Bool) → flipped c false false ≡ false
flipped_none true = refl
flipped_none false = refl

flipped_new : (c : Bool) → flipped c false true ≡ c
flipped_new true = refl
flipped_new false = refl

flipped_not : (c x y b : Bool) → x ≡ not y → flipped c x b ≡ not (flipped c y b)
flipped_not false x y b e = e
flipped_not true x true b e = rw e (not_not b)
  where
    not_not : (b : Bool) → b ≡ not (not b)
    not_not true = refl
    not_not false = refl
flipped_not true x false b e = rw e refl

-- One of two places changes sides, by what they differ in.
flipped_first : (x y : Bool) → flipped true x (unlike (unlike x y) false) ≡ flipped false y (unlike (unlike x y) false)
flipped_first true true = refl
flipped_first true false = refl
flipped_first false true = refl
flipped_first false false = refl

flipped_second : (x y : Bool) → flipped false x (unlike (unlike x y) false) ≡ flipped true y (unlike (unlike x y) false)
flipped_second true true = refl
flipped_second true false = refl
flipped_second false true = refl
flipped_second false false = refl

-- A stream that takes the label hi away, lo being the other one of its ends.
module _ (ss : List Stream) (k : ℕ) (ls sides : List ℕ) (met lo hi : ℕ) (a : Parted ss k ls sides met) (taken : taken_at ss k ≡ hi) (lower_lo : lo < hi)
    (long : length ls ≡ places) (f_in : (stream_at ss k).from < places) (t_in : (stream_at ss k).to < places)
    (ends : ((label ls (stream_at ss k).from ≡ lo) × (label ls (stream_at ss k).to ≡ hi)) ⊎ ((label ls (stream_at ss k).from ≡ hi) × (label ls (stream_at ss k).to ≡ lo)))
    (one : (j : ℕ) → j < k → Loose ss j
    → ((stream_at ss j).from < places) × ((stream_at ss j).to < places) × (label ls (stream_at ss j).from ≡ label ls (stream_at ss j).to)) where
  abbrev f : ℕ
  f = (stream_at ss k).from

  abbrev t : ℕ
  t = (stream_at ss k).to

  abbrev by : ℕ
  by = bit_xor (way_between sides (stream_at ss k)) (2 ^ hi)

  abbrev next : List ℕ
  next = turned hi by ls sides

  by_bit : (h : ℕ) → bit h by ≡ unlike (unlike (side sides h f) (side sides h t)) (bit h (2 ^ hi))
  by_bit h = bit_xor_lem h (way_between sides (stream_at ss k)) (2 ^ hi) ∙ ap (λ (x : Bool). unlike x (bit h (2 ^ hi))) (bit_xor_lem h (get_or sides f 0) (get_or sides t 0))

  side_next : (h u : ℕ) → u < places → side next h u ≡ flipped (eqb (label ls u) hi) (side sides h u) (bit h by)
  side_next h u l =
      ap (bit h) (values_at (λ u. pick (eqb (get_or ls u 0) hi) (bit_xor (get_or sides u 0) by) (get_or sides u 0)) 0 places u l)
      ∙ by_cases (eqb (get_or ls u 0) hi) (λ e. rw e (bit_xor_lem h (get_or sides u 0) by)) (λ e. rw e)

  -- A place that is labelled lo, one that is labelled hi.
  low_end : {A : Type 0} → ((u : ℕ) → u < places → label ls u ≡ lo → A) → A
  low_end g = ⊎_elim (λ e. g f f_in e.0) (λ e. g t t_in e.1) ends

  high_end : {A : Type 0} → ((u : ℕ) → u < places → label ls u ≡ hi → A) → A
  high_end g = ⊎_elim (λ e. g t t_in e.1) (λ e. g f f_in e.0) ends

  -- A label that is left was there before, and is not hi.
  left : {A : Type 0} (h u : ℕ) → u < places → label (relabelled lo hi ls) u ≡ h → ((v : ℕ) → v < places → label ls v ≡ h → (h ≡ hi → ⊥) → A) → A
  left h u l e g =
      let q : renamed lo hi (label ls u) ≡ h = sym (map_at (renamed lo hi) ls u 0 0 (rw long l)) ∙ e in
      by_cases (eqb (label ls u) hi)
      (λ c. let o : lo ≡ h = rw c at q in low_end (λ v m z. g v m (z ∙ o) (λ x. omega arith)))
      (λ c. let o : label ls u ≡ h = rw c at q in g u l o (λ x. eqb-false (label ls u) hi c (o ∙ x)))

  other_bit : (h : ℕ) → (h ≡ hi → ⊥) → bit h by ≡ unlike (unlike (side sides h f) (side sides h t)) false
  other_bit h e = by_bit h ∙ ap (unlike (unlike (side sides h f) (side sides h t))) (bit_other h hi e)

  new_side : (u : ℕ) → u < places → side next hi u ≡ eqb (label ls u) hi
  new_side u l =
      high_end (λ v m e.
      let none : (w : ℕ) → w < places → side sides hi w ≡ false = λ w n. a.fresh hi v w (omega arith) m e n in
      let set : bit hi by ≡ true = by_bit hi ∙ rw (none f f_in, none t t_in, bit_same hi) in
      side_next hi u l ∙ rw (none u l, set) (flipped_new (eqb (label ls u) hi)))

  fresh_next : (h u v : ℕ) → 1 ≤ h → u < places → label (relabelled lo hi ls) u ≡ h → v < places → side next h v ≡ false
  fresh_next h u v p l e m =
      left h u l e (λ w n z o.
      let none : (x : ℕ) → x < places → side sides h x ≡ false = λ x i. a.fresh h w x p n z i in
      let unset : bit h by ≡ false = other_bit h o ∙ rw (none f f_in, none t t_in) in
      side_next h v m ∙ rw (none v m, unset) (flipped_none (eqb (label ls v) hi)))

  -- The stream itself.
  bridge_new : Bridge ss (suc k) (relabelled lo hi ls) next met k hi
  bridge_new = record {
    gone = λ u l e. left hi u l e (λ v m z o. o refl);
    split = new_side f f_in ∙ ⊎_elim (λ e. rw (e.0, e.1, ne_eqb lo hi (λ x. omega arith), eq-eqb hi hi refl))
        (λ e. rw (e.0, e.1, ne_eqb lo hi (λ x. omega arith), eq-eqb hi hi refl)) ends ∙ ap not (sym (new_side t t_in));
    level = λ q j l loose ne. lower j k l
        (λ b. let w = one j b loose in new_side (stream_at ss j).from w.0 ∙ ap (λ (x : ℕ). eqb x hi) w.2 ∙ sym (new_side (stream_at ss j).to w.1))
        (λ e. absurd (ne e));
    loop = λ q. high_end (λ u l e. clash (bit hi met) q (a.idle hi u (omega arith) l e));
  }

  -- The streams before it.
  module _ (i : ℕ) (b : i < k) (loose : Loose ss i) (h : ℕ) (c : Bridge ss k ls sides met i h) where
    not_hi : h ≡ hi → ⊥
    not_hi e = high_end (λ u l z. c.gone u l (z ∙ sym e))

    kept : (j : ℕ) → j < k → Loose ss j → side sides h (stream_at ss j).from ≡ side sides h (stream_at ss j).to
        → side next h (stream_at ss j).from ≡ side next h (stream_at ss j).to
    kept j l lo e =
        let w = one j l lo in
        side_next h (stream_at ss j).from w.0 ∙ rw (w.2, e) refl ∙ sym (side_next h (stream_at ss j).to w.1)

    itself : side next h f ≡ side next h t
    itself =
        let o = other_bit h not_hi in
        let ne : eqb lo hi ≡ false = ne_eqb lo hi (λ x. omega arith) in
        let eq : eqb hi hi ≡ true = eq-eqb hi hi refl in
        side_next h f f_in
        ∙ ⊎_elim (λ e. rw (e.0, e.1, ne, eq, o) (flipped_second (side sides h f) (side sides h t)))
        (λ e. rw (e.0, e.1, ne, eq, o) (flipped_first (side sides h f) (side sides h t))) ends
        ∙ sym (side_next h t t_in)

    bridge_kept : Bridge ss (suc k) (relabelled lo hi ls) next met i h
    bridge_kept = record {
      gone = λ u l e. left h u l e (λ v m z o. c.gone v m z);
      split =
          let w = one i b loose in
          side_next h (stream_at ss i).from w.0
          ∙ rw w.2 (flipped_not (eqb (label ls (stream_at ss i).to) hi) (side sides h (stream_at ss i).from) (side sides h (stream_at ss i).to) (bit h by) c.split)
          ∙ ap not (sym (side_next h (stream_at ss i).to w.1));
      level = λ q j l lo ne. lower j k l (λ m. kept j m lo (c.level q j m lo ne)) (λ e. rw e itself);
      loop = c.loop;
    }

  -- The sides with the joined group turned are those of one stream more.
  pub part_joining : Parted ss (suc k) (relabelled lo hi ls) next met
  part_joining = record {
    fresh = fresh_next;
    idle = λ h u p l e. left h u l e (λ v m z o. a.idle h v p m z);
    bridge = λ i l e. lower i k l (λ b. bridge_kept i b (taken_loose ss i e) (taken_at ss i) (a.bridge i b e))
        (λ q. subst (λ (x : ℕ). Bridge ss (suc k) (relabelled lo hi ls) next met x (taken_at ss x)) (sym q) (rw taken bridge_new));
  }
