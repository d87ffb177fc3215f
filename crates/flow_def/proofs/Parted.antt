-- The streams that join two groups, by sides: such a stream lies on a loop exactly when its bit is among those of the loops met.
use mathlib.Core.Path.{◌≡◌, refl, sym, ◌∙◌, ap}
use mathlib.Core.Bool.{Bool, true, false, not, ◌&&◌, ◌||◌}
use mathlib.Core.List.{List}
use mathlib.Core.Logic.{◌⊎◌, inl, inr}
use Prim.Native.Nat.{ℕ, suc, ◌≤◌, ◌<◌}
use native.Mathlib.Omega.{arith}
use native.Mathlib.Decide.{ℕ_discrete}
use borrow.Author.Tests.{eqb-false, ne_eqb, ltb-true, not-true}
use lib.Dec.{eqb, ltb}
use lib.ListN.{length, get_or}
use lib.Bits.{bit_or}
use Rattle.num_bytes.proofs.Tests.{by_cases, clash, and_left, and_right, and_both, or_none_left, or_none_right}
use Rattle.plant_def.specs.declared.Stream.{Stream}
use Rattle.plant_def.specs.Limits.{places}
use Rattle.flow_def.specs.Flows.{stream_at}
use Rattle.flow_def.specs.Classes.{unmetered_but}
use Rattle.flow_def.specs.Chains.{Counting, unmetered_only, Chain}
use Rattle.flow_def.specs.Groups.{first_only}
use Rattle.flow_def.proofs.Reach.{chain_trans, chain_sym, chain_map}
use Rattle.num_bytes.specs.Sums.{bit}
use Rattle.flow_def.specs.Sides.{way_between, taken_at}
use Rattle.num_bytes.proofs.Binary.{unlike, alike, unalike, bit_xor_lem, bit_or_lem}

-- What the ends of each stream that counts have in common, the ends of a chain have.
pub chain_level : {counts : Counting} {ss : List Stream} {u v : ℕ} (f : ℕ → Bool)
    → ((j : ℕ) → j < length ss → counts j (stream_at ss j) ≡ true → f (stream_at ss j).from ≡ f (stream_at ss j).to) → Chain counts ss u v → f u ≡ f v
chain_level f e Chain.stop = refl
chain_level f e (Chain.along k l h c) = chain_level f e c ∙ e k l h
chain_level f e (Chain.back k l h c) = chain_level f e c ∙ sym (e k l h)

-- Only the streams other than i count.
abbrev pub but : ℕ → Counting → Counting
but i counts j s = counts j s && not (eqb j i)

-- A chain goes without stream i, or both its ends are joined to ends of stream i without it.
module _ (counts : Counting) (ss : List Stream) (i : ℕ) where
  abbrev Touch : ℕ → Type 0
  Touch u = Chain (but i counts) ss u (stream_at ss i).from ⊎ Chain (but i counts) ss u (stream_at ss i).to

  touch_on : {u v : ℕ} → Chain (but i counts) ss v u → Touch u → Touch v
  touch_on c (inl a) = inl (chain_trans c a)
  touch_on c (inr a) = inr (chain_trans c a)

  abbrev Parts : ℕ → ℕ → Type 0
  Parts u v = Chain (but i counts) ss u v ⊎ (Touch u × Touch v)

  other : (j : ℕ) → (j ≡ i → ⊥) → counts j (stream_at ss j) ≡ true → but i counts j (stream_at ss j) ≡ true
  other j e t = and_both (counts j (stream_at ss j)) _ t (rw (ne_eqb j i e))

  onward : {u v w : ℕ} → Chain (but i counts) ss v w → Parts u v → Parts u w
  onward c (inl a) = inl (chain_trans a c)
  onward c (inr a) = inr (a.0, touch_on (chain_sym c) a.1)

  -- A link by stream i itself.
  meets : {u v w : ℕ} → Parts u v → Chain (but i counts) ss v (stream_at ss i).from ⊎ Chain (but i counts) ss v (stream_at ss i).to
      → Touch w → Parts u w
  meets (inl a) t z = inr (touch_on a t, z)
  meets (inr a) t z = inr (a.0, z)

  from_itself : (k : ℕ) → k ≡ i → Touch (stream_at ss k).from
  from_itself k e = rw e (inl Chain.stop)

  to_itself : (k : ℕ) → k ≡ i → Touch (stream_at ss k).to
  to_itself k e = rw e (inr Chain.stop)

  -- Without stream i the ends of any chain are joined to each other, or both are joined to ends of stream i.
  pub chain_parts : {u v : ℕ} → Chain counts ss u v → Parts u v
  chain_parts Chain.stop = inl Chain.stop
  chain_parts (Chain.along k l h c) = elim (ℕ_discrete k i) [
    | yes e ↦ meets (chain_parts c) (from_itself k e) (to_itself k e)
    | no e ↦ onward (Chain.along k l (other k e h) Chain.stop) (chain_parts c)
  ]
  chain_parts (Chain.back k l h c) = elim (ℕ_discrete k i) [
    | yes e ↦ meets (chain_parts c) (to_itself k e) (from_itself k e)
    | no e ↦ onward (Chain.back k l (other k e h) Chain.stop) (chain_parts c)
  ]

-- A stream is unmetered.
abbrev pub Loose : List Stream → ℕ → Type 0
Loose ss j = (stream_at ss j).metered ≡ false

-- The label of a place.
abbrev pub label : List ℕ → ℕ → ℕ
label ls u = get_or ls u 0

-- Bit h of a place's sides: on which side of the stream that took label h away it lies.
abbrev pub side : List ℕ → ℕ → ℕ → Bool
side sides h u = bit h (get_or sides u 0)

-- Stream i took label h away: its ends are on different sides, those of every other stream passed on one side; or it lies on a loop.
pub record Bridge (ss : List Stream) (k : ℕ) (ls sides : List ℕ) (met i h : ℕ) : Type 0 where
  pub gone : (u : ℕ) → u < places → label ls u ≡ h → ⊥
  pub split : side sides h (stream_at ss i).from ≡ not (side sides h (stream_at ss i).to)
  pub level : bit h met ≡ false → (j : ℕ) → j < k → Loose ss j → (j ≡ i → ⊥)
      → side sides h (stream_at ss j).from ≡ side sides h (stream_at ss j).to
  pub loop : bit h met ≡ true → Chain (unmetered_but i) ss (stream_at ss i).from (stream_at ss i).to

-- What holds of labels, sides and the loops met after k steps.
pub record Parted (ss : List Stream) (k : ℕ) (ls sides : List ℕ) (met : ℕ) : Type 0 where
  pub fresh : (h u v : ℕ) → 1 ≤ h → u < places → label ls u ≡ h → v < places → side sides h v ≡ false
  pub idle : (h u : ℕ) → 1 ≤ h → u < places → label ls u ≡ h → bit h met ≡ false
  pub bridge : (i : ℕ) → i < k → (taken_at ss i ≡ 0 → ⊥) → Bridge ss k ls sides met i (taken_at ss i)

-- A stream that takes a label away is unmetered.
pub taken_loose : (ss : List Stream) (i : ℕ) → (taken_at ss i ≡ 0 → ⊥) → Loose ss i
taken_loose ss i t = by_cases (stream_at ss i).metered (λ m. absurd (t (rw m refl))) (λ m. m)

-- Below k + 1 a number is below k or is k.
pub lower : {A : Type 0} (j k : ℕ) → j < suc k → (j < k → A) → (j ≡ k → A) → A
lower j k l f g = elim (ℕ_discrete j k) [
  | yes e ↦ g e
  | no e ↦ f (omega arith)
]

-- A stream that takes no label away.
module _ (ss : List Stream) (k : ℕ) (ls sides : List ℕ) (met : ℕ) (a : Parted ss k ls sides met) (none : taken_at ss k ≡ 0) where
  earlier : (i : ℕ) → i < suc k → (taken_at ss i ≡ 0 → ⊥) → i < k
  earlier i l t = lower i k l (λ m. m) (λ e. absurd (t (rw e none)))

  -- A metered stream leaves the sides as they are.
  pub part_metered : (stream_at ss k).metered ≡ true → Parted ss (suc k) ls sides met
  part_metered m = record { fresh = a.fresh; idle = a.idle; bridge = λ i l t. more i t (a.bridge i (earlier i l t) t) }
    where
      more : (i : ℕ) → (taken_at ss i ≡ 0 → ⊥) → Bridge ss k ls sides met i (taken_at ss i) → Bridge ss (suc k) ls sides met i (taken_at ss i)
      more i t c = record {
        gone = c.gone;
        split = c.split;
        level = λ q j l loose ne. lower j k l (λ b. c.level q j b loose ne) (λ e. clash (stream_at ss k).metered m (rw e at loose));
        loop = c.loop;
      }

  -- Its ends are joined by earlier ones: whatever lies between them lies on a loop.
  module _ (loose : Loose ss k) (listed : k < length ss) (f_in : (stream_at ss k).from < places) (t_in : (stream_at ss k).to < places)
      (way : Chain (first_only k unmetered_only) ss (stream_at ss k).from (stream_at ss k).to) where
    abbrev f : ℕ
    f = (stream_at ss k).from

    abbrev t : ℕ
    t = (stream_at ss k).to

    abbrev now : ℕ
    now = bit_or met (way_between sides (stream_at ss k))

    way_bit : (h : ℕ) → bit h (way_between sides (stream_at ss k)) ≡ unlike (side sides h f) (side sides h t)
    way_bit h = bit_xor_lem h (get_or sides f 0) (get_or sides t 0)

    now_bit : (h : ℕ) → bit h now ≡ bit h met || unlike (side sides h f) (side sides h t)
    now_bit h = bit_or_lem h met (way_between sides (stream_at ss k)) ∙ ap (λ (b : Bool). bit h met || b) (way_bit h)

    module _ (i : ℕ) (before : i < k) (h : ℕ) (c : Bridge ss k ls sides met i h) where
      -- The way between its ends leads through stream i.
      module _ (q : bit h met ≡ false) (d : side sides h f ≡ side sides h t → ⊥) where
        one_side : {u v : ℕ} → Chain (but i (first_only k unmetered_only)) ss u v → side sides h u ≡ side sides h v
        one_side =
            chain_level (side sides h)
            (λ j l e. let first = and_left (first_only k unmetered_only j (stream_at ss j)) _ e in
            c.level q j (ltb-true j k (and_left (ltb j k) _ first)) (not-true _ (and_right (ltb j k) _ first))
            (eqb-false j i (not-true _ (and_right (first_only k unmetered_only j (stream_at ss j)) _ e))))

        without : {u v : ℕ} → Chain (but i (first_only k unmetered_only)) ss u v → Chain (unmetered_but i) ss u v
        without =
            chain_map
            (λ j l e. and_both (not (stream_at ss j).metered) (not (eqb j i))
            (and_right (ltb j k) _ (and_left (first_only k unmetered_only j (stream_at ss j)) _ e))
            (and_right (first_only k unmetered_only j (stream_at ss j)) _ e))

        here : Chain (unmetered_but i) ss f t
        here = Chain.along k listed (and_both (not (stream_at ss k).metered) (not (eqb k i)) (rw loose) (rw (ne_eqb k i (λ e. omega arith)))) Chain.stop

        through : Parts (first_only k unmetered_only) ss i f t → Chain (unmetered_but i) ss (stream_at ss i).from (stream_at ss i).to
        through (inl z) = absurd (d (one_side z))
        through (inr (inl y, inl z)) = absurd (d (one_side y ∙ sym (one_side z)))
        through (inr (inr y, inr z)) = absurd (d (one_side y ∙ sym (one_side z)))
        through (inr (inl y, inr z)) = chain_trans (chain_sym (without y)) (chain_trans here (without z))
        through (inr (inr y, inl z)) = chain_sym (chain_trans (chain_sym (without y)) (chain_trans here (without z)))

      on_loop_lem : bit h now ≡ true → Chain (unmetered_but i) ss (stream_at ss i).from (stream_at ss i).to
      on_loop_lem e =
          by_cases (bit h met) c.loop
          (λ q. through q (λ same. clash (bit h now) e (now_bit h ∙ rw q (unalike _ _ same))) (chain_parts (first_only k unmetered_only) ss i way))

      more_level : Bridge ss (suc k) ls sides now i h
      more_level = record {
        gone = c.gone;
        split = c.split;
        level = λ q j l lo ne.
            let z : bit h met || unlike (side sides h f) (side sides h t) ≡ false = sym (now_bit h) ∙ q in
            lower j k l (λ b. c.level (or_none_left (bit h met) _ z) j b lo ne)
            (λ e. rw e (alike (side sides h f) (side sides h t) (or_none_right (bit h met) _ z)));
        loop = on_loop_lem;
      }

    -- An unmetered stream whose ends earlier ones join closes a loop: the streams that its ends lie apart by are on it.
    pub part_joined : Parted ss (suc k) ls sides now
    part_joined = record {
      fresh = a.fresh;
      idle = λ h u p l e. now_bit h ∙ rw (a.idle h u p l e, a.fresh h u f p l e f_in, a.fresh h u t p l e t_in);
      bridge = λ i l e. more_level i (earlier i l e) (taken_at ss i) (a.bridge i (earlier i l e) e);
    }
