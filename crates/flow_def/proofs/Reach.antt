-- Reach sets: `joined_to` holds exactly the places that a chain of streams that count joins to its first place.
use mathlib.Core.Path.{◌≡◌, refl, sym, ◌∙◌, ap, subst}
use mathlib.Core.Bool.{Bool, true, false, ◌&&◌, ◌||◌, false≢true}
use mathlib.Core.List.{List, [], ◌∷◌}
use mathlib.Core.Logic.{◌⊎◌, inl, inr, ⊎_elim}
use Prim.Native.Nat.{ℕ, zero, suc, ◌+◌, ◌≤◌, ◌<◌}
use native.Mathlib.Omega.{arith}
use borrow.Author.Tests.{eqb-true, eqb-false, eq-eqb}
use lib.Dec.{eqb}
use lib.ListN.{length}
use Rattle.num_bytes.specs.Choice.{pick}
use Rattle.num_bytes.proofs.Tests.{by_cases, clash, and_left, and_right, or_left, or_right, or_cases, picked}
use Rattle.plant_def.specs.declared.Stream.{Stream}
use Rattle.plant_def.specs.Plants.{Plant}
use Rattle.flow_def.specs.Flows.{stream_at}
use Rattle.flow_def.specs.Classes.{has, including, spread, rounds, joined_to}
use Rattle.flow_def.specs.Chains.{Counting, Chain, stop, along, back}

-- Every stream's ends are among the places 0 to n.
abbrev pub Inside : ℕ → List Stream → Type 0
Inside n ss = (k : ℕ) → k < length ss → ((stream_at ss k).from ≤ n) × ((stream_at ss k).to ≤ n)

-- The places of one list are in the other.
abbrev pub Subset : List ℕ → List ℕ → Type 0
Subset a b = (v : ℕ) → has v a ≡ true → has v b ≡ true

-- How many of the places below n a list holds.
abbrev pub members : ℕ → List ℕ → ℕ
members zero seen = 0
members (suc n) seen = pick (has n seen) 1 0 + members n seen

-- An answer counts once at most.
pub bit_most : (b : Bool) → pick {A = ℕ} b 1 0 ≤ 1
bit_most true = omega arith
bit_most false = omega arith

-- An answer that follows from another counts at least as much.
pub bit_mono : (a b : Bool) → (a ≡ true → b ≡ true) → pick {A = ℕ} a 1 0 ≤ pick b 1 0
bit_mono true b f = rw (f refl) (omega arith)
bit_mono false b f = omega arith

-- A list holds at most n of the numbers below n.
pub members_most : (n : ℕ) (seen : List ℕ) → members n seen ≤ n
members_most zero seen = omega arith
members_most (suc n) seen = omega (arith, bit_most (has n seen), members_most n seen)

members_mono : (n : ℕ) (a b : List ℕ) → Subset a b → members n a ≤ members n b
members_mono zero a b w = omega arith
members_mono (suc n) a b w = omega (arith, bit_mono (has n a) (has n b) (w n), members_mono n a b w)

-- A list that holds all that another holds, and v besides, holds more.
pub members_more : (n v : ℕ) (a b : List ℕ) → Subset a b → v < n → has v a ≡ false → has v b ≡ true → members n a < members n b
members_more zero v a b w l e f = absurd (omega arith)
members_more (suc n) v a b w l e f =
    by_cases (eqb v n) (λ t. here (eqb-true v n t))
    (λ t. omega (arith, bit_mono (has n a) (has n b) (w n), members_more n v a b w (below t) e f))
  where
    here : v ≡ n → members (suc n) a < members (suc n) b
    here q = rw (rw q at e, rw q at f) (omega (arith, members_mono n a b w))

    below : eqb v n ≡ false → v < n
    below t = let z : v ≡ n → ⊥ = eqb-false v n t in omega arith

-- A list with one more place.
pub has_first : (x : ℕ) (ys : List ℕ) → has x (x ∷ ys) ≡ true
has_first x ys = or_left (eqb x x) (has x ys) (eq-eqb x x refl)

including_has : (x : ℕ) (ys : List ℕ) → has x (including x ys) ≡ true
including_has x ys = picked (λ (l : List ℕ). has x l ≡ true) (has x ys) ys (x ∷ ys) (λ t. t) (λ t. has_first x ys)

including_keeps : (x : ℕ) (ys : List ℕ) → Subset ys (including x ys)
including_keeps x ys v e = picked (λ (l : List ℕ). has v l ≡ true) (has x ys) ys (x ∷ ys) (λ t. e) (λ t. or_right (eqb v x) (has v ys) e)

-- Stream numbers counted on from i.
from_here : (i : ℕ) → i + 0 ≡ i
from_here i = omega arith

from_next : (i k : ℕ) → i + suc k ≡ suc i + k
from_next i k = omega arith

from_first : (k : ℕ) → 0 + k ≡ k
from_first k = omega arith

module _ (counts : Counting) where
  -- What one stream brings in.
  abbrev turn : ℕ → Stream → List ℕ → List ℕ
  turn i s seen = pick (counts i s && (has s.from seen || has s.to seen)) (including s.from (including s.to seen)) seen

  turn_keeps : (i : ℕ) (s : Stream) (seen : List ℕ) → Subset seen (turn i s seen)
  turn_keeps i s seen v e =
      picked (λ (l : List ℕ). has v l ≡ true) (counts i s && (has s.from seen || has s.to seen)) _ seen
      (λ t. including_keeps s.from (including s.to seen) v (including_keeps s.to seen v e)) (λ t. e)

  spread_keeps : (i : ℕ) (ss : List Stream) (seen : List ℕ) → Subset seen (spread counts i ss seen)
  spread_keeps i [] seen v e = e
  spread_keeps i (s ∷ ss) seen v e = spread_keeps (suc i) ss (turn i s seen) v (turn_keeps i s seen v e)

  rounds_keep : (l : ℕ) (ss : List Stream) (seen : List ℕ) → Subset seen (rounds l counts ss seen)
  rounds_keep zero ss seen v e = e
  rounds_keep (suc l) ss seen v e = rounds_keep l ss (spread counts 0 ss seen) v (spread_keeps 0 ss seen v e)

  -- A stream has both ends in a list, or neither.
  abbrev Level : List ℕ → ℕ → Stream → Type 0
  Level seen i s = counts i s ≡ true → has s.from seen ≡ has s.to seen

  -- A stream changes nothing and is level, or the list holds more places.
  turn_cases : (n i : ℕ) (s : Stream) (seen : List ℕ) → (s.from ≤ n) × (s.to ≤ n)
      → ((turn i s seen ≡ seen) × Level seen i s) ⊎ (members (suc n) seen < members (suc n) (turn i s seen))
  turn_cases n i s seen w = go (counts i s) (has s.from seen) (has s.to seen) refl refl refl
    where
      go : (b f t : Bool) → counts i s ≡ b → has s.from seen ≡ f → has s.to seen ≡ t
          → ((turn i s seen ≡ seen) × Level seen i s) ⊎ (members (suc n) seen < members (suc n) (turn i s seen))
      go false f t b-is f-is t-is = inl (simp b-is, λ c. clash (counts i s) c b-is)
      go true true true b-is f-is t-is = inl (simp (b-is, f-is, t-is), λ c. f-is ∙ sym t-is)
      go true false false b-is f-is t-is = inl (simp (b-is, f-is, t-is), λ c. f-is ∙ sym t-is)
      go true true false b-is f-is t-is =
          inr (members_more (suc n) s.to seen (turn i s seen) (turn_keeps i s seen) (omega arith) t-is
          (simp (b-is, f-is) (including_keeps s.from (including s.to seen) s.to (including_has s.to seen))))
      go true false true b-is f-is t-is =
          inr (members_more (suc n) s.from seen (turn i s seen) (turn_keeps i s seen) (omega arith) f-is
          (simp (b-is, f-is, t-is) (has_first s.from [])))

  -- So does a round.
  abbrev AllLevel : List ℕ → ℕ → List Stream → Type 0
  AllLevel seen i ss = (k : ℕ) → k < length ss → Level seen (i + k) (stream_at ss k)

  round_cases : (n i : ℕ) (ss : List Stream) (seen : List ℕ) → Inside n ss
      → ((spread counts i ss seen ≡ seen) × AllLevel seen i ss) ⊎ (members (suc n) seen < members (suc n) (spread counts i ss seen))
  round_cases n i [] seen w = inl (refl, λ k l. absurd (omega arith))
  round_cases n i (s ∷ ss) seen w = go (turn_cases n i s seen (w 0 (omega arith))) (round_cases n (suc i) ss seen (λ k l. w (suc k) (omega arith)))
    where
      both : Level seen i s → AllLevel seen (suc i) ss → AllLevel seen i (s ∷ ss)
      both a b zero l = rw (from_here i) a
      both a b (suc k) l = rw (from_next i k) (b k (omega arith))

      go : ((turn i s seen ≡ seen) × Level seen i s) ⊎ (members (suc n) seen < members (suc n) (turn i s seen))
          → ((spread counts (suc i) ss seen ≡ seen) × AllLevel seen (suc i) ss) ⊎ (members (suc n) seen < members (suc n) (spread counts (suc i) ss seen))
          → ((spread counts i (s ∷ ss) seen ≡ seen) × AllLevel seen i (s ∷ ss)) ⊎ (members (suc n) seen < members (suc n) (spread counts i (s ∷ ss) seen))
      go (inl a) (inl b) = inl (rw a.0 b.0, both a.1 b.1)
      go (inl a) (inr b) = inr (rw a.0 b)
      go (inr a) b = inr (omega (arith, members_mono (suc n) (turn i s seen) (spread counts (suc i) ss (turn i s seen)) (spread_keeps (suc i) ss (turn i s seen))))

  rounds_still : (l : ℕ) (ss : List Stream) (seen : List ℕ) → spread counts 0 ss seen ≡ seen → rounds l counts ss seen ≡ seen
  rounds_still zero ss seen e = refl
  rounds_still (suc l) ss seen e = ap (rounds l counts ss) e ∙ rounds_still l ss seen e

  -- There are n + 1 places and each round that changes anything brings in one: as many rounds are enough.
  rounds_closed : (n l : ℕ) (ss : List Stream) (seen : List ℕ) → Inside n ss → suc n ≤ l + members (suc n) seen
      → AllLevel (rounds l counts ss seen) 0 ss
  rounds_closed n zero ss seen w h =
      ⊎_elim (λ a. a.1) (λ a. absurd (omega (arith, a, members_most (suc n) (spread counts 0 ss seen)))) (round_cases n 0 ss seen w)
  rounds_closed n (suc l) ss seen w h =
      ⊎_elim (λ a. subst (λ (z : List ℕ). AllLevel z 0 ss) (sym (rounds_still (suc l) ss seen a.0)) a.1)
      (λ (a : members (suc n) seen < members (suc n) (spread counts 0 ss seen)). rounds_closed n l ss (spread counts 0 ss seen) w (omega arith))
      (round_cases n 0 ss seen w)

  -- `joined_to` is closed under the streams that count.
  pub joined_closed : (p : Plant) → Inside p.units p.streams → (u k : ℕ) → k < length p.streams → counts k (stream_at p.streams k) ≡ true
      → has (stream_at p.streams k).from (joined_to counts p u) ≡ has (stream_at p.streams k).to (joined_to counts p u)
  joined_closed p w u k l c = rounds_closed p.units (suc p.units) p.streams (u ∷ []) w (omega arith) k l (rw (from_first k) c)

  -- A place is joined to itself.
  pub joined_self : (p : Plant) (u : ℕ) → has u (joined_to counts p u) ≡ true
  joined_self p u = rounds_keep (suc p.units) p.streams (u ∷ []) u (has_first u [])

-- Two chains, one after the other, are a chain.
pub chain_trans : {counts : Counting} {ss : List Stream} {u v w : ℕ} → Chain counts ss u v → Chain counts ss v w → Chain counts ss u w
chain_trans c stop = c
chain_trans c (along k l h d) = along k l h (chain_trans c d)
chain_trans c (back k l h d) = back k l h (chain_trans c d)

-- A chain leads both ways.
pub chain_sym : {counts : Counting} {ss : List Stream} {u v : ℕ} → Chain counts ss u v → Chain counts ss v u
chain_sym stop = stop
chain_sym (along k l h c) = chain_trans (back k l h stop) (chain_sym c)
chain_sym (back k l h c) = chain_trans (along k l h stop) (chain_sym c)

-- Where more streams count there are more chains.
pub chain_map : {f g : Counting} {ss : List Stream} {u v : ℕ}
    → ((k : ℕ) → k < length ss → f k (stream_at ss k) ≡ true → g k (stream_at ss k) ≡ true) → Chain f ss u v → Chain g ss u v
chain_map more stop = stop
chain_map more (along k l h c) = along k l (more k l h) (chain_map more c)
chain_map more (back k l h c) = back k l (more k l h) (chain_map more c)

-- What each stream that counts hands on, either way, holds of every place brought in.
module _ (P : ℕ → Type 0) (counts : Counting) where
  abbrev HandsOn : ℕ → List Stream → Type 0
  HandsOn i ss =
      (k : ℕ) → k < length ss → counts (i + k) (stream_at ss k) ≡ true
      → (P (stream_at ss k).from → P (stream_at ss k).to) × (P (stream_at ss k).to → P (stream_at ss k).from)

  abbrev Holds : List ℕ → Type 0
  Holds seen = (v : ℕ) → has v seen ≡ true → P v

  holds_cons : (x : ℕ) (ys : List ℕ) → P x → Holds ys → Holds (x ∷ ys)
  holds_cons x ys c h v e = or_cases (eqb v x) (has v ys) e (λ q. rw (eqb-true v x q) c) (h v)

  holds_including : (x : ℕ) (ys : List ℕ) → P x → Holds ys → Holds (including x ys)
  holds_including x ys c h = picked Holds (has x ys) ys (x ∷ ys) (λ t. h) (λ t. holds_cons x ys c h)

  holds_spread : (i : ℕ) (ss : List Stream) (seen : List ℕ) → HandsOn i ss → Holds seen → Holds (spread counts i ss seen)
  holds_spread i [] seen c h = h
  holds_spread i (s ∷ ss) seen c h =
      holds_spread (suc i) ss _ (λ k l t. c (suc k) (omega arith) (rw (from_next i k) t))
      (picked Holds (counts i s && (has s.from seen || has s.to seen)) _ seen brings (λ t. h))
    where
      both : P s.from → P s.to → Holds (including s.from (including s.to seen))
      both a b = holds_including s.from (including s.to seen) a (holds_including s.to seen b h)

      brings : counts i s && (has s.from seen || has s.to seen) ≡ true → Holds (including s.from (including s.to seen))
      brings e =
          let on = c 0 (omega arith) (rw (from_here i) (and_left (counts i s) _ e)) in
          or_cases (has s.from seen) (has s.to seen) (and_right (counts i s) _ e)
          (λ t. both (h s.from t) (on.0 (h s.from t))) (λ t. both (on.1 (h s.to t)) (h s.to t))

  holds_rounds : (l : ℕ) (ss : List Stream) (seen : List ℕ) → HandsOn 0 ss → Holds seen → Holds (rounds l counts ss seen)
  holds_rounds zero ss seen c h = h
  holds_rounds (suc l) ss seen c h = holds_rounds l ss (spread counts 0 ss seen) c (holds_spread 0 ss seen c h)

-- A chain of streams that count leads to each place of the set.
pub joined→chain : (counts : Counting) (p : Plant) (u v : ℕ) → has v (joined_to counts p u) ≡ true → Chain counts p.streams u v
joined→chain counts p u v e =
    holds_rounds (Chain counts p.streams u) counts (suc p.units) p.streams (u ∷ [])
    (λ k l t. (along k l (rw (from_first k) at t), back k l (rw (from_first k) at t)))
    (holds_cons (Chain counts p.streams u) counts u [] stop (λ w z. absurd (false≢true z))) v e

module _ (counts : Counting) (p : Plant) (w : Inside p.units p.streams) where
  -- A place that a chain leads to is in the set.
  pub chain→joined : {u v : ℕ} → Chain counts p.streams u v → has v (joined_to counts p u) ≡ true
  chain→joined {u} stop = joined_self counts p u
  chain→joined {u} (along k l h c) = sym (joined_closed counts p w u k l h) ∙ chain→joined c
  chain→joined {u} (back k l h c) = joined_closed counts p w u k l h ∙ chain→joined c

  -- Being joined is symmetric.
  pub joined_sym : (u v : ℕ) → has v (joined_to counts p u) ≡ true → has u (joined_to counts p v) ≡ true
  joined_sym u v e = chain→joined (chain_sym (joined→chain counts p u v e))
