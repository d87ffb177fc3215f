-- Streams left unmetered in an order: those kept have no loop, and from any value up there are as many of them as can be.
use mathlib.Core.Path.{◌≡◌, refl, sym, ◌∙◌, subst}
use mathlib.Core.Bool.{Bool, true, false, not, ◌&&◌}
use mathlib.Core.List.{List}
use Prim.Native.Nat.{ℕ, zero, suc, ◌+◌, ◌≤◌, ◌<◌}
use native.Mathlib.Omega.{arith}
use native.Mathlib.Decide.{ℕ_discrete, dec_le}
use borrow.Author.Tests.{eqb-false, leb-true, le-leb, not-true}
use lib.Dec.{eqb, leb}
use lib.ListN.{length}
use Rattle.num_bytes.proofs.Tests.{by_cases, clash, and_left, and_right, and_both, same_test}
use Rattle.plant_def.specs.declared.Stream.{Stream}
use Rattle.plant_def.specs.Limits.{max_units}
use Rattle.plant_def.specs.Plants.{Plant}
use Rattle.flow_def.specs.Flows.{stream_at}
use Rattle.flow_def.specs.Chains.{Counting, Chain}
use Rattle.flow_def.specs.Classes.{has, joined_to}
use Rattle.flow_def.proofs.Reach.{Inside, chain_trans, chain_sym, chain_map, joined→chain, chain→joined}
use Rattle.num_bytes.specs.Sums.{count_to}
use Rattle.flow_def.specs.Loops.{but}
use Rattle.num_bytes.proofs.Counts.{one, count_four}
use Rattle.flow_def.proofs.Chains.{Spans, chain_bind}
use Rattle.flow_def.proofs.Ranks.{Free, free_few}

-- Those of value t or more.
abbrev pub from_value : (ℕ → ℕ) → ℕ → Counting → Counting
from_value v t f j s = f j s && leb t (v j)

-- Where fewer streams count there is no loop either.
pub free_fewer : (f g : Counting) (ss : List Stream) → ((k : ℕ) → k < length ss → g k (stream_at ss k) ≡ true → f k (stream_at ss k) ≡ true) → Free f ss → Free g ss
free_fewer f g ss h free i l t c =
    free i l (h i l t)
    (chain_map (λ k b e. and_both (f k (stream_at ss k)) (not (eqb k i)) (h k b (and_left (g k (stream_at ss k)) _ e)) (and_right (g k (stream_at ss k)) _ e)) c)

-- An order of the streams by value, values falling. (goes i j: stream j goes before stream i.)
pub record Ordered (n : ℕ) (goes : ℕ → ℕ → Bool) (v : ℕ → ℕ) (top : ℕ) : Type 0 where
  pub under : (k : ℕ) → k < n → v k < top
  pub distinct : (i j : ℕ) → i < n → j < n → v i ≡ v j → i ≡ j
  pub more : (i j : ℕ) → i < n → j < n → goes i j ≡ true → v i < v j
  pub goes_on : (i j : ℕ) → i < n → j < n → v i < v j → goes i j ≡ true

module _ (p : Plant) (small : p.units ≤ max_units) (w : Inside p.units p.streams) (goes : ℕ → ℕ → Bool) (v : ℕ → ℕ) (top : ℕ)
    (o : Ordered (length p.streams) goes v top) where
  abbrev going : ℕ → Counting
  going i j s = not s.metered && goes i j

  abbrev buys : ℕ → Bool
  buys i = not (stream_at p.streams i).metered && has (stream_at p.streams i).to (joined_to (going i) p (stream_at p.streams i).from)

  -- The streams that are kept unmetered.
  abbrev pub kept : Counting
  kept j s = not s.metered && not (buys j)

  abbrev from : ℕ → ℕ
  from k = (stream_at p.streams k).from

  abbrev to : ℕ → ℕ
  to k = (stream_at p.streams k).to

  -- A kept stream's ends are not joined by those that go before it.
  not_before : (i : ℕ) → kept i (stream_at p.streams i) ≡ true → Chain (going i) p.streams (from i) (to i) → ⊥
  not_before i k c =
      let u = and_left (not (stream_at p.streams i).metered) (not (buys i)) k in
      clash (buys i) (and_both (not (stream_at p.streams i).metered) _ u (chain→joined (going i) p w c))
      (not-true (buys i) (and_right (not (stream_at p.streams i).metered) (not (buys i)) k))

  -- The kept ones of value t or more join the ends of all of value t or more.
  spans : (t d i : ℕ) → i < length p.streams → top ≤ v i + d → t ≤ v i → not (stream_at p.streams i).metered ≡ true
      → Chain (from_value v t kept) p.streams (from i) (to i)
  spans t zero i l h b u = absurd (omega (arith, o.under i l))
  spans t (suc d) i l h b u =
      by_cases (buys i)
      (λ e. chain_bind (λ k m g.
      let more = o.more i k l m (and_right (not (stream_at p.streams k).metered) _ g) in
      spans t d k m (omega arith) (omega arith) (and_left (not (stream_at p.streams k).metered) _ g))
      (joined→chain (going i) p (from i) (to i) (and_right (not (stream_at p.streams i).metered) _ e)))
      (λ e. Chain.along i l (and_both (kept i (stream_at p.streams i)) (leb t (v i)) (and_both (not (stream_at p.streams i).metered) (not (buys i)) u (rw e)) (le-leb t (v i) b)) Chain.stop)

  -- A chain of streams of value t or more passes none of value t, or passes the one in one direction.
  module _ (f : Counting) (t : ℕ) where
    abbrev rest : ℕ → ℕ → Type 0
    rest a b = Chain (from_value v (suc t) f) p.streams a b

    data Through (u : ℕ) : ℕ → Type 0 where
      avoids : {x : ℕ} → rest u x → Through u x
      passes : (m : ℕ) → m < length p.streams → f m (stream_at p.streams m) ≡ true → v m ≡ t → {x : ℕ} → rest u (from m) → rest (to m) x → Through u x
      returns : (m : ℕ) → m < length p.streams → f m (stream_at p.streams m) ≡ true → v m ≡ t → {x : ℕ} → rest u (to m) → rest (from m) x → Through u x

    -- Further on by streams of higher value.
    onward : {u x y : ℕ} → rest x y → Through u x → Through u y
    onward c (avoids a) = avoids (chain_trans a c)
    onward c (passes m l e q a b) = passes m l e q a (chain_trans b c)
    onward c (returns m l e q a b) = returns m l e q a (chain_trans b c)

    same_one : (m k : ℕ) → m < length p.streams → k < length p.streams → v m ≡ t → v k ≡ t → m ≡ k
    same_one m k l b q r = o.distinct m k l b (q ∙ sym r)

    there : {u : ℕ} (k : ℕ) → k < length p.streams → f k (stream_at p.streams k) ≡ true → v k ≡ t → Through u (from k) → Through u (to k)
    there k l e q (avoids a) = passes k l e q a Chain.stop
    there {u} k l e q (passes m b g r a c) = passes k l e q (subst (λ (z : ℕ). rest u (from z)) (same_one m k b l r q) a) Chain.stop
    there {u} k l e q (returns m b g r a c) = avoids (subst (λ (z : ℕ). rest u (to z)) (same_one m k b l r q) a)

    home : {u : ℕ} (k : ℕ) → k < length p.streams → f k (stream_at p.streams k) ≡ true → v k ≡ t → Through u (to k) → Through u (from k)
    home k l e q (avoids a) = returns k l e q a Chain.stop
    home {u} k l e q (returns m b g r a c) = returns k l e q (subst (λ (z : ℕ). rest u (to z)) (same_one m k b l r q) a) Chain.stop
    home {u} k l e q (passes m b g r a c) = avoids (subst (λ (z : ℕ). rest u (from z)) (same_one m k b l r q) a)

    higher : (k : ℕ) → from_value v t f k (stream_at p.streams k) ≡ true → (v k ≡ t → ⊥) → from_value v (suc t) f k (stream_at p.streams k) ≡ true
    higher k e q =
        let b = leb-true t (v k) (and_right (f k (stream_at p.streams k)) _ e) in
        and_both (f k (stream_at p.streams k)) (leb (suc t) (v k)) (and_left (f k (stream_at p.streams k)) _ e) (le-leb (suc t) (v k) (omega arith))

    through : {u x : ℕ} → Chain (from_value v t f) p.streams u x → Through u x
    through Chain.stop = avoids Chain.stop
    through (Chain.along k l e c) = elim (ℕ_discrete (v k) t) [
      | yes q ↦ there k l (and_left (f k (stream_at p.streams k)) _ e) q (through c)
      | no q ↦ onward (Chain.along k l (higher k e q) Chain.stop) (through c)
    ]
    through (Chain.back k l e c) = elim (ℕ_discrete (v k) t) [
      | yes q ↦ home k l (and_left (f k (stream_at p.streams k)) _ e) q (through c)
      | no q ↦ onward (Chain.back k l (higher k e q) Chain.stop) (through c)
    ]

  -- The kept streams have no loop: of the streams of a loop the one of least value would not have been kept.
  module _ (i : ℕ) (l : i < length p.streams) (k_i : kept i (stream_at p.streams i) ≡ true) where
    unmetered_kept : (k : ℕ) → kept k (stream_at p.streams k) ≡ true → not (stream_at p.streams k).metered ≡ true
    unmetered_kept k e = and_left (not (stream_at p.streams k).metered) _ e

    -- Kept streams of value t or more go before a stream of less value.
    go_before : (j t : ℕ) → j < length p.streams → v j < t → {a b : ℕ} → Chain (from_value v t (but i kept)) p.streams a b → Chain (going j) p.streams a b
    go_before j t b h = chain_map (λ k m e.
        let whole = and_left (but i kept k (stream_at p.streams k)) (leb t (v k)) e in
        let value = leb-true t (v k) (and_right (but i kept k (stream_at p.streams k)) (leb t (v k)) e) in
        and_both (not (stream_at p.streams k).metered) (goes j k)
        (unmetered_kept k (and_left (kept k (stream_at p.streams k)) (not (eqb k i)) whole)) (o.goes_on j k b m (omega arith)))

    -- Stream i itself goes before one of less value.
    itself : (j : ℕ) → j < length p.streams → v j < v i → Chain (going j) p.streams (from i) (to i)
    itself j b h = Chain.along i l (and_both (not (stream_at p.streams i).metered) (goes j i) (unmetered_kept i k_i) (o.goes_on j i b l h)) Chain.stop

    -- Stream m of value t, the others of the loop being of higher value.
    at_least : (m t : ℕ) → m < length p.streams → but i kept m (stream_at p.streams m) ≡ true → v m ≡ t
        → Chain (from_value v t (but i kept)) p.streams (from i) (to i)
        → ((v m < v i → Chain (going m) p.streams (from m) (to m))) → ⊥
    at_least m t b e q c f = elim (ℕ_discrete (v i) (v m)) [
      | yes z ↦ absurd (eqb-false m i (not-true (eqb m i) (and_right (kept m (stream_at p.streams m)) (not (eqb m i)) e)) (o.distinct m i b l (sym z)))
      | no z ↦ elim (dec_le (v m) (v i)) [
        | yes h ↦ not_before m (and_left (kept m (stream_at p.streams m)) (not (eqb m i)) e) (f (omega arith))
        | no h ↦ not_before i k_i (go_before i t l (omega arith) c)
      ]
    ]

    no_loop : (d t : ℕ) → top ≤ t + d → Chain (from_value v t (but i kept)) p.streams (from i) (to i) → ⊥
    no_loop zero t h c = not_before i k_i (go_before i t l (omega (arith, o.under i l)) c)
    no_loop (suc d) t h c = go (through (but i kept) t c) (no_loop d (suc t) (omega arith))
      where
        go : Through (but i kept) t (from i) (to i) → (Chain (from_value v (suc t) (but i kept)) p.streams (from i) (to i) → ⊥) → ⊥
        go (Through.avoids a) less = less a
        go (Through.passes m b e q a z) less = at_least m t b e q c
            (λ h. chain_trans (chain_sym (go_before m (suc t) b (omega arith) a)) (chain_trans (itself m b h) (chain_sym (go_before m (suc t) b (omega arith) z))))
        go (Through.returns m b e q a z) less = at_least m t b e q c
            (λ h. chain_trans (go_before m (suc t) b (omega arith) z) (chain_trans (chain_sym (itself m b h)) (go_before m (suc t) b (omega arith) a)))

  -- They have no loop.
  pub kept_free : Free kept p.streams
  kept_free i l e c =
      no_loop i l e top 0 (omega arith)
      (chain_map (λ k m g. and_both (but i kept k (stream_at p.streams k)) (leb 0 (v k)) g (le-leb 0 (v k) (omega arith))) c)

  -- Of the streams bought, no more have value t or more than of any set of unmetered streams that leaves no loop.
  pub buys_few : (others : ℕ → Bool) → ((k : ℕ) → k < length p.streams → others k ≡ true → (stream_at p.streams k).metered ≡ false)
      → Free (λ j s. not s.metered && not (others j)) p.streams → (t : ℕ)
      → count_to (length p.streams) (λ k. buys k && leb t (v k)) ≤ count_to (length p.streams) (λ k. others k && leb t (v k))
  buys_few others unmetered free t =
      let n = length p.streams in
      let m : ℕ → Bool = λ k. not (stream_at p.streams k).metered in
      omega (
        arith,
        free_few p small w max_units refl (from_value v t stay) (from_value v t kept)
            (free_fewer stay (from_value v t stay) p.streams (λ k l e. and_left (stay k (stream_at p.streams k)) (leb t (v k)) e) free) spanned,
        count_four n (λ k. buys k && leb t (v k)) (λ k. (m k && not (buys k)) && leb t (v k)) (λ k. others k && leb t (v k)) (λ k. (m k && not (others k)) && leb t (v k))
            (λ k l. bits (m k) (has (to k) (joined_to (going k) p (from k))) (others k) (leb t (v k)) (λ e. rw (unmetered k l e))),
      )
    where
      stay : Counting
      stay j s = not s.metered && not (others j)

      spanned : Spans (from_value v t stay) (from_value v t kept) p.streams
      spanned k l e =
          spans t top k l (omega arith) (leb-true t (v k) (and_right (stay k (stream_at p.streams k)) (leb t (v k)) e))
          (and_left (not (stream_at p.streams k).metered) _ (and_left (stay k (stream_at p.streams k)) (leb t (v k)) e))

      bits : (u j s h : Bool) → (s ≡ true → u ≡ true) → one ((u && j) && h) + one ((u && not (u && j)) && h) ≤ one (s && h) + one ((u && not s) && h)
      bits true true true true f = omega arith
      bits true true true false f = omega arith
      bits true true false true f = omega arith
      bits true true false false f = omega arith
      bits true false true true f = omega arith
      bits true false true false f = omega arith
      bits true false false true f = omega arith
      bits true false false false f = omega arith
      bits false j s h f = omega arith

  -- It comes to the same whether all unmetered streams that go before join its ends, or those kept.
  pub kept_before : ℕ → Counting
  kept_before i j s = kept j s && goes i j

  -- What goes before a stream joins its ends where what is kept of it does.
  pub joined_kept : (i : ℕ) → i < length p.streams → has (to i) (joined_to (going i) p (from i)) ≡ has (to i) (joined_to (kept_before i) p (from i))
  unfolding kept_before
  joined_kept i l =
      same_test (has (to i) (joined_to (going i) p (from i))) (has (to i) (joined_to (kept_before i) p (from i)))
      (λ e. chain→joined (kept_before i) p w (chain_map narrow (chain_bind spanned (joined→chain (going i) p (from i) (to i) e))))
      (λ e. chain→joined (going i) p w (chain_map wide (joined→chain (kept_before i) p (from i) (to i) e)))
    where
      spanned : Spans (going i) (from_value v (suc (v i)) kept) p.streams
      spanned k m g =
          spans (suc (v i)) top k m (omega arith) (o.more i k l m (and_right (not (stream_at p.streams k).metered) (goes i k) g))
          (and_left (not (stream_at p.streams k).metered) (goes i k) g)

      narrow : (k : ℕ) → k < length p.streams → from_value v (suc (v i)) kept k (stream_at p.streams k) ≡ true → kept k (stream_at p.streams k) && goes i k ≡ true
      narrow k m e =
          and_both (kept k (stream_at p.streams k)) (goes i k) (and_left (kept k (stream_at p.streams k)) _ e)
          (o.goes_on i k l m (leb-true (suc (v i)) (v k) (and_right (kept k (stream_at p.streams k)) _ e)))

      wide : (k : ℕ) → k < length p.streams → kept k (stream_at p.streams k) && goes i k ≡ true → going i k (stream_at p.streams k) ≡ true
      wide k m e =
          and_both (not (stream_at p.streams k).metered) (goes i k)
          (and_left (not (stream_at p.streams k).metered) _ (and_left (kept k (stream_at p.streams k)) (goes i k) e))
          (and_right (kept k (stream_at p.streams k)) (goes i k) e)
