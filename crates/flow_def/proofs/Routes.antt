-- Flows along chains: for each chain a flow that takes an amount from its first place to its last, on streams that count.
use mathlib.Core.Path.{◌≡◌, refl, sym, ◌∙◌, ap, ap₂}
use mathlib.Core.Bool.{Bool, true, false}
use mathlib.Core.List.{List}
use lib.IntN.{ℤ, pos, neg_ℤ, ◌+ℤ◌, ◌-ℤ◌, +ℤ_invr, neg_ℤ-+ℤ}
use Prim.Native.Nat.{ℕ, ◌<◌}
use native.Mathlib.Omega.{arith}
use borrow.Author.Tests.{eq-eqb, ne_eqb}
use lib.Dec.{eqb}
use lib.ListN.{length}
use Rattle.num_bytes.specs.Choice.{pick}
use Rattle.num_bytes.proofs.Tests.{clash}
use Rattle.plant_def.specs.declared.Stream.{Stream}
use Rattle.flow_def.specs.Flows.{stream_at}
use Rattle.flow_def.specs.Chains.{Counting, Chain}
use Rattle.num_bytes.proofs.Integers.{canon, Z_diff, plus_four}
use Rattle.num_bytes.proofs.Sums.{sum_same, sum_none, sum_plus, sum_only}
use Rattle.flow_def.proofs.Nets.{brought, net_of}

-- The amount t at one number, of a place or a stream, and nothing at any other.
abbrev pub only : ℕ → ℤ → ℕ → ℤ
only v t u = pick (eqb v u) t (pos 0)

-- The amount at the one number that has it,
pub only_at : (v : ℕ) (t : ℤ) → only v t v ≡ t
only_at v t = rw (eq-eqb v v refl)

-- and 0 at every other.
pub only_off : (v u : ℕ) (t : ℤ) → (v ≡ u → ⊥) → only v t u ≡ pos 0
only_off v u t n = rw (ne_eqb v u n)

pick_plus : (b : Bool) (x y : ℤ) → pick b (x +ℤ y) (pos 0) ≡ pick b x (pos 0) +ℤ pick b y (pos 0)
pick_plus true x y = refl
pick_plus false x y = refl

pick_none : (b : Bool) → pick b (pos 0) (pos 0) ≡ pos 0
pick_none true = refl
pick_none false = refl

only_neg : (v : ℕ) (t : ℤ) (u : ℕ) → only v (neg_ℤ t) u ≡ neg_ℤ (only v t u)
only_neg v t u = go (eqb v u)
  where
    go : (b : Bool) → pick b (neg_ℤ t) (pos 0) ≡ neg_ℤ (pick b t (pos 0))
    go true = refl
    go false = refl

-- What a stream brings: of nothing nothing.
pub brought_none : (u : ℕ) (s : Stream) → brought u s (pos 0) ≡ pos 0
brought_none u s = ap₂ ◌+ℤ◌ (pick_none (eqb s.to u)) (pick_none (eqb s.from u))

-- Of a sum the sum, and at its two ends its amount.
brought_plus : (u : ℕ) (s : Stream) (x y : ℤ) → brought u s (x +ℤ y) ≡ brought u s x +ℤ brought u s y
brought_plus u s x y =
    ap₂ ◌+ℤ◌ (pick_plus (eqb s.to u) x y)
    (ap (λ (z : ℤ). pick (eqb s.from u) z (pos 0)) (neg_ℤ-+ℤ x y) ∙ pick_plus (eqb s.from u) (neg_ℤ x) (neg_ℤ y))
    ∙ plus_four (only s.to x u) (only s.to y u) (only s.from (neg_ℤ x) u) (only s.from (neg_ℤ y) u)

-- What a stream brings a place: its amount at the end, less its amount at the start.
pub brought_ends : (u : ℕ) (s : Stream) (x : ℤ) → brought u s x ≡ only s.to x u -ℤ only s.from x u
brought_ends u s x = ap (λ (z : ℤ). only s.to x u +ℤ z) (only_neg s.from x u)

turned : (f g : ℤ) → neg_ℤ g -ℤ neg_ℤ f ≡ f -ℤ g
turned f g = rw (← canon f, ← canon g) (simp Z_diff (omega arith))

-- Turned round it brings from its end to its start.
pub brought_back : (u : ℕ) (s : Stream) (x : ℤ) → brought u s (neg_ℤ x) ≡ only s.from x u -ℤ only s.to x u
brought_back u s x =
    brought_ends u s (neg_ℤ x)
    ∙ ap₂ ◌-ℤ◌ (only_neg s.to x u) (only_neg s.from x u)
    ∙ turned (only s.from x u) (only s.to x u)

-- With nothing on any stream the net of a place is 0.
pub net_none : (ss : List Stream) (u : ℕ) → net_of ss (λ k. pos 0) u ≡ pos 0
net_none ss u = sum_none (length ss) _ (λ k l. brought_none u (stream_at ss k))

-- What two flows together bring a place is the sum.
pub net_plus : (ss : List Stream) (x y : ℕ → ℤ) (u : ℕ) → net_of ss (λ k. x k +ℤ y k) u ≡ net_of ss x u +ℤ net_of ss y u
net_plus ss x y u =
    sum_same (length ss) _ _ (λ k l. brought_plus u (stream_at ss k) (x k) (y k))
    ∙ sum_plus (length ss) (λ k. brought u (stream_at ss k) (x k)) (λ k. brought u (stream_at ss k) (y k))

-- A flow on stream j alone brings a place what that stream brings it.
pub net_only : (ss : List Stream) (j : ℕ) (t : ℤ) (u : ℕ) → j < length ss → net_of ss (only j t) u ≡ brought u (stream_at ss j) t
net_only ss j t u l =
    sum_only (length ss) j (λ k. brought u (stream_at ss k) (only j t k)) l
    (λ k m n. ap (brought u (stream_at ss k)) (only_off j k t (λ e. n (sym e))) ∙ brought_none u (stream_at ss k))
    ∙ ap (brought u (stream_at ss j)) (only_at j t)

-- The flow x takes t from a to b over streams that count.
pub record Route (counts : Counting) (ss : List Stream) (a b : ℕ) (t : ℤ) (x : ℕ → ℤ) : Type 0 where
  pub net : (u : ℕ) → net_of ss x u ≡ only b t u -ℤ only a t u
  pub off : (k : ℕ) → counts k (stream_at ss k) ≡ false → x k ≡ pos 0

hop : (f g a : ℤ) → f -ℤ a +ℤ (g -ℤ f) ≡ g -ℤ a
hop f g a = rw (← canon f, ← canon g, ← canon a) (simp Z_diff (omega arith))

module _ (counts : Counting) (ss : List Stream) (a : ℕ) (t : ℤ) where
  -- Nothing, from a place to itself.
  pub route_none : Route counts ss a a t (λ k. pos 0)
  route_none = record { net = λ u. net_none ss u ∙ sym (+ℤ_invr (only a t u)); off = λ k n. refl }

  -- One stream that counts more: carrying z it takes t from b to c.
  pub route_more : (b c j : ℕ) (z : ℤ) {x : ℕ → ℤ} → j < length ss → counts j (stream_at ss j) ≡ true
      → ((u : ℕ) → brought u (stream_at ss j) z ≡ only c t u -ℤ only b t u) → Route counts ss a b t x → Route counts ss a c t (λ k. x k +ℤ only j z k)
  route_more b c j z {x} l h e r = record {
    net = λ u. net_plus ss x (only j z) u ∙ ap₂ ◌+ℤ◌ (r.net u) (net_only ss j z u l ∙ e u) ∙ hop (only b t u) (only c t u) (only a t u);
    off = λ k n. ap₂ ◌+ℤ◌ (r.off k n) (only_off j k z (λ q. clash (counts j (stream_at ss j)) h (ap (λ i. counts i (stream_at ss i)) q ∙ n)));
  }

  -- The route of a chain.
  pub route : {b : ℕ} → Chain counts ss a b → (x : ℕ → ℤ) × Route counts ss a b t x
  route Chain.stop = (λ k. pos 0, route_none)
  route (Chain.along j l h c) =
      let s = stream_at ss j in
      let r = route c in
      (λ k. r.0 k +ℤ only j t k, route_more s.from s.to j t l h (λ u. brought_ends u s t) r.1)
  route (Chain.back j l h c) =
      let s = stream_at ss j in
      let r = route c in
      (λ k. r.0 k +ℤ only j (neg_ℤ t) k, route_more s.to s.from j (neg_ℤ t) l h (λ u. brought_back u s t) r.1)
