-- Nets as they are booked: in range, and the nets of the flow.
use mathlib.Core.Path.{◌≡◌, refl, ◌∙◌}
use mathlib.Core.List.{List}
use lib.IntN.{ℤ, pos, ◌-ℤ◌}
use Prim.Native.Nat.{ℕ, zero, suc, ◌+◌, ◌-◌, ◌*◌, ◌≤◌, ◌<◌}
use native.Mathlib.Omega.{arith}
use borrow.Author.Tests.{eqb-true}
use lib.Dec.{eqb}
use lib.ListN.{length, get_or, set, replicate, length-set, get_or-replicate}
use Rattle.num_bytes.specs.Choice.{pick}
use Rattle.num_bytes.proofs.Tests.{by_cases}
use Rattle.plant_def.specs.declared.Stream.{Stream}
use Rattle.plant_def.specs.Limits.{max_units, places, max_streams}
use Rattle.flow_def.specs.Flows.{stream_at}
use Rattle.num_bytes.proofs.Integers.{up, dn, same, plus_val, minus_val}
use Rattle.num_bytes.proofs.Sums.{sum}
use Rattle.flow_def.proofs.Nets.{brought}
use Rattle.solve_def.specs.Sizes.{flow_shift, most_flow, net_shift, net_room}
use Rattle.solve_def.specs.Held.{unshifted}
use Rattle.solve_def.proofs.Amounts.{unshifted_val, brought_val, get_set}
use Rattle.solve_def.proofs.Elements.{set_each}
use Rattle.solve_def.specs.Model.{left, come, booked, nets_to}
use Rattle.solve_def.specs.SolverNeeds.{Around}

-- A stream between places.
abbrev pub Between : Stream → Type 0
Between s = (s.from ≤ max_units) × (s.to ≤ max_units)

-- At first, after a store near the old value, and with a wider bound.
around_start : Around (replicate places net_shift) 0
around_start = record {
  long = refl;
  low = λ k h. omega (arith, get_or-replicate {A = ℕ} places k net_shift 0 h);
  high = λ k h. omega (arith, get_or-replicate {A = ℕ} places k net_shift 0 h);
}

around_set : {e : List ℕ} {b : ℕ} → Around e b → (u v : ℕ) → u < places → get_or e u 0 ≤ v + most_flow → v ≤ get_or e u 0 + most_flow → Around (set e u v) (b + most_flow)
around_set {e} {b} a u v hu near far = record {
  long = length-set e u v ∙ a.long;
  low = set_each (λ n. net_shift ≤ n + (b + most_flow)) e u v places (rw a.long hu) (omega (arith, a.low u hu)) (λ k h. omega (arith, a.low k h));
  high = set_each (λ n. n ≤ net_shift + (b + most_flow)) e u v places (rw a.long hu) (omega (arith, a.high u hu)) (λ k h. omega (arith, a.high k h));
}

-- Nets of size b at most are of size c at most, where b ≤ c.
pub around_more : {e : List ℕ} {b : ℕ} → Around e b → (c : ℕ) → b ≤ c → Around e c
around_more a c h = record { long = a.long; low = λ k l. omega (arith, a.low k l); high = λ k l. omega (arith, a.high k l) }

-- After an amount leaves a place, and comes to another.
pub left_around : {e : List ℕ} {b : ℕ} → Around e b → b ≤ net_room → (u x : ℕ) → u < places → x ≤ most_flow → Around (left e u x) (b + most_flow)
left_around a hb u x hu hx = around_set a u _ hu (omega (arith, a.low u hu)) (omega (arith, a.low u hu))

booked_around : {e : List ℕ} {b : ℕ} → Around e b → b ≤ net_room → (s : Stream) → Between s → (x : ℕ) → x ≤ most_flow → Around (booked e s x) (b + 2 * most_flow)
booked_around a hb s hs x hx =
    let l = left_around a hb s.from x (omega arith) hx in
    around_more (around_set l s.to _ (omega arith) (omega (arith, l.low s.to (omega arith))) (omega (arith, l.low s.to (omega arith)))) _ (omega arith)

module _ (ss : List Stream) (xs : List ℕ) where
  -- After n streams.
  pub nets_around : (n : ℕ) → n ≤ max_streams → ((k : ℕ) → k < n → Between (stream_at ss k)) → ((k : ℕ) → k < n → get_or xs k 0 ≤ most_flow)
      → Around (nets_to ss xs n) (2 * most_flow * n)
  unfolding nets_to
  nets_around zero h hs hx = around_start
  nets_around (suc n) h hs hx =
      around_more
      (booked_around (nets_around n (omega arith) (λ k l. hs k (omega arith)) (λ k l. hx k (omega arith))) (omega arith) (stream_at ss n) (hs n (omega arith))
      (get_or xs n 0) (hx n (omega arith)))
      _
      (omega arith)

  -- Each place has a net.
  pub nets_long : (n : ℕ) → length (nets_to ss xs n) ≡ places
  unfolding nets_to
  nets_long zero = refl
  nets_long (suc n) =
      length-set (left (nets_to ss xs n) (stream_at ss n).from (get_or xs n 0)) (stream_at ss n).to _
      ∙ length-set (nets_to ss xs n) (stream_at ss n).from _
      ∙ nets_long n

-- A store in the nets, by value.
come_val : (e : List ℕ) (v x u : ℕ) → v < length e → flow_shift ≤ get_or e v 0 + x → get_or (come e v x) u 0 + pick (eqb v u) flow_shift 0 ≡ get_or e u 0 + pick (eqb v u) x 0
come_val e v x u l h =
    rw (get_set e v u (get_or e v 0 + x - flow_shift) 0 l)
    (by_cases (eqb v u) (λ t. let q : v ≡ u = eqb-true v u t in rw (t, ← q) (omega arith)) (λ t. rw t))

left_val : (e : List ℕ) (v x u : ℕ) → v < length e → x ≤ get_or e v 0 + flow_shift → get_or (left e v x) u 0 + pick (eqb v u) x 0 ≡ get_or e u 0 + pick (eqb v u) flow_shift 0
left_val e v x u l h =
    rw (get_set e v u (get_or e v 0 + flow_shift - x) 0 l)
    (by_cases (eqb v u) (λ t. let q : v ≡ u = eqb-true v u t in rw (t, ← q) (omega arith)) (λ t. rw t))

-- The nets as booked are those of the flow.
module _ (ss : List Stream) (xs : List ℕ) where
  -- The net as booked is the net of the flow.
  pub nets_right : (n : ℕ) → n ≤ max_streams → ((k : ℕ) → k < n → Between (stream_at ss k)) → ((k : ℕ) → k < n → get_or xs k 0 ≤ most_flow) → (u : ℕ) → u < places
      → up (sum n (λ k. brought u (stream_at ss k) (unshifted (get_or xs k 0)))) + net_shift
      ≡ get_or (nets_to ss xs n) u 0 + dn (sum n (λ k. brought u (stream_at ss k) (unshifted (get_or xs k 0))))
  unfolding nets_to
  nets_right zero h hs hx u l = omega (arith, get_or-replicate {A = ℕ} places u net_shift 0 l)
  nets_right (suc n) h hs hx u l =
      let s = stream_at ss n in
      let x = get_or xs n 0 in
      let es = nets_to ss xs n in
      let a = nets_around ss xs n (omega arith) (λ k m. hs k (omega arith)) (λ k m. hx k (omega arith)) in
      let p = hs n (omega arith) in
      let b = left_around a (omega arith) s.from x (omega (arith, p.0)) (hx n (omega arith)) in
      omega (
        arith,
        nets_right n (omega arith) (λ k m. hs k (omega arith)) (λ k m. hx k (omega arith)) u l,
        left_val es s.from x u (rw a.long (omega (arith, p.0))) (omega (arith, a.low s.from (omega (arith, p.0)), hx n (omega arith))),
        come_val (left es s.from x) s.to x u (rw b.long (omega (arith, p.1))) (omega (arith, b.low s.to (omega (arith, p.1)))),
        brought_val flow_shift (eqb s.to u) (eqb s.from u) x (unshifted x) (unshifted_val x),
        plus_val (brought u s (unshifted x)) (sum n (λ k. brought u (stream_at ss k) (unshifted (get_or xs k 0)))),
      )

-- A net by value.
pub net_value : (z : ℤ) (e : ℕ) → up z + net_shift ≡ e + dn z → z ≡ pos e -ℤ pos net_shift
net_value z e h = same z (pos e -ℤ pos net_shift) (omega (arith, minus_val (pos e) (pos net_shift)))
