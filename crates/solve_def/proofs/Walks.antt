-- A walk by distances visits the places that the search visits, over the same streams, and leaves the same potentials.
use mathlib.Core.Path.{◌≡◌, refl, sym, ◌∙◌}
use mathlib.Core.Bool.{Bool, true, false, not, true≢false, false≢true}
use mathlib.Core.List.{List}
use Prim.Native.Nat.{ℕ, ◌+◌, ◌-◌, ◌*◌, ◌/◌, ◌%◌, ◌≤◌, ◌<◌}
use native.Mathlib.Nat.{div-add-mod, mod-lt}
use native.Mathlib.Omega.{arith}
use native.Mathlib.Decide.{ℕ_discrete}
use lib.ListN.{length, get_or, set, get_or-eq_default}
use lib.Seq.{ext_get_or, get_or-set_same, get_or-set_other}
use Rattle.num_bytes.proofs.Filled.{get_d_any}
use Rattle.plant_def.specs.declared.Stream.{Stream}
use Rattle.plant_def.specs.Limits.{places, max_streams}
use Rattle.flow_def.specs.Flows.{stream_at}
use Rattle.solve_def.specs.Sizes.{numbering, farthest, far}
use Rattle.solve_def.specs.Search.{fallen, lowered_by, far_end}
use Rattle.solve_def.specs.Near.{code_of, nearest_to, fallen_by}
use Rattle.solve_def.proofs.Elements.{lowered_at, lowered_long}
use Rattle.solve_def.proofs.Filling.{fallen_at, fallen_long}
use Rattle.solve_def.proofs.Least.{start_in, end_in}
use Rattle.solve_def.proofs.Nearing.{nearest_is, nearest_least, tail_of, head_of, over_of, Leads, Nears}

-- A code's two parts.
code_parts : (k i : ℕ) → i < numbering → (code_of k i / numbering ≡ k) × (code_of k i % numbering ≡ i)
code_parts k i l =
    let q = div-add-mod (k * 128 + i) 128 in
    let m : (k * 128 + i) % 128 < 128 = mod-lt (k * 128 + i) (omega arith) in
    (omega (arith, q, m), omega (arith, q, m))

-- Potentials after the distance grew to j and place r was visited at it.
pub fallen_next : (ls : List Bool) (ks ps : List ℕ) (k j r : ℕ) → k ≤ j → ((u : ℕ) → get_or ks u 0 ≤ k) → r < length ls → r < length ks → get_or ls r false ≡ false
    → lowered_by ls (j - k) (fallen_by ls ks k ps) ≡ fallen_by (set ls r true) (set ks r j) j ps
fallen_next ls ks ps k j r l close small short off =
    ext_get_or 0 (lowered_by ls (j - k) (fallen_by ls ks k ps)) (fallen_by (set ls r true) (set ks r j) j ps)
    (lowered_long ls (j - k) (fallen_by ls ks k ps) ∙ fallen_long ls ks k ps ∙ sym (fallen_long (set ls r true) (set ks r j) j ps))
    (λ u b.
    lowered_at ls (j - k) (fallen_by ls ks k ps) u ∙ rw (fallen_at ls ks k ps u, fallen_at (set ls r true) (set ks r j) j ps u) (each u))
  where
    twice : (b : Bool) (a p : ℕ) → a ≤ k → fallen b (j - k) (fallen b (k - a) p) ≡ fallen b (j - a) p
    twice true a p h = omega arith
    twice false a p h = refl

    each : (u : ℕ) → fallen (get_or ls u false) (j - k) (fallen (get_or ls u false) (k - get_or ks u 0) (get_or ps u 0))
        ≡ fallen (get_or (set ls r true) u false) (j - get_or (set ks r j) u 0) (get_or ps u 0)
    each u = elim (ℕ_discrete u r) [
      | yes q ↦ rw (q, off, get_or-set_same ls r true false small, get_or-set_same ks r j 0 short) (omega arith)
      | no q ↦ rw (get_or-set_other ls r u true false q, get_or-set_other ks r u j 0 q) (twice (get_or ls u false) (get_or ks u 0) (get_or ps u 0) (close u))
    ]

module _ (ss : List Stream) (n : ℕ) (fs ts gs bs : List ℕ) (starts : (k : ℕ) → k < n → get_or fs k 0 ≡ (stream_at ss k).from)
    (ends : (k : ℕ) → k < n → get_or ts k 0 ≡ (stream_at ss k).to) (few : n ≤ max_streams) where
  -- The direction in which a stream leaves the visited places.
  pub leaving : (ls : List Bool) (k : ℕ) → k < n → start_in ss ls k ≡ not (end_in ss ls k)
      → (get_or ls (tail_of n fs ts gs bs k (start_in ss ls k)) false ≡ true) × (get_or ls (head_of n fs ts gs bs k (start_in ss ls k)) false ≡ false)
  leaving ls k l e = go (start_in ss ls k) (end_in ss ls k) refl refl e
    where
      go : (a b : Bool) → start_in ss ls k ≡ a → end_in ss ls k ≡ b → a ≡ not b
          → (get_or ls (tail_of n fs ts gs bs k a) false ≡ true) × (get_or ls (head_of n fs ts gs bs k a) false ≡ false)
      go true true p q o = absurd (true≢false o)
      go true false p q o = (rw (starts k l) p, rw (ends k l) q)
      go false true p q o = (rw (ends k l) q, rw (starts k l) p)
      go false false p q o = absurd (false≢true o)

  -- A stream that leads on leaves them in its direction, and its head is the far end.
  pub leads_on : (ls : List Bool) (k : ℕ) (f : Bool) → k < n → get_or ls (tail_of n fs ts gs bs k f) false ≡ true → get_or ls (head_of n fs ts gs bs k f) false ≡ false
      → (start_in ss ls k ≡ not (end_in ss ls k)) × (start_in ss ls k ≡ f) × (far_end ls (stream_at ss k) ≡ head_of n fs ts gs bs k f)
  leads_on ls k true l t h =
      let p : start_in ss ls k ≡ true = rw (starts k l) at t in
      let q : end_in ss ls k ≡ false = rw (ends k l) at h in
      (rw (p, q), p, rw (p, ends k l))
  leads_on ls k false l t h =
      let p : start_in ss ls k ≡ false = rw (starts k l) at h in
      let q : end_in ss ls k ≡ true = rw (ends k l) at t in
      (rw (p, q), p, rw (p, starts k l))

  -- What the nearest place tells, once all streams of visited places were looked at.
  pub record Told (ls : List Bool) (ks codes : List ℕ) (r : ℕ) : Type 0 where
    pub within : r < places
    pub lead : Leads n fs ts gs bs ls ks r (get_or codes r 0)
    pub distance : get_or codes r 0 / numbering ≡ over_of n fs ts gs bs ks lead.stream lead.forwards
    pub number : get_or codes r 0 % numbering ≡ lead.stream
    pub nearer : (k : ℕ) (f : Bool) → k < n → get_or ls (tail_of n fs ts gs bs k f) false ≡ true → get_or ls (head_of n fs ts gs bs k f) false ≡ false
        → (get_or codes r 0 / numbering ≤ over_of n fs ts gs bs ks k f) × (over_of n fs ts gs bs ks k f ≤ get_or codes r 0 / numbering → lead.stream ≤ k)

  module _ (heads : (k : ℕ) (f : Bool) → k < n → head_of n fs ts gs bs k f < places) (ls : List Bool) (ks codes : List ℕ) (low e r : ℕ)
      (h : Nears n fs ts gs bs ls ks low e 0 codes) (nearest : r ≡ nearest_to codes places) where
    least_code : (k : ℕ) (f : Bool) → k < n → get_or ls (tail_of n fs ts gs bs k f) false ≡ true → get_or ls (head_of n fs ts gs bs k f) false ≡ false
        → get_or codes r far ≤ code_of (over_of n fs ts gs bs ks k f) k
    least_code k f l t o =
        omega (arith, nearest_least codes r (head_of n fs ts gs bs k f) h.long nearest (heads k f l), h.least k f l t (λ y. omega arith) o)

    -- The nearest place tells that.
    pub told : (r ≡ places → ⊥) → Told ls ks codes r
    told q = record {
      within = w.0;
      lead = lead;
      distance = rw lead.is parts.0;
      number = rw lead.is parts.1;
      nearer = λ k f l t o.
          let c = least_code k f l t o in
          rw (lead.is, parts.0) (omega (arith, c, same, lead.is, few, lead.below), λ y. omega (arith, c, same, lead.is, y, few, lead.below));
    }
      where
        w : (r < places) × (get_or codes r 0 < far)
        w = nearest_is codes r h.long nearest q

        lead : Leads n fs ts gs bs ls ks r (get_or codes r 0)
        lead = h.real r w.0 w.1

        same : get_or codes r far ≡ get_or codes r 0
        same = get_d_any codes r far 0 (rw h.long w.0)

        parts : (code_of (over_of n fs ts gs bs ks lead.stream lead.forwards) lead.stream / numbering ≡ over_of n fs ts gs bs ks lead.stream lead.forwards)
            × (code_of (over_of n fs ts gs bs ks lead.stream lead.forwards) lead.stream % numbering ≡ lead.stream)
        parts = code_parts (over_of n fs ts gs bs ks lead.stream lead.forwards) lead.stream (omega (arith, lead.below, few))

    -- No stream leads on.
    pub none_leads : r ≡ places → (k : ℕ) (f : Bool) → k < n → get_or ls (tail_of n fs ts gs bs k f) false ≡ true → get_or ls (head_of n fs ts gs bs k f) false ≡ false
        → over_of n fs ts gs bs ks k f < farthest → ⊥
    none_leads q k f l t o b =
        let z : get_or codes r far ≡ far = rw q (get_or-eq_default codes far {n = places} (omega (arith, h.long))) in
        omega (arith, least_code k f l t o, z, few)
