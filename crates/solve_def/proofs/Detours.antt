-- One stream of the tie pass: it is left as it is, for a reason, or it has 1 less, which a way of no reduced cost makes up for.
use mathlib.Core.Path.{◌≡◌, ◌∙◌, ap, subst}
use mathlib.Core.Bool.{Bool, true, false, not}
use mathlib.Core.List.{List}
use lib.IntN.{pos}
use Prim.Native.Nat.{ℕ, zero, suc, ◌+◌, ◌-◌, ◌*◌, ◌≤◌, ◌<◌}
use native.Mathlib.Omega.{arith}
use native.Mathlib.Decide.{ℕ_discrete}
use borrow.Author.Tests.{ltb-true, ltb-false, ne_eqb}
use lib.Dec.{eqb, ltb}
use lib.ListN.{length, get_or, set, length-set}
use lib.Seq.{get_or-set_same, get_or-set_other}
use Rattle.num_bytes.specs.Choice.{pick}
use Rattle.num_bytes.proofs.Tests.{picked}
use Rattle.plant_def.specs.declared.Stream.{Stream}
use Rattle.plant_def.specs.Limits.{max_units, places, max_streams}
use Rattle.flow_def.specs.Flows.{stream_at}
use Rattle.num_bytes.proofs.Integers.{up, dn, same}
use Rattle.flow_def.specs.Certificate.{weight_of}
use Rattle.solve_def.specs.declared.Tree.{Tree}
use Rattle.solve_def.specs.Sizes.{search_rounds}
use Rattle.solve_def.specs.Held.{reading_of, low_of, high_of, StepMet, AllStepsMet}
use Rattle.solve_def.specs.Search.{root_at, Grown, tight_path}
use Rattle.solve_def.specs.Augment.{augmented}
use Rattle.solve_def.proofs.Amounts.{net, net_set}
use Rattle.solve_def.specs.ReducedCosts.{reduced_cost_at}
use Rattle.solve_def.proofs.Least.{Usable, start_in, end_in}
use Rattle.solve_def.proofs.Bounds.{HasRoom, reduced_with_room, room_of}
use Rattle.solve_def.proofs.Augmenting.{reached, Augmented, augment_good}
use Rattle.solve_def.proofs.Growing.{Growing, root_growing}
use Rattle.solve_def.proofs.TightPath.{Used, Path, way, shut, path_good, not_usable}
use Rattle.solve_def.specs.Model.{tied_by, tied_at, ties_to}
use Rattle.solve_def.specs.SolverNeeds.{Even}
use Rattle.solve_def.proofs.Streams.{Solvable}

-- The amounts ws are xs with 1 less on stream i, at no cost, and the same on the metered streams before it.
pub record Detour (ss : List Stream) (ps : List ℕ) (i : ℕ) (xs ws : List ℕ) : Type 0 where
  pub even : Even ss ps (suc i) ws
  pub kept : (k : ℕ) → k < i → (stream_at ss k).metered ≡ true → get_or ws k 0 ≡ get_or xs k 0
  pub less : get_or ws i 0 + 1 ≡ get_or xs i 0
  pub tight : 2 * (weight_of (stream_at ss i) * get_or xs i 0) + get_or ps (stream_at ss i).from 0
      ≡ get_or ps (stream_at ss i).to 0 + 2 * (weight_of (stream_at ss i) * reading_of (stream_at ss i)) + weight_of (stream_at ss i)

-- What comes of stream i: it is unmetered; it has reduced cost; a set of places with its start and without its end is left by no usable
-- stream without reduced cost; or there is a way round.
pub data Turn (ss : List Stream) (ps : List ℕ) (i : ℕ) (xs : List ℕ) : List ℕ → Type 0 where
  free : (stream_at ss i).metered ≡ false → Turn ss ps i xs xs
  strict : (stream_at ss i).metered ≡ true → 0 < reduced_cost_at ss xs ps 1 i false → Turn ss ps i xs xs
  cut : (stream_at ss i).metered ≡ true → (ls : List Bool) → get_or ls (stream_at ss i).from false ≡ true → get_or ls (stream_at ss i).to false ≡ false
      → ((k : ℕ) → k < length ss → Usable ss (suc i) k → start_in ss ls k ≡ not (end_in ss ls k) → 0 < reduced_cost_at ss xs ps 1 k (start_in ss ls k)) → Turn ss ps i xs xs
  round : (stream_at ss i).metered ≡ true → (ws : List ℕ) → Detour ss ps i xs ws → Turn ss ps i xs ws

-- One less, where the bound is tight; and the nets then.
less_met : (w X R u v L H : ℕ) → 1 ≤ X → 2 * (w * X) + u ≡ v + 2 * (w * R) + w → StepMet 1 w (X - 1) R u v L H
less_met w X R u v L H l e =
    let c : X - 1 + 1 ≡ X = omega arith in
    let f : w * (X - 1 + 1) ≡ w * X = ap (λ k. w * k) c in
    record { low = λ o. omega (arith, e, f); high = λ o. omega (arith, e, f) }

less_net : (a b : Bool) (x P Q : ℕ) → 1 ≤ x → P + (pick a x 0 + pick b (x - 1) 0) ≡ Q + (pick a (x - 1) 0 + pick b x 0) → P + pick a 1 0 ≡ Q + pick b 1 0
less_net true true x P Q l h = omega arith
less_net true false x P Q l h = omega arith
less_net false true x P Q l h = omega arith
less_net false false x P Q l h = omega arith

module _ (ss : List Stream) (v : Solvable ss) (ps : List ℕ) (i : ℕ) (li : i < length ss) (xs : List ℕ) (h : Even ss ps i xs) where
  abbrev s : Stream
  s = stream_at ss i

  -- Room for one less on stream i, and for one less and one more everywhere.
  some : (k : ℕ) → k < length ss → 1 ≤ get_or xs k 0
  some k l = omega (arith, (h.sized k (omega (arith, v.plain.few))).1, v.plain.few)

  -- The search for a way round stream i.
  pub round_path : Path max_units ss xs ps s.from s.to (suc i) (tight_path ss (length ss) xs ps s.to (suc i) search_rounds (root_at s.from))
  round_path =
      path_good max_units ss v.plain xs ps s.from s.to (suc i) nf nt
      some
      search_rounds (root_at s.from) start (omega arith) (start.reaches_all s.to (omega (arith, nt)) ∙ ne_eqb s.from s.to (v.distinct i li)) (λ k l. absurd (omega arith))
    where
      nf : s.from ≤ max_units
      nf = (v.plain.inside i li).0

      nt : s.to ≤ max_units
      nt = (v.plain.inside i li).1

      start : Growing max_units ss xs 1 s.from ps (root_at s.from)
      start = root_growing max_units ss xs ps 1 s.from (omega arith) nf h.met

  -- A way leads round: 1 is moved along it, and stream i has 1 less.
  module _ (m : s.metered ≡ true) (none : reduced_cost_at ss xs ps 1 i false ≡ 0) (t : Tree) (g : Growing max_units ss xs 1 s.from ps t)
      (r : reached s.from t.ends t.len s.to ≡ true) (used : Used ss (suc i) t) where
    ys : List ℕ
    ys = augmented ss t.via t.ends 1 t.len s.to xs

    q : Augmented ss xs ys ps 1 s.to s.from t.via t.len
    unfolding ys
    q = augment_good ss ps 1 s.from t.via t.ends t.len s.to xs (omega (arith, h.long, v.plain.few)) g.met g.links r

    ws : List ℕ
    ws = set ys i (get_or ys i 0 - 1)

    -- No metered stream up to i is on the way.
    kept : (k : ℕ) → k ≤ i → (stream_at ss k).metered ≡ true → get_or ys k 0 ≡ get_or xs k 0
    kept k l e = q.off k (λ j o z. not_usable ss (suc i) k e (omega arith) (subst (λ (a : ℕ). Usable ss (suc i) a) z (used j o)))

    here : get_or ys i 0 ≡ get_or xs i 0
    here = kept i (omega arith) m

    -- The amount can fall.
    falls : HasRoom s false (get_or xs i 0) 1
    falls = room_of false s (get_or xs i 0) (get_or ps s.from 0) (get_or ps s.to 0) 1 (omega arith)

    tight : 2 * (weight_of s * get_or xs i 0) + get_or ps s.from 0 ≡ get_or ps s.to 0 + 2 * (weight_of s * reading_of s) + weight_of s
    tight = omega (arith, none, reduced_with_room false s (get_or xs i 0) (get_or ps s.from 0) (get_or ps s.to 0) 1 falls, (h.met i li).low falls)

    long_ys : i < length ys
    long_ys = rw q.long (omega (arith, h.long, v.plain.few))

    ws_here : get_or ws i 0 ≡ get_or xs i 0 - 1
    unfolding ws
    ws_here = get_or-set_same ys i (get_or ys i 0 - 1) 0 long_ys ∙ ap (λ k. k - 1) here

    ws_else : (k : ℕ) → (k ≡ i → ⊥) → get_or ws k 0 ≡ get_or ys k 0
    unfolding ws
    ws_else k n = get_or-set_other ys i k (get_or ys i 0 - 1) 0 n

    long_ws : length ws ≡ max_streams
    unfolding ws
    long_ws = length-set ys i (get_or ys i 0 - 1) ∙ q.long ∙ h.long

    met : AllStepsMet ss ws ps 1
    met k l = elim (ℕ_discrete k i) [
      | yes z ↦ rw (z, ws_here) (less_met (weight_of s) (get_or xs i 0) (reading_of s) (get_or ps s.from 0) (get_or ps s.to 0) (low_of s) (high_of s) (some i li) tight)
      | no z ↦ rw (ws_else k z) (q.met k l)
    ]

    nets : (u : ℕ) → up (net ss ws u) + dn (net ss xs u) ≡ up (net ss xs u) + dn (net ss ws u)
    unfolding ws
    nets u =
        omega (
          arith,
          q.nets u,
          less_net (eqb s.to u) (eqb s.from u) (get_or ys i 0) (up (net ss ws u) + dn (net ss ys u)) (up (net ss ys u) + dn (net ss ws u)) (rw here (some i li))
              (net_set u ss ys i (get_or ys i 0 - 1) li long_ys),
        )

    level : (u : ℕ) → u < places → net ss ws u ≡ pos 0
    level u l = same (net ss ws u) (net ss xs u) (nets u) ∙ h.level u l

    detour : Detour ss ps i xs ws
    detour = record {
      even = record {
        long = long_ws;
        met = met;
        inside = λ k l. elim (ℕ_discrete k i) [
          | yes z ↦ rw (z, ws_here) (omega (arith, falls), omega (arith, (h.inside i li).1))
          | no z ↦ rw (ws_else k z) (q.inside h.inside k l)
        ];
        agreed = h.agreed;
        level = level;
        moderate = λ k l e. elim (ℕ_discrete k i) [
          | yes z ↦ let o = h.moderate i li m in rw (z, ws_here) (omega (arith, o.0), omega (arith, o.1, some i li))
          | no z ↦ let o = h.moderate k l e in rw (ws_else k z) (omega (arith, o.0, q.most k), omega (arith, o.1, q.least k))
        ];
        floor = h.floor;
        sized = λ k l. elim (ℕ_discrete k i) [
          | yes z ↦ rw (z, ws_here) (omega (arith, (h.sized i (omega (arith, v.plain.few))).0), omega (arith, (h.sized i (omega (arith, v.plain.few))).1, some i li))
          | no z ↦ rw (ws_else k z) (omega (arith, (h.sized k l).0, q.most k), omega (arith, (h.sized k l).1, q.least k))
        ];
      };
      kept = λ k l e. ws_else k (λ z. omega arith) ∙ kept k (omega arith) e;
      less = omega (arith, ws_here, some i li);
      tight = tight;
    }

    -- What the augmentation leaves of stream i.
    pub left_some : 1 ≤ get_or (augmented ss t.via t.ends 1 t.len s.to xs) i 0
    unfolding ys
    left_some = rw here (some i li)

  by_path : s.metered ≡ true → reduced_cost_at ss xs ps 1 i false ≡ 0 → (g : Grown) → Path max_units ss xs ps s.from s.to (suc i) g
      → Turn ss ps i xs (tied_by ss xs s.to i g)
  unfolding ys ws
  by_path m none g (way e a r u) = rw e (round m _ (detour m none g.tree a r u))
  by_path m none g (shut e ls a b c) = rw e (cut m ls a b c)

  -- Stream i of the pass.
  pub turn : Turn ss ps i xs (tied_at ss ps i xs)
  unfolding tied_at
  turn =
      picked (Turn ss ps i xs) s.metered _ _
      (λ m. picked (Turn ss ps i xs) (ltb 0 (reduced_cost_at ss xs ps 1 i false)) _ _
      (λ e. strict m (ltb-true 0 (reduced_cost_at ss xs ps 1 i false) e))
      (λ e. by_path m (omega (arith, ltb-false 0 (reduced_cost_at ss xs ps 1 i false) e)) _ round_path))
      (λ m. free m)

-- The flow stays even.
even_more : (ss : List Stream) (ps : List ℕ) (i : ℕ) (xs : List ℕ) → Even ss ps i xs → Even ss ps (suc i) xs
even_more ss ps i xs h = record {
  long = h.long;
  met = h.met;
  inside = h.inside;
  agreed = h.agreed;
  level = h.level;
  moderate = λ k l m. (omega (arith, (h.moderate k l m).0), omega (arith, (h.moderate k l m).1));
  floor = h.floor;
  sized = λ k l. (omega (arith, (h.sized k l).0), omega (arith, (h.sized k l).1));
}

even_turn : (ss : List Stream) (ps : List ℕ) (i : ℕ) (xs ws : List ℕ) → Even ss ps i xs → Turn ss ps i xs ws → Even ss ps (suc i) ws
even_turn ss ps i xs _ h (free m) = even_more ss ps i xs h
even_turn ss ps i xs _ h (strict m q) = even_more ss ps i xs h
even_turn ss ps i xs _ h (cut m ls a b c) = even_more ss ps i xs h
even_turn ss ps i xs _ h (round m ws d) = d.even

-- The flow stays level through the tie pass.
pub ties_even : (ss : List Stream) → Solvable ss → (ps xs : List ℕ) → Even ss ps 0 xs → (i : ℕ) → i ≤ length ss → Even ss ps i (ties_to ss ps i xs)
unfolding ties_to
ties_even ss v ps xs h zero l = h
ties_even ss v ps xs h (suc i) l =
    let e = ties_even ss v ps xs h i (omega arith) in
    even_turn ss ps i (ties_to ss ps i xs) (tied_at ss ps i (ties_to ss ps i xs)) e (turn ss v ps i (omega arith) (ties_to ss ps i xs) e)
