-- The search over streams without reduced cost: it finds a way to the place, or a set of places that no usable stream leaves without reduced cost.
use mathlib.Core.Path.{◌≡◌, refl, sym, ◌∙◌, ap, subst}
use mathlib.Core.Bool.{Bool, true, false, not}
use mathlib.Core.List.{List}
use Prim.Native.Nat.{ℕ, zero, suc, ◌+◌, ◌-◌, ◌≤◌, ◌<◌}
use native.Mathlib.Omega.{arith}
use native.Mathlib.Decide.{ℕ_discrete}
use borrow.Author.Tests.{ltb-true, ltb-false, lt-ltb, eqb-true, eqb-false, eq-eqb}
use lib.Dec.{eqb, ltb}
use lib.ListN.{length, get_or, set}
use lib.Seq.{get_or-set_same, get_or-set_other}
use Rattle.num_bytes.specs.Choice.{pick}
use Rattle.num_bytes.proofs.Tests.{by_cases, clash}
use Rattle.plant_def.specs.declared.Stream.{Stream}
use Rattle.flow_def.specs.Flows.{stream_at}
use Rattle.solve_def.specs.declared.Tree.{Tree}
use Rattle.solve_def.specs.ReducedCosts.{Crossing, At, Nothing, least_to, reduced_cost_at}
use Rattle.solve_def.specs.Search.{far_end, on_crossing, added_to, target, Grown, grown_by, tight_path}
use Rattle.solve_def.proofs.Least.{opposed, Usable, start_in, end_in, Answers, least_good}
use Rattle.solve_def.proofs.Counting.{count_most, count_full}
use Rattle.solve_def.proofs.Augmenting.{reached, reached_more, reached_new}
use Rattle.solve_def.proofs.Growing.{Plain, Growing, add_growing}
use Rattle.solve_def.proofs.Hunting.{new_target}

-- A metered stream before number skip is left alone.
pub not_usable : (ss : List Stream) (skip k : ℕ) → (stream_at ss k).metered ≡ true → k < skip → Usable ss skip k → ⊥
not_usable ss skip k m l u = clash _ (rw (m, lt-ltb k skip l)) u

-- No remembered stream is left alone.
abbrev pub Used : List Stream → ℕ → Tree → Type 0
Used ss skip t = (k : ℕ) → k < t.len → Usable ss skip (get_or t.via k 0)

-- The search leads to the place, or is cut off.
pub data Path (n : ℕ) (ss : List Stream) (xs ps : List ℕ) (root v skip : ℕ) (g : Grown) : Type 0 where
  way : g.found ≡ true → Growing n ss xs 1 root ps g.tree → reached root g.tree.ends g.tree.len v ≡ true → Used ss skip g.tree
      → Path n ss xs ps root v skip g
  shut : g.found ≡ false → (ls : List Bool) → get_or ls root false ≡ true → get_or ls v false ≡ false
      → ((k : ℕ) → k < length ss → Usable ss skip k → start_in ss ls k ≡ not (end_in ss ls k) → 0 < reduced_cost_at ss xs ps 1 k (start_in ss ls k)) → Path n ss xs ps root v skip g

module _ (n : ℕ) (ss : List Stream) (plain : Plain n ss) (xs ps : List ℕ) (root v skip : ℕ) (near : root ≤ n) (vnear : v ≤ n) (room : (k : ℕ) → k < length ss → 1 ≤ get_or xs k 0) where
  -- It comes to one of these.
  pub path_good : (l : ℕ) (t : Tree) → Growing n ss xs 1 root ps t → n ≤ l + t.len → get_or t.visited v false ≡ false → Used ss skip t
      → Path n ss xs ps root v skip (tight_path ss (length ss) xs ps v skip l t)
  unfolding tight_path
  path_good zero t h fuel off used = clash _ (count_full n (λ u. get_or t.visited u false) (omega (arith, h.counted)) v vnear) off
  path_good (suc l) t h fuel off used = go (least_to ss xs ps t.visited 1 skip (length ss)) (least_good ss xs ps t.visited 1 skip (length ss)) (path_good l)
    where
      start : get_or t.visited root false ≡ true
      start = h.reaches_all root (omega (arith, plain.small)) ∙ reached_more root t.ends 0 t.len root (omega arith) (eq-eqb root root refl)

      go : (f : Crossing) → Answers ss xs ps t.visited 1 skip (length ss) f
          → ((r : Tree) → Growing n ss xs 1 root ps r → n ≤ l + r.len → get_or r.visited v false ≡ false → Used ss skip r → Path n ss xs ps root v skip (tight_path ss (length ss) xs ps v skip l r))
          → Path n ss xs ps root v skip (on_crossing f (grown_by false t ps) (λ i g. pick (ltb 0 g) (grown_by false t ps)
          (pick (eqb (far_end t.visited (stream_at ss i)) v) (grown_by true (added_to t i (far_end t.visited (stream_at ss i))) ps)
          (tight_path ss (length ss) xs ps v skip l (added_to t i (far_end t.visited (stream_at ss i)))))))
      go Nothing m rec = shut refl t.visited start off (λ k o u c. opposed (start_in ss t.visited k) (end_in ss t.visited k) (m k o u) c)
      go (At i g) m rec = by_cases (ltb 0 g)
          (λ q. rw q (shut refl t.visited start off (λ k o u c. omega (arith, m.least k o u c, ltb-true 0 g q))))
          (λ q. rw q (on q))
        where
          e : ℕ
          e = far_end t.visited (stream_at ss i)

          r : Tree
          r = added_to t i e

          on : ltb 0 g ≡ false → Path n ss xs ps root v skip (pick (eqb e v) (grown_by true r ps) (tight_path ss (length ss) xs ps v skip l r))
          on q = by_cases (eqb e v)
              (λ z. rw z (way refl more (subst (λ (u : ℕ). reached root r.ends r.len u ≡ true) (new_target t i e few ∙ eqb-true e v z) top) used'))
              (λ z. rw z (rec r more (omega arith) (get_or-set_other t.visited e v true false (λ o. eqb-false e v z (sym o)) ∙ off) used'))
            where
              more : Growing n ss xs 1 root ps r
              more = add_growing n ss plain xs 1 root ps t i h m.below m.leaves (omega (arith, m.is, ltb-false 0 g q)) (room i m.below)

              few : t.len < length t.ends
              few = rw h.endings (omega (arith, more.counted, count_most n (λ u. get_or r.visited u false), plain.small))

              top : reached root r.ends r.len (target r) ≡ true
              top =
                  let o : r.len ≡ suc (r.len - 1) = omega arith in subst (λ (j : ℕ). reached root r.ends j (target r) ≡ true) (sym o) (reached_new root r.ends (r.len - 1))

              used' : Used ss skip r
              used' k o = elim (ℕ_discrete k t.len) [
                | yes z ↦ subst (λ (j : ℕ). Usable ss skip j)
                    (sym (ap (λ (j : ℕ). get_or (set t.via t.len i) j 0) z ∙ get_or-set_same t.via t.len i 0 (rw h.vias (omega (arith, few, h.endings)))))
                    m.usable
                | no z ↦ subst (λ (j : ℕ). Usable ss skip j) (sym (get_or-set_other t.via t.len k i 0 z)) (used k (omega arith))
              ]
