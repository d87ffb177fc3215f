-- The augmentation keeps the step condition and moves d of net from the first place to the last.
use mathlib.Core.Path.{◌≡◌, refl, sym, ◌∙◌, ap, subst}
use mathlib.Core.Bool.{Bool, true, false, ◌||◌}
use mathlib.Core.List.{List}
use Prim.Native.Nat.{ℕ, zero, suc, ◌+◌, ◌-◌, ◌*◌, ◌≤◌, ◌<◌}
use native.Mathlib.Omega.{arith}
use native.Mathlib.Decide.{ℕ_discrete}
use borrow.Author.Tests.{eqb-true, eq-eqb, ne_eqb}
use lib.Dec.{eqb}
use lib.ListN.{length, get_or, set, length-set}
use Rattle.num_bytes.specs.Choice.{pick}
use Rattle.num_bytes.proofs.Tests.{by_cases, clash, or_right}
use Rattle.plant_def.specs.declared.Stream.{Stream}
use Rattle.flow_def.specs.Flows.{stream_at}
use Rattle.num_bytes.proofs.Integers.{up, dn}
use Rattle.flow_def.specs.Certificate.{weight_of}
use Rattle.solve_def.specs.Held.{reading_of, low_of, high_of, StepMet, StepMetAt, AllStepsMet, AllInside}
use Rattle.solve_def.specs.ReducedCosts.{reduced_cost_by}
use Rattle.solve_def.specs.Augment.{moved_of, other_end, augmented}
use Rattle.solve_def.proofs.Amounts.{net, net_set, get_set}
use Rattle.solve_def.proofs.Bounds.{HasRoom, reduced_with_room, room_of}

-- The first place and the next j that were visited.
abbrev pub reached : ℕ → List ℕ → ℕ → ℕ → Bool
reached root ends zero v = eqb root v
reached root ends (suc j) v = eqb (get_or ends j 0) v || reached root ends j v

-- What is reached stays reached.
pub reached_more : (root : ℕ) (ends : List ℕ) (j k v : ℕ) → j ≤ k → reached root ends j v ≡ true → reached root ends k v ≡ true
reached_more root ends j zero v l h = let e : j ≡ 0 = omega arith in rw e at h
reached_more root ends j (suc k) v l h =
    elim (ℕ_discrete j (suc k)) [ yes e ↦ rw e at h | no e ↦ or_right (eqb (get_or ends k 0) v) (reached root ends k v) (reached_more root ends j k v (omega arith) h) ]

-- The place visited last is reached.
pub reached_new : (root : ℕ) (ends : List ℕ) (j : ℕ) → reached root ends (suc j) (get_or ends j 0) ≡ true
reached_new root ends j = rw (eq-eqb (get_or ends j 0) (get_or ends j 0) refl)

-- Remembered stream k leads from the places visited before it to a new one, has no reduced cost and room for d less.
pub record Link (ss : List Stream) (xs ps : List ℕ) (d root : ℕ) (via ends : List ℕ) (k : ℕ) : Type 0 where
  pub inside : get_or via k 0 < length ss
  pub fresh : reached root ends k (get_or ends k 0) ≡ false
  pub joins : reached root ends k (other_end (stream_at ss (get_or via k 0)) (get_or ends k 0)) ≡ true
  pub touch : eqb (stream_at ss (get_or via k 0)).to (get_or ends k 0) ≡ false → (stream_at ss (get_or via k 0)).from ≡ get_or ends k 0
  pub tight : reduced_cost_by (stream_at ss (get_or via k 0)) (eqb (stream_at ss (get_or via k 0)).to (get_or ends k 0)) (get_or xs (get_or via k 0) 0)
      (get_or ps (stream_at ss (get_or via k 0)).from 0) (get_or ps (stream_at ss (get_or via k 0)).to 0) d
      ≡ 0
  pub room : d ≤ get_or xs (get_or via k 0) 0

-- What the augmentation of d from c back to the root leaves.
pub record Augmented (ss : List Stream) (xs ys ps : List ℕ) (d c root : ℕ) (via : List ℕ) (j : ℕ) : Type 0 where
  pub long : length ys ≡ length xs
  pub met : AllStepsMet ss ys ps d
  pub nets : (u : ℕ) → up (net ss ys u) + dn (net ss xs u) + pick (eqb root u) d 0 ≡ up (net ss xs u) + dn (net ss ys u) + pick (eqb c u) d 0
  pub most : (k : ℕ) → get_or ys k 0 ≤ get_or xs k 0 + d
  pub least : (k : ℕ) → get_or xs k 0 ≤ get_or ys k 0 + d
  pub off : (k : ℕ) → ((i : ℕ) → i < j → get_or via i 0 ≡ k → ⊥) → get_or ys k 0 ≡ get_or xs k 0
  pub inside : AllInside ss xs → AllInside ss ys

-- One stream after d is moved along it: the step condition and the range, how far it moves, and the nets.
moved_met : (s : Stream) (x pu pv d c : ℕ) → StepMet d (weight_of s) x (reading_of s) pu pv (low_of s) (high_of s) → reduced_cost_by s (eqb s.to c) x pu pv d ≡ 0 → d ≤ x
    → StepMet d (weight_of s) (moved_of s x c d) (reading_of s) pu pv (low_of s) (high_of s)
moved_met s x pu pv d c h t r = go (eqb s.to c) t (room_of (eqb s.to c) s x pu pv d (omega arith))
  where
    go : (b : Bool) → reduced_cost_by s b x pu pv d ≡ 0 → HasRoom s b x d → StepMet d (weight_of s) (pick b (x + d) (x - d)) (reading_of s) pu pv (low_of s) (high_of s)
    go true t o =
        record { low = λ q. omega (arith, reduced_with_room true s x pu pv d o, t, h.high o); high = λ q. omega (arith, reduced_with_room true s x pu pv d o, t, h.high o) }
    go false t o =
        let y : ℕ = x - d in
        let e : y + d ≡ x = omega arith in
        let f : weight_of s * (y + d) ≡ weight_of s * x = ap (λ k. weight_of s * k) e in
        record { low = λ q. omega (arith, reduced_with_room false s x pu pv d o, t, h.low o, f); high = λ q. omega (arith, reduced_with_room false s x pu pv d o, t, h.low o, f) }

moved_inside : (s : Stream) (x pu pv d c : ℕ) → reduced_cost_by s (eqb s.to c) x pu pv d ≡ 0 → (low_of s ≤ x) × (x ≤ high_of s)
    → (low_of s ≤ moved_of s x c d) × (moved_of s x c d ≤ high_of s)
moved_inside s x pu pv d c t r = go (eqb s.to c) (room_of (eqb s.to c) s x pu pv d (omega arith))
  where
    go : (b : Bool) → HasRoom s b x d → (low_of s ≤ pick b (x + d) (x - d)) × (pick b (x + d) (x - d) ≤ high_of s)
    go true o = (omega (arith, r.0), o)
    go false o = (omega arith, omega (arith, r.1))

moved_most : (s : Stream) (x d c : ℕ) → (moved_of s x c d ≤ x + d) × (x ≤ moved_of s x c d + d)
moved_most s x d c = go (eqb s.to c)
  where
    go : (b : Bool) → (pick b (x + d) (x - d) ≤ x + d) × (x ≤ pick b (x + d) (x - d) + d)
    go true = (omega arith, omega arith)
    go false = (omega arith, omega arith)

forth_net : (a b : Bool) (x d P Q : ℕ) → P + (pick a x 0 + pick b (x + d) 0) ≡ Q + (pick a (x + d) 0 + pick b x 0) → P + pick b d 0 ≡ Q + pick a d 0
forth_net true true x d P Q h = omega arith
forth_net true false x d P Q h = omega arith
forth_net false true x d P Q h = omega arith
forth_net false false x d P Q h = omega arith

back_net : (a b : Bool) (x d P Q : ℕ) → d ≤ x → P + (pick a x 0 + pick b (x - d) 0) ≡ Q + (pick a (x - d) 0 + pick b x 0) → P + pick a d 0 ≡ Q + pick b d 0
back_net true true x d P Q l h = omega arith
back_net true false x d P Q l h = omega arith
back_net false true x d P Q l h = omega arith
back_net false false x d P Q l h = omega arith

step_net : (b A F E O : Bool) (x d P Q : ℕ) → d ≤ x → (b ≡ true → E ≡ A) → (b ≡ false → E ≡ F) → O ≡ pick b F A
    → P + (pick A x 0 + pick F (pick b (x + d) (x - d)) 0) ≡ Q + (pick A (pick b (x + d) (x - d)) 0 + pick F x 0) → P + pick O d 0 ≡ Q + pick E d 0
step_net true A F E O x d P Q l p q o h = rw (o, p refl) (forth_net A F x d P Q h)
step_net false A F E O x d P Q l p q o h = rw (o, q refl) (back_net A F x d P Q l h)

eqb_pick : (b : Bool) (f t u : ℕ) → eqb (pick b f t) u ≡ pick b (eqb f u) (eqb t u)
eqb_pick true f t u = refl
eqb_pick false f t u = refl

module _ (ss : List Stream) (ps : List ℕ) (d root : ℕ) (via ends : List ℕ) where
  -- Both ends of a remembered stream are visited after it,
  pub both_reached : (xs : List ℕ) (k j : ℕ) → k < j → Link ss xs ps d root via ends k
      → (reached root ends j (stream_at ss (get_or via k 0)).from ≡ true) × (reached root ends j (stream_at ss (get_or via k 0)).to ≡ true)
  both_reached xs k j l h = by_cases (eqb (stream_at ss (get_or via k 0)).to (get_or ends k 0))
      (λ t. let q : (stream_at ss (get_or via k 0)).to ≡ get_or ends k 0 = eqb-true (stream_at ss (get_or via k 0)).to (get_or ends k 0) t in
      (reached_more root ends k j _ (omega arith) (rw t at h.joins), rw q (reached_more root ends (suc k) j (get_or ends k 0) l (reached_new root ends k))))
      (λ t. (rw (h.touch t) (reached_more root ends (suc k) j (get_or ends k 0) l (reached_new root ends k)), reached_more root ends k j _ (omega arith) (rw t at h.joins)))

  -- so that it is not one of the later ones.
  apart : (xs : List ℕ) (k j : ℕ) → k < j → Link ss xs ps d root via ends k → Link ss xs ps d root via ends j → get_or via k 0 ≡ get_or via j 0 → ⊥
  apart xs k j l h g e = by_cases (eqb (stream_at ss (get_or via j 0)).to (get_or ends j 0))
      (λ t. let q : (stream_at ss (get_or via j 0)).to ≡ get_or ends j 0 = eqb-true (stream_at ss (get_or via j 0)).to (get_or ends j 0) t in
      clash _ (rw (e, q) at (both_reached xs k j l h).1) g.fresh)
      (λ t. clash _ (rw (e, g.touch t) at (both_reached xs k j l h).0) g.fresh)

  link_kept : (xs ys : List ℕ) (k : ℕ) → get_or ys (get_or via k 0) 0 ≡ get_or xs (get_or via k 0) 0 → Link ss xs ps d root via ends k → Link ss ys ps d root via ends k
  link_kept xs ys k e h = record { inside = h.inside; fresh = h.fresh; joins = h.joins; touch = h.touch; tight = rw e h.tight; room = rw e h.room }

  -- The law for the first j remembered streams.
  Rec : ℕ → Type 0
  Rec j = (c : ℕ) (xs : List ℕ) → length ss ≤ length xs → AllStepsMet ss xs ps d → ((k : ℕ) → k < j → Link ss xs ps d root via ends k)
      → reached root ends j c ≡ true → Augmented ss xs (augmented ss via ends d j c xs) ps d c root via j

  -- The last of them leads to the place, or it does not.
  hit : (j : ℕ) → Rec j → (xs : List ℕ) → length ss ≤ length xs → AllStepsMet ss xs ps d → ((k : ℕ) → k < suc j → Link ss xs ps d root via ends k)
      → Augmented ss xs (augmented ss via ends d j (other_end (stream_at ss (get_or via j 0)) (get_or ends j 0))
      (set xs (get_or via j 0) (moved_of (stream_at ss (get_or via j 0)) (get_or xs (get_or via j 0) 0) (get_or ends j 0) d))) ps d (get_or ends j 0) root via (suc j)
  unfolding Rec
  hit j rec xs long met links = record {
    long = r.long ∙ length-set xs i y;
    met = r.met;
    nets = nets;
    most = λ k. by_cases (eqb i k) (λ t. here_most k t) (λ t. rw (sym (else k t)) (r.most k));
    least = λ k. by_cases (eqb i k) (λ t. here_least k t) (λ t. rw (sym (else k t)) (r.least k));
    off = λ k n. r.off k (λ m l. n m (omega arith)) ∙ else k (ne_eqb i k (n j (omega arith)));
    inside = λ h. r.inside (λ k l. by_cases (eqb i k)
        (λ t. let q : i ≡ k = eqb-true i k t in rw (here k t, ← q) (moved_inside s x (get_or ps s.from 0) (get_or ps s.to 0) d e g.tight (h i g.inside)))
        (λ t. rw (else k t) (h k l)));
  }
    where
      i : ℕ
      i = get_or via j 0

      s : Stream
      s = stream_at ss i

      e : ℕ
      e = get_or ends j 0

      x : ℕ
      x = get_or xs i 0

      y : ℕ
      y = moved_of s x e d

      zs : List ℕ
      zs = set xs i y

      g : Link ss xs ps d root via ends j
      g = links j (omega arith)

      li : i < length xs
      li = omega (arith, g.inside)

      else : (k : ℕ) → eqb i k ≡ false → get_or zs k 0 ≡ get_or xs k 0
      else k t = get_set xs i k y 0 li ∙ ap (λ (b : Bool). pick b y (get_or xs k 0)) t

      here : (k : ℕ) → eqb i k ≡ true → get_or zs k 0 ≡ y
      here k t = get_set xs i k y 0 li ∙ ap (λ (b : Bool). pick b y (get_or xs k 0)) t

      held' : AllStepsMet ss zs ps d
      held' k l = by_cases (eqb i k)
          (λ t. let q : i ≡ k = eqb-true i k t in subst (λ (m : ℕ). StepMetAt ss zs ps d m) q
          (rw (here i (eq-eqb i i refl)) (moved_met s x (get_or ps s.from 0) (get_or ps s.to 0) d e (met i g.inside) g.tight g.room)))
          (λ t. rw (else k t) (met k l))

      links' : (k : ℕ) → k < j → Link ss zs ps d root via ends k
      links' k l = link_kept xs zs k (else (get_or via k 0) (ne_eqb i (get_or via k 0) (λ q. apart xs k j l (links k (omega arith)) g (sym q)))) (links k (omega arith))

      r : Augmented ss zs (augmented ss via ends d j (other_end s e) zs) ps d (other_end s e) root via j
      r = rec (other_end s e) zs (rw (length-set xs i y) long) held' links' g.joins

      ys : List ℕ
      ys = augmented ss via ends d j (other_end s e) zs

      kept : (k : ℕ) → eqb i k ≡ true → get_or ys k 0 ≡ y
      kept k t = let q : i ≡ k = eqb-true i k t in r.off k (λ m l o. apart xs m j l (links m (omega arith)) g (o ∙ sym q)) ∙ here k t

      here_most : (k : ℕ) → eqb i k ≡ true → get_or ys k 0 ≤ get_or xs k 0 + d
      here_most k t = let q : i ≡ k = eqb-true i k t in rw (kept k t, ← q) (moved_most s x d e).0

      here_least : (k : ℕ) → eqb i k ≡ true → get_or xs k 0 ≤ get_or ys k 0 + d
      here_least k t = let q : i ≡ k = eqb-true i k t in rw (kept k t, ← q) (moved_most s x d e).1

      step : (u : ℕ) → up (net ss zs u) + dn (net ss xs u) + pick (eqb (other_end s e) u) d 0 ≡ up (net ss xs u) + dn (net ss zs u) + pick (eqb e u) d 0
      step u = step_net (eqb s.to e) (eqb s.to u) (eqb s.from u) (eqb e u) (eqb (other_end s e) u) x d _ _ g.room
          (λ t. ap (λ (v : ℕ). eqb v u) (sym (eqb-true s.to e t))) (λ t. ap (λ (v : ℕ). eqb v u) (sym (g.touch t))) (eqb_pick (eqb s.to e) s.from s.to u)
          (net_set u ss xs i y g.inside li)

      nets : (u : ℕ) → up (net ss ys u) + dn (net ss xs u) + pick (eqb root u) d 0 ≡ up (net ss xs u) + dn (net ss ys u) + pick (eqb e u) d 0
      nets u = omega (arith, r.nets u, step u)

  miss : (j : ℕ) → Rec j → (c : ℕ) (xs : List ℕ) → length ss ≤ length xs → AllStepsMet ss xs ps d → ((k : ℕ) → k < suc j → Link ss xs ps d root via ends k)
      → reached root ends j c ≡ true → Augmented ss xs (augmented ss via ends d j c xs) ps d c root via (suc j)
  unfolding Rec
  miss j rec c xs long met links h = let r = rec c xs long met (λ k l. links k (omega arith)) h in
      record { long = r.long; met = r.met; nets = r.nets; most = r.most; least = r.least; off = λ k n. r.off k (λ m l. n m (omega arith)); inside = r.inside }

  -- What the augmentation from c back to the root leaves.
  pub augment_good : (j c : ℕ) (xs : List ℕ) → length ss ≤ length xs → AllStepsMet ss xs ps d → ((k : ℕ) → k < j → Link ss xs ps d root via ends k)
      → reached root ends j c ≡ true → Augmented ss xs (augmented ss via ends d j c xs) ps d c root via j
  unfolding augmented Rec
  augment_good zero c xs long met links h =
      record { long = refl; met = met; nets = λ u. let q : root ≡ c = eqb-true root c h in rw q; most = λ k. omega arith; least = λ k. omega arith; off = λ k n. refl; inside = λ r. r }
  augment_good (suc j) c xs long met links h = go (eqb (get_or ends j 0) c) refl (augment_good j) h
    where
      go : (b : Bool) → eqb (get_or ends j 0) c ≡ b → Rec j → b || reached root ends j c ≡ true
          → Augmented ss xs (pick b (augmented ss via ends d j (other_end (stream_at ss (get_or via j 0)) c)
          (set xs (get_or via j 0) (moved_of (stream_at ss (get_or via j 0)) (get_or xs (get_or via j 0) 0) c d))) (augmented ss via ends d j c xs)) ps d c root via (suc j)
      go true e rec h = let q : get_or ends j 0 ≡ c = eqb-true (get_or ends j 0) c e in rw (← q) (hit j rec xs long met links)
      go false e rec h = miss j rec c xs long met links h
