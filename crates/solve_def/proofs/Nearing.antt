-- The codes of a search by distances: they stay the least, and the least of all tells the nearest place.
use mathlib.Core.Path.{◌≡◌, refl, sym, ◌∙◌, ap}
use mathlib.Core.Bool.{Bool, true, false}
use mathlib.Core.List.{List}
use mathlib.Core.Logic.{◌⊎◌, inl, inr, ⊎_elim}
use Prim.Native.Nat.{ℕ, zero, suc, ◌+◌, ◌*◌, ◌≤◌, ◌<◌}
use native.Mathlib.Omega.{arith}
use native.Mathlib.Decide.{ℕ_discrete}
use borrow.Author.Tests.{ltb-true, ltb-false, eqb-true, eqb-false}
use lib.Dec.{eqb, ltb}
use lib.ListN.{length, get_or, set, length-set, get_or-eq_default}
use lib.Seq.{get_or-set_same, get_or-set_other}
use Rattle.num_bytes.specs.Choice.{pick}
use Rattle.num_bytes.proofs.Tests.{by_cases, clash}
use Rattle.num_bytes.proofs.Filled.{get_d_any}
use Rattle.plant_def.specs.Limits.{places}
use Rattle.solve_def.specs.Sizes.{far, numbering}
use Rattle.solve_def.specs.Near.{code_of, lessened, relaxed_along, relaxed_at, relaxed_to, nearest_to}

-- The first place with the least code, among the first n.
pub record Nearest (near : List ℕ) (n r : ℕ) : Type 0 where
  pub one : ((r < n) × (get_or near r far < far)) ⊎ (r ≡ places)
  pub least : (v : ℕ) → v < n → get_or near r far ≤ get_or near v far

-- The nearest of the first n places has the least code.
pub nearest_good : (near : List ℕ) (n : ℕ) → length near ≡ places → n ≤ places → Nearest near n (nearest_to near n)
unfolding nearest_to
nearest_good near zero h l = record { one = inr refl; least = λ v m. absurd (omega arith) }
nearest_good near (suc n) h l = go (nearest_to near n) (nearest_good near n h (omega arith))
  where
    none : get_or near places far ≡ far
    none = get_or-eq_default near far {n = places} (omega (arith, h))

    go : (r : ℕ) → Nearest near n r → Nearest near (suc n) (pick (ltb (get_or near n far) (get_or near r far)) n r)
    go r w = by_cases (ltb (get_or near n far) (get_or near r far))
        (λ t.
        let m = ltb-true (get_or near n far) (get_or near r far) t in
        rw t (record {
          one = inl (omega arith, ⊎_elim (λ o. omega (arith, o.1)) (λ o. omega (arith, none, rw o at m)) w.one);
          least = λ v b. elim (ℕ_discrete v n) [ yes q ↦ rw q (omega arith) | no q ↦ omega (arith, w.least v (omega arith)) ];
        }))
        (λ t. rw t (record {
          one = ⊎_elim (λ o. inl (omega (arith, o.0), o.1)) (λ o. inr o) w.one;
          least = λ v b. elim (ℕ_discrete v n) [ yes q ↦ rw q (ltb-false _ _ t) | no q ↦ w.least v (omega arith) ];
        }))

-- There is one, or no code is below far.
pub nearest_is : (near : List ℕ) (r : ℕ) → length near ≡ places → r ≡ nearest_to near places → (r ≡ places → ⊥) → (r < places) × (get_or near r 0 < far)
nearest_is near r h e q =
    let w = nearest_good near places h (omega arith) in
    ⊎_elim (λ o. (rw e o.0, rw (get_d_any near r 0 far (rw (h, e) o.0), e) o.1)) (λ o. absurd (q (e ∙ o))) w.one

-- No code is less than that of the nearest place.
pub nearest_least : (near : List ℕ) (r v : ℕ) → length near ≡ places → r ≡ nearest_to near places → v < places → get_or near r far ≤ get_or near v 0
nearest_least near r v h e l = rw (e, get_d_any near v 0 far (rw h l)) ((nearest_good near places h (omega arith)).least v l)

-- n streams: their starts, their ends, and their reduced costs forwards and backwards.
module _ (n : ℕ) (fs ts gs bs : List ℕ) where
  -- The place that stream k leaves in direction f.
  abbrev pub tail_of : ℕ → Bool → ℕ
  tail_of k f = pick f (get_or fs k 0) (get_or ts k 0)

  -- The place that it leads to.
  abbrev pub head_of : ℕ → Bool → ℕ
  head_of k f = pick f (get_or ts k 0) (get_or fs k 0)

  -- Its reduced cost in that direction.
  abbrev pub reduced_cost_of : ℕ → Bool → ℕ
  reduced_cost_of k f = pick f (get_or gs k 0) (get_or bs k 0)

  -- The distance over stream k; ks are the distances of visited places.
  abbrev pub over_of : List ℕ → ℕ → Bool → ℕ
  over_of ks k f = get_or ks (tail_of k f) 0 + reduced_cost_of k f

  -- A stream that leads from a visited place to place v, with code c.
  pub record Leads (ls : List Bool) (ks : List ℕ) (v c : ℕ) : Type 0 where
    pub stream : ℕ
    pub forwards : Bool
    pub below : stream < n
    pub tail : get_or ls (tail_of stream forwards) false ≡ true
    pub head : head_of stream forwards ≡ v
    pub off : get_or ls v false ≡ false
    pub is : c ≡ code_of (over_of ks stream forwards) stream

  -- The codes are the least, but that from place e only the streams from number i on were looked at; none is below `low`.
  pub record Nears (ls : List Bool) (ks : List ℕ) (low e i : ℕ) (near : List ℕ) : Type 0 where
    pub long : length near ≡ places
    pub least : (k : ℕ) (f : Bool) → k < n → get_or ls (tail_of k f) false ≡ true → (tail_of k f ≡ e → i ≤ k) → get_or ls (head_of k f) false ≡ false
        → get_or near (head_of k f) 0 ≤ code_of (over_of ks k f) k
    pub real : (v : ℕ) → v < places → get_or near v 0 < far → Leads ls ks v (get_or near v 0)
    pub above : (v : ℕ) → v < places → low ≤ get_or near v 0

  -- A code is offered to a place.
  module _ (ls : List Bool) (ks : List ℕ) (low e : ℕ) where
    lessened_least : (near : List ℕ) (v c u : ℕ) → v < length near → get_or (lessened near v c) u 0 ≤ get_or near u 0
    lessened_least near v c u l = by_cases (ltb c (get_or near v 0))
        (λ t. rw t (elim (ℕ_discrete u v) [
          | yes q ↦ rw (q, get_or-set_same near v c 0 l) (omega (arith, ltb-true c (get_or near v 0) t))
          | no q ↦ rw (get_or-set_other near v u c 0 q) (omega arith)
        ]))
        (λ t. rw t (omega arith))

    lessened_here : (near : List ℕ) (v c : ℕ) → v < length near → get_or (lessened near v c) v 0 ≤ c
    lessened_here near v c l = by_cases (ltb c (get_or near v 0)) (λ t. rw (t, get_or-set_same near v c 0 l) (omega arith)) (λ t. rw t (ltb-false _ _ t))

    -- A property of the old codes and of the new one.
    lessened_each : (P : ℕ → ℕ → Type 0) (near : List ℕ) (v c u : ℕ) → v < length near → P v c → P u (get_or near u 0) → P u (get_or (lessened near v c) u 0)
    lessened_each P near v c u l new old = by_cases (ltb c (get_or near v 0))
        (λ t. rw t (elim (ℕ_discrete u v) [ yes q ↦ rw (q, get_or-set_same near v c 0 l) new | no q ↦ rw (get_or-set_other near v u c 0 q) old ]))
        (λ t. rw t old)

    offered : (i : ℕ) (near : List ℕ) (v c : ℕ) → Nears ls ks low e i near → v < places → Leads ls ks v c → low ≤ c → Nears ls ks low e i (lessened near v c)
    offered i near v c h l w m = record {
      long = picked_long;
      least = λ k f b t s o. omega (arith, h.least k f b t s o, lessened_least near v c (head_of k f) small);
      real = λ u b. lessened_each (λ (u' c' : ℕ). c' < far → Leads ls ks u' c') near v c u small (λ o. w) (h.real u b);
      above = λ u b. lessened_each (λ (u' c' : ℕ). low ≤ c') near v c u small m (h.above u b);
    }
      where
        small : v < length near
        small = rw h.long l

        picked_long : length (lessened near v c) ≡ places
        picked_long = by_cases (ltb c (get_or near v 0)) (λ t. rw t (length-set near v c ∙ h.long)) (λ t. rw t h.long)

    -- Stream i counts as looked at once its codes from e are there.
    widen : (i : ℕ) (near : List ℕ) → Nears ls ks low e (suc i) near
        → ((f : Bool) → tail_of i f ≡ e → get_or ls (head_of i f) false ≡ false → get_or near (head_of i f) 0 ≤ code_of (over_of ks i f) i) → Nears ls ks low e i near
    widen i near h new = record {
      long = h.long;
      least = λ k f b t s o. elim (ℕ_discrete k i) [
        | yes q ↦ elim (ℕ_discrete (tail_of k f) e) [ yes z ↦ rw q (new f (rw q at z) (rw q at o)) | no z ↦ h.least k f b t (λ y. absurd (z y)) o ]
        | no q ↦ h.least k f b t (λ y. omega (arith, s y)) o
      ];
      real = h.real;
      above = h.above;
    }

    -- Stream i is looked at in direction f from place e, at distance j.
    module _ (heads : (k : ℕ) (f : Bool) → k < n → head_of k f < places) (marked : get_or ls e false ≡ true) (j : ℕ) (at : get_or ks e 0 ≡ j) (lower : low ≤ j * numbering) where
      along : (i : ℕ) (f : Bool) (near : List ℕ) → i < n → tail_of i f ≡ e → ((g : Bool) → tail_of i g ≡ e → get_or ls (head_of i g) false ≡ false → g ≡ f) → Nears ls ks low e (suc i) near
          → Nears ls ks low e i (relaxed_along ls j (head_of i f) (reduced_cost_of i f) i near)
      unfolding relaxed_along
      along i f near l t only h = by_cases (get_or ls (head_of i f) false)
          (λ o. rw o (widen i near h (λ g y z. clash _ o (ap (λ (b : Bool). get_or ls (head_of i b) false) (sym (only g y z)) ∙ z))))
          (λ o. rw o (widen i (lessened near (head_of i f) (code_of (j + reduced_cost_of i f) i))
          (offered (suc i) near (head_of i f) (code_of (j + reduced_cost_of i f) i) h (heads i f l) (lead o) (omega (arith, lower)))
          (λ g y z. rw (only g y z, t, at) (lessened_here near (head_of i f) (code_of (j + reduced_cost_of i f) i) (rw h.long (heads i f l))))))
        where
          lead : get_or ls (head_of i f) false ≡ false → Leads ls ks (head_of i f) (code_of (j + reduced_cost_of i f) i)
          lead o = record { stream = i; forwards = f; below = l; tail = rw t marked; head = refl; off = o; is = rw (t, at) }

      looked : (i : ℕ) (near : List ℕ) → i < n → Nears ls ks low e (suc i) near → Nears ls ks low e i (relaxed_at fs ts gs bs ls j e i near)
      unfolding relaxed_at
      looked i near l h = by_cases (eqb (get_or fs i 0) e)
          (λ t. rw t (along i true near l (eqb-true _ _ t) (first (eqb-true _ _ t)) h))
          (λ t. rw t (by_cases (eqb (get_or ts i 0) e)
          (λ s. rw s (along i false near l (eqb-true _ _ s) (second (eqb-false _ _ t)) h))
          (λ s. rw s (widen i near h (neither (eqb-false _ _ t) (eqb-false _ _ s))))))
        where
          first : get_or fs i 0 ≡ e → (g : Bool) → tail_of i g ≡ e → get_or ls (head_of i g) false ≡ false → g ≡ true
          first q true y z = refl
          first q false y z = clash _ (rw q marked) z

          second : (get_or fs i 0 ≡ e → ⊥) → (g : Bool) → tail_of i g ≡ e → get_or ls (head_of i g) false ≡ false → g ≡ false
          second q true y z = absurd (q y)
          second q false y z = refl

          neither : (get_or fs i 0 ≡ e → ⊥) → (get_or ts i 0 ≡ e → ⊥) → (f : Bool) → tail_of i f ≡ e → get_or ls (head_of i f) false ≡ false
              → get_or near (head_of i f) 0 ≤ code_of (over_of ks i f) i
          neither p q true y z = absurd (p y)
          neither p q false y z = absurd (q y)

      -- Once all streams are looked at, the codes are the least.
      pub relaxed_good : (i : ℕ) (near : List ℕ) → i ≤ n → Nears ls ks low e i near → Nears ls ks low e 0 (relaxed_to fs ts gs bs ls j e i near)
      unfolding relaxed_to
      relaxed_good zero near l h = h
      relaxed_good (suc i) near l h = relaxed_good i (relaxed_at fs ts gs bs ls j e i near) (omega arith) (looked i near (omega arith) h)

  -- The nearest place r is visited, at a distance from which no code is below `more`.
  pub next_good : (ls : List Bool) (ks js : List ℕ) (low e : ℕ) (near : List ℕ) (r more : ℕ) → Nears ls ks low e 0 near → r < places → length ls ≡ places
      → get_or ls r false ≡ false → ((u : ℕ) → (u ≡ r → ⊥) → get_or js u 0 ≡ get_or ks u 0) → more ≤ far → ((v : ℕ) → v < places → more ≤ get_or near v 0)
      → Nears (set ls r true) js more r n (set near r far)
  next_good ls ks js low e near r more h l long off same top lower = record {
    long = length-set near r far ∙ h.long;
    least = λ k f b t s o.
        let p : (tail_of k f ≡ r → ⊥) = λ q. omega (arith, s q) in
        let q : (head_of k f ≡ r → ⊥) = λ y. clash _ (ap (λ (v : ℕ). get_or (set ls r true) v false) y ∙ get_or-set_same ls r true false (rw long l)) o in
        rw (get_or-set_other near r (head_of k f) far 0 q, same (tail_of k f) p)
        (h.least k f b (sym (get_or-set_other ls r (tail_of k f) true false p) ∙ t) (λ y. omega arith) (sym (get_or-set_other ls r (head_of k f) true false q) ∙ o));
    real = λ v b. elim (ℕ_discrete v r) [
      | yes q ↦ rw (q, get_or-set_same near r far 0 (rw h.long l)) (λ o. absurd (omega arith))
      | no q ↦ rw (get_or-set_other near r v far 0 q) (λ o. moved v q (h.real v b o))
    ];
    above = λ v b. elim (ℕ_discrete v r) [
      | yes q ↦ rw (q, get_or-set_same near r far 0 (rw h.long l)) top
      | no q ↦ rw (get_or-set_other near r v far 0 q) (lower v b)
    ];
  }
    where
      moved : (v : ℕ) → (v ≡ r → ⊥) → Leads ls ks v (get_or near v 0) → Leads (set ls r true) js v (get_or near v 0)
      moved v q w =
          let p : (tail_of w.stream w.forwards ≡ r → ⊥) = λ y. clash _ w.tail (ap (λ (u : ℕ). get_or ls u false) y ∙ off) in
          record {
            stream = w.stream;
            forwards = w.forwards;
            below = w.below;
            tail = get_or-set_other ls r (tail_of w.stream w.forwards) true false p ∙ w.tail;
            head = w.head;
            off = get_or-set_other ls r v true false q ∙ w.off;
            is = rw (same (tail_of w.stream w.forwards) p) w.is;
          }
