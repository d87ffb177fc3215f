-- The tie pass: after stream i no equally cheap flow with the same amounts before has less on it.
use mathlib.Core.Path.{◌≡◌, refl, sym, ◌∙◌, ap, subst}
use mathlib.Core.Bool.{Bool, true, false, ◌&&◌, not}
use mathlib.Core.List.{List}
use lib.IntN.{ℤ}
use Prim.Native.Nat.{ℕ, zero, suc, ◌+◌, ◌-◌, ◌*◌, ◌≤◌, ◌<◌}
use native.Mathlib.Nat.{le_antisymm}
use native.Mathlib.Omega.{arith}
use native.Mathlib.Decide.{ℕ_discrete}
use borrow.Author.Tests.{le-ltb, leb-false}
use lib.Dec.{ltb, leb}
use lib.ListN.{length, get_or}
use Rattle.num_bytes.specs.Choice.{pick}
use Rattle.num_bytes.proofs.Tests.{by_cases, clash}
use Rattle.plant_def.specs.declared.Stream.{Stream}
use Rattle.plant_def.specs.Plants.{Plant}
use Rattle.plant_def.specs.Within.{Within}
use Rattle.flow_def.specs.Flows.{stream_at, amount_at, allowed, cost, Cheapest}
use Rattle.flow_def.specs.Certificate.{weight_of}
use Rattle.num_bytes.proofs.Integers.{Le}
use Rattle.flow_def.proofs.Potentials.{Certificate, least}
use Rattle.flow_def.proofs.Order.{AgreeTo}
use Rattle.flow_def.proofs.Ties as Ties
use Rattle.flow_def.proofs.Ties.{Stays, stays_least, first_cheapest}
use Rattle.solve_def.specs.Sizes.{settled_room}
use Rattle.solve_def.specs.Held.{unshifted, opened, reading_of}
use Rattle.solve_def.specs.ReducedCosts.{reduced_cost_by, reduced_cost_at}
use Rattle.solve_def.proofs.Amounts.{opened_at}
use Rattle.solve_def.proofs.Least.{Usable, start_in, end_in}
use Rattle.solve_def.specs.Model.{tied_at, ties_to}
use Rattle.solve_def.specs.Promise.{potential_at}
use Rattle.solve_def.specs.SolverNeeds.{Even}
use Rattle.solve_def.proofs.Bounds.{HasRoom, room_or, unlimited, room_free, reduced_with_room, reduced_shut, weight_some}
use Rattle.solve_def.proofs.Streams.{Solvable}
use Rattle.solve_def.proofs.Certify.{no_less, no_more, certify}
use Rattle.solve_def.proofs.Detours.{Detour, Turn, free, strict, cut, round, turn, ties_even}

-- No flow as cheap as xs with the same metered amounts before stream k has less on it.
abbrev pub Tied : Plant → List ℤ → ℕ → Type 0
Tied p xs k = (stream_at p.streams k).metered ≡ true → (ys : List ℤ) → allowed p ys ≡ true → cost p.streams ys ≡ cost p.streams xs
    → AgreeTo k p.streams (amount_at xs) (amount_at ys) → Le (amount_at xs k) (amount_at ys k)

abbrev AllTied : Plant → ℕ → List ℕ → Type 0
AllTied p i xs = (k : ℕ) → k < i → Tied p (opened (length p.streams) xs) k

-- An unmetered stream has no reduced cost.
free_reduced : (b : Bool) (s : Stream) (x pu pv : ℕ) → s.metered ≡ false → HasRoom s b x 1 → pu ≡ pv → reduced_cost_by s b x pu pv 1 ≡ 0
free_reduced b s x pu pv e o q = reduced_with_room b s x pu pv 1 o ∙ go b (weight_of s) (rw e)
  where
    go : (b : Bool) (w : ℕ) → w ≡ 0
        → pick b ((2 * (w * x) + w * 1 + pu) - (pv + 2 * (w * reading_of s))) ((pv + 2 * (w * reading_of s) + w * 1) - (2 * (w * x) + pu)) ≡ 0
    go true w z = omega (arith, q, ap (λ k. k * x) z, ap (λ k. k * reading_of s) z)
    go false w z = omega (arith, q, ap (λ k. k * x) z, ap (λ k. k * reading_of s) z)

-- A stream that is not one of the metered ones up to i is usable after them.
settled_usable : (ss : List Stream) (i k : ℕ) → Ties.metered_to i k (stream_at ss k) ≡ false → Usable ss (suc i) k
settled_usable ss i k e = go (stream_at ss k).metered e
  where
    go : (b : Bool) → b && leb k i ≡ false → b && ltb k (suc i) ≡ false
    go true t = le-ltb k (suc i) (omega (arith, leb-false k i t))
    go false t = refl

module _ (p : Plant) (w : Within p) (v : Solvable p.streams) (ps : List ℕ) (i : ℕ) (li : i < length p.streams) where
  abbrev ss : List Stream
  ss = p.streams

  abbrev s : Stream
  s = stream_at p.streams i

  -- An even flow is certified; where the amount of stream i stays, it is tied.
  module _ (xs : List ℕ) (h : Even ss ps i xs) where
    long : length ss ≤ length xs
    long = omega (arith, h.long, v.plain.few)

    sure : Certificate p (opened (length ss) xs) (potential_at ps)
    sure = certify p w ps i xs h (omega arith)

    stays_tied : Stays ss (potential_at ps) (amount_at (opened (length ss) xs)) i → Tied p (opened (length ss) xs) i
    stays_tied t e ys b c a = stays_least p w (potential_at ps) (opened (length ss) xs) sure ys b (omega arith) i li a t

    -- No way leads round: the visited places are a cut.
    blocked : (ls : List Bool) → get_or ls s.from false ≡ true → get_or ls s.to false ≡ false
        → ((k : ℕ) → k < length ss → Usable ss (suc i) k → start_in ss ls k ≡ not (end_in ss ls k) → 0 < reduced_cost_at ss xs ps 1 k (start_in ss ls k))
        → Tied p (opened (length ss) xs) i
    blocked ls start end closed =
        stays_tied (Ties.cut (λ u. get_or ls u false) start end
        (λ k l u. record {
          out = λ a b. by_cases (stream_at ss k).metered
              (λ e. no_more p w ps i xs h (omega arith) k l e (leaves k l u a (a ∙ ap not (sym b))))
              (λ e. absurd (none k l e (closed k l (settled_usable ss i k u) (a ∙ ap not (sym b)))));
          back = λ a b. by_cases (stream_at ss k).metered
              (λ e. no_less p w ps i xs h (omega arith) k l e (enters k l u a (a ∙ ap not (sym b))))
              (λ e. absurd (none k l e (closed k l (settled_usable ss i k u) (a ∙ ap not (sym b)))));
        }))
      where
        leaves : (k : ℕ) → k < length ss → Ties.metered_to i k (stream_at ss k) ≡ false → start_in ss ls k ≡ true → start_in ss ls k ≡ not (end_in ss ls k)
            → 0 < reduced_cost_at ss xs ps 1 k true
        leaves k l u a c = subst (λ (b : Bool). 0 < reduced_cost_at ss xs ps 1 k b) a (closed k l (settled_usable ss i k u) c)

        enters : (k : ℕ) → k < length ss → Ties.metered_to i k (stream_at ss k) ≡ false → start_in ss ls k ≡ false → start_in ss ls k ≡ not (end_in ss ls k)
            → 0 < reduced_cost_at ss xs ps 1 k false
        enters k l u a c = subst (λ (b : Bool). 0 < reduced_cost_at ss xs ps 1 k b) a (closed k l (settled_usable ss i k u) c)

        none : (k : ℕ) → k < length ss → (stream_at ss k).metered ≡ false → 0 < reduced_cost_at ss xs ps 1 k (start_in ss ls k) → ⊥
        none k l e q =
            omega (
              arith,
              free_reduced (start_in ss ls k) (stream_at ss k) (get_or xs k 0) (get_or ps (stream_at ss k).from 0) (get_or ps (stream_at ss k).to 0) e
                  (room_free (start_in ss ls k) (stream_at ss k) (get_or xs k 0) 1 (settled_room + i) (unlimited (stream_at ss k) e)
                  (h.sized k (omega (arith, v.plain.few))) (omega (arith, v.plain.few)))
                  (h.agreed k l e),
            )

  all_tied : (xs : List ℕ) → AllTied p i xs → Tied p (opened (length ss) xs) i → AllTied p (suc i) xs
  all_tied xs t u k l = elim (ℕ_discrete k i) [ yes q ↦ rw q u | no q ↦ t k (omega arith) ]

  -- A detour keeps the cost and what is before, and stream i then cannot be less at no cost.
  module _ (xs ws : List ℕ) (h : Even ss ps i xs) (t : AllTied p i xs) (m : s.metered ≡ true) (d : Detour ss ps i xs ws) where
    long' : length ss ≤ length ws
    long' = omega (arith, d.even.long, v.plain.few)

    sure' : Certificate p (opened (length ss) ws) (potential_at ps)
    sure' = certify p w ps (suc i) ws d.even (omega arith)

    cost_same : cost ss (opened (length ss) ws) ≡ cost ss (opened (length ss) xs)
    cost_same =
        le_antisymm (least p w (potential_at ps) (opened (length ss) ws) sure' (opened (length ss) xs) (sure xs h).balance)
        (least p w (potential_at ps) (opened (length ss) xs) (sure xs h) (opened (length ss) ws) sure'.balance)

    kept : (k : ℕ) → k < i → (stream_at ss k).metered ≡ true → amount_at (opened (length ss) ws) k ≡ amount_at (opened (length ss) xs) k
    kept k l e =
        opened_at (length ss) ws k long' (omega arith)
        ∙ ap unshifted (d.kept k l e)
        ∙ sym (opened_at (length ss) xs k (long xs h) (omega arith))

    before : AllTied p i ws
    before k l e os b c f = rw (kept k l e) (t k l e os b (c ∙ cost_same) (λ j a z. sym (kept j (omega arith) z) ∙ f j a z))

    at_i : Tied p (opened (length ss) ws) i
    at_i e os b c a =
        stays_least p w (potential_at ps) (opened (length ss) ws) sure' os b (omega arith) i li a
        (Ties.strict (no_less p w ps (suc i) ws d.even (omega arith) i li m now))
      where
        weighed : 1 ≤ weight_of s
        weighed = rw (weight_some s m) (v.weighed i li m)

        -- Where it could still fall, its gap is twice its weight.
        now : 0 < reduced_cost_by s false (get_or ws i 0) (get_or ps s.from 0) (get_or ps s.to 0) 1
        now = room_or false s (get_or ws i 0) 1
            (λ o. omega (arith, reduced_with_room false s (get_or ws i 0) (get_or ps s.from 0) (get_or ps s.to 0) 1 o, ap (λ k. weight_of s * k) d.less, d.tight, weighed))
            (λ o. omega (arith, reduced_shut false s (get_or ws i 0) (get_or ps s.from 0) (get_or ps s.to 0) 1 o))

  tied_turn : (xs ws : List ℕ) → Even ss ps i xs → AllTied p i xs → Turn ss ps i xs ws → AllTied p (suc i) ws
  tied_turn xs _ h t (free m) = all_tied xs t (λ e. clash _ e m)
  tied_turn xs _ h t (strict m q) = all_tied xs t (stays_tied xs h (Ties.strict (no_less p w ps i xs h (omega arith) i li m q)))
  tied_turn xs _ h t (cut m ls a b c) = all_tied xs t (blocked xs h ls a b c)
  tied_turn xs _ h t (round m ws d) = all_tied ws (before xs ws h t m d) (at_i xs ws h t m d)

module _ (p : Plant) (w : Within p) (v : Solvable p.streams) (ps xs : List ℕ) (h : Even p.streams ps 0 xs) where
  ties_tied : (i : ℕ) → i ≤ length p.streams → AllTied p i (ties_to p.streams ps i xs)
  unfolding ties_to
  ties_tied zero l = λ k m. absurd (omega arith)
  ties_tied (suc i) l =
      let ys = ties_to p.streams ps i xs in
      let e = ties_even p.streams v ps xs h i (omega arith) in
      tied_turn p w v ps i (omega arith) ys (tied_at p.streams ps i ys) e (ties_tied i (omega arith)) (turn p.streams v ps i (omega arith) ys e)

  abbrev ys : List ℕ
  ys = ties_to p.streams ps (length p.streams) xs

  -- After the last stream the flow is level.
  pub ended : Even p.streams ps (length p.streams) ys
  ended = ties_even p.streams v ps xs h (length p.streams) (omega arith)

  -- After all streams the flow is certified, and the cheapest.
  pub tied_sure : Certificate p (opened (length p.streams) ys) (potential_at ps)
  tied_sure = certify p w ps (length p.streams) ys ended (omega arith)

  -- And it is the cheapest, ties by the lowest first metered stream.
  pub tied_cheapest : Cheapest p (opened (length p.streams) ys)
  tied_cheapest =
      first_cheapest p w (potential_at ps) (opened (length p.streams) ys) tied_sure
      (λ zs b e i l m a. ties_tied (length p.streams) (omega arith) i l m zs b e a)
