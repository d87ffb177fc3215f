-- The search by distances: for each place that is not visited, the stream by which the visited places come nearest to it. A stream
-- has two directions, forwards from its start to its end and backwards from its end to its start. In what follows fs are the starts
-- of streams, ts their ends, gs the reduced costs forwards and bs backwards.
use Rattle.std.specs.Prelude.{Bool, true, false, ◌||◌, List, [], ◌∷◌, ℕ, zero, suc, ◌+◌, ◌-◌, ◌*◌, ◌/◌, ◌%◌, eqb, ltb, get_or, set, replicate}
use Rattle.num_bytes.specs.Choice.{pick}
use Rattle.plant_def.specs.Limits.{places, max_streams}
use Rattle.solve_def.specs.declared.Tree.{Tree}
use Rattle.solve_def.specs.declared.Walked.{Walked}
use Rattle.solve_def.specs.Sizes.{net_shift, far, numbering}
use Rattle.solve_def.specs.Search.{fallen, added_to}

-- The last of the first n streams that starts or ends at place u; max_streams where there is none.
unfoldable pub last_at : List ℕ → List ℕ → ℕ → ℕ → ℕ
last_at fs ts u zero = max_streams
last_at fs ts u (suc n) = pick (eqb (get_or fs n 0) u || eqb (get_or ts n 0) u) n (last_at fs ts u n)

-- Twice its number, and one more where it starts there.
unfoldable pub arc_at : List ℕ → List ℕ → ℕ → ℕ → ℕ
arc_at fs ts u zero = 2 * max_streams
arc_at fs ts u (suc n) = pick (eqb (get_or fs n 0) u) (2 * n + 1) (pick (eqb (get_or ts n 0) u) (2 * n) (arc_at fs ts u n))

-- A distance k and the number i of the stream that leads there, as one number.
abbrev pub code_of : ℕ → ℕ → ℕ
code_of k i = k * numbering + i

-- The least code of each place, far where there is none; after code c was offered to place v.
abbrev pub lessened : List ℕ → ℕ → ℕ → List ℕ
lessened near v c = pick (ltb c (get_or near v 0)) (set near v c) near

-- After stream i, of reduced cost g, was looked at in the direction of place v, from a place at distance k; ls tells which places are visited.
unfoldable pub relaxed_along : List Bool → ℕ → ℕ → ℕ → ℕ → List ℕ → List ℕ
relaxed_along ls k v g i near = pick (get_or ls v false) near (lessened near v (code_of (k + g) i))

-- After it was looked at from place e.
unfoldable pub relaxed_at : List ℕ → List ℕ → List ℕ → List ℕ → List Bool → ℕ → ℕ → ℕ → List ℕ → List ℕ
relaxed_at fs ts gs bs ls k e i near =
    pick (eqb (get_or fs i 0) e) (relaxed_along ls k (get_or ts i 0) (get_or gs i 0) i near)
    (pick (eqb (get_or ts i 0) e) (relaxed_along ls k (get_or fs i 0) (get_or bs i 0) i near) near)

-- After the first n streams were, the last of them first.
unfoldable pub relaxed_to : List ℕ → List ℕ → List ℕ → List ℕ → List Bool → ℕ → ℕ → ℕ → List ℕ → List ℕ
relaxed_to fs ts gs bs ls k e zero near = near
relaxed_to fs ts gs bs ls k e (suc n) near = relaxed_to fs ts gs bs ls k e n (relaxed_at fs ts gs bs ls k e n near)

-- The first place of the first n with the least code, `places` where there is none.
unfoldable pub nearest_to : List ℕ → ℕ → ℕ
nearest_to near zero = places
nearest_to near (suc n) = let r = nearest_to near n in pick (ltb (get_or near n far) (get_or near r far)) n r

-- The same of all places, `places` also where its distance is above `limit`.
abbrev pub nearest_within : List ℕ → ℕ → ℕ
nearest_within near limit = pick (ltb limit (get_or near (nearest_to near places) far / numbering)) places (nearest_to near places)

-- The potentials when the search is at the distance k: a visited place's has fallen by what k exceeds its own distance.
unfoldable pub fallen_by : List Bool → List ℕ → ℕ → List ℕ → List ℕ
fallen_by [] ks k ps = ps
fallen_by (l ∷ ls) ks k [] = []
fallen_by (l ∷ ls) [] k (p ∷ ps) = fallen l k p ∷ fallen_by ls [] k ps
fallen_by (l ∷ ls) (j ∷ ks) k (p ∷ ps) = fallen l (k - j) p ∷ fallen_by ls ks k ps

-- Nets that make place v the one that is looked for.
abbrev pub goal_at : ℕ → List ℕ
goal_at v = set (replicate places net_shift) v 0

-- What a walk comes to: whether it visited a place that is looked for, its tree, the distances, and how far it came.
abbrev pub walked_by : Bool → Tree → List ℕ → ℕ → Walked
walked_by b t ks k = record { found = b; tree = t; dist = ks; reach = k }

-- From place e, visited last, at distance k: the nearest place is visited, again and again, at most `fuel` times, until a place with a
-- negative net is; es are the nets, and places at a distance above `limit` are left out.
unfoldable pub walked : List ℕ → List ℕ → List ℕ → List ℕ → ℕ → List ℕ → ℕ → ℕ → ℕ → ℕ → List ℕ → List ℕ → Tree → Walked
walked fs ts gs bs n es limit zero k e ks near t = walked_by false t ks k
walked fs ts gs bs n es limit (suc fuel) k e ks near t =
    let codes = relaxed_to fs ts gs bs t.visited k e n near in
    let r = nearest_to codes places in
    let j = get_or codes r 0 / numbering in
    let next = added_to t (get_or codes r 0 % numbering) r in
    pick (eqb r places) (walked_by false t ks k)
    (pick (ltb limit j) (walked_by false t ks k)
    (pick (ltb (get_or es r 0) net_shift) (walked_by true next (set ks r j) j)
    (walked fs ts gs bs n es limit fuel j r (set ks r j) (set codes r far) next)))
