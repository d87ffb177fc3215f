-- The search: place after place is visited, each over the stream of least reduced cost, until one is visited that is looked for.
use Rattle.std.specs.Prelude.{Bool, true, false, List, [], ◌∷◌, ℕ, zero, suc, ◌+◌, ◌-◌, eqb, ltb, leb, length, get_or, set, replicate}
use Rattle.num_bytes.specs.Choice.{pick}
use Rattle.plant_def.specs.declared.Stream.{Stream}
use Rattle.flow_def.specs.Flows.{stream_at}
use Rattle.solve_def.specs.declared.Tree.{Tree}
use Rattle.plant_def.specs.Limits.{places}
use Rattle.solve_def.specs.Sizes.{net_shift, farthest, search_rounds}
use Rattle.solve_def.specs.ReducedCosts.{Crossing, At, Nothing, least_to}

-- A potential p, lowered by g where its place is visited.
abbrev pub fallen : Bool → ℕ → ℕ → ℕ
fallen true g p = p - g
fallen false g p = p

-- The potentials, those of visited places lowered by g.
unfoldable pub lowered_by : List Bool → ℕ → List ℕ → List ℕ
lowered_by [] g ps = ps
lowered_by (l ∷ ls) g [] = []
lowered_by (l ∷ ls) g (p ∷ ps) = fallen l g p ∷ lowered_by ls g ps

-- The end of a stream that is not visited, where its start is.
abbrev pub far_end : List Bool → Stream → ℕ
far_end ls s = pick (get_or ls s.from false) s.to s.from

-- What each case of Crossing means.
abbrev pub on_crossing : {A : Type 0} → Crossing → A → (ℕ → ℕ → A) → A
on_crossing Nothing none at = none
on_crossing (At i g) none at = at i g

-- The tree of one place.
abbrev pub root_at : ℕ → Tree
root_at s = record { visited = set (replicate places false) s true; via = replicate places 0; ends = replicate places 0; len = 0 }

-- One place more: e, over stream i.
abbrev pub added_to : Tree → ℕ → ℕ → Tree
added_to t i e =
    record { visited = set t.visited e true; via = set t.via t.len i; ends = set t.ends t.len e; len = t.len + 1 }

-- The place visited last.
abbrev pub target : Tree → ℕ
target t = get_or t.ends (t.len - 1) 0

-- What a search comes to: whether it visited a place that is looked for, its tree, and the potentials.
pub record Grown : Type 0 where
  pub found : Bool
  pub tree : Tree
  pub potentials : List ℕ

-- A search by its parts.
abbrev pub grown_by : Bool → Tree → List ℕ → Grown
grown_by b t ps = record { found = b; tree = t; potentials = ps }

-- At step d, over the first n streams: the visited places' potentials fall by the least reduced cost, and its stream's far end is visited,
-- at most `fuel` times, until a place with a negative net is, or no stream that can move leaves the visited places. xs are the
-- amounts and es the nets.
unfoldable pub grow : List Stream → ℕ → List ℕ → List ℕ → ℕ → ℕ → List ℕ → Tree → Grown
grow ss n xs es d zero ps t = grown_by false t ps
grow ss n xs es d (suc fuel) ps t =
    on_crossing (least_to ss xs ps t.visited d 0 n) (grown_by false t ps)
    (λ i g.
    pick (leb farthest g) (grown_by false t ps)
    (pick (ltb (get_or es (far_end t.visited (stream_at ss i)) 0) net_shift)
    (grown_by true (added_to t i (far_end t.visited (stream_at ss i))) (lowered_by t.visited g ps))
    (grow ss n xs es d fuel (lowered_by t.visited g ps) (added_to t i (far_end t.visited (stream_at ss i))))))

-- The same from place s, with the potentials as they were where no such place was found.
unfoldable pub sought : List Stream → List ℕ → List ℕ → List ℕ → ℕ → ℕ → Grown
sought ss xs es ps d s =
    let g = grow ss (length ss) xs es d search_rounds ps (root_at s) in
    grown_by g.found g.tree (pick g.found g.potentials ps)

-- At step 1, over streams without reduced cost only, metered ones before number skip left alone, until the place v is visited.
unfoldable pub tight_path : List Stream → ℕ → List ℕ → List ℕ → ℕ → ℕ → ℕ → Tree → Grown
tight_path ss n xs ps v skip zero t = grown_by false t ps
tight_path ss n xs ps v skip (suc fuel) t =
    on_crossing (least_to ss xs ps t.visited 1 skip n) (grown_by false t ps)
    (λ i g.
    pick (ltb 0 g) (grown_by false t ps)
    (pick (eqb (far_end t.visited (stream_at ss i)) v)
    (grown_by true (added_to t i (far_end t.visited (stream_at ss i))) ps)
    (tight_path ss n xs ps v skip fuel (added_to t i (far_end t.visited (stream_at ss i))))))
