-- Three parts, one behind the other.
use native.Mathlib.Omega.{arith}
use Rattle.num_bytes.proofs.Parts.{returned}
use Rattle.plant_write.proofs.Loops.{Streamed, streamed, end_room, plant_put}
use Rattle.plant_write.proofs.put_plant.Goals as goal
use Rattle.plant_write.proofs.put_plant.Goals.{After-put_streams-at}

-- The site record and the streams are written.
behind : (c : After-put_streams-at) → let p = c.args.p.now in
    Streamed p.units p.count p.streams c.args.out.now (returned 2 c.put_pair.new.out c.put_streams-at.new.out) c.put_streams-at.result
behind c =
    let p = c.args.p.now in
    streamed p.units p.count p.streams c.args.out.now c.requires.0 (omega arith) c.requires.1 c.put_pair.ensures c.put_streams-at.ensures

pub put_pair-requires-2 : goal.put_pair-requires-2
put_pair-requires-2 c = end_room (behind (goal.at.put_pair-requires-2 c).After-put_streams-at)

pub returns : goal.returns
returns c = plant_put (behind (goal.at.returns c).After-put_streams-at) c.put_pair-2.new.out c.put_pair-2.ensures
