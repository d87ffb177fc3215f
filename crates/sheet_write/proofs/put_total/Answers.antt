-- Kind, office and number, then the rest in the part behind them.
use native.Mathlib.Omega.{arith}
use mathlib.Core.List.{[], ◌∷◌, ◌++◌}
use Rattle.num_bytes.specs.Bytes.{put_be}
use Rattle.num_bytes.proofs.Parts.{laid, lay}
use Rattle.sheet_def.specs.Totals.{total_kind}
use Rattle.sheet_write.proofs.put_total.Goals as goal

pub returns : goal.returns
returns c =
    let a = c.args in
    let numbered = laid (total_kind ∷ a.office ∷ put_be 4 a.number) a.out.now (omega arith) c.put_number.ensures in
    (lay numbered (put_be 8 a.cost ++ (a.degrees ∷ a.verdict ∷ [])) (omega arith) c.put_cost.ensures).bytes
