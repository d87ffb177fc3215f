-- The cost, then a byte behind it and another.
use native.Mathlib.Omega.{arith}
use mathlib.Core.Path.{ap, ◌∙◌}
use mathlib.Core.List.{List, [], ◌∷◌, append_assoc}
use Prim.Native.Nat.{ℕ}
use Rattle.num_bytes.specs.Bytes.{put_be, over}
use Rattle.num_bytes.proofs.Parts.{laid, lay}
use Rattle.sheet_write.proofs.put_cost.Goals as goal

pub returns : goal.returns
returns c =
    let a = c.args in
    let cost = laid (put_be 8 a.cost) a.out.now (omega arith) c.put_u64.ensures in
    let degrees = lay cost (a.degrees ∷ []) (omega arith) c.put_u8.ensures in
    (lay degrees (a.verdict ∷ []) (omega arith) c.put_u8-2.ensures).bytes
    ∙ ap (λ (l : List ℕ). over l a.out.now) (append_assoc (put_be 8 a.cost) (a.degrees ∷ []) (a.verdict ∷ []))
