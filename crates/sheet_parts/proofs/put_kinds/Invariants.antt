-- Each turn hands over the next kind.
use Prim.Native.Nat.{ℕ}
use Rattle.sheet_def.specs.declared.Entry.{Entry}
use Rattle.sheet_def.specs.Sheets.{kind_of}
use Rattle.num_lent.proofs.Handing.{Handing}
use Rattle.sheet_parts.proofs.put_kinds.Given as goal

abbrev pub kind : Entry → ℕ
kind e = kind_of e.class

abbrev pub invariant-loop-k : goal.invariant-loop-k
invariant-loop-k l = Handing kind l.streams l.count l.initial.kinds l.kinds l.k
