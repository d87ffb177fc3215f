-- The file is read out, and taken where there is no argument and no read of it failed.
use mathlib.Core.Path.{sym, subst}
use lib.IntN.{pos}
use mir.Val.{SFits, to_z, of_z}
use mir.Syntax.{w64}
use mir.Facts.{to_z-of_z}
use borrow.Author.Rules.{rules}
use Rattle.programs.specs.Reads.{ReadOut}
use Rattle.programs.proofs.Answers.{many_words, one_word}
use Rattle.programs.proofs.plant_file.Goals as goal

pub returns-then-words-gt1 : goal.returns-then-words-gt1
returns-then-words-gt1 g c = record {
  fed_says = record { room = search rules; ended = λ l. search rules; takes = many_words _ (pos 0) c.if-words-gt1.true };
  prefix_len = search rules;
}

pub returns : goal.returns
returns g c =
    let f : SFits w64 c.read_input-input.result.last = search rules in
    record {
      fed_says = record {
        room = search rules;
        ended = (subst (ReadOut c.read_input-input.new.file c.read_input-input.result.size) (sym (to_z-of_z f)) c.read_input-input.ensures.read_out).ended;
        takes = one_word _ (to_z w64 (of_z w64 c.read_input-input.result.last)) c.if-words-gt1.false;
      };
      prefix_len = c.read_input-input.ensures.prefix_len;
    }
