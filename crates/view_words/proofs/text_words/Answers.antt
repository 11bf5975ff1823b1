-- `text_words` meets its contract, word by word.
-- Assumes nothing.
use mathlib.Core.Path.{ap, ◌∙◌}
use native.Mathlib.Omega.{arith}
use lib.ListN.{length}
use Rattle.views.proofs.Laws.{null_is}
use Rattle.words.proofs.Flags.{flag_word}
use Rattle.view_words.proofs.Views.{start_least, text_most, words_are}
use Rattle.wire.specs.Field.{boolean_number}
use Rattle.view_words.proofs.text_words.Goals as goal

pub overflow_cast-size : goal.overflow_cast-size
overflow_cast-size c = omega (arith, ap length c.requires.1, text_most c.args.packet.now c.args.at, c.length_at-null.ensures)

pub returns : goal.returns
returns c =
    let l = c.length_at-null in
    words_are _ _ (c.min-start.ensures ∙ start_least _ _) (ap length c.requires.1)
    (c.from.ensures ∙ flag_word _ ∙ ap boolean_number (null_is _ _ _ l.ensures))
