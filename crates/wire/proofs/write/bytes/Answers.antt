-- `wire::write::bytes` meets its contract: one byte more is copied at each turn.
-- Assumes nothing.
use borrow.Author.Rules.{rules}
use Rattle.wire.proofs.Copying.{copying_front}
use Rattle.wire.proofs.write.bytes.Goals as goal

pub loop-i-preserved : goal.loop-i-preserved
loop-i-preserved c =
    let here = c.loop-i in
    copying_front c.args.buffer.now c.args.at c.args.from.now here.buffer here.i here.invariant _ _ c.copy_from_slice.ensures.after (search rules) c.requires.0
