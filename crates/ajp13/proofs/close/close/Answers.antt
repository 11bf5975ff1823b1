-- `close::close` meets its contract: the packet is closed, and what that came to is told.
-- Assumes nothing.
use mathlib.Core.Path.{◌≡◌}
use Rattle.std.proofs.Common.{arith}
use Rattle.std.proofs.lemmas.Grind.{common_steps}
use Rattle.words.specs.ConnectionWords.{connection_fault, connection_in}
use Rattle.words.specs.BuildingWords.{building_fault, building_in}
use Rattle.answers.specs.Answer.{answer_fault}
use Rattle.ajp13.specs.Sending.{close_effect, close_fault}
use Rattle.ajp13.proofs.close.close.Goals as goal

pub returns : goal.returns
unfolding close_effect close_fault connection_fault building_fault answer_fault
returns c =
    let a = c.args in
    let told = c.tell_written.ensures c.close-sent.new.buffer in
    let held : c.connection_in.result ≡ connection_in a.connection.now = grind (arith, common_steps) in
    let built : c.building_in-record.result ≡ building_in a.building.now = grind (arith, common_steps) in
    grind (arith, common_steps)
