-- `read::read_at` meets its contract: a packet that goes the short way is told of as that answers, and every other packet is read as any.
-- Assumes nothing.
use mathlib.Core.Path.{◌≡◌, ap, ◌∙◌}
use Rattle.std.proofs.Common.{arith, Ok}
use Rattle.std.proofs.lemmas.Grind.{common_steps}
use Rattle.words.specs.ConnectionWords.{connection_fault, connection_in}
use Rattle.answers.specs.Answer.{answer_fault}
use Rattle.answers.specs.Effect.{call_fault}
use Rattle.ajp13.specs.Reading.{read_effect}
use Rattle.ajp13.proofs.Effects.{refused_sound, part_sound, part_within}
use Rattle.ajp13.proofs.read.read_at.Goals as goal

pub returns-in_err-read : goal.returns-in_err-read
unfolding connection_fault answer_fault call_fault read_effect
returns-in_err-read g c =
    let a = c.args in
    let held : c.connection_in.result ≡ connection_in a.connection.now = grind (arith, common_steps) in
    let sound = refused_sound a.direction g.of a.connection.now a.bytes.now a.table.now a.answer.now (c.requires.1.answers _ _ _ c.short.ensures) held c.in_err-read.was in
    grind (arith, common_steps)

pub tell_part-requires : goal.tell_part-requires
unfolding connection_fault
tell_part-requires g c =
    let a = c.args in
    let held : c.connection_in.result ≡ connection_in a.connection.now = grind (arith, common_steps) in
    part_within a.direction g.of a.connection.now a.bytes.now a.table.now a.answer.now (c.requires.1.answers _ _ _ c.short.ensures) held (c.in_ok-read.was ∙ ap Ok c.in-Some.is)

pub returns-in-Some : goal.returns-in-Some
unfolding connection_fault answer_fault call_fault read_effect
returns-in-Some g c =
    let a = c.args in
    let read = c.in-Some.read in
    let held : c.connection_in.result ≡ connection_in a.connection.now = grind (arith, common_steps) in
    let sound = part_sound a.direction g.of a.connection.now a.bytes.now a.table.now a.answer.now (c.requires.1.answers _ _ _ c.short.ensures) held (c.in_ok-read.was ∙ ap Ok c.in-Some.is) in
    let told = c.requires.1.told read.part read.taken in
    grind (arith, common_steps)
