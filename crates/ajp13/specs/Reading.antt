-- What a call that reads leaves. The connection steps and the answer is written where a packet is accepted; "needs" writes the answer alone,
-- and a refusal nothing.
-- The C boundary: the definitions of `reader` say all else.
-- Assumes nothing.
use Rattle.std.specs.Prelude.{List, ℕ, length}
use Rattle.packet.specs.declared.Direction.{Direction}
use Rattle.reader.specs.Reading.{reading, table_after}
use Rattle.words.specs.ConnectionWords.{connection_in}
use Rattle.answers.specs.Effect.{Effect, checked, call_fault}
use Rattle.answers.specs.Told.{after_reading}

-- what reading leaves where the call has no fault
abbrev pub sound_reading : Direction → List ℕ → List ℕ → List ℕ → List ℕ → Effect
sound_reading direction connection bytes table answer =
    after_reading (reading direction (connection_in connection) bytes (length table)) connection
    (table_after direction (connection_in connection) bytes table)
    answer

-- reading at the end to which packets of this direction go
unfoldable pub read_effect : Direction → List ℕ → List ℕ → List ℕ → List ℕ → Effect
read_effect direction connection bytes table answer =
    checked (call_fault connection answer) connection table answer (sound_reading direction connection bytes table answer)
