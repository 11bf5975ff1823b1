-- What a call that sends a packet leaves: the packets that one call builds, and closing one that was built in pieces.
-- The C boundary: a refusal writes nothing; the definitions of `writer` and `closing` say all else.
-- Assumes nothing.
use Rattle.std.specs.Prelude.{List, [], ◌∷◌, ℕ, length}
use Rattle.wire.specs.Refusal.{out_of_range}
use Rattle.connection.specs.declared.Connection.{Connection}
use Rattle.connection.specs.declared.Kind.{Kind}
use Rattle.building.specs.Fault.{unless, or_else, first_fault}
use Rattle.building.specs.Call.{Call, with_fault, outcome, buffer_after}
use Rattle.building.specs.Sent.{Written}
use Rattle.building_record.specs.Record.{built_kind}
use Rattle.writer.specs.Sending.{cping_call, cpong_call, body_call, chunk_call, get_call, end_call}
use Rattle.closing.specs.Closing.{close_outcome, close_buffer}
use Rattle.words.specs.Number.{is_flag, flag_in, number_fault}
use Rattle.words.specs.ConnectionWords.{connection_fault, connection_in}
use Rattle.words.specs.BuildingWords.{building_fault, building_in}
use Rattle.answers.specs.Answer.{answer_fault}
use Rattle.answers.specs.Effect.{Effect, checked, call_fault}
use Rattle.answers.specs.Told.{after_sending}

-- a packet that one call builds
abbrev pub send_effect : ℕ → Kind → Call Written → List ℕ → List ℕ → List ℕ → Effect
send_effect fault kind call connection buffer answer =
    checked fault connection buffer answer
    (after_sending kind (outcome call (length buffer)) connection (buffer_after call buffer) answer)

unfoldable pub cping_effect : List ℕ → List ℕ → List ℕ → Effect
cping_effect connection buffer answer =
    send_effect (call_fault connection answer) Kind.CPing (cping_call (connection_in connection)) connection buffer answer

unfoldable pub cpong_effect : List ℕ → List ℕ → List ℕ → Effect
cpong_effect connection buffer answer =
    send_effect (call_fault connection answer) Kind.CPong (cpong_call (connection_in connection)) connection buffer answer

unfoldable pub body_effect : List ℕ → List ℕ → List ℕ → List ℕ → Effect
body_effect connection buffer bytes answer =
    send_effect (call_fault connection answer) Kind.Body (body_call (connection_in connection) bytes) connection buffer answer

unfoldable pub chunk_effect : List ℕ → List ℕ → List ℕ → List ℕ → Effect
chunk_effect connection buffer bytes answer =
    send_effect (call_fault connection answer) Kind.BodyChunk (chunk_call (connection_in connection) bytes) connection buffer answer

unfoldable pub get_effect : List ℕ → List ℕ → ℕ → List ℕ → Effect
get_effect connection buffer asked answer =
    send_effect (or_else (call_fault connection answer) (number_fault asked)) Kind.GetBody (get_call (connection_in connection) asked)
    connection buffer answer

-- an End: 13, then 7 for a word that is no boolean
abbrev pub reuse_fault : ℕ → ℕ
reuse_fault reuse = unless (is_flag reuse) out_of_range

abbrev pub end_of : Connection → ℕ → Call Written
end_of c reuse = with_fault (end_call c (flag_in reuse)) (reuse_fault reuse)

unfoldable pub end_effect : List ℕ → List ℕ → ℕ → List ℕ → Effect
end_effect connection buffer reuse answer =
    send_effect (call_fault connection answer) Kind.End (end_of (connection_in connection) reuse) connection buffer answer

-- the faults that closing looks for first
unfoldable pub close_fault : List ℕ → List ℕ → List ℕ → ℕ
close_fault connection building answer =
    first_fault (connection_fault connection ∷ building_fault building ∷ answer_fault answer ∷ [])

-- closing the packet that a building record says
unfoldable pub close_effect : List ℕ → List ℕ → List ℕ → List ℕ → Effect
close_effect connection building buffer answer =
    checked (close_fault connection building answer) connection buffer answer
    (after_sending (built_kind (building_in building).kind) (close_outcome (connection_in connection) (building_in building) buffer) connection
    (close_buffer (connection_in connection) (building_in building) buffer)
    answer)
