-- What a call leaves, by what the library answered: reading, sending a packet, and adding a piece.
-- The C boundary: where a call is done the words of the next record are written; a refusal writes nothing, and "needs" the answer alone.
-- Assumes nothing.
use Rattle.std.specs.Prelude.{List, ℕ, Result, Ok, Err}
use Rattle.connection.specs.declared.Kind.{Kind}
use Rattle.building.specs.Call.{Outcome, refused, done}
use Rattle.building.specs.Sent.{Written}
use Rattle.building_record.specs.declared.Building.{Building}
use Rattle.reader.specs.declared.Received.{Received}
use Rattle.reader.specs.Meaning as read
use Rattle.words.specs.Status as status
use Rattle.words.specs.ConnectionWords.{connection_words}
use Rattle.words.specs.BuildingWords.{building_words}
use Rattle.answers.specs.Answer.{needs_words, written_words, packet_words}
use Rattle.answers.specs.Effect.{Effect, leaves}

-- what a call that is done or refused says, by the number that what it is refused with tells
abbrev pub done_by : {E : Type 0} → (E → ℕ) → Result Unit E → ℕ
done_by number (Err fault) = number fault
done_by number (Ok nothing) = status.done

-- and one that tells a number
abbrev pub told_by : {E : Type 0} → (E → ℕ) → Result ℕ E → ℕ
told_by number (Err fault) = number fault
told_by number (Ok told) = told

-- what reading answered, what sending a packet and what adding a piece, in the same way
abbrev pub received_by : {E : Type 0} → (E → ℕ) → Result Received E → read.Meaning
received_by number (Err fault) = read.refused (number fault)
received_by number (Ok received) = read.answer_meaning received

abbrev pub sent_by : {E : Type 0} → (E → ℕ) → Result Written E → Outcome Written
sent_by number (Err fault) = refused (number fault)
sent_by number (Ok written) = done written

abbrev pub added_by : {E : Type 0} → (E → ℕ) → Result Building E → Outcome Building
added_by number (Err fault) = refused (number fault)
added_by number (Ok r) = done r

-- by the reader's answer, with the table as the reader leaves it
abbrev pub after_reading : read.Meaning → List ℕ → List ℕ → List ℕ → Effect
after_reading (read.needs n) connection table answer = leaves status.needs connection table (needs_words n)
after_reading (read.refused n) connection table answer = leaves n connection table answer
after_reading (read.accepted packet taken after) connection table answer = leaves status.done (connection_words after) table (packet_words packet taken)

-- by what sending a packet of a kind comes to, with the buffer as it is then
abbrev pub after_sending : Kind → Outcome Written → List ℕ → List ℕ → List ℕ → Effect
after_sending kind (refused n) connection buffer answer = leaves n connection buffer answer
after_sending kind (done w) connection buffer answer =
    leaves status.done (connection_words w.connection) buffer (written_words kind w.size)

-- what a piece leaves: its status, the words of the building record and the buffer
pub record PieceEffect : Type 0 where
  pub status : ℕ
  pub building : List ℕ
  pub buffer : List ℕ

abbrev pub piece_leaves : ℕ → List ℕ → List ℕ → PieceEffect
piece_leaves status building buffer = record {
  status = status;
  building = building;
  buffer = buffer;
}

-- by what adding a piece comes to, with the buffer as it is then: a refusal's number and the words as they were, or done and those of the
-- next record
abbrev pub after_adding : Outcome Building → List ℕ → List ℕ → PieceEffect
after_adding (refused n) building buffer = piece_leaves n building buffer
after_adding (done r) building buffer = piece_leaves status.done (building_words r) buffer
