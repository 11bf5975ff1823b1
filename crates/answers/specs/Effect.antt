-- What a call over a connection leaves: its status, and every array that it was lent for writing as it is then.
-- The C boundary: an error writes nothing, and of several errors the first is told.
-- Assumes nothing.
use Rattle.std.specs.Prelude.{List, [], ◌∷◌, ℕ, eqb}
use Rattle.wire.specs.Pick.{pick}
use Rattle.wire.specs.Refusal.{none}
use Rattle.building.specs.Fault.{first_fault}
use Rattle.words.specs.ConnectionWords.{connection_fault}
use Rattle.answers.specs.Answer.{answer_fault}

-- the status; the connection's words; the table that is filled or the buffer that is written into; the answer's words
pub record Effect : Type 0 where
  pub status : ℕ
  pub connection : List ℕ
  pub lent : List ℕ
  pub answer : List ℕ

abbrev pub leaves : ℕ → List ℕ → List ℕ → List ℕ → Effect
leaves status connection lent answer = record {
  status = status;
  connection = connection;
  lent = lent;
  answer = answer;
}

-- a call by the fault that is found first: with none it leaves what it comes to, else that fault and all arrays as they were
abbrev pub checked : ℕ → List ℕ → List ℕ → List ℕ → Effect → Effect
checked fault connection lent answer effect = pick (eqb fault none) effect (leaves fault connection lent answer)

-- the fault of a connection and of an array lent for an answer
unfoldable pub call_fault : List ℕ → List ℕ → ℕ
call_fault connection answer = first_fault (connection_fault connection ∷ answer_fault answer ∷ [])
