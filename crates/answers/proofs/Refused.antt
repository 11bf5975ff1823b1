-- What is told of a call that is refused with a `Refusal` is what its answer means where the library is called.
-- Assumes nothing.
use mathlib.Core.Path.{◌≡◌, refl}
use Rattle.std.specs.Prelude.{Result, Ok, Err}
use Rattle.wire.specs.Refusal.{number_of}
use Rattle.wire.specs.declared.refusal.Refusal.{Refusal}
use Rattle.building.specs.Sent.{Written, sent_outcome}
use Rattle.building_record.specs.declared.Building.{Building}
use Rattle.pieces.specs.Meaning.{added_outcome}
use Rattle.reader.specs.declared.Received.{Received}
use Rattle.reader.specs.Meaning.{received_meaning}
use Rattle.answers.specs.Told.{received_by, sent_by, added_by}

-- reading
pub received_same : (r : Result Received Refusal) → received_by number_of r ≡ received_meaning r
received_same (Err refusal) = refl
received_same (Ok received) = refl

-- sending
pub sent_same : (r : Result Written Refusal) → sent_by number_of r ≡ sent_outcome r
sent_same (Err refusal) = refl
sent_same (Ok written) = refl

-- adding a piece
pub added_same : (r : Result Building Refusal) → added_by number_of r ≡ added_outcome r
added_same (Err refusal) = refl
added_same (Ok r) = refl
