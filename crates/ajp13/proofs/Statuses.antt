-- What a call returns is done, the number of a refusal, needs or an error: below 65536 nothing but 0 and the numbers of document 01.
-- Assumes nothing.
use native.Mathlib.Omega.{arith}
use mathlib.Core.Path.{◌≡◌, refl}
use mathlib.Core.Bool.{Bool, true, false}
use mathlib.Core.List.{List}
use Prim.Native.Nat.{ℕ}
use lib.Dec.{leb, eqb}
use lib.ListN.{length}
use Rattle.wire.specs.Pick.{pick, either}
use Rattle.wire.specs.Refusal.{out_of_range, is_refusal}
use Rattle.packet.specs.declared.Direction.{Direction}
use Rattle.connection.specs.declared.Connection.{Connection}
use Rattle.connection.specs.declared.Kind.{Kind}
use Rattle.building.specs.Fault.{or_else, first_fault}
use Rattle.building.specs.Call.{Call, Outcome, refused, done, outcome, buffer_after, Numbered}
use Rattle.building.specs.Sent.{Written}
use Rattle.building.proofs.Refusals.{unless_fault}
use Rattle.building_record.specs.Record.{built_kind}
use Rattle.building_record.specs.declared.Building.{Building}
use Rattle.pieces.specs.Fixed.{forward_call}
use Rattle.pieces.proofs.Refusals.{piece_refusals}
use Rattle.reader.specs.Meaning as read
use Rattle.reader.specs.Reading.{reading, table_after}
use Rattle.reading_laws.proofs.Refusals.{reading_refusal}
use Rattle.writer.specs.Sending.{cping_call, cpong_call, body_call, chunk_call, get_call, end_call}
use Rattle.writer.proofs.Refusals.{sent_refusals}
use Rattle.closing.specs.Closing.{close_outcome, close_buffer}
use Rattle.closing.proofs.Refusals.{close_refusal}
use Rattle.words.specs.Status as status
use Rattle.words.specs.Status.{is_error_or_none, is_status}
use Rattle.words.specs.Number.{word, last_flag, flag_in, capped, flag_fault, number_fault}
use Rattle.words.specs.ConnectionWords.{connection_fault, connection_in}
use Rattle.words.specs.BuildingWords.{building_room, building_fault, building_in}
use Rattle.words.specs.FixedWords.{ssl_place, fixed_fault, ssl_fault, numbers_in, nulls_in}
use Rattle.words.proofs.Errors.{unless_error, or_error, flag_error, number_error, room_error, connection_error, building_error, fixed_error}
use Rattle.checking_words.specs.CheckingWords.{checking_room, checking_fault, checked_fault, finish_fault}
use Rattle.checking_words.proofs.Laws.{checking_error, checking_room_error, checked_error, finish_error}
use Rattle.answers.specs.Answer.{answer_size, answer_fault}
use Rattle.answers.specs.Effect.{Effect, leaves, checked, call_fault}
use Rattle.answers.specs.Told.{after_reading, after_sending, piece_leaves, after_adding}
use Rattle.ajp13.specs.Reading.{read_effect}
use Rattle.ajp13.specs.Sending.{send_effect, cping_effect, cpong_effect, body_effect, chunk_effect, get_effect, end_effect, reuse_fault, end_of, close_fault, close_effect}
use Rattle.ajp13.specs.Piece.{Piece, piece_effect, forward_piece, send_headers_piece, coded_piece, spelled_piece, named_piece, text_piece, integer_piece, pair_piece}
use Rattle.building.proofs.WithFault.{with_numbered}

-- an error is a status, and so is a refusal
error_status : (n : ℕ) → is_error_or_none n ≡ true → is_status n ≡ true
error_status n e = go (eqb n 0) (is_refusal n) (eqb n 0x10000) _ e
  where
    go : (none refusal needed error : Bool) → either none error ≡ true → either (either none refusal) (either needed error) ≡ true
    go true refusal needed error e = refl
    go false true needed error e = refl
    go false false true error e = refl
    go false false false error e = e

refusal_status : (n : ℕ) → is_refusal n ≡ true → is_status n ≡ true
refusal_status n e = go (eqb n 0) (is_refusal n) _ e
  where
    go : (none refusal other : Bool) → refusal ≡ true → either (either none refusal) other ≡ true
    go true refusal other e = refl
    go false true other e = refl
    go false false other e = absurd (let z : ◌≡◌ {A = ℕ} 0 1 = cc in omega arith)

-- a call by its fault
checked_status : (fault : ℕ) (connection lent answer : List ℕ) (effect : Effect) → is_error_or_none fault ≡ true → is_status effect.status ≡ true
    → is_status (checked fault connection lent answer effect).status ≡ true
checked_status fault connection lent answer effect e s = go (eqb fault 0)
  where
    go : (t : Bool) → is_status (pick t effect (leaves fault connection lent answer)).status ≡ true
    go true = s
    go false = error_status fault e

-- the faults that are looked for first are errors
answer_error : (answer : List ℕ) → is_error_or_none (answer_fault answer) ≡ true
unfolding answer_fault
answer_error answer = unless_error (eqb (length answer) answer_size) status.answer_length refl

call_error : (connection answer : List ℕ) → is_error_or_none (call_fault connection answer) ≡ true
unfolding call_fault
call_error connection answer = or_error (connection_fault connection) (answer_fault answer) (connection_error connection) (answer_error answer)

close_error : (connection building answer : List ℕ) → is_error_or_none (close_fault connection building answer) ≡ true
unfolding close_fault
close_error connection building answer =
    or_error (or_else (connection_fault connection) (building_fault building)) (answer_fault answer)
    (or_error (connection_fault connection) (building_fault building) (connection_error connection) (building_error building))
    (answer_error answer)

-- reading
pub read_status : (direction : Direction) (connection bytes table answer : List ℕ)
    → is_status (read_effect direction connection bytes table answer).status ≡ true
unfolding read_effect
read_status direction connection bytes table answer =
    checked_status (call_fault connection answer) connection table answer _ (call_error connection answer) (go m refl)
  where
    m : read.Meaning
    m = reading direction (connection_in connection) bytes (length table)

    after : List ℕ
    after = table_after direction (connection_in connection) bytes table

    go : (n : read.Meaning) → m ≡ n → is_status (after_reading n connection after answer).status ≡ true
    go (read.needs n) e = refl
    go (read.refused n) e = refusal_status n (reading_refusal direction (connection_in connection) bytes (length table) n e)
    go (read.accepted packet taken next) e = refl

-- sending a packet that one call builds
send_status : (fault : ℕ) (kind : Kind) (call : Call Written) (connection buffer answer : List ℕ) → is_error_or_none fault ≡ true → Numbered call
    → is_status (send_effect fault kind call connection buffer answer).status ≡ true
send_status fault kind call connection buffer answer e numbered =
    checked_status fault connection buffer answer _ e (go (outcome call (length buffer)) refl)
  where
    go : (o : Outcome Written) → outcome call (length buffer) ≡ o
        → is_status (after_sending kind o connection (buffer_after call buffer) answer).status ≡ true
    go (refused n) q = refusal_status n (numbered (length buffer) n q)
    go (done w) q = refl

pub sends_status : (connection buffer answer : List ℕ)
    → (is_status (cping_effect connection buffer answer).status ≡ true)
    × (is_status (cpong_effect connection buffer answer).status ≡ true)
    × ((bytes : List ℕ) → is_status (body_effect connection buffer bytes answer).status ≡ true)
    × ((bytes : List ℕ) → is_status (chunk_effect connection buffer bytes answer).status ≡ true)
    × ((asked : ℕ) → is_status (get_effect connection buffer asked answer).status ≡ true)
    × ((reuse : ℕ) → is_status (end_effect connection buffer reuse answer).status ≡ true)
unfolding cping_effect cpong_effect body_effect chunk_effect get_effect end_effect
sends_status connection buffer answer =
    let c = connection_in connection in
    let e = call_error connection answer in
    let known = sent_refusals c in (
      send_status (call_fault connection answer) Kind.CPing (cping_call c) connection buffer answer e known.0,
      send_status (call_fault connection answer) Kind.CPong (cpong_call c) connection buffer answer e known.1,
      λ bytes. send_status (call_fault connection answer) Kind.Body (body_call c bytes) connection buffer answer e (known.2 bytes),
      λ bytes. send_status (call_fault connection answer) Kind.BodyChunk (chunk_call c bytes) connection buffer answer e (known.3 bytes),
      λ asked. send_status (or_else (call_fault connection answer) (number_fault asked)) Kind.GetBody (get_call c asked) connection buffer answer
          (or_error (call_fault connection answer) (number_fault asked) e (number_error asked)) (known.4 asked),
      λ reuse. send_status (call_fault connection answer) Kind.End (end_of c reuse) connection buffer answer e
          (with_numbered (end_call c (flag_in reuse)) (reuse_fault reuse) (unless_fault (leb reuse last_flag) out_of_range refl) (known.5 (flag_in reuse))),
    )

-- closing
pub close_status : (connection building buffer answer : List ℕ) → is_status (close_effect connection building buffer answer).status ≡ true
unfolding close_effect
close_status connection building buffer answer =
    checked_status (close_fault connection building answer) connection buffer answer _ (close_error connection building answer) (go (close_outcome c r buffer) refl)
  where
    c : Connection
    c = connection_in connection

    r : Building
    r = building_in building

    go : (o : Outcome Written) → close_outcome c r buffer ≡ o
        → is_status (after_sending (built_kind r.kind) o connection (close_buffer c r buffer) answer).status ≡ true
    go (refused n) q = refusal_status n (close_refusal c r buffer n q)
    go (done w) q = refl

-- a piece
piece_status : (piece : Piece) (building buffer : List ℕ) → is_error_or_none (first_fault piece.faults) ≡ true → Numbered piece.call
    → is_status (piece_effect piece building buffer).status ≡ true
unfolding piece_effect
piece_status piece building buffer e numbered = go (eqb (first_fault piece.faults) 0)
  where
    added : (o : Outcome Building) → outcome piece.call (length buffer) ≡ o
        → is_status (after_adding o building (buffer_after piece.call buffer)).status ≡ true
    added (refused n) q = refusal_status n (numbered (length buffer) n q)
    added (done r) q = refl

    go : (t : Bool) → is_status (pick t (after_adding (outcome piece.call (length buffer)) building (buffer_after piece.call buffer)) (piece_leaves (first_fault piece.faults) building buffer)).status ≡ true
    go true = added (outcome piece.call (length buffer)) refl
    go false = error_status (first_fault piece.faults) e

pub pieces_status : (building buffer : List ℕ)
    → ((fixed protocol uri addr host name : List ℕ) → is_status (piece_effect (forward_piece building fixed protocol uri addr host name) building buffer).status ≡ true)
    × ((http_status : ℕ) (message : List ℕ) (null : ℕ) → is_status (piece_effect (send_headers_piece building http_status message null) building buffer).status ≡ true)
    × ((code : ℕ) (value : List ℕ) (null : ℕ) → is_status (piece_effect (coded_piece building buffer code value null) building buffer).status ≡ true)
    × ((name : List ℕ) (noname : ℕ) (value : List ℕ) (novalue : ℕ) → is_status (piece_effect (spelled_piece building buffer name noname value novalue) building buffer).status ≡ true)
    × ((name value : List ℕ) (null : ℕ) → is_status (piece_effect (named_piece building buffer name value null) building buffer).status ≡ true)
    × ((code : ℕ) (value : List ℕ) (null : ℕ) → is_status (piece_effect (text_piece building buffer code value null) building buffer).status ≡ true)
    × ((code value : ℕ) → is_status (piece_effect (integer_piece building buffer code value) building buffer).status ≡ true)
    × ((code : ℕ) (name : List ℕ) (noname : ℕ) (value : List ℕ) (novalue : ℕ) → is_status (piece_effect (pair_piece building buffer code name noname value novalue) building buffer).status ≡ true)
unfolding forward_piece send_headers_piece coded_piece spelled_piece named_piece text_piece integer_piece pair_piece
pieces_status building buffer =
    let r = building_in building in
    let known = piece_refusals in (
      λ fixed protocol uri addr host name. piece_status (forward_piece building fixed protocol uri addr host name) building buffer
          (or_error (building_room building) (fixed_fault fixed) (room_error building) (fixed_error fixed))
          (with_numbered (forward_call (numbers_in fixed) (nulls_in fixed) protocol uri addr host name) (ssl_fault fixed) (unless_fault (leb (word fixed ssl_place) last_flag) out_of_range refl) (known.0 (numbers_in fixed) (nulls_in fixed) protocol uri addr host name)),
      λ http_status message null. piece_status (send_headers_piece building http_status message null) building buffer
          (or_error (building_room building) (flag_fault null) (room_error building) (flag_error null)) (known.1 (capped http_status) (flag_in null) message),
      λ code value null. piece_status (coded_piece building buffer code value null) building buffer
          (or_error (building_fault building) (flag_fault null) (building_error building) (flag_error null)) (known.2 r buffer (capped code) (flag_in null) value),
      λ name noname value novalue. piece_status (spelled_piece building buffer name noname value novalue) building buffer
          (or_error (or_else (building_fault building) (flag_fault noname)) (flag_fault novalue) (or_error (building_fault building) (flag_fault noname) (building_error building) (flag_error noname)) (flag_error novalue))
          (known.3 r buffer (flag_in noname) name (flag_in novalue) value),
      λ name value null. piece_status (named_piece building buffer name value null) building buffer
          (or_error (building_fault building) (flag_fault null) (building_error building) (flag_error null)) (known.4 r buffer name (flag_in null) value),
      λ code value null. piece_status (text_piece building buffer code value null) building buffer
          (or_error (building_fault building) (flag_fault null) (building_error building) (flag_error null)) (known.5 r buffer (capped code) (flag_in null) value),
      λ code value. piece_status (integer_piece building buffer code value) building buffer
          (or_error (building_fault building) (number_fault value) (building_error building) (number_error value)) (known.6 r buffer (capped code) value),
      λ code name noname value novalue. piece_status (pair_piece building buffer code name noname value novalue) building buffer
          (or_error (or_else (building_fault building) (flag_fault noname)) (flag_fault novalue) (or_error (building_fault building) (flag_fault noname) (building_error building) (flag_error noname)) (flag_error novalue))
          (known.7 r buffer (capped code) (flag_in noname) name (flag_in novalue) value),
    )

-- the checker's calls: done or an error, whatever the verdict is
pub checks_status : (checking checked : List ℕ)
    → (is_status (checked_fault checked) ≡ true)
    × (is_status (checking_room checking) ≡ true)
    × (is_status (checking_fault checking) ≡ true)
    × (is_status (finish_fault checking checked) ≡ true)
checks_status checking checked = (
  error_status (checked_fault checked) (checked_error checked),
  error_status (checking_room checking) (checking_room_error checking),
  error_status (checking_fault checking) (checking_error checking),
  error_status (finish_fault checking checked) (finish_error checking checked),
)
