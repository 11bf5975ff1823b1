-- A call that is not done writes nothing, but for the answer of "needs": whether its status tells a refusal or an error, every array is as
-- it was.
-- Assumes nothing.
use native.Mathlib.Omega.{arith}
use mathlib.Core.Path.{◌≡◌, refl, ap}
use mathlib.Core.Bool.{Bool, true, false}
use mathlib.Core.List.{List}
use Prim.Native.Nat.{ℕ}
use lib.Dec.{eqb}
use lib.ListN.{length}
use Rattle.wire.specs.Pick.{pick}
use Rattle.wire.specs.Bytes.{over}
use Rattle.packet.specs.declared.Direction.{Direction}
use Rattle.connection.specs.declared.Connection.{Connection}
use Rattle.connection.specs.declared.Kind.{Kind}
use Rattle.building.specs.Call.{Call, Outcome, refused, done, refusal_of, outcome, buffer_after}
use Rattle.building_record.specs.declared.Building.{Building}
use Rattle.reader.specs.Meaning as read
use Rattle.reader.specs.Reading.{reading, table_after}
use Rattle.reading_laws.proofs.Acceptance.{refused_keeps, needs_keeps}
use Rattle.building.specs.Sent.{Written}
use Rattle.closing.specs.Closing.{close_outcome, close_buffer}
use Rattle.closing.proofs.Laws.{close_refused}
use Rattle.words.specs.Status as status
use Rattle.words.specs.ConnectionWords.{connection_in}
use Rattle.words.specs.BuildingWords.{building_in}
use Rattle.answers.specs.Effect.{Effect, leaves, checked, call_fault}
use Rattle.answers.specs.Told.{after_reading, after_sending}
use Rattle.ajp13.specs.Reading.{read_effect}
use Rattle.ajp13.specs.Sending.{send_effect, close_fault, close_effect}

-- arrays that are as they were, whatever the status
abbrev pub Kept : List ℕ → List ℕ → List ℕ → Effect → Type 0
Kept connection lent answer e = e ≡ leaves e.status connection lent answer

-- a call by its fault: where there is one all is kept, else it is as what it comes to says
checked_keeps : (fault : ℕ) (connection lent answer : List ℕ) (effect : Effect)
    → ((effect.status ≡ status.done → ⊥) → Kept connection lent answer effect)
    → ((checked fault connection lent answer effect).status ≡ status.done → ⊥)
    → Kept connection lent answer (checked fault connection lent answer effect)
checked_keeps fault connection lent answer effect keeps = go (eqb fault 0)
  where
    go : (t : Bool) → ((pick t effect (leaves fault connection lent answer)).status ≡ status.done → ⊥)
        → Kept connection lent answer (pick t effect (leaves fault connection lent answer))
    go true h = keeps h
    go false h = refl

-- sending, by what it came to, where a refusal keeps the buffer
sent_keeps : (kind : Kind) (o : Outcome Written) (connection buffer after answer : List ℕ) → ((n : ℕ) → o ≡ refused n → after ≡ buffer)
    → ((after_sending kind o connection after answer).status ≡ status.done → ⊥)
    → Kept connection buffer answer (after_sending kind o connection after answer)
sent_keeps kind (refused n) connection buffer after answer keeps h = ap (λ (l : List ℕ). leaves n connection l answer) (keeps n refl)
sent_keeps kind (done w) connection buffer after answer keeps h = absurd (h refl)

-- a call that is refused keeps the buffer
refused_buffer : (call : Call Written) (buffer : List ℕ) (n : ℕ) → outcome call (length buffer) ≡ refused n → buffer_after call buffer ≡ buffer
unfolding outcome buffer_after
refused_buffer call buffer n e = go (eqb (refusal_of call (length buffer)) 0) e
  where
    go : (t : Bool) → pick t (done call.answer) (refused (refusal_of call (length buffer))) ≡ refused n
        → pick t (over buffer call.at call.bytes) buffer ≡ buffer
    go true q = absurd (let z : ◌≡◌ {A = ℕ} 0 1 = cc in omega arith)
    go false q = refl

-- a packet that one call builds, unless it is sent
pub send_keeps : (fault : ℕ) (kind : Kind) (call : Call Written) (connection buffer answer : List ℕ)
    → ((send_effect fault kind call connection buffer answer).status ≡ status.done → ⊥)
    → Kept connection buffer answer (send_effect fault kind call connection buffer answer)
send_keeps fault kind call connection buffer answer =
    checked_keeps fault connection buffer answer _
    (sent_keeps kind (outcome call (length buffer)) connection buffer (buffer_after call buffer) answer (refused_buffer call buffer))

-- a packet in pieces, unless it is closed
pub close_keeps : (building connection buffer answer : List ℕ) → ((close_effect connection building buffer answer).status ≡ status.done → ⊥)
    → Kept connection buffer answer (close_effect connection building buffer answer)
unfolding close_effect
close_keeps building connection buffer answer =
    checked_keeps (close_fault connection building answer) connection buffer answer _
    (sent_keeps _ (close_outcome c r buffer) connection buffer (close_buffer c r buffer) answer (close_refused c r buffer))
  where
    c : Connection
    c = connection_in connection

    r : Building
    r = building_in building

-- reading, unless a packet is accepted: the connection and the table are kept, and unless more bytes are needed the answer too
pub record ReadKept (connection table answer : List ℕ) (e : Effect) : Type 0 where
  pub connection_kept : e.connection ≡ connection
  pub table_kept : e.lent ≡ table
  pub answer_kept : (e.status ≡ status.needs → ⊥) → e.answer ≡ answer

pub read_keeps : (direction : Direction) (connection bytes table answer : List ℕ)
    → ((read_effect direction connection bytes table answer).status ≡ status.done → ⊥)
    → ReadKept connection table answer (read_effect direction connection bytes table answer)
unfolding read_effect
read_keeps direction connection bytes table answer = go (eqb (call_fault connection answer) 0)
  where
    m : read.Meaning
    m = reading direction (connection_in connection) bytes (length table)

    after : List ℕ
    after = table_after direction (connection_in connection) bytes table

    by_answer : (n : read.Meaning) → m ≡ n → ((after_reading n connection after answer).status ≡ status.done → ⊥)
        → ReadKept connection table answer (after_reading n connection after answer)
    by_answer (read.needs n) e h =
        record { connection_kept = refl; table_kept = needs_keeps direction (connection_in connection) bytes table n e; answer_kept = λ k. absurd (k refl) }
    by_answer (read.refused n) e h =
        record { connection_kept = refl; table_kept = refused_keeps direction (connection_in connection) bytes table n e; answer_kept = λ k. refl }
    by_answer (read.accepted packet taken next) e h = absurd (h refl)

    go : (t : Bool) → ((pick t (after_reading m connection after answer) (leaves (call_fault connection answer) connection table answer)).status ≡ status.done → ⊥)
        → ReadKept connection table answer (pick t (after_reading m connection after answer) (leaves (call_fault connection answer) connection table answer))
    go true h = by_answer m refl h
    go false h = record { connection_kept = refl; table_kept = refl; answer_kept = λ k. refl }
