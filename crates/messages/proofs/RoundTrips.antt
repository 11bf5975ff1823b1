-- Demand 2's round trips, for every message and every packet: what is written for a message are the bytes that document 01 gives it; reading
-- them from an equal connection gives the message; and writing a message that was read gives its packet, byte for byte, unless the packet is
-- one that is read and not written. Each kind has shown its part (`OneCall`, `InPieces`); `TwoForms` has what is written for the others.
-- Assumes nothing.
use mathlib.Core.Path.{◌≡◌, sym, ap, ◌∙◌}
use mathlib.Core.Bool.{false}
use mathlib.Core.List.{List, ◌++◌}
use Prim.Native.Nat.{ℕ, ◌≤◌}
use lib.ListN.{length}
use Rattle.wire.specs.Bytes.{part, over}
use Rattle.packet.specs.declared.Direction.{Direction}
use Rattle.wire.specs.Facts.{Bytes}
use Rattle.connection.specs.declared.Connection.{Connection}
use Rattle.payload.specs.Kinds.{packet_move}
use Rattle.packet.specs.declared.Packet.{Packet}
use Rattle.building.specs.Sent.{Written}
use Rattle.reader.specs.Meaning.{accepted}
use Rattle.reader.specs.Reading.{reading, table_after}
use Rattle.messages.specs.Message.{Message, message_kind, cping, cpong, forward, body, get_body, send_headers, body_chunk, end, message_direction, places_for, Fit}
use Rattle.messages.specs.Bytes.{payload_of}
use Rattle.messages.specs.Writing.{wrote, writing}
use Rattle.messages.specs.Shown.{message_shown}
use Rattle.messages.specs.ReadOnly.{is_read_only}
use Rattle.messages.specs.RoundTrips.{WrittenBytes, ReadBack, WrittenBack}
use Rattle.messages.proofs.RoundTrip.{Forth, Back, back_by}
use Rattle.messages.proofs.OneCall.{IsOne, one_packet, one_written, one_forth, one_back}
use Rattle.messages.proofs.PiecesWritten.{forward_written, send_headers_written}
use Rattle.messages.proofs.InPieces.{forward_forth, send_headers_forth, forward_back, send_headers_back}

-- by one call
one_bytes : (m : Message) → IsOne (message_kind m) → (c : Connection) (buffer : List ℕ) (w : Written) (left : List ℕ) → Fit m → writing c m buffer ≡ wrote w left
    → WrittenBytes m buffer w left
one_bytes m one c buffer w left fit e =
    let calls = (one_packet m one fit).calls in
    let k = one_written c (packet_move (one_packet m one fit).packet) (payload_of m) buffer w left (sym (calls.call_is c buffer) ∙ e) in
    record {
      buffer_is = k.buffer_is ∙ ap (over buffer 0) calls.bytes_are;
      size = k.size ∙ ap length calls.bytes_are;
      fits = rw calls.bytes_are at k.room;
    }

-- what is written for a message are its bytes
pub written_bytes : (m : Message) (c : Connection) (buffer : List ℕ) (w : Written) (left : List ℕ) → Fit m → writing c m buffer ≡ wrote w left
    → WrittenBytes m buffer w left
written_bytes cping c buffer w left fit e = one_bytes cping tt c buffer w left fit e
written_bytes cpong c buffer w left fit e = one_bytes cpong tt c buffer w left fit e
written_bytes (forward request) c buffer w left fit e =
    let k = forward_written c request buffer w left e in
    record { buffer_is = k.is; size = k.size; fits = k.fits }
written_bytes (body bytes) c buffer w left fit e = one_bytes (body bytes) tt c buffer w left fit e
written_bytes (get_body asked) c buffer w left fit e = one_bytes (get_body asked) tt c buffer w left fit e
written_bytes (send_headers response) c buffer w left fit e =
    let k = send_headers_written c response buffer w left e in
    record { buffer_is = k.is; size = k.size; fits = k.fits }
written_bytes (body_chunk bytes) c buffer w left fit e = one_bytes (body_chunk bytes) tt c buffer w left fit e
written_bytes (end reuse) c buffer w left fit e = one_bytes (end reuse) tt c buffer w left fit e

-- forth, for each kind of message
forth : (m : Message) → Forth m
forth cping = one_forth cping tt
forth cpong = one_forth cpong tt
forth (forward request) = forward_forth request
forth (body bytes) = one_forth (body bytes) tt
forth (get_body asked) = one_forth (get_body asked) tt
forth (send_headers response) = send_headers_forth response
forth (body_chunk bytes) = one_forth (body_chunk bytes) tt
forth (end reuse) = one_forth (end reuse) tt

-- reading a written packet, alone or with other bytes behind it, from an equal connection: it is accepted, all of it and no more is taken, the
-- connection after it is the writer's, and the message that it shows is the one that was written
pub written_reads : (c : Connection) (m : Message) (buffer : List ℕ) (w : Written) (left : List ℕ) → Fit m → writing c m buffer ≡ wrote w left
    → (rest table : List ℕ) → places_for m ≤ length table
    → ReadBack (message_direction m) c (part left 0 w.size ++ rest) table m w.size w.connection
written_reads c m buffer w left fit e = forth m c buffer w left fit e

-- back, for each kind of packet
back : (p : Packet) → Back p
back Packet.CPing = one_back Packet.CPing tt
back Packet.CPong = one_back Packet.CPong tt
back (Packet.Forward f) = forward_back f
back (Packet.Body p) = one_back (Packet.Body p) tt
back (Packet.GetBody asked) = one_back (Packet.GetBody asked) tt
back (Packet.SendHeaders h) = send_headers_back h
back (Packet.BodyChunk p) = one_back (Packet.BodyChunk p) tt
back (Packet.End reuse) = one_back (Packet.End reuse) tt

-- writing a message that was read from a packet that is not only read, from an equal connection and into a buffer that is long enough: it is
-- written, the packet's bytes stand from the buffer's first place on and all else is as it was, and the connection after it is the reader's
pub read_writes : (d : Direction) (c : Connection) (s table : List ℕ) (p : Packet) (n : ℕ) (next : Connection) → Bytes s
    → reading d c s (length table) ≡ accepted p n next → is_read_only (message_shown p (part s 0 n) (table_after d c s table)) (part s 0 n) ≡ false
    → (buffer : List ℕ) → n ≤ length buffer
    → WrittenBack d c (part s 0 n) buffer (message_shown p (part s 0 n) (table_after d c s table)) n next
read_writes = back_by back
