-- HEAD has no body: the mark after a Forward is by the byte behind its code, read and closed; and a chunk, where the mark counts, is judged
-- by its fields first and then by its size, at either end.
-- Assumes nothing.
use native.Mathlib.Omega.{arith}
use borrow.Author.Tests.{ne_eqb}
use mathlib.Core.Path.{◌≡◌, sym, ap, ◌∙◌}
use mathlib.Core.Bool.{Bool, true, false}
use mathlib.Core.List.{List, []}
use Prim.Native.Nat.{ℕ, ◌<◌}
use lib.ListN.{length}
use lib.Seq.{take-length}
use Rattle.wire.specs.Refusal.{body_size_wrong}
use Rattle.wire.specs.Bytes.{part}
use Rattle.wire.specs.Field.{byte_at}
use Rattle.wire.specs.Packet.{code_place}
use Rattle.packet.specs.declared.Direction.{Direction}
use Rattle.packet.specs.declared.Forward.{Forward}
use Rattle.packet.specs.declared.Packet.{Packet}
use Rattle.places.specs.Entries.{max_places}
use Rattle.connection.specs.Connection.{is_head}
use Rattle.connection.specs.Cycle.{direction_of, in_state, chunk_allowed, in_size, allowed}
use Rattle.connection.specs.declared.Connection.{Connection}
use Rattle.connection.specs.declared.Kind.{Kind}
use Rattle.connection.specs.declared.Move.{Move}
use Rattle.payload.specs.Code.{kind_of_code, kind_at}
use Rattle.payload.specs.Kinds.{packet_kind}
use Rattle.payload.specs.Read.{KindRead}
use Rattle.payload.proofs.Handed.{forward_head}
use Rattle.building.specs.Call.{refusal_of, outcome}
use Rattle.building.proofs.Calls.{fits_done}
use Rattle.building_record.specs.declared.BuildingKind.{BuildingKind}
use Rattle.building_record.specs.Record.{built_kind, direction_in}
use Rattle.writer.specs.Sending.{chunk_call}
use Rattle.reader.specs.Meaning as read
use Rattle.reader.specs.Reading.{context_of, reading}
use Rattle.closing.specs.Closing.{closed_packet, closed_length}
use Rattle.closing.specs.Done.{CloseDone}
use Rattle.closing.proofs.Laws.{close_done}
use Rattle.messages.specs.Message.{body_chunk}
use Rattle.messages.specs.Bytes.{message_bytes}
use Rattle.messages.specs.Head.{says_head, HeadMarked, HeadChunks}
use Rattle.messages.proofs.Parses.{Parses, fields_refused, size_refused, refused_more, parses_accepted, accepted_parses}
use Rattle.messages.proofs.OneCall.{chunk_part, chunk_parses, chunk_most}

-- an accepted Forward
forward_marks : (c : Connection) (s : List ℕ) (room : ℕ) (f : Forward) (taken : ℕ) (next : Connection)
    → reading Direction.ToContainer c s room ≡ read.accepted (Packet.Forward f) taken next → is_head next ≡ says_head (part s 0 taken)
forward_marks c s room f taken next e =
    let a = accepted_parses Direction.ToContainer c s room (Packet.Forward f) taken next e in
    ap is_head a.steps ∙ forward_head (part s 0 taken) f a.parses.fields_are

-- the same of a packet whose kind is known to be a Forward's
kind_marks : (c : Connection) (s : List ℕ) (room : ℕ) (p : Packet) (taken : ℕ) (next : Connection) → packet_kind p ≡ Kind.Forward
    → reading Direction.ToContainer c s room ≡ read.accepted p taken next → is_head next ≡ says_head (part s 0 taken)
kind_marks c s room (Packet.Forward f) taken next k e = forward_marks c s room f taken next e
kind_marks c s room Packet.CPing taken next k e = absurd (let z : ◌≡◌ {A = ℕ} 0 1 = cc in omega arith)
kind_marks c s room Packet.CPong taken next k e = absurd (let z : ◌≡◌ {A = ℕ} 0 1 = cc in omega arith)
kind_marks c s room (Packet.Body p) taken next k e = absurd (let z : ◌≡◌ {A = ℕ} 0 1 = cc in omega arith)
kind_marks c s room (Packet.GetBody asked) taken next k e = absurd (let z : ◌≡◌ {A = ℕ} 0 1 = cc in omega arith)
kind_marks c s room (Packet.SendHeaders h) taken next k e = absurd (let z : ◌≡◌ {A = ℕ} 0 1 = cc in omega arith)
kind_marks c s room (Packet.BodyChunk p) taken next k e = absurd (let z : ◌≡◌ {A = ℕ} 0 1 = cc in omega arith)
kind_marks c s room (Packet.End reuse) taken next k e = absurd (let z : ◌≡◌ {A = ℕ} 0 1 = cc in omega arith)

-- the mark after a Forward is by the byte behind its code: accepted, and closed
pub head_marked : (c : Connection) → HeadMarked c
unfolding part
head_marked c = record {
  accepted = forward_marks c;
  closed = λ r buffer w is e.
      let d : CloseDone c r buffer w = close_done c r buffer w e in
      let bytes : List ℕ = closed_packet r buffer in
      let way : direction_in r ≡ Direction.ToContainer = ap (λ (k : BuildingKind). direction_of (built_kind k)) is in
      let reads : reading Direction.ToContainer c bytes max_places ≡ read.accepted d.packet (closed_length r) w.connection =
      ap (λ (x : Direction). reading x c bytes max_places) (sym way) ∙ d.reads max_places (omega arith) in
      let marks : is_head w.connection ≡ says_head (part bytes 0 (closed_length r)) =
      kind_marks c bytes max_places d.packet (closed_length r) w.connection (d.kind_is ∙ ap built_kind is) reads in
      let whole : part bytes 0 (closed_length r) ≡ bytes = ap (part bytes 0) (sym d.packet_size) ∙ take-length bytes in
      marks ∙ ap says_head (whole ∙ sym d.packet_is);
}

-- chunks where they are allowed now and the request is HEAD
module _ (c : Connection) (now : in_state c Kind.BodyChunk ≡ true) (head : is_head c ≡ true) where
  -- whether a size is allowed
  sized : (k : ℕ) → in_size c (Move.BodyChunk k) ≡ chunk_allowed true k
  sized k = ap (λ (t : Bool). chunk_allowed t k) head

  -- an empty one is
  bare : allowed c (Move.BodyChunk 0) ≡ true
  bare = rw (now, sized 0)

  -- one with bytes is not
  unsized : (bytes : List ℕ) → 0 < length bytes → in_size c (Move.BodyChunk (length bytes)) ≡ false
  unsized bytes some = sized (length bytes) ∙ ne_eqb (length bytes) 0 (λ e. omega (arith, some, e))

  -- a packet to the server with a chunk's code is read as one
  chunk_kind : (s : List ℕ) → kind_of_code Direction.ToServer (byte_at s code_place) ≡ KindRead.Kind Kind.BodyChunk
      → kind_at (context_of Direction.ToServer c) s ≡ KindRead.Kind Kind.BodyChunk
  unfolding kind_at
  chunk_kind s code = code

  -- what a chunk is answered with, read and written
  pub head_chunks : HeadChunks c
  unfolding message_bytes chunk_call outcome refusal_of
  head_chunks = record {
    faults_first = λ s rest room n whole code e.
        refused_more Direction.ToServer c s rest room n (fields_refused Direction.ToServer c s room Kind.BodyChunk n whole (chunk_kind s code) now e);
    read_refused = λ bytes rest room some most.
        let s : List ℕ = message_bytes (body_chunk bytes) in
        let r : Parses Direction.ToServer s (Packet.BodyChunk (chunk_part bytes)) = chunk_parses bytes (chunk_most bytes most) in
        refused_more Direction.ToServer c s rest room body_size_wrong
        (size_refused Direction.ToServer c s room Kind.BodyChunk (Packet.BodyChunk (chunk_part bytes)) r.whole_is r.kind_is now r.fields_are (unsized bytes some));
    write_refused = λ bytes room some. rw (now, unsized bytes some);
    empty_read = λ rest room. parses_accepted (chunk_parses [] (omega arith)) c bare rest room (omega arith);
    empty_written = λ room most. fits_done (chunk_call c []) room (rw (now, sized 0)) (omega arith) most;
  }
