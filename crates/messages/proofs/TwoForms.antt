-- The two forms of an empty body packet. Both parse as an empty body told at the payload's place, so every connection that has a body packet
-- due answers both alike; where none is due, the short form has no code and the long one's is 0. A packet that is accepted with the long
-- form's bytes is this body packet and no other, and writing its message gives the short form.
-- Assumes nothing.
use native.Mathlib.Omega.{arith}
use borrow.Author.Tests.{le-ltb, lt-ltb}
use mathlib.Core.Path.{◌≡◌, refl, sym, ap, subst, ◌∙◌}
use mathlib.Core.Bool.{Bool, true, false}
use mathlib.Core.List.{List, [], ◌∷◌, ◌++◌}
use Prim.Native.Nat.{ℕ, ◌+◌, ◌≤◌, ◌<◌}
use lib.ListN.{length, get_or, drop}
use lib.Seq.{take-length}
use Rattle.wire.specs.Pick.{pick}
use Rattle.wire.specs.Bytes.{part, over, integer_bytes}
use Rattle.wire.specs.Field.{byte_at}
use Rattle.wire.specs.Packet.{packet_head, packet, code_place, after_code_place}
use Rattle.wire.specs.Facts.{Bytes}
use Rattle.wire.specs.Refusal.{cut_short, code_wrong, left_over, body_size_wrong}
use Rattle.wire.specs.Read.{NumberRead}
use Rattle.wire.proofs.Parts.{bytes_part}
use Rattle.wire.proofs.RoundTrip.{byte_written, integer_written}
use Rattle.packet.specs.declared.Direction.{Direction}
use Rattle.packet.specs.declared.Part.{Part}
use Rattle.packet.specs.declared.Packet.{Packet}
use Rattle.connection.specs.Connection.{max_body, body_due}
use Rattle.connection.specs.Cycle.{direction_of, in_size, allowed, after}
use Rattle.connection.specs.declared.Connection.{Connection}
use Rattle.connection.specs.declared.Kind.{Kind}
use Rattle.connection.specs.declared.Move.{Move}
use Rattle.payload.specs.Code.{code_of, code_kind, kind_of_code, kind_at}
use Rattle.payload.specs.Kinds.{packet_kind, packet_move}
use Rattle.payload.specs.Body.{body_start, body_of_size, body_at}
use Rattle.payload.specs.Read.{KindRead, PacketRead}
use Rattle.payload.proofs.Laws.{body_sized, sized_by}
use Rattle.reader.specs.Frame.{frame_at, FrameRead}
use Rattle.reader.specs.Meaning.{refused, accepted}
use Rattle.reader.specs.Reading.{parse_whole, parse, context_of, reading, table_after}
use Rattle.reading_laws.specs.Acceptance.{Answered}
use Rattle.reading_laws.proofs.Acceptance.{refused_keeps}
use Rattle.reading_laws.proofs.Later.{later_answer}
use Rattle.writer.specs.Sending.{body_payload}
use Rattle.messages.specs.Message.{Message}
use Rattle.messages.specs.Shown.{message_shown}
use Rattle.messages.specs.ReadOnly.{short_empty, long_empty, same_bytes, is_read_only, OnlyLong}
use Rattle.messages.specs.RoundTrips.{WrittenBack}
use Rattle.messages.specs.TwoForms.{empty_told, empty_answer, TwoForms}
use Rattle.messages.proofs.SameBytes.{same_self, same_bytes_lem}
use Rattle.messages.proofs.Frames.{frame_written}
use Rattle.messages.proofs.Parses.{is_body, Parses, parses_alone, fields_refused, size_refused, refused_more, accepted_parses, coded_kept}
use Rattle.messages.proofs.Tables.{table_filled}
use Rattle.messages.proofs.OneCall.{sized_parses, empty_parses, body_calls, one_done, BodyRead, empty, sized, body_read}

-- the short form parses as an empty body
short_parses : Parses Direction.ToContainer short_empty empty_told
short_parses = empty_parses

-- so does the long one
long_parses : Parses Direction.ToContainer long_empty empty_told
long_parses = sized_parses [] (omega arith)

-- where a body packet is due, what comes is read as one
due_kind : (c : Connection) (s : List ℕ) → body_due c ≡ true → kind_at (context_of Direction.ToContainer c) s ≡ KindRead.Kind Kind.Body
unfolding kind_at
due_kind c s due = rw due

-- where none is due, a whole packet is refused for its code, alone
undue_refused : (c : Connection) (s : List ℕ) (room n : ℕ) → frame_at Direction.ToContainer s ≡ FrameRead.Whole (length s) → body_due c ≡ false
    → kind_of_code Direction.ToContainer (byte_at s code_place) ≡ KindRead.Refused n → reading Direction.ToContainer c s room ≡ refused n
unfolding reading parse parse_whole part kind_at
undue_refused c s room n whole due e = rw (whole, take-length s, due, e)

-- what an empty body packet is answered with, alone
empty_alone : (c : Connection) (s : List ℕ) (room undue : ℕ) → Parses Direction.ToContainer s empty_told
    → kind_of_code Direction.ToContainer (byte_at s code_place) ≡ KindRead.Refused undue
    → reading Direction.ToContainer c s room ≡ empty_answer c (length s) undue
empty_alone c s room undue r code = go (body_due c) refl (in_size c (Move.Body 0)) refl
  where
    go : (due : Bool) → body_due c ≡ due → (fits : Bool) → in_size c (Move.Body 0) ≡ fits
        → reading Direction.ToContainer c s room
        ≡ pick due (pick fits (accepted empty_told (length s) (after c (Move.Body 0))) (refused body_size_wrong)) (refused undue)
    go true e true f = parses_alone r c (rw (e, f)) room (omega arith)
    go true e false f =
        size_refused Direction.ToContainer c s room Kind.Body empty_told r.whole_is (due_kind c s e) e r.fields_are f
    go false e fits f = undue_refused c s room undue r.whole_is e code

-- it is answered
empty_answered : (c : Connection) (size undue : ℕ) → Answered (empty_answer c size undue)
empty_answered c size undue = go (body_due c) (in_size c (Move.Body 0))
  where
    go : (due fits : Bool)
        → Answered (pick due (pick fits (accepted empty_told size (after c (Move.Body 0))) (refused body_size_wrong)) (refused undue))
    go true true = tt
    go true false = tt
    go false fits = tt

-- so bytes behind it change nothing
empty_read : (c : Connection) (s rest : List ℕ) (room undue : ℕ) → Parses Direction.ToContainer s empty_told
    → kind_of_code Direction.ToContainer (byte_at s code_place) ≡ KindRead.Refused undue
    → reading Direction.ToContainer c (s ++ rest) room ≡ empty_answer c (length s) undue
empty_read c s rest room undue r code =
    let alone = empty_alone c s room undue r code in
    later_answer s rest Direction.ToContainer c room (subst Answered (sym alone) (empty_answered c (length s) undue)) ∙ alone

-- and the table stays as it is
empty_table : (c : Connection) (s table : List ℕ) (size undue : ℕ)
    → reading Direction.ToContainer c s (length table) ≡ empty_answer c size undue → table_after Direction.ToContainer c s table ≡ table
unfolding over
empty_table c s table size undue = go (body_due c) (in_size c (Move.Body 0))
  where
    go : (due fits : Bool)
        → reading Direction.ToContainer c s (length table)
        ≡ pick due (pick fits (accepted empty_told size (after c (Move.Body 0))) (refused body_size_wrong)) (refused undue)
        → table_after Direction.ToContainer c s table ≡ table
    go true true e = table_filled Direction.ToContainer c s table empty_told size (after c (Move.Body 0)) e
    go true false e = refused_keeps Direction.ToContainer c s table body_size_wrong e
    go false fits e = refused_keeps Direction.ToContainer c s table undue e

-- a size of 0 with bytes behind it
more_fields : (more : List ℕ) → 0 < length more → length more ≤ max_body
    → body_at (packet Direction.ToContainer (integer_bytes 0 ++ more)) ≡ PacketRead.Refused left_over
more_fields more some most =
    let s : List ℕ = packet Direction.ToContainer (integer_bytes 0 ++ more) in
    body_sized s (NumberRead.Number 0 body_start) (omega arith)
    (integer_written (packet_head Direction.ToContainer (length (integer_bytes 0 ++ more))) more 0 (omega arith))
    ∙ sym (sized_by (length s) 0 false true (le-ltb (length s) (body_start + 0) (omega arith)) (lt-ltb (body_start + 0) (length s) (omega arith)))

-- its first byte is no code of the server's
more_code : (more : List ℕ)
    → kind_of_code Direction.ToContainer (byte_at (packet Direction.ToContainer (integer_bytes 0 ++ more)) code_place) ≡ KindRead.Refused code_wrong
unfolding code_kind
more_code more =
    ap (kind_of_code Direction.ToContainer) (byte_written (packet_head Direction.ToContainer (length (integer_bytes 0 ++ more))) (0 ∷ more) 0)

more_read : (c : Connection) (more rest : List ℕ) (room : ℕ) → 0 < length more → length more ≤ max_body
    → reading Direction.ToContainer c (packet Direction.ToContainer (integer_bytes 0 ++ more) ++ rest) room ≡ refused (pick (body_due c) left_over code_wrong)
more_read c more rest room some most =
    refused_more Direction.ToContainer c s rest room (pick (body_due c) left_over code_wrong) alone
  where
    s : List ℕ
    s = packet Direction.ToContainer (integer_bytes 0 ++ more)

    whole : frame_at Direction.ToContainer s ≡ FrameRead.Whole (length s)
    whole = frame_written Direction.ToContainer (integer_bytes 0 ++ more) (omega arith)

    go : (due : Bool) → body_due c ≡ due → reading Direction.ToContainer c s room ≡ refused (pick due left_over code_wrong)
    go true e =
        fields_refused Direction.ToContainer c s room Kind.Body left_over whole (due_kind c s e) e (more_fields more some most)
    go false e = undue_refused c s room code_wrong whole e (more_code more)

    alone : reading Direction.ToContainer c s room ≡ refused (pick (body_due c) left_over code_wrong)
    alone = go (body_due c) refl

-- document 02, A2: the two forms give the same message and the same connection after, from every connection
pub two_forms : (c : Connection) (rest table : List ℕ) → TwoForms c rest table
unfolding byte_at code_kind message_shown part
two_forms c rest table =
    let short = empty_read c short_empty rest (length table) cut_short short_parses refl in
    let long = empty_read c long_empty rest (length table) code_wrong long_parses refl in
    record {
      short = short;
      long = long;
      short_table = empty_table c (short_empty ++ rest) table (length short_empty) cut_short short;
      long_table = empty_table c (long_empty ++ rest) table (length long_empty) code_wrong long;
      short_shows = refl;
      long_shows = refl;
      with_bytes = λ more some most. more_read c more rest (length table) some most;
    }

-- no packet with a code has the long form's bytes: its fifth byte would be that code
no_code : {d : Direction} {p : Packet} → Parses d long_empty p → is_body (packet_kind p) ≡ false → Bytes long_empty → 0 ≡ code_of (packet_kind p)
no_code {d} {p} r b bytes =
    ap (λ (l : List ℕ). get_or l code_place 0) (coded_kept r b bytes) ∙ fifth (direction_of (packet_kind p))
  where
    fifth : (way : Direction)
        → get_or (packet way (code_of (packet_kind p) ∷ drop after_code_place long_empty)) code_place 0 ≡ code_of (packet_kind p)
    fifth Direction.ToContainer = refl
    fifth Direction.ToServer = refl

-- what has the long form's bytes and parses is the empty body
long_told : {d : Direction} (p : Packet) → Bytes long_empty → Parses d long_empty p → p ≡ empty_told
long_told Packet.CPing bytes r = absurd (omega (arith, no_code r refl bytes))
long_told Packet.CPong bytes r = absurd (omega (arith, no_code r refl bytes))
long_told (Packet.Forward f) bytes r = absurd (omega (arith, no_code r refl bytes))
long_told (Packet.Body p) bytes r = go p (body_read long_empty p r.fields_are)
  where
    go : (p : Part) → BodyRead long_empty p → Packet.Body p ≡ empty_told
    go p (empty e) = absurd (omega (arith, e))
    go p (sized n e size) =
        let none : n ≡ 0 = omega (arith, size) in
        ap (λ (k : ℕ). Packet.Body (body_of_size k)) none
long_told (Packet.GetBody asked) bytes r = absurd (omega (arith, no_code r refl bytes))
long_told (Packet.SendHeaders h) bytes r = absurd (omega (arith, no_code r refl bytes))
long_told (Packet.BodyChunk p) bytes r = absurd (omega (arith, no_code r refl bytes))
long_told (Packet.End reuse) bytes r = absurd (omega (arith, no_code r refl bytes))

-- a packet with a code does not have the long form's bytes
coded_other : {d : Direction} {s : List ℕ} {p : Packet} → Bytes s → Parses d s p → is_body (packet_kind p) ≡ false
    → (0 ≡ code_of (packet_kind p) → ⊥) → same_bytes s long_empty ≡ false
coded_other {d} {s} {p} bytes r b never = go (same_bytes s long_empty) refl
  where
    go : (t : Bool) → same_bytes s long_empty ≡ t → t ≡ false
    go false e = refl
    go true e =
        let same : s ≡ long_empty = same_bytes_lem s long_empty e in
        absurd (never (no_code (subst (λ (l : List ℕ). Parses d l p) same r) b (subst Bytes same bytes)))

-- whether a packet is read and not written, by its bytes alone
only_by_bytes : {d : Direction} {s : List ℕ} (p : Packet) (table : List ℕ) → Bytes s → Parses d s p
    → is_read_only (message_shown p s table) s ≡ same_bytes s long_empty
unfolding message_shown
only_by_bytes Packet.CPing table bytes r = sym (coded_other bytes r refl (λ e. omega (arith, e)))
only_by_bytes Packet.CPong table bytes r = sym (coded_other bytes r refl (λ e. omega (arith, e)))
only_by_bytes (Packet.Forward f) table bytes r = sym (coded_other bytes r refl (λ e. omega (arith, e)))
only_by_bytes (Packet.Body p) table bytes r = refl
only_by_bytes (Packet.GetBody asked) table bytes r = sym (coded_other bytes r refl (λ e. omega (arith, e)))
only_by_bytes (Packet.SendHeaders h) table bytes r = sym (coded_other bytes r refl (λ e. omega (arith, e)))
only_by_bytes (Packet.BodyChunk p) table bytes r = sym (coded_other bytes r refl (λ e. omega (arith, e)))
only_by_bytes (Packet.End reuse) table bytes r = sym (coded_other bytes r refl (λ e. omega (arith, e)))

-- so it is one exactly where they are the long form's
only_long : (m : Message) (s : List ℕ) → is_read_only m s ≡ same_bytes s long_empty → OnlyLong m s
only_long m s e = record {
  only = λ t. same_bytes_lem s long_empty (sym e ∙ t);
  long = λ same. e ∙ ap (λ (l : List ℕ). same_bytes l long_empty) same ∙ same_self long_empty;
}

-- an accepted packet is read and not written exactly where its bytes are those of the long form of an empty body packet
pub read_only_is : (d : Direction) (c : Connection) (s table : List ℕ) (p : Packet) (n : ℕ) (next : Connection) → Bytes s
    → reading d c s (length table) ≡ accepted p n next → OnlyLong (message_shown p (part s 0 n) (table_after d c s table)) (part s 0 n)
read_only_is d c s table p n next bytes e =
    only_long (message_shown p (part s 0 n) (table_after d c s table)) (part s 0 n)
    (only_by_bytes p (table_after d c s table) (bytes_part s 0 n bytes) (accepted_parses d c s (length table) p n next e).parses)

-- the message of the long form, written
long_writes : {d : Direction} (c : Connection) (table buffer : List ℕ) → Parses d long_empty empty_told → allowed c (Move.Body 0) ≡ true
    → length short_empty ≤ length buffer
    → WrittenBack d c short_empty buffer (message_shown empty_told long_empty table) (length short_empty) (after c (Move.Body 0))
unfolding message_shown part
long_writes c table buffer r a room = record {
  written = (body_calls [] (body_of_size 0) refl).call_is c buffer ∙ one_done c (Move.Body 0) (body_payload []) buffer a (omega arith) room;
  fit = tt;
  way = r.way;
}

-- writing the message of an accepted packet with the long form's bytes, from an equal connection and into a buffer that is long enough: the
-- short form stands from the buffer's first place on and all else is as it was, and the connection after it is the reader's
pub long_empty_writes : (d : Direction) (c : Connection) (s table : List ℕ) (p : Packet) (n : ℕ) (next : Connection) → Bytes s
    → reading d c s (length table) ≡ accepted p n next → part s 0 n ≡ long_empty → (buffer : List ℕ) → length short_empty ≤ length buffer
    → WrittenBack d c short_empty buffer (message_shown p (part s 0 n) (table_after d c s table)) (length short_empty) next
long_empty_writes d c s table p n next bytes e same buffer room =
    let a = accepted_parses d c s (length table) p n next e in
    let r : Parses d long_empty p = subst (λ (l : List ℕ). Parses d l p) same a.parses in
    let told : p ≡ empty_told = long_told p (subst Bytes same (bytes_part s 0 n bytes)) r in
    let left : List ℕ = table_after d c s table in
    let written : WrittenBack d c short_empty buffer (message_shown p long_empty left) (length short_empty) (after c (packet_move p)) =
    subst
    (λ (q : Packet). Parses d long_empty q → allowed c (packet_move q) ≡ true
    → WrittenBack d c short_empty buffer (message_shown q long_empty left) (length short_empty) (after c (packet_move q)))
    (sym told) (λ reads allows. long_writes c left buffer reads allows room) r a.allows in
    rw (same, a.steps) written
