-- The two round trips, kind by kind: what was written reads back as the message that it was written for, and the message that was read is
-- written to the bytes that it was read from, unless they are only read. Here is what each kind has to show; the files of the kinds show it.
-- Assumes nothing.
use native.Mathlib.Omega.{arith}
use mathlib.Core.Path.{◌≡◌, sym, ap, subst}
use mathlib.Core.Bool.{true, false}
use mathlib.Core.List.{List, ◌++◌}
use Prim.Native.Nat.{ℕ, ◌≤◌}
use lib.ListN.{length}
use lib.Seq.{take-append_seam}
use Rattle.wire.specs.Bytes.{part}
use Rattle.packet.specs.declared.Direction.{Direction}
use Rattle.wire.specs.Facts.{Bytes}
use Rattle.wire.proofs.Parts.{bytes_part}
use Rattle.connection.specs.Cycle.{direction_of, allowed, after}
use Rattle.connection.specs.declared.Connection.{Connection}
use Rattle.payload.specs.Kinds.{packet_kind, packet_move}
use Rattle.packet.specs.declared.Packet.{Packet}
use Rattle.building.specs.Call.{Outcome, refused, done}
use Rattle.building.specs.Sent.{Written}
use Rattle.reader.specs.Meaning.{accepted, places_needed}
use Rattle.reader.specs.Reading.{reading, table_after}
use Rattle.reading_laws.proofs.Acceptance.{accepted_is}
use Rattle.messages.specs.Message.{Message, message_direction, places_for, Fit}
use Rattle.messages.specs.Writing.{unwritten, wrote, wrote_by, writing}
use Rattle.messages.specs.Shown.{message_shown}
use Rattle.messages.specs.ReadOnly.{is_read_only}
use Rattle.messages.specs.RoundTrips.{ReadBack, WrittenBack}
use Rattle.messages.proofs.Parses.{Parses, parses_accepted, accepted_parses}
use Rattle.messages.proofs.Tables.{table_of, table_filled}

-- what is written for a message, with whatever behind it, is read as that message by the connection with which it was written
abbrev pub Forth : Message → Type 0
Forth m = (c : Connection) (buffer : List ℕ) (w : Written) (left : List ℕ) → Fit m → writing c m buffer ≡ wrote w left
    → (rest table : List ℕ) → places_for m ≤ length table
    → ReadBack (message_direction m) c (part left 0 w.size ++ rest) table m w.size w.connection

-- a packet that is not only read is written again as its bytes: the message that it shows, by each connection that allows its move
abbrev pub Back : Packet → Type 0
Back p = (d : Direction) (c : Connection) (s table : List ℕ) → Bytes s → Parses d s p → allowed c (packet_move p) ≡ true
    → places_needed p ≤ length table → is_read_only (message_shown p s (table_of p s table)) s ≡ false
    → (buffer : List ℕ) → length s ≤ length buffer
    → WrittenBack d c s buffer (message_shown p s (table_of p s table)) (length s) (after c (packet_move p))

-- a packet that parses is read back, whatever stands behind it, as the message that it shows
read_back : {d : Direction} {s : List ℕ} {p : Packet} → Parses d s p → (c : Connection) → allowed c (packet_move p) ≡ true
    → (rest table : List ℕ) → places_needed p ≤ length table → (m : Message) → message_shown p s (table_of p s table) ≡ m
    → ReadBack d c (s ++ rest) table m (length s) (after c (packet_move p))
unfolding part
read_back {d} {s} {p} r c a rest table h m shows =
    let alone : part (s ++ rest) 0 (length s) ≡ s = take-append_seam s rest in
    let answer = parses_accepted r c a rest (length table) h in
    let places = table_filled d c (s ++ rest) table p (length s) (after c (packet_move p)) answer in
    record {
      packet = p;
      answer = answer;
      message = rw (places, alone) shows;
    }

-- what was refused was not written
pub unwritten_never : (n : ℕ) {w : Written} {left : List ℕ} → unwritten n ≡ wrote w left → ⊥
unwritten_never n e = let z : ◌≡◌ {A = ℕ} 0 1 = cc in omega arith

-- a call that wrote was done
pub wrote_done : (buffer : List ℕ) (answer : Outcome Written) {w : Written} {left : List ℕ} → wrote_by buffer answer ≡ wrote w left
    → (answer ≡ done w) × (buffer ≡ left)
wrote_done buffer (refused n) e = absurd (unwritten_never n e)
wrote_done buffer (done v) e = (cc, cc)

-- a packet shows a message: it asks for the message's places, and in a table with its own places it is the message that is shown
pub record Shows (p : Packet) (s : List ℕ) (m : Message) : Type 0 where
  pub asks : places_needed p ≡ places_for m
  pub shown : (table : List ℕ) → message_shown p s (table_of p s table) ≡ m

-- a call that writes a message left its packet at the start of the buffer: the packet parses, its move is allowed, and it shows the message
pub record Stands (m : Message) (c : Connection) (w : Written) (left : List ℕ) : Type 0 where
  pub packet : Packet
  pub size : length (part left 0 w.size) ≡ w.size
  pub parses : Parses (message_direction m) (part left 0 w.size) packet
  pub allows : allowed c (packet_move packet) ≡ true
  pub steps : after c (packet_move packet) ≡ w.connection
  pub shows : Shows packet (part left 0 w.size) m

-- such a packet reads back, whatever stands behind it
pub stands_back : {m : Message} {c : Connection} {w : Written} {left : List ℕ} → Stands m c w left → (rest table : List ℕ)
    → places_for m ≤ length table
    → ReadBack (message_direction m) c (part left 0 w.size ++ rest) table m w.size w.connection
stands_back {m} {c} {w} {left} k rest table h =
    rw (k.size, k.steps) at (read_back k.parses c k.allows rest table (omega (arith, k.shows.asks)) m (k.shows.shown table))

-- a packet goes its own way, so it is enough to write it back that way
pub own_way : {p : Packet} {c : Connection} {s buffer : List ℕ} {m : Message} {n : ℕ} {next : Connection}
    → (Parses (direction_of (packet_kind p)) s p → WrittenBack (direction_of (packet_kind p)) c s buffer m n next) → {d : Direction} → Parses d s p
    → WrittenBack d c s buffer m n next
own_way {p} {c} {s} {buffer} {m} {n} {next} back r =
    subst (λ (x : Direction). Parses x s p → WrittenBack x c s buffer m n next) r.way back r

-- where every packet that is not only read is written back, so is every such one that is accepted
pub back_by : ((p : Packet) → Back p) → (d : Direction) (c : Connection) (s table : List ℕ) (p : Packet) (n : ℕ) (next : Connection) → Bytes s
    → reading d c s (length table) ≡ accepted p n next → is_read_only (message_shown p (part s 0 n) (table_after d c s table)) (part s 0 n) ≡ false
    → (buffer : List ℕ) → n ≤ length buffer
    → WrittenBack d c (part s 0 n) buffer (message_shown p (part s 0 n) (table_after d c s table)) n next
back_by each d c s table p n next bytes e written buffer h =
    let a = accepted_parses d c s (length table) p n next e in
    let own : List ℕ = part s 0 n in
    let room : places_needed p ≤ length table = (accepted_is d c s (length table) p n next e).has_room in
    let shows : message_shown p own (table_of p own table) ≡ message_shown p own (table_after d c s table) =
    ap (message_shown p own) (sym (table_filled d c s table p n next e)) in
    rw (shows, ← a.size, ← a.steps) at
    (each p d c own table (bytes_part s 0 n bytes) a.parses a.allows room (rw shows written) buffer (rw (← a.size) h))
