-- The short ways: what is known of a packet that goes one, and that it is answered as reading any packet answers it.
-- Assumes nothing.
use mathlib.Core.Path.{◌≡◌, refl, sym, ap, ◌∙◌}
use mathlib.Core.Bool.{Bool, true, false, false≢true}
use mathlib.Core.List.{List, [], ◌∷◌}
use Prim.Native.Nat.{ℕ}
use native.Mathlib.Omega.{arith}
use borrow.Author.Tests.{ne_eqb, eqb-true, eqb-false}
use lib.Dec.{eqb}
use Rattle.std.specs.Prelude.{Option, Some, None, Result}
use Rattle.wire.specs.declared.refusal.Refusal.{Refusal}
use Rattle.short_ways.specs.declared.ReadPart.{ReadPart}
use Rattle.std.proofs.lemmas.Option.{none-some, same_Some}
use Rattle.reader.proofs.Framing.{frame_inside}
use lib.ListN.{length}
use Rattle.wire.specs.Pick.{pick}
use Rattle.wire.specs.Bytes.{part, integer_in}
use Rattle.wire.specs.Field.{byte_at, integer_at}
use Rattle.packet.specs.declared.Direction.{Direction}
use Rattle.wire.specs.Read.{NumberRead}
use Rattle.places.specs.Entries.{Entries, ended}
use Rattle.connection.specs.Connection.{body_due}
use Rattle.connection.specs.Cycle.{in_state}
use Rattle.connection.specs.declared.Kind.{Kind}
use Rattle.connection.specs.declared.Connection.{Connection}
use Rattle.payload.specs.Code.{code_kind, kind_of_code, kind_at}
use Rattle.payload.specs.Kinds.{packet_at, packet_kind}
use Rattle.payload.specs.Read.{KindRead, PacketRead}
use Rattle.packet.specs.declared.Packet.{Packet}
use Rattle.payload.proofs.Laws.{kind_is}
use Rattle.payload.proofs.Parsed.{parsed_kind}
use Rattle.reader.specs.Frame.{FrameRead, leading_differs, length_at, frame_at}
use Rattle.reader.specs.Meaning.{Meaning, refused}
use Rattle.reader.specs.Reading.{context_of, reading, table_after}
use Rattle.short_ways.specs.Short.{whole_size, is_chunk, body_size, chunk_size, short_size, other, answered, part_meaning, short_reading}
use Rattle.short_ways.specs.Private.{part_in, with_part, some_size}
use Rattle.reader.specs.Private.{sizing}
use Rattle.reader.proofs.Laws.{plain_is, whole_kind, read_whole}
use Rattle.wire.specs.Packet.{code_place}

-- a packet that goes a short way: so many bytes are a whole packet of a kind that is allowed
pub record Short (d : Direction) (c : Connection) (s : List ℕ) (kind : Kind) (n : ℕ) : Type 0 where
  pub whole : frame_at d s ≡ FrameRead.Whole n
  pub kind_read : kind_at (context_of d c) (part s 0 n) ≡ KindRead.Kind kind
  pub allowed : in_state c kind ≡ true

-- a size that is not 0 is a whole packet's
size_whole : (frame : FrameRead) (n : ℕ) → n ≡ whole_size frame → (n ≡ 0 → ⊥) → frame ≡ FrameRead.Whole n
size_whole (FrameRead.Needs k) n e h = absurd (h e)
size_whole (FrameRead.Refused k) n e h = absurd (h e)
size_whole (FrameRead.Whole k) n e h = ap FrameRead.Whole (sym e)

-- so it is with a body packet's size
pub short_body : (c : Connection) (s : List ℕ) (n : ℕ) → n ≡ body_size c s → (n ≡ 0 → ⊥) → Short Direction.ToContainer c s Kind.Body n
unfolding body_size
short_body c s n e h = go (body_due c) refl e
  where
    go : (due : Bool) → body_due c ≡ due → n ≡ pick due (whole_size (frame_at Direction.ToContainer s)) 0
        → Short Direction.ToContainer c s Kind.Body n
    go false q e = absurd (h e)
    go true q e = record {
      whole = size_whole (frame_at Direction.ToContainer s) n e h;
      kind_read = kind_is (context_of Direction.ToContainer c) true (part s 0 n) (byte_at (part s 0 n) code_place) q refl;
      allowed = q;
    }

-- a packet with a chunk's code is a Send Body Chunk
chunk_kind : (c : Connection) (s : List ℕ) → is_chunk (byte_at s code_place) ≡ true
    → kind_at (context_of Direction.ToServer c) s ≡ KindRead.Kind Kind.BodyChunk
unfolding code_kind
chunk_kind c s e = kind_is (context_of Direction.ToServer c) false s (byte_at s code_place) refl refl ∙ go (byte_at s code_place) e
  where
    go : (code : NumberRead) → is_chunk code ≡ true → kind_of_code Direction.ToServer code ≡ KindRead.Kind Kind.BodyChunk
    go (NumberRead.Refused n) e = absurd (false≢true e)
    go (NumberRead.Number code next) e = rw e

-- and with a chunk's
pub short_chunk : (c : Connection) (s : List ℕ) (n : ℕ) → n ≡ chunk_size c s → (n ≡ 0 → ⊥) → Short Direction.ToServer c s Kind.BodyChunk n
unfolding chunk_size
short_chunk c s n e h = go (in_state c Kind.BodyChunk) (is_chunk (byte_at (part s 0 size) code_place)) refl refl e
  where
    size : ℕ
    size = whole_size (frame_at Direction.ToServer s)

    go : (allowed chunk : Bool) → in_state c Kind.BodyChunk ≡ allowed → is_chunk (byte_at (part s 0 size) code_place) ≡ chunk
        → n ≡ pick allowed (pick chunk size 0) 0 → Short Direction.ToServer c s Kind.BodyChunk n
    go false chunk p q e = absurd (h e)
    go true false p q e = absurd (h e)
    go true true p q e = record {
      whole = size_whole (frame_at Direction.ToServer s) n e h;
      kind_read = chunk_kind c (part s 0 n) (ap (λ (k : ℕ). is_chunk (byte_at (part s 0 k) code_place)) e ∙ q);
      allowed = p;
    }

-- a packet without headers that goes a short way: it was stepped by, and the table is as it was
pub short_is : (d : Direction) (c : Connection) (s table : List ℕ) (kind : Kind) (n : ℕ) (packet : List ℕ) (end : PacketRead) (r : Meaning)
    → Short d c s kind n → packet ≡ part s 0 n → packet_at (context_of d c) kind packet ≡ ended end → r ≡ sizing c (length packet) end
    → (r ≡ reading d c s (length table)) × (table ≡ table_after d c s table)
short_is d c s table kind n packet end r short p q e =
    read_whole d c s table n packet r table short.whole p
    (whole_kind d c packet table (context_of d c) refl kind r table (ap (kind_at (context_of d c)) p ∙ short.kind_read) short.allowed
    (plain_is (context_of d c) c kind kind packet table end end r refl q refl e))

-- every packet is the one of its own kind with its own part
pub own : (packet : Packet) → with_part (packet_kind packet) packet (part_in packet) ≡ packet
own Packet.CPing = refl
own Packet.CPong = refl
own (Packet.Forward forward) = refl
own (Packet.Body part) = refl
own (Packet.GetBody asked) = refl
own (Packet.SendHeaders response) = refl
own (Packet.BodyChunk part) = refl
own (Packet.End reuse) = refl

-- a size as the code tells it: none, or one that is not 0
pub size_none : (n : ℕ) → None ≡ some_size n → n ≡ 0
size_none n = go (eqb n 0) refl
  where
    go : (none : Bool) → eqb n 0 ≡ none → None ≡ pick none None (Some n) → n ≡ 0
    go true q e = eqb-true n 0 q
    go false q e = absurd (none-some n e)

pub size_some : (n k : ℕ) → Some k ≡ some_size n → (k ≡ n) × (k ≡ 0 → ⊥)
size_some n k = go (eqb n 0) refl
  where
    go : (none : Bool) → eqb n 0 ≡ none → Some k ≡ pick none None (Some n) → (k ≡ n) × (k ≡ 0 → ⊥)
    go true q e = absurd (none-some k (sym e))
    go false q e = let same = same_Some k n e in (same, λ z. eqb-false n 0 q (sym same ∙ z))

-- a whole packet's size
pub whole_some : (d : Direction) (s : List ℕ) (n : ℕ) → frame_at d s ≡ FrameRead.Whole n → Some n ≡ some_size (whole_size (frame_at d s))
whole_some d s n e =
    let inside = frame_inside d s (FrameRead.Whole n) e in
    let some : n ≡ 0 → ⊥ = λ z. absurd (omega (arith, inside.0, z)) in
    rw (e, ne_eqb n 0 some)

-- a packet that goes no short way is another one
pub short_other : (d : Direction) (c : Connection) (s : List ℕ) (n : ℕ) → n ≡ short_size d c s → n ≡ 0 → other ≡ short_reading d c s
unfolding short_reading
short_other d c s n e z = rw (← e, z)

-- a packet without headers that goes a short way is answered by what its fields and its step come to
module _ (d : Direction) (c : Connection) (s : List ℕ) (kind : Kind) (n : ℕ) (packet : List ℕ) (end : PacketRead)
    (size : n ≡ short_size d c s) (some : n ≡ 0 → ⊥) (short : Short d c s kind n) (is : packet ≡ part s 0 n)
    (reads : packet_at (context_of d c) kind packet ≡ ended end) where
  short_answers : (found : PacketRead) → found ≡ end → answered (sizing c (length packet) found) ≡ short_reading d c s
  unfolding short_reading
  short_answers found e = rw (← size, ne_eqb n 0 some) (ap answered (short_is d c s [] kind n packet found _ short is (rw e reads) refl).0)

  -- its fields are refused
  pub short_refused : (k : ℕ) → PacketRead.Refused k ≡ end → answered (refused k) ≡ short_reading d c s
  unfolding sizing
  short_refused k e = short_answers (PacketRead.Refused k) e

  -- it was stepped by
  pub short_stepped : (found : Packet) (r : Result (Option ReadPart) Refusal) → PacketRead.Packet found ≡ end
      → part_meaning (with_part (packet_kind found) found) r ≡ answered (sizing c (length packet) (PacketRead.Packet found))
      → part_meaning (with_part kind found) r ≡ short_reading d c s
  short_stepped found r e m =
      ap (λ (k : Kind). part_meaning (with_part k found) r)
      (sym (parsed_kind (context_of d c) kind packet found (ap (λ (x : Entries PacketRead). x.end) reads ∙ sym e)))
      ∙ m ∙ short_answers (PacketRead.Packet found) e

-- what a short way answers, by its size
answer_by : (d : Direction) (c : Connection) (s : List ℕ) (m : Meaning) → answered m ≡ short_reading d c s
    → (short_size d c s ≡ 0 → ⊥) × (m ≡ reading d c s 0)
unfolding short_reading
answer_by d c s m e = go (eqb (short_size d c s) 0) refl e
  where
    go : (none : Bool) → eqb (short_size d c s) 0 ≡ none → answered m ≡ pick none other (answered (reading d c s 0))
        → (short_size d c s ≡ 0 → ⊥) × (m ≡ reading d c s 0)
    go true t e = absurd (let z : ◌≡◌ {A = ℕ} 0 1 = cc in omega arith)
    go false t e = (eqb-false (short_size d c s) 0 t, cc)

-- a packet without headers that goes a short way is read the same with any table, which is left as it was
both_tables : (d : Direction) (c : Connection) (s table : List ℕ) (kind : Kind) (n : ℕ) → Short d c s kind n
    → packet_at (context_of d c) kind (part s 0 n) ≡ ended (packet_at (context_of d c) kind (part s 0 n)).end
    → (reading d c s 0 ≡ reading d c s (length table)) × (table ≡ table_after d c s table)
both_tables d c s table kind n short q =
    let without = short_is d c s [] kind n (part s 0 n) _ _ short refl q refl in
    let lent = short_is d c s table kind n (part s 0 n) _ _ short refl q refl in
    (sym without.0 ∙ lent.0, lent.1)

-- so are a body packet and a chunk
any_table : (d : Direction) (c : Connection) (s table : List ℕ) → (short_size d c s ≡ 0 → ⊥)
    → (reading d c s 0 ≡ reading d c s (length table)) × (table ≡ table_after d c s table)
any_table Direction.ToContainer c s table h = both_tables Direction.ToContainer c s table Kind.Body _ (short_body c s _ refl h) refl
any_table Direction.ToServer c s table h = both_tables Direction.ToServer c s table Kind.BodyChunk _ (short_chunk c s _ refl h) refl

-- where a short way answers, reading answers the same with any table
pub short_reads : (d : Direction) (c : Connection) (s : List ℕ) (m : Meaning) → answered m ≡ short_reading d c s
    → (table : List ℕ) → m ≡ reading d c s (length table)
short_reads d c s m e table = let by = answer_by d c s m e in by.1 ∙ (any_table d c s table by.0).0

-- and leaves the table as it was
pub short_keeps : (d : Direction) (c : Connection) (s : List ℕ) (m : Meaning) → answered m ≡ short_reading d c s
    → (table : List ℕ) → table ≡ table_after d c s table
short_keeps d c s m e table = (any_table d c s table (answer_by d c s m e).0).1

-- a packet of no size on a short way is another one, whether the connection allows its kind or not
never_short : (t : Bool) (n : ℕ) (m : Meaning) → n ≡ 0 → pick (eqb (pick t n 0) 0) other (answered m) ≡ other
never_short true n m e = rw e
never_short false n m e = refl

-- from every connection the byte 00 at the container's end is another packet
pub zero_other : (c : Connection) → short_reading Direction.ToContainer c (0x00 ∷ []) ≡ other
unfolding short_reading body_size frame_at leading_differs
zero_other c = never_short (in_state c Kind.Body) _ _ refl

-- and so is Shutdown at the server's
pub code_other : (c : Connection) → short_reading Direction.ToServer c (0x41 ∷ 0x42 ∷ 0x00 ∷ 0x01 ∷ 0x07 ∷ []) ≡ other
unfolding short_reading chunk_size frame_at leading_differs length_at integer_at integer_in byte_at part
code_other c = never_short (in_state c Kind.BodyChunk) _ _ refl
