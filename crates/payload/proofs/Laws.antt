-- Laws of the definitions of what a packet says: each outcome by the values of its tests, that a code's kind goes the way that the packet
-- goes, and that each kind's code is of that kind.
-- Assumes nothing.
use mathlib.Core.Path.{◌≡◌, refl, sym, ap, subst, ◌∙◌}
use mathlib.Core.Bool.{Bool, true, false}
use mathlib.Core.List.{List}
use Prim.Native.Nat.{ℕ, ◌+◌, ◌≤◌}
use native.Mathlib.Omega.{arith}
use borrow.Author.Tests.{le-leb, ne_eqb}
use lib.Dec.{ltb, eqb}
use lib.ListN.{length, get_or}
use Rattle.wire.specs.Pick.{pick, either}
use Rattle.wire.specs.Refusal.{cut_short, code_wrong, code_not_served, left_over}
use Rattle.wire.specs.Field.{byte_at, integer_at}
use Rattle.packet.specs.declared.Direction.{Direction}
use Rattle.wire.specs.Read.{NumberRead}
use Rattle.connection.specs.declared.Kind.{Kind}
use Rattle.connection.specs.Cycle.{direction_of}
use Rattle.payload.specs.declared.Context.{Context}
use Rattle.payload.specs.Read.{KindRead, PacketRead}
use Rattle.packet.specs.declared.Packet.{Packet}
use Rattle.payload.specs.Code.{code_of, shutdown_code, ping_code, code_kind, kind_of_code, kind_at}
use Rattle.payload.specs.Packet.{part_from, finished}
use Rattle.payload.specs.GetBody.{get_of, get_at}
use Rattle.payload.specs.Body.{body_start, body_of_size, sized_at, sized_of, body_at}
use Rattle.payload.specs.BodyChunk.{chunk_start, chunk_of, chunk_by, chunk_at}
use Rattle.wire.specs.Packet.{payload_place, code_place, after_code_place}

-- the kind of a packet, by whether it is read as a body packet and by what its code reads as
pub kind_is : (context : Context) (t : Bool) (s : List ℕ) (r : NumberRead) → context.body ≡ t → byte_at s code_place ≡ r
    → kind_at context s ≡ pick t (KindRead.Kind Kind.Body) (kind_of_code context.direction r)
unfolding kind_at
kind_is context t s r p q = rw (p, q)

-- Get Body Chunk, by what its integer reads as
pub get_is : (s : List ℕ) (r : NumberRead) → integer_at s after_code_place ≡ r → get_at s ≡ get_of (length s) r
unfolding get_at
get_is s r e = ap (get_of (length s)) e

-- Send Body Chunk, by what its length reads as
pub chunk_is : (s : List ℕ) (r : NumberRead) → integer_at s after_code_place ≡ r → chunk_at s ≡ chunk_by s r
unfolding chunk_at
chunk_is s r e = ap (chunk_by s) e

-- a body packet, by whether anything follows its length and by what its size reads as
pub body_is : (s : List ℕ) (t : Bool) (r : NumberRead) → eqb (length s) payload_place ≡ t → integer_at s payload_place ≡ r
    → body_at s ≡ pick t (PacketRead.Packet (Packet.Body (body_of_size 0))) (sized_of (length s) r)
unfolding body_at
body_is s t r p q = rw (p, q)

-- where a size is there, by what it reads as
pub body_sized : (s : List ℕ) (r : NumberRead) → body_start ≤ length s → integer_at s payload_place ≡ r → body_at s ≡ sized_of (length s) r
body_sized s r h q = body_is s false r (ne_eqb (length s) payload_place (λ e. omega (arith, e, h))) q

-- a body packet that tells its size, by its two tests
pub sized_by : (size len : ℕ) (a b : Bool) → ltb size (body_start + len) ≡ a → ltb (body_start + len) size ≡ b
    → pick a (PacketRead.Refused cut_short) (pick b (PacketRead.Refused left_over) (PacketRead.Packet (Packet.Body (body_of_size len))))
    ≡ sized_at size len
unfolding sized_at
sized_by size len a b p q = rw (p, q)

-- a chunk whose bytes are there, and behind them a zero
pub chunk_closed : (s : List ℕ) (len : ℕ) → chunk_start + (len + 1) ≤ length s → get_or s (chunk_start + len) 0 ≡ 0
    → finished (length s) (chunk_start + len + 1) (Packet.BodyChunk (part_from chunk_start len)) ≡ chunk_of s len
unfolding chunk_of
chunk_closed s len h z = simp (le-leb, z)

-- a kind that goes a way, where the packet is not refused
abbrev pub Goes : Direction → KindRead → Type 0
Goes d (KindRead.Refused n) = Unit
Goes d (KindRead.Kind k) = direction_of k ≡ d

-- what holds of every kind that goes a way, and of 5 and of 4, holds of what a code is found to be
pub code_cases : (P : KindRead → Type 0) (d : Direction) (code : ℕ) → ((k : Kind) → direction_of k ≡ d → P (KindRead.Kind k))
    → P (KindRead.Refused code_not_served) → P (KindRead.Refused code_wrong) → P (code_kind d code)
unfolding code_kind
code_cases P Direction.ToContainer code kinds not_served wrong =
    go (eqb code (code_of Kind.Forward)) (eqb code (code_of Kind.CPing)) (either (eqb code shutdown_code) (eqb code ping_code))
  where
    go : (a b c : Bool)
        → P
        (pick a (KindRead.Kind Kind.Forward)
        (pick b (KindRead.Kind Kind.CPing) (pick c (KindRead.Refused code_not_served) (KindRead.Refused code_wrong))))
    go true b c = kinds Kind.Forward refl
    go false true c = kinds Kind.CPing refl
    go false false true = not_served
    go false false false = wrong
code_cases P Direction.ToServer code kinds not_served wrong =
    go (eqb code (code_of Kind.BodyChunk)) (eqb code (code_of Kind.SendHeaders)) (eqb code (code_of Kind.End)) (eqb code (code_of Kind.GetBody))
    (eqb code (code_of Kind.CPong))
  where
    go : (a b c d e : Bool)
        → P
        (pick a (KindRead.Kind Kind.BodyChunk)
        (pick b (KindRead.Kind Kind.SendHeaders)
        (pick c (KindRead.Kind Kind.End)
        (pick d (KindRead.Kind Kind.GetBody) (pick e (KindRead.Kind Kind.CPong) (KindRead.Refused code_wrong))))))
    go true b c d e = kinds Kind.BodyChunk refl
    go false true c d e = kinds Kind.SendHeaders refl
    go false false true d e = kinds Kind.End refl
    go false false false true e = kinds Kind.GetBody refl
    go false false false false true = kinds Kind.CPong refl
    go false false false false false = wrong

-- a kind's code, read the way that the kind goes, is the code of that kind; a body packet has no code
pub code_found : (k : Kind) → (k ≡ Kind.Body → ⊥) → code_kind (direction_of k) (code_of k) ≡ KindRead.Kind k
unfolding code_kind
code_found Kind.CPing h = refl
code_found Kind.CPong h = refl
code_found Kind.Forward h = refl
code_found Kind.Body h = absurd (h refl)
code_found Kind.GetBody h = refl
code_found Kind.SendHeaders h = refl
code_found Kind.BodyChunk h = refl
code_found Kind.End h = refl

-- the kind by the code as read goes the way in which the code was read
code_read_goes : (d : Direction) (r : NumberRead) → Goes d (kind_of_code d r)
code_read_goes d (NumberRead.Refused n) = tt
code_read_goes d (NumberRead.Number code next) = code_cases (Goes d) d code (λ k way. way) tt tt

-- the kind of a packet that is not read as a body packet goes the way that the packet goes
pub kind_direction : (context : Context) (s : List ℕ) (k : Kind) → kind_at context s ≡ KindRead.Kind k → context.body ≡ false
    → direction_of k ≡ context.direction
kind_direction context s k e f =
    subst (Goes context.direction) (sym (kind_is context false s (byte_at s code_place) f refl) ∙ e) (code_read_goes context.direction (byte_at s code_place))
