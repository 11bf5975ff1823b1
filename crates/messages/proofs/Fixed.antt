-- The fixed fields of a Forward or a Send Headers that were written: reading refuses them with their first fault, and without one it reads each
-- where the one before it ends, with its value. Each is judged as the piece judges it.
-- Assumes nothing.
use native.Mathlib.Omega.{arith}
use borrow.Author.Tests.{le-leb, ne_eqb}
use mathlib.Core.Path.{◌≡◌, refl, sym, ap, ◌∙◌}
use mathlib.Core.Bool.{Bool, true, false}
use mathlib.Core.List.{List, [], ◌∷◌, ◌++◌, append_assoc}
use Prim.Native.Nat.{ℕ, ◌+◌, ◌≤◌, ◌<◌}
use lib.Dec.{eqb}
use lib.ListN.{length, length-append}
use Rattle.wire.specs.Pick.{pick, between}
use Rattle.wire.specs.Bytes.{integer_bytes}
use Rattle.wire.specs.Field.{byte_at, integer_at, boolean_at, boolean_bytes, string_at, string_bytes, is_optional, boolean_number}
use Rattle.packet.specs.declared.Direction.{Direction}
use Rattle.wire.specs.declared.StringField.{StringField}
use Rattle.wire.specs.Read.{NumberRead, StringRead}
use Rattle.wire.proofs.RoundTrip.{integer_written, byte_written, boolean_written}
use Rattle.wire.specs.Refusal.{out_of_range, too_many}
use Rattle.connection.specs.Connection.{max_packet}
use Rattle.places.specs.Entries.{ended, ending, max_headers}
use Rattle.payload.specs.Sequence.{after_code, behind, string_as_field, string_field_at, string_after, boolean_as_field, boolean_field_at, boolean_after, number_as_field, byte_after, any_integer_after, integer_after, bounded}
use Rattle.payload.specs.Lists.{headers_after, lists_at}
use Rattle.payload.specs.Forward.{first_method, last_method, ForwardReads, forward_reads, forward_of, forward_at}
use Rattle.payload.specs.SendHeaders.{least_status, greatest_status, SendHeadersReads, send_headers_reads, send_headers_of, send_headers_at}
use Rattle.payload.specs.Read.{FieldRead, PacketRead}
use Rattle.building.specs.Fault.{unless, or_else, first_fault, string_fault, range_fault}
use Rattle.building.specs.Field.{opening, faults_of}
use Rattle.building.proofs.Sizes.{boolean_one}
use Rattle.building.proofs.Faults.{faultless}
use Rattle.building_record.specs.Record.{built_kind}
use Rattle.pieces.specs.Fixed.{fixed, send_headers_fields, forward_fields}
use Rattle.building_record.specs.declared.BuildingKind.{BuildingKind}
use Rattle.pieces.specs.declared.forward.Numbers.{Numbers}
use Rattle.pieces.specs.declared.forward.Nulls.{Nulls}
use Rattle.messages.proofs.Judged.{stood, string_stood, among}
use Rattle.wire.specs.Packet.{after_code_place, code_place}

-- from a place on, a list has these bytes
pub record Ahead (s : List ℕ) (at : ℕ) (rest : List ℕ) : Type 0 where
  pub front : List ℕ
  pub is : s ≡ front ++ rest
  pub place : length front ≡ at

-- behind the first of them it has the later ones
pub ahead_next : {s : List ℕ} {at : ℕ} (x rest : List ℕ) → Ahead s at (x ++ rest) → Ahead s (at + length x) rest
ahead_next x rest r = record {
  front = r.front ++ x;
  is = r.is ∙ sym (append_assoc r.front x rest);
  place = omega (arith, length-append r.front x, r.place);
}

-- what holds of them behind any bytes holds there
pub ahead_holds : {s : List ℕ} {at : ℕ} {rest : List ℕ} (P : List ℕ → ℕ → Type 0)
    → ((a : List ℕ) → P (a ++ rest) (length a)) → Ahead s at rest → P s at
ahead_holds P h r = rw (r.is, ← r.place) (h r.front)

-- a field, unless it or one before it has a fault
abbrev field_unless : ℕ → ℕ → ℕ → ℕ → FieldRead
field_unless fault place value next = pick (eqb fault 0) (FieldRead.Field place value next) (FieldRead.Refused fault)

-- a field behind another one
behind_unless : (read : ℕ → FieldRead) (f g p v at q w n : ℕ) → read at ≡ field_unless g q w n
    → behind read (field_unless f p v at) ≡ field_unless (or_else f g) q w n
behind_unless read f g p v at q w n e = go (eqb f 0) refl
  where
    go : (t : Bool) → eqb f 0 ≡ t → behind read (pick t (FieldRead.Field p v at) (FieldRead.Refused f)) ≡ field_unless (pick t g f) q w n
    go true h = e
    go false h = rw h

-- a field was read behind others: the first fault of them all; its place, value and end; and the bytes that stand behind it
record Reads (s : List ℕ) (got : FieldRead) (fault place value next : ℕ) (rest : List ℕ) : Type 0 where
  is : got ≡ field_unless fault place value next
  ahead : Ahead s next rest

-- the field behind it
reads_next : {s : List ℕ} {got : FieldRead} {f p v at : ℕ} (x rest : List ℕ) (read : ℕ → FieldRead) (g w n : ℕ) → Reads s got f p v at (x ++ rest)
    → length x ≡ n → read at ≡ field_unless g at w (at + n) → Reads s (behind read got) (or_else f g) at w (at + n) rest
reads_next {s} {got} {f} {p} {v} {at} x rest read g w n r size e = record {
  is = ap (behind read) r.is ∙ behind_unless read f g p v at at w (at + n) e;
  ahead = rw size at (ahead_next x rest r.ahead);
}

-- a number in a range, as a field
bounded_unless : (at low high n next : ℕ) → bounded at low high out_of_range (NumberRead.Number n next) ≡ field_unless (range_fault low high n) at n next
unfolding range_fault
bounded_unless at low high n next = go (between low high n)
  where
    go : (t : Bool) → pick t (FieldRead.Field at n next) (FieldRead.Refused out_of_range) ≡ field_unless (unless t out_of_range) at n next
    go true = refl
    go false = refl

-- a string, as a field
string_unless : (n f next : ℕ) (null : Bool) (text : List ℕ) → string_as_field n (stood f n next null text) ≡ field_unless f n 0 next
string_unless n f next null text = go (eqb f 0) null
  where
    go : (t u : Bool)
        → string_as_field n (pick t (pick u (StringRead.Null next) (StringRead.Text (n + 2) (length text) next)) (StringRead.Refused f))
        ≡ pick t (FieldRead.Field n 0 next) (FieldRead.Refused f)
    go false u = refl
    go true true = refl
    go true false = refl

module _ {s : List ℕ} {got : FieldRead} {f p v at : ℕ} (rest : List ℕ) where
  -- a byte from `low` to `high`
  byte_reads : (low high n : ℕ) → Reads s got f p v at (n ∷ rest)
      → Reads s (byte_after s low high out_of_range got) (or_else f (range_fault low high n)) at n (at + 1) rest
  unfolding byte_after
  byte_reads low high n r =
      reads_next (n ∷ []) rest (λ i. bounded i low high out_of_range (byte_at s i)) (range_fault low high n) n 1 r refl
      (ahead_holds (λ (l : List ℕ) (i : ℕ). bounded i low high out_of_range (byte_at l i) ≡ field_unless (range_fault low high n) i n (i + 1))
      (λ a. ap (bounded (length a) low high out_of_range) (byte_written a rest n) ∙ bounded_unless (length a) low high n (length a + 1))
      r.ahead)

  -- an integer from `low` to `high`
  integer_reads : (low high n : ℕ) → Reads s got f p v at (integer_bytes n ++ rest) → n < 65536
      → Reads s (integer_after s low high out_of_range got) (or_else f (range_fault low high n)) at n (at + 2) rest
  unfolding integer_after
  integer_reads low high n r h =
      reads_next (integer_bytes n) rest (λ i. bounded i low high out_of_range (integer_at s i)) (range_fault low high n) n 2 r refl
      (ahead_holds (λ (l : List ℕ) (i : ℕ). bounded i low high out_of_range (integer_at l i) ≡ field_unless (range_fault low high n) i n (i + 2))
      (λ a. ap (bounded (length a) low high out_of_range) (integer_written a rest n h) ∙ bounded_unless (length a) low high n (length a + 2))
      r.ahead)

  -- an integer up to `high`
  count_reads : (high fault n : ℕ) → Reads s got f p v at (integer_bytes n ++ rest) → n ≤ high → n < 65536
      → Reads s (integer_after s 0 high fault got) (or_else f 0) at n (at + 2) rest
  unfolding integer_after
  count_reads high fault n r few h =
      reads_next (integer_bytes n) rest (λ i. bounded i 0 high fault (integer_at s i)) 0 n 2 r refl
      (ahead_holds (λ (l : List ℕ) (i : ℕ). bounded i 0 high fault (integer_at l i) ≡ FieldRead.Field i n (i + 2))
      (λ a. ap (bounded (length a) 0 high fault) (integer_written a rest n h) ∙ rw (le-leb 0 n (omega arith), le-leb n high few))
      r.ahead)

  -- any integer
  any_integer_reads : (n : ℕ) → Reads s got f p v at (integer_bytes n ++ rest) → n < 65536
      → Reads s (any_integer_after s got) (or_else f 0) at n (at + 2) rest
  unfolding any_integer_after
  any_integer_reads n r h =
      reads_next (integer_bytes n) rest (λ i. number_as_field i (integer_at s i)) 0 n 2 r refl
      (ahead_holds (λ (l : List ℕ) (i : ℕ). number_as_field i (integer_at l i) ≡ FieldRead.Field i n (i + 2))
      (λ a. ap (number_as_field (length a)) (integer_written a rest n h))
      r.ahead)

  -- a boolean
  boolean_reads : (value : Bool) → Reads s got f p v at (boolean_bytes value ++ rest)
      → Reads s (boolean_after s got) (or_else f 0) at (boolean_number value) (at + 1) rest
  unfolding boolean_after boolean_field_at
  boolean_reads value r =
      reads_next (boolean_bytes value) rest (boolean_field_at s) 0 (boolean_number value) 1 r (boolean_one value)
      (ahead_holds (λ (l : List ℕ) (i : ℕ). boolean_as_field i (boolean_at l i) ≡ FieldRead.Field i (boolean_number value) (i + 1))
      (λ a. ap (boolean_as_field (length a)) (boolean_written a rest value))
      r.ahead)

  -- a string
  string_reads : (field : StringField) (null : Bool) (text : List ℕ) → Reads s got f p v at (string_bytes null text ++ rest) → length text ≤ max_packet
      → Reads s (string_after s field got) (or_else f (string_fault field null text)) at 0 (at + length (string_bytes null text)) rest
  unfolding string_after string_field_at
  string_reads field null text r h =
      let g : ℕ = string_fault field null text in
      let n : ℕ = length (string_bytes null text) in
      reads_next (string_bytes null text) rest (string_field_at s field) g 0 n r refl
      (ahead_holds (λ (l : List ℕ) (i : ℕ). string_as_field i (string_at l i (is_optional field)) ≡ field_unless g i 0 (i + n))
      (λ a. ap (string_as_field (length a)) (string_stood a rest field null text h) ∙ string_unless (length a) g (length a + n) null text)
      r.ahead)

-- before the first of them only the opening was read
reads_start : (s a rest : List ℕ) → length a ≡ after_code_place → s ≡ a ++ rest → Reads s after_code 0 code_place 0 after_code_place rest
reads_start s a rest opened e = record { is = refl; ahead = record { front = a; is = e; place = opened } }

-- which has five bytes
pub opening_five : (kind : BuildingKind) (n : ℕ) → length (opening (built_kind kind) n) ≡ after_code_place
opening_five BuildingKind.Forward n = refl
opening_five BuildingKind.SendHeaders n = refl

-- a field with a value and so many bytes, behind another one
abbrev pub reached : ℕ → ℕ → FieldRead → FieldRead
reached value size = behind (λ at. FieldRead.Field at value (at + size))

-- the fixed fields of a Send Headers, behind an opening, and a count of headers
module _ (a b : List ℕ) (status : ℕ) (null : Bool) (message : List ℕ) (count : ℕ) (opened : length a ≡ after_code_place) (small : status < 65536)
    (short : length message ≤ max_packet) (few : count ≤ max_headers) where
  -- each is read by the first fault up to it
  send_headers_by : (
      let s = among a (send_headers_fields status null message) (integer_bytes count ++ b) in
      let g1 = range_fault least_status greatest_status status in
      let g2 = or_else g1 (string_fault StringField.Message null message) in
      let n = after_code_place + 2 + length (string_bytes null message) in
      send_headers_reads s ≡ record {
        status = field_unless g1 after_code_place status (after_code_place + 2);
        message = field_unless g2 (after_code_place + 2) 0 n;
        headers = field_unless (or_else g2 0) n count (n + 2);
      })
  unfolding send_headers_reads
  send_headers_by =
      let y : List ℕ = string_bytes null message in
      let tail : List ℕ = integer_bytes count ++ b in
      let s : List ℕ = among a (send_headers_fields status null message) tail in
      let r1 = integer_reads (y ++ tail) least_status greatest_status status (reads_start s a (integer_bytes status ++ (y ++ tail)) opened (simp append_assoc)) small in
      let r2 = string_reads tail StringField.Message null message r1 short in
      let r3 = count_reads b max_headers too_many count r2 few (omega arith) in
      rw (r3.is, r2.is, r1.is)

  -- they are refused with their first fault
  pub send_headers_judged : (first_fault (faults_of (fixed BuildingKind.SendHeaders (send_headers_fields status null message))) ≡ 0 → ⊥)
      → send_headers_at (among a (send_headers_fields status null message) (integer_bytes count ++ b))
      ≡ ended (PacketRead.Refused (first_fault (faults_of (fixed BuildingKind.SendHeaders (send_headers_fields status null message)))))
  unfolding send_headers_at headers_after
  send_headers_judged bad =
      let g : ℕ = first_fault (faults_of (fixed BuildingKind.SendHeaders (send_headers_fields status null message))) in
      let s : List ℕ = among a (send_headers_fields status null message) (integer_bytes count ++ b) in
      let refused : (send_headers_reads s).headers ≡ FieldRead.Refused g =
      rw (ne_eqb g 0 bad) at (ap (λ (reads : SendHeadersReads). reads.headers) send_headers_by) in
      ap (λ (count : FieldRead). ending (send_headers_of (length s) (send_headers_reads s)) (headers_after Direction.ToServer s count)) refused

  -- and where there is none each is read where it is, with its value
  pub send_headers_read : first_fault (faults_of (fixed BuildingKind.SendHeaders (send_headers_fields status null message))) ≡ 0
      → (
      let f1 = FieldRead.Field after_code_place status (after_code_place + 2) in
      let f2 = reached 0 (length (string_bytes null message)) f1 in
      send_headers_reads (among a (send_headers_fields status null message) (integer_bytes count ++ b))
      ≡ record { status = f1; message = f2; headers = reached count 2 f2 })
  send_headers_read fine =
      let none = faultless (faults_of (fixed BuildingKind.SendHeaders (send_headers_fields status null message))) fine in
      rw (none.1.0, none.1.1.0) at send_headers_by

-- the fixed fields of a Forward, behind an opening, and a count of headers
module _ (a b : List ℕ) (numbers : Numbers) (nulls : Nulls) (protocol uri addr host name : List ℕ) (count : ℕ) (opened : length a ≡ after_code_place)
    (port : numbers.server_port < 65536) (few : count ≤ max_headers) (protocol_short : length protocol ≤ max_packet) (uri_short : length uri ≤ max_packet)
    (addr_short : length addr ≤ max_packet) (host_short : length host ≤ max_packet) (name_short : length name ≤ max_packet) where
  -- each is read by the first fault up to it
  forward_by : (
      let g1 = range_fault first_method last_method numbers.method in
      let g2 = or_else g1 (string_fault StringField.Protocol nulls.protocol protocol) in
      let g3 = or_else g2 (string_fault StringField.ReqUri nulls.req_uri uri) in
      let g4 = or_else g3 (string_fault StringField.RemoteAddr nulls.remote_addr addr) in
      let g5 = or_else g4 (string_fault StringField.RemoteHost nulls.remote_host host) in
      let g6 = or_else g5 (string_fault StringField.ServerName nulls.server_name name) in
      let g7 = or_else g6 0 in
      let g8 = or_else g7 0 in
      let n3 = after_code_place + 1 + length (string_bytes nulls.protocol protocol) in
      let n4 = n3 + length (string_bytes nulls.req_uri uri) in
      let n5 = n4 + length (string_bytes nulls.remote_addr addr) in
      let n6 = n5 + length (string_bytes nulls.remote_host host) in
      let n7 = n6 + length (string_bytes nulls.server_name name) in
      forward_reads (among a (forward_fields numbers nulls protocol uri addr host name) (integer_bytes count ++ b)) ≡ record {
        method = field_unless g1 after_code_place numbers.method (after_code_place + 1);
        protocol = field_unless g2 (after_code_place + 1) 0 n3;
        uri = field_unless g3 n3 0 n4;
        addr = field_unless g4 n4 0 n5;
        host = field_unless g5 n5 0 n6;
        name = field_unless g6 n6 0 n7;
        port = field_unless g7 n7 numbers.server_port (n7 + 2);
        ssl = field_unless g8 (n7 + 2) (boolean_number numbers.is_ssl) (n7 + 2 + 1);
        headers = field_unless (or_else g8 0) (n7 + 2 + 1) count (n7 + 2 + 1 + 2);
      })
  unfolding forward_reads
  forward_by =
      let s : List ℕ = among a (forward_fields numbers nulls protocol uri addr host name) (integer_bytes count ++ b) in
      let t8 : List ℕ = integer_bytes count ++ b in
      let t7 : List ℕ = boolean_bytes numbers.is_ssl ++ t8 in
      let t6 : List ℕ = integer_bytes numbers.server_port ++ t7 in
      let t5 : List ℕ = string_bytes nulls.server_name name ++ t6 in
      let t4 : List ℕ = string_bytes nulls.remote_host host ++ t5 in
      let t3 : List ℕ = string_bytes nulls.remote_addr addr ++ t4 in
      let t2 : List ℕ = string_bytes nulls.req_uri uri ++ t3 in
      let t1 : List ℕ = string_bytes nulls.protocol protocol ++ t2 in
      let r1 = byte_reads t1 first_method last_method numbers.method (reads_start s a (numbers.method ∷ t1) opened (simp append_assoc)) in
      let r2 = string_reads t2 StringField.Protocol nulls.protocol protocol r1 protocol_short in
      let r3 = string_reads t3 StringField.ReqUri nulls.req_uri uri r2 uri_short in
      let r4 = string_reads t4 StringField.RemoteAddr nulls.remote_addr addr r3 addr_short in
      let r5 = string_reads t5 StringField.RemoteHost nulls.remote_host host r4 host_short in
      let r6 = string_reads t6 StringField.ServerName nulls.server_name name r5 name_short in
      let r7 = any_integer_reads t7 numbers.server_port r6 port in
      let r8 = boolean_reads t8 numbers.is_ssl r7 in
      let r9 = count_reads b max_headers too_many count r8 few (omega arith) in
      rw (r9.is, r8.is, r7.is, r6.is, r5.is, r4.is, r3.is, r2.is, r1.is)

  -- they are refused with their first fault
  pub forward_judged : (first_fault (faults_of (fixed BuildingKind.Forward (forward_fields numbers nulls protocol uri addr host name))) ≡ 0 → ⊥)
      → forward_at (among a (forward_fields numbers nulls protocol uri addr host name) (integer_bytes count ++ b))
      ≡ ended (PacketRead.Refused (first_fault (faults_of (fixed BuildingKind.Forward (forward_fields numbers nulls protocol uri addr host name)))))
  unfolding forward_at lists_at headers_after
  forward_judged bad =
      let g : ℕ = first_fault (faults_of (fixed BuildingKind.Forward (forward_fields numbers nulls protocol uri addr host name))) in
      let s : List ℕ = among a (forward_fields numbers nulls protocol uri addr host name) (integer_bytes count ++ b) in
      let refused : (forward_reads s).headers ≡ FieldRead.Refused g = rw (ne_eqb g 0 bad) at (ap (λ (reads : ForwardReads). reads.headers) forward_by) in
      ap (λ (count : FieldRead). ending (forward_of (forward_reads s)) (lists_at s count)) refused

  -- and where there is none each is read where it is, with its value
  pub forward_read : first_fault (faults_of (fixed BuildingKind.Forward (forward_fields numbers nulls protocol uri addr host name))) ≡ 0
      → (
      let f1 = FieldRead.Field after_code_place numbers.method (after_code_place + 1) in
      let f2 = reached 0 (length (string_bytes nulls.protocol protocol)) f1 in
      let f3 = reached 0 (length (string_bytes nulls.req_uri uri)) f2 in
      let f4 = reached 0 (length (string_bytes nulls.remote_addr addr)) f3 in
      let f5 = reached 0 (length (string_bytes nulls.remote_host host)) f4 in
      let f6 = reached 0 (length (string_bytes nulls.server_name name)) f5 in
      let f7 = reached numbers.server_port 2 f6 in
      let f8 = reached (boolean_number numbers.is_ssl) 1 f7 in
      forward_reads (among a (forward_fields numbers nulls protocol uri addr host name) (integer_bytes count ++ b)) ≡ record {
        method = f1;
        protocol = f2;
        uri = f3;
        addr = f4;
        host = f5;
        name = f6;
        port = f7;
        ssl = f8;
        headers = reached count 2 f8;
      })
  forward_read fine =
      let none = faultless (faults_of (fixed BuildingKind.Forward (forward_fields numbers nulls protocol uri addr host name))) fine in
      rw (none.1.0, none.1.1.0, none.1.1.1.0, none.1.1.1.1.0, none.1.1.1.1.1.0, none.1.1.1.1.1.1.0) at forward_by
