-- What closing sets in a buffer in which the packet can be closed: it keeps the buffer's length and all behind the packet, the length that
-- it sets is the packet's, and what stood there, put back from the last to the first, gives the buffer as it was.
-- Assumes nothing.
use native.Mathlib.Omega.{arith}
use native.Mathlib.Nat.{add-zero}
use borrow.Author.Tests.{le-leb, eqb-true, eqb-false}
use mathlib.Core.Path.{◌≡◌, refl, sym, ap, ◌∙◌}
use mathlib.Core.Bool.{Bool, true, false}
use mathlib.Core.List.{List, [], ◌∷◌}
use Prim.Native.Nat.{ℕ, ◌+◌, ◌-◌, ◌<◌, ◌≤◌}
use lib.Dec.{eqb}
use lib.ListN.{length, get_or, take, drop}
use lib.Seq.{get_or-take, get_or-drop, length-take-le, drop-drop}
use Rattle.wire.specs.Pick.{pick}
use Rattle.wire.specs.Bytes.{part, over, integer_in, integer_bytes}
use Rattle.wire.proofs.Bytes.{length_part, part_one, length_over, over_before, over_behind, over_again, over_same}
use Rattle.wire.proofs.RoundTrip.{integer_back, integer_kept}
use Rattle.wire.specs.Facts.{Bytes}
use Rattle.attributes.specs.Attributes.{last_mark}
use Rattle.places.specs.Entries.{max_headers}
use Rattle.building_record.specs.declared.BuildingKind.{BuildingKind}
use Rattle.building_record.specs.declared.Building.{Building}
use Rattle.building_record.specs.Record.{count_size}
use Rattle.views.specs.View.{integer_view}
use Rattle.closing.specs.declared.Old.{Old}
use Rattle.closing.specs.Closing.{last_bytes, closed_length, with_count, with_length, closed, closed_packet}
use Rattle.closing.specs.Private.{last_with, Closable, put_back}
use Rattle.wire.specs.Packet.{payload_place, code_place, length_place}

-- with FF put behind the last piece, the last bytes stand there
pub last_mark_lem : (kind : BuildingKind) → last_with kind last_mark ≡ last_bytes kind
last_mark_lem BuildingKind.Forward = refl
last_mark_lem BuildingKind.SendHeaders = refl

-- what stood there, by the byte that was seen there
last_saved : (s : List ℕ) (at byte : ℕ) (kind : BuildingKind) → at + length (last_bytes kind) ≤ length s → byte ≡ get_or s at 0
    → last_with kind byte ≡ part s at (length (last_bytes kind))
unfolding part
last_saved s at byte BuildingKind.Forward h e = ap (λ (b : ℕ). b ∷ []) e ∙ sym (part_one s at (omega arith))
last_saved s at byte BuildingKind.SendHeaders h e = refl

-- two bytes, by the integer that was seen there
integer_saved : (s : List ℕ) (at n : ℕ) → Bytes s → at + 2 ≤ length s → n ≡ integer_view s at → integer_bytes n ≡ part s at 2
unfolding integer_view
integer_saved s at n bytes h e =
    let there : integer_view s at ≡ integer_in s at = rw (le-leb (at + 2) (length s) h) in
    ap integer_bytes (e ∙ there) ∙ sym (integer_kept s at bytes h)

-- bytes written over others, and the others written back
undone : (l : List ℕ) (at len : ℕ) (a b : List ℕ) → length a ≡ len → at + len ≤ length l → b ≡ part l at len → over (over l at a) at b ≡ l
undone l at len a b e h q =
    let same : length b ≡ length a = ap length q ∙ length_part l at len h ∙ sym e in
    over_again l at a (omega arith) b same ∙ ap (over l at) q ∙ over_same l at len h

-- a byte before the bytes that are laid over a list
byte_before : (l : List ℕ) (at : ℕ) (a : List ℕ) (i : ℕ) → at + length a ≤ length l → i < at → get_or (over l at a) i 0 ≡ get_or l i 0
byte_before l at a i fits h =
    sym (get_or-take at (over l at a) i 0 h) ∙ ap (λ (s : List ℕ). get_or s i 0) (over_before l at a fits) ∙ get_or-take at l i 0 h

-- all behind a place that the bytes do not reach
behind : (l : List ℕ) (at : ℕ) (a : List ℕ) (place : ℕ) → at + length a ≤ place → place ≤ length l → drop place (over l at a) ≡ drop place l
behind l at a place h k =
    let e : at + length a + (place - (at + length a)) ≡ place = omega arith in
    let far : (s : List ℕ) → drop place s ≡ drop (place - (at + length a)) (drop (at + length a) s) =
    λ s. ap (λ (n : ℕ). drop n s) (sym e) ∙ sym (drop-drop (place - (at + length a)) (at + length a) s) in
    far (over l at a) ∙ ap (drop (place - (at + length a))) (over_behind l at a (omega arith)) ∙ sym (far l)

-- a byte behind them
byte_behind : (l : List ℕ) (at : ℕ) (a : List ℕ) (i : ℕ) → at + length a ≤ i → i ≤ length l → get_or (over l at a) i 0 ≡ get_or l i 0
byte_behind l at a i h k =
    let far : (s : List ℕ) → get_or (drop i s) 0 0 ≡ get_or s i 0 = λ s. get_or-drop i s 0 0 ∙ ap (λ (n : ℕ). get_or s n 0) (add-zero i) in
    sym (far (over l at a)) ∙ ap (λ (s : List ℕ). get_or s 0 0) (behind l at a i h k) ∙ far l

-- an integer that is laid over a list reads back
integer_laid : (l : List ℕ) (at n : ℕ) → at ≤ length l → n < 65536 → integer_in (over l at (integer_bytes n)) at ≡ n
unfolding over
integer_laid l at n h small =
    ap (integer_in (over l at (integer_bytes n))) (sym (length-take-le at l h)) ∙ integer_back (take at l) (drop (at + 2) l) n small

module _ (r : Building) (buffer : List ℕ) (can : Closable r buffer) where
  -- the count fits, and keeps the buffer's length
  count_fits : r.count.0 + count_size ≤ length buffer
  count_fits = omega (arith, can.apart, can.inside)

  pub count_length : length (with_count r buffer) ≡ length buffer
  count_length = length_over buffer r.count.0 (integer_bytes r.headers) count_fits

  -- so does the length
  length_fits : payload_place ≤ length (with_count r buffer)
  length_fits = omega (arith, can.behind, count_fits, count_length)

  pub length_length : length (with_length r buffer) ≡ length buffer
  length_length = length_over (with_count r buffer) length_place (integer_bytes (closed_length r - payload_place)) length_fits ∙ count_length

  -- and so do the last bytes
  last_fits : r.next.0 + length (last_bytes r.kind) ≤ length (with_length r buffer)
  last_fits = omega (arith, can.inside, length_length)

  pub set_length : length (closed r buffer) ≡ length buffer
  unfolding closed
  set_length = length_over (with_length r buffer) r.next.0 (last_bytes r.kind) last_fits ∙ length_length

  -- the packet lies in it
  pub set_inside : {set : List ℕ} {size : ℕ} → size ≡ closed_length r → set ≡ closed r buffer → size ≤ length set
  set_inside e p = omega (arith, can.inside, e, ap length p, set_length)

  -- so the packet can be closed there still
  pub set_closable : {z : List ℕ} → z ≡ closed r buffer → Closable r z
  set_closable e = record {
    behind = can.behind;
    apart = can.apart;
    within = can.within;
    inside = omega (arith, can.inside, ap length e, set_length);
  }

  -- the packet has its length
  pub packet_length : length (closed_packet r buffer) ≡ closed_length r
  unfolding closed_packet
  packet_length = length_part (closed r buffer) 0 (closed_length r) (omega (arith, can.inside, set_length))

  -- all behind the packet is as it was
  pub set_behind : drop (closed_length r) (closed r buffer) ≡ drop (closed_length r) buffer
  unfolding closed
  set_behind =
      behind (with_length r buffer) r.next.0 (last_bytes r.kind) (closed_length r) (omega arith) (omega (arith, can.inside, length_length))
      ∙ behind (with_count r buffer) length_place (integer_bytes (closed_length r - payload_place)) (closed_length r) (omega (arith, can.behind, can.apart))
      (omega (arith, can.inside, count_length))
      ∙ behind buffer r.count.0 (integer_bytes r.headers) (closed_length r) (omega (arith, can.apart)) can.inside

  -- a byte before the last bytes
  packet_byte : (i : ℕ) → i < r.next.0 → get_or (closed_packet r buffer) i 0 ≡ get_or (with_length r buffer) i 0
  unfolding closed_packet closed part
  packet_byte i h =
      get_or-take (closed_length r) (closed r buffer) i 0 (omega arith) ∙ byte_before (with_length r buffer) r.next.0 (last_bytes r.kind) i last_fits h

  -- the length that is set is the packet's
  pub packet_payload : integer_in (closed_packet r buffer) length_place ≡ closed_length r - payload_place
  unfolding integer_in
  packet_payload =
      rw (packet_byte length_place (omega (arith, can.behind, can.apart)), packet_byte (length_place + 1) (omega (arith, can.behind, can.apart)))
      (integer_laid (with_count r buffer) length_place (closed_length r - payload_place) (omega (arith, length_fits)) (omega (arith, can.within)))

  -- the byte where the code belongs: the count's first byte where the count stands there, which is 0, else the code
  pub packet_code : (code : ℕ) → r.headers ≤ max_headers → get_or buffer code_place 0 ≡ code
      → get_or (closed_packet r buffer) code_place 0 ≡ pick (eqb r.count.0 code_place) 0 code
  unfolding integer_in
  packet_code code few is =
      packet_byte code_place (omega (arith, can.behind, can.apart))
      ∙ byte_behind (with_count r buffer) length_place (integer_bytes (closed_length r - payload_place)) code_place (omega arith) length_fits
      ∙ by (eqb r.count.0 code_place) refl
    where
      by : (t : Bool) → eqb r.count.0 code_place ≡ t → get_or (with_count r buffer) code_place 0 ≡ pick t 0 code
      by true e =
          let at : r.count.0 ≡ code_place = eqb-true r.count.0 code_place e in
          let laid : integer_in (with_count r buffer) r.count.0 ≡ r.headers =
          integer_laid buffer r.count.0 r.headers (omega (arith, count_fits)) (omega (arith, few)) in
          ap (λ (i : ℕ). get_or (with_count r buffer) i 0) (sym at) ∙ omega (arith, laid, few)
      by false e =
          byte_before buffer r.count.0 (integer_bytes r.headers) code_place count_fits
          (omega (arith, can.behind, eqb-false r.count.0 code_place e))
          ∙ is

  -- what stood there, put back
  set_back : (old : Old) → integer_bytes old.count ≡ part buffer r.count.0 count_size → integer_bytes old.payload ≡ part (with_count r buffer) length_place 2
      → last_with r.kind old.last ≡ part (with_length r buffer) r.next.0 (length (last_bytes r.kind)) → put_back r old (closed r buffer) ≡ buffer
  unfolding closed
  set_back old count size last =
      ap (λ (l : List ℕ). over (over l length_place (integer_bytes old.payload)) r.count.0 (integer_bytes old.count))
      (undone (with_length r buffer) r.next.0 (length (last_bytes r.kind)) (last_bytes r.kind) (last_with r.kind old.last) refl last_fits last)
      ∙ ap (λ (l : List ℕ). over l r.count.0 (integer_bytes old.count))
      (undone (with_count r buffer) length_place 2 (integer_bytes (closed_length r - payload_place)) (integer_bytes old.payload) refl length_fits size)
      ∙ undone buffer r.count.0 count_size (integer_bytes r.headers) (integer_bytes old.count) refl count_fits count

  -- so it is with what is saved just before each write, at places and in buffers as they are then
  pub saved : (old : Old) (x y : List ℕ) → Bytes buffer → Bytes x → x ≡ with_count r buffer → y ≡ with_length r buffer
      → old.count ≡ integer_view buffer r.count.0 → old.payload ≡ integer_view x length_place → old.last ≡ get_or y r.next.0 0
      → put_back r old (closed r buffer) ≡ buffer
  saved old x y bytes bytes2 first second c1 c2 c3 =
      let length_back : integer_bytes old.payload ≡ part x length_place 2 =
      integer_saved x length_place old.payload bytes2 (omega (arith, ap length first, length_fits)) c2 in
      let last_back : last_with r.kind old.last ≡ part y r.next.0 (length (last_bytes r.kind)) =
      last_saved y r.next.0 old.last r.kind (omega (arith, ap length second, last_fits)) c3 in
      set_back old (integer_saved buffer r.count.0 old.count bytes count_fits c1)
      (length_back ∙ ap (λ (l : List ℕ). part l length_place 2) first)
      (last_back ∙ ap (λ (l : List ℕ). part l r.next.0 (length (last_bytes r.kind))) second)
