-- Pieces one behind the other: what stands in the buffer is the bytes of all of them from its first place on, and the record goes by those bytes.
-- Each piece begins where the one before it ends, so two that are done are one write.
-- Assumes nothing.
use native.Mathlib.Omega.{arith}
use native.Mathlib.Nat.{zero-add, add-zero}
use borrow.Author.Tests.{le-leb, lt-ltb, eqb-true, eqb-false}
use mathlib.Core.Path.{◌≡◌, refl, sym, ap, subst, ◌∙◌}
use mathlib.Core.Bool.{Bool, true, false}
use mathlib.Core.List.{List, [], ◌∷◌, ◌++◌, append_assoc, append-nil}
use Prim.Native.Nat.{ℕ, ◌+◌, ◌-◌, ◌≤◌, ◌<◌}
use lib.Dec.{eqb}
use lib.ListN.{length, length-append}
use Rattle.wire.specs.Bytes.{over}
use Rattle.packet.specs.declared.Direction.{Direction}
use Rattle.wire.proofs.Bytes.{length_over, over_none, over_over}
use Rattle.connection.specs.Cycle.{direction_of}
use Rattle.connection.specs.Connection.{max_packet}
use Rattle.places.specs.Entries.{max_headers}
use Rattle.building.specs.Fault.{or_else, fault_after, first_fault, fit_fault}
use Rattle.building.specs.Field.{Field, faults_of, fields_bytes}
use Rattle.building.specs.Call.{Call, done, refusal_of, outcome, buffer_after}
use Rattle.building.proofs.Sizes.{or_none, or_first, first_none, fit_by}
use Rattle.building.proofs.Calls.{refused_answer, done_answer, done_own, done_fits, after_written}
use Rattle.building.proofs.Faults.{faults_append, faults_more}
use Rattle.building_record.specs.Record.{built_kind, is_forward, building_fields, direction_in, is_possible, header_now, attribute_now, count_fault}
use Rattle.pieces.specs.Fixed.{unset, fixed, fixed_call}
use Rattle.pieces.specs.Header.{header_call, coded_call, spelled_call}
use Rattle.pieces.specs.Attribute.{attribute_call, text_call, integer_call, pair_call}
use Rattle.building_record.specs.declared.BuildingKind.{BuildingKind}
use Rattle.building_record.specs.declared.Building.{Building}
use Rattle.pieces.proofs.Possible.{header_possible, attribute_possible, begun_possible}
use Rattle.messages.specs.Message.{Text, MessageName, coded, spelled, Header, Value, string, integer, pair, Attribute}
use Rattle.messages.specs.Bytes.{fields_by, header_fields, headers_bytes, value_fields, attribute_fields, attributes_bytes}
use Rattle.messages.specs.Writing.{Built, stopped, built, built_by, piece, header_call_by, add_header, add_headers, attribute_call_by, add_attribute, add_attributes}
use Rattle.messages.proofs.Fine.{FieldsFine, HeadersFine, AttributesFine}

-- fields, with a fault that is looked for before them and one that is looked for behind them
module _ (first last : ℕ) (own : List Field) where
  -- where none is found, there is none of the fields or the last
  around_rest : first_fault (first ∷ (faults_of own ++ (last ∷ []))) ≡ 0 → or_else (first_fault (faults_of own)) last ≡ 0
  around_rest h =
      sym (faults_append 0 (faults_of own) (last ∷ []))
      ∙ ap (λ (f : ℕ). fault_after f (faults_of own ++ (last ∷ []))) (sym (first_none first (faults_of own ++ (last ∷ [])) h))
      ∙ h

  -- and where each is none, none is found
  around_none : first ≡ 0 → FieldsFine own → last ≡ 0 → first_fault (first ∷ (faults_of own ++ (last ∷ []))) ≡ 0
  around_none p q r = rw (p, faults_append 0 (faults_of own) (last ∷ []), q, r)

-- the fixed fields have the first fault of the packet's own
fixed_faults : (kind : BuildingKind) (own : List Field) → first_fault (faults_of (fixed kind own)) ≡ first_fault (faults_of own)
fixed_faults kind own =
    ap first_fault (faults_more own (unset ∷ []))
    ∙ faults_append 0 (faults_of own) (0 ∷ [])
    ∙ or_none (first_fault (faults_of own))

-- a header's call is that of its fields
header_call_lem : (r : Building) (buffer : List ℕ) (value : Text) (name : MessageName)
    → header_call_by r buffer value name ≡ header_call r buffer (fields_by (direction_in r) value name)
unfolding coded_call spelled_call
header_call_lem r buffer value (coded n) = refl
header_call_lem r buffer value (spelled name) = refl

-- an attribute's call is that of its fields
attribute_call_lem : (r : Building) (buffer : List ℕ) (code : ℕ) (value : Value)
    → attribute_call_by r buffer code value ≡ attribute_call r buffer (value_fields code value)
unfolding text_call integer_call pair_call
attribute_call_lem r buffer code (string value) = refl
attribute_call_lem r buffer code (integer n) = refl
attribute_call_lem r buffer code (pair name value) = refl

-- what was built is not refused
abbrev pub Unstopped : Built → Type 0
Unstopped x = (n : ℕ) → x ≡ stopped n → ⊥

-- a call on a buffer in which bytes stand from its first place on, where it is done: its bytes stand behind them
record Pieced (call : Call Building) (buffer raw : List ℕ) : Type 0 where
  none : refusal_of call (length (over buffer 0 raw)) ≡ 0
  own : first_fault call.faults ≡ 0
  fits : length (raw ++ call.bytes) ≤ length buffer
  answer : outcome call (length (over buffer 0 raw)) ≡ done call.answer
  after : buffer_after call (over buffer 0 raw) ≡ over buffer 0 (raw ++ call.bytes)

module _ (call : Call Building) (buffer raw : List ℕ) (at : call.at ≡ length raw) (room : length raw ≤ length buffer) where
  -- that is so where it finds no fault
  pieced : refusal_of call (length (over buffer 0 raw)) ≡ 0 → Pieced call buffer raw
  pieced h =
      let x : List ℕ = over buffer 0 raw in
      let there = done_fits call x (refusal_of call (length x)) refl h in
      let size : length (raw ++ call.bytes) ≡ length raw + length call.bytes = length-append raw call.bytes in
      let same : length x ≡ length buffer = length_over buffer 0 raw (omega arith) in
      record {
        none = h;
        own = done_own call x (refusal_of call (length x)) refl h;
        fits = omega (arith, there.0);
        answer = sym (done_answer call x (refusal_of call (length x)) refl call.answer refl h);
        after = after_written call x h ∙ over_over buffer 0 call.at raw call.bytes (omega arith) (omega arith);
      }

  -- where its answer is no refusal
  pieced_unstopped : Unstopped (piece call (over buffer 0 raw)) → Pieced call buffer raw
  pieced_unstopped h = go (eqb (refusal_of call (length (over buffer 0 raw))) 0) refl
    where
      go : (t : Bool) → eqb (refusal_of call (length (over buffer 0 raw))) 0 ≡ t → Pieced call buffer raw
      go true e = pieced (eqb-true _ 0 e)
      go false e =
          let x : List ℕ = over buffer 0 raw in
          let f : ℕ = refusal_of call (length x) in
          absurd (h f (ap (built_by (buffer_after call x)) (sym (refused_answer call x f refl (eqb-false f 0 e)))))

  -- where it has no fault of its own, and its bytes fit
  pieced_fits : first_fault call.faults ≡ 0 → length (raw ++ call.bytes) ≤ max_packet → length (raw ++ call.bytes) ≤ length buffer
      → Pieced call buffer raw
  unfolding refusal_of
  pieced_fits own within fits =
      let x : List ℕ = over buffer 0 raw in
      let size : length (raw ++ call.bytes) ≡ length raw + length call.bytes = length-append raw call.bytes in
      let same : length x ≡ length buffer = length_over buffer 0 raw (omega arith) in
      let end : ℕ = call.at + length call.bytes in
      pieced
      (ap (λ (f : ℕ). or_else f (fit_fault end (length x))) own
      ∙ sym (fit_by end (length x) true true (le-leb end max_packet (omega arith)) (le-leb end (length x) (omega arith))))

-- what pieces have come to: the bytes of the packet so far stand in the buffer from its first place on and within it, and the record is the one
-- behind them, which is possible
pub record Reached (x : Built) (kind : BuildingKind) (count headers : ℕ) (came : Bool) (buffer raw : List ℕ) : Type 0 where
  pub is : x ≡ built (building_fields kind (length raw) count headers came) (over buffer 0 raw)
  pub possible : is_possible (building_fields kind (length raw) count headers came) (over buffer 0 raw) ≡ true
  pub room : length raw ≤ length buffer

-- the same, with the headers and the bytes said in another way
pub reached_same : {x : Built} {kind : BuildingKind} {count headers others : ℕ} {came : Bool} {buffer raw bytes : List ℕ} → headers ≡ others → raw ≡ bytes
    → Reached x kind count headers came buffer raw → Reached x kind count others came buffer bytes
reached_same {x} {kind} {count} {headers} {others} {came} {buffer} {raw} {bytes} e f here =
    subst (λ (n : ℕ). Reached x kind count n came buffer bytes) e (subst (λ (l : List ℕ). Reached x kind count headers came buffer l) f here)

-- a piece that is done comes to that, by what it answers
piece_reached : {x : Built} {kind : BuildingKind} {count headers : ℕ} {came : Bool} {call : Call Building} {buffer raw : List ℕ}
    → Pieced call buffer raw → x ≡ piece call (over buffer 0 raw)
    → call.answer ≡ building_fields kind (length raw + length call.bytes) count headers came
    → is_possible call.answer (buffer_after call (over buffer 0 raw)) ≡ true
    → Reached x kind count headers came buffer (raw ++ call.bytes)
piece_reached {x} {kind} {count} {headers} {came} {call} {buffer} {raw} p e answer possible =
    let after : List ℕ = over buffer 0 (raw ++ call.bytes) in
    let behind : call.answer ≡ building_fields kind (length (raw ++ call.bytes)) count headers came =
    answer ∙ ap (λ (n : ℕ). building_fields kind n count headers came) (sym (length-append raw call.bytes)) in
    record {
      is =
          e
          ∙ ap (built_by (buffer_after call (over buffer 0 raw))) p.answer
          ∙ ap (built call.answer) p.after
          ∙ ap (λ (r : Building). built r after) behind;
      possible = ap (λ (r : Building). is_possible r after) (sym behind) ∙ ap (is_possible call.answer) (sym p.after) ∙ possible;
      room = p.fits;
    }

-- the fixed fields; their count is their last two bytes
module _ (kind : BuildingKind) (own : List Field) (buffer : List ℕ) where
  -- what they come to where they are written
  begun : Pieced (fixed_call kind own) buffer []
      → Reached (piece (fixed_call kind own) buffer) kind (length (fields_bytes (fixed kind own)) - 2) 0 false buffer (fields_bytes (fixed kind own))
  begun p =
      let size : ℕ = length (fields_bytes (fixed kind own)) in
      piece_reached p (ap (piece (fixed_call kind own)) (sym (over_none buffer 0)))
      (ap (λ (n : ℕ). building_fields kind n (size - 2) 0 false) (sym (zero-add size)))
      (begun_possible kind (over buffer 0 []) own p.none)

  -- where they are not refused, they have no fault
  pub fixed_unstopped : Unstopped (piece (fixed_call kind own) buffer)
      → FieldsFine own
      × Reached (piece (fixed_call kind own) buffer) kind (length (fields_bytes (fixed kind own)) - 2) 0 false buffer (fields_bytes (fixed kind own))
  fixed_unstopped h =
      let call : Call Building = fixed_call kind own in
      let p : Pieced call buffer [] =
      pieced_unstopped call buffer [] refl (omega arith) (λ n e. h n (ap (piece call) (sym (over_none buffer 0)) ∙ e)) in
      (sym (fixed_faults kind own) ∙ p.own, begun p)

  -- where they have none and fit, they are written
  pub fixed_fits : FieldsFine own → length (fields_bytes (fixed kind own)) ≤ max_packet → length (fields_bytes (fixed kind own)) ≤ length buffer
      → Reached (piece (fixed_call kind own) buffer) kind (length (fields_bytes (fixed kind own)) - 2) 0 false buffer (fields_bytes (fixed kind own))
  fixed_fits fine within fits =
      begun (pieced_fits (fixed_call kind own) buffer [] refl (omega arith) (fixed_faults kind own ∙ fine) within fits)

-- a header behind what was built
module _ {x : Built} {kind : BuildingKind} {count headers : ℕ} {buffer raw : List ℕ} (header : Header)
    (here : Reached x kind count headers false buffer raw) where
  -- its fields
  abbrev header_own : List Field
  header_own = header_fields (direction_of (built_kind kind)) header

  -- the call for it
  abbrev header_here : Call Building
  header_here = header_call (building_fields kind (length raw) count headers false) (over buffer 0 raw) header_own

  -- adding it is that call
  header_is : add_header x header ≡ piece header_here (over buffer 0 raw)
  header_is =
      ap (λ (y : Built). add_header y header) here.is
      ∙ ap (λ (call : Call Building). piece call (over buffer 0 raw))
      (header_call_lem (building_fields kind (length raw) count headers false) (over buffer 0 raw) header.value header.name)

  -- what it comes to where it is written
  headed : Pieced header_here buffer raw → Reached (add_header x header) kind count (headers + 1) false buffer (raw ++ fields_bytes header_own)
  headed p = piece_reached p header_is refl (header_possible (building_fields kind (length raw) count headers false) (over buffer 0 raw) header_own p.none)

  -- where it is not refused, it has no fault
  header_unstopped : Unstopped (add_header x header)
      → FieldsFine header_own × Reached (add_header x header) kind count (headers + 1) false buffer (raw ++ fields_bytes header_own)
  header_unstopped h =
      let r : Building = building_fields kind (length raw) count headers false in
      let p : Pieced header_here buffer raw = pieced_unstopped header_here buffer raw refl here.room (λ n e. h n (header_is ∙ e)) in
      let rest : or_else (first_fault (faults_of header_own)) (count_fault r) ≡ 0 =
      around_rest (header_now r (over buffer 0 raw)) (count_fault r) header_own p.own in
      (or_first (first_fault (faults_of header_own)) (count_fault r) rest, headed p)

  -- where it has none, one more may come and it fits, it is written
  header_fits : FieldsFine header_own → headers < max_headers → length (raw ++ fields_bytes header_own) ≤ max_packet → length (raw ++ fields_bytes header_own) ≤ length buffer
      → Reached (add_header x header) kind count (headers + 1) false buffer (raw ++ fields_bytes header_own)
  unfolding header_now count_fault
  header_fits fine few within fits =
      let r : Building = building_fields kind (length raw) count headers false in
      let can : is_possible r (over buffer 0 raw) ≡ true = here.possible in
      let allowed : header_now r (over buffer 0 raw) ≡ 0 = rw can in
      let one : count_fault r ≡ 0 = rw (lt-ltb headers max_headers few) in
      headed
      (pieced_fits header_here buffer raw refl here.room (around_none (header_now r (over buffer 0 raw)) (count_fault r) header_own allowed fine one) within fits)

-- three rows of bytes are within a number, however they are grouped
regrouped_within : (a b c : List ℕ) {n : ℕ} → length (a ++ (b ++ c)) ≤ n → length (a ++ b ++ c) ≤ n
regrouped_within a b c h = omega (arith, ap length (append_assoc a b c))

-- and so are the first two of them
first_within : (a b c : List ℕ) {n : ℕ} → length (a ++ (b ++ c)) ≤ n → length (a ++ b) ≤ n
first_within a b c h = omega (arith, regrouped_within a b c h, length-append (a ++ b) c)

-- what was refused stays refused with headers behind it
headers_stopped : (headers : List Header) (n : ℕ) → add_headers (stopped n) headers ≡ stopped n
headers_stopped [] n = refl
headers_stopped (header ∷ later) n = headers_stopped later n

-- so where it is not refused with them, it was not before
pub headers_before : {x : Built} (headers : List Header) → Unstopped (add_headers x headers) → Unstopped x
headers_before headers h n e = h n (ap (λ (y : Built). add_headers y headers) e ∙ headers_stopped headers n)

-- headers behind what was built: where they are not refused, none has a fault, and all are written
pub headers_unstopped : {x : Built} {kind : BuildingKind} {count before : ℕ} {buffer raw : List ℕ} (headers : List Header)
    → Reached x kind count before false buffer raw → Unstopped (add_headers x headers)
    → HeadersFine (direction_of (built_kind kind)) headers
    × Reached (add_headers x headers) kind count (before + length headers) false buffer (raw ++ headers_bytes (direction_of (built_kind kind)) headers)
headers_unstopped {x} {kind} {count} {before} {buffer} {raw} [] here h =
    (tt, reached_same (sym (add-zero before)) (sym (append-nil raw)) here)
headers_unstopped {x} {kind} {count} {before} {buffer} {raw} (header ∷ later) here h =
    let first = header_unstopped header here (headers_before later h) in
    let rest = headers_unstopped {x = add_header x header} later first.1 h in
    let n : before + 1 + length later ≡ before + length (header ∷ later) = omega arith in
    let d : Direction = direction_of (built_kind kind) in
    ((first.0, rest.0), reached_same n (append_assoc raw (fields_bytes (header_fields d header)) (headers_bytes d later)) rest.1)

-- where none has a fault, and all fit, they are written
pub headers_fit : {x : Built} {kind : BuildingKind} {count before : ℕ} {buffer raw : List ℕ} (headers : List Header)
    → Reached x kind count before false buffer raw → HeadersFine (direction_of (built_kind kind)) headers → before + length headers ≤ max_headers
    → length (raw ++ headers_bytes (direction_of (built_kind kind)) headers) ≤ max_packet
    → length (raw ++ headers_bytes (direction_of (built_kind kind)) headers) ≤ length buffer
    → Reached (add_headers x headers) kind count (before + length headers) false buffer (raw ++ headers_bytes (direction_of (built_kind kind)) headers)
headers_fit {x} {kind} {count} {before} {buffer} {raw} [] here fine few within fits =
    reached_same (sym (add-zero before)) (sym (append-nil raw)) here
headers_fit {x} {kind} {count} {before} {buffer} {raw} (header ∷ later) here fine few within fits =
    let d : Direction = direction_of (built_kind kind) in
    let own : List ℕ = fields_bytes (header_fields d header) in
    let later_bytes : List ℕ = headers_bytes d later in
    let n : before + 1 + length later ≡ before + length (header ∷ later) = omega arith in
    let first = header_fits header here fine.0 (omega arith) (first_within raw own later_bytes within) (first_within raw own later_bytes fits) in
    reached_same n (append_assoc raw own later_bytes)
    (headers_fit {x = add_header x header} later first fine.1 (omega arith) (regrouped_within raw own later_bytes within) (regrouped_within raw own later_bytes fits))

-- an attribute behind what was built
module _ {x : Built} {kind : BuildingKind} {count headers : ℕ} {came : Bool} {buffer raw : List ℕ} (attribute : Attribute)
    (here : Reached x kind count headers came buffer raw) where
  -- the call for it
  abbrev attribute_here : Call Building
  attribute_here = attribute_call (building_fields kind (length raw) count headers came) (over buffer 0 raw) (attribute_fields attribute)

  -- adding it is that call
  attribute_is : add_attribute x attribute ≡ piece attribute_here (over buffer 0 raw)
  attribute_is =
      ap (λ (y : Built). add_attribute y attribute) here.is
      ∙ ap (λ (call : Call Building). piece call (over buffer 0 raw))
      (attribute_call_lem (building_fields kind (length raw) count headers came) (over buffer 0 raw) attribute.code attribute.value)

  -- what it comes to where it is written
  attributed : Pieced attribute_here buffer raw
      → Reached (add_attribute x attribute) kind count headers true buffer (raw ++ fields_bytes (attribute_fields attribute))
  attributed p =
      piece_reached p attribute_is refl
      (attribute_possible (building_fields kind (length raw) count headers came) (over buffer 0 raw) (attribute_fields attribute) p.none)

  -- where it is not refused, it has no fault
  attribute_unstopped : Unstopped (add_attribute x attribute)
      → FieldsFine (attribute_fields attribute)
      × Reached (add_attribute x attribute) kind count headers true buffer (raw ++ fields_bytes (attribute_fields attribute))
  attribute_unstopped h =
      let before : ℕ = attribute_now (building_fields kind (length raw) count headers came) (over buffer 0 raw) in
      let own : List ℕ = faults_of (attribute_fields attribute) in
      let p : Pieced attribute_here buffer raw = pieced_unstopped attribute_here buffer raw refl here.room (λ n e. h n (attribute_is ∙ e)) in
      let first : before ≡ 0 = first_none before own p.own in (
        subst (λ (f : ℕ). fault_after f own ≡ 0) first p.own,
        attributed p,
      )

  -- where the packet is a Forward, and it has no fault and fits, it is written
  attribute_fits : is_forward kind ≡ true → FieldsFine (attribute_fields attribute) → length (raw ++ fields_bytes (attribute_fields attribute)) ≤ max_packet
      → length (raw ++ fields_bytes (attribute_fields attribute)) ≤ length buffer
      → Reached (add_attribute x attribute) kind count headers true buffer (raw ++ fields_bytes (attribute_fields attribute))
  unfolding attribute_now
  attribute_fits forward fine within fits =
      let can : is_possible (building_fields kind (length raw) count headers came) (over buffer 0 raw) ≡ true = here.possible in
      attributed (pieced_fits attribute_here buffer raw refl here.room (rw (can, forward) fine) within fits)

-- what was refused stays refused with attributes behind it
attributes_stopped : (attributes : List Attribute) (n : ℕ) → add_attributes (stopped n) attributes ≡ stopped n
attributes_stopped [] n = refl
attributes_stopped (attribute ∷ later) n = attributes_stopped later n

-- so where it is not refused with them, it was not before
pub attributes_before : {x : Built} (attributes : List Attribute) → Unstopped (add_attributes x attributes) → Unstopped x
attributes_before attributes h n e = h n (ap (λ (y : Built). add_attributes y attributes) e ∙ attributes_stopped attributes n)

-- whether an attribute has come
abbrev pub came_after : Bool → List Attribute → Bool
came_after came [] = came
came_after came (attribute ∷ later) = came_after true later

-- the attributes that a packet takes: any in a Forward, none in a Send Headers
abbrev pub Takes : BuildingKind → List Attribute → Type 0
Takes BuildingKind.Forward attributes = Unit
Takes BuildingKind.SendHeaders attributes = attributes ≡ []

-- attributes behind what was built: where they are not refused, none has a fault, and all are written
pub attributes_unstopped : {x : Built} {kind : BuildingKind} {count headers : ℕ} {came : Bool} {buffer raw : List ℕ} (attributes : List Attribute)
    → Reached x kind count headers came buffer raw → Unstopped (add_attributes x attributes)
    → AttributesFine attributes
    × Reached (add_attributes x attributes) kind count headers (came_after came attributes) buffer (raw ++ attributes_bytes attributes)
attributes_unstopped {x = x} {raw = raw} [] here h = (tt, reached_same refl (sym (append-nil raw)) here)
attributes_unstopped {x = x} {raw = raw} (attribute ∷ later) here h =
    let first = attribute_unstopped attribute here (attributes_before later h) in
    let rest = attributes_unstopped {x = add_attribute x attribute} later first.1 h in
    ((first.0, rest.0), reached_same refl (append_assoc raw (fields_bytes (attribute_fields attribute)) (attributes_bytes later)) rest.1)

-- where none has a fault, the packet takes them, and all fit, they are written
pub attributes_fit : {x : Built} {kind : BuildingKind} {count headers : ℕ} {came : Bool} {buffer raw : List ℕ} (attributes : List Attribute)
    → Reached x kind count headers came buffer raw → Takes kind attributes → AttributesFine attributes → length (raw ++ attributes_bytes attributes) ≤ max_packet
    → length (raw ++ attributes_bytes attributes) ≤ length buffer
    → Reached (add_attributes x attributes) kind count headers (came_after came attributes) buffer (raw ++ attributes_bytes attributes)
attributes_fit {x = x} {raw = raw} [] here takes fine within fits = reached_same refl (sym (append-nil raw)) here
attributes_fit {x = x} {kind = BuildingKind.SendHeaders} (attribute ∷ later) here takes fine within fits =
    absurd (let z : ◌≡◌ {A = ℕ} 0 1 = cc in omega arith)
attributes_fit {x = x} {kind = BuildingKind.Forward} {buffer = buffer} {raw = raw} (attribute ∷ later) here takes fine within fits =
    let own : List ℕ = fields_bytes (attribute_fields attribute) in
    let later_bytes : List ℕ = attributes_bytes later in
    let first = attribute_fits attribute here refl fine.0 (first_within raw own later_bytes within) (first_within raw own later_bytes fits) in
    reached_same refl (append_assoc raw own later_bytes)
    (attributes_fit {x = add_attribute x attribute} later first takes fine.1 (regrouped_within raw own later_bytes within) (regrouped_within raw own later_bytes fits))
