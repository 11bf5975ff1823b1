-- A piece judges its own fields as reading does: a header or an attribute that was written, at any place among any bytes, is refused with the
-- first fault of its fields, and where there is none it is read as it was written. It is so of each field, a string or a code, and reading takes
-- the fields in the order in which the piece looks for their faults.
-- Assumes nothing.
use native.Mathlib.Omega.{arith}
use borrow.Author.Tests.{le-leb, eq-eqb, eqb-true, ne_eqb, leb-true, ltb-true}
use mathlib.Core.Path.{◌≡◌, refl, sym, ap, ◌∙◌}
use mathlib.Core.Bool.{Bool, true, false, not, false≢true}
use mathlib.Core.List.{List, [], ◌∷◌, ◌++◌, append_assoc, append-nil}
use Prim.Native.Nat.{ℕ, ◌+◌, ◌/◌, ◌%◌, ◌≤◌, ◌<◌}
use lib.Dec.{leb, ltb, eqb}
use lib.ListN.{length, get_or, length-append}
use lib.Seq.{get_or-append_seam}
use Rattle.wire.specs.Pick.{pick, both, between}
use Rattle.wire.specs.Refusal.{none, attribute_wrong, name_wrong, string_wrong}
use Rattle.wire.specs.Bytes.{part, integer_bytes}
use Rattle.wire.specs.Field.{integer_at, string_at, is_optional, string_bytes, string_allowed}
use Rattle.packet.specs.declared.Direction.{Direction}
use Rattle.wire.specs.declared.StringField.{StringField}
use Rattle.wire.specs.Read.{NumberRead, StringRead}
use Rattle.wire.proofs.Bytes.{part_middle}
use Rattle.wire.proofs.Field.{size_null, size_text}
use Rattle.wire.proofs.RoundTrip.{integer_written}
use Rattle.names.specs.Names.{request_names, response_names, is_listed, first_code, names_in}
use Rattle.names.specs.Header.{begins_code, code_fault, spelled_fault}
use Rattle.headers.specs.Length.{decimal_of, decimal_declared}
use Rattle.names.specs.Attribute.{attribute_kind, may_repeat, is_served, attribute_fault}
use Rattle.packet.specs.declared.AttributeKind.{AttributeKind}
use Rattle.std.specs.Prelude.{Option, Some, None}
use Rattle.headers.specs.Read.{LengthRead, NameRead, HeaderRead}
use Rattle.names.specs.declared.NameList.{NameList}
use Rattle.connection.specs.Connection.{max_packet}
use Rattle.headers.specs.Headers.{declares, declared_after, header_valued, header_value_of, header_value_at, spelled_of, name_at, header_of, header_at, name_unless}
use Rattle.headers.proofs.Laws.{code_is, spelled_is, name_is, value_is, header_is}
use Rattle.attributes.specs.Attributes.{text_value_of, text_value_at, pair_value_of, pair_value_at, with_value, attribute_at, last_mark, ValueRead, AttributeRead}
use Rattle.attributes.specs.Attributes as attributes
use Rattle.attributes.proofs.Laws.{text_value, integer_value, pair_value, coded_by, attribute_by}
use Rattle.building.specs.Fault.{unless, or_else, first_fault, string_fault}
use Rattle.building.specs.Field.{Field, faults_of, fields_bytes}
use Rattle.building.proofs.Sizes.{or_first, or_second}
use Rattle.building.specs.Judged.{judged}
use Rattle.building.proofs.Judged.{string_judged}
use Rattle.pieces.specs.Header.{spelled_name, length_fault, value_fault, coded_fields, spelled_fields}
use Rattle.pieces.specs.Attribute.{is_text, is_integer, is_pair, text_fields, integer_fields, pair_fields}

-- the number that a header is refused with, 0 for none
abbrev pub refusal_in : HeaderRead → ℕ
refusal_in (HeaderRead.Refused n) = n
refusal_in (HeaderRead.Header value declared next) = none

-- the text of a string that was written
pub text_part : (a b text : List ℕ) → part (a ++ (string_bytes false text ++ b)) (length a + 2) (length text) ≡ text
unfolding string_bytes
text_part a b text =
    let p : List ℕ = a ++ integer_bytes (length text) in
    let two : length a + 2 ≡ length p = sym (length-append a (integer_bytes (length text))) in
    let parted : a ++ (integer_bytes (length text) ++ ((text ++ (0 ∷ [])) ++ b)) ≡ p ++ (text ++ (0 ∷ b)) =
    ap (λ (r : List ℕ). a ++ (integer_bytes (length text) ++ r)) (append_assoc text (0 ∷ []) b)
    ∙ sym (append_assoc a (integer_bytes (length text)) (text ++ (0 ∷ b))) in
    ap (λ (l : List ℕ). part l (length a + 2) (length text)) parted
    ∙ ap (λ (i : ℕ). part (p ++ (text ++ (0 ∷ b))) i (length text)) two
    ∙ part_middle p text (0 ∷ b)

-- what reading answers where a string stands that was written, by its fault and its end
abbrev pub stood : ℕ → ℕ → ℕ → Bool → List ℕ → StringRead
stood fault at next null text =
    pick (eqb fault 0) (pick null (StringRead.Null next) (StringRead.Text (at + 2) (length text) next)) (StringRead.Refused fault)

-- that is what it answers, by the first fault of the string
pub string_stood : (a b : List ℕ) (field : StringField) (null : Bool) (text : List ℕ) → length text ≤ max_packet
    → string_at (a ++ (string_bytes null text ++ b)) (length a) (is_optional field)
    ≡ stood (string_fault field null text) (length a) (length a + length (string_bytes null text)) null text
string_stood a b field null text h = string_judged a b field null text (omega arith) ∙ go (string_fault field null text) null
  where
    go : (f : ℕ) (u : Bool) → judged f (length a) u text ≡ stood f (length a) (length a + length (string_bytes u text)) u text
    go f true = rw (size_null true text refl)
    go f false =
        let end : length a + 2 + length text + 1 ≡ length a + length (string_bytes false text) = omega (arith, size_text false text refl) in
        rw end

-- what null declares does not go by a text
null_declares : (is_length : Bool) (before : Option ℕ) (text : List ℕ) → declared_after is_length before true [] ≡ declared_after is_length before true text
unfolding declared_after
null_declares false before text = refl
null_declares true None text = refl
null_declares true (Some n) text = refl

-- a header's value, unless its string has a fault
abbrev pub valued_unless : ℕ → ℕ → ℕ → LengthRead → HeaderRead
valued_unless fault place next is_length = pick (eqb fault 0) (header_valued place next is_length) (HeaderRead.Refused fault)

-- what reading answers where a header's value was written
value_judged : (a b : List ℕ) (is_length : Bool) (before : Option ℕ) (null : Bool) (text : List ℕ) → length text ≤ max_packet
    → header_value_at (a ++ (string_bytes null text ++ b)) (length a) is_length before
    ≡ valued_unless (string_fault StringField.HeaderValue null text) (length a) (length a + length (string_bytes null text))
    (declared_after is_length before null text)
value_judged a b is_length before null text h =
    let f : ℕ = string_fault StringField.HeaderValue null text in
    let next : ℕ = length a + length (string_bytes null text) in
    sym (value_is (a ++ (string_bytes null text ++ b)) (length a) is_length before true (stood f (length a) next null text) refl
    (string_stood a b StringField.HeaderValue null text h))
    ∙ go f next (eqb f 0) null
  where
    go : (f next : ℕ) (t u : Bool)
        → header_value_of (a ++ (string_bytes u text ++ b)) (length a) is_length before
        (pick t (pick u (StringRead.Null next) (StringRead.Text (length a + 2) (length text) next)) (StringRead.Refused f))
        ≡ pick t (header_valued (length a) next (declared_after is_length before u text)) (HeaderRead.Refused f)
    go f next false u = refl
    go f next true true = rw (null_declares is_length before text)
    go f next true false = rw (text_part a b text)

-- a name by its code, which begins with A0, by its fault
pub coded_name_lem : (a b : List ℕ) (d : Direction) (code : ℕ) → 40960 ≤ code → code < 41216
    → name_at d (a ++ (integer_bytes code ++ b)) (length a) ≡ name_unless (code_fault d code) (NameRead.Code code (length a + 2))
coded_name_lem a b d code low high =
    let f : ℕ = code_fault d code in
    let s : List ℕ = a ++ (integer_bytes code ++ b) in
    let room : leb (length a + 2) (length s) ≡ true = le-leb (length a + 2) (length s) (omega (arith, length-append a (integer_bytes code ++ b))) in
    let first : get_or s (length a) 0 ≡ code / 256 % 256 = get_or-append_seam a (code / 256 % 256) ((code % 256) ∷ b) 0 in
    let begins : begins_code (get_or s (length a) 0) ≡ true = eq-eqb (get_or s (length a) 0) 160 (omega arith) in
    sym (name_is d s (length a) true true false (string_at s (length a) false) room begins refl refl)
    ∙ sym (code_is d (integer_at s (length a)) code (length a + 2) f (eqb f 0) (integer_written a b code (omega arith)) refl refl)

-- the first byte of a string that was written is not A0
string_first : (a b : List ℕ) (null : Bool) (text : List ℕ) → length text ≤ max_packet → begins_code (get_or (a ++ (string_bytes null text ++ b)) (length a) 0) ≡ false
unfolding string_bytes
string_first a b true text h = ap begins_code (get_or-append_seam a 255 (255 ∷ b) 0)
string_first a b false text h =
    let n : ℕ = length text in
    ap begins_code (get_or-append_seam a (n / 256 % 256) ((n % 256) ∷ ((text ++ (0 ∷ [])) ++ b)) 0)
    ∙ ne_eqb (n / 256 % 256) 160 (λ e. omega arith)

-- a string has two bytes or more
string_two : (null : Bool) (text : List ℕ) → 2 ≤ length (string_bytes null text)
string_two true text = omega (arith, size_null true text refl)
string_two false text = omega (arith, size_text false text refl)

-- null may not stand in a field that is not optional, such as a name
null_barred : (field : StringField) → is_optional field ≡ false → (text : List ℕ) → string_fault field true text ≡ string_wrong
unfolding string_fault string_allowed
null_barred field e text = rw e

-- a name that is spelled out, by its fault
pub spelled_name_lem : (a b : List ℕ) (d : Direction) (null : Bool) (text : List ℕ) → length text ≤ max_packet
    → name_at d (a ++ (string_bytes null text ++ b)) (length a)
    ≡ name_unless (spelled_name d null text).fault (NameRead.Spelled (length a + 2) (length text) (length a + length (string_bytes null text)))
spelled_name_lem a b d null text h =
    let s : List ℕ = a ++ (string_bytes null text ++ b) in
    let f : ℕ = string_fault StringField.HeaderName null text in
    let next : ℕ = length a + length (string_bytes null text) in
    let room : leb (length a + 2) (length s) ≡ true =
    le-leb (length a + 2) (length s) (omega (arith, string_two null text, length-append a (string_bytes null text ++ b), length-append (string_bytes null text) b)) in
    sym (name_is d s (length a) true false false (stood f (length a) next null text) room (string_first a b null text h) refl
    (string_stood a b StringField.HeaderName null text h))
    ∙ go next null (eqb f 0) refl
  where
    go : (next : ℕ) (u t : Bool) → eqb (string_fault StringField.HeaderName u text) 0 ≡ t
        → spelled_of d (a ++ (string_bytes u text ++ b))
        (pick t (pick u (StringRead.Null next) (StringRead.Text (length a + 2) (length text) next)) (StringRead.Refused (string_fault StringField.HeaderName u text)))
        ≡ name_unless (pick t (spelled_fault d text) (string_fault StringField.HeaderName u text)) (NameRead.Spelled (length a + 2) (length text) next)
    go next u false e = rw e
    go next true true e = absurd (false≢true (ap (λ (f : ℕ). eqb f 0) (sym (null_barred StringField.HeaderName refl text)) ∙ e))
    go next false true e =
        sym (spelled_is d (a ++ (string_bytes false text ++ b)) (length a + 2) (length text) next text (spelled_fault d text)
        (eqb (spelled_fault d text) 0) (sym (text_part a b text)) refl refl)

-- what holds of bytes behind any others, by where they begin and end, holds of the second of two fields in a row
second_holds : (a x y b : List ℕ) (P : List ℕ → ℕ → ℕ → Type 0) → ((front : List ℕ) → P (front ++ (y ++ b)) (length front) (length front + length y))
    → P (a ++ ((x ++ (y ++ [])) ++ b)) (length a + length x) (length a + length (x ++ (y ++ [])))
second_holds a x y b P h =
    let row : a ++ ((x ++ (y ++ [])) ++ b) ≡ (a ++ x) ++ (y ++ b) = simp (append_assoc, append-nil) in
    let place : length (a ++ x) ≡ length a + length x = length-append a x in
    let end : length (a ++ x) + length y ≡ length a + length (x ++ (y ++ [])) =
    omega (arith, place, length-append x (y ++ []), ap length (append-nil y)) in
    rw (row, ← place, ← end) (h (a ++ x))

-- the value behind a name, by its string's fault
value_behind : (a x b : List ℕ) (is_length : Bool) (before : Option ℕ) (null : Bool) (text : List ℕ) → length text ≤ max_packet
    → header_value_at (a ++ ((x ++ (string_bytes null text ++ [])) ++ b)) (length a + length x) is_length before
    ≡ valued_unless (string_fault StringField.HeaderValue null text) (length a + length x) (length a + length (x ++ (string_bytes null text ++ [])))
    (declared_after is_length before null text)
value_behind a x b is_length before null text h =
    second_holds a x (string_bytes null text) b
    (λ (s : List ℕ) (at next : ℕ).
    header_value_at s at is_length before
    ≡ valued_unless (string_fault StringField.HeaderValue null text) at next (declared_after is_length before null text))
    (λ front. value_judged front b is_length before null text h)

-- a header, by what its name reads as where it has no fault
header_by : (d : Direction) (s : List ℕ) (at : ℕ) (before : Option ℕ) (f : ℕ) (name : NameRead) {r : HeaderRead}
    → name_at d s at ≡ name_unless f name → header_of d s before name ≡ r
    → header_at d s at before ≡ pick (eqb f 0) r (HeaderRead.Refused f)
header_by d s at before f name {r} e q =
    sym (header_is d s at before (name_unless f name) e) ∙ go (eqb f 0)
  where
    go : (t : Bool) → header_of d s before (pick t name (NameRead.Refused f)) ≡ pick t r (HeaderRead.Refused f)
    go true = q
    go false = refl

-- a header, by the fault of its name, that of its value's string, its value's place, its end and what it declares
abbrev pub headed : ℕ → ℕ → ℕ → ℕ → LengthRead → HeaderRead
headed name value place next is_length =
    pick (eqb name 0) (valued_unless value place next is_length) (HeaderRead.Refused name)

module _ (f v place next : ℕ) where
  -- its refusal is the first of its faults
  headed_judged : (is_length : LengthRead) → refusal_in (headed f v place next is_length) ≡ first_fault (f ∷ or_else v (length_fault is_length) ∷ [])
  headed_judged is_length = go (eqb f 0) (eqb v 0) is_length
    where
      go : (t u : Bool) (r : LengthRead)
          → refusal_in (pick t (pick u (header_valued place next r) (HeaderRead.Refused v)) (HeaderRead.Refused f)) ≡ pick t (pick u (length_fault r) v) f
      go false u r = refl
      go true false r = refl
      go true true (LengthRead.Refused n) = refl
      go true true (LengthRead.Now declared) = refl

  -- where neither has a fault, it is read
  headed_read : (is_length : LengthRead) → f ≡ 0 → v ≡ 0 → headed f v place next is_length ≡ header_valued place next is_length
  headed_read is_length e g = rw (eq-eqb f 0 e, eq-eqb v 0 g)

-- fields that were written, with other bytes around them
abbrev pub among : List ℕ → List Field → List ℕ → List ℕ
among a own b = a ++ (fields_bytes own ++ b)

-- the place behind them
abbrev pub end_of : List ℕ → List Field → ℕ
end_of a own = length a + length (fields_bytes own)

-- a code without fault begins with A0
pub code_begins : (d : Direction) (code : ℕ) → code_fault d code ≡ 0 → (40960 ≤ code) × (code < 41216)
unfolding code_fault is_listed request_names response_names
code_begins d code h = go d h
  where
    listed : (first past : ℕ) (t u : Bool) → leb first code ≡ t → ltb code past ≡ u → unless (both t u) name_wrong ≡ 0 → (first ≤ code) × (code < past)
    listed first past true true p q h = (leb-true first code p, ltb-true code past q)
    listed first past true false p q h = absurd (omega (arith, h))
    listed first past false u p q h = absurd (omega (arith, h))

    go : (d : Direction) → code_fault d code ≡ 0 → (40960 ≤ code) × (code < 41216)
    go Direction.ToContainer h =
        let first : ℕ = first_code NameList.RequestHeaders in
        let past : ℕ = first + length (names_in NameList.RequestHeaders) in
        let r = listed first past (leb first code) (ltb code past) refl refl h in
        (omega arith, omega arith)
    go Direction.ToServer h =
        let first : ℕ = first_code NameList.ResponseHeaders in
        let past : ℕ = first + length (names_in NameList.ResponseHeaders) in
        let r = listed first past (leb first code) (ltb code past) refl refl h in
        (omega arith, omega arith)

-- what is declared by a value without fault
abbrev pub declared_in : LengthRead → Option ℕ
declared_in (LengthRead.Refused n) = None
declared_in (LengthRead.Now declared) = declared

-- a value is refused with 10, if at all
declares_ten : (is_length : Bool) (before : Option ℕ) (null : Bool) (text : List ℕ) → length_fault (declared_after is_length before null text) ≡ 0
    → declared_after is_length before null text ≡ LengthRead.Now (declared_in (declared_after is_length before null text))
unfolding declared_after
declares_ten false before null text h = refl
declares_ten true (Some n) null text h = absurd (omega (arith, h))
declares_ten true None true text h = absurd (omega (arith, h))
declares_ten true None false text h = go (decimal_of text) h
  where
    go : (r : Option ℕ) → length_fault (decimal_declared r) ≡ 0 → decimal_declared r ≡ LengthRead.Now (declared_in (decimal_declared r))
    go (Some n) h = refl
    go None h = absurd (omega (arith, h))

-- what it says that a header has no fault: its name has none, its value's string has none, and its value declares something
pub header_faultless : (f : ℕ) (is_length null : Bool) (value : List ℕ) → first_fault (f ∷ value_fault is_length null value ∷ []) ≡ 0
    → (f ≡ 0) × ((string_fault StringField.HeaderValue null value ≡ 0)
    × (declared_after is_length None null value ≡ LengthRead.Now (declared_in (declared_after is_length None null value))))
unfolding value_fault
header_faultless f is_length null value h =
    let v : ℕ = string_fault StringField.HeaderValue null value in
    let w : ℕ = length_fault (declared_after is_length None null value) in
    let later : or_else v w ≡ 0 = or_second f (or_else v w) h in
    (or_first f (or_else v w) h, (or_first v w later, declares_ten is_length None null value (or_second v w later)))

-- a header with a code for its name, which begins with A0
module _ (a b : List ℕ) (d : Direction) (code : ℕ) (null : Bool) (value : List ℕ) (low : 40960 ≤ code) (high : code < 41216) (short : length value ≤ max_packet) where
  -- what reading answers, whatever was declared before
  pub coded_header : (before : Option ℕ)
      → header_at d (among a (coded_fields d code null value) b) (length a) before
      ≡ headed (code_fault d code) (string_fault StringField.HeaderValue null value) (length a + 2) (end_of a (coded_fields d code null value))
      (declared_after (declares d code) before null value)
  coded_header before =
      header_by d (among a (coded_fields d code null value) b) (length a) before (code_fault d code) (NameRead.Code code (length a + 2))
      (coded_name_lem a ((string_bytes null value ++ []) ++ b) d code low high)
      (value_behind a (integer_bytes code) b (declares d code) before null value short)

  -- it is refused with the first of its faults
  pub coded_judged : refusal_in (header_at d (among a (coded_fields d code null value) b) (length a) None)
      ≡ first_fault (faults_of (coded_fields d code null value))
  unfolding value_fault
  coded_judged =
      ap refusal_in (coded_header None)
      ∙ headed_judged (code_fault d code) (string_fault StringField.HeaderValue null value) (length a + 2) (end_of a (coded_fields d code null value))
      (declared_after (declares d code) None null value)

  -- where its name and its value's string have none, it is read
  pub coded_read : (before : Option ℕ) → code_fault d code ≡ 0 → string_fault StringField.HeaderValue null value ≡ 0
      → header_at d (among a (coded_fields d code null value) b) (length a) before
      ≡ header_valued (length a + 2) (end_of a (coded_fields d code null value)) (declared_after (declares d code) before null value)
  coded_read before e g =
      coded_header before
      ∙ headed_read (code_fault d code) (string_fault StringField.HeaderValue null value) (length a + 2) (end_of a (coded_fields d code null value))
      (declared_after (declares d code) before null value) e g

  -- and with no fault at all, where nothing was declared before, it gives what its value declares
  pub coded_first : first_fault (faults_of (coded_fields d code null value)) ≡ 0
      → header_at d (among a (coded_fields d code null value) b) (length a) None
      ≡ HeaderRead.Header (length a + 2) (declared_in (declared_after (declares d code) None null value)) (end_of a (coded_fields d code null value))
  coded_first h =
      let fine = header_faultless (code_fault d code) (declares d code) null value h in
      coded_read None fine.0 fine.1.0
      ∙ ap (header_valued (length a + 2) (end_of a (coded_fields d code null value))) fine.1.1

-- a header with a spelled name
module _ (a b : List ℕ) (d : Direction) (name_null : Bool) (name : List ℕ) (null : Bool) (value : List ℕ)
    (h : length name ≤ max_packet) (short : length value ≤ max_packet) where
  -- what reading answers
  pub spelled_header : (before : Option ℕ)
      → header_at d (among a (spelled_fields d name_null name null value) b) (length a) before
      ≡ headed (spelled_name d name_null name).fault (string_fault StringField.HeaderValue null value) (length a + length (string_bytes name_null name))
      (end_of a (spelled_fields d name_null name null value))
      (LengthRead.Now before)
  unfolding declared_after
  spelled_header before =
      let x : List ℕ = string_bytes name_null name in
      header_by d (among a (spelled_fields d name_null name null value) b) (length a) before (spelled_name d name_null name).fault
      (NameRead.Spelled (length a + 2) (length name) (length a + length x))
      (rw append_assoc (spelled_name_lem a ((string_bytes null value ++ []) ++ b) d name_null name h))
      (value_behind a x b false before null value short)

  -- it is refused with the first of its faults
  pub spelled_judged : (before : Option ℕ) → refusal_in (header_at d (among a (spelled_fields d name_null name null value) b) (length a) before)
      ≡ first_fault (faults_of (spelled_fields d name_null name null value))
  unfolding value_fault declared_after
  spelled_judged before =
      ap refusal_in (spelled_header before)
      ∙ headed_judged (spelled_name d name_null name).fault (string_fault StringField.HeaderValue null value) (length a + length (string_bytes name_null name))
      (end_of a (spelled_fields d name_null name null value)) (LengthRead.Now before)

  -- and where it has none it is read, with what was declared before
  pub spelled_read : (before : Option ℕ) → first_fault (faults_of (spelled_fields d name_null name null value)) ≡ 0
      → header_at d (among a (spelled_fields d name_null name null value) b) (length a) before
      ≡ HeaderRead.Header (length a + length (string_bytes name_null name)) before (end_of a (spelled_fields d name_null name null value))
  spelled_read before e =
      let fine = header_faultless (spelled_name d name_null name).fault false null value e in
      spelled_header before
      ∙ headed_read (spelled_name d name_null name).fault (string_fault StringField.HeaderValue null value) (length a + length (string_bytes name_null name))
      (end_of a (spelled_fields d name_null name null value)) (LengthRead.Now before) fine.0 fine.1.0

-- the number that an attribute is refused with, 0 for none
abbrev pub attribute_refusal_in : AttributeRead → ℕ
attribute_refusal_in (AttributeRead.Refused n) = n
attribute_refusal_in (AttributeRead.Last next) = none
attribute_refusal_in (AttributeRead.Attribute code value next) = none

-- a value, unless it has a fault
abbrev value_unless : ℕ → ℕ → ℕ → ValueRead
value_unless f at next = pick (eqb f 0) (ValueRead.Value at next) (ValueRead.Refused f)

-- a value behind its name, unless one of them has a fault
abbrev pair_unless : ℕ → ℕ → ℕ → ℕ → ValueRead
pair_unless n v at next = pick (eqb n 0) (value_unless v at next) (ValueRead.Refused n)

-- the fault is what an attribute with it is refused with
unless_judged : (code f at next : ℕ) → attribute_refusal_in (with_value code (value_unless f at next)) ≡ f
unless_judged code f at next = go (eqb f 0) refl
  where
    go : (t : Bool) → eqb f 0 ≡ t → attribute_refusal_in (with_value code (pick t (ValueRead.Value at next) (ValueRead.Refused f))) ≡ f
    go true e = sym (eqb-true f 0 e)
    go false e = refl

-- and so is the first fault of a name and a value
pair_unless_judged : (code n v at next : ℕ) → attribute_refusal_in (with_value code (pair_unless n v at next)) ≡ or_else n v
pair_unless_judged code n v at next = go (eqb n 0)
  where
    go : (t : Bool) → attribute_refusal_in (with_value code (pick t (value_unless v at next) (ValueRead.Refused n))) ≡ pick t v n
    go true = unless_judged code v at next
    go false = refl

-- the kind of value by its test: a string
pub text_kind : (kind : AttributeKind) → is_text kind ≡ true → kind ≡ AttributeKind.Text
text_kind AttributeKind.NotServed e = absurd (false≢true e)
text_kind AttributeKind.Text e = refl
text_kind AttributeKind.Integer e = absurd (false≢true e)
text_kind AttributeKind.Pair e = absurd (false≢true e)

-- an integer
pub integer_kind : (kind : AttributeKind) → is_integer kind ≡ true → kind ≡ AttributeKind.Integer
integer_kind AttributeKind.NotServed e = absurd (false≢true e)
integer_kind AttributeKind.Text e = absurd (false≢true e)
integer_kind AttributeKind.Integer e = refl
integer_kind AttributeKind.Pair e = absurd (false≢true e)

-- a name and a value
pub pair_kind : (kind : AttributeKind) → is_pair kind ≡ true → kind ≡ AttributeKind.Pair
pair_kind AttributeKind.NotServed e = absurd (false≢true e)
pair_kind AttributeKind.Text e = absurd (false≢true e)
pair_kind AttributeKind.Integer e = absurd (false≢true e)
pair_kind AttributeKind.Pair e = refl

-- only 0A has a name and a value, and it may repeat
pair_repeats : (code : ℕ) → is_pair (attribute_kind code) ≡ true → may_repeat code ≡ true
unfolding attribute_kind may_repeat
pair_repeats code e = go (between 3 9 code) (eqb code 10) (eqb code 11) (between 12 13 code) e
  where
    go : (t u v w : Bool)
        → is_pair (pick t AttributeKind.Text
        (pick u AttributeKind.Pair (pick v AttributeKind.Integer (pick w AttributeKind.Text AttributeKind.NotServed)))) ≡ true
        → u ≡ true
    go true u v w e = absurd (false≢true e)
    go false true v w e = refl
    go false false true w e = e
    go false false false true e = e
    go false false false false e = e

-- two tests of which the second does not hold
both_none : (t : Bool) → both t false ≡ false
both_none true = refl
both_none false = refl

-- an attribute whose code is served, and which did not come before or may repeat: it is its value
module _ (a b : List ℕ) (code : ℕ) (seen : ℕ → Bool) (kind : AttributeKind) (is : attribute_kind code ≡ kind) (served : is_served kind ≡ true)
    (new : both (seen code) (not (may_repeat code)) ≡ false) where
  -- its code has no fault
  fault_none : attribute_fault code (seen code) ≡ 0
  unfolding attribute_fault
  fault_none = rw (is, served, new)

  -- it is not FF
  not_last : eqb code last_mark ≡ false
  unfolding attribute_kind
  not_last = ne_eqb code last_mark (λ e. false≢true (ap (λ (k : ℕ). is_served (attribute_kind k)) (sym e) ∙ ap is_served is ∙ served))

  -- so what its value is read as is what it is read as
  attribute_value : (r : ValueRead) → attributes.attribute_value_at (a ++ (code ∷ b)) (length a + 1) kind ≡ r
      → attribute_at (a ++ (code ∷ b)) (length a) false seen ≡ with_value code r
  attribute_value r e =
      let s : List ℕ = a ++ (code ∷ b) in
      let room : leb (length a + 1) (length s) ≡ true = le-leb (length a + 1) (length s) (omega (arith, length-append a (code ∷ b))) in
      let first : get_or s (length a) 0 ≡ code = get_or-append_seam a code b 0 in
      attribute_by s (length a) false seen true false false room (ap (λ (k : ℕ). eqb k last_mark) first ∙ not_last) refl
      ∙ rw first (coded_by s (length a + 1) code (seen code) 0 true r (sym fault_none) refl (rw is e))

-- a string as a value, by its fault
text_judging : (a b : List ℕ) (null : Bool) (text : List ℕ) → length text ≤ max_packet
    → text_value_at (a ++ (string_bytes null text ++ b)) (length a)
    ≡ value_unless (string_fault StringField.AttributeValue null text) (length a) (length a + length (string_bytes null text))
text_judging a b null text h =
    let f : ℕ = string_fault StringField.AttributeValue null text in
    let next : ℕ = length a + length (string_bytes null text) in
    text_value (a ++ (string_bytes null text ++ b)) (length a) (stood f (length a) next null text) (string_stood a b StringField.AttributeValue null text h)
    ∙ go f next (eqb f 0) null
  where
    go : (f next : ℕ) (t u : Bool)
        → text_value_of (length a) (pick t (pick u (StringRead.Null next) (StringRead.Text (length a + 2) (length text) next)) (StringRead.Refused f))
        ≡ pick t (ValueRead.Value (length a) next) (ValueRead.Refused f)
    go f next false u = refl
    go f next true true = refl
    go f next true false = refl

-- the same as the second of two fields
text_behind : (a x b : List ℕ) (null : Bool) (text : List ℕ) → length text ≤ max_packet
    → text_value_at (a ++ ((x ++ (string_bytes null text ++ [])) ++ b)) (length a + length x)
    ≡ value_unless (string_fault StringField.AttributeValue null text) (length a + length x) (length a + length (x ++ (string_bytes null text ++ [])))
text_behind a x b null text h =
    second_holds a x (string_bytes null text) b
    (λ (s : List ℕ) (at next : ℕ). text_value_at s at ≡ value_unless (string_fault StringField.AttributeValue null text) at next)
    (λ front. text_judging front b null text h)

-- a name and a value, by their faults
pair_judging : (a b : List ℕ) (code : ℕ) (name_null : Bool) (name : List ℕ) (null : Bool) (value : List ℕ) → length name ≤ max_packet → length value ≤ max_packet
    → pair_value_at (among a (pair_fields code name_null name null value) b) (length a + 1)
    ≡ pair_unless (string_fault StringField.AttributeName name_null name) (string_fault StringField.AttributeValue null value)
    (length a + 1 + length (string_bytes name_null name)) (end_of a (pair_fields code name_null name null value))
pair_judging a b code name_null name null value h k =
    let x : List ℕ = string_bytes name_null name in
    let y : List ℕ = string_bytes null value ++ [] in
    let front : length (a ++ (code ∷ [])) ≡ length a + 1 = length-append a (code ∷ []) in
    let parted : a ++ (code ∷ ((x ++ y) ++ b)) ≡ (a ++ (code ∷ [])) ++ (x ++ (y ++ b)) =
    ap (λ (l : List ℕ). a ++ (code ∷ l)) (append_assoc x y b) ∙ sym (append_assoc a (code ∷ []) (x ++ (y ++ b))) in
    pair_value (among a (pair_fields code name_null name null value) b) (length a + 1)
    (stood (string_fault StringField.AttributeName name_null name) (length a + 1) (length a + 1 + length x) name_null name)
    (rw (← front, parted) (string_stood (a ++ (code ∷ [])) (y ++ b) StringField.AttributeName name_null name h))
    ∙ go name_null (eqb (string_fault StringField.AttributeName name_null name) 0) refl
  where
    go : (u t : Bool) → eqb (string_fault StringField.AttributeName u name) 0 ≡ t
        → pair_value_of (among a (pair_fields code u name null value) b)
        (pick t
        (pick u (StringRead.Null (length a + 1 + length (string_bytes u name)))
        (StringRead.Text (length a + 1 + 2) (length name) (length a + 1 + length (string_bytes u name))))
        (StringRead.Refused (string_fault StringField.AttributeName u name)))
        ≡ pick t
        (value_unless (string_fault StringField.AttributeValue null value) (length a + 1 + length (string_bytes u name)) (end_of a (pair_fields code u name null value)))
        (ValueRead.Refused (string_fault StringField.AttributeName u name))
    go u false e = refl
    go true true e = absurd (false≢true (ap (λ (f : ℕ). eqb f 0) (sym (null_barred StringField.AttributeName refl name)) ∙ e))
    go false true e =
        let x : List ℕ = code ∷ string_bytes false name in
        let place : length a + 1 + length (string_bytes false name) ≡ length a + length x = omega arith in
        rw place (text_behind a x b null value k)

-- an attribute with a string
module _ (a b : List ℕ) (code : ℕ) (seen : ℕ → Bool) (null : Bool) (value : List ℕ) (is : is_text (attribute_kind code) ≡ true)
    (new : seen code ≡ false) (short : length value ≤ max_packet) where
  -- what reading answers
  text_attribute : attribute_at (among a (text_fields code null value) b) (length a) false seen
      ≡ with_value code (value_unless (string_fault StringField.AttributeValue null value) (length a + 1) (end_of a (text_fields code null value)))
  text_attribute =
      attribute_value a ((string_bytes null value ++ []) ++ b) code seen AttributeKind.Text (text_kind (attribute_kind code) is) refl (rw new)
      (value_unless (string_fault StringField.AttributeValue null value) (length a + 1) (end_of a (text_fields code null value)))
      (text_behind a (code ∷ []) b null value short)

  -- it is refused with the first of its faults
  pub text_judged : attribute_refusal_in (attribute_at (among a (text_fields code null value) b) (length a) false seen)
      ≡ first_fault (faults_of (text_fields code null value))
  text_judged =
      ap attribute_refusal_in text_attribute
      ∙ rw is (unless_judged code (string_fault StringField.AttributeValue null value) (length a + 1) (end_of a (text_fields code null value)))

  -- and where it has none it is read
  pub text_read : first_fault (faults_of (text_fields code null value)) ≡ 0
      → attribute_at (among a (text_fields code null value) b) (length a) false seen
      ≡ AttributeRead.Attribute code (length a + 1) (end_of a (text_fields code null value))
  text_read h =
      let f : ℕ = string_fault StringField.AttributeValue null value in
      text_attribute
      ∙ rw (eq-eqb f 0 (or_second (unless (is_text (attribute_kind code)) attribute_wrong) f h))

-- an attribute with an integer, which has no fault
pub integer_read : (a b : List ℕ) (code : ℕ) (seen : ℕ → Bool) (value : ℕ) → is_integer (attribute_kind code) ≡ true → seen code ≡ false → value < 65536
    → attribute_at (among a (integer_fields code value) b) (length a) false seen
    ≡ AttributeRead.Attribute code (length a + 1) (end_of a (integer_fields code value))
integer_read a b code seen value is new small =
    let front : length (a ++ (code ∷ [])) ≡ length a + 1 = length-append a (code ∷ []) in
    let end : length a + 1 + 2 ≡ end_of a (integer_fields code value) = omega arith in
    attribute_value a (integer_bytes value ++ b) code seen AttributeKind.Integer (integer_kind (attribute_kind code) is) refl (rw new)
    (ValueRead.Value (length a + 1) (end_of a (integer_fields code value)))
    (integer_value (a ++ (code ∷ (integer_bytes value ++ b))) (length a + 1) (NumberRead.Number value (length a + 1 + 2))
    (rw (← front, ← append_assoc a (code ∷ []) (integer_bytes value ++ b)) (integer_written (a ++ (code ∷ [])) b value small))
    ∙ rw end)

-- so it is refused with the first of its faults, which is none
pub integer_judged : (a b : List ℕ) (code : ℕ) (seen : ℕ → Bool) (value : ℕ) → is_integer (attribute_kind code) ≡ true → seen code ≡ false → value < 65536
    → attribute_refusal_in (attribute_at (among a (integer_fields code value) b) (length a) false seen)
    ≡ first_fault (faults_of (integer_fields code value))
integer_judged a b code seen value is new small = ap attribute_refusal_in (integer_read a b code seen value is new small) ∙ rw is

-- an attribute with a name and a value, which may come again
module _ (a b : List ℕ) (code : ℕ) (seen : ℕ → Bool) (name_null : Bool) (name : List ℕ) (null : Bool) (value : List ℕ)
    (is : is_pair (attribute_kind code) ≡ true) (h : length name ≤ max_packet) (short : length value ≤ max_packet) where
  -- what reading answers
  pair_attribute : attribute_at (among a (pair_fields code name_null name null value) b) (length a) false seen
      ≡ with_value code
      (pair_unless (string_fault StringField.AttributeName name_null name) (string_fault StringField.AttributeValue null value)
      (length a + 1 + length (string_bytes name_null name)) (end_of a (pair_fields code name_null name null value)))
  pair_attribute =
      attribute_value a ((string_bytes name_null name ++ (string_bytes null value ++ [])) ++ b) code seen AttributeKind.Pair (pair_kind (attribute_kind code) is) refl
      (rw (pair_repeats code is) (both_none (seen code)))
      (pair_unless (string_fault StringField.AttributeName name_null name) (string_fault StringField.AttributeValue null value)
      (length a + 1 + length (string_bytes name_null name)) (end_of a (pair_fields code name_null name null value)))
      (pair_judging a b code name_null name null value h short)

  -- it is refused with the first of its faults
  pub pair_judged : attribute_refusal_in (attribute_at (among a (pair_fields code name_null name null value) b) (length a) false seen)
      ≡ first_fault (faults_of (pair_fields code name_null name null value))
  pair_judged =
      ap attribute_refusal_in pair_attribute
      ∙ rw is
      (pair_unless_judged code (string_fault StringField.AttributeName name_null name) (string_fault StringField.AttributeValue null value)
      (length a + 1 + length (string_bytes name_null name)) (end_of a (pair_fields code name_null name null value)))

  -- and where it has none it is read
  pub pair_read : first_fault (faults_of (pair_fields code name_null name null value)) ≡ 0
      → attribute_at (among a (pair_fields code name_null name null value) b) (length a) false seen
      ≡ AttributeRead.Attribute code (length a + 1 + length (string_bytes name_null name)) (end_of a (pair_fields code name_null name null value))
  pair_read e =
      let n : ℕ = string_fault StringField.AttributeName name_null name in
      let v : ℕ = string_fault StringField.AttributeValue null value in
      let first : or_else (unless (is_pair (attribute_kind code)) attribute_wrong) n ≡ 0 = or_first (or_else (unless (is_pair (attribute_kind code)) attribute_wrong) n) v e in
      pair_attribute
      ∙ rw (eq-eqb n 0 (or_second (unless (is_pair (attribute_kind code)) attribute_wrong) n first), eq-eqb v 0 (or_second (or_else (unless (is_pair (attribute_kind code)) attribute_wrong) n) v e))
