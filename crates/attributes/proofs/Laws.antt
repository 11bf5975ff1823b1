-- Laws of the attributes' definitions: each answer by the values of its tests, that what is answered lies inside the packet, and the
-- invariant of the loop.
-- Assumes nothing.
use mathlib.Core.Path.{◌≡◌, refl, sym, ap, subst, ◌∙◌}
use mathlib.Core.Bool.{Bool, true, false, false≢true}
use mathlib.Core.List.{List, [], ◌∷◌}
use Prim.Native.Nat.{ℕ, zero, suc, ◌+◌, ◌-◌, ◌≤◌, ◌<◌}
use native.Mathlib.Omega.{arith}
use borrow.Author.Tests.{le-leb, lt-leb, lt-ltb, ne_eqb, leb-true, leb-false}
use lib.Dec.{leb, eqb}
use lib.ListN.{length, get_or}
use Rattle.wire.specs.Pick.{pick, either, one_of, all}
use Rattle.wire.specs.Bytes.{over}
use Rattle.wire.specs.Refusal.{none, cut_short, too_many}
use Rattle.wire.specs.Field.{integer_at, string_at, is_optional}
use Rattle.wire.specs.declared.StringField.{StringField}
use Rattle.std.specs.Prelude.{Option}
use Rattle.wire.specs.Read.{NumberRead, StringRead}
use Rattle.wire.specs.Facts.{StringInside, NumberInside}
use Rattle.wire.proofs.Field.{string_inside, integer_inside}
use Rattle.names.specs.Attribute.{attribute_kind, attribute_fault}
use Rattle.packet.specs.declared.AttributeKind.{AttributeKind}
use Rattle.places.specs.Entries.{Entries, ended, front, max_attributes}
use Rattle.places.proofs.Filling.{Filling, filling_start, filling_turn, filling_stop, filling_end}
use Rattle.wire.specs.Bits.{bit}
use Rattle.wire.proofs.Bits.{bit_none}
use Rattle.attributes.specs.Private.{set_room, with_bit}
use Rattle.attributes.specs.Facts.{AttributeInside, AttributesEnd, AttributesInside}
use Rattle.attributes.specs.Attributes.{ValueRead, AttributeRead, AttributesRead, found_meaning, last_mark, text_value_of, text_value_at, integer_value_of, integer_value_at, pair_value_of, pair_value_at, attribute_value_at, with_value, coded_at, attribute_at, attribute_then, attributes_at}
use Rattle.attributes.specs.declared.ReadAttribute.{ReadAttribute}
use Rattle.attributes.proofs.Bits.{bit_with}

-- a value, by what is read at the place
module _ (s : List ℕ) (at : ℕ) where
  -- a string
  pub text_value : (r : StringRead) → string_at s at (is_optional StringField.AttributeValue) ≡ r → text_value_at s at ≡ text_value_of at r
  unfolding text_value_at
  text_value r e = ap (text_value_of at) e

  -- an integer
  pub integer_value : (r : NumberRead) → integer_at s at ≡ r → integer_value_at s at ≡ integer_value_of at r
  unfolding integer_value_at
  integer_value r e = ap (integer_value_of at) e

  -- a name string and a value string: by the name string
  pub pair_value : (r : StringRead) → string_at s at (is_optional StringField.AttributeName) ≡ r → pair_value_at s at ≡ pair_value_of s r
  unfolding pair_value_at
  pair_value r e = ap (pair_value_of s) e

-- what is found, where it is known what that is
pub found_is : (found known : Option ReadAttribute) (next : ℕ) (r : AttributeRead) → found_meaning found next ≡ r → found ≡ known
    → r ≡ found_meaning known next
found_is found known next r e f = sym e ∙ ap (λ v. found_meaning v next) f

-- an attribute with a code, by the code's fault and by its value; a proof that does not reach the value says `refl`
pub coded_by : (s : List ℕ) (at code : ℕ) (again : Bool) (fault : ℕ) (fine : Bool) (r : ValueRead)
    → fault ≡ attribute_fault code again → eqb fault none ≡ fine → attribute_value_at s at (attribute_kind code) ≡ r
    → coded_at s at code again ≡ pick fine (with_value code r) (AttributeRead.Refused fault)
unfolding coded_at
coded_by s at code again fault fine r e f g = rw (← e, f, g)

-- an attribute by its tests; a proof that does not reach a test says `refl`
pub attribute_by : (s : List ℕ) (at : ℕ) (full : Bool) (seen : ℕ → Bool) (there last most : Bool)
    → leb (at + 1) (length s) ≡ there → eqb (get_or s at 0) last_mark ≡ last → full ≡ most
    → attribute_at s at full seen
    ≡ pick there
    (pick last (AttributeRead.Last (at + 1))
    (pick most (AttributeRead.Refused too_many) (coded_at s (at + 1) (get_or s at 0) (seen (get_or s at 0)))))
    (AttributeRead.Refused cut_short)
unfolding attribute_at
attribute_by s at full seen there last most e f g = rw (e, f, g)

-- a value that is answered lies at its place or behind it, and has two bytes or more inside a packet of n bytes
abbrev ValueInside : ℕ → ℕ → ValueRead → Type 0
ValueInside n at (ValueRead.Refused k) = Unit
ValueInside n at (ValueRead.Value value next) = (at ≤ value) × ((value + 2 ≤ next) × (next ≤ n))

-- a string lies inside
text_inside : (s : List ℕ) (at : ℕ) → ValueInside (length s) at (text_value_at s at)
unfolding text_value_at
text_inside s at = go (string_at s at (is_optional StringField.AttributeValue)) (string_inside s at (is_optional StringField.AttributeValue) _ refl)
  where
    go : (r : StringRead) → StringInside (length s) at r → ValueInside (length s) at (text_value_of at r)
    go (StringRead.Refused k) h = tt
    go (StringRead.Null next) h = (omega arith, (omega arith, omega arith))
    go (StringRead.Text start len next) h = (omega arith, (omega arith, omega arith))

-- an integer lies inside
number_value_inside : (s : List ℕ) (at : ℕ) → ValueInside (length s) at (integer_value_at s at)
unfolding integer_value_at
number_value_inside s at = go (integer_at s at) (integer_inside s at _ refl)
  where
    go : (r : NumberRead) → NumberInside (length s) at 2 r → ValueInside (length s) at (integer_value_of at r)
    go (NumberRead.Refused k) h = tt
    go (NumberRead.Number value next) h = (omega arith, (omega arith, omega arith))

-- what lies behind a later place lies behind an earlier one
value_earlier : (n at later : ℕ) → at ≤ later → (r : ValueRead) → ValueInside n later r → ValueInside n at r
value_earlier n at later h (ValueRead.Refused k) inside = tt
value_earlier n at later h (ValueRead.Value value next) inside = (omega arith, inside.1)

-- a name string and a value string lie inside
pair_inside : (s : List ℕ) (at : ℕ) → ValueInside (length s) at (pair_value_at s at)
unfolding pair_value_at
pair_inside s at = go (string_at s at (is_optional StringField.AttributeName)) (string_inside s at (is_optional StringField.AttributeName) _ refl)
  where
    go : (r : StringRead) → StringInside (length s) at r → ValueInside (length s) at (pair_value_of s r)
    go (StringRead.Refused k) h = tt
    go (StringRead.Null next) h = tt
    go (StringRead.Text start len next) h = value_earlier (length s) at next (omega arith) (text_value_at s next) (text_inside s next)

-- a value of any kind lies inside
value_inside : (s : List ℕ) (at : ℕ) (kind : AttributeKind) → ValueInside (length s) at (attribute_value_at s at kind)
value_inside s at AttributeKind.NotServed = tt
value_inside s at AttributeKind.Text = text_inside s at
value_inside s at AttributeKind.Integer = number_value_inside s at
value_inside s at AttributeKind.Pair = pair_inside s at

-- no code that a set cannot hold is served
pub high_unserved : (code : ℕ) → set_room ≤ code → attribute_kind code ≡ AttributeKind.NotServed
unfolding attribute_kind
high_unserved code h =
    rw (le-leb 3 code (omega arith), lt-leb code 9 (omega arith), ne_eqb code 10 (omega arith), ne_eqb code 11 (omega arith), le-leb 12 code (omega arith), lt-leb code 13 (omega arith))

-- a code without fault is one that a set can hold
fine_low : (code : ℕ) (again : Bool) → eqb (attribute_fault code again) none ≡ true → code < set_room
unfolding attribute_fault
fine_low code again e = go (leb set_room code) refl
  where
    go : (t : Bool) → leb set_room code ≡ t → code < set_room
    go true h = absurd (false≢true (rw (high_unserved code (leb-true set_room code h)) at e))
    go false h = leb-false set_room code h

-- an attribute whose code is known lies inside
coded_inside : (s : List ℕ) (at code : ℕ) (again : Bool) → AttributeInside (length s) at (coded_at s (at + 1) code again)
unfolding coded_at
coded_inside s at code again = go (eqb (attribute_fault code again) none) refl
  where
    valued : (r : ValueRead) → code < set_room → ValueInside (length s) (at + 1) r → AttributeInside (length s) at (with_value code r)
    valued (ValueRead.Refused k) low h = tt
    valued (ValueRead.Value value next) low h = (h.0, (h.1.0, (h.1.1, low)))

    go : (t : Bool) → eqb (attribute_fault code again) none ≡ t
        → AttributeInside (length s) at
        (pick t (with_value code (attribute_value_at s (at + 1) (attribute_kind code))) (AttributeRead.Refused (attribute_fault code again)))
    go true e = valued (attribute_value_at s (at + 1) (attribute_kind code)) (fine_low code again e) (value_inside s (at + 1) (attribute_kind code))
    go false e = tt

-- an attribute that is read at a place lies inside
pub attribute_inside : (s : List ℕ) (at : ℕ) (full : Bool) (seen : ℕ → Bool) (r : AttributeRead) → attribute_at s at full seen ≡ r
    → AttributeInside (length s) at r
unfolding attribute_at
attribute_inside s at full seen r e =
    subst (AttributeInside (length s) at) e (go (leb (at + 1) (length s)) (eqb (get_or s at 0) last_mark) full refl)
  where
    go : (t u v : Bool) → leb (at + 1) (length s) ≡ t
        → AttributeInside (length s) at
        (pick t
        (pick u (AttributeRead.Last (at + 1))
        (pick v (AttributeRead.Refused too_many) (coded_at s (at + 1) (get_or s at 0) (seen (get_or s at 0)))))
        (AttributeRead.Refused cut_short))
    go false u v h = tt
    go true true v h = (refl, leb-true (at + 1) (length s) h)
    go true false true h = tt
    go true false false h = coded_inside s at (get_or s at 0) (seen (get_or s at 0))

-- where no more may come, no attribute is answered
pub full_none : (s : List ℕ) (at : ℕ) (seen : ℕ → Bool) (code value next : ℕ)
    → attribute_at s at true seen ≡ AttributeRead.Attribute code value next → ⊥
unfolding attribute_at
full_none s at seen code value next e = go (leb (at + 1) (length s)) (eqb (get_or s at 0) last_mark) e
  where
    go : (t u : Bool)
        → pick t (pick u (AttributeRead.Last (at + 1)) (AttributeRead.Refused too_many)) (AttributeRead.Refused cut_short)
        ≡ AttributeRead.Attribute code value next
        → ⊥
    go true true q = let z : ◌≡◌ {A = ℕ} 0 1 = cc in omega arith
    go true false q = let z : ◌≡◌ {A = ℕ} 0 1 = cc in omega arith
    go false u q = let z : ◌≡◌ {A = ℕ} 0 1 = cc in omega arith

-- an end stays one where an attribute more stands in front
end_front : (n at most before places code value next : ℕ) (r : AttributesRead) → AttributeInside n at (AttributeRead.Attribute code value next)
    → AttributesEnd n next most (suc before) places r → AttributesEnd n at (suc most) before (suc (suc places)) r
end_front n at most before places code value next (AttributesRead.Refused k) a h = tt
end_front n at most before places code value next (AttributesRead.Attributes count end) a h =
    (omega arith, (omega arith, (omega arith, omega arith)))

-- attributes that lie inside do so with one more in front
inside_front : (n at most before code value next : ℕ) (r : Entries AttributesRead) → AttributeInside n at (AttributeRead.Attribute code value next)
    → AttributesInside n next most (suc before) r → AttributesInside n at (suc most) before (front at value r)
unfolding all
inside_front n at most before code value next r a h =
    record {
      few = omega (arith, h.few);
      within = rw (lt-ltb at n (omega arith), lt-ltb value n (omega arith)) h.within;
      ends = end_front n at most before (length r.places) code value next r.end a h.ends;
    }

-- attributes of which the first is refused lie inside
inside_refused : (n at most before k : ℕ) → AttributesInside n at most before (ended (AttributesRead.Refused k))
unfolding all
inside_refused n at most before k = record { few = omega arith; within = refl; ends = tt }

-- no attributes, only their last byte, lie inside
inside_last : (n at most before next : ℕ) → AttributeInside n at (AttributeRead.Last next)
    → AttributesInside n at most before (ended (AttributesRead.Attributes before next))
unfolding all
inside_last n at most before next h =
    record { few = omega arith; within = refl; ends = (omega arith, (omega arith, (omega arith, omega arith))) }

-- attributes that are read from a place on lie inside, and so do all of their places
pub attributes_inside : (s : List ℕ) (at most : ℕ) (codes : List ℕ)
    → AttributesInside (length s) at most (length codes) (attributes_at s at most codes)
unfolding attributes_at
attributes_inside s at zero codes = go (attribute_at s at true (one_of codes)) refl
  where
    go : (r : AttributeRead) → attribute_at s at true (one_of codes) ≡ r
        → AttributesInside (length s) at zero (length codes)
        (attribute_then at (length codes) r (λ code next. ended (AttributesRead.Refused too_many)))
    go (AttributeRead.Refused k) e = inside_refused (length s) at zero (length codes) k
    go (AttributeRead.Last next) e = inside_last (length s) at zero (length codes) next (attribute_inside s at true (one_of codes) _ e)
    go (AttributeRead.Attribute code value next) e = absurd (full_none s at (one_of codes) code value next e)
attributes_inside s at (suc most) codes = go (attribute_at s at false (one_of codes)) refl (λ code next. attributes_inside s next most (code ∷ codes))
  where
    go : (r : AttributeRead) → attribute_at s at false (one_of codes) ≡ r
        → ((code next : ℕ) → AttributesInside (length s) next most (suc (length codes)) (attributes_at s next most (code ∷ codes)))
        → AttributesInside (length s) at (suc most) (length codes)
        (attribute_then at (length codes) r (λ code next. attributes_at s next most (code ∷ codes)))
    go (AttributeRead.Refused k) e ih = inside_refused (length s) at (suc most) (length codes) k
    go (AttributeRead.Last next) e ih = inside_last (length s) at (suc most) (length codes) next (attribute_inside s at false (one_of codes) _ e)
    go (AttributeRead.Attribute code value next) e ih =
        inside_front (length s) at most (length codes) code value next (attributes_at s next most (code ∷ codes))
        (attribute_inside s at false (one_of codes) (AttributeRead.Attribute code value next) e) (ih code next)

-- only the code at the place is looked up among those that came before
attribute_seen : (s : List ℕ) (at : ℕ) (full : Bool) (f g : ℕ → Bool) → ((k : ℕ) → f k ≡ g k) → attribute_at s at full f ≡ attribute_at s at full g
unfolding attribute_at
attribute_seen s at full f g h = rw (h (get_or s at 0))

-- After `count` attributes: the set has their codes, the place is behind them, and the table has their places.
pub record Reading (s : List ℕ) (at : ℕ) (entry table : List ℕ) (from set place count : ℕ) : Type 0 where
  pub codes : List ℕ
  pub low : count ≤ max_attributes
  pub many : length codes ≡ count
  pub known : (k : ℕ) → bit set k ≡ one_of codes k
  pub filling : Filling (attributes_at s at max_attributes []) (attributes_at s place (max_attributes - count) codes) entry table from count

-- before the first attribute
pub start : (s : List ℕ) (at : ℕ) (table : List ℕ) (from : ℕ) → Reading s at table table from 0 at 0
start s at table from = record {
  codes = [];
  low = omega arith;
  many = refl;
  known = bit_none;
  filling = filling_start (attributes_at s at max_attributes []) table from;
}

-- an answered end is that of all attributes, and the table has the places of all
abbrev pub Done : List ℕ → ℕ → List ℕ → List ℕ → ℕ → AttributesRead → Type 0
Done s at entry table from end = (end ≡ (attributes_at s at max_attributes []).end) × (table ≡ over entry from (attributes_at s at max_attributes []).places)

module _ (s : List ℕ) (at : ℕ) (entry table : List ℕ) (from set place count : ℕ) (R : Reading s at entry table from set place count) where
  -- what is still to be read
  abbrev left : Entries AttributesRead
  left = attributes_at s place (max_attributes - count) R.codes

  -- the same, by what the next attribute reads as
  left_is : (r : AttributeRead) → count < max_attributes → attribute_at s place false (bit set) ≡ r
      → left ≡ attribute_then place count r (λ code next. attributes_at s next (max_attributes - (count + 1)) (code ∷ R.codes))
  unfolding attributes_at
  left_is r h e =
      let q : max_attributes - count ≡ suc (max_attributes - (count + 1)) = omega arith in
      rw (q, ← attribute_seen s place false (bit set) (one_of R.codes) R.known, e, R.many)

  -- the same, where no more may come
  left_full : (r : AttributeRead) → max_attributes ≤ count → attribute_at s place true (bit set) ≡ r
      → left ≡ attribute_then place count r (λ code next. ended (AttributesRead.Refused too_many))
  unfolding attributes_at
  left_full r h e =
      let q : max_attributes - count ≡ 0 = omega arith in
      rw (q, ← attribute_seen s place true (bit set) (one_of R.codes) R.known, e, R.many)

  -- one attribute more
  pub turn : (code value next : ℕ) → count < max_attributes → from + (max_attributes + max_attributes) ≤ length entry
      → attribute_at s place false (bit set) ≡ AttributeRead.Attribute code value next
      → Reading s at entry (over table (from + (count + count)) (place ∷ value ∷ [])) from (with_bit set code) next (count + 1)
  turn code value next h room e =
      let inside : AttributeInside (length s) place (AttributeRead.Attribute code value next) =
      attribute_inside s place false (bit set) (AttributeRead.Attribute code value next) e in
      record {
        codes = code ∷ R.codes;
        low = omega arith;
        many = omega (arith, R.many);
        known = λ k. bit_with set code k (omega arith) ∙ ap (either (eqb code k)) (R.known k);
        filling =
            filling_turn (attributes_at s at max_attributes []) entry from left table count R.filling place value
            (attributes_at s next (max_attributes - (count + 1)) (code ∷ R.codes))
            (left_is (AttributeRead.Attribute code value next) h e)
            (omega arith);
      }

  -- where only an end is left, the table has the places of all, and the end is that of all
  done : (end : AttributesRead) → left ≡ ended end → Done s at entry table from end
  done end e =
      let whole = attributes_at s at max_attributes [] in (
        sym (filling_end whole entry from left table count R.filling end e),
        filling_stop whole entry from left table count R.filling end e,
      )

  -- the next attribute is refused, or is the byte behind the last one
  pub stop : (r : AttributeRead) (end : AttributesRead) → count < max_attributes → attribute_at s place false (bit set) ≡ r
      → attribute_then place count r (λ code next. attributes_at s next (max_attributes - (count + 1)) (code ∷ R.codes)) ≡ ended end
      → Done s at entry table from end
  stop r end h e f = done end (left_is r h e ∙ f)

  -- the same after as many as may come, where no more may come
  pub last : (r : AttributeRead) (end : AttributesRead) → max_attributes ≤ count → attribute_at s place true (bit set) ≡ r
      → attribute_then place count r (λ code next. ended (AttributesRead.Refused too_many)) ≡ ended end
      → Done s at entry table from end
  last r end h e f = done end (left_full r h e ∙ f)
