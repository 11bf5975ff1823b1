-- Laws of content-length: its code, its digits with the invariant of the loop that reads them, and that it is refused with a number of
-- document 01.
-- Assumes nothing.
use borrow.Author.Tests.{leb-true, eqb-true}
use mathlib.Core.List.{List, []}
use mathlib.Core.Path.{◌≡◌, ◌∙◌, refl}
use mathlib.Core.Bool.{Bool, true, false}
use Prim.Native.Nat.{ℕ, ◌+◌, ◌-◌, ◌*◌, ◌^◌, ◌≤◌, ◌<◌}
use native.Mathlib.Omega.{arith}
use native.Mathlib.Nat.{pow-suc, pow-le-pow_right}
use native.Mathlib.Numerals.{add-one}
use lib.Dec.{leb, lit<}
use lib.ListN.{length, get_or, drop, drop_of_length-le}
use lib.Seq.{drop-cons}
use Rattle.wire.specs.Pick.{pick, between}
use Rattle.wire.proofs.Tests.{both_second}
use Rattle.std.specs.Prelude.{Option, Some, None}
use Rattle.headers.specs.Read.{LengthRead}
use Rattle.wire.specs.Refusal.{is_refusal}
use Rattle.names.specs.declared.NameList.{NameList}
use Rattle.names.specs.Names.{ascii, request_names, name_for}
use Rattle.headers.specs.Length.{max_digits, within, digits, decimal_of, decimal_declared, content_length_code, is_content_length, length_after}

-- one digit more, or none
digits_step : (n : ℕ) (text : List ℕ) (i : ℕ) (t : Bool) → i < length text → between 48 57 (get_or text i 0) ≡ t
    → digits n (drop i text) ≡ pick t (digits (n * 10 + (get_or text i 0 - 48)) (drop (i + 1) text)) None
unfolding digits
digits_step n text i t h e = rw (add-one, drop-cons text i 0 h, e)

-- the text has as many bytes as a length may have digits, or not
decimal_long : (text : List ℕ) (t : Bool) → between 1 max_digits (length text) ≡ t
    → decimal_of text ≡ pick t (digits 0 text) None
unfolding decimal_of
decimal_long text t e = rw e

-- a text of no bytes or too many
pub no_decimal : (text : List ℕ) → between 1 max_digits (length text) ≡ false → decimal_of text ≡ None
no_decimal text e = decimal_long text false e

-- sum is below the power of ten of the digits read, and with what is left it makes the whole
pub record Reading (text : List ℕ) (sum i : ℕ) : Type 0 where
  pub below : i ≤ length text
  pub small : sum < 10 ^ i
  pub same : decimal_of text ≡ digits sum (drop i text)

-- nothing is read yet
pub start : (text : List ℕ) → between 1 max_digits (length text) ≡ true → Reading text 0 0
start text h = record { below = omega arith; small = lit< tt; same = decimal_long text true h }

-- where there is one more digit, room for it
pub room : (text : List ℕ) (sum i : ℕ) → Reading text sum i → i < length text → length text ≤ max_digits → sum < 10 ^ (max_digits - 1)
room text sum i R h k = omega (arith, R.small, pow-le-pow_right {n = 10} (lit< tt) {i = i} {j = max_digits - 1} (omega arith))

-- one digit is read
pub turn : (text : List ℕ) (sum i digit : ℕ) → Reading text sum i → i < length text → between 48 57 (get_or text i 0) ≡ true
    → digit ≡ get_or text i 0 - 48 → Reading text (sum * 10 + digit) (i + 1)
turn text sum i digit R h t e =
    let hi : get_or text i 0 ≤ 57 = leb-true (get_or text i 0) 57 (both_second (leb 48 (get_or text i 0)) (leb (get_or text i 0) 57) t) in
    record {
      below = omega arith;
      small = rw (add-one i, pow-suc) (omega (arith, R.small));
      same = rw e (R.same ∙ digits_step sum text i true h t);
    }

-- a byte that is no digit
pub stop : (text : List ℕ) (sum i : ℕ) → Reading text sum i → i < length text → between 48 57 (get_or text i 0) ≡ false
    → decimal_of text ≡ None
stop text sum i R h e = R.same ∙ digits_step sum text i false h e

-- all digits are read
pub done : (text : List ℕ) (sum i : ℕ) → Reading text sum i → length text ≤ i → decimal_of text ≡ within sum
unfolding digits
done text sum i R h =
    let e : drop i text ≡ [] = drop_of_length-le text h in
    rw e at R.same

-- the code of content-length is that of its name in the list
pub content_length : (n : ℕ) → is_content_length n ≡ true → name_for NameList.RequestHeaders n ≡ ascii "content-length"
unfolding name_for request_names
content_length n e = let q : n ≡ content_length_code = eqb-true n content_length_code e in rw q

-- what a content-length declares, where it is refused
abbrev pub LengthRefusal : LengthRead → Type 0
LengthRefusal (LengthRead.Refused n) = is_refusal n ≡ true
LengthRefusal (LengthRead.Now declared) = Unit

decimal_refusal : (r : Option ℕ) → LengthRefusal (decimal_declared r)
decimal_refusal (Some n) = tt
decimal_refusal None = refl

-- a content-length
pub length_refusal : (before : Option ℕ) (null : Bool) (text : List ℕ) → LengthRefusal (length_after before null text)
length_refusal None true text = refl
length_refusal None false text = decimal_refusal (decimal_of text)
length_refusal (Some n) null text = refl
