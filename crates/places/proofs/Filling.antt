-- A loop that reads entries and puts each one's two places into a table, behind those before it. The headers' loop and the attributes'
-- loop are both such a loop.
-- Assumes nothing.
use mathlib.Core.Path.{◌≡◌, refl, sym, ap, ◌∙◌}
use mathlib.Core.List.{List, [], ◌∷◌, ◌++◌, append_assoc, append-nil}
use Prim.Native.Nat.{ℕ, ◌+◌, ◌≤◌}
use native.Mathlib.Omega.{arith}
use lib.ListN.{length, length-append}
use Rattle.wire.specs.Bytes.{over}
use Rattle.wire.proofs.Bytes.{over_none, over_over, length_over}
use Rattle.places.specs.Entries.{Entries, ended, front}

-- Of all the entries, `later` are still to be read; `count` were, and the table has their places from an index on.
pub record Filling {A : Type 0} (whole later : Entries A) (entry table : List ℕ) (from count : ℕ) : Type 0 where
  pub done : List ℕ
  pub all_are : whole.places ≡ done ++ later.places
  pub end_is : whole.end ≡ later.end
  pub many : length done ≡ count + count
  pub holds : table ≡ over entry from done
  pub long : length table ≡ length entry

module _ {A : Type 0} (whole : Entries A) (entry : List ℕ) (from : ℕ) where
  -- before the first entry
  pub filling_start : Filling whole whole entry entry from 0
  filling_start = record {
    done = [];
    all_are = refl;
    end_is = refl;
    many = refl;
    holds = sym (over_none entry from);
    long = refl;
  }

  module _ (later : Entries A) (table : List ℕ) (count : ℕ) (F : Filling whole later entry table from count) where
    -- one entry more
    pub filling_turn : (first second : ℕ) (rest : Entries A) → later ≡ front first second rest → from + (count + count) + 2 ≤ length entry
        → Filling whole rest entry (over table (from + (count + count)) (first ∷ second ∷ [])) from (count + 1)
    filling_turn first second rest e h =
        let d = F.done in
        let p : d ++ later.places ≡ (d ++ (first ∷ second ∷ [])) ++ rest.places =
        ap (λ (l : Entries A). d ++ l.places) e ∙ sym (append_assoc d (first ∷ second ∷ []) rest.places) in
        let room : from + (count + count) + 2 ≤ length table = rw F.long h in
        let j : from + (count + count) ≡ from + length d = rw F.many refl in
        let fits : from + length d ≤ length entry = rw F.many (omega arith) in
        record {
          done = d ++ (first ∷ second ∷ []);
          all_are = F.all_are ∙ p;
          end_is = F.end_is ∙ ap (λ (l : Entries A). l.end) e;
          many = length-append d (first ∷ second ∷ []) ∙ rw F.many (omega arith);
          holds = ap (λ (t : List ℕ). over t (from + (count + count)) (first ∷ second ∷ [])) F.holds
              ∙ over_over entry from (from + (count + count)) d (first ∷ second ∷ []) j fits;
          long = length_over table (from + (count + count)) (first ∷ second ∷ []) room ∙ F.long;
        }

    -- no entry more: the table has the places of all
    pub filling_stop : (end : A) → later ≡ ended end → table ≡ over entry from whole.places
    filling_stop end e =
        F.holds ∙ ap (over entry from) (sym (append-nil F.done) ∙ ap (λ (l : Entries A). F.done ++ l.places) (sym e) ∙ sym F.all_are)

    pub filling_end : (end : A) → later ≡ ended end → whole.end ≡ end
    filling_end end e = F.end_is ∙ ap (λ (l : Entries A). l.end) e
