-- The checker in parts answers what it answers over the whole, for every way of cutting.
-- Assumes nothing.
use mathlib.Core.Path.{◌≡◌, refl, sym, ap, ◌∙◌, subst}
use mathlib.Core.Bool.{Bool, true, false, false≢true}
use mathlib.Core.List.{List, [], ◌∷◌, ◌++◌, append_assoc, append-nil}
use Prim.Native.Nat.{ℕ, zero, suc, ◌+◌, ◌-◌, ◌≤◌, ◌<◌}
use native.Mathlib.Nat.{zero-add}
use native.Mathlib.Omega.{arith}
use borrow.Author.Tests.{eqb-true}
use lib.Dec.{eqb}
use lib.ListN.{length, take, drop, length-take}
use lib.Seq.{take-nil, drop-nil, drop-append-le, drop-drop, take_all}
use Rattle.wire.specs.Refusal.{none}
use Rattle.wire.specs.Bytes.{part}
use Rattle.wire.specs.Packet.{max_packet}
use Rattle.wire.proofs.Bytes.{length_part}
use Rattle.connection.specs.Connection.{fresh}
use Rattle.connection.specs.declared.Connection.{Connection}
use Rattle.capture.specs.Course.{Course, all_before, course, fed, joined, total, one_each, size_of}
use Rattle.capture.proofs.Course.{appended, total_append, total_within, one_within, course_none, left_is, seen_inside, left_short}
use Rattle.checking.specs.declared.Checking.{Checking}
use Rattle.checking.specs.Checking.{max_capture, requests_of, body_of, checked, begun, goes_on, advanced, gone_on, finished}
use Rattle.checking.specs.Private.{FiguresCount}
use Rattle.checking.specs.Parts.{Feeding, taken_by, fed_part, fed_parts, feeding_begun}
use Rattle.checking.proofs.Laws.{same_figures, advanced_none, goes_on_by, goes_on_where, gone_on_stays, requests_within, body_within}

-- the front of bytes followed by others
take_both : (n : ℕ) (s t : List ℕ) → take n (s ++ t) ≡ take n s ++ take (n - length s) t
take_both zero s t = let q : 0 - length s ≡ 0 = omega arith in rw q
take_both (suc n) [] t = let q : suc n - 0 ≡ suc n = omega arith in rw q
take_both (suc n) (x ∷ s) t =
    let q : suc n - suc (length s) ≡ n - length s = omega arith in
    rw q (ap (λ (l : List ℕ). x ∷ l) (take_both n s t))

-- what is behind a place of the front
drop_front : (p n : ℕ) (s : List ℕ) → drop p (take n s) ≡ take (n - p) (drop p s)
drop_front zero n s = let q : n - 0 ≡ n = omega arith in rw q
drop_front (suc p) zero s = let q : 0 - suc p ≡ 0 = omega arith in rw q
drop_front (suc p) (suc n) [] = sym (take-nil (suc n - suc p))
drop_front (suc p) (suc n) (x ∷ s) = let q : suc n - suc p ≡ n - p = omega arith in rw q (drop_front p n s)

-- a check after one course and then another
advanced_twice : (k : Checking) (a b : Course) → advanced (advanced k a) b ≡ advanced k (all_before a.seen b)
advanced_twice k a b =
    same_figures b.after b.refusal
    (k.packets + total one_each a.seen + total one_each b.seen)
    (k.requests + total requests_of a.seen + total requests_of b.seen)
    (k.body + total body_of a.seen + total body_of b.seen)
    (k.place + total size_of a.seen + total size_of b.seen)
    (k.packets + total one_each (a.seen ++ b.seen))
    (k.requests + total requests_of (a.seen ++ b.seen))
    (k.body + total body_of (a.seen ++ b.seen))
    (k.place + total size_of (a.seen ++ b.seen))
    (omega (arith, total_append one_each a.seen b.seen))
    (omega (arith, total_append requests_of a.seen b.seen))
    (omega (arith, total_append body_of a.seen b.seen))
    (omega (arith, total_append size_of a.seen b.seen))

-- figures that can be still can after a course
still_count : (k : Checking) (c : Connection) (s : List ℕ) → FiguresCount k → FiguresCount (advanced k (course c s))
still_count k c s f = record {
  packets_few = omega (arith, f.packets_few, total_within one_each one_within c s);
  requests_few = omega (arith, f.requests_few, total_within requests_of requests_within c s);
  body_few = omega (arith, f.body_few, total_within body_of body_within c s);
}

-- a check that something was refused to goes no further
refused_stops : (k : Checking) → eqb k.refusal none ≡ false → goes_on k ≡ false
unfolding goes_on
refused_stops k e = rw e

-- by whether a check goes on
going_is : (k : Checking) (s : List ℕ) → goes_on k ≡ true → gone_on k s ≡ advanced k (course k.connection (take (max_capture - k.place) s))
unfolding gone_on
going_is k s e = rw e

-- no bytes change nothing
pub gone_on_none : (k : Checking) → gone_on k [] ≡ k
gone_on_none k = go (goes_on k) refl
  where
    go : (goes : Bool) → goes_on k ≡ goes → gone_on k [] ≡ k
    go false e = sym (gone_on_stays k [] e)
    go true e =
        going_is k [] e ∙ ap (λ (l : List ℕ). advanced k (course k.connection l)) (take-nil (max_capture - k.place))
        ∙ ap (advanced k) (course_none k.connection) ∙ advanced_none k [] none
        ∙ ap (λ (r : ℕ). record { connection = k.connection; packets = k.packets; requests = k.requests; body = k.body; place = k.place; refusal = r }) (sym (goes_on_by k e).1)

-- Bytes that were gone on with, and others behind them. `m` is how many bytes are looked at in all.
module _ (k : Checking) (s t : List ℕ) (going : goes_on k ≡ true) where
  abbrev m : ℕ
  m = max_capture - k.place

  abbrev first : Course
  first = course k.connection (take m s)

  abbrev then : List ℕ
  then = take (m - length s) t

  -- the place after the first bytes, and what it has moved by
  moved : (gone_on k s).place ≡ k.place + total size_of first.seen
  moved = ap (λ (r : Checking). r.place) (going_is k s going)

  taken_is : taken_by k (gone_on k s) ≡ total size_of first.seen
  taken_is = omega (arith, moved)

  -- the whole, by the first bytes' course
  whole_is : gone_on k (s ++ t) ≡ advanced k (fed first then)
  whole_is =
      going_is k (s ++ t) going ∙ ap (λ (l : List ℕ). advanced k (course k.connection l)) (take_both m s t)
      ∙ ap (advanced k) (appended k.connection (take m s) then)

  -- what is looked at behind the first packets
  behind_is : take (max_capture - (k.place + total size_of first.seen)) (drop (total size_of first.seen) (s ++ t)) ≡ first.left ++ then
  behind_is =
      let p = total size_of first.seen in
      let rest : max_capture - (k.place + p) ≡ m - p = omega arith in
      ap (λ (n : ℕ). take n (drop p (s ++ t))) rest ∙ sym (drop_front p m (s ++ t)) ∙ ap (drop p) (take_both m s t)
      ∙ drop-append-le p (take m s) then (seen_inside k.connection (take m s))
      ∙ ap (λ (l : List ℕ). l ++ then) (sym (left_is k.connection (take m s)))

  again_going : gone_on (gone_on k s) (drop (taken_by k (gone_on k s)) (s ++ t)) ≡ gone_on k (s ++ t)
  again_going =
      ap (λ (n : ℕ). gone_on (gone_on k s) (drop n (s ++ t))) taken_is
      ∙ ap (λ (r : Checking). gone_on r (drop (total size_of first.seen) (s ++ t))) (going_is k s going)
      ∙ go (eqb first.refusal none) refl ∙ sym whole_is
    where
      p : ℕ
      p = total size_of first.seen

      go : (clean : Bool) → eqb first.refusal none ≡ clean → gone_on (advanced k first) (drop p (s ++ t)) ≡ advanced k (fed first then)
      go false e = sym (gone_on_stays (advanced k first) (drop p (s ++ t)) (refused_stops (advanced k first) e)) ∙ rw e
      go true e =
          going_is (advanced k first) (drop p (s ++ t))
          (goes_on_where (advanced k first) (still_count k k.connection (take m s) (goes_on_by k going).0) (eqb-true first.refusal none e))
          ∙ ap (λ (l : List ℕ). advanced (advanced k first) (course first.after l)) behind_is
          ∙ advanced_twice k first (course first.after (first.left ++ then)) ∙ rw e

-- going on with some bytes, and then with those that were not taken and more, is going on with all
pub gone_on_again : (k : Checking) (s t : List ℕ) → gone_on (gone_on k s) (drop (taken_by k (gone_on k s)) (s ++ t)) ≡ gone_on k (s ++ t)
gone_on_again k s t = go (goes_on k) refl
  where
    go : (goes : Bool) → goes_on k ≡ goes → gone_on (gone_on k s) (drop (taken_by k (gone_on k s)) (s ++ t)) ≡ gone_on k (s ++ t)
    go true e = again_going k s t e
    go false e =
        let same : gone_on k s ≡ k = sym (gone_on_stays k s e) in
        ap (λ (r : Checking). gone_on r (drop (taken_by k r) (s ++ t))) same
        ∙ sym (gone_on_stays k (drop (taken_by k k) (s ++ t)) e) ∙ gone_on_stays k (s ++ t) e

-- a step takes no more bytes than there are, and its place does not fall
pub taken_there : (k : Checking) (s : List ℕ) → (taken_by k (gone_on k s) ≤ length s) × (k.place ≤ (gone_on k s).place)
taken_there k s = go (goes_on k) refl
  where
    go : (goes : Bool) → goes_on k ≡ goes → (taken_by k (gone_on k s) ≤ length s) × (k.place ≤ (gone_on k s).place)
    go true e =
        let some = seen_inside k.connection (take (max_capture - k.place) s) in
        (omega (arith, moved k s [] e, some, length-take (max_capture - k.place) s), omega (arith, moved k s [] e))
    go false e =
        let same : (gone_on k s).place ≡ k.place = ap (λ (r : Checking). r.place) (sym (gone_on_stays k s e)) in
        (omega arith, omega arith)

-- the same of the front of lent bytes
pub taken_lent : (k r : Checking) (s lent : List ℕ) (there : ℕ) → lent ≡ part s 0 there → there ≤ length s → r ≡ gone_on k lent
    → (taken_by k r ≤ there) × (k.place ≤ r.place)
taken_lent k r s lent there l h e =
    let size : length lent ≡ there = ap length l ∙ length_part s 0 there (omega arith) in
    subst (λ (x : Checking). (taken_by k x ≤ there) × (k.place ≤ x.place)) (sym e)
    (subst (λ (n : ℕ). taken_by k (gone_on k lent) ≤ n) size (taken_there k lent).0, (taken_there k lent).1)

-- what is kept of bytes that were gone on with
abbrev feeding_of : Checking → List ℕ → Feeding
feeding_of k s = record { checking = gone_on k s; kept = drop (taken_by k (gone_on k s)) s }

-- one part more
fed_part_is : (k : Checking) (s t : List ℕ) → fed_part (feeding_of k s) t ≡ feeding_of k (s ++ t)
fed_part_is k s t =
    let d = taken_by k (gone_on k s) in
    let lent : drop d s ++ t ≡ drop d (s ++ t) = sym (drop-append-le d s t (taken_there k s).0) in
    ap (λ (l : List ℕ). record { checking = gone_on (gone_on k s) l; kept = drop (taken_by (gone_on k s) (gone_on (gone_on k s) l)) l }) lent
    ∙ ap (λ (r : Checking). record { checking = r; kept = drop (taken_by (gone_on k s) r) (drop d (s ++ t)) }) (gone_on_again k s t)
    ∙ ap (λ (l : List ℕ). record { checking = gone_on k (s ++ t); kept = l })
    (drop-drop (taken_by (gone_on k s) (gone_on k (s ++ t))) d (s ++ t) ∙ ap (λ (n : ℕ). drop n (s ++ t)) sum)
  where
    next : (gone_on k s).place ≤ (gone_on k (s ++ t)).place
    next =
        subst (λ (r : Checking). (gone_on k s).place ≤ r.place) (gone_on_again k s t)
        (taken_there (gone_on k s) (drop (taken_by k (gone_on k s)) (s ++ t))).1

    sum : taken_by k (gone_on k s) + taken_by (gone_on k s) (gone_on k (s ++ t)) ≡ taken_by k (gone_on k (s ++ t))
    sum = omega (arith, next, (taken_there k s).1)

fed_after : (k : Checking) (s : List ℕ) (parts : List (List ℕ)) → fed_parts (feeding_of k s) parts ≡ feeding_of k (s ++ joined parts)
fed_after k s [] = ap (feeding_of k) (sym (append-nil s))
fed_after k s (part ∷ later) =
    ap (λ (f : Feeding). fed_parts f later) (fed_part_is k s part) ∙ fed_after k (s ++ part) later
    ∙ ap (feeding_of k) (append_assoc s part (joined later))

-- The theorem on parts: from any record, and however the bytes are cut, feeding the parts comes to going on with the whole, and the bytes
-- that are kept are those behind the place.
pub parts_are_whole : (k : Checking) (parts : List (List ℕ))
    → fed_parts (record { checking = k; kept = [] }) parts
    ≡ record { checking = gone_on k (joined parts); kept = drop (taken_by k (gone_on k (joined parts))) (joined parts) }
parts_are_whole k parts =
    ap (λ (f : Feeding). fed_parts f parts) (sym none_kept) ∙ fed_after k [] parts
  where
    none_kept : feeding_of k [] ≡ record { checking = k; kept = [] }
    none_kept =
        ap (λ (l : List ℕ). record { checking = gone_on k []; kept = l }) (drop-nil (taken_by k (gone_on k [])))
        ∙ ap (λ (r : Checking). record { checking = r; kept = [] }) (gone_on_none k)

-- the way in parts from the beginning is the definition over the whole capture
pub checked_is : (s : List ℕ) → finished (gone_on begun s) (length s) ≡ checked s
unfolding checked finished gone_on goes_on
checked_is s =
    let k = course fresh (take max_capture s) in
    rw (zero-add (total one_each k.seen), zero-add (total requests_of k.seen), zero-add (total body_of k.seen), zero-add (total size_of k.seen))

pub parts_checked : (parts : List (List ℕ)) → finished (fed_parts feeding_begun parts).checking (length (joined parts)) ≡ checked (joined parts)
parts_checked parts =
    ap (λ (f : Feeding). finished f.checking (length (joined parts))) (parts_are_whole begun parts) ∙ checked_is (joined parts)

-- where nothing was refused, and no byte lies past the most that a capture may have, what is kept is less than a packet
pub kept_short : (k : Checking) (s : List ℕ) → FiguresCount k → k.place + length s ≤ max_capture → (gone_on k s).refusal ≡ none
    → length (drop (taken_by k (gone_on k s)) s) < max_packet
kept_short k s f h e = go (goes_on k) refl
  where
    go : (goes : Bool) → goes_on k ≡ goes → length (drop (taken_by k (gone_on k s)) s) < max_packet
    go false g =
        let same : (gone_on k s).refusal ≡ k.refusal = ap (λ (r : Checking). r.refusal) (sym (gone_on_stays k s g)) in
        absurd (false≢true (sym g ∙ goes_on_where k f (sym same ∙ e)))
    go true g =
        let all : take (max_capture - k.place) s ≡ s = take_all (max_capture - k.place) s (omega arith) in
        let ends : gone_on k s ≡ advanced k (course k.connection s) =
        going_is k s g ∙ ap (λ (l : List ℕ). advanced k (course k.connection l)) all in
        let taken : taken_by k (gone_on k s) ≡ total size_of (course k.connection s).seen =
        omega (arith, ap (λ (r : Checking). r.place) ends) in
        let clean : (course k.connection s).refusal ≡ none = sym (ap (λ (r : Checking). r.refusal) ends) ∙ e in
        subst (λ (l : List ℕ). length l < max_packet) (left_is k.connection s ∙ ap (λ (n : ℕ). drop n s) (sym taken)) (left_short k.connection s clean)
