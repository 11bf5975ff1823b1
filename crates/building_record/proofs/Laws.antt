-- What a building record comes to, by the values of its tests.
-- Assumes nothing.
use borrow.Author.Tests.{le-leb, leb-true, eq-eqb, eqb-true}
use mathlib.Core.Path.{◌≡◌, sym}
use mathlib.Core.Bool.{Bool, true}
use mathlib.Core.List.{List}
use Prim.Native.Nat.{ℕ, ◌+◌}
use lib.Dec.{leb, eqb}
use lib.ListN.{length, get_or}
use Rattle.wire.specs.Pick.{both}
use Rattle.wire.proofs.Tests.{both_first, both_second}
use Rattle.connection.specs.Connection.{max_packet}
use Rattle.places.specs.Entries.{max_headers}
use Rattle.payload.specs.Code.{code_of}
use Rattle.building_record.specs.declared.Building.{Building}
use Rattle.building_record.specs.Record.{built_kind, is_possible, count_size, Possible}
use Rattle.wire.specs.Packet.{code_place, payload_place}

-- a possible record, by its tests; a proof that does not reach a test says `refl`
pub possible_by : (r : Building) (buffer : List ℕ) (a b c d e f : Bool) → leb r.next.0 max_packet ≡ a → leb r.next.0 (length buffer) ≡ b
    → leb payload_place r.count.0 ≡ c → leb (r.count.0 + count_size) r.next.0 ≡ d → leb r.headers max_headers ≡ e
    → eqb (get_or buffer code_place 0) (code_of (built_kind r.kind)) ≡ f → both a (both b (both c (both d (both e f)))) ≡ is_possible r buffer
unfolding is_possible
possible_by r buffer a b c d e f p q s t u v = rw (← p, ← q, ← s, ← t, ← u, ← v)

-- a possible record, clause by clause
pub possible_yes : (r : Building) (buffer : List ℕ) → is_possible r buffer ≡ true → Possible r buffer
unfolding is_possible
possible_yes r buffer e =
    let n : ℕ = r.next.0 in
    let a : Bool = leb n max_packet in
    let b : Bool = leb n (length buffer) in
    let c : Bool = leb payload_place r.count.0 in
    let d : Bool = leb (r.count.0 + count_size) n in
    let f : Bool = leb r.headers max_headers in
    let g : Bool = eqb (get_or buffer code_place 0) (code_of (built_kind r.kind)) in
    let e1 : both b (both c (both d (both f g))) ≡ true = both_second a (both b (both c (both d (both f g)))) e in
    let e2 : both c (both d (both f g)) ≡ true = both_second b (both c (both d (both f g))) e1 in
    let e3 : both d (both f g) ≡ true = both_second c (both d (both f g)) e2 in
    let e4 : both f g ≡ true = both_second d (both f g) e3 in
    record {
      within = leb-true n max_packet (both_first a (both b (both c (both d (both f g)))) e);
      inside = leb-true n (length buffer) (both_first b (both c (both d (both f g))) e1);
      behind = leb-true payload_place r.count.0 (both_first c (both d (both f g)) e2);
      apart = leb-true (r.count.0 + count_size) n (both_first d (both f g) e3);
      few = leb-true r.headers max_headers (both_first f g e4);
      code = eqb-true (get_or buffer code_place 0) (code_of (built_kind r.kind)) (both_second f g e4);
    }

-- and the other way: a record is possible by its clauses
pub yes_possible : (r : Building) (buffer : List ℕ) → Possible r buffer → is_possible r buffer ≡ true
yes_possible r buffer p =
    sym (possible_by r buffer true true true true true true
    (le-leb r.next.0 max_packet p.within)
    (le-leb r.next.0 (length buffer) p.inside)
    (le-leb payload_place r.count.0 p.behind)
    (le-leb (r.count.0 + count_size) r.next.0 p.apart)
    (le-leb r.headers max_headers p.few)
    (eq-eqb (get_or buffer code_place 0) (code_of (built_kind r.kind)) p.code))
