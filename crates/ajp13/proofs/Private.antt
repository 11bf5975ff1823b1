-- What the exported calls pass to the functions of this crate, and what comes of it.
-- Assumes nothing.
use native.Mathlib.Omega.{arith}
use borrow.Author.Tests.{eqb-true, le-leb, lt-leb}
use mathlib.Core.Path.{◌≡◌, refl, sym, ap, subst}
use mathlib.Core.Bool.{Bool, true, false}
use mathlib.Core.List.{List}
use Prim.Native.Nat.{ℕ, ◌≤◌, ◌<◌}
use lib.Dec.{eqb}
use lib.ListN.{length}
use Rattle.std.specs.Prelude.{Result}
use Rattle.std.specs.Borrow.{MutBor}
use Rattle.std.specs.Fn.{Once}
use Rattle.wire.specs.Pick.{pick}
use Rattle.wire.specs.Packet.{Fits}
use Rattle.wire.specs.declared.refusal.Refusal.{Refusal}
use Rattle.connection.specs.declared.Connection.{Connection}
use Rattle.connection.specs.declared.Kind.{Kind}
use Rattle.wire.specs.Refusal.{not_now, out_of_range}
use Rattle.connection.specs.Cycle.{in_state}
use Rattle.building.specs.Fault.{unless, or_else, first_fault}
use Rattle.building.specs.Call.{Call, refused, done, refusal_of, outcome, buffer_after}
use Rattle.building.specs.Sent.{Written, sent_outcome}
use Rattle.building.proofs.Calls.{done_fits}
use Rattle.building.proofs.WithFault.{none_comes, none_writes, fault_comes, fault_writes}
use Rattle.writer.specs.Sending.{get_call, end_call}
use Rattle.words.specs.Number.{last_flag, flag_in, capped, number_fault}
use Rattle.words.proofs.Records.{number_within, capped_same}
use Rattle.answers.specs.Effect.{Effect}
use Rattle.answers.specs.Private.{SentWithin}
use Rattle.ajp13.specs.Private.{Sends}
use Rattle.ajp13.specs.Sending.{send_effect, reuse_fault, end_of}

-- a call that writes its packet alone tells no more bytes than a packet may have
call_within : (call : Call Written) (buffer : List ℕ) → call.at ≡ 0 → call.answer.size ≡ length call.bytes → SentWithin (outcome call (length buffer))
unfolding outcome
call_within call buffer first whole = go (eqb (refusal_of call (length buffer)) 0) refl
  where
    go : (t : Bool) → eqb (refusal_of call (length buffer)) 0 ≡ t
        → SentWithin (pick t (done call.answer) (refused (refusal_of call (length buffer))))
    go true e =
        let fits : Fits call.at call.bytes buffer = done_fits call buffer (refusal_of call (length buffer)) refl (eqb-true _ 0 e) in
        omega (arith, first, whole)
    go false e = tt

-- nor does a closure that sends
pub sends_within : {F : Type 0} {g : Once F (Connection × (MutBor (List ℕ) × Unit {0})) (Result Written Refusal × (MutBor (List ℕ) × Unit {0}))} {f : F}
    {call : Connection → Call Written} → Sends g f call → (c : Connection) (b left : MutBor (List ℕ)) (r : Result Written Refusal)
    → g.post f (c, (b, tt)) (r, (left, tt)) → SentWithin (sent_outcome r)
sends_within {call = call} s c b left r p =
    subst SentWithin (sym (s.answers c b left r p).0) (call_within (call c) b.now (s.whole c).0 (s.whole c).1)

-- a number that is asked for: where it is no 16-bit number the call has that fault, and nothing else counts
pub get_given : (c : Connection) (asked fault : ℕ) (connection buffer answer : List ℕ)
    → send_effect (or_else fault (number_fault asked)) Kind.GetBody (get_call c (capped asked)) connection buffer answer
    ≡ send_effect (or_else fault (number_fault asked)) Kind.GetBody (get_call c asked) connection buffer answer
get_given c asked fault connection buffer answer = go (eqb (number_fault asked) 0) refl
  where
    at : ℕ → ℕ → Effect
    at found n = send_effect (or_else fault found) Kind.GetBody (get_call c n) connection buffer answer

    go : (t : Bool) → eqb (number_fault asked) 0 ≡ t → at (number_fault asked) (capped asked) ≡ at (number_fault asked) asked
    go true e = ap (at (number_fault asked)) (capped_same asked (number_within asked (eqb-true (number_fault asked) 0 e)))
    go false e = by (eqb fault 0) refl
      where
        by : (t : Bool) → eqb fault 0 ≡ t → at (number_fault asked) (capped asked) ≡ at (number_fault asked) asked
        by true q = rw (q, e) refl
        by false q = rw (q, q) refl

-- an End whose reuse is a boolean, and one whose reuse is none: of that one the first fault is 13, or 7 behind it
module _ (c : Connection) (reuse : ℕ) where
  right : reuse ≤ last_flag → reuse_fault reuse ≡ 0
  right h = rw (le-leb reuse last_flag h) refl

  pub end_comes : (room : ℕ) → reuse ≤ last_flag → outcome (end_call c (flag_in reuse)) room ≡ outcome (end_of c reuse) room
  end_comes room h = none_comes (end_call c (flag_in reuse)) room (reuse_fault reuse) (right h)

  pub end_writes : (buffer : List ℕ) → reuse ≤ last_flag → buffer_after (end_call c (flag_in reuse)) buffer ≡ buffer_after (end_of c reuse) buffer
  end_writes buffer h = none_writes (end_call c (flag_in reuse)) buffer (reuse_fault reuse) (right h)

  module _ (h : last_flag < reuse) where
    wrong : reuse_fault reuse ≡ out_of_range
    wrong = rw (lt-leb reuse last_flag h) refl

    first : or_else (unless (in_state c Kind.End) not_now) out_of_range ≡ or_else (first_fault (end_call c (flag_in reuse)).faults) (reuse_fault reuse)
    unfolding end_call
    first = rw (lt-leb reuse last_flag h) (go (in_state c Kind.End))
      where
        go : (t : Bool) → or_else (unless t not_now) out_of_range ≡ or_else (or_else (unless t not_now) 0) out_of_range
        go true = refl
        go false = refl

    pub reuse_comes : (room : ℕ) → refused (or_else (unless (in_state c Kind.End) not_now) out_of_range) ≡ outcome (end_of c reuse) room
    reuse_comes room = rw first (fault_comes (end_call c (flag_in reuse)) (reuse_fault reuse) (λ q. omega (arith, wrong, q)) room)

    pub reuse_writes : (buffer : List ℕ) → buffer ≡ buffer_after (end_of c reuse) buffer
    reuse_writes buffer = fault_writes (end_call c (flag_in reuse)) (reuse_fault reuse) (λ q. omega (arith, wrong, q)) buffer
