-- A call with one fault more: where that is none it is the call itself, else it is refused with the call's own first fault, or with this one
-- behind it, and nothing is written.
-- Assumes nothing.
use borrow.Author.Tests.{ne_eqb, eqb-true, eqb-false}
use mathlib.Core.Path.{◌≡◌, refl, sym, ap, subst, ◌∙◌}
use mathlib.Core.Bool.{Bool, true, false}
use mathlib.Core.List.{List, [], ◌∷◌}
use Prim.Native.Nat.{ℕ, ◌+◌}
use lib.Dec.{eqb}
use lib.ListN.{length}
use Rattle.wire.specs.Pick.{pick, either}
use Rattle.wire.specs.Refusal.{is_refusal, is_fault}
use Rattle.building.specs.Fault.{or_else, first_fault, fit_fault}
use Rattle.building.specs.Call.{Call, with_fault, Outcome, refused, done, refusal_of, outcome, buffer_after, Numbered}
use Rattle.building.proofs.Sizes.{or_none, or_first, or_second}
use Rattle.building.proofs.Faults.{faults_append}

module _ {A : Type 0} (call : Call A) where
  -- the first of its faults
  pub with_first : (fault : ℕ) {own found : ℕ} → own ≡ first_fault call.faults → found ≡ or_else own fault
      → found ≡ first_fault (with_fault call fault).faults
  with_first fault p q = q ∙ ap (λ (n : ℕ). or_else n fault) p ∙ sym (faults_append 0 call.faults (fault ∷ []))

  -- where that is none, the call has none of its own
  pub with_own : (fault : ℕ) → first_fault (with_fault call fault).faults ≡ 0 → first_fault call.faults ≡ 0
  with_own fault h = or_first (first_fault call.faults) fault (sym (faults_append 0 call.faults (fault ∷ [])) ∙ h)

  -- the refusal, with the fault behind the call's own
  with_refusal : (fault room : ℕ) → refusal_of (with_fault call fault) room
      ≡ or_else (or_else (first_fault call.faults) fault) (fit_fault (call.at + length call.bytes) room)
  unfolding refusal_of
  with_refusal fault room = rw (faults_append 0 call.faults (fault ∷ [])) refl

  -- no fault more
  none_refusal : (room : ℕ) → refusal_of (with_fault call 0) room ≡ refusal_of call room
  unfolding refusal_of
  none_refusal room = with_refusal 0 room ∙ ap (λ (n : ℕ). or_else n (fit_fault (call.at + length call.bytes) room)) (or_none (first_fault call.faults))

  pub none_comes : (room fault : ℕ) → fault ≡ 0 → outcome call room ≡ outcome (with_fault call fault) room
  unfolding outcome
  none_comes room fault h = rw (h, none_refusal room) refl

  pub none_writes : (buffer : List ℕ) (fault : ℕ) → fault ≡ 0 → buffer_after call buffer ≡ buffer_after (with_fault call fault) buffer
  unfolding buffer_after
  none_writes buffer fault h = rw (h, none_refusal (length buffer)) refl

  -- a fault more
  module _ (fault : ℕ) (is : fault ≡ 0 → ⊥) where
    -- the first of them is one
    one_is : or_else (first_fault call.faults) fault ≡ 0 → ⊥
    one_is e = is (or_second (first_fault call.faults) fault e)

    fault_refusal : (room : ℕ) → refusal_of (with_fault call fault) room ≡ or_else (first_fault call.faults) fault
    fault_refusal room = with_refusal fault room ∙ rw (ne_eqb (or_else (first_fault call.faults) fault) 0 one_is) refl

    pub fault_comes : (room : ℕ) → refused (or_else (first_fault call.faults) fault) ≡ outcome (with_fault call fault) room
    unfolding outcome
    fault_comes room = rw (fault_refusal room, ne_eqb (or_else (first_fault call.faults) fault) 0 one_is) refl

    pub fault_writes : (buffer : List ℕ) → buffer ≡ buffer_after (with_fault call fault) buffer
    unfolding buffer_after
    fault_writes buffer = rw (fault_refusal (length buffer), ne_eqb (or_else (first_fault call.faults) fault) 0 one_is) refl

-- a call with a fault of its own is refused with the first of them
own_comes : {A : Type 0} (call : Call A) (room : ℕ) → (first_fault call.faults ≡ 0 → ⊥) → outcome call room ≡ refused (first_fault call.faults)
unfolding outcome refusal_of
own_comes call room h = rw (ne_eqb (first_fault call.faults) 0 h) (rw (ne_eqb (first_fault call.faults) 0 h) refl)

-- the number of a refusal, 0 for none
abbrev refused_number : {A : Type 0} → Outcome A → ℕ
refused_number (refused n) = n
refused_number (done a) = 0

-- where the call is refused with numbers of document 01 only, and the fault is one of them or none, so it is with the fault more
pub with_numbered : {A : Type 0} (call : Call A) (fault : ℕ) → is_fault fault ≡ true → Numbered call → Numbered (with_fault call fault)
with_numbered call fault f numbered room n e = go (eqb fault 0) refl
  where
    own : ℕ
    own = first_fault call.faults

    by : (t : Bool) → eqb own 0 ≡ t → eqb fault 0 ≡ false → pick t fault own ≡ n → is_refusal n ≡ true
    by true p q s = subst (λ (k : ℕ). is_refusal k ≡ true) s (sym (ap (λ (t : Bool). either t (is_refusal fault)) q) ∙ f)
    by false p q s = subst (λ (k : ℕ). is_refusal k ≡ true) s (numbered room own (own_comes call room (eqb-false own 0 p)))

    go : (t : Bool) → eqb fault 0 ≡ t → is_refusal n ≡ true
    go true q = numbered room n (none_comes call room fault (eqb-true fault 0 q) ∙ e)
    go false q = by (eqb own 0) refl q (ap refused_number (fault_comes call fault (eqb-false fault 0 q) room ∙ e))
