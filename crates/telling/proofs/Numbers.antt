-- A refusal is known by its number, a kind by its code, a packet and what is left by their fields.
use mathlib.Core.Path.{◌≡◌, refl, sym, ap, ◌∙◌}
use mathlib.Core.List.{List, [], ◌∷◌}
use Prim.Native.Nat.{ℕ}
use lib.ListN.{get_or}
use Rattle.kinds.specs.declared.Refusal.{Refusal}
use Rattle.kinds.specs.declared.Refusal.TheVariants.{TooShort, OutOfRange, WrongLength, BadField, BadJoint, HasRing}
use Rattle.kinds.specs.declared.Refusal.TheVariants.{NotState, WrongPhase, BadNumber, NotServed, NoAllowance}
use Rattle.kinds.specs.declared.Refusal.TheVariants.{QueueFull, QueueEmpty, FlagUp, Unmarked, NotAccepted}
use Rattle.kinds.specs.Refusals.{refusal_number}
use Rattle.packets.specs.declared.Kind.{Kind}
use Rattle.packets.specs.declared.Packet.{Packet}
use Rattle.packets.specs.declared.Remaining.{Remaining}
use Rattle.packets.specs.Codes.{kind_code, kind_of, kind_code_lem}

-- the refusals in the order of their numbers, from 1 on
refusals : List Refusal
refusals =
    TooShort ∷ TooShort ∷ OutOfRange ∷ WrongLength ∷ BadField ∷ BadJoint ∷ HasRing ∷ NotState ∷ WrongPhase ∷ BadNumber
    ∷ NotServed ∷ NoAllowance ∷ QueueFull ∷ QueueEmpty ∷ FlagUp ∷ Unmarked ∷ NotAccepted ∷ []

of_number : (w : Refusal) → get_or refusals (refusal_number w) TooShort ≡ w
unfolding refusals
of_number TooShort = refl
of_number OutOfRange = refl
of_number WrongLength = refl
of_number BadField = refl
of_number BadJoint = refl
of_number HasRing = refl
of_number NotState = refl
of_number WrongPhase = refl
of_number BadNumber = refl
of_number NotServed = refl
of_number NoAllowance = refl
of_number QueueFull = refl
of_number QueueEmpty = refl
of_number FlagUp = refl
of_number Unmarked = refl
of_number NotAccepted = refl

pub same_number : (v w : Refusal) → refusal_number v ≡ refusal_number w → v ≡ w
same_number v w e = sym (of_number v) ∙ ap (λ (n : ℕ). get_or refusals n TooShort) e ∙ of_number w

-- the kinds by their codes
pub same_code : (k l : Kind) → kind_code k ≡ kind_code l → k ≡ l
same_code k l e = sym (kind_code_lem k) ∙ ap kind_of e ∙ kind_code_lem l

-- the fields of a packet
pub same_fields : (x y : Packet) → x.kind ≡ y.kind → x.active ≡ y.active → x.passive ≡ y.passive
    → x.slot.0 ≡ y.slot.0 → x.hub.0 ≡ y.hub.0 → x ≡ y
same_fields x y k a p t h =
    λ i. record { kind = k i; active = a i; passive = p i; slot = record { 0 = t i }; hub = record { 0 = h i } }

-- and of what is left
pub same_left : {x y : Remaining} → x.packets ≡ y.packets → x.rounds ≡ y.rounds → x ≡ y
same_left n m = λ i. record { packets = n i; rounds = m i }
