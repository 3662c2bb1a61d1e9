-- Document 01's number of each refusal.
use Rattle.std.specs.Prelude.{ℕ}
use Rattle.kinds.specs.declared.Refusal.{Refusal}
use Rattle.kinds.specs.declared.Refusal.TheVariants.{TooShort, OutOfRange, WrongLength, BadField, BadJoint}
use Rattle.kinds.specs.declared.Refusal.TheVariants.{HasRing, NotState, WrongPhase, BadNumber, NotServed}
use Rattle.kinds.specs.declared.Refusal.TheVariants.{NoAllowance, QueueFull, QueueEmpty, FlagUp, Unmarked}
use Rattle.kinds.specs.declared.Refusal.TheVariants.{NotAccepted}

abbrev pub refusal_number : Refusal → ℕ
refusal_number TooShort = 1
refusal_number OutOfRange = 2
refusal_number WrongLength = 3
refusal_number BadField = 4
refusal_number BadJoint = 5
refusal_number HasRing = 6
refusal_number NotState = 7
refusal_number WrongPhase = 8
refusal_number BadNumber = 9
refusal_number NotServed = 10
refusal_number NoAllowance = 11
refusal_number QueueFull = 12
refusal_number QueueEmpty = 13
refusal_number FlagUp = 14
refusal_number Unmarked = 15
refusal_number NotAccepted = 16
