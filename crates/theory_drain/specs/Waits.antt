-- The supposition of document 02 (n): 'Before a wash the arm program stops launching, closing .. and waits. Suppose
-- from some READ on each passive replies in every WRITE where it can, and each active drops its head in every WRITE
-- where it can.' Said once, of a list of calls and whatever the calls are made on: a state of the rules, or bytes.
use Rattle.std.specs.Prelude.{◌≡◌, Bool, true, false, List, [], ◌∷◌, ◌++◌, ℕ}
use Rattle.packets.specs.declared.Answer.{Answer}
use Rattle.packets.specs.declared.Answer.TheVariants.{Done}
use Rattle.plan.specs.Plan.{Plan}
use Rattle.rules.specs.State.{State}
use Rattle.rules.specs.Calls.{Visit, of_launch, of_reply, of_look, of_drop, of_close, of_entry, of_remaining, Call}
use Rattle.rules.specs.Calls.{turn}
use Rattle.rules.specs.Calls.{visit, execute, write, reply, drop, call}

-- 'stops launching, closing': the calls that add a packet
abbrev pub adds_visit : Visit → Bool
adds_visit (of_launch a p t) = true
adds_visit (of_reply p c) = false
adds_visit (of_look a) = false
adds_visit (of_drop a) = false
adds_visit (of_close a p t) = true
adds_visit (of_entry r o t) = false
adds_visit of_remaining = false

abbrev pub adds : Call → Bool
adds (turn x) = false
adds (visit v) = adds_visit v

-- ---- what a call answers, and what it leaves
pub record View (X : Type 0) : Type 1 where
  pub answer : Call → X → Answer
  pub next : Call → X → X

-- by the rules, of a plan's states
abbrev pub of_rules : Plan → View State
of_rules pl = record { answer = λ c s. (call pl c s).answer; next = λ c s. (call pl c s).state }

module _ {X : Type 0} (v : View X) where
  -- after a list of calls
  abbrev pub after : List Call → X → X
  after [] x = x
  after (c ∷ cs) x = after cs (v.next c x)

  -- the call is accepted somewhere in the list
  pub record Made (c : Call) (cs : List Call) (x : X) : Type 0 where
    pub before : List Call
    pub behind : List Call
    pub split : cs ≡ before ++ (c ∷ behind)
    pub done : v.answer c (after before x) ≡ Done

  -- the call would be accepted at some moment of the list, its beginning and its end among them
  pub record Could (c : Call) (cs : List Call) (x : X) : Type 0 where
    pub before : List Call
    pub behind : List Call
    pub split : cs ≡ before ++ behind
    pub can : v.answer c (after before x) ≡ Done

  -- a WRITE in the list: the calls from an accepted Execute to the next accepted Write
  pub record WriteIn (cs : List Call) (x : X) : Type 0 where
    pub before : List Call
    pub within : List Call
    pub behind : List Call
    pub split : cs ≡ before ++ (execute ∷ (within ++ (write ∷ behind)))
    pub opens : v.answer execute (after before x) ≡ Done
    pub stays : Made write within (v.next execute (after before x)) → ⊥
    pub closes : v.answer write (after within (v.next execute (after before x))) ≡ Done

  -- where it begins
  abbrev pub first : {cs : List Call} {x : X} → WriteIn cs x → X
  first {cs} {x} w = v.next execute (after w.before x)

  -- the program waits
  pub record ProgramWaits (cs : List Call) (x : X) : Type 0 where
    -- 'stops launching, closing': such a call may be tried, but none is accepted
    pub stops : (c : Call) → adds c ≡ true → Made c cs x → ⊥
    -- 'each passive replies in every WRITE where it can', accepting or declining
    pub replies : (w : WriteIn cs x) (p c : ℕ) → Could (reply p c) w.within (first w)
        → (d : ℕ) × Made (reply p d) w.within (first w)
    -- 'each active drops its head in every WRITE where it can'
    pub drops : (w : WriteIn cs x) (a : ℕ) → Could (drop a) w.within (first w) → Made (drop a) w.within (first w)
