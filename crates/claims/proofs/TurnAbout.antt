-- Turn about on bytes: of every call on any bytes what holds of the rules.
use Rattle.std.specs.Prelude.{Ok}
use mathlib.Core.Path.{◌≡◌, ap, ◌∙◌}
use mathlib.Core.List.{List, [], ◌∷◌}
use Prim.Native.Nat.{ℕ, ◌+◌, ◌*◌, ◌≤◌}
use native.Mathlib.Omega.{arith}
use Rattle.kinds.specs.declared.Refusal.TheVariants.{NotState}
use Rattle.packets.specs.declared.Phase.TheVariants.{Execute}
use Rattle.packets.specs.declared.Answer.{Answer}
use Rattle.packets.specs.declared.Answer.TheVariants.{Refused}
use Rattle.plan.specs.declared.Head.{Head}
use Rattle.plan.specs.Plan.{plan_of}
use Rattle.plan_queues.specs.Feeds.{Output}
use Rattle.load.specs.Load.{load_of}
use Rattle.rules.specs.State.{State}
use Rattle.rules.specs.Calls.{Call}
use Rattle.rules.specs.Valid.{Drives, bit}
use Rattle.rules.specs.TurnAbout.{goes_before, others_in, StaysIn}
use Rattle.theory.proofs.Does.{refused_turns}
use Rattle.theory.proofs.TurnAbout.{ahead, ahead_few, step_nearer}
use Rattle.claims.specs.Calls.{call_on}
use Rattle.claims.specs.Demand3.{state_of}
use Rattle.claims.specs.TurnAbout.{others_on, StaysOn, TurnAboutOnBytes}
use Rattle.claims.proofs.OnBytes.{on_bytes}

module _ (p : List ℕ) (h : Head) (loads : load_of p ≡ Ok h) where
  module _ (o : Output) (d : Drives (plan_of p) o) (j : ℕ) where
    -- what a call that answers a and leaves t counts, and what it leaves to be counted, is no more than there was in s
    abbrev Nearer : Call → Answer → State → State → Type 0
    Nearer c a t s = StaysIn (plan_of p) o j c a t → others_in (plan_of p) o j c a t + ahead o j t ≤ ahead o j s

    -- every call on any bytes is such
    on_nearer : (c : Call) (b : List ℕ)
        → Nearer c (call_on p c b).answer (state_of p (call_on p c b).bytes) (state_of p b)
    on_nearer c b =
        let s : State = state_of p b in
        let none : others_in (plan_of p) o j c (Refused NotState) s ≡ 0 =
        ap (λ (m : ℕ). m * bit (goes_before (plan_of p) o j s)) (refused_turns Execute c NotState) ∙ omega arith in
        on_bytes p h loads c b (λ (x : Answer) (t : State). Nearer c x t s) (step_nearer (plan_of p) o d j c s)
        (λ stays. omega arith)

    -- along a list: all that go before the head stood before it
    list_on : (cs : List Call) (b : List ℕ) → StaysOn p o j cs b → others_on p o j cs b ≤ ahead o j (state_of p b)
    list_on [] b stays = omega arith
    list_on (c ∷ cs) b (now, later) =
        let first = on_nearer c b now in
        let rest = list_on cs (call_on p c b).bytes later in
        omega arith

-- A head that stays a candidate sees at most four others go before it.
pub turn_about_on_bytes : TurnAboutOnBytes
turn_about_on_bytes p b h loads o d j cs stays =
    let all = list_on p h loads o d j cs b stays in
    let few = ahead_few o j (state_of p b) in
    omega arith
