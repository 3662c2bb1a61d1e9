-- Look before dropping on bytes: of every call on any bytes what holds of the rules. An accepted Drop is on a state's
-- bytes, and so were all bytes before it: bytes that are no state's stay so.
use Rattle.std.specs.Prelude.{Ok}
use mathlib.Core.Path.{◌≡◌, refl, sym, ◌∙◌}
use mathlib.Core.Logic.{inl}
use mathlib.Core.List.{List, [], ◌∷◌}
use Prim.Native.Nat.{ℕ}
use Rattle.packets.specs.declared.Answer.{Answer}
use Rattle.packets.specs.declared.Answer.TheVariants.{Done}
use Rattle.plan.specs.declared.Head.{Head}
use Rattle.plan.specs.Plan.{plan_of}
use Rattle.load.specs.Load.{load_of}
use Rattle.rules.specs.State.{State}
use Rattle.rules.specs.Calls.{Call, look, drop}
use Rattle.theory.proofs.Does.{done_not}
use Rattle.theory.proofs.LookDrop.{AfterCall, AfterList, after_more, none_dropped, still_down, call_after, look_shows}
use Rattle.theory.proofs.LookDrop.{look_alike, Dropped, drop_removes}
use Rattle.claims.specs.Calls.{call_on}
use Rattle.claims.specs.Demand3.{bytes_after, state_of}
use Rattle.claims.specs.LookDrop.{WithinPhaseOn, LookBeforeDropOnBytes, LookStaysOnBytes}
use Rattle.claims.proofs.OnBytes.{on_bytes, on_answer, states_before, state_of_lem}

module _ (p : List ℕ) (h : Head) (loads : load_of p ≡ Ok h) (a : ℕ) where
  -- ---- each call within the phase
  call_on_lem : (c : Call) (b : List ℕ) → (state_of p (call_on p c b).bytes).clock.phase ≡ (state_of p b).clock.phase
      → AfterCall a c (state_of p b) (state_of p (call_on p c b).bytes)
  call_on_lem c b =
      let s : State = state_of p b in
      on_bytes p h loads c b
      (λ (x : Answer) (t : State). t.clock.phase ≡ s.clock.phase → AfterCall a c s t)
      (λ i. call_after (plan_of p) a s c) (λ e. inl (refl, refl))

  list_on : (cs : List Call) (b : List ℕ) → WithinPhaseOn p cs b
      → AfterList a cs (state_of p b) (state_of p (bytes_after p cs b))
  list_on [] b k = inl (refl, refl)
  list_on (c ∷ cs) b (now, later) =
      let d : List ℕ = (call_on p c b).bytes in
      after_more a c cs (state_of p b) (state_of p d) (state_of p (bytes_after p cs d)) (call_on_lem c b now)
      (list_on cs d later)

  -- ---- an accepted Drop
  drop_on : (b : List ℕ) → (call_on p (drop a) b).answer ≡ Done
      → Dropped (plan_of p) a (state_of p b) (state_of p (call_on p (drop a) b).bytes)
  drop_on b =
      on_bytes p h loads (drop a) b (λ (x : Answer) (t : State). x ≡ Done → Dropped (plan_of p) a (state_of p b) t)
      (λ i. drop_removes (plan_of p) a (state_of p b)) (λ e. absurd (done_not (sym e)))

-- What an accepted Drop removes any Look before it within the phase gave.
pub look_before_drop_on_bytes : LookBeforeDropOnBytes
look_before_drop_on_bytes p b h loads a between within done =
    let e : List ℕ = bytes_after p between b in
    let d = drop_on p h loads a e done in
    let k = still_down a between (state_of p b) (state_of p e) (list_on p h loads a between b within) d.down in
    let first =
    states_before p h loads between b (state_of_lem p h loads (drop a) e (λ f. done_not (sym done ∙ f))) in (
      d.packet,
      on_answer p h loads (look a) b first
          ∙ look_shows (plan_of p) a (state_of p b) d.packet d.removes.rest d.active
          (sym k.0 ∙ d.removes.before),
      d.removes,
    )

-- What a Look gives stays within the phase until a Drop of that active.
pub look_stays_on_bytes : LookStaysOnBytes
look_stays_on_bytes p b h loads a between within no_drop last =
    let e : List ℕ = bytes_after p between b in
    let k = none_dropped a between (state_of p b) (state_of p e) (list_on p h loads a between b within) no_drop in
    on_answer p h loads (look a) e last
    ∙ look_alike (plan_of p) a (state_of p b) (state_of p e) k.0
    ∙ sym (on_answer p h loads (look a) b (states_before p h loads between b last))
