-- Empty by a known round on bytes, from the rules: along a list from Start the bytes are those of the rules' states.
use mathlib.Core.Path.{◌≡◌, refl, sym, ap, subst, subst⁻¹, ◌∙◌}
use mathlib.Core.List.{List, [], ◌∷◌, ◌++◌, append-nil}
use Prim.Native.Nat.{ℕ, ◌≤◌}
use Rattle.packets.specs.declared.Remaining.{Remaining}
use Rattle.packets.specs.declared.Answer.TheVariants.{Remains}
use Rattle.plan.specs.Plan.{Plan, plan_of, S}
use Rattle.load.specs.Rules.{accepted_obeys}
use Rattle.rules.specs.State.{State, start}
use Rattle.rules.specs.Remaining.{packets, enough, remaining_in}
use Rattle.rules.specs.Calls.{Call, remaining, call}
use Rattle.rules.specs.Connections.{MadeBy}
use Rattle.rules.specs.Progress.{Quiet}
use Rattle.rules.specs.Ruled.{Ruled, ruled_after, rounds}
use Rattle.theory.proofs.Tracked.{ruled}
use Rattle.bytes_layout.specs.Rows.{past}
use Rattle.bytes_layout.specs.Offsets.{size}
use Rattle.bytes_layout.specs.Encode.{encode}
use Rattle.claims.specs.Calls.{Given, start_on, call_on}
use Rattle.claims.specs.Demand3.{bytes_after, state_of, accepted_by, rounds_in}
use Rattle.claims.proofs.Exact.{accepted_wired, accepted_range}
use Rattle.claims.proofs.Run.{decode_good, on_encode, reached_after}
use Rattle.claims.proofs.Bridge.{state_after, reached_bytes, reached_rounds, reached_claim}
use Rattle.theory_drain.specs.Waits.{of_rules, ProgramWaits}
use Rattle.theory_drain.proofs.TwoViews.{waits_from}
use Rattle.theory_drain.proofs.Empty.{empty_by}
use Rattle.claims_drain.specs.Emptied.{on_bytes, wash_bytes, Wash, Emptied, EmptyByOnBytes, KnownRound}

bytes_append : (p : List ℕ) (cs ds : List Call) (b : List ℕ)
    → bytes_after p (cs ++ ds) b ≡ bytes_after p ds (bytes_after p cs b)
bytes_append p [] ds b = refl
bytes_append p (c ∷ cs) ds b = bytes_append p cs ds (call_on p c b).bytes

-- the rule of Remaining
rule_remains : (pl : Plan) (s : State) → (call pl remaining s).answer ≡ Remains (remaining_in pl s)
unfolding call
rule_remains pl s = refl

module _ (p buffer : List ℕ) (before during : List Call) (w : Wash p buffer before during) where
  abbrev pl : Plan
  pl = plan_of p

  rules : Ruled pl
  rules =
      ruled (accepted_wired p w.head w.loads) (accepted_range p w.head w.loads)
      (accepted_obeys p w.head w.loads).ringless

  abbrev rest : List ℕ
  rest = past (size pl) buffer

  -- ---- where the program begins to wait: the bytes, and the rules' state
  abbrev begun : List ℕ
  begun = wash_bytes p buffer before

  abbrev first : State
  first = ruled_after pl before (start pl)

  reached : rules.Reached first
  reached = reached_after p w.head w.loads rules before (start pl) rules.starts

  begun_is : begun ≡ encode pl first rest
  begun_is = reached_bytes p w.head w.loads rules buffer w.started before

  first_is : state_of p begun ≡ first
  first_is = ap (state_of p) begun_is ∙ decode_good p w.head w.loads first rest (rules.good first reached)

  -- a Remaining then
  remains_is : (call_on p remaining begun).answer ≡ Remains (remaining_in pl (state_of p begun))
  remains_is =
      (reached_claim p w.head w.loads rules buffer w.started (before ++ (remaining ∷ []))).answers before []
      remaining refl
      ∙ rule_remains pl first
      ∙ ap (λ (s : State). Remains (remaining_in pl s)) (sym first_is)

  -- ---- the program waits on the rules too
  waits_on_rules : ProgramWaits (of_rules pl) during first
  waits_on_rules =
      waits_from (of_rules pl) (on_bytes p) (λ s. encode pl s rest) rules.Reached rules.keeps
      (λ c s r. ap (λ (x : Given). x.answer) (on_encode p w.head w.loads c s rest (rules.good s r)))
      (λ c s r. ap (λ (x : Given). x.bytes) (on_encode p w.head w.loads c s rest (rules.good s r)))
      during first reached (subst (ProgramWaits (on_bytes p) during) begun_is w.waits)

  -- ---- after its rounds
  module _ (n : enough (S pl) (packets pl (state_of p begun)) ≤ rounds_in p during begun) where
    many : enough (S pl) (packets pl first) ≤ rounds pl during first
    many =
        subst (λ (m : ℕ). enough (S pl) (packets pl first) ≤ m)
        (reached_rounds p w.head w.loads rules buffer w.started before during)
        (subst (λ (s : State). enough (S pl) (packets pl s) ≤ rounds_in p during begun) first_is n)

    quiet : Quiet pl (state_of p (bytes_after p during begun))
    quiet =
        subst⁻¹ (Quiet pl)
        (ap (λ (b : List ℕ). state_of p (bytes_after p during b)) begun_is
        ∙ state_after p w.head w.loads rules during first rest reached)
        (empty_by (accepted_wired p w.head w.loads) (accepted_range p w.head w.loads)
        (accepted_obeys p w.head w.loads).ringless first (rules.good first reached)
        (ap (λ (s : State). s.clock.phase) (sym first_is) ∙ w.reads) during waits_on_rules many)

    -- the table by demand 3's claim of the whole list
    emptied : Emptied p buffer before during
    emptied =
        record {
          quiet = quiet;
          table = subst (λ (b : List ℕ).
              MadeBy pl (accepted_by p (before ++ during) (start_on p buffer).bytes []) (state_of p b).table) whole
              ((reached_claim p w.head w.loads rules buffer w.started (before ++ during)).table
              (before ++ during) [] (sym (append-nil (before ++ during)))
              (subst⁻¹ (λ (b : List ℕ). Quiet pl (state_of p b)) whole quiet));
        }
      where
        whole : bytes_after p (before ++ during) (start_on p buffer).bytes ≡ bytes_after p during begun
        whole = bytes_append p before during (start_on p buffer).bytes

pub empty_by_on_bytes : EmptyByOnBytes
empty_by_on_bytes p buffer before during w n = emptied p buffer before during w n

pub known_round : KnownRound
known_round p buffer before during n w e l =
    let f : Remains n ≡ Remains (remaining_in (plan_of p) (state_of p (wash_bytes p buffer before))) =
    sym e ∙ remains_is p buffer before during w in
    let same : n ≡ remaining_in (plan_of p) (state_of p (wash_bytes p buffer before)) = cc in
    empty_by_on_bytes p buffer before during w
    (subst (λ (m : Remaining). m.rounds ≤ rounds_in p during (wash_bytes p buffer before)) same l)
