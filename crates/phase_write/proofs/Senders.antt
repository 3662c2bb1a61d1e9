-- The senders of an output: their numbers as the code computes them, and their roles.
use mathlib.Core.Path.{◌≡◌, sym, ◌∙◌}
use mathlib.Core.Logic.{◌⊎◌, inl, inr, ◌≢◌}
use mathlib.Core.Option.{some}
use Prim.Native.Nat.{ℕ, zero, suc, ◌+◌, ◌*◌, ◌-◌, ◌/◌, ◌%◌, ◌≤◌, ◌<◌}
use native.Mathlib.Omega.{arith}
use lib.Dec.{ltb}
use borrow.Author.Tests.{lt-ltb, le-ltb, ne_eqb, eq-eqb}
use Rattle.basis.specs.Choice.{pick}
use Rattle.basis.specs.Bounded.{lt_or_ge}
use Rattle.plan.specs.declared.Head.{Head}
use Rattle.plan.specs.Head.{destinations}
use Rattle.plan.specs.Plan.{Plan, A, P}
use Rattle.plan_queues.specs.Queue.{Queue, active_out, active_in, passive_in, passive_out, U, Q, F, K, number, rank}
use Rattle.plan_queues.specs.Queue.{sender_at}
use Rattle.plan_queues.specs.Role.{Role, sending, handling, passing, role}
use Rattle.plan_queues.specs.Feeds.{Output, of_active, of_passive, of_side, to_unit, from_unit, output_of}
use Rattle.plan_journeys.proofs.Places.{some_same, some_not_none}
use Rattle.rules.specs.Outputs.{senders, outputs, router_output, output_at, output_number}
use Rattle.rules.specs.Write.{of_rank}
use Rattle.rules.specs.Valid.{Drives}
use Rattle.rules.proofs.OutNumbers.{drives_at, at_output}
use Rattle.next_queue.specs.Next.{base_of}
use Rattle.phase_write.specs.Writing.{router_sender, sender_of}

-- ---- numbers
-- the rank of the sender that stands behind both F and j others
rank_back : (j o : ℕ) → rank (pick (ltb j o) j (suc j)) o ≡ suc (suc j)
rank_back j o = by (lt_or_ge j o)
  where
    by : (j < o) ⊎ (o ≤ j) → rank (pick (ltb j o) j (suc j)) o ≡ suc (suc j)
    by (inl l) = rw (lt-ltb j o l, lt-ltb j o l)
    by (inr g) = let h : o ≤ suc j = omega arith in rw (le-ltb j o g, le-ltb (suc j) o h)

module _ (pl : Plan) where
  -- the senders of an interface's output, and of a router's k-th
  interface_sender : (m k : ℕ) → m < A pl + P pl → sender_of pl.head m k ≡ m
  unfolding sender_of
  interface_sender m k l = rw (lt-ltb m (A pl + P pl) l)

  router_sender_lem : (r o k m : ℕ) → o < 6 → m ≡ A pl + P pl + 6 * r + o
      → sender_of pl.head m k ≡ router_sender (base_of pl.head r) o k
  unfolding sender_of
  router_sender_lem r o k m l e =
      let d : (m - (A pl + P pl)) / 6 ≡ r = omega arith in
      let n : (m - (A pl + P pl)) % 6 ≡ o = omega arith in
      rw (le-ltb m (A pl + P pl) (omega arith), d, n)

  side_number : (r o k : ℕ) → number pl (sender_at r o k) ≡ base_of pl.head r + 8 + 5 * o + k
  unfolding number
  side_number r o zero = omega arith
  side_number r o (suc zero) = omega arith
  side_number r o (suc (suc j)) = let k = rank_back j o in omega arith

  side_sender : (r o k m : ℕ) → o < 4 → m ≡ A pl + P pl + 6 * r + o
      → number pl (sender_at r o k) ≡ sender_of pl.head m k
  side_sender r o k m l e = side_number r o k ∙ sym (router_sender_lem r o k m (omega arith) e ∙ rw (lt-ltb o 4 l))

  unit_sender : (r k m : ℕ) → m ≡ A pl + P pl + 6 * r + 4 → number pl (U r k) ≡ sender_of pl.head m k
  unfolding number
  unit_sender r k m e = sym (router_sender_lem r 4 k m (omega arith) e)

  back_sender : (r k m : ℕ) → m ≡ A pl + P pl + 6 * r + 5 → number pl (Q r k) ≡ sender_of pl.head m k
  unfolding number
  back_sender r k m e = sym (router_sender_lem r 5 k m (omega arith) e)

  -- the number of an output's sender of rank k
  sender_by : (o : Output) (k : ℕ) (q : Queue) (m : ℕ) → Drives pl o → output_number pl o ≡ m
      → of_rank (senders o) k ≡ some q → number pl q ≡ sender_of pl.head m k
  unfolding number output_number
  sender_by (of_active a) zero q m d f e =
      rw (← some_same e) (f ∙ sym (interface_sender m 0 (omega arith)))
  sender_by (of_active a) (suc k) q m d f e = absurd (some_not_none e)
  sender_by (of_passive p) zero q m d f e =
      rw (← some_same e) (f ∙ sym (interface_sender m 0 (omega arith)))
  sender_by (of_passive p) (suc k) q m d f e = absurd (some_not_none e)
  sender_by (of_side r o) zero q m (h, l) f e = rw (← some_same e) (side_sender r o 0 m l (sym f))
  sender_by (of_side r o) (suc zero) q m (h, l) f e = rw (← some_same e) (side_sender r o 1 m l (sym f))
  sender_by (of_side r o) (suc (suc zero)) q m (h, l) f e = rw (← some_same e) (side_sender r o 2 m l (sym f))
  sender_by (of_side r o) (suc (suc (suc zero))) q m (h, l) f e = rw (← some_same e) (side_sender r o 3 m l (sym f))
  sender_by (of_side r o) (suc (suc (suc (suc zero)))) q m (h, l) f e = rw (← some_same e) (side_sender r o 4 m l
      (sym f))
  sender_by (of_side r o) (suc (suc (suc (suc (suc k))))) q m d f e = absurd (some_not_none e)
  sender_by (to_unit r) zero q m d f e = rw (← some_same e) (unit_sender r 0 m (sym f))
  sender_by (to_unit r) (suc zero) q m d f e = rw (← some_same e) (unit_sender r 1 m (sym f))
  sender_by (to_unit r) (suc (suc zero)) q m d f e = rw (← some_same e) (unit_sender r 2 m (sym f))
  sender_by (to_unit r) (suc (suc (suc zero))) q m d f e = rw (← some_same e) (unit_sender r 3 m (sym f))
  sender_by (to_unit r) (suc (suc (suc (suc k)))) q m d f e = absurd (some_not_none e)
  sender_by (from_unit r) zero q m d f e = rw (← some_same e) (back_sender r 0 m (sym f))
  sender_by (from_unit r) (suc zero) q m d f e = rw (← some_same e) (back_sender r 1 m (sym f))
  sender_by (from_unit r) (suc (suc zero)) q m d f e = rw (← some_same e) (back_sender r 2 m (sym f))
  sender_by (from_unit r) (suc (suc (suc zero))) q m d f e = rw (← some_same e) (back_sender r 3 m (sym f))
  sender_by (from_unit r) (suc (suc (suc (suc k)))) q m d f e = absurd (some_not_none e)

  pub sender_number : (m k : ℕ) (q : Queue) → m < outputs pl → of_rank (senders (output_at pl m)) k ≡ some q
      → number pl q ≡ sender_of pl.head m k
  sender_number m k q l e = sender_by (output_at pl m) k q m (drives_at pl m l) (at_output pl m l) e

-- ---- as the code finds them
module _ (h : Head) (m k : ℕ) where
  pub sender_out : m < destinations h → m ≡ sender_of h m k
  unfolding sender_of
  sender_out l = rw (lt-ltb m (destinations h) l)

  module _ (past : destinations h ≤ m) {base : ℕ} (e : base ≡ base_of h ((m - destinations h) / 6)) where
    pub sender_side : (m - destinations h) % 6 < 4 → base + 8 + 5 * ((m - destinations h) % 6) + k ≡ sender_of h m k
    unfolding sender_of
    sender_side l = rw (le-ltb m (destinations h) past, lt-ltb ((m - destinations h) % 6) 4 l, e)

    module _ (high : 4 ≤ (m - destinations h) % 6) where
      pub sender_unit : (m - destinations h) % 6 ≡ 4 → base + k ≡ sender_of h m k
      unfolding sender_of
      sender_unit l = rw (
        le-ltb m (destinations h) past,
        le-ltb ((m - destinations h) % 6) 4 high,
        eq-eqb ((m - destinations h) % 6) 4 l,
        e,
      )

      pub sender_from : (m - destinations h) % 6 ≢ 4 → base + 4 + k ≡ sender_of h m k
      unfolding sender_of
      sender_from l = rw (
        le-ltb m (destinations h) past,
        le-ltb ((m - destinations h) % 6) 4 high,
        ne_eqb ((m - destinations h) % 6) 4 l,
        e,
      )

-- ---- roles
-- the role of an output's senders; of a unit's those that came in by side i
abbrev pub side_by : Queue → ℕ
side_by (active_out x) = 0
side_by (passive_out x) = 0
side_by (U r i) = 0
side_by (Q r i) = i
side_by (F h r o) = 0
side_by (K r i o) = 0
side_by (active_in x) = 0
side_by (passive_in x) = 0

abbrev role_by : ℕ → Output → Role
role_by i (of_active a) = sending
role_by i (of_passive p) = sending
role_by i (of_side r o) = passing
role_by i (to_unit r) = passing
role_by i (from_unit r) = handling r i

role_by_lem : (q : Queue) (o : Output) → output_of q ≡ some o → role q ≡ role_by (side_by q) o
role_by_lem (active_out x) o e = rw (← some_same e)
role_by_lem (passive_out x) o e = rw (← some_same e)
role_by_lem (U r i) o e = rw (← some_same e)
role_by_lem (Q r i) o e = rw (← some_same e)
role_by_lem (F h r o) u e = rw (← some_same e)
role_by_lem (K r i o) u e = rw (← some_same e)
role_by_lem (active_in x) o e = absurd (some_not_none e)
role_by_lem (passive_in x) o e = absurd (some_not_none e)

module _ (pl : Plan) (m : ℕ) (q : Queue) (e : output_of q ≡ some (output_at pl m)) where
  -- an interface's queue sends
  pub role_out : m < A pl + P pl → role q ≡ sending
  unfolding output_at
  role_out l = role_by_lem q (output_at pl m) e ∙ by (lt_or_ge m (A pl))
    where
      by : (m < A pl) ⊎ (A pl ≤ m) → role_by (side_by q) (output_at pl m) ≡ sending
      by (inl a) = rw (lt-ltb m (A pl) a, output_at)
      by (inr a) = rw (le-ltb m (A pl) a, lt-ltb m (A pl + P pl) l, output_at)

  module _ (past : A pl + P pl ≤ m) where
    router_role : role_by (side_by q) (output_at pl m)
        ≡ role_by (side_by q) (router_output ((m - (A pl + P pl)) / 6) ((m - (A pl + P pl)) % 6))
    unfolding output_at
    router_role =
        let a : A pl ≤ m = omega arith in rw (le-ltb m (A pl) a, le-ltb m (A pl + P pl) past, output_at)

    -- a router's queue passes on what comes in
    pub role_passing : (m - (A pl + P pl)) % 6 < 5 → role q ≡ passing
    role_passing l = role_by_lem q (output_at pl m) e ∙ router_role ∙ by (lt_or_ge ((m - (A pl + P pl)) % 6) 4)
      where
        by : ((m - (A pl + P pl)) % 6 < 4) ⊎ (4 ≤ (m - (A pl + P pl)) % 6)
            → role_by (side_by q) (router_output ((m - (A pl + P pl)) / 6) ((m - (A pl + P pl)) % 6)) ≡ passing
        by (inl a) = rw (lt-ltb ((m - (A pl + P pl)) % 6) 4 a)
        by (inr a) =
            let f : (m - (A pl + P pl)) % 6 ≡ 4 = omega arith in
            rw (le-ltb ((m - (A pl + P pl)) % 6) 4 a, eq-eqb ((m - (A pl + P pl)) % 6) 4 f)

    -- a unit's has been handled
    pub role_handling : 5 ≤ (m - (A pl + P pl)) % 6 → role q ≡ handling ((m - (A pl + P pl)) / 6) (side_by q)
    role_handling l =
        let a : 4 ≤ (m - (A pl + P pl)) % 6 = omega arith in
        role_by_lem q (output_at pl m) e ∙ router_role
        ∙ rw (le-ltb ((m - (A pl + P pl)) % 6) 4 a, ne_eqb ((m - (A pl + P pl)) % 6) 4 (λ z. omega arith))
