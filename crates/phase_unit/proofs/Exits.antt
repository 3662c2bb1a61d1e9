-- What each way out of the handling gives is the queue handled.
use mathlib.Core.Path.{◌≡◌, sym, ap, ◌∙◌}
use Prim.Native.Nat.{ℕ}
use Rattle.packets.specs.declared.Kind.{Kind}
use Rattle.packets.specs.declared.Kind.TheVariants.{Setup, Tdown, Ack, Nack}
use Rattle.packets.specs.declared.Packet.{Packet}
use Rattle.phase_unit.specs.declared.Queue.{Queue}
use Rattle.phase_unit.specs.Handled.{set_up, stays, torn, handled_by, handled_of}

module _ (q : Queue) (may slots : ℕ) where
  by_kind : (k : Kind) → q.head.kind ≡ k → handled_by k q may slots ≡ handled_of q may slots
  unfolding handled_of
  by_kind k e = ap (λ (c : Kind). handled_by c q may slots) (sym e)

  pub of_setup : {x : Packet} {r : Queue} → q.head.kind ≡ Setup → x ≡ set_up q.head may slots → r ≡ stays q x
      → r ≡ handled_of q may slots
  of_setup k e f = f ∙ ap (stays q) e ∙ by_kind Setup k

  pub of_tdown : {r : Queue} → q.head.kind ≡ Tdown → r ≡ torn q slots → r ≡ handled_of q may slots
  of_tdown k e = e ∙ by_kind Tdown k

  pub of_ack : q.head.kind ≡ Ack → q ≡ handled_of q may slots
  of_ack k = by_kind Ack k

  pub of_nack : q.head.kind ≡ Nack → q ≡ handled_of q may slots
  of_nack k = by_kind Nack k
