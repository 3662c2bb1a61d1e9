-- Some line of packets of many has a packet, or none has; and outputs that have a wire.
use mathlib.Core.Path.{◌≡◌, refl, ap, ◌∙◌}
use mathlib.Core.Logic.{◌⊎◌, inl, inr}
use mathlib.Core.List.{List, [], ◌∷◌}
use Prim.Native.Nat.{ℕ, zero, suc, ◌<◌}
use native.Mathlib.Omega.{arith}
use Rattle.basis.specs.Bounded.{below_suc}
use Rattle.packets.specs.declared.Packet.{Packet}
use Rattle.plan.specs.Plan.{Plan}
use Rattle.plan_queues.specs.Feeds.{Output, of_active, of_passive, of_side, to_unit, from_unit}
use Rattle.rules.specs.Valid.{Drives}
use Rattle.rules.specs.Progress.{HasWire}

-- ---- lines
abbrev pub SomePacket : (ℕ → List Packet) → ℕ → Type 0
SomePacket line n = (i : ℕ) × (i < n) × (x : Packet) × (rest : List Packet) × (line i ≡ x ∷ rest)

pub some_packet : (line : ℕ → List Packet) (n : ℕ) → SomePacket line n ⊎ ((i : ℕ) → i < n → line i ≡ [])
some_packet line zero = inr (λ i l. absurd (omega arith))
some_packet line (suc n) = by (some_packet line n) (line n) refl
  where
    by : SomePacket line n ⊎ ((i : ℕ) → i < n → line i ≡ []) → (l : List Packet) → line n ≡ l
        → SomePacket line (suc n) ⊎ ((i : ℕ) → i < suc n → line i ≡ [])
    by (inl (i, l, x, rest, f)) k e = inl (i, omega arith, x, rest, f)
    by (inr none) (x ∷ rest) e = inl (n, omega arith, x, rest, e)
    by (inr none) [] e = inr (λ i l. at i (below_suc l))
      where
        at : (i : ℕ) → (i < n) ⊎ (i ≡ n) → line i ≡ []
        at i (inl l) = none i l
        at i (inr f) = ap line f ∙ e

-- ---- outputs
pub wire_drives : (pl : Plan) (o : Output) → HasWire pl o → Drives pl o
wire_drives pl (of_active a) h = h
wire_drives pl (of_passive p) h = h
wire_drives pl (of_side r o) (a, b, n) = (a, b)
wire_drives pl (to_unit r) h = h
wire_drives pl (from_unit r) h = h
