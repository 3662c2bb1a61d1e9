-- The bytes that an accepted Reply leaves.
use Rattle.std.specs.Prelude.{List, ℕ, ◌+◌}
use Rattle.rules.specs.Visits.{reply_kind, replied_as}
use Rattle.bytes_layout.specs.Offsets.{first_place}
use Rattle.bytes_layout.specs.Places.{packet_at}
use Rattle.bytes_layout.specs.Updates.{push_at}
use Rattle.call_common.specs.Visits.{taken_at}

-- 'the head becomes ACK or NACK, slot and hub kept, in the out-queue; the flag rises'
unfoldable pub replied_at : ℕ → ℕ → ℕ → List ℕ → List ℕ
replied_at from to choice b =
    push_at to (replied_as (reply_kind choice) (packet_at (from + first_place) b)) (taken_at from b)
