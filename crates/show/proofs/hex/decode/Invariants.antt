use Rattle.std.proofs.Common.{◌≤◌, length, ◌≡◌}
use Rattle.show.proofs.hex.decode.Given as goal

abbrev pub invariant-loop-i : goal.invariant-loop-i
invariant-loop-i l =
    (l.i-end ≡ length l.text) × (l.i ≤ l.i-end) × (l.digits ≤ l.i) × (4096 ≡ length l.plan)
