-- The bytes of a decoded text fit the buffer.
use Rattle.std.specs.Prelude.{◌≡◌, ℕ, ◌≤◌, Result, Ok, Err}
use Rattle.std.proofs.Common.{subst}
use Rattle.show.specs.declared.hex.DecodeError.{DecodeError}

abbrev pub Fits : Result ℕ DecodeError → Type 0
Fits (Ok n) = n ≤ 4096
Fits (Err e) = Unit {0}

pub bytes_fit : {r : Result ℕ DecodeError} {n : ℕ} → Fits r → r ≡ Ok n → n ≤ 4096
bytes_fit f e = subst Fits e f
