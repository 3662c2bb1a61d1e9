-- Which bytes are a state's: those that are what encoding gives of the state read from them.
use Rattle.std.specs.Prelude.{Bool, true, false, List, [], ◌∷◌, ℕ, eqb, leb, length}
use Rattle.basis.specs.Choice.{also}
use Rattle.plan.specs.Plan.{Plan}
use Rattle.bytes_layout.specs.Rows.{front}
use Rattle.bytes_layout.specs.Offsets.{size}
use Rattle.bytes_layout.specs.Encode.{encode}
use Rattle.bytes_layout.specs.Decode.{decode}

-- ---- two lists of bytes are one
unfoldable pub same_bytes : List ℕ → List ℕ → Bool
same_bytes [] [] = true
same_bytes [] (y ∷ ys) = false
same_bytes (x ∷ xs) [] = false
same_bytes (x ∷ xs) (y ∷ ys) = also (eqb x y) (same_bytes xs ys)

-- ---- the bytes are long enough, and the first of them are those of the state that they tell
unfoldable pub canonical : Plan → List ℕ → Bool
canonical pl b = also (leb (size pl) (length b)) (same_bytes (front (size pl) b) (encode pl (decode pl b) []))
