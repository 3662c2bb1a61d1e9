-- How many pairs a table of lengths of walks serves: those whose length is not 0.
use Rattle.std.specs.Prelude.{ℕ, List, not, eqb, count_by, flat_map}

abbrev pub served_in : List (List ℕ) → ℕ
served_in lengths = count_by (λ walk. not (eqb walk 0)) (flat_map (λ row. row) lengths)
