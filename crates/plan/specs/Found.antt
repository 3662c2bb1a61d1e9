-- How the code finds an interface's ports: by numbers instead of cases, and all interfaces in one pass over the
-- joints' bytes.
use Rattle.std.specs.Prelude.{List, ℕ, ◌+◌, ◌*◌, ◌-◌, ◌/◌, ◌%◌, eqb, ltb, get_or, set, replicate}
use Rattle.basis.specs.Choice.{pick}
use Rattle.basis.specs.Fold.{up_to}
use Rattle.plan.specs.declared.Head.{Head}
use Rattle.plan.specs.declared.Ports.{Ports}
use Rattle.plan.specs.declared.Ports.TheVariants.{Missing, One, Several}

-- kind and number of the joint that leads to the interface of column d, as the upper six bits of a joint's byte
unfoldable pub wanted_of : ℕ → ℕ → ℕ
wanted_of actives d = pick (ltb d actives) (32 + d) (48 + (d - actives))

-- the column of the interface that a joint's byte names, or 32 where it names none of the plan's
unfoldable pub column_of : ℕ → ℕ → ℕ → ℕ
column_of actives passives v =
    pick (eqb (v / 64) 2) (pick (ltb (v / 4 % 16) actives) (v / 4 % 16) 32)
    (pick (eqb (v / 64) 3) (pick (ltb (v / 4 % 16) passives) (actives + v / 4 % 16) 32) 32)

-- a column's cell: 64 while no port was found, then the port, and 65 once there were several
unfoldable pub mark_of : ℕ → ℕ → ℕ
mark_of cell i = pick (eqb cell 64) i 65

abbrev pub cell_of : Ports → ℕ
cell_of Missing = 64
cell_of (One i) = i
cell_of Several = 65

unfoldable pub port_of_cell : ℕ → ℕ
port_of_cell cell = pick (ltb cell 64) cell 0

-- a table of cells after one more port, whose joint's byte names a column or none
unfoldable pub found_step : ℕ → ℕ → List ℕ → ℕ → List ℕ → List ℕ
found_step actives passives joints i t =
    pick (ltb (column_of actives passives (get_or joints i 0)) 32)
    (set t (column_of actives passives (get_or joints i 0))
    (mark_of (get_or t (column_of actives passives (get_or joints i 0)) 0) i))
    t

-- the cell of every column
unfoldable pub found_of : Head → List ℕ → List ℕ
found_of h joints = up_to (found_step h.actives h.passives joints) (4 * h.routers) (replicate 32 64)

-- how many numbers the joints of a kind may have
unfoldable pub numbers_of : ℕ → ℕ → ℕ → ℕ → ℕ
numbers_of routers actives passives kind =
    pick (eqb kind 1) routers (pick (eqb kind 2) actives (pick (eqb kind 3) passives 1))
