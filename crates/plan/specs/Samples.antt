-- Plans of document 01's runs and of more runs of the same kind, by their bytes.
use Rattle.std.specs.Prelude.{List, [], ◌∷◌, ℕ}

-- plan T: one router, side 0 to active 0, side 1 to passive 0, S=2, capacities 1: 08 42 11 24 92 4C 06 00 00 00 20
abbrev pub plan_t : List ℕ
plan_t = 8 ∷ 66 ∷ 17 ∷ 36 ∷ 146 ∷ 76 ∷ 6 ∷ 0 ∷ 0 ∷ 0 ∷ 32 ∷ []

-- two routers, S=4, capacities 1. Router 0: side 0 to active 0, side 1 to side 0 of router 1. Router 1: side 1 to
-- passive 0, side 2 to active 1. Routes: the shortest.
-- 10 82 21 24 92 4C 02 20 00 02 0E 04 20 00 24 22
abbrev pub two_routers : List ℕ
two_routers = 16 ∷ 130 ∷ 33 ∷ 36 ∷ 146 ∷ 76 ∷ 2 ∷ 32 ∷ 0 ∷ 2 ∷ 14 ∷ 4 ∷ 32 ∷ 0 ∷ 36 ∷ 34 ∷ []

-- plan T with S=8 and more room: capacities 2, active in 3. An active's start allowance is 2.
-- 08 42 42 69 24 94 06 00 00 00 20
abbrev pub wider_t : List ℕ
wider_t = 8 ∷ 66 ∷ 66 ∷ 105 ∷ 36 ∷ 148 ∷ 6 ∷ 0 ∷ 0 ∷ 0 ∷ 32 ∷ []

-- one router, S=16: side 0 to passive 0, sides 1 to 3 to actives 0 to 2. The capacities fall on the way to the
-- passive: active out 6, U 4, Q 3, F 2, passive in 1. Passive out 4, K 5, active in 7.
-- 08 C2 86 F1 AA 66 04 04 24 41 4C 00
abbrev pub narrow_there : List ℕ
narrow_there = 8 ∷ 194 ∷ 134 ∷ 241 ∷ 170 ∷ 102 ∷ 4 ∷ 4 ∷ 36 ∷ 65 ∷ 76 ∷ 0 ∷ []

-- the same router with Q 1: active out 6, in 7, U 4, Q 1, F 3, K 5, passive in 2, out 4
-- 08 C2 86 F0 BA A6 04 04 24 41 4C 00
abbrev pub narrow_unit : List ℕ
narrow_unit = 8 ∷ 194 ∷ 134 ∷ 240 ∷ 186 ∷ 166 ∷ 4 ∷ 4 ∷ 36 ∷ 65 ∷ 76 ∷ 0 ∷ []

-- one router, S=16: side 0 to passive 0, side 1 to active 0, side 2 to active 1, side 3 to passive 1. Little room on
-- the way back: passive in 4, passive out 2, K 1, active in 5. Active out 6, U 7, Q 3, F 3.
-- 08 84 86 BD B3 16 04 04 26 21 41 80
abbrev pub narrow_back : List ℕ
narrow_back = 8 ∷ 132 ∷ 134 ∷ 189 ∷ 179 ∷ 22 ∷ 4 ∷ 4 ∷ 38 ∷ 33 ∷ 65 ∷ 128 ∷ []

-- two routers, S=4, capacities 1. Router 0: side 0 to active 0, side 1 to active 1, side 2 to passive 0, side 3 to
-- side 3 of router 1. Router 1: side 0 to passive 1, side 2 to active 2. Routes: the shortest, but router 0 has none
-- to passive 1: actives 0 and 1 are not served with it.
-- 10 C4 21 24 92 4C 04 26 02 3E 20 04 42 18 2D 76 D3 00
abbrev pub all_sides : List ℕ
all_sides = 16 ∷ 196 ∷ 33 ∷ 36 ∷ 146 ∷ 76 ∷ 4 ∷ 38 ∷ 2 ∷ 62 ∷ 32 ∷ 4 ∷ 66 ∷ 24 ∷ 45 ∷ 118 ∷ 211 ∷ 0 ∷ []

-- three routers, each joined to the two others, S=16, with a long way back. Router 0: side 0 to active 0, side 1 to
-- side 0 of router 1, side 2 to side 1 of router 2. Router 1: side 1 to side 0 of router 2, side 2 to active 1, side 3
-- to passive 0. Router 2: side 2 to passive 1. Routes: the shortest, but router 2 sends to active 1 by router 0. So
-- by side 1 of router 0 go both set-ups, of active 0 to passive 0, and answers, of passive 1 to active 1. Capacities:
-- active out 4, in 4, U 4, Q 3, F 3, K 2, passive in 4, out 2.
-- 18 84 84 91 B5 14 02 22 48 02 0A 44 26 02 2A 16 20 00 25 04 C9 21 00
abbrev pub long_way_back : List ℕ
long_way_back =
    24 ∷ 132 ∷ 132 ∷ 145 ∷ 181 ∷ 20 ∷ 2 ∷ 34 ∷ 72 ∷ 2 ∷ 10 ∷ 68 ∷ 38 ∷ 2 ∷ 42 ∷ 22 ∷ 32 ∷ 0 ∷ 37 ∷ 4 ∷ 201 ∷ 33 ∷ 0
    ∷ []

-- four routers in a row, S=3, capacities 1: side 1 of each is joined to side 0 of the next. Active 0 at side 0 of
-- router 0, passive 0 at side 1 of router 3, active 1 at side 2 of router 1. Routes: the shortest.
-- 20 82 19 24 92 4C 02 20 00 02 0A 44 20 02 2A 60 00 02 4E 00 00 00 24 22 01 00 80
abbrev pub four_routers : List ℕ
four_routers =
    32 ∷ 130 ∷ 25 ∷ 36 ∷ 146 ∷ 76 ∷ 2 ∷ 32 ∷ 0 ∷ 2 ∷ 10 ∷ 68 ∷ 32 ∷ 2 ∷ 42 ∷ 96 ∷ 0 ∷ 2 ∷ 78 ∷ 0 ∷ 0 ∷ 0 ∷ 36 ∷ 34 ∷ 1
    ∷ 0 ∷ 128 ∷ []

-- two routers, joined by their sides 2, each with an active on side 0 and a passive on side 1, S=4, capacities 1.
-- Routes: the shortest. The set-ups of active 0 to passive 1 and of active 1 to passive 0 cross.
-- 10 84 21 24 92 4C 06 02 30 04 26 22 10 00 45 20 88
abbrev pub crossing : List ℕ
crossing = 16 ∷ 132 ∷ 33 ∷ 36 ∷ 146 ∷ 76 ∷ 6 ∷ 2 ∷ 48 ∷ 4 ∷ 38 ∷ 34 ∷ 16 ∷ 0 ∷ 69 ∷ 32 ∷ 136 ∷ []

-- three routers in a ring, each with an active and a passive, S=4, capacities 1; all set-ups go clockwise
-- 18 C6 21 24 92 4C 06 02 3A 54 26 22 5A 14 46 42 1A 30 6C A4 C3 45 36 12 20
abbrev pub clockwise : List ℕ
clockwise =
    24 ∷ 198 ∷ 33 ∷ 36 ∷ 146 ∷ 76 ∷ 6 ∷ 2 ∷ 58 ∷ 84 ∷ 38 ∷ 34 ∷ 90 ∷ 20 ∷ 70 ∷ 66 ∷ 26 ∷ 48 ∷ 108 ∷ 164 ∷ 195 ∷ 69 ∷ 54
    ∷ 18 ∷ 32 ∷ []

-- one router, S=4: side 0 to active 0, side 1 to active 1, side 2 to passive 0. Capacities: active out 3, in 3, U 2, Q
-- 2, all others 1.
-- 08 82 23 69 12 4C 04 26 00 00 28
abbrev pub two_to_one : List ℕ
two_to_one = 8 ∷ 130 ∷ 35 ∷ 105 ∷ 18 ∷ 76 ∷ 4 ∷ 38 ∷ 0 ∷ 0 ∷ 40 ∷ []

-- the crossing plan with active out 2, active in 2
-- 10 84 22 44 92 4C 06 02 30 04 26 22 10 00 45 20 88
abbrev pub wider_crossing : List ℕ
wider_crossing = 16 ∷ 132 ∷ 34 ∷ 68 ∷ 146 ∷ 76 ∷ 6 ∷ 2 ∷ 48 ∷ 4 ∷ 38 ∷ 34 ∷ 16 ∷ 0 ∷ 69 ∷ 32 ∷ 136 ∷ []

-- a line of three routers with sensors and drives on each end, S=8. Router 0 is in the middle: side 0 to active 0, side
-- 1 to active 1, side 2 to side 0 of router 1, side 3 to side 0 of router 2. Router 1: side 1 to active 2, side 2 to
-- passive 0. Router 2: side 1 to active 3, side 2 to passive 1. Routes: the shortest. Capacities: active out 2, in 2, U
-- 2, passive in 2, all others 1.
-- 19 04 42 48 92 8C 04 22 22 42 14 46 00 02 1C 66 20 00 29 A6 01 08 00 08 40
abbrev pub line_of_three : List ℕ
line_of_three =
    25 ∷ 4 ∷ 66 ∷ 72 ∷ 146 ∷ 140 ∷ 4 ∷ 34 ∷ 34 ∷ 66 ∷ 20 ∷ 70 ∷ 0 ∷ 2 ∷ 28 ∷ 102 ∷ 32 ∷ 0 ∷ 41 ∷ 166 ∷ 1 ∷ 8 ∷ 0 ∷ 8
    ∷ 64 ∷ []

-- three routers, S=8. Router 0: side 0 to passive 0, side 1 to passive 1, side 2 to side 0 of router 2, side 3 to side
-- 0 of router 1. Router 1: side 1 to active 0, side 2 to passive 2. Router 2: side 1 to active 1, side 2 to passive 3.
-- Routes: the shortest. Capacities: active out 4, in 4, passive out 1, all others 2.
-- 18 88 44 89 24 8E 06 22 42 22 1C 06 40 02 14 26 60 03 40 B4 40 08 02 00 40
abbrev pub drives_around : List ℕ
drives_around =
    24 ∷ 136 ∷ 68 ∷ 137 ∷ 36 ∷ 142 ∷ 6 ∷ 34 ∷ 66 ∷ 34 ∷ 28 ∷ 6 ∷ 64 ∷ 2 ∷ 20 ∷ 38 ∷ 96 ∷ 3 ∷ 64 ∷ 180 ∷ 64 ∷ 8 ∷ 2
    ∷ 0 ∷ 64 ∷ []

-- the crossing plan with S=8, active out 4, active in 4
-- 10 84 44 84 92 4C 06 02 30 04 26 22 10 00 45 20 88
abbrev pub roomy_crossing : List ℕ
roomy_crossing = 16 ∷ 132 ∷ 68 ∷ 132 ∷ 146 ∷ 76 ∷ 6 ∷ 2 ∷ 48 ∷ 4 ∷ 38 ∷ 34 ∷ 16 ∷ 0 ∷ 69 ∷ 32 ∷ 136 ∷ []

-- the router of narrow_there with F 1
-- 08 C2 86 F1 9A 66 04 04 24 41 4C 00
abbrev pub narrow_side : List ℕ
narrow_side = 8 ∷ 194 ∷ 134 ∷ 241 ∷ 154 ∷ 102 ∷ 4 ∷ 4 ∷ 36 ∷ 65 ∷ 76 ∷ 0 ∷ []
