-- Load's refusals 2 to 6, each of their sentences: plans that differ in one field from one that loads. Beside each is
-- what is wrong with it. The numbers are evaluated from the bytes, as in `Runs`.
use Rattle.std.specs.Prelude.{◌≡◌, refl, List, [], ◌∷◌, ◌++◌, ℕ, replicate}
use Rattle.load.specs.Runs.{loads}

-- Load's number for each
abbrev pub answers : List (List ℕ) → List ℕ
answers [] = []
answers (b ∷ bs) = loads b ∷ answers bs

-- ---- '2 R, A, P, S or a capacity outside its range': of T the first six bytes, then the others as they are
abbrev headed : List ℕ → List ℕ
headed b = b ++ 6 ∷ 0 ∷ 0 ∷ 0 ∷ 32 ∷ []

abbrev pub out_of_range : List (List ℕ)
out_of_range =
    -- R 0
    headed (0 ∷ 66 ∷ 17 ∷ 36 ∷ 146 ∷ 76 ∷ [])
    -- R 17
    ∷ headed (136 ∷ 66 ∷ 17 ∷ 36 ∷ 146 ∷ 76 ∷ [])
    -- A 0
    ∷ headed (8 ∷ 2 ∷ 17 ∷ 36 ∷ 146 ∷ 76 ∷ [])
    -- A 17
    ∷ headed (12 ∷ 66 ∷ 17 ∷ 36 ∷ 146 ∷ 76 ∷ [])
    -- P 0
    ∷ headed (8 ∷ 64 ∷ 17 ∷ 36 ∷ 146 ∷ 76 ∷ [])
    -- P 17
    ∷ headed (8 ∷ 98 ∷ 17 ∷ 36 ∷ 146 ∷ 76 ∷ [])
    -- S 1
    ∷ headed (8 ∷ 66 ∷ 9 ∷ 36 ∷ 146 ∷ 76 ∷ [])
    -- S 33
    ∷ headed (8 ∷ 67 ∷ 9 ∷ 36 ∷ 146 ∷ 76 ∷ [])
    -- active out 0
    ∷ headed (8 ∷ 66 ∷ 16 ∷ 36 ∷ 146 ∷ 76 ∷ [])
    -- active in 0
    ∷ headed (8 ∷ 66 ∷ 17 ∷ 4 ∷ 146 ∷ 76 ∷ [])
    -- U 0
    ∷ headed (8 ∷ 66 ∷ 17 ∷ 32 ∷ 146 ∷ 76 ∷ [])
    -- Q 0
    ∷ headed (8 ∷ 66 ∷ 17 ∷ 36 ∷ 18 ∷ 76 ∷ [])
    -- F 0
    ∷ headed (8 ∷ 66 ∷ 17 ∷ 36 ∷ 130 ∷ 76 ∷ [])
    -- K 0
    ∷ headed (8 ∷ 66 ∷ 17 ∷ 36 ∷ 144 ∷ 76 ∷ [])
    -- passive in 0
    ∷ headed (8 ∷ 66 ∷ 17 ∷ 36 ∷ 146 ∷ 12 ∷ [])
    -- passive out 0
    ∷ headed (8 ∷ 66 ∷ 17 ∷ 36 ∷ 146 ∷ 68 ∷ [])
    ∷ []

pub ranges_refused : answers out_of_range ≡ replicate 16 2
unfolding loads
ranges_refused = refl

-- ---- '3 wrong length or a fill bit set': T has 83 bits, so five fill bits; up to its last byte
abbrev ending : List ℕ → List ℕ
ending b = 8 ∷ 66 ∷ 17 ∷ 36 ∷ 146 ∷ 76 ∷ 6 ∷ 0 ∷ 0 ∷ 0 ∷ b

abbrev pub bad_lengths : List (List ℕ)
bad_lengths =
    -- a byte less, a byte more
    ending []
    ∷ ending (32 ∷ 0 ∷ [])
    -- each fill bit
    ∷ ending (33 ∷ [])
    ∷ ending (34 ∷ [])
    ∷ ending (36 ∷ [])
    ∷ ending (40 ∷ [])
    ∷ ending (48 ∷ [])
    ∷ []

pub lengths_refused : answers bad_lengths ≡ replicate 7 3
unfolding loads
lengths_refused = refl

-- ---- '4 a later field outside its range': 'Number and side are 0 for kind 0; side is 0 for kinds 2 and 3', a number
-- is one of the plan's, a route '0 to 3, or 7 for none'
abbrev pub bad_fields : List (List ℕ)
bad_fields =
    -- nothing, with a number: 08 42 11 24 92 4C 06 00 20 00 20
    (8 ∷ 66 ∷ 17 ∷ 36 ∷ 146 ∷ 76 ∷ 6 ∷ 0 ∷ 32 ∷ 0 ∷ 32 ∷ [])
    -- nothing, with a side: 08 42 11 24 92 4C 06 00 08 00 20
    ∷ (8 ∷ 66 ∷ 17 ∷ 36 ∷ 146 ∷ 76 ∷ 6 ∷ 0 ∷ 8 ∷ 0 ∷ 32 ∷ [])
    -- an active, with a side: 08 42 11 24 92 4C 0E 00 00 00 20
    ∷ (8 ∷ 66 ∷ 17 ∷ 36 ∷ 146 ∷ 76 ∷ 14 ∷ 0 ∷ 0 ∷ 0 ∷ 32 ∷ [])
    -- a passive, with a side: 08 42 11 24 92 4C 06 10 00 00 20
    ∷ (8 ∷ 66 ∷ 17 ∷ 36 ∷ 146 ∷ 76 ∷ 6 ∷ 16 ∷ 0 ∷ 0 ∷ 32 ∷ [])
    -- router 1 of one: 08 42 11 24 92 4C 06 02 20 00 20
    ∷ (8 ∷ 66 ∷ 17 ∷ 36 ∷ 146 ∷ 76 ∷ 6 ∷ 2 ∷ 32 ∷ 0 ∷ 32 ∷ [])
    -- active 1 of one: 08 42 11 24 92 4C 26 00 00 00 20
    ∷ (8 ∷ 66 ∷ 17 ∷ 36 ∷ 146 ∷ 76 ∷ 38 ∷ 0 ∷ 0 ∷ 0 ∷ 32 ∷ [])
    -- passive 1 of one: 08 42 11 24 92 4C 06 20 00 00 20
    ∷ (8 ∷ 66 ∷ 17 ∷ 36 ∷ 146 ∷ 76 ∷ 6 ∷ 32 ∷ 0 ∷ 0 ∷ 32 ∷ [])
    -- route 4: 08 42 11 24 92 4C 06 00 00 00 80
    ∷ (8 ∷ 66 ∷ 17 ∷ 36 ∷ 146 ∷ 76 ∷ 6 ∷ 0 ∷ 0 ∷ 0 ∷ 128 ∷ [])
    -- route 5: 08 42 11 24 92 4C 06 00 00 00 A0
    ∷ (8 ∷ 66 ∷ 17 ∷ 36 ∷ 146 ∷ 76 ∷ 6 ∷ 0 ∷ 0 ∷ 0 ∷ 160 ∷ [])
    -- route 6: 08 42 11 24 92 4C 06 00 00 06 20
    ∷ (8 ∷ 66 ∷ 17 ∷ 36 ∷ 146 ∷ 76 ∷ 6 ∷ 0 ∷ 0 ∷ 6 ∷ 32 ∷ [])
    ∷ []

pub fields_refused : answers bad_fields ≡ replicate 10 4
unfolding loads
fields_refused = refl

-- routes 2, 3 and 7 are in range: the walk does not arrive, and the pair is not served
abbrev pub far_routes : List (List ℕ)
far_routes =
    -- route 2: 08 42 11 24 92 4C 06 00 00 00 40
    (8 ∷ 66 ∷ 17 ∷ 36 ∷ 146 ∷ 76 ∷ 6 ∷ 0 ∷ 0 ∷ 0 ∷ 64 ∷ [])
    -- route 3: 08 42 11 24 92 4C 06 00 00 00 60
    ∷ (8 ∷ 66 ∷ 17 ∷ 36 ∷ 146 ∷ 76 ∷ 6 ∷ 0 ∷ 0 ∷ 0 ∷ 96 ∷ [])
    -- route 7: 08 42 11 24 92 4C 06 00 00 00 E0
    ∷ (8 ∷ 66 ∷ 17 ∷ 36 ∷ 146 ∷ 76 ∷ 6 ∷ 0 ∷ 0 ∷ 0 ∷ 224 ∷ [])
    ∷ []

pub far_routes_load : answers far_routes ≡ replicate 3 0
unfolding loads
far_routes_load = refl

-- ---- '5 a router joint not named back, a joint to the same router, or an interface without exactly one joint'; the
-- first three by plan two_routers, where side 1 of router 0 and side 0 of router 1 are joined
abbrev pub bad_joints : List (List ℕ)
bad_joints =
    -- side 0 of router 1 has nothing: 10 82 21 24 92 4C 02 20 00 00 06 04 20 00 24 22
    (16 ∷ 130 ∷ 33 ∷ 36 ∷ 146 ∷ 76 ∷ 2 ∷ 32 ∷ 0 ∷ 0 ∷ 6 ∷ 4 ∷ 32 ∷ 0 ∷ 36 ∷ 34 ∷ [])
    -- it names side 2 of router 0: 10 82 21 24 92 4C 02 20 00 02 16 04 20 00 24 22
    ∷ (16 ∷ 130 ∷ 33 ∷ 36 ∷ 146 ∷ 76 ∷ 2 ∷ 32 ∷ 0 ∷ 2 ∷ 22 ∷ 4 ∷ 32 ∷ 0 ∷ 36 ∷ 34 ∷ [])
    -- side 3 of router 1 names back instead: 10 82 21 24 92 4C 02 20 00 00 06 04 22 08 24 22
    ∷ (16 ∷ 130 ∷ 33 ∷ 36 ∷ 146 ∷ 76 ∷ 2 ∷ 32 ∷ 0 ∷ 0 ∷ 6 ∷ 4 ∷ 34 ∷ 8 ∷ 36 ∷ 34 ∷ [])
    -- sides 2 and 3 of one router: 08 42 11 24 92 4C 06 02 1A 10 20
    ∷ (8 ∷ 66 ∷ 17 ∷ 36 ∷ 146 ∷ 76 ∷ 6 ∷ 2 ∷ 26 ∷ 16 ∷ 32 ∷ [])
    -- side 2 and itself: 08 42 11 24 92 4C 06 02 10 00 20
    ∷ (8 ∷ 66 ∷ 17 ∷ 36 ∷ 146 ∷ 76 ∷ 6 ∷ 2 ∷ 16 ∷ 0 ∷ 32 ∷ [])
    -- no joint to the active: 08 42 11 24 92 48 06 00 00 00 20
    ∷ (8 ∷ 66 ∷ 17 ∷ 36 ∷ 146 ∷ 72 ∷ 6 ∷ 0 ∷ 0 ∷ 0 ∷ 32 ∷ [])
    -- no joint to the passive: 08 42 11 24 92 4C 00 00 00 00 20
    ∷ (8 ∷ 66 ∷ 17 ∷ 36 ∷ 146 ∷ 76 ∷ 0 ∷ 0 ∷ 0 ∷ 0 ∷ 32 ∷ [])
    -- two joints to the active: 08 42 11 24 92 4C 06 04 00 00 20
    ∷ (8 ∷ 66 ∷ 17 ∷ 36 ∷ 146 ∷ 76 ∷ 6 ∷ 4 ∷ 0 ∷ 0 ∷ 32 ∷ [])
    -- two joints to the passive: 08 42 11 24 92 4C 06 00 06 00 20
    ∷ (8 ∷ 66 ∷ 17 ∷ 36 ∷ 146 ∷ 76 ∷ 6 ∷ 0 ∷ 6 ∷ 0 ∷ 32 ∷ [])
    ∷ []

pub joints_refused : answers bad_joints ≡ replicate 9 5
unfolding loads
joints_refused = refl

-- ---- '6 a ring': `Runs.clockwise_ring` is one of set-ups' queues; here is one of answers alone. Four routers in a
-- ring, at each an active whose passive is at the next one; set-ups take that one step, and all answers go on around,
-- by the two other routers: K feeds K
-- 21 08 21 24 92 4A 2A 64 06 62 4A 06 04 22 6A 26 24 42 0A 46 44 62 00 0F D8 60 21 F8 0C 74 38 01 FE 80
abbrev pub ring_of_answers : List ℕ
ring_of_answers =
    33 ∷ 8 ∷ 33 ∷ 36 ∷ 146 ∷ 74 ∷ 42 ∷ 100 ∷ 6 ∷ 98 ∷ 74 ∷ 6 ∷ 4 ∷ 34 ∷ 106 ∷ 38 ∷ 36 ∷ 66 ∷ 10 ∷ 70 ∷ 68 ∷ 98 ∷ 0
    ∷ 15 ∷ 216 ∷ 96 ∷ 33 ∷ 248 ∷ 12 ∷ 116 ∷ 56 ∷ 1 ∷ 254 ∷ 128 ∷ []

pub answers_refused : loads ring_of_answers ≡ 6
unfolding loads
answers_refused = refl

-- with three of the pairs the chain is open
-- 20 C6 21 24 92 4A 2A 64 00 02 4A 06 04 22 6A 26 24 42 0A 46 40 02 00 7E 18 43 80 FA 00 0F D0
abbrev pub open_chain : List ℕ
open_chain =
    32 ∷ 198 ∷ 33 ∷ 36 ∷ 146 ∷ 74 ∷ 42 ∷ 100 ∷ 0 ∷ 2 ∷ 74 ∷ 6 ∷ 4 ∷ 34 ∷ 106 ∷ 38 ∷ 36 ∷ 66 ∷ 10 ∷ 70 ∷ 64 ∷ 2 ∷ 0
    ∷ 126 ∷ 24 ∷ 67 ∷ 128 ∷ 250 ∷ 0 ∷ 15 ∷ 208 ∷ []

pub open_chain_loads : loads open_chain ≡ 0
unfolding loads
open_chain_loads = refl
