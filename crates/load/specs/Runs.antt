-- Document 01's starred runs of Load: 'T loads. 5 bytes: 1. T with a byte more: 3. Last byte 21: 3. First byte 00: 2.';
-- and the runs of request (i)
use Rattle.std.specs.Prelude.{◌≡◌, refl, List, [], ◌∷◌, ℕ}
use Rattle.basis.specs.Bounded.{any_below, all_below}
use Rattle.basis.specs.Fold.{up_to}
use Rattle.basis.specs.Ring.{any_next, live, ring_test}
use Rattle.basis.specs.Walk.{spot}
use Rattle.fields.specs.Bits.{bit_at, field_of}
use Rattle.plan.specs.Head.{capacity_at, head_of, counts_ok, capacities_ok, head_ok}
use Rattle.plan.specs.Plan.{joint_in, plan_of}
use Rattle.plan.specs.Rules.{fill_ok, joint_ok, route_ok, fields_ok, named_ok, ports_of, home, interfaces_ok}
use Rattle.plan_walks.specs.Walk.{onward, arrives}
use Rattle.plan_walks.specs.Served.{backs_arrive, served_from}
use Rattle.load_rings.specs.RingTest.{way_meets, walk_meets, walk_leaves, trail_edge, answered, answer_leaves}
use Rattle.load_rings.specs.RingTest.{answers_pass}
use Rattle.load_rings.specs.RingTest.{hand_edge, has_ring}
use Rattle.load.specs.Load.{length_ok, joints_ok, load_of, load_number}
use Rattle.plan.specs.Samples.{plan_t, two_routers, wider_t, narrow_there, narrow_back, all_sides, long_way_back}
use Rattle.plan.specs.Samples.{four_routers}
use Rattle.plan.specs.Samples.{narrow_unit, two_to_one, crossing, wider_crossing, line_of_three, drives_around}
use Rattle.plan.specs.Samples.{clockwise}
use Rattle.plan.specs.Samples.{roomy_crossing, narrow_side}

-- Load's number, computed from the bytes
unfoldable pub loads : List ℕ → ℕ
unfolding any_below all_below up_to any_next live ring_test spot bit_at field_of capacity_at head_of counts_ok
    capacities_ok head_ok joint_in plan_of fill_ok joint_ok route_ok named_ok ports_of home interfaces_ok fields_ok
    onward arrives backs_arrive served_from way_meets walk_meets walk_leaves trail_edge answered answer_leaves
    answers_pass hand_edge has_ring length_ok joints_ok load_of
loads b = load_number (load_of b)

pub t_loads : loads plan_t ≡ 0
unfolding loads
t_loads = refl

-- the plan of the run in which the second router declines loads too, and so do those of the other runs
pub two_routers_load : loads two_routers ≡ 0
unfolding loads
two_routers_load = refl

pub wider_t_loads : loads wider_t ≡ 0
unfolding loads
wider_t_loads = refl

pub narrow_there_loads : loads narrow_there ≡ 0
unfolding loads
narrow_there_loads = refl

pub narrow_back_loads : loads narrow_back ≡ 0
unfolding loads
narrow_back_loads = refl

pub all_sides_loads : loads all_sides ≡ 0
unfolding loads
all_sides_loads = refl

pub four_routers_load : loads four_routers ≡ 0
unfolding loads
four_routers_load = refl

pub long_way_back_loads : loads long_way_back ≡ 0
unfolding loads
long_way_back_loads = refl

pub five_bytes : loads (8 ∷ 66 ∷ 17 ∷ 36 ∷ 146 ∷ []) ≡ 1
unfolding loads
five_bytes = refl

pub a_byte_more : loads (8 ∷ 66 ∷ 17 ∷ 36 ∷ 146 ∷ 76 ∷ 6 ∷ 0 ∷ 0 ∷ 0 ∷ 32 ∷ 0 ∷ []) ≡ 3
unfolding loads
a_byte_more = refl

pub fill_bit : loads (8 ∷ 66 ∷ 17 ∷ 36 ∷ 146 ∷ 76 ∷ 6 ∷ 0 ∷ 0 ∷ 0 ∷ 33 ∷ []) ≡ 3
unfolding loads
fill_bit = refl

pub no_router : loads (0 ∷ 66 ∷ 17 ∷ 36 ∷ 146 ∷ 76 ∷ 6 ∷ 0 ∷ 0 ∷ 0 ∷ 32 ∷ []) ≡ 2
unfolding loads
no_router = refl

-- those of the runs of request (i)
pub narrow_unit_loads : loads narrow_unit ≡ 0
unfolding loads
narrow_unit_loads = refl

pub two_to_one_loads : loads two_to_one ≡ 0
unfolding loads
two_to_one_loads = refl

pub wider_crossing_loads : loads wider_crossing ≡ 0
unfolding loads
wider_crossing_loads = refl

pub line_of_three_loads : loads line_of_three ≡ 0
unfolding loads
line_of_three_loads = refl

pub drives_around_loads : loads drives_around ≡ 0
unfolding loads
drives_around_loads = refl

-- and of the runs of what is passed over
pub roomy_crossing_loads : loads roomy_crossing ≡ 0
unfolding loads
roomy_crossing_loads = refl

pub narrow_side_loads : loads narrow_side ≡ 0
unfolding loads
narrow_side_loads = refl

-- 'Two routers, each with an active and a passive, set-ups crossing both ways: 6' was document 01's last run. Document
-- 02 (i) changes it: 'the crossing two-router plan loads'
pub crossing_loads : loads crossing ≡ 0
unfolding loads
crossing_loads = refl

-- three routers in a ring, all set-ups clockwise: 6, for 'Refusal 6 keeps its condition over these queues'
pub clockwise_ring : loads clockwise ≡ 6
unfolding loads
clockwise_ring = refl
