use Rattle.load.proofs.Exits.{holds_all, joints_fit}
use Rattle.load.proofs.Exits.{sweeps_ready}
use mathlib.Core.Bool.{◌&&◌}
use mathlib.Core.Path.{refl, ap₂}
use Rattle.load.proofs.Exits.{range_counts, head_range, long_enough, too_short, out_of_range}
use Rattle.load.proofs.Exits.{wrong_length, bad_field, bad_joint, tables, has_ring_lem, accepted}
use Rattle.load.proofs.Exits.{kept_filled, kept_search}
use Rattle.load.proofs.fill.Goals as goal

pub returns-then-plan-lt-HEAD_BYTES : goal.returns-then-plan-lt-HEAD_BYTES
returns-then-plan-lt-HEAD_BYTES c =
    too_short _ c.if-plan-lt-HEAD_BYTES.true _ _ _ _ _

pub returns-then-not-head_ok : goal.returns-then-not-head_ok
returns-then-not-head_ok c =
    out_of_range _ c.if-plan-lt-HEAD_BYTES.false c.read_head-h.ensures c.head_ok.ensures c.if-not-head_ok.true _ _ _ _ _

pub length_ok-requires : goal.length_ok-requires
length_ok-requires c =
    (c.read_head-h.ensures, (head_range _ c.head_ok.ensures c.if-not-head_ok.false))

pub returns-then-not-length_ok : goal.returns-then-not-length_ok
returns-then-not-length_ok c =
    wrong_length _ c.if-plan-lt-HEAD_BYTES.false c.read_head-h.ensures c.head_ok.ensures c.if-not-head_ok.false
    c.length_ok.ensures c.if-not-length_ok.true _ _ _ _ _

pub joints-joined-requires : goal.joints-joined-requires
joints-joined-requires c = (
  range_counts _ (head_range _ c.head_ok.ensures c.if-not-head_ok.false),
  long_enough _ c.read_head-h.ensures c.length_ok.ensures
      c.if-not-length_ok.false,
  c.requires.1,
)

pub routes-fit-requires : goal.routes-fit-requires
routes-fit-requires c = (
  range_counts _ (head_range _ c.head_ok.ensures c.if-not-head_ok.false),
  holds_all _ c.read_head-h.ensures c.length_ok.ensures c.if-not-length_ok.false,
  c.requires.0,
)

pub returns-then-not-joined-fit : goal.returns-then-not-joined-fit
returns-then-not-joined-fit c =
    bad_field _ c.if-plan-lt-HEAD_BYTES.false c.read_head-h.ensures c.head_ok.ensures c.if-not-head_ok.false
    c.length_ok.ensures
    c.if-not-length_ok.false c.joints-joined.ensures.0 c.routes-fit.ensures.table
    (ap₂ ◌&&◌ c.joints-joined.ensures.1 c.routes-fit.ensures.fit) c.if-not-joined-fit.true _ _ _ _ _

pub homes-requires : goal.homes-requires
homes-requires c = (
  range_counts _ (head_range _ c.head_ok.ensures c.if-not-head_ok.false),
  joints_fit _ _ c.routes-fit.result c.joints-joined.ensures.1 c.if-not-joined-fit.false,
  c.requires.2,
)

pub returns-then-not-homes : goal.returns-then-not-homes
returns-then-not-homes c =
    bad_joint _ c.if-plan-lt-HEAD_BYTES.false c.read_head-h.ensures c.head_ok.ensures c.if-not-head_ok.false
    c.length_ok.ensures c.if-not-length_ok.false c.joints-joined.ensures.0 c.routes-fit.ensures.table
    (ap₂ ◌&&◌ c.joints-joined.ensures.1 c.routes-fit.ensures.fit) c.if-not-joined-fit.false c.homes.ensures.1
    c.if-not-homes.true _ _ _ _ _

pub walks-served-requires : goal.walks-served-requires
walks-served-requires c = (
  sweeps_ready _ _ _ _ _
      (range_counts _ (head_range _ c.head_ok.ensures
      c.if-not-head_ok.false))
      (tables _ c.if-plan-lt-HEAD_BYTES.false c.read_head-h.ensures c.head_ok.ensures c.if-not-head_ok.false
      c.length_ok.ensures c.if-not-length_ok.false c.joints-joined.ensures.0 c.routes-fit.ensures.table
      (ap₂ ◌&&◌ c.joints-joined.ensures.1 c.routes-fit.ensures.fit) c.if-not-joined-fit.false c.homes.ensures.1
      c.if-not-homes.false c.homes.ensures.0 c.routes-fit.ensures),
  refl,
  c.requires.3,
)

pub ring_found-requires : goal.ring_found-requires
ring_found-requires c =
    range_counts _ (head_range _ c.head_ok.ensures c.if-not-head_ok.false)

pub returns-then-ring_found : goal.returns-then-ring_found
returns-then-ring_found c =
    let kept = c.walks-served.ensures.kept in
    has_ring_lem _ c.if-plan-lt-HEAD_BYTES.false c.read_head-h.ensures c.head_ok.ensures c.if-not-head_ok.false
    c.length_ok.ensures c.if-not-length_ok.false c.joints-joined.ensures.0 c.routes-fit.ensures.table
    (ap₂ ◌&&◌ c.joints-joined.ensures.1 c.routes-fit.ensures.fit) c.if-not-joined-fit.false c.homes.ensures.1
    c.if-not-homes.false c.homes.ensures.0 c.routes-fit.ensures c.walks-served.ensures.walks
    (kept_search kept.1 kept.2 kept.3 c.ring_found.ensures)
    c.if-ring_found.true _ _ _ _ _

pub returns : goal.returns
returns c =
    let kept = c.walks-served.ensures.kept in
    kept_filled kept.0 kept.1 kept.2 kept.3
    (accepted _ c.if-plan-lt-HEAD_BYTES.false c.read_head-h.ensures c.head_ok.ensures c.if-not-head_ok.false
    c.length_ok.ensures c.if-not-length_ok.false c.joints-joined.ensures.0 c.routes-fit.ensures.table
    (ap₂ ◌&&◌ c.joints-joined.ensures.1 c.routes-fit.ensures.fit) c.if-not-joined-fit.false c.homes.ensures.1
    c.if-not-homes.false c.homes.ensures.0 c.routes-fit.ensures c.walks-served.ensures.walks
    (kept_search kept.1 kept.2 kept.3 c.ring_found.ensures)
    c.if-ring_found.false)
