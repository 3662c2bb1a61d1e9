use Rattle.check_wires.proofs.Bringing.{coming_is}
use mathlib.Core.Path.{◌∙◌, refl, sym}
use Rattle.check_state.proofs.Together.{none_coming_lem, coming_long, busy_outputs, busy_lines}
use Rattle.check_state.proofs.Together.{busy_picks}
use Rattle.check_state.proofs.Together.{busy_else, lent_wired}
use Rattle.check_state.proofs.busy_ok.Goals as goal

pub tracks-requires : goal.tracks-requires
tracks-requires c =
    let w = c.requires.0 in
    let r = w.range in
    ((r.routers.1, r.actives.1, r.passives.1), w.ports, w.past, refl)

pub outputs_ok-requires : goal.outputs_ok-requires
outputs_ok-requires c =
    let p = c.requires in
    let w = p.0 in (
      record {
        lent = w;
        tracks = c.tracks.ensures _
            w.tables;
      },
      p.1,
      p.2,
      none_coming_lem,
    )

pub returns-then-not-outputs_ok : goal.returns-then-not-outputs_ok
returns-then-not-outputs_ok c =
    busy_outputs _ _ _ c.requires.0.range _ c.outputs_ok.ensures (c.if-not-outputs_ok.true)

pub lines_ok-requires : goal.lines_ok-requires
lines_ok-requires c =
    let p = c.requires in
    let w = p.0 in (
      record {
        lent = w;
        tracks = c.tracks.ensures _
            w.tables;
      },
      p.1,
      coming_is _ _ _ _ _ _ coming_long none_coming_lem
          c.outputs_ok.ensures (c.if-not-outputs_ok.false),
    )

pub returns-then-not-lines_ok : goal.returns-then-not-lines_ok
returns-then-not-lines_ok c =
    busy_lines _ _ _ c.requires.0.range _ c.outputs_ok.ensures (c.if-not-outputs_ok.false)
    c.lines_ok.ensures (c.if-not-lines_ok.true)

pub picks_ok-requires : goal.picks_ok-requires
picks_ok-requires c =
    let p = c.requires in (
      lent_wired _ _ _ _ _ _ p.0,
      p.1,
      sym c.lines_ok.ensures.test ∙ c.if-not-lines_ok.false,
    )

pub returns-then-s-from : goal.returns-then-s-from
returns-then-s-from c =
    let p = c.requires in
    busy_picks _ _ _ p.0.range _ p.3 c.outputs_ok.ensures (c.if-not-outputs_ok.false) c.lines_ok.ensures
    (c.if-not-lines_ok.false) c.picks_ok.ensures

pub returns : goal.returns
returns c =
    let p = c.requires in
    busy_else _ _ _ p.0.range _ p.3 c.outputs_ok.ensures (c.if-not-outputs_ok.false) c.lines_ok.ensures
    (c.if-not-lines_ok.false) p.2 (λ e. c.if-s-from.false (e ∙ sym c.from.ensures))
