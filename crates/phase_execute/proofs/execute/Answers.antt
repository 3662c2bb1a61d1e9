use Rattle.phase_execute.proofs.Loops.{heads_hold, picks_hold, undo_hold, last_hold, phase_room, execute_all}
use Rattle.phase_execute.proofs.execute.Goals as goal

pub heads-requires : goal.heads-requires
heads-requires c = let p = c.requires in (p.0, heads_hold p.0 p.1)

pub picks-requires : goal.picks-requires
picks-requires c =
    let p = c.requires in (
      p.0,
      picks_hold p.0 p.1 c.heads.ensures,
    )

pub undoes-requires : goal.undoes-requires
undoes-requires c =
    let p = c.requires in (
      p.0,
      undo_hold
          p.0 p.1 c.heads.ensures c.picks.ensures,
    )

pub bounds-s-0 : goal.bounds-s-0
bounds-s-0 c =
    let p = c.requires in phase_room p.0 (last_hold p.0 p.1 c.heads.ensures c.picks.ensures c.undoes.ensures)

pub returns : goal.returns
returns c =
    let p = c.requires in rw c.from.ensures (execute_all p.0 c.heads.ensures c.picks.ensures c.undoes.ensures)
