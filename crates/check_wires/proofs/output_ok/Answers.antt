use Rattle.check_wires.proofs.Outgoing.{zero_checked}
use mathlib.Core.Path.{sym, ◌∙◌}
use Rattle.check_wires.proofs.Carrying.{table_head}
use Rattle.check_wires.proofs.output_ok.Goals as goal

pub returns-then-blank : goal.returns-then-blank
returns-then-blank c =
    let p = c.requires in
    zero_checked _ _ (table_head p.0) _ _ p.1 _ p.5 _ _ c.blank.ensures c.if-blank.true

pub wire_ok-requires : goal.wire_ok-requires
wire_ok-requires c =
    let p = c.requires in (
      p.0,
      p.1,
      p.2,
      p.3,
      p.4,
      p.5,
      sym
          c.blank.ensures ∙ c.if-blank.false,
    )

pub returns : goal.returns
returns c = c.wire_ok.ensures
