use mathlib.Core.Path.{sym}
use Rattle.check_state.proofs.Together.{all_short, all_headless, all_checked}
use Rattle.check_state.proofs.inspect.Goals.{else-header_ok-via-then-header_ok+else-body_ok}
use Rattle.check_state.proofs.inspect.Goals.{else-header_ok-via-else-header_ok}
use Rattle.check_state.proofs.inspect.Goals as goal

pub returns-then-s-state_size : goal.returns-then-s-state_size
returns-then-s-state_size c =
    sym (all_short _ _ _ c.requires.range _ (rw c.state_size.ensures at c.if-s-state_size.true))

pub returns : goal.returns
returns c =
    let long = rw c.state_size.ensures at c.if-s-state_size.false in
    elim c.else-header_ok.branch [
      | else-header_ok-via-then-header_ok+else-body_ok w ↦
          all_checked _ _ _ c.requires.range _ w.body_ok.ensures w.if-body_ok.false
      | else-header_ok-via-else-header_ok w ↦
          sym (all_headless _ _ _ c.requires.range _ long c.header_ok.ensures w.if-header_ok.false)
    ]
