use Rattle.check_queues.proofs.Numbers.{active_out_lem, passive_out_lem, slot_out, hub_out, numbers_in}
use Rattle.check_queues.proofs.packet_ok.Goals as goal

pub returns-then-h-a : goal.returns-then-h-a
returns-then-h-a c =
    λ routes joints homes by w. active_out_lem _ _ routes joints homes by w _ (rw
    c.from-a.ensures at c.if-h-a.true)

pub returns-then-h-p : goal.returns-then-h-p
returns-then-h-p c =
    λ routes joints homes by w. passive_out_lem _ _ routes joints homes by w _ (rw
    c.from-a.ensures at c.if-h-a.false) (rw
    c.from-p.ensures at c.if-h-p.true)

pub returns-then-h-x : goal.returns-then-h-x
returns-then-h-x c =
    λ routes joints homes by w. slot_out _ _ routes joints homes by w _ (rw
    c.from-a.ensures at c.if-h-a.false) (rw
    c.from-p.ensures at c.if-h-p.false) c.if-h-x.true

pub returns-then-x-gt16 : goal.returns-then-x-gt16
returns-then-x-gt16 c =
    λ routes joints homes by w. hub_out _ _ routes joints homes by w _ (rw c.from-a.ensures at
    c.if-h-a.false) (rw c.from-p.ensures at
    c.if-h-p.false) c.if-h-x.false c.if-x-gt16.true

pub returns : goal.returns
returns c =
    λ routes joints homes by w. rw (c.from-a.ensures, c.from-p.ensures)
    (numbers_in _ _ routes joints homes by w _ (rw c.from-a.ensures at
    c.if-h-a.false) (rw c.from-p.ensures at c.if-h-p.false)
    c.if-h-x.false c.if-x-gt16.false)
