use Rattle.call_reply.proofs.Steps.{reply_made}
use Rattle.call_reply.proofs.reply_step.Goals as goal

pub returns : goal.returns
returns c =
    reply_made _ _ _ _ c.packet_at-x.ensures
    c.answer-y.ensures c.take.ensures
    c.push.ensures
