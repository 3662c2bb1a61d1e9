use Rattle.check_last_senders.proofs.Ranks.{least_apart, least_joined}
use borrow.Author.Rules.{rules}
use Rattle.check_last_senders.proofs.least.Goals as goal

pub returns-then-j-lt64 : goal.returns-then-j-lt64
returns-then-j-lt64 c = least_apart _ c.if-j-lt64.true

pub returns-else-j-lt64 : goal.returns-else-j-lt64
returns-else-j-lt64 c = least_joined _ c.if-j-lt64.false (search rules)
