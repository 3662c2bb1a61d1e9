use Rattle.std.proofs.Common.{rules, arith, ◌≡◌, ◌+◌, replicate}
use Rattle.bytes_rows.proofs.Part.{part_stored}
use Rattle.bytes_rows.proofs.clear_place.Goals as goal

pub returns : goal.returns
returns c =
    let all : c.fill.new.self ≡ replicate 5 0 = search rules in
    rw all (part_stored c.args.s.now (replicate 5 0) c.args.at (c.args.at + 5) (omega arith) c.requires)
