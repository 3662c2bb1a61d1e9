use Rattle.std.proofs.Common.{arith, ◌≡◌, ◌∙◌, ◌+◌}
use Rattle.bytes_layout.specs.Encode.{word_bytes}
use Rattle.bytes_rows.proofs.Part.{part_stored}
use Rattle.bytes_rows.proofs.starts.put_word.Goals as goal

pub returns : goal.returns
returns c =
    let all : c.copy_from_slice.new.self ≡ word_bytes c.args.w =
    c.copy_from_slice.ensures.after ∙ c.to_le_bytes.ensures in
    rw all (part_stored c.args.s.now (word_bytes c.args.w) c.args.at (c.args.at + 4) (omega arith) c.requires)
