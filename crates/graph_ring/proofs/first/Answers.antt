use Rattle.std.proofs.Common.{rules, arith, ◌≡◌, ◌∙◌, ◌++◌, ap, List, ℕ, drop, replicate}
use Rattle.std.proofs.lemmas.List.{get_or-replicate, length-replicate}
use Rattle.basis.specs.Fold.{up_to, fill, front_fill}
use Rattle.graph_ring.specs.Cells.{first_of}
use Rattle.graph_ring.proofs.first.Goals as goal

pub returns : goal.returns
unfolding first_of
returns c =
    let all : c.fill.new.self ≡ replicate c.args.n 15 = search rules in
    let whole : replicate c.args.n 15 ++ drop c.args.n c.args.left.now
    ≡ up_to (fill (λ j. 15)) c.args.n c.args.left.now =
    front_fill (λ j. 15) c.args.left.now c.args.n (replicate c.args.n 15) (omega arith) (length-replicate _ _)
    (λ i l. get_or-replicate c.args.n i 15 0 l) in
    rw all (whole ∙ ap (λ (s : List ℕ). up_to (fill (λ j. 15)) c.args.n s) c.requires.1)
