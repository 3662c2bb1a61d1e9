use native.Mathlib.Omega.{arith}
use Rattle.call_remaining.proofs.Count.{queues_inside, wires_inside, all_counted}
use Rattle.call_remaining.proofs.packets.Goals as goal

pub summed-queued-requires : goal.summed-queued-requires
summed-queued-requires c =
    let ready = c.requires.1 in
    let row = c.queue_row.ensures in
    let count = c.queue_count.ensures in (
      count.1,
      queues_inside ready row count.0,
    )

pub summed-carried-requires : goal.summed-carried-requires
summed-carried-requires c =
    let ready = c.requires.1 in
    let outs = c.output_count.ensures in (
      let few = outs.1 in omega arith,
      wires_inside ready c.output_row.ensures outs.0,
    )

pub returns : goal.returns
returns c =
    let row = c.queue_row.ensures in
    let count = c.queue_count.ensures in
    let outs = c.output_count.ensures in
    let first = c.summed-queued.ensures in
    let second = c.summed-carried.ensures in (
      all_counted row count.0 c.output_row.ensures outs.0 first.0 second.0,
      let few = count.1 in let less = outs.1 in let m = first.1 in let n = second.1 in omega arith,
    )
