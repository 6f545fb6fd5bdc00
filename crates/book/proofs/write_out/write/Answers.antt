-- Each turn writes one command behind those before it.
use Rattle.std.proofs.Common.{◌∙◌}
use Rattle.book.proofs.Written.{room_behind, written_more}
use Rattle.book.proofs.write_out.write.Goals as goal

pub copy-at-requires : goal.copy-at-requires
copy-at-requires c =
    let next = c.as_slice.ensures.value ∙ c.encode-command.ensures.value in
    rw next (record { room = room_behind c.args.nodes.now c.args.buffer.now c.requires.room c.loop-placed.invariant c.loop-placed-test.true c.loop-placed.auto.buffer })

pub loop-placed-preserved : goal.loop-placed-preserved
loop-placed-preserved c =
    let next = c.as_slice.ensures.value ∙ c.encode-command.ensures.value in
    written_more c.args.nodes.now c.args.buffer.now c.requires.room c.loop-placed.invariant c.loop-placed-test.true _ _
    (rw next at c.copy-at.ensures.value) (rw next at c.copy-at.ensures.buffer)
