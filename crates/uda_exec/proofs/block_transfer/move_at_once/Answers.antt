use Rattle.std.proofs.Common.{refl, arith}
use Rattle.uda_mem.specs.Put.{part}
use Rattle.uda_mem.proofs.PutLaws.{put_mid-put}
use Rattle.uda_exec.proofs.AtOnce.{changes_front, same_put_back, none_ahead, reads_ahead, writes_ahead}
use Rattle.uda_exec.proofs.Steps.{from_start}
use Rattle.uda_image.proofs.SoundLaws.{sound_before}
use Rattle.uda_exec.proofs.block_transfer.move_at_once.Goals as goal

pub returns-then-count-lt2-clause-moves : goal.returns-then-count-lt2-clause-moves
returns-then-count-lt2-clause-moves g c called = from_start _ _ _ _ _ (c.check_few.ensures.moves called)

pub returns-in-Access-clause-moves : goal.returns-in-Access-clause-moves
returns-in-Access-clause-moves g c called = from_start _ _ _ _ _
    (c.move_pieces.ensures.moves (called (omega arith)))

pub returns-then-try_read_blocks-clause-changes : goal.returns-then-try_read_blocks-clause-changes
returns-then-try_read_blocks-clause-changes g c =
    let room = rw c.in-Read.is at c.requires.in_memory in
    let to = c.try_read_blocks.new.to in let size = c.try_read_blocks.ensures.long in
    rw c.in-Read.is (changes_front _ _ _ to _
    (put_mid-put c.args.memory.now c.args.t.buffer _ to (omega (arith, size)) (omega (arith, room)))
    (omega (arith, size)))

pub returns-then-try_read_blocks-clause-moves : goal.returns-then-try_read_blocks-clause-moves
returns-then-try_read_blocks-clause-moves g c called =
    let sound = called (omega arith) in
    let room = rw c.in-Read.is at c.requires.in_memory in
    let to = c.try_read_blocks.new.to in let size = c.try_read_blocks.ensures.long in
    let read = rw c.if-try_read_blocks.true at (c.try_read_blocks.ensures.reads_if_sound sound) in
    reads_ahead _ _ _ _ (omega arith) (g.met.S.BlockStore.is_image_if_sound c.args.store.now
    (sound_before c.try_read_blocks.ensures.attributes sound))
    c.requires.on_unit c.in-Read.is _ to _ read
    (put_mid-put c.args.memory.now c.args.t.buffer _ to (omega (arith, size)) (omega (arith, room)))

pub returns-else-try_read_blocks-clause-changes : goal.returns-else-try_read_blocks-clause-changes
returns-else-try_read_blocks-clause-changes g c =
    let room = rw c.in-Read.is at c.requires.in_memory in
    let to = c.try_read_blocks.new.to in let size = c.try_read_blocks.ensures.long in
    rw c.in-Read.is (changes_front _ _ _ to _
    (put_mid-put c.args.memory.now c.args.t.buffer _ to (omega (arith, size)) (omega (arith, room)))
    (omega (arith, size)))

pub returns-else-try_read_blocks-clause-moves : goal.returns-else-try_read_blocks-clause-moves
unfolding part
returns-else-try_read_blocks-clause-moves g c called =
    let sound = called (omega arith) in
    let room = rw c.in-Read.is at c.requires.in_memory in
    let to = c.try_read_blocks.new.to in let size = c.try_read_blocks.ensures.long in
    let read = rw c.if-try_read_blocks.false at (c.try_read_blocks.ensures.reads_if_sound sound) in
    none_ahead _ _ _ _ _ read.state_stays
    (same_put_back c.args.memory.now c.args.t.buffer _ to _
    (put_mid-put c.args.memory.now c.args.t.buffer _ to (omega (arith, size)) (omega (arith, room)))
    read.bytes_stay)

pub returns-then-try_write_blocks-clause-moves : goal.returns-then-try_write_blocks-clause-moves
returns-then-try_write_blocks-clause-moves g c called =
    let sound = called (omega arith) in
    let room = rw c.in-Write.is at c.requires.in_memory in
    let write = rw c.if-try_write_blocks.true at (c.try_write_blocks.ensures.writes_if_sound sound) in
    let bytes = rw c.unwrap-bytes.ensures at c.window.ensures.value in
    writes_ahead _ _ _ _ (omega arith) room c.in-Write.is _ (rw bytes at write)

pub returns-else-try_write_blocks-clause-moves : goal.returns-else-try_write_blocks-clause-moves
returns-else-try_write_blocks-clause-moves g c called =
    let sound = called (omega arith) in
    let write = rw c.if-try_write_blocks.false at (c.try_write_blocks.ensures.writes_if_sound sound) in
    none_ahead _ _ _ _ _ write refl
