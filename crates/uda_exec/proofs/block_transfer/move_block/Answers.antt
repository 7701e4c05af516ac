use Rattle.std.proofs.Common.{◌-◌, ◌*◌, refl, arith, sym, length-take}
use Rattle.std.proofs.lemmas.List.{get_or-replicate}
use Rattle.uda_mem.proofs.PutLaws.{get_or-part, put-nil}
use Rattle.uda_exec.proofs.Changes.{changes_by_put}
use Rattle.uda_exec.proofs.Moves.{reads_block, writes_block, due-Write}
use Rattle.uda_exec.proofs.block_transfer.move_block.Goals as goal

pub returns-in-Access-clause-moves : goal.returns-in-Access-clause-moves
returns-in-Access-clause-moves g c sound =
    let inside = c.requires.in_range in
    reads_block _ _ _ _ _ (rw c.in-Access.is refl) _ _ _ c.read.ensures.long
    (rw c.in-Access.is (get_or-part _ _ _ _ _ inside)) (rw c.in-Access.is (sym (put-nil _ _)))
    (c.read.ensures.reads_if_sound sound)

pub returns-in-Erase-clause-moves : goal.returns-in-Erase-clause-moves
returns-in-Erase-clause-moves g c sound =
    let inside = c.requires.in_range in
    writes_block _ _ _ _ _ (rw c.in-Erase.is refl) (rw c.in-Erase.is refl) _ _
    (rw c.in-Erase.is (get_or-replicate _ _ _ _ inside)) (c.write.ensures.writes_if_sound sound)

pub returns-in-Read-clause-changes : goal.returns-in-Read-clause-changes
returns-in-Read-clause-changes g c =
    let read = c.read_block.ensures.reads in
    let size = length-take (c.args.t.bytes - 512 * c.args.k) read.to in
    let inside = c.requires.in_range in
    rw (c.in-Read.is, read.landed) (changes_by_put _ _ _ _ _ (omega arith) (omega arith))

pub returns-in-Read-clause-moves : goal.returns-in-Read-clause-moves
returns-in-Read-clause-moves g c sound =
    let inside = c.requires.in_range in
    let read = c.read_block.ensures.reads in
    reads_block _ _ _ _ _ (rw c.in-Read.is refl) read.to _ _ read.whole
    (rw c.in-Read.is (get_or-part _ _ _ _ _ inside)) (rw c.in-Read.is read.landed) (read.reads_if_sound sound)

pub returns-in-Write-clause-moves : goal.returns-in-Write-clause-moves
returns-in-Write-clause-moves g c sound =
    let room = rw c.in-Write.is at c.requires.in_memory in
    writes_block _ _ _ _ _ (rw c.in-Write.is refl) (rw c.in-Write.is refl) _ _
    (rw c.in-Write.is (due-Write c.args.t _ _ c.requires.in_range room))
    (c.write_block.ensures.writes sound)
