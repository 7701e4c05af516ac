use Rattle.std.proofs.Common.{refl, length, inl, inr, ◌∙◌, arith}
use Rattle.uda_exec.proofs.Written.{write_written, erase_written, none_written}
use Rattle.uda_exec.proofs.block_use.fill_written.Goals as goal

pub returns-in-Write : goal.returns-in-Write
returns-in-Write c =
    let n = length c.args.to.now in
    let room = rw c.in-Write.is at c.requires.in_memory in
    let from = rw c.unwrap-from.ensures at c.window.ensures.value in
    record {
      bytes = c.put_padded.ensures ∙ rw from (write_written c.args.t c.args.memory.now c.args.skip n c.requires.within
          c.in-Write.is room c.min-start.result (omega (arith, c.min-start.ensures)));
    }

pub returns-in-Access : goal.returns-in-Access
returns-in-Access c = record {
  bytes = elim c.in-Access.is [
    | inl access ↦ c.put_padded-in-Access.ensures
        ∙ none_written c.args.t c.args.memory.now c.args.skip (length c.args.to.now) c.requires.within (rw access refl)
    | inr rest ↦ elim rest [
      | inl erase ↦ c.put_padded-in-Access.ensures
          ∙ erase_written c.args.t c.args.memory.now c.args.skip (length c.args.to.now) c.requires.within erase
      | inr read ↦ c.put_padded-in-Access.ensures
          ∙ none_written c.args.t c.args.memory.now c.args.skip (length c.args.to.now) c.requires.within (rw read refl)
    ]
  ];
}
