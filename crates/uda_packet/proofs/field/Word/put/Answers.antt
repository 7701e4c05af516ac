use Rattle.uda_packet.proofs.Writes.{put_number}
use Rattle.uda_packet.proofs.field.Word.put.Goals as goal

pub returns : goal.returns
returns c = put_number c.args.self.0 2 c.args.n _ _ c.requires c.told-text c.write_u16.ensures
