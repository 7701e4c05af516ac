use Rattle.uda_packet.proofs.Writes.{put_number}
use Rattle.uda_packet.proofs.field.Quad.put.Goals as goal

pub returns : goal.returns
returns c = put_number c.args.self.0 8 c.args.n _ _ c.requires c.told-text c.write_u64.ensures
