use Rattle.std.proofs.Common.{ap}
use Rattle.uda_script_run.proofs.ReadAhead.{skipped}
use Rattle.uda_script_run.proofs.text_reader.BufReaderTextReader.skip.Goals as goal

pub returns : goal.returns
returns g c = record {
  skipped = skipped _ _ _ _ _ _ _ c.consume.ensures.capacity c.consume.ensures.buffer
      (ap g.T.Read.remaining c.consume.ensures.inner);
}
