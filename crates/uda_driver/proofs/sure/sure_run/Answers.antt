use Rattle.uda_driver.proofs.SureLaw as SureLaw
use Rattle.uda_driver.proofs.sure.sure_run.Goals as goal

pub returns : goal.returns
returns c = record { law = SureLaw.sure_run }
