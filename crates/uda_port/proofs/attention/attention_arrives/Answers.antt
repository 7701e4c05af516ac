use Rattle.uda_port.proofs.AttentionLaws as laws
use Rattle.uda_port.proofs.attention.attention_arrives.Goals as goal

pub returns : goal.returns
returns c = record { law = laws.attention_arrives }
