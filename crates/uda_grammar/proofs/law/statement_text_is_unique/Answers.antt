use Rattle.uda_grammar.proofs.FormLaws.{statement_text_is_unique}
use Rattle.uda_grammar.proofs.law.statement_text_is_unique.Goals as goal

pub returns : goal.returns
returns c = record { law = statement_text_is_unique }
