use Rattle.model_documents.proofs.UniqueNumbers.{unique-WellFormed, WellFormed-unique}
use Rattle.model_documents.proofs.documents_are_well_formed_where_numbers_are_unique.Goals as goal

pub returns-clause-well_formed : goal.returns-clause-well_formed
returns-clause-well_formed c = unique-WellFormed

pub returns-clause-unique : goal.returns-clause-unique
returns-clause-unique c = WellFormed-unique
