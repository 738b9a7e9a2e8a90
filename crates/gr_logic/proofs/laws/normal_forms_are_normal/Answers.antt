use Rattle.gr_logic.proofs.FirstOccurrences.{normal-forms}
use Rattle.gr_logic.proofs.laws.normal_forms_are_normal.Goals as goal

pub returns : goal.returns
returns c = normal-forms
