use Rattle.plannotes.proofs.EntryLaws.{first-state, all_noted}
use Rattle.plannotes.proofs.note_plan.Goals as goal

pub state-requires : goal.state-requires
state-requires c = first-state c.requires c.first_links-links.ensures

pub returns : goal.returns
returns c = λ w. all_noted w c.first_links-links.ensures c.state.ensures
