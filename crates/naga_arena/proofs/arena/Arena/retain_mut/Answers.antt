use Rattle.naga_arena.proofs.arena.Arena.retain_mut.Goals as goal

pub returns-clause-retained : goal.returns-clause-retained
returns-clause-retained g c =
    rw (c.drop.view_is, ← c.self.view_is) (rw (c.replace-data.ensures.value, c.replace-spans.ensures.value) at c.retain_entries.ensures)
